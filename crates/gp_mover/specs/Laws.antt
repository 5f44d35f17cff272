-- Laws of moved groups, over the definitions alone.
use Rattle.std.specs.Prelude.{◌≡◌, ℕ, ◌<◌, ◌≤◌, true, List, map, length, slice_get, All, Option, Some, Ok}
use Rattle.gp_fields.specs.declared.geometry.Entry.{Entry}
use Rattle.gp_asset.specs.declared.geometry.Primitive.{Primitive}
use Rattle.gp_tree.specs.Plain.{PlainTree}
use Rattle.gp_asset.specs.declared.purpose.Form.{Form}
use Rattle.gp_asset.specs.Asset.{AssetParts, asset}
use Rattle.gp_elements.specs.Held.{HasEvery, contents_of, IsSound}
use Rattle.gp_alias.specs.declared.group.Group.{Group}
use Rattle.gp_alias.specs.Movable.{is_movable, groups}
use Rattle.gp_alias.specs.Records.{records, lists}
use Rattle.gp_cache.specs.Tipsify.{better}
use Rattle.gp_moving.specs.Ordered.{chosen_by}
use Rattle.gp_moving.specs.Triangles.{IsTriangleList}
use Rattle.gp_moving.specs.Kept.{AreChosen, KeepsRecords}
use Rattle.gp_mover.specs.MovedParts.{moved_group, record_size}

-- the asset was read, its views are held, and the group may move
pub record MayMove (a : AssetParts) (held : List (Option (List ℕ))) (g : Group) : Type 0 where
  pub every : HasEvery a.views held
  pub sound : All (IsSound a.views) a.accessors
  pub movable : is_movable a (contents_of held) g ≡ true

-- for the lists of a group orders of their triangles are chosen
abbrev pub OrdersAreChosen : Type 0
OrdersAreChosen =
    (a : AssetParts) (contents : List (List ℕ)) (g : Group) → is_movable a contents g ≡ true
    → AreChosen (records a contents g) (lists a contents g) (chosen_by better (records a contents g) (lists a contents g))

-- the new records are the old ones, each once
abbrev pub RecordsAreKept : Type 0
RecordsAreKept = (a : AssetParts) (contents : List (List ℕ)) (g : Group) → is_movable a contents g ≡ true → KeepsRecords (records a contents g) (moved_group a contents g).records

-- each has the bytes of an element of each column
abbrev pub RecordsAreSized : Type 0
RecordsAreSized =
    (a : AssetParts) (held : List (Option (List ℕ))) (g : Group) → MayMove a held g
    → All (λ (r : List ℕ). length r ≡ record_size a g.columns) (moved_group a (contents_of held) g).records

-- the new lists have whole triangles of the new records
abbrev pub NumbersAreBelow : Type 0
NumbersAreBelow =
    (a : AssetParts) (contents : List (List ℕ)) (g : Group) → is_movable a contents g ≡ true
    → All (IsTriangleList (length (moved_group a contents g).records)) (moved_group a contents g).ordered

-- each is as long as it was
abbrev pub LengthsAreKept : Type 0
LengthsAreKept = (a : AssetParts) (contents : List (List ℕ)) (g : Group) → is_movable a contents g ≡ true → map length (moved_group a contents g).ordered ≡ map length (lists a contents g)

-- the columns of a group that may move are accessors of the asset
abbrev pub ColumnsAreThere : Type 0
ColumnsAreThere = (a : AssetParts) (contents : List (List ℕ)) (g : Group) → is_movable a contents g ≡ true → All (λ k. k < length a.accessors) g.columns

-- where there is a column, a record has a byte, and there is a vertex
abbrev pub RecordsHaveBytes : Type 0
RecordsHaveBytes =
    (a : AssetParts) (held : List (Option (List ℕ))) (g : Group) → MayMove a held g → 0 < length g.columns → (1 ≤ record_size a g.columns) × (0 < g.count)

-- each attribute of a primitive is an accessor of the asset
abbrev pub AttributesAreThere : AssetParts → Type 0
AttributesAreThere a = All (λ (p : Primitive). All (λ (e : Entry). e.accessor < length a.accessors) p.attributes) a.primitives

-- then a group of the asset that may move has a column
abbrev pub GroupsHaveColumns : Type 0
GroupsHaveColumns =
    (a : AssetParts) (contents : List (List ℕ)) (k : ℕ) (g : Group) → AttributesAreThere a → slice_get (groups a contents) k ≡ Some g → is_movable a contents g ≡ true
    → 0 < length g.columns

-- the attributes of an asset that was read are there
abbrev pub ReadAttributesAreThere : Type 0
ReadAttributesAreThere = (form : Form) (t : PlainTree) (bin : Option (List ℕ)) (a : AssetParts) → asset form t bin ≡ Ok a → AttributesAreThere a
