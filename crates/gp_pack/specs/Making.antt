-- What packing knows of an asset that is accepted, and what it holds of groups that moved.
use Rattle.std.specs.Prelude.{◌≡◌, ℕ, ◌+◌, ◌<◌, Bool, true, false, List, [], ◌∷◌, ◌++◌, map, length, Option, None, IfSome}
use Rattle.std.specs.List.{All, range_with_len}
use Rattle.gp_tree.specs.Plain.{PlainTree}
use Rattle.gp_rules.specs.declared.storage.View.{View}
use Rattle.gp_fields.specs.declared.geometry.PrimitiveFields.{PrimitiveFields}
use Rattle.gp_asset.specs.Contents.{plain_views}
use Rattle.gp_asset.specs.Primitives.{primitives_of}
use Rattle.gp_asset.specs.Asset.{AssetParts}
use Rattle.gp_elements.specs.Held.{HasEvery, IsSound, contents_of}
use Rattle.gp_alias.specs.declared.group.Group.{Group}
use Rattle.gp_alias.specs.Movable.{is_movable, groups, is_moved as is_moved_with}
use Rattle.gp_alias.specs.Survivors.{new_numbers}
use Rattle.gp_document.specs.Document.{Document}
use Rattle.gp_mover.specs.MovedParts.{moved_group}
use Rattle.gp_moves.specs.declared.group_edit.GroupEdit.{GroupEdit}
use Rattle.gp_pack.specs.declared.made.MadePart.{MadePart}
use Rattle.gp_pack.specs.declared.making.MadeGroups.{MadeGroups}
use Rattle.gp_packed.specs.MovedGroups.{number_if, next_if, moved_groups}
use Rattle.gp_pack.specs.MadeParts.{column_parts, list_parts, edit_of, made_part_of}
use Rattle.gp_sameness.specs.Moved.{Moved, is_moved}
use Rattle.gp_packed.specs.MadeViews.{made_views}
use Rattle.gp_packed.specs.MadeLaws.{HasViews}
use Rattle.gp_pack.specs.MoveTables.{group_edit_of, ReferencesAreThere}

-- the contents of the views that the asset itself has
abbrev pub own_contents : AssetParts → List (List ℕ)
own_contents a = contents_of (plain_views a)

-- ---- what is known

-- a group that may move has a column
pub record CanMove (a : AssetParts) (g : Group) : Type 0 where
  pub views : HasEvery a.views (plain_views a)
  pub sound : All (IsSound a.views) a.accessors
  pub movable : is_movable a (own_contents a) g ≡ true
  pub columns : 0 < length g.columns

abbrev pub CanMoveAll : AssetParts → List Group → Type 0
CanMoveAll a gs = All (λ (g : Group). g.movable ≡ true → CanMove a g) gs

-- the accessors and primitives that these groups name are there, and an accessor that is made for a group has a number behind those of the
-- asset; primitives stand mesh by mesh
pub record NamesWhatIs (a : AssetParts) (moved : List Moved) : Type 0 where
  pub columns : All (λ (m : Moved). All (λ at. at < length a.accessors) m.columns) moved
  pub lists : All (λ (m : Moved). All (λ at. at < length a.accessors) m.lists) moved
  pub primitives : All (λ (m : Moved). All (λ at. at < length a.primitives) m.primitives) moved
  pub made : All (λ (m : Moved). IfSome m.list_accessor (λ at. at < length a.accessors + length moved)) moved
  pub meshes : List (List PrimitiveFields)
  pub by_mesh : a.primitives ≡ primitives_of meshes

-- every view is held, and each group that may move can be moved
pub record CanPack (a : AssetParts) : Type 0 where
  pub plain : All (λ (v : View). v.packed ≡ None) a.views
  pub views : HasEvery a.views (plain_views a)
  pub sound : All (IsSound a.views) a.accessors
  pub groups : CanMoveAll a (groups a (own_contents a))
  pub made : All (HasViews a) (moved_groups a (own_contents a))
  pub there : ReferencesAreThere a
  pub named : NamesWhatIs a (moved_groups a (own_contents a))

-- ---- what is held

-- what is left of groups that moved, and the number of the next accessor
pub record Kept : Type 0 where
  pub edits : List GroupEdit
  pub parts : List MadePart
  pub next : ℕ

abbrev pub kept : MadeGroups → Kept
kept m = record { edits = m.edits.items; parts = m.parts.items; next = m.next }

abbrev pub with_group : AssetParts → Kept → Group → Kept
with_group a k g =
    let m = moved_group a (own_contents a) g in
    record {
      edits = k.edits ++ edit_of m (number_if g.bare k.next) ∷ [];
      parts = k.parts ++ (column_parts a m ++ list_parts m);
      next = next_if g.bare k.next;
    }

-- where it may move
abbrev pub with_if : AssetParts → Kept → Group → Bool → Kept
with_if a k g true = with_group a k g
with_if a k g false = k

abbrev pub with_movable : AssetParts → Kept → Group → Kept
with_movable a k g = with_if a k g g.movable

-- those of a list that may move, one after another
abbrev pub with_groups : AssetParts → Kept → List Group → Kept
with_groups a k [] = k
with_groups a k (g ∷ gs) = with_groups a (with_movable a k g) gs

abbrev pub none_kept : AssetParts → Kept
none_kept a = record { edits = []; parts = []; next = length a.accessors }

abbrev pub MovesAll : AssetParts → List Group → MadeGroups → Type 0
MovesAll a gs m = kept m ≡ with_groups a (none_kept a) gs

-- the groups of an asset that moved, the new numbers of its views, and whether each accessor moved
pub record IsMoving (a : AssetParts) (made : MadeGroups) (numbers : List (Option ℕ)) (flags : List Bool) : Type 0 where
  pub moves : MovesAll a (groups a (own_contents a)) made
  pub renewed : numbers ≡ new_numbers (is_moved_with (groups a (own_contents a))) a
  pub flagged : flags ≡ map (is_moved_with (groups a (own_contents a))) (range_with_len 0 (length a.accessors))

-- what is left of groups that moved, and the new numbers of views, are those of these groups
pub record IsMovedAs (a : AssetParts) (moved : List Moved) (made : MadeGroups) (numbers : List (Option ℕ)) : Type 0 where
  pub edits : made.edits.items ≡ map group_edit_of moved
  pub parts : made.parts.items ≡ map made_part_of (made_views a moved)
  pub renewed : numbers ≡ new_numbers (is_moved moved) a
  pub views : All (HasViews a) moved
  pub there : ReferencesAreThere a
  pub named : NamesWhatIs a moved

-- ---- what is written

abbrev pub edited : PlainTree → List ℕ → Document
edited tree rest = record { tree = tree; bin = None; rest = rest }
