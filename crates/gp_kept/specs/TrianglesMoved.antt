-- What primitives draw and which vertices their groups have, before and after groups move, over the definitions alone.
use Rattle.std.specs.Prelude.{◌≡◌, ℕ, ◌<◌, true, List, ◌++◌, map, length, get_or, slice_get, Option, Some, None, is_some, option_to_list, Ok}
use Rattle.std.specs.List.{All, range_with_len}
use Rattle.gp_tree.specs.Plain.{PlainTree}
use Rattle.gp_fields.specs.declared.geometry.Entry.{Entry}
use Rattle.gp_rules.specs.declared.storage.View.{View}
use Rattle.gp_rules.specs.declared.accessing.Accessor.{Accessor}
use Rattle.gp_rules.specs.Sizes.{padded}
use Rattle.gp_rules.specs.Accessors.{size_of}
use Rattle.gp_asset.specs.declared.purpose.Form.{Form}
use Rattle.gp_asset.specs.declared.geometry.Primitive.{Primitive}
use Rattle.gp_asset.specs.Asset.{AssetParts, asset}
use Rattle.gp_index.specs.SameTriangles.{SameTriangles}
use Rattle.gp_elements.specs.Elements.{number_of, content_at, stride_at}
use Rattle.gp_elements.specs.Held.{IsSound}
use Rattle.gp_alias.specs.declared.group.Group.{Group}
use Rattle.gp_alias.specs.Groups.{vertex_accessors, index_accessors, count_at, first_count}
use Rattle.gp_alias.specs.Movable.{is_movable, groups}
use Rattle.gp_alias.specs.Records.{vertex_record, records, lists}
use Rattle.gp_alias.specs.Laws.{IsIn}
use Rattle.gp_cache.specs.Tipsify.{better}
use Rattle.gp_moving.specs.Ordered.{chosen_by}
use Rattle.gp_moving.specs.Triangles.{same_vertex, Agree}
use Rattle.gp_moving.specs.Kept.{AreChosen, HasTrianglesOf, KeepsRecords}
use Rattle.gp_sameness.specs.Moved.{Moved}
use Rattle.gp_packed.specs.MadeViews.{column_contents}
use Rattle.gp_packed.specs.MadeLaws.{AreNumbers, IsWhole, IsColumn, ReadsLike, ReadsNumbers, column_part, list_contents}
use Rattle.gp_packed.specs.MeshesBack.{with_indices}
use Rattle.gp_packed.specs.StoredParts.{AreBytes}
use Rattle.gp_sameness.specs.Drawn.{all_corners, corners_of, triangles_of, records_of, elements_at}
use Rattle.gp_packed.specs.MovedGroups.{moved_of}
use Rattle.gp_packed.specs.RulesMoved.{GroupIsWhole}

-- ---- an asset

-- its accessors are below this number
abbrev pub RefersBelow : ℕ → Primitive → Type 0
RefersBelow accessors p = All (λ at. at < accessors) (vertex_accessors p ++ index_accessors p)

-- an asset that was read, and the contents of its views
pub record IsRead (a : AssetParts) (contents : List (List ℕ)) : Type 0 where
  pub views : map (λ (c : List ℕ). length c) contents ≡ map (λ (v : View). v.length) a.views
  pub accessors : All (IsSound a.views) a.accessors
  pub primitives : All (RefersBelow (length a.accessors)) a.primitives

-- ---- a group that moves

-- elements of the output: those of a column are its parts of the records, and the numbers in a list have the triangles of the new list
pub record ReadsMoved (a : AssetParts) (m : Moved) (elements : ℕ → List (List ℕ)) : Type 0 where
  pub columns : (k : ℕ) (x : Accessor) → IsColumn a m k x → elements (get_or m.columns k 0) ≡ map (column_part a m k x) m.records
  pub lists : (k at : ℕ) (list : List ℕ) → slice_get (m.lists ++ option_to_list m.list_accessor) k ≡ Some at → slice_get m.ordered k ≡ Some list
      → SameTriangles list (map number_of (elements at))

-- ---- an output that reads the views that are made for a group

-- accessor `at` of an asset is this one, which reads these bytes with this stride
pub record IsReadFrom (b : AssetParts) (contents : List (List ℕ)) (at : ℕ) (y : Accessor) (bytes : List ℕ) (stride : Option ℕ) : Type 0 where
  pub number : ℕ
  pub there : slice_get b.accessors at ≡ Some y
  pub view : y.view ≡ Some number
  pub whole : y.sparse ≡ None
  pub held : content_at contents number ≡ bytes
  pub strides : stride_at b.views number ≡ stride

pub record ReadsColumn (a b : AssetParts) (contents : List (List ℕ)) (m : Moved) (k : ℕ) (x : Accessor) : Type 0 where
  pub accessor : Accessor
  pub like : ReadsLike x accessor (length m.records)
  pub from : IsReadFrom b contents (get_or m.columns k 0) accessor (column_contents a m k x) (Some (padded (size_of x)))

-- its view has the list, or one whose triangles begin at other corners
pub record ReadsList (b : AssetParts) (contents : List (List ℕ)) (m : Moved) (at : ℕ) (list : List ℕ) : Type 0 where
  pub accessor : Accessor
  pub other : List ℕ
  pub same : SameTriangles list other
  pub numbers : AreNumbers m other
  pub like : ReadsNumbers m accessor (length list)
  pub from : IsReadFrom b contents at accessor (list_contents m other) None

pub record ReadsMade (a b : AssetParts) (contents : List (List ℕ)) (m : Moved) : Type 0 where
  pub columns : (k : ℕ) (x : Accessor) → IsColumn a m k x → ReadsColumn a b contents m k x
  pub lists : (k at : ℕ) (list : List ℕ) → slice_get (m.lists ++ option_to_list m.list_accessor) k ≡ Some at → slice_get m.ordered k ≡ Some list → ReadsList b contents m at list

-- ---- laws of any asset

-- an accessor has as many elements as it says
abbrev pub ElementsAreCounted : Type 0
ElementsAreCounted = (a : AssetParts) (contents : List (List ℕ)) (at : ℕ) → length (elements_at a contents at) ≡ count_at a.accessors at

-- and so a primitive without indices has as many corners as the first of its attributes says
abbrev pub CornersAreCounted : Type 0
CornersAreCounted = (a : AssetParts) (contents : List (List ℕ)) (attributes : List Entry)
    → all_corners (elements_at a contents) attributes ≡ range_with_len 0 (first_count a.accessors (map (λ (e : Entry). e.accessor) attributes))

-- and there are as many vertices as the first column says
abbrev pub RecordsAreCounted : Type 0
RecordsAreCounted = (a : AssetParts) (contents : List (List ℕ)) (columns : List ℕ)
    → records_of (elements_at a contents) columns ≡ map (vertex_record a contents columns) (range_with_len 0 (first_count a.accessors columns))

-- ---- laws of groups that move

-- the better order only reorders the lists of a group that may move
abbrev pub ChosenByBetter : Type 0
ChosenByBetter = (a : AssetParts) (contents : List (List ℕ)) (g : Group) → is_movable a contents g ≡ true
    → AreChosen (records a contents g) (lists a contents g) (chosen_by better (records a contents g) (lists a contents g))

-- a primitive with indices, whose corners are of records and have the triangles of corners of other records
pub record IsIndexed (records : List (List ℕ)) (corners : List ℕ) (new : List (List ℕ)) (elements : ℕ → List (List ℕ)) (q : Primitive) : Type 0 where
  pub indices : ℕ
  pub indexed : q.indices ≡ Some indices
  pub kept : HasTrianglesOf records corners new (corners_of elements q)

-- each primitive of a group that moves has indices then, each below the number of records
abbrev pub MovedCorners : Type 0
MovedCorners = (a : AssetParts) (contents : List (List ℕ)) (k at : ℕ) (g : Group) (list_accessor : Option ℕ) (p : Primitive) (others : ℕ → List (List ℕ))
    → IsRead a contents → slice_get (groups a contents) k ≡ Some g → is_movable a contents g ≡ true → is_some list_accessor ≡ g.bare
    → IsIn at g.primitives → slice_get a.primitives at ≡ Some p
    → ReadsMoved a (moved_of a contents list_accessor g) others
    → IsIndexed (records a contents g) (corners_of (elements_at a contents) p) (moved_of a contents list_accessor g).records others (with_indices list_accessor p)

-- and draws the same triangles, each as often, from whichever of its corners on
abbrev pub MovedTriangles : Type 0
MovedTriangles = (a : AssetParts) (contents : List (List ℕ)) (k at : ℕ) (g : Group) (list_accessor : Option ℕ) (p : Primitive) (others : ℕ → List (List ℕ))
    → IsRead a contents → slice_get (groups a contents) k ≡ Some g → is_movable a contents g ≡ true → is_some list_accessor ≡ g.bare
    → IsIn at g.primitives → slice_get a.primitives at ≡ Some p
    → ReadsMoved a (moved_of a contents list_accessor g) others
    → Agree same_vertex (triangles_of (elements_at a contents) p) (triangles_of others (with_indices list_accessor p))

-- its vertices have as many elements as there are records then, in each of their accessors
abbrev pub MovedVertices : Type 0
MovedVertices = (a : AssetParts) (contents : List (List ℕ)) (k at : ℕ) (g : Group) (list_accessor : Option ℕ) (p : Primitive) (others : ℕ → List (List ℕ))
    → IsRead a contents → slice_get (groups a contents) k ≡ Some g → is_movable a contents g ≡ true
    → IsIn at g.primitives → slice_get a.primitives at ≡ Some p
    → ReadsMoved a (moved_of a contents list_accessor g) others
    → All (λ n. length (others n) ≡ length (moved_of a contents list_accessor g).records) (vertex_accessors p)

-- so has each column of the group
abbrev pub MovedColumns : Type 0
MovedColumns = (a : AssetParts) (contents : List (List ℕ)) (k : ℕ) (g : Group) (list_accessor : Option ℕ) (others : ℕ → List (List ℕ))
    → IsRead a contents → slice_get (groups a contents) k ≡ Some g → is_movable a contents g ≡ true
    → ReadsMoved a (moved_of a contents list_accessor g) others
    → All (λ n. length (others n) ≡ length (moved_of a contents list_accessor g).records) g.columns

-- the records that are gathered are those of its columns, by rising number
abbrev pub RecordsAreOfColumns : Type 0
RecordsAreOfColumns = (a : AssetParts) (contents : List (List ℕ)) (k : ℕ) (g : Group)
    → slice_get (groups a contents) k ≡ Some g
    → records_of (elements_at a contents) g.columns ≡ records a contents g

-- the group has the same vertices, each once
abbrev pub MovedRecords : Type 0
MovedRecords = (a : AssetParts) (contents : List (List ℕ)) (k : ℕ) (g : Group) (list_accessor : Option ℕ) (others : ℕ → List (List ℕ))
    → IsRead a contents → slice_get (groups a contents) k ≡ Some g → is_movable a contents g ≡ true
    → ReadsMoved a (moved_of a contents list_accessor g) others
    → KeepsRecords (records_of (elements_at a contents) g.columns) (records_of others g.columns)

-- its new records are bytes where the contents are
abbrev pub MovedGroupHasBytes : Type 0
MovedGroupHasBytes = (a : AssetParts) (contents : List (List ℕ)) (g : Group) (list_accessor : Option ℕ)
    → is_movable a contents g ≡ true → All AreBytes contents → All AreBytes (moved_of a contents list_accessor g).records

-- such a group is whole
abbrev pub MovedGroupIsWhole : Type 0
MovedGroupIsWhole = (a : AssetParts) (contents : List (List ℕ)) (k : ℕ) (g : Group) (list_accessor : Option ℕ)
    → IsRead a contents → slice_get (groups a contents) k ≡ Some g → is_movable a contents g ≡ true → is_some list_accessor ≡ g.bare
    → GroupIsWhole a (moved_of a contents list_accessor g)

-- ---- what the laws ask of an asset

abbrev pub AssetsAreRead : Type 0
AssetsAreRead = (form : Form) (t : PlainTree) (bin : Option (List ℕ)) (a : AssetParts) (contents : List (List ℕ))
    → asset form t bin ≡ Ok a → map (λ (c : List ℕ). length c) contents ≡ map (λ (v : View). v.length) a.views → IsRead a contents

-- ---- what they ask of the output

-- it is met by an output whose accessors read the views that are made
abbrev pub MadeElementsAreMoved : Type 0
MadeElementsAreMoved = (a b : AssetParts) (contents : List (List ℕ)) (m : Moved) → IsWhole a m → ReadsMade a b contents m → ReadsMoved a m (elements_at b contents)
