-- The contents of the views of a packed asset, and the elements of its accessors, over the definitions alone.
use Rattle.std.specs.Prelude.{◌≡◌, ℕ, ◌+◌, ◌/◌, ◌<◌, ◌%◌, false, List, [], ◌++◌, map, filter_map, length, get_or, slice_get, option_to_list, Option, Some, None, Result, Ok, Err}
use Rattle.std.specs.List.{All, range_with_len}
use Rattle.gp_groups.specs.declared.fault.StreamFault.{StreamFault}
use Rattle.gp_index.specs.SameTriangles.{SameTriangles}
use Rattle.gp_rules.specs.declared.accessing.Accessor.{Accessor}
use Rattle.gp_rules.specs.declared.accessing.Shape.TheVariants.{Scalar}
use Rattle.gp_asset.specs.declared.purpose.Form.TheVariants.{Plain}
use Rattle.gp_asset.specs.Asset.{AssetParts}
use Rattle.gp_elements.specs.Held.{IsSound}
use Rattle.gp_elements.specs.Elements.{content_at, number_of, elements_in, elements_of}
use Rattle.gp_storage.specs.declared.coding.Stream.{Stream}
use Rattle.gp_unpack.specs.Contents.{decoded, all_contents}
use Rattle.gp_document.specs.Document.{Document, IsDocument}
use Rattle.gp_document.specs.Accepted.{asset_of}
use Rattle.gp_sameness.specs.Moved.{Moved, is_moved, group_with}
use Rattle.gp_sameness.specs.Survivors.{survives, renumbered, where_numbered}
use Rattle.gp_packed.specs.MadeViews.{Made, column_contents, made_views}
use Rattle.gp_packed.specs.Plan.{Stored, all_stored, stored_made, output_views}
use Rattle.gp_packed.specs.GroupEdits.{made_number}
use Rattle.gp_packed.specs.AccessorsBack.{new_number}
use Rattle.gp_packed.specs.StoredParts.{AreBytes, SuitEach, stored_bytes}
use Rattle.gp_packed.specs.MadeLaws.{AreApart, AreNumbers, HasViews, IsColumn, IsWhole, column_part, list_contents}
use Rattle.gp_packed.specs.PackedParts.{kept_part, moved_column_part, moved_list_part, made_list_part, packed_accessors, packed_views}

-- ---- contents of views

-- what a view reads back as: its contents, or what its stream means
abbrev pub meaning_by : List ℕ → Option Stream → Result (List ℕ) StreamFault
meaning_by contents None = Ok contents
meaning_by contents (Some stream) = decoded stream.coding.mode stream.bytes (length contents / stream.coding.stride) stream.coding.stride

abbrev pub meaning_of : Stored → Result (List ℕ) StreamFault
meaning_of s = meaning_by s.contents s.stream

-- nothing where its stream has a fault
abbrev pub bytes_meant : Result (List ℕ) StreamFault → List ℕ
bytes_meant (Ok bytes) = bytes
bytes_meant (Err fault) = []

abbrev pub read_back : Stored → List ℕ
read_back s = bytes_meant (meaning_of s)

-- those of the input
abbrev pub input_contents : List Moved → AssetParts → List (List ℕ)
input_contents moved a = map (λ (s : Stored). s.contents) (all_stored moved a)

-- those of the output: of the views that stay, then what is read back of those that are made
unfoldable pub output_contents : List Moved → AssetParts → List (List ℕ)
output_contents moved a = where_numbered (survives moved a) (input_contents moved a) ++ map (λ (v : Made). read_back (stored_made v)) (made_views a moved)

-- a view that stays has at its new number what it had
abbrev pub ContentsStay : List Moved → AssetParts → List (List ℕ) → List (List ℕ) → Type 0
ContentsStay moved a contents others = (view number : ℕ)
    → view < length a.views → renumbered moved a view ≡ Some number → slice_get others number ≡ slice_get contents view

-- the buffers, views and accessors of an asset are those of a packed one, where more bytes may follow in its first buffer
pub record IsPackedFrom (moved : List Moved) (a : AssetParts) (more : List ℕ) (packed : AssetParts) : Type 0 where
  pub buffers : packed.buffers ≡ stored_bytes (output_views moved a) more
  pub views : packed.views ≡ packed_views moved a
  pub accessors : packed.accessors ≡ packed_accessors moved a

-- a group whose views may be read back: it is whole, its records are bytes, and its lists are of whole triangles
pub record ReadsBack (a : AssetParts) (m : Moved) : Type 0 where
  pub whole : IsWhole a m
  pub bytes : All AreBytes m.records
  pub triangles : All (λ (list : List ℕ). length list % 3 ≡ 0) m.ordered

-- the input has the contents that are stored
abbrev pub InputContents : Type 0
InputContents = (moved : List Moved) (d : Document) (a : AssetParts) → asset_of Plain d ≡ Ok a → all_contents a ≡ Ok (input_contents moved a)

-- and the output these: no stream has a fault
abbrev pub OutputContents : Type 0
OutputContents = (moved : List Moved) (a : AssetParts) (more : List ℕ) (packed : AssetParts)
    → IsPackedFrom moved a more packed → SuitEach a.views (all_stored moved a) → All (ReadsBack a) moved
    → all_contents packed ≡ Ok (output_contents moved a)

-- among which are those of each view that stays
abbrev pub OutputContentsStay : Type 0
OutputContentsStay = (moved : List Moved) (a : AssetParts) → ContentsStay moved a (input_contents moved a) (output_contents moved a)

-- and of each made column, as it was made
abbrev pub OutputHasColumns : Type 0
OutputHasColumns = (a : AssetParts) (moved : List Moved) (i k : ℕ) (m : Moved) (x : Accessor)
    → All (ReadsBack a) moved → All (HasViews a) moved → AreApart moved → slice_get moved i ≡ Some m → IsColumn a m k x
    → slice_get (output_contents moved a) (made_number moved a (get_or m.columns k 0)) ≡ Some (column_contents a m k x)

-- and of each made list, or of one with the same triangles
pub record HasList (moved : List Moved) (a : AssetParts) (m : Moved) (at : ℕ) (list : List ℕ) : Type 0 where
  pub other : List ℕ
  pub same : SameTriangles list other
  pub numbers : AreNumbers m other
  pub found : slice_get (output_contents moved a) (made_number moved a at) ≡ Some (list_contents m other)

abbrev pub OutputHasLists : Type 0
OutputHasLists = (a : AssetParts) (moved : List Moved) (i k at : ℕ) (m : Moved) (list : List ℕ)
    → All (ReadsBack a) moved → All (HasViews a) moved → AreApart moved → slice_get moved i ≡ Some m
    → slice_get (m.lists ++ option_to_list m.list_accessor) k ≡ Some at → slice_get m.ordered k ≡ Some list
    → HasList moved a m at list

-- ---- accessors that don't move

-- one stays at its number
abbrev pub KeptAccessorsStandThere : Type 0
KeptAccessorsStandThere = (moved : List Moved) (a : AssetParts) (at : ℕ) (x : Accessor)
    → is_moved moved at ≡ false → slice_get a.accessors at ≡ Some x
    → slice_get (packed_accessors moved a) at ≡ Some (kept_part (renumbered moved a) x)

-- and has its elements there, those of a `sparse` too
abbrev pub KeptElements : Type 0
KeptElements = (moved : List Moved) (a : AssetParts) (at : ℕ) (x : Accessor) (contents others : List (List ℕ))
    → is_moved moved at ≡ false → slice_get a.accessors at ≡ Some x → IsSound a.views x
    → ContentsStay moved a contents others
    → elements_in (packed_views moved a) others (kept_part (renumbered moved a) x) ≡ elements_in a.views contents x

-- an image has its bytes there
abbrev pub KeptImages : Type 0
KeptImages = (moved : List Moved) (a : AssetParts) (at view : ℕ) (contents others : List (List ℕ))
    → slice_get a.images at ≡ Some (Some view) → view < length a.views
    → ContentsStay moved a contents others
    → content_at others (new_number (renumbered moved a) view) ≡ content_at contents view

-- so the elements of all accessors that don't move are the same
abbrev pub KeptElementsOfAll : Type 0
KeptElementsOfAll = (moved : List Moved) (a : AssetParts) (more : List ℕ) (packed : AssetParts) (at : ℕ) (contents others : List (List ℕ))
    → IsPackedFrom moved a more packed → All (IsSound a.views) a.accessors → ContentsStay moved a contents others
    → at < length a.accessors → is_moved moved at ≡ false
    → slice_get (elements_of packed others) at ≡ slice_get (elements_of a contents) at

-- ---- accessors that move, and those that are made

-- by the first group that has it among its columns, or else by the first one that has it among its lists
abbrev pub ColumnsByTheirGroup : Type 0
ColumnsByTheirGroup = (moved : List Moved) (a : AssetParts) (at : ℕ) (m : Moved) (x : Accessor)
    → group_with (λ (u : Moved). u.columns) moved at ≡ Some m → slice_get a.accessors at ≡ Some x
    → slice_get (packed_accessors moved a) at ≡ Some (moved_column_part (made_number moved a at) m x)

abbrev pub ListsByTheirGroup : Type 0
ListsByTheirGroup = (moved : List Moved) (a : AssetParts) (at : ℕ) (m : Moved) (x : Accessor)
    → group_with (λ (u : Moved). u.columns) moved at ≡ None → group_with (λ (u : Moved). u.lists) moved at ≡ Some m → slice_get a.accessors at ≡ Some x
    → slice_get (packed_accessors moved a) at ≡ Some (moved_list_part (made_number moved a at) m x)

-- where no accessor is one of two columns or lists, each is that of the group that has it
abbrev pub MovedColumnsStandThere : Type 0
MovedColumnsStandThere = (a : AssetParts) (moved : List Moved) (i k : ℕ) (m : Moved) (x : Accessor)
    → AreApart moved → slice_get moved i ≡ Some m → IsColumn a m k x
    → slice_get (packed_accessors moved a) (get_or m.columns k 0) ≡ Some (moved_column_part (made_number moved a (get_or m.columns k 0)) m x)

abbrev pub MovedListsStandThere : Type 0
MovedListsStandThere = (a : AssetParts) (moved : List Moved) (i k at : ℕ) (m : Moved) (x : Accessor)
    → AreApart moved → slice_get moved i ≡ Some m → slice_get m.lists k ≡ Some at → slice_get a.accessors at ≡ Some x
    → slice_get (packed_accessors moved a) at ≡ Some (moved_list_part (made_number moved a at) m x)

-- the accessors that groups make have the numbers past those of the input, in the order of their groups
abbrev pub AreNumberedLast : AssetParts → List Moved → Type 0
AreNumberedLast a moved =
    filter_map (λ (m : Moved). m.list_accessor) moved ≡ range_with_len (length a.accessors) (length (filter_map (λ (m : Moved). m.list_accessor) moved))

abbrev pub MadeListsStandThere : Type 0
MadeListsStandThere = (a : AssetParts) (moved : List Moved) (i at : ℕ) (m : Moved)
    → AreNumberedLast a moved → slice_get moved i ≡ Some m → m.list_accessor ≡ Some at
    → slice_get (packed_accessors moved a) at ≡ Some (made_list_part (made_number moved a at) m)

-- as many as there are, and those that groups make
abbrev pub PackedAccessorsAreCounted : Type 0
PackedAccessorsAreCounted = (moved : List Moved) (a : AssetParts)
    → length (packed_accessors moved a) ≡ length a.accessors + length (filter_map (λ (m : Moved). m.list_accessor) moved)

-- ---- their elements

-- each group's views read back, and each accessor has a view of its own
pub record AreMovable (a : AssetParts) (moved : List Moved) : Type 0 where
  pub reads : All (ReadsBack a) moved
  pub views : All (HasViews a) moved
  pub apart : AreApart moved

-- an accessor has these elements, and no `sparse` beside them
abbrev pub HasItems : AssetParts → List (List ℕ) → ℕ → List (List ℕ) → Type 0
HasItems packed contents at items = slice_get (elements_of packed contents) at ≡ Some (record { items = items; sparse = None })

-- a column has its parts of the records in their new order
abbrev pub MovedColumnElements : Type 0
MovedColumnElements = (a : AssetParts) (moved : List Moved) (more : List ℕ) (packed : AssetParts) (i k : ℕ) (m : Moved) (x : Accessor)
    → IsPackedFrom moved a more packed → AreMovable a moved → slice_get moved i ≡ Some m → IsColumn a m k x
    → HasItems packed (output_contents moved a) (get_or m.columns k 0) (map (column_part a m k x) m.records)

-- an accessor has the numbers of a list with the same triangles
pub record HasNumbers (packed : AssetParts) (contents : List (List ℕ)) (m : Moved) (at : ℕ) (list : List ℕ) : Type 0 where
  pub other : List ℕ
  pub same : SameTriangles list other
  pub numbers : AreNumbers m other
  pub items : List (List ℕ)
  pub found : HasItems packed contents at items
  pub read : map number_of items ≡ other

-- that of a list does, where it counts its numbers
abbrev pub MovedListElements : Type 0
MovedListElements = (a : AssetParts) (moved : List Moved) (more : List ℕ) (packed : AssetParts) (i k at : ℕ) (m : Moved) (list : List ℕ) (x : Accessor)
    → IsPackedFrom moved a more packed → AreMovable a moved → slice_get moved i ≡ Some m
    → slice_get m.lists k ≡ Some at → slice_get m.ordered k ≡ Some list
    → slice_get a.accessors at ≡ Some x → x.shape ≡ Scalar → x.count ≡ length list
    → HasNumbers packed (output_contents moved a) m at list

-- and one that is made
abbrev pub MadeListElements : Type 0
MadeListElements = (a : AssetParts) (moved : List Moved) (more : List ℕ) (packed : AssetParts) (i at : ℕ) (m : Moved) (list : List ℕ)
    → IsPackedFrom moved a more packed → AreMovable a moved → AreNumberedLast a moved → slice_get moved i ≡ Some m
    → m.list_accessor ≡ Some at → slice_get m.ordered (length m.lists) ≡ Some list → m.count ≡ length list
    → HasNumbers packed (output_contents moved a) m at list

-- ---- together

-- whatever moves of an asset and whatever is made, every other view and accessor is as it was
pub record KeepsRest (moved : List Moved) (a packed : AssetParts) : Type 0 where
  pub read : all_contents a ≡ Ok (input_contents moved a)
  pub written : all_contents packed ≡ Ok (output_contents moved a)
  pub views : ContentsStay moved a (input_contents moved a) (output_contents moved a)
  pub elements : (at : ℕ) → at < length a.accessors → is_moved moved at ≡ false
      → slice_get (elements_of packed (output_contents moved a)) at ≡ slice_get (elements_of a (input_contents moved a)) at

-- of any input that is accepted
abbrev pub PackedKeepsRest : Type 0
PackedKeepsRest = (moved : List Moved) (bytes : List ℕ) (d : Document) (a : AssetParts) (more : List ℕ) (packed : AssetParts)
    → AreBytes bytes → IsDocument bytes d → asset_of Plain d ≡ Ok a
    → IsPackedFrom moved a more packed → All (ReadsBack a) moved
    → KeepsRest moved a packed
