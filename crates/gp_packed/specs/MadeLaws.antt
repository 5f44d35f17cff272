-- Laws of the views that packing makes, over the definitions alone: what is made is read back.
use Rattle.std.specs.Prelude.{◌≡◌, ◌≢◌, ◌⊎◌, ℕ, ◌-◌, ◌*◌, ◌/◌, ◌%◌, ◌^◌, ◌<◌, ◌≤◌, Bool, true, false, if◌then◌else◌, List, [], ◌++◌, map, flat_map, length, take, get_or, slice_get, sum_by, option_to_list, Some, None, Ok}
use Rattle.std.specs.List.{All, AllPairs, enumerate_from, range_with_len}
use Rattle.std.specs.Option.{IsSome}
use Rattle.gp_groups.specs.Sequence.{le_bytes}
use Rattle.gp_index.specs.SameTriangles.{SameTriangles}
use Rattle.gp_rules.specs.declared.accessing.Accessor.{Accessor}
use Rattle.gp_rules.specs.declared.accessing.Shape.{Shape}
use Rattle.gp_rules.specs.declared.accessing.Shape.TheVariants.{Scalar, Vec2, Vec3, Vec4, Mat2, Mat3, Mat4}
use Rattle.gp_rules.specs.declared.storage.StreamMode.TheVariants.{Attributes, Triangles}
use Rattle.gp_rules.specs.Kinds.{component_of}
use Rattle.gp_rules.specs.Sizes.{padded}
use Rattle.gp_rules.specs.Views.{is_stride, is_stride_in, is_count_in}
use Rattle.gp_rules.specs.Accessors.{size_of}
use Rattle.gp_asset.specs.Contents.{part}
use Rattle.gp_asset.specs.Asset.{AssetParts}
use Rattle.gp_elements.specs.Elements.{number_of, base_elements, last_end}
use Rattle.gp_storage.specs.Coding.{numbers_in}
use Rattle.gp_storage.specs.Streams.{encoded}
use Rattle.gp_unpack.specs.Contents.{decoded}
use Rattle.gp_sameness.specs.Moved.{Moved}
use Rattle.gp_packed.specs.MadeViews.{Made, accessors_at, column_contents, is_narrow, list_width, list_component, made_column, made_columns, made_list, made_lists, made_views, made_place}
use Rattle.gp_packed.specs.Plan.{stored_made}
use Rattle.gp_packed.specs.StoredParts.{AreBytes, Suits}

-- ---- a group that is whole

-- the elements are scalars or vectors
abbrev pub is_vector : Shape → Bool
is_vector Scalar = true
is_vector Vec2 = true
is_vector Vec3 = true
is_vector Vec4 = true
is_vector Mat2 = false
is_vector Mat3 = false
is_vector Mat4 = false

-- the bytes of a record
abbrev pub record_size : AssetParts → Moved → ℕ
record_size a m = sum_by size_of (accessors_at a m.columns)

-- numbers of records
abbrev pub AreNumbers : Moved → List ℕ → Type 0
AreNumbers m list = All (λ n. n < length m.records) list

-- its columns exist, its records are as long as their elements together, and its lists number its records
pub record IsWhole (a : AssetParts) (m : Moved) : Type 0 where
  pub some : 1 ≤ length m.records
  pub few : length m.records ≤ 2 ^ 24
  pub exist : All (λ at. IsSome (slice_get a.accessors at)) m.columns
  pub vectors : All (λ (x : Accessor). is_vector x.shape ≡ true) (accessors_at a m.columns)
  pub long : All (λ r. length r ≡ record_size a m) m.records
  pub numbered : All (AreNumbers m) m.ordered

-- column k of the group is this accessor
pub record IsColumn (a : AssetParts) (m : Moved) (k : ℕ) (x : Accessor) : Type 0 where
  pub within : k < length m.columns
  pub accessor : slice_get a.accessors (get_or m.columns k 0) ≡ Some x

-- an accessor that reads so many elements like those of x from the beginning of a view
pub record ReadsLike (x y : Accessor) (number : ℕ) : Type 0 where
  pub offset : y.offset ≡ 0
  pub component : y.component ≡ x.component
  pub shape : y.shape ≡ x.shape
  pub count : y.count ≡ number

-- ---- columns

-- what a record has for column k
abbrev pub column_part : AssetParts → Moved → ℕ → Accessor → List ℕ → List ℕ
column_part a m k x r = part r (sum_by size_of (take k (accessors_at a m.columns))) (size_of x)

-- the elements of a column are, record by record, its parts of the records
abbrev pub ColumnsReadBack : Type 0
ColumnsReadBack = (a : AssetParts) (m : Moved) (k : ℕ) (x y : Accessor)
    → IsWhole a m → IsColumn a m k x → ReadsLike x y (length m.records)
    → base_elements (column_contents a m k x) y (Some (padded (size_of x))) ≡ map (column_part a m k x) m.records

-- each record has all of its part
abbrev pub ColumnPartsAreLong : Type 0
ColumnPartsAreLong = (a : AssetParts) (m : Moved) (k : ℕ) (x : Accessor)
    → IsWhole a m → IsColumn a m k x → All (λ r. length (column_part a m k x r) ≡ size_of x) m.records

-- a column has a padded element for each record
abbrev pub ColumnsAreLong : Type 0
ColumnsAreLong = (a : AssetParts) (m : Moved) (k : ℕ) (x : Accessor)
    → IsWhole a m → IsColumn a m k x → length (column_contents a m k x) ≡ length m.records * padded (size_of x)

-- it has room for all elements
abbrev pub ColumnsHaveRoom : Type 0
ColumnsHaveRoom = (a : AssetParts) (m : Moved) (k : ℕ) (x y : Accessor)
    → IsWhole a m → IsColumn a m k x → ReadsLike x y (length m.records)
    → last_end y (Some (padded (size_of x))) ≤ length (column_contents a m k x)

-- it has bytes where the records have
abbrev pub ColumnsAreBytes : Type 0
ColumnsAreBytes = (a : AssetParts) (m : Moved) (k : ℕ) (x : Accessor) → All AreBytes m.records → AreBytes (column_contents a m k x)

-- ---- records

-- the accessor of a column, as it reads its made view
abbrev pub made_accessor : Moved → Accessor → Accessor
made_accessor m x = record x { offset = 0; count = length m.records }

-- the elements of each column, as they are read from their made views
abbrev pub column_elements : AssetParts → Moved → List (List (List ℕ))
column_elements a m =
    map (λ (p : ℕ × Accessor). base_elements (column_contents a m p.0 p.1) (made_accessor m p.1) (Some (padded (size_of p.1))))
    (enumerate_from 0 (accessors_at a m.columns))

-- element i of each column behind one another
abbrev pub joined_at : List (List (List ℕ)) → ℕ → List ℕ
joined_at columns i = flat_map (λ items. get_or items i []) columns

-- together they are the records
abbrev pub RecordsReadBack : Type 0
RecordsReadBack = (a : AssetParts) (m : Moved) → IsWhole a m → map (joined_at (column_elements a m)) (range_with_len 0 (length m.records)) ≡ m.records

-- ---- lists

-- the bytes of a list
abbrev pub list_contents : Moved → List ℕ → List ℕ
list_contents m list = flat_map (le_bytes (list_width m)) list

-- the greatest number of the lists' component
abbrev pub greatest : Moved → ℕ
greatest m = if is_narrow m then 65535 else 2 ^ 32 - 1

-- an accessor that reads so many numbers from the beginning of the view of a list
pub record ReadsNumbers (m : Moved) (y : Accessor) (number : ℕ) : Type 0 where
  pub offset : y.offset ≡ 0
  pub component : component_of (list_component m) ≡ Some y.component
  pub shape : y.shape ≡ Scalar
  pub count : y.count ≡ number

-- the numbers are those of the list
abbrev pub ListsReadBack : Type 0
ListsReadBack = (m : Moved) (list : List ℕ) → length m.records ≤ 2 ^ 24 → AreNumbers m list → numbers_in (list_width m) (list_contents m list) ≡ list

-- so are the elements
abbrev pub ListElementsReadBack : Type 0
ListElementsReadBack = (m : Moved) (list : List ℕ) (y : Accessor) → length m.records ≤ 2 ^ 24 → AreNumbers m list → ReadsNumbers m y (length list)
    → map number_of (base_elements (list_contents m list) y None) ≡ list

-- a list has so many bytes for each number
abbrev pub ListsAreLong : Type 0
ListsAreLong = (m : Moved) (list : List ℕ) → length (list_contents m list) ≡ list_width m * length list

abbrev pub ListsAreBytes : Type 0
ListsAreBytes = (m : Moved) (list : List ℕ) → AreBytes (list_contents m list)

-- no number is the greatest of the component
abbrev pub ListsAreBelow : Type 0
ListsAreBelow = (m : Moved) (list : List ℕ) → length m.records ≤ 2 ^ 24 → AreNumbers m list → All (λ n. n < greatest m) list

-- ---- streams

-- a stream of a list means one that has the same triangles
pub record ReadsTriangles (m : Moved) (list stream : List ℕ) : Type 0 where
  pub other : List ℕ
  pub same : SameTriangles list other
  pub numbers : AreNumbers m other
  pub meant : decoded Triangles stream (length (list_contents m list) / list_width m) (list_width m) ≡ Ok (list_contents m other)

abbrev pub StreamedListsReadBack : Type 0
StreamedListsReadBack = (m : Moved) (list : List ℕ) → length m.records ≤ 2 ^ 24 → AreNumbers m list → length list % 3 ≡ 0
    → ReadsTriangles m list (encoded Triangles (list_width m) (list_contents m list))

-- it is one of the extension's, of whole triangles, and never of 5 bytes or fewer
pub record IsListStream (m : Moved) (list stream : List ℕ) : Type 0 where
  pub strides : is_stride_in Triangles (list_width m) ≡ true
  pub counts : is_count_in Triangles (length (list_contents m list) / list_width m) ≡ true
  pub whole : list_width m * (length (list_contents m list) / list_width m) ≡ length (list_contents m list)
  pub longer : 5 < length stream

abbrev pub StreamedListsSuit : Type 0
StreamedListsSuit = (m : Moved) (list : List ℕ) → length list % 3 ≡ 0 → IsListStream m list (encoded Triangles (list_width m) (list_contents m list))

-- a stream of a column means its contents
abbrev pub StreamedColumnsReadBack : Type 0
StreamedColumnsReadBack = (a : AssetParts) (m : Moved) (k : ℕ) (x : Accessor)
    → IsWhole a m → IsColumn a m k x → All AreBytes m.records
    → decoded Attributes (encoded Attributes (padded (size_of x)) (column_contents a m k x)) (length (column_contents a m k x) / padded (size_of x)) (padded (size_of x))
    ≡ Ok (column_contents a m k x)

-- ---- sizes

-- some bytes, in whole elements
pub record IsInElements (v : Made) : Type 0 where
  pub some : 1 ≤ length v.contents
  pub whole : length v.contents % v.coding.stride ≡ 0

-- of a column: from 4 to 16 bytes an element
pub record IsColumnView (v : Made) : Type 0 where
  pub elements : IsInElements v
  pub mode : v.coding.mode ≡ Attributes
  pub stride : is_stride 16 v.coding.stride ≡ true

abbrev pub MadeColumnsSuit : Type 0
MadeColumnsSuit = (a : AssetParts) (m : Moved) → IsWhole a m → All IsColumnView (made_columns a m)

-- what is stored for a column suits a view of its length and stride
abbrev pub StoredColumnsSuit : Type 0
StoredColumnsSuit = (a : AssetParts) (m : Moved) → IsWhole a m → All AreBytes m.records
    → All (λ (v : Made). Suits (length v.contents) (Some v.coding.stride) (stored_made v)) (made_columns a m)

-- of a list: 2 or 4 bytes a number
pub record IsListView (v : Made) : Type 0 where
  pub elements : IsInElements v
  pub mode : v.coding.mode ≡ Triangles
  pub stride : (v.coding.stride ≡ 2) ⊎ (v.coding.stride ≡ 4)

abbrev pub MadeListsSuit : Type 0
MadeListsSuit = (m : Moved) → All (λ list. 1 ≤ length list) m.ordered → All IsListView (made_lists m)

-- ---- places

-- the accessors that read the views of a group
abbrev pub numbers_of : Moved → List ℕ
numbers_of m = m.columns ++ (m.lists ++ option_to_list m.list_accessor)

-- a group has a view for each of them
pub record HasViews (a : AssetParts) (m : Moved) : Type 0 where
  pub exist : All (λ at. IsSome (slice_get a.accessors at)) m.columns
  pub each : length m.ordered ≡ length (m.lists ++ option_to_list m.list_accessor)

-- no accessor is one of two columns or lists
abbrev pub AreApart : List Moved → Type 0
AreApart moved = AllPairs (λ x y. x ≢ y) (flat_map numbers_of moved)

-- each made view is that of its accessor, in order
abbrev pub MadeInOrder : Type 0
MadeInOrder = (a : AssetParts) (moved : List Moved) → All (HasViews a) moved → map (λ (v : Made). v.accessor) (made_views a moved) ≡ flat_map numbers_of moved

-- at the place of a column's accessor stands the column
abbrev pub MadeColumnsFound : Type 0
MadeColumnsFound = (a : AssetParts) (moved : List Moved) (i k : ℕ) (m : Moved) (x : Accessor)
    → All (HasViews a) moved → AreApart moved → slice_get moved i ≡ Some m → IsColumn a m k x
    → slice_get (made_views a moved) (made_place (made_views a moved) (get_or m.columns k 0)) ≡ Some (made_column a m k (get_or m.columns k 0) x)

-- at the place of a list's accessor stands the list
abbrev pub MadeListsFound : Type 0
MadeListsFound = (a : AssetParts) (moved : List Moved) (i k at : ℕ) (m : Moved) (list : List ℕ)
    → All (HasViews a) moved → AreApart moved → slice_get moved i ≡ Some m
    → slice_get (m.lists ++ option_to_list m.list_accessor) k ≡ Some at → slice_get m.ordered k ≡ Some list
    → slice_get (made_views a moved) (made_place (made_views a moved) at) ≡ Some (made_list m (at, list))
