-- Views that are made read back, and so do those that stay beside them.
use Rattle.std.specs.Prelude.{if◌then◌else◌, codes, option_map, unwrap_or, filter_map, IfSome}
use Rattle.std.specs.Str.{chars}
use Rattle.std.specs.List.{enumerate_from, cons_option}
use Rattle.std.proofs.Common.{◌≡◌, ℕ, ◌+◌, ◌<◌, ◌≤◌, ◌^◌, Bool, true, false, List, [], ◌∷◌, ◌++◌, length, map, slice_get, Option, Some, None, refl, sym, ap, ◌∙◌, arith}
use Rattle.gp_tree.specs.Lexical.{Each}
use Rattle.gp_tree.specs.Plain.{PlainTree, members, members_of}
use Rattle.gp_tree.specs.Values.{whole}
use Rattle.gp_tree.specs.Find.{find_member}
use Rattle.gp_tree.proofs.Kept.{find_change}
use Rattle.gp_fields.specs.declared.fault.Place.TheVariants.{BufferViews}
use Rattle.gp_fields.specs.Shapes.{object_of, reference, optional}
use Rattle.gp_fields.specs.Fields.{ViewFields, view_fields}
use Rattle.gp_edits.specs.Changes.{whole_number}
use Rattle.gp_edits.proofs.FieldsBack.{whole_again, reference_again, required_found, optional_is}
use Rattle.gp_edits.proofs.ViewsBack.{object_again, object_read, view_parts, view_of_parts, packed_in, packed_is, none_in_empty}
use Rattle.gp_edits.proofs.PackedBack.{none_stays}
use Rattle.gp_edits.proofs.ItemsBack.{AreRead, items_are}
use Rattle.gp_rules.specs.declared.accessing.Accessor.{Accessor}
use Rattle.gp_rules.specs.declared.accessing.Component.{Component}
use Rattle.gp_rules.specs.declared.accessing.Component.TheVariants.{I8, U8, I16, U16, U32, F32}
use Rattle.gp_rules.specs.declared.accessing.Shape.{Shape}
use Rattle.gp_rules.specs.declared.accessing.Shape.TheVariants.{Scalar, Vec2, Vec3, Vec4, Mat2, Mat3, Mat4}
use Rattle.gp_rules.specs.declared.storage.StreamMode.{StreamMode}
use Rattle.gp_rules.specs.declared.storage.StreamMode.TheVariants.{Attributes, Triangles, Indices}
use Rattle.gp_rules.specs.Sizes.{component_size, padded, element_size}
use Rattle.gp_asset.specs.Asset.{AssetParts}
use Rattle.gp_unpack.proofs.EachItem.{each_of_all, all_of_each}
use Rattle.gp_sameness.specs.Moved.{Moved}
use Rattle.gp_sameness.specs.Survivors.{survives, where_numbered}
use Rattle.gp_packed.specs.MadeViews.{Made, made_column, made_columns, is_narrow, made_list, made_lists, made_views}
use Rattle.gp_packed.specs.ViewEdits.{purpose, unplaced}
use Rattle.gp_packed.specs.Packed.{with_made_views}
use Rattle.gp_packed.specs.MeshesBack.{made_stride, made_fields, MadeReadBack, MadeStridesAreSmall, IsUncompressed, output_fields, MadeViewsReadBack}
use Rattle.gp_packed.proofs.Wider.{reference_more, required_more}
use Rattle.gp_packed.proofs.NumberedItems.{found_after, found_more, where_reads, reads_append}

-- ---- one that is made

-- one of this length and stride
abbrev unplaced_by : ℕ → StreamMode → ℕ → PlainTree
unplaced_by size mode stride = members (members_of (
    (codes "buffer", whole_number 0)
    ∷ (codes "byteOffset", whole_number 0)
    ∷ (codes "byteLength", whole_number size)
    ∷ purpose mode stride))

abbrev made_by : ℕ → StreamMode → ℕ → ViewFields
made_by size mode stride = record { buffer = 0; offset = 0; length = size; stride = made_stride mode stride; packed = None }

-- what is found of it
record IsUnplaced (size : ℕ) (step : Option ℕ) (t : PlainTree) : Type 0 where
  buffer : find_member (codes "buffer") t ≡ Some (whole_number 0)
  offset : find_member (codes "byteOffset") t ≡ Some (whole_number 0)
  length : find_member (codes "byteLength") t ≡ Some (whole_number size)
  stride : find_member (codes "byteStride") t ≡ option_map whole_number step
  extensions : find_member (codes "extensions") t ≡ None

unplaced_found : (size : ℕ) (mode : StreamMode) (stride : ℕ) → IsUnplaced size (made_stride mode stride) (unplaced_by size mode stride)
unfolding chars
unplaced_found size Attributes stride = record { buffer = refl; offset = refl; length = refl; stride = refl; extensions = refl }
unplaced_found size Triangles stride = record { buffer = refl; offset = refl; length = refl; stride = refl; extensions = refl }
unplaced_found size Indices stride = record { buffer = refl; offset = refl; length = refl; stride = refl; extensions = refl }

stride_read : (stride : Option ℕ) (t : PlainTree) → IfSome stride (λ n. n < 2 ^ 32) → find_member (codes "byteStride") t ≡ option_map whole_number stride
    → optional t (codes "byteStride") whole ≡ Some stride
stride_read None t small e = optional_is (codes "byteStride") whole t None e
stride_read (Some n) t small e = optional_is (codes "byteStride") whole t (Some (whole_number n)) e ∙ ap (option_map Some) (whole_again n small)

unplaced_read : (n size : ℕ) (stride : Option ℕ) (t : PlainTree) → 0 < n → size < 2 ^ 32 → IfSome stride (λ s. s < 2 ^ 32) → IsUnplaced size stride t
    → view_fields n t ≡ Some (record { buffer = 0; offset = 0; length = size; stride = stride; packed = None })
unplaced_read n size stride t some small low h =
    view_of_parts n t (record { buffer = 0; offset = 0; length = size; stride = stride; packed = None }) (record {
      buffer = required_found (codes "buffer") (reference n) (whole_number 0) t h.buffer ∙ reference_again n 0 some (omega arith);
      length = required_found (codes "byteLength") whole (whole_number size) t h.length ∙ whole_again size small;
      offset = ap (option_map (λ found. unwrap_or found 0)) (optional_is (codes "byteOffset") whole t (Some (whole_number 0)) h.offset ∙ ap (option_map Some) (whole_again 0 (omega arith)));
      stride = stride_read stride t low h.stride;
      packed = packed_is n t ∙ ap (packed_in n) h.extensions ∙ none_in_empty n;
    })

stride_small : (mode : StreamMode) (stride : ℕ) → stride < 2 ^ 32 → IfSome (made_stride mode stride) (λ s. s < 2 ^ 32)
stride_small Attributes stride small = small
stride_small Triangles stride small = tt
stride_small Indices stride small = tt

pub made_again : MadeReadBack
made_again n v some small low =
    unplaced_read n (length v.contents) (made_stride v.coding.mode v.coding.stride) (unplaced_by (length v.contents) v.coding.mode v.coding.stride) some small
    (stride_small v.coding.mode v.coding.stride low)
    (unplaced_found (length v.contents) v.coding.mode v.coding.stride)

-- ---- their strides

component_small : (c : Component) → component_size c ≤ 4
component_small I8 = omega arith
component_small U8 = omega arith
component_small I16 = omega arith
component_small U16 = omega arith
component_small U32 = omega arith
component_small F32 = omega arith

element_small : (c : Component) (s : Shape) → padded (element_size c s) ≤ 64
element_small c Scalar = omega (arith, component_small c)
element_small c Vec2 = omega (arith, component_small c)
element_small c Vec3 = omega (arith, component_small c)
element_small c Vec4 = omega (arith, component_small c)
element_small c Mat2 = omega (arith, component_small c)
element_small c Mat3 = omega (arith, component_small c)
element_small c Mat4 = omega (arith, component_small c)

abbrev IsSmall : Made → Type 0
IsSmall v = v.coding.stride ≤ 64

each_some : {A : Type 0} (P : A → Type 0) (o : Option A) (xs : List A) → IfSome o P → Each P xs → Each P (cons_option o xs)
each_some P None xs here h = h
each_some P (Some x) xs here h = (here, h)

pub each_append : {A : Type 0} (P : A → Type 0) (xs ys : List A) → Each P xs → Each P ys → Each P (xs ++ ys)
each_append P [] ys h g = g
each_append P (x ∷ xs) ys h g = (h.0, each_append P xs ys h.1 g)

column_small : (a : AssetParts) (m : Moved) (k at : ℕ) (found : Option Accessor) → IfSome (option_map (made_column a m k at) found) IsSmall
column_small a m k at None = tt
column_small a m k at (Some accessor) = element_small accessor.component accessor.shape

columns_small : (a : AssetParts) (m : Moved) (n : ℕ) (columns : List ℕ)
    → Each IsSmall (filter_map (λ (p : ℕ × ℕ). option_map (made_column a m p.0 p.1) (slice_get a.accessors p.1)) (enumerate_from n columns))
columns_small a m n [] = tt
columns_small a m n (at ∷ columns) =
    each_some IsSmall (option_map (made_column a m n at) (slice_get a.accessors at))
    (filter_map (λ (p : ℕ × ℕ). option_map (made_column a m p.0 p.1) (slice_get a.accessors p.1)) (enumerate_from (n + 1) columns))
    (column_small a m n at (slice_get a.accessors at)) (columns_small a m (n + 1) columns)

width_small : (b : Bool) → (if b then 2 else 4) ≤ 64
width_small true = omega arith
width_small false = omega arith

lists_small : (m : Moved) (ps : List (ℕ × List ℕ)) → Each IsSmall (map (made_list m) ps)
lists_small m [] = tt
lists_small m (p ∷ ps) = (width_small (is_narrow m), lists_small m ps)

all_small : (a : AssetParts) (moved : List Moved) → Each IsSmall (made_views a moved)
all_small a [] = tt
all_small a (m ∷ moved) =
    each_append IsSmall (made_columns a m ++ made_lists m) (made_views a moved)
    (each_append IsSmall (made_columns a m) (made_lists m) (columns_small a m 0 m.columns) (lists_small m _))
    (all_small a moved)

pub strides_small : MadeStridesAreSmall
strides_small moved a = all_of_each IsSmall (made_views a moved) (all_small a moved)

-- ---- views that stay

-- without an extension object it is read by more buffers
pub view_more : (n m : ℕ) (t : PlainTree) (f : ViewFields) → n ≤ m → object_of (view_fields n) t ≡ Some f → IsUncompressed f → object_of (view_fields m) t ≡ Some f
view_more n m t f le e none =
    let r = object_read (view_fields n) t f e in
    let p = view_parts n t f r.1 in
    object_again (view_fields m) t r.0
    ∙ view_of_parts m t f (record {
      buffer = required_more (codes "buffer") (reference n) (reference m) (reference_more n m le) t f.buffer p.buffer;
      length = p.length;
      offset = p.offset;
      stride = p.stride;
      packed = none_stays n m t (p.packed ∙ ap Some none) ∙ ap Some (sym none);
    })

views_more : (n m : ℕ) (ts : List PlainTree) (fs : List ViewFields) → n ≤ m → AreRead (object_of (view_fields n)) ts fs → Each IsUncompressed fs → AreRead (object_of (view_fields m)) ts fs
views_more n m [] [] le h none = tt
views_more n m [] (f ∷ fs) le h none = absurd h
views_more n m (t ∷ ts) [] le h none = absurd h
views_more n m (t ∷ ts) (f ∷ fs) le h none = (view_more n m t f le h.0 none.0, views_more n m ts fs le h.1 none.1)

-- ---- both

abbrev pub IsShort : Made → Type 0
IsShort v = length v.contents < 2 ^ 32

made_reads : (m : ℕ) (vs : List Made) → 0 < m → Each IsShort vs → Each IsSmall vs → AreRead (object_of (view_fields m)) (map unplaced vs) (map made_fields vs)
made_reads m [] some short small = tt
made_reads m (v ∷ vs) some short small = (made_again m v some short.0 (omega (arith, small.0)), made_reads m vs some short.1 small.1)

none_made : (vs : List Made) → (0 < length vs → ⊥) → vs ≡ []
none_made [] h = refl
none_made (v ∷ vs) h = absurd (h (omega arith))

none_out : (moved : List Moved) (a : AssetParts) (fs : List ViewFields) → (0 < length (made_views a moved) → 0 < length fs) → fs ≡ [] → output_fields moved a fs ≡ []
none_out moved a fs made e =
    let none : made_views a moved ≡ [] = none_made (made_views a moved) (λ h. let some : 0 < length fs = made h in omega (arith, some, ap length e)) in
    ap (λ l. where_numbered (survives moved a) l ++ map made_fields (made_views a moved)) e ∙ ap (map made_fields) none

pub made_views_again : MadeViewsReadBack
unfolding with_made_views
made_views_again moved a n m root fs e none made le some short =
    let key = codes "bufferViews" in
    let less = object_of (view_fields n) in
    let more = object_of (view_fields m) in
    let test = survives moved a in
    let vs = made_views a moved in
    let found = find_member key root in
    let none_each = each_of_all IsUncompressed fs none in
    let short_each = each_of_all IsShort vs short in
    items_are BufferViews key more (with_made_views moved a root) (option_map _ found) (find_change key _ root ∙ found_more (where_numbered test) (map unplaced vs) found)
    ∙ found_after BufferViews less more (λ ts. where_numbered test ts ++ map unplaced vs) fs (output_fields moved a fs)
    (λ ts h.
    reads_append more (where_numbered test ts) (map unplaced vs) (where_numbered test fs) (map made_fields vs)
    (where_reads test more ts fs (views_more n m ts fs le h none_each))
    (made_reads m vs some short_each (all_small a moved)))
    (none_out moved a fs made)
    found
    (sym (items_are BufferViews key less root found refl) ∙ e)
