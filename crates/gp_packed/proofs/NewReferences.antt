-- An accessor that doesn't move, and an image, refer to views that have new numbers.
use Rattle.std.specs.Prelude.{if◌then◌else◌, IfSome, option_map, option_to_list, unwrap_or, codes}
use Rattle.std.specs.List.{enumerate_from, flat_map}
use Rattle.std.proofs.Common.{◌≡◌, ℕ, zero, suc, ◌+◌, ◌<◌, ◌≤◌, ◌^◌, inl, inr, Bool, true, false, nat_lt, List, [], ◌∷◌, length, map, slice_get, Option, Some, None, Result, Ok, refl, sym, ap, ◌∙◌, subst, arith}
use Rattle.std.proofs.lemmas.Bool.{ltb-true}
use Rattle.gp_tree.specs.Lexical.{Each}
use Rattle.gp_tree.specs.Plain.{PlainTree, null, truth, number, text, list, members}
use Rattle.gp_tree.specs.Values.{whole}
use Rattle.gp_tree.specs.Find.{item_list, find_member}
use Rattle.gp_fields.specs.declared.fault.Place.{Place}
use Rattle.gp_fields.specs.declared.fault.Place.TheVariants.{Accessors, Images}
use Rattle.gp_fields.specs.declared.fault.FieldFault.{FieldFault}
use Rattle.gp_fields.specs.declared.sparse_fields.SparseFields.{SparseFields}
use Rattle.gp_fields.specs.Shapes.{Shaped, object_of, below, reference, required, optional}
use Rattle.gp_fields.specs.Fields.{AccessorFields, accessor_fields, sparse_fields, sparse_indices_fields, sparse_values_fields, image_fields}
use Rattle.gp_fields.specs.Record.{◌>>=◌}
use Rattle.gp_edits.proofs.FieldsBack.{read_of, optional_is}
use Rattle.gp_edits.proofs.ItemsBack.{AreRead, items_are_read, items_by, items_are}
use Rattle.gp_edits.proofs.ViewsBack.{and_then_some, object_read}
use Rattle.gp_rules.specs.declared.fault.AssetFault.TheVariants.{Accessor as BadAccessor}
use Rattle.gp_rules.specs.declared.accessing.Accessor.{Accessor}
use Rattle.gp_rules.specs.declared.accessing.Sparse.{Sparse}
use Rattle.gp_rules.specs.declared.accessing.Component.{Component}
use Rattle.gp_rules.specs.declared.accessing.Shape.{Shape}
use Rattle.gp_rules.specs.declared.storage.View.{View}
use Rattle.gp_rules.specs.Checks.{unless, each}
use Rattle.gp_rules.specs.Kinds.{component_of, shape_of}
use Rattle.gp_rules.specs.Accessors.{sparse_with, sparse_of, accessor_with, known_accessor, is_bad_accessor, accepted, accessor_of}
use Rattle.gp_asset.specs.Asset.{AssetParts}
use Rattle.gp_asset.specs.Uses.{Referrer, of_accessor, of_sparse_indices, of_sparse_values, of_image, sparse_references, accessor_references, image_references, references, gathered}
use Rattle.gp_document.proofs.Few.{step, same}
use Rattle.gp_unpack.proofs.EachItem.{each_of_all, each_found, all_of_each}
use Rattle.gp_sameness.specs.Moved.{Moved, is_moved}
use Rattle.gp_sameness.specs.Survivors.{renumbered}
use Rattle.gp_packed.specs.AccessorsBack.{IsRenumbered, IsSparseRenumbered, AreRenumbered}
use Rattle.gp_packed.specs.NewNumbers.{count_views, SparseRefersBelow, RefersBelow, ReferencesAreBelow, ImagesAreBelow, ImageNumbersAreRead}
use Rattle.gp_packed.proofs.AccessorsRead.{accessor_parts}
use Rattle.gp_packed.proofs.AccessorsKept.{mapped_some, none_read, sparse_parts, indices_parts, values_parts}
use Rattle.gp_packed.proofs.NewNumbers.{Among, among_front, among_behind, among_each, among_numbered, survivors_numbered, stays_by}

-- ---- accessors stand for their fields

known_of : (b : Bool) (at : ℕ) (x y : Accessor) → unless b (BadAccessor at) (Ok x) ≡ Ok y → ◌≡◌ {A = Option Accessor} (Some x) (Some y)
known_of true at x y e = absurd (cc)
known_of false at x y e = ap Some (same x y e)

accepted_known : (views : List View) (at : ℕ) (known : Option Accessor) (y : Accessor) → accepted views at known ≡ Ok y → known ≡ Some y
accepted_known views at None y e = absurd (cc)
accepted_known views at (Some x) y e = known_of (is_bad_accessor views x) at x y e

pub is_known : (views : List View) (at : ℕ) (f : AccessorFields) (y : Accessor) → accessor_of views at f ≡ Ok y → known_accessor f ≡ Some y
unfolding accessor_of
is_known views at f y e = accepted_known views at (known_accessor f) y e

-- the accessor at the same place
abbrev Stands : AccessorFields → List Accessor → ℕ → Type 0
Stands f accessors i = (y : Accessor) × (slice_get accessors i ≡ Some y) × (known_accessor f ≡ Some y)

stands_at : (views : List View) (k i : ℕ) (fs : List AccessorFields) (accessors : List Accessor) (f : AccessorFields)
    → each (accessor_of views) k fs ≡ Ok accessors → slice_get fs i ≡ Some f → Stands f accessors i
stands_at views k i [] accessors f e found = absurd (cc)
stands_at views k zero (g ∷ fs) accessors f e found =
    let first : g ≡ f = cc in
    step (accessor_of views k g) (λ y. each (accessor_of views) (k + 1) fs >>= λ ys. Ok (y ∷ ys)) accessors e (λ y one more.
    step (each (accessor_of views) (k + 1) fs) (λ ys. Ok (y ∷ ys)) accessors more (λ ys others whole.
    let all : y ∷ ys ≡ accessors = same (y ∷ ys) accessors whole in
    (y, ap (λ l. slice_get l 0) (sym all), ap known_accessor (sym first) ∙ is_known views k g y one)))
stands_at views k (suc i) (g ∷ fs) accessors f e found =
    step (accessor_of views k g) (λ y. each (accessor_of views) (k + 1) fs >>= λ ys. Ok (y ∷ ys)) accessors e (λ y one more.
    step (each (accessor_of views) (k + 1) fs) (λ ys. Ok (y ∷ ys)) accessors more (λ ys others whole.
    let all : y ∷ ys ≡ accessors = same (y ∷ ys) accessors whole in
    let rest = stands_at views (k + 1) i fs ys f others found in
    (rest.0, ap (λ l. slice_get l (suc i)) (sym all) ∙ rest.1, rest.2)))

pub count_accessors : (views : List View) (k : ℕ) (fs : List AccessorFields) (accessors : List Accessor) → each (accessor_of views) k fs ≡ Ok accessors → length fs ≡ length accessors
count_accessors views k [] accessors e = ap length (same [] accessors e)
count_accessors views k (g ∷ fs) accessors e =
    step (accessor_of views k g) (λ y. each (accessor_of views) (k + 1) fs >>= λ ys. Ok (y ∷ ys)) accessors e (λ y one more.
    step (each (accessor_of views) (k + 1) fs) (λ ys. Ok (y ∷ ys)) accessors more (λ ys others whole.
    ap suc (count_accessors views (k + 1) fs ys others) ∙ ap length (same (y ∷ ys) accessors whole)))

-- with the same references
with_parts : (f : AccessorFields) (c : Option Component) (s : Option Shape) (p : Option (Option Sparse)) (y : Accessor) → accessor_with f c s p ≡ Some y → (y.view ≡ f.view) × (p ≡ Some y.sparse)
with_parts f None s p y e = absurd (cc)
with_parts f (Some c) None p y e = absurd (cc)
with_parts f (Some c) (Some s) None y e = absurd (cc)
with_parts f (Some c) (Some s) (Some p) y e =
    let is : record { view = f.view; offset = f.offset; component = c; shape = s; count = f.count; sparse = p } ≡ y = ap (λ o. unwrap_or o y) e in
    (sym (ap (λ w. w.view) is), ap (λ w. Some w.sparse) is)

pub known_parts : (f : AccessorFields) (y : Accessor) → known_accessor f ≡ Some y → (y.view ≡ f.view) × (sparse_of f.sparse ≡ Some y.sparse)
unfolding known_accessor
known_parts f y e = with_parts f (component_of f.component) (shape_of f.shape) (sparse_of f.sparse) y e

-- the sparse part has the views of its fields
abbrev pub IsPartOf : SparseFields → Option Sparse → Type 0
IsPartOf s sparse = (p : Sparse) × (sparse ≡ Some p) × (p.index_view ≡ s.indices.view) × (p.value_view ≡ s.values.view)

part_by : (s : SparseFields) (c : Option Component) (sparse : Option Sparse) → option_map Some (sparse_with s c) ≡ Some sparse → IsPartOf s sparse
part_by s None sparse e = absurd (cc)
part_by s (Some c) sparse e = (_, sym (ap (λ o. unwrap_or o sparse) e), refl, refl)

pub part_of : (s : SparseFields) (sparse : Option Sparse) → sparse_of (Some s) ≡ Some sparse → IsPartOf s sparse
part_of s sparse e = part_by s (component_of s.indices.component) sparse e

-- ---- they are among the references

gathered_among : {A : Type 0} (f : ℕ → A → List (ℕ × Referrer)) (xs : List A) (at : ℕ) (x : A) (r : ℕ × Referrer) → slice_get xs at ≡ Some x → Among r (f at x) → Among r (gathered f xs)
gathered_among {A} f xs at x r found h = among_each (λ (p : ℕ × A). f p.0 p.1) (at, x) r (enumerate_from 0 xs) (among_numbered 0 at at x xs (omega arith) found) h

pub of_accessors : (a : AssetParts) (at : ℕ) (y : Accessor) (r : ℕ × Referrer) → slice_get a.accessors at ≡ Some y → Among r (accessor_references at y) → Among r (references a.accessors a.images)
of_accessors a at y r found h =
    among_front r (gathered accessor_references a.accessors) (gathered image_references a.images) (gathered_among accessor_references a.accessors at y r found h)

pub view_among : (at view : ℕ) (y : Accessor) → y.view ≡ Some view → Among (view, of_accessor at) (accessor_references at y)
view_among at view y e =
    among_front (view, of_accessor at) (map (λ v. (v, of_accessor at)) (option_to_list y.view)) (flat_map (sparse_references at) (option_to_list y.sparse))
    (subst (λ o. Among {A = ℕ × Referrer} (view, of_accessor at) (map (λ v. (v, of_accessor at)) (option_to_list o))) (sym e) (inl refl))

pub sparse_among : (at : ℕ) (y : Accessor) (p : Sparse) (r : ℕ × Referrer) → y.sparse ≡ Some p → Among r (sparse_references at p) → Among r (accessor_references at y)
sparse_among at y p r e h =
    among_behind r (map (λ v. (v, of_accessor at)) (option_to_list y.view)) (flat_map (sparse_references at) (option_to_list y.sparse))
    (subst (λ o. Among r (flat_map (sparse_references at) (option_to_list o))) (sym e) (among_front r (sparse_references at p) [] h))

-- ---- those of an accessor that doesn't move have new numbers

view_again : (moved : List Moved) (a : AssetParts) (at : ℕ) (y : Accessor) (view : Option ℕ) → slice_get a.accessors at ≡ Some y → is_moved moved at ≡ false → y.view ≡ view
    → IfSome view (λ v. v < length a.views) → count_views moved a ≤ 2 ^ 32 → IfSome view (IsRenumbered (renumbered moved a) (count_views moved a))
view_again moved a at y None found stays e within few = tt
view_again moved a at y (Some v) found stays e within few =
    survivors_numbered moved a v within (stays_by moved a v (of_accessor at) (of_accessors a at y (v, of_accessor at) found (view_among at v y e)) stays) few

sparse_again : (moved : List Moved) (a : AssetParts) (at : ℕ) (y : Accessor) (sparse : Option SparseFields) → slice_get a.accessors at ≡ Some y → is_moved moved at ≡ false
    → sparse_of sparse ≡ Some y.sparse
    → IfSome sparse (SparseRefersBelow (length a.views)) → count_views moved a ≤ 2 ^ 32 → IfSome sparse (IsSparseRenumbered (renumbered moved a) (count_views moved a))
sparse_again moved a at y None found stays e within few = tt
sparse_again moved a at y (Some s) found stays e within few =
    let p = part_of s y.sparse e in
    let index : Among (s.indices.view, of_sparse_indices at) (sparse_references at p.0) = inl (ap (λ v. (v, of_sparse_indices at)) p.2) in
    let value : Among (s.values.view, of_sparse_values at) (sparse_references at p.0) = inr (inl (ap (λ v. (v, of_sparse_values at)) p.3)) in
    record {
      indices =
          survivors_numbered moved a s.indices.view within.0
          (stays_by moved a s.indices.view (of_sparse_indices at) (of_accessors a at y (s.indices.view, of_sparse_indices at) found (sparse_among at y p.0 (s.indices.view, of_sparse_indices at) p.1 index)) stays) few;
      values =
          survivors_numbered moved a s.values.view within.1
          (stays_by moved a s.values.view (of_sparse_values at) (of_accessors a at y (s.values.view, of_sparse_values at) found (sparse_among at y p.0 (s.values.view, of_sparse_values at) p.1 value)) stays) few;
    }

pub kept_renumbered : (moved : List Moved) (a : AssetParts) (at : ℕ) (fs : List AccessorFields) (f : AccessorFields) → each (accessor_of a.views) 0 fs ≡ Ok a.accessors
    → Each (RefersBelow (length a.views)) fs → count_views moved a ≤ 2 ^ 32 → slice_get fs at ≡ Some f → is_moved moved at ≡ false
    → AreRenumbered (renumbered moved a) (count_views moved a) f
kept_renumbered moved a at fs f ruled within few found stays =
    let s = stands_at a.views 0 at fs a.accessors f ruled found in
    let k = known_parts f s.0 s.2 in
    let b = each_found (RefersBelow (length a.views)) fs at f within found in
    record { view = view_again moved a at s.0 f.view s.1 stays k.0 b.0 few; sparse = sparse_again moved a at s.0 f.sparse s.1 stays k.1 b.1 few }

-- ---- and those of images

pub of_images : (a : AssetParts) (at view : ℕ) → slice_get a.images at ≡ Some (Some view) → Among (view, of_image at) (references a.accessors a.images)
of_images a at view found =
    among_behind (view, of_image at) (gathered accessor_references a.accessors) (gathered image_references a.images)
    (gathered_among image_references a.images at (Some view) (view, of_image at) found (inl refl))

image_renumbered : (moved : List Moved) (a : AssetParts) (at : ℕ) (image : Option ℕ) → slice_get a.images at ≡ Some image → IfSome image (λ v. v < length a.views) → count_views moved a ≤ 2 ^ 32
    → IfSome image (IsRenumbered (renumbered moved a) (count_views moved a))
image_renumbered moved a at None found within few = tt
image_renumbered moved a at (Some v) found within few = survivors_numbered moved a v within (stays_by moved a v (of_image at) (of_images a at v found) refl) few

-- what holds of each item where it stands
pub each_by_place : {A : Type 0} (P : A → Type 0) (xs : List A) → ((i : ℕ) (x : A) → slice_get xs i ≡ Some x → P x) → Each P xs
each_by_place P [] one = tt
each_by_place P (x ∷ xs) one = (one 0 x refl, each_by_place P xs (λ i y found. one (suc i) y found))

pub images_renumbered : ImageNumbersAreRead
images_renumbered moved a within few =
    all_of_each (λ image. IfSome image (IsRenumbered (renumbered moved a) (count_views moved a))) a.images
    (each_by_place (λ image. IfSome image (IsRenumbered (renumbered moved a) (count_views moved a))) a.images
    (λ i image found. image_renumbered moved a i image found (each_found (λ o. IfSome o (λ v. v < length a.views)) a.images i image (each_of_all (λ o. IfSome o (λ v. v < length a.views)) a.images within) found) few))

-- ---- what was read refers to views of the asset

below_holds : (b : Bool) (w v n : ℕ) → nat_lt w n ≡ b → (if b then Some w else None) ≡ Some v → v < n
below_holds true w v n e h =
    let same : w ≡ v = cc in
    subst (λ k. k < n) same (ltb-true w n e)
below_holds false w v n e h = absurd (cc)

pub reference_below : (n v : ℕ) (x : PlainTree) → reference n x ≡ Some v → v < n
reference_below n v x e =
    let s = and_then_some (below n) (whole x) v e in
    below_holds (nat_lt s.0 n) s.0 v n refl s.2

required_below : (n v : ℕ) (t : PlainTree) → required t (codes "bufferView") (reference n) ≡ Some v → v < n
required_below n v t e =
    let s = and_then_some (reference n) (find_member (codes "bufferView") t) v e in
    reference_below n v s.0 s.2

pub found_below : (n : ℕ) (view : Option ℕ) (found : Option PlainTree) → read_of (reference n) found ≡ Some view → IfSome view (λ v. v < n)
found_below n view None e = subst (λ o. IfSome o (λ v. v < n)) (sym (none_read view e)) tt
found_below n view (Some x) e =
    let s = mapped_some (reference n x) view e in
    subst (λ o. IfSome o (λ v. v < n)) (sym s.2) (reference_below n s.0 x s.1)

optional_below : (n : ℕ) (view : Option ℕ) (t : PlainTree) → optional t (codes "bufferView") (reference n) ≡ Some view → IfSome view (λ v. v < n)
optional_below n view t e =
    let found = find_member (codes "bufferView") t in
    found_below n view found (sym (optional_is (codes "bufferView") (reference n) t found refl) ∙ e)

sparse_below : (n : ℕ) (s : SparseFields) (x : PlainTree) → object_of (sparse_fields n) x ≡ Some s → SparseRefersBelow n s
sparse_below n s x e =
    let p = sparse_parts n x s (object_read (sparse_fields n) x s e).1 in
    let i = and_then_some (object_of (sparse_indices_fields n)) (find_member (codes "indices") x) s.indices p.indices in
    let v = and_then_some (object_of (sparse_values_fields n)) (find_member (codes "values") x) s.values p.values in
    let index = indices_parts n i.0 s.indices (object_read (sparse_indices_fields n) i.0 s.indices i.2).1 in
    let value = values_parts n v.0 s.values (object_read (sparse_values_fields n) v.0 s.values v.2).1 in
    (required_below n s.indices.view i.0 index.view, required_below n s.values.view v.0 value.view)

sparse_found : (n : ℕ) (sparse : Option SparseFields) (found : Option PlainTree) → read_of (object_of (sparse_fields n)) found ≡ Some sparse → IfSome sparse (SparseRefersBelow n)
sparse_found n sparse None e = subst (λ o. IfSome o (SparseRefersBelow n)) (sym (none_read sparse e)) tt
sparse_found n sparse (Some x) e =
    let s = mapped_some (object_of (sparse_fields n) x) sparse e in
    subst (λ o. IfSome o (SparseRefersBelow n)) (sym s.2) (sparse_below n s.0 x s.1)

accessor_below : (n : ℕ) (t : PlainTree) (f : AccessorFields) → object_of (accessor_fields n) t ≡ Some f → RefersBelow n f
accessor_below n t f e =
    let p = accessor_parts n t f (object_read (accessor_fields n) t f e).1 in
    let found = find_member (codes "sparse") t in
    (optional_below n f.view t p.view, sparse_found n f.sparse found (sym (optional_is (codes "sparse") (object_of (sparse_fields n)) t found refl) ∙ p.sparse))

image_below : (n : ℕ) (t : PlainTree) (image : Option ℕ) → object_of (image_fields n) t ≡ Some image → IfSome image (λ v. v < n)
image_below n t image e = optional_below n image t (object_read (image_fields n) t image e).1

-- of each item
pub each_holds : {A : Type 0} (shape : Shaped A) (P : A → Type 0) → ((t : PlainTree) (x : A) → shape t ≡ Some x → P x) → (ts : List PlainTree) (xs : List A) → AreRead shape ts xs → Each P xs
each_holds shape P one [] [] h = tt
each_holds shape P one [] (x ∷ xs) h = absurd h
each_holds shape P one (t ∷ ts) [] h = absurd h
each_holds shape P one (t ∷ ts) (x ∷ xs) h = (one t x h.0, each_holds shape P one ts xs h.1)

pub member_holds : {A : Type 0} (place : Place) (shape : Shaped A) (P : A → Type 0) → ((t : PlainTree) (x : A) → shape t ≡ Some x → P x) → (found : Option PlainTree) (xs : List A)
    → items_by place shape found ≡ Ok xs → Each P xs
member_holds {A} place shape P one None xs h =
    let h' : ◌≡◌ {A = Result (List A) FieldFault} (Ok []) (Ok xs) = h in
    let empty : [] ≡ xs = cc in
    subst (Each P) empty tt
member_holds place shape P one (Some null) xs h = absurd (cc)
member_holds place shape P one (Some (truth b)) xs h = absurd (cc)
member_holds place shape P one (Some (number s)) xs h = absurd (cc)
member_holds place shape P one (Some (text s)) xs h = absurd (cc)
member_holds place shape P one (Some (members ms)) xs h = absurd (cc)
member_holds place shape P one (Some (list ts)) xs h = each_holds shape P one (item_list ts) xs (items_are_read place shape ts xs h)

pub references_below : ReferencesAreBelow
references_below n root fs h =
    let shape = object_of (accessor_fields n) in
    let found = find_member (codes "accessors") root in
    all_of_each (RefersBelow n) fs (member_holds Accessors shape (RefersBelow n) (accessor_below n) found fs (sym (items_are Accessors (codes "accessors") shape root found refl) ∙ h))

pub images_below : ImagesAreBelow
images_below n root images h =
    let shape = object_of (image_fields n) in
    let found = find_member (codes "images") root in
    all_of_each (λ image. IfSome image (λ v. v < n)) images
    (member_holds Images shape (λ image. IfSome image (λ v. v < n)) (image_below n) found images (sym (items_are Images (codes "images") shape root found refl) ∙ h))
