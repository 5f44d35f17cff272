-- An accessor that moves, and one that is made, read back.
use Rattle.std.specs.Prelude.{if◌then◌else◌, codes, option_map, option_and_then, unwrap_or}
use Rattle.std.specs.Str.{chars}
use Rattle.std.proofs.Common.{◌≡◌, ℕ, ◌<◌, ◌^◌, Bool, true, false, nat_le, List, [], ◌∷◌, length, Option, Some, None, refl, ap, ◌∙◌, arith}
use Rattle.gp_tree.specs.Plain.{PlainTree, text, members, members_of}
use Rattle.gp_tree.specs.Values.{whole, IsName}
use Rattle.gp_tree.specs.Sound.{HasDistinctKeys}
use Rattle.gp_tree.specs.Find.{IsObject, find_member}
use Rattle.gp_tree.specs.TreeEdits.{set_first, remove_first, with_member, without}
use Rattle.gp_tree.proofs.Kept.{find_set, find_set_other, find_remove_other, find_removed}
use Rattle.gp_fields.specs.Shapes.{object_of, a_text, reference, required, optional, defaulted}
use Rattle.gp_fields.specs.Fields.{AccessorFields, accessor_fields, sparse_fields}
use Rattle.gp_edits.specs.Changes.{whole_number}
use Rattle.gp_edits.proofs.FieldsBack.{whole_again, reference_again, a_name, apart, required_same, required_found, optional_is}
use Rattle.gp_edits.proofs.KeysBack.{IsLone, lone_set, lone_remove, object_after}
use Rattle.gp_edits.proofs.ViewsBack.{and_then_some, object_again, object_read}
use Rattle.gp_sameness.specs.Moved.{Moved}
use Rattle.gp_packed.specs.MadeViews.{list_component}
use Rattle.gp_packed.specs.GroupEdits.{made_number}
use Rattle.gp_packed.specs.AccessorsBack.{ReadsBelow, moved_column_fields, moved_list_fields, made_list_fields, MovedColumnsReadBack, MovedListsReadBack, MadeAccessorsReadBack}

-- ---- the fields of an accessor, one by one

pub record IsAccessor (n : ℕ) (t : PlainTree) (f : AccessorFields) : Type 0 where
  pub view : optional t (codes "bufferView") (reference n) ≡ Some f.view
  pub offset : defaulted t (codes "byteOffset") 0 whole ≡ Some f.offset
  pub component : required t (codes "componentType") whole ≡ Some f.component
  pub count : required t (codes "count") whole ≡ Some f.count
  pub shape : required t (codes "type") a_text ≡ Some f.shape
  pub sparse : optional t (codes "sparse") (object_of (sparse_fields n)) ≡ Some f.sparse

pub accessor_parts : (n : ℕ) (t : PlainTree) (f : AccessorFields) → accessor_fields n t ≡ Some f → IsAccessor n t f
accessor_parts n t f e =
    let s1 = and_then_some _ (optional t (codes "bufferView") (reference n)) f e in
    let s2 = and_then_some _ (defaulted t (codes "byteOffset") 0 whole) f s1.2 in
    let s3 = and_then_some _ (required t (codes "componentType") whole) f s2.2 in
    let s4 = and_then_some _ (required t (codes "count") whole) f s3.2 in
    let s5 = and_then_some _ (required t (codes "type") a_text) f s4.2 in
    let s6 = and_then_some _ (optional t (codes "sparse") (object_of (sparse_fields n))) f s5.2 in
    let same : record { view = s1.0; offset = s2.0; component = s3.0; shape = s5.0; count = s4.0; sparse = s6.0 } ≡ f = ap (λ o. unwrap_or o f) s6.2 in
    record {
      view = s1.1 ∙ ap (λ w. Some w.view) same;
      offset = s2.1 ∙ ap (λ w. Some w.offset) same;
      component = s3.1 ∙ ap (λ w. Some w.component) same;
      count = s4.1 ∙ ap (λ w. Some w.count) same;
      shape = s5.1 ∙ ap (λ w. Some w.shape) same;
      sparse = s6.1 ∙ ap (λ w. Some w.sparse) same;
    }

pub accessor_of_parts : (n : ℕ) (t : PlainTree) (f : AccessorFields) → IsAccessor n t f → accessor_fields n t ≡ Some f
accessor_of_parts n t f h =
    ap (option_and_then _) h.view ∙ ap (option_and_then _) h.offset ∙ ap (option_and_then _) h.component
    ∙ ap (option_and_then _) h.count ∙ ap (option_and_then _) h.shape ∙ ap (option_and_then _) h.sparse

-- ---- single members after an edit

whole_found : (name : List ℕ) (n : ℕ) (t : PlainTree) → n < 2 ^ 32 → find_member name t ≡ Some (whole_number n) → required t name whole ≡ Some n
whole_found name n t small e = required_found name whole (whole_number n) t e ∙ whole_again n small

pub view_found : (others view : ℕ) (t : PlainTree) → ReadsBelow others view → find_member (codes "bufferView") t ≡ Some (whole_number view)
    → optional t (codes "bufferView") (reference others) ≡ Some (Some view)
view_found others view t h e =
    optional_is (codes "bufferView") (reference others) t (Some (whole_number view)) e ∙ ap (option_map Some) (reference_again others view h.within h.small)

no_offset : (t : PlainTree) → find_member (codes "byteOffset") t ≡ None → defaulted t (codes "byteOffset") 0 whole ≡ Some 0
no_offset t e = ap (option_map (λ found. unwrap_or found 0)) (optional_is (codes "byteOffset") whole t None e)

no_sparse : (others : ℕ) (t : PlainTree) → find_member (codes "sparse") t ≡ None → optional t (codes "sparse") (object_of (sparse_fields others)) ≡ Some None
no_sparse others t e = optional_is (codes "sparse") (object_of (sparse_fields others)) t None e

-- two members set to numbers, and one removed
abbrev set_two : List ℕ → ℕ → ℕ → PlainTree → PlainTree
set_two key n view t = with_member key (whole_number n) (with_member (codes "bufferView") (whole_number view) t)

view_name : IsName (codes "bufferView")
view_name = a_name (codes "bufferView") refl

count_name : IsName (codes "count")
count_name = a_name (codes "count") refl

component_name : IsName (codes "componentType")
component_name = a_name (codes "componentType") refl

two_object : (key : List ℕ) (n view : ℕ) (t : PlainTree) → IsObject t → IsObject (set_two key n view t)
two_object key n view t o =
    object_after (set_first key (whole_number n)) (with_member (codes "bufferView") (whole_number view) t) (object_after (set_first (codes "bufferView") (whole_number view)) t o)

two_other : (key : List ℕ) (n view : ℕ) (t : PlainTree) (name : List ℕ) → IsName key → (name ≡ key → ⊥) → (name ≡ codes "bufferView" → ⊥)
    → find_member name (set_two key n view t) ≡ find_member name t
two_other key n view t name good d e =
    find_set_other name key (whole_number n) (with_member (codes "bufferView") (whole_number view) t) d good
    ∙ find_set_other name (codes "bufferView") (whole_number view) t e view_name

two_first : (key : List ℕ) (n view : ℕ) (t : PlainTree) → IsObject t → IsName key → find_member key (set_two key n view t) ≡ Some (whole_number n)
two_first key n view t o good =
    find_set key (whole_number n) (with_member (codes "bufferView") (whole_number view) t) (object_after (set_first (codes "bufferView") (whole_number view)) t o) good

two_view : (key : List ℕ) (n view : ℕ) (t : PlainTree) → IsObject t → IsName key → (codes "bufferView" ≡ key → ⊥)
    → find_member (codes "bufferView") (set_two key n view t) ≡ Some (whole_number view)
two_view key n view t o good d =
    find_set_other (codes "bufferView") key (whole_number n) (with_member (codes "bufferView") (whole_number view) t) d good
    ∙ find_set (codes "bufferView") (whole_number view) t o view_name

two_lone : (key : List ℕ) (n view : ℕ) (t : PlainTree) (name : List ℕ) → IsName key → (name ≡ key → ⊥) → (name ≡ codes "bufferView" → ⊥) → HasDistinctKeys t
    → IsLone name (set_two key n view t)
two_lone key n view t name good d e keys =
    lone_set name key (whole_number n) (with_member (codes "bufferView") (whole_number view) t) d good
    (lone_set name (codes "bufferView") (whole_number view) t e view_name (record { gone = find_removed name t keys }))

-- ---- a column

column_other : (name : List ℕ) (t : PlainTree) → (name ≡ codes "sparse" → ⊥) → (name ≡ codes "byteOffset" → ⊥)
    → find_member name (without (codes "sparse") (without (codes "byteOffset") t)) ≡ find_member name t
column_other name t d e = find_remove_other name (codes "sparse") (without (codes "byteOffset") t) d ∙ find_remove_other name (codes "byteOffset") t e

column_object : (t : PlainTree) → IsObject t → IsObject (without (codes "sparse") (without (codes "byteOffset") t))
column_object t o = object_after (remove_first (codes "sparse")) (without (codes "byteOffset") t) (object_after (remove_first (codes "byteOffset")) t o)

pub column_again : MovedColumnsReadBack
column_again views others view m t f keys e below small =
    let r = object_read (accessor_fields views) t f e in
    let p = accessor_parts views t f r.1 in
    let count = codes "count" in
    let n = length m.records in
    let s = set_two count n view t in
    let u = without (codes "sparse") (without (codes "byteOffset") s) in
    let o = two_object count n view t r.0 in
    object_again (accessor_fields others) u (column_object s o)
    ∙ accessor_of_parts others u (moved_column_fields view m f) (record {
      view = view_found others view u below (column_other (codes "bufferView") s (apart _ _ refl) (apart _ _ refl) ∙ two_view count n view t r.0 count_name (apart _ _ refl));
      offset =
          no_offset u (find_remove_other (codes "byteOffset") (codes "sparse") (without (codes "byteOffset") s) (apart _ _ refl)
          ∙ (two_lone count n view t (codes "byteOffset") count_name (apart _ _ refl) (apart _ _ refl) keys).gone);
      component =
          required_same (codes "componentType") whole t u (column_other (codes "componentType") s (apart _ _ refl) (apart _ _ refl) ∙ two_other count n view t (codes "componentType") count_name (apart _ _ refl) (apart _ _ refl))
          ∙ p.component;
      count = whole_found count n u small (column_other count s (apart _ _ refl) (apart _ _ refl) ∙ two_first count n view t r.0 count_name);
      shape =
          required_same (codes "type") a_text t u (column_other (codes "type") s (apart _ _ refl) (apart _ _ refl) ∙ two_other count n view t (codes "type") count_name (apart _ _ refl) (apart _ _ refl))
          ∙ p.shape;
      sparse =
          no_sparse others u (lone_remove (codes "sparse") (codes "byteOffset") s (apart _ _ refl)
          (two_lone count n view t (codes "sparse") count_name (apart _ _ refl) (apart _ _ refl) keys)).gone;
    })

-- ---- a list

abbrev without_bounds : PlainTree → PlainTree
without_bounds t = without (codes "max") (without (codes "min") (without (codes "byteOffset") t))

bounds_other : (name : List ℕ) (t : PlainTree) → (name ≡ codes "max" → ⊥) → (name ≡ codes "min" → ⊥) → (name ≡ codes "byteOffset" → ⊥)
    → find_member name (without_bounds t) ≡ find_member name t
bounds_other name t d e g =
    find_remove_other name (codes "max") (without (codes "min") (without (codes "byteOffset") t)) d
    ∙ find_remove_other name (codes "min") (without (codes "byteOffset") t) e
    ∙ find_remove_other name (codes "byteOffset") t g

list_other : (name : List ℕ) (t : PlainTree) → (name ≡ codes "sparse" → ⊥) → (name ≡ codes "max" → ⊥) → (name ≡ codes "min" → ⊥) → (name ≡ codes "byteOffset" → ⊥)
    → find_member name (without (codes "sparse") (without_bounds t)) ≡ find_member name t
list_other name t s d e g = find_remove_other name (codes "sparse") (without_bounds t) s ∙ bounds_other name t d e g

list_object : (t : PlainTree) → IsObject t → IsObject (without (codes "sparse") (without_bounds t))
list_object t o =
    object_after (remove_first (codes "sparse")) (without_bounds t)
    (object_after (remove_first (codes "max")) (without (codes "min") (without (codes "byteOffset") t))
    (object_after (remove_first (codes "min")) (without (codes "byteOffset") t) (object_after (remove_first (codes "byteOffset")) t o)))

list_offset : (t : PlainTree) → IsLone (codes "byteOffset") t → find_member (codes "byteOffset") (without (codes "sparse") (without_bounds t)) ≡ None
list_offset t h =
    let inner = without (codes "byteOffset") t in
    find_remove_other (codes "byteOffset") (codes "sparse") (without_bounds t) (apart _ _ refl)
    ∙ find_remove_other (codes "byteOffset") (codes "max") (without (codes "min") inner) (apart _ _ refl)
    ∙ find_remove_other (codes "byteOffset") (codes "min") inner (apart _ _ refl)
    ∙ h.gone

list_sparse : (t : PlainTree) → IsLone (codes "sparse") t → find_member (codes "sparse") (without (codes "sparse") (without_bounds t)) ≡ None
list_sparse t h =
    let inner = without (codes "byteOffset") t in
    (lone_remove (codes "sparse") (codes "max") (without (codes "min") inner) (apart _ _ refl)
    (lone_remove (codes "sparse") (codes "min") inner (apart _ _ refl) (lone_remove (codes "sparse") (codes "byteOffset") t (apart _ _ refl) h))).gone

component_by : (b : Bool) → (if b then 5123 else 5125) < 2 ^ 32
component_by true = omega arith
component_by false = omega arith

component_small : (m : Moved) → list_component m < 2 ^ 32
component_small m = component_by (nat_le (length m.records) 65535)

pub list_again : MovedListsReadBack
list_again views others view m t f keys e below =
    let r = object_read (accessor_fields views) t f e in
    let p = accessor_parts views t f r.1 in
    let key = codes "componentType" in
    let n = list_component m in
    let s = set_two key n view t in
    let u = without (codes "sparse") (without_bounds s) in
    let o = two_object key n view t r.0 in
    object_again (accessor_fields others) u (list_object s o)
    ∙ accessor_of_parts others u (moved_list_fields view m f) (record {
      view =
          view_found others view u below (list_other (codes "bufferView") s (apart _ _ refl) (apart _ _ refl) (apart _ _ refl) (apart _ _ refl)
          ∙ two_view key n view t r.0 component_name (apart _ _ refl));
      offset = no_offset u (list_offset s (two_lone key n view t (codes "byteOffset") component_name (apart _ _ refl) (apart _ _ refl) keys));
      component = whole_found key n u (component_small m) (list_other key s (apart _ _ refl) (apart _ _ refl) (apart _ _ refl) (apart _ _ refl) ∙ two_first key n view t r.0 component_name);
      count =
          required_same (codes "count") whole t u (list_other (codes "count") s (apart _ _ refl) (apart _ _ refl) (apart _ _ refl) (apart _ _ refl)
          ∙ two_other key n view t (codes "count") component_name (apart _ _ refl) (apart _ _ refl))
          ∙ p.count;
      shape =
          required_same (codes "type") a_text t u (list_other (codes "type") s (apart _ _ refl) (apart _ _ refl) (apart _ _ refl) (apart _ _ refl)
          ∙ two_other key n view t (codes "type") component_name (apart _ _ refl) (apart _ _ refl))
          ∙ p.shape;
      sparse = no_sparse others u (list_sparse s (two_lone key n view t (codes "sparse") component_name (apart _ _ refl) (apart _ _ refl) keys));
    })

-- ---- one that is made

abbrev pub made_list : ℕ → Moved → PlainTree
made_list view m = members (members_of (
    (codes "bufferView", whole_number view)
    ∷ (codes "componentType", whole_number (list_component m))
    ∷ (codes "count", whole_number m.count)
    ∷ (codes "type", text (codes "SCALAR"))
    ∷ []))

pub made_read : (others view : ℕ) (m : Moved) → ReadsBelow others view → m.count < 2 ^ 32
    → object_of (accessor_fields others) (made_list view m) ≡ Some (made_list_fields view m)
unfolding chars
made_read others view m below small =
    let u = made_list view m in
    accessor_of_parts others u (made_list_fields view m) (record {
      view = view_found others view u below refl;
      offset = no_offset u refl;
      component = whole_found (codes "componentType") (list_component m) u (component_small m) refl;
      count = whole_found (codes "count") m.count u small refl;
      shape = required_found (codes "type") a_text (text (codes "SCALAR")) u refl;
      sparse = no_sparse others u refl;
    })

pub made_again : MadeAccessorsReadBack
made_again moved a others m at e below small =
    ap (λ o. option_and_then (object_of (accessor_fields others)) (elim o as (λ x. Option PlainTree) [ None ↦ None | Some place ↦ Some (made_list (made_number moved a place) m) ])) e
    ∙ made_read others (made_number moved a at) m below small
