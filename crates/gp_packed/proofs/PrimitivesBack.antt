-- A primitive reads back with the indices of its group.
use Rattle.std.specs.Prelude.{if◌then◌else◌, is_none, codes, option_map, IfSome}
use Rattle.std.specs.Option.{option_or}
use Rattle.std.proofs.Common.{◌≡◌, ℕ, ◌≤◌, Option, Some, None, refl, sym, ap, ◌∙◌}
use Rattle.gp_tree.specs.Plain.{PlainTree}
use Rattle.gp_tree.specs.Values.{whole, IsName}
use Rattle.gp_tree.specs.Find.{IsObject, find_member}
use Rattle.gp_tree.specs.TreeEdits.{set_first, with_member}
use Rattle.gp_tree.proofs.Kept.{find_set, find_set_other}
use Rattle.gp_fields.specs.declared.geometry.PrimitiveFields.{PrimitiveFields}
use Rattle.gp_fields.specs.Shapes.{Shaped, object_of, list_of, reference}
use Rattle.gp_fields.specs.Fields.{entries_fields, primitive_fields}
use Rattle.gp_edits.specs.Changes.{whole_number}
use Rattle.gp_edits.proofs.FieldsBack.{reference_again, a_name, apart, required_same, optional_is, defaulted_same, read_of}
use Rattle.gp_edits.proofs.KeysBack.{object_after}
use Rattle.gp_edits.proofs.ViewsBack.{object_again, object_read}
use Rattle.gp_packed.specs.MeshesBack.{indexed_fields, IsAccessorOf, PrimitivesReadBack}
use Rattle.gp_packed.proofs.Wider.{map_some, IsPrimitive, primitive_parts, primitive_of_parts, parts_more, primitive_more}

or_none : (o : Option ℕ) → option_or o None ≡ o
or_none None = refl
or_none (Some at) = refl

-- a value that is read of a member that is there
or_read : {A : Type 0} (shape : Shaped A) (v : PlainTree) (o other : Option A) → read_of shape (Some v) ≡ Some o → option_or o other ≡ o
or_read shape v o other e =
    let s = map_some Some (shape v) o e in
    ap (λ x. option_or x other) (sym s.2) ∙ s.2

indices_name : IsName (codes "indices")
indices_name = a_name (codes "indices") refl

-- with this number set
with_number : (n m at : ℕ) (t : PlainTree) (p : PrimitiveFields) → n ≤ m → IsAccessorOf m at → IsObject t → IsPrimitive n t p → p.indices ≡ None
    → object_of (primitive_fields m) (with_member (codes "indices") (whole_number at) t) ≡ Some (indexed_fields (Some at) p)
with_number n m at t p le below o parts none =
    let key = codes "indices" in
    let value = whole_number at in
    let u = with_member key value t in
    let more = parts_more n m le t p parts in
    let number : Some (Some at) ≡ Some (option_or p.indices (Some at)) = ap (λ x. Some (option_or x (Some at))) (sym none) in
    object_again (primitive_fields m) u (object_after (set_first key value) t o)
    ∙ primitive_of_parts m u (indexed_fields (Some at) p) (record {
      attributes = required_same (codes "attributes") (object_of (entries_fields m)) t u (find_set_other (codes "attributes") key value t (apart _ _ refl) indices_name) ∙ more.attributes;
      indices =
          optional_is key (reference m) u (Some value) (find_set key value t o indices_name)
          ∙ ap (option_map Some) (reference_again m at below.0 below.1)
          ∙ number;
      mode = defaulted_same (codes "mode") 4 whole t u (find_set_other (codes "mode") key value t (apart _ _ refl) indices_name) ∙ more.mode;
      targets =
          defaulted_same (codes "targets") _ (list_of (object_of (entries_fields m))) t u (find_set_other (codes "targets") key value t (apart _ _ refl) indices_name)
          ∙ more.targets;
    })

same_but : (p : PrimitiveFields) (o : Option ℕ) → option_or p.indices o ≡ p.indices → p ≡ indexed_fields o p
same_but p o e = ap (λ x. record { mode = p.mode; attributes = p.attributes; targets = p.targets; indices = x }) (sym e)

-- by whether it has indices
number_by : (n m at : ℕ) (t : PlainTree) (p : PrimitiveFields) (found : Option PlainTree) → find_member (codes "indices") t ≡ found
    → object_of (primitive_fields n) t ≡ Some p → n ≤ m → IsAccessorOf m at
    → object_of (primitive_fields m) (if is_none found then with_member (codes "indices") (whole_number at) t else t) ≡ Some (indexed_fields (Some at) p)
number_by n m at t p None e h le below =
    let r = object_read (primitive_fields n) t p h in
    let parts = primitive_parts n t p r.1 in
    let read : read_of (reference n) None ≡ Some p.indices = sym (optional_is (codes "indices") (reference n) t None e) ∙ parts.indices in
    let none : p.indices ≡ None = sym (ap (λ o. elim o as (λ x. Option ℕ) [ None ↦ None | Some i ↦ i ]) read) in
    with_number n m at t p le below r.0 parts none
number_by n m at t p (Some v) e h le below =
    let r = object_read (primitive_fields n) t p h in
    let parts = primitive_parts n t p r.1 in
    let read : read_of (reference n) (Some v) ≡ Some p.indices = sym (optional_is (codes "indices") (reference n) t (Some v) e) ∙ parts.indices in
    primitive_more n m le t p h ∙ ap Some (same_but p (Some at) (or_read (reference n) v p.indices (Some at) read))

-- by the number of the group
abbrev set_by : Option ℕ → PlainTree → PlainTree
set_by number t = elim number [
  | None ↦ t
  | Some at ↦ if is_none (find_member (codes "indices") t) then with_member (codes "indices") (whole_number at) t else t
]

set_again : (n m : ℕ) (number : Option ℕ) (t : PlainTree) (p : PrimitiveFields) → object_of (primitive_fields n) t ≡ Some p → n ≤ m → IfSome number (IsAccessorOf m)
    → object_of (primitive_fields m) (set_by number t) ≡ Some (indexed_fields number p)
set_again n m None t p h le below = primitive_more n m le t p h ∙ ap Some (same_but p None (or_none p.indices))
set_again n m (Some at) t p h le below = number_by n m at t p (find_member (codes "indices") t) refl h le below

pub primitive_again : PrimitivesReadBack
primitive_again n m None t p h le below = primitive_more n m le t p h ∙ ap Some (same_but p None (or_none p.indices))
primitive_again n m (Some group) t p h le below = set_again n m group.list_accessor t p h le below
