-- An accessor that doesn't move, and an image, read back with the new numbers of their views.
use Rattle.std.specs.Prelude.{if◌then◌else◌, codes, IfSome, option_map, option_and_then, unwrap_or}
use Rattle.std.proofs.Common.{◌≡◌, ℕ, Bool, true, false, nat_lt, List, Option, Some, None, refl, sym, ap, ◌∙◌, subst}
use Rattle.gp_tree.specs.Plain.{PlainTree}
use Rattle.gp_tree.specs.Values.{whole}
use Rattle.gp_tree.specs.Find.{IsObject, find_member}
use Rattle.gp_tree.specs.TreeEdits.{change_first, at_member}
use Rattle.gp_tree.proofs.Kept.{find_change, find_change_other}
use Rattle.gp_fields.specs.declared.sparse_fields.SparseFields.{SparseFields}
use Rattle.gp_fields.specs.declared.sparse_fields.SparseIndicesFields.{SparseIndicesFields}
use Rattle.gp_fields.specs.declared.sparse_fields.SparseValuesFields.{SparseValuesFields}
use Rattle.gp_fields.specs.Shapes.{object_of, a_text, below, reference, required, optional, defaulted}
use Rattle.gp_fields.specs.Fields.{AccessorFields, accessor_fields, sparse_fields, sparse_indices_fields, sparse_values_fields, image_fields}
use Rattle.gp_edits.proofs.FieldsBack.{reference_again, apart, required_same, required_found, read_of, optional_is, defaulted_same}
use Rattle.gp_edits.proofs.KeysBack.{object_after}
use Rattle.gp_edits.proofs.ViewsBack.{and_then_some, object_again, object_read}
use Rattle.gp_sameness.specs.Survivors.{renumbered}
use Rattle.gp_sameness.specs.References.{numbered_by}
use Rattle.gp_packed.specs.AccessorsBack.{IsRenumbered, IsSparseRenumbered, AreRenumbered, new_number, kept_sparse_fields, kept_fields, KeptAccessorsReadBack}
use Rattle.gp_packed.proofs.AccessorsRead.{accessor_parts, accessor_of_parts}

-- ---- a reference

below_is : (b : Bool) (w v : ℕ) → (if b then Some w else None) ≡ Some v → w ≡ v
below_is true w v e = cc
below_is false w v e = absurd (cc)

-- a reference is read of a number
reference_read : (n v : ℕ) (x : PlainTree) → reference n x ≡ Some v → whole x ≡ Some v
reference_read n v x e =
    let s = and_then_some (below n) (whole x) v e in
    s.1 ∙ ap Some (below_is (nat_lt s.0 n) s.0 v s.2)

abbrev pub renew : (ℕ → Option ℕ) → PlainTree → PlainTree
renew renumber x = numbered_by x (option_and_then renumber (whole x))

renewed : (renumber : ℕ → Option ℕ) (n others v : ℕ) (x : PlainTree) → reference n x ≡ Some v → IsRenumbered renumber others v
    → reference others (renew renumber x) ≡ Some (new_number renumber v)
renewed renumber n others v x e h =
    ap (λ o. reference others (numbered_by x (option_and_then renumber o))) (reference_read n v x e)
    ∙ ap (λ o. reference others (numbered_by x o)) h.1
    ∙ reference_again others h.0 h.2.within h.2.small
    ∙ ap (λ o. Some (unwrap_or o v)) (sym h.1)

-- what was read of a member that is there
pub mapped_some : {A : Type 0} (o view : Option A) → ◌≡◌ {A = Option (Option A)} (option_map Some o) (Some view) → (v : A) × (o ≡ Some v) × (view ≡ Some v)
mapped_some None view e = absurd (cc)
mapped_some (Some a) view e = (a, refl, sym (ap (λ o. unwrap_or o view) e))

pub none_read : {A : Type 0} (view : Option A) → ◌≡◌ {A = Option (Option A)} (Some None) (Some view) → view ≡ None
none_read view e = sym (ap (λ o. unwrap_or o view) e)

renewed_found : (renumber : ℕ → Option ℕ) (n others : ℕ) (view : Option ℕ) (found : Option PlainTree) → read_of (reference n) found ≡ Some view → IfSome view (IsRenumbered renumber others)
    → read_of (reference others) (option_map (renew renumber) found) ≡ Some (option_map (new_number renumber) view)
renewed_found renumber n others view None e h = ap (λ o. Some (option_map (new_number renumber) o)) (sym (none_read view e))
renewed_found renumber n others view (Some x) e h =
    let s = mapped_some (reference n x) view e in
    ap (option_map Some) (renewed renumber n others s.0 x s.1 (subst (λ o. IfSome o (IsRenumbered renumber others)) s.2 h))
    ∙ ap (λ o. Some (option_map (new_number renumber) o)) (sym s.2)

-- the `bufferView` of an object, which may be absent
abbrev pub renew_view : (ℕ → Option ℕ) → PlainTree → PlainTree
renew_view renumber t = at_member (codes "bufferView") (renew renumber) t

view_renewed : (renumber : ℕ → Option ℕ) (n others : ℕ) (view : Option ℕ) (t u : PlainTree) → find_member (codes "bufferView") u ≡ option_map (renew renumber) (find_member (codes "bufferView") t)
    → optional t (codes "bufferView") (reference n) ≡ Some view → IfSome view (IsRenumbered renumber others)
    → optional u (codes "bufferView") (reference others) ≡ Some (option_map (new_number renumber) view)
view_renewed renumber n others view t u is e h =
    let found = find_member (codes "bufferView") t in
    optional_is (codes "bufferView") (reference others) u (option_map (renew renumber) found) is
    ∙ renewed_found renumber n others view found (sym (optional_is (codes "bufferView") (reference n) t found refl) ∙ e) h

-- and one that is there
required_renewed : (renumber : ℕ → Option ℕ) (n others view : ℕ) (t : PlainTree) → required t (codes "bufferView") (reference n) ≡ Some view → IsRenumbered renumber others view
    → required (renew_view renumber t) (codes "bufferView") (reference others) ≡ Some (new_number renumber view)
required_renewed renumber n others view t e h =
    let s = and_then_some (reference n) (find_member (codes "bufferView") t) view e in
    required_found (codes "bufferView") (reference others) (renew renumber s.0) (renew_view renumber t) (find_change (codes "bufferView") (renew renumber) t ∙ ap (option_map (renew renumber)) s.1)
    ∙ renewed renumber n others view s.0 s.2 h

view_object : (renumber : ℕ → Option ℕ) (t : PlainTree) → IsObject t → IsObject (renew_view renumber t)
view_object renumber t o = object_after (change_first (codes "bufferView") (renew renumber)) t o

-- ---- an image

pub image_again : (renumber : ℕ → Option ℕ) (views others : ℕ) (t : PlainTree) (view : Option ℕ) → object_of (image_fields views) t ≡ Some view → IfSome view (IsRenumbered renumber others)
    → object_of (image_fields others) (renew_view renumber t) ≡ Some (option_map (new_number renumber) view)
image_again renumber views others t view e h =
    let r = object_read (image_fields views) t view e in
    object_again (image_fields others) (renew_view renumber t) (view_object renumber t r.0)
    ∙ view_renewed renumber views others view t (renew_view renumber t) (find_change (codes "bufferView") (renew renumber) t) r.1 h

-- ---- the sparse part of an accessor

abbrev renewed_indices_fields : (ℕ → Option ℕ) → SparseIndicesFields → SparseIndicesFields
renewed_indices_fields renumber i = record { view = new_number renumber i.view; offset = i.offset; component = i.component }

abbrev renewed_values_fields : (ℕ → Option ℕ) → SparseValuesFields → SparseValuesFields
renewed_values_fields renumber v = record { view = new_number renumber v.view; offset = v.offset }

-- a member beside `bufferView` is found as before
view_other : (renumber : ℕ → Option ℕ) (name : List ℕ) (t : PlainTree) → (name ≡ codes "bufferView" → ⊥) → find_member name (renew_view renumber t) ≡ find_member name t
view_other renumber name t d = find_change_other name (codes "bufferView") (renew renumber) t d

pub record AreIndices (n : ℕ) (t : PlainTree) (i : SparseIndicesFields) : Type 0 where
  pub view : required t (codes "bufferView") (reference n) ≡ Some i.view
  pub offset : defaulted t (codes "byteOffset") 0 whole ≡ Some i.offset
  pub component : required t (codes "componentType") whole ≡ Some i.component

pub indices_parts : (n : ℕ) (t : PlainTree) (i : SparseIndicesFields) → sparse_indices_fields n t ≡ Some i → AreIndices n t i
indices_parts n t i e =
    let s1 = and_then_some _ (required t (codes "bufferView") (reference n)) i e in
    let s2 = and_then_some _ (defaulted t (codes "byteOffset") 0 whole) i s1.2 in
    let s3 = and_then_some _ (required t (codes "componentType") whole) i s2.2 in
    let same : record { view = s1.0; offset = s2.0; component = s3.0 } ≡ i = ap (λ o. unwrap_or o i) s3.2 in
    record { view = s1.1 ∙ ap (λ w. Some w.view) same; offset = s2.1 ∙ ap (λ w. Some w.offset) same; component = s3.1 ∙ ap (λ w. Some w.component) same }

indices_of_parts : (n : ℕ) (t : PlainTree) (i : SparseIndicesFields) → AreIndices n t i → sparse_indices_fields n t ≡ Some i
indices_of_parts n t i h = ap (option_and_then _) h.view ∙ ap (option_and_then _) h.offset ∙ ap (option_and_then _) h.component

renewed_indices : (renumber : ℕ → Option ℕ) (views others : ℕ) (t : PlainTree) (i : SparseIndicesFields)
    → object_of (sparse_indices_fields views) t ≡ Some i → IsRenumbered renumber others i.view
    → object_of (sparse_indices_fields others) (renew_view renumber t) ≡ Some (renewed_indices_fields renumber i)
renewed_indices renumber views others t i e h =
    let r = object_read (sparse_indices_fields views) t i e in
    let p = indices_parts views t i r.1 in
    let u = renew_view renumber t in
    object_again (sparse_indices_fields others) u (view_object renumber t r.0)
    ∙ indices_of_parts others u (renewed_indices_fields renumber i) (record {
      view = required_renewed renumber views others i.view t p.view h;
      offset = defaulted_same (codes "byteOffset") 0 whole t u (view_other renumber (codes "byteOffset") t (apart _ _ refl)) ∙ p.offset;
      component = required_same (codes "componentType") whole t u (view_other renumber (codes "componentType") t (apart _ _ refl)) ∙ p.component;
    })

pub record AreValues (n : ℕ) (t : PlainTree) (v : SparseValuesFields) : Type 0 where
  pub view : required t (codes "bufferView") (reference n) ≡ Some v.view
  pub offset : defaulted t (codes "byteOffset") 0 whole ≡ Some v.offset

pub values_parts : (n : ℕ) (t : PlainTree) (v : SparseValuesFields) → sparse_values_fields n t ≡ Some v → AreValues n t v
values_parts n t v e =
    let s1 = and_then_some _ (required t (codes "bufferView") (reference n)) v e in
    let s2 = and_then_some _ (defaulted t (codes "byteOffset") 0 whole) v s1.2 in
    let same : record { view = s1.0; offset = s2.0 } ≡ v = ap (λ o. unwrap_or o v) s2.2 in
    record { view = s1.1 ∙ ap (λ w. Some w.view) same; offset = s2.1 ∙ ap (λ w. Some w.offset) same }

values_of_parts : (n : ℕ) (t : PlainTree) (v : SparseValuesFields) → AreValues n t v → sparse_values_fields n t ≡ Some v
values_of_parts n t v h = ap (option_and_then _) h.view ∙ ap (option_and_then _) h.offset

renewed_values : (renumber : ℕ → Option ℕ) (views others : ℕ) (t : PlainTree) (v : SparseValuesFields)
    → object_of (sparse_values_fields views) t ≡ Some v → IsRenumbered renumber others v.view
    → object_of (sparse_values_fields others) (renew_view renumber t) ≡ Some (renewed_values_fields renumber v)
renewed_values renumber views others t v e h =
    let r = object_read (sparse_values_fields views) t v e in
    let p = values_parts views t v r.1 in
    let u = renew_view renumber t in
    object_again (sparse_values_fields others) u (view_object renumber t r.0)
    ∙ values_of_parts others u (renewed_values_fields renumber v) (record {
      view = required_renewed renumber views others v.view t p.view h;
      offset = defaulted_same (codes "byteOffset") 0 whole t u (view_other renumber (codes "byteOffset") t (apart _ _ refl)) ∙ p.offset;
    })

pub record IsSparse (n : ℕ) (t : PlainTree) (s : SparseFields) : Type 0 where
  pub count : required t (codes "count") whole ≡ Some s.count
  pub indices : required t (codes "indices") (object_of (sparse_indices_fields n)) ≡ Some s.indices
  pub values : required t (codes "values") (object_of (sparse_values_fields n)) ≡ Some s.values

pub sparse_parts : (n : ℕ) (t : PlainTree) (s : SparseFields) → sparse_fields n t ≡ Some s → IsSparse n t s
sparse_parts n t s e =
    let s1 = and_then_some _ (required t (codes "count") whole) s e in
    let s2 = and_then_some _ (required t (codes "indices") (object_of (sparse_indices_fields n))) s s1.2 in
    let s3 = and_then_some _ (required t (codes "values") (object_of (sparse_values_fields n))) s s2.2 in
    let same : record { count = s1.0; indices = s2.0; values = s3.0 } ≡ s = ap (λ o. unwrap_or o s) s3.2 in
    record { count = s1.1 ∙ ap (λ w. Some w.count) same; indices = s2.1 ∙ ap (λ w. Some w.indices) same; values = s3.1 ∙ ap (λ w. Some w.values) same }

sparse_of_parts : (n : ℕ) (t : PlainTree) (s : SparseFields) → IsSparse n t s → sparse_fields n t ≡ Some s
sparse_of_parts n t s h = ap (option_and_then _) h.count ∙ ap (option_and_then _) h.indices ∙ ap (option_and_then _) h.values

abbrev renew_sparse : (ℕ → Option ℕ) → PlainTree → PlainTree
renew_sparse renumber t = at_member (codes "values") (renew_view renumber) (at_member (codes "indices") (renew_view renumber) t)

indices_found : (renumber : ℕ → Option ℕ) (t x : PlainTree) → find_member (codes "indices") t ≡ Some x → find_member (codes "indices") (renew_sparse renumber t) ≡ Some (renew_view renumber x)
indices_found renumber t x e =
    let change = renew_view renumber in
    find_change_other (codes "indices") (codes "values") change (at_member (codes "indices") change t) (apart _ _ refl)
    ∙ find_change (codes "indices") change t
    ∙ ap (option_map change) e

values_found : (renumber : ℕ → Option ℕ) (t x : PlainTree) → find_member (codes "values") t ≡ Some x → find_member (codes "values") (renew_sparse renumber t) ≡ Some (renew_view renumber x)
values_found renumber t x e =
    let change = renew_view renumber in
    find_change (codes "values") change (at_member (codes "indices") change t)
    ∙ ap (option_map change) (find_change_other (codes "values") (codes "indices") change t (apart _ _ refl) ∙ e)

sparse_count : (renumber : ℕ → Option ℕ) (t : PlainTree) → find_member (codes "count") (renew_sparse renumber t) ≡ find_member (codes "count") t
sparse_count renumber t =
    let change = renew_view renumber in
    find_change_other (codes "count") (codes "values") change (at_member (codes "indices") change t) (apart _ _ refl)
    ∙ find_change_other (codes "count") (codes "indices") change t (apart _ _ refl)

sparse_object : (renumber : ℕ → Option ℕ) (t : PlainTree) → IsObject t → IsObject (renew_sparse renumber t)
sparse_object renumber t o =
    let change = renew_view renumber in
    object_after (change_first (codes "values") change) (at_member (codes "indices") change t) (object_after (change_first (codes "indices") change) t o)

renewed_sparse : (renumber : ℕ → Option ℕ) (views others : ℕ) (t : PlainTree) (s : SparseFields)
    → object_of (sparse_fields views) t ≡ Some s → IsSparseRenumbered renumber others s
    → object_of (sparse_fields others) (renew_sparse renumber t) ≡ Some (kept_sparse_fields renumber s)
renewed_sparse renumber views others t s e h =
    let r = object_read (sparse_fields views) t s e in
    let p = sparse_parts views t s r.1 in
    let u = renew_sparse renumber t in
    let i = and_then_some (object_of (sparse_indices_fields views)) (find_member (codes "indices") t) s.indices p.indices in
    let v = and_then_some (object_of (sparse_values_fields views)) (find_member (codes "values") t) s.values p.values in
    object_again (sparse_fields others) u (sparse_object renumber t r.0)
    ∙ sparse_of_parts others u (kept_sparse_fields renumber s) (record {
      count = required_same (codes "count") whole t u (sparse_count renumber t) ∙ p.count;
      indices =
          required_found (codes "indices") (object_of (sparse_indices_fields others)) (renew_view renumber i.0) u (indices_found renumber t i.0 i.1)
          ∙ renewed_indices renumber views others i.0 s.indices i.2 h.indices;
      values =
          required_found (codes "values") (object_of (sparse_values_fields others)) (renew_view renumber v.0) u (values_found renumber t v.0 v.1)
          ∙ renewed_values renumber views others v.0 s.values v.2 h.values;
    })

sparse_found : (renumber : ℕ → Option ℕ) (views others : ℕ) (sparse : Option SparseFields) (found : Option PlainTree) → read_of (object_of (sparse_fields views)) found ≡ Some sparse
    → IfSome sparse (IsSparseRenumbered renumber others)
    → read_of (object_of (sparse_fields others)) (option_map (renew_sparse renumber) found) ≡ Some (option_map (kept_sparse_fields renumber) sparse)
sparse_found renumber views others sparse None e h = ap (λ o. Some (option_map (kept_sparse_fields renumber) o)) (sym (none_read sparse e))
sparse_found renumber views others sparse (Some x) e h =
    let s = mapped_some (object_of (sparse_fields views) x) sparse e in
    ap (option_map Some) (renewed_sparse renumber views others x s.0 s.1 (subst (λ o. IfSome o (IsSparseRenumbered renumber others)) s.2 h))
    ∙ ap (λ o. Some (option_map (kept_sparse_fields renumber) o)) (sym s.2)

-- ---- an accessor

abbrev pub renew_accessor : (ℕ → Option ℕ) → PlainTree → PlainTree
renew_accessor renumber t = at_member (codes "sparse") (renew_sparse renumber) (renew_view renumber t)

accessor_other : (renumber : ℕ → Option ℕ) (name : List ℕ) (t : PlainTree) → (name ≡ codes "sparse" → ⊥) → (name ≡ codes "bufferView" → ⊥) → find_member name (renew_accessor renumber t) ≡ find_member name t
accessor_other renumber name t d e =
    find_change_other name (codes "sparse") (renew_sparse renumber) (renew_view renumber t) d ∙ find_change_other name (codes "bufferView") (renew renumber) t e

pub accessor_again : (renumber : ℕ → Option ℕ) (views others : ℕ) (t : PlainTree) (f : AccessorFields) → object_of (accessor_fields views) t ≡ Some f → AreRenumbered renumber others f
    → object_of (accessor_fields others) (renew_accessor renumber t) ≡ Some (kept_fields renumber f)
accessor_again renumber views others t f e h =
    let r = object_read (accessor_fields views) t f e in
    let p = accessor_parts views t f r.1 in
    let inner = renew_view renumber t in
    let u = renew_accessor renumber t in
    let found = find_member (codes "sparse") t in
    object_again (accessor_fields others) u (object_after (change_first (codes "sparse") (renew_sparse renumber)) inner (view_object renumber t r.0))
    ∙ accessor_of_parts others u (kept_fields renumber f) (record {
      view =
          view_renewed renumber views others f.view t u
          (find_change_other (codes "bufferView") (codes "sparse") (renew_sparse renumber) inner (apart _ _ refl) ∙ find_change (codes "bufferView") (renew renumber) t)
          p.view h.view;
      offset = defaulted_same (codes "byteOffset") 0 whole t u (accessor_other renumber (codes "byteOffset") t (apart _ _ refl) (apart _ _ refl)) ∙ p.offset;
      component = required_same (codes "componentType") whole t u (accessor_other renumber (codes "componentType") t (apart _ _ refl) (apart _ _ refl)) ∙ p.component;
      count = required_same (codes "count") whole t u (accessor_other renumber (codes "count") t (apart _ _ refl) (apart _ _ refl)) ∙ p.count;
      shape = required_same (codes "type") a_text t u (accessor_other renumber (codes "type") t (apart _ _ refl) (apart _ _ refl)) ∙ p.shape;
      sparse =
          optional_is (codes "sparse") (object_of (sparse_fields others)) u (option_map (renew_sparse renumber) found)
          (find_change (codes "sparse") (renew_sparse renumber) inner ∙ ap (option_map (renew_sparse renumber)) (find_change_other (codes "sparse") (codes "bufferView") (renew renumber) t (apart _ _ refl)))
          ∙ sparse_found renumber views others f.sparse found (sym (optional_is (codes "sparse") (object_of (sparse_fields views)) t found refl) ∙ p.sparse) h.sparse;
    })

pub kept_again : KeptAccessorsReadBack
kept_again moved a views others at t f e kept h =
    ap (λ b. object_of (accessor_fields others) (if b then renew_accessor (renumbered moved a) t else t)) kept
    ∙ accessor_again (renumbered moved a) views others t f e h
