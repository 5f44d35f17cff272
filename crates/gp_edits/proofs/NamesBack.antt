-- The lists of extensions without a name are lists of texts, and the root keeps its other members.
use Rattle.std.specs.Prelude.{not, is_ok, codes, IsOk}
use Rattle.std.proofs.Common.{◌≡◌, ℕ, List, Some, Result, Ok, Err, refl, sym, ap, ◌∙◌, subst}
use Rattle.gp_tree.specs.Plain.{PlainTree, null, truth, number, text, list, members}
use Rattle.gp_tree.specs.Find.{IsObject, item_list, find_member}
use Rattle.gp_fields.specs.declared.fault.Place.{Place}
use Rattle.gp_fields.specs.declared.fault.Place.TheVariants.{ExtensionsUsed, ExtensionsRequired}
use Rattle.gp_fields.specs.declared.fault.FieldFault.{FieldFault}
use Rattle.gp_fields.specs.Shapes.{a_text}
use Rattle.gp_fields.specs.Record.{items_of_shape, items_of_member}
use Rattle.gp_edits.specs.Changes.{is_text_named, without_text}
use Rattle.gp_edits.specs.Edits.{extension_name, without_name_in, without_extension_named}
use Rattle.gp_edits.proofs.FieldsBack.{apart}
use Rattle.gp_edits.proofs.KeysBack.{IsLone, lone_emptied, emptied_object, emptied_other, emptied_found}
use Rattle.gp_edits.proofs.ItemsBack.{items_are_read, read_items, some_read, items_by, items_are, items_same}

ok_value : {A : Type 0} (r : Result A FieldFault) → IsOk r → (a : A) × (r ≡ Ok a)
ok_value (Ok a) h = (a, refl)
ok_value (Err fault) h = absurd (cc)

without_text_ok : (place : Place) (name : List ℕ) (value : PlainTree) → IsOk (items_of_shape place a_text value) → IsOk (items_of_shape place a_text (without_text name value))
without_text_ok place name null h = h
without_text_ok place name (truth b) h = h
without_text_ok place name (number s) h = h
without_text_ok place name (text s) h = h
without_text_ok place name (members ms) h = h
without_text_ok place name (list ts) h =
    let o = ok_value (items_of_shape place a_text (list ts)) h in
    let kept = some_read (λ t. not (is_text_named name t)) a_text (item_list ts) o.0 (items_are_read place a_text ts o.0 o.1) in
    ap is_ok (read_items place a_text _ kept.0 kept.1)

-- one of the lists
names_ok : (place : Place) (key : List ℕ) (t : PlainTree) → IsLone key t → IsOk (items_of_member place key a_text t) → IsOk (items_of_member place key a_text (without_name_in key t))
names_ok place key t lone h =
    let by : IsOk (items_by place a_text (find_member key (without_name_in key t))) =
    emptied_found key (without_text extension_name) t (λ found. IsOk (items_by place a_text found)) lone refl (λ value e.
    without_text_ok place extension_name value (subst IsOk (items_are place key a_text t (Some value) e) h)) in
    subst IsOk (sym (items_are place key a_text (without_name_in key t) (find_member key (without_name_in key t)) refl)) by

-- the other list stays as it is
names_kept : (place : Place) (key other : List ℕ) (t : PlainTree) → (key ≡ other → ⊥) → IsOk (items_of_member place key a_text t) → IsOk (items_of_member place key a_text (without_name_in other t))
names_kept place key other t d h = subst IsOk (sym (items_same place key a_text t (without_name_in other t) (emptied_other key other (without_text extension_name) t d))) h

pub used_again : (t : PlainTree) → IsLone (codes "extensionsUsed") t → IsOk (items_of_member ExtensionsUsed (codes "extensionsUsed") a_text t)
    → IsOk (items_of_member ExtensionsUsed (codes "extensionsUsed") a_text (without_extension_named t))
unfolding without_extension_named
used_again t lone h =
    names_kept ExtensionsUsed (codes "extensionsUsed") (codes "extensionsRequired") (without_name_in (codes "extensionsUsed") t) (apart (codes "extensionsUsed") (codes "extensionsRequired") refl)
    (names_ok ExtensionsUsed (codes "extensionsUsed") t lone h)

pub required_again : (t : PlainTree) → IsLone (codes "extensionsRequired") t → IsOk (items_of_member ExtensionsRequired (codes "extensionsRequired") a_text t)
    → IsOk (items_of_member ExtensionsRequired (codes "extensionsRequired") a_text (without_extension_named t))
unfolding without_extension_named
required_again t lone h =
    let d = apart (codes "extensionsRequired") (codes "extensionsUsed") refl in
    names_ok ExtensionsRequired (codes "extensionsRequired") (without_name_in (codes "extensionsUsed") t) (lone_emptied (codes "extensionsRequired") (codes "extensionsUsed") (without_text extension_name) t d lone)
    (names_kept ExtensionsRequired (codes "extensionsRequired") (codes "extensionsUsed") t d h)

pub named_other : (name : List ℕ) (t : PlainTree) → (name ≡ codes "extensionsUsed" → ⊥) → (name ≡ codes "extensionsRequired" → ⊥) → find_member name (without_extension_named t) ≡ find_member name t
unfolding without_extension_named
named_other name t d e =
    emptied_other name (codes "extensionsRequired") (without_text extension_name) (without_name_in (codes "extensionsUsed") t) e
    ∙ emptied_other name (codes "extensionsUsed") (without_text extension_name) t d

pub named_object : (t : PlainTree) → IsObject t → IsObject (without_extension_named t)
unfolding without_extension_named
named_object t o =
    emptied_object (codes "extensionsRequired") (without_text extension_name) (without_name_in (codes "extensionsUsed") t) (emptied_object (codes "extensionsUsed") (without_text extension_name) t o)
