-- The lists of extensions with a name more are lists of texts, and the root keeps its other members.
use Rattle.std.specs.Prelude.{is_ok, codes, IsOk, unwrap_or}
use Rattle.std.proofs.Common.{◌≡◌, ℕ, List, [], ◌∷◌, ◌++◌, Option, Some, None, Result, Ok, Err, refl, sym, ap, ◌∙◌, subst}
use Rattle.gp_tree.specs.Plain.{PlainTree, null, truth, number, text, list, members, no_items}
use Rattle.gp_tree.specs.Values.{IsName}
use Rattle.gp_tree.specs.Find.{IsObject, item_list, find_member}
use Rattle.gp_tree.specs.TreeEdits.{set_first, and_items}
use Rattle.gp_tree.proofs.Kept.{find_set, find_set_other}
use Rattle.gp_fields.specs.declared.fault.Place.{Place}
use Rattle.gp_fields.specs.declared.fault.Place.TheVariants.{ExtensionsUsed, ExtensionsRequired}
use Rattle.gp_fields.specs.declared.fault.FieldFault.{FieldFault}
use Rattle.gp_fields.specs.Shapes.{Shaped, a_text}
use Rattle.gp_fields.specs.Record.{items_of_shape, items_of_member}
use Rattle.gp_edits.specs.Edits.{extension_name, with_name_in, with_extension_named}
use Rattle.gp_edits.proofs.FieldsBack.{a_name, apart}
use Rattle.gp_edits.proofs.KeysBack.{object_after}
use Rattle.gp_edits.proofs.ItemsBack.{AreRead, items_are_read, read_items, items_by, items_are, items_same}

used_name : IsName (codes "extensionsUsed")
used_name = a_name (codes "extensionsUsed") refl

required_name : IsName (codes "extensionsRequired")
required_name = a_name (codes "extensionsRequired") refl

-- ---- one item more

pub read_more : {A : Type 0} (shape : Shaped A) (t : PlainTree) (a : A) (ts : List PlainTree) (values : List A) → shape t ≡ Some a → AreRead shape ts values
    → AreRead shape (ts ++ t ∷ []) (values ++ a ∷ [])
read_more shape t a [] [] e h = (e, tt)
read_more shape t a [] (b ∷ values) e h = absurd h
read_more shape t a (u ∷ ts) [] e h = absurd h
read_more shape t a (u ∷ ts) (b ∷ values) e h = (h.0, read_more shape t a ts values e h.1)

ok_value : {A : Type 0} (r : Result A FieldFault) → IsOk r → (a : A) × (r ≡ Ok a)
ok_value (Ok a) h = (a, refl)
ok_value (Err fault) h = absurd (cc)

-- the list with the name at its end, or with the name alone
abbrev named_last : Option PlainTree → PlainTree
named_last found = and_items (text extension_name ∷ []) (unwrap_or found (list no_items))

text_more_ok : (place : Place) (value : PlainTree) → IsOk (items_of_shape place a_text value) → IsOk (items_of_shape place a_text (and_items (text extension_name ∷ []) value))
text_more_ok place null h = h
text_more_ok place (truth b) h = h
text_more_ok place (number s) h = h
text_more_ok place (text s) h = h
text_more_ok place (members ms) h = h
text_more_ok place (list ts) h =
    let o = ok_value (items_of_shape place a_text (list ts)) h in
    ap is_ok (read_items place a_text (item_list ts ++ text extension_name ∷ []) (o.0 ++ extension_name ∷ []) (read_more a_text (text extension_name) extension_name (item_list ts) o.0 refl (items_are_read place a_text ts o.0 o.1)))

named_ok : (place : Place) (found : Option PlainTree) → IsOk (items_by place a_text found) → IsOk (items_of_shape place a_text (named_last found))
named_ok place None h = refl
named_ok place (Some value) h = text_more_ok place value h

-- one of the lists
names_ok : (place : Place) (key : List ℕ) (t : PlainTree) → IsName key → IsObject t → IsOk (items_of_member place key a_text t) → IsOk (items_of_member place key a_text (with_name_in key t))
names_ok place key t name o h =
    let found = find_member key t in
    let is = items_are place key a_text (with_name_in key t) (Some (named_last found)) (find_set key (named_last found) t o name) in
    subst IsOk (sym is) (named_ok place found (subst IsOk (items_are place key a_text t found refl) h))

-- the other list stays as it is
names_kept : (place : Place) (key other : List ℕ) (t : PlainTree) → (key ≡ other → ⊥) → IsName other → IsOk (items_of_member place key a_text t) → IsOk (items_of_member place key a_text (with_name_in other t))
names_kept place key other t d name h =
    subst IsOk (sym (items_same place key a_text t (with_name_in other t) (find_set_other key other (named_last (find_member other t)) t d name))) h

name_in_object : (key : List ℕ) (t : PlainTree) → IsObject t → IsObject (with_name_in key t)
name_in_object key t o = object_after (set_first key (named_last (find_member key t))) t o

-- ---- both

pub used_with : (t : PlainTree) → IsObject t → IsOk (items_of_member ExtensionsUsed (codes "extensionsUsed") a_text t)
    → IsOk (items_of_member ExtensionsUsed (codes "extensionsUsed") a_text (with_extension_named t))
unfolding with_extension_named
used_with t o h =
    names_kept ExtensionsUsed (codes "extensionsUsed") (codes "extensionsRequired") (with_name_in (codes "extensionsUsed") t) (apart (codes "extensionsUsed") (codes "extensionsRequired") refl) required_name
    (names_ok ExtensionsUsed (codes "extensionsUsed") t used_name o h)

pub required_with : (t : PlainTree) → IsObject t → IsOk (items_of_member ExtensionsRequired (codes "extensionsRequired") a_text t)
    → IsOk (items_of_member ExtensionsRequired (codes "extensionsRequired") a_text (with_extension_named t))
unfolding with_extension_named
required_with t o h =
    names_ok ExtensionsRequired (codes "extensionsRequired") (with_name_in (codes "extensionsUsed") t) required_name (name_in_object (codes "extensionsUsed") t o)
    (names_kept ExtensionsRequired (codes "extensionsRequired") (codes "extensionsUsed") t (apart (codes "extensionsRequired") (codes "extensionsUsed") refl) used_name h)

pub other_with : (name : List ℕ) (t : PlainTree) → (name ≡ codes "extensionsUsed" → ⊥) → (name ≡ codes "extensionsRequired" → ⊥) → find_member name (with_extension_named t) ≡ find_member name t
unfolding with_extension_named
other_with name t d e =
    let u = with_name_in (codes "extensionsUsed") t in
    find_set_other name (codes "extensionsRequired") (named_last (find_member (codes "extensionsRequired") u)) u e required_name
    ∙ find_set_other name (codes "extensionsUsed") (named_last (find_member (codes "extensionsUsed") t)) t d used_name

pub object_with : (t : PlainTree) → IsObject t → IsObject (with_extension_named t)
unfolding with_extension_named
object_with t o = name_in_object (codes "extensionsRequired") (with_name_in (codes "extensionsUsed") t) (name_in_object (codes "extensionsUsed") t o)
