-- A text with two spellings of one key, `a` and `\u0061`: its values, and its fault.
use Rattle.std.proofs.Common.{◌≡◌, inl, [], ◌∷◌, codes, refl, arith}
use Rattle.std.specs.Str.{chars}
use Rattle.gp_json.specs.declared.fault.JsonFault.TheVariants.{DuplicateKey}
use Rattle.gp_tree.specs.Key.{units}
use Rattle.gp_tree.specs.Plain.{PlainTree, null, members, no_members, member}
use Rattle.gp_tree.specs.Lexical.{IsString}
use Rattle.gp_tree.specs.Values.{IsName}
use Rattle.gp_tree.specs.Sound.{HasDistinctKeys}
use Rattle.gp_json.specs.Text.{text_of}
use Rattle.gp_json.specs.Spelling.{Spells}
use Rattle.gp_json.specs.Fault.{HasFault}
use Rattle.gp_tree.proofs.Names.{name_string}
use Rattle.gp_tree.proofs.Kept.{pairs_apart}
use Rattle.gp_json.proofs.Compact.{compact_spells}
use Rattle.gp_json.proofs.Flat.{text_flat}
use Rattle.gp_json.proofs.Utf8Texts.{ascii_utf8, spells_utf8}

a_name : IsName (codes "a")
a_name = ((omega arith, omega arith, (λ e. omega (arith, e)), (λ e. omega (arith, e))), tt)

escaped_a : IsString (92 ∷ codes "u0061")
escaped_a = record {
  chars = ((92 ∷ codes "u0061") ∷ [], ((refl, refl, (inl (omega arith, omega arith), (inl (omega arith, omega arith), (inl (omega arith, omega arith), (inl (omega arith, omega arith), tt))))), tt), refl);
  utf8 = ascii_utf8 (92 ∷ codes "u0061") (omega arith, (omega arith, (omega arith, (omega arith, (omega arith, (omega arith, tt))))));
}

abbrev one_key : PlainTree
one_key = members (member (codes "a") null (member (92 ∷ codes "u0061") null no_members))

one_unit : units (codes "a") ≡ units (92 ∷ codes "u0061")
unfolding chars
one_unit = refl

equal_keys : HasDistinctKeys one_key → ⊥
equal_keys h = (pairs_apart (units (codes "a") ∷ units (92 ∷ codes "u0061") ∷ []) h.0).0.0 one_unit

duplicate : HasFault (text_of one_key) DuplicateKey
duplicate =
    let h : Spells (text_of one_key) one_key = compact_spells one_key (name_string (codes "a") a_name, tt, (escaped_a, tt, tt)) in
    (spells_utf8 (text_of one_key) one_key h, text_flat (text_of one_key) one_key h (omega arith), (one_key, h, equal_keys))
