-- An extension object that a view is given, and a name that a list is given.
use Rattle.std.proofs.Common.{◌≡◌, ℕ, true, List, [], ◌∷◌, None, is_some, refl, sym, ap, ◌∙◌}
use Rattle.gp_tree.specs.Plain.{PlainTree, text, list, members, no_items, no_members}
use Rattle.gp_tree.specs.Find.{find_member}
use Rattle.gp_tree.specs.TreeEdits.{with_member, at_member, and_items}
use Rattle.gp_edits.specs.Edits.{extension_name, compression_object, compressed, with_name_in}
use Rattle.gp_edits.specs.declared.compression.Compression.{Compression}
use Rattle.gp_edits.proofs.Defaults.{with_default, default_none, default_is_some}
use Rattle.gp_edits.proofs.KeyNames.{extensions_key}

-- ---- an extension object

abbrev pub given : PlainTree → PlainTree → PlainTree
given object extensions = with_member extension_name object extensions

pub compressed_is : (c : Compression) (v : PlainTree) → compressed c v ≡ with_default extensions_key (given (compression_object c)) (members no_members) v
unfolding compressed
compressed_is c v = refl

pub first_extension : (c : Compression) (v object u : PlainTree) → object ≡ compression_object c → find_member extensions_key v ≡ None
    → u ≡ with_member extensions_key (given object (members no_members)) v → u ≡ compressed c v
first_extension c v object u e none is =
    is ∙ ap (λ o. with_member extensions_key (given o (members no_members)) v) e
    ∙ sym (compressed_is c v ∙ default_none extensions_key (given (compression_object c)) (members no_members) v none)

pub extension_set : (c : Compression) (v object u : PlainTree) → object ≡ compression_object c → is_some (find_member extensions_key v) ≡ true
    → u ≡ at_member extensions_key (given object) v → u ≡ compressed c v
extension_set c v object u e some is =
    is ∙ ap (λ o. at_member extensions_key (given o) v) e
    ∙ sym (compressed_is c v ∙ default_is_some extensions_key (given (compression_object c)) (members no_members) v some)

-- ---- a name

abbrev pub and_name : PlainTree → PlainTree
and_name t = and_items (text extension_name ∷ []) t

pub first_name : (key : List ℕ) (t name u : PlainTree) → name ≡ text extension_name → find_member key t ≡ None
    → u ≡ with_member key (and_items (name ∷ []) (list no_items)) t → u ≡ with_name_in key t
first_name key t name u e none is =
    is ∙ ap (λ n. with_member key (and_items (n ∷ []) (list no_items)) t) e ∙ sym (default_none key and_name (list no_items) t none)

pub name_appended : (key : List ℕ) (t name u : PlainTree) → name ≡ text extension_name → is_some (find_member key t) ≡ true
    → u ≡ at_member key (and_items (name ∷ [])) t → u ≡ with_name_in key t
name_appended key t name u e some is =
    is ∙ ap (λ n. at_member key (and_items (n ∷ [])) t) e ∙ sym (default_is_some key and_name (list no_items) t some)
