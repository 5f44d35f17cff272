-- Worked edits.
use Rattle.std.proofs.Common.{◌≡◌, ◌∷◌, codes, refl}
use Rattle.std.specs.Str.{chars}
use Rattle.gp_tree.specs.Plain.{PlainTree, null, text, list, members, no_items, item, no_members, member}
use Rattle.gp_edits.specs.Changes.{emptied}
use Rattle.gp_edits.specs.Edits.{extension_name, without_compression, without_extension_named}

-- `{"extensions":{..}}` with these extensions
abbrev extended : PlainTree → PlainTree
extended extensions = members (member (codes "extensions") extensions no_members)

other_extension_stays : without_compression (extended (members (member extension_name null (member (codes "KHR") null no_members)))) ≡ extended (members (member (codes "KHR") null no_members))
unfolding without_compression emptied chars
other_extension_stays = refl

no_other_extension : without_compression (extended (members (member extension_name null no_members))) ≡ members no_members
unfolding without_compression emptied chars
no_other_extension = refl

empty_extensions_stay : without_compression (extended (members no_members)) ≡ extended (members no_members)
unfolding without_compression emptied chars
empty_extensions_stay = refl

-- `{"extensionsUsed":[..],"extensionsRequired":[..]}`
abbrev named : PlainTree → PlainTree → PlainTree
named used required = members (member (codes "extensionsUsed") used (member (codes "extensionsRequired") required no_members))

-- the name at two places, once with an escape, and alone
both_lists : without_extension_named
    (named (list (item (text extension_name) (item (text (codes "KHR")) (item (text (92 ∷ codes "u0045XT_meshopt_compression")) no_items)))) (list (item (text extension_name) no_items)))
    ≡ members (member (codes "extensionsUsed") (list (item (text (codes "KHR")) no_items)) no_members)
unfolding without_extension_named emptied chars
both_lists = refl
