-- The unpacked tree is sound, and uses no extension that the tree that it was made of doesn't.
use Rattle.std.proofs.Common.{ℕ, ◌<◌, ◌^◌, List, [], ◌∷◌, map, length, sym, subst}
use Rattle.gp_tree.specs.Plain.{PlainTree}
use Rattle.gp_tree.specs.Sound.{HasDistinctKeys, IsSound}
use Rattle.gp_layout.specs.Layout.{starts, end}
use Rattle.gp_layout.proofs.Bounds.{starts_below}
use Rattle.gp_edits.specs.NameLaws.{UsesNoMore}
use Rattle.gp_edits.specs.ReadingBack.{plain_in_one, plain_in_none}
use Rattle.gp_edits.proofs.Named.{no_more, with_buffer_no_more, without_buffers_no_more}
use Rattle.gp_edits.proofs.Sounds.{with_buffer_sound, without_buffers_sound}
use Rattle.gp_unpack.specs.Unpacked.{unpacked_tree}
use Rattle.gp_unpack.proofs.EachItem.{each_of_all}
use Rattle.gp_unpack.proofs.Reordered.{none_as, some_as}

pub unpacked_sound : (contents : List (List ℕ)) (t : PlainTree) → end (map length contents) < 2 ^ 64 → IsSound t → IsSound (unpacked_tree contents t)
unpacked_sound [] t small h = subst IsSound (sym (none_as t)) (without_buffers_sound [] t tt h)
unpacked_sound (bytes ∷ contents) t small h =
    let lengths = map length (bytes ∷ contents) in
    subst IsSound (sym (some_as bytes contents t))
    (with_buffer_sound (end lengths) (starts lengths) t small (each_of_all (λ start. start < 2 ^ 64) (starts lengths) (starts_below (2 ^ 64) 0 lengths small)) h)

pub unpacked_uses_no_more : (contents : List (List ℕ)) (t : PlainTree) → HasDistinctKeys t → UsesNoMore (unpacked_tree contents t) t
unpacked_uses_no_more [] t h = subst (λ u. UsesNoMore u t) (sym (none_as t)) (no_more (plain_in_none [] t) t (without_buffers_no_more [] t h))
unpacked_uses_no_more (bytes ∷ contents) t h =
    let lengths = map length (bytes ∷ contents) in
    subst (λ u. UsesNoMore u t) (sym (some_as bytes contents t))
    (no_more (plain_in_one (end lengths) (starts lengths) t) t (with_buffer_no_more (end lengths) (starts lengths) t h))
