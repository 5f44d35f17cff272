-- The unpacked tree has in common with the tree that it was made of what is no matter of places and compression.
use Rattle.std.proofs.Common.{◌≡◌, ℕ, List, [], ◌∷◌, map, length, ap, ◌∙◌}
use Rattle.gp_tree.specs.Plain.{PlainTree}
use Rattle.gp_tree.specs.Sound.{IsSound}
use Rattle.gp_layout.specs.Layout.{starts, end}
use Rattle.gp_edits.specs.Common.{common}
use Rattle.gp_edits.proofs.CommonRoots.{with_buffer_common, without_buffers_common}
use Rattle.gp_unpack.specs.Unpacked.{unpacked_tree}
use Rattle.gp_unpack.proofs.Reordered.{none_as, some_as}

pub common_kept : (contents : List (List ℕ)) (t : PlainTree) → IsSound t → common (unpacked_tree contents t) ≡ common t
common_kept [] t h = ap common (none_as t) ∙ without_buffers_common [] t h.distinct
common_kept (bytes ∷ contents) t h =
    let lengths = map length (bytes ∷ contents) in
    ap common (some_as bytes contents t) ∙ with_buffer_common (end lengths) (starts lengths) t h.distinct
