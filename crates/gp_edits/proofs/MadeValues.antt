-- Objects that are made member by member.
use Rattle.std.specs.Prelude.{codes, decimal}
use Rattle.std.specs.Str.{chars}
use Rattle.std.proofs.Common.{◌≡◌, ℕ, true, List, refl, ap, ◌∙◌}
use Rattle.gp_tree.specs.Plain.{PlainTree, truth, number, text, members, no_members}
use Rattle.gp_tree.specs.TreeEdits.{with_member}
use Rattle.gp_rules.specs.Kinds.{mode_name}
use Rattle.gp_edits.specs.Edits.{extension_name, compression_object, sized_buffer, fallback_buffer}
use Rattle.gp_edits.specs.declared.compression.Compression.{Compression}

pub one_more : (key : List ℕ) (o p q v w : PlainTree) → o ≡ with_member key v p → v ≡ w → p ≡ q → o ≡ with_member key w q
one_more key o p q v w e f g = e ∙ ap (λ x. with_member key x p) f ∙ ap (with_member key w) g

pub compression_made : (c : Compression) → with_member (codes "mode") (text (mode_name c.mode)) (
    with_member (codes "count") (number (decimal c.count)) (
    with_member (codes "byteStride") (number (decimal c.stride)) (
    with_member (codes "byteLength") (number (decimal c.length)) (
    with_member (codes "byteOffset") (number (decimal c.offset)) (
    with_member (codes "buffer") (number (decimal 0)) (members no_members)))))) ≡ compression_object c
unfolding chars
compression_made c = refl

pub fallback_made : (n : ℕ) → with_member (codes "extensions") (with_member extension_name (with_member (codes "fallback") (truth true) (members no_members)) (members no_members)) (sized_buffer n) ≡ fallback_buffer n
unfolding chars
fallback_made n = refl
