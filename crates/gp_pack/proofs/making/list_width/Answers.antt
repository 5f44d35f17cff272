use Rattle.std.proofs.Common.{◌/◌, nat_le, length, sym, ap, ◌∙◌}
use Rattle.std.specs.Prelude.{List, ℕ, if◌then◌else◌}
use Rattle.gp_mover.proofs.Made.{count_is}
use Rattle.gp_pack.proofs.making.list_width.Goals as goal

pub returns : goal.returns
returns c =
    let m = c.args.moved.now in
    c.width_of.ensures ∙ ap (λ (bytes : List ℕ). if nat_le (length bytes / m.size) 65535 then 2 else 4) c.as_slice.ensures ∙ ap (λ n. if nat_le n 65535 then 2 else 4) (sym (count_is m))
