use Rattle.std.proofs.Common.{◌≡◌, ◌<◌, ◌-◌, ◌/◌, nat_le, ℕ, List, [], length, get_or, take, drop, sym, ap, ◌∙◌, arith}
use Rattle.std.specs.Prelude.{if◌then◌else◌}
use Rattle.std.specs.List.{flat_map}
use Rattle.std.proofs.lemmas.Result.{IfOk-weaker}
use Rattle.gp_groups.specs.Sequence.{le_bytes}
use Rattle.gp_mover.specs.MadeBytes.{list_width}
use Rattle.gp_mover.specs.Standing.{parts_of}
use Rattle.gp_mover.proofs.Made.{count_is, list_begins, list_ends, list_here}
use Rattle.gp_mover.proofs.making.list_bytes.Goals as goal

pub slice_bounds-list-count : goal.slice_bounds-list-count
slice_bounds-list-count c =
    let lists = (parts_of c.args.moved.now).ordered in
    let ends_are = c.as_slice-ends.ensures ∙ c.requires.whole.ends in
    let within : c.args.at < length c.as_slice-ends.result.now = omega (arith, c.requires.within, ap (λ (es : List ℕ). length es) c.as_slice-ends.ensures) in
    list_begins lists c.as_slice-ends.result.now c.as_slice.result.now c.args.at c.start_of-start.result (c.as_slice.ensures ∙ c.requires.whole.joined) ends_are (c.start_of-start.ensures.begins lists ends_are) within

pub slice_bounds-list-start : goal.slice_bounds-list-start
slice_bounds-list-start c =
    let lists = (parts_of c.args.moved.now).ordered in
    let ends_are = c.as_slice-ends.ensures ∙ c.requires.whole.ends in
    let within : c.args.at < length c.as_slice-ends.result.now = omega (arith, c.requires.within, ap (λ (es : List ℕ). length es) c.as_slice-ends.ensures) in
    list_begins lists c.as_slice-ends.result.now c.as_slice.result.now c.args.at c.start_of-start.result (c.as_slice.ensures ∙ c.requires.whole.joined) ends_are (c.start_of-start.ensures.begins lists ends_are) within

pub slice_bounds-list-end : goal.slice_bounds-list-end
slice_bounds-list-end c =
    let lists = (parts_of c.args.moved.now).ordered in
    let ends_are = c.as_slice-ends.ensures ∙ c.requires.whole.ends in
    let within : c.args.at < length c.as_slice-ends.result.now = omega (arith, c.requires.within, ap (λ (es : List ℕ). length es) c.as_slice-ends.ensures) in
    list_ends lists c.as_slice-ends.result.now c.as_slice.result.now c.args.at c.start_of-start.result (c.as_slice.ensures ∙ c.requires.whole.joined) ends_are (c.start_of-start.ensures.begins lists ends_are) within

pub returns : goal.returns
returns c =
    let m = c.args.moved.now in
    let lists = (parts_of m).ordered in
    let ends = c.as_slice-ends.result.now in
    let joined = c.as_slice.result.now in
    let start = c.start_of-start.result in
    let ends_are = c.as_slice-ends.ensures ∙ c.requires.whole.ends in
    let within : c.args.at < length ends = omega (arith, c.requires.within, ap (λ (es : List ℕ). length es) c.as_slice-ends.ensures) in
    let here = list_here lists ends joined c.args.at start (c.as_slice.ensures ∙ c.requires.whole.joined) ends_are (c.start_of-start.ensures.begins lists ends_are) within in
    let width : c.width_of.result ≡ list_width (parts_of m) =
    c.width_of.ensures ∙ ap (λ (bytes : List ℕ). if nat_le (length bytes / m.size) 65535 then 2 else 4) c.as_slice-2.ensures ∙ ap (λ n. if nat_le n 65535 then 2 else 4) (sym (count_is m)) in
    IfOk-weaker c.number_bytes.result _ _
    (λ v is. is ∙ ap (λ w. flat_map (le_bytes w) (take (get_or ends c.args.at 0 - start) (drop start joined))) width ∙ ap (λ (l : List ℕ). flat_map (le_bytes (list_width (parts_of m))) l) here)
    c.number_bytes.ensures
