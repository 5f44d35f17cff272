use Rattle.std.proofs.Common.{◌≡◌, ℕ, ◌+◌, ◌-◌, ◌*◌, ◌/◌, ◌<◌, length, take, drop, inr, sym, ◌∙◌, ⊎_elim}
use Rattle.std.specs.Cmp.Lexicographic.{bytes_decides}
use Rattle.gp_merge.specs.Slots.{empty, HoldsOneOf}
use Rattle.gp_merge.proofs.Cuts.{record_read}
use Rattle.gp_merge.proofs.Keeping.{record_within}
use Rattle.gp_merge.proofs.searching.stops.Goals as goal

-- a slot that isn't empty has one of the records
one_of : (count first : ℕ) → HoldsOneOf count first → (first ≡ empty → ⊥) → first < count
one_of count first held full = ⊎_elim (λ e. absurd (full e)) (λ l. l) held

pub slice_bounds-held-end : goal.slice_bounds-held-end
slice_bounds-held-end c = record_within c.args.size (length c.args.bytes.now) c.args.first (one_of (length c.args.bytes.now / c.args.size) c.args.first c.requires.one c.if-first-eq-EMPTY.false)

pub returns : goal.returns
returns c =
    let within = one_of (length c.args.bytes.now / c.args.size) c.args.first c.requires.one c.if-first-eq-EMPTY.false in
    let is = record_read c.args.size c.args.bytes.now c.args.first within in
    let decides = bytes_decides (take ((c.args.first * c.args.size + c.args.size) - c.args.first * c.args.size) (drop (c.args.first * c.args.size) c.args.bytes.now)) c.args.wanted.now in (
      λ yes_is. inr (sym is ∙ decides.0 (sym c.eq.ensures ∙ yes_is)),
      λ stops. ⊎_elim (λ e. absurd (c.if-first-eq-EMPTY.false e)) (λ same. c.eq.ensures ∙ decides.1 (is ∙ same)) stops,
    )
