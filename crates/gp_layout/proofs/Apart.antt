-- Parts in a row, one behind the other.
use Rattle.std.proofs.Common.{◌≡◌, ℕ, zero, suc, ◌+◌, ◌<◌, ◌≤◌, List, [], ◌∷◌, map, length, slice_get, Some, ap, ◌∙◌, arith}
use Rattle.std.proofs.lemmas.Option.{slice_get-map}
use Rattle.std.specs.Option.{option_map}
use Rattle.gp_rules.specs.Sizes.{padded}
use Rattle.gp_layout.specs.Layout.{starts_behind}
use Rattle.gp_layout.specs.Laws.{PartsAreApart}
use Rattle.gp_layout.proofs.Bounds.{padded_least}

-- no part begins before the bytes that it stands behind end
behind : (at : ℕ) (lengths : List ℕ) (j later : ℕ) → slice_get (starts_behind at lengths) j ≡ Some later → at ≤ later
behind at [] j later e = absurd (cc)
behind at (n ∷ lengths) zero later e = let f : padded at ≡ later = cc in omega (arith, f, padded_least at)
behind at (n ∷ lengths) (suc j) later e = omega (arith, behind (padded at + n) lengths j later e, padded_least at)

apart : (at : ℕ) (lengths : List ℕ) (i j n start later : ℕ) → i < j → slice_get lengths i ≡ Some n → slice_get (starts_behind at lengths) i ≡ Some start
    → slice_get (starts_behind at lengths) j ≡ Some later → start + n ≤ later
apart at [] i j n start later order long begins next = absurd (cc)
apart at (m ∷ lengths) zero zero n start later order long begins next = absurd (omega (arith, order))
apart at (m ∷ lengths) zero (suc j) n start later order long begins next =
    let f : padded at ≡ start = cc in
    let g : m ≡ n = cc in
    omega (arith, f, g, behind (padded at + m) lengths j later next)
apart at (m ∷ lengths) (suc i) zero n start later order long begins next = absurd (omega (arith, order))
apart at (m ∷ lengths) (suc i) (suc j) n start later order long begins next = apart (padded at + m) lengths i j n start later (omega (arith, order)) long begins next

pub parts_are_apart : PartsAreApart
parts_are_apart parts i j part start later order here next =
    apart 0 (map length parts) i j (length part) start later order (slice_get-map length parts i ∙ ap (option_map length) here.0) here.1 next
