-- Views that are all there.
use Rattle.std.proofs.Common.{◌≡◌, ℕ, List, [], length, nat_lt, Option, Some, None, refl, sym, ap, ⊎_elim, ◌∙◌}
use Rattle.std.proofs.lemmas.Option.{slice_get-map, slice_get-get_or, slice_get_past}
use Rattle.std.proofs.lemmas.Bool.{lt-ltb, le-ltb, cases_lt}
use Rattle.std.specs.List.{slice_get}
use Rattle.std.specs.Option.{option_map, option_and_then, is_some}
use Rattle.gp_asset.specs.Contents.{bytes_at}
use Rattle.gp_unpack.specs.Contents.{held}

same : (o : Option (List ℕ)) → option_and_then (λ (b : Option (List ℕ)). b) (option_map Some o) ≡ o
same None = refl
same (Some b) = refl

-- the bytes of a view are those that are held
pub bytes_at-held : (xs : List (List ℕ)) (at : ℕ) → bytes_at (held xs) at ≡ slice_get xs at
bytes_at-held xs at = ap (option_and_then (λ b. b)) (slice_get-map Some xs at) ∙ same (slice_get xs at)

is_there : (xs : List (List ℕ)) (at : ℕ) → nat_lt at (length xs) ≡ is_some (slice_get xs at)
is_there xs at =
    ⊎_elim
    (λ below. lt-ltb at (length xs) below ∙ sym (ap is_some (slice_get-get_or xs at [] below)))
    (λ past. le-ltb at (length xs) past ∙ sym (ap is_some (slice_get_past xs at past)))
    (cases_lt at (length xs))

pub has : (xs : List (List ℕ)) (n at : ℕ) → n ≡ length xs → nat_lt at n ≡ is_some (bytes_at (held xs) at)
has xs n at e = ap (nat_lt at) e ∙ is_there xs at ∙ ap is_some (sym (bytes_at-held xs at))
