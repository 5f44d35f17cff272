-- Checking a list item by item, up to the first fault.
use Rattle.std.proofs.Common.{◌≡◌, ℕ, ◌+◌, ◌<◌, ◌≤◌, Result, Ok, Err, List, [], ◌∷◌, ◌++◌, length, get_or, drop, refl, sym, ap, ◌∙◌, append_assoc, append-nil}
use Rattle.std.proofs.lemmas.List.{drop_more, drop_all}
use Rattle.gp_rules.specs.declared.fault.AssetFault.{AssetFault}
use Rattle.gp_rules.specs.Checks.{Checked, joined, each}

-- what was read, before the rest
abbrev pub behind : {B E : Type 0} → List B → Result (List B) E → Result (List B) E
behind done (Ok rest) = Ok (done ++ rest)
behind done (Err fault) = Err fault

pub behind_none : {B E : Type 0} (rest : Result (List B) E) → rest ≡ behind [] rest
behind_none (Ok rest) = refl
behind_none (Err fault) = refl

pub behind_one : {B E : Type 0} (done : List B) (y : B) (rest : Result (List B) E) → behind done (joined (Ok y) rest) ≡ behind (done ++ y ∷ []) rest
behind_one done y (Ok rest) = ap Ok (sym (append_assoc done (y ∷ []) rest))
behind_one done y (Err fault) = refl

-- before the first item
pub begin : {A B : Type 0} (f : ℕ → A → Checked B) (xs : List A) → each f 0 xs ≡ behind [] (each f 0 xs)
begin f xs = behind_none (each f 0 xs)

-- past an item without a fault
pub next : {A B : Type 0} (f : ℕ → A → Checked B) (xs : List A) (k : ℕ) (d : A) (done : List B) (y : B)
    → k < length xs → f k (get_or xs k d) ≡ Ok y
    → behind done (each f k (drop k xs)) ≡ behind (done ++ y ∷ []) (each f (k + 1) (drop (k + 1) xs))
next f xs k d done y within e =
    ap (λ zs. behind done (each f k zs)) (drop_more xs k d within)
    ∙ ap (λ r. behind done (joined r (each f (k + 1) (drop (k + 1) xs)))) e
    ∙ behind_one done y (each f (k + 1) (drop (k + 1) xs))

-- at an item with a fault
pub stop : {A B : Type 0} (f : ℕ → A → Checked B) (xs : List A) (k : ℕ) (d : A) (done : List B) (fault : AssetFault)
    → k < length xs → f k (get_or xs k d) ≡ Err fault
    → behind done (each f k (drop k xs)) ≡ Err fault
stop f xs k d done fault within e =
    ap (λ zs. behind done (each f k zs)) (drop_more xs k d within)
    ∙ ap (λ r. behind done (joined r (each f (k + 1) (drop (k + 1) xs)))) e

-- past the last
pub last : {A B : Type 0} (f : ℕ → A → Checked B) (xs : List A) (k : ℕ) (done : List B) → length xs ≤ k → behind done (each f k (drop k xs)) ≡ Ok done
last f xs k done past = ap (λ zs. behind done (each f k zs)) (drop_all k xs past) ∙ ap Ok (append-nil done)
