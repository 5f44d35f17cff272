-- What the items of a list give by their numbers, one item after another.
use Rattle.std.proofs.Common.{◌≡◌, ℕ, ◌+◌, ◌<◌, List, [], ◌∷◌, ◌++◌, length, get_or, take, ap, ◌∙◌, append_assoc, append-nil, arith}
use Rattle.std.specs.List.{flat_map, enumerate_from}
use Rattle.std.proofs.lemmas.Grind.{flat_map-append}
use Rattle.std.proofs.lemmas.List.{take_more, length-take-le}
use Rattle.gp_asset.specs.Uses.{gathered}

numbered_push : {A : Type 0} (n : ℕ) (xs : List A) (x : A) → enumerate_from n (xs ++ x ∷ []) ≡ enumerate_from n xs ++ (n + length xs, x) ∷ []
numbered_push n [] x =
    let number : n ≡ n + 0 = omega arith in
    ap (λ m. (m, x) ∷ []) number
numbered_push n (y ∷ ys) x =
    let number : (n + 1) + length ys ≡ n + length (y ∷ ys) = omega arith in
    ap (λ zs. (n, y) ∷ zs) (numbered_push (n + 1) ys x ∙ ap (λ m. enumerate_from (n + 1) ys ++ (m, x) ∷ []) number)

gathered_push : {A B : Type 0} (f : ℕ → A → List B) (xs : List A) (x : A) → gathered f (xs ++ x ∷ []) ≡ gathered f xs ++ f (length xs) x
gathered_push f xs x =
    let number : 0 + length xs ≡ length xs = omega arith in
    ap (flat_map (λ y. f y.0 y.1)) (numbered_push 0 xs x)
    ∙ flat_map-append (λ y. f y.0 y.1) (enumerate_from 0 xs) ((0 + length xs, x) ∷ [])
    ∙ ap (λ zs. gathered f xs ++ zs) (append-nil (f (0 + length xs) x) ∙ ap (λ m. f m x) number)

-- one item more
pub more : {A B : Type 0} (f : ℕ → A → List B) (xs : List A) (k : ℕ) (d : A) → k < length xs
    → gathered f (take (k + 1) xs) ≡ gathered f (take k xs) ++ f k (get_or xs k d)
more f xs k d within =
    let number : length (take k xs) ≡ k = length-take-le k xs (omega arith) in
    ap (gathered f) (take_more xs k d within)
    ∙ gathered_push f (take k xs) (get_or xs k d)
    ∙ ap (λ m. gathered f (take k xs) ++ f m (get_or xs k d)) number

-- a turn of a loop that appends what item k gives
pub turn : {A B : Type 0} (f : ℕ → A → List B) (xs : List A) (k number : ℕ) (x d : A) (old done now : List B)
    → done ≡ old ++ gathered f (take k xs) → k < length xs → number ≡ k → x ≡ get_or xs k d → now ≡ done ++ f number x
    → now ≡ old ++ gathered f (take (k + 1) xs)
turn f xs k number x d old done now so_far within numbered item appended =
    let step = more f xs k d within in
    let joined = append_assoc old (gathered f (take k xs)) (f k (get_or xs k d)) in
    cc
