-- What holds of each item of a list.
use Rattle.std.specs.List.{All}
use Rattle.std.proofs.Common.{◌≡◌, ℕ, zero, suc, List, [], ◌∷◌, zip, slice_get, Some, arith, subst}
use Rattle.gp_tree.specs.Lexical.{Each}

pub each_of_all : {A : Type 0} (P : A → Type 0) (xs : List A) → All P xs → Each P xs
each_of_all P [] h = tt
each_of_all P (x ∷ xs) h = (h 0 x (omega arith), each_of_all P xs (λ k d within. h (suc k) d (omega (arith, within))))

pub all_of_each : {A : Type 0} (P : A → Type 0) (xs : List A) → Each P xs → All P xs
all_of_each P [] h k d within = absurd (omega (arith, within))
all_of_each P (x ∷ xs) h zero d within = h.0
all_of_each P (x ∷ xs) h (suc k) d within = all_of_each P xs h.1 k d (omega (arith, within))

pub each_is : {A : Type 0} (P Q : A → Type 0) → ((x : A) → P x → Q x) → (xs : List A) → Each P xs → Each Q xs
each_is P Q f [] h = tt
each_is P Q f (x ∷ xs) h = (f x h.0, each_is P Q f xs h.1)

pub each_both : {A : Type 0} (P Q : A → Type 0) (xs : List A) → Each P xs → Each Q xs → Each (λ x. P x × Q x) xs
each_both P Q [] g h = tt
each_both P Q (x ∷ xs) g h = ((g.0, h.0), each_both P Q xs g.1 h.1)

-- of the first of each pair
pub each_zip : {A B : Type 0} (P : A → Type 0) (xs : List A) (ys : List B) → Each P xs → Each (λ (p : A × B). P p.0) (zip xs ys)
each_zip P [] ys h = tt
each_zip P (x ∷ xs) [] h = tt
each_zip P (x ∷ xs) (y ∷ ys) h = (h.0, each_zip P xs ys h.1)

pub each_found : {A : Type 0} (P : A → Type 0) (xs : List A) (i : ℕ) (x : A) → Each P xs → slice_get xs i ≡ Some x → P x
each_found P [] i x h e = absurd (cc)
each_found P (y ∷ xs) zero x h e = let s : y ≡ x = cc in subst P s h.0
each_found P (y ∷ xs) (suc i) x h e = each_found P xs i x h.1 e
