-- Numbers of four bytes in a list.
use Rattle.std.proofs.Common.{◌≡◌, ℕ, zero, suc, ◌<◌, ◌≤◌, ◌^◌, List, [], ◌∷◌, ◌++◌, length, drop, get_or, refl, sym, ap, ◌∙◌, arith}
use Rattle.std.proofs.lemmas.Nat.{le_bytes_4, from_le_bytes-to_le_bytes_4}
use Rattle.std.specs.Int.{w32, from_le_bytes}
use Rattle.byteorder.specs.Endian.{little_number}
use Rattle.gp_glb.specs.Bytes.{word, word_at}

-- the number in the first four bytes behind a place
pub word_at_is : (bytes : List ℕ) (at : ℕ) → little_number 4 (drop at bytes) ≡ word_at bytes at
unfolding word_at
word_at_is bytes at = omega arith

cut_4 : (xs : List ℕ) → 4 ≤ length xs → get_or xs 0 0 ∷ get_or xs 1 0 ∷ get_or xs 2 0 ∷ get_or xs 3 0 ∷ drop 4 xs ≡ xs
cut_4 [] h = absurd (omega arith)
cut_4 (a ∷ []) h = absurd (omega arith)
cut_4 (a ∷ b ∷ []) h = absurd (omega arith)
cut_4 (a ∷ b ∷ c ∷ []) h = absurd (omega arith)
cut_4 (a ∷ b ∷ c ∷ d ∷ xs) h = refl

four_small : (xs : List ℕ) → ((i : ℕ) → get_or xs i 0 < 256) → (i : ℕ) → get_or (get_or xs 0 0 ∷ get_or xs 1 0 ∷ get_or xs 2 0 ∷ get_or xs 3 0 ∷ []) i 0 < 256
four_small xs h zero = h 0
four_small xs h (suc zero) = h 1
four_small xs h (suc (suc zero)) = h 2
four_small xs h (suc (suc (suc zero))) = h 3
four_small xs h (suc (suc (suc (suc i)))) = omega arith

-- four bytes spell their number
pub word_first : (xs : List ℕ) → 4 ≤ length xs → ((i : ℕ) → get_or xs i 0 < 256) → xs ≡ word (word_at xs 0) ++ drop 4 xs
unfolding word word_at
word_first xs h small =
    let w = le_bytes_4 (get_or xs 0 0 ∷ get_or xs 1 0 ∷ get_or xs 2 0 ∷ get_or xs 3 0 ∷ []) (from_le_bytes w32 xs) refl (four_small xs small) refl in
    sym (cut_4 xs h) ∙ ap (λ y. y ++ drop 4 xs) (sym w)

pub word_0 : (n : ℕ) (rest : List ℕ) → n < 2 ^ 32 → word_at (word n ++ rest) 0 ≡ n
unfolding word word_at
word_0 n rest h = from_le_bytes-to_le_bytes_4 n h

pub word_4 : (m n : ℕ) (rest : List ℕ) → n < 2 ^ 32 → word_at (word m ++ (word n ++ rest)) 4 ≡ n
unfolding word word_at
word_4 m n rest h = from_le_bytes-to_le_bytes_4 n h

pub word_8 : (l m n : ℕ) (rest : List ℕ) → n < 2 ^ 32 → word_at (word l ++ (word m ++ (word n ++ rest))) 8 ≡ n
unfolding word word_at
word_8 l m n rest h = from_le_bytes-to_le_bytes_4 n h

pub length_word : (n : ℕ) → length (word n) ≡ 4
unfolding word
length_word n = refl

pub drop_word : (n : ℕ) (rest : List ℕ) → drop 4 (word n ++ rest) ≡ rest
unfolding word
drop_word n rest = refl

pub drop_words : (m n : ℕ) (rest : List ℕ) → drop 8 (word m ++ (word n ++ rest)) ≡ rest
unfolding word
drop_words m n rest = refl
