-- Bytes that are appended, one after the other.
use Rattle.std.proofs.Common.{◌≡◌, ℕ, zero, suc, ◌+◌, ◌≤◌, List, [], ◌∷◌, ◌++◌, length, take, replicate, refl, sym, ap, ◌∙◌, arith, append_assoc, Some, None, Option}
use Rattle.std.proofs.lemmas.List.{append-nil}
use Rattle.std.specs.Option.{option_map}
use Rattle.byteorder.specs.Endian.{little_bytes}
use Rattle.gp_glb.specs.Bytes.{word, chunk_bytes, chunks_bytes, header, headed, padded, missing}
use Rattle.gp_glb.specs.Container.{all_chunks, bin_chunks, json_kind, glb, glb_len}
use Rattle.gp_glb.proofs.ReadingBack.{length_padded, body_len}

take_replicate : (k n filler : ℕ) → k ≤ n → take k (replicate n filler) ≡ replicate k filler
take_replicate zero n filler h = refl
take_replicate (suc k) zero filler h = absurd (omega arith)
take_replicate (suc k) (suc n) filler h = ap (λ xs. filler ∷ xs) (take_replicate k n filler (omega arith))

pub word_is : (n : ℕ) → little_bytes 4 n ++ [] ≡ word n
unfolding word
word_is n = append-nil (little_bytes 4 n)

pub put_chunk_is : (out one two three four content : List ℕ) (kind filler size padding : ℕ) → one ≡ out ++ word size → two ≡ one ++ word kind → three ≡ two ++ content → four ≡ three ++ take padding (replicate 3 filler)
    → size ≡ length content + padding → padding ≡ missing (length content) → four ≡ out ++ chunk_bytes (record { kind = kind; content = padded filler content })
unfolding chunk_bytes padded
put_chunk_is out one two three four content kind filler size padding a b c d s p =
    let fills = padded filler content in
    let fill : take padding (replicate 3 filler) ≡ replicate (missing (length content)) filler = take_replicate padding 3 filler (omega arith) ∙ ap (λ n. replicate n filler) p in
    let len : size ≡ length fills = omega (arith, length_padded filler content) in
    d ∙ (λ i. c i ++ fill i) ∙ (λ i. (b i ++ content) ++ replicate (missing (length content)) filler) ∙ (λ i. ((a i ++ word kind) ++ content) ++ replicate (missing (length content)) filler)
    ∙ append_assoc ((out ++ word size) ++ word kind) content (replicate (missing (length content)) filler)
    ∙ append_assoc (out ++ word size) (word kind) fills
    ∙ append_assoc out (word size) (word kind ++ fills)
    ∙ ap (λ n. out ++ (word n ++ (word kind ++ fills))) len
    ∙ ap (λ y. out ++ y) (sym (append_assoc (word (length fills)) (word kind) fills))

pub put_header_is : (out one two three : List ℕ) (total : ℕ) → one ≡ out ++ word 0x46546C67 → two ≡ one ++ word 2 → three ≡ two ++ word total → three ≡ out ++ header total
unfolding header word
put_header_is out one two three total a b c =
    c ∙ ap (λ y. y ++ word total) (b ∙ ap (λ y. y ++ word 2) a)
    ∙ append_assoc (out ++ word 0x46546C67) (word 2) (word total)
    ∙ append_assoc out (word 0x46546C67) (word 2 ++ word total)

pub joined_is : (none one two three all json rest : List ℕ) (bin : Option (List ℕ)) (total : ℕ) → none ≡ [] → one ≡ none ++ header total → two ≡ one ++ chunk_bytes (record { kind = json_kind; content = padded 32 json }) → three ≡ two ++ chunks_bytes (bin_chunks (option_map (padded 0) bin)) → all ≡ three ++ rest
    → total ≡ glb_len (length json) (option_map length bin) (length rest) → all ≡ glb json bin rest
unfolding glb headed
joined_is none one two three all json rest bin total z a b c d t =
    let first = chunk_bytes (record { kind = json_kind; content = padded 32 json }) in
    let second = chunks_bytes (bin_chunks (option_map (padded 0) bin)) in
    let nil : bin_chunks (option_map (padded 0) bin) ++ [] ≡ bin_chunks (option_map (padded 0) bin) = append-nil (bin_chunks (option_map (padded 0) bin)) in
    let size : total ≡ 12 + length (chunks_bytes (all_chunks (padded 32 json) (option_map (padded 0) bin) []) ++ rest) = t ∙ sym (body_len json bin rest) in
    let front : one ≡ header total = a ∙ ap (λ y. y ++ header total) z in
    d ∙ ap (λ y. y ++ rest) (c ∙ ap (λ y. y ++ second) (b ∙ ap (λ y. y ++ first) front))
    ∙ append_assoc (header total ++ first) second rest
    ∙ append_assoc (header total) first (second ++ rest)
    ∙ ap (λ y. header total ++ y) (sym (append_assoc first second rest))
    ∙ (λ i. header (size i) ++ ((first ++ chunks_bytes (sym nil i)) ++ rest))

pub map_map : {A B C : Type 0} (f : A → B) (g : B → C) (o : Option A) → option_map g (option_map f o) ≡ option_map (λ a. g (f a)) o
map_map f g None = refl
map_map f g (Some a) = refl
