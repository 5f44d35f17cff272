-- The chunks of a container, where code cuts them.
use Rattle.std.proofs.Common.{◌≡◌, ◌≢◌, inl, inr, ℕ, ◌+◌, ◌-◌, ◌<◌, ◌≤◌, Bool, true, false, ◌==◌, List, [], ◌∷◌, ◌++◌, length, take, drop, Option, Some, None, refl, sym, ap, ◌∙◌, subst, arith, length-append, eq-eqb}
use Rattle.std.proofs.lemmas.Bool.Decides.{nat_tests}
use Rattle.std.proofs.Math.Seq.{take-append_seam}
use Rattle.gp_glb.specs.Bytes.{Each, Chunk, IsWhole, word_at, chunk_bytes, chunks_bytes}
use Rattle.gp_glb.specs.Container.{Container, IsText, IsOther, StandsFor, bin_chunks, bin_kind, json_kind}
use Rattle.gp_glb.specs.Faults.{body}
use Rattle.gp_glb.proofs.FirstChunk.{chunk_parts, length_chunk, drop_add, rest_is}
use Rattle.gp_glb.proofs.Headers.{no_text, words_of, body_of}
use Rattle.gp_glb.proofs.Words.{word_0, word_4, drop_words}
use Rattle.gp_pair.specs.Joined.{is_text}
use Rattle.gp_pair.specs.Answers.{HasJson, HasBin}

-- ---- texts

opened : (n : ℕ) → (n == 123) ≡ true → n ≡ 123
opened n h = grind (arith, nat_tests)

pub text_is : (bytes : List ℕ) → is_text bytes ≡ true → IsText bytes
unfolding is_text IsText
text_is bytes h = opened _ h

pub is_a_text : (bytes : List ℕ) → IsText bytes → is_text bytes ≡ true
unfolding is_text IsText
is_a_text bytes h = eq-eqb _ _ h

pub not_text : (bytes : List ℕ) → is_text bytes ≡ false → IsText bytes → ⊥
not_text bytes other t = let both : true ≡ false = sym (is_a_text bytes t) ∙ other in cc

-- what a text stands for
pub all_json : (bytes : List ℕ) (parts : Container) → IsText bytes → StandsFor bytes parts → (bytes ≡ parts.json) × (None ≡ parts.bin)
all_json bytes parts t (inl h) = (sym h.json, sym h.bin)
all_json bytes parts t (inr h) = absurd (no_text bytes h.body h.head t)

-- ---- one chunk in front

pub size_of : (c : Chunk) (r : List ℕ) → IsWhole c → word_at (chunk_bytes c ++ r) 0 ≡ length c.content
size_of c r h = rw (chunk_parts c r) (word_0 (length c.content) _ h.size)

pub kind_of : (c : Chunk) (r : List ℕ) → IsWhole c → word_at (chunk_bytes c ++ r) 4 ≡ c.kind
kind_of c r h = rw (chunk_parts c r) (word_4 (length c.content) c.kind _ h.kind)

behind : (c : Chunk) (r : List ℕ) → drop 8 (chunk_bytes c ++ r) ≡ c.content ++ r
behind c r = rw (chunk_parts c r) (drop_words (length c.content) c.kind (c.content ++ r))

pub long : (c : Chunk) (r : List ℕ) → length (chunk_bytes c ++ r) ≡ 8 + length c.content + length r
long c r = omega (arith, length-append (chunk_bytes c) r, length_chunk c)

drop_seam : (xs ys : List ℕ) → drop (length xs) (xs ++ ys) ≡ ys
drop_seam [] ys = refl
drop_seam (x ∷ xs) ys = drop_seam xs ys

-- its content, as code cuts it
pub content_of : (c : Chunk) (r : List ℕ) → take (length c.content) (drop 8 (chunk_bytes c ++ r)) ≡ c.content
content_of c r = ap (λ y. take (length c.content) y) (behind c r) ∙ take-append_seam c.content r

pub rest_of : (c : Chunk) (r : List ℕ) → drop (8 + length c.content) (chunk_bytes c ++ r) ≡ r
rest_of c r = drop_add 8 (length c.content) (chunk_bytes c ++ r) ∙ ap (λ y. drop (length c.content) y) (behind c r) ∙ drop_seam c.content r

-- ---- the body of a container

abbrev pub json_chunk : List ℕ → Chunk
json_chunk json = record { kind = json_kind; content = json }

pub body_parts : (bytes : List ℕ) (parts : Container) → (IsText bytes → ⊥) → StandsFor bytes parts
    → (12 ≤ word_at bytes 8) × (word_at bytes 8 ≤ length bytes) × HasJson (take (word_at bytes 8 - 12) (drop 12 bytes)) parts.json parts.bin
body_parts bytes parts other (inl h) = absurd (other h.text)
body_parts bytes parts other (inr h) =
    let w = words_of bytes h.body h.head in
    let cut : take (word_at bytes 8 - 12) (drop 12 bytes) ≡ h.body = body_of bytes h.body h.head in (
      omega (arith, w.2),
      omega (arith, w.2, w.3),
      record { others = h.chunks.others; whole = h.chunks.whole; kinds = h.chunks.is_rest.kinds; is_body = cut ∙ h.chunks.is_body },
    )

-- where the JSON is, and what is behind it
pub json_is : (body json : List ℕ) (bin : Option (List ℕ)) → HasJson body json bin
    → (8 + word_at body 0 ≤ length body) × (take (word_at body 0) (drop 8 body) ≡ json) × HasBin (drop (8 + word_at body 0) body) bin
json_is body json bin h =
    let c = json_chunk json in
    let r = chunks_bytes (bin_chunks bin ++ h.others) in
    let size : word_at body 0 ≡ length json = ap (λ y. word_at y 0) h.is_body ∙ size_of c r h.whole.0 in (
      omega (arith, size, ap length h.is_body, long c r),
      ap (λ n. take n (drop 8 body)) size ∙ ap (λ y. take (length json) (drop 8 y)) h.is_body ∙ content_of c r,
      record {
        others = h.others;
        whole = h.whole.1;
        kinds = h.kinds;
        is_chunks = ap (λ n. drop (8 + n) body) size ∙ ap (λ y. drop (8 + length json) y) h.is_body ∙ rest_of c r;
      },
    )

-- the same as code cuts it
pub json_long : (body json : List ℕ) (bin : Option (List ℕ)) → HasJson body json bin → 8 ≤ length body
json_long body json bin h = omega (arith, (json_is body json bin h).0)

pub json_end : (body json : List ℕ) (bin : Option (List ℕ)) (size : ℕ) → HasJson body json bin → size ≡ word_at body 0 → 8 + size ≤ length body
json_end body json bin size h is = omega (arith, (json_is body json bin h).0, is)

pub json_cut : (body json : List ℕ) (bin : Option (List ℕ)) (size : ℕ) → HasJson body json bin → size ≡ word_at body 0 → take (8 + size - 8) (drop 8 body) ≡ json
json_cut body json bin size h is = let e : 8 + size - 8 ≡ word_at body 0 = omega (arith, is) in ap (λ n. take n (drop 8 body)) e ∙ (json_is body json bin h).1

pub bin_cut : (body json : List ℕ) (bin : Option (List ℕ)) (size : ℕ) → HasJson body json bin → size ≡ word_at body 0 → HasBin (take (length body - (8 + size)) (drop (8 + size) body)) bin
bin_cut body json bin size h is =
    let cut : take (length body - (8 + size)) (drop (8 + size) body) ≡ drop (8 + word_at body 0) body = rest_is (8 + size) body ∙ ap (λ n. drop (8 + n) body) is in
    subst (λ y. HasBin y bin) (sym cut) (json_is body json bin h).2

-- and so the body
not_told : (bytes : List ℕ) (told : Bool) → told ≡ is_text bytes → told ≡ false → IsText bytes → ⊥
not_told bytes told is e = not_text bytes (sym is ∙ e)

pub told_json : (bytes : List ℕ) (told : Bool) (parts : Container) → told ≡ is_text bytes → told ≡ true → StandsFor bytes parts → (bytes ≡ parts.json) × (None ≡ parts.bin)
told_json bytes told parts is e h = all_json bytes parts (text_is bytes (sym is ∙ e)) h

pub total_is : (bytes : List ℕ) (told : Bool) (parts : Container) (total : ℕ) → told ≡ is_text bytes → told ≡ false → StandsFor bytes parts → total ≡ word_at bytes 8 → (12 ≤ total) × (total ≤ length bytes)
total_is bytes told parts total is e h t = let p = body_parts bytes parts (not_told bytes told is e) h in (omega (arith, p.0, t), omega (arith, p.1, t))

pub header_long : (bytes : List ℕ) (told : Bool) (parts : Container) → told ≡ is_text bytes → told ≡ false → StandsFor bytes parts → 12 ≤ length bytes
header_long bytes told parts is e h = let p = body_parts bytes parts (not_told bytes told is e) h in omega (arith, p.0, p.1)

pub body_has : (bytes : List ℕ) (told : Bool) (parts : Container) (total : ℕ) → told ≡ is_text bytes → told ≡ false → StandsFor bytes parts → total ≡ word_at bytes 8
    → HasJson (take (total - 12) (drop 12 bytes)) parts.json parts.bin
body_has bytes told parts total is e h t =
    let p = body_parts bytes parts (not_told bytes told is e) h in
    subst (λ n. HasJson (take (n - 12) (drop 12 bytes)) parts.json parts.bin) (sym t) p.2

-- ---- the chunks behind

bin_cases : (bin : Option (List ℕ)) (others : List Chunk) (chunks : List ℕ) → Each IsWhole (bin_chunks bin ++ others) → Each IsOther others → chunks ≡ chunks_bytes (bin_chunks bin ++ others)
    → 0 < length chunks → (8 ≤ length chunks) × (word_at chunks 4 ≡ bin_kind → (8 + word_at chunks 0 ≤ length chunks) × (Some (take (word_at chunks 0) (drop 8 chunks)) ≡ bin)) × (word_at chunks 4 ≢ bin_kind → None ≡ bin)
bin_cases None [] chunks whole kinds is some = absurd (omega (arith, some, ap length is))
bin_cases None (o ∷ others) chunks whole kinds is some =
    let r = chunks_bytes others in
    let kind : word_at chunks 4 ≡ o.kind = ap (λ y. word_at y 4) is ∙ kind_of o r whole.0 in
    (omega (arith, ap length is, long o r), (λ e. absurd (kinds.0.1 (sym kind ∙ e))), (λ _. refl))
bin_cases (Some bin) others chunks whole kinds is some =
    let c : Chunk = record { kind = bin_kind; content = bin } in
    let r = chunks_bytes others in
    let kind : word_at chunks 4 ≡ bin_kind = ap (λ y. word_at y 4) is ∙ kind_of c r whole.0 in
    let size : word_at chunks 0 ≡ length bin = ap (λ y. word_at y 0) is ∙ size_of c r whole.0 in (
      omega (arith, ap length is, long c r),
      (λ _. (omega (arith, size, ap length is, long c r), ap Some (ap (λ n. take n (drop 8 chunks)) size ∙ ap (λ y. take (length bin) (drop 8 y)) is ∙ content_of c r))),
      (λ other. absurd (other kind)),
    )

pub some_chunk : (chunks : List ℕ) (bin : Option (List ℕ)) → HasBin chunks bin → 0 < length chunks → 8 ≤ length chunks
some_chunk chunks bin h some = (bin_cases bin h.others chunks h.whole h.kinds h.is_chunks some).0

pub bin_is : (chunks : List ℕ) (bin : Option (List ℕ)) → HasBin chunks bin → 0 < length chunks → word_at chunks 4 ≡ bin_kind → (8 + word_at chunks 0 ≤ length chunks) × (Some (take (word_at chunks 0) (drop 8 chunks)) ≡ bin)
bin_is chunks bin h some kind = (bin_cases bin h.others chunks h.whole h.kinds h.is_chunks some).1 kind

pub no_bin : (chunks : List ℕ) (bin : Option (List ℕ)) → HasBin chunks bin → 0 < length chunks → word_at chunks 4 ≢ bin_kind → None ≡ bin
no_bin chunks bin h some kind = (bin_cases bin h.others chunks h.whole h.kinds h.is_chunks some).2 kind

none_left : (bin : Option (List ℕ)) (others : List Chunk) (chunks : List ℕ) → chunks ≡ chunks_bytes (bin_chunks bin ++ others) → length chunks ≡ 0 → None ≡ bin
none_left None others chunks is none = refl
none_left (Some bin) others chunks is none =
    let c : Chunk = record { kind = bin_kind; content = bin } in
    absurd (omega (arith, ap length is, long c (chunks_bytes others), none))

pub no_chunk : (chunks : List ℕ) (bin : Option (List ℕ)) → HasBin chunks bin → length chunks ≡ 0 → None ≡ bin
no_chunk chunks bin h none = none_left bin h.others chunks h.is_chunks none

-- the same as code asks for it
pub is_none : (n : ℕ) (e : Bool) → e ≡ (n == 0) → e ≡ true → n ≡ 0
is_none n e is t = grind (arith, nat_tests)

pub is_some : (n : ℕ) (e : Bool) → e ≡ (n == 0) → e ≡ false → 0 < n
is_some n e is t = grind (arith, nat_tests)

pub other_kind : (kind : ℕ) (b : Bool) → b ≡ (kind == bin_kind) → b ≡ false → kind ≢ bin_kind
other_kind kind b is f e = let both : true ≡ false = sym (eq-eqb kind bin_kind e) ∙ sym is ∙ f in cc

same_kind : (kind : ℕ) (b : Bool) → b ≡ (kind == bin_kind) → b ≡ true → kind ≡ bin_kind
same_kind kind b is t = grind (arith, nat_tests)

pub bin_end : (chunks : List ℕ) (bin : Option (List ℕ)) (kind size : ℕ) (b : Bool) → HasBin chunks bin → 0 < length chunks → kind ≡ word_at chunks 4 → size ≡ word_at chunks 0 → b ≡ (kind == bin_kind) → b ≡ true → 8 + size ≤ length chunks
bin_end chunks bin kind size b h some is_kind is_size is t = omega (arith, (bin_is chunks bin h some (sym is_kind ∙ same_kind kind b is t)).0, is_size)

pub bin_cut_out : (chunks : List ℕ) (bin : Option (List ℕ)) (kind size : ℕ) (b : Bool) → HasBin chunks bin → 0 < length chunks → kind ≡ word_at chunks 4 → size ≡ word_at chunks 0 → b ≡ (kind == bin_kind) → b ≡ true
    → Some (take (8 + size - 8) (drop 8 chunks)) ≡ bin
bin_cut_out chunks bin kind size b h some is_kind is_size is t =
    let e : 8 + size - 8 ≡ word_at chunks 0 = omega (arith, is_size) in
    ap (λ n. Some (take n (drop 8 chunks))) e ∙ (bin_is chunks bin h some (sym is_kind ∙ same_kind kind b is t)).1

pub not_bin : (chunks : List ℕ) (bin : Option (List ℕ)) (kind : ℕ) (b : Bool) → HasBin chunks bin → 0 < length chunks → kind ≡ word_at chunks 4 → b ≡ (kind == bin_kind) → b ≡ false → None ≡ bin
not_bin chunks bin kind b h some is_kind is f = no_bin chunks bin h some (λ e. other_kind kind b is f (is_kind ∙ e))
