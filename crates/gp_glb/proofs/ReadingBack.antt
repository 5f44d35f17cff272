-- A joined container, read back, and the parts of any container.
use Rattle.std.proofs.Common.{inl, ◌≡◌, inr, ℕ, ◌+◌, ◌%◌, ◌<◌, ◌^◌, List, [], ◌++◌, length, replicate, sym, ap, ◌∙◌, arith, append_assoc, length-append, Some, None, Option, IfSome, ◌≤◌}
use Rattle.std.proofs.lemmas.List.{append-nil, length-replicate}
use Rattle.std.specs.Option.{option_map}
use Rattle.gp_glb.specs.Bytes.{Chunk, IsWhole, word, chunk_bytes, chunks_bytes, header, headed, padded, missing}
use Rattle.gp_glb.specs.Container.{IsRest, AreChunks, all_chunks, json_kind, bin_kind, glb, glb_len, padded_len}
use Rattle.gp_glb.specs.Laws.{HasLength, PartsAreWithin, ReadsBack, RestsAreKept, RestsAreWhole, RestsHaveChunks, StandsForItsParts}
use Rattle.gp_glb.proofs.FirstChunk.{length_chunk}

pub length_padded : (filler : ℕ) (xs : List ℕ) → length (padded filler xs) ≡ padded_len (length xs)
unfolding padded
length_padded filler xs = omega (arith, length-append xs (replicate (missing (length xs)) filler), length-replicate (missing (length xs)) filler)

aligned : (n : ℕ) → padded_len n % 4 ≡ 0
aligned n = omega arith

length_headed : (b : List ℕ) → length (headed b) ≡ 12 + length b
unfolding headed header word
length_headed b = omega arith

-- the chunks of a container without a rest
length_none : (json : List ℕ) → length (chunks_bytes (all_chunks (padded 32 json) None [])) ≡ 8 + padded_len (length json)
length_none json =
    let c : Chunk = record { kind = json_kind; content = padded 32 json } in
    omega (arith, length-append (chunk_bytes c) [], length_chunk c, length_padded 32 json)

length_some : (json bin : List ℕ) → length (chunks_bytes (all_chunks (padded 32 json) (Some (padded 0 bin)) [])) ≡ 16 + padded_len (length json) + padded_len (length bin)
length_some json bin =
    let c : Chunk = record { kind = json_kind; content = padded 32 json } in
    let d : Chunk = record { kind = bin_kind; content = padded 0 bin } in
    omega (arith, length-append (chunk_bytes c) (chunk_bytes d ++ []), length-append (chunk_bytes d) [], length_chunk c, length_chunk d, length_padded 32 json, length_padded 0 bin)

pub body_len : (json : List ℕ) (bin : Option (List ℕ)) (rest : List ℕ) → 12 + length (chunks_bytes (all_chunks (padded 32 json) (option_map (padded 0) bin) []) ++ rest) ≡ glb_len (length json) (option_map length bin) (length rest)
body_len json None rest = omega (arith, length-append (chunks_bytes (all_chunks (padded 32 json) None [])) rest, length_none json)
body_len json (Some bin) rest = omega (arith, length-append (chunks_bytes (all_chunks (padded 32 json) (Some (padded 0 bin)) [])) rest, length_some json bin)

pub has_length : HasLength
unfolding glb
has_length json bin rest = length_headed _ ∙ body_len json bin rest

whole_chunk : (kind filler : ℕ) (xs : List ℕ) → kind < 2 ^ 32 → padded_len (length xs) < 2 ^ 32 → IsWhole (record { kind = kind; content = padded filler xs })
whole_chunk kind filler xs k h =
    let l = length_padded filler xs in
    record { aligned = rw l (aligned (length xs)); size = rw l h; kind = k }

are_chunks : (json : List ℕ) (bin : Option (List ℕ)) (rest : List ℕ) (others : List Chunk) → glb_len (length json) (option_map length bin) (length rest) < 2 ^ 32 → IsRest rest others
    → AreChunks (chunks_bytes (all_chunks (padded 32 json) (option_map (padded 0) bin) []) ++ rest) (record { json = padded 32 json; bin = option_map (padded 0) bin; rest = rest })
are_chunks json None rest others h r =
    let c : Chunk = record { kind = json_kind; content = padded 32 json } in
    record {
      others = others;
      is_rest = r;
      whole = (whole_chunk json_kind 32 json (omega arith) (omega arith), r.whole);
      is_body = append_assoc (chunk_bytes c) [] rest ∙ ap (λ y. chunk_bytes c ++ y) r.bytes;
    }
are_chunks json (Some bin) rest others h r =
    let c : Chunk = record { kind = json_kind; content = padded 32 json } in
    let d : Chunk = record { kind = bin_kind; content = padded 0 bin } in
    record {
      others = others;
      is_rest = r;
      whole = (whole_chunk json_kind 32 json (omega arith) (omega arith), (whole_chunk bin_kind 0 bin (omega arith) (omega arith), r.whole));
      is_body = append_assoc (chunk_bytes c) (chunk_bytes d ++ []) rest ∙ ap (λ y. chunk_bytes c ++ y) (append_assoc (chunk_bytes d) [] rest ∙ ap (λ y. chunk_bytes d ++ y) r.bytes);
    }

pub stands_for_its_parts : StandsForItsParts
unfolding glb
stands_for_its_parts json bin rest others h r =
    let b = chunks_bytes (all_chunks (padded 32 json) (option_map (padded 0) bin) []) ++ rest in
    inr (record {
      body = b;
      head = record { past = []; total = omega (arith, body_len json bin rest, h); is_bytes = sym (append-nil (headed b)) };
      chunks = are_chunks json bin rest others h r;
    })

pub reads_back : ReadsBack
reads_back json bin rest others h small r = (stands_for_its_parts json bin rest others h r, small)

pub rests_have_chunks : RestsHaveChunks
rests_have_chunks bytes parts (inl t) = ([], record { whole = tt; kinds = tt; bytes = t.rest })
rests_have_chunks bytes parts (inr g) = (g.chunks.others, g.chunks.is_rest)

pub rests_are_whole : RestsAreWhole
rests_are_whole bytes parts h = let r = rests_have_chunks bytes parts h in record { chunks = r.0; whole = r.1.whole; is_bytes = r.1.bytes }

pub rests_are_kept : RestsAreKept
rests_are_kept bytes parts json bin h fits = let r = rests_have_chunks bytes parts h in stands_for_its_parts json bin parts.rest r.0 fits r.1

within : (json : List ℕ) (bin : Option (List ℕ)) (others : List Chunk) (most : ℕ) → length (chunks_bytes (all_chunks json bin others)) ≤ most
    → (length json ≤ most) × IfSome bin (λ b. length b ≤ most) × (length (chunks_bytes others) ≤ most)
within json None others most h =
    let c : Chunk = record { kind = json_kind; content = json } in
    let first = length-append (chunk_bytes c) (chunks_bytes others) in
    (omega (arith, h, first, length_chunk c), tt, omega (arith, h, first, length_chunk c))
within json (Some bin) others most h =
    let c : Chunk = record { kind = json_kind; content = json } in
    let d : Chunk = record { kind = bin_kind; content = bin } in
    let first = length-append (chunk_bytes c) (chunk_bytes d ++ chunks_bytes others) in
    let second = length-append (chunk_bytes d) (chunks_bytes others) in
    (omega (arith, h, first, second, length_chunk c, length_chunk d), omega (arith, h, first, second, length_chunk c, length_chunk d), omega (arith, h, first, second, length_chunk c, length_chunk d))

pub parts_are_within : PartsAreWithin
parts_are_within bytes parts (inl t) = record {
  json = omega (arith, ap length t.json);
  bin = rw t.bin tt;
  rest = omega (arith, ap length t.rest);
}
parts_are_within bytes parts (inr g) =
    let len : length (chunks_bytes (all_chunks parts.json parts.bin g.chunks.others)) ≤ length bytes = omega (arith, ap length g.head.is_bytes, length-append (headed g.body) g.head.past, length_headed g.body, ap length g.chunks.is_body) in
    let w = within parts.json parts.bin g.chunks.others (length bytes) len in
    record { json = w.0; bin = w.1; rest = omega (arith, w.2, ap length g.chunks.is_rest.bytes) }
