-- A written stream is read back: the same triangles in their order, each from one of its corners.
use Rattle.std.proofs.Common.{◌≡◌, ℕ, zero, suc, ◌+◌, ◌-◌, ◌*◌, ◌/◌, ◌%◌, ◌^◌, ◌<◌, ◌≤◌, Bool, false, List, [], ◌∷◌, ◌++◌, take, drop, get_or, length, refl, sym, subst, ◌∙◌, ap, arith, append_assoc, length-append, Option, Some, None, Ok, Err, Result, slice_range}
use Rattle.std.specs.List.{All, flat_map, position, position_or_len, prefix_len}
use Rattle.std.proofs.lemmas.Bool.{le-ltb}
use Rattle.std.proofs.lemmas.List.{drop_at, take_at}
use Rattle.std.proofs.lemmas.List.Elements.{All-cons}
use Rattle.gp_groups.specs.Sequence.{is_too_wide, le_bytes}
use Rattle.gp_groups.specs.declared.fault.StreamFault.{StreamFault}
use Rattle.gp_groups.specs.declared.fault.StreamFault.TheVariants.{Width}
use Rattle.gp_groups.specs.Triangles.{State, Triangle, after, at_first, corners, decoded_triangles, narrow, triangle, triangles}
use Rattle.gp_groups.specs.WrittenTriangles.{Piece, codeaux, encoded_triangles, piece, pieces, rotated}
use Rattle.gp_index.specs.Resets.{NeverResets}
use Rattle.gp_index.specs.SameTriangles.{HasTriangles, SameTriangles, triangle_at}
use Rattle.gp_index.proofs.CornersBack.{Low}
use Rattle.gp_index.proofs.PiecesBack.{hearing, heard, piece_reads, piece_turned, rotated_all}
use Rattle.gp_index.proofs.Whole.{whole_stream}
use Rattle.gp_index.proofs.Writing.{written_of}

-- the list as it is read back
abbrev pub turned : State → List ℕ → List ℕ
turned s (a ∷ b ∷ c ∷ list) = corners (piece s (a, b, c)).read.corners ++ turned (after s (piece s (a, b, c)).read) list
turned s list = []

-- an index that can be written, and read with so many bytes
abbrev pub Fits : ℕ → ℕ → Type 0
Fits stride x = (x < 2 ^ 24) × (is_too_wide stride x ≡ false)

all_behind : (P : ℕ → Type 0) (a b c : ℕ) (list : List ℕ) → All P (a ∷ b ∷ c ∷ list) → All P list
all_behind P a b c list all k d h = all (suc (suc (suc k))) d (omega arith)

none_of : (p : ℕ → Bool) (a b c : ℕ) → p a ≡ false → p b ≡ false → p c ≡ false → position p (a ∷ b ∷ c ∷ []) ≡ None
none_of p a b c ea eb ec = rw (ea, eb, ec, position, position_or_len, prefix_len) refl

abbrev pub narrow_by : ℕ → List ℕ → Option ℕ → Result (List ℕ) StreamFault
narrow_by number list None = Ok list
narrow_by number list (Some k) = Err (Width (number + k))

narrow_fits : (stride number : ℕ) (t : ℕ × ℕ × ℕ) → is_too_wide stride t.0 ≡ false → is_too_wide stride t.1 ≡ false → is_too_wide stride t.2 ≡ false → narrow stride number (corners t) ≡ Ok (corners t)
narrow_fits stride number t a b c = ap (narrow_by number (corners t)) (none_of (is_too_wide stride) t.0 t.1 t.2 a b c)

one_more : (stride number code : ℕ) (table codes others : List ℕ) (s : State) (t : Triangle) → triangle table code s ≡ Ok t → narrow stride number (corners t.corners) ≡ Ok (corners t.corners) → triangles stride table (number + 3) codes (after s t) ≡ Ok others → triangles stride table number (code ∷ codes) s ≡ Ok (corners t.corners ++ others)
one_more stride number code table codes others s t read fits rest = rw (read, fits, rest) refl

pub pieces_back : (stride number : ℕ) (list : List ℕ) (s : State) → All (Fits stride) list → Low s.cursor → triangles stride codeaux number (written_of s list).0 (hearing (written_of s list).1 s) ≡ Ok (turned s list)
pieces_back stride number [] s all low = refl
pieces_back stride number (a ∷ []) s all low = refl
pieces_back stride number (a ∷ b ∷ []) s all low = refl
pieces_back stride number (a ∷ b ∷ c ∷ list) s all low =
    let first = piece s (a, b, c) in
    let behind = after s first.read in
    let others = written_of behind list in
    let fa : Fits stride a = all 0 0 (omega arith) in
    let fb : Fits stride b = all 1 0 (omega arith) in
    let fc : Fits stride c = all 2 0 (omega arith) in
    let r = piece_reads s (a, b, c) others.1 fa.0 fb.0 fc.0 low in
    let turn = piece_turned s (a, b, c) in
    let P : ℕ × ℕ × ℕ → Type 0 = λ u. Fits stride u.0 × Fits stride u.1 × Fits stride u.2 in
    let f : P first.read.corners = subst P (sym turn.2) (rotated_all (Fits stride) (a, b, c) turn.0 fa fb fc) in
    one_more stride number first.code codeaux others.0 (turned behind list) (hearing (first.bytes ++ others.1) s) (heard others.1 first.read) r.back
    (narrow_fits stride number first.read.corners f.0.1 f.1.1 f.2.1)
    (pieces_back stride (number + 3) list behind (all_behind (Fits stride) a b c list all) r.low)

-- a code for each triangle
pub codes_count : (s : State) (list : List ℕ) → length (written_of s list).0 ≡ length list / 3
codes_count s [] = refl
codes_count s (a ∷ []) = refl
codes_count s (a ∷ b ∷ []) = refl
codes_count s (a ∷ b ∷ c ∷ list) = omega (arith, codes_count (after s (piece s (a, b, c)).read) list)

-- a stream by its parts
parts_meant : (codes unread list : List ℕ) (count stride : ℕ) → length codes ≡ count / 3 → triangles stride codeaux 0 codes (at_first unread) ≡ Ok list → decoded_triangles (((0xE1 ∷ codes) ++ unread) ++ codeaux) count stride ≡ Ok (flat_map (le_bytes stride) list)
parts_meant codes unread list count stride n read =
    let bytes = ((0xE1 ∷ codes) ++ unread) ++ codeaux in
    let front : length ((0xE1 ∷ codes) ++ unread) ≡ 1 + count / 3 + length unread = omega (arith, length-append (0xE1 ∷ codes) unread, n) in
    let long : length bytes ≡ 1 + count / 3 + length unread + 16 = omega (arith, length-append ((0xE1 ∷ codes) ++ unread) codeaux, front) in
    let table : drop (length bytes - 16) bytes ≡ codeaux = drop_at ((0xE1 ∷ codes) ++ unread) codeaux (length bytes - 16) (omega (arith, front, long)) in
    let rest : bytes ≡ (0xE1 ∷ codes) ++ (unread ++ codeaux) = append_assoc (0xE1 ∷ codes) unread codeaux in
    let first : slice_range bytes 1 (1 + count / 3) ≡ codes = ap (λ (xs : List ℕ). slice_range xs 1 (1 + count / 3)) rest ∙ take_at codes (unread ++ codeaux) (1 + count / 3 - 1) (omega (arith, n)) in
    let behind : drop (1 + count / 3) bytes ≡ unread ++ codeaux = ap (drop (1 + count / 3)) rest ∙ drop_at (0xE1 ∷ codes) (unread ++ codeaux) (1 + count / 3) (omega (arith, n)) in
    let second : slice_range bytes (1 + count / 3) (length bytes - 16) ≡ unread = ap (take (length bytes - 16 - (1 + count / 3))) behind ∙ take_at unread codeaux (length bytes - 16 - (1 + count / 3)) (omega (arith, long)) in
    whole_stream bytes count stride (Ok (flat_map (le_bytes stride) list)) refl (omega (arith, long)) (rw table refl) (rw (table, first, second, read) refl)

pub stream_meant : (stride : ℕ) (list : List ℕ) → All (Fits stride) list → decoded_triangles (encoded_triangles list) (length list) stride ≡ Ok (flat_map (le_bytes stride) (turned (at_first []) list))
unfolding encoded_triangles
stream_meant stride list all =
    let written = written_of (at_first []) list in
    parts_meant written.0 written.1 (turned (at_first []) list) (length list) stride (codes_count (at_first []) list)
    (pieces_back stride 0 list (at_first []) all (omega arith, omega arith))

-- the triangles are the same
triple : (a b c x y z : ℕ) → a ≡ x → b ≡ y → c ≡ z → ◌≡◌ {A = ℕ × ℕ × ℕ} (a, b, c) (x, y, z)
triple a b c x y z p q r = rw (p, q, r) refl

triangle_more : (a b c : ℕ) (list : List ℕ) (k : ℕ) → triangle_at (a ∷ b ∷ c ∷ list) (suc k) ≡ triangle_at list k
triangle_more a b c list k =
    let at : ℕ → ℕ = λ n. get_or (a ∷ b ∷ c ∷ list) n 0 in
    let first : 3 * suc k ≡ suc (suc (suc (3 * k))) = omega arith in
    let second : 3 * suc k + 1 ≡ suc (suc (suc (3 * k + 1))) = omega arith in
    let third : 3 * suc k + 2 ≡ suc (suc (suc (3 * k + 2))) = omega arith in
    triple _ _ _ _ _ _ (ap at first) (ap at second) (ap at third)

turned_at : (a b c : ℕ) (t : ℕ × ℕ × ℕ) (list other : List ℕ) → (k : ℕ) × (k < 3) × (t ≡ rotated (a, b, c) k) → SameTriangles list other → (k : ℕ) → 3 * k < length (a ∷ b ∷ c ∷ list) → (corner : ℕ) × (corner < 3) × (triangle_at (corners t ++ other) k ≡ rotated (triangle_at (a ∷ b ∷ c ∷ list) k) corner)
turned_at a b c t list other first same zero h = first
turned_at a b c t list other first same (suc k) h =
    let later = same.turned k (omega arith) in
    (later.0, later.1, triangle_more t.0 t.1 t.2 other k ∙ later.2 ∙ ap (λ (u : ℕ × ℕ × ℕ). rotated u later.0) (sym (triangle_more a b c list k)))

pub turned_same : (s : State) (list : List ℕ) → length list % 3 ≡ 0 → SameTriangles list (turned s list)
turned_same s [] h = record { long = refl; turned = λ k lt. absurd (omega arith) }
turned_same s (a ∷ []) h = absurd (omega arith)
turned_same s (a ∷ b ∷ []) h = absurd (omega arith)
turned_same s (a ∷ b ∷ c ∷ list) h =
    let first = piece s (a, b, c) in
    let later = turned_same (after s first.read) list (omega arith) in
    record {
      long = omega (arith, later.long);
      turned = turned_at a b c first.read.corners list (turned (after s first.read) list) (piece_turned s (a, b, c)) later;
    }

-- the stream of a list, with the bytes of its indices
has_triangles : (stride : ℕ) (list bytes : List ℕ) → length list % 3 ≡ 0 → All (Fits stride) list → bytes ≡ encoded_triangles list → HasTriangles bytes list stride
has_triangles stride list bytes triple fits is = record {
  other = turned (at_first []) list;
  same = turned_same (at_first []) list triple;
  meant = rw is (stream_meant stride list fits);
}

pub in_four : (list bytes : List ℕ) → length list % 3 ≡ 0 → All (λ index. index < 2 ^ 24) list → bytes ≡ encoded_triangles list → HasTriangles bytes list 4
in_four list bytes triple low is = has_triangles 4 list bytes triple (λ k d h. (low k d h, refl)) is

pub in_two : (list bytes : List ℕ) → length list % 3 ≡ 0 → All (λ index. index ≤ 65535) list → bytes ≡ encoded_triangles list → HasTriangles bytes list 2
in_two list bytes triple low is = has_triangles 2 list bytes triple (λ k d h. (omega (arith, low k d h), le-ltb 65535 (get_or list k d) (low k d h))) is

-- no written triangle sets `next` to 0
never_resets : (s : State) (list : List ℕ) → All (λ index. index < 2 ^ 24) list → Low s.cursor → All (λ p. 0xFE ≤ p.code → 0 < get_or p.bytes 0 0) (pieces s list)
never_resets s [] all low = λ k d h. absurd (omega arith)
never_resets s (a ∷ []) all low = λ k d h. absurd (omega arith)
never_resets s (a ∷ b ∷ []) all low = λ k d h. absurd (omega arith)
never_resets s (a ∷ b ∷ c ∷ list) all low =
    let first = piece s (a, b, c) in
    let r = piece_reads s (a, b, c) [] (all 0 0 (omega arith)) (all 1 0 (omega arith)) (all 2 0 (omega arith)) low in
    All-cons (λ (p : Piece). 0xFE ≤ p.code → 0 < get_or p.bytes 0 0) first (pieces (after s first.read) list) r.keeps_next
    (never_resets (after s first.read) list (all_behind (λ index. index < 2 ^ 24) a b c list all) r.low)

pub no_resets : (list : List ℕ) → All (λ index. index < 2 ^ 24) list → NeverResets list
no_resets list all = never_resets (at_first []) list all (omega arith, omega arith)
