-- What the views of a packed asset contain.
use Rattle.std.specs.Prelude.{⊤, cond, if◌then◌else◌, get_or, option_map, option_to_list, zip}
use Rattle.std.specs.List.{All, enumerate_from, list_any}
use Rattle.std.specs.Option.{IfSome}
use Rattle.std.proofs.Common.{◌≡◌, ℕ, ◌+◌, ◌/◌, ◌%◌, ◌^◌, ◌≤◌, Bool, true, false, List, [], ◌∷◌, ◌++◌, map, filter, length, take, drop, slice_get, Option, Some, None, Result, Ok, refl, sym, ap, ◌∙◌, subst, arith}
use Rattle.std.proofs.lemmas.List.{length-map, take_at}
use Rattle.std.proofs.lemmas.Option.{get_or_from_slice_get, slice_get_within}
use Rattle.gp_tree.specs.Lexical.{Each}
use Rattle.gp_groups.specs.declared.fault.StreamFault.{StreamFault}
use Rattle.gp_index.specs.SameTriangles.{SameTriangles}
use Rattle.gp_layout.specs.Layout.{laid_behind, laid}
use Rattle.gp_rules.specs.declared.accessing.Accessor.{Accessor}
use Rattle.gp_rules.specs.declared.storage.View.{View}
use Rattle.gp_rules.specs.Checks.{joined}
use Rattle.gp_rules.specs.Sizes.{padded}
use Rattle.gp_asset.specs.Asset.{AssetParts}
use Rattle.gp_asset.specs.Contents.{buffer_at, plain_bytes}
use Rattle.gp_storage.specs.declared.coding.Coding.{Coding}
use Rattle.gp_storage.specs.declared.coding.Stream.{Stream}
use Rattle.gp_storage.specs.Streams.{is_shorter, stream_as, stream_of, stored_views}
use Rattle.gp_unpack.specs.Contents.{FaultyView, decoded, at_view, contents_of, contents_from, all_contents}
use Rattle.gp_unpack.proofs.EachItem.{each_of_all, each_is}
use Rattle.gp_unpack.proofs.Places.{begins, goes_on}
use Rattle.gp_sameness.specs.Moved.{Moved, moved_flags}
use Rattle.gp_sameness.specs.Survivors.{survives, where_numbered}
use Rattle.gp_packed.specs.MadeViews.{Made, column_contents, made_column, made_columns, made_list, made_lists, made_views, made_place}
use Rattle.gp_packed.specs.Plan.{Stored, Place, stream_bytes, part_of, parts, is_stream, length_unless, all_stored, stored_made, output_views}
use Rattle.gp_packed.specs.ViewEdits.{view_edits}
use Rattle.gp_packed.specs.GroupEdits.{made_number}
use Rattle.gp_packed.specs.StoredParts.{AreBytes, IsStreamOf, Suits, SuitEach, bytes_for, stored_bytes, view_part_by, stored_views_parts}
use Rattle.gp_packed.specs.MadeLaws.{AreNumbers, IsColumn, IsWhole, list_contents}
use Rattle.gp_packed.specs.PackedParts.{made_view, unstored_views}
use Rattle.gp_kept.specs.ElementsMoved.{meaning_by, meaning_of, bytes_meant, read_back, input_contents, output_contents, ReadsBack, InputContents, OutputContents, OutputContentsStay, OutputHasColumns, OutputHasLists}
use Rattle.gp_kept.proofs.StoredRow.{edits_behind, from_the_start}
use Rattle.gp_packed.proofs.StoredSuits.{plain_contents, stored_from}
use Rattle.gp_packed.proofs.Unpacked.{none_compressed}
use Rattle.gp_packed.proofs.OutputViews.{stored_counted, survivor_there, front_found, made_found}
use Rattle.gp_kept.proofs.MadeStreams.{columns_stored, streamed_columns_back, streamed_lists_back}
use Rattle.gp_kept.proofs.MadeInOrder.{columns_found, lists_found}
use Rattle.gp_kept.proofs.KeptElements.{is_there}

-- ---- views that read back

-- what is stored is as long as the view, and means these bytes
pub record Reads (v : View) (s : Stored) (bytes : List ℕ) : Type 0 where
  pub whole : length s.contents ≡ v.length
  pub meant : meaning_of s ≡ Ok bytes

abbrev pub ReadEach : List View → List Stored → List (List ℕ) → Type 0
ReadEach [] [] [] = ⊤
ReadEach [] [] (c ∷ cs) = ⊥
ReadEach [] (s ∷ ss) cs = ⊥
ReadEach (v ∷ vs) [] cs = ⊥
ReadEach (v ∷ vs) (s ∷ ss) [] = ⊥
ReadEach (v ∷ vs) (s ∷ ss) (c ∷ cs) = Reads v s c × ReadEach vs ss cs

-- ---- from where they stand

one_by : (a : AssetParts) (contents : List ℕ) (stream : Option Stream) (place : Place) (v : View) (rest bytes : List ℕ)
    → drop place.start (buffer_at a.buffers 0) ≡ stream_bytes contents stream ++ rest → length contents ≡ v.length → meaning_by contents stream ≡ Ok bytes
    → contents_of a (view_part_by (length contents) stream place v) ≡ Ok bytes
one_by a contents None place v rest bytes here whole meant = ap Ok (ap (take v.length) here ∙ take_at contents rest v.length whole) ∙ meant
one_by a contents (Some stream) place v rest bytes here whole meant =
    let count = length contents / stream.coding.stride in
    ap (λ bs. decoded stream.coding.mode bs count stream.coding.stride) (ap (take (length stream.bytes)) here ∙ take_at stream.bytes rest (length stream.bytes) refl) ∙ meant

placed_from : (a : AssetParts) (more : List ℕ) (at fallback k : ℕ) (vs : List View) (ss : List Stored) (cs : List (List ℕ))
    → ReadEach vs ss cs → drop at (buffer_at a.buffers 0) ≡ laid_behind at (parts ss) ++ more
    → contents_from a k (stored_views_parts (edits_behind at fallback ss) vs) ≡ Ok cs
placed_from a more at fallback k [] [] [] reads there = refl
placed_from a more at fallback k [] [] (c ∷ cs) reads there = absurd reads
placed_from a more at fallback k [] (s ∷ ss) cs reads there = absurd reads
placed_from a more at fallback k (v ∷ vs) [] cs reads there = absurd reads
placed_from a more at fallback k (v ∷ vs) (s ∷ ss) [] reads there = absurd reads
placed_from a more at fallback k (v ∷ vs) (s ∷ ss) (c ∷ cs) reads there =
    let bytes = buffer_at a.buffers 0 in
    let place : Place = record { start = padded at; fallback = padded fallback } in
    let part = part_of s in
    let behind = padded at + length part in
    let past = padded fallback + length_unless s.contents s.stream in
    let rest = laid_behind behind (parts ss) in
    let here = begins at bytes part rest more there in
    let own = one_by a s.contents s.stream place v (rest ++ more) c here reads.0.whole reads.0.meant in
    let others = placed_from a more behind past (k + 1) vs ss cs reads.1 (goes_on (padded at) bytes part (rest ++ more) here) in
    let first : Result (List ℕ) FaultyView = Ok c in
    ap (λ one. joined (at_view k one) (contents_from a (k + 1) (stored_views_parts (edits_behind behind past ss) vs))) own ∙ ap (joined first) others

none_read : (a : AssetParts) (vs : List View) (cs : List (List ℕ)) → ReadEach vs [] cs → contents_from a 0 (stored_views_parts (edits_behind 0 0 []) vs) ≡ Ok cs
none_read a [] [] reads = refl
none_read a [] (c ∷ cs) reads = absurd reads
none_read a (v ∷ vs) cs reads = absurd reads

first_bytes : (two : Bool) (bytes : List ℕ) → buffer_at (bytes_for two bytes) 0 ≡ bytes
first_bytes false bytes = refl
first_bytes true bytes = refl

pub all_placed : (a : AssetParts) (more : List ℕ) (vs : List View) (ss : List Stored) (cs : List (List ℕ)) → a.buffers ≡ stored_bytes ss more → ReadEach vs ss cs
    → contents_from a 0 (stored_views_parts (view_edits ss) vs) ≡ Ok cs
unfolding stored_bytes
all_placed a more vs [] cs buffers reads = ap (λ placed. contents_from a 0 (stored_views_parts placed vs)) (from_the_start []) ∙ none_read a vs cs reads
all_placed a more vs (s ∷ ss) cs buffers reads =
    let all = s ∷ ss in
    ap (λ placed. contents_from a 0 (stored_views_parts placed vs)) (from_the_start all)
    ∙ placed_from a more 0 0 0 vs all cs reads (ap (λ bs. buffer_at bs 0) buffers ∙ first_bytes (list_any is_stream all) (laid (parts all) ++ more))

-- ---- views that stay

meaning_suits : (stride : Option ℕ) (contents : List ℕ) (stream : Option Stream) → IfSome stream (IsStreamOf stride contents) → meaning_by contents stream ≡ Ok contents
meaning_suits stride contents None suits = refl
meaning_suits stride contents (Some stream) suits = suits.means

suited_read : (vs : List View) (ss : List Stored) → SuitEach vs ss → ReadEach vs ss (map (λ (s : Stored). s.contents) ss)
suited_read [] [] suits = tt
suited_read [] (s ∷ ss) suits = absurd suits
suited_read (v ∷ vs) [] suits = absurd suits
suited_read (v ∷ vs) (s ∷ ss) suits =
    (record { whole = suits.0.whole; meant = meaning_suits v.stride s.contents s.stream suits.0.stream }, suited_read vs ss suits.1)

abbrev passing_from : {A : Type 0} → (ℕ → Bool) → ℕ → List A → List (ℕ × A)
passing_from {A} test n items = filter (λ (p : ℕ × A). test p.0) (enumerate_from n items)

abbrev items_of : {A : Type 0} → List (ℕ × A) → List A
items_of {A} items = map (λ (p : ℕ × A). p.1) items

passing_step : (b : Bool) (n : ℕ) (v : View) (s : Stored) (c : List ℕ) (vs : List (ℕ × View)) (ss : List (ℕ × Stored)) (cs : List (ℕ × List ℕ)) → Reads v s c
    → ReadEach (items_of vs) (items_of ss) (items_of cs)
    → ReadEach (items_of (cond b ((n, v) ∷ vs) vs)) (items_of (cond b ((n, s) ∷ ss) ss)) (items_of (cond b ((n, c) ∷ cs) cs))
passing_step true n v s c vs ss cs own others = (own, others)
passing_step false n v s c vs ss cs own others = others

passing_read : (test : ℕ → Bool) (n : ℕ) (vs : List View) (ss : List Stored) (cs : List (List ℕ)) → ReadEach vs ss cs
    → ReadEach (items_of (passing_from test n vs)) (items_of (passing_from test n ss)) (items_of (passing_from test n cs))
passing_read test n [] [] [] reads = tt
passing_read test n [] [] (c ∷ cs) reads = absurd reads
passing_read test n [] (s ∷ ss) cs reads = absurd reads
passing_read test n (v ∷ vs) [] cs reads = absurd reads
passing_read test n (v ∷ vs) (s ∷ ss) [] reads = absurd reads
passing_read test n (v ∷ vs) (s ∷ ss) (c ∷ cs) reads =
    passing_step (test n) n v s c (passing_from test (n + 1) vs) (passing_from test (n + 1) ss) (passing_from test (n + 1) cs) reads.0
    (passing_read test (n + 1) vs ss cs reads.1)

both_read : (vs ws : List View) (ss ts : List Stored) (cs ds : List (List ℕ)) → ReadEach vs ss cs → ReadEach ws ts ds → ReadEach (vs ++ ws) (ss ++ ts) (cs ++ ds)
both_read [] ws [] ts [] ds reads more = more
both_read [] ws [] ts (c ∷ cs) ds reads more = absurd reads
both_read [] ws (s ∷ ss) ts cs ds reads more = absurd reads
both_read (v ∷ vs) ws [] ts cs ds reads more = absurd reads
both_read (v ∷ vs) ws (s ∷ ss) ts [] ds reads more = absurd reads
both_read (v ∷ vs) ws (s ∷ ss) ts (c ∷ cs) ds reads more = (reads.0, both_read vs ws ss ts cs ds reads.1 more)

-- ---- views that are made

-- its stream has no fault
abbrev IsMeant : Made → Type 0
IsMeant v = meaning_of (stored_made v) ≡ Ok (read_back (stored_made v))

is_meant : (v : Made) (bytes : List ℕ) → meaning_of (stored_made v) ≡ Ok bytes → IsMeant v
is_meant v bytes e = e ∙ sym (ap (λ r. Ok (bytes_meant r)) e)

-- either it is plain, or it has the stream of its coding
streamed_or : (P : Result (List ℕ) StreamFault → Type 0) (c : Coding) (contents : List ℕ) (b : Bool) → P (Ok contents) → P (meaning_by contents (Some (stream_as c contents)))
    → P (meaning_by contents (if b then Some (stream_as c contents) else None))
streamed_or P c contents true plain streamed = streamed
streamed_or P c contents false plain streamed = plain

made_meaning : (P : Result (List ℕ) StreamFault → Type 0) (v : Made) → P (Ok v.contents) → P (meaning_by v.contents (Some (stream_as v.coding v.contents))) → P (meaning_of (stored_made v))
unfolding stream_of
made_meaning P v plain streamed = streamed_or P v.coding v.contents (is_shorter v.coding v.contents) plain streamed

column_meaning : (a : AssetParts) (m : Moved) (k at : ℕ) (x : Accessor) → IsWhole a m → IsColumn a m k x → All AreBytes m.records
    → meaning_of (stored_made (made_column a m k at x)) ≡ Ok (column_contents a m k x)
column_meaning a m k at x whole column small =
    made_meaning (λ r. r ≡ Ok (column_contents a m k x)) (made_column a m k at x) refl (streamed_columns_back a m k x whole column small)

columns_meant : (a : AssetParts) (m : Moved) → ReadsBack a m → Each IsMeant (made_columns a m)
columns_meant a m reads =
    each_is (λ (v : Made). Suits (length v.contents) (Some v.coding.stride) (stored_made v)) IsMeant
    (λ v suits. is_meant v v.contents (meaning_suits (Some v.coding.stride) v.contents (stored_made v).stream suits.stream))
    (made_columns a m) (each_of_all (λ (v : Made). Suits (length v.contents) (Some v.coding.stride) (stored_made v)) (made_columns a m) (columns_stored a m reads.whole reads.bytes))

-- the bytes of a list with the same triangles
pub record MeansList (m : Moved) (list : List ℕ) (meaning : Result (List ℕ) StreamFault) : Type 0 where
  pub other : List ℕ
  pub same : SameTriangles list other
  pub numbers : AreNumbers m other
  pub meant : meaning ≡ Ok (list_contents m other)

same_list : (list : List ℕ) → SameTriangles list list
same_list list = record { long = refl; turned = λ k within. (0, omega arith, refl) }

list_meaning : (m : Moved) (at : ℕ) (list : List ℕ) → length m.records ≤ 2 ^ 24 → AreNumbers m list → length list % 3 ≡ 0 → MeansList m list (meaning_of (stored_made (made_list m (at, list))))
list_meaning m at list few numbers triangles =
    let streamed = streamed_lists_back m list few numbers triangles in
    made_meaning (MeansList m list) (made_list m (at, list)) (record { other = list; same = same_list list; numbers = numbers; meant = refl })
    (record { other = streamed.other; same = streamed.same; numbers = streamed.numbers; meant = streamed.meant })

lists_meant : (m : Moved) (numbers : List ℕ) (lists : List (List ℕ)) → length m.records ≤ 2 ^ 24 → Each (AreNumbers m) lists → Each (λ (list : List ℕ). length list % 3 ≡ 0) lists
    → Each IsMeant (map (made_list m) (zip numbers lists))
lists_meant m [] lists few below triangles = tt
lists_meant m (n ∷ numbers) [] few below triangles = tt
lists_meant m (n ∷ numbers) (list ∷ lists) few below triangles =
    let own = list_meaning m n list few below.0 triangles.0 in
    (is_meant (made_list m (n, list)) (list_contents m own.other) own.meant, lists_meant m numbers lists few below.1 triangles.1)

each_append : {A : Type 0} (P : A → Type 0) (xs ys : List A) → Each P xs → Each P ys → Each P (xs ++ ys)
each_append P [] ys h g = g
each_append P (x ∷ xs) ys h g = (h.0, each_append P xs ys h.1 g)

all_meant : (a : AssetParts) (moved : List Moved) → Each (ReadsBack a) moved → Each IsMeant (made_views a moved)
all_meant a [] reads = tt
all_meant a (m ∷ moved) reads =
    let own = reads.0 in
    let numbers = m.lists ++ option_to_list m.list_accessor in
    let lists = lists_meant m numbers m.ordered own.whole.few (each_of_all (AreNumbers m) m.ordered own.whole.numbered) (each_of_all (λ (list : List ℕ). length list % 3 ≡ 0) m.ordered own.triangles) in
    each_append IsMeant (made_columns a m ++ made_lists m) (made_views a moved) (each_append IsMeant (made_columns a m) (made_lists m) (columns_meant a m own) lists) (all_meant a moved reads.1)

made_read : (vs : List Made) → Each IsMeant vs → ReadEach (map made_view vs) (map stored_made vs) (map (λ (v : Made). read_back (stored_made v)) vs)
made_read [] meant = tt
made_read (v ∷ vs) meant = (record { whole = refl; meant = meant.0 }, made_read vs meant.1)

-- ---- the laws

contents_stored : (a : AssetParts) (moved : List Bool) (at : ℕ) (vs : List View)
    → map (λ (s : Stored). s.contents) (stored_from a moved at vs) ≡ map (λ (v : View). plain_bytes a.buffers v) vs
contents_stored a moved at [] = refl
contents_stored a moved at (v ∷ vs) = ap (λ rest. plain_bytes a.buffers v ∷ rest) (contents_stored a moved (at + 1) vs)

pub input_read : InputContents
unfolding all_contents all_stored stored_views
input_read moved d a e = plain_contents a 0 a.views (none_compressed d a e) ∙ ap Ok (sym (contents_stored a (moved_flags moved (length a.accessors)) 0 a.views))

pub output_read : OutputContents
unfolding all_contents output_views output_contents
output_read moved a more packed is suits reads =
    let test = survives moved a in
    let contents = input_contents moved a in
    let made = made_views a moved in
    let stay = passing_read test 0 a.views (all_stored moved a) contents (suited_read a.views (all_stored moved a) suits) in
    let come = made_read made (all_meant a moved (each_of_all (ReadsBack a) moved reads)) in
    let read = λ (v : Made). read_back (stored_made v) in
    let both = both_read (where_numbered test a.views) (map made_view made) (where_numbered test (all_stored moved a)) (map stored_made made) (where_numbered test contents) (map read made) stay come in
    ap (contents_from packed 0) is.views ∙ all_placed packed more (unstored_views moved a) (output_views moved a) (output_contents moved a) is.buffers both

contents_counted : (moved : List Moved) (a : AssetParts) → length (input_contents moved a) ≡ length a.views
contents_counted moved a = length-map (all_stored moved a) (λ (s : Stored). s.contents) ∙ stored_counted moved a

pub contents_stay : OutputContentsStay
unfolding output_contents
contents_stay moved a view number within e =
    let contents = input_contents moved a in
    let c = is_there contents view (omega (arith, within, contents_counted moved a)) in
    front_found (where_numbered (survives moved a) contents) (map (λ (v : Made). read_back (stored_made v)) (made_views a moved)) number c.0 (survivor_there moved a contents view number e ∙ c.1) ∙ sym c.1

made_contents : (moved : List Moved) (a : AssetParts) (at : ℕ) (v : Made) (bytes : List ℕ) → slice_get (made_views a moved) (made_place (made_views a moved) at) ≡ Some v
    → meaning_of (stored_made v) ≡ Ok bytes → slice_get (output_contents moved a) (made_number moved a at) ≡ Some bytes
unfolding output_contents
made_contents moved a at v bytes found meant =
    let read = λ (v : Made). read_back (stored_made v) in
    made_found moved a (input_contents moved a) read at (contents_counted moved a) ∙ ap (option_map read) found ∙ ap (λ r. Some (bytes_meant r)) meant

pub group_has : (P : Moved → Type 0) (moved : List Moved) (i : ℕ) (m : Moved) → All P moved → slice_get moved i ≡ Some m → P m
group_has P moved i m all is = subst P (get_or_from_slice_get moved i m m is) (all i m (slice_get_within moved i m is))

pub has_columns : OutputHasColumns
has_columns a moved i k m x reads views apart is column =
    let at = get_or m.columns k 0 in
    let own = group_has (ReadsBack a) moved i m reads is in
    made_contents moved a at (made_column a m k at x) (column_contents a m k x) (columns_found a moved i k m x views apart is column) (column_meaning a m k at x own.whole column own.bytes)

pub has_lists : OutputHasLists
has_lists a moved i k at m list reads views apart is number other =
    let own = group_has (ReadsBack a) moved i m reads is in
    let within = slice_get_within m.ordered k list other in
    let here = get_or_from_slice_get m.ordered k list list other in
    let numbers : AreNumbers m list = subst (AreNumbers m) here (own.whole.numbered k list within) in
    let triangles : length list % 3 ≡ 0 = subst (λ (l : List ℕ). length l % 3 ≡ 0) here (own.triangles k list within) in
    let read = list_meaning m at list own.whole.few numbers triangles in
    record {
      other = read.other;
      same = read.same;
      numbers = read.numbers;
      found = made_contents moved a at (made_list m (at, list)) (list_contents m read.other) (lists_found a moved i k at m list views apart is number other) read.meant;
    }
