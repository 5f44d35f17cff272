-- The parts of a buffer, filled one after the other.
use Rattle.std.proofs.Common.{◌≡◌, ℕ, ◌+◌, ◌-◌, ◌<◌, ◌≤◌, List, [], ◌∷◌, ◌++◌, map, length, take, drop, replicate, get_or, take_at, Ok, refl, sym, ap, subst, ◌∙◌, arith, append_assoc, append-nil, length-append}
use Rattle.std.proofs.lemmas.List.{map-append, length-map, get_or-map, take_more, take_all, take-replicate, drop-replicate, length-replicate, drop-drop, get_or_default, length-take-le, length-drop}
use Rattle.std.proofs.Math.Seq.{take-append-add, drop-append_seam}
use Rattle.gp_rules.specs.Sizes.{padded}
use Rattle.gp_rules.specs.declared.storage.View.{View}
use Rattle.gp_layout.specs.Layout.{starts_behind, starts, laid_behind, laid, end}
use Rattle.gp_layout.proofs.Bounds.{padded_least}
use Rattle.gp_layout.proofs.Parts.{length_laid, laid_push}
use Rattle.gp_asset.specs.Asset.{AssetParts}
use Rattle.gp_unpack.specs.declared.laying.Place.{Place}
use Rattle.gp_unpack.specs.Contents.{at_view, contents_of, all_contents}
use Rattle.gp_unpack.specs.Laid.{part_in, cut, starts_of, lengths_of, IsLaid, content_length, content_lengths, ArePlaced}
use Rattle.gp_unpack.proofs.Parts.{is_at}
use Rattle.gp_unpack.proofs.Each.{with_rest, begin, next, last}
use Rattle.gp_unpack.proofs.Places.{begins, goes_on}

-- ---- one part more

-- the front of a row with zeros behind it, up to the start of the next part
row_before : (done : List (List ℕ)) (left start : ℕ) (bytes : List ℕ) → bytes ≡ laid done ++ replicate left 0 → start ≡ padded (end (map length done)) → start ≤ length bytes
    → take start bytes ≡ laid done ++ replicate (padded (end (map length done)) - end (map length done)) 0
row_before done left start bytes is begins room =
    let past : ℕ = end (map length done) in
    let gap : ℕ = padded past - past in
    let long : length (laid done) ≡ past = length_laid done in
    let zeros : List ℕ = replicate left 0 in
    let whole : length bytes ≡ length (laid done) + length zeros = ap length is ∙ length-append (laid done) zeros in
    let many : length zeros ≡ left = length-replicate {A = ℕ} left 0 in
    let sum : start ≡ length (laid done) + gap = omega (arith, long, begins, padded_least past) in
    ap (take start) is ∙ ap (λ n. take n (laid done ++ replicate left 0)) sum ∙ take-append-add (laid done) (replicate left 0) gap
    ∙ ap (λ l. laid done ++ l) (take-replicate gap left 0 (omega (arith, whole, many, room, sum)))

-- and what is behind that part
row_behind : (done : List (List ℕ)) (left n : ℕ) (bytes : List ℕ) → bytes ≡ laid done ++ replicate left 0 → drop (length (laid done) + n) bytes ≡ replicate (left - n) 0
row_behind done left n bytes is =
    ap (drop (length (laid done) + n)) is ∙ sym (drop-drop n (length (laid done)) (laid done ++ replicate left 0))
    ∙ ap (drop n) (drop-append_seam (laid done) (replicate left 0)) ∙ drop-replicate n left 0

-- a part behind its gap, and other bytes behind it
row_longer : (done : List (List ℕ)) (part rest : List ℕ)
    → (laid done ++ replicate (padded (end (map length done)) - end (map length done)) 0) ++ (part ++ rest) ≡ laid (done ++ part ∷ []) ++ rest
row_longer done part rest =
    let zeros : List ℕ = replicate (padded (end (map length done)) - end (map length done)) 0 in
    append_assoc (laid done) zeros (part ++ rest) ∙ ap (λ l. laid done ++ l) (sym (append_assoc zeros part rest))
    ∙ sym (append_assoc (laid done) (zeros ++ part) rest) ∙ ap (λ l. l ++ rest) (sym (laid_push 0 done part))

-- zeros behind a row, where a part is written behind the gap
pub row_more : (done : List (List ℕ)) (left start n : ℕ) (bytes part : List ℕ) → bytes ≡ laid done ++ replicate left 0 → start ≡ padded (end (map length done))
    → n ≡ length part → start + n ≤ length bytes
    → take start bytes ++ (part ++ drop n (drop start bytes)) ≡ laid (done ++ part ∷ []) ++ replicate (left - (start + n - length (laid done))) 0
row_more done left start n bytes part is begins ends room =
    let past : ℕ = start + n - length (laid done) in
    let over : start + n ≡ length (laid done) + past = omega (arith, length_laid done, begins, padded_least (end (map length done))) in
    let behind : drop n (drop start bytes) ≡ replicate (left - past) 0 = drop-drop n start bytes ∙ ap (λ k. drop k bytes) over ∙ row_behind done left past bytes is in
    ap (λ l. l ++ (part ++ drop n (drop start bytes))) (row_before done left start bytes is begins (omega (arith, room)))
    ∙ ap (λ l. (laid done ++ replicate (padded (end (map length done)) - end (map length done)) 0) ++ (part ++ l)) behind
    ∙ row_longer done part (replicate (left - past) 0)

-- ---- the turns

-- the first views stand in their parts, and zeros behind them
pub record Filled (a : AssetParts) (k : ℕ) (bytes : List ℕ) : Type 0 where
  pub done : List (List ℕ)
  pub left : ℕ
  pub sized : map length done ≡ take k (content_lengths a)
  pub row : bytes ≡ laid done ++ replicate left 0
  pub so_far : all_contents a ≡ with_rest a done k

pub none_filled : (a : AssetParts) (bytes : List ℕ) → bytes ≡ replicate (length bytes) 0 → Filled a 0 bytes
none_filled a bytes zeros = record { done = []; left = length bytes; sized = refl; row = zeros; so_far = begin a [] refl }

pub one_filled : (a : AssetParts) (k start n : ℕ) (v : View) (bytes part filled : List ℕ) → Filled a k bytes → k < length a.views → v ≡ get_or a.views k v
    → contents_of a v ≡ Ok part → start ≡ padded (end (take k (content_lengths a))) → n ≡ content_length a v → length part ≡ n → start + n ≤ length bytes
    → filled ≡ take start bytes ++ (part ++ drop n (drop start bytes)) → Filled a (k + 1) filled
one_filled a k start n v bytes part filled h within is e begins size long room fill =
    let count : length (content_lengths a) ≡ length a.views = length-map a.views (content_length a) in
    let here : get_or (content_lengths a) k 0 ≡ length part = get_or-map (content_length a) a.views k v 0 within ∙ ap (content_length a) (sym is) ∙ sym (long ∙ size) in
    let front : take (k + 1) (content_lengths a) ≡ take k (content_lengths a) ++ length part ∷ [] =
    take_more (content_lengths a) k 0 (omega (arith, count, within)) ∙ ap (λ m. take k (content_lengths a) ++ m ∷ []) here in
    record {
      done = h.done ++ part ∷ [];
      left = h.left - (start + n - length (laid h.done));
      sized = map-append length h.done (part ∷ []) ∙ ap (λ l. l ++ length part ∷ []) h.sized ∙ sym front;
      row = fill ∙ row_more h.done h.left start n bytes part h.row (begins ∙ ap (λ l. padded (end l)) (sym h.sized)) (sym long) room;
      so_far = next a h.done (h.done ++ part ∷ []) k v part within is (ap (at_view k) e) refl h.so_far;
    }

-- ---- all of them

-- the parts of a buffer in which parts were laid
pub cut_laid : (bytes more : List ℕ) (at : ℕ) (done : List (List ℕ)) (parts : List Place) → starts_of parts ≡ starts_behind at (map length done)
    → lengths_of parts ≡ map length done → drop at bytes ≡ laid_behind at done ++ more → cut bytes parts ≡ done
cut_laid bytes more at [] [] placed sized there = refl
cut_laid bytes more at [] (p ∷ parts) placed sized there = absurd (cc)
cut_laid bytes more at (part ∷ done) [] placed sized there = absurd (cc)
cut_laid bytes more at (part ∷ done) (p ∷ parts) placed sized there =
    let start = padded at in
    let begins_here : p.start ≡ start = cc in
    let long : p.length ≡ length part = cc in
    let others : starts_of parts ≡ starts_behind (start + length part) (map length done) = cc in
    let lengths : lengths_of parts ≡ map length done = cc in
    let rest = laid_behind (start + length part) done in
    let here = begins at bytes part rest more there in
    let own : part_in bytes p ≡ part = ap (λ n. take p.length (drop n bytes)) begins_here ∙ ap (take p.length) here ∙ take_at part (rest ++ more) p.length (sym long) in
    ap (λ c. c ∷ cut bytes parts) own ∙ ap (λ cs. part ∷ cs) (cut_laid bytes more (start + length part) done parts others lengths (goes_on start bytes part (rest ++ more) here))

pub all_filled : (a : AssetParts) (k : ℕ) (bytes : List ℕ) (parts : List Place) → length a.views ≤ k → ArePlaced (content_lengths a) parts (length bytes)
    → Filled a k bytes → IsLaid bytes parts × (all_contents a ≡ Ok (cut bytes parts))
all_filled a k bytes parts past placed h =
    let count : length (content_lengths a) ≡ length a.views = length-map a.views (content_length a) in
    let sizes : map length h.done ≡ content_lengths a = h.sized ∙ take_all k (content_lengths a) (omega (arith, count, past)) in
    let until : length bytes ≡ end (map length h.done) = placed.ended ∙ ap end (sym sizes) in
    let whole : length bytes ≡ end (map length h.done) + h.left =
    ap length h.row ∙ length-append (laid h.done) (replicate h.left 0) ∙ omega (arith, length_laid h.done, length-replicate {A = ℕ} h.left 0) in
    let none : h.left ≡ 0 = omega (arith, until, whole) in
    let row : bytes ≡ laid h.done = h.row ∙ ap (λ n. laid h.done ++ replicate n 0) none ∙ append-nil (laid h.done) in
    let pieces : cut bytes parts ≡ h.done = cut_laid bytes [] 0 h.done parts (placed.placed ∙ ap starts (sym sizes)) (placed.sized ∙ sym sizes) (row ∙ sym (append-nil (laid h.done))) in (
      record {
        sized = ap (map length) pieces ∙ sizes ∙ sym placed.sized;
        placed = placed.placed ∙ ap starts (sym placed.sized);
        row = row ∙ ap laid (sym pieces);
      },
      last a h.done k past h.so_far ∙ ap Ok (sym pieces),
    )

-- ---- the part of a view

-- part k is as long as the contents of view k, and within the buffer
pub record IsFor (a : AssetParts) (k until : ℕ) (part : Place) (v : View) : Type 0 where
  pub begins : part.start ≡ padded (end (take k (content_lengths a)))
  pub size : part.length ≡ content_length a v
  pub within : part.start + part.length ≤ until
  pub found : v ≡ get_or a.views k v
  pub below : k < length a.views

-- there is a part k
has_part : (a : AssetParts) (parts : List Place) (until k : ℕ) (views : List View) → ArePlaced (content_lengths a) parts until → views ≡ a.views → k < length views → k < length parts
has_part a parts until k views placed same inside =
    let count : length (content_lengths a) ≡ length a.views = length-map a.views (content_length a) in
    let all : length parts ≡ length (content_lengths a) = sym (length-map parts (λ (p : Place). p.length)) ∙ ap length placed.sized in
    let within : k < length a.views = subst (λ vs. k < length vs) same inside in
    omega (arith, within, count, all)

pub ends_within : (a : AssetParts) (parts : List Place) (until k : ℕ) (d : Place) (views : List View) → ArePlaced (content_lengths a) parts until
    → views ≡ a.views → k < length views → (get_or parts k d).start + (get_or parts k d).length ≤ until
ends_within a parts until k d views placed same inside = (is_at (content_lengths a) parts until k d placed (has_part a parts until k views placed same inside)).within

pub part_at : (a : AssetParts) (parts : List Place) (until k : ℕ) (d : Place) (views : List View) (e : View) → ArePlaced (content_lengths a) parts until
    → views ≡ a.views → k < length views → IsFor a k until (get_or parts k d) (get_or views k e)
part_at a parts until k d views e placed same inside =
    let v = get_or views k e in
    let within : k < length a.views = subst (λ vs. k < length vs) same inside in
    let is : v ≡ get_or a.views k v = get_or_default views k e v inside ∙ ap (λ vs. get_or vs k v) same in
    let here = is_at (content_lengths a) parts until k d placed (has_part a parts until k views placed same inside) in
    record {
      begins = here.begins;
      size = here.size ∙ get_or-map (content_length a) a.views k v 0 within ∙ ap (content_length a) (sym is);
      within = here.within;
      found = is;
      below = within;
    }

-- it has room for just these contents
pub has_room : (start n size : ℕ) (bytes : List ℕ) → start + n ≤ length bytes → n ≡ size → length (take (start + n - start) (drop start bytes)) ≡ size
has_room start n size bytes within is =
    let same : start + n - start ≡ n = omega arith in
    length-take-le (start + n - start) (drop start bytes) (omega (arith, length-drop start bytes, within)) ∙ same ∙ is

-- filled with them
pub filled_part : (a : AssetParts) (k until : ℕ) (p : Place) (v : View) (bytes part filled : List ℕ) → Filled a k bytes → IsFor a k until p v → contents_of a v ≡ Ok part
    → length part ≡ length (take (p.start + p.length - p.start) (drop p.start bytes)) → length bytes ≡ until
    → filled ≡ take p.start bytes ++ (part ++ drop (p.start + p.length - p.start) (drop p.start bytes)) → Filled a (k + 1) filled
filled_part a k until p v bytes part filled h here e long all fill =
    let same : p.start + p.length - p.start ≡ p.length = omega arith in
    let room : p.start + p.length ≤ length bytes = omega (arith, here.within, all) in
    one_filled a k p.start (p.start + p.length - p.start) v bytes part filled h here.below here.found e here.begins (same ∙ here.size)
    (long ∙ has_room p.start p.length p.length bytes room refl ∙ sym same) (omega (arith, room)) fill
