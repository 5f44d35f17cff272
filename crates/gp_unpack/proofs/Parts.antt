-- Parts of a buffer in a row: where each of them is, and that it is within.
use Rattle.std.proofs.Common.{◌≡◌, ℕ, zero, suc, ◌+◌, ◌<◌, ◌≤◌, List, [], ◌∷◌, ◌++◌, length, take, get_or, refl, sym, ap, subst, ◌∙◌, arith}
use Rattle.std.proofs.lemmas.List.{map-append, length-map, get_or-map, take_more}
use Rattle.gp_rules.specs.Sizes.{padded}
use Rattle.gp_rules.specs.declared.storage.View.{View}
use Rattle.gp_asset.specs.Asset.{AssetParts}
use Rattle.gp_layout.specs.Layout.{starts_behind, starts, end_behind, end}
use Rattle.gp_layout.proofs.Bounds.{end_least}
use Rattle.gp_unpack.specs.declared.laying.Place.{Place}
use Rattle.gp_unpack.specs.Laid.{place, content_length, content_lengths, ArePlaced}

-- ---- one part more

starts_more : (at : ℕ) (sizes : List ℕ) (n : ℕ) → starts_behind at (sizes ++ n ∷ []) ≡ starts_behind at sizes ++ padded (end_behind at sizes) ∷ []
starts_more at [] n = refl
starts_more at (m ∷ sizes) n = ap (λ l. padded at ∷ l) (starts_more (padded at + m) sizes n)

end_more : (at : ℕ) (sizes : List ℕ) (n : ℕ) → end_behind at (sizes ++ n ∷ []) ≡ padded (end_behind at sizes) + n
end_more at [] n = refl
end_more at (m ∷ sizes) n = end_more (padded at + m) sizes n

pub placed_none : (sizes : List ℕ) (parts : List Place) → parts ≡ [] → ArePlaced (take 0 sizes) parts 0
placed_none sizes parts none = subst (λ ps. ArePlaced [] ps 0) (sym none) (record { sized = refl; placed = refl; ended = refl })

placed_one : (sizes : List ℕ) (parts : List Place) (until n : ℕ) → ArePlaced sizes parts until
    → ArePlaced (sizes ++ n ∷ []) (parts ++ place (padded until) n ∷ []) (padded until + n)
placed_one sizes parts until n h =
    let one = place (padded until) n ∷ [] in
    record {
      sized = map-append (λ (p : Place). p.length) parts one ∙ ap (λ l. l ++ n ∷ []) h.sized;
      placed = map-append (λ (p : Place). p.start) parts one ∙ ap (λ l. l ++ padded until ∷ []) h.placed ∙ ap (λ e. starts sizes ++ padded e ∷ []) h.ended ∙ sym (starts_more 0 sizes n);
      ended = ap (λ e. padded e + n) h.ended ∙ sym (end_more 0 sizes n);
    }

pub placed_more : (sizes : List ℕ) (parts longer : List Place) (until later k n : ℕ) → ArePlaced (take k sizes) parts until → k < length sizes
    → get_or sizes k 0 ≡ n → longer ≡ parts ++ place (padded until) n ∷ [] → later ≡ padded until + n → ArePlaced (take (k + 1) sizes) longer later
placed_more sizes parts longer until later k n h within is more ends =
    let front : take (k + 1) sizes ≡ take k sizes ++ n ∷ [] = take_more sizes k 0 within ∙ ap (λ m. take k sizes ++ m ∷ []) is in
    rw (front, more, ends) (placed_one (take k sizes) parts until n h)

-- ---- where a part is

start_at : (at : ℕ) (sizes : List ℕ) (k : ℕ) → k < length sizes → get_or (starts_behind at sizes) k 0 ≡ padded (end_behind at (take k sizes))
start_at at [] k within = absurd (omega (arith, within))
start_at at (n ∷ sizes) zero within = refl
start_at at (n ∷ sizes) (suc k) within = start_at (padded at + n) sizes k (omega (arith, within))

front_ends : (at : ℕ) (sizes : List ℕ) (k : ℕ) → k < length sizes → padded (end_behind at (take k sizes)) + get_or sizes k 0 ≤ end_behind at sizes
front_ends at [] k within = absurd (omega (arith, within))
front_ends at (n ∷ sizes) zero within = end_least (padded at + n) sizes
front_ends at (n ∷ sizes) (suc k) within = front_ends (padded at + n) sizes k (omega (arith, within))

pub record IsAt (sizes : List ℕ) (part : Place) (k until : ℕ) : Type 0 where
  pub begins : part.start ≡ padded (end (take k sizes))
  pub size : part.length ≡ get_or sizes k 0
  pub within : part.start + part.length ≤ until

-- part k
pub is_at : (sizes : List ℕ) (parts : List Place) (until k : ℕ) (d : Place) → ArePlaced sizes parts until → k < length parts
    → IsAt sizes (get_or parts k d) k until
is_at sizes parts until k d h below =
    let count : length sizes ≡ length parts = ap length (sym h.sized) ∙ length-map parts (λ (p : Place). p.length) in
    let inside : k < length sizes = omega (arith, below, count) in
    let begins : (get_or parts k d).start ≡ padded (end (take k sizes)) =
    sym (get_or-map (λ (p : Place). p.start) parts k d 0 below) ∙ ap (λ l. get_or l k 0) h.placed ∙ start_at 0 sizes k inside in
    let long : (get_or parts k d).length ≡ get_or sizes k 0 = sym (get_or-map (λ (p : Place). p.length) parts k d 0 below) ∙ ap (λ l. get_or l k 0) h.sized in
    record { begins = begins; size = long; within = omega (arith, begins, long, front_ends 0 sizes k inside, h.ended) }

-- ---- how long the contents of a view are

pub length_at : (a : AssetParts) (views : List View) (k n : ℕ) (d : View) → views ≡ a.views → k < length views → n ≡ content_length a (get_or views k d)
    → get_or (content_lengths a) k 0 ≡ n
length_at a views k n d same within is =
    get_or-map (content_length a) a.views k d 0 (subst (λ vs. k < length vs) same within) ∙ ap (λ vs. content_length a (get_or vs k d)) (sym same) ∙ sym is
