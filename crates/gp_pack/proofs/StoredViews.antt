-- The views of an asset with their streams, by number.
use Rattle.std.proofs.Common.{◌≡◌, ℕ, zero, suc, ◌+◌, ◌≤◌, append_assoc, append-nil, ◌<◌, inl, inr, List, [], ◌∷◌, ◌++◌, map, length, drop, Option, Some, None, IsSome, refl, sym, ap, ◌∙◌, subst, arith}
use Rattle.std.specs.List.{All, slice_get, zip, filter}
use Rattle.std.specs.Option.{option_map, option_and_then}
use Rattle.std.proofs.lemmas.List.{length-map}
use Rattle.std.proofs.lemmas.List.Elements.{All-get_or}
use Rattle.std.proofs.lemmas.Option.{slice_get-map, slice_get_cases}
use Rattle.gp_rules.specs.declared.storage.View.{View}
use Rattle.gp_asset.specs.Contents.{plain_bytes, plain_if, plain_views, bytes_at}
use Rattle.gp_asset.specs.Asset.{AssetParts}
use Rattle.gp_storage.specs.declared.coding.Stream.{Stream}
use Rattle.gp_packed.specs.Plan.{Stored, stored_as, stored_with}
use Rattle.gp_pack.specs.Placement.{Shown, shown_of}
use Rattle.gp_pack.specs.OutputParts.{kept_rows}
use Rattle.gp_pack.proofs.Placed.{drop_next, zip_at}

abbrev pub ArePlain : AssetParts → Type 0
ArePlain a = All (λ (v : View). v.packed ≡ None) a.views

record ViewAt (a : AssetParts) (k : ℕ) : Type 0 where
  pub view : View
  pub there : slice_get a.views k ≡ Some view
  pub plain : view.packed ≡ None

view_there : (a : AssetParts) (k : ℕ) → ArePlain a → k < length a.views → ViewAt a k
view_there a k all within = elim (slice_get_cases a.views k).1 [
  | inl here ↦ record {
    view = here.0;
    there = here.2;
    plain = subst (λ (v : View). v.packed ≡ None) here.3 (All-get_or (λ (v : View). v.packed ≡ None) a.views k here.0 here.1 all);
  }
  | inr there ↦ absurd (omega (arith, there.0, within))
]

plain_by : (buffers : List (Option (List ℕ))) (v : View) → v.packed ≡ None → plain_if buffers v v.packed ≡ Some (plain_bytes buffers v)
plain_by buffers v plain = ap (plain_if buffers v) plain

bytes_there : (a : AssetParts) (k : ℕ) (v : ViewAt a k) → bytes_at (plain_views a) k ≡ Some (plain_bytes a.buffers v.view)
bytes_there a k v =
    ap (option_and_then (λ bytes. bytes)) (slice_get-map (λ (v : View). plain_if a.buffers v v.packed) a.views k)
    ∙ ap (λ o. option_and_then (λ bytes. bytes) (option_map (λ (v : View). plain_if a.buffers v v.packed) o)) v.there
    ∙ plain_by a.buffers v.view v.plain

pub has_view : (a : AssetParts) (k : ℕ) → ArePlain a → k < length a.views → IsSome (bytes_at (plain_views a) k)
has_view a k all within = subst IsSome (sym (bytes_there a k (view_there a k all within))) refl

pub stored_at : (a : AssetParts) (streams : List (Option Stream)) (k : ℕ) (bytes : List ℕ) (o : Option Stream) → ArePlain a → k < length a.views
    → slice_get streams k ≡ Some o → bytes_at (plain_views a) k ≡ Some bytes → slice_get (stored_with a streams) k ≡ Some (stored_as (bytes, o))
stored_at a streams k bytes o all within here is =
    let v = view_there a k all within in
    let same : Some (plain_bytes a.buffers v.view) ≡ Some bytes = sym (bytes_there a k v) ∙ is in
    let own : plain_bytes a.buffers v.view ≡ bytes = cc in
    let there : slice_get (map (λ (v : View). plain_bytes a.buffers v) a.views) k ≡ Some bytes =
    slice_get-map (λ (v : View). plain_bytes a.buffers v) a.views k ∙ ap (option_map (λ (v : View). plain_bytes a.buffers v)) v.there ∙ ap Some own in
    slice_get-map stored_as (zip (map (λ (v : View). plain_bytes a.buffers v) a.views) streams) k
    ∙ ap (option_map stored_as) (zip_at (map (λ (v : View). plain_bytes a.buffers v) a.views) streams k bytes o there here)

-- ---- those that have a new number

abbrev pub Row : Type 0
Row = Option ℕ × Stored

split_one : (o : Option ℕ) (s : Stored) (rows : List Row) → kept_rows ((o, s) ∷ rows) ≡ kept_rows ((o, s) ∷ []) ++ kept_rows rows
split_one None s rows = refl
split_one (Some n) s rows = refl

-- one more, and its number and its view
pub one_kept : (a : AssetParts) (streams : List (Option Stream)) (numbers : List (Option ℕ)) (old before after : List Shown) (k : ℕ) (bytes : List ℕ) (number : Option ℕ) (o : Option Stream)
    → ArePlain a → k < length a.views → slice_get streams k ≡ Some o → slice_get numbers k ≡ Some number → bytes_at (plain_views a) k ≡ Some bytes
    → after ≡ before ++ kept_rows ((number, stored_as (bytes, o)) ∷ [])
    → before ++ kept_rows (drop k (zip numbers (stored_with a streams))) ≡ old
    → after ++ kept_rows (drop (k + 1) (zip numbers (stored_with a streams))) ≡ old
one_kept a streams numbers old before after k bytes number o all within here renewed is more whole =
    let s = stored_as (bytes, o) in
    let rows = zip numbers (stored_with a streams) in
    let next : drop k rows ≡ (number, s) ∷ drop (k + 1) rows = drop_next rows k (number, s) (zip_at numbers (stored_with a streams) k number s renewed (stored_at a streams k bytes o all within here is)) in
    ap (λ l. l ++ kept_rows (drop (k + 1) rows)) more
    ∙ append_assoc before (kept_rows ((number, s) ∷ [])) (kept_rows (drop (k + 1) rows))
    ∙ ap (λ l. before ++ l) (sym (split_one number s (drop (k + 1) rows)))
    ∙ ap (λ (l : List Row). before ++ kept_rows l) (sym next)
    ∙ whole

drop_past : {A : Type 0} (xs : List A) (k : ℕ) → length xs ≤ k → drop k xs ≡ []
drop_past [] zero h = refl
drop_past [] (suc k) h = refl
drop_past (x ∷ xs) zero h = absurd (omega (arith, h))
drop_past (x ∷ xs) (suc k) h = drop_past xs k (omega (arith, h))

zip_short : {A B : Type 0} (xs : List A) (ys : List B) → length (zip xs ys) ≤ length xs
zip_short [] ys = omega arith
zip_short (x ∷ xs) [] = omega arith
zip_short (x ∷ xs) (y ∷ ys) = omega (arith, zip_short xs ys)

pub all_kept : (a : AssetParts) (streams : List (Option Stream)) (numbers : List (Option ℕ)) (old before : List Shown) (k : ℕ) → length numbers ≤ k
    → before ++ kept_rows (drop k (zip numbers (stored_with a streams))) ≡ old → before ≡ old
all_kept a streams numbers old before k past whole =
    let over : drop k (zip numbers (stored_with a streams)) ≡ [] = drop_past (zip numbers (stored_with a streams)) k (omega (arith, past, zip_short numbers (stored_with a streams))) in
    sym (append-nil before) ∙ ap (λ (l : List Row). before ++ kept_rows l) (sym over) ∙ whole

-- ---- bytes of parts

pub shown_more : {A B : Type 0} (f : A → B) (xs : List A) (x : A) → map f (xs ++ x ∷ []) ≡ map f xs ++ f x ∷ []
shown_more f [] x = refl
shown_more f (y ∷ xs) x = ap (λ l. f y ∷ l) (shown_more f xs x)
