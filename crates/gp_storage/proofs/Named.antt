-- Which views hold images, image by image.
use Rattle.std.proofs.Common.{◌≡◌, ℕ, ◌+◌, ◌<◌, ◌≤◌, ◌⊎◌, inl, inr, nat_lt, Bool, true, false, ◌||◌, List, [], ◌∷◌, length, get_or, take, Option, Some, None, refl, sym, ap, ◌∙◌, arith}
use Rattle.std.proofs.Math.Bool.{or-false}
use Rattle.std.proofs.Math.ListN.{set, replicate}
use Rattle.std.proofs.lemmas.Bool.{ne_eqb, eq-eqb, cases_lt, lt-ltb, ltb-true}
use Rattle.std.proofs.lemmas.Option.{none-some, cond_some}
use Rattle.std.proofs.lemmas.List.{take_more}
use Rattle.std.proofs.lemmas.List.Folds.{list_any-append}
use Rattle.gp_storage.specs.Readers.{names, has_image}
use Rattle.gp_storage.specs.Shared.{placed}
use Rattle.gp_storage.proofs.Tables.{table, set_table, same_table, constant_table}

-- what `placed` says of the views below the count

pub record IsPlaced (n : ℕ) (number : Option ℕ) (at : ℕ) : Type 0 where
  pub within : at < n
  pub here : names at number ≡ true
  pub others : (k : ℕ) → (k ≡ at → ⊥) → names k number ≡ false

pub is_placed : (n at : ℕ) (number : Option ℕ) → placed n number ≡ Some at → IsPlaced n number at
is_placed n at None e = elim (none-some at e) [ ]
is_placed n at (Some number) e =
    let found = cond_some (nat_lt number n) number at e in
    let below = ltb-true number n found.0 in
    record {
      within = omega (arith, found.1, below);
      here = eq-eqb number at found.1;
      others = λ k differ. ne_eqb number k (λ is. differ (sym is ∙ found.1));
    }

pub not_placed : (n k : ℕ) (number : Option ℕ) → placed n number ≡ None → k < n → names k number ≡ false
not_placed n k None e below = refl
not_placed n k (Some number) e below = ne_eqb number k (λ is. not_below (cases_lt number n) is)
  where
    not_below : (number < n) ⊎ (n ≤ number) → number ≡ k → ⊥
    not_below (inl less) is = none-some number (sym (rw (lt-ltb number n less) at e))
    not_below (inr more) is = omega (arith, more, is, below)

image_more : (images : List (Option ℕ)) (at k : ℕ) (image d : Option ℕ) → at < length images → image ≡ get_or images at d → has_image (take (at + 1) images) k ≡ (has_image (take at images) k || names k image)
image_more images at k image d within is =
    rw (take_more images at d within, list_any-append (names k) (take at images) (get_or images at d ∷ []), ← is, or-false (names k image)) refl

abbrev pub so_far : List (Option ℕ) → ℕ → ℕ → List Bool
so_far images at n = table (has_image (take at images)) n

-- before the first image
pub none : (images : List (Option ℕ)) (n : ℕ) (named : List Bool) → named ≡ replicate n false → named ≡ so_far images 0 n
none images n named e = e ∙ constant_table (has_image []) false n (λ k. refl)

or-true : (b : Bool) → (b || true) ≡ true
or-true true = refl
or-true false = refl

-- past an image of a view that is there
pub one_more : (images : List (Option ℕ)) (at n view : ℕ) (image d : Option ℕ) (named : List Bool) → at < length images → image ≡ get_or images at d → placed n image ≡ Some view
    → named ≡ so_far images at n → set named view true ≡ so_far images (at + 1) n
one_more images at n view image d named within is there e =
    let p = is_placed n view image there in
    let more = λ (k : ℕ). image_more images at k image d within is in
    ap (λ xs. set xs view true) e
    ∙ set_table (has_image (take at images)) (has_image (take (at + 1) images)) true n view p.within
    (λ k differ. sym (more k ∙ (rw (p.others k differ) (or-false (has_image (take at images) k)))))
    (sym (more view ∙ (rw p.here (or-true (has_image (take at images) view)))))

-- past another one
pub none_more : (images : List (Option ℕ)) (at n : ℕ) (image d : Option ℕ) (named : List Bool) → at < length images → image ≡ get_or images at d → placed n image ≡ None
    → named ≡ so_far images at n → named ≡ so_far images (at + 1) n
none_more images at n image d named within is none e =
    e ∙ same_table (has_image (take at images)) (has_image (take (at + 1) images)) n
    (λ k below. sym (image_more images at k image d within is ∙ (rw (not_placed n k image none below) (or-false (has_image (take at images) k)))))
