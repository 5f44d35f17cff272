-- Changes of views by their places.
use Rattle.std.proofs.Common.{◌≡◌, List, [], ◌∷◌, map, refl, ap}
use Rattle.gp_tree.specs.Plain.{PlainTree}
use Rattle.gp_edits.specs.Changes.{change_each, applied}

-- changes made of values are the changes with these values
pub changes_made : {A : Type 0} (f : A → PlainTree → PlainTree) (xs : List A) (ts : List PlainTree) → change_each applied (map f xs) ts ≡ change_each f xs ts
changes_made f [] ts = refl
changes_made f (x ∷ xs) [] = refl
changes_made f (x ∷ xs) (t ∷ ts) = ap (λ us. f x t ∷ us) (changes_made f xs ts)

pub all_changes_made : {A : Type 0} (f : A → PlainTree → PlainTree) (xs : List A) → change_each applied (map f xs) ≡ change_each f xs
all_changes_made f xs i ts = changes_made f xs ts i
