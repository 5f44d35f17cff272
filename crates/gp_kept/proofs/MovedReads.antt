-- What accessors of the output read of a group that moves.
use Rattle.std.specs.Prelude.{get_or, option_map, option_to_list, unwrap_or}
use Rattle.std.specs.List.{All}
use Rattle.std.proofs.Common.{◌≡◌, ℕ, zero, suc, ◌<◌, ◌⊎◌, inl, inr, List, [], ◌∷◌, ◌++◌, length, map, slice_get, Option, Some, None, refl, sym, ap, ◌∙◌, subst}
use Rattle.std.proofs.lemmas.Option.{slice_get-map}
use Rattle.gp_index.specs.SameTriangles.{SameTriangles}
use Rattle.gp_rules.specs.declared.accessing.Accessor.{Accessor}
use Rattle.gp_asset.specs.Asset.{AssetParts}
use Rattle.gp_elements.specs.Elements.{Elements, number_of, elements_in, elements_of}
use Rattle.gp_alias.specs.Movable.{items_of}
use Rattle.gp_sameness.specs.Moved.{Moved}
use Rattle.gp_kept.specs.ElementsMoved.{output_contents, IsPackedFrom, AreMovable, AreNumberedLast, HasItems, HasNumbers}
use Rattle.gp_kept.specs.TrianglesMoved.{ReadsMoved}
use Rattle.gp_sameness.specs.Drawn.{elements_at}
use Rattle.gp_packed.specs.RulesMoved.{GroupIsWhole}
use Rattle.gp_kept.proofs.GroupMembers.{in_all}
use Rattle.gp_kept.proofs.MovedWhole.{slice_in}
use Rattle.gp_kept.proofs.RecordsRead.{found_at}
use Rattle.gp_kept.proofs.MovedElements.{column_elements, list_elements, made_list_elements}

-- ---- elements by the number of their accessor

elements_are : (b : AssetParts) (contents : List (List ℕ)) (at : ℕ) → elements_at b contents at ≡ unwrap_or (option_map (λ (e : Elements). e.items) (slice_get (elements_of b contents) at)) []
unfolding elements_of
elements_are b contents at =
    by_found (slice_get b.accessors at) ∙ ap (λ o. unwrap_or (option_map (λ (e : Elements). e.items) o) []) (sym (slice_get-map (elements_in b.views contents) b.accessors at))
  where
    by_found : (o : Option Accessor) → unwrap_or (option_map (items_of b contents) o) [] ≡ unwrap_or (option_map (λ (e : Elements). e.items) (option_map (elements_in b.views contents) o)) []
    by_found None = refl
    by_found (Some x) = refl

items_read : (b : AssetParts) (contents : List (List ℕ)) (at : ℕ) (items : List (List ℕ)) → HasItems b contents at items → elements_at b contents at ≡ items
items_read b contents at items has = elements_are b contents at ∙ ap (λ o. unwrap_or (option_map (λ (e : Elements). e.items) o) []) has

numbers_read : (b : AssetParts) (contents : List (List ℕ)) (m : Moved) (at : ℕ) (list : List ℕ) → HasNumbers b contents m at list → SameTriangles list (map number_of (elements_at b contents at))
numbers_read b contents m at list has = subst (SameTriangles list) (sym (ap (map number_of) (items_read b contents at has.items has.found) ∙ has.read)) has.same

-- ---- lists of the input, and the one that is made

split_place : (xs : List ℕ) (last : Option ℕ) (k at : ℕ) → slice_get (xs ++ option_to_list last) k ≡ Some at → (slice_get xs k ≡ Some at) ⊎ ((k ≡ length xs) × (last ≡ Some at))
split_place [] None k at e = absurd (cc)
split_place [] (Some n) zero at e = inr (refl, e)
split_place [] (Some n) (suc k) at e = absurd (cc)
split_place (x ∷ xs) last zero at e = inl e
split_place (x ∷ xs) last (suc k) at e = elim (split_place xs last k at e) [ inl own ↦ inl own | inr made ↦ inr (ap suc made.0, made.1) ]

-- ---- all of a group

pub reads_moved : (a : AssetParts) (moved : List Moved) (more : List ℕ) (packed : AssetParts) (i : ℕ) (m : Moved)
    → IsPackedFrom moved a more packed → AreMovable a moved → AreNumberedLast a moved → slice_get moved i ≡ Some m
    → GroupIsWhole a m → All (λ at. at < length a.accessors) m.lists
    → ReadsMoved a m (elements_at packed (output_contents moved a))
reads_moved a moved more packed i m from may last there whole below =
    record {
      columns = λ k x column. items_read packed written (get_or m.columns k 0) _ (column_elements a moved more packed i k m x from may there column);
      lists = λ k at list place new. elim (split_place m.lists m.list_accessor k at place) [
        | inl own ↦ numbers_read packed written m at list (own_list k at list own new)
        | inr made ↦ numbers_read packed written m at list (made_list at list made.1 (ap (slice_get m.ordered) (sym made.0) ∙ new))
      ];
    }
  where
    written : List (List ℕ)
    written = output_contents moved a

    own_list : (k at : ℕ) (list : List ℕ) → slice_get m.lists k ≡ Some at → slice_get m.ordered k ≡ Some list → HasNumbers packed written m at list
    own_list k at list own new =
        let x = found_at a.accessors at (in_all (λ n. n < length a.accessors) m.lists at below (slice_in m.lists k at own)) in
        let is = whole.lists.own k at x.0 list own x.1 new in
        list_elements a moved more packed i k at m list x.0 from may there own new x.1 is.scalars (sym is.long)

    made_list : (at : ℕ) (list : List ℕ) → m.list_accessor ≡ Some at → slice_get m.ordered (length m.lists) ≡ Some list → HasNumbers packed written m at list
    made_list at list given new = made_list_elements a moved more packed i at m list from may last there given new (sym (whole.lists.made list new))
