-- The places of the views that are made are those of their accessors among all that get a view.
use Rattle.std.specs.Prelude.{cond, ◌==◌, find, flat_map, option_map, option_to_list, unwrap_or}
use Rattle.std.specs.List.{enumerate_from, filter_map, cons_option, position_or_len}
use Rattle.std.specs.Option.{IsSome}
use Rattle.std.proofs.Common.{◌≡◌, ℕ, suc, ◌+◌, Bool, true, false, not, List, [], ◌∷◌, ◌++◌, map, length, zip, slice_get, Option, Some, None, refl, sym, ap, ◌∙◌, arith, append_assoc}
use Rattle.std.proofs.lemmas.List.{map-append}
use Rattle.gp_tree.specs.Lexical.{Each}
use Rattle.gp_rules.specs.declared.accessing.Accessor.{Accessor}
use Rattle.gp_asset.specs.Asset.{AssetParts}
use Rattle.gp_unpack.proofs.EachItem.{each_of_all}
use Rattle.gp_moves.specs.declared.firsts.Entry.{Entry}
use Rattle.gp_moves.specs.Firsts.{first_value, entry_of, written_of, written, placed}
use Rattle.gp_sameness.specs.Moved.{Moved}
use Rattle.gp_packed.specs.MadeViews.{Made, made_column, made_columns, made_list, made_lists, made_views, made_place}
use Rattle.gp_pack.specs.MoveTables.{group_edit_of, HasViews, MadePlacesAreFound}

abbrev accessor_of : Made → ℕ
accessor_of v = v.accessor

-- ---- the accessors of the views that are made

column_step : (a : AssetParts) (m : Moved) (k at : ℕ) (o : Option Accessor) (vs : List Made) (rest : List ℕ) → IsSome o → map accessor_of vs ≡ rest
    → map accessor_of (cons_option (option_map (made_column a m k at) o) vs) ≡ at ∷ rest
column_step a m k at None vs rest some h = absurd (let e : false ≡ true = some in cc)
column_step a m k at (Some x) vs rest some h = ap (λ l. at ∷ l) h

columns_are : (a : AssetParts) (m : Moved) (k : ℕ) (numbers : List ℕ) → Each (λ at. IsSome (slice_get a.accessors at)) numbers
    → map accessor_of (filter_map (λ (p : ℕ × ℕ). option_map (made_column a m p.0 p.1) (slice_get a.accessors p.1)) (enumerate_from k numbers)) ≡ numbers
columns_are a m k [] h = refl
columns_are a m k (at ∷ numbers) h =
    column_step a m k at (slice_get a.accessors at)
    (filter_map (λ (p : ℕ × ℕ). option_map (made_column a m p.0 p.1) (slice_get a.accessors p.1)) (enumerate_from (k + 1) numbers)) numbers h.0 (columns_are a m (k + 1) numbers h.1)

lists_are : (m : Moved) (numbers : List ℕ) (orders : List (List ℕ)) → length orders ≡ length numbers → map accessor_of (map (made_list m) (zip numbers orders)) ≡ numbers
lists_are m [] orders e = refl
lists_are m (at ∷ numbers) [] e = absurd (omega (arith, e))
lists_are m (at ∷ numbers) (order ∷ orders) e = ap (λ l. at ∷ l) (lists_are m numbers orders (omega (arith, e)))

group_is : (a : AssetParts) (m : Moved) → HasViews a m → map accessor_of (made_columns a m ++ made_lists m) ≡ written_of (group_edit_of m)
group_is a m h =
    map-append accessor_of (made_columns a m) (made_lists m)
    ∙ ap (λ l. l ++ map accessor_of (made_lists m)) (columns_are a m 0 m.columns (each_of_all (λ at. IsSome (slice_get a.accessors at)) m.columns h.exist))
    ∙ ap (λ l. m.columns ++ l) (lists_are m (m.lists ++ option_to_list m.list_accessor) m.ordered h.ordered)
    ∙ sym (append_assoc m.columns m.lists (option_to_list m.list_accessor))

all_written : (a : AssetParts) (moved : List Moved) → Each (HasViews a) moved → map accessor_of (made_views a moved) ≡ written (map group_edit_of moved)
all_written a [] h = refl
all_written a (m ∷ moved) h =
    map-append accessor_of (made_columns a m ++ made_lists m) (made_views a moved)
    ∙ ap (λ l. l ++ map accessor_of (made_views a moved)) (group_is a m h.0)
    ∙ ap (λ l. written_of (group_edit_of m) ++ l) (all_written a moved h.1)

-- ---- places

place_mapped : (at : ℕ) (vs : List Made) → position_or_len (λ n. n == at) (map accessor_of vs) ≡ made_place vs at
place_mapped at [] = refl
place_mapped at (v ∷ vs) = ap (λ k. cond (not (v.accessor == at)) (1 + k) 0) (place_mapped at vs)

abbrev placed_from : ℕ → List ℕ → List Entry
placed_from k numbers = flat_map (λ (p : ℕ × ℕ). entry_of p.0 p.1 ∷ []) (enumerate_from k numbers)

place_step : (b : Bool) (k size rest : ℕ) (o : Option ℕ) (e : Entry) → e.value ≡ k → unwrap_or o (k + 1 + size) ≡ k + 1 + rest
    → unwrap_or (cond b (Some e.value) o) (k + suc size) ≡ k + cond (not b) (1 + rest) 0
place_step true k size rest o e is h = omega (arith, is)
place_step false k size rest o e is h =
    let from : k + suc size ≡ k + 1 + size = omega arith in
    let more : k + 1 + rest ≡ k + (1 + rest) = omega arith in
    ap (unwrap_or o) from ∙ h ∙ more

value_step : (b : Bool) (e : Entry) (found : Option Entry) → option_map (λ (x : Entry). x.value) (cond b (Some e) found) ≡ cond b (Some e.value) (option_map (λ (x : Entry). x.value) found)
value_step true e found = refl
value_step false e found = refl

place_from : (at k : ℕ) (numbers : List ℕ) → unwrap_or (first_value (placed_from k numbers) at) (k + length numbers) ≡ k + position_or_len (λ n. n == at) numbers
place_from at k [] = refl
place_from at k (n ∷ numbers) =
    ap (λ o. unwrap_or o (k + suc (length numbers))) (value_step (n == at) (entry_of k n) (find (λ (x : Entry). x.number == at) (placed_from (k + 1) numbers)))
    ∙ place_step (n == at) k (length numbers) (position_or_len (λ m. m == at) numbers) (first_value (placed_from (k + 1) numbers) at) (entry_of k n) refl (place_from at (k + 1) numbers)

from_0 : (n : ℕ) → 0 + n ≡ n
from_0 n = omega arith

place_of : (at : ℕ) (numbers : List ℕ) → unwrap_or (first_value (placed numbers) at) (length numbers) ≡ position_or_len (λ n. n == at) numbers
place_of at numbers =
    ap (unwrap_or (first_value (placed numbers) at)) (sym (from_0 (length numbers)))
    ∙ place_from at 0 numbers ∙ from_0 (position_or_len (λ n. n == at) numbers)

pub found_places : MadePlacesAreFound
found_places moved a groups at are whole =
    ap (λ gs. unwrap_or (first_value (placed (written gs)) at) (length (written gs))) are
    ∙ place_of at (written (map group_edit_of moved))
    ∙ ap (position_or_len (λ n. n == at)) (sym (all_written a moved (each_of_all (HasViews a) moved whole)))
    ∙ place_mapped at (made_views a moved)
