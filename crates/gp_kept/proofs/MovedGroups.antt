-- The groups of an asset that move, all together.
use Rattle.std.specs.Prelude.{flat_map, option_to_list, ◌≡◌, Option, Ok}
use Rattle.std.proofs.Common.{inl, inr, ℕ, ◌<◌, ◌≤◌, List, [], ◌∷◌, ◌++◌, length, subst, arith, length-append}
use Rattle.gp_tree.specs.Lexical.{Each}
use Rattle.gp_tree.specs.Plain.{PlainTree}
use Rattle.gp_asset.specs.declared.purpose.Form.{Form}
use Rattle.gp_asset.specs.Asset.{AssetParts, asset}
use Rattle.gp_alias.specs.declared.group.Group.{Group}
use Rattle.gp_alias.proofs.Members.{Among}
use Rattle.gp_sameness.specs.Moved.{Moved, movable_groups}
use Rattle.gp_packed.specs.MadeLaws.{numbers_of, AreApart}
use Rattle.gp_packed.specs.MovedGroups.{moved_of, number_if, next_if, moved_from, moved_groups}
use Rattle.gp_kept.specs.MovedGroupsLaws.{MovedGroupsAreFew}
use Rattle.gp_kept.specs.TrianglesMoved.{IsRead}
use Rattle.gp_kept.proofs.ApartNumbers.{Apart, apart_pairs, among_join, apart_join, apart_front, apart_few}
use Rattle.gp_kept.proofs.GroupsApart.{MayMove, all_may_move, movable_differ, HasUses, column_in, numbers_apart, own_apart}
use Rattle.gp_kept.proofs.GroupsWhole.{left_in, right_in, first_column}
use Rattle.gp_kept.proofs.GroupsRead.{has_uses, is_read}

-- ---- what holds of each group

pub each_moved : (a : AssetParts) (contents : List (List ℕ)) (P : Moved → Type 0) → ((g : Group) (next : ℕ) → MayMove a contents g → P (moved_of a contents (number_if g.bare next) g))
    → (next : ℕ) (gs : List Group) → Each (MayMove a contents) gs → Each P (moved_from a contents next gs)
each_moved a contents P one next [] h = tt
each_moved a contents P one next (g ∷ gs) h = (one g next h.0, each_moved a contents P one (next_if g.bare next) gs h.1)

pub each_group : (a : AssetParts) (contents : List (List ℕ)) (P : Moved → Type 0) → ((g : Group) (next : ℕ) → MayMove a contents g → P (moved_of a contents (number_if g.bare next) g))
    → Each P (moved_groups a contents)
unfolding moved_groups
each_group a contents P one = each_moved a contents P one (length a.accessors) (movable_groups a contents) (all_may_move a contents)

-- ---- their accessors

pub all_apart : (a : AssetParts) (contents : List (List ℕ)) → HasUses a → Apart (flat_map numbers_of (moved_groups a contents))
unfolding moved_groups
all_apart a contents has =
    numbers_apart a contents has (length a.accessors) (movable_groups a contents) (omega arith) (all_may_move a contents) (movable_differ a contents) (own_apart a contents has)

pub groups_are_apart : (form : Form) (t : PlainTree) (bin : Option (List ℕ)) (a : AssetParts) (contents : List (List ℕ)) → asset form t bin ≡ Ok a → AreApart (moved_groups a contents)
groups_are_apart form t bin a contents e = apart_pairs (flat_map numbers_of (moved_groups a contents)) (all_apart a contents (has_uses form t bin a e))

-- ---- how many

abbrev pub columns_of : List Moved → List ℕ
columns_of moved = flat_map (λ (m : Moved). m.columns) moved

-- columns alone are apart too
pub apart_behind : (xs ys : List ℕ) → Apart (xs ++ ys) → Apart ys
apart_behind [] ys a = a
apart_behind (x ∷ xs) ys a = apart_behind xs ys a.1

pub apart_between : (xs ys : List ℕ) → Apart (xs ++ ys) → (x : ℕ) → Among x xs → Among x ys → ⊥
apart_between [] ys a x h k = h
apart_between (y ∷ xs) ys a x (inl e) k = a.0 (right_in y xs ys (subst (λ z. Among z ys) e k))
apart_between (y ∷ xs) ys a x (inr h) k = apart_between xs ys a.1 x h k

column_is_number : (moved : List Moved) (x : ℕ) → Among x (columns_of moved) → Among x (flat_map numbers_of moved)
column_is_number [] x h = h
column_is_number (m ∷ moved) x h = elim (among_join x m.columns (columns_of moved) h) [
  | inl here ↦ left_in x (numbers_of m) (flat_map numbers_of moved) (left_in x m.columns (m.lists ++ option_to_list m.list_accessor) here)
  | inr there ↦ right_in x (numbers_of m) (flat_map numbers_of moved) (column_is_number moved x there)
]

columns_apart : (moved : List Moved) → Apart (flat_map numbers_of moved) → Apart (columns_of moved)
columns_apart [] h = h
columns_apart (m ∷ moved) h =
    let rest = flat_map numbers_of moved in
    apart_join m.columns (columns_of moved) (apart_front m.columns (m.lists ++ option_to_list m.list_accessor) (apart_front (numbers_of m) rest h))
    (columns_apart moved (apart_behind (numbers_of m) rest h))
    (λ x p q. apart_between (numbers_of m) rest h x (left_in x m.columns (m.lists ++ option_to_list m.list_accessor) p) (column_is_number moved x q))

-- each group has a column, and each column is an accessor of the asset
pub record HasColumns (n : ℕ) (m : Moved) : Type 0 where
  pub some : 1 ≤ length m.columns
  pub below : (x : ℕ) → Among x m.columns → x < n

some_items : (x : ℕ) (xs : List ℕ) → Among x xs → 1 ≤ length xs
some_items x [] h = absurd h
some_items x (y ∷ ys) h = omega arith

pub have_columns : (a : AssetParts) (contents : List (List ℕ)) → IsRead a contents → HasUses a → Each (HasColumns (length a.accessors)) (moved_groups a contents)
have_columns a contents known has =
    each_group a contents (HasColumns (length a.accessors)) (λ g next m. record {
      some = let first = first_column a contents known g m in some_items first.0 g.columns first.1;
      below = λ x h. (column_in a contents has g m x h).0;
    })

columns_below : (n : ℕ) (moved : List Moved) → Each (HasColumns n) moved → (x : ℕ) → Among x (columns_of moved) → x < n
columns_below n [] h x k = absurd k
columns_below n (m ∷ moved) h x k = elim (among_join x m.columns (columns_of moved) k) [
  | inl here ↦ h.0.below x here
  | inr there ↦ columns_below n moved h.1 x there
]

few_groups : (n : ℕ) (moved : List Moved) → Each (HasColumns n) moved → length moved ≤ length (columns_of moved)
few_groups n [] h = omega arith
few_groups n (m ∷ moved) h = let some = h.0.some in omega (arith, length-append m.columns (columns_of moved), few_groups n moved h.1, some)

pub count_groups : (a : AssetParts) (contents : List (List ℕ)) → IsRead a contents → HasUses a → length (moved_groups a contents) ≤ length a.accessors
count_groups a contents known has =
    let moved = moved_groups a contents in
    let own = have_columns a contents known has in
    omega (arith, few_groups (length a.accessors) moved own, apart_few (length a.accessors) (columns_of moved) (columns_apart moved (all_apart a contents has)) (columns_below (length a.accessors) moved own))

pub groups_are_few : MovedGroupsAreFew
groups_are_few form t bin a contents e read = count_groups a contents (is_read form t bin a contents e read) (has_uses form t bin a e)
