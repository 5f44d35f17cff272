-- The views that are made for a group, one after another.
use Rattle.std.specs.Prelude.{filter_map, option_map}
use Rattle.std.specs.List.{cons_option, enumerate_from, slice_get}
use Rattle.std.proofs.Common.{◌≡◌, ℕ, zero, suc, ◌+◌, ◌<◌, ◌≤◌, List, [], ◌∷◌, ◌++◌, map, length, drop, get_or, Option, Some, None, true, refl, subst, sym, ap, ◌∙◌, append_assoc, append-nil, arith}
use Rattle.gp_rules.specs.declared.accessing.Accessor.{Accessor}
use Rattle.gp_asset.specs.Asset.{AssetParts}
use Rattle.gp_alias.specs.Records.{ends_from}
use Rattle.gp_alias.specs.declared.group.Group.{Group}
use Rattle.gp_mover.specs.declared.moved.MovedGroup.{MovedGroup}
use Rattle.gp_mover.specs.MovedParts.{MovedParts, moved_group}
use Rattle.gp_mover.specs.Standing.{parts_of}
use Rattle.gp_moves.specs.declared.group_edit.GroupEdit.{GroupEdit}
use Rattle.gp_packed.specs.MovedGroups.{number_if, next_if}
use Rattle.gp_pack.specs.Making.{Kept, own_contents, with_group, with_movable, with_groups, none_kept, CanMove, CanMoveAll}
use Rattle.gp_tree.specs.Lexical.{Each}
use Rattle.gp_unpack.proofs.EachItem.{each_of_all}
use Rattle.gp_pack.proofs.Placed.{drop_next}
use Rattle.gp_moves.proofs.FirstEntries.{drop_at, drop_all, read_again}
use Rattle.gp_pack.specs.declared.made.MadePart.{MadePart}
use Rattle.gp_pack.specs.MadeParts.{column_part_of, column_parts, list_parts, edit_of}

-- ---- columns

abbrev pub columns_from : AssetParts → MovedParts → ℕ → List ℕ → List MadePart
columns_from a m k columns = filter_map (λ (p : ℕ × ℕ). option_map (column_part_of a m p.0) (slice_get a.accessors p.1)) (enumerate_from k columns)

pub one_column : (a : AssetParts) (m : MovedParts) (whole before after : List MadePart) (columns : List ℕ) (k : ℕ) (accessor : Accessor)
    → before ++ columns_from a m k (drop k columns) ≡ whole → k < length columns → slice_get a.accessors (get_or columns k 0) ≡ Some accessor
    → after ≡ before ++ column_part_of a m k accessor ∷ []
    → after ++ columns_from a m (k + 1) (drop (k + 1) columns) ≡ whole
one_column a m whole before after columns k accessor so within found made =
    let x = get_or columns k 0 in
    let rest = columns_from a m (k + 1) (drop (k + 1) columns) in
    ap (λ l. l ++ rest) made ∙ append_assoc before (column_part_of a m k accessor ∷ []) rest
    ∙ ap (λ l. before ++ l) (sym (ap (λ o. cons_option (option_map (column_part_of a m k) o) rest) found))
    ∙ ap (λ cols. before ++ columns_from a m k cols) (sym (drop_at columns k x within (read_again columns k 0 x within)))
    ∙ so

pub all_columns : (a : AssetParts) (m : MovedParts) (whole after : List MadePart) (columns : List ℕ) (k : ℕ)
    → after ++ columns_from a m k (drop k columns) ≡ whole → length columns ≤ k → after ≡ whole
all_columns a m whole after columns k so past =
    sym (append-nil after) ∙ ap (λ cols. after ++ columns_from a m k cols) (sym (drop_all columns k past)) ∙ so

pub first_column : (a : AssetParts) (m : MovedParts) (old : List MadePart) → old ++ columns_from a m 0 (drop 0 m.columns) ≡ old ++ column_parts a m
unfolding column_parts
first_column a m old = refl

-- ---- lists

pub ends_counted : (start : ℕ) (lists : List (List ℕ)) → length (ends_from start lists) ≡ length lists
ends_counted start [] = refl
ends_counted start (l ∷ lists) = ap suc (ends_counted (start + length l) lists)

pub read_other : {A : Type 0} (xs : List A) (i : ℕ) (d e : A) → i < length xs → get_or xs i d ≡ get_or xs i e
read_other [] i d e h = absurd (omega (arith, h))
read_other (x ∷ xs) zero d e h = refl
read_other (x ∷ xs) (suc i) d e h = read_other xs i d e (omega (arith, h))

-- ---- a group

pub same_columns : (a : AssetParts) (contents : List (List ℕ)) (g : Group) (m : MovedGroup) → parts_of m ≡ moved_group a contents g → m.group.columns ≡ g.columns
unfolding parts_of moved_group
same_columns a contents g m is = ap (λ (p : MovedParts). p.columns) is

-- what was kept of others, with the views of its columns and of its lists, and what the JSON says of it
pub with_made : (a : AssetParts) (k : Kept) (g : Group) (m : MovedParts) (number : Option ℕ) (columns parts : List MadePart) (edits : List GroupEdit) (next : ℕ)
    → m ≡ moved_group a (own_contents a) g → number ≡ number_if g.bare k.next
    → columns ≡ k.parts ++ column_parts a m → parts ≡ columns ++ list_parts m → edits ≡ k.edits ++ edit_of m number ∷ [] → next ≡ next_if g.bare k.next
    → record { edits = edits; parts = parts; next = next } ≡ with_group a k g
with_made a k g m number columns parts edits next is numbered first second third fourth =
    ap (λ es. record { edits = es; parts = parts; next = next }) (third ∙ ap (λ n. k.edits ++ edit_of m n ∷ []) numbered)
    ∙ ap (λ ps. record { edits = k.edits ++ edit_of m (number_if g.bare k.next) ∷ []; parts = ps; next = next })
    (second ∙ ap (λ l. l ++ list_parts m) first ∙ append_assoc k.parts (column_parts a m) (list_parts m))
    ∙ ap (λ n. record { edits = k.edits ++ edit_of m (number_if g.bare k.next) ∷ []; parts = k.parts ++ (column_parts a m ++ list_parts m); next = n }) fourth
    ∙ ap (λ (p : MovedParts). record { edits = k.edits ++ edit_of p (number_if g.bare k.next) ∷ []; parts = k.parts ++ (column_parts a p ++ list_parts p); next = next_if g.bare k.next }) is

-- ---- all groups

-- the groups from this place on are still to be moved
pub record FirstMoved (a : AssetParts) (all now : List Group) (k : ℕ) (k_kept : Kept) : Type 0 where
  pub whole : with_groups a k_kept (drop k now) ≡ with_groups a (none_kept a) all
  pub can : Each (λ (g : Group). g.movable ≡ true → CanMove a g) (drop k now)
  pub long : length now ≡ length all

next_of : (now : List Group) (k : ℕ) (g : Group) → slice_get now k ≡ Some g → drop k now ≡ g ∷ drop (k + 1) now
next_of now k g here = drop_next now k g here

pub movable_next : (a : AssetParts) (all now : List Group) (k : ℕ) (p : Kept) (g : Group) → FirstMoved a all now k p → slice_get now k ≡ Some g → g.movable ≡ true → CanMove a g
movable_next a all now k p g first here = (subst (λ (l : List Group). Each (λ (u : Group). u.movable ≡ true → CanMove a u) l) (next_of now k g here) first.can).0

pub next_moved : (a : AssetParts) (all now after : List Group) (k : ℕ) (p q : Kept) (g : Group) → FirstMoved a all now k p → slice_get now k ≡ Some g
    → drop (k + 1) after ≡ drop (k + 1) now → length after ≡ length now → q ≡ with_movable a p g → FirstMoved a all after (k + 1) q
next_moved a all now after k p q g first here rest long more = record {
  whole = ap (λ r. with_groups a r (drop (k + 1) after)) more ∙ ap (with_groups a (with_movable a p g)) rest
      ∙ ap (with_groups a p) (sym (next_of now k g here)) ∙ first.whole;
  can = subst (λ (l : List Group). Each (λ (u : Group). u.movable ≡ true → CanMove a u) l) (sym rest)
      (subst (λ (l : List Group). Each (λ (u : Group). u.movable ≡ true → CanMove a u) l) (next_of now k g here) first.can).1;
  long = long ∙ first.long;
}

pub all_moved : (a : AssetParts) (all now : List Group) (k : ℕ) (p : Kept) → FirstMoved a all now k p → length all ≤ k → p ≡ with_groups a (none_kept a) all
all_moved a all now k p first past = ap (with_groups a p) (sym (drop_all now k (omega (arith, past, first.long)))) ∙ first.whole

pub first_moved : (a : AssetParts) (all : List Group) (p : Kept) → CanMoveAll a all → p ≡ none_kept a → FirstMoved a all all 0 p
first_moved a all p can none = record {
  whole = ap (λ r. with_groups a r all) none;
  can = each_of_all (λ (g : Group). g.movable ≡ true → CanMove a g) all can;
  long = refl;
}
