-- What is left of the groups of an asset that moved is that of the groups by the definitions.
use Rattle.std.specs.Prelude.{cond, if◌then◌else◌, filter_map, flat_map, option_map, option_to_list}
use Rattle.std.specs.List.{All, list_any, filter, zip, cons_option, enumerate_from, range_with_len, slice_get}
use Rattle.std.proofs.Common.{◌≡◌, ℕ, zero, suc, ◌+◌, Bool, true, false, ◌&&◌, ◌||◌, List, [], ◌∷◌, ◌++◌, map, length, Option, Some, None, refl, sym, ap, ◌∙◌, subst, arith, append_assoc, append-nil}
use Rattle.gp_tree.specs.Lexical.{Each}
use Rattle.gp_rules.specs.declared.accessing.Accessor.{Accessor}
use Rattle.gp_asset.specs.Asset.{AssetParts}
use Rattle.gp_alias.specs.declared.group.Group.{Group}
use Rattle.gp_alias.specs.Movable.{is_moved as is_moved_with, is_in_group}
use Rattle.gp_alias.specs.Groups.{is_among}
use Rattle.gp_mover.specs.MovedParts.{MovedParts, moved_group}
use Rattle.gp_pack.specs.declared.made.MadePart.{MadePart}
use Rattle.gp_sameness.specs.Moved.{Moved, is_moved, is_number_in}
use Rattle.gp_packed.specs.MadeViews.{Made, made_column, made_columns, made_list, made_lists, made_views}
use Rattle.gp_packed.specs.MadeLaws.{HasViews}
use Rattle.gp_pack.specs.MadeParts.{made_part_of, column_part_of, column_parts, list_part_of, list_parts}
use Rattle.gp_packed.specs.MovedGroups.{moved_of, number_if, next_if, moved_from}
use Rattle.gp_pack.specs.MoveTables.{group_edit_of}
use Rattle.gp_pack.specs.Making.{Kept, own_contents, with_if, with_groups}

abbrev movable : List Group → List Group
movable gs = filter (λ (g : Group). g.movable) gs

-- ---- which accessors move

moved_if : (a : AssetParts) (contents : List (List ℕ)) (at next : ℕ) (b : Bool) (g : Group) (gs : List Group) (rest : Bool)
    → ((n : ℕ) → rest ≡ is_moved (moved_from a contents n gs) at)
    → ((b && (is_among g.columns at || is_among g.lists at)) || rest) ≡ is_moved (moved_from a contents next (cond b (g ∷ gs) gs)) at
moved_if a contents at next true g gs rest same = ap (λ r. (is_among g.columns at || is_among g.lists at) || r) (same (next_if g.bare next))
moved_if a contents at next false g gs rest same = same next

pub moved_with : (a : AssetParts) (contents : List (List ℕ)) (at next : ℕ) (gs : List Group) → is_moved_with gs at ≡ is_moved (moved_from a contents next (movable gs)) at
unfolding is_moved_with
moved_with a contents at next [] = refl
moved_with a contents at next (g ∷ gs) = moved_if a contents at next g.movable g (movable gs) (is_moved_with gs at) (λ n. moved_with a contents at n gs)

-- ---- what the JSON says of groups

edits_if : (a : AssetParts) (k : Kept) (b : Bool) (g : Group) (gs : List Group)
    → ((p : Kept) → (with_groups a p gs).edits ≡ p.edits ++ map group_edit_of (moved_from a (own_contents a) p.next (movable gs)))
    → (with_groups a (with_if a k g b) gs).edits ≡ k.edits ++ map group_edit_of (moved_from a (own_contents a) k.next (cond b (g ∷ movable gs) (movable gs)))
unfolding moved_group
edits_if a k true g gs rest =
    let one = group_edit_of (moved_of a (own_contents a) (number_if g.bare k.next) g) in
    rest (with_if a k g true) ∙ append_assoc k.edits (one ∷ []) (map group_edit_of (moved_from a (own_contents a) (next_if g.bare k.next) (movable gs)))
edits_if a k false g gs rest = rest k

pub edits_kept : (a : AssetParts) (k : Kept) (gs : List Group) → (with_groups a k gs).edits ≡ k.edits ++ map group_edit_of (moved_from a (own_contents a) k.next (movable gs))
edits_kept a k [] = sym (append-nil k.edits)
edits_kept a k (g ∷ gs) = edits_if a k g.movable g gs (λ p. edits_kept a p gs)

-- ---- the views that are made

pub mapped_append : {A B : Type 0} (f : A → B) (xs ys : List A) → map f (xs ++ ys) ≡ map f xs ++ map f ys
mapped_append f [] ys = refl
mapped_append f (x ∷ xs) ys = ap (λ l. f x ∷ l) (mapped_append f xs ys)

column_step : (a : AssetParts) (m : MovedParts) (mo : Moved) (k at : ℕ) (o : Option Accessor) (rest : List MadePart) (made : List Made)
    → ((x : Accessor) → column_part_of a m k x ≡ made_part_of (made_column a mo k at x)) → rest ≡ map made_part_of made
    → cons_option (option_map (column_part_of a m k) o) rest ≡ map made_part_of (cons_option (option_map (made_column a mo k at) o) made)
column_step a m mo k at None rest made one same = same
column_step a m mo k at (Some x) rest made one same = ap (λ p. p ∷ rest) (one x) ∙ ap (λ l. made_part_of (made_column a mo k at x) ∷ l) same

columns_same : (a : AssetParts) (m : MovedParts) (mo : Moved) → ((k at : ℕ) (x : Accessor) → column_part_of a m k x ≡ made_part_of (made_column a mo k at x)) → (ps : List (ℕ × ℕ))
    → filter_map (λ (p : ℕ × ℕ). option_map (column_part_of a m p.0) (slice_get a.accessors p.1)) ps
    ≡ map made_part_of (filter_map (λ (p : ℕ × ℕ). option_map (made_column a mo p.0 p.1) (slice_get a.accessors p.1)) ps)
columns_same a m mo one [] = refl
columns_same a m mo one (p ∷ ps) =
    column_step a m mo p.0 p.1 (slice_get a.accessors p.1) (filter_map (λ (p : ℕ × ℕ). option_map (column_part_of a m p.0) (slice_get a.accessors p.1)) ps)
    (filter_map (λ (p : ℕ × ℕ). option_map (made_column a mo p.0 p.1) (slice_get a.accessors p.1)) ps) (one p.0 p.1) (columns_same a m mo one ps)

lists_same : (m : MovedParts) (mo : Moved) → ((n : ℕ) (list : List ℕ) → list_part_of m list ≡ made_part_of (made_list mo (n, list))) → (numbers : List ℕ) (lists : List (List ℕ))
    → length lists ≡ length numbers → map (list_part_of m) lists ≡ map made_part_of (map (made_list mo) (zip numbers lists))
lists_same m mo one [] [] count = refl
lists_same m mo one (n ∷ numbers) [] count = refl
lists_same m mo one [] (l ∷ lists) count = absurd (omega (arith, count))
lists_same m mo one (n ∷ numbers) (l ∷ lists) count =
    ap (λ p. p ∷ map (list_part_of m) lists) (one n l) ∙ ap (λ ps. made_part_of (made_list mo (n, l)) ∷ ps) (lists_same m mo one numbers lists (omega (arith, count)))

group_same : (a : AssetParts) (contents : List (List ℕ)) (number : Option ℕ) (g : Group) → HasViews a (moved_of a contents number g)
    → column_parts a (moved_group a contents g) ++ list_parts (moved_group a contents g)
    ≡ map made_part_of (made_columns a (moved_of a contents number g) ++ made_lists (moved_of a contents number g))
unfolding moved_group column_parts list_parts
group_same a contents number g views =
    let m = moved_group a contents g in
    let mo = moved_of a contents number g in
    ap (λ l. l ++ list_parts m) (columns_same a m mo (λ k at x. refl) (enumerate_from 0 g.columns))
    ∙ ap (λ l. map made_part_of (made_columns a mo) ++ l) (lists_same m mo (λ n list. refl) (mo.lists ++ option_to_list number) mo.ordered views.each)
    ∙ sym (mapped_append made_part_of (made_columns a mo) (made_lists mo))

parts_if : (a : AssetParts) (k : Kept) (b : Bool) (g : Group) (gs : List Group)
    → ((p : Kept) → Each (HasViews a) (moved_from a (own_contents a) p.next (movable gs)) → (with_groups a p gs).parts ≡ p.parts ++ map made_part_of (made_views a (moved_from a (own_contents a) p.next (movable gs))))
    → Each (HasViews a) (moved_from a (own_contents a) k.next (cond b (g ∷ movable gs) (movable gs)))
    → (with_groups a (with_if a k g b) gs).parts ≡ k.parts ++ map made_part_of (made_views a (moved_from a (own_contents a) k.next (cond b (g ∷ movable gs) (movable gs))))
parts_if a k true g gs rest views =
    let mo = moved_of a (own_contents a) (number_if g.bare k.next) g in
    let others = made_views a (moved_from a (own_contents a) (next_if g.bare k.next) (movable gs)) in
    rest (with_if a k g true) views.1
    ∙ ap (λ l. (k.parts ++ l) ++ map made_part_of others) (group_same a (own_contents a) (number_if g.bare k.next) g views.0)
    ∙ append_assoc k.parts (map made_part_of (made_columns a mo ++ made_lists mo)) (map made_part_of others)
    ∙ ap (λ l. k.parts ++ l) (sym (mapped_append made_part_of (made_columns a mo ++ made_lists mo) others))
parts_if a k false g gs rest views = rest k views

pub parts_kept : (a : AssetParts) (k : Kept) (gs : List Group) → Each (HasViews a) (moved_from a (own_contents a) k.next (movable gs))
    → (with_groups a k gs).parts ≡ k.parts ++ map made_part_of (made_views a (moved_from a (own_contents a) k.next (movable gs)))
parts_kept a k [] views = sym (append-nil k.parts)
parts_kept a k (g ∷ gs) views = parts_if a k g.movable g gs (λ p. parts_kept a p gs) views
