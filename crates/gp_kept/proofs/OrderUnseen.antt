-- What is left out of trees, and which views stay, doesn't hang on the order of what moves.
use Rattle.std.specs.Prelude.{cond, not, ◌&&◌, ◌||◌, nat_lt, if◌then◌else◌, is_some, option_and_then, codes}
use Rattle.std.specs.List.{list_all, range_with_len, count_by}
use Rattle.std.proofs.Common.{◌≡◌, ℕ, Bool, true, false, List, [], ◌∷◌, length, map, Option, Some, None, refl, ap, ◌∙◌, subst}
use Rattle.gp_tree.specs.Plain.{PlainTree}
use Rattle.gp_tree.specs.Values.{whole}
use Rattle.gp_tree.specs.TreeEdits.{without, at_member, with_items}
use Rattle.gp_asset.specs.Asset.{AssetParts}
use Rattle.gp_asset.specs.Uses.{Referrer, of_accessor, of_sparse_indices, of_sparse_values, of_image}
use Rattle.gp_alias.specs.declared.group.Group.{Group}
use Rattle.gp_edits.specs.Common.{common}
use Rattle.gp_sameness.specs.Moved.{Moved, is_number_in, is_moved, group_with, movable_groups}
use Rattle.gp_sameness.specs.Survivors.{referrers, is_of_moved, is_dropped, survives, renumbered, where_numbered}
use Rattle.gp_sameness.specs.References.{each_item, numbered_by, with_new_references}
use Rattle.gp_sameness.specs.Common.{common_of, common_accessor, common_before, first_items, had_indices, without_made_accessors, each_primitive, common_after}
use Rattle.gp_packed.specs.MovedGroups.{next_if, moved_from, moved_groups}
use Rattle.gp_sameness.specs.Same.{standing_of, standing_groups}
use Rattle.gp_kept.specs.PackedTogether.{OrderIsUnseen}

-- ---- the same groups in another order of vertices and triangles

abbrev LooksLike : Moved → Moved → Type 0
LooksLike m n = (m.columns ≡ n.columns) × (m.lists ≡ n.lists) × (m.primitives ≡ n.primitives)

abbrev AllLook : List Moved → List Moved → Type 0
AllLook [] [] = Unit {0}
AllLook [] (n ∷ ns) = ⊥
AllLook (m ∷ ms) [] = ⊥
AllLook (m ∷ ms) (n ∷ ns) = LooksLike m n × AllLook ms ns

groups_look : (a : AssetParts) (contents : List (List ℕ)) (next : ℕ) (gs : List Group) → AllLook (map (standing_of a contents) gs) (moved_from a contents next gs)
groups_look a contents next [] = tt
groups_look a contents next (g ∷ gs) = ((refl, refl, refl), groups_look a contents (next_if g.bare next) gs)

-- ---- accessors that move

moves_same : (ms ns : List Moved) → AllLook ms ns → (at : ℕ) → is_moved ms at ≡ is_moved ns at
moves_same [] [] h at = refl
moves_same [] (n ∷ ns) h at = absurd h
moves_same (m ∷ ms) [] h at = absurd h
moves_same (m ∷ ms) (n ∷ ns) h at =
    ap (λ cs. (is_number_in cs at || is_number_in m.lists at) || is_moved ms at) h.0.0
    ∙ ap (λ ls. (is_number_in n.columns at || is_number_in ls at) || is_moved ms at) h.0.1
    ∙ ap (λ b. (is_number_in n.columns at || is_number_in n.lists at) || b) (moves_same ms ns h.1 at)

-- a group is found in both, or in none
abbrev FoundAlike : Option Moved → Option Moved → Type 0
FoundAlike None None = Unit {0}
FoundAlike None (Some n) = ⊥
FoundAlike (Some m) None = ⊥
FoundAlike (Some m) (Some n) = Unit {0}

found_step : (b : Bool) (m n : Moved) (found other : Option Moved) → FoundAlike found other → FoundAlike (cond b (Some m) found) (cond b (Some n) other)
found_step true m n found other h = tt
found_step false m n found other h = h

found_alike : (part : Moved → List ℕ) → ((m n : Moved) → LooksLike m n → part m ≡ part n) → (ms ns : List Moved) → AllLook ms ns → (at : ℕ) → FoundAlike (group_with part ms at) (group_with part ns at)
found_alike part same [] [] h at = tt
found_alike part same [] (n ∷ ns) h at = absurd h
found_alike part same (m ∷ ms) [] h at = absurd h
found_alike part same (m ∷ ms) (n ∷ ns) h at =
    subst (λ numbers. FoundAlike (group_with part (m ∷ ms) at) (cond (is_number_in numbers at) (Some n) (group_with part ns at))) (same m n h.0)
    (found_step (is_number_in (part m) at) m n (group_with part ms at) (group_with part ns at) (found_alike part same ms ns h.1 at))

some_same : (found other : Option Moved) → FoundAlike found other → is_some found ≡ is_some other
some_same None None h = refl
some_same None (Some n) h = absurd h
some_same (Some m) None h = absurd h
some_same (Some m) (Some n) h = refl

common_same : (column other_column one other : Option Moved) → FoundAlike column other_column → FoundAlike one other → (t : PlainTree) → common_of column one t ≡ common_of other_column other t
common_same (Some m) (Some n) one other h k t = refl
common_same (Some m) None one other h k t = absurd h
common_same None (Some n) one other h k t = absurd h
common_same None None (Some m) (Some n) h k t = refl
common_same None None (Some m) None h k t = absurd k
common_same None None None (Some n) h k t = absurd k
common_same None None None None h k t = refl

-- ---- both

module _ (ms ns : List Moved) (h : AllLook ms ns) (a : AssetParts) where
  moves : is_moved ms ≡ is_moved ns
  moves = λ i at. moves_same ms ns h at i

  of_moved : (r : Referrer) → is_of_moved ms r ≡ is_of_moved ns r
  of_moved (of_accessor at) = moves_same ms ns h at
  of_moved (of_sparse_indices at) = moves_same ms ns h at
  of_moved (of_sparse_values at) = moves_same ms ns h at
  of_moved (of_image at) = refl

  tests : is_of_moved ms ≡ is_of_moved ns
  tests = λ i r. of_moved r i

  dropped : (rs : List Referrer) → is_dropped ms rs ≡ is_dropped ns rs
  dropped [] = refl
  dropped (r ∷ rs) = ap (λ test. list_all test (r ∷ rs)) tests

  pub stay : survives ms a ≡ survives ns a
  unfolding survives
  stay = λ i view. ap not (dropped (referrers a view)) i

  numbers : renumbered ms a ≡ renumbered ns a
  unfolding renumbered
  numbers = ap {B = ℕ → Option ℕ} (λ (s : ℕ → Bool) view. if s view then Some (count_by s (range_with_len 0 view)) else None) stay

  leave : common_accessor ms ≡ common_accessor ns
  leave = λ i at t. common_same (group_with (λ (m : Moved). m.columns) ms at) (group_with (λ (m : Moved). m.columns) ns at) (group_with (λ (m : Moved). m.lists) ms at) (group_with (λ (m : Moved). m.lists) ns at)
      (found_alike (λ (m : Moved). m.columns) (λ m n l. l.0) ms ns h at) (found_alike (λ (m : Moved). m.lists) (λ m n l. l.1) ms ns h at) t i

  -- whether a primitive moves
  abbrev in_groups : List Moved → ℕ → Bool
  in_groups moved at = is_some (group_with (λ (m : Moved). m.primitives) moved at)

  draw : in_groups ms ≡ in_groups ns
  draw = λ i at. some_same (group_with (λ (m : Moved). m.primitives) ms at) (group_with (λ (m : Moved). m.primitives) ns at) (found_alike (λ (m : Moved). m.primitives) (λ m n l. l.2) ms ns h at) i

  -- ---- edits by what they ask for

  abbrev view_reference : (ℕ → Option ℕ) → PlainTree → PlainTree
  view_reference renumber t = at_member (codes "bufferView") (λ u. numbered_by u (option_and_then renumber (whole u))) t

  abbrev accessor_reference : (ℕ → Option ℕ) → (ℕ → Bool) → ℕ → PlainTree → PlainTree
  accessor_reference renumber test at t =
      if nat_lt at (length a.accessors) && not (test at)
      then at_member (codes "sparse") (λ u. at_member (codes "values") (view_reference renumber) (at_member (codes "indices") (view_reference renumber) u)) (view_reference renumber t)
      else t

  abbrev references_by : (ℕ → Option ℕ) → (ℕ → Bool) → PlainTree → PlainTree
  references_by renumber test root =
      at_member (codes "images") (each_item (λ at. view_reference renumber)) (at_member (codes "accessors") (each_item (accessor_reference renumber test)) root)

  abbrev survivors_by : (ℕ → Bool) → PlainTree → PlainTree
  survivors_by stays root = at_member (codes "bufferViews") (with_items (where_numbered stays)) root

  abbrev accessors_by : (ℕ → PlainTree → PlainTree) → PlainTree → PlainTree
  accessors_by change root = at_member (codes "accessors") (each_item change) root

  pub before_same : (root : PlainTree) → common_before ms a root ≡ common_before ns a root
  unfolding common_before with_new_references
  before_same root =
      ap (λ change. accessors_by change (common (references_by (renumbered ms a) (is_moved ms) (survivors_by (survives ms a) root)))) leave
      ∙ ap (λ renumber. accessors_by (common_accessor ns) (common (references_by renumber (is_moved ms) (survivors_by (survives ms a) root)))) numbers
      ∙ ap (λ test. accessors_by (common_accessor ns) (common (references_by (renumbered ns a) test (survivors_by (survives ms a) root)))) moves
      ∙ ap (λ stays. accessors_by (common_accessor ns) (common (references_by (renumbered ns a) (is_moved ns) (survivors_by stays root)))) stay

  abbrev views_by : (ℕ → Bool) → PlainTree → PlainTree
  views_by stays root = at_member (codes "bufferViews") (first_items (length (where_numbered stays a.views))) root

  abbrev indices_by : (ℕ → Bool) → PlainTree → PlainTree
  indices_by drawn root = each_primitive a (λ at t. if drawn at && not (had_indices a at) then without (codes "indices") t else t) root

  pub after_same : (root : PlainTree) → common_after ms a root ≡ common_after ns a root
  unfolding common_after
  after_same root =
      ap (λ change. accessors_by change (indices_by (in_groups ms) (without_made_accessors a (views_by (survives ms a) (common root))))) leave
      ∙ ap (λ drawn. accessors_by (common_accessor ns) (indices_by drawn (without_made_accessors a (views_by (survives ms a) (common root))))) draw
      ∙ ap (λ stays. accessors_by (common_accessor ns) (indices_by (in_groups ns) (without_made_accessors a (views_by stays (common root))))) stay

pub order_is_unseen : OrderIsUnseen
unfolding standing_groups moved_groups
order_is_unseen a contents =
    let gs = movable_groups a contents in
    let ms = map (standing_of a contents) gs in
    let ns = moved_from a contents (length a.accessors) gs in
    let look = groups_look a contents (length a.accessors) gs in
    record {
      before = before_same ms ns look a;
      after = after_same ms ns look a;
      moves = moves_same ms ns look;
      numbers = λ view. ap (λ (renumber : ℕ → Option ℕ). renumber view) (numbers ms ns look a);
      views = ap (λ (stays : ℕ → Bool). where_numbered stays a.views) (stay ms ns look a);
    }
