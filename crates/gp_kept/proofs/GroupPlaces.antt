-- Where the groups that move stand among those of the asset, and those of the asset among them.
use Rattle.std.specs.Prelude.{filter_map, is_some}
use Rattle.std.specs.List.{cons_option, range_with_len}
use Rattle.std.proofs.Common.{◌≡◌, ℕ, zero, suc, inl, inr, Bool, true, false, cond, List, [], ◌∷◌, length, filter, slice_get, Some, refl, ap, ◌∙◌, subst}
use Rattle.std.proofs.lemmas.Bool.{cases_Bool}
use Rattle.gp_tree.specs.Lexical.{Each}
use Rattle.gp_asset.specs.Asset.{AssetParts}
use Rattle.gp_alias.specs.declared.group.Group.{Group}
use Rattle.gp_alias.specs.Groups.{is_among}
use Rattle.gp_alias.specs.Movable.{groups}
use Rattle.gp_alias.specs.Laws.{IsIn}
use Rattle.gp_alias.proofs.Members.{Among}
use Rattle.gp_alias.proofs.ClassLaws.{from_in}
use Rattle.gp_unpack.proofs.EachItem.{each_found}
use Rattle.gp_sameness.specs.Moved.{Moved, group_with, movable_groups}
use Rattle.gp_packed.specs.MovedGroups.{moved_of, number_if, next_if, moved_from, moved_groups}
use Rattle.gp_sameness.specs.Same.{MovesAs}
use Rattle.gp_kept.specs.ElementsMoved.{AreNumberedLast}
use Rattle.gp_kept.proofs.GroupsApart.{PairsOf, GroupsDiffer, movable_differ}

-- ---- each that moves is one of the asset's

abbrev HoldsOfMovable : AssetParts → List (List ℕ) → (Moved → Type 0) → List Group → Type 0
HoldsOfMovable a contents P gs = (k : ℕ) (g : Group) (next : ℕ) → slice_get gs k ≡ Some g → g.movable ≡ true → P (moved_of a contents (number_if g.bare next) g)

each_if : (a : AssetParts) (contents : List (List ℕ)) (P : Moved → Type 0) (moves : Bool) (next : ℕ) (g : Group) (gs : List Group)
    → (moves ≡ true → P (moved_of a contents (number_if g.bare next) g)) → ((n : ℕ) → Each P (moved_from a contents n gs))
    → Each P (moved_from a contents next (cond moves (g ∷ gs) gs))
each_if a contents P true next g gs first rest = (first refl, rest (next_if g.bare next))
each_if a contents P false next g gs first rest = rest next

each_moved : (a : AssetParts) (contents : List (List ℕ)) (P : Moved → Type 0) (next : ℕ) (gs : List Group) → HoldsOfMovable a contents P gs
    → Each P (moved_from a contents next (filter (λ (g : Group). g.movable) gs))
each_moved a contents P next [] one = tt
each_moved a contents P next (g ∷ gs) one =
    each_if a contents P g.movable next g (filter (λ (h : Group). h.movable) gs) (λ moves. one 0 g next refl moves) (λ n. each_moved a contents P n gs (λ k. one (suc k)))

pub each_in_groups : (a : AssetParts) (contents : List (List ℕ)) (P : Moved → Type 0) → HoldsOfMovable a contents P (groups a contents) → Each P (moved_groups a contents)
unfolding moved_groups
each_in_groups a contents P one = each_moved a contents P (length a.accessors) (groups a contents) one

-- ---- each that may move is among those that move

-- one of them is the group with an accessor of this number, and no other one has its primitives
pub record MovesAt (a : AssetParts) (contents : List (List ℕ)) (moved : List Moved) (g : Group) : Type 0 where
  pub at : ℕ
  pub next : ℕ
  pub there : slice_get moved at ≡ Some (moved_of a contents (number_if g.bare next) g)
  pub draws : (place : ℕ) → IsIn place g.primitives → group_with (λ (m : Moved). m.primitives) moved place ≡ Some (moved_of a contents (number_if g.bare next) g)

not_in : (xs : List ℕ) (x : ℕ) → (Among x xs → ⊥) → is_among xs x ≡ false
not_in xs x never = elim (cases_Bool (is_among xs x)) [ inl is ↦ absurd (never (from_in xs x is)) | inr not ↦ not ]

found_first : (moved : List Moved) (m : Moved) (place : ℕ) → IsIn place m.primitives → group_with (λ (u : Moved). u.primitives) (m ∷ moved) place ≡ Some m
found_first moved m place inside = ap (λ b. cond b (Some m) (group_with (λ (u : Moved). u.primitives) moved place)) inside

found_later : (moved : List Moved) (m : Moved) (place : ℕ) → is_among m.primitives place ≡ false
    → group_with (λ (u : Moved). u.primitives) (m ∷ moved) place ≡ group_with (λ (u : Moved). u.primitives) moved place
found_later moved m place outside = ap (λ b. cond b (Some m) (group_with (λ (u : Moved). u.primitives) moved place)) outside

moves_at : (a : AssetParts) (contents : List (List ℕ)) (next : ℕ) (gs : List Group) → PairsOf GroupsDiffer gs → (k : ℕ) (g : Group) → slice_get gs k ≡ Some g
    → MovesAt a contents (moved_from a contents next gs) g
moves_at a contents next [] differ k g e = absurd (cc)
moves_at a contents next (h ∷ gs) differ zero g e =
    let same : h ≡ g = cc in
    let rest = moved_from a contents (next_if h.bare next) gs in
    let m = moved_of a contents (number_if h.bare next) h in
    subst (MovesAt a contents (m ∷ rest)) same (record { at = 0; next = next; there = refl; draws = found_first rest m })
moves_at a contents next (h ∷ gs) differ (suc k) g e =
    let rest = moved_from a contents (next_if h.bare next) gs in
    let m = moved_of a contents (number_if h.bare next) h in
    let later = moves_at a contents (next_if h.bare next) gs differ.1 k g e in
    record {
      at = suc later.at;
      next = later.next;
      there = later.there;
      draws = λ place inside.
          found_later rest m place (not_in h.primitives place (λ early. each_found (GroupsDiffer h) gs k g differ.0 e place early (from_in g.primitives place inside)))
          ∙ later.draws place inside;
    }

-- where it stands among those that may move
abbrev StandsIn : Group → List Group → Type 0
StandsIn g gs = (k : ℕ) × (slice_get gs k ≡ Some g)

first_if : (moves : Bool) (g h : Group) (gs : List Group) → moves ≡ true → h ≡ g → StandsIn g (cond moves (h ∷ gs) gs)
first_if true g h gs is same = (0, ap (λ (u : Group). Some u) same)
first_if false g h gs is same = absurd (cc)

later_if : (moves : Bool) (g h : Group) (gs : List Group) → StandsIn g gs → StandsIn g (cond moves (h ∷ gs) gs)
later_if true g h gs later = (suc later.0, later.1)
later_if false g h gs later = later

passing_at : (gs : List Group) (k : ℕ) (g : Group) → slice_get gs k ≡ Some g → g.movable ≡ true → StandsIn g (filter (λ (h : Group). h.movable) gs)
passing_at [] k g e moves = absurd (cc)
passing_at (h ∷ gs) zero g e moves =
    let same : h ≡ g = cc in
    first_if h.movable g h (filter (λ (u : Group). u.movable) gs) (ap (λ (u : Group). u.movable) same ∙ moves) same
passing_at (h ∷ gs) (suc k) g e moves = later_if h.movable g h (filter (λ (u : Group). u.movable) gs) (passing_at gs k g e moves)

pub group_moves : (a : AssetParts) (contents : List (List ℕ)) (g : Group) → MovesAs a contents g → MovesAt a contents (moved_groups a contents) g
unfolding moved_groups
group_moves a contents g moves =
    let place = passing_at (groups a contents) moves.number g moves.there moves.movable in
    moves_at a contents (length a.accessors) (movable_groups a contents) (movable_differ a contents) place.0 g place.1

-- ---- the numbers of accessors that are made

pub number_given : (bare : Bool) (next : ℕ) → is_some (number_if bare next) ≡ bare
number_given true next = refl
number_given false next = refl

numbered_next : (bare : Bool) (next : ℕ) (others : List ℕ) → others ≡ range_with_len (next_if bare next) (length others)
    → cons_option (number_if bare next) others ≡ range_with_len next (length (cons_option (number_if bare next) others))
numbered_next true next others rest = ap (λ ns. next ∷ ns) rest
numbered_next false next others rest = rest

numbered_from : (a : AssetParts) (contents : List (List ℕ)) (next : ℕ) (gs : List Group)
    → filter_map (λ (m : Moved). m.list_accessor) (moved_from a contents next gs) ≡ range_with_len next (length (filter_map (λ (m : Moved). m.list_accessor) (moved_from a contents next gs)))
numbered_from a contents next [] = refl
numbered_from a contents next (g ∷ gs) =
    numbered_next g.bare next (filter_map (λ (m : Moved). m.list_accessor) (moved_from a contents (next_if g.bare next) gs)) (numbered_from a contents (next_if g.bare next) gs)

pub numbered_last : (a : AssetParts) (contents : List (List ℕ)) → AreNumberedLast a (moved_groups a contents)
unfolding moved_groups
numbered_last a contents = numbered_from a contents (length a.accessors) (movable_groups a contents)
