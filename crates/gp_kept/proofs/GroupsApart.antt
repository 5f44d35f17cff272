-- Groups that move have no accessor in common.
use Rattle.std.specs.Prelude.{cond, ◌==◌, ◌*◌, ◌^◌, nat_le, flat_map, option_to_list, Option, Some, None}
use Rattle.std.specs.List.{cons_option, list_all, range_with_len, enumerate_from}
use Rattle.std.proofs.Common.{◌≡◌, ◌⊎◌, inl, inr, ℕ, zero, suc, ◌+◌, ◌<◌, ◌≤◌, Bool, true, false, ◌&&◌, List, [], ◌∷◌, ◌++◌, length, map, filter, slice_get, refl, sym, ap, ◌∙◌, subst, arith}
use Rattle.std.proofs.lemmas.Bool.{cases_Bool, and_parts, eq-eqb}
use Rattle.std.proofs.lemmas.List.{map-append}
use Rattle.gp_tree.specs.Lexical.{Each}
use Rattle.gp_fields.specs.declared.geometry.Entry.{Entry}
use Rattle.gp_fields.specs.declared.sampling.SamplerFields.{SamplerFields}
use Rattle.gp_asset.specs.declared.geometry.Primitive.{Primitive}
use Rattle.gp_asset.specs.declared.usage.AccessorUse.{AccessorUse}
use Rattle.gp_asset.specs.declared.usage.Role.{Role}
use Rattle.gp_asset.specs.declared.usage.Role.TheVariants.{Attribute, Target, Indices}
use Rattle.gp_asset.specs.Asset.{AssetParts}
use Rattle.gp_asset.specs.Uses.{use_as, entry_uses, primitive_uses, skin_uses, animation_uses, gathered as each_gathered, uses_of_all}
use Rattle.gp_alias.specs.declared.group.Group.{Group}
use Rattle.gp_alias.specs.Groups.{is_among, list_at, vertex_accessors, index_accessors, primitives_at, rising, accessors_by, first_count, gathered}
use Rattle.gp_alias.specs.Classes.{triangle_places, class_of, is_leading, classes}
use Rattle.gp_alias.specs.Movable.{is_vertex_role, is_index_role, uses_of, is_used_only, holds_at, is_column, is_index_list, corner_count, have_attributes, are_whole, is_movable, group_of, groups}
use Rattle.gp_alias.proofs.Members.{Among, filter_among, range_among}
use Rattle.gp_alias.proofs.Reach.{in_own_class}
use Rattle.gp_alias.proofs.ClassLaws.{in_from, from_in, classes_are_apart}
use Rattle.gp_alias.proofs.MovableGroups.{without_regard}
use Rattle.gp_packed.specs.MadeLaws.{numbers_of}
use Rattle.gp_sameness.specs.Moved.{movable_groups}
use Rattle.gp_packed.specs.MovedGroups.{moved_of, number_if, next_if, moved_from}
use Rattle.gp_packed.proofs.NewNumbers.{Among as IsItem, among_front, among_behind, among_each, among_numbered}
use Rattle.gp_kept.proofs.ApartNumbers.{Apart, among_join, apart_join}

-- ---- tests of all items

pub all_pass : {A : Type 0} (p : A → Bool) (xs : List A) (x : A) → list_all p xs ≡ true → IsItem x xs → p x ≡ true
all_pass p [] x all h = absurd h
all_pass p (y ∷ ys) x all (inl e) = ap p (sym e) ∙ (and_parts (p y) (list_all p ys) all).0
all_pass p (y ∷ ys) x all (inr h) = all_pass p ys x (and_parts (p y) (list_all p ys) all).1 h

pub numbers_pass : (p : ℕ → Bool) (xs : List ℕ) (x : ℕ) → list_all p xs ≡ true → Among x xs → p x ≡ true
numbers_pass p [] x all h = absurd h
numbers_pass p (y ∷ ys) x all (inl e) = ap p e ∙ (and_parts (p y) (list_all p ys) all).0
numbers_pass p (y ∷ ys) x all (inr h) = numbers_pass p ys x (and_parts (p y) (list_all p ys) all).1 h

passing : {A : Type 0} (p : A → Bool) (x : A) (xs : List A) → IsItem x xs → p x ≡ true → IsItem x (filter p xs)
passing p x [] h is = absurd h
passing p x (y ∷ ys) (inl e) is = rw (ap p e ∙ is) (inl e)
passing p x (y ∷ ys) (inr h) is = elim (cases_Bool (p y)) [
  | inl passes ↦ rw passes (inr (passing p x ys h is))
  | inr never ↦ rw never (passing p x ys h is)
]

-- ---- pairs of items, each with a later one

abbrev pub PairsOf : {A : Type 0} → (A → A → Type 0) → List A → Type 0
PairsOf R [] = Unit {0}
PairsOf R (x ∷ xs) = Each (R x) xs × PairsOf R xs

pub each_filter : {A : Type 0} (P : A → Type 0) (p : A → Bool) (xs : List A) → Each P xs → Each P (filter p xs)
each_filter P p [] h = tt
each_filter P p (x ∷ xs) h = elim (cases_Bool (p x)) [
  | inl passes ↦ rw passes (h.0, each_filter P p xs h.1)
  | inr never ↦ rw never (each_filter P p xs h.1)
]

pairs_filter : {A : Type 0} (R : A → A → Type 0) (p : A → Bool) (xs : List A) → PairsOf R xs → PairsOf R (filter p xs)
pairs_filter R p [] h = tt
pairs_filter R p (x ∷ xs) h = elim (cases_Bool (p x)) [
  | inl passes ↦ rw passes (each_filter (R x) p xs h.0, pairs_filter R p xs h.1)
  | inr never ↦ rw never (pairs_filter R p xs h.1)
]

-- ---- groups have no primitive in common

abbrev Differ : List ℕ → List ℕ → Type 0
Differ ps qs = (p : ℕ) → Among p ps → Among p qs → ⊥

abbrev pub GroupsDiffer : Group → Group → Type 0
GroupsDiffer g h = Differ g.primitives h.primitives

abbrev OnePlace : List (List ℕ) → Type 0
OnePlace lists = (j k at : ℕ) → is_among (list_at lists j) at ≡ true → is_among (list_at lists k) at ≡ true → j ≡ k

later_differ : (ps : List ℕ) (lists : List (List ℕ)) → ((k at : ℕ) → Among at ps → is_among (list_at lists k) at ≡ true → ⊥) → Each (Differ ps) lists
later_differ ps [] never = tt
later_differ ps (qs ∷ lists) never = (λ p a b. never 0 p a (in_from qs p b), later_differ ps lists (λ k at a i. never (suc k) at a i))

lists_differ : (lists : List (List ℕ)) → OnePlace lists → PairsOf Differ lists
lists_differ [] one = tt
lists_differ (ps ∷ lists) one = (
  later_differ ps lists (λ k at a i. let same = one 0 (suc k) at (in_from ps at a) i in omega (arith, same)),
  lists_differ lists (λ j k at i h. let same = one (suc j) (suc k) at i h in omega (arith, same)),
)

each_group : (a : AssetParts) (contents : List (List ℕ)) (ps : List ℕ) (lists : List (List ℕ)) → Each (Differ ps) lists → Each (GroupsDiffer (group_of a contents ps)) (map (group_of a contents) lists)
unfolding gathered
each_group a contents ps [] h = tt
each_group a contents ps (qs ∷ lists) h = (h.0, each_group a contents ps lists h.1)

pairs_of_groups : (a : AssetParts) (contents : List (List ℕ)) (lists : List (List ℕ)) → PairsOf Differ lists → PairsOf GroupsDiffer (map (group_of a contents) lists)
pairs_of_groups a contents [] h = tt
pairs_of_groups a contents (ps ∷ lists) h = (each_group a contents ps lists h.0, pairs_of_groups a contents lists h.1)

pub movable_differ : (a : AssetParts) (contents : List (List ℕ)) → PairsOf GroupsDiffer (movable_groups a contents)
unfolding groups
movable_differ a contents =
    pairs_filter GroupsDiffer (λ (g : Group). g.movable) (map (group_of a contents) (classes a))
    (pairs_of_groups a contents (classes a) (lists_differ (classes a) (classes_are_apart a).apart))

-- ---- what a group that may move has

pub record MayMove (a : AssetParts) (contents : List (List ℕ)) (g : Group) : Type 0 where
  pub first : ℕ
  pub has_first : Among first g.primitives
  pub columns : g.columns ≡ accessors_by vertex_accessors a g.primitives
  pub lists : g.lists ≡ accessors_by index_accessors a g.primitives
  pub count : g.count ≡ first_count a.accessors g.columns
  pub moves : is_movable a contents g ≡ true

abbrev HasSome : List ℕ → Type 0
HasSome ps = (p : ℕ) × Among p ps

pub may_move_of : (a : AssetParts) (contents : List (List ℕ)) (ps : List ℕ) → HasSome ps → (group_of a contents ps).movable ≡ true → MayMove a contents (group_of a contents ps)
unfolding gathered
may_move_of a contents ps some moves = record {
  first = some.0;
  has_first = some.1;
  columns = refl;
  lists = refl;
  count = refl;
  moves = without_regard a contents (gathered a ps) (is_movable a contents (gathered a ps)) ∙ moves;
}

kept_if : {A : Type 0} (P : A → Type 0) (b : Bool) (x : A) (xs : List A) → (b ≡ true → P x) → Each P xs → Each P (cond b (x ∷ xs) xs)
kept_if P true x xs first rest = (first refl, rest)
kept_if P false x xs first rest = rest

movable_each : (a : AssetParts) (contents : List (List ℕ)) (lists : List (List ℕ)) → Each HasSome lists → Each (MayMove a contents) (filter (λ (g : Group). g.movable) (map (group_of a contents) lists))
movable_each a contents [] h = tt
movable_each a contents (ps ∷ lists) h =
    kept_if (MayMove a contents) (group_of a contents ps).movable (group_of a contents ps) (filter (λ (g : Group). g.movable) (map (group_of a contents) lists)) (may_move_of a contents ps h.0)
    (movable_each a contents lists h.1)

classes_have_some : (a : AssetParts) (ps : List ℕ) → ((p : ℕ) → Among p ps → Among p (triangle_places a)) → Each HasSome (map (class_of a) ps)
classes_have_some a [] there = tt
classes_have_some a (p ∷ ps) there = ((p, in_own_class a p (there p (inl refl))), classes_have_some a ps (λ q h. there q (inr h)))

pub all_may_move : (a : AssetParts) (contents : List (List ℕ)) → Each (MayMove a contents) (movable_groups a contents)
unfolding groups classes
all_may_move a contents =
    movable_each a contents (classes a)
    (classes_have_some a (filter (is_leading a) (triangle_places a)) (λ p h. (filter_among (is_leading a) (triangle_places a) p h).0))

-- ---- the conditions, one by one

pub record Conditions (a : AssetParts) (contents : List (List ℕ)) (g : Group) : Type 0 where
  pub attributes : have_attributes a g ≡ true
  pub columns : list_all (holds_at a.accessors (is_column contents g.count)) g.columns ≡ true
  pub few : nat_le g.count (2 ^ 24) ≡ true
  pub vertex_uses : list_all (is_used_only is_vertex_role a.uses g.primitives) g.columns ≡ true
  pub lists : list_all (holds_at a.accessors (is_index_list a contents g.count)) g.lists ≡ true
  pub index_uses : list_all (is_used_only is_index_role a.uses g.primitives) g.lists ≡ true
  pub whole : are_whole g ≡ true
  pub corners : nat_le (corner_count a g) (3 * 2 ^ 25) ≡ true

pub conditions_of : (a : AssetParts) (contents : List (List ℕ)) (g : Group) → is_movable a contents g ≡ true → Conditions a contents g
unfolding is_movable
conditions_of a contents g moves =
    let columns = list_all (holds_at a.accessors (is_column contents g.count)) g.columns in
    let vertex_uses = list_all (is_used_only is_vertex_role a.uses g.primitives) g.columns in
    let lists = list_all (holds_at a.accessors (is_index_list a contents g.count)) g.lists in
    let index_uses = list_all (is_used_only is_index_role a.uses g.primitives) g.lists in
    let last = and_parts (a.closed && have_attributes a g && (columns && nat_le g.count (2 ^ 24) && vertex_uses) && (lists && index_uses) && are_whole g) (nat_le (corner_count a g) (3 * 2 ^ 25)) moves in
    let fifth = and_parts (a.closed && have_attributes a g && (columns && nat_le g.count (2 ^ 24) && vertex_uses) && (lists && index_uses)) (are_whole g) last.0 in
    let fourth = and_parts (a.closed && have_attributes a g && (columns && nat_le g.count (2 ^ 24) && vertex_uses)) (lists && index_uses) fifth.0 in
    let third = and_parts (a.closed && have_attributes a g) (columns && nat_le g.count (2 ^ 24) && vertex_uses) fourth.0 in
    let second = and_parts a.closed (have_attributes a g) third.0 in
    let vertices = and_parts (columns && nat_le g.count (2 ^ 24)) vertex_uses third.1 in
    let shapes = and_parts columns (nat_le g.count (2 ^ 24)) vertices.0 in
    let indices = and_parts lists index_uses fourth.1 in
    record {
      attributes = second.1;
      columns = shapes.0;
      few = shapes.1;
      vertex_uses = vertices.1;
      lists = indices.0;
      index_uses = indices.1;
      whole = fifth.1;
      corners = last.1;
    }

-- ---- accessors of a group

-- some primitive of the group has the accessor by the rule
pub record IsUsedBy (rule : Primitive → List ℕ) (a : AssetParts) (places : List ℕ) (x : ℕ) : Type 0 where
  pub place : ℕ
  pub among : Among place places
  pub primitive : Primitive
  pub there : slice_get a.primitives place ≡ Some primitive
  pub has : Among x (rule primitive)

abbrev later : (rule : Primitive → List ℕ) (a : AssetParts) (p : ℕ) (ps : List ℕ) (x : ℕ) → IsUsedBy rule a ps x → IsUsedBy rule a (p ∷ ps) x
later rule a p ps x u = record { place = u.place; among = inr u.among; primitive = u.primitive; there = u.there; has = u.has }

used_by : (rule : Primitive → List ℕ) (a : AssetParts) (places : List ℕ) (x : ℕ) → Among x (flat_map rule (primitives_at a places)) → IsUsedBy rule a places x
used_by rule a [] x h = absurd h
used_by rule a (p ∷ ps) x h = by_found (used_by rule a ps x) (slice_get a.primitives p) refl h
  where
    by_found : (Among x (flat_map rule (primitives_at a ps)) → IsUsedBy rule a ps x) → (o : Option Primitive) → slice_get a.primitives p ≡ o
        → Among x (flat_map rule (cons_option o (primitives_at a ps))) → IsUsedBy rule a (p ∷ ps) x
    by_found others None e h = later rule a p ps x (others h)
    by_found others (Some q) e h = elim (among_join x (rule q) (flat_map rule (primitives_at a ps)) h) [
      | inl here ↦ record { place = p; among = inl refl; primitive = q; there = e; has = here }
      | inr there ↦ later rule a p ps x (others there)
    ]

-- an accessor of the asset that primitives of the group have
pub accessor_of_group : (rule : Primitive → List ℕ) (a : AssetParts) (places : List ℕ) (x : ℕ) → Among x (accessors_by rule a places) → (x < length a.accessors) × IsUsedBy rule a places x
unfolding rising
accessor_of_group rule a places x h =
    let listed = flat_map rule (primitives_at a places) in
    let parts = filter_among (is_among listed) (range_with_len 0 (length a.accessors)) x h in
    let range = range_among 0 (length a.accessors) x parts.0 in
    (omega (arith, range.1), used_by rule a places x (from_in listed x parts.1))

-- ---- uses

-- who uses an accessor is read of its primitives first
pub record HasUses (a : AssetParts) : Type 0 where
  pub skins : List (Option ℕ)
  pub animations : List (List SamplerFields)
  pub uses : a.uses ≡ uses_of_all a.primitives skins animations

-- there is such a use in the asset
abbrev IsUse : AssetParts → AccessorUse → Type 0
IsUse a u = IsItem u a.uses

primitive_use : (a : AssetParts) → HasUses a → (at : ℕ) (p : Primitive) (u : AccessorUse) → slice_get a.primitives at ≡ Some p → IsItem u (primitive_uses at p) → IsUse a u
unfolding uses_of_all
primitive_use a has at p u there h =
    let all = each_gathered primitive_uses a.primitives in
    subst (IsItem u) (sym has.uses)
    (among_front u (all ++ each_gathered skin_uses has.skins) (each_gathered animation_uses has.animations)
    (among_front u all (each_gathered skin_uses has.skins)
    (among_each (λ (x : ℕ × Primitive). primitive_uses x.0 x.1) (at, p) u (enumerate_from 0 a.primitives) (among_numbered 0 at at p a.primitives (omega arith) there) h)))

abbrev accessors_in : List Entry → List ℕ
accessors_in = map (λ (e : Entry). e.accessor)

entry_use : (role : Role) (at x : ℕ) (es : List Entry) → Among x (accessors_in es) → IsItem (use_as role at x) (entry_uses role at es)
entry_use role at x [] h = absurd h
entry_use role at x (e ∷ es) (inl same) = inl (ap (use_as role at) (sym same))
entry_use role at x (e ∷ es) (inr h) = inr (entry_use role at x es h)

target_use : (at x : ℕ) (ts : List (List Entry)) → Among x (accessors_in (flat_map (λ t. t) ts)) → IsItem (use_as Target at x) (flat_map (entry_uses Target at) ts)
target_use at x [] h = absurd h
target_use at x (t ∷ ts) h =
    let own = entry_uses Target at t in
    let others = flat_map (entry_uses Target at) ts in
    elim (among_join x (accessors_in t) (accessors_in (flat_map (λ t. t) ts)) (subst (Among x) (map-append (λ (e : Entry). e.accessor) t (flat_map (λ t. t) ts)) h)) [
      | inl here ↦ among_front (use_as Target at x) own others (entry_use Target at x t here)
      | inr there ↦ among_behind (use_as Target at x) own others (target_use at x ts there)
    ]

-- an accessor of vertices is used for them
record IsVertexUse (a : AssetParts) (at x : ℕ) : Type 0 where
  role : Role
  vertex : is_vertex_role role ≡ true
  corner : is_index_role role ≡ false
  use_of : IsUse a (use_as role at x)

vertex_use : (a : AssetParts) → HasUses a → (at x : ℕ) (p : Primitive) → slice_get a.primitives at ≡ Some p → Among x (vertex_accessors p) → IsVertexUse a at x
vertex_use a has at x p there h =
    let attributes = entry_uses Attribute at p.attributes in
    let targets = flat_map (entry_uses Target at) p.targets in
    let indices = map (use_as Indices at) (option_to_list p.indices) in
    elim (among_join x (accessors_in p.attributes) (accessors_in (flat_map (λ t. t) p.targets)) (subst (Among x) (map-append (λ (e : Entry). e.accessor) p.attributes (flat_map (λ t. t) p.targets)) h)) [
      | inl here ↦ record {
        role = Attribute;
        vertex = refl;
        corner = refl;
        use_of = primitive_use a has at p (use_as Attribute at x) there
            (among_front (use_as Attribute at x) (attributes ++ targets) indices (among_front (use_as Attribute at x) attributes targets (entry_use Attribute at x p.attributes here)));
      }
      | inr more ↦ record {
        role = Target;
        vertex = refl;
        corner = refl;
        use_of = primitive_use a has at p (use_as Target at x) there
            (among_front (use_as Target at x) (attributes ++ targets) indices (among_behind (use_as Target at x) attributes targets (target_use at x p.targets more)));
      }
    ]

index_item : (at x : ℕ) (indices : Option ℕ) → Among x (option_to_list indices) → IsItem (use_as Indices at x) (map (use_as Indices at) (option_to_list indices))
index_item at x None h = absurd h
index_item at x (Some i) (inl e) = inl (ap (use_as Indices at) (sym e))
index_item at x (Some i) (inr h) = absurd h

index_use : (a : AssetParts) → HasUses a → (at x : ℕ) (p : Primitive) → slice_get a.primitives at ≡ Some p → Among x (index_accessors p) → IsUse a (use_as Indices at x)
index_use a has at x p there h =
    let attributes = entry_uses Attribute at p.attributes in
    let targets = flat_map (entry_uses Target at) p.targets in
    let indices = map (use_as Indices at) (option_to_list p.indices) in
    primitive_use a has at p (use_as Indices at x) there (among_behind (use_as Indices at x) (attributes ++ targets) indices (index_item at x p.indices h))

-- a use of an accessor that only some primitives may use in some roles
used_so : (has_role : Role → Bool) (a : AssetParts) (places numbers : List ℕ) (x : ℕ) (role : Role) (at : ℕ) → list_all (is_used_only has_role a.uses places) numbers ≡ true → Among x numbers
    → IsUse a (use_as role at x) → (has_role role ≡ true) × Among at places
used_so has_role a places numbers x role at all h use_of =
    let only = numbers_pass (is_used_only has_role a.uses places) numbers x all h in
    let own = passing (λ (u : AccessorUse). u.accessor == x) (use_as role at x) a.uses use_of (eq-eqb x x refl) in
    let both = and_parts (has_role role) (is_among places at) (all_pass (λ (u : AccessorUse). has_role u.role && is_among places u.owner) (uses_of a.uses x) (use_as role at x) only own) in
    (both.0, from_in places at both.1)

-- ---- two groups that may move

module _ (a : AssetParts) (contents : List (List ℕ)) (has : HasUses a) where
  pub column_in : (g : Group) → MayMove a contents g → (x : ℕ) → Among x g.columns → (x < length a.accessors) × IsUsedBy vertex_accessors a g.primitives x
  column_in g m x h = accessor_of_group vertex_accessors a g.primitives x (subst (Among x) m.columns h)

  pub list_in : (g : Group) → MayMove a contents g → (x : ℕ) → Among x g.lists → (x < length a.accessors) × IsUsedBy index_accessors a g.primitives x
  list_in g m x h = accessor_of_group index_accessors a g.primitives x (subst (Among x) m.lists h)

  columns_differ : (g h : Group) → MayMove a contents g → MayMove a contents h → GroupsDiffer g h → (x : ℕ) → Among x g.columns → Among x h.columns → ⊥
  columns_differ g h m n differ x hg hh =
      let u = (column_in g m x hg).1 in
      let v = vertex_use a has u.place x u.primitive u.there u.has in
      differ u.place u.among (used_so is_vertex_role a h.primitives h.columns x v.role u.place (conditions_of a contents h n.moves).vertex_uses hh v.use_of).1

  lists_apart : (g h : Group) → MayMove a contents g → MayMove a contents h → GroupsDiffer g h → (x : ℕ) → Among x g.lists → Among x h.lists → ⊥
  lists_apart g h m n differ x hg hh =
      let u = (list_in g m x hg).1 in
      differ u.place u.among (used_so is_index_role a h.primitives h.lists x Indices u.place (conditions_of a contents h n.moves).index_uses hh (index_use a has u.place x u.primitive u.there u.has)).1

  -- a column is never a list
  no_list : (g h : Group) → MayMove a contents g → MayMove a contents h → (x : ℕ) → Among x g.columns → Among x h.lists → ⊥
  no_list g h m n x hg hh =
      let u = (column_in g m x hg).1 in
      let v = vertex_use a has u.place x u.primitive u.there u.has in
      let is = (used_so is_index_role a h.primitives h.lists x v.role u.place (conditions_of a contents h n.moves).index_uses hh v.use_of).0 in
      let bad : false ≡ true = sym v.corner ∙ is in
      absurd (cc)

  abbrev InGroup : Group → ℕ → Type 0
  InGroup g x = Among x g.columns ⊎ Among x g.lists

  groups_apart : (g h : Group) → MayMove a contents g → MayMove a contents h → GroupsDiffer g h → (x : ℕ) → InGroup g x → InGroup h x → ⊥
  groups_apart g h m n differ x (inl p) (inl q) = columns_differ g h m n differ x p q
  groups_apart g h m n differ x (inl p) (inr q) = no_list g h m n x p q
  groups_apart g h m n differ x (inr p) (inl q) = no_list h g n m x q p
  groups_apart g h m n differ x (inr p) (inr q) = lists_apart g h m n differ x p q

  in_group_below : (g : Group) → MayMove a contents g → (x : ℕ) → InGroup g x → x < length a.accessors
  in_group_below g m x (inl p) = (column_in g m x p).0
  in_group_below g m x (inr p) = (list_in g m x p).0

  -- ---- all numbers of accessors

  -- a number of a group is one of its accessors or the one that is made for it
  of_group : (g : Group) (next x : ℕ) → Among x (numbers_of (moved_of a contents (number_if g.bare next) g)) → InGroup g x ⊎ ((x ≡ next) × (next_if g.bare next ≡ suc next))
  of_group g next x h = elim (among_join x g.columns (g.lists ++ option_to_list (number_if g.bare next)) h) [
    | inl here ↦ inl (inl here)
    | inr more ↦ elim (among_join x g.lists (option_to_list (number_if g.bare next)) more) [
      | inl here ↦ inl (inr here)
      | inr made ↦ inr (by_bare g.bare made)
    ]
  ]
    where
      by_bare : (b : Bool) → Among x (option_to_list (number_if b next)) → (x ≡ next) × (next_if b next ≡ suc next)
      by_bare true (inl e) = (e, omega arith)
      by_bare true (inr h) = absurd h
      by_bare false h = absurd h

  next_least : (b : Bool) (next : ℕ) → next ≤ next_if b next
  next_least true next = omega arith
  next_least false next = omega arith

  -- so is a number of some groups
  of_groups : (next : ℕ) (gs : List Group) (x : ℕ) → Each (MayMove a contents) gs → Among x (flat_map numbers_of (moved_from a contents next gs))
      → ((h : Group) × IsItem h gs × MayMove a contents h × InGroup h x) ⊎ (next ≤ x)
  of_groups next [] x each h = absurd h
  of_groups next (g ∷ gs) x each h =
      let rest = flat_map numbers_of (moved_from a contents (next_if g.bare next) gs) in
      elim (among_join x (numbers_of (moved_of a contents (number_if g.bare next) g)) rest h) [
        | inl here ↦ elim (of_group g next x here) [
          | inl own ↦ inl (g, inl refl, each.0, own)
          | inr made ↦ inr (let same = made.0 in omega (arith, same))
        ]
        | inr there ↦ elim (of_groups (next_if g.bare next) gs x each.1 there) [
          | inl own ↦ inl (own.0, inr own.1, own.2, own.3)
          | inr past ↦ inr (let least = next_least g.bare next in omega (arith, least, past))
        ]
      ]

  has_of : {A : Type 0} (P : A → Type 0) (x : A) (xs : List A) → Each P xs → IsItem x xs → P x
  has_of P x [] each h = absurd h
  has_of P x (y ∷ ys) each (inl e) = subst P e each.0
  has_of P x (y ∷ ys) each (inr h) = has_of P x ys each.1 h

  no_common : (g : Group) (next : ℕ) (gs : List Group) → length a.accessors ≤ next → MayMove a contents g → Each (MayMove a contents) gs → Each (GroupsDiffer g) gs → (x : ℕ)
      → Among x (numbers_of (moved_of a contents (number_if g.bare next) g)) → Among x (flat_map numbers_of (moved_from a contents (next_if g.bare next) gs)) → ⊥
  no_common g next gs past m each differ x here there = by_both (of_group g next x here) (of_groups (next_if g.bare next) gs x each there)
    where
      least : next ≤ next_if g.bare next
      least = next_least g.bare next

      by_both : InGroup g x ⊎ ((x ≡ next) × (next_if g.bare next ≡ suc next)) → ((h : Group) × IsItem h gs × MayMove a contents h × InGroup h x) ⊎ (next_if g.bare next ≤ x) → ⊥
      by_both (inl own) (inl other) = groups_apart g other.0 m other.2 (has_of (GroupsDiffer g) other.0 gs differ other.1) x own other.3
      by_both (inl own) (inr more) = let low = in_group_below g m x own in omega (arith, past, low, least, more)
      by_both (inr made) (inl other) = let low = in_group_below other.0 other.2 x other.3 in let same = made.0 in omega (arith, past, low, same)
      by_both (inr made) (inr more) = let same = made.0 in let now = made.1 in omega (arith, same, now, more)

  -- the numbers of one group differ, as rising ones do
  pub numbers_apart : (next : ℕ) (gs : List Group) → length a.accessors ≤ next → Each (MayMove a contents) gs → PairsOf GroupsDiffer gs
      → ((g : Group) (n : ℕ) → length a.accessors ≤ n → MayMove a contents g → Apart (numbers_of (moved_of a contents (number_if g.bare n) g)))
      → Apart (flat_map numbers_of (moved_from a contents next gs))
  numbers_apart next [] past each pairs own = tt
  numbers_apart next (g ∷ gs) past each pairs own =
      let least = next_least g.bare next in
      apart_join (numbers_of (moved_of a contents (number_if g.bare next) g)) (flat_map numbers_of (moved_from a contents (next_if g.bare next) gs))
      (own g next past each.0)
      (numbers_apart (next_if g.bare next) gs (omega (arith, past, least)) each.1 pairs.1 own)
      (no_common g next gs past each.0 each.1 pairs.0)

  -- ---- the numbers of one group

  apart_range : (low n : ℕ) → Apart (range_with_len low n)
  apart_range low zero = tt
  apart_range low (suc n) = (λ h. let r = range_among (low + 1) n low h in let least = r.0 in omega (arith, least), apart_range (low + 1) n)

  apart_filter : (p : ℕ → Bool) (xs : List ℕ) → Apart xs → Apart (filter p xs)
  apart_filter p [] h = tt
  apart_filter p (x ∷ xs) h = elim (cases_Bool (p x)) [
    | inl passes ↦ rw passes (λ k. h.0 (filter_among p xs x k).0, apart_filter p xs h.1)
    | inr never ↦ rw never (apart_filter p xs h.1)
  ]

  rising_apart : (n : ℕ) (listed : List ℕ) → Apart (rising n listed)
  unfolding rising
  rising_apart n listed = apart_filter (is_among listed) (range_with_len 0 n) (apart_range 0 n)

  pub own_apart : (g : Group) (n : ℕ) → length a.accessors ≤ n → MayMove a contents g → Apart (numbers_of (moved_of a contents (number_if g.bare n) g))
  own_apart g n past m =
      apart_join g.columns (g.lists ++ option_to_list (number_if g.bare n)) (subst Apart (sym m.columns) (rising_apart (length a.accessors) _))
      (apart_join g.lists (option_to_list (number_if g.bare n)) (subst Apart (sym m.lists) (rising_apart (length a.accessors) _)) (made_alone g.bare) (λ x p q. no_made x (inr p) q))
      (λ x p q. elim (among_join x g.lists (option_to_list (number_if g.bare n)) q) [
        | inl one ↦ no_list g g m m x p one
        | inr made ↦ no_made x (inl p) made
      ])
    where
      made_alone : (b : Bool) → Apart (option_to_list (number_if b n))
      made_alone true = (λ h. h, tt)
      made_alone false = tt

      is_made : (b : Bool) (x : ℕ) → Among x (option_to_list (number_if b n)) → x ≡ n
      is_made true x (inl e) = e
      is_made true x (inr h) = absurd h
      is_made false x h = absurd h

      no_made : (x : ℕ) → InGroup g x → Among x (option_to_list (number_if g.bare n)) → ⊥
      no_made x own made = let low = in_group_below g m x own in let same = is_made g.bare x made in omega (arith, low, same, past)
