-- A group that may move has a column.
use Rattle.std.proofs.Common.{◌≡◌, inl, inr, ℕ, zero, suc, ◌+◌, ◌<◌, ◌≤◌, Bool, true, false, not, ◌&&◌, ◌||◌, ◌==◌, List, [], ◌∷◌, ◌++◌, length, map, flat_map, get_or, Option, Some, None, slice_get, refl, sym, ap, ◌∙◌, subst, arith, eq-eqb}
use Rattle.std.specs.List.{All, filter, list_all, list_any, range_with_len, cons_option}
use Rattle.std.specs.Option.{unwrap_or, option_map}
use Rattle.std.proofs.lemmas.Bool.{and_parts}
use Rattle.std.proofs.lemmas.List.Elements.{All-head}
use Rattle.std.proofs.lemmas.List.Folds.{list_any-append}
use Rattle.std.proofs.lemmas.Option.{slice_get-get_or, slice_get_within, get_or_from_slice_get}
use Rattle.gp_fields.specs.declared.geometry.Entry.{Entry}
use Rattle.gp_asset.specs.declared.geometry.Primitive.{Primitive}
use Rattle.gp_asset.specs.Asset.{AssetParts}
use Rattle.gp_alias.specs.declared.group.Group.{Group}
use Rattle.gp_alias.specs.Classes.{triangle_places, class_of, is_leading, classes}
use Rattle.gp_alias.specs.Groups.{is_among, vertex_accessors, primitives_at, rising, gathered}
use Rattle.gp_alias.specs.Movable.{is_empty, has_attributes, have_attributes, are_columns, are_lists, are_whole, corner_count, is_movable, group_of, groups}
use Rattle.gp_alias.proofs.Members.{Among, any_of, among_filter, filter_among, among_long, among_range}
use Rattle.gp_alias.proofs.Reach.{in_own_class}
use Rattle.gp_mover.specs.Laws.{AttributesAreThere, GroupsHaveColumns}
use Rattle.gp_mover.proofs.Conditions.{conditions}

-- ---- lists

get_among : (xs : List ℕ) (k x : ℕ) → slice_get xs k ≡ Some x → Among x xs
get_among [] k x e = absurd (let no : None ≡ Some x = e in cc)
get_among (y ∷ ys) zero x e = inl (let same : Some y ≡ Some x = e in cc)
get_among (y ∷ ys) (suc k) x e = inr (get_among ys k x e)

get_where : {X Y : Type 0} (f : X → Y) (xs : List X) (k : ℕ) (y : Y) → slice_get (map f xs) k ≡ Some y → (x : X) × ((slice_get xs k ≡ Some x) × (f x ≡ y))
get_where f [] k y e = absurd (let no : None ≡ Some y = e in cc)
get_where f (x ∷ xs) zero y e = (x, (refl, (let same : Some (f x) ≡ Some y = e in cc)))
get_where f (x ∷ xs) (suc k) y e = get_where f xs k y e

all_among : (p : ℕ → Bool) (xs : List ℕ) (x : ℕ) → Among x xs → list_all p xs ≡ true → p x ≡ true
all_among p [] x a h = absurd a
all_among p (y ∷ ys) x (inl e) h = ap p e ∙ (and_parts (p y) (list_all p ys) h).0
all_among p (y ∷ ys) x (inr a) h = all_among p ys x a (and_parts (p y) (list_all p ys) h).1

-- ---- the class of a group

-- a group has the class of a triangle primitive
classed : (a : AssetParts) (contents : List (List ℕ)) (k : ℕ) (g : Group) → slice_get (groups a contents) k ≡ Some g → (p : ℕ) × (Among p (triangle_places a) × (group_of a contents (class_of a p) ≡ g))
unfolding groups classes
classed a contents k g e =
    let class = get_where (group_of a contents) (map (class_of a) (filter (is_leading a) (triangle_places a))) k g e in
    let leader = get_where (class_of a) (filter (is_leading a) (triangle_places a)) k class.0 class.1.0 in
    let there = (filter_among (is_leading a) (triangle_places a) leader.0 (get_among (filter (is_leading a) (triangle_places a)) k leader.0 leader.1.0)).0 in
    (leader.0, (there, ap (group_of a contents) leader.1.1 ∙ class.1.1))

-- ---- its first attribute

-- the first attribute of a primitive that has one
first_of : (entries : List Entry) → not (is_empty entries) ≡ true → (e : Entry) × (rest : List Entry) × (entries ≡ e ∷ rest)
first_of [] some = absurd (let no : false ≡ true = some in cc)
first_of (e ∷ rest) some = (e, rest, refl)

has_first : (primitives : List Primitive) (at : ℕ) → has_attributes primitives at ≡ true → (p : Primitive) × (slice_get primitives at ≡ Some p) × (not (is_empty p.attributes) ≡ true)
has_first primitives at has = by_found (slice_get primitives at) refl has
  where
    by_found : (o : Option Primitive) → slice_get primitives at ≡ o → unwrap_or (option_map (λ (p : Primitive). not (is_empty p.attributes)) o) false ≡ true
        → (p : Primitive) × (slice_get primitives at ≡ Some p) × (not (is_empty p.attributes) ≡ true)
    by_found None found passes = absurd (let no : false ≡ true = passes in cc)
    by_found (Some p) found passes = (p, found, passes)

-- an accessor of a member is one of the members' accessors
used_here : (a : AssetParts) (places : List ℕ) (at : ℕ) (p : Primitive) (accessor : ℕ) → Among at places → slice_get a.primitives at ≡ Some p → is_among (vertex_accessors p) accessor ≡ true
    → is_among (flat_map vertex_accessors (primitives_at a places)) accessor ≡ true
used_here a [] at p accessor there found used = absurd there
used_here a (m ∷ ms) at p accessor (inl e) found used =
    let here : slice_get a.primitives m ≡ Some p = ap (slice_get a.primitives) (sym e) ∙ found in
    ap (λ o. is_among (flat_map vertex_accessors (cons_option o (primitives_at a ms))) accessor) here
    ∙ list_any-append (λ n. n == accessor) (vertex_accessors p) (flat_map vertex_accessors (primitives_at a ms)) ∙ first_true (is_among (vertex_accessors p) accessor) (is_among (flat_map vertex_accessors (primitives_at a ms)) accessor) used
  where
    first_true : (x y : Bool) → x ≡ true → (x || y) ≡ true
    first_true true y is = refl
    first_true false y is = cc
used_here a (m ∷ ms) at p accessor (inr later) found used = by_found (slice_get a.primitives m) (used_here a ms at p accessor later found used)
  where
    second_true : (x y : Bool) → y ≡ true → (x || y) ≡ true
    second_true true y is = refl
    second_true false y is = is

    by_found : (o : Option Primitive) → is_among (flat_map vertex_accessors (primitives_at a ms)) accessor ≡ true → is_among (flat_map vertex_accessors (cons_option o (primitives_at a ms))) accessor ≡ true
    by_found None rest = rest
    by_found (Some q) rest =
        list_any-append (λ n. n == accessor) (vertex_accessors q) (flat_map vertex_accessors (primitives_at a ms))
        ∙ second_true (is_among (vertex_accessors q) accessor) (is_among (flat_map vertex_accessors (primitives_at a ms)) accessor) rest

-- the first attribute is a column
first_column : (a : AssetParts) (places : List ℕ) (at : ℕ) → AttributesAreThere a → Among at places → has_attributes a.primitives at ≡ true → 1 ≤ length (gathered a places).columns
unfolding gathered rising
first_column a places at there member has =
    let found = has_first a.primitives at has in
    let p = found.0 in
    let first = first_of p.attributes found.2 in
    let e = first.0 in
    let entries : All (λ (e : Entry). e.accessor < length a.accessors) p.attributes =
    subst (λ (q : Primitive). All (λ (e : Entry). e.accessor < length a.accessors) q.attributes) (get_or_from_slice_get a.primitives at p p found.1) (there at p (slice_get_within a.primitives at p found.1)) in
    let below : e.accessor < length a.accessors = All-head (λ (e : Entry). e.accessor < length a.accessors) e first.1 (subst (All (λ (e : Entry). e.accessor < length a.accessors)) first.2 entries) in
    let used : is_among (vertex_accessors p) e.accessor ≡ true =
    ap (λ (es : List Entry). is_among (map (λ (x : Entry). x.accessor) (es ++ flat_map (λ target. target) p.targets)) e.accessor) first.2
    ∙ ap (λ b. b || is_among (map (λ (x : Entry). x.accessor) (first.1 ++ flat_map (λ target. target) p.targets)) e.accessor) (eq-eqb e.accessor e.accessor refl) in
    let listed = flat_map vertex_accessors (primitives_at a places) in
    among_long (filter (is_among listed) (range_with_len 0 (length a.accessors))) e.accessor
    (among_filter (is_among listed) (range_with_len 0 (length a.accessors)) e.accessor (among_range 0 (length a.accessors) e.accessor (omega arith) (omega (arith, below))) (used_here a places at p e.accessor member found.1 used))

attributes_had : (a : AssetParts) (contents : List (List ℕ)) (g : Group) → is_movable a contents g ≡ true → have_attributes a g ≡ true
attributes_had a contents g movable = (conditions a contents g movable).attributes

primitives_are : (a : AssetParts) (contents : List (List ℕ)) (places : List ℕ) → places ≡ (group_of a contents places).primitives
unfolding gathered
primitives_are a contents places = refl

pub groups_have_columns : GroupsHaveColumns
groups_have_columns a contents k g there is movable =
    let own = classed a contents k g is in
    let places = class_of a own.0 in
    let member : Among own.0 places = in_own_class a own.0 own.1.0 in
    let same : places ≡ g.primitives = primitives_are a contents places ∙ ap (λ (h : Group). h.primitives) own.1.1 in
    let columns : (gathered a places).columns ≡ g.columns = ap (λ (h : Group). h.columns) own.1.1 in
    let has = all_among (has_attributes a.primitives) g.primitives own.0 (subst (Among own.0) same member) (attributes_had a contents g movable) in
    let some = first_column a places own.0 there member has in
    let long : length (gathered a places).columns ≡ length g.columns = ap (λ (cs : List ℕ). length cs) columns in
    omega (arith, some, long)
