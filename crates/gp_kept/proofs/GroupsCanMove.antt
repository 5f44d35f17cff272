-- The groups of an asset that is accepted can be moved: all numbers that are written for them read back.
use Rattle.std.specs.Prelude.{◌^◌, flat_map, filter_map, is_some, option_to_list, Option, Some, None, IfSome}
use Rattle.std.specs.List.{cons_option}
use Rattle.std.proofs.Common.{◌≡◌, inl, inr, ℕ, suc, ◌+◌, ◌<◌, ◌≤◌, Bool, true, false, ◌||◌, List, [], ◌∷◌, ◌++◌, length, map, Ok, refl, sym, ap, ◌∙◌, arith}
use Rattle.std.proofs.lemmas.List.{length-map}
use Rattle.gp_tree.specs.Lexical.{Each}
use Rattle.gp_tree.specs.Plain.{PlainTree}
use Rattle.gp_json.specs.Text.{text_of}
use Rattle.gp_glb.proofs.ReadingBack.{has_length}
use Rattle.gp_layout.specs.Layout.{end, laid}
use Rattle.gp_layout.specs.Row.{laid_buffer}
use Rattle.gp_layout.proofs.Parts.{length_laid}
use Rattle.gp_rules.specs.declared.accessing.Accessor.{Accessor}
use Rattle.gp_rules.specs.declared.accessing.Sparse.{Sparse}
use Rattle.gp_rules.specs.declared.storage.View.{View}
use Rattle.gp_asset.specs.declared.purpose.Form.TheVariants.{Plain}
use Rattle.gp_asset.specs.Asset.{AssetParts}
use Rattle.gp_elements.specs.Held.{IsSound}
use Rattle.gp_elements.proofs.Reading.{view_there, index_view_there}
use Rattle.gp_alias.specs.declared.group.Group.{Group}
use Rattle.gp_alias.specs.Movable.{holds_at, is_given, is_column}
use Rattle.gp_alias.proofs.Members.{Among}
use Rattle.gp_alias.proofs.RecordsOf.{sound_of}
use Rattle.gp_unpack.specs.Contents.{all_contents}
use Rattle.gp_document.specs.Document.{Document, glb_of}
use Rattle.gp_document.specs.Accepted.{asset_of}
use Rattle.gp_unpack.proofs.EachItem.{each_is, all_of_each}
use Rattle.gp_sameness.specs.Moved.{Moved, movable_groups}
use Rattle.gp_sameness.specs.Survivors.{survives}
use Rattle.gp_packed.specs.MadeViews.{Made, made_views}
use Rattle.gp_packed.specs.Plan.{Stored, parts, packed_bin, output_views}
use Rattle.gp_packed.specs.Packed.{packed_tree, packed}
use Rattle.gp_packed.specs.NewNumbers.{GroupSuits, count_views}
use Rattle.gp_packed.specs.MeshesBack.{IsAccessorOf, HasListIn}
use Rattle.gp_packed.specs.PackedFields.{count_accessors}
use Rattle.gp_packed.specs.SoundMoved.{MadeFits}
use Rattle.gp_packed.specs.MadeLaws.{HasViews, numbers_of}
use Rattle.gp_packed.specs.MovedGroups.{number_if, next_if, moved_from, moved_groups}
use Rattle.gp_kept.specs.MovedGroupsLaws.{MovedGroupsCanMove}
use Rattle.gp_kept.specs.TrianglesMoved.{IsRead}
use Rattle.gp_kept.proofs.MadeInOrder.{made_in_order}
use Rattle.gp_packed.proofs.OutputViews.{output_counted, passed}
use Rattle.gp_packed.proofs.OutputFits.{stored_suit, stored_fit, output_fits}
use Rattle.gp_kept.proofs.ApartNumbers.{among_join, apart_few}
use Rattle.gp_kept.proofs.GroupsApart.{numbers_pass}
use Rattle.gp_kept.proofs.GroupsWhole.{left_in, right_in, holds, few_vertices, few_records, each_list, first_column, one_found, column_of}
use Rattle.gp_kept.proofs.GroupsRead.{is_loaded, views_have_bytes, is_read, has_uses}
use Rattle.gp_kept.proofs.MovedGroups.{each_group, all_apart, count_groups}
use Rattle.gp_kept.proofs.MovedSizes.{IsWithin, OwnBelow, own_below, all_rooms, all_within, few_loads, groups_sized, groups_whole}
use Rattle.gp_kept.proofs.MovedFallback.{fallback_below}
use Rattle.gp_kept.proofs.MovedGroupsWhole.{each_whole}
use Rattle.gp_packed.specs.RulesMoved.{GroupIsWhole}

-- ---- the accessors that are made

abbrev made_in : List Moved → List ℕ
made_in moved = filter_map (λ (m : Moved). m.list_accessor) moved

made_step : (b : Bool) (next limit : ℕ) (others : List ℕ) → next + length (cons_option (number_if b next) others) ≤ limit
    → IfSome (number_if b next) (λ at. at < limit) × (next_if b next + length others ≤ limit)
made_step true next limit others h = (omega (arith, h), omega (arith, h))
made_step false next limit others h = (tt, h)

abbrev MadeBelow : ℕ → Moved → Type 0
MadeBelow limit m = IfSome m.list_accessor (λ at. at < limit)

made_below : (a : AssetParts) (contents : List (List ℕ)) (limit next : ℕ) (gs : List Group) → next + length (made_in (moved_from a contents next gs)) ≤ limit → Each (MadeBelow limit) (moved_from a contents next gs)
made_below a contents limit next [] h = tt
made_below a contents limit next (g ∷ gs) h =
    let s = made_step g.bare next limit (made_in (moved_from a contents (next_if g.bare next) gs)) h in
    (s.0, made_below a contents limit (next_if g.bare next) gs s.1)

all_made_below : (a : AssetParts) (contents : List (List ℕ)) → Each (MadeBelow (count_accessors (moved_groups a contents) a)) (moved_groups a contents)
unfolding moved_groups
all_made_below a contents = made_below a contents (count_accessors (moved_groups a contents) a) (length a.accessors) (movable_groups a contents) (omega arith)

one_more : (o : Option ℕ) (others : List ℕ) → length (cons_option o others) ≤ suc (length others)
one_more None others = omega arith
one_more (Some at) others = omega arith

few_made : (moved : List Moved) → length (made_in moved) ≤ length moved
few_made [] = omega arith
few_made (m ∷ moved) = omega (arith, one_more m.list_accessor (made_in moved), few_made moved)

list_in_reach : (limit : ℕ) (o : Option ℕ) → limit ≤ 2 ^ 32 → IfSome o (λ at. at < limit) → IfSome o (IsAccessorOf limit)
list_in_reach limit None small h = h
list_in_reach limit (Some at) small h = (h, omega (arith, h, small))

lists_in_reach : (limit : ℕ) (moved : List Moved) → limit ≤ 2 ^ 32 → Each (MadeBelow limit) moved → Each (HasListIn limit) moved
lists_in_reach limit moved small h = each_is (MadeBelow limit) (HasListIn limit) (λ m own. list_in_reach limit m.list_accessor small own) moved h

-- ---- all numbers of accessors

made_among : (limit : ℕ) (o : Option ℕ) → IfSome o (λ at. at < limit) → (x : ℕ) → Among x (option_to_list o) → x < limit
made_among limit None h x k = absurd k
made_among limit (Some at) h x (inl e) = omega (arith, h, e)
made_among limit (Some at) h x (inr k) = absurd k

numbers_below : (limit n : ℕ) (moved : List Moved) → n ≤ limit → Each (OwnBelow n) moved → Each (MadeBelow limit) moved → (x : ℕ) → Among x (flat_map numbers_of moved) → x < limit
numbers_below limit n [] few own made x h = absurd h
numbers_below limit n (m ∷ moved) few own made x h = elim (among_join x (numbers_of m) (flat_map numbers_of moved) h) [
  | inl here ↦ elim (among_join x m.columns (m.lists ++ option_to_list m.list_accessor) here) [
    | inl column ↦ (let low = own.0 x (left_in x m.columns m.lists column) in omega (arith, low, few))
    | inr more ↦ elim (among_join x m.lists (option_to_list m.list_accessor) more) [
      | inl one ↦ (let low = own.0 x (right_in x m.columns m.lists one) in omega (arith, low, few))
      | inr last ↦ made_among limit m.list_accessor made.0 x last
    ]
  ]
  | inr there ↦ numbers_below limit n moved few own.1 made.1 x there
]

-- as many views are made as there are numbers
pub count_made : (a : AssetParts) (moved : List Moved) → Each (HasViews a) moved → length (made_views a moved) ≡ length (flat_map numbers_of moved)
count_made a moved h =
    sym (length-map (made_views a moved) (λ (v : Made). v.accessor)) ∙ ap (λ (ns : List ℕ). length ns) (made_in_order a moved (all_of_each (HasViews a) moved h))

stay_step : {A : Type 0} (b : Bool) (test : ℕ → Bool) (n : ℕ) (x : A) (xs : List A) → test n ≡ b → length (passed test (n + 1) xs) ≤ length xs → length (passed test n (x ∷ xs)) ≤ suc (length xs)
stay_step true test n x xs e rest = rw e (omega (arith, rest))
stay_step false test n x xs e rest = rw e (omega (arith, rest))

few_stay : {A : Type 0} (test : ℕ → Bool) (n : ℕ) (xs : List A) → length (passed test n xs) ≤ length xs
few_stay test n [] = omega arith
few_stay test n (x ∷ xs) = stay_step (test n) test n x xs refl (few_stay test (n + 1) xs)

-- ---- views

given_view : (views : List View) (x : Accessor) → IsSound views x → is_given x ≡ true → 0 < length views
given_view views x sound is = by_view x.view refl is
  where
    by_sparse : (o : Option Sparse) → x.sparse ≡ o → is_some o ≡ true → 0 < length views
    by_sparse None e some = absurd (cc)
    by_sparse (Some s) e some = (let low = index_view_there views x s sound e in omega (arith, low))

    by_view : (o : Option ℕ) → x.view ≡ o → (is_some o || is_some x.sparse) ≡ true → 0 < length views
    by_view (Some at) e some = (let low = view_there views x at sound e in omega (arith, low))
    by_view None e some = by_sparse x.sparse refl some

abbrev SomeViews : AssetParts → Moved → Type 0
SomeViews a m = 0 < length a.views

group_views : (a : AssetParts) (contents : List (List ℕ)) → IsRead a contents → Each (SomeViews a) (moved_groups a contents)
group_views a contents known =
    each_group a contents (SomeViews a) (λ g next m.
    let first = first_column a contents known g m in
    let found = one_found a.accessors (is_column contents g.count) first.0 (numbers_pass (holds_at a.accessors (is_column contents g.count)) g.columns first.0 (holds a contents known g m).columns first.1) in
    given_view a.views found.0 (sound_of a first.0 found.0 known.accessors found.1) (column_of contents g.count found.0 found.2).given)

some_if_made : (a : AssetParts) (moved : List Moved) → Each (SomeViews a) moved → 0 < length (made_views a moved) → 0 < length a.views
some_if_made a [] h made = absurd (omega (arith, made))
some_if_made a (m ∷ moved) h made = h.0

-- ---- groups

group_suits : (a : AssetParts) (contents : List (List ℕ)) → IsRead a contents → Each GroupSuits (moved_groups a contents)
group_suits a contents known =
    each_group a contents GroupSuits (λ g next m.
    let few = few_vertices a contents known g m in
    let fewer = few_records a contents known g m in
    record { records = omega (arith, few, fewer); count = omega (arith, few); ordered = each_list a contents known g m next })

pub views_of_groups : (a : AssetParts) (contents : List (List ℕ)) → IsRead a contents → Each (HasViews a) (moved_groups a contents)
views_of_groups a contents known = each_is (GroupIsWhole a) (HasViews a) (λ m is. is.views) (moved_groups a contents) (each_whole a contents known)

made_fits : (v : Made) → IsWithin (2 ^ 31) v → MadeFits v
made_fits v h = omega (arith, h)

-- ---- the first buffer

glb_fits : (tree : PlainTree) (views : List Stored) (rest : List ℕ) → length (glb_of (record { tree = tree; bin = packed_bin views; rest = rest })) < 2 ^ 32 → end (map length (parts views)) < 2 ^ 32
unfolding glb_of laid_buffer
glb_fits tree [] rest h = omega arith
glb_fits tree (s ∷ views) rest h =
    let all = s ∷ views in
    omega (arith, h, has_length (text_of tree) (Some (laid (parts all))) rest, length_laid (parts all))

pub packed_fits : (moved : List Moved) (d : Document) (a : AssetParts) → length (glb_of (packed moved d a)) < 2 ^ 32 → end (map length (parts (output_views moved a))) < 2 ^ 32
unfolding packed
packed_fits moved d a h = glb_fits (packed_tree moved a d.tree) (output_views moved a) d.rest h

-- ---- as many views

pub few_output : (d : Document) (a : AssetParts) (contents : List (List ℕ)) → asset_of Plain d ≡ Ok a → all_contents a ≡ Ok contents → count_views (moved_groups a contents) a < 2 ^ 32
unfolding asset_of
few_output d a contents e read =
    let moved = moved_groups a contents in
    let known = is_read Plain d.tree d.bin a contents e read in
    let has = has_uses Plain d.tree d.bin a e in
    let loaded = is_loaded Plain d.tree d.bin a e in
    let load = loaded.load in
    let views = loaded.views in
    let accessors = loaded.accessors in
    let limit = count_accessors moved a in
    let made = all_made_below a contents in
    let numbers = apart_few limit (flat_map numbers_of moved) (all_apart a contents has) (numbers_below limit (length a.accessors) moved (omega arith) (own_below a contents has) made) in
    omega (
      arith,
      few_stay (survives moved a) 0 a.views,
      count_made a moved (views_of_groups a contents known),
      numbers,
      few_made moved,
      count_groups a contents known has,
      views,
      accessors,
      load,
    )

-- ---- all of it

pub groups_can_move : MovedGroupsCanMove
unfolding asset_of
groups_can_move bytes d a contents small is e read fits =
    let moved = moved_groups a contents in
    let known = is_read Plain d.tree d.bin a contents e read in
    let has = has_uses Plain d.tree d.bin a e in
    let loaded = is_loaded Plain d.tree d.bin a e in
    let load = loaded.load in
    let accessors = loaded.accessors in
    let groups = count_groups a contents known has in
    let limit = count_accessors moved a in
    let made = all_made_below a contents in
    let reach : limit ≤ length a.accessors + length a.accessors = omega (arith, few_made moved, groups) in
    let whole = groups_whole a contents known in
    let sized = groups_sized a contents known in
    let loads = few_loads a contents has in
    let within = all_within a moved (2 ^ 31) whole sized (omega (arith, loads, load)) in
    let there = some_if_made a moved (group_views a contents known) in
    record {
      groups = all_of_each GroupSuits moved (group_suits a contents known);
      lists = all_of_each (HasListIn limit) moved (lists_in_reach limit moved (omega (arith, reach, accessors, load)) made);
      some_accessors = λ some. omega (arith, some, groups);
      some_views = there;
      few = omega (arith, output_counted moved a, few_output d a contents e read);
      stand = record {
        first = packed_fits moved d a fits;
        second =
            fallback_below moved a loaded (views_have_bytes Plain d.tree d.bin a e) (stored_suit moved bytes d a small is e)
            (omega (arith, all_rooms a moved whole sized, loads)) there;
        each = output_fits moved a (stored_fit moved bytes d a small is e) (all_of_each MadeFits (made_views a moved) (each_is (IsWithin (2 ^ 31)) MadeFits made_fits (made_views a moved) within));
      };
    }
