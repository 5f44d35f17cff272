-- What packing asks of an asset holds of each that is accepted: its views are held, its groups that may move can be moved, and what they
-- name is there.
use Rattle.std.specs.Prelude.{flat_map, map, option_to_list, IfSome, Option, Some, None, Ok}
use Rattle.std.specs.List.{All, enumerate_from, range_with_len}
use Rattle.std.proofs.Common.{◌≡◌, inl, inr, ℕ, ◌+◌, ◌<◌, ◌≤◌, Bool, true, false, List, [], ◌∷◌, length, filter, refl, sym, ap, ◌∙◌, subst, unwrap_or, arith}
use Rattle.std.proofs.lemmas.List.Elements.{All-nil, All-cons, All-append}
use Rattle.gp_tree.specs.Lexical.{Each}
use Rattle.gp_tree.specs.Plain.{PlainTree}
use Rattle.gp_fields.specs.declared.geometry.PrimitiveFields.{PrimitiveFields}
use Rattle.gp_fields.specs.declared.sparse_fields.SparseFields.{SparseFields}
use Rattle.gp_fields.specs.Fields.{AccessorFields}
use Rattle.gp_fields.specs.Record.{◌>>=◌}
use Rattle.gp_edits.proofs.AssetsBack.{asset_parts}
use Rattle.gp_rules.specs.declared.accessing.Accessor.{Accessor}
use Rattle.gp_rules.specs.declared.accessing.Sparse.{Sparse}
use Rattle.gp_rules.specs.declared.storage.View.{View}
use Rattle.gp_rules.specs.Checks.{each}
use Rattle.gp_rules.specs.Accessors.{sparse_of, accessor_of}
use Rattle.gp_rules.specs.Views.{view_of}
use Rattle.gp_asset.specs.declared.purpose.Form.{Form}
use Rattle.gp_asset.specs.declared.purpose.Form.TheVariants.{Plain}
use Rattle.gp_asset.specs.Asset.{AssetParts, asset}
use Rattle.gp_asset.specs.Contents.{plain_views}
use Rattle.gp_asset.specs.Primitives.{primitives_of}
use Rattle.gp_asset.specs.Uses.{Referrer, of_accessor, of_sparse_indices, of_sparse_values, of_image, sparse_references, accessor_references, image_references, gathered as each_gathered}
use Rattle.gp_elements.specs.Held.{HasEvery, IsSound}
use Rattle.gp_elements.proofs.Sound.{accessors_are_sound}
use Rattle.gp_alias.specs.declared.group.Group.{Group}
use Rattle.gp_alias.specs.Classes.{is_triangles, triangle_places, class_of, is_leading, classes}
use Rattle.gp_alias.specs.Groups.{gathered}
use Rattle.gp_alias.specs.Movable.{group_of, groups}
use Rattle.gp_alias.proofs.ClassLaws.{groups_say_what_moves}
use Rattle.gp_alias.proofs.HeldViews.{plain_held}
use Rattle.gp_alias.proofs.Members.{Among, filter_among, range_among}
use Rattle.gp_alias.proofs.Reach.{members_are_triangles}
use Rattle.gp_mover.specs.Laws.{AttributesAreThere}
use Rattle.gp_mover.proofs.Columns.{groups_have_columns}
use Rattle.gp_mover.proofs.ReadAttributes.{read_attributes_are_there}
use Rattle.gp_document.specs.Document.{Document}
use Rattle.gp_document.specs.Accepted.{asset_of}
use Rattle.gp_document.proofs.Few.{step, same}
use Rattle.gp_unpack.specs.Contents.{all_contents}
use Rattle.gp_unpack.proofs.Drawn.{asset_holds, rules_hold}
use Rattle.gp_unpack.proofs.EachItem.{each_of_all, all_of_each, each_is, each_found}
use Rattle.gp_sameness.specs.Moved.{Moved, movable_groups}
use Rattle.gp_packed.specs.MadeLaws.{HasViews}
use Rattle.gp_packed.specs.MovedGroups.{number_if, next_if, moved_from, moved_groups}
use Rattle.gp_pack.specs.MoveTables.{ReferencesAreThere}
use Rattle.gp_packed.specs.NewNumbers.{SparseRefersBelow, RefersBelow}
use Rattle.gp_packed.specs.RulesMoved.{GroupIsWhole}
use Rattle.gp_kept.specs.TrianglesMoved.{IsRead}
use Rattle.gp_pack.specs.Making.{own_contents, CanMove, CanMoveAll, NamesWhatIs, CanPack}
use Rattle.gp_kept.proofs.AccessorsPass.{sparse_below}
use Rattle.gp_sameness.proofs.AnySize.{each_counted}
use Rattle.gp_kept.proofs.GroupPlaces.{each_in_groups}
use Rattle.gp_kept.proofs.GroupsApart.{HasUses, column_in, list_in}
use Rattle.gp_kept.proofs.GroupsRead.{has_uses, is_read}
use Rattle.gp_kept.proofs.ImagesStay.{images_within}
use Rattle.gp_pack.proofs.Joining.{own_are}
use Rattle.gp_kept.proofs.MovedGroups.{each_group}
use Rattle.gp_kept.proofs.MovedGroupsWhole.{each_whole}
use Rattle.gp_packed.proofs.NewReferences.{is_known, known_parts, part_of, each_by_place, references_below}
use Rattle.gp_packed.proofs.StoredSuits.{plain_contents, whole_views}
use Rattle.gp_packed.proofs.Unpacked.{none_compressed}

abbrev Below : ℕ → List ℕ → Type 0
Below n xs = All (λ at. at < n) xs

-- ---- views

own_read : (d : Document) (a : AssetParts) → asset_of Plain d ≡ Ok a → all_contents a ≡ Ok (own_contents a)
unfolding all_contents
own_read d a e =
    let plain = none_compressed d a e in
    plain_contents a 0 a.views plain ∙ ap Ok (sym (own_are a plain))

views_held : (d : Document) (a : AssetParts) → asset_of Plain d ≡ Ok a → HasEvery a.views (plain_views a)
views_held d a e =
    let plain = none_compressed d a e in
    (plain_held a plain (whole_views d a e plain)).0

-- ---- references to views

abbrev IsThere : ℕ → ℕ × Referrer → Type 0
IsThere n r = r.0 < n

abbrev SparseBelow : ℕ → Sparse → Type 0
SparseBelow n s = (s.index_view < n) × (s.value_view < n)

abbrev AccessorBelow : ℕ → Accessor → Type 0
AccessorBelow n x = IfSome x.view (λ view. view < n) × IfSome x.sparse (SparseBelow n)

abbrev ImageBelow : ℕ → Option ℕ → Type 0
ImageBelow n image = IfSome image (λ view. view < n)

accessors_below : (views : List View) (n k : ℕ) (fs : List AccessorFields) (xs : List Accessor) → each (accessor_of views) k fs ≡ Ok xs → Each (RefersBelow n) fs → Each (AccessorBelow n) xs
accessors_below views n k [] xs e within = subst (Each (AccessorBelow n)) (same [] xs e) tt
accessors_below views n k (f ∷ fs) xs e within =
    step (accessor_of views k f) (λ y. each (accessor_of views) (k + 1) fs >>= λ ys. Ok (y ∷ ys)) xs e (λ y one more.
    step (each (accessor_of views) (k + 1) fs) (λ ys. Ok (y ∷ ys)) xs more (λ ys others whole.
    let own = known_parts f y (is_known views k f y one) in
    subst (Each (AccessorBelow n)) (same (y ∷ ys) xs whole) (
      (subst (λ o. IfSome o (λ view. view < n)) (sym own.0) within.0.0, sparse_below n y f.sparse own.1 within.0.1),
      accessors_below views n (k + 1) fs ys others within.1,
    )))

abbrev AccessorsBelow : AssetParts → Type 0
AccessorsBelow a = Each (AccessorBelow (length a.views)) a.accessors

accessors_within : (form : Form) (t : PlainTree) (bin : Option (List ℕ)) (a : AssetParts) → asset form t bin ≡ Ok a → AccessorsBelow a
accessors_within form t bin a e =
    asset_holds form t bin a e (λ f used r h all.
    let rules = rules_hold f.buffers f.views f.accessors bin r h.by_rule in
    let n = length r.views in
    let many : length f.views ≡ n = each_counted (view_of f.buffers) 0 f.views r.views rules.all_views in
    let below : All (RefersBelow (length f.views)) f.accessors = references_below (length f.views) t f.accessors (asset_parts t f h.has_fields).accessors in
    let within : All (RefersBelow n) f.accessors = subst (λ k. All (RefersBelow k) f.accessors) many below in
    subst AccessorsBelow all (accessors_below r.views n 0 f.accessors r.accessors rules.all_accessors (each_of_all (RefersBelow n) f.accessors within)))

view_there : (n at : ℕ) (o : Option ℕ) → IfSome o (λ view. view < n) → All (IsThere n) (map (λ view. (view, of_accessor at)) (option_to_list o))
view_there n at None within = All-nil (IsThere n)
view_there n at (Some view) within = All-cons (IsThere n) (view, of_accessor at) [] within (All-nil (IsThere n))

sparse_there : (n at : ℕ) (o : Option Sparse) → IfSome o (SparseBelow n) → All (IsThere n) (flat_map (sparse_references at) (option_to_list o))
sparse_there n at None within = All-nil (IsThere n)
sparse_there n at (Some s) within =
    All-cons (IsThere n) (s.index_view, of_sparse_indices at) ((s.value_view, of_sparse_values at) ∷ []) within.0
    (All-cons (IsThere n) (s.value_view, of_sparse_values at) [] within.1 (All-nil (IsThere n)))

accessor_there : (n at : ℕ) (x : Accessor) → AccessorBelow n x → All (IsThere n) (accessor_references at x)
accessor_there n at x within =
    All-append (IsThere n) (map (λ view. (view, of_accessor at)) (option_to_list x.view)) (flat_map (sparse_references at) (option_to_list x.sparse))
    (view_there n at x.view within.0) (sparse_there n at x.sparse within.1)

image_there : (n at : ℕ) (image : Option ℕ) → ImageBelow n image → All (IsThere n) (image_references at image)
image_there n at None within = All-nil (IsThere n)
image_there n at (Some view) within = All-cons (IsThere n) (view, of_image at) [] within (All-nil (IsThere n))

each_there : {A : Type 0} (n : ℕ) (f : ℕ → A → List (ℕ × Referrer)) (P : A → Type 0) → ((at : ℕ) (x : A) → P x → All (IsThere n) (f at x)) → (k : ℕ) (xs : List A) → Each P xs
    → All (IsThere n) (flat_map (λ (p : ℕ × A). f p.0 p.1) (enumerate_from k xs))
each_there n f P one k [] within = All-nil (IsThere n)
each_there {A} n f P one k (x ∷ xs) within =
    All-append (IsThere n) (f k x) (flat_map (λ (p : ℕ × A). f p.0 p.1) (enumerate_from (k + 1) xs)) (one k x within.0) (each_there n f P one (k + 1) xs within.1)

references_there : (form : Form) (t : PlainTree) (bin : Option (List ℕ)) (a : AssetParts) → asset form t bin ≡ Ok a → ReferencesAreThere a
references_there form t bin a e =
    let n = length a.views in
    All-append (IsThere n) (each_gathered accessor_references a.accessors) (each_gathered image_references a.images)
    (each_there n accessor_references (AccessorBelow n) (accessor_there n) 0 a.accessors (accessors_within form t bin a e))
    (each_there n image_references (ImageBelow n) (image_there n) 0 a.images (each_of_all (ImageBelow n) a.images (images_within form t bin a e)))

-- ---- what groups name

all_among : (P : ℕ → Type 0) (xs : List ℕ) → ((x : ℕ) → Among x xs → P x) → All P xs
all_among P [] has = All-nil P
all_among P (x ∷ xs) has = All-cons P x xs (has x (inl refl)) (all_among P xs (λ y h. has y (inr h)))

place_below : (a : AssetParts) (p : ℕ) → Among p (triangle_places a) → p < length a.primitives
place_below a p h =
    let range = range_among 0 (length a.primitives) p (filter_among (is_triangles a) (range_with_len 0 (length a.primitives)) p h).0 in
    omega (arith, range.1)

class_below : (a : AssetParts) (p : ℕ) → Among p (triangle_places a) → Below (length a.primitives) (class_of a p)
class_below a p there =
    all_among (λ at. at < length a.primitives) (class_of a p) (λ q h. place_below a q (members_are_triangles a p there (length (triangle_places a)) q h))

abbrev DrawsBelow : ℕ → Group → Type 0
DrawsBelow n g = Below n g.primitives

classes_below : (a : AssetParts) (contents : List (List ℕ)) (ps : List ℕ) → ((p : ℕ) → Among p ps → Among p (triangle_places a))
    → Each (DrawsBelow (length a.primitives)) (map (group_of a contents) (map (class_of a) ps))
unfolding gathered
classes_below a contents [] there = tt
classes_below a contents (p ∷ ps) there = (class_below a p (there p (inl refl)), classes_below a contents ps (λ q h. there q (inr h)))

groups_below : (a : AssetParts) (contents : List (List ℕ)) → Each (DrawsBelow (length a.primitives)) (groups a contents)
unfolding groups classes
groups_below a contents = classes_below a contents (filter (is_leading a) (triangle_places a)) (λ p h. (filter_among (is_leading a) (triangle_places a) p h).0)

abbrev NumberBelow : ℕ → Moved → Type 0
NumberBelow limit m = IfSome m.list_accessor (λ at. at < limit)

numbered_if : (bare : Bool) (next limit : ℕ) → next < limit → IfSome (number_if bare next) (λ at. at < limit)
numbered_if true next limit within = within
numbered_if false next limit within = tt

next_most : (bare : Bool) (next : ℕ) → next_if bare next ≤ next + 1
next_most true next = omega arith
next_most false next = omega arith

numbers_below : (a : AssetParts) (contents : List (List ℕ)) (next limit : ℕ) (gs : List Group) → next + length gs ≤ limit → Each (NumberBelow limit) (moved_from a contents next gs)
numbers_below a contents next limit [] within = tt
numbers_below a contents next limit (g ∷ gs) within = (
  numbered_if g.bare next limit (omega (arith, within)),
  numbers_below a contents (next_if g.bare next) limit gs (omega (arith, within, next_most g.bare next)),
)

count_moved : (a : AssetParts) (contents : List (List ℕ)) (next : ℕ) (gs : List Group) → length (moved_from a contents next gs) ≡ length gs
count_moved a contents next [] = refl
count_moved a contents next (g ∷ gs) = let others = count_moved a contents (next_if g.bare next) gs in omega (arith, others)

made_below : (a : AssetParts) (contents : List (List ℕ)) → All (NumberBelow (length a.accessors + length (moved_groups a contents))) (moved_groups a contents)
unfolding moved_groups
made_below a contents =
    let n = length a.accessors in
    let gs = movable_groups a contents in
    let moved = moved_from a contents n gs in
    let limit = n + length moved in
    all_of_each (NumberBelow limit) moved (numbers_below a contents n limit gs (omega (arith, count_moved a contents n gs)))

abbrev StandByMesh : AssetParts → Type 0
StandByMesh a = (meshes : List (List PrimitiveFields)) × (a.primitives ≡ primitives_of meshes)

by_mesh : (form : Form) (t : PlainTree) (bin : Option (List ℕ)) (a : AssetParts) → asset form t bin ≡ Ok a → StandByMesh a
by_mesh form t bin a e = asset_holds form t bin a e (λ f used r h all. subst StandByMesh all (f.meshes, refl))

groups_name : (form : Form) (t : PlainTree) (bin : Option (List ℕ)) (a : AssetParts) (contents : List (List ℕ)) → asset form t bin ≡ Ok a → NamesWhatIs a (moved_groups a contents)
groups_name form t bin a contents e =
    let n = length a.accessors in
    let moved = moved_groups a contents in
    let has : HasUses a = has_uses form t bin a e in
    let columns = λ (m : Moved). Below n m.columns in
    let lists = λ (m : Moved). Below n m.lists in
    let primitives = λ (m : Moved). Below (length a.primitives) m.primitives in
    let meshes = by_mesh form t bin a e in
    record {
      columns = all_of_each columns moved (each_group a contents columns (λ g next m. all_among (λ at. at < n) g.columns (λ x h. (column_in a contents has g m x h).0)));
      lists = all_of_each lists moved (each_group a contents lists (λ g next m. all_among (λ at. at < n) g.lists (λ x h. (list_in a contents has g m x h).0)));
      primitives = all_of_each primitives moved
          (each_in_groups a contents primitives (λ k g next here movable. each_found (DrawsBelow (length a.primitives)) (groups a contents) k g (groups_below a contents) here));
      made = made_below a contents;
      meshes = meshes.0;
      by_mesh = meshes.1;
    }

-- ---- groups can be moved

each_can_move : (a : AssetParts) → HasEvery a.views (plain_views a) → All (IsSound a.views) a.accessors → AttributesAreThere a → CanMoveAll a (groups a (own_contents a))
each_can_move a held sound attributes =
    let contents = own_contents a in
    let can = λ (g : Group). g.movable ≡ true → CanMove a g in
    all_of_each can (groups a contents) (each_by_place can (groups a contents) (λ k g here moves.
    let movable = sym (groups_say_what_moves a contents k g here) ∙ moves in
    record { views = held; sound = sound; movable = movable; columns = groups_have_columns a contents k g attributes here movable }))

have_views : (a : AssetParts) (contents : List (List ℕ)) → IsRead a contents → All (HasViews a) (moved_groups a contents)
have_views a contents known =
    let moved = moved_groups a contents in
    all_of_each (HasViews a) moved (each_is (GroupIsWhole a) (HasViews a) (λ m whole. whole.views) moved (each_whole a contents known))

-- ---- all

pub accepted_can_pack : (d : Document) (a : AssetParts) → asset_of Plain d ≡ Ok a → CanPack a
unfolding asset_of
accepted_can_pack d a e =
    let held = views_held d a e in
    let sound = accessors_are_sound Plain d.tree d.bin a e in
    record {
      plain = none_compressed d a e;
      views = held;
      sound = sound;
      groups = each_can_move a held sound (read_attributes_are_there Plain d.tree d.bin a e);
      made = have_views a (own_contents a) (is_read Plain d.tree d.bin a (own_contents a) e (own_read d a e));
      there = references_there Plain d.tree d.bin a e;
      named = groups_name Plain d.tree d.bin a (own_contents a) e;
    }
