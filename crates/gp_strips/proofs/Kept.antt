-- What lists keep of a document, and where they stand in it.
use Rattle.std.specs.Prelude.{option_map, option_and_then}
use Rattle.std.specs.List.{enumerate_from}
use Rattle.std.proofs.Common.{◌≡◌, ℕ, zero, suc, ◌+◌, ◌*◌, Bool, true, false, List, [], ◌∷◌, ◌++◌, length, map, take, drop, slice_get, Option, Some, None, codes, refl, sym, ap, ◌∙◌, append_assoc, append-nil, arith}
use Rattle.std.proofs.lemmas.List.{length-append}
use Rattle.std.proofs.lemmas.Option.{slice_get-map}
use Rattle.std.proofs.Math.Seq.{take-append_seam, drop-append_seam}
use Rattle.gp_tree.specs.Plain.{PlainTree, null, truth, number, text, list, members, members_of, trees_of}
use Rattle.gp_tree.specs.Find.{PlainMember, is_named, item_list, member_list}
use Rattle.gp_tree.specs.TreeEdits.{change_first, at_member, with_items}
use Rattle.gp_tree.proofs.Inner.{members_back, trees_back}
use Rattle.gp_rules.specs.Sizes.{padded}
use Rattle.gp_asset.specs.declared.geometry.Primitive.{Primitive}
use Rattle.gp_asset.specs.Asset.{AssetParts}
use Rattle.gp_layout.specs.Layout.{starts_behind, end, laid_behind, laid}
use Rattle.gp_layout.specs.Row.{laid_buffer, buffer_length}
use Rattle.gp_layout.proofs.Parts.{splits, length_laid, part_laid_before}
use Rattle.gp_edits.specs.Edits.{with_buffers_of}
use Rattle.gp_moves.specs.Items.{each_item}
use Rattle.gp_unpack.specs.Unpacked.{unpacked_views, unpacked_tree, unpacked}
use Rattle.gp_strips.specs.declared.editing.ListView.{ListView}
use Rattle.gp_strips.specs.Listed.{triangles_of, listed_triangles}
use Rattle.gp_strips.specs.ListedTree.{with_accessors, as_triangles, listed_mesh, with_primitives, with_views}
use Rattle.gp_strips.specs.ListedDocument.{all_lists, made_lists, list_bytes, output_contents, list_views, list_accessors, primitive_place, accessor_of, listed_tree, listed}
use Rattle.gp_strips.specs.Laws.{UnlistedStay, NothingListedIsUnpacked, ContentsStay, ListsStand, NumbersNameLists}
use Rattle.gp_strips.proofs.ListRows.{length_bytes, laid_append}

-- ---- a primitive without a list

none_written : (f : Primitive → Option (List ℕ)) (o : Option Primitive) → option_and_then (λ l. l) (option_map f o) ≡ option_and_then f o
none_written f None = refl
none_written f (Some p) = refl

pub unlisted_stay : UnlistedStay
unfolding listed_triangles
unlisted_stay a contents mesh at t none =
    let place = primitive_place a.primitives mesh at in
    let lists = all_lists a contents in
    let here : option_and_then (λ l. l) (slice_get lists place) ≡ None =
    ap (option_and_then (λ l. l)) (slice_get-map (triangles_of a contents) a.primitives place) ∙ none_written (triangles_of a contents) (slice_get a.primitives place) ∙ none in
    ap (λ o. as_triangles (option_map (λ corners. length a.accessors + length (made_lists (take place lists))) o) t) here

-- ---- changes that change nothing

first_step : (b : Bool) (key : List ℕ) (f : PlainTree → PlainTree) (m : PlainMember) (ms : List PlainMember) → is_named key m.0 ≡ b → ((v : PlainTree) → f v ≡ v)
    → change_first key f ms ≡ ms → change_first key f (m ∷ ms) ≡ m ∷ ms
first_step true key f m ms named same more = rw named (ap (λ v. (m.0, v) ∷ ms) (same m.1))
first_step false key f m ms named same more = rw named (ap (λ l. m ∷ l) more)

first_same : (key : List ℕ) (f : PlainTree → PlainTree) (ms : List PlainMember) → ((v : PlainTree) → f v ≡ v) → change_first key f ms ≡ ms
first_same key f [] same = refl
first_same key f (m ∷ ms) same = first_step (is_named key m.0) key f m ms refl same (first_same key f ms same)

member_same : (key : List ℕ) (f : PlainTree → PlainTree) (t : PlainTree) → ((v : PlainTree) → f v ≡ v) → at_member key f t ≡ t
member_same key f null same = refl
member_same key f (truth b) same = refl
member_same key f (number s) same = refl
member_same key f (text s) same = refl
member_same key f (list ts) same = refl
member_same key f (members ms) same = ap (λ l. members (members_of l)) (first_same key f (member_list ms) same) ∙ ap members (members_back ms)

items_same : (f : List PlainTree → List PlainTree) (t : PlainTree) → ((ts : List PlainTree) → f ts ≡ ts) → with_items f t ≡ t
items_same f null same = refl
items_same f (truth b) same = refl
items_same f (number s) same = refl
items_same f (text s) same = refl
items_same f (members ms) same = refl
items_same f (list ts) same = ap (λ l. list (trees_of l)) (same (item_list ts)) ∙ ap list (trees_back ts)

each_same_from : (change : ℕ → PlainTree → PlainTree) (n : ℕ) (ts : List PlainTree) → ((at : ℕ) (v : PlainTree) → change at v ≡ v) → map (λ (p : ℕ × PlainTree). change p.0 p.1) (enumerate_from n ts) ≡ ts
each_same_from change n [] same = refl
each_same_from change n (t ∷ ts) same = ap (λ u. u ∷ map (λ (p : ℕ × PlainTree). change p.0 p.1) (enumerate_from (n + 1) ts)) (same n t) ∙ ap (λ l. t ∷ l) (each_same_from change (n + 1) ts same)

each_same : (change : ℕ → PlainTree → PlainTree) (t : PlainTree) → ((at : ℕ) (v : PlainTree) → change at v ≡ v) → each_item change t ≡ t
each_same change t same = items_same (λ ts. map (λ (p : ℕ × PlainTree). change p.0 p.1) (enumerate_from 0 ts)) t (λ ts. each_same_from change 0 ts same)

-- ---- a document without lists

none_there : (lists : List (Option (List ℕ))) (k : ℕ) → made_lists lists ≡ [] → option_and_then (λ l. l) (slice_get lists k) ≡ None
none_there [] k none = refl
none_there (None ∷ lists) zero none = refl
none_there (None ∷ lists) (suc k) none = none_there lists k none
none_there (Some corners ∷ lists) k none = absurd (cc)

no_primitives : (given : ℕ → ℕ → Option ℕ) (root : PlainTree) → ((mesh at : ℕ) → given mesh at ≡ None) → with_primitives given root ≡ root
unfolding with_primitives
no_primitives given root none =
    member_same (codes "meshes") (each_item (listed_mesh given)) root (λ meshes. each_same (listed_mesh given) meshes (λ mesh t.
    member_same (codes "primitives") (each_item (λ at. as_triangles (given mesh at))) t (λ primitives. each_same (λ at. as_triangles (given mesh at)) primitives (λ at v.
    ap (λ o. as_triangles o v) (none mesh at)))))

no_accessors : (root : PlainTree) → with_accessors [] root ≡ root
unfolding with_accessors
no_accessors root = member_same (codes "accessors") (with_items (λ ts. ts ++ [])) root (λ v. items_same (λ ts. ts ++ []) v (λ ts. append-nil ts))

no_views : (root : PlainTree) → with_views [] root ≡ root
unfolding with_views
no_views root = refl

nothing_in_tree : (a : AssetParts) (contents : List (List ℕ)) (root : PlainTree) → made_lists (all_lists a contents) ≡ [] → listed_tree a contents root ≡ unpacked_tree contents root
unfolding listed_tree unpacked_tree with_views
nothing_in_tree a contents root none =
    let lists = all_lists a contents in
    let places : (mesh at : ℕ) → accessor_of a lists mesh at ≡ None =
    λ mesh at. let place = primitive_place a.primitives mesh at in ap (option_map (λ corners. length a.accessors + length (made_lists (take place lists)))) (none_there lists place none) in
    rw none (
    ap (λ cs. with_buffers_of (buffer_length cs) None (with_primitives (accessor_of a lists) (with_accessors [] (unpacked_views contents root)))) (append-nil contents)
    ∙ ap (with_buffers_of (buffer_length contents) None) (no_primitives (accessor_of a lists) (with_accessors [] (unpacked_views contents root)) places ∙ no_accessors (unpacked_views contents root)))

pub nothing_listed_is_unpacked : NothingListedIsUnpacked
unfolding listed unpacked
nothing_listed_is_unpacked a contents document none =
    ap (λ t. record { tree = t; bin = laid_buffer (output_contents contents (made_lists (all_lists a contents))); rest = document.rest }) (nothing_in_tree a contents document.tree none)
    ∙ ap (λ cs. record { tree = unpacked_tree contents document.tree; bin = laid_buffer cs; rest = document.rest }) (ap (output_contents contents) none ∙ append-nil contents)

-- ---- in the one buffer

pub contents_stay : ContentsStay
contents_stay contents made i part start here begins =
    ap (λ bs. take (length part) (drop start bs)) (laid_append 0 contents (map list_bytes made))
    ∙ part_laid_before contents (laid_behind (end (map length contents)) (map list_bytes made)) i part start here begins

-- where a list's view says is where the list is laid
record IsViewOf (at : ℕ) (made : List (List ℕ)) (i : ℕ) (corners : List ℕ) (view : ListView) : Type 0 where
  part : slice_get (map list_bytes made) i ≡ Some (list_bytes corners)
  start : slice_get (starts_behind at (map length (map list_bytes made))) i ≡ Some view.offset
  size : view.length ≡ length (list_bytes corners)

first_view : (at : ℕ) (first : List ℕ) (made : List (List ℕ)) (corners : List ℕ) (view : ListView) → first ≡ corners
    → record { offset = padded at; length = 4 * length first } ≡ view → IsViewOf at (first ∷ made) zero corners view
first_view at first made corners view same is = record {
  part = ap (λ c. Some (list_bytes c)) same;
  start = ap (λ (v : ListView). Some v.offset) is;
  size = sym (ap (λ (v : ListView). v.length) is) ∙ sym (length_bytes first) ∙ ap (λ c. length (list_bytes c)) same;
}

later_view : (at : ℕ) (first : List ℕ) (made : List (List ℕ)) (i : ℕ) (corners : List ℕ) (view : ListView) → IsViewOf (padded at + 4 * length first) made i corners view
    → IsViewOf at (first ∷ made) (suc i) corners view
later_view at first made i corners view h = record {
  part = h.part;
  start = ap (λ n. slice_get (starts_behind (padded at + n) (map length (map list_bytes made))) i) (length_bytes first) ∙ h.start;
  size = h.size;
}

view_of : (at : ℕ) (made : List (List ℕ)) (i : ℕ) (corners : List ℕ) (view : ListView) → slice_get made i ≡ Some corners → slice_get (list_views at made) i ≡ Some view → IsViewOf at made i corners view
view_of at [] i corners view here viewed = absurd (cc)
view_of at (first ∷ made) zero corners view here viewed =
    let same : first ≡ corners = cc in
    let is : record { offset = padded at; length = 4 * length first } ≡ view = cc in
    first_view at first made corners view same is
view_of at (first ∷ made) (suc i) corners view here viewed = later_view at first made i corners view (view_of (padded at + 4 * length first) made i corners view here viewed)

stands : (front row part : List ℕ) (at start size : ℕ) (whole : List ℕ) → whole ≡ front ++ row → length front ≡ at → (before : List ℕ) × (after : List ℕ) × (row ≡ before ++ (part ++ after)) × (at + length before ≡ start)
    → size ≡ length part → take size (drop start whole) ≡ part
stands front row part at start size whole is long s sized =
    let before = s.0 in
    let after = s.1 in
    let split : whole ≡ (front ++ before) ++ (part ++ after) = is ∙ ap (λ l. front ++ l) s.2 ∙ sym (append_assoc front before (part ++ after)) in
    let place : start ≡ length (front ++ before) = omega (arith, length-append front before, long, s.3) in
    ap (λ n. take n (drop start whole)) sized
    ∙ ap (λ n. take (length part) (drop n whole)) place
    ∙ ap (λ l. take (length part) (drop (length (front ++ before)) l)) split
    ∙ ap (take (length part)) (drop-append_seam (front ++ before) (part ++ after))
    ∙ take-append_seam part after

pub lists_stand : ListsStand
lists_stand contents made i corners view here viewed =
    let e = end (map length contents) in
    let parts = map list_bytes made in
    let v = view_of e made i corners view here viewed in
    stands (laid contents) (laid_behind e parts) (list_bytes corners) e view.offset view.length (laid (output_contents contents made)) (laid_append 0 contents parts) (length_laid contents)
    (splits e parts i (list_bytes corners) view.offset v.part v.start) v.size

-- ---- numbers of accessors

list_made : (lists : List (Option (List ℕ))) (k : ℕ) (corners : List ℕ) → slice_get lists k ≡ Some (Some corners) → slice_get (made_lists lists) (length (made_lists (take k lists))) ≡ Some corners
list_made [] k corners here = absurd (cc)
list_made (None ∷ lists) zero corners here = absurd (cc)
list_made (None ∷ lists) (suc k) corners here = list_made lists k corners here
list_made (Some first ∷ lists) zero corners here = let same : first ≡ corners = cc in ap Some same
list_made (Some first ∷ lists) (suc k) corners here = list_made lists k corners here

accessor_made : (view : ℕ) (made : List (List ℕ)) (j : ℕ) (corners : List ℕ) → slice_get made j ≡ Some corners
    → slice_get (list_accessors view made) j ≡ Some (record { view = view + j; component = 5125; count = length corners })
accessor_made view [] j corners here = absurd (cc)
accessor_made view (first ∷ made) zero corners here =
    let same : first ≡ corners = cc in
    let at : view ≡ view + 0 = omega arith in
    ap (λ n. Some (record { view = n; component = 5125; count = length first })) at ∙ ap (λ c. Some (record { view = view + 0; component = 5125; count = length c })) same
accessor_made view (first ∷ made) (suc j) corners here =
    let at : view + 1 + j ≡ view + suc j = omega arith in
    accessor_made (view + 1) made j corners here ∙ ap (λ n. Some (record { view = n; component = 5125; count = length corners })) at

pub numbers_name_lists : NumbersNameLists
numbers_name_lists accessors views lists at corners here =
    let j = length (made_lists (take at lists)) in
    let made = list_made lists at corners here in
    (j, ap (λ o. option_map (λ corners. accessors + j) (option_and_then (λ l. l) o)) here, made, accessor_made views (made_lists lists) j corners made)
