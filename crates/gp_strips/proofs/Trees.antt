-- Trees that are made or changed member by member.
use Rattle.std.specs.Prelude.{codes}
use Rattle.std.specs.Str.{chars}
use Rattle.std.proofs.Common.{◌≡◌, ◌≢◌, Bool, true, false, ◌==◌, List, [], ◌∷◌, length, map, None, is_some, refl, sym, ap, ◌∙◌, arith}
use Rattle.gp_tree.specs.Plain.{PlainTree, list, no_items, members, no_members}
use Rattle.gp_tree.specs.Find.{find_member}
use Rattle.gp_tree.specs.TreeEdits.{with_member, at_member, and_items}
use Rattle.std.proofs.lemmas.List.{length-map}
use Rattle.gp_edits.specs.Changes.{whole_number}
use Rattle.gp_edits.proofs.Defaults.{default_none, default_is_some}
use Rattle.gp_strips.specs.declared.editing.ListView.{ListView}
use Rattle.gp_strips.specs.ListedTree.{view_tree, with_views}

pub view_made : (view : ListView) → with_member (codes "target") (whole_number 34963) (
    with_member (codes "byteLength") (whole_number view.length) (
    with_member (codes "byteOffset") (whole_number view.offset) (
    with_member (codes "buffer") (whole_number 0) (members no_members)))) ≡ view_tree view
unfolding chars view_tree
view_made view = refl

-- ---- views at the end

pub no_views : (trees : List PlainTree) (root : PlainTree) → length trees ≡ 0 → root ≡ with_views trees root
unfolding with_views
no_views [] root none = refl
no_views (t ∷ ts) root none = absurd (omega (arith, none))

pub first_views : (trees : List PlainTree) (root after made : PlainTree) → length trees ≢ 0 → find_member (codes "bufferViews") root ≡ None
    → made ≡ and_items trees (list no_items) → after ≡ with_member (codes "bufferViews") made root → after ≡ with_views trees root
unfolding with_views
first_views [] root after made some none is set = absurd (some refl)
first_views (t ∷ ts) root after made some none is set =
    set ∙ ap (λ m. with_member (codes "bufferViews") m root) is ∙ sym (default_none (codes "bufferViews") (and_items (t ∷ ts)) (list no_items) root none)

pub more_views : (trees : List PlainTree) (root after : PlainTree) → length trees ≢ 0 → is_some (find_member (codes "bufferViews") root) ≡ true
    → after ≡ at_member (codes "bufferViews") (and_items trees) root → after ≡ with_views trees root
unfolding with_views
more_views [] root after some there is = absurd (some refl)
more_views (t ∷ ts) root after some there is = is ∙ sym (default_is_some (codes "bufferViews") (and_items (t ∷ ts)) (list no_items) root there)

pub mapped_none : (views : List ListView) (b : Bool) → b ≡ (length views == 0) → b ≡ true → length (map view_tree views) ≡ 0
mapped_none views b is empty =
    let long = length-map views view_tree in
    let e : (length views == 0) ≡ true = sym is ∙ empty in
    grind (arith, long, e)

pub mapped_some : (views : List ListView) (b : Bool) → b ≡ (length views == 0) → b ≡ false → length (map view_tree views) ≢ 0
mapped_some views b is some =
    let long = length-map views view_tree in
    let e : (length views == 0) ≡ false = sym is ∙ some in
    λ none. grind (arith, long, e, none)
