-- The edits of an asset's JSON where groups of primitives move (glTF 2.0, section 5.17).
use Rattle.std.specs.Prelude.{ℕ, Bool, is_some, List, map, Option, codes}
use Rattle.gp_tree.specs.Plain.{PlainTree}
use Rattle.gp_tree.specs.TreeEdits.{at_member, and_items, with_items}
use Rattle.gp_moves.specs.declared.accessors.AccessorMove.{AccessorMove}
use Rattle.gp_moves.specs.declared.made.MadeList.{MadeList}
use Rattle.gp_moves.specs.declared.made.MadeView.{MadeView}
use Rattle.gp_moves.specs.Items.{each_item, where_numbered}
use Rattle.gp_moves.specs.Accessors.{move_at, accessor_moved}
use Rattle.gp_moves.specs.References.{new_number, view_reference, accessor_references}
use Rattle.gp_moves.specs.MadeTrees.{list_tree, view_tree, list_at, with_list}

unfoldable pub accessors_moved : List AccessorMove → PlainTree → PlainTree
accessors_moved moves root = at_member (codes "accessors") (each_item (λ at. accessor_moved (move_at moves at))) root

unfoldable pub lists_appended : List MadeList → PlainTree → PlainTree
lists_appended lists root = at_member (codes "accessors") (and_items (map list_tree lists)) root

abbrev pub mesh_lists : List (List (Option ℕ)) → ℕ → PlainTree → PlainTree
mesh_lists lists mesh t = at_member (codes "primitives") (each_item (λ at. with_list (list_at lists mesh at))) t

unfoldable pub primitives_listed : List (List (Option ℕ)) → PlainTree → PlainTree
primitives_listed lists root = at_member (codes "meshes") (each_item (mesh_lists lists)) root

unfoldable pub references_renumbered : List AccessorMove → List (Option ℕ) → ℕ → PlainTree → PlainTree
references_renumbered moves numbers dropped root =
    at_member (codes "images") (each_item (λ at. view_reference (new_number numbers dropped)))
    (at_member (codes "accessors") (each_item (accessor_references moves (new_number numbers dropped))) root)

-- a view has a new number
abbrev pub stays : List (Option ℕ) → ℕ → ℕ → Bool
stays numbers dropped view = is_some (new_number numbers dropped view)

abbrev pub views_of_output : List (Option ℕ) → ℕ → List MadeView → PlainTree → PlainTree
views_of_output numbers dropped made views = and_items (map view_tree made) (with_items (where_numbered (stays numbers dropped)) views)

unfoldable pub views_made : List (Option ℕ) → ℕ → List MadeView → PlainTree → PlainTree
views_made numbers dropped made root = at_member (codes "bufferViews") (views_of_output numbers dropped made) root

-- all of them
unfoldable pub groups_moved : List AccessorMove → List MadeList → List (List (Option ℕ)) → List (Option ℕ) → ℕ → List MadeView → PlainTree → PlainTree
groups_moved moves lists primitives numbers dropped made root =
    views_made numbers dropped made
    (references_renumbered moves numbers dropped
    (primitives_listed primitives
    (lists_appended lists
    (accessors_moved moves root))))
