-- Edits of the JSON that make lists of triangles of strips and fans.
use Rattle.std.specs.Prelude.{ℕ, List, [], ◌∷◌, Option, Some, None, unwrap_or, codes}
use Rattle.gp_tree.specs.Plain.{PlainTree, list, no_items, members, members_of}
use Rattle.gp_tree.specs.Find.{find_member}
use Rattle.gp_tree.specs.TreeEdits.{with_member, at_member, and_items}
use Rattle.gp_edits.specs.Changes.{whole_number}
use Rattle.gp_moves.specs.Items.{each_item}
use Rattle.gp_strips.specs.declared.editing.ListView.{ListView}

-- ---- accessors (section 5.1)

-- behind the other accessors
unfoldable pub with_accessors : List PlainTree → PlainTree → PlainTree
with_accessors accessors root = at_member (codes "accessors") (and_items accessors) root

-- ---- primitives (section 5.24)

-- a list of triangles, by the numbers in this accessor
abbrev pub as_triangles : Option ℕ → PlainTree → PlainTree
as_triangles None t = t
as_triangles (Some number) t = with_member (codes "indices") (whole_number number) (with_member (codes "mode") (whole_number 4) t)

-- of each primitive of each mesh the accessor that it gets, if one
abbrev pub listed_mesh : (ℕ → ℕ → Option ℕ) → ℕ → PlainTree → PlainTree
listed_mesh number mesh t = at_member (codes "primitives") (each_item (λ at. as_triangles (number mesh at))) t

unfoldable pub with_primitives : (ℕ → ℕ → Option ℕ) → PlainTree → PlainTree
with_primitives number root = at_member (codes "meshes") (each_item (listed_mesh number)) root

-- ---- buffer views (section 5.11)

-- of the corners of a list
unfoldable pub view_tree : ListView → PlainTree
view_tree v = members (members_of (
    (codes "buffer", whole_number 0)
    ∷ (codes "byteOffset", whole_number v.offset)
    ∷ (codes "byteLength", whole_number v.length)
    ∷ (codes "target", whole_number 34963)
    ∷ []))

-- behind the other views; the list of views is made where it isn't there and some view is to be in it
unfoldable pub with_views : List PlainTree → PlainTree → PlainTree
with_views [] root = root
with_views (view ∷ views) root = with_member (codes "bufferViews") (and_items (view ∷ views) (unwrap_or (find_member (codes "bufferViews") root) (list no_items))) root
