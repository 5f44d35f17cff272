-- Accessors of groups that move (glTF 2.0, section 5.1).
use Rattle.std.specs.Prelude.{ℕ, List, codes, get_or}
use Rattle.gp_tree.specs.Plain.{PlainTree}
use Rattle.gp_tree.specs.TreeEdits.{with_member, without}
use Rattle.gp_edits.specs.Changes.{whole_number}
use Rattle.gp_moves.specs.declared.accessors.AccessorMove.{AccessorMove}
use Rattle.gp_moves.specs.declared.accessors.AccessorMove.TheVariants.{Column, Corners, Stays}

-- all of so many vertices, in this view
unfoldable pub column_moved : ℕ → ℕ → PlainTree → PlainTree
column_moved view count t =
    without (codes "sparse") (without (codes "byteOffset")
    (with_member (codes "count") (whole_number count) (with_member (codes "bufferView") (whole_number view) t)))

-- vertex numbers of this component type, in this view
unfoldable pub corners_moved : ℕ → ℕ → PlainTree → PlainTree
corners_moved view component t =
    without (codes "sparse") (without (codes "max") (without (codes "min") (without (codes "byteOffset")
    (with_member (codes "componentType") (whole_number component) (with_member (codes "bufferView") (whole_number view) t)))))

abbrev pub accessor_moved : AccessorMove → PlainTree → PlainTree
accessor_moved (Column view count) t = column_moved view count t
accessor_moved (Corners view component) t = corners_moved view component t
accessor_moved Stays t = t

-- what becomes of the accessor with a number
abbrev pub move_at : List AccessorMove → ℕ → AccessorMove
move_at moves at = get_or moves at Stays
