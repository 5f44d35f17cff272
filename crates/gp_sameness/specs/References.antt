-- References to buffer views, which get their new numbers (glTF 2.0, sections 5.1 to 5.3 and 5.18).
use Rattle.std.specs.Prelude.{ℕ, Bool, not, ◌&&◌, nat_lt, if◌then◌else◌, List, map, length, Option, Some, None, option_and_then, codes}
use Rattle.std.specs.List.{enumerate_from}
use Rattle.gp_tree.specs.Plain.{PlainTree}
use Rattle.gp_tree.specs.Values.{whole}
use Rattle.gp_tree.specs.TreeEdits.{at_member, with_items}
use Rattle.gp_asset.specs.Asset.{AssetParts}
use Rattle.gp_edits.specs.Changes.{whole_number}
use Rattle.gp_sameness.specs.Moved.{Moved, is_moved}
use Rattle.gp_sameness.specs.Survivors.{renumbered}

-- each item of a list changed by its number
abbrev pub each_item : (ℕ → PlainTree → PlainTree) → PlainTree → PlainTree
each_item change t = with_items (λ ts. map (λ (p : ℕ × PlainTree). change p.0 p.1) (enumerate_from 0 ts)) t

-- the number of a view that stays becomes its new one
abbrev pub numbered_by : PlainTree → Option ℕ → PlainTree
numbered_by t None = t
numbered_by t (Some number) = whole_number number

abbrev pub new_reference : List Moved → AssetParts → PlainTree → PlainTree
new_reference moved a t = numbered_by t (option_and_then (renumbered moved a) (whole t))

abbrev pub new_view_reference : List Moved → AssetParts → PlainTree → PlainTree
new_view_reference moved a t = at_member (codes "bufferView") (new_reference moved a) t

abbrev pub new_sparse_references : List Moved → AssetParts → PlainTree → PlainTree
new_sparse_references moved a t =
    at_member (codes "values") (new_view_reference moved a) (at_member (codes "indices") (new_view_reference moved a) t)

-- of the accessors of the input that don't move
abbrev pub is_kept : List Moved → AssetParts → ℕ → Bool
is_kept moved a at = nat_lt at (length a.accessors) && not (is_moved moved at)

abbrev pub new_accessor_references : List Moved → AssetParts → ℕ → PlainTree → PlainTree
new_accessor_references moved a at t =
    if is_kept moved a at then at_member (codes "sparse") (new_sparse_references moved a) (new_view_reference moved a t) else t

unfoldable pub with_new_references : List Moved → AssetParts → PlainTree → PlainTree
with_new_references moved a root =
    at_member (codes "images") (each_item (λ at. new_view_reference moved a)) (at_member (codes "accessors") (each_item (new_accessor_references moved a)) root)
