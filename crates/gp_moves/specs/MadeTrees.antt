-- Accessors and buffer views that are made, and the indices of primitives (glTF 2.0, sections 5.1, 5.11 and 5.24).
use Rattle.std.specs.Prelude.{ℕ, is_none, if◌then◌else◌, List, [], ◌∷◌, slice_get, unwrap_or, Option, Some, None, option_and_then, codes}
use Rattle.gp_tree.specs.Plain.{PlainTree, text, members, members_of}
use Rattle.gp_tree.specs.Find.{PlainMember, find_member}
use Rattle.gp_tree.specs.TreeEdits.{with_member}
use Rattle.gp_edits.specs.Changes.{whole_number}
use Rattle.gp_moves.specs.declared.made.MadeList.{MadeList}
use Rattle.gp_moves.specs.declared.made.MadeView.{MadeView}

-- the accessor of vertex numbers in a view
unfoldable pub list_tree : MadeList → PlainTree
list_tree made = members (members_of (
    (codes "bufferView", whole_number made.view)
    ∷ (codes "componentType", whole_number made.component)
    ∷ (codes "count", whole_number made.count)
    ∷ (codes "type", text (codes "SCALAR"))
    ∷ []))

-- of vertices with a stride, of vertex numbers without
abbrev pub purpose : Option ℕ → List PlainMember
purpose (Some stride) = (codes "byteStride", whole_number stride) ∷ (codes "target", whole_number 34962) ∷ []
purpose None = (codes "target", whole_number 34963) ∷ []

-- a view that has no place yet
unfoldable pub view_tree : MadeView → PlainTree
view_tree made = members (members_of (
    (codes "buffer", whole_number 0)
    ∷ (codes "byteOffset", whole_number 0)
    ∷ (codes "byteLength", whole_number made.length)
    ∷ purpose made.stride))

-- a view after its purpose was set
unfoldable pub purpose_set : Option ℕ → PlainTree → PlainTree
purpose_set (Some stride) t = with_member (codes "target") (whole_number 34962) (with_member (codes "byteStride") (whole_number stride) t)
purpose_set None t = with_member (codes "target") (whole_number 34963) t

-- ---- primitives

-- of the primitives of a mesh
abbrev pub list_in : List (Option ℕ) → ℕ → Option ℕ
list_in lists at = unwrap_or (slice_get lists at) None

-- the accessor for a primitive of a mesh without indices, where it gets one
abbrev pub list_at : List (List (Option ℕ)) → ℕ → ℕ → Option ℕ
list_at lists mesh at = option_and_then (λ (ls : List (Option ℕ)). list_in ls at) (slice_get lists mesh)

abbrev pub given_list : ℕ → PlainTree → PlainTree
given_list number t = if is_none (find_member (codes "indices") t) then with_member (codes "indices") (whole_number number) t else t

abbrev pub with_list : Option ℕ → PlainTree → PlainTree
with_list None t = t
with_list (Some number) t = given_list number t
