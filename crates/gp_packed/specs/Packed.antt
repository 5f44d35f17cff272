-- What packing makes of a document and its asset: groups of triangle primitives moved, views stored as streams where that is shorter, and
-- the tree edited to say so.
use Rattle.std.specs.Prelude.{ℕ, List, map, length, Result, Ok, codes}
use Rattle.gp_tree.specs.Plain.{PlainTree}
use Rattle.gp_tree.specs.TreeEdits.{at_member, and_items, with_items}
use Rattle.gp_rules.specs.declared.storage.View.{View}
use Rattle.gp_asset.specs.declared.purpose.Form.TheVariants.{Plain}
use Rattle.gp_asset.specs.Contents.{plain_bytes}
use Rattle.gp_asset.specs.Asset.{AssetParts}
use Rattle.gp_document.specs.Document.{Document}
use Rattle.gp_document.specs.Operation.{Made, Hindrance, Operation}
use Rattle.gp_sameness.specs.Moved.{Moved}
use Rattle.gp_packed.specs.MovedGroups.{moved_groups}
use Rattle.gp_sameness.specs.Survivors.{survives, where_numbered}
use Rattle.gp_packed.specs.MadeViews.{made_views}
use Rattle.gp_packed.specs.Plan.{output_views, count_streams, packed_bin}
use Rattle.gp_sameness.specs.References.{with_new_references}
use Rattle.gp_packed.specs.GroupEdits.{with_moved_accessors, with_list_accessors, with_all_indices}
use Rattle.gp_packed.specs.ViewEdits.{unplaced, with_stored}

-- ---- the document

-- the views that stay, and those that are made, without places
unfoldable pub with_made_views : List Moved → AssetParts → PlainTree → PlainTree
with_made_views moved a root =
    at_member (codes "bufferViews") (λ views. and_items (map unplaced (made_views a moved)) (with_items (where_numbered (survives moved a)) views)) root

unfoldable pub packed_tree : List Moved → AssetParts → PlainTree → PlainTree
packed_tree moved a root =
    with_stored (output_views moved a)
    (with_made_views moved a
    (with_new_references moved a
    (with_all_indices moved a
    (with_list_accessors moved a
    (with_moved_accessors moved a root)))))

unfoldable pub packed : List Moved → Document → AssetParts → Document
packed moved document a = record { tree = packed_tree moved a document.tree; bin = packed_bin (output_views moved a); rest = document.rest }

-- ---- the operation

-- with the number of its views, and how many of them are streams
abbrev pub made_of : List Moved → Document → AssetParts → Made
made_of moved document a = record {
  document = packed moved document a;
  views = length (output_views moved a);
  streams = count_streams (output_views moved a);
}

-- the contents of all views of an asset none of which is compressed
abbrev pub plain_contents : AssetParts → List (List ℕ)
plain_contents a = map (λ (v : View). plain_bytes a.buffers v) a.views

-- all groups move that may
unfoldable pub packed_whole : Document → AssetParts → Result Made Hindrance
packed_whole document a = Ok (made_of (moved_groups a (plain_contents a)) document a)

-- what is packed already isn't packed again
abbrev pub packing : Operation
packing = record { form = Plain; make = packed_whole }
