-- What packing writes where groups move is the same asset, from what is known of the asset that is read of it.
use Rattle.std.specs.Prelude.{◌^◌, IfSome, option_map}
use Rattle.std.specs.List.{All}
use Rattle.std.proofs.Common.{ℕ, ◌<◌, ◌≤◌, List, Option, Some, None, refl, sym, ◌∙◌, arith}
use Rattle.gp_tree.specs.Sound.{IsSound}
use Rattle.gp_glb.specs.Bytes.{padded}
use Rattle.gp_asset.specs.declared.purpose.Form.TheVariants.{Plain}
use Rattle.gp_asset.specs.Asset.{AssetParts}
use Rattle.gp_document.specs.Document.{Document}
use Rattle.gp_document.specs.Accepted.{asset_of}
use Rattle.gp_document.proofs.Written.{holds_written}
use Rattle.gp_unpack.proofs.EachItem.{each_of_all, each_both, each_is, all_of_each}
use Rattle.gp_sameness.specs.Moved.{Moved}
use Rattle.gp_packed.specs.Plan.{output_views, packed_bin}
use Rattle.gp_packed.specs.Packed.{packed_tree, packed}
use Rattle.gp_packed.specs.NewNumbers.{GroupSuits, count_views}
use Rattle.gp_packed.specs.MeshesBack.{IsAccessorOf, HasListIn}
use Rattle.gp_packed.specs.PackedFields.{count_accessors, CanBeMoved}
use Rattle.gp_packed.specs.SoundMoved.{GroupFits}
use Rattle.gp_packed.specs.MovedGroups.{moved_groups}
use Rattle.gp_sameness.specs.Same.{standing_groups}
use Rattle.gp_kept.specs.PackedTogether.{SeesNoOrder, CanBePacked, OutputHolds, KeepingIsSame}
use Rattle.gp_packed.proofs.OutputViews.{output_counted}
use Rattle.gp_packed.proofs.SoundPacked.{packed_sound}
use Rattle.gp_packed.proofs.CommonTrees.{moved_common}
use Rattle.gp_packed.proofs.CommonRead.{is_asset_of}
use Rattle.gp_kept.proofs.GroupsRead.{is_read}
use Rattle.gp_kept.proofs.GroupsCanMove.{groups_can_move}
use Rattle.gp_kept.proofs.PackedCounts.{no_more}
use Rattle.gp_kept.proofs.OrderUnseen.{order_is_unseen}

-- ---- the tree

number_fits : (limit : ℕ) (o : Option ℕ) → IfSome o (IsAccessorOf limit) → IfSome o (λ at. at < 2 ^ 32)
number_fits limit None h = tt
number_fits limit (Some at) h = h.1

group_fits : (limit : ℕ) (m : Moved) → GroupSuits m × HasListIn limit m → GroupFits m
group_fits limit m h = record { records = h.0.records; count = h.0.count; number = number_fits limit m.list_accessor h.1 }

pub groups_fit : (moved : List Moved) (a : AssetParts) → CanBeMoved moved a → All GroupFits moved
groups_fit moved a can =
    let limit = count_accessors moved a in
    all_of_each GroupFits moved
    (each_is (λ m. GroupSuits m × HasListIn limit m) GroupFits (group_fits limit) moved
    (each_both GroupSuits (HasListIn limit) moved (each_of_all GroupSuits moved can.groups) (each_of_all (HasListIn limit) moved can.lists)))

tree_is_sound : (moved : List Moved) (d : Document) (a : AssetParts) → CanBeMoved moved a → IsSound d.tree → IsSound (packed_tree moved a d.tree)
tree_is_sound moved d a can sound =
    let few = can.few in
    let counted : count_views moved a ≤ 2 ^ 32 = omega (arith, output_counted moved a, few) in
    packed_sound moved a d.tree (groups_fit moved a can) counted can.stand.first can.stand.second can.stand.each sound

pub can_move : (bytes : List ℕ) (d : Document) (a : AssetParts) (contents : List (List ℕ)) → CanBePacked bytes d a contents → CanBeMoved (moved_groups a contents) a
can_move bytes d a contents h = groups_can_move bytes d a contents h.small h.is_document h.is_asset h.read h.fits

-- ---- the container

pub output_holds : OutputHolds
unfolding packed
output_holds bytes d a contents h =
    let moved = moved_groups a contents in
    let holds = h.is_document.holds in
    holds_written bytes d (packed_tree moved a d.tree) (packed_bin (output_views moved a)) holds (tree_is_sound moved d a (can_move bytes d a contents h) holds.sound) h.fits

-- ---- all

pub keeping_is_same : KeepingIsSame
unfolding asset_of
keeping_is_same bytes d a contents h keeps =
    let moved = moved_groups a contents in
    let standing = standing_groups a contents in
    let unseen : SeesNoOrder standing moved a = order_is_unseen a contents in
    let tree = packed_tree moved a d.tree in
    record {
      input = record { document = d; asset = a; is_document = h.is_document; is_asset = h.is_asset };
      output = record {
        document = record { tree = tree; bin = option_map (padded 0) (packed_bin (output_views moved a)); rest = d.rest };
        asset = keeps.asset;
        holds = output_holds bytes d a contents h;
        is_asset = keeps.is_asset;
      };
      contents = contents;
      read = h.read;
      written = keeps.written;
      decoded = keeps.decoded;
      rest = refl;
      trees =
          unseen.after tree
          ∙ moved_common moved a d.tree h.is_document.holds.sound.distinct (is_asset_of Plain d.tree d.bin a h.is_asset)
          ∙ sym (unseen.before d.tree);
      counts =
          no_more d.tree d.bin (option_map (padded 0) (packed_bin (output_views moved a))) a keeps.asset contents h.is_document.holds.sound.distinct h.is_asset (can_move bytes d a contents h)
          (is_read Plain d.tree d.bin a contents h.is_asset h.read) keeps.is_asset;
      views = λ view number bytes found new. keeps.views view number bytes found (sym (unseen.numbers view) ∙ new);
      elements = λ at within stays. keeps.elements at within (sym (unseen.moves at) ∙ stays);
      images = keeps.images;
      triangles = keeps.triangles;
      vertices = keeps.vertices;
    }
