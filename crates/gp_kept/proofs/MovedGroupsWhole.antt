-- The groups of an asset that move are whole, and have no accessor in common.
use Rattle.std.proofs.Common.{ℕ, List, sym, ◌∙◌}
use Rattle.gp_tree.specs.Lexical.{Each}
use Rattle.gp_asset.specs.Asset.{AssetParts}
use Rattle.gp_unpack.proofs.EachItem.{all_of_each}
use Rattle.gp_unpack.proofs.Whole.{contents_are_whole}
use Rattle.gp_alias.proofs.ClassLaws.{groups_say_what_moves}
use Rattle.gp_packed.specs.RulesMoved.{GroupIsWhole}
use Rattle.gp_kept.specs.TrianglesMoved.{IsRead}
use Rattle.gp_packed.specs.MovedGroups.{number_if, moved_groups}
use Rattle.gp_kept.specs.MovedGroupsLaws.{MovedGroupsAreWhole}
use Rattle.gp_kept.proofs.AssetsRead.{assets_are_read}
use Rattle.gp_kept.proofs.MovedWhole.{moved_group_is_whole}
use Rattle.gp_kept.proofs.MovedGroups.{groups_are_apart}
use Rattle.gp_kept.proofs.GroupPlaces.{each_in_groups, number_given}

pub each_whole : (a : AssetParts) (contents : List (List ℕ)) → IsRead a contents → Each (GroupIsWhole a) (moved_groups a contents)
each_whole a contents known =
    each_in_groups a contents (GroupIsWhole a) (λ k g next here movable.
    moved_group_is_whole a contents k g (number_if g.bare next) known here (sym (groups_say_what_moves a contents k g here) ∙ movable) (number_given g.bare next))

pub groups_are_whole : MovedGroupsAreWhole
groups_are_whole form t bin a contents e read = record {
  each = all_of_each (GroupIsWhole a) (moved_groups a contents) (each_whole a contents (assets_are_read form t bin a contents e (contents_are_whole form t bin a contents e read)));
  apart = groups_are_apart form t bin a contents e;
}
