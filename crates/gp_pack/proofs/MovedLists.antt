-- The lists of a group that moves may be streams of triangles: whole triangles of numbers below 2^24.
use Rattle.std.specs.Prelude.{◌%◌, ◌^◌, None}
use Rattle.std.specs.List.{All}
use Rattle.std.proofs.Common.{◌≡◌, ℕ, ◌<◌, ◌≤◌, true, List, length, sym, subst, arith}
use Rattle.gp_asset.specs.Asset.{AssetParts}
use Rattle.gp_alias.specs.declared.group.Group.{Group}
use Rattle.gp_alias.specs.Movable.{is_movable}
use Rattle.gp_alias.specs.Records.{records}
use Rattle.gp_moving.specs.Triangles.{IsTriangleList}
use Rattle.gp_mover.specs.MovedParts.{MovedParts, moved_group}
use Rattle.gp_mover.specs.MadeBytes.{list_width, list_contents}
use Rattle.gp_mover.proofs.Kept.{records_are_kept}
use Rattle.gp_storage.specs.Coding.{numbers_in}
use Rattle.gp_storage.specs.Streams.{MayBeCoded}
use Rattle.gp_sameness.specs.Moved.{Moved}
use Rattle.gp_pack.specs.MadeParts.{list_coding}
use Rattle.gp_kept.proofs.ChosenOrders.{may_move, length-records}
use Rattle.gp_kept.proofs.MovedWhole.{repeats_short}
use Rattle.gp_kept.proofs.MadeLists.{lists_back}

-- ---- few records

pub few_records : (a : AssetParts) (contents : List (List ℕ)) (g : Group) → is_movable a contents g ≡ true → length (moved_group a contents g).records ≤ 2 ^ 24
few_records a contents g movable =
    let kept = records_are_kept a contents g movable in
    omega (arith, kept.count, repeats_short (records a contents g), length-records a contents g, (may_move a contents g movable).few)

-- ---- one list

-- a group as the laws of made views speak of it
abbrev as_moved : MovedParts → Moved
as_moved m = record { primitives = m.primitives; columns = m.columns; lists = m.lists; list_accessor = None; count = m.count; records = m.records; ordered = m.ordered }

pub list_codable : (m : MovedParts) (list : List ℕ) → length m.records ≤ 2 ^ 24 → IsTriangleList (length m.records) list → MayBeCoded (list_contents m list) (list_coding (list_width m))
list_codable m list few sound =
    let back : numbers_in (list_width m) (list_contents m list) ≡ list = lists_back (as_moved m) list few sound.below in
    subst (λ numbers. (length numbers % 3 ≡ 0) × All (λ n. n < 2 ^ 24) numbers) (sym back) (sound.whole, λ k d below. omega (arith, sound.below k d below, few))
