-- How many elements accessors have, and what follows for corners and records.
use Rattle.std.proofs.Common.{◌≡◌, ℕ, List, [], ◌∷◌, ◌++◌, length, map, Option, Some, None, refl, ap, ◌∙◌}
use Rattle.std.specs.Prelude.{slice_get, unwrap_or, option_map}
use Rattle.std.specs.List.{filter_map, flat_map, cons_option, range_with_len}
use Rattle.gp_rules.specs.declared.accessing.Accessor.{Accessor}
use Rattle.gp_asset.specs.Asset.{AssetParts}
use Rattle.gp_alias.specs.Groups.{count_at}
use Rattle.gp_alias.specs.Movable.{items_of}
use Rattle.gp_alias.specs.Records.{item_at, item_of, vertex_record}
use Rattle.gp_moving.proofs.Numbers.{map_agree}
use Rattle.gp_kept.specs.TrianglesMoved.{ElementsAreCounted, CornersAreCounted, RecordsAreCounted}
use Rattle.gp_sameness.specs.Drawn.{record_of, elements_at}
use Rattle.gp_kept.proofs.ChosenOrders.{length-items}

pub elements_are_counted : ElementsAreCounted
elements_are_counted a contents at = by_found (slice_get a.accessors at)
  where
    by_found : (o : Option Accessor) → length (unwrap_or (option_map (items_of a contents) o) []) ≡ unwrap_or (option_map (λ (x : Accessor). x.count) o) 0
    by_found None = refl
    by_found (Some x) = length-items a contents x

pub corners_are_counted : CornersAreCounted
corners_are_counted a contents [] = refl
corners_are_counted a contents (first ∷ more) = ap (range_with_len 0) (elements_are_counted a contents first.accessor)

-- the elements of columns, joined
pub joined_is : (a : AssetParts) (contents : List (List ℕ)) (v : ℕ) (columns : List ℕ) → record_of (elements_at a contents) columns v ≡ vertex_record a contents columns v
joined_is a contents v [] = refl
joined_is a contents v (c ∷ columns) = by_found (slice_get a.accessors c) (joined_is a contents v columns)
  where
    by_found : (o : Option Accessor) → record_of (elements_at a contents) columns v ≡ vertex_record a contents columns v
        → item_at v (unwrap_or (option_map (items_of a contents) o) []) ++ record_of (elements_at a contents) columns v
        ≡ flat_map (item_of a contents v) (cons_option o (filter_map (slice_get a.accessors) columns))
    by_found None rest = rest
    by_found (Some x) rest = ap (λ bytes. item_of a contents v x ++ bytes) rest

pub records_are_counted : RecordsAreCounted
records_are_counted a contents [] = refl
records_are_counted a contents (first ∷ more) =
    ap (λ n. map (record_of (elements_at a contents) (first ∷ more)) (range_with_len 0 n)) (elements_are_counted a contents first)
    ∙ map_agree (record_of (elements_at a contents) (first ∷ more)) (vertex_record a contents (first ∷ more)) (range_with_len 0 (count_at a.accessors first))
    (λ i d within. joined_is a contents _ (first ∷ more))
