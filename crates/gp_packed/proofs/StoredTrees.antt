-- The tree of an asset whose views are stored in one buffer, plain or as streams.
use Rattle.std.specs.List.{All, list_any}
use Rattle.std.proofs.Common.{◌≡◌, ℕ, ◌<◌, ◌≤◌, ◌^◌, Bool, true, false, List, [], ◌∷◌, map, length, Option, Some, None, Ok, arith}
use Rattle.std.proofs.Math.Nat.{div-le_self}
use Rattle.gp_tree.specs.Plain.{PlainTree}
use Rattle.gp_tree.specs.Sound.{IsSound}
use Rattle.gp_tree.specs.TreeEdits.{without}
use Rattle.gp_tree.proofs.Kept.{sound_remove}
use Rattle.gp_asset.specs.declared.purpose.Form.TheVariants.{Plain, Any}
use Rattle.gp_asset.specs.Extensions.{extensions_in_use, supported}
use Rattle.gp_layout.specs.Layout.{end}
use Rattle.gp_edits.specs.Edits.{extension_name, placed, compressed}
use Rattle.gp_edits.specs.PackLaws.{HasSmallNumbers}
use Rattle.gp_edits.proofs.KeyNames.{buffers_key}
use Rattle.gp_edits.proofs.Sounds.{IsWithin, placed_within, views_sound, buffer_sound}
use Rattle.gp_edits.proofs.PackSounds.{compressed_within, two_buffers_sound, named_sound}
use Rattle.gp_edits.proofs.Named.{AreAmong, under, rest_among, placed_no_more, buffer_no_more, buffers_no_more}
use Rattle.gp_edits.proofs.OneMore.{HasOneMore, one_after_one, same_one, compressed_one, views_one, two_buffers_one, names_one, supported_one}
use Rattle.gp_storage.specs.declared.coding.Stream.{Stream}
use Rattle.gp_edits.specs.Edits.{with_buffers_of}
use Rattle.gp_layout.specs.Row.{buffer_length}
use Rattle.gp_packed.specs.Plan.{Stored, Place, parts, is_stream, fallback_end}
use Rattle.gp_packed.specs.ViewEdits.{fallback_if, compression_of, stored_view, view_edit, view_edits, with_buffers, named_if, with_names, with_views, with_stored}
use Rattle.gp_packed.specs.StoredLaws.{Fits}
use Rattle.gp_packed.proofs.StoredBounds.{IsSmall, IsSmallEdit, edits_small}

-- ---- it stays sound

compression_small : (n : ℕ) (start : ℕ) (contents : List ℕ) (stream : Stream) → n < 2 ^ 32 → start ≤ n → length stream.bytes ≤ n → length contents < 2 ^ 32 → stream.coding.stride < 2 ^ 32
    → HasSmallNumbers (compression_of start (length contents) stream)
compression_small n start contents stream low a b c d = record {
  offset = omega (arith, low, a);
  length = omega (arith, low, b);
  stride = omega (arith, d);
  count = omega (arith, c, div-le_self (length contents) stream.coding.stride);
}

view_within : (n m : ℕ) (contents : List ℕ) (stream : Option Stream) (place : Place) (v : PlainTree) → n < 2 ^ 32 → m < 2 ^ 32 → IsSmall n m contents stream place
    → IsWithin 126 v → IsWithin 126 (stored_view (length contents) stream place v)
unfolding stored_view
view_within n m contents None place v low under small h = placed_within 126 0 place.start v (omega arith) (omega (arith, low, small.start)) (omega arith) h
view_within n m contents (Some stream) place v low under small h =
    compressed_within 126 (compression_of place.start (length contents) stream) (placed 1 place.fallback v)
    (compression_small n place.start contents stream low small.start small.part small.view small.stride) (omega arith) (omega arith)
    (placed_within 126 1 place.fallback v (omega arith) (omega (arith, under, small.fallback)) (omega arith) h)

views_stay_sound : (views : List Stored) (t : PlainTree) → end (map length (parts views)) < 2 ^ 32 → fallback_end views < 2 ^ 32 → All Fits views → IsSound t → IsSound (with_views views t)
unfolding with_views
views_stay_sound views t low under fits h =
    let n = end (map length (parts views)) in
    let m = fallback_end views in
    views_sound (IsSmallEdit n m) view_edit (view_edits views) t (edits_small views fits) (λ e v small k. view_within n m e.0.contents e.0.stream e.1 v low under small k) h

buffers_for_sound : (b : Bool) (n m : ℕ) (t : PlainTree) → n < 2 ^ 32 → m < 2 ^ 32 → IsSound t → IsSound (with_buffers_of (Some n) (fallback_if b m) t)
buffers_for_sound false n m t low under h = buffer_sound n t (omega (arith, low)) h
buffers_for_sound true n m t low under h = two_buffers_sound n m t (omega (arith, low)) (omega (arith, under)) h

buffers_stay_sound : (views : List Stored) (t : PlainTree) → end (map length (parts views)) < 2 ^ 32 → fallback_end views < 2 ^ 32 → IsSound t → IsSound (with_buffers views t)
unfolding with_buffers buffer_length
buffers_stay_sound [] t low under h = sound_remove buffers_key t h
buffers_stay_sound (s ∷ views) t low under h = buffers_for_sound (list_any is_stream (s ∷ views)) (end (map length (parts (s ∷ views)))) (fallback_end (s ∷ views)) t low under h

named_if_sound : (b : Bool) (t : PlainTree) → IsSound t → IsSound (named_if b t)
named_if_sound false t h = h
named_if_sound true t h = named_sound t h

pub stored_sound : (views : List Stored) (t : PlainTree) → end (map length (parts views)) < 2 ^ 32 → fallback_end views < 2 ^ 32 → All Fits views → IsSound t → IsSound (with_stored views t)
unfolding with_stored with_names
stored_sound views t low under fits h =
    named_if_sound (list_any is_stream views) (with_buffers views (with_views views t)) (buffers_stay_sound views (with_views views t) low under (views_stay_sound views t low under fits h))

-- ---- it uses one extension more at most

view_one : (n : ℕ) (stream : Option Stream) (place : Place) (v : PlainTree) → HasOneMore (under (stored_view n stream place v)) (under v)
unfolding stored_view
view_one n None place v = rest_among extension_name (under (placed 0 place.start v)) (under v) (placed_no_more 0 place.start v)
view_one n (Some stream) place v =
    let c = compression_of place.start n stream in
    let u = placed 1 place.fallback v in
    one_after_one (under (compressed c u)) (under u) (under v) (compressed_one c u) (rest_among extension_name (under u) (under v) (placed_no_more 1 place.fallback v))

stored_views_one : (views : List Stored) (t : PlainTree) → HasOneMore (extensions_in_use (with_views views t)) (extensions_in_use t)
unfolding with_views
stored_views_one views t = views_one view_edit (view_edits views) t (λ e v. view_one (length e.0.contents) e.0.stream e.1 v)

no_more_one : (u t : PlainTree) → AreAmong (extensions_in_use u) (extensions_in_use t) → HasOneMore (extensions_in_use u) (extensions_in_use t)
no_more_one u t h = rest_among extension_name (extensions_in_use u) (extensions_in_use t) h

buffers_for_one : (b : Bool) (n m : ℕ) (t : PlainTree) → HasOneMore (extensions_in_use (with_buffers_of (Some n) (fallback_if b m) t)) (extensions_in_use t)
buffers_for_one false n m t = no_more_one (with_buffers_of (Some n) (fallback_if false m) t) t (buffer_no_more n t)
buffers_for_one true n m t = two_buffers_one n m t

stored_buffers_one : (views : List Stored) (t : PlainTree) → HasOneMore (extensions_in_use (with_buffers views t)) (extensions_in_use t)
unfolding with_buffers buffer_length
stored_buffers_one [] t = no_more_one (without buffers_key t) t (buffers_no_more t)
stored_buffers_one (s ∷ views) t = buffers_for_one (list_any is_stream (s ∷ views)) (end (map length (parts (s ∷ views)))) (fallback_end (s ∷ views)) t

named_one : (b : Bool) (t : PlainTree) → HasOneMore (extensions_in_use (named_if b t)) (extensions_in_use t)
named_one false t = same_one (extensions_in_use t)
named_one true t = names_one t

pub stored_one : (views : List Stored) (t : PlainTree) → HasOneMore (extensions_in_use (with_stored views t)) (extensions_in_use t)
unfolding with_stored with_names
stored_one views t =
    let u = with_views views t in
    let w = with_buffers views u in
    let x = named_if (list_any is_stream views) w in
    one_after_one (extensions_in_use x) (extensions_in_use w) (extensions_in_use t) (named_one (list_any is_stream views) w)
    (one_after_one (extensions_in_use w) (extensions_in_use u) (extensions_in_use t) (stored_buffers_one views u) (stored_views_one views t))

pub stored_supported : (views : List Stored) (t : PlainTree) (used : List (List ℕ)) → supported Plain (extensions_in_use t) ≡ Ok used
    → supported Any (extensions_in_use (with_stored views t)) ≡ Ok (extensions_in_use (with_stored views t))
stored_supported views t used h = supported_one (extensions_in_use t) (extensions_in_use (with_stored views t)) used (stored_one views t) h
