-- The fields of views read back where these are stored, plain or as streams.
use Rattle.std.specs.Prelude.{IfSome, option_map}
use Rattle.std.proofs.Common.{◌≡◌, ℕ, suc, ◌+◌, ◌<◌, ◌≤◌, ◌^◌, true, List, [], ◌∷◌, length, map, Option, Some, None, Result, Ok, refl, sym, ap, arith}
use Rattle.std.proofs.Math.Nat.{div-le_self}
use Rattle.gp_tree.specs.Lexical.{Each}
use Rattle.gp_tree.specs.Plain.{PlainTree, null, truth, number, text, list, members}
use Rattle.gp_tree.specs.Find.{item_list}
use Rattle.gp_tree.specs.TreeEdits.{with_items}
use Rattle.gp_fields.specs.declared.fault.Place.TheVariants.{BufferViews}
use Rattle.gp_fields.specs.declared.fault.FieldFault.{FieldFault}
use Rattle.gp_fields.specs.Shapes.{object_of}
use Rattle.gp_fields.specs.Fields.{ViewFields, view_fields}
use Rattle.gp_fields.specs.Record.{items_of_shape}
use Rattle.gp_layout.specs.Layout.{end}
use Rattle.gp_edits.specs.Changes.{change_each}
use Rattle.gp_edits.specs.Edits.{placed}
use Rattle.gp_edits.specs.PackedBack.{ReadsBack}
use Rattle.gp_edits.proofs.ItemsBack.{AreRead, items_are_read, read_items, items_by}
use Rattle.gp_edits.proofs.PackedBack.{unpacked_again, compressed_again}
use Rattle.gp_storage.specs.declared.coding.Stream.{Stream}
use Rattle.gp_packed.specs.Plan.{Stored, Place, part_of, is_stream, parts, fallback_end}
use Rattle.gp_packed.specs.ViewEdits.{compression_of, stored_view, view_edit, view_edits}
use Rattle.gp_packed.specs.StoredLaws.{Fits}
use Rattle.gp_packed.specs.StoredParts.{view_fields_by, stored_views_fields}
use Rattle.gp_unpack.proofs.EachItem.{each_is, each_both, each_zip}
use Rattle.gp_packed.proofs.StoredPlaces.{Stands, each_stands}

abbrev pub IsUnpacked : ViewFields → Type 0
IsUnpacked f = f.packed ≡ None

-- ---- one view

-- what a stream's view needs: a second buffer, and numbers that read back
pub record StreamReads (m size : ℕ) (place : Place) (stream : Stream) : Type 0 where
  pub second : 1 < m
  pub fallback : place.fallback < 2 ^ 32
  pub numbers : ReadsBack (compression_of place.start size stream)

pub record Reads (m : ℕ) (v : Stored × Place) : Type 0 where
  pub some : 0 < m
  pub start : v.1.start < 2 ^ 32
  pub stream : IfSome v.0.stream (StreamReads m (length v.0.contents) v.1)

view_by : (n m size : ℕ) (stream : Option Stream) (place : Place) (t : PlainTree) (f : ViewFields)
    → object_of (view_fields n) t ≡ Some f → IsUnpacked f → 0 < m → place.start < 2 ^ 32 → IfSome stream (StreamReads m size place)
    → object_of (view_fields m) (stored_view size stream place t) ≡ Some (view_fields_by size stream place f)
unfolding stored_view
view_by n m size None place t f e none some start h = unpacked_again n m 0 place.start t f e none some (omega arith) start
view_by n m size (Some stream) place t f e none some start h =
    compressed_again m (compression_of place.start size stream) (placed 1 place.fallback t) _
    (unpacked_again n m 1 place.fallback t f e none h.second (omega arith) h.fallback)
    some h.numbers

-- ---- all views

pub each_view : (n m : ℕ) (vs : List (Stored × Place)) (ts : List PlainTree) (fs : List ViewFields)
    → AreRead (object_of (view_fields n)) ts fs → Each IsUnpacked fs → length vs ≡ length fs → Each (Reads m) vs
    → AreRead (object_of (view_fields m)) (change_each view_edit vs ts) (stored_views_fields vs fs)
each_view n m [] [] [] h none e reads = tt
each_view n m [] [] (f ∷ fs) h none e reads = absurd h
each_view n m [] (t ∷ ts) [] h none e reads = absurd h
each_view n m [] (t ∷ ts) (f ∷ fs) h none e reads = absurd (omega (arith, e))
each_view n m (v ∷ vs) [] [] h none e reads = absurd (omega (arith, e))
each_view n m (v ∷ vs) [] (f ∷ fs) h none e reads = absurd h
each_view n m (v ∷ vs) (t ∷ ts) [] h none e reads = absurd h
each_view n m (v ∷ vs) (t ∷ ts) (f ∷ fs) h none e reads = (
  view_by n m (length v.0.contents) v.0.stream v.1 t f h.0 none.0 reads.0.some reads.0.start reads.0.stream,
  each_view n m vs ts fs h.1 none.1 (omega (arith, e)) reads.1,
)

-- the list of views
abbrev pub with_stored_items : List (Stored × Place) → PlainTree → PlainTree
with_stored_items vs t = with_items (change_each view_edit vs) t

pub list_again : (n m : ℕ) (vs : List (Stored × Place)) (t : PlainTree) (fs : List ViewFields)
    → items_of_shape BufferViews (object_of (view_fields n)) t ≡ Ok fs → Each IsUnpacked fs → length vs ≡ length fs → Each (Reads m) vs
    → items_of_shape BufferViews (object_of (view_fields m)) (with_stored_items vs t) ≡ Ok (stored_views_fields vs fs)
list_again n m vs null fs h none e reads = absurd (cc)
list_again n m vs (truth b) fs h none e reads = absurd (cc)
list_again n m vs (number s) fs h none e reads = absurd (cc)
list_again n m vs (text s) fs h none e reads = absurd (cc)
list_again n m vs (members ms) fs h none e reads = absurd (cc)
list_again n m vs (list ts) fs h none e reads =
    read_items BufferViews (object_of (view_fields m)) (change_each view_edit vs (item_list ts)) (stored_views_fields vs fs)
    (each_view n m vs (item_list ts) fs (items_are_read BufferViews (object_of (view_fields n)) ts fs h) none e reads)

no_views : (vs : List (Stored × Place)) (fs : List ViewFields) → fs ≡ [] → stored_views_fields vs fs ≡ []
no_views [] fs e = refl
no_views (v ∷ vs) [] e = refl
no_views (v ∷ vs) (f ∷ fs) e = absurd (cc)

-- what is found of the list of views, changed
pub found_again : (n m : ℕ) (vs : List (Stored × Place)) (fs : List ViewFields) (found : Option PlainTree)
    → items_by BufferViews (object_of (view_fields n)) found ≡ Ok fs → Each IsUnpacked fs → length vs ≡ length fs → Each (Reads m) vs
    → items_by BufferViews (object_of (view_fields m)) (option_map (with_stored_items vs) found) ≡ Ok (stored_views_fields vs fs)
found_again n m vs fs None h none e reads =
    let h' : ◌≡◌ {A = Result (List ViewFields) FieldFault} (Ok []) (Ok fs) = h in
    let empty : [] ≡ fs = cc in
    ap Ok (sym (no_views vs fs (sym empty)))
found_again n m vs fs (Some t) h none e reads = list_again n m vs t fs h none e reads

pub views_counted : (vs : List (Stored × Place)) (fs : List ViewFields) → length vs ≡ length fs → length (stored_views_fields vs fs) ≡ length fs
views_counted [] [] e = refl
views_counted [] (f ∷ fs) e = absurd (omega (arith, e))
views_counted (v ∷ vs) [] e = refl
views_counted (v ∷ vs) (f ∷ fs) e = ap suc (views_counted vs fs (omega (arith, e)))

-- ---- views that stand below 2^32 read back

numbers_read : (m last back : ℕ) (contents : List ℕ) (stream : Option Stream) (place : Place) → last < 2 ^ 32 → back < 2 ^ 32
    → place.start + length (part_of (record { contents = contents; stream = stream })) ≤ last → IfSome stream (λ _. place.fallback + length contents ≤ back)
    → length contents < 2 ^ 32 → IfSome stream (λ (s : Stream). s.coding.stride < 2 ^ 32)
    → (is_stream (record { contents = contents; stream = stream }) ≡ true → 1 < m)
    → IfSome stream (StreamReads m (length contents) place)
numbers_read m last back contents None place low lower part fallback view stride two = tt
numbers_read m last back contents (Some stream) place low lower part fallback view stride two = record {
  second = two refl;
  fallback = omega (arith, fallback, lower);
  numbers = record {
    offset = omega (arith, part, low);
    length = omega (arith, part, low);
    stride = stride;
    count = omega (arith, div-le_self (length contents) stream.coding.stride, view);
  };
}

-- there are buffers for it
pub record HasBuffers (m : ℕ) (s : Stored) : Type 0 where
  pub some : 0 < m
  pub two : is_stream s ≡ true → 1 < m

abbrev CanStand : ℕ → Stored → Type 0
CanStand m s = Fits s × HasBuffers m s

one_reads : (m last back : ℕ) → last < 2 ^ 32 → back < 2 ^ 32 → (v : Stored × Place) → CanStand m v.0 × Stands last back v → Reads m v
one_reads m last back low lower v h = record {
  some = h.0.1.some;
  start = omega (arith, h.1.part, low);
  stream = numbers_read m last back v.0.contents v.0.stream v.1 low lower h.1.part h.1.stream h.0.0.view h.0.0.stride h.0.1.two;
}

pub each_reads : (m : ℕ) (views : List Stored) → end (map length (parts views)) < 2 ^ 32 → fallback_end views < 2 ^ 32 → Each Fits views → Each (HasBuffers m) views → Each (Reads m) (view_edits views)
each_reads m views low lower fits buffers =
    let last = end (map length (parts views)) in
    let back = fallback_end views in
    each_is (λ v. CanStand m v.0 × Stands last back v) (Reads m) (one_reads m last back low lower) (view_edits views)
    (each_both (λ v. CanStand m v.0) (Stands last back) (view_edits views) (each_zip (CanStand m) views _ (each_both Fits (HasBuffers m) views fits buffers)) (each_stands views))
