-- Every number that packing writes into the JSON is below 2^32.
use Rattle.std.specs.Prelude.{if◌then◌else◌, nat_le, unwrap_or, filter_map, option_and_then, is_none, IfSome, codes, decimal}
use Rattle.std.specs.List.{All, Contains, cons_option, list_any}
use Rattle.std.proofs.Common.{◌⊎◌, inl, inr, ℕ, ◌<◌, ◌≤◌, ◌^◌, Bool, true, false, List, [], ◌∷◌, map, length, Option, Some, None, refl, sym, subst, arith}
use Rattle.std.proofs.Math.Nat.{div-le_self}
use Rattle.std.proofs.lemmas.List.Elements.{All-contains_itself}
use Rattle.gp_tree.specs.Lexical.{Each}
use Rattle.gp_tree.specs.Plain.{PlainTree, text, list, members, no_items, item, no_members}
use Rattle.gp_tree.specs.Find.{find_member}
use Rattle.gp_tree.specs.TreeEdits.{with_member, at_member, with_items, and_items}
use Rattle.gp_tree.specs.Values.{whole}
use Rattle.gp_layout.specs.Layout.{end}
use Rattle.gp_layout.specs.Row.{buffer_length}
use Rattle.gp_rules.specs.declared.storage.StreamMode.{StreamMode}
use Rattle.gp_rules.specs.declared.storage.StreamMode.TheVariants.{Attributes, Triangles, Indices}
use Rattle.gp_asset.specs.Asset.{AssetParts}
use Rattle.gp_edits.specs.Changes.{whole_number, change_each}
use Rattle.gp_edits.specs.Edits.{extension_name, placed, compression_object, compressed, sized_buffer, with_one_buffer, fallback_buffer, with_two_buffers, with_buffers_of, with_name_in, with_extension_named}
use Rattle.gp_edits.specs.declared.compression.Compression.{Compression}
use Rattle.gp_document.specs.Document.{Document}
use Rattle.gp_storage.specs.declared.coding.Stream.{Stream}
use Rattle.gp_unpack.proofs.EachItem.{each_of_all, all_of_each, each_is, each_both, each_zip}
use Rattle.gp_sameness.specs.Moved.{Moved, group_with}
use Rattle.gp_packed.specs.MovedGroups.{moved_groups}
use Rattle.gp_sameness.specs.Survivors.{survives, renumbered, where_numbered}
use Rattle.gp_packed.specs.MadeViews.{list_component, made_views}
use Rattle.gp_packed.specs.Plan.{Stored, Place, places, parts, is_stream, fallback_end, output_views}
use Rattle.gp_sameness.specs.References.{each_item, numbered_by, new_reference, new_view_reference, new_sparse_references, new_accessor_references, is_kept, with_new_references}
use Rattle.gp_sameness.specs.Common.{primitive_place}
use Rattle.gp_packed.specs.GroupEdits.{made_number, moved_column, moved_list, moved_by, moved_accessor, list_accessor, with_moved_accessors, with_list_accessors, indexed_by, indexed_primitive, with_all_indices}
use Rattle.gp_packed.specs.ViewEdits.{compression_of, stored_view, view_edit, view_edits, unplaced, fallback_if, with_buffers, named_if, with_names, with_views, with_stored}
use Rattle.gp_packed.specs.Packed.{with_made_views, packed_tree, packed, plain_contents as bytes_of_views}
use Rattle.gp_packed.specs.StoredLaws.{Fits}
use Rattle.gp_packed.specs.SoundMoved.{GroupFits, MadeFits}
use Rattle.gp_packed.specs.AccessorsBack.{with_groups_moved}
use Rattle.gp_packed.specs.PackedFields.{CanBeMoved}
use Rattle.gp_kept.specs.Numbers.{numbers_in, IsSmallNumber, WritesSmallNumbers, NumbersFit}
use Rattle.gp_packed.proofs.AccessorsRead.{made_list}
use Rattle.gp_packed.proofs.StoredPlaces.{Stands, each_stands}
use Rattle.gp_packed.proofs.SoundMoved.{view_below, whole_small, new_number_below, group_fits}
use Rattle.gp_packed.proofs.SoundPacked.{HasSmallStride, strides_small, made_view, made_views_fit, each_to_mapped}
use Rattle.gp_packed.proofs.OutputFits.{each_passed}
use Rattle.gp_kept.proofs.GroupsCanMove.{few_output}
use Rattle.gp_kept.proofs.PackedTogether.{can_move, groups_fit}
use Rattle.gp_kept.proofs.Sameness.{may_be_packed, is_packed}
use Rattle.gp_kept.proofs.NumbersOfTrees.{EachNumber, of_numbers, to_numbers, Keeps, set_kept, removed_kept, member_kept, found_or, items_kept, each_kept, added_kept, all_changed}

abbrev Below : ℕ → Type 0
Below n = n < 2 ^ 32

record AreBelow (c : Compression) : Type 0 where
  offset : Below c.offset
  bytes : Below c.length
  stride : Below c.stride
  count : Below c.count

module _ (P : List ℕ → Type 0) (small : (n : ℕ) → n < 2 ^ 32 → P (decimal n)) where
  number_set : (key : List ℕ) (n : ℕ) → Below n → Keeps P (with_member key (whole_number n))
  number_set key n low = set_kept P key (whole_number n) (small n low)

  -- ---- accessors of groups

  component_below : (b : Bool) → Below (if b then 5123 else 5125)
  component_below true = omega arith
  component_below false = omega arith

  list_below : (m : Moved) → Below (list_component m)
  list_below m = component_below (nat_le (length m.records) 65535)

  column_kept : (view : ℕ) (m : Moved) → Below view → GroupFits m → Keeps P (moved_column view m)
  column_kept view m low fits t h =
      removed_kept P (codes "sparse") _
      (removed_kept P (codes "byteOffset") _
      (number_set (codes "count") (length m.records) fits.records _
      (number_set (codes "bufferView") view low t h)))

  list_kept : (view : ℕ) (m : Moved) → Below view → Keeps P (moved_list view m)
  list_kept view m low t h =
      removed_kept P (codes "sparse") _
      (removed_kept P (codes "max") _
      (removed_kept P (codes "min") _
      (removed_kept P (codes "byteOffset") _
      (number_set (codes "componentType") (list_component m) (list_below m) _
      (number_set (codes "bufferView") view low t h)))))

  moved_kept : (view : ℕ) (column vertex_list : Option Moved) → Below view → IfSome column GroupFits → Keeps P (moved_by view column vertex_list)
  moved_kept view (Some m) vertex_list low fits = column_kept view m low fits
  moved_kept view None (Some m) low fits = list_kept view m low
  moved_kept view None None low fits = λ t h. h

  -- ---- primitives

  indices_kept : (number : Option ℕ) (lone : Bool) (t : PlainTree) → IfSome number Below → EachNumber P t
      → EachNumber P (elim number as (λ x. PlainTree) [ None ↦ t | Some at ↦ if lone then with_member (codes "indices") (whole_number at) t else t ])
  indices_kept None lone t low h = h
  indices_kept (Some at) true t low h = number_set (codes "indices") at low t h
  indices_kept (Some at) false t low h = h

  indexed_kept : (group : Option Moved) → IfSome group GroupFits → Keeps P (indexed_by group)
  indexed_kept None fits t h = h
  indexed_kept (Some m) fits t h = indices_kept m.list_accessor (is_none (find_member (codes "indices") t)) t fits.number h

  -- ---- references

  numbered_kept : (most : ℕ) (t : PlainTree) (number : Option ℕ) → Below most → IfSome number (λ k. k ≤ most) → EachNumber P t → EachNumber P (numbered_by t number)
  numbered_kept most t None low below h = h
  numbered_kept most t (Some k) low below h = small k (omega (arith, low, below))

  reference_by : (moved : List Moved) (a : AssetParts) (t : PlainTree) (view : Option ℕ) → IfSome view Below → EachNumber P t
      → EachNumber P (numbered_by t (option_and_then (renumbered moved a) view))
  reference_by moved a t None low h = h
  reference_by moved a t (Some view) low h = numbered_kept view t (renumbered moved a view) low (new_number_below moved a view) h

  view_reference_kept : (moved : List Moved) (a : AssetParts) → Keeps P (new_view_reference moved a)
  view_reference_kept moved a = member_kept P (codes "bufferView") (new_reference moved a) (λ t h. reference_by moved a t (whole t) (whole_small t) h)

  sparse_references_kept : (moved : List Moved) (a : AssetParts) → Keeps P (new_sparse_references moved a)
  sparse_references_kept moved a t h =
      member_kept P (codes "values") (new_view_reference moved a) (view_reference_kept moved a) _
      (member_kept P (codes "indices") (new_view_reference moved a) (view_reference_kept moved a) t h)

  either_kept : (kept : Bool) (changed t : PlainTree) → EachNumber P changed → EachNumber P t → EachNumber P (if kept then changed else t)
  either_kept true changed t h k = h
  either_kept false changed t h k = k

  accessor_references_kept : (moved : List Moved) (a : AssetParts) (at : ℕ) → Keeps P (new_accessor_references moved a at)
  accessor_references_kept moved a at t h =
      either_kept (is_kept moved a at) _ t
      (member_kept P (codes "sparse") (new_sparse_references moved a) (sparse_references_kept moved a) _ (view_reference_kept moved a t h)) h

  references_kept : (moved : List Moved) (a : AssetParts) → Keeps P (with_new_references moved a)
  unfolding with_new_references
  references_kept moved a t h =
      member_kept P (codes "images") (each_item (λ at. new_view_reference moved a)) (each_kept P (λ at. new_view_reference moved a) (λ at. view_reference_kept moved a)) _
      (member_kept P (codes "accessors") (each_item (new_accessor_references moved a)) (each_kept P (new_accessor_references moved a) (accessor_references_kept moved a)) t h)

  -- ---- views that are made

  unplaced_by : (mode : StreamMode) (size stride : ℕ) → Below size → Below stride → EachNumber P (made_view mode size stride)
  unplaced_by Attributes size stride low short =
      (small 0 (omega arith), (small 0 (omega arith), (small size low, (small stride short, (small 34962 (omega arith), tt)))))
  unplaced_by Triangles size stride low short = (small 0 (omega arith), (small 0 (omega arith), (small size low, (small 34963 (omega arith), tt))))
  unplaced_by Indices size stride low short = (small 0 (omega arith), (small 0 (omega arith), (small size low, (small 34963 (omega arith), tt))))

  all_unplaced : (moved : List Moved) (a : AssetParts) → All MadeFits (made_views a moved) → Each (EachNumber P) (map unplaced (made_views a moved))
  all_unplaced moved a fits =
      let made = made_views a moved in
      each_to_mapped (EachNumber P) unplaced made
      (each_is (λ v. MadeFits v × HasSmallStride v) (λ v. EachNumber P (unplaced v)) (λ v h. unplaced_by v.coding.mode (length v.contents) v.coding.stride h.0 h.1) made
      (each_both MadeFits HasSmallStride made (each_of_all MadeFits made fits) (strides_small a moved)))

  made_views_kept : (moved : List Moved) (a : AssetParts) → All MadeFits (made_views a moved) → Keeps P (with_made_views moved a)
  unfolding with_made_views
  made_views_kept moved a fits =
      let stay = where_numbered (survives moved a) in
      member_kept P (codes "bufferViews") (λ views. and_items (map unplaced (made_views a moved)) (with_items stay views))
      (λ views h.
      added_kept P (map unplaced (made_views a moved)) (all_unplaced moved a fits) (with_items stay views)
      (items_kept P stay (λ ts k. each_passed (EachNumber P) (survives moved a) 0 ts k) views h))

  -- ---- groups

  module _ (moved : List Moved) (a : AssetParts) (fits : All GroupFits moved) (views : (at : ℕ) → Below (made_number moved a at)) where
    each : Each GroupFits moved
    each = each_of_all GroupFits moved fits

    moved_accessors_kept : Keeps P (with_moved_accessors moved a)
    unfolding with_moved_accessors
    moved_accessors_kept =
        member_kept P (codes "accessors") (each_item (moved_accessor moved a))
        (each_kept P (moved_accessor moved a) (λ at.
        moved_kept (made_number moved a at) (group_with (λ (m : Moved). m.columns) moved at) (group_with (λ (m : Moved). m.lists) moved at) (views at)
        (group_fits (λ (m : Moved). m.columns) moved at each)))

    given_kept : (m : Moved) (number : Option ℕ) (ts : List PlainTree) → GroupFits m → Each (EachNumber P) ts
        → Each (EachNumber P) (cons_option (elim number as (λ x. Option PlainTree) [ None ↦ None | Some at ↦ Some (made_list (made_number moved a at) m) ]) ts)
    given_kept m None ts group h = h
    given_kept m (Some at) ts group h =
        ((small (made_number moved a at) (views at), (small (list_component m) (list_below m), (small m.count group.count, (tt, tt)))), h)

    lists_kept : (ms : List Moved) → Each GroupFits ms → Each (EachNumber P) (filter_map (list_accessor moved a) ms)
    lists_kept [] groups = tt
    lists_kept (m ∷ ms) groups = given_kept m m.list_accessor (filter_map (list_accessor moved a) ms) groups.0 (lists_kept ms groups.1)

    list_accessors_kept : Keeps P (with_list_accessors moved a)
    unfolding with_list_accessors
    list_accessors_kept =
        member_kept P (codes "accessors") (and_items (filter_map (list_accessor moved a) moved))
        (added_kept P (filter_map (list_accessor moved a) moved) (lists_kept moved each))

    all_indices_kept : Keeps P (with_all_indices moved a)
    unfolding with_all_indices
    all_indices_kept =
        let indexed : ℕ → ℕ → PlainTree → PlainTree = λ mesh at. indexed_primitive moved (primitive_place a mesh at) in
        let in_mesh : ℕ → PlainTree → PlainTree = λ mesh. at_member (codes "primitives") (each_item (indexed mesh)) in
        member_kept P (codes "meshes") (each_item in_mesh)
        (each_kept P in_mesh (λ mesh.
        member_kept P (codes "primitives") (each_item (indexed mesh))
        (each_kept P (indexed mesh) (λ at.
        let place = primitive_place a mesh at in
        indexed_kept (group_with (λ (m : Moved). m.primitives) moved place) (group_fits (λ (m : Moved). m.primitives) moved place each)))))

    groups_kept : Keeps P (with_groups_moved moved a)
    groups_kept t h =
        references_kept moved a (with_all_indices moved a (with_list_accessors moved a (with_moved_accessors moved a t)))
        (all_indices_kept (with_list_accessors moved a (with_moved_accessors moved a t))
        (list_accessors_kept (with_moved_accessors moved a t) (moved_accessors_kept t h)))

  -- ---- views that are stored

  placed_kept : (buffer offset : ℕ) → Below buffer → Below offset → Keeps P (placed buffer offset)
  unfolding placed
  placed_kept buffer offset first low t h = number_set (codes "byteOffset") offset low _ (number_set (codes "buffer") buffer first t h)

  compressed_kept : (c : Compression) → AreBelow c → Keeps P (compressed c)
  unfolding compressed
  compressed_kept c numbers t h =
      let default = members no_members in
      let object : EachNumber P (compression_object c) =
      (small 0 (omega arith), (small c.offset numbers.offset, (small c.length numbers.bytes, (small c.stride numbers.stride, (small c.count numbers.count, (tt, tt)))))) in
      set_kept P (codes "extensions") (with_member extension_name (compression_object c) (unwrap_or (find_member (codes "extensions") t) default))
      (set_kept P extension_name (compression_object c) object _ (found_or P (codes "extensions") default t tt h)) t h

  stored_kept : (last back : ℕ) (contents : List ℕ) (stream : Option Stream) (place : Place) → Below last → Below back
      → Stands last back (record { contents = contents; stream = stream }, place) → Fits (record { contents = contents; stream = stream }) → Keeps P (stored_view (length contents) stream place)
  unfolding stored_view
  stored_kept last back contents None place first second stands fits =
      let part = stands.part in
      placed_kept 0 place.start (omega arith) (omega (arith, part, first))
  stored_kept last back contents (Some stream) place first second stands fits =
      let part = stands.part in
      let whole = stands.stream in
      let size = fits.view in
      λ t h.
      compressed_kept (compression_of place.start (length contents) stream) (record {
        offset = omega (arith, part, first);
        bytes = omega (arith, part, first);
        stride = fits.stride;
        count = omega (arith, div-le_self (length contents) stream.coding.stride, size);
      }) _
      (placed_kept 1 place.fallback (omega arith) (omega (arith, whole, second)) t h)

  views_kept : (views : List Stored) → Below (end (map length (parts views))) → Below (fallback_end views) → All Fits views → Keeps P (with_views views)
  unfolding with_views places
  views_kept views first second fits =
      let last = end (map length (parts views)) in
      let back = fallback_end views in
      member_kept P (codes "bufferViews") (with_items (change_each view_edit (view_edits views)))
      (all_changed P (λ v. Stands last back v × Fits v.0) view_edit (λ v h. stored_kept last back v.0.contents v.0.stream v.1 first second h.0 h.1) (view_edits views)
      (each_both (Stands last back) (λ v. Fits v.0) (view_edits views) (each_stands views) (each_zip Fits views (places views) (each_of_all Fits views fits))))

  buffers_by : (b : Bool) (size fallback : ℕ) → Below size → Below fallback → Keeps P (with_buffers_of (Some size) (fallback_if b fallback))
  unfolding with_one_buffer with_two_buffers
  buffers_by false size fallback low less = set_kept P (codes "buffers") (list (item (sized_buffer size) no_items)) ((small size low, tt), tt)
  buffers_by true size fallback low less =
      set_kept P (codes "buffers") (list (item (sized_buffer size) (item (fallback_buffer fallback) no_items))) ((small size low, tt), ((small fallback less, (((tt, tt), tt), tt)), tt))

  buffers_kept : (views : List Stored) → Below (end (map length (parts views))) → Below (fallback_end views) → Keeps P (with_buffers views)
  unfolding with_buffers buffer_length
  buffers_kept [] first second = removed_kept P (codes "buffers")
  buffers_kept (s ∷ views) first second = buffers_by (list_any is_stream (s ∷ views)) (end (map length (parts (s ∷ views)))) (fallback_end (s ∷ views)) first second

  name_kept : (key : List ℕ) → Keeps P (with_name_in key)
  name_kept key t h =
      set_kept P key (and_items (text extension_name ∷ []) (unwrap_or (find_member key t) (list no_items)))
      (added_kept P (text extension_name ∷ []) (tt, tt) (unwrap_or (find_member key t) (list no_items)) (found_or P key (list no_items) t tt h)) t h

  named_kept : (b : Bool) → Keeps P (named_if b)
  unfolding with_extension_named
  named_kept false t h = h
  named_kept true t h = name_kept (codes "extensionsRequired") (with_name_in (codes "extensionsUsed") t) (name_kept (codes "extensionsUsed") t h)

  views_stored_kept : (views : List Stored) → Below (end (map length (parts views))) → Below (fallback_end views) → All Fits views → Keeps P (with_stored views)
  unfolding with_stored with_names
  views_stored_kept views first second fits t h =
      named_kept (list_any is_stream views) (with_buffers views (with_views views t)) (buffers_kept views first second (with_views views t) (views_kept views first second fits t h))

  -- ---- all of them

  all_kept : (moved : List Moved) (a : AssetParts) → CanBeMoved moved a → ((at : ℕ) → Below (made_number moved a at)) → Keeps P (packed_tree moved a)
  unfolding packed_tree
  all_kept moved a can views t h =
      let grouped = with_groups_moved moved a t in
      let fits = made_views_fit moved a can.stand.each in
      views_stored_kept (output_views moved a) can.stand.first can.stand.second can.stand.each (with_made_views moved a grouped)
      (made_views_kept moved a fits grouped (groups_kept moved a (groups_fit moved a can) views t h))

pub numbers_fit : NumbersFit
unfolding packed
numbers_fit bytes out h small =
    let d = h.accepted.document in
    let a = h.accepted.asset in
    let contents = bytes_of_views a in
    let moved = moved_groups a contents in
    let may = may_be_packed bytes out small h in
    let few = few_output d a contents h.accepted.is_asset may.read in
    let Fine : List ℕ → Type 0 = λ s. Contains (numbers_in d.tree) s ⊎ IsSmallNumber s in
    let own : Each Fine (numbers_in d.tree) =
    each_is (Contains (numbers_in d.tree)) Fine (λ s k. inl k) (numbers_in d.tree) (each_of_all (Contains (numbers_in d.tree)) (numbers_in d.tree) (All-contains_itself (numbers_in d.tree))) in
    let kept = all_kept Fine (λ n low. inr (n, refl, low)) moved a (can_move bytes d a contents may) (λ at. view_below moved a at few) d.tree (of_numbers Fine d.tree own) in
    subst (λ (o : Document). WritesSmallNumbers d.tree o.tree) (sym (is_packed d a h.made h.is_made))
    (all_of_each Fine (numbers_in (packed_tree moved a d.tree)) (to_numbers Fine (packed_tree moved a d.tree) kept))
