-- The records of a group that moves are bytes.
use Rattle.std.proofs.Common.{◌≡◌, ℕ, ◌+◌, ◌*◌, ◌<◌, Bool, true, false, List, [], ◌∷◌, length, get_or, drop, replicate, Option, Some, None, refl, subst, arith}
use Rattle.std.specs.Prelude.{slice_get, unwrap_or}
use Rattle.std.specs.List.{All, flat_map}
use Rattle.std.proofs.lemmas.List.{get_or_default}
use Rattle.std.proofs.lemmas.List.Elements.{All-nil, All-append, All-replicate, All-take, All-drop, All-contains}
use Rattle.std.proofs.lemmas.Option.{slice_get_within, get_or_from_slice_get, unwrap_or-slice_get}
use Rattle.gp_rules.specs.declared.accessing.Accessor.{Accessor}
use Rattle.gp_rules.specs.declared.accessing.Sparse.{Sparse}
use Rattle.gp_rules.specs.declared.storage.View.{View}
use Rattle.gp_rules.specs.Accessors.{size_of}
use Rattle.gp_asset.specs.Asset.{AssetParts}
use Rattle.gp_asset.specs.Contents.{part}
use Rattle.gp_elements.specs.Elements.{element_at, stride_of, content_at, stride_at, base_elements, zero_elements, items_in, indices_in, values_in, with_sparse}
use Rattle.gp_elements.specs.Listed.{slices}
use Rattle.gp_elements.specs.Resolving.{is_resolvable, place_of, element_by, resolved}
use Rattle.gp_alias.specs.declared.group.Group.{Group}
use Rattle.gp_alias.specs.Movable.{items_of}
use Rattle.gp_alias.specs.Records.{item_of, accessors_at, vertex_record, records}
use Rattle.gp_packed.specs.StoredParts.{AreBytes}
use Rattle.gp_kept.specs.TrianglesMoved.{MovedGroupHasBytes}
use Rattle.gp_packed.specs.MovedGroups.{ordered_group}
use Rattle.gp_kept.proofs.SizedElements.{all_mapped}
use Rattle.gp_kept.proofs.RecordsMoved.{new_records_kept}

no_bytes : AreBytes []
no_bytes = All-nil (λ byte. byte < 256)

-- one of some lists of bytes, or none
found_bytes : (all : List (List ℕ)) (at : ℕ) → All AreBytes all → AreBytes (unwrap_or (slice_get all at) [])
found_bytes all at bytes = by_found (slice_get all at) refl
  where
    by_found : (o : Option (List ℕ)) → slice_get all at ≡ o → AreBytes (unwrap_or o [])
    by_found None there = no_bytes
    by_found (Some b) there = subst AreBytes (get_or_from_slice_get all at b b there) (bytes at b (slice_get_within all at b there))

part_bytes : (bytes : List ℕ) (offset size : ℕ) → AreBytes bytes → AreBytes (part bytes offset size)
part_bytes bytes offset size small = All-take (λ byte. byte < 256) size (drop offset bytes) (All-drop (λ byte. byte < 256) offset bytes small)

module _ (views : List View) (contents : List (List ℕ)) (x : Accessor) (small : All AreBytes contents) where
  base_bytes : (view : Option ℕ) → All AreBytes (items_in views contents x view)
  unfolding base_elements zero_elements
  base_bytes None = All-replicate AreBytes x.count (replicate {A = ℕ} (size_of x) 0) (All-replicate (λ byte. byte < 256) (size_of x) 0 (omega arith))
  base_bytes (Some at) =
      let bytes = content_at contents at in
      let stride = stride_of x (stride_at views at) in
      all_mapped AreBytes (element_at bytes x stride) x.count (λ i below. part_bytes bytes (x.offset + i * stride) (size_of x) (found_bytes contents at small))

  values_bytes : (s : Sparse) → All AreBytes (values_in contents x s)
  unfolding slices
  values_bytes s =
      let bytes = content_at contents s.value_view in
      let size = size_of x in
      all_mapped AreBytes (λ i. part bytes (s.value_offset + i * size) size) s.count (λ i below. part_bytes bytes (s.value_offset + i * size) size (found_bytes contents s.value_view small))

  element_bytes : (base values : List (List ℕ)) (i : ℕ) → All AreBytes base → All AreBytes values → (place : Option ℕ) → AreBytes (element_by base values i place)
  element_bytes base values i of_base of_values None = subst AreBytes (unwrap_or-slice_get base i []) (found_bytes base i of_base)
  element_bytes base values i of_base of_values (Some place) = subst AreBytes (unwrap_or-slice_get values place []) (found_bytes values place of_values)

  by_sparse : (sparse : Option Sparse) → All AreBytes (with_sparse (items_in views contents x x.view) contents x sparse).items
  unfolding resolved
  by_sparse None = base_bytes x.view
  by_sparse (Some s) = by_test (is_resolvable x.count (indices_in contents s)) refl
    where
      by_test : (b : Bool) → is_resolvable x.count (indices_in contents s) ≡ b → All AreBytes (with_sparse (items_in views contents x x.view) contents x (Some s)).items
      by_test true test = rw test (all_mapped AreBytes (λ i. element_by (items_in views contents x x.view) (values_in contents x s) i (place_of (indices_in contents s) i)) (length (items_in views contents x x.view))
          (λ i below. element_bytes (items_in views contents x x.view) (values_in contents x s) i (base_bytes x.view) (values_bytes s) (place_of (indices_in contents s) i)))
      by_test false test = rw test (base_bytes x.view)

joined_bytes : (f : Accessor → List ℕ) (xs : List Accessor) → ((x : Accessor) → AreBytes (f x)) → AreBytes (flat_map f xs)
joined_bytes f [] small = no_bytes
joined_bytes f (x ∷ xs) small = All-append (λ byte. byte < 256) (f x) (flat_map f xs) (small x) (joined_bytes f xs small)

old_bytes : (a : AssetParts) (contents : List (List ℕ)) (g : Group) → All AreBytes contents → All AreBytes (records a contents g)
unfolding records
old_bytes a contents g small =
    all_mapped AreBytes (vertex_record a contents g.columns) g.count (λ i below.
    joined_bytes (item_of a contents i) (accessors_at a g.columns) (λ x. found_bytes (items_of a contents x) i (by_sparse a.views contents x small x.sparse)))

pub moved_group_has_bytes : MovedGroupHasBytes
moved_group_has_bytes a contents g list_accessor movable small i d below =
    let new = (ordered_group a contents g).records in
    let r = get_or new i d in
    All-contains AreBytes (records a contents g) r (old_bytes a contents g small) (((new_records_kept a contents g movable).same_set r).0 (i, below, get_or_default new i r d below))
