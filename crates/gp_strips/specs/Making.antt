-- Lists that were made, with their views and accessors. These are helpers' words: no public contract cites them.
use Rattle.std.specs.Prelude.{◌≡◌, ℕ, ◌+◌, ◌*◌, List, [], ◌∷◌, ◌++◌, flat_map, length, take, drop, Option, Some, None}
use Rattle.gp_rules.specs.Sizes.{padded}
use Rattle.gp_asset.specs.Asset.{AssetParts}
use Rattle.gp_moves.specs.declared.made.MadeList.{MadeList}
use Rattle.gp_moves.specs.MadeTrees.{list_at}
use Rattle.gp_strips.specs.declared.editing.ListView.{ListView}
use Rattle.gp_strips.specs.declared.making.ListRow.{ListRow}
use Rattle.gp_strips.specs.declared.making.MadeLists.{MadeLists}
use Rattle.gp_strips.specs.declared.mesh_tables.MeshRow.{MeshRow}
use Rattle.gp_strips.specs.ListedDocument.{all_lists, made_lists, list_bytes, list_views, list_accessors, accessor_number, accessor_of}
use Rattle.gp_strips.specs.MeshRows.{rows, no_rows, laid}

-- where a row begins, how many views and accessors there are before it, and what is in it
pub record RowParts : Type 0 where
  pub start : ℕ
  pub view : ℕ
  pub accessor : ℕ
  pub bytes : List ℕ
  pub views : List ListView
  pub accessors : List MadeList

abbrev pub parts_of : ListRow → RowParts
parts_of r = record { start = r.start; view = r.views_before; accessor = r.accessors_before; bytes = r.bytes.items; views = r.views.items; accessors = r.accessors.items }

-- a list more
abbrev pub with_list : RowParts → List ℕ → RowParts
with_list r corners = record {
  start = r.start;
  view = r.view;
  accessor = r.accessor;
  bytes = r.bytes ++ list_bytes corners;
  views = r.views ++ record { offset = r.start + length r.bytes; length = 4 * length corners } ∷ [];
  accessors = r.accessors ++ record { view = r.view + length r.views; component = 5125; count = length corners } ∷ [];
}

abbrev pub with_list_if : RowParts → Option (List ℕ) → RowParts
with_list_if r None = r
with_list_if r (Some corners) = with_list r corners

-- the accessor of the next list
abbrev pub next_accessor : RowParts → ℕ
next_accessor r = r.accessor + length r.accessors

-- the row of these lists, behind so many bytes, views and accessors
abbrev pub row_of : ℕ → ℕ → ℕ → List (List ℕ) → RowParts
row_of before view accessor made = record {
  start = padded before;
  view = view;
  accessor = accessor;
  bytes = flat_map list_bytes made;
  views = list_views before made;
  accessors = list_accessors view made;
}

-- the lists of the first primitives are made, and the numbers of their accessors stand by mesh
pub record IsBegun (a : AssetParts) (contents : List (List ℕ)) (before : ℕ) (r : ListRow) (m : MeshRow) (at : ℕ) : Type 0 where
  pub row : parts_of r ≡ row_of before (length a.views) (length a.accessors) (made_lists (take at (all_lists a contents)))
  pub meshes : laid (accessor_number (length a.accessors) (all_lists a contents)) (rows m) at (drop at a.primitives)
      ≡ laid (accessor_number (length a.accessors) (all_lists a contents)) no_rows 0 a.primitives

-- all lists of an asset are made
pub record AreMade (a : AssetParts) (contents : List (List ℕ)) (before : ℕ) (m : MadeLists) : Type 0 where
  pub row : parts_of m.row ≡ row_of before (length a.views) (length a.accessors) (made_lists (all_lists a contents))
  pub meshes : (mesh at : ℕ) → list_at m.meshes.items mesh at ≡ accessor_of a (all_lists a contents) mesh at
