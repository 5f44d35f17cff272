-- The document in which strips and fans are lists of triangles, and every view is unpacked.
use Rattle.std.specs.Prelude.{ℕ, ◌+◌, ◌*◌, ◌&&◌, ◌==◌, List, [], ◌∷◌, ◌++◌, map, filter_map, flat_map, length, take, slice_get, Option, None, option_map, option_and_then, Result, Ok, Err}
use Rattle.std.specs.List.{position_or_len}
use Rattle.gp_tree.specs.Plain.{PlainTree}
use Rattle.gp_groups.specs.Sequence.{le_bytes}
use Rattle.gp_rules.specs.Sizes.{padded}
use Rattle.gp_asset.specs.declared.purpose.Form.TheVariants.{Any}
use Rattle.gp_asset.specs.declared.geometry.Primitive.{Primitive}
use Rattle.gp_asset.specs.Asset.{AssetParts}
use Rattle.gp_layout.specs.Layout.{end}
use Rattle.gp_layout.specs.Row.{laid_buffer, buffer_length}
use Rattle.gp_edits.specs.Edits.{with_buffers_of}
use Rattle.gp_moves.specs.declared.made.MadeList.{MadeList}
use Rattle.gp_moves.specs.MadeTrees.{list_tree}
use Rattle.gp_document.specs.Document.{Document}
use Rattle.gp_document.specs.Operation.{Made, Hindrance, faulty_stream, Operation}
use Rattle.gp_unpack.specs.Contents.{FaultyView, all_contents}
use Rattle.gp_unpack.specs.Unpacked.{unpacked_views}
use Rattle.gp_strips.specs.declared.editing.ListView.{ListView}
use Rattle.gp_strips.specs.Listed.{triangles_of}
use Rattle.gp_strips.specs.ListedTree.{with_accessors, with_primitives, view_tree, with_views}

-- ---- the lists that are written

-- of each primitive, by its place, the list written for it, if one is
abbrev pub all_lists : AssetParts → List (List ℕ) → List (Option (List ℕ))
all_lists a contents = map (triangles_of a contents) a.primitives

-- those that are written, in the order of their primitives
abbrev pub made_lists : List (Option (List ℕ)) → List (List ℕ)
made_lists lists = filter_map (λ l. l) lists

-- four bytes a corner, the lowest first
abbrev pub list_bytes : List ℕ → List ℕ
list_bytes corners = flat_map (le_bytes 4) corners

-- the contents of all views of the output: first those of the input
abbrev pub output_contents : List (List ℕ) → List (List ℕ) → List (List ℕ)
output_contents contents made = contents ++ map list_bytes made

-- ---- buffer views (section 5.11)

-- of these lists in the one buffer, behind so many bytes: each at the next multiple of 4
abbrev pub list_views : ℕ → List (List ℕ) → List ListView
list_views at [] = []
list_views at (corners ∷ made) = record { offset = padded at; length = 4 * length corners } ∷ list_views (padded at + 4 * length corners) made

-- ---- accessors (section 5.1)

-- each list has a view of its own, behind so many, and numbers of four bytes
abbrev pub list_accessors : ℕ → List (List ℕ) → List MadeList
list_accessors view [] = []
list_accessors view (corners ∷ made) = record { view = view; component = 5125; count = length corners } ∷ list_accessors (view + 1) made

-- ---- primitives (section 5.24)

-- the place among all of a primitive of a mesh
abbrev pub primitive_place : List Primitive → ℕ → ℕ → ℕ
primitive_place primitives mesh at = position_or_len (λ (p : Primitive). p.mesh == mesh && p.at == at) primitives

-- the number of the accessor that is appended for the primitive with this place, if one is: behind so many, and behind those of the
-- primitives before it
abbrev pub accessor_number : ℕ → List (Option (List ℕ)) → ℕ → Option ℕ
accessor_number accessors lists at = option_map (λ corners. accessors + length (made_lists (take at lists))) (option_and_then (λ l. l) (slice_get lists at))

-- the number of the accessor of a primitive of a mesh
abbrev pub accessor_of : AssetParts → List (Option (List ℕ)) → ℕ → ℕ → Option ℕ
accessor_of a lists mesh at = accessor_number (length a.accessors) lists (primitive_place a.primitives mesh at)

-- ---- the document

-- with these lists for its primitives
abbrev pub tree_with : AssetParts → List (List ℕ) → List (Option (List ℕ)) → PlainTree → PlainTree
tree_with a contents lists root =
    with_buffers_of (buffer_length (output_contents contents (made_lists lists))) None
    (with_views (map view_tree (list_views (end (map length contents)) (made_lists lists)))
    (with_primitives (accessor_of a lists)
    (with_accessors (map list_tree (list_accessors (length a.views) (made_lists lists)))
    (unpacked_views contents root))))

unfoldable pub listed_tree : AssetParts → List (List ℕ) → PlainTree → PlainTree
listed_tree a contents root = tree_with a contents (all_lists a contents) root

unfoldable pub listed : AssetParts → List (List ℕ) → Document → Document
listed a contents document = record {
  tree = listed_tree a contents document.tree;
  bin = laid_buffer (output_contents contents (made_lists (all_lists a contents)));
  rest = document.rest;
}

-- ---- the operation

-- with the number of its views, and how many primitives became lists
abbrev pub made_of : AssetParts → List (List ℕ) → Document → Made
made_of a contents document = record {
  document = listed a contents document;
  views = length a.views + length (made_lists (all_lists a contents));
  streams = length (made_lists (all_lists a contents));
}

-- of the contents of its views, or of the fault of a stream
abbrev pub made_with : Document → AssetParts → Result (List (List ℕ)) FaultyView → Result Made Hindrance
made_with document a (Err faulty) = Err (faulty_stream faulty.view faulty.fault)
made_with document a (Ok contents) = Ok (made_of a contents document)

unfoldable pub listed_or : Document → AssetParts → Result Made Hindrance
listed_or document a = made_with document a (all_contents a)

abbrev pub listing : Operation
listing = record { form = Any; make = listed_or }
