-- The text of a small asset, by computing.
use Rattle.std.proofs.Common.{◌≡◌, ℕ, true, false, List, [], ◌∷◌, ◌++◌, Option, Some, None, codes, decimal, refl, arith, ap, ◌∙◌}
use Rattle.std.proofs.lemmas.Fmt.{decimal_digit}
use Rattle.std.specs.List.{flat_map}
use Rattle.gp_rules.specs.declared.accessing.Accessor.{Accessor}
use Rattle.gp_rules.specs.declared.accessing.Component.{Component}
use Rattle.gp_rules.specs.declared.accessing.Component.TheVariants.{U8, U16}
use Rattle.gp_rules.specs.declared.accessing.Shape.{Shape}
use Rattle.gp_rules.specs.declared.accessing.Shape.TheVariants.{Scalar, Vec3}
use Rattle.gp_rules.specs.declared.storage.View.{View}
use Rattle.gp_asset.specs.declared.geometry.Primitive.{Primitive}
use Rattle.gp_asset.specs.Asset.{AssetParts}
use Rattle.gp_asset.specs.Uses.{uses_of_all}
use Rattle.gp_elements.specs.Elements.{base_elements}
use Rattle.gp_unpack.specs.Unpacked.{former_streams}
use Rattle.gp_alias.specs.declared.group.Group.{Group}
use Rattle.gp_alias.specs.Groups.{gathered, rising}
use Rattle.gp_alias.specs.Classes.{classes}
use Rattle.gp_alias.specs.Movable.{is_column, is_triangle_list, has_vertices, is_movable, groups}
use Rattle.gp_alias.specs.Plain.{list_in, list_of}
use Rattle.gp_cache.specs.Misses.{misses, lines}
use Rattle.gp_analyse.specs.Text.{line_if_triangles, totals, report}

-- ---- four vertices of three numbers of 2 bytes, 8 bytes apart, and the list of two triangles; a primitive without attributes

abbrev view : ℕ → Option ℕ → View
view length stride = record { buffer = 0; offset = 0; length = length; stride = stride; packed = None }

abbrev accessor : ℕ → Component → Shape → ℕ → Accessor
accessor view component shape count = record { view = Some view; offset = 0; component = component; shape = shape; count = count; sparse = None }

abbrev square : Primitive
square = record { mesh = 0; at = 0; mode = 4; attributes = record { name = codes "POSITION"; accessor = 0 } ∷ []; targets = []; indices = Some 1 }

abbrev empty : Primitive
empty = record { mesh = 2; at = 1; mode = 4; attributes = []; targets = []; indices = None }

abbrev points : Primitive
points = record { mesh = 2; at = 0; mode = 0; attributes = []; targets = []; indices = None }

abbrev small : AssetParts
small = record {
  buffers = [];
  views = view 32 (Some 8) ∷ view 6 None ∷ [];
  accessors = accessor 0 U16 Vec3 4 ∷ accessor 1 U8 Scalar 6 ∷ [];
  primitives = square ∷ points ∷ empty ∷ [];
  uses = uses_of_all (square ∷ points ∷ empty ∷ []) [] [];
  images = [];
  closed = true;
}

abbrev contents : List (List ℕ)
contents =
    (0 ∷ 0 ∷ 0 ∷ 0 ∷ 0 ∷ 0 ∷ 0 ∷ 0 ∷ 1 ∷ 0 ∷ 0 ∷ 0 ∷ 0 ∷ 0 ∷ 0 ∷ 0 ∷ 1 ∷ 0 ∷ 1 ∷ 0 ∷ 0 ∷ 0 ∷ 0 ∷ 0 ∷ 0 ∷ 0 ∷ 1 ∷ 0 ∷ 0 ∷ 0 ∷ 0 ∷ 0 ∷ [])
    ∷ (0 ∷ 1 ∷ 2 ∷ 0 ∷ 2 ∷ 3 ∷ [])
    ∷ []

-- ---- its lines

zero : decimal 0 ≡ codes "0"
zero = decimal_digit 0 (omega arith)

one : decimal 1 ≡ codes "1"
one = decimal_digit 1 (omega arith)

two : decimal 2 ≡ codes "2"
two = decimal_digit 2 (omega arith)

four : decimal 4 ≡ codes "4"
four = decimal_digit 4 (omega arith)

square_drawn : list_of small contents square ≡ Some (0 ∷ 1 ∷ 2 ∷ 0 ∷ 2 ∷ 3 ∷ [])
unfolding list_in base_elements
square_drawn = refl

its_misses : misses (0 ∷ 1 ∷ 2 ∷ 0 ∷ 2 ∷ 3 ∷ []) ≡ 4
unfolding misses
its_misses = refl

-- each vertex takes 8 bytes, so all are in one line of 64
its_lines : lines (0 ∷ 1 ∷ 2 ∷ 0 ∷ 2 ∷ 3 ∷ []) 8 ≡ 1
unfolding lines misses
its_lines = refl

square_line : line_if_triangles small contents square ≡ codes "mesh 0 primitive 0 vertices 4 triangles 2 misses 4 lines 1\n"
square_line = rw (square_drawn, its_misses, its_lines, zero, four, two, one) refl

no_line : line_if_triangles small contents points ≡ []
no_line = refl

empty_line : line_if_triangles small contents empty ≡ codes "mesh 2 primitive 1 not a plain list\n"
empty_line = rw (two, one) refl

-- ---- its groups

abbrev square_group : Group
square_group = record { primitives = 0 ∷ []; columns = 0 ∷ []; lists = 1 ∷ []; bare = false; count = 4; movable = true }

abbrev empty_group : Group
empty_group = record { primitives = 2 ∷ []; columns = []; lists = []; bare = true; count = 0; movable = false }

two_groups : groups small contents ≡ square_group ∷ empty_group ∷ []
unfolding groups classes gathered rising is_movable is_column is_triangle_list has_vertices base_elements uses_of_all
two_groups = refl

its_totals : totals (square_group ∷ empty_group ∷ []) small ≡ codes "groups 2 movable 1 views 2 packed 0\n"
unfolding former_streams
its_totals = rw (two, one, zero) refl

-- ---- the text

whole_text : report small contents
    ≡ codes "mesh 0 primitive 0 vertices 4 triangles 2 misses 4 lines 1\nmesh 2 primitive 1 not a plain list\ngroups 2 movable 1 views 2 packed 0\n"
unfolding report
whole_text =
    let square_first = ap (λ first. first ++ (line_if_triangles small contents points ++ (line_if_triangles small contents empty ++ []))) square_line in
    let then_empty = ap (λ second. codes "mesh 0 primitive 0 vertices 4 triangles 2 misses 4 lines 1\n" ++ (second ++ [])) empty_line in
    ap (λ all. flat_map (line_if_triangles small contents) small.primitives ++ totals all small) two_groups
    ∙ ap (λ last. flat_map (line_if_triangles small contents) small.primitives ++ last) its_totals
    ∙ ap (λ lines. lines ++ codes "groups 2 movable 1 views 2 packed 0\n") (square_first ∙ then_empty)
