-- Accessors (glTF 2.0, sections 3.6.2 and 5.1 to 5.4), what is wrong with them, and what they ask for together.
use Rattle.std.specs.Prelude.{ℕ, ◌+◌, ◌-◌, ◌*◌, ◌^◌, Bool, true, false, not, ◌||◌, ◌==◌, nat_lt, List, sum_by, slice_get, unwrap_or, Option, Some, None, option_map, option_and_then, Ok, Err}
use Rattle.gp_fields.specs.Fields.{AccessorFields}
use Rattle.gp_fields.specs.declared.sparse_fields.SparseFields.{SparseFields}
use Rattle.gp_rules.specs.declared.fault.AssetFault.TheVariants.{Accessor as BadAccessor}
use Rattle.gp_rules.specs.declared.accessing.Accessor.{Accessor}
use Rattle.gp_rules.specs.declared.accessing.Sparse.{Sparse}
use Rattle.gp_rules.specs.declared.accessing.Component.{Component}
use Rattle.gp_rules.specs.declared.accessing.Component.TheVariants.{U8, U16, U32}
use Rattle.gp_rules.specs.declared.accessing.Shape.{Shape}
use Rattle.gp_rules.specs.declared.storage.View.{View}
use Rattle.gp_rules.specs.Checks.{Checked, unless}
use Rattle.gp_rules.specs.Kinds.{component_of, shape_of}
use Rattle.gp_rules.specs.Sizes.{component_size, element_size, padded}

-- ---- what fields stand for, where their components and types are known

abbrev pub sparse_with : SparseFields → Option Component → Option Sparse
sparse_with s None = None
sparse_with s (Some component) = Some (record {
  count = s.count;
  index_view = s.indices.view;
  index_offset = s.indices.offset;
  index_component = component;
  value_view = s.values.view;
  value_offset = s.values.offset;
})

abbrev pub sparse_of : Option SparseFields → Option (Option Sparse)
sparse_of None = Some None
sparse_of (Some s) = option_map Some (sparse_with s (component_of s.indices.component))

abbrev pub accessor_with : AccessorFields → Option Component → Option Shape → Option (Option Sparse) → Option Accessor
accessor_with a (Some component) (Some shape) (Some sparse) = Some (record { view = a.view; offset = a.offset; component = component; shape = shape; count = a.count; sparse = sparse })
accessor_with a _ _ _ = None

unfoldable pub known_accessor : AccessorFields → Option Accessor
known_accessor a = accessor_with a (component_of a.component) (shape_of a.shape) (sparse_of a.sparse)

-- ---- what is wrong with one

abbrev pub size_of : Accessor → ℕ
size_of a = element_size a.component a.shape

-- from one element to the next
abbrev pub step : Accessor → View → ℕ
step a v = unwrap_or v.stride (size_of a)

-- the end of the last element
abbrev pub end_of : Accessor → View → ℕ
end_of a v = a.offset + (a.count - 1) * step a v + size_of a

abbrev pub runs_past : Accessor → Option View → Bool
runs_past a None = false
runs_past a (Some v) = nat_lt v.length (end_of a v)

abbrev pub view_at : List View → Option ℕ → Option View
view_at views at = option_and_then (slice_get views) at

-- how many bytes a view has
abbrev pub view_length : List View → ℕ → ℕ
view_length views at = unwrap_or (option_map (λ (v : View). v.length) (slice_get views at)) 0

-- a component that numbers elements
abbrev pub is_index : Component → Bool
is_index U8 = true
is_index U16 = true
is_index U32 = true
is_index _ = false

-- places and values stand without gaps
abbrev pub is_bad_sparse : List View → Accessor → Option Sparse → Bool
is_bad_sparse views a None = false
is_bad_sparse views a (Some s) =
    (s.count == 0 || nat_lt a.count s.count)
    || not (is_index s.index_component)
    || nat_lt (view_length views s.index_view) (s.index_offset + s.count * component_size s.index_component)
    || nat_lt (view_length views s.value_view) (s.value_offset + s.count * size_of a)

unfoldable pub is_bad_accessor : List View → Accessor → Bool
is_bad_accessor views a = (a.count == 0 || runs_past a (view_at views a.view)) || is_bad_sparse views a a.sparse

abbrev pub accepted : List View → ℕ → Option Accessor → Checked Accessor
accepted views at None = Err (BadAccessor at)
accepted views at (Some a) = unless (is_bad_accessor views a) (BadAccessor at) (Ok a)

unfoldable pub accessor_of : List View → ℕ → AccessorFields → Checked Accessor
accessor_of views at a = accepted views at (known_accessor a)

-- ---- what views and accessors ask for together

abbrev pub padded_load : Accessor → ℕ
padded_load a = a.count * padded (size_of a)

-- the bytes of the views, and those of the elements with each element padded to a multiple of 4
unfoldable pub load : List View → List Accessor → ℕ
load views accessors = sum_by (λ (v : View). v.length) views + sum_by padded_load accessors

abbrev pub is_too_much : List View → List Accessor → Bool
is_too_much views accessors = nat_lt (2 ^ 31) (load views accessors)
