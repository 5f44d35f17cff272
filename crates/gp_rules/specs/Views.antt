-- Buffer views (glTF 2.0, section 5.11), their compressed forms (EXT_meshopt_compression), and what is wrong with them.
use Prim.Native.String.{String}
use Rattle.std.specs.Prelude.{ℕ, ◌+◌, ◌*◌, ◌%◌, Bool, true, not, ◌&&◌, ◌||◌, ◌==◌, nat_lt, nat_le, List, [], ◌∷◌, slice_get, unwrap_or, is_none, Option, Some, None, option_map, Ok, Err, codes}
use Rattle.std.specs.List.{list_any}
use Rattle.gp_tree.specs.Find.{is_named}
use Rattle.gp_fields.specs.Fields.{BufferFields, ViewFields, PackedFields}
use Rattle.gp_rules.specs.declared.fault.AssetFault.TheVariants.{View as BadView, Extension, Filter}
use Rattle.gp_rules.specs.declared.storage.View.{View}
use Rattle.gp_rules.specs.declared.storage.Packed.{Packed}
use Rattle.gp_rules.specs.declared.storage.StreamMode.{StreamMode}
use Rattle.gp_rules.specs.declared.storage.StreamMode.TheVariants.{Attributes, Triangles, Indices}
use Rattle.gp_fields.specs.Record.{◌>>=◌}
use Rattle.gp_rules.specs.Checks.{Checked, unless}
use Rattle.gp_rules.specs.Kinds.{mode_of}

-- what a buffer says of its length
abbrev pub buffer_length : List BufferFields → ℕ → ℕ
buffer_length buffers at = unwrap_or (option_map (λ (b : BufferFields). b.length) (slice_get buffers at)) 0

-- ends behind its buffer
abbrev pub runs_past : List BufferFields → ℕ → ℕ → ℕ → Bool
runs_past buffers at offset length = nat_lt (buffer_length buffers at) (offset + length)

-- a multiple of 4, from 4 to the most
abbrev pub is_stride : ℕ → ℕ → Bool
is_stride most s = (s % 4 == 0 && nat_le 4 s) && nat_le s most

abbrev pub is_stride_of_view : Option ℕ → Bool
is_stride_of_view None = true
is_stride_of_view (Some s) = is_stride 252 s

-- empty, of another stride, or past its buffer where its bytes are there
unfoldable pub is_bad_view : List BufferFields → ViewFields → Bool
is_bad_view buffers v =
    (v.length == 0 || not (is_stride_of_view v.stride))
    || (is_none v.packed && runs_past buffers v.buffer v.offset v.length)

-- ---- the compressed form

abbrev pub filters : List String
filters = "NONE" ∷ "OCTAHEDRAL" ∷ "QUATERNION" ∷ "EXPONENTIAL" ∷ []

abbrev pub is_filter : List ℕ → Bool
is_filter spelling = list_any (λ name. is_named (codes name) spelling) filters

-- the size of an element, and the number of elements, by mode
abbrev pub is_stride_in : StreamMode → ℕ → Bool
is_stride_in Attributes s = is_stride 256 s
is_stride_in Triangles s = s == 2 || s == 4
is_stride_in Indices s = s == 2 || s == 4

abbrev pub is_count_in : StreamMode → ℕ → Bool
is_count_in Triangles count = count % 3 == 0
is_count_in _ count = true

-- a stride of the view's own is that of the extension object
abbrev pub agrees : Option ℕ → ℕ → Bool
agrees None s = true
agrees (Some own) s = own == s

unfoldable pub is_bad_packed : List BufferFields → ViewFields → PackedFields → StreamMode → Bool
is_bad_packed buffers v p mode =
    (not (is_filter p.filter) || p.count == 0)
    || (not (is_stride_in mode p.stride) || not (is_count_in mode p.count))
    || (not (p.stride * p.count == v.length) || not (agrees v.stride p.stride))
    || runs_past buffers p.buffer p.offset p.length

-- it has a known mode, breaks no rule, and has no filter
abbrev pub packed_with : List BufferFields → ℕ → ViewFields → PackedFields → Option StreamMode → Checked (Option Packed)
packed_with buffers at v p None = Err (Extension at)
packed_with buffers at v p (Some mode) =
    unless (is_bad_packed buffers v p mode) (Extension at)
    (unless (not (is_named (codes "NONE") p.filter)) (Filter at)
    (Ok (Some (record { buffer = p.buffer; offset = p.offset; length = p.length; stride = p.stride; count = p.count; mode = mode }))))

abbrev pub packed_of : List BufferFields → ℕ → ViewFields → Option PackedFields → Checked (Option Packed)
packed_of buffers at v None = Ok None
packed_of buffers at v (Some p) = packed_with buffers at v p (mode_of p.mode)

-- ---- the view

unfoldable pub view_of : List BufferFields → ℕ → ViewFields → Checked View
view_of buffers at v = unless (is_bad_view buffers v) (BadView at) (do
  packed ← packed_of buffers at v v.packed
  Ok (record { buffer = v.buffer; offset = v.offset; length = v.length; stride = v.stride; packed = packed }))
