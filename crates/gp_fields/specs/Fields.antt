-- The fields that an asset is read from (glTF 2.0, section 5, and EXT_meshopt_compression): one row a field.
use Rattle.std.specs.Prelude.{ℕ, List, [], ◌∷◌, map, Option, Some, option_map, option_and_then, codes}
use Rattle.gp_tree.specs.Plain.{PlainTree, members, no_members}
use Rattle.gp_tree.specs.Find.{PlainMember, object_members}
use Rattle.gp_tree.specs.Values.{whole}
use Rattle.gp_fields.specs.declared.geometry.Entry.{Entry}
use Rattle.gp_fields.specs.declared.geometry.PrimitiveFields.{PrimitiveFields}
use Rattle.gp_fields.specs.declared.sampling.SamplerFields.{SamplerFields}
use Rattle.gp_fields.specs.declared.sparse_fields.SparseFields.{SparseFields}
use Rattle.gp_fields.specs.declared.sparse_fields.SparseIndicesFields.{SparseIndicesFields}
use Rattle.gp_fields.specs.declared.sparse_fields.SparseValuesFields.{SparseValuesFields}
use Rattle.gp_fields.specs.Shapes.{Shaped, ◌>>=◌, object_of, an_object, a_text, list_of, reference, required, optional, defaulted}

abbrev pub empty_object : PlainTree
empty_object = members no_members

abbrev pub key_of : PlainMember → List ℕ
key_of m = m.0

-- ---- a buffer (section 5.10), with the names of its extensions

pub record BufferFields : Type 0 where
  pub length : ℕ
  pub uri : Option (List ℕ)
  pub extensions : List (List ℕ)

abbrev pub buffer_fields : Shaped BufferFields
buffer_fields b = do
  length ← required b (codes "byteLength") whole
  uri ← optional b (codes "uri") a_text
  extensions ← defaulted b (codes "extensions") empty_object an_object
  Some (record { length = length; uri = uri; extensions = map key_of (object_members extensions) })

-- ---- a buffer view (section 5.11), and the extension object of a compressed one

pub record PackedFields : Type 0 where
  pub buffer : ℕ
  pub offset : ℕ
  pub length : ℕ
  pub stride : ℕ
  pub count : ℕ
  pub mode : List ℕ
  pub filter : List ℕ

abbrev pub packed_fields : ℕ → Shaped PackedFields
packed_fields buffers p = do
  buffer ← required p (codes "buffer") (reference buffers)
  length ← required p (codes "byteLength") whole
  stride ← required p (codes "byteStride") whole
  count ← required p (codes "count") whole
  offset ← defaulted p (codes "byteOffset") 0 whole
  mode ← required p (codes "mode") a_text
  filter ← defaulted p (codes "filter") (codes "NONE") a_text
  Some (record { buffer = buffer; offset = offset; length = length; stride = stride; count = count; mode = mode; filter = filter })

-- that of a buffer view, where it has one
abbrev pub packed_of : ℕ → Shaped (Option PackedFields)
packed_of buffers v = do
  extensions ← defaulted v (codes "extensions") empty_object an_object
  optional extensions (codes "EXT_meshopt_compression") (object_of (packed_fields buffers))

pub record ViewFields : Type 0 where
  pub buffer : ℕ
  pub offset : ℕ
  pub length : ℕ
  pub stride : Option ℕ
  pub packed : Option PackedFields

abbrev pub view_fields : ℕ → Shaped ViewFields
view_fields buffers v = do
  buffer ← required v (codes "buffer") (reference buffers)
  length ← required v (codes "byteLength") whole
  offset ← defaulted v (codes "byteOffset") 0 whole
  stride ← optional v (codes "byteStride") whole
  packed ← packed_of buffers v
  Some (record { buffer = buffer; offset = offset; length = length; stride = stride; packed = packed })

-- ---- an accessor (sections 5.1 to 5.4): the component by its number, the type of an element by its name

abbrev pub sparse_indices_fields : ℕ → Shaped SparseIndicesFields
sparse_indices_fields views i = do
  view ← required i (codes "bufferView") (reference views)
  offset ← defaulted i (codes "byteOffset") 0 whole
  component ← required i (codes "componentType") whole
  Some (record { view = view; offset = offset; component = component })

abbrev pub sparse_values_fields : ℕ → Shaped SparseValuesFields
sparse_values_fields views v = do
  view ← required v (codes "bufferView") (reference views)
  offset ← defaulted v (codes "byteOffset") 0 whole
  Some (record { view = view; offset = offset })

abbrev pub sparse_fields : ℕ → Shaped SparseFields
sparse_fields views s = do
  count ← required s (codes "count") whole
  indices ← required s (codes "indices") (object_of (sparse_indices_fields views))
  values ← required s (codes "values") (object_of (sparse_values_fields views))
  Some (record { count = count; indices = indices; values = values })

pub record AccessorFields : Type 0 where
  pub view : Option ℕ
  pub offset : ℕ
  pub component : ℕ
  pub shape : List ℕ
  pub count : ℕ
  pub sparse : Option SparseFields

abbrev pub accessor_fields : ℕ → Shaped AccessorFields
accessor_fields views a = do
  view ← optional a (codes "bufferView") (reference views)
  offset ← defaulted a (codes "byteOffset") 0 whole
  component ← required a (codes "componentType") whole
  count ← required a (codes "count") whole
  shape ← required a (codes "type") a_text
  sparse ← optional a (codes "sparse") (object_of (sparse_fields views))
  Some (record { view = view; offset = offset; component = component; shape = shape; count = count; sparse = sparse })

-- ---- a mesh (sections 5.23 and 5.24)

-- members that are all references to accessors
abbrev pub entry_of : ℕ → PlainMember → Option Entry
entry_of accessors m = option_map (λ at. record { name = m.0; accessor = at }) (reference accessors m.1)

abbrev pub entries_of : ℕ → List PlainMember → Option (List Entry)
entries_of accessors [] = Some []
entries_of accessors (m ∷ ms) = option_and_then (λ e. option_map (λ rest. e ∷ rest) (entries_of accessors ms)) (entry_of accessors m)

abbrev pub entries_fields : ℕ → Shaped (List Entry)
entries_fields accessors t = entries_of accessors (object_members t)

-- mode 4 is a list of triangles
abbrev pub primitive_fields : ℕ → Shaped PrimitiveFields
primitive_fields accessors p = do
  attributes ← required p (codes "attributes") (object_of (entries_fields accessors))
  indices ← optional p (codes "indices") (reference accessors)
  mode ← defaulted p (codes "mode") 4 whole
  targets ← defaulted p (codes "targets") [] (list_of (object_of (entries_fields accessors)))
  Some (record { mode = mode; attributes = attributes; targets = targets; indices = indices })

abbrev pub mesh_fields : ℕ → Shaped (List PrimitiveFields)
mesh_fields accessors m = required m (codes "primitives") (list_of (object_of (primitive_fields accessors)))

-- ---- a skin (section 5.28), an animation (sections 5.5 and 5.8) and an image (section 5.18)

abbrev pub skin_fields : ℕ → Shaped (Option ℕ)
skin_fields accessors s = optional s (codes "inverseBindMatrices") (reference accessors)

abbrev pub sampler_fields : ℕ → Shaped SamplerFields
sampler_fields accessors s = do
  input ← required s (codes "input") (reference accessors)
  output ← required s (codes "output") (reference accessors)
  Some (record { input = input; output = output })

abbrev pub animation_fields : ℕ → Shaped (List SamplerFields)
animation_fields accessors a = required a (codes "samplers") (list_of (object_of (sampler_fields accessors)))

abbrev pub image_fields : ℕ → Shaped (Option ℕ)
image_fields views i = optional i (codes "bufferView") (reference views)
