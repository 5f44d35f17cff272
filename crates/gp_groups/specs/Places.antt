-- Where the bytes of elements stand that follow one another.
use Rattle.std.specs.Prelude.{ℕ, ◌+◌, ◌*◌, List, slice_index}

-- byte p of element i of these bytes, where an element has `stride` bytes
abbrev pub byte_of : List ℕ → ℕ → ℕ → ℕ → ℕ
byte_of bytes stride i p = slice_index bytes (i * stride + p)
