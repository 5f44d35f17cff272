-- A document whose external buffers have their bytes in it: in data URIs, or in the BIN chunk (glTF 2.0, sections 3.6.1.1 and 4.4).
use Rattle.std.specs.Prelude.{ℕ, Bool, true, false, ◌==◌, ◌&&◌, List, ◌++◌, get_or, slice_get, Some, None, option_and_then, codes}
use Rattle.std.specs.declared.option.Option.{Option}
use Rattle.std.specs.List.{prefix_len}
use Rattle.base64.specs.GeneralPurpose.{encode_of}
use Rattle.base64.specs.Engines.{standard}
use Rattle.gp_tree.specs.Plain.{PlainTree, text}
use Rattle.gp_tree.specs.TreeEdits.{with_member, without, at_member}
use Rattle.gp_glb.specs.Container.{is_blank}
use Rattle.gp_moves.specs.Items.{each_item}
use Rattle.gp_document.specs.Document.{Document}

-- the bytes are a text of glTF, and no container: past white space they go on with `{`
unfoldable pub is_text : List ℕ → Bool
is_text bytes = get_or bytes (prefix_len is_blank bytes) 0 == 123

-- a data URI of these bytes in padded base64 (RFC 2397; RFC 4648, section 4)
unfoldable pub data_uri : List ℕ → List ℕ
data_uri bytes = codes "data:application/octet-stream;base64," ++ encode_of standard bytes

-- the content of buffer `at`, where it is external
abbrev pub content_at : List (Option (List ℕ)) → ℕ → Option (List ℕ)
content_at contents at = option_and_then (λ content. content) (slice_get contents at)

-- a buffer that has these bytes in the BIN chunk, or in its own `uri`
abbrev pub holding : Bool → List ℕ → PlainTree → PlainTree
holding true bytes buffer = without (codes "uri") buffer
holding false bytes buffer = with_member (codes "uri") (text (data_uri bytes)) buffer

abbrev pub holding_if : Bool → Option (List ℕ) → PlainTree → PlainTree
holding_if in_chunk None buffer = buffer
holding_if in_chunk (Some bytes) buffer = holding in_chunk bytes buffer

-- the first buffer of a text has its bytes in the BIN chunk, any other in its own `uri`
abbrev pub joined_buffer : Bool → List (Option (List ℕ)) → ℕ → PlainTree → PlainTree
joined_buffer of_text contents at buffer = holding_if (of_text && at == 0) (content_at contents at) buffer

unfoldable pub joined_tree : Bool → List (Option (List ℕ)) → PlainTree → PlainTree
joined_tree of_text contents root = at_member (codes "buffers") (each_item (joined_buffer of_text contents)) root

abbrev pub bin_or : Option (List ℕ) → Option (List ℕ) → Option (List ℕ)
bin_or bin None = bin
bin_or bin (Some bytes) = Some bytes

-- the bytes of the first buffer of a text, where it is external, else those of the container
unfoldable pub joined_bin : Bool → List (Option (List ℕ)) → Option (List ℕ) → Option (List ℕ)
joined_bin false contents bin = bin
joined_bin true contents bin = bin_or bin (content_at contents 0)

-- the document with the contents of its external buffers in it
abbrev pub joined : Bool → List (Option (List ℕ)) → Document → Document
joined of_text contents document = record {
  tree = joined_tree of_text contents document.tree;
  bin = joined_bin of_text contents document.bin;
  rest = document.rest;
}
