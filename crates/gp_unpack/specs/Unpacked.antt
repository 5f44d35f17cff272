-- The unpacked document: the bytes of every view in one buffer, and no trace of the extension where it stood for that.
use Rattle.std.specs.Prelude.{ℕ, List, map, length, is_some, count_by, None, Result, Ok, Err}
use Rattle.gp_tree.specs.Plain.{PlainTree}
use Rattle.gp_asset.specs.declared.purpose.Form.TheVariants.{Any}
use Rattle.gp_rules.specs.declared.storage.View.{View}
use Rattle.gp_asset.specs.Asset.{AssetParts}
use Rattle.gp_layout.specs.Layout.{starts}
use Rattle.gp_layout.specs.Row.{laid_buffer, buffer_length}
use Rattle.gp_edits.specs.Edits.{with_plain_views, with_buffers_of, without_extension_named}
use Rattle.gp_document.specs.Document.{Document}
use Rattle.gp_document.specs.Operation.{Made, Hindrance, faulty_stream, Operation}
use Rattle.gp_unpack.specs.Contents.{FaultyView, all_contents}

-- ---- the tree

-- the views at the places of their contents, and no name of the extension
unfoldable pub unpacked_views : List (List ℕ) → PlainTree → PlainTree
unpacked_views contents root = without_extension_named (with_plain_views (starts (map length contents)) root)

-- in one buffer for all of them; none where there are no views
unfoldable pub unpacked_tree : List (List ℕ) → PlainTree → PlainTree
unpacked_tree contents root = with_buffers_of (buffer_length contents) None (unpacked_views contents root)

-- ---- the document

unfoldable pub unpacked : List (List ℕ) → Document → Document
unpacked contents document = record { tree = unpacked_tree contents document.tree; bin = laid_buffer contents; rest = document.rest }

-- ---- the operation

-- how many views were streams
unfoldable pub former_streams : AssetParts → ℕ
former_streams a = count_by (λ (v : View). is_some v.packed) a.views

-- with the number of its views, and how many of them were streams
abbrev pub made_of : List (List ℕ) → Document → ℕ → ℕ → Made
made_of contents document views streams = record { document = unpacked contents document; views = views; streams = streams }

-- of the contents of its views, or of the fault of a stream
abbrev pub made_with : Document → AssetParts → Result (List (List ℕ)) FaultyView → Result Made Hindrance
made_with document a (Err faulty) = Err (faulty_stream faulty.view faulty.fault)
made_with document a (Ok contents) = Ok (made_of contents document (length a.views) (former_streams a))

unfoldable pub unpacked_or : Document → AssetParts → Result Made Hindrance
unpacked_or document a = made_with document a (all_contents a)

abbrev pub unpacking : Operation
unpacking = record { form = Any; make = unpacked_or }
