-- What packing makes of a document where nothing moves.
use Rattle.std.specs.Prelude.{List, length}
use Rattle.gp_document.specs.Document.{Document}
use Rattle.gp_document.specs.Operation.{Made}
use Rattle.gp_packed.specs.Plan.{Stored, count_streams, packed_bin}
use Rattle.gp_packed.specs.ViewEdits.{with_stored}

-- these are all its views
unfoldable pub still_made : Document → List Stored → Made
still_made document views = record {
  document = record { tree = with_stored views document.tree; bin = packed_bin views; rest = document.rest };
  views = length views;
  streams = count_streams views;
}
