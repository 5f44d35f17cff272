-- From a document and its asset to what is accepted.
use Rattle.std.proofs.Common.{◌≡◌, ℕ, List, Ok}
use Rattle.gp_asset.specs.declared.purpose.Form.{Form}
use Rattle.gp_glb.specs.Container.{AreWholeChunks}
use Rattle.gp_glb.proofs.ReadingBack.{rests_are_whole}
use Rattle.gp_document.specs.Document as meant
use Rattle.gp_document.specs.Accepted.{asset_of}
use Rattle.gp_document.specs.Reading.{document_of, IsAcceptedAs}
use Rattle.gp_document.specs.declared.accepting.Accepted.{Accepted}
use Rattle.gp_document.proofs.Few.{few_views}

-- the other chunks of bytes that hold a document are whole
pub rest_is_whole : (bytes : List ℕ) (d : meant.Document) → meant.Holds bytes d → AreWholeChunks d.rest
rest_is_whole bytes d h = rests_are_whole bytes (record { json = h.json; bin = d.bin; rest = d.rest }) h.container

pub is_accepted : (form : Form) (bytes : List ℕ) (accepted : Accepted) → meant.IsDocument bytes (document_of accepted.document) → asset_of form (document_of accepted.document) ≡ Ok accepted.asset → IsAcceptedAs form bytes accepted
unfolding asset_of
is_accepted form bytes accepted is found =
    let d = document_of accepted.document in
    record {
      is_document = is;
      is_asset = found;
      whole = rest_is_whole bytes d is.holds;
      few = few_views form d.tree d.bin accepted.asset found;
    }
