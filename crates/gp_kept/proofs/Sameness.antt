-- What packing writes is the same asset.
use Rattle.std.proofs.Common.{◌≡◌, ℕ, ◌<◌, ◌^◌, List, length, Result, Ok, sym, ap, ◌∙◌, subst}
use Rattle.gp_asset.specs.Asset.{AssetParts}
use Rattle.gp_unpack.specs.Contents.{all_contents}
use Rattle.gp_document.specs.Document.{Document, glb_of}
use Rattle.gp_document.specs.Operation.{Made, Hindrance}
use Rattle.gp_document.specs.Answers.{IsMade}
use Rattle.gp_document.specs.declared.output.Output.{Output}
use Rattle.gp_packed.specs.MovedGroups.{moved_groups}
use Rattle.gp_packed.specs.Packed.{packed, made_of, plain_contents as bytes_of_views, packed_whole, packing}
use Rattle.gp_sameness.specs.Same.{Same}
use Rattle.gp_packed.specs.StoredParts.{AreBytes}
use Rattle.gp_kept.specs.PackedTogether.{CanBePacked}
use Rattle.gp_kept.specs.Laws.{ContentsArePlain, PackedIsSame}
use Rattle.gp_packed.proofs.Unpacked.{none_compressed}
use Rattle.gp_packed.proofs.StoredSuits.{plain_contents}
use Rattle.gp_kept.proofs.PackedGroupsSame.{packed_groups_are_same}

pub contents_are_plain : ContentsArePlain
unfolding all_contents
contents_are_plain d a e = plain_contents a 0 a.views (none_compressed d a e)

-- the document that is made
pub is_packed : (d : Document) (a : AssetParts) (m : Made) → packed_whole d a ≡ Ok m → m.document ≡ packed (moved_groups a (bytes_of_views a)) d a
unfolding packed_whole
is_packed d a m e =
    let whole : ◌≡◌ {A = Result Made Hindrance} (Ok (made_of (moved_groups a (bytes_of_views a)) d a)) (Ok m) = e in
    let same : made_of (moved_groups a (bytes_of_views a)) d a ≡ m = cc in
    sym (ap (λ (n : Made). n.document) same)

pub may_be_packed : (bytes : List ℕ) (out : Output) → AreBytes bytes → (h : IsMade packing bytes out)
    → CanBePacked bytes h.accepted.document h.accepted.asset (bytes_of_views h.accepted.asset)
may_be_packed bytes out small h = record {
  small = small;
  is_document = h.accepted.is_document;
  is_asset = h.accepted.is_asset;
  read = contents_are_plain h.accepted.document h.accepted.asset h.accepted.is_asset;
  fits = subst (λ bs. length bs < 2 ^ 32) (ap glb_of (is_packed h.accepted.document h.accepted.asset h.made h.is_made)) h.output.fits;
}

pub packed_is_same : PackedIsSame
packed_is_same bytes out small h =
    let d = h.accepted.document in
    let a = h.accepted.asset in
    subst (Same bytes) (sym (h.output.glb ∙ ap glb_of (is_packed d a h.made h.is_made)))
    (packed_groups_are_same bytes d a (bytes_of_views a) (may_be_packed bytes out small h))
