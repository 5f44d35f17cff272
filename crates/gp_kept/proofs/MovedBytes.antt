-- The records of groups that move are bytes.
use Rattle.std.specs.Prelude.{Ok}
use Rattle.std.specs.List.{All}
use Rattle.std.proofs.Common.{◌≡◌, ℕ, List, [], ◌∷◌, map, Result, sym, ◌∙◌, subst}
use Rattle.std.proofs.lemmas.List.Elements.{All-nil, All-cons}
use Rattle.gp_rules.specs.declared.storage.View.{View}
use Rattle.gp_asset.specs.declared.purpose.Form.TheVariants.{Plain}
use Rattle.gp_asset.specs.Asset.{AssetParts}
use Rattle.gp_asset.specs.Contents.{plain_bytes}
use Rattle.gp_document.specs.Document.{Document, IsDocument}
use Rattle.gp_document.specs.Accepted.{asset_of}
use Rattle.gp_unpack.specs.Contents.{FaultyView, all_contents}
use Rattle.gp_unpack.proofs.EachItem.{all_of_each}
use Rattle.gp_sameness.specs.Moved.{Moved}
use Rattle.gp_packed.specs.StoredParts.{AreBytes}
use Rattle.gp_packed.specs.MovedGroups.{number_if, moved_groups}
use Rattle.gp_kept.specs.MovedGroupsLaws.{MovedRecordsAreBytes}
use Rattle.gp_packed.proofs.Unpacked.{none_compressed}
use Rattle.gp_packed.proofs.StoredSuits.{plain_contents, small_views}
use Rattle.gp_kept.proofs.GroupPlaces.{each_in_groups}
use Rattle.gp_kept.proofs.RecordBytes.{moved_group_has_bytes}
use Rattle.gp_alias.proofs.ClassLaws.{groups_say_what_moves}

abbrev AllBytes : List (List ℕ) → Type 0
AllBytes items = All AreBytes items

-- ---- the contents of an input's views

plain_all : (a : AssetParts) (vs : List View) → ((v : View) → AreBytes (plain_bytes a.buffers v)) → AllBytes (map (λ (v : View). plain_bytes a.buffers v) vs)
plain_all a [] h = All-nil AreBytes
plain_all a (v ∷ vs) h = All-cons AreBytes (plain_bytes a.buffers v) (map (λ (w : View). plain_bytes a.buffers w) vs) (h v) (plain_all a vs h)

pub contents_bytes : (bytes : List ℕ) (d : Document) (a : AssetParts) (contents : List (List ℕ)) → AreBytes bytes → IsDocument bytes d → asset_of Plain d ≡ Ok a → all_contents a ≡ Ok contents → AllBytes contents
unfolding all_contents
contents_bytes bytes d a contents small is e read =
    let own = map (λ (v : View). plain_bytes a.buffers v) a.views in
    let both : ◌≡◌ {A = Result (List (List ℕ)) FaultyView} (Ok own) (Ok contents) = sym (plain_contents a 0 a.views (none_compressed d a e)) ∙ read in
    let same : own ≡ contents = cc in
    subst AllBytes same (plain_all a a.views (small_views bytes d a small is e))

pub records_are_bytes : MovedRecordsAreBytes
records_are_bytes bytes d a contents small is e read =
    let held = contents_bytes bytes d a contents small is e read in
    all_of_each (λ (m : Moved). All AreBytes m.records) (moved_groups a contents)
    (each_in_groups a contents (λ (m : Moved). All AreBytes m.records) (λ k g next here movable.
    moved_group_has_bytes a contents g (number_if g.bare next) (sym (groups_say_what_moves a contents k g here) ∙ movable) held))
