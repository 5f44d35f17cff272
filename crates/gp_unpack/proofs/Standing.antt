-- What stands in the parts of a buffer.
use Rattle.std.proofs.Common.{◌≡◌, ℕ, ◌+◌, ◌<◌, ◌≤◌, List, length, get_or, Some, IsSome, refl, sym, ap, subst, ◌∙◌}
use Rattle.std.proofs.lemmas.List.{length-map}
use Rattle.std.proofs.lemmas.Bool.{ltb-true}
use Rattle.std.proofs.lemmas.Option.{slice_get-map, slice_get-get_or}
use Rattle.std.specs.Option.{option_map}
use Rattle.gp_layout.specs.Layout.{end}
use Rattle.gp_layout.proofs.Parts.{length_laid}
use Rattle.gp_asset.specs.Contents.{bytes_at}
use Rattle.gp_unpack.specs.declared.laying.Place.{Place}
use Rattle.gp_unpack.specs.Contents.{held}
use Rattle.gp_unpack.specs.Laid.{part_in, cut, lengths_of, IsLaid, ArePlaced}
use Rattle.gp_unpack.proofs.Views.{has, bytes_at-held}
use Rattle.gp_unpack.proofs.Parts.{is_at}

pub laid_placed : (bytes : List ℕ) (parts : List Place) → IsLaid bytes parts → ArePlaced (lengths_of parts) parts (length bytes)
laid_placed bytes parts h = record {
  sized = refl;
  placed = h.placed;
  ended = ap length h.row ∙ length_laid (cut bytes parts) ∙ ap end h.sized;
}

-- part k is within the buffer
pub part_within : (bytes : List ℕ) (parts : List Place) (k : ℕ) (part : Place) → IsLaid bytes parts → k < length parts → part ≡ get_or parts k part
    → part.start + part.length ≤ length bytes
part_within bytes parts k part h below here =
    subst (λ (p : Place). p.start + p.length ≤ length bytes) (sym here) ((is_at (lengths_of parts) parts (length bytes) k part (laid_placed bytes parts h) below).within)

-- a view that is held has a part
pub has_part : (bytes : List ℕ) (parts : List Place) (contents : List (List ℕ)) (k : ℕ) → cut bytes parts ≡ contents → IsSome (bytes_at (held contents) k) → k < length parts
has_part bytes parts contents k is some =
    ltb-true k (length parts) (has contents (length parts) k (sym (length-map parts (part_in bytes)) ∙ ap length is) ∙ some)

-- in which it stands
pub part_there : (bytes : List ℕ) (parts : List Place) (contents : List (List ℕ)) (k : ℕ) (part : Place) → cut bytes parts ≡ contents → k < length parts
    → part ≡ get_or parts k part → bytes_at (held contents) k ≡ Some (part_in bytes part)
part_there bytes parts contents k part is below here =
    ap (λ cs. bytes_at (held cs) k) (sym is) ∙ bytes_at-held (cut bytes parts) k ∙ slice_get-map (part_in bytes) parts k
    ∙ ap (option_map (part_in bytes)) (slice_get-get_or parts k part below) ∙ ap (λ p. Some (part_in bytes p)) (sym here)
