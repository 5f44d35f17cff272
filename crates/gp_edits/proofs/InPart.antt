-- What an edit of a view leaves in part, as all but the members that say where its bytes are.
use Rattle.std.proofs.Common.{◌≡◌, ℕ, List, [], ◌∷◌, inl, inr, refl, sym, subst}
use Rattle.gp_tree.specs.Plain.{PlainTree}
use Rattle.gp_tree.specs.TreeEdits.{with_member, without}
use Rattle.gp_edits.specs.Changes.{whole_number}
use Rattle.gp_edits.specs.Edits.{extension_name, placed, without_compression}
use Rattle.gp_edits.specs.InPart.{IsPlacedInPart, IsViewEditedInPart}
use Rattle.gp_edits.specs.Own.{IsSameBut, is_one_of}
use Rattle.gp_edits.proofs.Emptied.{unless_emptied, emptied_is}
use Rattle.gp_edits.proofs.KeyNames.{extensions_key, buffer_key, offset_key, buffer_is_own, offset_is_own}
use Rattle.gp_edits.proofs.Named.{or_right}
use Rattle.gp_edits.proofs.Own.{Covers, first_covered, second_covered, altered, was_set, joined}

abbrev view_names : List (List ℕ)
view_names = buffer_key ∷ offset_key ∷ extensions_key ∷ []

later_covered : (other key : List ℕ) (names : List (List ℕ)) → Covers names key → Covers (other ∷ names) key
later_covered other key names covers s n = or_right _ (is_one_of names s) (covers s n)

buffer_covered : Covers view_names buffer_key
buffer_covered = first_covered buffer_key (offset_key ∷ extensions_key ∷ [])

offset_covered : Covers view_names offset_key
offset_covered = second_covered buffer_key offset_key (extensions_key ∷ [])

extensions_covered : Covers view_names extensions_key
extensions_covered = later_covered buffer_key extensions_key (offset_key ∷ extensions_key ∷ []) (second_covered offset_key extensions_key [])

pub unchanged_in_part : (v : PlainTree) → IsViewEditedInPart v v
unchanged_in_part v = record { others = refl; object = λ o. o; value = λ n. refl }

-- one edit after another
pub then_in_part : (v u w : PlainTree) → IsViewEditedInPart v u → IsViewEditedInPart u w → IsViewEditedInPart v w
then_in_part v u w = joined view_names v u w

pub removed_in_part : (v : PlainTree) → IsViewEditedInPart v (without_compression v)
unfolding without_compression
removed_in_part v =
    subst (IsSameBut view_names v) (sym (emptied_is extensions_key (without extension_name) v))
    (altered view_names extensions_key (unless_emptied (without extension_name)) v extensions_covered)

buffer_in_part : (buffer : ℕ) (v : PlainTree) → IsViewEditedInPart v (with_member buffer_key (whole_number buffer) v)
buffer_in_part buffer v = was_set view_names buffer_key (whole_number buffer) v buffer_covered buffer_is_own

pub placed_whole : (buffer offset : ℕ) (v : PlainTree) → IsViewEditedInPart v (placed buffer offset v)
unfolding placed
placed_whole buffer offset v =
    let u = with_member buffer_key (whole_number buffer) v in
    joined view_names v u (with_member offset_key (whole_number offset) u)
    (buffer_in_part buffer v)
    (was_set view_names offset_key (whole_number offset) u offset_covered offset_is_own)

pub placed_in_part : (buffer : ℕ) (v u : PlainTree) → IsPlacedInPart buffer v u → IsViewEditedInPart v u
placed_in_part buffer v u (inl same) = subst (IsViewEditedInPart v) (sym same) (unchanged_in_part v)
placed_in_part buffer v u (inr set) = subst (IsViewEditedInPart v) (sym set) (buffer_in_part buffer v)
