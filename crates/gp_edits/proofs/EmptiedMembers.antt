-- Members that a change empties.
use Rattle.std.proofs.Common.{◌≡◌, ℕ, Bool, if◌then◌else◌, codes, List, Option, Some, None, option_map, refl, sym, ap, ◌∙◌}
use Rattle.gp_tree.specs.Plain.{PlainTree}
use Rattle.gp_tree.specs.Find.{find_member}
use Rattle.gp_tree.specs.TreeEdits.{at_member, without}
use Rattle.gp_tree.proofs.Kept.{find_change}
use Rattle.gp_edits.specs.Changes.{is_emptied, emptied_by, emptied}
use Rattle.gp_edits.specs.Edits.{extension_name, without_compression}
use Rattle.gp_edits.specs.Steps.{is_empty_at, past_emptied_by, past_emptied}
use Rattle.gp_edits.proofs.Members.{changed_then_removed, changed_absent}

-- ---- a member that a change may empty

by_value : (key : List ℕ) (f : PlainTree → PlainTree) (t : PlainTree) (o : Option PlainTree) → find_member key t ≡ o
    → past_emptied_by key (is_empty_at o) (option_map f o) (at_member key f t) ≡ emptied_by key f o t
by_value key f t None e = changed_absent key f t e
by_value key f t (Some value) e = ap (λ u. if is_emptied value (f value) then u else at_member key f t) (changed_then_removed key f t)

-- changed, and then removed where it is empty and wasn't
pub emptied_in_steps : (key : List ℕ) (f : PlainTree → PlainTree) (t : PlainTree) → past_emptied key (is_empty_at (find_member key t)) (at_member key f t) ≡ emptied key f t
unfolding emptied
emptied_in_steps key f t =
    ap (λ o. past_emptied_by key (is_empty_at (find_member key t)) o (at_member key f t)) (find_change key f t) ∙ by_value key f t (find_member key t) refl

-- nothing to change
pub emptied_none : (key : List ℕ) (f : PlainTree → PlainTree) (t : PlainTree) → find_member key t ≡ None → t ≡ emptied key f t
unfolding emptied
emptied_none key f t e = sym (ap (λ o. emptied_by key f o t) e)

-- the three steps of a function
pub emptied_after : (key : List ℕ) (f : PlainTree → PlainTree) (t changed left : PlainTree) (was_empty : Bool)
    → was_empty ≡ is_empty_at (find_member key t) → changed ≡ at_member key f t → left ≡ past_emptied key was_empty changed → left ≡ emptied key f t
emptied_after key f t changed left was_empty w e l = l ∙ ap (λ b. past_emptied key b changed) w ∙ ap (past_emptied key (is_empty_at (find_member key t))) e ∙ emptied_in_steps key f t

-- of a view
pub no_compression : (t : PlainTree) → find_member (codes "extensions") t ≡ None → t ≡ without_compression t
unfolding without_compression
no_compression t e = emptied_none (codes "extensions") (without extension_name) t e

pub compression_removed : (t changed left : PlainTree) (was_empty : Bool) → was_empty ≡ is_empty_at (find_member (codes "extensions") t)
    → changed ≡ at_member (codes "extensions") (without extension_name) t → left ≡ past_emptied (codes "extensions") was_empty changed → left ≡ without_compression t
unfolding without_compression
compression_removed t changed left was_empty w e l = emptied_after (codes "extensions") (without extension_name) t changed left was_empty w e l
