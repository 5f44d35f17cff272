-- A text spells a sound value, or it has a first fault, and never both.
use Rattle.std.proofs.Common.{inl, inr, ℕ, ◌≤◌, List, ◌++◌, subst, append_assoc, ◌∙◌, IsUtf8}
use Rattle.std.proofs.lemmas.Bool.{cases_lt}
use Rattle.gp_json.specs.declared.fault.JsonFault.{JsonFault}
use Rattle.gp_json.specs.declared.fault.JsonFault.TheVariants.{NotUtf8, TooDeep, NotJson, DuplicateKey}
use Rattle.gp_tree.specs.Plain.{PlainTree}
use Rattle.gp_json.specs.Spelling.{Spells}
use Rattle.gp_tree.specs.Sound.{IsSound, HasDistinctKeys, depth, max_depth}
use Rattle.gp_json.specs.Fault.{IsTooDeep, HasFault}
use Rattle.gp_json.proofs.Deep.{value_deep}
use Rattle.gp_json.proofs.DeepFronts.{too_deep}
use Rattle.gp_json.proofs.Flat.{text_flat}
use Rattle.gp_json.proofs.Spelled.{spelled}
use Rattle.gp_json.proofs.Unique.{spells_unique}
use Rattle.gp_json.proofs.Utf8Texts.{spells_utf8}

-- where the text does not nest too deep, its value is not too deep
shallow : (s : List ℕ) (t : PlainTree) → (IsTooDeep s → ⊥) → Spells s t → depth t ≤ max_depth
shallow s t flat h = elim (cases_lt max_depth (depth t)) [
  | inl low ↦ absurd (flat (too_deep s (h.0, h.1 ++ h.2, h.3, value_deep max_depth t h.1 h.2 h.4 low, h.6 ∙ append_assoc h.0 h.1 h.2)))
  | inr low ↦ low
]

pub sound_or_fault : (s : List ℕ) → ((t : PlainTree) → Spells s t → IsSound t → ⊥) → ((f : JsonFault) → HasFault s f → ⊥) → ⊥
sound_or_fault s none good =
    good NotUtf8
    (λ (utf8 : IsUtf8 s).
    let flat : IsTooDeep s → ⊥ = λ d. good TooDeep (utf8, d) in
    good NotJson (utf8, flat, (λ (t, h). good DuplicateKey (utf8, flat, (t, h, (λ (d : HasDistinctKeys t). none t h (record { spelled = spelled s t h; shallow = shallow s t flat h; distinct = d })))))))

pub sound_no_fault : (s : List ℕ) (t : PlainTree) → Spells s t → IsSound t → (f : JsonFault) → HasFault s f → ⊥
sound_no_fault s t h sound NotUtf8 k = k (spells_utf8 s t h)
sound_no_fault s t h sound TooDeep k = text_flat s t h sound.shallow k.1
sound_no_fault s t h sound NotJson k = k.2 (t, h)
sound_no_fault s t h sound DuplicateKey (_, _, (u, g, n)) = n (subst HasDistinctKeys (spells_unique s t u h g) sound.distinct)
