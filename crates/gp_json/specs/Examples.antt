-- Small texts, as the definitions see them. No public contract cites it.
use Rattle.std.specs.Prelude.{◌≡◌, ℕ, zero, suc, true, List, [], ◌∷◌, ◌++◌, codes}
use Rattle.std.proofs.Common.{refl, inl}
use Rattle.gp_tree.specs.Plain.{truth, null, number, text, list, members, no_items, item, no_members, member}
use Rattle.gp_json.specs.Text.{text_of}
use Rattle.gp_json.specs.Spelling.{Spaced, IsValue, Spells}
use Rattle.gp_json.specs.Fault.{IsFront, IsTooDeep}

-- `{"a":[1.0,"b"],"c":{}}`
pub compact : text_of (members (member (codes "a") (list (item (number (codes "1.0")) (item (text (codes "b")) no_items))) (member (codes "c") (members no_members) no_members)))
    ≡ 123 ∷ 34 ∷ 97 ∷ 34 ∷ 58 ∷ 91 ∷ 49 ∷ 46 ∷ 48 ∷ 44 ∷ 34 ∷ 98 ∷ 34 ∷ 93 ∷ 44 ∷ 34 ∷ 99 ∷ 34 ∷ 58 ∷ 123 ∷ 125 ∷ 125 ∷ []
compact = refl

true_spaced : Spaced (IsValue (truth true)) (codes " true ")
true_spaced = (32 ∷ [], codes "true", 32 ∷ [], (inl refl, tt), refl, (inl refl, tt), refl)

null_spaced : Spaced (IsValue null) (codes " null ")
null_spaced = (32 ∷ [], codes "null", 32 ∷ [], (inl refl, tt), refl, (inl refl, tt), refl)

-- `[ true , null ]`
pub spaced : Spells (codes "[ true , null ] ") (list (item (truth true) (item null no_items)))
spaced = (
  [],
  codes "[ true , null ]",
  32 ∷ [],
  tt,
  (
    codes " true , null ]",
    (codes " true , null ", (codes " true ", codes ", null ", true_spaced, (codes " null ", (codes " null ", [], null_spaced, refl, refl), refl), refl), refl),
    refl,
  ),
  (inl refl, tt),
  refl,
)

-- 128 lists in each other, and a 129th: the front of the second is too deep
abbrev opened : ℕ → List ℕ
opened zero = []
opened (suc n) = 91 ∷ opened n

pub opened_front : (n : ℕ) → IsFront n (opened n)
opened_front zero = tt
opened_front (suc n) = ([], opened (suc n), tt, inl (no_items, (opened n, ([], opened n, refl, opened_front n, refl), refl)), refl)

pub too_deep : IsTooDeep (opened 128 ++ 91 ∷ [])
too_deep = (opened 128, [], 91, opened_front 128, inl refl, refl)
