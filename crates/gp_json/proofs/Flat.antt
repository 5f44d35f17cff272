-- A text whose value is not too deep does not nest too deep.
use Rattle.std.proofs.Common.{◌≡◌, inl, inr, ℕ, zero, suc, ◌<◌, ◌≤◌, List, [], ◌∷◌, ◌++◌, refl, sym, ap, ◌∙◌, subst, append_assoc, arith}
use Rattle.gp_tree.specs.Plain.{PlainTree, PlainTrees, PlainMembers, null, truth, number, text, list, members, no_items, item, no_members, member}
use Rattle.gp_json.specs.Text.{quoted}
use Rattle.gp_json.specs.Spelling.{IsValue, AreItems, AreMoreItems, AreMembers, AreMoreMembers, Spells}
use Rattle.gp_tree.specs.Sound.{depth, items_depth, members_depth, max_depth}
use Rattle.gp_json.specs.Fault.{IsTooDeep}
use Rattle.gp_json.specs.Reading.{EndsSpace, BeginsValue, BeginsMember}
use Rattle.gp_json.specs.Deep.{Past, IsItem, Keyed, IsDeep}
use Rattle.gp_json.proofs.Unique.{regroup, mark_stops, mark_ends_space, ends_stop, value_first, value_ends_space, more_items_mark, more_members_mark, tag, kind, StartsMark}
use Rattle.gp_json.proofs.Deep.{deep_first, past_only, item_solid, deep_ends_space, keyed_ends, keyed_ends_space, member_whole, item_after, member_after}
use Rattle.gp_json.proofs.ItemTurns.{flat_empty, items_bare}
use Rattle.gp_json.proofs.MemberTurns.{flat_empty as flat_empty_object, members_bare, flat_keyed}
use Rattle.gp_json.proofs.Refusals.{deep_here}

-- a value that is no list and no object opens no bracket
leaf_flat : (d : ℕ) (t : PlainTree) (a z : List ℕ) → IsValue t a → tag t < 5 → IsDeep d (a ++ z) → ⊥
leaf_flat d t a z h low p =
    let o = deep_first d (a ++ z) p in
    let f = value_first t a h in
    let e' : f.0 ∷ (f.1 ++ z) ≡ o.0 ∷ o.1 = ap (λ y. y ++ z) (sym f.2) ∙ o.3 in
    let x : f.0 ≡ o.0 = cc in
    elim o.2 [
      | inl b ↦ let k : 5 ≡ tag t = subst (λ y. kind y ≡ tag t) (x ∙ b) f.3 in omega (arith, k, low)
      | inr b ↦ let k : 6 ≡ tag t = subst (λ y. kind y ≡ tag t) (x ∙ b) f.3 in omega (arith, k, low)
    ]

items_step : (d : ℕ) (t : PlainTree) (ts : PlainTrees) → ((a z : List ℕ) → IsValue t a → depth t ≤ d → IsDeep d (a ++ z) → ⊥)
    → ((r m z : List ℕ) → AreMoreItems ts m → items_depth ts ≤ d → m ++ 93 ∷ z ≡ 44 ∷ r → Past IsItem (IsDeep d) r → ⊥)
    → (i z : List ℕ) → AreItems (item t ts) i → items_depth (item t ts) ≤ d → Past IsItem (IsDeep d) (i ++ 93 ∷ z) → ⊥
items_step d t ts first more i z h low p =
    let b = h.2 in
    let rest = h.1 ++ 93 ∷ z in
    let s = b.1 ++ (b.2 ++ rest) in
    let flat : depth t ≤ d = omega (arith, low) in
    let whole : i ++ 93 ∷ z ≡ b.0 ++ s = ap (λ y. y ++ 93 ∷ z) (h.4 ∙ ap (λ y. y ++ h.1) b.6) ∙ append_assoc (b.0 ++ b.1 ++ b.2) h.1 (93 ∷ z) ∙ regroup b.0 b.1 b.2 rest in
    let marks : StartsMark rest = more_items_mark ts h.1 z h.3 in
    let hs : EndsSpace s = value_ends_space t b.1 (b.2 ++ rest) b.4 in
    let own : BeginsValue d s t (b.2 ++ rest) = (b.1, b.4, flat, ends_stop t b.2 rest b.5 (mark_stops rest marks), refl) in
    let q = past_only IsItem (IsDeep d) item_solid (deep_ends_space d) s rest hs (first b.1 (b.2 ++ rest) b.4 flat) (item_after d s (b.2 ++ rest) rest b.2 t own b.5 (mark_ends_space rest marks) refl)
    (items_bare d b.0 s b.3 hs (subst (Past IsItem (IsDeep d)) whole p)) in
    more q.0 h.1 z h.3 (omega (arith, low)) q.2 q.1

members_step : (d : ℕ) (k : List ℕ) (t : PlainTree) (ms : PlainMembers) → ((a z : List ℕ) → IsValue t a → depth t ≤ d → IsDeep d (a ++ z) → ⊥)
    → ((r m z : List ℕ) → AreMoreMembers ms m → members_depth ms ≤ d → m ++ 125 ∷ z ≡ 44 ∷ r → Past (Keyed IsItem) (Keyed (IsDeep d)) r → ⊥)
    → (i z : List ℕ) → AreMembers (member k t ms) i → members_depth (member k t ms) ≤ d → Past (Keyed IsItem) (Keyed (IsDeep d)) (i ++ 125 ∷ z) → ⊥
members_step d k t ms first more i z h low p =
    let x = h.2 in
    let kb = x.2 in
    let key = kb.1 in
    let val = x.3 in
    let rest = h.1 ++ 125 ∷ z in
    let s5 = val.1 ++ (val.2 ++ rest) in
    let s4 = val.0 ++ s5 in
    let s2 = key.2 ++ 58 ∷ s4 in
    let s = quoted k ++ s2 in
    let flat : depth t ≤ d = omega (arith, low) in
    let whole : i ++ 125 ∷ z ≡ key.0 ++ s = member_whole k key.0 key.1 key.2 val.0 val.1 val.2 x.0 x.1 h.0 h.1 i (125 ∷ z) key.4.1 key.6 kb.2 val.6 x.4 h.4 in
    let marks : StartsMark rest = more_members_mark ms h.1 z h.3 in
    let hs : EndsSpace s = λ y. omega (arith, y) in
    let colon : EndsSpace (58 ∷ s4) = λ y. omega (arith, y) in
    let own : BeginsMember d s (k, t) (val.2 ++ rest) = (key.2, val.0, val.1, key.4.0, key.5, val.3, val.4, flat, ends_stop t val.2 rest val.5 (mark_stops rest marks), refl) in
    let solid : Keyed (IsDeep d) s → ⊥ =
    flat_keyed d s ((k ++ 34 ∷ []) ++ s2) s2 (58 ∷ s4) s4 s5 k refl key.4.0.chars (append_assoc k (34 ∷ []) s2) (key.2, key.5, refl) colon refl (val.0, val.3, refl) (value_ends_space t val.1 (val.2 ++ rest) val.4) (first val.1 (val.2 ++ rest) val.4 flat) in
    let q = past_only (Keyed IsItem) (Keyed (IsDeep d)) (keyed_ends_space IsItem) (keyed_ends (IsDeep d)) s rest hs solid (member_after d s (val.2 ++ rest) rest val.2 k t own val.5 (mark_ends_space rest marks) refl)
    (members_bare d key.0 s key.3 hs (subst (Past (Keyed IsItem) (Keyed (IsDeep d))) whole p)) in
    more q.0 h.1 z h.3 (omega (arith, low)) q.2 q.1

mutual
  unfolding tag

  pub value_flat : (d : ℕ) (t : PlainTree) (a z : List ℕ) → IsValue t a → depth t ≤ d → IsDeep d (a ++ z) → ⊥
  value_flat d null a z h low p = leaf_flat d null a z h (omega arith) p
  value_flat d (truth b) a z h low p = leaf_flat d (truth b) a z h (omega arith) p
  value_flat d (number n) a z h low p = leaf_flat d (number n) a z h (omega arith) p
  value_flat d (text n) a z h low p = leaf_flat d (text n) a z h (omega arith) p
  value_flat zero (list ts) a z h low p = absurd (omega (arith, low))
  value_flat zero (members ms) a z h low p = absurd (omega (arith, low))
  value_flat (suc n) (list ts) a z (b, (i, hi, f), e) low (inl (r, p, g)) =
      let e' : 91 ∷ r ≡ 91 ∷ (b ++ z) = sym g ∙ ap (λ y. y ++ z) e in
      let same : r ≡ b ++ z = cc in
      items_flat n ts i z hi (omega (arith, low)) (subst (Past IsItem (IsDeep n)) (same ∙ ap (λ y. y ++ z) f ∙ append_assoc i (93 ∷ []) z) p)
  value_flat (suc n) (list ts) a z (b, h, e) low (inr (r, p, g)) =
      let e' : 123 ∷ r ≡ 91 ∷ (b ++ z) = sym g ∙ ap (λ y. y ++ z) e in
      let x : ◌≡◌ {A = ℕ} 123 91 = cc in omega (arith, x)
  value_flat (suc n) (members ms) a z (b, h, e) low (inl (r, p, g)) =
      let e' : 91 ∷ r ≡ 123 ∷ (b ++ z) = sym g ∙ ap (λ y. y ++ z) e in
      let x : ◌≡◌ {A = ℕ} 91 123 = cc in omega (arith, x)
  value_flat (suc n) (members ms) a z (b, (i, hi, f), e) low (inr (r, p, g)) =
      let e' : 123 ∷ r ≡ 123 ∷ (b ++ z) = sym g ∙ ap (λ y. y ++ z) e in
      let same : r ≡ b ++ z = cc in
      members_flat n ms i z hi (omega (arith, low)) (subst (Past (Keyed IsItem) (Keyed (IsDeep n))) (same ∙ ap (λ y. y ++ z) f ∙ append_assoc i (125 ∷ []) z) p)

  items_flat : (d : ℕ) (ts : PlainTrees) (i z : List ℕ) → AreItems ts i → items_depth ts ≤ d → Past IsItem (IsDeep d) (i ++ 93 ∷ z) → ⊥
  items_flat d no_items i z h low p = flat_empty d (i ++ 93 ∷ z) (93 ∷ z) z (i, h, refl) refl p
  items_flat d (item t ts) i z h low p = items_step d t ts (value_flat d t) (more_items_flat d ts) i z h low p

  more_items_flat : (d : ℕ) (ts : PlainTrees) (r m z : List ℕ) → AreMoreItems ts m → items_depth ts ≤ d → m ++ 93 ∷ z ≡ 44 ∷ r → Past IsItem (IsDeep d) r → ⊥
  more_items_flat d no_items r m z h low e p =
      let e' : 93 ∷ z ≡ 44 ∷ r = sym (ap (λ y. y ++ 93 ∷ z) h) ∙ e in
      let x : ◌≡◌ {A = ℕ} 93 44 = cc in omega (arith, x)
  more_items_flat d (item t ts) r m z (w, h, f) low e p =
      let e' : 44 ∷ (w ++ 93 ∷ z) ≡ 44 ∷ r = sym (ap (λ y. y ++ 93 ∷ z) f) ∙ e in
      let same : w ++ 93 ∷ z ≡ r = cc in
      items_step d t ts (value_flat d t) (more_items_flat d ts) w z h low (subst (Past IsItem (IsDeep d)) (sym same) p)

  members_flat : (d : ℕ) (ms : PlainMembers) (i z : List ℕ) → AreMembers ms i → members_depth ms ≤ d → Past (Keyed IsItem) (Keyed (IsDeep d)) (i ++ 125 ∷ z) → ⊥
  members_flat d no_members i z h low p = flat_empty_object d (i ++ 125 ∷ z) (125 ∷ z) z (i, h, refl) refl p
  members_flat d (member k t ms) i z h low p = members_step d k t ms (value_flat d t) (more_members_flat d ms) i z h low p

  more_members_flat : (d : ℕ) (ms : PlainMembers) (r m z : List ℕ) → AreMoreMembers ms m → members_depth ms ≤ d → m ++ 125 ∷ z ≡ 44 ∷ r → Past (Keyed IsItem) (Keyed (IsDeep d)) r → ⊥
  more_members_flat d no_members r m z h low e p =
      let e' : 125 ∷ z ≡ 44 ∷ r = sym (ap (λ y. y ++ 125 ∷ z) h) ∙ e in
      let x : ◌≡◌ {A = ℕ} 125 44 = cc in omega (arith, x)
  more_members_flat d (member k t ms) r m z (w, h, f) low e p =
      let e' : 44 ∷ (w ++ 125 ∷ z) ≡ 44 ∷ r = sym (ap (λ y. y ++ 125 ∷ z) f) ∙ e in
      let same : w ++ 125 ∷ z ≡ r = cc in
      members_step d k t ms (value_flat d t) (more_members_flat d ms) w z h low (subst (Past (Keyed IsItem) (Keyed (IsDeep d))) (sym same) p)

pub text_flat : (s : List ℕ) (t : PlainTree) → Spells s t → depth t ≤ max_depth → IsTooDeep s → ⊥
text_flat s t (a, v, c, ha, hv, hc, e) low h = value_flat max_depth t v c hv low (deep_here s (v ++ c) (a, ha, e ∙ append_assoc a v c) (value_ends_space t v c hv) h)
