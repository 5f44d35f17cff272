-- Texts that nest too deep, step by step.
use Rattle.std.proofs.Common.{◌≡◌, ◌⊎◌, inl, inr, ℕ, zero, suc, ◌+◌, ◌<◌, List, [], ◌∷◌, ◌++◌, refl, sym, ap, ◌∙◌, subst, append_assoc, arith}
use Rattle.std.proofs.lemmas.List.{append_cancel_left}
use Rattle.std.proofs.lemmas.Bool.{cases_lt}
use Rattle.gp_tree.specs.Plain.{PlainTree, PlainTrees, PlainMembers, null, truth, number, text, list, members, no_items, item, no_members, member}
use Rattle.gp_json.specs.declared.fault.JsonFault.TheVariants.{NotUtf8, TooDeep, NotJson, DuplicateKey}
use Rattle.gp_json.specs.declared.fault.JsonRefusal.{JsonRefusal}
use Rattle.gp_json.specs.declared.fault.JsonRefusal.TheVariants.{Fault, Memory}
use Rattle.gp_tree.specs.Lexical.{IsSpace}
use Rattle.gp_json.specs.Text.{quoted}
use Rattle.gp_json.specs.Spelling.{IsValue, AreItems, AreMoreItems, AreMembers, AreMoreMembers}
use Rattle.gp_tree.specs.Sound.{depth, items_depth, members_depth}
use Rattle.gp_json.specs.Reading.{EndsSpace, Ends, BeginsValue, BeginsMember, HasNone}
use Rattle.gp_json.specs.Deep.{Past, here, next, IsItem, Keyed, Opens, IsDeep, Tells}
use Rattle.gp_json.proofs.Unique.{each_append, regroup, space_unique, mark_stops, mark_ends_space, ends_stop, value_first, value_ends_space, element_unique, value_unique, StartsMark}
use Rattle.gp_json.proofs.Entries.{member_only}

-- a refusal tells the same of two texts, one of which nests too deep where the other does
pub tells : {A B : Type 0} (r : JsonRefusal) → (A → B) → (r ≡ Fault NotJson → B → A) → Tells r A → Tells r B
tells (Fault NotUtf8) f g h = h
tells (Fault TooDeep) f g h = f h
tells (Fault NotJson) f g h = λ b. h (g refl b)
tells (Fault DuplicateKey) f g h = h
tells Memory f g h = tt

abbrev pub BeginsSolid : (List ℕ → Type 0) → Type 0
BeginsSolid P = (s r : List ℕ) → P s → EndsSpace (s ++ r)

pub deep_ends_space : (d : ℕ) (s : List ℕ) → IsDeep d s → EndsSpace s
deep_ends_space zero s (x, r, b, e) = subst EndsSpace (sym e) (λ k. omega (arith, k, b))
deep_ends_space (suc n) s (inl (r, p, e)) = subst EndsSpace (sym e) (λ k. omega (arith, k))
deep_ends_space (suc n) s (inr (r, p, e)) = subst EndsSpace (sym e) (λ k. omega (arith, k))

pub keyed_ends : (P : List ℕ → Type 0) (s : List ℕ) → Keyed P s → EndsSpace s
keyed_ends P s (k, a, b, w, hk, ha, hb, p, e) = subst EndsSpace (sym e) (λ x. omega (arith, x))

pub keyed_ends_space : (P : List ℕ → Type 0) (s r : List ℕ) → Keyed P s → EndsSpace (s ++ r)
keyed_ends_space P s r (k, a, b, w, hk, ha, hb, p, e) = subst (λ y. EndsSpace (y ++ r)) (sym e) (λ x. omega (arith, x))

-- white space in front makes no difference
module _ (Item P : List ℕ → Type 0) where
  pub past_spaced : (c s : List ℕ) → IsSpace c → Past Item P s → Past Item P (c ++ s)
  past_spaced c s hc (here c' r hc' p e) = here (c ++ c') r (each_append _ c c' hc hc') p (ap (λ y. c ++ y) e ∙ sym (append_assoc c c' r))
  past_spaced c s hc (next c' v b r hc' i hb p e) = next (c ++ c') v b r (each_append _ c c' hc hc') i hb p (ap (λ y. c ++ y) e ∙ sym (append_assoc c c' (v ++ (b ++ 44 ∷ r))))

  module _ (items : BeginsSolid Item) (ends : (s : List ℕ) → P s → EndsSpace s) where
    bare : (c c' s r : List ℕ) → IsSpace c → IsSpace c' → EndsSpace s → EndsSpace r → c ++ s ≡ c' ++ r → s ≡ r
    bare c c' s r h h' hs hr e =
        let front : c ≡ c' = space_unique c c' s r h h' hs hr e in
        append_cancel_left c s r (e ∙ ap (λ y. y ++ r) (sym front))

    pub past_bare : (c s : List ℕ) → IsSpace c → EndsSpace s → Past Item P (c ++ s) → Past Item P s
    past_bare c s hc hs (here c' r hc' p e) = here [] r tt p (bare c c' s r hc hc' hs (ends r p) e)
    past_bare c s hc hs (next c' v b r hc' i hb p e) = next [] v b r tt i hb p (bare c c' s (v ++ (b ++ 44 ∷ r)) hc hc' hs (items v (b ++ 44 ∷ r) i) e)

    pub past_cases : (s : List ℕ) → EndsSpace s → Past Item P s → P s ⊎ ((v b r : List ℕ) × Item v × IsSpace b × Past Item P r × (s ≡ v ++ (b ++ 44 ∷ r)))
    past_cases s hs (here c r hc p e) = inl (subst P (sym (bare [] c s r tt hc hs (ends r p) e)) p)
    past_cases s hs (next c v b r hc i hb p e) = inr (v, b, r, i, hb, p, bare [] c s (v ++ (b ++ 44 ∷ r)) tt hc hs (items v (b ++ 44 ∷ r) i) e)

    -- the item in front of s ends before s2, so only what follows a comma there goes on
    pub past_only : (s s2 : List ℕ) → EndsSpace s → (P s → ⊥) → ((v b r : List ℕ) → Item v → IsSpace b → s ≡ v ++ (b ++ 44 ∷ r) → s2 ≡ 44 ∷ r) → Past Item P s → (r : List ℕ) × Past Item P r × (s2 ≡ 44 ∷ r)
    past_only s s2 hs never only p = elim (past_cases s hs p) [
      | inl h ↦ absurd (never h)
      | inr h ↦ (h.2, h.5, only h.0 h.1 h.2 h.3 h.4 h.6)
    ]

-- a key, a colon and a value, and what follows
pub keyed_regroup : (k a b w z : List ℕ) → quoted k ++ (a ++ (58 ∷ (b ++ (w ++ z)))) ≡ (quoted k ++ (a ++ (58 ∷ (b ++ w)))) ++ z
keyed_regroup k a b w z =
    ap (λ y. quoted k ++ (a ++ 58 ∷ y)) (sym (append_assoc b w z)) ∙ ap (λ y. quoted k ++ y) (sym (append_assoc a (58 ∷ (b ++ w)) z)) ∙ sym (append_assoc (quoted k) (a ++ (58 ∷ (b ++ w))) z)

-- a member as its parts
pub member_whole : (k c q a b v w x y p m s z : List ℕ) {kb : List ℕ} → q ≡ quoted k → kb ≡ c ++ q ++ a → x ≡ kb ++ 58 ∷ [] → y ≡ b ++ v ++ w → p ≡ x ++ y → s ≡ p ++ m → s ++ z ≡ c ++ (quoted k ++ (a ++ (58 ∷ (b ++ (v ++ (w ++ (m ++ z)))))))
member_whole k c q a b v w x y p m s z {kb} hq hkb hx hy hp hs =
    let rest = m ++ z in
    let after = b ++ (v ++ (w ++ rest)) in
    ap (λ o. o ++ z) hs ∙ append_assoc p m z ∙ ap (λ o. o ++ rest) hp ∙ append_assoc x y rest ∙ ap (λ o. x ++ (o ++ rest)) hy ∙ ap (λ o. x ++ o) (regroup b v w rest) ∙ ap (λ o. o ++ after) hx ∙ append_assoc kb (58 ∷ []) after
    ∙ ap (λ o. o ++ (58 ∷ after)) hkb ∙ ap (λ o. (c ++ o ++ a) ++ (58 ∷ after)) hq ∙ regroup c (quoted k) a (58 ∷ after)

pub item_solid : BeginsSolid IsItem
item_solid s r (t, h) = value_ends_space t s r h

pub deep_first : (d : ℕ) (s : List ℕ) → IsDeep d s → Opens s
deep_first zero s h = h
deep_first (suc n) s (inl (r, p, e)) = (91, r, inl refl, e)
deep_first (suc n) s (inr (r, p, e)) = (123, r, inr refl, e)

comma_marks : (r : List ℕ) → StartsMark (44 ∷ r)
comma_marks r = (44, r, inl refl, refl)

-- what follows an item goes on too deep
abbrev MorePast : (List ℕ → Type 0) → (List ℕ → Type 0) → List ℕ → List ℕ → Type 0
MorePast Item P m z = (r : List ℕ) × (m ≡ 44 ∷ r) × Past Item P (r ++ z)

past_next : (Item P : List ℕ → Type 0) (m z c v b a : List ℕ) → IsSpace c → Item v → IsSpace b → MorePast Item P m z → a ++ z ≡ c ++ (v ++ (b ++ (m ++ z))) → Past Item P (a ++ z)
past_next Item P m z c v b a hc hv hb (r, g, p) e = next c v b (r ++ z) hc hv hb p (e ∙ ap (λ y. c ++ (v ++ (b ++ (y ++ z)))) g)

items_step : (d : ℕ) (t : PlainTree) (ts : PlainTrees) → ((a z : List ℕ) → IsValue t a → d < depth t → IsDeep d (a ++ z)) → ((m z : List ℕ) → AreMoreItems ts m → d < items_depth ts → MorePast IsItem (IsDeep d) m z)
    → (a z : List ℕ) → AreItems (item t ts) a → d < items_depth (item t ts) → Past IsItem (IsDeep d) (a ++ z)
items_step d t ts first more a z h low =
    let b = h.2 in
    let rest = h.1 ++ z in
    let whole : a ++ z ≡ b.0 ++ (b.1 ++ (b.2 ++ rest)) = ap (λ y. y ++ z) (h.4 ∙ ap (λ y. y ++ h.1) b.6) ∙ append_assoc (b.0 ++ b.1 ++ b.2) h.1 z ∙ regroup b.0 b.1 b.2 rest in
    elim (cases_lt d (depth t)) [
      | inl deep ↦ here b.0 (b.1 ++ (b.2 ++ rest)) b.3 (first b.1 (b.2 ++ rest) b.4 deep) whole
      | inr flat ↦ past_next IsItem (IsDeep d) h.1 z b.0 b.1 b.2 a b.3 (t, b.4) b.5 (more h.1 z h.3 (omega (arith, low, flat))) whole
    ]

members_step : (d : ℕ) (k : List ℕ) (t : PlainTree) (ms : PlainMembers) → ((a z : List ℕ) → IsValue t a → d < depth t → IsDeep d (a ++ z)) → ((m z : List ℕ) → AreMoreMembers ms m → d < members_depth ms → MorePast (Keyed IsItem) (Keyed (IsDeep d)) m z)
    → (a z : List ℕ) → AreMembers (member k t ms) a → d < members_depth (member k t ms) → Past (Keyed IsItem) (Keyed (IsDeep d)) (a ++ z)
members_step d k t ms first more a z h low =
    let x = h.2 in
    let kb = x.2 in
    let key = kb.1 in
    let val = x.3 in
    let rest = h.1 ++ z in
    let after = val.0 ++ (val.1 ++ (val.2 ++ rest)) in
    let whole : a ++ z ≡ key.0 ++ (quoted k ++ (key.2 ++ (58 ∷ after))) = member_whole k key.0 key.1 key.2 val.0 val.1 val.2 x.0 x.1 h.0 h.1 a z key.4.1 key.6 kb.2 val.6 x.4 h.4 in
    elim (cases_lt d (depth t)) [
      | inl deep ↦ here key.0 (quoted k ++ (key.2 ++ (58 ∷ after))) key.3 (k, key.2, val.0, val.1 ++ (val.2 ++ rest), key.4.0, key.5, val.3, first val.1 (val.2 ++ rest) val.4 deep, refl) whole
      | inr flat ↦ past_next (Keyed IsItem) (Keyed (IsDeep d)) h.1 z key.0 (quoted k ++ (key.2 ++ (58 ∷ (val.0 ++ val.1)))) val.2 a key.3 (k, key.2, val.0, val.1, key.4.0, key.5, val.3, (t, val.4), refl) val.5 (more h.1 z h.3 (omega (arith, low, flat)))
          (whole ∙ ap (λ y. key.0 ++ y) (keyed_regroup k key.2 val.0 val.1 (val.2 ++ rest)))
    ]

-- a value that is too deep
mutual
  pub value_deep : (d : ℕ) (t : PlainTree) (a z : List ℕ) → IsValue t a → d < depth t → IsDeep d (a ++ z)
  value_deep d null a z h low = absurd (omega (arith, low))
  value_deep d (truth b) a z h low = absurd (omega (arith, low))
  value_deep d (number n) a z h low = absurd (omega (arith, low))
  value_deep d (text n) a z h low = absurd (omega (arith, low))
  value_deep zero (list ts) a z h low = (91, h.0 ++ z, inl refl, ap (λ y. y ++ z) h.2)
  value_deep zero (members ms) a z h low = (123, h.0 ++ z, inr refl, ap (λ y. y ++ z) h.2)
  value_deep (suc n) (list ts) a z (b, (i, hi, f), e) low =
      inl (b ++ z, subst (Past IsItem (IsDeep n)) (sym (ap (λ y. y ++ z) f ∙ append_assoc i (93 ∷ []) z)) (items_deep n ts i (93 ∷ z) hi (omega (arith, low))), ap (λ y. y ++ z) e)
  value_deep (suc n) (members ms) a z (b, (i, hi, f), e) low =
      inr (b ++ z, subst (Past (Keyed IsItem) (Keyed (IsDeep n))) (sym (ap (λ y. y ++ z) f ∙ append_assoc i (125 ∷ []) z)) (members_deep n ms i (125 ∷ z) hi (omega (arith, low))), ap (λ y. y ++ z) e)

  items_deep : (d : ℕ) (ts : PlainTrees) (a z : List ℕ) → AreItems ts a → d < items_depth ts → Past IsItem (IsDeep d) (a ++ z)
  items_deep d no_items a z h low = absurd (omega (arith, low))
  items_deep d (item t ts) a z h low = items_step d t ts (value_deep d t) (more_items_deep d ts) a z h low

  more_items_deep : (d : ℕ) (ts : PlainTrees) (m z : List ℕ) → AreMoreItems ts m → d < items_depth ts → MorePast IsItem (IsDeep d) m z
  more_items_deep d no_items m z h low = absurd (omega (arith, low))
  more_items_deep d (item t ts) m z (r, h, e) low = (r, e, items_step d t ts (value_deep d t) (more_items_deep d ts) r z h low)

  members_deep : (d : ℕ) (ms : PlainMembers) (a z : List ℕ) → AreMembers ms a → d < members_depth ms → Past (Keyed IsItem) (Keyed (IsDeep d)) (a ++ z)
  members_deep d no_members a z h low = absurd (omega (arith, low))
  members_deep d (member k t ms) a z h low = members_step d k t ms (value_deep d t) (more_members_deep d ms) a z h low

  more_members_deep : (d : ℕ) (ms : PlainMembers) (m z : List ℕ) → AreMoreMembers ms m → d < members_depth ms → MorePast (Keyed IsItem) (Keyed (IsDeep d)) m z
  more_members_deep d no_members m z h low = absurd (omega (arith, low))
  more_members_deep d (member k t ms) m z (r, h, e) low = (r, e, members_step d k t ms (value_deep d t) (more_members_deep d ms) r z h low)

-- the value in front ends where it ends
pub item_after : (d : ℕ) (s s1 s2 c : List ℕ) (t : PlainTree) → BeginsValue d s t s1 → IsSpace c → EndsSpace s2 → s1 ≡ c ++ s2 → (v b r : List ℕ) → IsItem v → IsSpace b → s ≡ v ++ (b ++ 44 ∷ r) → s2 ≡ 44 ∷ r
item_after d s s1 s2 c t (w, hw, hd, ht, e) hc hs f v b r (u, hu) hb g =
    let z = 44 ∷ r in
    let own : w ++ (c ++ s2) ≡ v ++ b ++ z = sym (e ∙ ap (λ y. w ++ y) f) ∙ g ∙ sym (append_assoc v b z) in
    (element_unique t (value_unique t) u [] w c s2 ([] ++ v ++ b) z tt hw hc (subst (Ends t) f ht) hs ([], v, b, tt, hu, hb, refl) (mark_stops z (comma_marks r)) own).2

-- where no value of this depth stands, only a deeper one does
pub item_deep : (d : ℕ) (s : List ℕ) → HasNone (BeginsValue d s) → EndsSpace s → Past IsItem (IsDeep d) s → IsDeep d s
item_deep d s n hs p = elim (past_cases IsItem (IsDeep d) item_solid (deep_ends_space d) s hs p) [
  | inl h ↦ h
  | inr (v, b, r, (t, hv), hb, _, e) ↦ elim (cases_lt d (depth t)) [
    | inl low ↦ subst (IsDeep d) (sym e) (value_deep d t v (b ++ 44 ∷ r) hv low)
    | inr low ↦ absurd (n t (b ++ 44 ∷ r) (v, hv, low, ends_stop t b (44 ∷ r) hb (mark_stops (44 ∷ r) (comma_marks r)), e))
  ]
]

-- the bracket that closes begins no item
pub no_items_deep : (d : ℕ) (r : List ℕ) → Past IsItem (IsDeep d) (93 ∷ r) → ⊥
no_items_deep d r p =
    elim (past_cases IsItem (IsDeep d) item_solid (deep_ends_space d) (93 ∷ r) (mark_ends_space (93 ∷ r) (93, r, inr (inr (inl refl)), refl)) p) [
      | inl h ↦ let o = deep_first d (93 ∷ r) h in let e' : 93 ∷ r ≡ o.0 ∷ o.1 = o.3 in let x : 93 ≡ o.0 = cc in omega (arith, x, o.2)
      | inr (v, b, q, (t, hv), hb, _, e) ↦
          let f = value_first t v hv in
          let z = b ++ 44 ∷ q in
          let e' : 93 ∷ r ≡ f.0 ∷ (f.1 ++ z) = e ∙ ap (λ y. y ++ z) f.2 in
          let x : 93 ≡ f.0 = cc in
          f.4 (inr (inr (inr (inl (sym x)))))
    ]

-- the member in front ends where it ends
pub member_after : (d : ℕ) (s s1 s2 c k : List ℕ) (t : PlainTree) → BeginsMember d s (k, t) s1 → IsSpace c → EndsSpace s2 → s1 ≡ c ++ s2 → (v b r : List ℕ) → Keyed IsItem v → IsSpace b → s ≡ v ++ (b ++ 44 ∷ r) → s2 ≡ 44 ∷ r
member_after d s s1 s2 c k t (a', b', w', hk, ha', hb', hw', hd, ht, e) hc hs f v b r (l, a, o, w, hl, ha, ho, (u, hu), g) hb h =
    let z = 44 ∷ r in
    let one : BeginsMember (d + depth u) s (k, t) s1 = (a', b', w', hk, ha', hb', hw', omega (arith, hd), ht, e) in
    let two : BeginsMember (d + depth u) s (l, u) (b ++ z) = (a, o, w, hl, ha, ho, hu, omega arith, ends_stop u b z hb (mark_stops z (comma_marks r)), h ∙ ap (λ y. y ++ (b ++ z)) g ∙ sym (keyed_regroup l a o w (b ++ z))) in
    let same : c ++ s2 ≡ b ++ z = sym f ∙ (member_only (d + depth u) s k l t u s1 (b ++ z) one two).2 in
    let front : c ≡ b = space_unique c b s2 z hc hb hs (mark_ends_space z (comma_marks r)) same in
    append_cancel_left c s2 z (same ∙ ap (λ y. y ++ z) (sym front))

pub member_deep : (d : ℕ) (s : List ℕ) → HasNone (BeginsMember d s) → EndsSpace s → Past (Keyed IsItem) (Keyed (IsDeep d)) s → Keyed (IsDeep d) s
member_deep d s n hs p = elim (past_cases (Keyed IsItem) (Keyed (IsDeep d)) (keyed_ends_space IsItem) (keyed_ends (IsDeep d)) s hs p) [
  | inl h ↦ h
  | inr (v, b, r, (l, a, o, w, hl, ha, ho, (u, hu), g), hb, _, e) ↦
      let z = b ++ 44 ∷ r in
      let whole = e ∙ ap (λ y. y ++ z) g ∙ sym (keyed_regroup l a o w z) in
      elim (cases_lt d (depth u)) [
        | inl low ↦ (l, a, o, w ++ z, hl, ha, ho, value_deep d u w z hu low, whole)
        | inr low ↦ absurd (n (l, u) z (a, o, w, hl, ha, ho, hu, low, ends_stop u b (44 ∷ r) hb (mark_stops (44 ∷ r) (comma_marks r)), whole))
      ]
]

-- the brace that closes begins no member
pub no_members_deep : (d : ℕ) (r : List ℕ) → Past (Keyed IsItem) (Keyed (IsDeep d)) (125 ∷ r) → ⊥
no_members_deep d r p =
    elim (past_cases (Keyed IsItem) (Keyed (IsDeep d)) (keyed_ends_space IsItem) (keyed_ends (IsDeep d)) (125 ∷ r) (mark_ends_space (125 ∷ r) (125, r, inr (inr (inr refl)), refl)) p) [
      | inl (l, a, o, w, hl, ha, ho, h, e) ↦ let x : ◌≡◌ {A = ℕ} 125 34 = cc in omega (arith, x)
      | inr (v, b, q, (l, a, o, w, hl, ha, ho, i, g), hb, _, e) ↦
          let z = b ++ 44 ∷ q in
          let e' : 125 ∷ r ≡ 34 ∷ ((l ++ 34 ∷ []) ++ (a ++ (58 ∷ (o ++ (w ++ z))))) = e ∙ ap (λ y. y ++ z) g ∙ sym (keyed_regroup l a o w z) in
          let x : ◌≡◌ {A = ℕ} 125 34 = cc in omega (arith, x)
    ]
