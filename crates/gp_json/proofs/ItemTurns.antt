-- The turns of the loop over the items of a list.
use Rattle.std.proofs.Common.{◌≡◌, inl, inr, ℕ, zero, suc, ◌-◌, ◌<◌, List, [], ◌∷◌, ◌++◌, refl, sym, ap, ◌∙◌, subst, append_assoc, arith}
use Rattle.gp_tree.specs.declared.tree.Tree.{Tree}
use Rattle.gp_tree.specs.Plain.{PlainTree, PlainTrees, list, no_items, item, plain, plain_items}
use Rattle.gp_tree.specs.Lexical.{IsSpace}
use Rattle.gp_json.specs.Reading.{EndsSpace, BeginsValue, BeginsItems, BeginsElements, HasNone}
use Rattle.gp_json.specs.declared.fault.JsonFault.TheVariants.{NotJson}
use Rattle.gp_json.specs.declared.fault.JsonRefusal.{JsonRefusal}
use Rattle.gp_json.specs.declared.fault.JsonRefusal.TheVariants.{Fault}
use Rattle.gp_json.specs.Deep.{Past, here, next, IsItem, IsDeep, Tells}
use Rattle.gp_json.proofs.Deep.{tells, past_spaced, past_bare, past_only, item_solid, deep_ends_space, item_after, item_deep, no_items_deep}
use Rattle.gp_json.proofs.Unique.{value_first, mark_ends_space, kind, tag}
use Rattle.gp_json.proofs.Found.{trees_before, trees_before_push, trees_before_all}
use Rattle.gp_json.proofs.Elements.{first_good, first_none, last_good, next_good, next_none, other_none, value_none}

abbrev pub Skips : List ℕ → List ℕ → Type 0
Skips s r = (a : List ℕ) × IsSpace a × (s ≡ a ++ r)

-- what is known at the start of a turn, where s0 stood behind the bracket and s is left
pub record Turn (d : ℕ) (s0 s : List ℕ) (found : List Tree) : Type 0 where
  pub good : (ts : PlainTrees) (r : List ℕ) → BeginsElements d s ts r → BeginsItems d s0 (trees_before found ts) r
  pub none : HasNone (BeginsElements d s) → HasNone (BeginsItems d s0)
  pub deep : Past IsItem (IsDeep d) s → Past IsItem (IsDeep d) s0
  pub flat : Past IsItem (IsDeep d) s0 → Past IsItem (IsDeep d) s
  pub ends : EndsSpace s

pub items_bare : (d : ℕ) (c s : List ℕ) → IsSpace c → EndsSpace s → Past IsItem (IsDeep d) (c ++ s) → Past IsItem (IsDeep d) s
items_bare d c s hc hs p = past_bare IsItem (IsDeep d) item_solid (deep_ends_space d) c s hc hs p

pub flat_empty : (d : ℕ) (s0 s r : List ℕ) → Skips s0 s → s ≡ 93 ∷ r → Past IsItem (IsDeep d) s0 → ⊥
flat_empty d s0 s r sp e p = no_items_deep d r (items_bare d sp.0 (93 ∷ r) sp.1 (mark_ends_space (93 ∷ r) (93, r, inr (inr (inl refl)), refl)) (subst (Past IsItem (IsDeep d)) (sp.2 ∙ ap (λ y. sp.0 ++ y) e) p))

item_before : (d : ℕ) (s s1 s2 s3 : List ℕ) (t : PlainTree) → BeginsValue d s t s1 → Skips s1 s2 → s2 ≡ 44 ∷ s3 → Past IsItem (IsDeep d) s3 → Past IsItem (IsDeep d) s
item_before d s s1 s2 s3 t (v, hv, hd, ht, e) sp comma p = next [] v sp.0 s3 tt (t, hv) sp.1 p (e ∙ ap (λ y. v ++ y) (sp.2 ∙ ap (λ y. sp.0 ++ y) comma))

item_behind : (d : ℕ) (s s1 s2 s3 : List ℕ) (t : PlainTree) → BeginsValue d s t s1 → Skips s1 s2 → EndsSpace s2 → EndsSpace s → (IsDeep d s → ⊥) → s2 ≡ 44 ∷ s3 → Past IsItem (IsDeep d) s → Past IsItem (IsDeep d) s3
item_behind d s s1 s2 s3 t v sp hs2 hs solid comma p =
    let q = past_only IsItem (IsDeep d) item_solid (deep_ends_space d) s s2 hs solid (item_after d s s1 s2 sp.0 t v sp.1 hs2 sp.2) p in
    let e : 44 ∷ q.0 ≡ 44 ∷ s3 = sym q.2 ∙ comma in
    let same : q.0 ≡ s3 = cc in
    subst (Past IsItem (IsDeep d)) same q.1

pub empty_items : (d : ℕ) (s0 s r : List ℕ) → Skips s0 s → s ≡ 93 ∷ r → BeginsItems d s0 no_items r
empty_items d s0 s r sp e = (sp.0, sp.1, omega arith, sp.2 ∙ ap (λ y. sp.0 ++ y) e)

pub first_turn : (d : ℕ) (s0 s : List ℕ) → Skips s0 s → EndsSpace s → ((r : List ℕ) → s ≡ 93 ∷ r → ⊥) → Turn d s0 s []
first_turn d s0 s sp he close = record {
  good = λ ts r h. subst (λ y. BeginsItems d y ts r) (sym sp.2) (first_good d sp.0 s ts r sp.1 h);
  none = λ n. subst (λ y. HasNone (BeginsItems d y)) (sym sp.2) (first_none d sp.0 s sp.1 he close n);
  deep = λ p. subst (Past IsItem (IsDeep d)) (sym sp.2) (past_spaced IsItem (IsDeep d) sp.0 s sp.1 p);
  flat = λ p. items_bare d sp.0 s sp.1 he (subst (Past IsItem (IsDeep d)) sp.2 p);
  ends = he;
}

pub next_turn : (d : ℕ) (s0 s s1 s2 s3 s4 : List ℕ) (found : List Tree) (t : Tree) → Turn d s0 s found → BeginsValue d s (plain t) s1 → Skips s1 s2 → EndsSpace s2 → s2 ≡ 44 ∷ s3 → Skips s3 s4 → EndsSpace s4
    → (IsDeep d s → ⊥) → Turn d s0 s4 (found ++ t ∷ [])
next_turn d s0 s s1 s2 s3 s4 found t turn v sp hs2 comma sp3 hs4 solid = record {
  good = λ ts r h. subst (λ y. BeginsItems d s0 y r) (trees_before_push found t ts) (turn.good (item (plain t) ts) r (next_good d s s1 s2 s3 s4 sp.0 sp3.0 (plain t) v sp.1 sp.2 comma sp3.1 sp3.2 ts r h));
  none = λ n. turn.none (next_none d s s1 s2 s3 s4 sp.0 sp3.0 (plain t) v sp.1 hs2 sp.2 comma sp3.1 hs4 sp3.2 n);
  deep = λ p. turn.deep (item_before d s s1 s2 s3 (plain t) v sp comma (subst (Past IsItem (IsDeep d)) (sym sp3.2) (past_spaced IsItem (IsDeep d) sp3.0 s4 sp3.1 p)));
  flat = λ p. items_bare d sp3.0 s4 sp3.1 hs4 (subst (Past IsItem (IsDeep d)) sp3.2 (item_behind d s s1 s2 s3 (plain t) v sp hs2 turn.ends solid comma (turn.flat p)));
  ends = hs4;
}

pub last_turn : (d : ℕ) (s0 s s1 s2 s3 : List ℕ) (found : List Tree) (t : Tree) → Turn d s0 s found → BeginsValue d s (plain t) s1 → Skips s1 s2 → s2 ≡ 93 ∷ s3 → BeginsItems d s0 (plain_items (found ++ t ∷ [])) s3
last_turn d s0 s s1 s2 s3 found t turn v sp close =
    subst (λ y. BeginsItems d s0 y s3) (trees_before_push found t no_items ∙ trees_before_all (found ++ t ∷ []))
    (turn.good (item (plain t) no_items) s3 (last_good d s s1 s2 s3 sp.0 (plain t) v sp.1 sp.2 close))

pub failed_turn : (d : ℕ) (s0 s s1 s2 : List ℕ) (found : List Tree) (t : PlainTree) → Turn d s0 s found → BeginsValue d s t s1 → Skips s1 s2 → EndsSpace s2 → ((r : List ℕ) → s2 ≡ 93 ∷ r → ⊥) → ((r : List ℕ) → s2 ≡ 44 ∷ r → ⊥) → HasNone (BeginsItems d s0)
failed_turn d s0 s s1 s2 found t turn v sp hs close comma = turn.none (other_none d s s1 s2 sp.0 t v sp.1 hs sp.2 close comma)

-- nothing but a comma goes on
pub flat_turn : (d : ℕ) (s0 s s1 s2 : List ℕ) (found : List Tree) (t : PlainTree) → Turn d s0 s found → BeginsValue d s t s1 → Skips s1 s2 → EndsSpace s2 → ((r : List ℕ) → s2 ≡ 44 ∷ r → ⊥) → (IsDeep d s → ⊥) → Past IsItem (IsDeep d) s0 → ⊥
flat_turn d s0 s s1 s2 found t turn v sp hs comma solid p =
    let q = past_only IsItem (IsDeep d) item_solid (deep_ends_space d) s s2 turn.ends solid (item_after d s s1 s2 sp.0 t v sp.1 hs sp.2) (turn.flat p) in
    comma q.0 q.2

pub refused_value : (d : ℕ) (s0 s : List ℕ) (found : List Tree) (r : JsonRefusal) → Turn d s0 s found → (r ≡ Fault NotJson → HasNone (BeginsValue d s)) → Tells r (IsDeep d s) → Tells r (Past IsItem (IsDeep d) s0)
refused_value d s0 s found r turn n = tells r (λ p. turn.deep (here [] s tt p refl)) (λ j p. item_deep d s (n j) turn.ends (turn.flat p))

pub failed_value : (d : ℕ) (s0 s : List ℕ) (found : List Tree) → Turn d s0 s found → HasNone (BeginsValue d s) → HasNone (BeginsItems d s0)
failed_value d s0 s found turn n = turn.none (value_none d s n)

-- a list behind its bracket
pub list_good : (d : ℕ) (s s1 r : List ℕ) (ts : PlainTrees) → 0 < d → s ≡ 91 ∷ s1 → BeginsItems (d - 1) s1 ts r → BeginsValue d s (list ts) r
list_good d s s1 r ts some e (a, h, low, f) = (91 ∷ a ++ 93 ∷ [], (a ++ 93 ∷ [], (a, h, refl), refl), omega (arith, low), tt, e ∙ ap (λ y. 91 ∷ y) (f ∙ sym (append_assoc a (93 ∷ []) r)))

pub kind_of : (d : ℕ) (s : List ℕ) (x : ℕ) (s1 : List ℕ) (t : PlainTree) (r : List ℕ) → s ≡ x ∷ s1 → BeginsValue d s t r → kind x ≡ tag t
kind_of d s x s1 t r e (a, h, _, _, f) =
    let g = value_first t a h in
    let e' : x ∷ s1 ≡ g.0 ∷ (g.1 ++ r) = sym e ∙ f ∙ ap (λ y. y ++ r) g.2 in
    let same : x ≡ g.0 = cc in
    ap kind same ∙ g.3

pub list_none : (d : ℕ) (s s1 : List ℕ) → s ≡ 91 ∷ s1 → HasNone (BeginsItems (d - 1) s1) → HasNone (BeginsValue d s)
unfolding tag
list_none d s s1 e n (list ts) r (a, h, low, _, f) =
    let e' : 91 ∷ s1 ≡ 91 ∷ ((h.1.0 ++ 93 ∷ []) ++ r) = sym e ∙ f ∙ ap (λ y. y ++ r) (h.2 ∙ ap (λ y. 91 ∷ y) h.1.2) in
    let tail : s1 ≡ (h.1.0 ++ 93 ∷ []) ++ r = cc in
    n ts r (h.1.0, h.1.1, omega (arith, low), tail ∙ append_assoc h.1.0 (93 ∷ []) r)
list_none d s s1 e n t r h = absurd (let k = kind_of d s 91 s1 t r e h in omega (arith, k))

pub list_rest : (d : ℕ) (s s1 : List ℕ) → 0 < d → s ≡ 91 ∷ s1 → IsDeep d s → Past IsItem (IsDeep (d - 1)) s1
list_rest zero s s1 some e h = absurd (omega (arith, some))
list_rest (suc n) s s1 some e (inl (r, p, f)) =
    let e' : 91 ∷ r ≡ 91 ∷ s1 = sym f ∙ e in
    let same : r ≡ s1 = cc in
    let k : suc n - 1 ≡ n = omega arith in
    rw k (subst (Past IsItem (IsDeep n)) same p)
list_rest (suc n) s s1 some e (inr (r, p, f)) =
    let e' : 123 ∷ r ≡ 91 ∷ s1 = sym f ∙ e in
    absurd (let x : ◌≡◌ {A = ℕ} 123 91 = cc in omega (arith, x))

pub flat_list : (d : ℕ) (s s1 : List ℕ) → 0 < d → s ≡ 91 ∷ s1 → (Past IsItem (IsDeep (d - 1)) s1 → ⊥) → IsDeep d s → ⊥
flat_list d s s1 some e n h = n (list_rest d s s1 some e h)

pub refused_list : (d : ℕ) (s s1 : List ℕ) (r : JsonRefusal) → 0 < d → s ≡ 91 ∷ s1 → Tells r (Past IsItem (IsDeep (d - 1)) s1) → Tells r (IsDeep d s)
refused_list zero s s1 r some e = absurd (omega (arith, some))
refused_list (suc n) s s1 r some e = let k : suc n - 1 ≡ n = omega arith in tells r (λ p. inl (s1, (rw k at p), e)) (λ _ h. list_rest (suc n) s s1 some e h)

pub list_deep : (d : ℕ) (s s1 : List ℕ) → d ≡ 0 → s ≡ 91 ∷ s1 → HasNone (BeginsValue d s)
unfolding tag
list_deep d s s1 none e (list ts) r h = absurd (omega (arith, h.2, none))
list_deep d s s1 none e t r h = absurd (let k = kind_of d s 91 s1 t r e h in omega (arith, k))
