-- The turns of the loop over the members of an object.
use Rattle.std.proofs.Common.{◌≡◌, inl, inr, ℕ, zero, suc, ◌-◌, ◌<◌, List, [], ◌∷◌, ◌++◌, refl, sym, ap, ◌∙◌, subst, append_assoc, arith}
use Rattle.gp_tree.specs.declared.tree.Member.{Member}
use Rattle.gp_tree.specs.Plain.{PlainTree, PlainMembers, members, no_members, member, plain_member, plain_entries}
use Rattle.std.specs.List.{concat}
use Rattle.std.proofs.lemmas.List.{append_cancel_left}
use Rattle.gp_tree.specs.Lexical.{IsSpace, IsChars, IsString}
use Rattle.gp_json.specs.Text.{quoted}
use Rattle.gp_json.specs.declared.fault.JsonFault.TheVariants.{NotJson}
use Rattle.gp_json.specs.declared.fault.JsonRefusal.{JsonRefusal}
use Rattle.gp_json.specs.declared.fault.JsonRefusal.TheVariants.{Fault}
use Rattle.gp_json.specs.Deep.{Past, here, next, IsItem, Keyed, IsDeep, Tells}
use Rattle.gp_json.proofs.Deep.{tells, past_spaced, past_bare, past_only, keyed_ends, keyed_ends_space, keyed_regroup, deep_ends_space, member_after, member_deep, no_members_deep}
use Rattle.gp_json.proofs.Unique.{mark_ends_space, tag, string_unique, space_unique, value_ends_space}
use Rattle.gp_json.proofs.ItemTurns.{Skips, kind_of}
use Rattle.gp_json.specs.Reading.{EndsSpace, BeginsValue, BeginsMember, BeginsMembers, BeginsEntries, HasNone}
use Rattle.gp_json.proofs.Found.{members_before, members_before_push, members_before_all}
use Rattle.gp_json.proofs.Entries.{first_good, first_none, last_good, next_good, next_none, other_none, member_none}

-- what is known at the start of a turn, where s0 stood behind the bracket and s is left
pub record MemberTurn (d : ℕ) (s0 s : List ℕ) (found : List Member) : Type 0 where
  pub good : (ts : PlainMembers) (r : List ℕ) → BeginsEntries d s ts r → BeginsMembers d s0 (members_before found ts) r
  pub none : HasNone (BeginsEntries d s) → HasNone (BeginsMembers d s0)
  pub deep : Past (Keyed IsItem) (Keyed (IsDeep d)) s → Past (Keyed IsItem) (Keyed (IsDeep d)) s0
  pub flat : Past (Keyed IsItem) (Keyed (IsDeep d)) s0 → Past (Keyed IsItem) (Keyed (IsDeep d)) s
  pub ends : EndsSpace s

pub members_bare : (d : ℕ) (c s : List ℕ) → IsSpace c → EndsSpace s → Past (Keyed IsItem) (Keyed (IsDeep d)) (c ++ s) → Past (Keyed IsItem) (Keyed (IsDeep d)) s
members_bare d c s hc hs p = past_bare (Keyed IsItem) (Keyed (IsDeep d)) (keyed_ends_space IsItem) (keyed_ends (IsDeep d)) c s hc hs p

pub flat_empty : (d : ℕ) (s0 s r : List ℕ) → Skips s0 s → s ≡ 125 ∷ r → Past (Keyed IsItem) (Keyed (IsDeep d)) s0 → ⊥
flat_empty d s0 s r sp e p = no_members_deep d r (members_bare d sp.0 (125 ∷ r) sp.1 (mark_ends_space (125 ∷ r) (125, r, inr (inr (inr refl)), refl)) (subst (Past (Keyed IsItem) (Keyed (IsDeep d))) (sp.2 ∙ ap (λ y. sp.0 ++ y) e) p))

member_before : (d : ℕ) (s s1 s2 s3 k : List ℕ) (t : PlainTree) → BeginsMember d s (k, t) s1 → Skips s1 s2 → s2 ≡ 44 ∷ s3 → Past (Keyed IsItem) (Keyed (IsDeep d)) s3 → Past (Keyed IsItem) (Keyed (IsDeep d)) s
member_before d s s1 s2 s3 k t (a, b, v, hk, ha, hb, hv, hd, ht, e) sp comma p =
    let v' = quoted k ++ (a ++ (58 ∷ (b ++ v))) in
    next [] v' sp.0 s3 tt (k, a, b, v, hk, ha, hb, (t, hv), refl) sp.1 p (e ∙ keyed_regroup k a b v s1 ∙ ap (λ y. v' ++ y) (sp.2 ∙ ap (λ y. sp.0 ++ y) comma))

member_behind : (d : ℕ) (s s1 s2 s3 k : List ℕ) (t : PlainTree) → BeginsMember d s (k, t) s1 → Skips s1 s2 → EndsSpace s2 → EndsSpace s → (Keyed (IsDeep d) s → ⊥) → s2 ≡ 44 ∷ s3 → Past (Keyed IsItem) (Keyed (IsDeep d)) s → Past (Keyed IsItem) (Keyed (IsDeep d)) s3
member_behind d s s1 s2 s3 k t v sp hs2 hs solid comma p =
    let q = past_only (Keyed IsItem) (Keyed (IsDeep d)) (keyed_ends_space IsItem) (keyed_ends (IsDeep d)) s s2 hs solid (member_after d s s1 s2 sp.0 k t v sp.1 hs2 sp.2) p in
    let e : 44 ∷ q.0 ≡ 44 ∷ s3 = sym q.2 ∙ comma in
    let same : q.0 ≡ s3 = cc in
    subst (Past (Keyed IsItem) (Keyed (IsDeep d))) same q.1

pub empty_members : (d : ℕ) (s0 s r : List ℕ) → Skips s0 s → s ≡ 125 ∷ r → BeginsMembers d s0 no_members r
empty_members d s0 s r sp e = (sp.0, sp.1, omega arith, sp.2 ∙ ap (λ y. sp.0 ++ y) e)

pub first_turn : (d : ℕ) (s0 s : List ℕ) → Skips s0 s → EndsSpace s → ((r : List ℕ) → s ≡ 125 ∷ r → ⊥) → MemberTurn d s0 s []
first_turn d s0 s sp he close = record {
  good = λ ts r h. subst (λ y. BeginsMembers d y ts r) (sym sp.2) (first_good d sp.0 s ts r sp.1 h);
  none = λ n. subst (λ y. HasNone (BeginsMembers d y)) (sym sp.2) (first_none d sp.0 s sp.1 he close n);
  deep = λ p. subst (Past (Keyed IsItem) (Keyed (IsDeep d))) (sym sp.2) (past_spaced (Keyed IsItem) (Keyed (IsDeep d)) sp.0 s sp.1 p);
  flat = λ p. members_bare d sp.0 s sp.1 he (subst (Past (Keyed IsItem) (Keyed (IsDeep d))) sp.2 p);
  ends = he;
}

pub next_turn : (d : ℕ) (s0 s s1 s2 s3 s4 : List ℕ) (found : List Member) (t : Member) → MemberTurn d s0 s found → BeginsMember d s (plain_member t) s1 → Skips s1 s2 → EndsSpace s2 → s2 ≡ 44 ∷ s3 → Skips s3 s4 → EndsSpace s4
    → (Keyed (IsDeep d) s → ⊥) → MemberTurn d s0 s4 (found ++ t ∷ [])
next_turn d s0 s s1 s2 s3 s4 found t turn v sp hs2 comma sp3 hs4 solid = record {
  good = λ ts r h. subst (λ y. BeginsMembers d s0 y r) (members_before_push found t ts) (turn.good (member (plain_member t).0 (plain_member t).1 ts) r (next_good d s s1 s2 s3 s4 sp.0 sp3.0 (plain_member t).0 (plain_member t).1 v sp.1 sp.2 comma sp3.1 sp3.2 ts r h));
  none = λ n. turn.none (next_none d s s1 s2 s3 s4 sp.0 sp3.0 (plain_member t).0 (plain_member t).1 v sp.1 hs2 sp.2 comma sp3.1 hs4 sp3.2 n);
  deep = λ p. turn.deep (member_before d s s1 s2 s3 (plain_member t).0 (plain_member t).1 v sp comma (subst (Past (Keyed IsItem) (Keyed (IsDeep d))) (sym sp3.2) (past_spaced (Keyed IsItem) (Keyed (IsDeep d)) sp3.0 s4 sp3.1 p)));
  flat = λ p. members_bare d sp3.0 s4 sp3.1 hs4 (subst (Past (Keyed IsItem) (Keyed (IsDeep d))) sp3.2 (member_behind d s s1 s2 s3 (plain_member t).0 (plain_member t).1 v sp hs2 turn.ends solid comma (turn.flat p)));
  ends = hs4;
}

pub last_turn : (d : ℕ) (s0 s s1 s2 s3 : List ℕ) (found : List Member) (t : Member) → MemberTurn d s0 s found → BeginsMember d s (plain_member t) s1 → Skips s1 s2 → s2 ≡ 125 ∷ s3 → BeginsMembers d s0 (plain_entries (found ++ t ∷ [])) s3
last_turn d s0 s s1 s2 s3 found t turn v sp close =
    subst (λ y. BeginsMembers d s0 y s3) (members_before_push found t no_members ∙ members_before_all (found ++ t ∷ []))
    (turn.good (member (plain_member t).0 (plain_member t).1 no_members) s3 (last_good d s s1 s2 s3 sp.0 (plain_member t).0 (plain_member t).1 v sp.1 sp.2 close))

pub failed_turn : (d : ℕ) (s0 s s1 s2 : List ℕ) (found : List Member) (t : List ℕ × PlainTree) → MemberTurn d s0 s found → BeginsMember d s t s1 → Skips s1 s2 → EndsSpace s2 → ((r : List ℕ) → s2 ≡ 125 ∷ r → ⊥) → ((r : List ℕ) → s2 ≡ 44 ∷ r → ⊥) → HasNone (BeginsMembers d s0)
failed_turn d s0 s s1 s2 found t turn v sp hs close comma = turn.none (other_none d s s1 s2 sp.0 t.0 t.1 v sp.1 hs sp.2 close comma)

-- nothing but a comma goes on
pub flat_turn : (d : ℕ) (s0 s s1 s2 : List ℕ) (found : List Member) (t : List ℕ × PlainTree) → MemberTurn d s0 s found → BeginsMember d s t s1 → Skips s1 s2 → EndsSpace s2 → ((r : List ℕ) → s2 ≡ 44 ∷ r → ⊥) → (Keyed (IsDeep d) s → ⊥) → Past (Keyed IsItem) (Keyed (IsDeep d)) s0 → ⊥
flat_turn d s0 s s1 s2 found t turn v sp hs comma solid p =
    let q = past_only (Keyed IsItem) (Keyed (IsDeep d)) (keyed_ends_space IsItem) (keyed_ends (IsDeep d)) s s2 turn.ends solid (member_after d s s1 s2 sp.0 t.0 t.1 v sp.1 hs sp.2) (turn.flat p) in
    comma q.0 q.2

pub refused_member : (d : ℕ) (s0 s : List ℕ) (found : List Member) (r : JsonRefusal) → MemberTurn d s0 s found → (r ≡ Fault NotJson → HasNone (BeginsMember d s)) → Tells r (Keyed (IsDeep d) s) → Tells r (Past (Keyed IsItem) (Keyed (IsDeep d)) s0)
refused_member d s0 s found r turn n = tells r (λ p. turn.deep (here [] s tt p refl)) (λ j p. member_deep d s (n j) turn.ends (turn.flat p))

pub failed_member : (d : ℕ) (s0 s : List ℕ) (found : List Member) → MemberTurn d s0 s found → HasNone (BeginsMember d s) → HasNone (BeginsMembers d s0)
failed_member d s0 s found turn n = turn.none (member_none d s n)

-- where a member that was begun goes on
key_rest : (s s1 s2 s3 k l a z : List ℕ) → s ≡ 34 ∷ s1 → IsChars k → s1 ≡ k ++ 34 ∷ s2 → Skips s2 s3 → EndsSpace s3 → IsString l → IsSpace a → s ≡ quoted l ++ (a ++ 58 ∷ z) → s3 ≡ 58 ∷ z
key_rest s s1 s2 s3 k l a z e hk e1 sp hs hl ha f =
    let tail = 58 ∷ z in
    let e' : 34 ∷ s1 ≡ 34 ∷ ((l ++ 34 ∷ []) ++ (a ++ tail)) = sym e ∙ f in
    let inner : s1 ≡ (l ++ 34 ∷ []) ++ (a ++ tail) = cc in
    let both : k ++ 34 ∷ s2 ≡ l ++ 34 ∷ (a ++ tail) = sym e1 ∙ inner ∙ append_assoc l (34 ∷ []) (a ++ tail) in
    let cs = hl.chars in
    let same : concat hk.0 ≡ concat cs.0 = string_unique hk.0 cs.0 s2 (a ++ tail) hk.1 cs.1 (ap (λ y. y ++ 34 ∷ s2) (sym hk.2) ∙ both ∙ ap (λ y. y ++ 34 ∷ (a ++ tail)) cs.2) in
    let keys : k ≡ l = hk.2 ∙ same ∙ sym cs.2 in
    let quotes : 34 ∷ s2 ≡ 34 ∷ (a ++ tail) = append_cancel_left k (34 ∷ s2) (34 ∷ (a ++ tail)) (both ∙ ap (λ y. y ++ 34 ∷ (a ++ tail)) (sym keys)) in
    let rest : s2 ≡ a ++ tail = cc in
    let whole : sp.0 ++ s3 ≡ a ++ tail = sym sp.2 ∙ rest in
    let front : sp.0 ≡ a = space_unique sp.0 a s3 tail sp.1 ha hs (λ x. omega (arith, x)) whole in
    append_cancel_left sp.0 s3 tail (whole ∙ ap (λ y. y ++ tail) (sym front))

member_rest : (d : ℕ) (s s1 s2 s3 : List ℕ) (k : List ℕ) (m : List ℕ × PlainTree) (r : List ℕ) → s ≡ 34 ∷ s1 → IsChars k → s1 ≡ k ++ 34 ∷ s2 → Skips s2 s3 → EndsSpace s3
    → (h : BeginsMember d s m r) → s3 ≡ 58 ∷ (h.1 ++ (h.2 ++ r))
member_rest d s s1 s2 s3 k m r e hk e1 sp hs (a, b, v, hl, ha, hb, hv, hd, ht, f) = key_rest s s1 s2 s3 k m.0 a (b ++ (v ++ r)) e hk e1 sp hs hl ha f

pub colon_flat : (P : List ℕ → Type 0) (s s1 s2 s3 k : List ℕ) → s ≡ 34 ∷ s1 → IsChars k → s1 ≡ k ++ 34 ∷ s2 → Skips s2 s3 → EndsSpace s3 → ((r : List ℕ) → s3 ≡ 58 ∷ r → ⊥) → Keyed P s → ⊥
colon_flat P s s1 s2 s3 k e hk e1 sp hs n (l, a, b, r, hl, ha, hb, p, f) = n (b ++ r) (key_rest s s1 s2 s3 k l a (b ++ r) e hk e1 sp hs hl ha f)

keyed_behind : (d : ℕ) (s s1 s2 s3 s4 s5 k : List ℕ) → s ≡ 34 ∷ s1 → IsChars k → s1 ≡ k ++ 34 ∷ s2 → Skips s2 s3 → EndsSpace s3 → s3 ≡ 58 ∷ s4 → Skips s4 s5 → EndsSpace s5 → Keyed (IsDeep d) s → IsDeep d s5
keyed_behind d s s1 s2 s3 s4 s5 k e hk e1 sp hs colon sp5 hs5 (l, a, b, r, hl, ha, hb, p, f) =
    let e' : 58 ∷ s4 ≡ 58 ∷ (b ++ r) = sym colon ∙ key_rest s s1 s2 s3 k l a (b ++ r) e hk e1 sp hs hl ha f in
    let tail : s4 ≡ b ++ r = cc in
    let whole : sp5.0 ++ s5 ≡ b ++ r = sym sp5.2 ∙ tail in
    let front : sp5.0 ≡ b = space_unique sp5.0 b s5 r sp5.1 hb hs5 (deep_ends_space d r p) whole in
    subst (IsDeep d) (sym (append_cancel_left sp5.0 s5 r (whole ∙ ap (λ y. y ++ r) (sym front)))) p

keyed_before : (d : ℕ) (s s1 s2 s3 s4 s5 k : List ℕ) → s ≡ 34 ∷ s1 → IsString k → s1 ≡ k ++ 34 ∷ s2 → Skips s2 s3 → s3 ≡ 58 ∷ s4 → Skips s4 s5 → IsDeep d s5 → Keyed (IsDeep d) s
keyed_before d s s1 s2 s3 s4 s5 k e hk e1 sp colon sp5 p =
    let s2_is : s2 ≡ sp.0 ++ (58 ∷ (sp5.0 ++ s5)) = sp.2 ∙ ap (λ y. sp.0 ++ y) (colon ∙ ap (λ y. 58 ∷ y) sp5.2) in
    (k, sp.0, sp5.0, s5, hk, sp.1, sp5.1, p, e ∙ ap (λ y. 34 ∷ y) (e1 ∙ ap (λ y. k ++ 34 ∷ y) s2_is ∙ sym (append_assoc k (34 ∷ []) (sp.0 ++ (58 ∷ (sp5.0 ++ s5))))))

pub refused_keyed : (d : ℕ) (s s1 s2 s3 s4 s5 k : List ℕ) (r : JsonRefusal) → s ≡ 34 ∷ s1 → IsString k → s1 ≡ k ++ 34 ∷ s2 → Skips s2 s3 → EndsSpace s3 → s3 ≡ 58 ∷ s4 → Skips s4 s5 → EndsSpace s5 → Tells r (IsDeep d s5) → Tells r (Keyed (IsDeep d) s)
refused_keyed d s s1 s2 s3 s4 s5 k r e hk e1 sp hs colon sp5 hs5 = tells r (keyed_before d s s1 s2 s3 s4 s5 k e hk e1 sp colon sp5) (λ _. keyed_behind d s s1 s2 s3 s4 s5 k e hk.chars e1 sp hs colon sp5 hs5)

pub flat_keyed : (d : ℕ) (s s1 s2 s3 s4 s5 k : List ℕ) → s ≡ 34 ∷ s1 → IsChars k → s1 ≡ k ++ 34 ∷ s2 → Skips s2 s3 → EndsSpace s3 → s3 ≡ 58 ∷ s4 → Skips s4 s5 → EndsSpace s5 → (IsDeep d s5 → ⊥) → Keyed (IsDeep d) s → ⊥
flat_keyed d s s1 s2 s3 s4 s5 k e hk e1 sp hs colon sp5 hs5 n h = n (keyed_behind d s s1 s2 s3 s4 s5 k e hk e1 sp hs colon sp5 hs5 h)

pub colon_none : (d : ℕ) (s s1 s2 s3 k : List ℕ) → s ≡ 34 ∷ s1 → IsChars k → s1 ≡ k ++ 34 ∷ s2 → Skips s2 s3 → EndsSpace s3 → ((r : List ℕ) → s3 ≡ 58 ∷ r → ⊥) → HasNone (BeginsMember d s)
colon_none d s s1 s2 s3 k e hk e1 sp hs n m r h = n (h.1 ++ (h.2 ++ r)) (member_rest d s s1 s2 s3 k m r e hk e1 sp hs h)

pub member_value_none : (d : ℕ) (s s1 s2 s3 s4 s5 k : List ℕ) → s ≡ 34 ∷ s1 → IsChars k → s1 ≡ k ++ 34 ∷ s2 → Skips s2 s3 → EndsSpace s3 → s3 ≡ 58 ∷ s4 → Skips s4 s5 → EndsSpace s5 → HasNone (BeginsValue d s5) → HasNone (BeginsMember d s)
member_value_none d s s1 s2 s3 s4 s5 k e hk e1 sp hs colon sp5 hs5 n m r h =
    let e' : 58 ∷ s4 ≡ 58 ∷ (h.1 ++ (h.2 ++ r)) = sym colon ∙ member_rest d s s1 s2 s3 k m r e hk e1 sp hs h in
    let tail : s4 ≡ h.1 ++ (h.2 ++ r) = cc in
    let whole : sp5.0 ++ s5 ≡ h.1 ++ (h.2 ++ r) = sym sp5.2 ∙ tail in
    let front : sp5.0 ≡ h.1 = space_unique sp5.0 h.1 s5 (h.2 ++ r) sp5.1 h.5 hs5 (value_ends_space m.1 h.2 r h.6) whole in
    n m.1 r (h.2, h.6, h.7, h.8, append_cancel_left sp5.0 s5 (h.2 ++ r) (whole ∙ ap (λ y. y ++ (h.2 ++ r)) (sym front)))

pub member_good : (d : ℕ) (s s1 s2 s3 s4 s5 r k : List ℕ) (t : PlainTree) → s ≡ 34 ∷ s1 → IsString k → s1 ≡ k ++ 34 ∷ s2 → Skips s2 s3 → s3 ≡ 58 ∷ s4 → Skips s4 s5 → BeginsValue d s5 t r → BeginsMember d s (k, t) r
member_good d s s1 s2 s3 s4 s5 r k t e hk e1 sp colon sp5 (v, hv, hd, ht, f) =
    let s4_is : s4 ≡ sp5.0 ++ (v ++ r) = sp5.2 ∙ ap (λ y. sp5.0 ++ y) f in
    let s2_is : s2 ≡ sp.0 ++ (58 ∷ (sp5.0 ++ (v ++ r))) = sp.2 ∙ ap (λ y. sp.0 ++ y) (colon ∙ ap (λ y. 58 ∷ y) s4_is) in
    (sp.0, sp5.0, v, hk, sp.1, sp5.1, hv, hd, ht, e ∙ ap (λ y. 34 ∷ y) (e1 ∙ ap (λ y. k ++ 34 ∷ y) s2_is ∙ sym (append_assoc k (34 ∷ []) (sp.0 ++ (58 ∷ (sp5.0 ++ (v ++ r)))))))

-- an object behind its bracket
pub object_good : (d : ℕ) (s s1 r : List ℕ) (ms : PlainMembers) → 0 < d → s ≡ 123 ∷ s1 → BeginsMembers (d - 1) s1 ms r → BeginsValue d s (members ms) r
object_good d s s1 r ms some e (a, h, low, f) = (123 ∷ a ++ 125 ∷ [], (a ++ 125 ∷ [], (a, h, refl), refl), omega (arith, low), tt, e ∙ ap (λ y. 123 ∷ y) (f ∙ sym (append_assoc a (125 ∷ []) r)))

pub object_none : (d : ℕ) (s s1 : List ℕ) → s ≡ 123 ∷ s1 → HasNone (BeginsMembers (d - 1) s1) → HasNone (BeginsValue d s)
unfolding tag
object_none d s s1 e n (members ms) r (a, h, low, _, f) =
    let e' : 123 ∷ s1 ≡ 123 ∷ ((h.1.0 ++ 125 ∷ []) ++ r) = sym e ∙ f ∙ ap (λ y. y ++ r) (h.2 ∙ ap (λ y. 123 ∷ y) h.1.2) in
    let tail : s1 ≡ (h.1.0 ++ 125 ∷ []) ++ r = cc in
    n ms r (h.1.0, h.1.1, omega (arith, low), tail ∙ append_assoc h.1.0 (125 ∷ []) r)
object_none d s s1 e n t r h = absurd (let k = kind_of d s 123 s1 t r e h in omega (arith, k))

object_rest : (d : ℕ) (s s1 : List ℕ) → 0 < d → s ≡ 123 ∷ s1 → IsDeep d s → Past (Keyed IsItem) (Keyed (IsDeep (d - 1))) s1
object_rest zero s s1 some e h = absurd (omega (arith, some))
object_rest (suc n) s s1 some e (inl (r, p, f)) =
    let e' : 91 ∷ r ≡ 123 ∷ s1 = sym f ∙ e in
    absurd (let x : ◌≡◌ {A = ℕ} 91 123 = cc in omega (arith, x))
object_rest (suc n) s s1 some e (inr (r, p, f)) =
    let e' : 123 ∷ r ≡ 123 ∷ s1 = sym f ∙ e in
    let same : r ≡ s1 = cc in
    let k : suc n - 1 ≡ n = omega arith in
    rw k (subst (Past (Keyed IsItem) (Keyed (IsDeep n))) same p)

pub flat_object : (d : ℕ) (s s1 : List ℕ) → 0 < d → s ≡ 123 ∷ s1 → (Past (Keyed IsItem) (Keyed (IsDeep (d - 1))) s1 → ⊥) → IsDeep d s → ⊥
flat_object d s s1 some e n h = n (object_rest d s s1 some e h)

pub refused_object : (d : ℕ) (s s1 : List ℕ) (r : JsonRefusal) → 0 < d → s ≡ 123 ∷ s1 → Tells r (Past (Keyed IsItem) (Keyed (IsDeep (d - 1))) s1) → Tells r (IsDeep d s)
refused_object zero s s1 r some e = absurd (omega (arith, some))
refused_object (suc n) s s1 r some e = let k : suc n - 1 ≡ n = omega arith in tells r (λ p. inr (s1, (rw k at p), e)) (λ _ h. object_rest (suc n) s s1 some e h)
