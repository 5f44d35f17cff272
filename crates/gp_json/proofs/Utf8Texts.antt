-- What spells a value is UTF-8.
use Rattle.std.proofs.Common.{◌≡◌, ℕ, zero, suc, ◌<◌, true, false, List, [], ◌∷◌, ◌++◌, codes, refl, sym, subst, arith, IsAscii, IsUtf8}
use Rattle.std.proofs.lemmas.Str.{IsUtf8-append, IsUtf8-from_ascii, IsUtf8-nil}
use Rattle.gp_tree.specs.Plain.{PlainTree, PlainTrees, PlainMembers, null, truth, number, text, list, members, no_items, item, no_members, member}
use Rattle.gp_tree.specs.Lexical.{Each, IsBlank, IsSpace}
use Rattle.gp_json.specs.Spelling.{IsQuoted, IsMember, IsValue, AreItems, AreMoreItems, AreMembers, AreMoreMembers, Spells}
use Rattle.gp_json.proofs.Unique.{each_more, number_bytes}
use Rattle.gp_json.proofs.Leaves.{number_ascii}

ascii : (s : List ℕ) → Each (λ x. x < 128) s → IsAscii s
ascii [] h i = omega arith
ascii (x ∷ s) h zero = h.0
ascii (x ∷ s) h (suc i) = ascii s h.1 i

pub ascii_utf8 : (s : List ℕ) → Each (λ x. x < 128) s → IsUtf8 s
ascii_utf8 s h = IsUtf8-from_ascii s (ascii s h)

space_utf8 : (s : List ℕ) → IsSpace s → IsUtf8 s
space_utf8 s h = ascii_utf8 s (each_more IsBlank (λ x. x < 128) (λ x b. omega (arith, b)) s h)

behind : (x : ℕ) (s a : List ℕ) → x < 128 → IsUtf8 a → s ≡ x ∷ a → IsUtf8 s
behind x s a low h e = subst IsUtf8 (sym e) (IsUtf8-append (x ∷ []) a (ascii_utf8 (x ∷ []) (low, tt)) h)

ended : (x : ℕ) (s a : List ℕ) → x < 128 → IsUtf8 a → s ≡ a ++ x ∷ [] → IsUtf8 s
ended x s a low h e = subst IsUtf8 (sym e) (IsUtf8-append a (x ∷ []) h (ascii_utf8 (x ∷ []) (low, tt)))

both : (s a b : List ℕ) → IsUtf8 a → IsUtf8 b → s ≡ a ++ b → IsUtf8 s
both s a b h k e = subst IsUtf8 (sym e) (IsUtf8-append a b h k)

three : (s a b c : List ℕ) → IsSpace a → IsUtf8 b → IsSpace c → s ≡ a ++ b ++ c → IsUtf8 s
three s a b c ha hb hc e = both s (a ++ b) c (IsUtf8-append a b (space_utf8 a ha) hb) (space_utf8 c hc) e

quoted_utf8 : (k s : List ℕ) → IsQuoted k s → IsUtf8 s
quoted_utf8 k s h = behind 34 s (k ++ 34 ∷ []) (omega arith) (ended 34 (k ++ 34 ∷ []) k (omega arith) h.0.utf8 refl) h.1

member_utf8 : (k : List ℕ) (t : PlainTree) → ((s : List ℕ) → IsValue t s → IsUtf8 s) → (s : List ℕ) → IsMember k (IsValue t) s → IsUtf8 s
member_utf8 k t value s (x, y, (kb, (a, q, b, ha, hq, hb, e1), e2), (c, v, d, hc, hv, hd, e3), e4) =
    both s x y (ended 58 x kb (omega arith) (three kb a q b ha (quoted_utf8 k q hq) hb e1) e2) (three y c v d hc (value v hv) hd e3) e4

mutual
  value_utf8 : (t : PlainTree) (s : List ℕ) → IsValue t s → IsUtf8 s
  value_utf8 null s h = subst IsUtf8 (sym h) (ascii_utf8 (codes "null") (omega arith, (omega arith, (omega arith, (omega arith, tt)))))
  value_utf8 (truth true) s h = subst IsUtf8 (sym h) (ascii_utf8 (codes "true") (omega arith, (omega arith, (omega arith, (omega arith, tt)))))
  value_utf8 (truth false) s h = subst IsUtf8 (sym h) (ascii_utf8 (codes "false") (omega arith, (omega arith, (omega arith, (omega arith, (omega arith, tt))))))
  value_utf8 (number n) s h = subst IsUtf8 (sym h.1) (ascii_utf8 n (number_ascii n (number_bytes n h.0)))
  value_utf8 (text k) s h = quoted_utf8 k s h
  value_utf8 (list ts) s (a, (b, h, e), f) = behind 91 s a (omega arith) (ended 93 a b (omega arith) (items_utf8 ts b h) e) f
  value_utf8 (members ms) s (a, (b, h, e), f) = behind 123 s a (omega arith) (ended 125 a b (omega arith) (members_utf8 ms b h) e) f

  items_utf8 : (ts : PlainTrees) (s : List ℕ) → AreItems ts s → IsUtf8 s
  items_utf8 no_items s h = space_utf8 s h
  items_utf8 (item t ts) s (a, m, (c, v, b, hc, hv, hb, e), hm, f) = both s a m (three a c v b hc (value_utf8 t v hv) hb e) (more_items_utf8 ts m hm) f

  more_items_utf8 : (ts : PlainTrees) (s : List ℕ) → AreMoreItems ts s → IsUtf8 s
  more_items_utf8 no_items s h = subst IsUtf8 (sym h) IsUtf8-nil
  more_items_utf8 (item t ts) s (r, (a, m, (c, v, b, hc, hv, hb, e), hm, f), g) = behind 44 s r (omega arith) (both r a m (three a c v b hc (value_utf8 t v hv) hb e) (more_items_utf8 ts m hm) f) g

  members_utf8 : (ms : PlainMembers) (s : List ℕ) → AreMembers ms s → IsUtf8 s
  members_utf8 no_members s h = space_utf8 s h
  members_utf8 (member k t ms) s (a, m, h, hm, f) = both s a m (member_utf8 k t (value_utf8 t) a h) (more_members_utf8 ms m hm) f

  more_members_utf8 : (ms : PlainMembers) (s : List ℕ) → AreMoreMembers ms s → IsUtf8 s
  more_members_utf8 no_members s h = subst IsUtf8 (sym h) IsUtf8-nil
  more_members_utf8 (member k t ms) s (r, (a, m, h, hm, f), g) = behind 44 s r (omega arith) (both r a m (member_utf8 k t (value_utf8 t) a h) (more_members_utf8 ms m hm) f) g

pub spells_utf8 : (s : List ℕ) (t : PlainTree) → Spells s t → IsUtf8 s
spells_utf8 s t (a, v, c, ha, hv, hc, e) = three s a v c ha (value_utf8 t v hv) hc e
