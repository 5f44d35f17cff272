-- The first member with a name.
use Rattle.std.proofs.Common.{◌≡◌, ◌↔◌, IsTrue, ℕ, zero, suc, ◌+◌, ◌<◌, Bool, true, false, List, [], ◌∷◌, ◌++◌, length, map, get_or, take, Some, None, refl, sym, ap, ◌∙◌, subst, arith, rules}
use Rattle.std.proofs.lemmas.List.{take_more}
use Rattle.std.proofs.lemmas.Slice.Eq.{bytes_eq-Decides}
use Rattle.gp_tree.specs.declared.tree.Tree.{Members as an_object, the_lemmas}
use Rattle.gp_tree.specs.declared.tree.Member.{Member, the_lemmas as member_lemmas}
use Rattle.gp_tree.specs.declared.tree.Members.{Members}
use Rattle.gp_tree.specs.Plain.{plain, plain_member, plain_entries, plain_members, members_of, members}
use Rattle.gp_tree.specs.Key.{units}
use Rattle.gp_tree.specs.Find.{PlainMember, member_list, is_named, value_of, find_member}
use Rattle.gp_tree.specs.First.{HasNo, IsFirst}

pub member_key : (m : Member) → (plain_member m).0 ≡ m.key
member_key m = search (rules, member_lemmas)

pub member_value : (m : Member) → (plain_member m).1 ≡ plain m.value
member_value m = search (rules, member_lemmas)

pub named : (name : List ℕ) (m : Member) (r : Bool) → IsTrue r ↔ (units m.key ≡ name) → r ≡ true → is_named name (plain_member m).0 ≡ true
named name m r h t = rw (member_key m) ((bytes_eq-Decides (units m.key) name).1 (h.0 t))

pub from_false : (b : Bool) → (b ≡ true → ⊥) → b ≡ false
from_false true h = absurd (h refl)
from_false false h = refl

pub not_named : (name : List ℕ) (m : Member) (r : Bool) → IsTrue r ↔ (units m.key ≡ name) → r ≡ false → is_named name (plain_member m).0 ≡ false
not_named name m r h f = rw (member_key m) (from_false (is_named name m.key) (λ t. let e = h.1 ((bytes_eq-Decides (units m.key) name).0 t) in let x : true ≡ false = sym e ∙ f in cc))

no_push : (name : List ℕ) (xs : List Member) (m : Member) → HasNo name (map plain_member xs) → is_named name (plain_member m).0 ≡ false → HasNo name (map plain_member (xs ++ m ∷ []))
no_push name [] m h e = (e, tt)
no_push name (x ∷ xs) m h e = (h.0, no_push name xs m h.1 e)

pub no_more : (name : List ℕ) (xs : List Member) (i : ℕ) (m : Member) → i < length xs → HasNo name (map plain_member (take i xs)) → is_named name (plain_member (get_or xs i m)).0 ≡ false
    → HasNo name (map plain_member (take (i + 1) xs))
no_more name xs i m h none e = subst (λ l. HasNo name (map plain_member l)) (sym (take_more xs i m h)) (no_push name (take i xs) (get_or xs i m) none e)

pub first_here : (name : List ℕ) (xs : List Member) (i : ℕ) (m : Member) → i < length xs → HasNo name (map plain_member (take i xs)) → is_named name (plain_member (get_or xs i m)).0 ≡ true
    → IsFirst name (map plain_member xs) i
first_here name [] i m h none e = absurd (omega arith)
first_here name (x ∷ xs) zero m h none e = e
first_here name (x ∷ xs) (suc i) m h none e = (none.0, first_here name xs i m (omega arith) none.1 e)

pub list_of : (ms : List PlainMember) → member_list (members_of ms) ≡ ms
list_of [] = refl
list_of (m ∷ ms) = ap (λ l. m ∷ l) (list_of ms)

pub object_is : (v : Members) → plain (an_object v) ≡ members (plain_members v)
object_is v = search (rules, the_lemmas)

pub object_value : (name : List ℕ) (v : Members) (xs : List Member) → plain_entries xs ≡ plain_members v → find_member name (plain (an_object v)) ≡ value_of name (map plain_member xs)
object_value name v xs e = ap (find_member name) (object_is v ∙ ap members (sym e)) ∙ ap (value_of name) (list_of (map plain_member xs))

pub value_first : (name : List ℕ) (xs : List Member) (i : ℕ) (m : Member) → IsFirst name (map plain_member xs) i → value_of name (map plain_member xs) ≡ Some (plain (get_or xs i m).value)
value_first name [] i m h = absurd h
value_first name (x ∷ xs) zero m h = rw h (ap Some (member_value x))
value_first name (x ∷ xs) (suc i) m h = rw h.0 (value_first name xs i m h.1)

pub value_none : (name : List ℕ) (ms : List PlainMember) → HasNo name ms → value_of name ms ≡ None
value_none name [] h = refl
value_none name (m ∷ ms) h = rw h.0 (value_none name ms h.1)
