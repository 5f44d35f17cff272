-- Members at any place, item by item.
use Rattle.std.proofs.Common.{◌≡◌, ◌↔◌, IsTrue, ℕ, ◌+◌, ◌<◌, zero, suc, true, false, ◌||◌, Bool, List, [], ◌∷◌, ◌++◌, length, get_or, take, refl, sym, ap, ◌∙◌, subst, arith}
use Rattle.std.proofs.lemmas.List.{take_more}
use Rattle.gp_tree.specs.declared.tree.Tree.{Tree}
use Rattle.gp_tree.specs.declared.tree.Member.{Member}
use Rattle.gp_tree.specs.Plain.{plain, plain_member, plain_items, plain_entries}
use Rattle.gp_tree.specs.Find.{is_named}
use Rattle.gp_tree.specs.Key.{units}
use Rattle.gp_tree.specs.Anywhere.{has_member, items_have_member, members_have_member}
use Rattle.gp_tree.proofs.Distinct.{member_is}
use Rattle.gp_tree.proofs.Firsts.{named, not_named, member_key}

or_right : (a b : Bool) → b ≡ true → (a || b) ≡ true
or_right true b h = refl
or_right false b h = h

or_left : (a b : Bool) → a ≡ true → (a || b) ≡ true
or_left a b h = ap (λ x. x || b) h

or_none : (a b : Bool) → a ≡ false → b ≡ false → (a || b) ≡ false
or_none a b h k = ap (λ x. x || b) h ∙ k

pub items_found : (name : List ℕ) (xs : List Tree) (i : ℕ) (t : Tree) → i < length xs → t ≡ get_or xs i t → has_member name (plain t) ≡ true → items_have_member name (plain_items xs) ≡ true
items_found name [] i t h is found = absurd (omega (arith, h))
items_found name (x ∷ xs) zero t h is found = or_left (has_member name (plain x)) (items_have_member name (plain_items xs)) (ap (λ y. has_member name (plain y)) (sym is) ∙ found)
items_found name (x ∷ xs) (suc i) t h is found = or_right (has_member name (plain x)) (items_have_member name (plain_items xs)) (items_found name xs i t (omega (arith, h)) is found)

items_push : (name : List ℕ) (xs : List Tree) (t : Tree) → items_have_member name (plain_items xs) ≡ false → has_member name (plain t) ≡ false → items_have_member name (plain_items (xs ++ t ∷ [])) ≡ false
items_push name [] t h k = or_none (has_member name (plain t)) false k refl
items_push name (x ∷ xs) t h k = elim (has_member name (plain x)) as (λ b. (b || items_have_member name (plain_items xs)) ≡ false → (b || items_have_member name (plain_items (xs ++ t ∷ []))) ≡ false) [
  | true ↦ λ g. g
  | false ↦ λ g. items_push name xs t g k
] h

pub items_more : (name : List ℕ) (xs : List Tree) (i : ℕ) (t : Tree) → i < length xs → t ≡ get_or xs i t → items_have_member name (plain_items (take i xs)) ≡ false → has_member name (plain t) ≡ false
    → items_have_member name (plain_items (take (i + 1) xs)) ≡ false
items_more name xs i t h is none k =
    subst (λ y. items_have_member name (plain_items y) ≡ false) (sym (take_more xs i t h ∙ ap (λ u. take i xs ++ u ∷ []) (sym is))) (items_push name (take i xs) t none k)

-- a member, as the definition has it: by its key, or in its value
abbrev pub is_in : List ℕ → Member → Bool
is_in name m = is_named name m.key || has_member name (plain m.value)

member_in : (name : List ℕ) (m : Member) → (is_named name (plain_member m).0 || has_member name (plain_member m).1) ≡ is_in name m
member_in name m = ap (λ y. is_named name y.0 || has_member name y.1) (member_is m)

pub members_found : (name : List ℕ) (xs : List Member) (i : ℕ) (m : Member) → i < length xs → m ≡ get_or xs i m → is_in name m ≡ true → members_have_member name (plain_entries xs) ≡ true
members_found name [] i m h is found = absurd (omega (arith, h))
members_found name (x ∷ xs) zero m h is found =
    or_left (is_named name (plain_member x).0 || has_member name (plain_member x).1) (members_have_member name (plain_entries xs))
    (member_in name x ∙ ap (is_in name) (sym is) ∙ found)
members_found name (x ∷ xs) (suc i) m h is found =
    or_right (is_named name (plain_member x).0 || has_member name (plain_member x).1) (members_have_member name (plain_entries xs))
    (members_found name xs i m (omega (arith, h)) is found)

members_push : (name : List ℕ) (xs : List Member) (m : Member) → members_have_member name (plain_entries xs) ≡ false → is_in name m ≡ false → members_have_member name (plain_entries (xs ++ m ∷ [])) ≡ false
members_push name [] m h k = or_none (is_named name (plain_member m).0 || has_member name (plain_member m).1) false (member_in name m ∙ k) refl
members_push name (x ∷ xs) m h k = elim (is_named name (plain_member x).0 || has_member name (plain_member x).1) as (λ b. (b || members_have_member name (plain_entries xs)) ≡ false → (b || members_have_member name (plain_entries (xs ++ m ∷ []))) ≡ false) [
  | true ↦ λ g. g
  | false ↦ λ g. members_push name xs m g k
] h

pub members_more : (name : List ℕ) (xs : List Member) (i : ℕ) (m : Member) → i < length xs → m ≡ get_or xs i m → members_have_member name (plain_entries (take i xs)) ≡ false → is_in name m ≡ false
    → members_have_member name (plain_entries (take (i + 1) xs)) ≡ false
members_more name xs i m h is none k =
    subst (λ y. members_have_member name (plain_entries y) ≡ false) (sym (take_more xs i m h ∙ ap (λ u. take i xs ++ u ∷ []) (sym is))) (members_push name (take i xs) m none k)

pub in_by_key : (name : List ℕ) (m : Member) (r : Bool) → IsTrue r ↔ (units m.key ≡ name) → r ≡ true → is_in name m ≡ true
in_by_key name m r says found = or_left (is_named name m.key) (has_member name (plain m.value)) (ap (is_named name) (sym (member_key m)) ∙ named name m r says found)

pub in_by_value : (name : List ℕ) (m : Member) (r : Bool) → r ≡ has_member name (plain m.value) → r ≡ true → is_in name m ≡ true
in_by_value name m r says found = or_right (is_named name m.key) (has_member name (plain m.value)) (sym says ∙ found)

pub not_in : (name : List ℕ) (m : Member) (r q : Bool) → IsTrue r ↔ (units m.key ≡ name) → r ≡ false → q ≡ has_member name (plain m.value) → q ≡ false → is_in name m ≡ false
not_in name m r q key_says other value_says none =
    or_none (is_named name m.key) (has_member name (plain m.value)) (ap (is_named name) (sym (member_key m)) ∙ not_named name m r key_says other) (sym value_says ∙ none)
