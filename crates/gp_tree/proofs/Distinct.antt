-- Distinct keys, member by member.
use Rattle.std.proofs.Common.{◌≡◌, ℕ, ◌+◌, ◌<◌, zero, suc, List, [], ◌∷◌, ◌++◌, map, length, get_or, take, refl, sym, ap, ap₂, ◌∙◌, subst, arith, rules}
use Rattle.std.proofs.lemmas.List.{take_more}
use Rattle.gp_tree.specs.declared.tree.Tree.{Tree, the_lemmas}
use Rattle.gp_tree.specs.declared.tree.Member.{Member}
use Rattle.gp_tree.specs.Plain.{plain, plain_member, plain_items, plain_entries}
use Rattle.gp_tree.specs.Key.{units}
use Rattle.gp_tree.specs.Sound.{keys, HasDistinctKeys, ItemsHaveDistinctKeys, MembersHaveDistinctKeys}

pub member_is : (m : Member) → plain_member m ≡ (m.key, plain m.value)
member_is m = search (rules, the_lemmas)

pub item_distinct : (xs : List Tree) (i : ℕ) (t : Tree) → i < length xs → t ≡ get_or xs i t → ItemsHaveDistinctKeys (plain_items xs) → HasDistinctKeys (plain t)
item_distinct [] i t h is s = absurd (omega (arith, h))
item_distinct (x ∷ xs) zero t h is s = subst (λ y. HasDistinctKeys (plain y)) (sym is) s.0
item_distinct (x ∷ xs) (suc i) t h is s = item_distinct xs i t (omega (arith, h)) is s.1

items_push : (xs : List Tree) (t : Tree) → ItemsHaveDistinctKeys (plain_items xs) → HasDistinctKeys (plain t) → ItemsHaveDistinctKeys (plain_items (xs ++ t ∷ []))
items_push [] t s h = (h, tt)
items_push (x ∷ xs) t s h = (s.0, items_push xs t s.1 h)

pub items_more : (xs : List Tree) (i : ℕ) (t : Tree) → i < length xs → t ≡ get_or xs i t → ItemsHaveDistinctKeys (plain_items (take i xs)) → HasDistinctKeys (plain t) → ItemsHaveDistinctKeys (plain_items (take (i + 1) xs))
items_more xs i t h is s k = subst (λ y. ItemsHaveDistinctKeys (plain_items y)) (sym (take_more xs i t h ∙ ap (λ u. take i xs ++ u ∷ []) (sym is))) (items_push (take i xs) t s k)

pub member_distinct : (xs : List Member) (i : ℕ) (m : Member) → i < length xs → m ≡ get_or xs i m → MembersHaveDistinctKeys (plain_entries xs) → HasDistinctKeys (plain m.value)
member_distinct [] i t h is s = absurd (omega (arith, h))
member_distinct (x ∷ xs) zero t h is s = subst (λ y. HasDistinctKeys y.1) (ap plain_member (sym is) ∙ member_is t) s.0
member_distinct (x ∷ xs) (suc i) t h is s = member_distinct xs i t (omega (arith, h)) is s.1

members_push : (xs : List Member) (m : Member) → MembersHaveDistinctKeys (plain_entries xs) → HasDistinctKeys (plain_member m).1 → MembersHaveDistinctKeys (plain_entries (xs ++ m ∷ []))
members_push [] t s h = (h, tt)
members_push (x ∷ xs) t s h = (s.0, members_push xs t s.1 h)

pub members_more : (xs : List Member) (i : ℕ) (m : Member) → i < length xs → m ≡ get_or xs i m → MembersHaveDistinctKeys (plain_entries (take i xs)) → HasDistinctKeys (plain m.value) → MembersHaveDistinctKeys (plain_entries (take (i + 1) xs))
members_more xs i t h is s k = subst (λ y. MembersHaveDistinctKeys (plain_entries y)) (sym (take_more xs i t h ∙ ap (λ u. take i xs ++ u ∷ []) (sym is))) (members_push (take i xs) t s (subst (λ y. HasDistinctKeys y.1) (sym (member_is t)) k))

abbrev pub key_units : List Member → List (List ℕ)
key_units ms = map units (keys (plain_entries ms))

key_units_push : (xs : List Member) (m : Member) → key_units (xs ++ m ∷ []) ≡ key_units xs ++ units (plain_member m).0 ∷ []
key_units_push [] m = refl
key_units_push (x ∷ xs) m = ap (λ y. units (plain_member x).0 ∷ y) (key_units_push xs m)

pub key_units_more : (xs : List Member) (i : ℕ) (m : Member) → i < length xs → m ≡ get_or xs i m → key_units (take (i + 1) xs) ≡ key_units (take i xs) ++ units m.key ∷ []
key_units_more xs i m h is = ap key_units (take_more xs i m h ∙ ap (λ u. take i xs ++ u ∷ []) (sym is)) ∙ key_units_push (take i xs) m ∙ ap (λ y. key_units (take i xs) ++ units y.0 ∷ []) (member_is m)

pub key_units_is : (xs : List Member) → key_units xs ≡ map (λ m. units m.key) xs
key_units_is [] = refl
key_units_is (x ∷ xs) = ap₂ (λ a b. units a ∷ b) (ap (λ y. y.0) (member_is x)) (key_units_is xs)
