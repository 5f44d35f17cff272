-- The keys under members of one name, item by item and member by member.
use Rattle.std.proofs.Common.{◌≡◌, ◌↔◌, IsTrue, ℕ, ◌+◌, ◌<◌, List, [], ◌∷◌, ◌++◌, Bool, true, cond, map, length, get_or, take, refl, sym, ap, ◌∙◌, append_assoc}
use Rattle.std.proofs.lemmas.List.{take_more, append-nil}
use Rattle.gp_tree.specs.declared.tree.Tree.{Tree, Members as an_object}
use Rattle.gp_tree.specs.declared.tree.Tree.TheViews.{out-Members}
use Rattle.gp_tree.specs.declared.tree.Member.{Member}
use Rattle.gp_tree.specs.declared.tree.Members.{Members}
use Rattle.gp_tree.specs.Plain.{plain, plain_member, plain_items, plain_entries, members}
use Rattle.gp_tree.specs.Key.{units}
use Rattle.gp_tree.specs.Find.{PlainMember, object_members, is_named}
use Rattle.gp_tree.specs.Anywhere.{own_keys, keys_under, items_keys_under, members_keys_under}
use Rattle.gp_tree.proofs.Distinct.{member_is}
use Rattle.gp_tree.proofs.Firsts.{named, member_key, list_of, object_is}
use Rattle.gp_tree.proofs.Edited.{members_is}

items_push : (name : List ℕ) (xs : List Tree) (t : Tree) → items_keys_under name (plain_items (xs ++ t ∷ [])) ≡ items_keys_under name (plain_items xs) ++ keys_under name (plain t)
items_push name [] t = append-nil (keys_under name (plain t))
items_push name (x ∷ xs) t =
    ap (λ ks. keys_under name (plain x) ++ ks) (items_push name xs t) ∙ sym (append_assoc (keys_under name (plain x)) (items_keys_under name (plain_items xs)) (keys_under name (plain t)))

pub items_more : (name : List ℕ) (xs : List Tree) (i : ℕ) (t : Tree) → i < length xs → t ≡ get_or xs i t
    → items_keys_under name (plain_items (take (i + 1) xs)) ≡ items_keys_under name (plain_items (take i xs)) ++ keys_under name (plain t)
items_more name xs i t h is = ap (λ l. items_keys_under name (plain_items l)) (take_more xs i t h ∙ ap (λ u. take i xs ++ u ∷ []) (sym is)) ∙ items_push name (take i xs) t

-- the keys that a member adds: its value's own, and those inside it
abbrev member_keys : List ℕ → PlainMember → List (List ℕ)
member_keys name m = own_keys name m.0 m.1 ++ keys_under name m.1

members_push : (name : List ℕ) (xs : List Member) (m : Member) → members_keys_under name (plain_entries (xs ++ m ∷ [])) ≡ members_keys_under name (plain_entries xs) ++ member_keys name (plain_member m)
members_push name [] m = append-nil (member_keys name (plain_member m))
members_push name (x ∷ xs) m =
    ap (λ ks. member_keys name (plain_member x) ++ ks) (members_push name xs m)
    ∙ sym (append_assoc (member_keys name (plain_member x)) (members_keys_under name (plain_entries xs)) (member_keys name (plain_member m)))

pub members_more : (name : List ℕ) (xs : List Member) (i : ℕ) (m : Member) → i < length xs → m ≡ get_or xs i m
    → members_keys_under name (plain_entries (take (i + 1) xs)) ≡ members_keys_under name (plain_entries (take i xs)) ++ own_keys name m.key (plain m.value) ++ keys_under name (plain m.value)
members_more name xs i m h is =
    ap (λ l. members_keys_under name (plain_entries l)) (take_more xs i m h ∙ ap (λ u. take i xs ++ u ∷ []) (sym is))
    ∙ members_push name (take i xs) m
    ∙ ap (λ y. members_keys_under name (plain_entries (take i xs)) ++ member_keys name y) (member_is m)
    ∙ sym (append_assoc (members_keys_under name (plain_entries (take i xs))) (own_keys name m.key (plain m.value)) (keys_under name (plain m.value)))

spelled : (xs : List Member) → map (λ (m : PlainMember). m.0) (map plain_member xs) ≡ map (λ m. m.key) xs
spelled [] = refl
spelled (x ∷ xs) = ap (λ ks. (plain_member x).0 ∷ ks) (spelled xs) ∙ ap (λ k. k ∷ map (λ m. m.key) xs) (member_key x)

object_keys : (v : Members) → map (λ (m : PlainMember). m.0) (object_members (plain (an_object v))) ≡ map (λ m. m.key) (out-Members v).items.items
object_keys v =
    ap (λ t. map (λ (m : PlainMember). m.0) (object_members t)) (object_is v ∙ ap members (members_is v))
    ∙ ap (map (λ (m : PlainMember). m.0)) (list_of (map plain_member (out-Members v).items.items))
    ∙ spelled (out-Members v).items.items

pub own_object : (name : List ℕ) (m : Member) (r : Bool) (v : Members) → IsTrue r ↔ (units m.key ≡ name) → r ≡ true → m.value ≡ an_object v → own_keys name m.key (plain m.value) ≡ map (λ m. m.key) (out-Members v).items.items
own_object name m r v says found is =
    ap (λ b. cond b (map (λ (m : PlainMember). m.0) (object_members (plain m.value))) []) (ap (is_named name) (sym (member_key m)) ∙ named name m r says found)
    ∙ ap (λ t. map (λ (m : PlainMember). m.0) (object_members (plain t))) is
    ∙ object_keys v
