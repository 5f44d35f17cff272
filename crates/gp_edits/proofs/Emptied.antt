-- Members that a change may empty, as edits of the first member with their name.
use Rattle.std.specs.Prelude.{if◌then◌else◌}
use Rattle.std.proofs.Common.{◌≡◌, ℕ, Bool, true, false, not, ◌&&◌, List, [], ◌∷◌, Option, Some, None, option_map, filter, refl, sym, ap, ◌∙◌, subst}
use Rattle.gp_tree.specs.Plain.{PlainTree, null, truth, number, text, list, members, trees_of, members_of}
use Rattle.gp_tree.specs.Sound.{HasDistinctKeys, MembersHaveDistinctKeys}
use Rattle.gp_tree.specs.Find.{PlainMember, is_named, item_list, member_list, value_of, find_member}
use Rattle.gp_tree.specs.TreeEdits.{without, at_member}
use Rattle.gp_tree.proofs.Inner.{members_back}
use Rattle.gp_tree.proofs.Edited.{items_of}
use Rattle.gp_tree.proofs.Kept.{find_change}
use Rattle.gp_edits.specs.Changes.{is_empty, is_emptied, emptied_by, emptied, without_empty_by, left_out, is_text_named, without_text}
use Rattle.gp_edits.proofs.Members.{alter, after, HasOnce, changed_is, joined, agree, absent, taken_out, made_so, changed_then_removed}

abbrev pub unless_emptied : (PlainTree → PlainTree) → PlainTree → Option PlainTree
unless_emptied f v = if is_emptied v (f v) then None else Some (f v)

abbrev pub unless_empty : (PlainTree → PlainTree) → PlainTree → Option PlainTree
unless_empty f v = if is_empty (f v) then None else Some (f v)

-- ---- both kinds of change

emptied_case : (b : Bool) (key : List ℕ) (f : PlainTree → PlainTree) (v t : PlainTree) → find_member key t ≡ Some v → is_emptied v (f v) ≡ b
    → emptied_by key f (Some v) t ≡ alter key (unless_emptied f) t
emptied_case true key f v t e n =
    ap (λ b. if b then without key t else at_member key f t) n ∙ sym (taken_out key (unless_emptied f) v t e (ap (λ b. if b then None else Some (f v)) n))
emptied_case false key f v t e n =
    ap (λ b. if b then without key t else at_member key f t) n ∙ sym (made_so key (unless_emptied f) f v t e (ap (λ b. if b then None else Some (f v)) n))

emptied_step : (key : List ℕ) (f : PlainTree → PlainTree) (t : PlainTree) (found : Option PlainTree) → find_member key t ≡ found
    → emptied_by key f found t ≡ alter key (unless_emptied f) t
emptied_step key f t None e = sym (absent key (unless_emptied f) t e)
emptied_step key f t (Some v) e = emptied_case (is_emptied v (f v)) key f v t e refl

pub emptied_is : (key : List ℕ) (f : PlainTree → PlainTree) (t : PlainTree) → emptied key f t ≡ alter key (unless_emptied f) t
unfolding emptied
emptied_is key f t = emptied_step key f t (find_member key t) refl

left_case : (b : Bool) (key : List ℕ) (f : PlainTree → PlainTree) (v t : PlainTree) → find_member key t ≡ Some v → is_empty (f v) ≡ b
    → without_empty_by key (Some (f v)) (at_member key f t) ≡ alter key (unless_empty f) t
left_case true key f v t e n =
    ap (λ b. if b then without key (at_member key f t) else at_member key f t) n
    ∙ changed_then_removed key f t
    ∙ sym (taken_out key (unless_empty f) v t e (ap (λ b. if b then None else Some (f v)) n))
left_case false key f v t e n =
    ap (λ b. if b then without key (at_member key f t) else at_member key f t) n ∙ sym (made_so key (unless_empty f) f v t e (ap (λ b. if b then None else Some (f v)) n))

left_step : (key : List ℕ) (f : PlainTree → PlainTree) (t : PlainTree) (found : Option PlainTree) → find_member key t ≡ found
    → without_empty_by key (option_map f found) (at_member key f t) ≡ alter key (unless_empty f) t
left_step key f t None e = changed_is key f t ∙ absent key (λ v. Some (f v)) t e ∙ sym (absent key (unless_empty f) t e)
left_step key f t (Some v) e = left_case (is_empty (f v)) key f v t e refl

pub left_out_is : (key : List ℕ) (f : PlainTree → PlainTree) (t : PlainTree) → left_out key f t ≡ alter key (unless_empty f) t
unfolding left_out
left_out_is key f t = ap (λ found. without_empty_by key found (at_member key f t)) (find_change key f t) ∙ left_step key f t (find_member key t) refl

-- ---- both, one after the other

again_made : (f : PlainTree → PlainTree) (v : PlainTree) → f (f v) ≡ f v → is_emptied v (f v) ≡ false
    → after (unless_empty f) (unless_emptied f v) ≡ unless_empty f v
again_made f v same n = ap (λ b. after (unless_empty f) (if b then None else Some (f v))) n ∙ ap (λ w. if is_empty w then None else Some w) same

again_gone : (f : PlainTree → PlainTree) (v : PlainTree) → is_emptied v (f v) ≡ true → is_empty (f v) ≡ true
    → after (unless_empty f) (unless_emptied f v) ≡ unless_empty f v
again_gone f v n e = ap (λ b. after (unless_empty f) (if b then None else Some (f v))) n ∙ sym (ap (λ b. if b then None else Some (f v)) e)

again_case : (a b : Bool) (f : PlainTree → PlainTree) (v : PlainTree) → is_empty v ≡ a → is_empty (f v) ≡ b → f (f v) ≡ f v
    → after (unless_empty f) (unless_emptied f v) ≡ unless_empty f v
again_case true b f v d e same = again_made f v same (ap (λ a. not a && is_empty (f v)) d)
again_case false true f v d e same = again_gone f v (ap (λ a. not a && is_empty (f v)) d ∙ e) e
again_case false false f v d e same = again_made f v same (ap (λ a. not a && is_empty (f v)) d ∙ e)

pub absorbed : (k : List ℕ) (f : PlainTree → PlainTree) (t : PlainTree) → HasOnce k t → ((v : PlainTree) → find_member k t ≡ Some v → f (f v) ≡ f v)
    → alter k (unless_empty f) (alter k (unless_emptied f) t) ≡ alter k (unless_empty f) t
absorbed k f t one same =
    joined k (unless_empty f) (unless_emptied f) t one
    ∙ agree k (λ v. after (unless_empty f) (unless_emptied f v)) (unless_empty f) t (λ v e. again_case (is_empty v) (is_empty (f v)) f v refl refl (same v e))

-- ---- changes that made twice are made once

filtered_case : (b : Bool) (q : PlainTree → Bool) (t : PlainTree) (ts : List PlainTree) → q t ≡ b → filter q (filter q ts) ≡ filter q ts
    → filter q (filter q (t ∷ ts)) ≡ filter q (t ∷ ts)
filtered_case true q t ts n ih = rw n (rw n (ap (λ l. t ∷ l) ih))
filtered_case false q t ts n ih = rw n ih

pub filtered_twice : (q : PlainTree → Bool) (ts : List PlainTree) → filter q (filter q ts) ≡ filter q ts
filtered_twice q [] = refl
filtered_twice q (t ∷ ts) = filtered_case (q t) q t ts refl (filtered_twice q ts)

pub text_out_twice : (name : List ℕ) (t : PlainTree) → without_text name (without_text name t) ≡ without_text name t
text_out_twice name null = refl
text_out_twice name (truth b) = refl
text_out_twice name (number s) = refl
text_out_twice name (text s) = refl
text_out_twice name (members ms) = refl
text_out_twice name (list ts) =
    let q = λ (item : PlainTree). not (is_text_named name item) in
    ap (λ us. list (trees_of (filter q us))) (items_of (filter q (item_list ts))) ∙ ap (λ us. list (trees_of us)) (filtered_twice q (item_list ts))

-- a value in a value with distinct keys has them
value_step : (b : Bool) (key : List ℕ) (v : PlainTree) (m : PlainMember) (ms : List PlainMember) → is_named key m.0 ≡ b
    → HasDistinctKeys m.1 → (value_of key ms ≡ Some v → HasDistinctKeys v)
    → value_of key (m ∷ ms) ≡ Some v → HasDistinctKeys v
value_step true key v m ms n h more e =
    let k : ◌≡◌ {A = Option PlainTree} (Some m.1) (Some v) = rw n at e in
    let s : m.1 ≡ v = cc in
    subst HasDistinctKeys s h
value_step false key v m ms n h more e = let k : value_of key ms ≡ Some v = rw n at e in more k

value_in : (key : List ℕ) (v : PlainTree) (ms : List PlainMember) → MembersHaveDistinctKeys (members_of ms) → value_of key ms ≡ Some v
    → HasDistinctKeys v
value_in key v [] h e = absurd (cc)
value_in key v (m ∷ ms) h e = value_step (is_named key m.0) key v m ms refl h.0 (value_in key v ms h.1) e

pub value_distinct : (key : List ℕ) (v t : PlainTree) → HasDistinctKeys t → find_member key t ≡ Some v → HasDistinctKeys v
value_distinct key v null h e = absurd (cc)
value_distinct key v (truth b) h e = absurd (cc)
value_distinct key v (number s) h e = absurd (cc)
value_distinct key v (text s) h e = absurd (cc)
value_distinct key v (list ts) h e = absurd (cc)
value_distinct key v (members ms) h e = value_in key v (member_list ms) (subst MembersHaveDistinctKeys (sym (members_back ms)) h.1) e
