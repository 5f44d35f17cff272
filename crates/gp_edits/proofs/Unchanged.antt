-- Edits of members whose value is of another shape leave all as it is.
use Rattle.std.specs.Prelude.{if◌then◌else◌, unwrap_or}
use Rattle.std.proofs.Common.{◌≡◌, ℕ, Bool, true, false, not, ◌&&◌, List, [], ◌∷◌, ◌++◌, filter, Option, Some, refl, sym, ap, ◌∙◌}
use Rattle.gp_tree.specs.Plain.{PlainTree, null, truth, number, text, list, members, members_of, no_items, no_members}
use Rattle.gp_tree.specs.Find.{PlainMember, IsObject, IsList, is_named, member_list, value_of, find_member}
use Rattle.gp_tree.specs.TreeEdits.{set_first, remove_first, change_first, with_items, with_member, without, at_member, and_items}
use Rattle.gp_tree.proofs.Inner.{members_back}
use Rattle.gp_edits.specs.declared.compression.Compression.{Compression}
use Rattle.gp_edits.specs.Changes.{is_empty, is_emptied, emptied_by, emptied, is_text_named, without_text}
use Rattle.gp_edits.specs.Edits.{extension_name, without_compression, compression_object, compressed, with_name_in, with_extension_named, without_extension_named}
use Rattle.gp_edits.specs.Own.{KeepsOtherShapes}
use Rattle.gp_edits.proofs.Members.{names_apart, alter, find_kept, find_set_kept}
use Rattle.gp_edits.proofs.Emptied.{unless_emptied, emptied_is}
use Rattle.gp_edits.proofs.CommonRoots.{names_out_are}
use Rattle.gp_edits.proofs.KeyNames.{extensions_key, used_key, required_key, used_is_own, required_is_own}
use Rattle.gp_edits.proofs.Own.{no_object}

-- ---- the first member of a name, with the value that it has

set_step : (b : Bool) (key : List ℕ) (value : PlainTree) (m : PlainMember) (ms : List PlainMember) → is_named key m.0 ≡ b
    → (value_of key ms ≡ Some value → set_first key value ms ≡ ms) → value_of key (m ∷ ms) ≡ Some value → set_first key value (m ∷ ms) ≡ m ∷ ms
set_step true key value m ms n more e =
    let k : ◌≡◌ {A = Option PlainTree} (Some m.1) (Some value) = rw n at e in
    let s : m.1 ≡ value = cc in
    rw n (ap (λ (v : PlainTree). (m.0, v) ∷ ms) (sym s))
set_step false key value m ms n more e = let k : value_of key ms ≡ Some value = rw n at e in rw n (ap (λ l. m ∷ l) (more k))

set_again : (key : List ℕ) (value : PlainTree) (ms : List PlainMember) → value_of key ms ≡ Some value → set_first key value ms ≡ ms
set_again key value [] e = absurd (cc)
set_again key value (m ∷ ms) e = set_step (is_named key m.0) key value m ms refl (set_again key value ms) e

change_step : (b : Bool) (key : List ℕ) (change : PlainTree → PlainTree) (value : PlainTree) (m : PlainMember) (ms : List PlainMember) → is_named key m.0 ≡ b
    → change value ≡ value → (value_of key ms ≡ Some value → change_first key change ms ≡ ms) → value_of key (m ∷ ms) ≡ Some value → change_first key change (m ∷ ms) ≡ m ∷ ms
change_step true key change value m ms n stays more e =
    let k : ◌≡◌ {A = Option PlainTree} (Some m.1) (Some value) = rw n at e in
    let s : m.1 ≡ value = cc in
    rw n (ap (λ (v : PlainTree). (m.0, v) ∷ ms) (ap change s ∙ stays ∙ sym s))
change_step false key change value m ms n stays more e = let k : value_of key ms ≡ Some value = rw n at e in rw n (ap (λ l. m ∷ l) (more k))

change_again : (key : List ℕ) (change : PlainTree → PlainTree) (value : PlainTree) (ms : List PlainMember) → change value ≡ value
    → value_of key ms ≡ Some value → change_first key change ms ≡ ms
change_again key change value [] stays e = absurd (cc)
change_again key change value (m ∷ ms) stays e = change_step (is_named key m.0) key change value m ms refl stays (change_again key change value ms stays) e

-- ---- the value of a member, as it was

set_same : (key : List ℕ) (value t : PlainTree) → find_member key t ≡ Some value → with_member key value t ≡ t
set_same key value null e = absurd (cc)
set_same key value (truth b) e = absurd (cc)
set_same key value (number s) e = absurd (cc)
set_same key value (text s) e = absurd (cc)
set_same key value (list ts) e = absurd (cc)
set_same key value (members ms) e = ap (λ l. members (members_of l)) (set_again key value (member_list ms) e) ∙ ap members (members_back ms)

changed_same : (key : List ℕ) (change : PlainTree → PlainTree) (value t : PlainTree) → change value ≡ value → find_member key t ≡ Some value → at_member key change t ≡ t
changed_same key change value null stays e = absurd (cc)
changed_same key change value (truth b) stays e = absurd (cc)
changed_same key change value (number s) stays e = absurd (cc)
changed_same key change value (text s) stays e = absurd (cc)
changed_same key change value (list ts) stays e = absurd (cc)
changed_same key change value (members ms) stays e =
    ap (λ l. members (members_of l)) (change_again key change value (member_list ms) stays e) ∙ ap members (members_back ms)

-- what holds something isn't emptied, and what holds nothing neither
never_both : (b : Bool) → (not b && b) ≡ false
never_both true = refl
never_both false = refl

emptied_same : (key : List ℕ) (change : PlainTree → PlainTree) (value t : PlainTree) → change value ≡ value → find_member key t ≡ Some value → emptied key change t ≡ t
unfolding emptied
emptied_same key change value t stays e =
    let kept : is_emptied value (change value) ≡ false = ap (is_emptied value) stays ∙ never_both (is_empty value) in
    ap (λ found. emptied_by key change found t) e ∙ ap (λ b. if b then without key t else at_member key change t) kept ∙ changed_same key change value t stays e

no_list : (f : List PlainTree → List PlainTree) (t : PlainTree) → (IsList t → ⊥) → with_items f t ≡ t
no_list f null n = refl
no_list f (truth b) n = refl
no_list f (number s) n = refl
no_list f (text s) n = refl
no_list f (list ts) n = absurd (n tt)
no_list f (members ms) n = refl

-- ---- a view

pub removed_stays : (v value : PlainTree) → find_member extensions_key v ≡ Some value → (IsObject value → ⊥) → without_compression v ≡ v
unfolding without_compression
removed_stays v value e n = emptied_same extensions_key (without extension_name) value v (no_object (remove_first extension_name) value n) e

pub compressed_stays : (c : Compression) (v value : PlainTree) → find_member extensions_key v ≡ Some value → (IsObject value → ⊥) → compressed c v ≡ v
unfolding compressed
compressed_stays c v value e n =
    let change = with_member extension_name (compression_object c) in
    ap (λ found. with_member extensions_key (change (unwrap_or found (members no_members))) v) e
    ∙ ap (λ w. with_member extensions_key w v) (no_object (set_first extension_name (compression_object c)) value n)
    ∙ set_same extensions_key value v e

-- ---- the root

abbrev unnamed : PlainTree → PlainTree
unnamed t = without_text extension_name t

taken_same : (key : List ℕ) (t value : PlainTree) → find_member key t ≡ Some value → (IsList value → ⊥) → alter key (unless_emptied unnamed) t ≡ t
taken_same key t value e n = sym (emptied_is key unnamed t) ∙ emptied_same key unnamed value t (no_list (filter (λ item. not (is_text_named extension_name item))) value n) e

pub unnamed_stays : (t : PlainTree) → KeepsOtherShapes t (without_extension_named t)
unnamed_stays t =
    let E = unless_emptied unnamed in
    let u = alter used_key E t in
    record {
      used = λ value e n.
          ap (find_member used_key) (names_out_are t)
          ∙ find_kept used_key required_key E u (names_apart used_key required_key refl)
          ∙ ap (find_member used_key) (taken_same used_key t value e n) ∙ e;
      required = λ value e n.
          let there = find_kept required_key used_key E t (names_apart required_key used_key refl) ∙ e in
          ap (find_member required_key) (names_out_are t)
          ∙ ap (find_member required_key) (taken_same required_key u value there n) ∙ there;
    }

named_same : (key : List ℕ) (t value : PlainTree) → find_member key t ≡ Some value → (IsList value → ⊥) → with_name_in key t ≡ t
named_same key t value e n =
    ap (λ found. with_member key (and_items (text extension_name ∷ []) (unwrap_or found (list no_items))) t) e
    ∙ ap (λ w. with_member key w t) (no_list (λ ts. ts ++ text extension_name ∷ []) value n)
    ∙ set_same key value t e

pub named_stays : (t : PlainTree) → KeepsOtherShapes t (with_extension_named t)
unfolding with_extension_named
named_stays t =
    let u = with_name_in used_key t in
    let last = λ (found : Option PlainTree). and_items (text extension_name ∷ []) (unwrap_or found (list no_items)) in
    record {
      used = λ value e n.
          find_set_kept used_key required_key (last (find_member required_key u)) u (names_apart used_key required_key refl) required_is_own
          ∙ ap (find_member used_key) (named_same used_key t value e n) ∙ e;
      required = λ value e n.
          let there = find_set_kept required_key used_key (last (find_member used_key t)) t (names_apart required_key used_key refl) used_is_own ∙ e in
          ap (find_member required_key) (named_same required_key u value there n) ∙ there;
    }
