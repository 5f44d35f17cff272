-- Each edit changes its own members alone.
use Rattle.std.specs.Prelude.{if◌then◌else◌, unwrap_or}
use Rattle.std.proofs.Common.{◌≡◌, ℕ, Bool, true, false, not, ◌||◌, ◌&&◌, List, [], ◌∷◌, ◌++◌, filter, Option, Some, None, codes, refl, sym, ap, ◌∙◌, subst}
use Rattle.gp_tree.specs.Plain.{PlainTree, null, truth, number, text, list, members, no_items, item, no_members, member}
use Rattle.gp_tree.specs.Sound.{HasDistinctKeys}
use Rattle.gp_tree.specs.Find.{PlainMember, IsObject, is_named, item_list, member_list, find_member}
use Rattle.gp_tree.specs.Values.{IsName}
use Rattle.gp_tree.specs.TreeEdits.{set_first, change_first, at_member, with_members, with_member, without, and_items}
use Rattle.gp_tree.proofs.Edited.{items_of}
use Rattle.gp_tree.proofs.Firsts.{list_of}
use Rattle.gp_tree.proofs.Kept.{find_set}
use Rattle.gp_edits.specs.declared.compression.Compression.{Compression}
use Rattle.gp_edits.specs.Changes.{whole_number, is_empty, is_emptied, is_text_named, without_text}
use Rattle.gp_edits.specs.Edits.{extension_name, placed, without_compression, compression_object, compressed, sized_buffer, with_one_buffer, fallback_buffer, with_two_buffers, with_name_in, with_extension_named, without_extension_named}
use Rattle.gp_edits.specs.Own.{is_one_of, others, IsSameBut, others_of, other_extensions, name_lists, items_beside, other_names, KeepsNames}
use Rattle.gp_edits.proofs.Members.{IsOwn, HasOnce, names_apart, put, alter_first, alter, gone, after, once, once_kept, removed_is, find_kept, find_set_kept, find_altered}
use Rattle.gp_edits.proofs.Emptied.{unless_emptied, emptied_is, filtered_twice}
use Rattle.gp_edits.proofs.CommonRoots.{names_out_are}
use Rattle.gp_edits.proofs.FieldsBack.{a_name}
use Rattle.gp_edits.proofs.KeysBack.{object_after}
use Rattle.gp_edits.proofs.Named.{or_right}
use Rattle.gp_edits.proofs.KeyNames.{extensions_key, used_key, required_key, buffers_key, buffer_key, offset_key, buffers_is_own, buffer_is_own, offset_is_own, extensions_is_own, used_is_own, required_is_own, name_is_own}

-- ---- names

-- each spelling of a name is one of theirs
abbrev pub Covers : List (List ℕ) → List ℕ → Type 0
Covers names key = (s : List ℕ) → is_named key s ≡ true → is_one_of names s ≡ true

pub first_covered : (key : List ℕ) (names : List (List ℕ)) → Covers (key ∷ names) key
first_covered key names s n = ap (λ b. b || is_one_of names s) n

pub second_covered : (other key : List ℕ) (names : List (List ℕ)) → Covers (other ∷ key ∷ names) key
second_covered other key names s n = or_right (is_named other s) (is_one_of (key ∷ names) s) (first_covered key names s n)

-- ---- lists of members

abbrev left : List (List ℕ) → List PlainMember → List PlainMember
left names ms = filter (λ (m : PlainMember). not (is_one_of names m.0)) ms

put_left : (names : List (List ℕ)) (s : List ℕ) (o : Option PlainTree) (ms : List PlainMember) → is_one_of names s ≡ true
    → left names (put s o ms) ≡ left names ms
put_left names s None ms c = refl
put_left names s (Some v) ms c = rw c refl

rest_left : (b : Bool) (names : List (List ℕ)) (m : PlainMember) (ls ms : List PlainMember) → is_one_of names m.0 ≡ b
    → left names ls ≡ left names ms → left names (m ∷ ls) ≡ left names (m ∷ ms)
rest_left true names m ls ms c ih = rw c ih
rest_left false names m ls ms c ih = rw c (ap (λ l. m ∷ l) ih)

alter_step : (b : Bool) (names : List (List ℕ)) (k : List ℕ) (g : PlainTree → Option PlainTree) (m : PlainMember) (ms : List PlainMember)
    → is_named k m.0 ≡ b → Covers names k → left names (alter_first k g ms) ≡ left names ms
    → left names (alter_first k g (m ∷ ms)) ≡ left names (m ∷ ms)
alter_step true names k g m ms n c ih = let own = c m.0 n in rw n (put_left names m.0 (g m.1) ms own ∙ sym (put_left names m.0 (Some m.1) ms own))
alter_step false names k g m ms n c ih = rw n (rest_left (is_one_of names m.0) names m (alter_first k g ms) ms refl ih)

alter_left : (names : List (List ℕ)) (k : List ℕ) (g : PlainTree → Option PlainTree) (ms : List PlainMember) → Covers names k
    → left names (alter_first k g ms) ≡ left names ms
alter_left names k g [] c = refl
alter_left names k g (m ∷ ms) c = alter_step (is_named k m.0) names k g m ms refl c (alter_left names k g ms c)

set_step : (b : Bool) (names : List (List ℕ)) (k : List ℕ) (v : PlainTree) (m : PlainMember) (ms : List PlainMember)
    → is_named k m.0 ≡ b → Covers names k → left names (set_first k v ms) ≡ left names ms
    → left names (set_first k v (m ∷ ms)) ≡ left names (m ∷ ms)
set_step true names k v m ms n c ih = let own = c m.0 n in rw n (put_left names m.0 (Some v) ms own ∙ sym (put_left names m.0 (Some m.1) ms own))
set_step false names k v m ms n c ih = rw n (rest_left (is_one_of names m.0) names m (set_first k v ms) ms refl ih)

set_left : (names : List (List ℕ)) (k : List ℕ) (v : PlainTree) (ms : List PlainMember) → Covers names k → IsOwn k
    → left names (set_first k v ms) ≡ left names ms
set_left names k v [] c own = put_left names k (Some v) [] (c k own)
set_left names k v (m ∷ ms) c own = set_step (is_named k m.0) names k v m ms refl c (set_left names k v ms c own)

change_step : (b : Bool) (names : List (List ℕ)) (k : List ℕ) (f : PlainTree → PlainTree) (m : PlainMember) (ms : List PlainMember)
    → is_named k m.0 ≡ b → Covers names k → left names (change_first k f ms) ≡ left names ms
    → left names (change_first k f (m ∷ ms)) ≡ left names (m ∷ ms)
change_step true names k f m ms n c ih = let own = c m.0 n in rw n (put_left names m.0 (Some (f m.1)) ms own ∙ sym (put_left names m.0 (Some m.1) ms own))
change_step false names k f m ms n c ih = rw n (rest_left (is_one_of names m.0) names m (change_first k f ms) ms refl ih)

change_left : (names : List (List ℕ)) (k : List ℕ) (f : PlainTree → PlainTree) (ms : List PlainMember) → Covers names k
    → left names (change_first k f ms) ≡ left names ms
change_left names k f [] c = refl
change_left names k f (m ∷ ms) c = change_step (is_named k m.0) names k f m ms refl c (change_left names k f ms c)

-- ---- values

with_others : (names : List (List ℕ)) (f : List PlainMember → List PlainMember) (t : PlainTree)
    → ((ms : List PlainMember) → left names (f ms) ≡ left names ms) → others names (with_members f t) ≡ others names t
with_others names f null h = refl
with_others names f (truth b) h = refl
with_others names f (number s) h = refl
with_others names f (text s) h = refl
with_others names f (list ts) h = refl
with_others names f (members ms) h = ap (left names) (list_of (f (member_list ms))) ∙ h (member_list ms)

pub no_object : (f : List PlainMember → List PlainMember) (t : PlainTree) → (IsObject t → ⊥) → with_members f t ≡ t
no_object f null n = refl
no_object f (truth b) n = refl
no_object f (number s) n = refl
no_object f (text s) n = refl
no_object f (list ts) n = refl
no_object f (members ms) n = absurd (n tt)

with_same : (names : List (List ℕ)) (f : List PlainMember → List PlainMember) (t : PlainTree)
    → ((ms : List PlainMember) → left names (f ms) ≡ left names ms) → IsSameBut names t (with_members f t)
with_same names f t h = record { others = with_others names f t h; object = object_after f t; value = no_object f t }

pub altered : (names : List (List ℕ)) (k : List ℕ) (g : PlainTree → Option PlainTree) (t : PlainTree) → Covers names k → IsSameBut names t (alter k g t)
altered names k g t c = with_same names (alter_first k g) t (λ ms. alter_left names k g ms c)

pub was_set : (names : List (List ℕ)) (k : List ℕ) (v t : PlainTree) → Covers names k → IsOwn k → IsSameBut names t (with_member k v t)
was_set names k v t c own = with_same names (set_first k v) t (λ ms. set_left names k v ms c own)

-- one change after another
pub joined : (names : List (List ℕ)) (t u w : PlainTree) → IsSameBut names t u → IsSameBut names u w → IsSameBut names t w
joined names t u w first second = record {
  others = second.others ∙ first.others;
  object = λ o. second.object (first.object o);
  value = λ n. second.value (λ o. n (subst IsObject (first.value n) o)) ∙ first.value n;
}

-- ---- views

pub placed_own : (buffer offset : ℕ) (v : PlainTree) → IsSameBut (buffer_key ∷ offset_key ∷ []) v (placed buffer offset v)
unfolding placed
placed_own buffer offset v =
    let names = buffer_key ∷ offset_key ∷ [] in
    let u = with_member buffer_key (whole_number buffer) v in
    joined names v u (with_member offset_key (whole_number offset) u)
    (was_set names buffer_key (whole_number buffer) v (first_covered buffer_key (offset_key ∷ [])) buffer_is_own)
    (was_set names offset_key (whole_number offset) u (second_covered buffer_key offset_key []) offset_is_own)

pub removed_own : (v : PlainTree) → IsSameBut (extensions_key ∷ []) v (without_compression v)
unfolding without_compression
removed_own v =
    subst (IsSameBut (extensions_key ∷ []) v) (sym (emptied_is extensions_key (without extension_name) v))
    (altered (extensions_key ∷ []) extensions_key (unless_emptied (without extension_name)) v (first_covered extensions_key []))

pub compressed_own : (c : Compression) (v : PlainTree) → IsSameBut (extensions_key ∷ []) v (compressed c v)
unfolding compressed
compressed_own c v =
    was_set (extensions_key ∷ []) extensions_key
    (with_member extension_name (compression_object c) (unwrap_or (find_member extensions_key v) (members no_members)))
    v (first_covered extensions_key []) extensions_is_own

-- ---- an empty value has no other members, and no items

empty_others : (names : List (List ℕ)) (t : PlainTree) → is_empty t ≡ true → others names t ≡ []
empty_others names null e = refl
empty_others names (truth b) e = refl
empty_others names (number s) e = refl
empty_others names (text s) e = refl
empty_others names (list ts) e = refl
empty_others names (members no_members) e = refl
empty_others names (members (member k v ms)) e = absurd (cc)

empty_items : (name : List ℕ) (t : PlainTree) → is_empty t ≡ true → items_beside name (Some t) ≡ []
empty_items name null e = refl
empty_items name (truth b) e = refl
empty_items name (number s) e = refl
empty_items name (text s) e = refl
empty_items name (members ms) e = refl
empty_items name (list no_items) e = refl
empty_items name (list (item t ts)) e = absurd (cc)

right_of : (a b : Bool) → (a && b) ≡ true → b ≡ true
right_of true b h = h
right_of false b h = absurd (cc)

-- ---- what is asked of a value that is found

-- it answers as before where the change keeps the answer, and nothing where there is nothing in the value
abbrev Answers : {A : Type 0} → (Option PlainTree → List A) → (PlainTree → PlainTree) → Type 0
Answers ask change = (v : PlainTree) → ask (Some (change v)) ≡ ask (Some v)

emptied_case : {A : Type 0} (b : Bool) (ask : Option PlainTree → List A) (f : PlainTree → PlainTree) (v : PlainTree) → is_emptied v (f v) ≡ b
    → ask None ≡ [] → ((w : PlainTree) → is_empty w ≡ true → ask (Some w) ≡ []) → Answers ask f
    → ask (unless_emptied f v) ≡ ask (Some v)
emptied_case true ask f v e none empty same =
    ap (λ b. ask (if b then None else Some (f v))) e ∙ none ∙ sym (empty (f v) (right_of (not (is_empty v)) (is_empty (f v)) e)) ∙ same v
emptied_case false ask f v e none empty same = ap (λ b. ask (if b then None else Some (f v))) e ∙ same v

emptied_asked : {A : Type 0} (ask : Option PlainTree → List A) (f : PlainTree → PlainTree) (found : Option PlainTree)
    → ask None ≡ [] → ((w : PlainTree) → is_empty w ≡ true → ask (Some w) ≡ []) → Answers ask f
    → ask (after (unless_emptied f) found) ≡ ask found
emptied_asked ask f None none empty same = refl
emptied_asked ask f (Some v) none empty same = emptied_case (is_emptied v (f v)) ask f v refl none empty same

set_asked : {A : Type 0} (ask : Option PlainTree → List A) (k : List ℕ) (v t : PlainTree) → IsName k
    → ask (Some v) ≡ ask (find_member k t) → ask (find_member k (with_member k v t)) ≡ ask (find_member k t)
set_asked ask k v null name h = refl
set_asked ask k v (truth b) name h = refl
set_asked ask k v (number s) name h = refl
set_asked ask k v (text s) name h = refl
set_asked ask k v (list ts) name h = refl
set_asked ask k v (members ms) name h = ap ask (find_set k v (members ms) tt name) ∙ h

default_asked : {A : Type 0} (ask : Option PlainTree → List A) (change : PlainTree → PlainTree) (default : PlainTree) (found : Option PlainTree)
    → Answers ask change → ask (Some default) ≡ ask None → ask (Some (change (unwrap_or found default))) ≡ ask found
default_asked ask change default None same none = same default ∙ none
default_asked ask change default (Some v) same none = same v

-- ---- the other extensions of a view

abbrev own_name : List (List ℕ)
own_name = extension_name ∷ []

without_name : (v : PlainTree) → others own_name (without extension_name v) ≡ others own_name v
without_name v = ap (others own_name) (removed_is extension_name v) ∙ (altered own_name extension_name gone v (first_covered extension_name [])).others

pub removed_extensions : (v : PlainTree) → HasDistinctKeys v → other_extensions (without_compression v) ≡ other_extensions v
unfolding without_compression
removed_extensions v h =
    let f = without extension_name in
    ap other_extensions (emptied_is extensions_key f v)
    ∙ ap (others_of own_name) (find_altered extensions_key (unless_emptied f) v (once extensions_key v h))
    ∙ emptied_asked (others_of own_name) f (find_member extensions_key v) refl (empty_others own_name) without_name

pub compressed_extensions : (c : Compression) (v : PlainTree) → other_extensions (compressed c v) ≡ other_extensions v
unfolding compressed
compressed_extensions c v =
    let change = with_member extension_name (compression_object c) in
    let found = find_member extensions_key v in
    let same : Answers (others_of own_name) change = λ w. (was_set own_name extension_name (compression_object c) w (first_covered extension_name []) name_is_own).others in
    set_asked (others_of own_name) extensions_key (change (unwrap_or found (members no_members))) v (a_name extensions_key refl)
    (default_asked (others_of own_name) change (members no_members) found same refl)

-- ---- the root

pub views_own : (f : PlainTree → PlainTree) (t : PlainTree) → IsSameBut (codes "bufferViews" ∷ []) t (at_member (codes "bufferViews") f t)
views_own f t =
    let names = codes "bufferViews" ∷ [] in
    with_same names (change_first (codes "bufferViews") f) t (λ ms. change_left names (codes "bufferViews") f ms (first_covered (codes "bufferViews") []))

pub one_buffer_own : (length : ℕ) (t : PlainTree) → IsSameBut (buffers_key ∷ []) t (with_one_buffer length t)
unfolding with_one_buffer
one_buffer_own length t = was_set (buffers_key ∷ []) buffers_key (list (item (sized_buffer length) no_items)) t (first_covered buffers_key []) buffers_is_own

pub two_buffers_own : (length fallback : ℕ) (t : PlainTree) → IsSameBut (buffers_key ∷ []) t (with_two_buffers length fallback t)
unfolding with_two_buffers
two_buffers_own length fallback t =
    was_set (buffers_key ∷ []) buffers_key (list (item (sized_buffer length) (item (fallback_buffer fallback) no_items))) t (first_covered buffers_key []) buffers_is_own

abbrev unnamed : PlainTree → PlainTree
unnamed t = without_text extension_name t

pub unnamed_own : (t : PlainTree) → IsSameBut name_lists t (without_extension_named t)
unnamed_own t =
    let E = unless_emptied unnamed in
    let u = alter used_key E t in
    subst (IsSameBut name_lists t) (sym (names_out_are t))
    (joined name_lists t u (alter required_key E u)
    (altered name_lists used_key E t (first_covered used_key (required_key ∷ [])))
    (altered name_lists required_key E u (second_covered used_key required_key [])))

-- a list with the name at its end, or with the name alone
abbrev named_last : Option PlainTree → PlainTree
named_last found = and_items (text extension_name ∷ []) (unwrap_or found (list no_items))

pub named_own : (t : PlainTree) → IsSameBut name_lists t (with_extension_named t)
unfolding with_extension_named
named_own t =
    let u = with_name_in used_key t in
    joined name_lists t u (with_name_in required_key u)
    (was_set name_lists used_key (named_last (find_member used_key t)) t (first_covered used_key (required_key ∷ [])) used_is_own)
    (was_set name_lists required_key (named_last (find_member required_key u)) u (second_covered used_key required_key []) required_is_own)

-- ---- the other names

abbrev other_items : Option PlainTree → List PlainTree
other_items found = items_beside extension_name found

unnamed_items : Answers other_items unnamed
unnamed_items null = refl
unnamed_items (truth b) = refl
unnamed_items (number s) = refl
unnamed_items (text s) = refl
unnamed_items (members ms) = refl
unnamed_items (list ts) =
    let q = λ (item : PlainTree). not (is_text_named extension_name item) in
    ap (filter q) (items_of (filter q (item_list ts))) ∙ filtered_twice q (item_list ts)

unnamed_list : (key : List ℕ) (t : PlainTree) → HasOnce key t → other_names key (alter key (unless_emptied unnamed) t) ≡ other_names key t
unnamed_list key t one =
    ap other_items (find_altered key (unless_emptied unnamed) t one)
    ∙ emptied_asked other_items unnamed (find_member key t) refl (empty_items extension_name) unnamed_items

pub unnamed_names : (t : PlainTree) → HasDistinctKeys t → KeepsNames t (without_extension_named t)
unnamed_names t h =
    let E = unless_emptied unnamed in
    let u = alter used_key E t in
    let apart = names_apart required_key used_key refl in
    record {
      used =
          ap (other_names used_key) (names_out_are t)
          ∙ ap other_items (find_kept used_key required_key E u (names_apart used_key required_key refl))
          ∙ unnamed_list used_key t (once used_key t h);
      required =
          ap (other_names required_key) (names_out_are t)
          ∙ unnamed_list required_key u (once_kept required_key used_key E t apart (once required_key t h))
          ∙ ap other_items (find_kept required_key used_key E t apart);
    }

is_the_name : is_text_named extension_name (text extension_name) ≡ true
is_the_name = name_is_own

last_case : (b : Bool) (q : PlainTree → Bool) (t last : PlainTree) (ts : List PlainTree) → q t ≡ b
    → filter q (ts ++ last ∷ []) ≡ filter q ts → filter q (t ∷ (ts ++ last ∷ [])) ≡ filter q (t ∷ ts)
last_case true q t last ts e ih = rw e (ap (λ l. t ∷ l) ih)
last_case false q t last ts e ih = rw e ih

last_out : (q : PlainTree → Bool) (last : PlainTree) (ts : List PlainTree) → q last ≡ false → filter q (ts ++ last ∷ []) ≡ filter q ts
last_out q last [] e = rw e refl
last_out q last (t ∷ ts) e = last_case (q t) q t last ts refl (last_out q last ts e)

named_items : Answers other_items (and_items (text extension_name ∷ []))
named_items null = refl
named_items (truth b) = refl
named_items (number s) = refl
named_items (text s) = refl
named_items (members ms) = refl
named_items (list ts) =
    let q = λ (item : PlainTree). not (is_text_named extension_name item) in
    ap (filter q) (items_of (item_list ts ++ text extension_name ∷ [])) ∙ last_out q (text extension_name) (item_list ts) (ap not is_the_name)

named_list : (key : List ℕ) (t : PlainTree) → IsName key → other_names key (with_name_in key t) ≡ other_names key t
named_list key t name =
    let found = find_member key t in
    set_asked other_items key (named_last found) t name
    (default_asked other_items (and_items (text extension_name ∷ [])) (list no_items) found named_items refl)

pub named_names : (t : PlainTree) → KeepsNames t (with_extension_named t)
unfolding with_extension_named
named_names t =
    let u = with_name_in used_key t in
    record {
      used =
          ap other_items (find_set_kept used_key required_key (named_last (find_member required_key u)) u (names_apart used_key required_key refl) required_is_own)
          ∙ named_list used_key t (a_name used_key refl);
      required =
          named_list required_key u (a_name required_key refl)
          ∙ ap other_items (find_set_kept required_key used_key (named_last (find_member used_key t)) t (names_apart required_key used_key refl) used_is_own);
    }
