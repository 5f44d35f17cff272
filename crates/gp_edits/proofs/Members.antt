-- Edits of the first member with a name: what two of them come to, and which of them may change places.
use Rattle.std.specs.Prelude.{if◌then◌else◌}
use Rattle.std.proofs.Common.{◌≡◌, ℕ, suc, ◌<◌, Bool, true, false, List, [], ◌∷◌, length, map, Option, Some, None, slice_index_or, refl, sym, ap, ◌∙◌, subst, arith}
use Rattle.std.specs.Str.{bytes_eq}
use Rattle.std.proofs.lemmas.Slice.Eq.{bytes_eq-Decides}
use Rattle.gp_tree.specs.Plain.{PlainTree, null, truth, number, text, list, members, members_of}
use Rattle.gp_tree.specs.Key.{units}
use Rattle.gp_tree.specs.Sound.{keys, AreDistinct, HasDistinctKeys}
use Rattle.gp_tree.specs.Find.{PlainMember, is_named, member_list, object_members, value_of, find_member}
use Rattle.gp_tree.specs.TreeEdits.{set_first, remove_first, change_first, with_members, with_member, without, at_member}
use Rattle.gp_tree.proofs.Firsts.{from_false, list_of}
use Rattle.gp_tree.proofs.Inner.{members_back}

-- ---- names

-- a name that its own spelling stands for, and two names that no spelling stands for together
abbrev pub IsOwn : List ℕ → Type 0
IsOwn key = is_named key key ≡ true

abbrev pub IsApart : List ℕ → List ℕ → Type 0
IsApart j k = (s : List ℕ) → is_named k s ≡ true → is_named j s ≡ false

named_units : (name k : List ℕ) → is_named name k ≡ true → units k ≡ name
named_units name k e = (bytes_eq-Decides (units k) name).0 e

pub names_apart : (j k : List ℕ) → bytes_eq k j ≡ false → IsApart j k
names_apart j k differ s named = ap (λ us. bytes_eq us j) (named_units k s named) ∙ differ

pub apart_back : (j k : List ℕ) → IsApart j k → IsApart k j
apart_back j k apart s e = from_false (is_named k s) (λ t. let x : true ≡ false = sym e ∙ apart s t in cc)

-- ---- the value of the first member with a name altered, or the member taken out

abbrev pub put : List ℕ → Option PlainTree → List PlainMember → List PlainMember
put key None ms = ms
put key (Some v) ms = (key, v) ∷ ms

abbrev pub alter_first : List ℕ → (PlainTree → Option PlainTree) → List PlainMember → List PlainMember
alter_first key g [] = []
alter_first key g (m ∷ ms) = if is_named key m.0 then put m.0 (g m.1) ms else m ∷ alter_first key g ms

abbrev pub alter : List ℕ → (PlainTree → Option PlainTree) → PlainTree → PlainTree
alter key g t = with_members (alter_first key g) t

abbrev pub gone : PlainTree → Option PlainTree
gone v = None

abbrev pub made : (PlainTree → PlainTree) → PlainTree → Option PlainTree
made f v = Some (f v)

abbrev pub after : (PlainTree → Option PlainTree) → Option PlainTree → Option PlainTree
after g None = None
after g (Some v) = g v

-- removing a member and changing its value are such edits
removed_step : (b : Bool) (k : List ℕ) (m : PlainMember) (ms : List PlainMember) → is_named k m.0 ≡ b
    → remove_first k ms ≡ alter_first k gone ms → remove_first k (m ∷ ms) ≡ alter_first k gone (m ∷ ms)
removed_step true k m ms n ih = rw n refl
removed_step false k m ms n ih = rw n (ap (λ l. m ∷ l) ih)

removed_first : (k : List ℕ) (ms : List PlainMember) → remove_first k ms ≡ alter_first k gone ms
removed_first k [] = refl
removed_first k (m ∷ ms) = removed_step (is_named k m.0) k m ms refl (removed_first k ms)

changed_step : (b : Bool) (k : List ℕ) (f : PlainTree → PlainTree) (m : PlainMember) (ms : List PlainMember) → is_named k m.0 ≡ b
    → change_first k f ms ≡ alter_first k (made f) ms
    → change_first k f (m ∷ ms) ≡ alter_first k (made f) (m ∷ ms)
changed_step true k f m ms n ih = rw n refl
changed_step false k f m ms n ih = rw n (ap (λ l. m ∷ l) ih)

changed_first : (k : List ℕ) (f : PlainTree → PlainTree) (ms : List PlainMember) → change_first k f ms ≡ alter_first k (made f) ms
changed_first k f [] = refl
changed_first k f (m ∷ ms) = changed_step (is_named k m.0) k f m ms refl (changed_first k f ms)

-- ---- members of two names

alter_put : (j : List ℕ) (g : PlainTree → Option PlainTree) (s : List ℕ) (o : Option PlainTree) (ms : List PlainMember)
    → is_named j s ≡ false → alter_first j g (put s o ms) ≡ put s o (alter_first j g ms)
alter_put j g s None ms n = refl
alter_put j g s (Some v) ms n = rw n refl

set_put : (k : List ℕ) (v : PlainTree) (s : List ℕ) (o : Option PlainTree) (ms : List PlainMember) → is_named k s ≡ false
    → set_first k v (put s o ms) ≡ put s o (set_first k v ms)
set_put k v s None ms n = refl
set_put k v s (Some w) ms n = rw n refl

commute_step : (b c : Bool) (j k : List ℕ) (g h : PlainTree → Option PlainTree) (m : PlainMember) (ms : List PlainMember) → IsApart j k
    → is_named k m.0 ≡ b → is_named j m.0 ≡ c
    → alter_first j g (alter_first k h ms) ≡ alter_first k h (alter_first j g ms) → alter_first j g (alter_first k h (m ∷ ms)) ≡ alter_first k h (alter_first j g (m ∷ ms))
commute_step true true j k g h m ms apart n d ih = absurd (let x : true ≡ false = sym d ∙ apart m.0 n in cc)
commute_step true false j k g h m ms apart n d ih = rw n (rw d (rw n (alter_put j g m.0 (h m.1) ms d)))
commute_step false true j k g h m ms apart n d ih = rw n (rw d (sym (alter_put k h m.0 (g m.1) ms n)))
commute_step false false j k g h m ms apart n d ih = rw n (rw d (rw n (ap (λ l. m ∷ l) ih)))

commute_first : (j k : List ℕ) (g h : PlainTree → Option PlainTree) (ms : List PlainMember) → IsApart j k
    → alter_first j g (alter_first k h ms) ≡ alter_first k h (alter_first j g ms)
commute_first j k g h [] apart = refl
commute_first j k g h (m ∷ ms) apart = commute_step (is_named k m.0) (is_named j m.0) j k g h m ms apart refl refl (commute_first j k g h ms apart)

set_apart_step : (b c : Bool) (j k : List ℕ) (g : PlainTree → Option PlainTree) (v : PlainTree) (m : PlainMember) (ms : List PlainMember)
    → IsApart j k → is_named k m.0 ≡ b → is_named j m.0 ≡ c
    → alter_first j g (set_first k v ms) ≡ set_first k v (alter_first j g ms) → alter_first j g (set_first k v (m ∷ ms)) ≡ set_first k v (alter_first j g (m ∷ ms))
set_apart_step true true j k g v m ms apart n d ih = absurd (let x : true ≡ false = sym d ∙ apart m.0 n in cc)
set_apart_step true false j k g v m ms apart n d ih = rw n (rw d (rw n refl))
set_apart_step false true j k g v m ms apart n d ih = rw n (rw d (sym (set_put k v m.0 (g m.1) ms n)))
set_apart_step false false j k g v m ms apart n d ih = rw n (rw d (rw n (ap (λ l. m ∷ l) ih)))

set_apart_first : (j k : List ℕ) (g : PlainTree → Option PlainTree) (v : PlainTree) (ms : List PlainMember) → IsApart j k → IsOwn k
    → alter_first j g (set_first k v ms) ≡ set_first k v (alter_first j g ms)
set_apart_first j k g v [] apart own = rw (apart k own) refl
set_apart_first j k g v (m ∷ ms) apart own = set_apart_step (is_named k m.0) (is_named j m.0) j k g v m ms apart refl refl (set_apart_first j k g v ms apart own)

-- ---- members of one name

set_gone_step : (b : Bool) (k : List ℕ) (v : PlainTree) (m : PlainMember) (ms : List PlainMember) → is_named k m.0 ≡ b
    → remove_first k (set_first k v ms) ≡ remove_first k ms
    → remove_first k (set_first k v (m ∷ ms)) ≡ remove_first k (m ∷ ms)
set_gone_step true k v m ms n ih = rw n (rw n refl)
set_gone_step false k v m ms n ih = rw n (rw n (ap (λ l. m ∷ l) ih))

set_gone : (k : List ℕ) (v : PlainTree) (ms : List PlainMember) → IsOwn k → remove_first k (set_first k v ms) ≡ remove_first k ms
set_gone k v [] own = rw own refl
set_gone k v (m ∷ ms) own = set_gone_step (is_named k m.0) k v m ms refl (set_gone k v ms own)

change_gone_step : (b : Bool) (k : List ℕ) (f : PlainTree → PlainTree) (m : PlainMember) (ms : List PlainMember) → is_named k m.0 ≡ b
    → remove_first k (change_first k f ms) ≡ remove_first k ms
    → remove_first k (change_first k f (m ∷ ms)) ≡ remove_first k (m ∷ ms)
change_gone_step true k f m ms n ih = rw n (rw n refl)
change_gone_step false k f m ms n ih = rw n (rw n (ap (λ l. m ∷ l) ih))

change_gone : (k : List ℕ) (f : PlainTree → PlainTree) (ms : List PlainMember) → remove_first k (change_first k f ms) ≡ remove_first k ms
change_gone k f [] = refl
change_gone k f (m ∷ ms) = change_gone_step (is_named k m.0) k f m ms refl (change_gone k f ms)

-- two edits that agree at the value found
abbrev Agree : List ℕ → (PlainTree → Option PlainTree) → (PlainTree → Option PlainTree) → List PlainMember → Type 0
Agree k g h ms = (v : PlainTree) → value_of k ms ≡ Some v → g v ≡ h v

agree_step : (b : Bool) (k : List ℕ) (g h : PlainTree → Option PlainTree) (m : PlainMember) (ms : List PlainMember) → is_named k m.0 ≡ b
    → Agree k g h (m ∷ ms)
    → (Agree k g h ms → alter_first k g ms ≡ alter_first k h ms) → alter_first k g (m ∷ ms) ≡ alter_first k h (m ∷ ms)
agree_step true k g h m ms n q more = rw n (ap (λ o. put m.0 o ms) (q m.1 (rw n refl)))
agree_step false k g h m ms n q more = rw n (ap (λ l. m ∷ l) (more (λ v e. q v (rw n e))))

agree_first : (k : List ℕ) (g h : PlainTree → Option PlainTree) (ms : List PlainMember) → Agree k g h ms → alter_first k g ms ≡ alter_first k h ms
agree_first k g h [] q = refl
agree_first k g h (m ∷ ms) q = agree_step (is_named k m.0) k g h m ms refl q (agree_first k g h ms)

-- nothing changes where the member is absent
absent_step : (b : Bool) (k : List ℕ) (g : PlainTree → Option PlainTree) (m : PlainMember) (ms : List PlainMember) → is_named k m.0 ≡ b
    → (value_of k ms ≡ None → alter_first k g ms ≡ ms) → value_of k (m ∷ ms) ≡ None
    → alter_first k g (m ∷ ms) ≡ m ∷ ms
absent_step true k g m ms n more e = let x : ◌≡◌ {A = Option PlainTree} (Some m.1) None = rw n at e in absurd (cc)
absent_step false k g m ms n more e = let x : value_of k ms ≡ None = rw n at e in rw n (ap (λ l. m ∷ l) (more x))

absent_first : (k : List ℕ) (g : PlainTree → Option PlainTree) (ms : List PlainMember) → value_of k ms ≡ None → alter_first k g ms ≡ ms
absent_first k g [] e = refl
absent_first k g (m ∷ ms) e = absent_step (is_named k m.0) k g m ms refl (absent_first k g ms) e

-- no second member has the name
abbrev pub IsOnce : List ℕ → List PlainMember → Type 0
IsOnce key [] = Unit {0}
IsOnce key (m ∷ ms) = (is_named key m.0 ≡ true → value_of key ms ≡ None) × IsOnce key ms

put_again : (k : List ℕ) (g : PlainTree → Option PlainTree) (s : List ℕ) (o : Option PlainTree) (ms : List PlainMember)
    → is_named k s ≡ true → value_of k ms ≡ None → alter_first k g (put s o ms) ≡ put s (after g o) ms
put_again k g s None ms n none = absent_first k g ms none
put_again k g s (Some v) ms n none = rw n refl

joined_step : (b : Bool) (k : List ℕ) (g h : PlainTree → Option PlainTree) (m : PlainMember) (ms : List PlainMember) → is_named k m.0 ≡ b
    → (is_named k m.0 ≡ true → value_of k ms ≡ None)
    → alter_first k g (alter_first k h ms) ≡ alter_first k (λ v. after g (h v)) ms → alter_first k g (alter_first k h (m ∷ ms)) ≡ alter_first k (λ v. after g (h v)) (m ∷ ms)
joined_step true k g h m ms n once ih = let none = once n in rw n (put_again k g m.0 (h m.1) ms n none)
joined_step false k g h m ms n once ih = rw n (rw n (ap (λ l. m ∷ l) ih))

joined_first : (k : List ℕ) (g h : PlainTree → Option PlainTree) (ms : List PlainMember) → IsOnce k ms
    → alter_first k g (alter_first k h ms) ≡ alter_first k (λ v. after g (h v)) ms
joined_first k g h [] once = refl
joined_first k g h (m ∷ ms) once = joined_step (is_named k m.0) k g h m ms refl once.0 (joined_first k g h ms once.1)

-- ---- distinct keys

none_named : (key u : List ℕ) (ms : List PlainMember) → u ≡ key
    → ((j : ℕ) (d : List ℕ) → j < length (map units (keys (members_of ms))) → u ≡ slice_index_or (map units (keys (members_of ms))) j d → ⊥)
    → value_of key ms ≡ None
none_named key u [] e h = refl
none_named key u (m ∷ ms) e h =
    let n : is_named key m.0 ≡ false = from_false (is_named key m.0) (λ t. h 0 u (omega arith) (e ∙ sym (named_units key m.0 t))) in
    rw n (none_named key u ms e (λ j d k. h (suc j) d (omega arith)))

once_first : (key : List ℕ) (ms : List PlainMember) → AreDistinct (map units (keys (members_of ms))) → IsOnce key ms
once_first key [] h = tt
once_first key (m ∷ ms) h = (
  λ t. none_named key (units m.0) ms (named_units key m.0 t) (λ j d k. h 0 (suc j) d (omega arith) (omega arith)),
  once_first key ms (λ i j d l k. h (suc i) (suc j) d (omega arith) (omega arith)),
)

-- the same of a value
abbrev pub HasOnce : List ℕ → PlainTree → Type 0
HasOnce key t = IsOnce key (object_members t)

pub once : (key : List ℕ) (t : PlainTree) → HasDistinctKeys t → HasOnce key t
once key null h = tt
once key (truth b) h = tt
once key (number s) h = tt
once key (text s) h = tt
once key (list ts) h = tt
once key (members ms) h = once_first key (member_list ms) (rw (members_back ms) h.0)

-- ---- edits of an object

pub edits_joined : (f g : List PlainMember → List PlainMember) (t : PlainTree) → with_members f (with_members g t) ≡ with_members (λ ms. f (g ms)) t
edits_joined f g null = refl
edits_joined f g (truth b) = refl
edits_joined f g (number s) = refl
edits_joined f g (text s) = refl
edits_joined f g (list ts) = refl
edits_joined f g (members ms) = ap (λ ns. members (members_of (f ns))) (list_of (g (member_list ms)))

pub edits_agree : (f g : List PlainMember → List PlainMember) (t : PlainTree) → f (object_members t) ≡ g (object_members t)
    → with_members f t ≡ with_members g t
edits_agree f g null e = refl
edits_agree f g (truth b) e = refl
edits_agree f g (number s) e = refl
edits_agree f g (text s) e = refl
edits_agree f g (list ts) e = refl
edits_agree f g (members ms) e = ap (λ l. members (members_of l)) e

pub removed_is : (k : List ℕ) (t : PlainTree) → without k t ≡ alter k gone t
removed_is k t = edits_agree (remove_first k) (alter_first k gone) t (removed_first k (object_members t))

pub changed_is : (k : List ℕ) (f : PlainTree → PlainTree) (t : PlainTree) → at_member k f t ≡ alter k (made f) t
changed_is k f t = edits_agree (change_first k f) (alter_first k (made f)) t (changed_first k f (object_members t))

pub commute : (j k : List ℕ) (g h : PlainTree → Option PlainTree) → IsApart j k → (t : PlainTree) → alter j g (alter k h t) ≡ alter k h (alter j g t)
commute j k g h apart t =
    edits_joined (alter_first j g) (alter_first k h) t
    ∙ edits_agree (λ ms. alter_first j g (alter_first k h ms)) (λ ms. alter_first k h (alter_first j g ms)) t (commute_first j k g h (object_members t) apart)
    ∙ sym (edits_joined (alter_first k h) (alter_first j g) t)

pub set_other : (j k : List ℕ) (g : PlainTree → Option PlainTree) (v : PlainTree) → IsApart j k → IsOwn k → (t : PlainTree)
    → alter j g (with_member k v t) ≡ with_member k v (alter j g t)
set_other j k g v apart own t =
    edits_joined (alter_first j g) (set_first k v) t
    ∙ edits_agree (λ ms. alter_first j g (set_first k v ms)) (λ ms. set_first k v (alter_first j g ms)) t (set_apart_first j k g v (object_members t) apart own)
    ∙ sym (edits_joined (set_first k v) (alter_first j g) t)

pub joined : (k : List ℕ) (g h : PlainTree → Option PlainTree) (t : PlainTree) → HasOnce k t
    → alter k g (alter k h t) ≡ alter k (λ v. after g (h v)) t
joined k g h t one =
    edits_joined (alter_first k g) (alter_first k h) t
    ∙ edits_agree (λ ms. alter_first k g (alter_first k h ms)) (alter_first k (λ v. after g (h v))) t (joined_first k g h (object_members t) one)

pub agree : (k : List ℕ) (g h : PlainTree → Option PlainTree) (t : PlainTree) → ((v : PlainTree) → find_member k t ≡ Some v → g v ≡ h v)
    → alter k g t ≡ alter k h t
agree k g h t q = edits_agree (alter_first k g) (alter_first k h) t (agree_first k g h (object_members t) q)

pub absent : (k : List ℕ) (g : PlainTree → Option PlainTree) (t : PlainTree) → find_member k t ≡ None → alter k g t ≡ t
absent k g null e = refl
absent k g (truth b) e = refl
absent k g (number s) e = refl
absent k g (text s) e = refl
absent k g (list ts) e = refl
absent k g (members ms) e = ap (λ l. members (members_of l)) (absent_first k g (member_list ms) e) ∙ ap members (members_back ms)

same_value : (k : List ℕ) (t v w : PlainTree) → find_member k t ≡ Some v → find_member k t ≡ Some w → v ≡ w
same_value k t v w e f = let x : ◌≡◌ {A = Option PlainTree} (Some v) (Some w) = sym e ∙ f in cc

-- an edit takes the member out, or changes its value, by what it makes of the value
pub taken_out : (k : List ℕ) (g : PlainTree → Option PlainTree) (v t : PlainTree) → find_member k t ≡ Some v → g v ≡ None → alter k g t ≡ without k t
taken_out k g v t found e = agree k g gone t (λ w h. ap g (same_value k t w v h found) ∙ e) ∙ sym (removed_is k t)

pub made_so : (k : List ℕ) (g : PlainTree → Option PlainTree) (f : PlainTree → PlainTree) (v t : PlainTree) → find_member k t ≡ Some v
    → g v ≡ Some (f v) → alter k g t ≡ at_member k f t
made_so k g f v t found e = agree k g (made f) t (λ w h. ap g (same_value k t w v h found) ∙ e ∙ ap (λ u. Some (f u)) (same_value k t v w found h)) ∙ sym (changed_is k f t)

-- ---- the calls of gp_tree

-- what is set or changed is removed with the member
pub set_then_removed : (k : List ℕ) (v : PlainTree) → IsOwn k → (t : PlainTree) → without k (with_member k v t) ≡ without k t
set_then_removed k v own t = edits_joined (remove_first k) (set_first k v) t ∙ edits_agree (λ ms. remove_first k (set_first k v ms)) (remove_first k) t (set_gone k v (object_members t) own)

pub changed_then_removed : (k : List ℕ) (f : PlainTree → PlainTree) (t : PlainTree) → without k (at_member k f t) ≡ without k t
changed_then_removed k f t = edits_joined (remove_first k) (change_first k f) t ∙ edits_agree (λ ms. remove_first k (change_first k f ms)) (remove_first k) t (change_gone k f (object_members t))

pub removed_absent : (k : List ℕ) (t : PlainTree) → find_member k t ≡ None → without k t ≡ t
removed_absent k t e = removed_is k t ∙ absent k gone t e

pub changed_absent : (k : List ℕ) (f : PlainTree → PlainTree) (t : PlainTree) → find_member k t ≡ None → at_member k f t ≡ t
changed_absent k f t e = changed_is k f t ∙ absent k (made f) t e

pub removed_twice : (k : List ℕ) (t : PlainTree) → HasOnce k t → without k (without k t) ≡ without k t
removed_twice k t one = removed_is k (without k t) ∙ ap (alter k gone) (removed_is k t) ∙ joined k gone gone t one ∙ sym (removed_is k t)

pub changed_twice : (k : List ℕ) (f g : PlainTree → PlainTree) (t : PlainTree) → HasOnce k t
    → at_member k f (at_member k g t) ≡ at_member k (λ v. f (g v)) t
changed_twice k f g t one = changed_is k f (at_member k g t) ∙ ap (alter k (made f)) (changed_is k g t) ∙ joined k (made f) (made g) t one ∙ sym (changed_is k (λ v. f (g v)) t)

-- edits of two members change places
pub removed_set : (j k : List ℕ) (v : PlainTree) → IsApart j k → IsOwn k → (t : PlainTree)
    → without j (with_member k v t) ≡ with_member k v (without j t)
removed_set j k v apart own t = removed_is j (with_member k v t) ∙ set_other j k gone v apart own t ∙ ap (with_member k v) (sym (removed_is j t))

pub changed_set : (j k : List ℕ) (f : PlainTree → PlainTree) (v : PlainTree) → IsApart j k → IsOwn k → (t : PlainTree)
    → at_member j f (with_member k v t) ≡ with_member k v (at_member j f t)
changed_set j k f v apart own t = changed_is j f (with_member k v t) ∙ set_other j k (made f) v apart own t ∙ ap (with_member k v) (sym (changed_is j f t))

pub removed_removed : (j k : List ℕ) → IsApart j k → (t : PlainTree) → without j (without k t) ≡ without k (without j t)
removed_removed j k apart t =
    removed_is j (without k t) ∙ ap (alter j gone) (removed_is k t) ∙ commute j k gone gone apart t
    ∙ sym (removed_is k (without j t) ∙ ap (alter k gone) (removed_is j t))

pub removed_changed : (j k : List ℕ) (f : PlainTree → PlainTree) → IsApart j k → (t : PlainTree)
    → without j (at_member k f t) ≡ at_member k f (without j t)
removed_changed j k f apart t =
    removed_is j (at_member k f t) ∙ ap (alter j gone) (changed_is k f t) ∙ commute j k gone (made f) apart t
    ∙ sym (changed_is k f (without j t) ∙ ap (alter k (made f)) (removed_is j t))

pub changed_changed : (j k : List ℕ) (f g : PlainTree → PlainTree) → IsApart j k → (t : PlainTree)
    → at_member j f (at_member k g t) ≡ at_member k g (at_member j f t)
changed_changed j k f g apart t =
    changed_is j f (at_member k g t) ∙ ap (alter j (made f)) (changed_is k g t) ∙ commute j k (made f) (made g) apart t
    ∙ sym (changed_is k g (at_member j f t) ∙ ap (alter k (made g)) (changed_is j f t))

pub changes_agree : (k : List ℕ) (f g : PlainTree → PlainTree) (t : PlainTree) → ((v : PlainTree) → find_member k t ≡ Some v → f v ≡ g v)
    → at_member k f t ≡ at_member k g t
changes_agree k f g t q = changed_is k f t ∙ agree k (made f) (made g) t (λ v e. ap Some (q v e)) ∙ sym (changed_is k g t)

-- ---- no second member comes with an edit of another

value_skip : (b : Bool) (j : List ℕ) (m : PlainMember) (ls ms : List PlainMember) → is_named j m.0 ≡ b → value_of j ls ≡ value_of j ms
    → value_of j (m ∷ ls) ≡ value_of j (m ∷ ms)
value_skip true j m ls ms n ih = rw n refl
value_skip false j m ls ms n ih = rw n ih

value_put : (j s : List ℕ) (o : Option PlainTree) (ms : List PlainMember) → is_named j s ≡ false → value_of j (put s o ms) ≡ value_of j ms
value_put j s None ms n = refl
value_put j s (Some v) ms n = rw n refl

value_step : (b : Bool) (j k : List ℕ) (g : PlainTree → Option PlainTree) (m : PlainMember) (ms : List PlainMember) → IsApart j k
    → is_named k m.0 ≡ b → value_of j (alter_first k g ms) ≡ value_of j ms
    → value_of j (alter_first k g (m ∷ ms)) ≡ value_of j (m ∷ ms)
value_step true j k g m ms apart n ih = let d = apart m.0 n in rw n (rw d (value_put j m.0 (g m.1) ms d))
value_step false j k g m ms apart n ih = rw n (value_skip (is_named j m.0) j m (alter_first k g ms) ms refl ih)

value_kept : (j k : List ℕ) (g : PlainTree → Option PlainTree) (ms : List PlainMember) → IsApart j k → value_of j (alter_first k g ms) ≡ value_of j ms
value_kept j k g [] apart = refl
value_kept j k g (m ∷ ms) apart = value_step (is_named k m.0) j k g m ms apart refl (value_kept j k g ms apart)

value_set_step : (b : Bool) (j k : List ℕ) (v : PlainTree) (m : PlainMember) (ms : List PlainMember) → IsApart j k → is_named k m.0 ≡ b
    → value_of j (set_first k v ms) ≡ value_of j ms
    → value_of j (set_first k v (m ∷ ms)) ≡ value_of j (m ∷ ms)
value_set_step true j k v m ms apart n ih = let d = apart m.0 n in rw n (rw d refl)
value_set_step false j k v m ms apart n ih = rw n (value_skip (is_named j m.0) j m (set_first k v ms) ms refl ih)

value_set : (j k : List ℕ) (v : PlainTree) (ms : List PlainMember) → IsApart j k → IsOwn k → value_of j (set_first k v ms) ≡ value_of j ms
value_set j k v [] apart own = rw (apart k own) refl
value_set j k v (m ∷ ms) apart own = value_set_step (is_named k m.0) j k v m ms apart refl (value_set j k v ms apart own)

once_put : (j s : List ℕ) (o : Option PlainTree) (ms : List PlainMember) → (is_named j s ≡ true → value_of j ms ≡ None) → IsOnce j ms
    → IsOnce j (put s o ms)
once_put j s None ms h one = one
once_put j s (Some v) ms h one = (h, one)

once_step : (b : Bool) (j k : List ℕ) (g : PlainTree → Option PlainTree) (m : PlainMember) (ms : List PlainMember) → IsApart j k
    → is_named k m.0 ≡ b → IsOnce j (m ∷ ms) → IsOnce j (alter_first k g ms)
    → IsOnce j (alter_first k g (m ∷ ms))
once_step true j k g m ms apart n one ih = rw n (once_put j m.0 (g m.1) ms one.0 one.1)
once_step false j k g m ms apart n one ih = rw n (λ t. value_kept j k g ms apart ∙ one.0 t, ih)

once_kept_first : (j k : List ℕ) (g : PlainTree → Option PlainTree) (ms : List PlainMember) → IsApart j k → IsOnce j ms
    → IsOnce j (alter_first k g ms)
once_kept_first j k g [] apart one = tt
once_kept_first j k g (m ∷ ms) apart one = once_step (is_named k m.0) j k g m ms apart refl one (once_kept_first j k g ms apart one.1)

once_set_step : (b : Bool) (j k : List ℕ) (v : PlainTree) (m : PlainMember) (ms : List PlainMember) → IsApart j k → IsOwn k
    → is_named k m.0 ≡ b → IsOnce j (m ∷ ms) → IsOnce j (set_first k v ms)
    → IsOnce j (set_first k v (m ∷ ms))
once_set_step true j k v m ms apart own n one ih = rw n one
once_set_step false j k v m ms apart own n one ih = rw n (λ t. value_set j k v ms apart own ∙ one.0 t, ih)

once_set_first : (j k : List ℕ) (v : PlainTree) (ms : List PlainMember) → IsApart j k → IsOwn k → IsOnce j ms → IsOnce j (set_first k v ms)
once_set_first j k v [] apart own one = (λ t. refl, tt)
once_set_first j k v (m ∷ ms) apart own one = once_set_step (is_named k m.0) j k v m ms apart own refl one (once_set_first j k v ms apart own one.1)

once_with : (j : List ℕ) (f : List PlainMember → List PlainMember) (t : PlainTree) → HasOnce j t
    → ((ms : List PlainMember) → IsOnce j ms → IsOnce j (f ms)) → HasOnce j (with_members f t)
once_with j f null one h = tt
once_with j f (truth b) one h = tt
once_with j f (number s) one h = tt
once_with j f (text s) one h = tt
once_with j f (list ts) one h = tt
once_with j f (members ms) one h = subst (IsOnce j) (sym (list_of (f (member_list ms)))) (h (member_list ms) one)

pub once_kept : (j k : List ℕ) (g : PlainTree → Option PlainTree) (t : PlainTree) → IsApart j k → HasOnce j t → HasOnce j (alter k g t)
once_kept j k g t apart one = once_with j (alter_first k g) t one (λ ms. once_kept_first j k g ms apart)

pub once_set : (j k : List ℕ) (v t : PlainTree) → IsApart j k → IsOwn k → HasOnce j t → HasOnce j (with_member k v t)
once_set j k v t apart own one = once_with j (set_first k v) t one (λ ms. once_set_first j k v ms apart own)

pub once_removed : (j k : List ℕ) (t : PlainTree) → IsApart j k → HasOnce j t → HasOnce j (without k t)
once_removed j k t apart one = subst (HasOnce j) (sym (removed_is k t)) (once_kept j k gone t apart one)

pub once_changed : (j k : List ℕ) (f : PlainTree → PlainTree) (t : PlainTree) → IsApart j k → HasOnce j t → HasOnce j (at_member k f t)
once_changed j k f t apart one = subst (HasOnce j) (sym (changed_is k f t)) (once_kept j k (made f) t apart one)

-- ---- what is found

value_again : (k s : List ℕ) (o : Option PlainTree) (ms : List PlainMember) → is_named k s ≡ true → value_of k ms ≡ None → value_of k (put s o ms) ≡ o
value_again k s None ms n none = none
value_again k s (Some v) ms n none = rw n refl

altered_step : (b : Bool) (k : List ℕ) (g : PlainTree → Option PlainTree) (m : PlainMember) (ms : List PlainMember) → is_named k m.0 ≡ b
    → IsOnce k (m ∷ ms) → value_of k (alter_first k g ms) ≡ after g (value_of k ms)
    → value_of k (alter_first k g (m ∷ ms)) ≡ after g (value_of k (m ∷ ms))
altered_step true k g m ms n one ih = let none = one.0 n in rw n (value_again k m.0 (g m.1) ms n none)
altered_step false k g m ms n one ih = rw n (rw n ih)

value_altered : (k : List ℕ) (g : PlainTree → Option PlainTree) (ms : List PlainMember) → IsOnce k ms
    → value_of k (alter_first k g ms) ≡ after g (value_of k ms)
value_altered k g [] one = refl
value_altered k g (m ∷ ms) one = altered_step (is_named k m.0) k g m ms refl one (value_altered k g ms one.1)

found_with : (j : List ℕ) (f : List PlainMember → List PlainMember) (t : PlainTree)
    → value_of j (f (object_members t)) ≡ value_of j (object_members t) → find_member j (with_members f t) ≡ find_member j t
found_with j f null e = refl
found_with j f (truth b) e = refl
found_with j f (number s) e = refl
found_with j f (text s) e = refl
found_with j f (list ts) e = refl
found_with j f (members ms) e = ap (value_of j) (list_of (f (member_list ms))) ∙ e

pub find_kept : (j k : List ℕ) (g : PlainTree → Option PlainTree) (t : PlainTree) → IsApart j k → find_member j (alter k g t) ≡ find_member j t
find_kept j k g t apart = found_with j (alter_first k g) t (value_kept j k g (object_members t) apart)

pub find_set_kept : (j k : List ℕ) (v t : PlainTree) → IsApart j k → IsOwn k → find_member j (with_member k v t) ≡ find_member j t
find_set_kept j k v t apart own = found_with j (set_first k v) t (value_set j k v (object_members t) apart own)

pub find_altered : (k : List ℕ) (g : PlainTree → Option PlainTree) (t : PlainTree) → HasOnce k t
    → find_member k (alter k g t) ≡ after g (find_member k t)
find_altered k g null one = refl
find_altered k g (truth b) one = refl
find_altered k g (number s) one = refl
find_altered k g (text s) one = refl
find_altered k g (list ts) one = refl
find_altered k g (members ms) one = ap (value_of k) (list_of (alter_first k g (member_list ms))) ∙ value_altered k g (member_list ms) one
