-- A member whose value is changed, or made of a default where it isn't there.
use Rattle.std.specs.Prelude.{if◌then◌else◌, unwrap_or}
use Rattle.std.proofs.Common.{◌≡◌, ℕ, Bool, true, false, not, List, [], ◌∷◌, Option, Some, None, option_map, is_some, refl, sym, ap, ◌∙◌}
use Rattle.gp_tree.specs.Plain.{PlainTree, null, truth, number, text, list, members, members_of}
use Rattle.gp_tree.specs.Find.{PlainMember, is_named, member_list, object_members, value_of, find_member}
use Rattle.gp_tree.specs.TreeEdits.{set_first, change_first, with_member, at_member}
use Rattle.gp_tree.proofs.Inner.{members_back}
use Rattle.gp_tree.proofs.Firsts.{list_of}
use Rattle.gp_edits.specs.Changes.{is_empty}
use Rattle.gp_edits.proofs.Members.{IsOwn, IsApart, apart_back, HasOnce, alter_first, alter, made, changed_is, edits_agree, set_other, joined, agree, absent, once_set, find_kept}
use Rattle.gp_edits.proofs.Emptied.{unless_empty}

abbrev pub with_default : List ℕ → (PlainTree → PlainTree) → PlainTree → PlainTree → PlainTree
with_default key change default t = with_member key (change (unwrap_or (find_member key t) default)) t

-- ---- in two cases

set_step : (b : Bool) (k : List ℕ) (change : PlainTree → PlainTree) (v : PlainTree) (m : PlainMember) (ms : List PlainMember) → is_named k m.0 ≡ b
    → (value_of k ms ≡ Some v → set_first k (change v) ms ≡ change_first k change ms)
    → value_of k (m ∷ ms) ≡ Some v → set_first k (change v) (m ∷ ms) ≡ change_first k change (m ∷ ms)
set_step true k change v m ms n more e =
    let x : ◌≡◌ {A = Option PlainTree} (Some m.1) (Some v) = rw n at e in
    let s : m.1 ≡ v = cc in
    rw n (ap (λ w. (m.0, change w) ∷ ms) (sym s))
set_step false k change v m ms n more e = let x : value_of k ms ≡ Some v = rw n at e in rw n (ap (λ l. m ∷ l) (more x))

set_first_found : (k : List ℕ) (change : PlainTree → PlainTree) (v : PlainTree) (ms : List PlainMember) → value_of k ms ≡ Some v → set_first k (change v) ms ≡ change_first k change ms
set_first_found k change v [] e = absurd (cc)
set_first_found k change v (m ∷ ms) e = set_step (is_named k m.0) k change v m ms refl (set_first_found k change v ms) e

pub set_found : (k : List ℕ) (change : PlainTree → PlainTree) (v t : PlainTree) → find_member k t ≡ Some v → with_member k (change v) t ≡ at_member k change t
set_found k change v t e = edits_agree (set_first k (change v)) (change_first k change) t (set_first_found k change v (object_members t) e)

pub default_none : (k : List ℕ) (change : PlainTree → PlainTree) (default t : PlainTree) → find_member k t ≡ None → with_default k change default t ≡ with_member k (change default) t
default_none k change default t e = ap (λ found. with_member k (change (unwrap_or found default)) t) e

pub default_some : (k : List ℕ) (change : PlainTree → PlainTree) (default v t : PlainTree) → find_member k t ≡ Some v → with_default k change default t ≡ at_member k change t
default_some k change default v t e = ap (λ found. with_member k (change (unwrap_or found default)) t) e ∙ set_found k change v t e

some_case : (k : List ℕ) (change : PlainTree → PlainTree) (default t : PlainTree) (found : Option PlainTree) → find_member k t ≡ found → is_some found ≡ true
    → with_default k change default t ≡ at_member k change t
some_case k change default t None e some = absurd (cc)
some_case k change default t (Some v) e some = default_some k change default v t e

pub default_is_some : (k : List ℕ) (change : PlainTree → PlainTree) (default t : PlainTree) → is_some (find_member k t) ≡ true
    → with_default k change default t ≡ at_member k change t
default_is_some k change default t some = some_case k change default t (find_member k t) refl some

pub some_found : {A : Type 0} (f : A → PlainTree) (o : Option A) (found : Option PlainTree) (r : Bool) → option_map f o ≡ found → is_some o ≡ not r → r ≡ false → is_some found ≡ true
some_found f None found r e n t = let x : false ≡ true = n ∙ ap not t in absurd (cc)
some_found f (Some a) found r e n t = sym (ap is_some e)

-- ---- beside another member

pub default_other : (j k : List ℕ) (g : PlainTree → Option PlainTree) (change : PlainTree → PlainTree) (default : PlainTree) → IsApart j k → IsOwn k → (t : PlainTree)
    → alter j g (with_default k change default t) ≡ with_default k change default (alter j g t)
default_other j k g change default apart own t =
    set_other j k g (change (unwrap_or (find_member k t) default)) apart own t
    ∙ ap (λ found. with_member k (change (unwrap_or found default)) (alter j g t)) (sym (find_kept k j g t (apart_back j k apart)))

pub once_default : (j k : List ℕ) (change : PlainTree → PlainTree) (default t : PlainTree) → IsApart j k → IsOwn k → HasOnce j t → HasOnce j (with_default k change default t)
once_default j k change default t apart own one = once_set j k (change (unwrap_or (find_member k t) default)) t apart own one

-- ---- left out again

set_gone_step : (b : Bool) (k : List ℕ) (g : PlainTree → Option PlainTree) (v : PlainTree) (m : PlainMember) (ms : List PlainMember) → is_named k m.0 ≡ b
    → (value_of k ms ≡ None → alter_first k g (set_first k v ms) ≡ ms) → value_of k (m ∷ ms) ≡ None → alter_first k g (set_first k v (m ∷ ms)) ≡ m ∷ ms
set_gone_step true k g v m ms n more e = let x : ◌≡◌ {A = Option PlainTree} (Some m.1) None = rw n at e in absurd (cc)
set_gone_step false k g v m ms n more e = let x : value_of k ms ≡ None = rw n at e in rw n (rw n (ap (λ l. m ∷ l) (more x)))

set_gone_first : (k : List ℕ) (g : PlainTree → Option PlainTree) (v : PlainTree) (ms : List PlainMember) → IsOwn k → g v ≡ None → value_of k ms ≡ None
    → alter_first k g (set_first k v ms) ≡ ms
set_gone_first k g v [] own none e = rw own (rw none refl)
set_gone_first k g v (m ∷ ms) own none e = set_gone_step (is_named k m.0) k g v m ms refl (set_gone_first k g v ms own none) e

set_gone : (k : List ℕ) (g : PlainTree → Option PlainTree) (v t : PlainTree) → IsOwn k → g v ≡ None → find_member k t ≡ None → alter k g (with_member k v t) ≡ t
set_gone k g v null own none e = refl
set_gone k g v (truth b) own none e = refl
set_gone k g v (number s) own none e = refl
set_gone k g v (text s) own none e = refl
set_gone k g v (list ts) own none e = refl
set_gone k g v (members ms) own none e =
    ap (λ l. members (members_of (alter_first k g l))) (list_of (set_first k v (member_list ms)))
    ∙ ap (λ l. members (members_of l)) (set_gone_first k g v (member_list ms) own none e)
    ∙ ap members (members_back ms)

absorbed_case : (k : List ℕ) (f change : PlainTree → PlainTree) (default t : PlainTree) (found : Option PlainTree) → find_member k t ≡ found → IsOwn k → HasOnce k t
    → ((v : PlainTree) → f (change v) ≡ f v) → is_empty (f default) ≡ true
    → alter k (unless_empty f) (with_default k change default t) ≡ alter k (unless_empty f) t
absorbed_case k f change default t None e own one same empty =
    ap (alter k (unless_empty f)) (default_none k change default t e)
    ∙ set_gone k (unless_empty f) (change default) t own (ap (λ v. if is_empty v then None else Some v) (same default) ∙ ap (λ b. if b then None else Some (f default)) empty) e
    ∙ sym (absent k (unless_empty f) t e)
absorbed_case k f change default t (Some v) e own one same empty =
    ap (alter k (unless_empty f)) (default_some k change default v t e ∙ changed_is k change t)
    ∙ joined k (unless_empty f) (made change) t one
    ∙ agree k (λ w. unless_empty f (change w)) (unless_empty f) t (λ w found. ap (λ u. if is_empty u then None else Some u) (same w))

-- a change that another one undoes, which leaves out what is empty
pub default_absorbed : (k : List ℕ) (f change : PlainTree → PlainTree) (default t : PlainTree) → IsOwn k → HasOnce k t
    → ((v : PlainTree) → f (change v) ≡ f v) → is_empty (f default) ≡ true
    → alter k (unless_empty f) (with_default k change default t) ≡ alter k (unless_empty f) t
default_absorbed k f change default t own one same empty = absorbed_case k f change default t (find_member k t) refl own one same empty
