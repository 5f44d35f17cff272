-- What is found after edits that may take a member out.
use Rattle.std.specs.Prelude.{if◌then◌else◌}
use Rattle.std.proofs.Common.{◌≡◌, ℕ, Bool, true, false, true≢false, List, [], ◌∷◌, Option, Some, None, option_map, refl, sym, ap, ◌∙◌, subst}
use Rattle.std.proofs.lemmas.Slice.Eq.{bytes_eq-Decides}
use Rattle.gp_tree.specs.Plain.{PlainTree, null, truth, number, text, list, members, members_of}
use Rattle.gp_tree.specs.Key.{units}
use Rattle.gp_tree.specs.Find.{PlainMember, IsObject, is_named, member_list, find_member}
use Rattle.gp_tree.specs.TreeEdits.{set_first, remove_first, change_first, with_members, with_member, without, at_member}
use Rattle.gp_tree.specs.Values.{IsName}
use Rattle.gp_tree.proofs.Firsts.{from_false, list_of}
use Rattle.gp_tree.proofs.Names.{units_of_name}
use Rattle.gp_tree.proofs.Kept.{find_set_other, find_remove_other, find_change, find_change_other}
use Rattle.gp_edits.specs.Changes.{is_emptied, emptied_by, emptied}

-- ---- objects stay objects

pub object_after : (change : List PlainMember → List PlainMember) (t : PlainTree) → IsObject t → IsObject (with_members change t)
object_after change null o = absurd o
object_after change (truth b) o = absurd o
object_after change (number s) o = absurd o
object_after change (text s) o = absurd o
object_after change (list ts) o = absurd o
object_after change (members ms) o = tt

-- ---- edits of two members in either order

both_changes : (f g : List PlainMember → List PlainMember) → ((ms : List PlainMember) → f (g ms) ≡ g (f ms)) → (t : PlainTree) → with_members f (with_members g t) ≡ with_members g (with_members f t)
both_changes f g e null = refl
both_changes f g e (truth b) = refl
both_changes f g e (number s) = refl
both_changes f g e (text s) = refl
both_changes f g e (list ts) = refl
both_changes f g e (members ms) =
    ap (λ l. members (members_of (f l))) (list_of (g (member_list ms)))
    ∙ ap (λ l. members (members_of l)) (e (member_list ms))
    ∙ sym (ap (λ l. members (members_of (g l))) (list_of (f (member_list ms))))

-- a key has one name
not_both : (key other k : List ℕ) → (key ≡ other → ⊥) → is_named key k ≡ true → is_named other k ≡ false
not_both key other k d e =
    from_false (is_named other k) (λ t. d (sym ((bytes_eq-Decides (units k) key).0 e) ∙ (bytes_eq-Decides (units k) other).0 t))

change_step : (b c : Bool) (key other : List ℕ) (f : PlainTree → PlainTree) (m : PlainMember) (ms : List PlainMember) → is_named key m.0 ≡ b → is_named other m.0 ≡ c → (key ≡ other → ⊥)
    → remove_first key (change_first other f ms) ≡ change_first other f (remove_first key ms) → remove_first key (change_first other f (m ∷ ms)) ≡ change_first other f (remove_first key (m ∷ ms))
change_step true true key other f m ms n o d ih = absurd (true≢false (sym o ∙ not_both key other m.0 d n))
change_step true false key other f m ms n o d ih = rw o (rw n refl)
change_step false true key other f m ms n o d ih = rw o (rw n (rw o refl))
change_step false false key other f m ms n o d ih = rw o (rw n (rw o (ap (λ l. m ∷ l) ih)))

remove_change : (key other : List ℕ) (f : PlainTree → PlainTree) → (key ≡ other → ⊥) → (ms : List PlainMember) → remove_first key (change_first other f ms) ≡ change_first other f (remove_first key ms)
remove_change key other f d [] = refl
remove_change key other f d (m ∷ ms) = change_step (is_named key m.0) (is_named other m.0) key other f m ms refl refl d (remove_change key other f d ms)

remove_step : (b c : Bool) (key other : List ℕ) (m : PlainMember) (ms : List PlainMember) → is_named key m.0 ≡ b → is_named other m.0 ≡ c → (key ≡ other → ⊥)
    → remove_first key (remove_first other ms) ≡ remove_first other (remove_first key ms) → remove_first key (remove_first other (m ∷ ms)) ≡ remove_first other (remove_first key (m ∷ ms))
remove_step true true key other m ms n o d ih = absurd (true≢false (sym o ∙ not_both key other m.0 d n))
remove_step true false key other m ms n o d ih = rw o (rw n refl)
remove_step false true key other m ms n o d ih = rw o (rw n (rw o refl))
remove_step false false key other m ms n o d ih = rw o (rw n (rw o (ap (λ l. m ∷ l) ih)))

remove_remove : (key other : List ℕ) → (key ≡ other → ⊥) → (ms : List PlainMember) → remove_first key (remove_first other ms) ≡ remove_first other (remove_first key ms)
remove_remove key other d [] = refl
remove_remove key other d (m ∷ ms) = remove_step (is_named key m.0) (is_named other m.0) key other m ms refl refl d (remove_remove key other d ms)

set_step : (b c : Bool) (key other : List ℕ) (v : PlainTree) (m : PlainMember) (ms : List PlainMember) → is_named key m.0 ≡ b → is_named other m.0 ≡ c → (key ≡ other → ⊥)
    → remove_first key (set_first other v ms) ≡ set_first other v (remove_first key ms) → remove_first key (set_first other v (m ∷ ms)) ≡ set_first other v (remove_first key (m ∷ ms))
set_step true true key other v m ms n o d ih = absurd (true≢false (sym o ∙ not_both key other m.0 d n))
set_step true false key other v m ms n o d ih = rw o (rw n refl)
set_step false true key other v m ms n o d ih = rw o (rw n (rw o refl))
set_step false false key other v m ms n o d ih = rw o (rw n (rw o (ap (λ l. m ∷ l) ih)))

remove_set : (key other : List ℕ) (v : PlainTree) → is_named key other ≡ false → (key ≡ other → ⊥) → (ms : List PlainMember) → remove_first key (set_first other v ms) ≡ set_first other v (remove_first key ms)
remove_set key other v own d [] = rw own refl
remove_set key other v own d (m ∷ ms) = set_step (is_named key m.0) (is_named other m.0) key other v m ms refl refl d (remove_set key other v own d ms)

-- ---- no second member has this name

not_own : (key other : List ℕ) → (key ≡ other → ⊥) → IsName other → is_named key other ≡ false
not_own key other d name = from_false (is_named key other) (λ t. d (sym ((bytes_eq-Decides (units other) key).0 t) ∙ units_of_name other name))

pub record IsLone (key : List ℕ) (t : PlainTree) : Type 0 where
  pub gone : find_member key (without key t) ≡ None

pub lone_change : (key other : List ℕ) (f : PlainTree → PlainTree) (t : PlainTree) → (key ≡ other → ⊥) → IsLone key t → IsLone key (at_member other f t)
lone_change key other f t d h = record {
  gone =
      ap (find_member key) (both_changes (remove_first key) (change_first other f) (remove_change key other f d) t)
      ∙ find_change_other key other f (without key t) d
      ∙ h.gone;
}

pub lone_remove : (key other : List ℕ) (t : PlainTree) → (key ≡ other → ⊥) → IsLone key t → IsLone key (without other t)
lone_remove key other t d h = record {
  gone =
      ap (find_member key) (both_changes (remove_first key) (remove_first other) (remove_remove key other d) t)
      ∙ find_remove_other key other (without key t) d
      ∙ h.gone;
}

pub lone_set : (key other : List ℕ) (v t : PlainTree) → (key ≡ other → ⊥) → IsName other → IsLone key t → IsLone key (with_member other v t)
lone_set key other v t d name h = record {
  gone =
      ap (find_member key) (both_changes (remove_first key) (set_first other v) (remove_set key other v (not_own key other d name) d) t)
      ∙ find_set_other key other v (without key t) d name
      ∙ h.gone;
}

-- ---- a member whose value is changed, or which goes

-- what holds of both answers
emptied_has : (P : PlainTree → Type 0) (key : List ℕ) (change : PlainTree → PlainTree) (t : PlainTree) → P t → P (without key t) → P (at_member key change t) → (found : Option PlainTree) → P (emptied_by key change found t)
emptied_has P key change t same out changed None = same
emptied_has P key change t same out changed (Some value) = by_test (is_emptied value (change value))
  where
    by_test : (b : Bool) → P (if b then without key t else at_member key change t)
    by_test true = out
    by_test false = changed

pub emptied_object : (key : List ℕ) (change : PlainTree → PlainTree) (t : PlainTree) → IsObject t → IsObject (emptied key change t)
unfolding emptied
emptied_object key change t o = emptied_has IsObject key change t o (object_after (remove_first key) t o) (object_after (change_first key change) t o) (find_member key t)

pub emptied_other : (name key : List ℕ) (change : PlainTree → PlainTree) (t : PlainTree) → (name ≡ key → ⊥) → find_member name (emptied key change t) ≡ find_member name t
unfolding emptied
emptied_other name key change t d =
    emptied_has (λ u. find_member name u ≡ find_member name t) key change t refl (find_remove_other name key t d) (find_change_other name key change t d) (find_member key t)

pub lone_emptied : (key other : List ℕ) (change : PlainTree → PlainTree) (t : PlainTree) → (key ≡ other → ⊥) → IsLone key t → IsLone key (emptied other change t)
unfolding emptied
lone_emptied key other change t d h = emptied_has (IsLone key) other change t h (lone_remove key other t d h) (lone_change key other change t d h) (find_member other t)

-- what is found of the member itself: nothing, or its changed value
emptied_value : (key : List ℕ) (change : PlainTree → PlainTree) (t value : PlainTree) → IsLone key t → find_member key t ≡ Some value → (P : Option PlainTree → Type 0) → P None → P (Some (change value))
    → (b : Bool) → P (find_member key (if b then without key t else at_member key change t))
emptied_value key change t value lone e P none some true = subst P (sym lone.gone) none
emptied_value key change t value lone e P none some false = subst P (sym (find_change key change t ∙ ap (option_map change) e)) some

emptied_by_found : (key : List ℕ) (change : PlainTree → PlainTree) (t : PlainTree) (P : Option PlainTree → Type 0) → IsLone key t → P None → ((value : PlainTree) → find_member key t ≡ Some value → P (Some (change value)))
    → (found : Option PlainTree) → find_member key t ≡ found → P (find_member key (emptied_by key change found t))
emptied_by_found key change t P lone none some None e = subst P (sym e) none
emptied_by_found key change t P lone none some (Some value) e = emptied_value key change t value lone e P none (some value e) (is_emptied value (change value))

pub emptied_found : (key : List ℕ) (change : PlainTree → PlainTree) (t : PlainTree) (P : Option PlainTree → Type 0) → IsLone key t → P None → ((value : PlainTree) → find_member key t ≡ Some value → P (Some (change value)))
    → P (find_member key (emptied key change t))
unfolding emptied
emptied_found key change t P lone none some = emptied_by_found key change t P lone none some (find_member key t) refl
