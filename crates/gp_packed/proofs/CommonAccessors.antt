-- What packing writes on accessors that move isn't in common.
use Rattle.std.specs.Prelude.{codes, nat_lt, if◌then◌else◌}
use Rattle.std.specs.Str.{bytes_eq, chars}
use Rattle.std.proofs.Common.{◌≡◌, ℕ, Bool, true, false, not, ◌||◌, ◌&&◌, List, [], ◌∷◌, length, Option, Some, None, refl, sym, ap, ◌∙◌, subst}
use Rattle.std.proofs.lemmas.Slice.Eq.{bytes_eq-Decides}
use Rattle.gp_tree.specs.Plain.{PlainTree}
use Rattle.gp_tree.specs.Sound.{HasDistinctKeys}
use Rattle.gp_tree.specs.TreeEdits.{with_member, without, at_member}
use Rattle.gp_asset.specs.Asset.{AssetParts}
use Rattle.gp_edits.specs.Changes.{whole_number}
use Rattle.gp_edits.proofs.Members.{IsOwn, IsApart, HasOnce, names_apart, apart_back, once, once_set, once_removed, set_then_removed, removed_twice, removed_set, removed_removed}
use Rattle.gp_sameness.specs.Moved.{Moved, is_number_in, is_moved, group_with}
use Rattle.gp_packed.specs.MadeViews.{list_component}
use Rattle.gp_sameness.specs.References.{new_view_reference, new_sparse_references, new_accessor_references}
use Rattle.gp_packed.specs.GroupEdits.{made_number, moved_column, moved_list, moved_by, moved_accessor}
use Rattle.gp_sameness.specs.Common.{written_on_column, written_on_list, without_each, common_of, common_accessor}

-- ---- members that are left out

abbrev pub is_key_in : List (List ℕ) → List ℕ → Bool
is_key_in [] k = false
is_key_in (key ∷ keys) k = bytes_eq k key || is_key_in keys k

same_key : (k key : List ℕ) → bytes_eq k key ≡ true → k ≡ key
same_key k key e = (bytes_eq-Decides k key).0 e

-- setting one, or removing it, leaves nothing
set_step : (b : Bool) (key : List ℕ) (keys : List (List ℕ)) (k : List ℕ) (v t : PlainTree) → bytes_eq k key ≡ b → IsOwn k
    → (b || is_key_in keys k) ≡ true
    → ((u : PlainTree) → is_key_in keys k ≡ true → without_each keys (with_member k v u) ≡ without_each keys u)
    → without_each (key ∷ keys) (with_member k v t) ≡ without_each (key ∷ keys) t
set_step true key keys k v t e own among more =
    subst (λ key. without_each keys (without key (with_member k v t)) ≡ without_each keys (without key t)) (same_key k key e)
    (ap (without_each keys) (set_then_removed k v own t))
set_step false key keys k v t e own among more =
    ap (without_each keys) (removed_set key k v (names_apart key k e) own t) ∙ more (without key t) among

pub set_hidden : (keys : List (List ℕ)) (k : List ℕ) (v t : PlainTree) → is_key_in keys k ≡ true → IsOwn k
    → without_each keys (with_member k v t) ≡ without_each keys t
set_hidden [] k v t among own = absurd (let x : false ≡ true = among in cc)
set_hidden (key ∷ keys) k v t among own =
    set_step (bytes_eq k key) key keys k v t refl own among (λ u among. set_hidden keys k v u among own)

removed_step : (b : Bool) (key : List ℕ) (keys : List (List ℕ)) (k : List ℕ) (t : PlainTree) → bytes_eq k key ≡ b → HasOnce k t
    → (b || is_key_in keys k) ≡ true
    → ((u : PlainTree) → is_key_in keys k ≡ true → HasOnce k u → without_each keys (without k u) ≡ without_each keys u)
    → without_each (key ∷ keys) (without k t) ≡ without_each (key ∷ keys) t
removed_step true key keys k t e one among more =
    subst (λ key. without_each keys (without key (without k t)) ≡ without_each keys (without key t)) (same_key k key e)
    (ap (without_each keys) (removed_twice k t one))
removed_step false key keys k t e one among more =
    let apart : IsApart key k = names_apart key k e in
    ap (without_each keys) (removed_removed key k apart t) ∙ more (without key t) among (once_removed k key t (apart_back key k apart) one)

pub removed_hidden : (keys : List (List ℕ)) (k : List ℕ) (t : PlainTree) → is_key_in keys k ≡ true → HasOnce k t
    → without_each keys (without k t) ≡ without_each keys t
removed_hidden [] k t among one = absurd (let x : false ≡ true = among in cc)
removed_hidden (key ∷ keys) k t among one =
    removed_step (bytes_eq k key) key keys k t refl one among (λ u among one. removed_hidden keys k u among one)

-- ---- the names

view_is_own : IsOwn (codes "bufferView")
unfolding chars
view_is_own = refl

count_is_own : IsOwn (codes "count")
unfolding chars
count_is_own = refl

component_is_own : IsOwn (codes "componentType")
unfolding chars
component_is_own = refl

-- ---- a column, and a list

-- after two members were set another one stands once, as before
once_after_two : (key j k : List ℕ) (v w t : PlainTree) → IsApart key j → IsOwn j → IsApart key k → IsOwn k → HasOnce key t → HasOnce key (with_member j v (with_member k w t))
once_after_two key j k v w t a own b also one = once_set key j v (with_member k w t) a own (once_set key k w t b also one)

pub column_hidden : (view : ℕ) (m : Moved) (t : PlainTree) → HasDistinctKeys t → without_each written_on_column (moved_column view m t) ≡ without_each written_on_column t
column_hidden view m t h =
    let keys = written_on_column in
    let u = with_member (codes "bufferView") (whole_number view) t in
    let w = with_member (codes "count") (whole_number (length m.records)) u in
    let one : (key : List ℕ) → bytes_eq (codes "count") key ≡ false → bytes_eq (codes "bufferView") key ≡ false → HasOnce key w =
    (λ key a b. once_after_two key (codes "count") (codes "bufferView") (whole_number (length m.records)) (whole_number view) t
    (names_apart key (codes "count") a) count_is_own (names_apart key (codes "bufferView") b) view_is_own (once key t h)) in
    removed_hidden keys (codes "sparse") (without (codes "byteOffset") w) refl (once_removed (codes "sparse") (codes "byteOffset") w (names_apart (codes "sparse") (codes "byteOffset") refl) (one (codes "sparse") refl refl))
    ∙ removed_hidden keys (codes "byteOffset") w refl (one (codes "byteOffset") refl refl)
    ∙ set_hidden keys (codes "count") (whole_number (length m.records)) u refl count_is_own
    ∙ set_hidden keys (codes "bufferView") (whole_number view) t refl view_is_own

pub list_hidden : (view : ℕ) (m : Moved) (t : PlainTree) → HasDistinctKeys t → without_each written_on_list (moved_list view m t) ≡ without_each written_on_list t
list_hidden view m t h =
    let keys = written_on_list in
    let u = with_member (codes "bufferView") (whole_number view) t in
    let w = with_member (codes "componentType") (whole_number (list_component m)) u in
    let one : (key : List ℕ) → bytes_eq (codes "componentType") key ≡ false → bytes_eq (codes "bufferView") key ≡ false → HasOnce key w =
    (λ key a b. once_after_two key (codes "componentType") (codes "bufferView") (whole_number (list_component m)) (whole_number view) t
    (names_apart key (codes "componentType") a) component_is_own (names_apart key (codes "bufferView") b) view_is_own (once key t h)) in
    let x = without (codes "byteOffset") w in
    let y = without (codes "min") x in
    let z = without (codes "max") y in
    let in_x : (key : List ℕ) → bytes_eq (codes "byteOffset") key ≡ false → HasOnce key w → HasOnce key x = (λ key a. once_removed key (codes "byteOffset") w (names_apart key (codes "byteOffset") a)) in
    let in_y : (key : List ℕ) → bytes_eq (codes "min") key ≡ false → HasOnce key x → HasOnce key y = (λ key a. once_removed key (codes "min") x (names_apart key (codes "min") a)) in
    let in_z : (key : List ℕ) → bytes_eq (codes "max") key ≡ false → HasOnce key y → HasOnce key z = (λ key a. once_removed key (codes "max") y (names_apart key (codes "max") a)) in
    removed_hidden keys (codes "sparse") z refl (in_z (codes "sparse") refl (in_y (codes "sparse") refl (in_x (codes "sparse") refl (one (codes "sparse") refl refl))))
    ∙ removed_hidden keys (codes "max") y refl (in_y (codes "max") refl (in_x (codes "max") refl (one (codes "max") refl refl)))
    ∙ removed_hidden keys (codes "min") x refl (in_x (codes "min") refl (one (codes "min") refl refl))
    ∙ removed_hidden keys (codes "byteOffset") w refl (one (codes "byteOffset") refl refl)
    ∙ set_hidden keys (codes "componentType") (whole_number (list_component m)) u refl component_is_own
    ∙ set_hidden keys (codes "bufferView") (whole_number view) t refl view_is_own

-- ---- an accessor

by_hidden : (view : ℕ) (column list : Option Moved) (t : PlainTree) → HasDistinctKeys t → common_of column list (moved_by view column list t) ≡ common_of column list t
by_hidden view (Some m) list t h = column_hidden view m t h
by_hidden view None (Some m) t h = list_hidden view m t h
by_hidden view None None t h = refl

moved_hidden : (moved : List Moved) (a : AssetParts) (at : ℕ) (t : PlainTree) → HasDistinctKeys t → common_accessor moved at (moved_accessor moved a at t) ≡ common_accessor moved at t
moved_hidden moved a at t h =
    by_hidden (made_number moved a at) (group_with (λ (m : Moved). m.columns) moved at) (group_with (λ (m : Moved). m.lists) moved at) t h

-- what doesn't move is in no group
none_of : (b c : Bool) → (b || c) ≡ false → (b ≡ false) × (c ≡ false)
none_of true c e = absurd (cc)
none_of false c e = (refl, e)

abbrev InNone : (Moved → List ℕ) → List Moved → ℕ → Type 0
InNone part moved at = group_with part moved at ≡ None

still_in_none : (moved : List Moved) (at : ℕ) → is_moved moved at ≡ false → InNone (λ (m : Moved). m.columns) moved at × InNone (λ (m : Moved). m.lists) moved at
still_in_none [] at e = (refl, refl)
still_in_none (m ∷ moved) at e =
    let parts = none_of (is_number_in m.columns at || is_number_in m.lists at) (is_moved moved at) e in
    let own = none_of (is_number_in m.columns at) (is_number_in m.lists at) parts.0 in
    let rest = still_in_none moved at parts.1 in
    (rw own.0 rest.0, rw own.1 rest.1)

still_stays : (moved : List Moved) (a : AssetParts) (at : ℕ) (t : PlainTree) → is_moved moved at ≡ false → moved_accessor moved a at t ≡ t
still_stays moved a at t e =
    let none = still_in_none moved at e in
    ap (λ column. moved_by (made_number moved a at) column (group_with (λ (m : Moved). m.lists) moved at) t) none.0
    ∙ ap (λ list. moved_by (made_number moved a at) None list t) none.1

-- what moves keeps its references
not_both : (b c : Bool) → c ≡ true → (b && not c) ≡ false
not_both true c e = rw e refl
not_both false c e = refl

moved_references : (moved : List Moved) (a : AssetParts) (at : ℕ) (t : PlainTree) → is_moved moved at ≡ true → new_accessor_references moved a at t ≡ t
moved_references moved a at t e =
    ap (λ kept. if kept then at_member (codes "sparse") (new_sparse_references moved a) (new_view_reference moved a t) else t)
    (not_both (nat_lt at (length a.accessors)) (is_moved moved at) e)

pub accessor_hidden : (moved : List Moved) (a : AssetParts) (at : ℕ) (t : PlainTree) → HasDistinctKeys t
    → common_accessor moved at (new_accessor_references moved a at (moved_accessor moved a at t)) ≡ common_accessor moved at (new_accessor_references moved a at t)
accessor_hidden moved a at t h = by_case (is_moved moved at) refl
  where
    by_case : (b : Bool) → is_moved moved at ≡ b → common_accessor moved at (new_accessor_references moved a at (moved_accessor moved a at t)) ≡ common_accessor moved at (new_accessor_references moved a at t)
    by_case true e =
        ap (common_accessor moved at) (moved_references moved a at (moved_accessor moved a at t) e)
        ∙ moved_hidden moved a at t h
        ∙ ap (common_accessor moved at) (sym (moved_references moved a at t e))
    by_case false e = ap (λ u. common_accessor moved at (new_accessor_references moved a at u)) (still_stays moved a at t e)
