-- The accessors and images of an asset read back after the edits of groups that move.
use Rattle.std.specs.Prelude.{if◌then◌else◌, cond, codes, IfSome, ⊤, find, slice_get, option_map}
use Rattle.std.specs.List.{list_any, enumerate_from, filter_map, cons_option}
use Rattle.std.proofs.Common.{◌≡◌, ℕ, zero, suc, ◌+◌, ◌<◌, ◌≤◌, ◌^◌, Bool, true, false, not, ◌&&◌, ◌||◌, nat_lt, List, [], ◌∷◌, ◌++◌, length, length-append, map, Option, Some, None, Result, Ok, refl, sym, ap, ◌∙◌, subst, arith}
use Rattle.std.proofs.lemmas.Bool.{ltb-true, lt-ltb}
use Rattle.gp_tree.specs.Lexical.{Each}
use Rattle.gp_tree.specs.Plain.{PlainTree, PlainTrees, null, truth, number, text, list, members, no_items, item, trees_of}
use Rattle.gp_tree.specs.Sound.{HasDistinctKeys, ItemsHaveDistinctKeys}
use Rattle.gp_tree.specs.Find.{item_list, find_member}
use Rattle.gp_tree.specs.TreeEdits.{at_member, and_items}
use Rattle.gp_tree.proofs.Edited.{items_of}
use Rattle.gp_tree.proofs.Kept.{find_change, find_change_other}
use Rattle.gp_fields.specs.declared.fault.Place.TheVariants.{Accessors, Images}
use Rattle.gp_fields.specs.declared.fault.FieldFault.{FieldFault}
use Rattle.gp_fields.specs.Shapes.{Shaped, object_of}
use Rattle.gp_fields.specs.Fields.{AccessorFields, accessor_fields, image_fields}
use Rattle.gp_fields.specs.Record.{items_of_shape}
use Rattle.gp_edits.proofs.Emptied.{value_distinct}
use Rattle.gp_edits.proofs.FieldsBack.{apart}
use Rattle.gp_edits.proofs.ItemsBack.{AreRead, items_are_read, read_items, items_by, items_are}
use Rattle.gp_asset.specs.Asset.{AssetParts}
use Rattle.gp_unpack.proofs.EachItem.{each_of_all, each_found}
use Rattle.gp_sameness.specs.Moved.{Moved, is_number_in, is_moved, group_with}
use Rattle.gp_sameness.specs.Survivors.{renumbered}
use Rattle.gp_sameness.specs.References.{each_item, new_view_reference, new_accessor_references, with_new_references}
use Rattle.gp_sameness.specs.Common.{primitive_place}
use Rattle.gp_packed.specs.GroupEdits.{made_number, moved_by, moved_accessor, list_accessor, with_moved_accessors, with_list_accessors, with_all_indices, indexed_primitive}
use Rattle.gp_packed.specs.AccessorsBack.{ReadsBelow, IsRenumbered, AreRenumbered, new_number, fields_by, edited_fields, made_list_fields, list_fields, all_accessors_fields, with_groups_moved, GroupReads, NumbersRead, AccessorsReadBack, AccessorsAreCounted, ImagesReadBack, GroupsKeepOthers}
use Rattle.gp_packed.proofs.AccessorsRead.{column_again, list_again, made_read, made_list}
use Rattle.gp_packed.proofs.AccessorsKept.{renew_view, renew_accessor, accessor_again, image_again}

-- ---- the group that is found

found_step : {A : Type 0} (P : A → Type 0) (b : Bool) (test : A → Bool) (x : A) (xs : List A) (m : A) → P x → (find test xs ≡ Some m → P m)
    → cond b (Some x) (find test xs) ≡ Some m → P m
found_step P true test x xs m first rest e = let same : x ≡ m = cc in subst P same first
found_step P false test x xs m first rest e = rest e

-- it has what each has
pub found_has : {A : Type 0} (P : A → Type 0) (test : A → Bool) (xs : List A) (m : A) → Each P xs → find test xs ≡ Some m → P m
found_has P test [] m h e = absurd (cc)
found_has P test (x ∷ xs) m h e = found_step P (test x) test x xs m h.0 (found_has P test xs m h.1) e

or_right : (a b : Bool) → b ≡ true → (a || b) ≡ true
or_right true b h = refl
or_right false b h = h

any_step : {A : Type 0} (b : Bool) (test other : A → Bool) (x : A) (xs : List A) (m : A) → test x ≡ b → (test x ≡ true → other x ≡ true)
    → (find test xs ≡ Some m → list_any other xs ≡ true) → cond b (Some x) (find test xs) ≡ Some m → (other x || list_any other xs) ≡ true
any_step true test other x xs m n follows rest e = ap (λ c. c || list_any other xs) (follows n)
any_step false test other x xs m n follows rest e = or_right (other x) (list_any other xs) (rest e)

-- some one passes a test that follows
found_any : {A : Type 0} (test other : A → Bool) (xs : List A) (m : A) → ((x : A) → test x ≡ true → other x ≡ true) → find test xs ≡ Some m → list_any other xs ≡ true
found_any test other [] m follows e = absurd (cc)
found_any test other (x ∷ xs) m follows e = any_step (test x) test other x xs m refl (follows x) (found_any test other xs m follows) e

none_step : {A : Type 0} (b c : Bool) (p q : A → Bool) (x : A) (xs : List A) → (find p xs ≡ None → find q xs ≡ None → list_any (λ y. p y || q y) xs ≡ false)
    → cond b (Some x) (find p xs) ≡ None → cond c (Some x) (find q xs) ≡ None → ((b || c) || list_any (λ y. p y || q y) xs) ≡ false
none_step true c p q x xs rest e g = absurd (cc)
none_step false true p q x xs rest e g = absurd (cc)
none_step false false p q x xs rest e g = rest e g

-- none passes either of two tests
none_any : {A : Type 0} (p q : A → Bool) (xs : List A) → find p xs ≡ None → find q xs ≡ None → list_any (λ y. p y || q y) xs ≡ false
none_any p q [] e g = refl
none_any p q (x ∷ xs) e g = none_step (p x) (q x) p q x xs (none_any p q xs) e g

column_moves : (moved : List Moved) (at : ℕ) (m : Moved) → group_with (λ (x : Moved). x.columns) moved at ≡ Some m → is_moved moved at ≡ true
column_moves moved at m e =
    found_any (λ (x : Moved). is_number_in x.columns at) (λ (x : Moved). is_number_in x.columns at || is_number_in x.lists at) moved m
    (λ x h. ap (λ b. b || is_number_in x.lists at) h) e

list_moves : (moved : List Moved) (at : ℕ) (m : Moved) → group_with (λ (x : Moved). x.lists) moved at ≡ Some m → is_moved moved at ≡ true
list_moves moved at m e =
    found_any (λ (x : Moved). is_number_in x.lists at) (λ (x : Moved). is_number_in x.columns at || is_number_in x.lists at) moved m
    (λ x h. or_right (is_number_in x.columns at) (is_number_in x.lists at) h) e

pub neither_moves : (moved : List Moved) (at : ℕ) → group_with (λ (x : Moved). x.columns) moved at ≡ None → group_with (λ (x : Moved). x.lists) moved at ≡ None → is_moved moved at ≡ false
neither_moves moved at e g = none_any (λ (x : Moved). is_number_in x.columns at) (λ (x : Moved). is_number_in x.lists at) moved e g

-- ---- references of an accessor that moves, or that is made, stay

unkept : (b c : Bool) → c ≡ true → (b && not c) ≡ false
unkept true c h = ap not h
unkept false c h = refl

moved_stays : (moved : List Moved) (a : AssetParts) (at : ℕ) (t : PlainTree) → is_moved moved at ≡ true → new_accessor_references moved a at t ≡ t
moved_stays moved a at t h =
    ap (λ b. if b then renew_accessor (renumbered moved a) t else t) (unkept (nat_lt at (length a.accessors)) (is_moved moved at) h)

past_by : (b : Bool) (at size : ℕ) (c : Bool) → nat_lt at size ≡ b → size ≤ at → (b && c) ≡ false
past_by true at size c n h = let low : at < size = ltb-true at size n in absurd (omega (arith, low, h))
past_by false at size c n h = refl

past_stays : (moved : List Moved) (a : AssetParts) (at : ℕ) (t : PlainTree) → length a.accessors ≤ at → new_accessor_references moved a at t ≡ t
past_stays moved a at t h =
    ap (λ b. if b then renew_accessor (renumbered moved a) t else t) (past_by (nat_lt at (length a.accessors)) at (length a.accessors) (not (is_moved moved at)) refl h)

kept_changes : (moved : List Moved) (a : AssetParts) (at : ℕ) (t : PlainTree) → at < length a.accessors → is_moved moved at ≡ false
    → new_accessor_references moved a at t ≡ renew_accessor (renumbered moved a) t
kept_changes moved a at t within h =
    ap (λ b. if b && not (is_moved moved at) then renew_accessor (renumbered moved a) t else t) (lt-ltb at (length a.accessors) within)
    ∙ ap (λ c. if not c then renew_accessor (renumbered moved a) t else t) h

-- ---- one accessor of the input

-- what it needs
record ItemReads (moved : List Moved) (a : AssetParts) (others at : ℕ) (f : AccessorFields) : Type 0 where
  within : at < length a.accessors
  groups : Each (GroupReads moved a others) moved
  made : is_moved moved at ≡ true → ReadsBelow others (made_number moved a at)
  kept : is_moved moved at ≡ false → AreRenumbered (renumbered moved a) others f

item_by : (moved : List Moved) (a : AssetParts) (views others at : ℕ) (column vertex_list : Option Moved) (t : PlainTree) (f : AccessorFields)
    → group_with (λ (x : Moved). x.columns) moved at ≡ column → group_with (λ (x : Moved). x.lists) moved at ≡ vertex_list
    → HasDistinctKeys t → object_of (accessor_fields views) t ≡ Some f → ItemReads moved a others at f
    → object_of (accessor_fields others) (new_accessor_references moved a at (moved_by (made_number moved a at) column vertex_list t))
    ≡ Some (fields_by (renumbered moved a) (made_number moved a at) column vertex_list f)
item_by moved a views others at (Some m) vertex_list t f c l keys e h =
    let moves = column_moves moved at m c in
    let number = made_number moved a at in
    let group : GroupReads moved a others m = found_has (GroupReads moved a others) (λ (x : Moved). is_number_in x.columns at) moved m h.groups c in
    ap (object_of (accessor_fields others)) (moved_stays moved a at (moved_by number (Some m) vertex_list t) moves)
    ∙ column_again views others number m t f keys e (h.made moves) group.records
item_by moved a views others at None (Some m) t f c l keys e h =
    let moves = list_moves moved at m l in
    let number = made_number moved a at in
    ap (object_of (accessor_fields others)) (moved_stays moved a at (moved_by number None (Some m) t) moves)
    ∙ list_again views others number m t f keys e (h.made moves)
item_by moved a views others at None None t f c l keys e h =
    let stays = neither_moves moved at c l in
    ap (object_of (accessor_fields others)) (kept_changes moved a at t h.within stays) ∙ accessor_again (renumbered moved a) views others t f e (h.kept stays)

abbrev edited : List Moved → AssetParts → ℕ → PlainTree → PlainTree
edited moved a at t = new_accessor_references moved a at (moved_accessor moved a at t)

item_again : (moved : List Moved) (a : AssetParts) (views others at : ℕ) (t : PlainTree) (f : AccessorFields)
    → HasDistinctKeys t → object_of (accessor_fields views) t ≡ Some f → ItemReads moved a others at f
    → object_of (accessor_fields others) (edited moved a at t) ≡ Some (edited_fields moved a at f)
item_again moved a views others at t f keys e h =
    item_by moved a views others at (group_with (λ (x : Moved). x.columns) moved at) (group_with (λ (x : Moved). x.lists) moved at) t f refl refl keys e h

-- ---- lists of items

abbrev by_number : {A B : Type 0} → (ℕ → A → B) → ℕ → List A → List B
by_number {A} f n xs = map (λ (p : ℕ × A). f p.0 p.1) (enumerate_from n xs)

-- where each item reads after its change, so does the list
each_read : {A B : Type 0} (P : PlainTree → Type 0) (before : Shaped A) (after : Shaped B) (change : ℕ → PlainTree → PlainTree) (edit : ℕ → A → B) (n : ℕ) (ts : List PlainTree) (fs : List A)
    → Each P ts → AreRead before ts fs
    → ((at i : ℕ) (t : PlainTree) (f : A) → at ≡ n + i → slice_get fs i ≡ Some f → P t → before t ≡ Some f → after (change at t) ≡ Some (edit at f))
    → AreRead after (by_number change n ts) (by_number edit n fs)
each_read P before after change edit n [] [] each h one = tt
each_read P before after change edit n [] (f ∷ fs) each h one = absurd h
each_read P before after change edit n (t ∷ ts) [] each h one = absurd h
each_read P before after change edit n (t ∷ ts) (f ∷ fs) each h one = (
  one n 0 t f (omega arith) refl each.0 h.0,
  each_read P before after change edit (n + 1) ts fs each.1 h.1
      (λ at i u g number found has read. one at (suc i) u g (omega (arith, number)) found has read),
)

read_append : {A : Type 0} (shape : Shaped A) (ts us : List PlainTree) (fs gs : List A) → AreRead shape ts fs → AreRead shape us gs → AreRead shape (ts ++ us) (fs ++ gs)
read_append shape [] us [] gs h k = k
read_append shape [] us (f ∷ fs) gs h k = absurd h
read_append shape (t ∷ ts) us [] gs h k = absurd h
read_append shape (t ∷ ts) us (f ∷ fs) gs h k = (h.0, read_append shape ts us fs gs h.1 k)

read_length : {A : Type 0} (shape : Shaped A) (ts : List PlainTree) (fs : List A) → AreRead shape ts fs → length ts ≡ length fs
read_length shape [] [] h = refl
read_length shape [] (f ∷ fs) h = absurd h
read_length shape (t ∷ ts) [] h = absurd h
read_length shape (t ∷ ts) (f ∷ fs) h = ap suc (read_length shape ts fs h.1)

each_distinct : (ts : PlainTrees) → ItemsHaveDistinctKeys ts → Each HasDistinctKeys (item_list ts)
each_distinct no_items h = tt
each_distinct (item t ts) h = (h.0, each_distinct ts h.1)

-- two changes of each item, with more items put behind between them
both_changes : (first second : ℕ → PlainTree → PlainTree) (n : ℕ) (ts more : List PlainTree)
    → by_number second n (by_number first n ts ++ more) ≡ by_number (λ at t. second at (first at t)) n ts ++ by_number second (n + length ts) more
both_changes first second n [] more = ap (λ k. by_number second k more) (omega arith)
both_changes first second n (t ∷ ts) more =
    ap (λ l. second n (first n t) ∷ l) (both_changes first second (n + 1) ts more
    ∙ ap (λ k. by_number (λ at t. second at (first at t)) (n + 1) ts ++ by_number second k more) (omega arith))

past_all_stay : (moved : List Moved) (a : AssetParts) (n : ℕ) (more : List PlainTree) → length a.accessors ≤ n → by_number (new_accessor_references moved a) n more ≡ more
past_all_stay moved a n [] h = refl
past_all_stay moved a n (t ∷ more) h =
    ap (λ l. new_accessor_references moved a n t ∷ l) (past_all_stay moved a (n + 1) more (omega (arith, h))) ∙ ap (λ x. x ∷ more) (past_stays moved a n t h)

-- ---- those made

made_step : (moved : List Moved) (a : AssetParts) (others : ℕ) (m : Moved) (number : Option ℕ) (ts : List PlainTree) (fs : List AccessorFields)
    → IfSome number (λ at. ReadsBelow others (made_number moved a at)) → m.count < 2 ^ 32 → AreRead (object_of (accessor_fields others)) ts fs
    → AreRead (object_of (accessor_fields others))
    (cons_option (elim number as (λ x. Option PlainTree) [ None ↦ None | Some at ↦ Some (made_list (made_number moved a at) m) ]) ts)
    (cons_option (option_map (λ at. made_list_fields (made_number moved a at) m) number) fs)
made_step moved a others m None ts fs h small rest = rest
made_step moved a others m (Some at) ts fs h small rest = (made_read others (made_number moved a at) m h small, rest)

pub all_made : (moved : List Moved) (a : AssetParts) (others : ℕ) (ms : List Moved) → Each (GroupReads moved a others) ms
    → AreRead (object_of (accessor_fields others)) (filter_map (list_accessor moved a) ms) (filter_map (list_fields moved a) ms)
all_made moved a others [] h = tt
all_made moved a others (m ∷ ms) h =
    made_step moved a others m m.list_accessor (filter_map (list_accessor moved a) ms) (filter_map (list_fields moved a) ms) h.0.made h.0.count (all_made moved a others ms h.1)

-- ---- all accessors

-- what the edits make of the items of the list
list_after : List Moved → AssetParts → List PlainTree → List PlainTree
list_after moved a ts = by_number (edited moved a) 0 ts ++ filter_map (list_accessor moved a) moved

list_is : (moved : List Moved) (a : AssetParts) (ts : List PlainTree) → length ts ≡ length a.accessors
    → by_number (new_accessor_references moved a) 0 (item_list (trees_of (item_list (trees_of (by_number (moved_accessor moved a) 0 ts)) ++ filter_map (list_accessor moved a) moved)))
    ≡ list_after moved a ts
unfolding list_after
list_is moved a ts size =
    let first = by_number (moved_accessor moved a) 0 ts in
    let more = filter_map (list_accessor moved a) moved in
    let references = new_accessor_references moved a in
    ap (by_number references 0) (items_of (item_list (trees_of first) ++ more))
    ∙ ap (λ l. by_number references 0 (l ++ more)) (items_of first)
    ∙ both_changes (moved_accessor moved a) references 0 ts more
    ∙ ap (λ l. by_number (edited moved a) 0 ts ++ l) (past_all_stay moved a (0 + length ts) more (omega (arith, size)))

place_within : {A : Type 0} (xs : List A) (i : ℕ) (x : A) → slice_get xs i ≡ Some x → i < length xs
place_within [] i x e = absurd (cc)
place_within (y ∷ xs) zero x e = omega arith
place_within (y ∷ xs) (suc i) x e = let within = place_within xs i x e in omega (arith, within)

list_reads : (moved : List Moved) (a : AssetParts) (views others : ℕ) (ts : List PlainTree) (fs : List AccessorFields)
    → Each HasDistinctKeys ts → AreRead (object_of (accessor_fields views)) ts fs → length fs ≡ length a.accessors → NumbersRead moved a others fs
    → AreRead (object_of (accessor_fields others)) (list_after moved a ts) (all_accessors_fields moved a fs)
unfolding list_after
list_reads moved a views others ts fs keys h size numbers =
    let groups = each_of_all (GroupReads moved a others) moved numbers.groups in
    read_append (object_of (accessor_fields others)) (by_number (edited moved a) 0 ts) (filter_map (list_accessor moved a) moved) (by_number (edited_fields moved a) 0 fs) (filter_map (list_fields moved a) moved)
    (each_read HasDistinctKeys (object_of (accessor_fields views)) (object_of (accessor_fields others)) (edited moved a) (edited_fields moved a) 0 ts fs keys h (λ at i t f number found distinct read.
    let same : i ≡ at = omega (arith, number) in
    let here : slice_get fs at ≡ Some f = subst (λ k. slice_get fs k ≡ Some f) same found in
    let within : at < length fs = place_within fs at f here in
    item_again moved a views others at t f distinct read (record {
      within = omega (arith, within, size);
      groups = groups;
      made = numbers.made at within;
      kept = numbers.kept at f here;
    })))
    (all_made moved a others moved groups)

-- the member, after one edit, then another, then another
abbrev member_after : List Moved → AssetParts → Option PlainTree → Option PlainTree
member_after moved a found =
    option_map (each_item (new_accessor_references moved a)) (option_map (and_items (filter_map (list_accessor moved a) moved)) (option_map (each_item (moved_accessor moved a)) found))

none_moved : (moved : List Moved) (a : AssetParts) (fs : List AccessorFields) → fs ≡ [] → (0 < length moved → 0 < length fs) → all_accessors_fields moved a fs ≡ []
none_moved [] a [] e some = refl
none_moved (m ∷ moved) a [] e some = let none : 0 < 0 = some (omega arith) in absurd (omega (arith, none))
none_moved moved a (f ∷ fs) e some = absurd (cc)

found_reads : (moved : List Moved) (a : AssetParts) (views others : ℕ) (found : Option PlainTree) (fs : List AccessorFields)
    → IfSome found HasDistinctKeys → items_by Accessors (object_of (accessor_fields views)) found ≡ Ok fs
    → length fs ≡ length a.accessors → (0 < length moved → 0 < length fs) → NumbersRead moved a others fs
    → items_by Accessors (object_of (accessor_fields others)) (member_after moved a found) ≡ Ok (all_accessors_fields moved a fs)
found_reads moved a views others None fs keys h size some numbers =
    let h' : ◌≡◌ {A = Result (List AccessorFields) FieldFault} (Ok []) (Ok fs) = h in
    let empty : [] ≡ fs = cc in
    ap Ok (sym (none_moved moved a fs (sym empty) some))
found_reads moved a views others (Some null) fs keys h size some numbers = absurd (cc)
found_reads moved a views others (Some (truth b)) fs keys h size some numbers = absurd (cc)
found_reads moved a views others (Some (number s)) fs keys h size some numbers = absurd (cc)
found_reads moved a views others (Some (text s)) fs keys h size some numbers = absurd (cc)
found_reads moved a views others (Some (members ms)) fs keys h size some numbers = absurd (cc)
found_reads moved a views others (Some (list ts)) fs keys h size some numbers =
    let items = item_list ts in
    let read = items_are_read Accessors (object_of (accessor_fields views)) ts fs h in
    let count = read_length (object_of (accessor_fields views)) items fs read ∙ size in
    ap (λ l. items_of_shape Accessors (object_of (accessor_fields others)) (list (trees_of l))) (list_is moved a items count)
    ∙ read_items Accessors (object_of (accessor_fields others)) (list_after moved a items) (all_accessors_fields moved a fs)
    (list_reads moved a views others items fs (each_distinct ts keys) read size numbers)

-- ---- the root

abbrev indexed_mesh : List Moved → AssetParts → ℕ → PlainTree → PlainTree
indexed_mesh moved a mesh = at_member (codes "primitives") (each_item (λ at. indexed_primitive moved (primitive_place a mesh at)))

pub accessors_found : (moved : List Moved) (a : AssetParts) (root : PlainTree) → find_member (codes "accessors") (with_groups_moved moved a root) ≡ member_after moved a (find_member (codes "accessors") root)
unfolding with_moved_accessors with_list_accessors with_all_indices with_new_references
accessors_found moved a root =
    let name = codes "accessors" in
    let first = each_item (moved_accessor moved a) in
    let second = and_items (filter_map (list_accessor moved a) moved) in
    let third = each_item (new_accessor_references moved a) in
    let moved_root = at_member name first root in
    let listed = at_member name second moved_root in
    let indexed = at_member (codes "meshes") (each_item (indexed_mesh moved a)) listed in
    find_change_other name (codes "images") (each_item (λ at. new_view_reference moved a)) (at_member name third indexed) (apart _ _ refl)
    ∙ find_change name third indexed
    ∙ ap (option_map third) (find_change_other name (codes "meshes") (each_item (indexed_mesh moved a)) listed (apart _ _ refl)
    ∙ find_change name second moved_root
    ∙ ap (option_map second) (find_change name first root))

value_keys : (name : List ℕ) (t : PlainTree) (found : Option PlainTree) → find_member name t ≡ found → HasDistinctKeys t → IfSome found HasDistinctKeys
value_keys name t None e h = tt
value_keys name t (Some v) e h = value_distinct name v t h e

pub accessors_again : AccessorsReadBack
accessors_again moved a views others root fs keys h size some numbers =
    let name = codes "accessors" in
    let found = find_member name root in
    items_are Accessors name (object_of (accessor_fields others)) (with_groups_moved moved a root) (member_after moved a found) (accessors_found moved a root)
    ∙ found_reads moved a views others found fs (value_keys name root found refl keys) (sym (items_are Accessors name (object_of (accessor_fields views)) root found refl) ∙ h) size some numbers

-- ---- images

pub images_found : (moved : List Moved) (a : AssetParts) (root : PlainTree)
    → find_member (codes "images") (with_groups_moved moved a root) ≡ option_map (each_item (λ at. new_view_reference moved a)) (find_member (codes "images") root)
unfolding with_moved_accessors with_list_accessors with_all_indices with_new_references
images_found moved a root =
    let name = codes "images" in
    let key = codes "accessors" in
    let first = each_item (moved_accessor moved a) in
    let second = and_items (filter_map (list_accessor moved a) moved) in
    let third = each_item (new_accessor_references moved a) in
    let last = each_item (λ at. new_view_reference moved a) in
    let moved_root = at_member key first root in
    let listed = at_member key second moved_root in
    let indexed = at_member (codes "meshes") (each_item (indexed_mesh moved a)) listed in
    find_change name last (at_member key third indexed)
    ∙ ap (option_map last) (find_change_other name key third indexed (apart _ _ refl)
    ∙ find_change_other name (codes "meshes") (each_item (indexed_mesh moved a)) listed (apart _ _ refl)
    ∙ find_change_other name key second moved_root (apart _ _ refl)
    ∙ find_change_other name key first root (apart _ _ refl))

each_without_number : {A B : Type 0} (f : A → B) (n : ℕ) (xs : List A) → by_number (λ at x. f x) n xs ≡ map f xs
each_without_number f n [] = refl
each_without_number f n (x ∷ xs) = ap (λ l. f x ∷ l) (each_without_number f (n + 1) xs)

any_tree : (ts : List PlainTree) → Each (λ t. ⊤) ts
any_tree [] = tt
any_tree (t ∷ ts) = (tt, any_tree ts)

image_list : (renumber : ℕ → Option ℕ) (views others : ℕ) (ts : List PlainTree) (images : List (Option ℕ))
    → AreRead (object_of (image_fields views)) ts images → Each (λ view. IfSome view (IsRenumbered renumber others)) images
    → AreRead (object_of (image_fields others)) (by_number (λ at. renew_view renumber) 0 ts) (map (option_map (new_number renumber)) images)
image_list renumber views others ts images h numbers =
    subst (AreRead (object_of (image_fields others)) (by_number (λ at. renew_view renumber) 0 ts)) (each_without_number (option_map (new_number renumber)) 0 images)
    (each_read (λ t. ⊤) (object_of (image_fields views)) (object_of (image_fields others)) (λ at. renew_view renumber) (λ at. option_map (new_number renumber)) 0 ts images (any_tree ts) h
    (λ at i t view number found any read. image_again renumber views others t view read (each_found (λ v. IfSome v (IsRenumbered renumber others)) images i view numbers found)))

images_read : (moved : List Moved) (a : AssetParts) (views others : ℕ) (found : Option PlainTree) (images : List (Option ℕ))
    → items_by Images (object_of (image_fields views)) found ≡ Ok images → Each (λ view. IfSome view (IsRenumbered (renumbered moved a) others)) images
    → items_by Images (object_of (image_fields others)) (option_map (each_item (λ at. new_view_reference moved a)) found) ≡ Ok (map (option_map (new_number (renumbered moved a))) images)
images_read moved a views others None images h numbers =
    let h' : ◌≡◌ {A = Result (List (Option ℕ)) FieldFault} (Ok []) (Ok images) = h in
    let empty : [] ≡ images = cc in
    ap (λ l. Ok (map (option_map (new_number (renumbered moved a))) l)) empty
images_read moved a views others (Some null) images h numbers = absurd (cc)
images_read moved a views others (Some (truth b)) images h numbers = absurd (cc)
images_read moved a views others (Some (number s)) images h numbers = absurd (cc)
images_read moved a views others (Some (text s)) images h numbers = absurd (cc)
images_read moved a views others (Some (members ms)) images h numbers = absurd (cc)
images_read moved a views others (Some (list ts)) images h numbers =
    let items = item_list ts in
    read_items Images (object_of (image_fields others)) (by_number (λ at. new_view_reference moved a) 0 items) (map (option_map (new_number (renumbered moved a))) images)
    (image_list (renumbered moved a) views others items images (items_are_read Images (object_of (image_fields views)) ts images h) numbers)

pub images_again : ImagesReadBack
images_again moved a views others root images h numbers =
    let name = codes "images" in
    let found = find_member name root in
    items_are Images name (object_of (image_fields others)) (with_groups_moved moved a root) (option_map (each_item (λ at. new_view_reference moved a)) found) (images_found moved a root)
    ∙ images_read moved a views others found images (sym (items_are Images name (object_of (image_fields views)) root found refl) ∙ h)
    (each_of_all (λ view. IfSome view (IsRenumbered (renumbered moved a) others)) images numbers)

-- ---- counts, and the other members

numbered_count : {A B : Type 0} (f : ℕ → A → B) (n : ℕ) (xs : List A) → length (by_number f n xs) ≡ length xs
numbered_count f n [] = refl
numbered_count f n (x ∷ xs) = ap suc (numbered_count f (n + 1) xs)

made_count_step : (moved : List Moved) (a : AssetParts) (m : Moved) (number : Option ℕ) (fs : List AccessorFields) (numbers : List ℕ) → length fs ≡ length numbers
    → length (cons_option (option_map (λ at. made_list_fields (made_number moved a at) m) number) fs) ≡ length (cons_option number numbers)
made_count_step moved a m None fs numbers e = e
made_count_step moved a m (Some at) fs numbers e = ap suc e

made_count : (moved : List Moved) (a : AssetParts) (ms : List Moved) → length (filter_map (list_fields moved a) ms) ≡ length (filter_map (λ (m : Moved). m.list_accessor) ms)
made_count moved a [] = refl
made_count moved a (m ∷ ms) = made_count_step moved a m m.list_accessor (filter_map (list_fields moved a) ms) (filter_map (λ (x : Moved). x.list_accessor) ms) (made_count moved a ms)

pub accessors_counted : AccessorsAreCounted
accessors_counted moved a fs =
    let input = by_number (edited_fields moved a) 0 fs in
    let made = filter_map (list_fields moved a) moved in
    let both = length-append input made in
    omega (arith, both, numbered_count (edited_fields moved a) 0 fs, made_count moved a moved)

pub others_kept : GroupsKeepOthers
unfolding with_moved_accessors with_list_accessors with_all_indices with_new_references
others_kept moved a name root accessors meshes images =
    let key = codes "accessors" in
    let first = each_item (moved_accessor moved a) in
    let second = and_items (filter_map (list_accessor moved a) moved) in
    let third = each_item (new_accessor_references moved a) in
    let moved_root = at_member key first root in
    let listed = at_member key second moved_root in
    let indexed = at_member (codes "meshes") (each_item (indexed_mesh moved a)) listed in
    find_change_other name (codes "images") (each_item (λ at. new_view_reference moved a)) (at_member key third indexed) images
    ∙ find_change_other name key third indexed accessors
    ∙ find_change_other name (codes "meshes") (each_item (indexed_mesh moved a)) listed meshes
    ∙ find_change_other name key second moved_root accessors
    ∙ find_change_other name key first root accessors
