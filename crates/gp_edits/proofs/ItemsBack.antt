-- Lists of items that all have a shape, before and after edits.
use Rattle.std.specs.Prelude.{is_none, filter}
use Rattle.std.proofs.Common.{◌≡◌, ℕ, suc, ◌+◌, ◌<◌, ◌^◌, Bool, true, false, cond, List, [], ◌∷◌, length, Option, Some, None, Result, Ok, refl, sym, ap, ◌∙◌, subst, arith}
use Rattle.std.specs.List.{filter_map, cons_option, position, position_from}
use Rattle.std.proofs.lemmas.Iterator.Adapters.{position_from-zero}
use Rattle.gp_tree.specs.Plain.{PlainTree, PlainTrees, null, truth, number, text, list, members, no_items, item, trees_of}
use Rattle.gp_tree.specs.Sound.{HasDistinctKeys, ItemsHaveDistinctKeys}
use Rattle.gp_tree.specs.Find.{item_list, find_member}
use Rattle.gp_tree.proofs.Edited.{items_of}
use Rattle.gp_fields.specs.declared.fault.Place.{Place}
use Rattle.gp_fields.specs.declared.fault.Place.TheVariants.{BufferViews}
use Rattle.gp_fields.specs.declared.fault.FieldFault.{FieldFault}
use Rattle.gp_fields.specs.Shapes.{Shaped, object_of}
use Rattle.gp_fields.specs.Fields.{ViewFields, view_fields}
use Rattle.gp_fields.specs.Record.{unless, lacks, items_of_shape, items_of_member}
use Rattle.gp_edits.specs.Changes.{change_each}
use Rattle.gp_edits.specs.Edits.{placed, without_compression}
use Rattle.gp_edits.specs.ReadingBack.{plain_views_fields, with_views_at, FitsEach}
use Rattle.gp_edits.proofs.ViewsBack.{plain_again}

-- ---- items, one by one

-- each item is read as the value at its place
abbrev pub AreRead : {A : Type 0} → Shaped A → List PlainTree → List A → Type 0
AreRead shape [] [] = Unit {0}
AreRead shape [] (a ∷ values) = ⊥
AreRead shape (t ∷ ts) [] = ⊥
AreRead shape (t ∷ ts) (a ∷ values) = (shape t ≡ Some a) × AreRead shape ts values

read_step : {A : Type 0} (place : Place) (shape : Shaped A) (k : ℕ) (t : PlainTree) (ts : List PlainTree) (xs values : List A) (o : Option A) (p : Option ℕ) → shape t ≡ o
    → (unless place xs p ≡ Ok xs → AreRead shape ts xs) → unless place (cons_option o xs) (cond (is_none o) (Some k) p) ≡ Ok values → AreRead shape (t ∷ ts) values
read_step place shape k t ts xs values None p e more h = absurd (cc)
read_step place shape k t ts xs values (Some a) (Some at) e more h = absurd (cc)
read_step {A} place shape k t ts xs values (Some a) None e more h =
    let h' : ◌≡◌ {A = Result (List A) FieldFault} (Ok (a ∷ xs)) (Ok values) = h in
    let same : a ∷ xs ≡ values = cc in
    subst (AreRead shape (t ∷ ts)) same (e, more refl)

are_read : {A : Type 0} (place : Place) (shape : Shaped A) (k : ℕ) (ts : List PlainTree) (values : List A) → unless place (filter_map shape ts) (position_from (lacks shape) k ts) ≡ Ok values → AreRead shape ts values
are_read {A} place shape k [] values h =
    let h' : ◌≡◌ {A = Result (List A) FieldFault} (Ok []) (Ok values) = h in
    let same : [] ≡ values = cc in
    subst (AreRead shape []) same tt
are_read place shape k (t ∷ ts) values h =
    read_step place shape k t ts (filter_map shape ts) values (shape t) (position_from (lacks shape) (k + 1) ts) refl (λ e. are_read place shape (k + 1) ts (filter_map shape ts) e) h

pub items_are_read : {A : Type 0} (place : Place) (shape : Shaped A) (ts : PlainTrees) (values : List A) → items_of_shape place shape (list ts) ≡ Ok values → AreRead shape (item_list ts) values
items_are_read place shape ts values h =
    let l = item_list ts in
    are_read place shape 0 l values (sym (ap (unless place (filter_map shape l)) (position_from-zero (lacks shape) l)) ∙ h)

all_kept : {A : Type 0} (shape : Shaped A) (ts : List PlainTree) (values : List A) → AreRead shape ts values → filter_map shape ts ≡ values
all_kept shape [] [] h = refl
all_kept shape [] (a ∷ values) h = absurd h
all_kept shape (t ∷ ts) [] h = absurd h
all_kept shape (t ∷ ts) (a ∷ values) h = ap (λ o. cons_option o (filter_map shape ts)) h.0 ∙ ap (λ xs. a ∷ xs) (all_kept shape ts values h.1)

none_lacks : {A : Type 0} (shape : Shaped A) (k : ℕ) (ts : List PlainTree) (values : List A) → AreRead shape ts values → position_from (lacks shape) k ts ≡ None
none_lacks shape k [] [] h = refl
none_lacks shape k [] (a ∷ values) h = absurd h
none_lacks shape k (t ∷ ts) [] h = absurd h
none_lacks shape k (t ∷ ts) (a ∷ values) h = ap (λ o. cond (is_none o) (Some k) (position_from (lacks shape) (k + 1) ts)) h.0 ∙ none_lacks shape (k + 1) ts values h.1

pub read_items : {A : Type 0} (place : Place) (shape : Shaped A) (ts : List PlainTree) (values : List A) → AreRead shape ts values → items_of_shape place shape (list (trees_of ts)) ≡ Ok values
read_items place shape ts values h =
    ap (λ l. unless place (filter_map shape l) (position (lacks shape) l)) (items_of ts)
    ∙ ap (unless place (filter_map shape ts)) (position_from-zero (lacks shape) ts ∙ none_lacks shape 0 ts values h)
    ∙ ap Ok (all_kept shape ts values h)

-- ---- some of the items

abbrev pub HasRead : {A : Type 0} → Shaped A → List PlainTree → Type 0
HasRead {A} shape ts = (values : List A) × AreRead shape ts values

some_step : {A : Type 0} (b : Bool) (shape : Shaped A) (t : PlainTree) (ts : List PlainTree) (a : A) → shape t ≡ Some a → HasRead shape ts → HasRead shape (cond b (t ∷ ts) ts)
some_step true shape t ts a e h = (a ∷ h.0, (e, h.1))
some_step false shape t ts a e h = h

pub some_read : {A : Type 0} (keep : PlainTree → Bool) (shape : Shaped A) (ts : List PlainTree) (values : List A) → AreRead shape ts values → HasRead shape (filter keep ts)
some_read keep shape [] [] h = ([], tt)
some_read keep shape [] (a ∷ values) h = absurd h
some_read keep shape (t ∷ ts) [] h = absurd h
some_read keep shape (t ∷ ts) (a ∷ values) h = some_step (keep t) shape t (filter keep ts) a h.0 (some_read keep shape ts values h.1)

-- ---- views at their places

each_view : (n m : ℕ) (offsets : List ℕ) (ts : PlainTrees) (fs : List ViewFields) → ItemsHaveDistinctKeys ts → AreRead (object_of (view_fields n)) (item_list ts) fs → length offsets ≡ length fs → (0 < length fs → 0 < m) → FitsEach offsets
    → AreRead (object_of (view_fields m)) (change_each (λ offset v. placed 0 offset (without_compression v)) offsets (item_list ts)) (plain_views_fields offsets fs)
each_view n m [] no_items [] keys h e some low = tt
each_view n m [] no_items (f ∷ fs) keys h e some low = absurd h
each_view n m [] (item t ts) [] keys h e some low = absurd h
each_view n m [] (item t ts) (f ∷ fs) keys h e some low = absurd (omega (arith, e))
each_view n m (o ∷ offsets) no_items [] keys h e some low = absurd (omega (arith, e))
each_view n m (o ∷ offsets) no_items (f ∷ fs) keys h e some low = absurd h
each_view n m (o ∷ offsets) (item t ts) [] keys h e some low = absurd h
each_view n m (o ∷ offsets) (item t ts) (f ∷ fs) keys h e some low =
    let here : o < 2 ^ 32 = low 0 o (omega arith) in
    let any : 0 < m = some (omega arith) in (
      plain_again n m o t f keys.0 h.0 any here,
      each_view n m offsets ts fs keys.1 h.1 (omega (arith, e)) (λ _. any) (λ k d within. low (suc k) d (omega (arith, within))),
    )

pub views_again : (n m : ℕ) (offsets : List ℕ) (views : PlainTree) (fs : List ViewFields) → HasDistinctKeys views → items_of_shape BufferViews (object_of (view_fields n)) views ≡ Ok fs → length offsets ≡ length fs
    → (0 < length fs → 0 < m) → FitsEach offsets → items_of_shape BufferViews (object_of (view_fields m)) (with_views_at offsets views) ≡ Ok (plain_views_fields offsets fs)
views_again n m offsets null fs keys h e some low = absurd (cc)
views_again n m offsets (truth b) fs keys h e some low = absurd (cc)
views_again n m offsets (number s) fs keys h e some low = absurd (cc)
views_again n m offsets (text s) fs keys h e some low = absurd (cc)
views_again n m offsets (members ms) fs keys h e some low = absurd (cc)
views_again n m offsets (list ts) fs keys h e some low =
    read_items BufferViews (object_of (view_fields m)) (change_each (λ offset v. placed 0 offset (without_compression v)) offsets (item_list ts)) (plain_views_fields offsets fs)
    (each_view n m offsets ts fs keys (items_are_read BufferViews (object_of (view_fields n)) ts fs h) e some low)

pub views_counted : (offsets : List ℕ) (fs : List ViewFields) → length offsets ≡ length fs → length (plain_views_fields offsets fs) ≡ length fs
views_counted [] [] e = refl
views_counted [] (f ∷ fs) e = absurd (omega (arith, e))
views_counted (o ∷ offsets) [] e = refl
views_counted (o ∷ offsets) (f ∷ fs) e = ap suc (views_counted offsets fs (omega (arith, e)))

pub no_views_at : (offsets : List ℕ) (fs : List ViewFields) → fs ≡ [] → plain_views_fields offsets fs ≡ []
no_views_at [] fs e = refl
no_views_at (o ∷ offsets) [] e = refl
no_views_at (o ∷ offsets) (f ∷ fs) e = absurd (cc)

-- ---- a member of the root, by what is found of it

abbrev pub items_by : {A : Type 0} → Place → Shaped A → Option PlainTree → Result (List A) FieldFault
items_by place shape None = Ok []
items_by place shape (Some found) = items_of_shape place shape found

pub items_are : {A : Type 0} (place : Place) (name : List ℕ) (shape : Shaped A) (u : PlainTree) (found : Option PlainTree) → find_member name u ≡ found → items_of_member place name shape u ≡ items_by place shape found
items_are {A} place name shape u None e = ap (λ o. elim o as (λ f. Result (List A) FieldFault) [ None ↦ Ok [] | Some found ↦ items_of_shape place shape found ]) e
items_are {A} place name shape u (Some v) e = ap (λ o. elim o as (λ f. Result (List A) FieldFault) [ None ↦ Ok [] | Some found ↦ items_of_shape place shape found ]) e

pub items_same : {A : Type 0} (place : Place) (name : List ℕ) (shape : Shaped A) (t u : PlainTree) → find_member name u ≡ find_member name t → items_of_member place name shape u ≡ items_of_member place name shape t
items_same place name shape t u e = items_are place name shape u (find_member name t) e ∙ sym (items_are place name shape t (find_member name t) refl)
