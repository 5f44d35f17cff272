-- The accessors of a packed asset stand for its packed ones.
use Rattle.std.specs.Prelude.{cond, find, codes, if◌then◌else◌, IfSome, unwrap_or, option_map, option_to_list}
use Rattle.std.specs.List.{All, enumerate_from, filter_map, cons_option, range_with_len, count_by}
use Rattle.std.specs.Str.{chars}
use Rattle.std.proofs.Common.{◌≡◌, ℕ, zero, suc, ◌+◌, ◌-◌, ◌*◌, ◌<◌, ◌≤◌, ◌||◌, ◌==◌, not, nat_lt, Bool, true, false, List, [], ◌∷◌, ◌++◌, map, length, length-append, get_or, slice_get, Option, Some, None, Ok, refl, sym, ap, ◌∙◌, subst, inl, inr, arith}
use Rattle.std.proofs.lemmas.Bool.{eqb-true, or_from, le-ltb, ne_eqb}
use Rattle.std.proofs.lemmas.List.{length-map}
use Rattle.std.proofs.lemmas.Option.{get_or_from_slice_get, slice_get_within}
use Rattle.gp_fields.specs.Fields.{AccessorFields}
use Rattle.gp_fields.specs.declared.sparse_fields.SparseFields.{SparseFields}
use Rattle.gp_fields.specs.Record.{◌>>=◌}
use Rattle.gp_rules.specs.declared.fault.AssetFault.TheVariants.{Accessor as BadAccessor}
use Rattle.gp_rules.specs.declared.storage.View.{View}
use Rattle.gp_rules.specs.declared.accessing.Accessor.{Accessor}
use Rattle.gp_rules.specs.declared.accessing.Sparse.{Sparse}
use Rattle.gp_rules.specs.declared.accessing.Component.{Component}
use Rattle.gp_rules.specs.declared.accessing.Component.TheVariants.{U16, U32}
use Rattle.gp_rules.specs.declared.accessing.Shape.{Shape}
use Rattle.gp_rules.specs.declared.accessing.Shape.TheVariants.{Scalar}
use Rattle.gp_rules.specs.Checks.{Checked, unless, each}
use Rattle.gp_rules.specs.Kinds.{component_of, shape_of}
use Rattle.gp_rules.specs.Sizes.{component_size}
use Rattle.gp_rules.specs.Accessors.{sparse_with, sparse_of, accessor_with, known_accessor, size_of, end_of, runs_past, view_at, view_length, is_index, is_bad_sparse, is_bad_accessor, accepted, accessor_of}
use Rattle.gp_asset.specs.Asset.{AssetParts}
use Rattle.gp_asset.specs.Uses.{of_accessor, of_sparse_indices, of_sparse_values, sparse_references}
use Rattle.gp_elements.specs.Elements.{last_end}
use Rattle.gp_document.proofs.Few.{step, same}
use Rattle.gp_unpack.proofs.Again.{bare, same_accessors}
use Rattle.gp_storage.specs.declared.coding.Stream.{Stream}
use Rattle.gp_sameness.specs.Moved.{Moved, is_number_in, is_moved, group_with}
use Rattle.gp_sameness.specs.Survivors.{survives, renumbered, where_numbered}
use Rattle.gp_packed.specs.MadeViews.{is_narrow, list_width, list_component, made_column, made_list, made_views, made_place}
use Rattle.gp_packed.specs.Plan.{Stored, Place, output_views}
use Rattle.gp_packed.specs.ViewEdits.{view_edits}
use Rattle.gp_packed.specs.StoredParts.{view_part_by, stored_views_parts}
use Rattle.gp_packed.specs.GroupEdits.{made_number}
use Rattle.gp_packed.specs.AccessorsBack.{new_number, moved_column_fields, moved_list_fields, made_list_fields, kept_sparse_fields, kept_fields, fields_by, edited_fields, list_fields, all_accessors_fields}
use Rattle.gp_packed.specs.NewNumbers.{SparseRefersBelow, RefersBelow}
use Rattle.gp_packed.specs.MadeLaws.{IsWhole, IsColumn, HasViews, ReadsLike, ReadsNumbers, list_contents}
use Rattle.gp_packed.specs.PackedParts.{list_kind, moved_column_part, moved_list_part, made_list_part, kept_sparse_part, kept_part, part_by, edited_part, list_part, packed_accessors, made_view, unstored_views, packed_views}
use Rattle.gp_packed.specs.RulesMoved.{IsListOf, GroupIsWhole, GroupsAreWhole}
use Rattle.gp_packed.proofs.NewNumbers.{Among, stays_by}
use Rattle.gp_packed.proofs.NewReferences.{is_known, known_parts, part_of, of_accessors, view_among, sparse_among}
use Rattle.gp_packed.proofs.OutputViews.{front_found, behind_found, survivor_found, made_found, output_counted}
use Rattle.gp_packed.proofs.AccessorsBack.{neither_moves}
use Rattle.gp_packed.proofs.MadePlaces.{none_within}
use Rattle.gp_kept.proofs.MadeColumns.{last_within, columns_room}
use Rattle.gp_kept.proofs.MadeLists.{number_size, lists_long}
use Rattle.gp_packed.proofs.StoredPlaces.{count_edits}
use Rattle.gp_kept.proofs.MadeInOrder.{columns_found, lists_found}

-- ---- checks of a list whose items are changed

-- by their numbers
pub each_changed : {A B : Type 0} (f g : ℕ → A → Checked B) (change : ℕ → A → A) (value : ℕ → B → B) (n : ℕ) (xs : List A) (ys : List B) → each f n xs ≡ Ok ys
    → ((i number : ℕ) (x : A) (y : B) → number ≡ n + i → slice_get xs i ≡ Some x → slice_get ys i ≡ Some y → f number x ≡ Ok y → g number (change number x) ≡ Ok (value number y))
    → each g n (map (λ (p : ℕ × A). change p.0 p.1) (enumerate_from n xs)) ≡ Ok (map (λ (p : ℕ × B). value p.0 p.1) (enumerate_from n ys))
each_changed {A} {B} f g change value n [] ys e given = ap (λ l. Ok (map (λ (p : ℕ × B). value p.0 p.1) (enumerate_from n l))) (same [] ys e)
each_changed {A} {B} f g change value n (x ∷ xs) ys e given =
    step (f n x) (λ y. each f (n + 1) xs >>= λ zs. Ok (y ∷ zs)) ys e (λ y one more.
    step (each f (n + 1) xs) (λ zs. Ok (y ∷ zs)) ys more (λ zs others whole.
    let all : y ∷ zs ≡ ys = same (y ∷ zs) ys whole in
    let first : g n (change n x) ≡ Ok (value n y) = given 0 n x y (omega arith) refl (ap (λ l. slice_get l 0) (sym all)) one in
    let changed = map (λ (p : ℕ × A). change p.0 p.1) (enumerate_from (n + 1) xs) in
    let rest = each_changed f g change value (n + 1) xs zs others (λ i number u w e found there h.
    given (suc i) number u w (omega (arith, e)) found (ap (λ l. slice_get l (suc i)) (sym all) ∙ there) h) in
    ap (λ r. r >>= λ z. each g (n + 1) changed >>= λ ws. Ok (z ∷ ws)) first
    ∙ ap (λ r. r >>= λ ws. Ok (value n y ∷ ws)) rest
    ∙ ap (λ l. Ok (map (λ (p : ℕ × B). value p.0 p.1) (enumerate_from n l))) all))

-- with more behind them, which have any numbers
pub each_joined : {A B : Type 0} (f : ℕ → A → Checked B) (n : ℕ) (xs us : List A) (ys vs : List B) → each f n xs ≡ Ok ys → ((k : ℕ) → each f k us ≡ Ok vs)
    → each f n (xs ++ us) ≡ Ok (ys ++ vs)
each_joined f n [] us ys vs e more = more n ∙ ap (λ l. Ok (l ++ vs)) (same [] ys e)
each_joined f n (x ∷ xs) us ys vs e more =
    step (f n x) (λ y. each f (n + 1) xs >>= λ zs. Ok (y ∷ zs)) ys e (λ y one others.
    step (each f (n + 1) xs) (λ zs. Ok (y ∷ zs)) ys others (λ zs rest whole.
    ap (λ r. r >>= λ z. each f (n + 1) (xs ++ us) >>= λ ws. Ok (z ∷ ws)) one
    ∙ ap (λ r. r >>= λ ws. Ok (y ∷ ws)) (each_joined f (n + 1) xs us zs vs rest more)
    ∙ ap (λ l. Ok (l ++ vs)) (same (y ∷ zs) ys whole)))

-- ---- what is found of a list

find_step : {A : Type 0} (b : Bool) (p : A → Bool) (y : A) (ys : List A) (x : A) → p y ≡ b → cond b (Some y) (find p ys) ≡ Some x
    → (find p ys ≡ Some x → (i : ℕ) × (slice_get ys i ≡ Some x) × (p x ≡ true))
    → (i : ℕ) × (slice_get (y ∷ ys) i ≡ Some x) × (p x ≡ true)
find_step true p y ys x n e rest = let first : y ≡ x = cc in (0, ap Some first, ap p (sym first) ∙ n)
find_step false p y ys x n e rest = let r = rest e in (suc r.0, r.1, r.2)

-- the first that passes passes, and stands somewhere
pub find_is : {A : Type 0} (p : A → Bool) (xs : List A) (x : A) → find p xs ≡ Some x → (i : ℕ) × (slice_get xs i ≡ Some x) × (p x ≡ true)
find_is p [] x e = absurd (cc)
find_is p (y ∷ ys) x e = find_step (p y) p y ys x refl e (find_is p ys x)

place_step : (b : Bool) (n at : ℕ) (numbers : List ℕ) → (n == at) ≡ b → (b || is_number_in numbers at) ≡ true
    → (is_number_in numbers at ≡ true → (k : ℕ) × (slice_get numbers k ≡ Some at)) → (k : ℕ) × (slice_get (n ∷ numbers) k ≡ Some at)
place_step true n at numbers is e rest = (0, ap Some (eqb-true n at is))
place_step false n at numbers is e rest = let r = rest e in (suc r.0, r.1)

-- where a number stands among others
pub place_of : (numbers : List ℕ) (at : ℕ) → is_number_in numbers at ≡ true → (k : ℕ) × (slice_get numbers k ≡ Some at)
place_of [] at e = absurd (cc)
place_of (n ∷ numbers) at e = place_step (n == at) n at numbers refl e (place_of numbers at)

-- a list so long has an item there
pub some_within : {A : Type 0} (xs : List A) (k : ℕ) → k < length xs → (x : A) × (slice_get xs k ≡ Some x)
some_within [] k within = absurd (omega (arith, within))
some_within (x ∷ xs) zero within = (x, refl)
some_within (x ∷ xs) (suc k) within = some_within xs k (omega (arith, within))

-- ---- one accessor

accepted_good : (views : List View) (at : ℕ) (known : Option Accessor) (x : Accessor) → known ≡ Some x → is_bad_accessor views x ≡ false → accepted views at known ≡ Ok x
accepted_good views at known x e good = ap (accepted views at) e ∙ ap (λ bad. unless bad (BadAccessor at) (Ok x)) good

passes : (views : List View) (at : ℕ) (f : AccessorFields) (x : Accessor) → known_accessor f ≡ Some x → is_bad_accessor views x ≡ false → accessor_of views at f ≡ Ok x
unfolding accessor_of
passes views at f x e good = accepted_good views at (known_accessor f) x e good

good_by : (b : Bool) (at : ℕ) (x y : Accessor) → unless b (BadAccessor at) (Ok x) ≡ Ok y → b ≡ false
good_by true at x y e = absurd (cc)
good_by false at x y e = refl

accepted_was : (views : List View) (at : ℕ) (known : Option Accessor) (x : Accessor) → known ≡ Some x → accepted views at known ≡ Ok x → is_bad_accessor views x ≡ false
accepted_was views at known x e h = good_by (is_bad_accessor views x) at x x (sym (ap (accepted views at) e) ∙ h)

-- an accessor that was let through breaks no rule
pub was_good : (views : List View) (at : ℕ) (f : AccessorFields) (x : Accessor) → accessor_of views at f ≡ Ok x → is_bad_accessor views x ≡ false
unfolding accessor_of
was_good views at f x h = accepted_was views at (known_accessor f) x (is_known views at f x h) h

some_count : (count : ℕ) (past sparse : Bool) → ((count == 0 || past) || sparse) ≡ false → 1 ≤ count
some_count zero past sparse e = absurd (cc)
some_count (suc count) past sparse e = omega arith

pub has_count : (views : List View) (x : Accessor) → is_bad_accessor views x ≡ false → 1 ≤ x.count
unfolding is_bad_accessor
has_count views x good = some_count x.count (runs_past x (view_at views x.view)) (is_bad_sparse views x x.sparse) good

-- one that isn't sparse, and reads a view that is long enough
reads_well : (views : List View) (number : ℕ) (x : Accessor) (v : View) → x.view ≡ Some number → x.sparse ≡ None → slice_get views number ≡ Some v → 1 ≤ x.count → end_of x v ≤ v.length
    → is_bad_accessor views x ≡ false
unfolding is_bad_accessor
reads_well views number x v own plain found some room =
    let past : runs_past x (view_at views x.view) ≡ false = ap (λ o. runs_past x (view_at views o)) own ∙ ap (runs_past x) found ∙ le-ltb v.length (end_of x v) room in
    or_from (x.count == 0 || runs_past x (view_at views x.view)) (is_bad_sparse views x x.sparse)
    (or_from (x.count == 0) (runs_past x (view_at views x.view)) (ne_eqb x.count 0 (λ e. absurd (omega (arith, e, some)))) past)
    (ap (is_bad_sparse views x) plain)

-- ---- one that stays

kept_past : (r : ℕ → Option ℕ) (x : Accessor) (found : Option View) → runs_past (kept_part r x) found ≡ runs_past x found
kept_past r x None = refl
kept_past r x (Some v) = refl

-- a view is found at its new number as it was at its own
abbrev pub Found : List View → List View → (ℕ → Option ℕ) → ℕ → Type 0
Found new old r view = slice_get new (new_number r view) ≡ slice_get old view

abbrev pub SparseFound : List View → List View → (ℕ → Option ℕ) → Sparse → Type 0
SparseFound new old r s = Found new old r s.index_view × Found new old r s.value_view

kept_at : (new old : List View) (r : ℕ → Option ℕ) (view : Option ℕ) → IfSome view (Found new old r) → view_at new (option_map (new_number r) view) ≡ view_at old view
kept_at new old r None h = refl
kept_at new old r (Some view) h = h

abbrev length_of : Option View → ℕ
length_of found = unwrap_or (option_map (λ (v : View). v.length) found) 0

abbrev bad_by : Accessor → Sparse → ℕ → ℕ → Bool
bad_by x s places values =
    (s.count == 0 || nat_lt x.count s.count)
    || not (is_index s.index_component)
    || nat_lt places (s.index_offset + s.count * component_size s.index_component)
    || nat_lt values (s.value_offset + s.count * size_of x)

kept_sparse_bad : (new old : List View) (r : ℕ → Option ℕ) (x : Accessor) (sparse : Option Sparse) → IfSome sparse (SparseFound new old r)
    → is_bad_sparse new (kept_part r x) (option_map (kept_sparse_part r) sparse) ≡ is_bad_sparse old x sparse
kept_sparse_bad new old r x None h = refl
kept_sparse_bad new old r x (Some s) h =
    ap (λ o. bad_by x s (length_of o) (view_length new (new_number r s.value_view))) h.0
    ∙ ap (λ o. bad_by x s (view_length old s.index_view) (length_of o)) h.1

kept_bad : (new old : List View) (r : ℕ → Option ℕ) (x : Accessor) → IfSome x.view (Found new old r) → IfSome x.sparse (SparseFound new old r)
    → is_bad_accessor new (kept_part r x) ≡ is_bad_accessor old x
unfolding is_bad_accessor
kept_bad new old r x view sparse =
    ap (λ past. (x.count == 0 || past) || is_bad_sparse new (kept_part r x) (option_map (kept_sparse_part r) x.sparse))
    (ap (runs_past (kept_part r x)) (kept_at new old r x.view view) ∙ kept_past r x (view_at old x.view))
    ∙ ap (λ bad. (x.count == 0 || runs_past x (view_at old x.view)) || bad) (kept_sparse_bad new old r x x.sparse sparse)

kept_sparse_by : (r : ℕ → Option ℕ) (s : SparseFields) (c : Option Component)
    → option_map Some (sparse_with (kept_sparse_fields r s) c) ≡ option_map (option_map (kept_sparse_part r)) (option_map Some (sparse_with s c))
kept_sparse_by r s None = refl
kept_sparse_by r s (Some c) = refl

kept_sparse_known : (r : ℕ → Option ℕ) (sparse : Option SparseFields) → sparse_of (option_map (kept_sparse_fields r) sparse) ≡ option_map (option_map (kept_sparse_part r)) (sparse_of sparse)
kept_sparse_known r None = refl
kept_sparse_known r (Some s) = kept_sparse_by r s (component_of s.indices.component)

kept_with : (r : ℕ → Option ℕ) (f : AccessorFields) (c : Option Component) (s : Option Shape) (p : Option (Option Sparse))
    → accessor_with (kept_fields r f) c s (option_map (option_map (kept_sparse_part r)) p) ≡ option_map (kept_part r) (accessor_with f c s p)
kept_with r f None s p = refl
kept_with r f (Some c) None p = refl
kept_with r f (Some c) (Some s) None = refl
kept_with r f (Some c) (Some s) (Some p) = refl

kept_known : (r : ℕ → Option ℕ) (f : AccessorFields) (x : Accessor) → known_accessor f ≡ Some x → known_accessor (kept_fields r f) ≡ Some (kept_part r x)
unfolding known_accessor
kept_known r f x e =
    ap (accessor_with (kept_fields r f) (component_of f.component) (shape_of f.shape)) (kept_sparse_known r f.sparse)
    ∙ kept_with r f (component_of f.component) (shape_of f.shape) (sparse_of f.sparse)
    ∙ ap (option_map (kept_part r)) e

-- ---- one that reads a view of its own

column_with : (view : ℕ) (m : Moved) (f : AccessorFields) (c : Option Component) (s : Option Shape) (p : Option (Option Sparse)) (x : Accessor) → accessor_with f c s p ≡ Some x
    → accessor_with (moved_column_fields view m f) c s (Some None) ≡ Some (moved_column_part view m x)
column_with view m f None s p x e = absurd (cc)
column_with view m f (Some c) None p x e = absurd (cc)
column_with view m f (Some c) (Some s) None x e = absurd (cc)
column_with view m f (Some c) (Some s) (Some p) x e =
    let is : record { view = f.view; offset = f.offset; component = c; shape = s; count = f.count; sparse = p } ≡ x = ap (λ o. unwrap_or o x) e in
    ap (λ (y : Accessor). Some (moved_column_part view m y)) is

column_known : (view : ℕ) (m : Moved) (f : AccessorFields) (x : Accessor) → known_accessor f ≡ Some x → known_accessor (moved_column_fields view m f) ≡ Some (moved_column_part view m x)
unfolding known_accessor
column_known view m f x e = column_with view m f (component_of f.component) (shape_of f.shape) (sparse_of f.sparse) x e

abbrev kind_if : Bool → Component
kind_if narrow = if narrow then U16 else U32

kind_known : (narrow : Bool) → component_of (if narrow then 5123 else 5125) ≡ Some (kind_if narrow)
unfolding component_of
kind_known true = refl
kind_known false = refl

pub list_kind_known : (m : Moved) → component_of (list_component m) ≡ Some (list_kind m)
list_kind_known m = kind_known (is_narrow m)

list_with : (view : ℕ) (m : Moved) (f : AccessorFields) (c : Option Component) (s : Option Shape) (p : Option (Option Sparse)) (x : Accessor) → accessor_with f c s p ≡ Some x
    → accessor_with (moved_list_fields view m f) (Some (list_kind m)) s (Some None) ≡ Some (moved_list_part view m x)
list_with view m f None s p x e = absurd (cc)
list_with view m f (Some c) None p x e = absurd (cc)
list_with view m f (Some c) (Some s) None x e = absurd (cc)
list_with view m f (Some c) (Some s) (Some p) x e =
    let is : record { view = f.view; offset = f.offset; component = c; shape = s; count = f.count; sparse = p } ≡ x = ap (λ o. unwrap_or o x) e in
    ap (λ (y : Accessor). Some (moved_list_part view m y)) is

list_known : (view : ℕ) (m : Moved) (f : AccessorFields) (x : Accessor) → known_accessor f ≡ Some x → known_accessor (moved_list_fields view m f) ≡ Some (moved_list_part view m x)
unfolding known_accessor
list_known view m f x e =
    ap (λ c. accessor_with (moved_list_fields view m f) c (shape_of f.shape) (Some None)) (list_kind_known m)
    ∙ list_with view m f (component_of f.component) (shape_of f.shape) (sparse_of f.sparse) x e

scalar_known : shape_of (codes "SCALAR") ≡ Some Scalar
unfolding shape_of chars
scalar_known = refl

made_known : (view : ℕ) (m : Moved) → known_accessor (made_list_fields view m) ≡ Some (made_list_part view m)
unfolding known_accessor
made_known view m =
    ap (λ c. accessor_with (made_list_fields view m) c (shape_of (codes "SCALAR")) (Some None)) (list_kind_known m)
    ∙ ap (λ s. accessor_with (made_list_fields view m) (Some (list_kind m)) s (Some None)) scalar_known

-- ---- groups

group_at : (moved : List Moved) (a : AssetParts) (i : ℕ) (m : Moved) → GroupsAreWhole moved a → slice_get moved i ≡ Some m → GroupIsWhole a m
group_at moved a i m groups is = subst (GroupIsWhole a) (get_or_from_slice_get moved i m m is) (groups.each i m (slice_get_within moved i m is))

all_views : (moved : List Moved) (a : AssetParts) → GroupsAreWhole moved a → All (HasViews a) moved
all_views moved a groups i d within = (groups.each i d within).views

-- ---- a column

-- the view that is made for it
column_view : (moved : List Moved) (a : AssetParts) (i k at : ℕ) (m : Moved) (x : Accessor) → GroupsAreWhole moved a → slice_get moved i ≡ Some m → slice_get m.columns k ≡ Some at
    → slice_get a.accessors at ≡ Some x
    → IsColumn a m k x × (slice_get (unstored_views moved a) (made_number moved a at) ≡ Some (made_view (made_column a m k at x)))
column_view moved a i k at m x groups is here found =
    let own : get_or m.columns k 0 ≡ at = get_or_from_slice_get m.columns k at 0 here in
    let column : IsColumn a m k x = record { within = slice_get_within m.columns k at here; accessor = ap (slice_get a.accessors) own ∙ found } in
    let made = made_views a moved in
    let there : slice_get made (made_place made at) ≡ Some (made_column a m k at x) =
    subst (λ n. slice_get made (made_place made n) ≡ Some (made_column a m k n x)) own (columns_found a moved i k m x (all_views moved a groups) groups.apart is column) in
    (column, made_found moved a a.views made_view at refl ∙ ap (option_map made_view) there)

column_good : (moved : List Moved) (a : AssetParts) (i k at : ℕ) (m : Moved) (x : Accessor) → GroupsAreWhole moved a → slice_get moved i ≡ Some m → slice_get m.columns k ≡ Some at
    → slice_get a.accessors at ≡ Some x
    → is_bad_accessor (unstored_views moved a) (moved_column_part (made_number moved a at) m x) ≡ false
column_good moved a i k at m x groups is here found =
    let whole : IsWhole a m = (group_at moved a i m groups is).columns in
    let c = column_view moved a i k at m x groups is here found in
    let number = made_number moved a at in
    let y = moved_column_part number m x in
    let reads : ReadsLike x y (length m.records) = record { offset = refl; component = refl; shape = refl; count = refl } in
    reads_well (unstored_views moved a) number y (made_view (made_column a m k at x)) refl refl c.1 whole.some (columns_room a m k x y whole c.0 reads)

-- ---- a list

-- it has room for all numbers
list_room : (m : Moved) (list : List ℕ) (y : Accessor) → ReadsNumbers m y (length list) → 1 ≤ length list → last_end y None ≤ length (list_contents m list)
list_room m list y reads some =
    let width = list_width m in
    let size : size_of y ≡ width = number_size m y (length list) reads in
    let count : (y.count - 1) * size_of y ≡ (length list - 1) * width = ap (λ n. (n - 1) * size_of y) reads.count ∙ ap (λ n. (length list - 1) * n) size in
    let last : (length list - 1) * width + width ≤ length list * width = last_within (length list) width width some (omega arith) in
    omega (arith, lists_long m list, size, count, last, reads.offset)

-- the view that is made for it
list_view : (moved : List Moved) (a : AssetParts) (i k at : ℕ) (m : Moved) (list : List ℕ) → GroupsAreWhole moved a → slice_get moved i ≡ Some m
    → slice_get (m.lists ++ option_to_list m.list_accessor) k ≡ Some at → slice_get m.ordered k ≡ Some list
    → slice_get (unstored_views moved a) (made_number moved a at) ≡ Some (made_view (made_list m (at, list)))
list_view moved a i k at m list groups is here there =
    made_found moved a a.views made_view at refl ∙ ap (option_map made_view) (lists_found a moved i k at m list (all_views moved a groups) groups.apart is here there)

-- an accessor that reads all numbers of it
list_good : (moved : List Moved) (a : AssetParts) (i k at : ℕ) (m : Moved) (list : List ℕ) (y : Accessor) → GroupsAreWhole moved a → slice_get moved i ≡ Some m
    → slice_get (m.lists ++ option_to_list m.list_accessor) k ≡ Some at → slice_get m.ordered k ≡ Some list
    → y.view ≡ Some (made_number moved a at) → y.sparse ≡ None → ReadsNumbers m y (length list) → 1 ≤ length list
    → is_bad_accessor (unstored_views moved a) y ≡ false
list_good moved a i k at m list y groups is here there view sparse reads some =
    reads_well (unstored_views moved a) (made_number moved a at) y (made_view (made_list m (at, list))) view sparse (list_view moved a i k at m list groups is here there)
    (omega (arith, some, reads.count)) (list_room m list y reads some)

-- each number of a list's accessor has a list
ordered_at : (a : AssetParts) (m : Moved) (k at : ℕ) → HasViews a m → slice_get (m.lists ++ option_to_list m.list_accessor) k ≡ Some at → (list : List ℕ) × (slice_get m.ordered k ≡ Some list)
ordered_at a m k at has here =
    let within = slice_get_within (m.lists ++ option_to_list m.list_accessor) k at here in
    some_within m.ordered k (omega (arith, within, has.each))

own_list_good : (moved : List Moved) (a : AssetParts) (i k at : ℕ) (m : Moved) (x : Accessor) → GroupsAreWhole moved a → slice_get moved i ≡ Some m → slice_get m.lists k ≡ Some at
    → slice_get a.accessors at ≡ Some x → 1 ≤ x.count
    → is_bad_accessor (unstored_views moved a) (moved_list_part (made_number moved a at) m x) ≡ false
own_list_good moved a i k at m x groups is own found some =
    let g = group_at moved a i m groups is in
    let here : slice_get (m.lists ++ option_to_list m.list_accessor) k ≡ Some at = front_found m.lists (option_to_list m.list_accessor) k at own in
    let there = ordered_at a m k at g.views here in
    let list : IsListOf x there.0 = g.lists.own k at x there.0 own found there.1 in
    let reads : ReadsNumbers m (moved_list_part (made_number moved a at) m x) (length there.0) = record { offset = refl; component = list_kind_known m; shape = list.scalars; count = sym list.long } in
    list_good moved a i k at m there.0 (moved_list_part (made_number moved a at) m x) groups is here there.1 refl refl reads (omega (arith, list.long, some))

-- that of primitives without indices
made_list_good : (moved : List Moved) (a : AssetParts) (i at : ℕ) (m : Moved) → GroupsAreWhole moved a → slice_get moved i ≡ Some m → m.list_accessor ≡ Some at
    → is_bad_accessor (unstored_views moved a) (made_list_part (made_number moved a at) m) ≡ false
made_list_good moved a i at m groups is own =
    let g = group_at moved a i m groups is in
    let k = length m.lists in
    let here : slice_get (m.lists ++ option_to_list m.list_accessor) k ≡ Some at =
    behind_found m.lists (option_to_list m.list_accessor) k 0 (omega arith) ∙ ap (λ o. slice_get (option_to_list o) 0) own in
    let there = ordered_at a m k at g.views here in
    let long : length there.0 ≡ m.count = g.lists.made there.0 there.1 in
    let filled : 1 ≤ length there.0 =
    subst (λ l. 1 ≤ length l) (get_or_from_slice_get m.ordered k there.0 [] there.1) (g.lists.filled k [] (slice_get_within m.ordered k there.0 there.1)) in
    let reads : ReadsNumbers m (made_list_part (made_number moved a at) m) (length there.0) = record { offset = refl; component = list_kind_known m; shape = refl; count = sym long } in
    list_good moved a i k at m there.0 (made_list_part (made_number moved a at) m) groups is here there.1 refl refl reads filled

-- ---- one that stays

number_is : (moved : List Moved) (a : AssetParts) (view : ℕ) → survives moved a view ≡ true → (n : ℕ) × (renumbered moved a view ≡ Some n)
unfolding renumbered
number_is moved a view stays =
    let n = count_by (survives moved a) (range_with_len 0 view) in
    (n, ap (λ b. if b then Some n else None) stays)

found_by : (moved : List Moved) (a : AssetParts) (view : ℕ) (found : Option View) → slice_get a.views view ≡ found → view < length a.views → survives moved a view ≡ true
    → Found (unstored_views moved a) a.views (renumbered moved a) view
found_by moved a view None is within stays = absurd (none_within a.views view within is)
found_by moved a view (Some v) is within stays =
    let n = number_is moved a view stays in
    ap (λ o. slice_get (unstored_views moved a) (unwrap_or o view)) n.1
    ∙ survivor_found moved a a.views (map made_view (made_views a moved)) view n.0 v n.1 is
    ∙ sym is

-- of a view that one who doesn't move refers to
kept_view : (moved : List Moved) (a : AssetParts) (at : ℕ) (x : Accessor) (view : Option ℕ) → slice_get a.accessors at ≡ Some x → is_moved moved at ≡ false → x.view ≡ view
    → IfSome view (λ v. v < length a.views) → IfSome view (Found (unstored_views moved a) a.views (renumbered moved a))
kept_view moved a at x None found still e within = tt
kept_view moved a at x (Some v) found still e within =
    found_by moved a v (slice_get a.views v) refl within (stays_by moved a v (of_accessor at) (of_accessors a at x (v, of_accessor at) found (view_among at v x e)) still)

kept_sparse : (moved : List Moved) (a : AssetParts) (at : ℕ) (x : Accessor) (sparse : Option Sparse) → slice_get a.accessors at ≡ Some x → is_moved moved at ≡ false → x.sparse ≡ sparse
    → IfSome sparse (λ s. (s.index_view < length a.views) × (s.value_view < length a.views)) → IfSome sparse (SparseFound (unstored_views moved a) a.views (renumbered moved a))
kept_sparse moved a at x None found still e within = tt
kept_sparse moved a at x (Some s) found still e within =
    let index : Among (s.index_view, of_sparse_indices at) (sparse_references at s) = inl refl in
    let value : Among (s.value_view, of_sparse_values at) (sparse_references at s) = inr (inl refl) in (
      found_by moved a s.index_view (slice_get a.views s.index_view) refl within.0
          (stays_by moved a s.index_view (of_sparse_indices at) (of_accessors a at x (s.index_view, of_sparse_indices at) found (sparse_among at x s (s.index_view, of_sparse_indices at) e index)) still),
      found_by moved a s.value_view (slice_get a.views s.value_view) refl within.1
          (stays_by moved a s.value_view (of_sparse_values at) (of_accessors a at x (s.value_view, of_sparse_values at) found (sparse_among at x s (s.value_view, of_sparse_values at) e value)) still),
    )

pub sparse_below : (n : ℕ) (x : Accessor) (sparse : Option SparseFields) → sparse_of sparse ≡ Some x.sparse → IfSome sparse (SparseRefersBelow n)
    → IfSome x.sparse (λ (s : Sparse). (s.index_view < n) × (s.value_view < n))
sparse_below n x None e within =
    let none : None ≡ x.sparse = ap (λ o. unwrap_or o x.sparse) e in
    subst (λ o. IfSome o (λ (s : Sparse). (s.index_view < n) × (s.value_view < n))) none tt
sparse_below n x (Some s) e within =
    let p = part_of s x.sparse e in
    subst (λ o. IfSome o (λ (s : Sparse). (s.index_view < n) × (s.value_view < n))) (sym p.1) (subst (λ k. k < n) (sym p.2) within.0, subst (λ k. k < n) (sym p.3) within.1)

kept_good : (moved : List Moved) (a : AssetParts) (at : ℕ) (f : AccessorFields) (x : Accessor) → slice_get a.accessors at ≡ Some x → is_moved moved at ≡ false → known_accessor f ≡ Some x
    → RefersBelow (length a.views) f → is_bad_accessor a.views x ≡ false
    → is_bad_accessor (unstored_views moved a) (kept_part (renumbered moved a) x) ≡ false
kept_good moved a at f x found still known within good =
    let k = known_parts f x known in
    let n = length a.views in
    let view : IfSome x.view (λ v. v < n) = subst (λ o. IfSome o (λ v. v < n)) (sym k.0) within.0 in
    let sparse = sparse_below n x f.sparse k.1 within.1 in
    kept_bad (unstored_views moved a) a.views (renumbered moved a) x (kept_view moved a at x x.view found still refl view) (kept_sparse moved a at x x.sparse found still refl sparse) ∙ good

-- ---- one accessor of the input

-- what is known of it
record Held (a : AssetParts) (at : ℕ) (f : AccessorFields) (x : Accessor) : Type 0 where
  pub found : slice_get a.accessors at ≡ Some x
  pub known : known_accessor f ≡ Some x
  pub within : RefersBelow (length a.views) f
  pub good : is_bad_accessor a.views x ≡ false

one_by : (moved : List Moved) (a : AssetParts) (at : ℕ) (column vertex_list : Option Moved) (f : AccessorFields) (x : Accessor) → GroupsAreWhole moved a → Held a at f x
    → group_with (λ (m : Moved). m.columns) moved at ≡ column → group_with (λ (m : Moved). m.lists) moved at ≡ vertex_list
    → accessor_of (unstored_views moved a) at (fields_by (renumbered moved a) (made_number moved a at) column vertex_list f)
    ≡ Ok (part_by (renumbered moved a) (made_number moved a at) column vertex_list x)
one_by moved a at (Some m) vertex_list f x groups held c l =
    let g = find_is (λ (m : Moved). is_number_in m.columns at) moved m c in
    let k = place_of m.columns at g.2 in
    let number = made_number moved a at in
    passes (unstored_views moved a) at (moved_column_fields number m f) (moved_column_part number m x) (column_known number m f x held.known)
    (column_good moved a g.0 k.0 at m x groups g.1 k.1 held.found)
one_by moved a at None (Some m) f x groups held c l =
    let g = find_is (λ (m : Moved). is_number_in m.lists at) moved m l in
    let k = place_of m.lists at g.2 in
    let number = made_number moved a at in
    passes (unstored_views moved a) at (moved_list_fields number m f) (moved_list_part number m x) (list_known number m f x held.known)
    (own_list_good moved a g.0 k.0 at m x groups g.1 k.1 held.found (has_count a.views x held.good))
one_by moved a at None None f x groups held c l =
    let r = renumbered moved a in
    passes (unstored_views moved a) at (kept_fields r f) (kept_part r x) (kept_known r f x held.known)
    (kept_good moved a at f x held.found (neither_moves moved at c l) held.known held.within held.good)

-- ---- those that are made

list_step : (views : List View) (number : ℕ → ℕ) (m : Moved) (own : Option ℕ) (fs : List AccessorFields) (xs : List Accessor) → ((k at : ℕ) → own ≡ Some at → accessor_of views k (made_list_fields (number at) m) ≡ Ok (made_list_part (number at) m))
    → ((k : ℕ) → each (accessor_of views) k fs ≡ Ok xs) → (k : ℕ)
    → each (accessor_of views) k (cons_option (option_map (λ at. made_list_fields (number at) m) own) fs) ≡ Ok (cons_option (option_map (λ at. made_list_part (number at) m) own) xs)
list_step views number m None fs xs first rest k = rest k
list_step views number m (Some at) fs xs first rest k =
    ap (λ r. r >>= λ z. each (accessor_of views) (k + 1) fs >>= λ ws. Ok (z ∷ ws)) (first k at refl)
    ∙ ap (λ r. r >>= λ ws. Ok (made_list_part (number at) m ∷ ws)) (rest (k + 1))

made_from : (moved : List Moved) (a : AssetParts) (ms : List Moved)
    → ((i at : ℕ) (m : Moved) → slice_get ms i ≡ Some m → m.list_accessor ≡ Some at → is_bad_accessor (unstored_views moved a) (made_list_part (made_number moved a at) m) ≡ false)
    → (k : ℕ) → each (accessor_of (unstored_views moved a)) k (filter_map (list_fields moved a) ms) ≡ Ok (filter_map (list_part moved a) ms)
made_from moved a [] good k = refl
made_from moved a (m ∷ ms) good k =
    list_step (unstored_views moved a) (made_number moved a) m m.list_accessor (filter_map (list_fields moved a) ms) (filter_map (list_part moved a) ms)
    (λ k at own. passes (unstored_views moved a) k (made_list_fields (made_number moved a at) m) (made_list_part (made_number moved a at) m) (made_known (made_number moved a at) m) (good 0 at m refl own))
    (made_from moved a ms (λ i at u is own. good (suc i) at u is own)) k

-- ---- all, over the views before they are stored

pub unstored_pass : (moved : List Moved) (a : AssetParts) (fs : List AccessorFields) → GroupsAreWhole moved a → each (accessor_of a.views) 0 fs ≡ Ok a.accessors → All (RefersBelow (length a.views)) fs
    → each (accessor_of (unstored_views moved a)) 0 (all_accessors_fields moved a fs) ≡ Ok (packed_accessors moved a)
unstored_pass moved a fs groups ruled below =
    let views = unstored_views moved a in
    each_joined (accessor_of views) 0 (map (λ (p : ℕ × AccessorFields). edited_fields moved a p.0 p.1) (enumerate_from 0 fs)) (filter_map (list_fields moved a) moved)
    (map (λ (p : ℕ × Accessor). edited_part moved a p.0 p.1) (enumerate_from 0 a.accessors)) (filter_map (list_part moved a) moved)
    (each_changed (accessor_of a.views) (accessor_of views) (edited_fields moved a) (edited_part moved a) 0 fs a.accessors ruled (λ i number f x e there found h.
    let at : i ≡ number = omega (arith, e) in
    one_by moved a number (group_with (λ (m : Moved). m.columns) moved number) (group_with (λ (m : Moved). m.lists) moved number) f x groups (record {
      found = ap (slice_get a.accessors) (sym at) ∙ found;
      known = is_known a.views number f x h;
      within = subst (RefersBelow (length a.views)) (get_or_from_slice_get fs i f f there) (below i f (slice_get_within fs i f there));
      good = was_good a.views number f x h;
    }) refl refl))
    (made_from moved a moved (λ i at m is own. made_list_good moved a i at m groups is own))

-- ---- accessors see of views only their lengths and strides

bare_by : (size : ℕ) (stream : Option Stream) (place : Place) (v : View) → bare (view_part_by size stream place v) ≡ bare v
bare_by size None place v = refl
bare_by size (Some stream) place v = refl

stored_bare : (ss : List (Stored × Place)) (vs : List View) → length ss ≡ length vs → map bare (stored_views_parts ss vs) ≡ map bare vs
stored_bare [] [] e = refl
stored_bare [] (v ∷ vs) e = absurd (omega (arith, e))
stored_bare (s ∷ ss) [] e = absurd (omega (arith, e))
stored_bare (s ∷ ss) (v ∷ vs) e =
    ap (λ w. w ∷ map bare (stored_views_parts ss vs)) (bare_by (length s.0.contents) s.0.stream s.1 v) ∙ ap (λ ws. bare v ∷ ws) (stored_bare ss vs (omega (arith, e)))

-- there are as many places as views
pub places_counted : (moved : List Moved) (a : AssetParts) → length (view_edits (output_views moved a)) ≡ length (unstored_views moved a)
places_counted moved a =
    count_edits (output_views moved a) ∙ output_counted moved a
    ∙ omega (arith, length-append (where_numbered (survives moved a) a.views) (map made_view (made_views a moved)), length-map (made_views a moved) made_view)

pub stored_alike : (moved : List Moved) (a : AssetParts) (fs : List AccessorFields) → each (accessor_of (packed_views moved a)) 0 fs ≡ each (accessor_of (unstored_views moved a)) 0 fs
stored_alike moved a fs =
    same_accessors (packed_views moved a) (unstored_views moved a) fs (stored_bare (view_edits (output_views moved a)) (unstored_views moved a) (places_counted moved a))
