-- The views of the output: how many, and at which numbers.
use Rattle.std.specs.Prelude.{if◌then◌else◌, option_map, zip, codes}
use Rattle.std.specs.List.{range_with_len, count_by, enumerate_from}
use Rattle.std.proofs.Common.{◌≡◌, ℕ, zero, suc, ◌+◌, Bool, true, false, List, [], ◌∷◌, ◌++◌, length, length-append, map, filter, slice_get, Option, Some, None, refl, sym, ap, ◌∙◌, subst, arith}
use Rattle.std.proofs.lemmas.List.{length-map}
use Rattle.std.proofs.lemmas.List.Sums.{length-filter}
use Rattle.std.proofs.lemmas.List.FromFn.{length-enumerate_from}
use Rattle.std.proofs.lemmas.Option.{slice_get-map}
use Rattle.std.proofs.lemmas.Slice.Zip.{length-zip}
use Rattle.gp_tree.specs.Plain.{PlainTree, list, trees_of}
use Rattle.gp_tree.specs.Find.{item_list}
use Rattle.gp_tree.specs.TreeEdits.{with_items, and_items}
use Rattle.gp_tree.proofs.Edited.{items_of}
use Rattle.gp_tree.proofs.Kept.{find_change, find_change_other}
use Rattle.gp_rules.specs.declared.storage.View.{View}
use Rattle.gp_asset.specs.Contents.{plain_bytes}
use Rattle.gp_asset.specs.Asset.{AssetParts}
use Rattle.gp_storage.specs.Streams.{stream_of, stored_views}
use Rattle.gp_storage.specs.Coding.{coding_of}
use Rattle.gp_sameness.specs.Moved.{Moved, moved_flags}
use Rattle.gp_sameness.specs.Survivors.{survives, renumbered, where_numbered}
use Rattle.gp_packed.specs.MadeViews.{Made, made_views, made_place}
use Rattle.gp_packed.specs.Plan.{stored_as, all_stored, stored_made, output_views}
use Rattle.gp_packed.specs.ViewEdits.{unplaced}
use Rattle.gp_packed.specs.Packed.{with_made_views}
use Rattle.gp_packed.specs.OutputViews.{StoredAreCounted, OutputViewsAreCounted, SurvivorsStandThere, MadeViewsStandThere, EditedViewsAreThere, MadeViewsKeepOthers, EditedViewsAreCounted, SurvivorsTreesStandThere, MadeTreesStandThere}
use Rattle.gp_packed.proofs.NewNumbers.{counted, passing}

-- ---- items whose numbers pass

abbrev pub passed : {A : Type 0} → (ℕ → Bool) → ℕ → List A → List A
passed {A} test n xs = map (λ (p : ℕ × A). p.1) (filter (λ (p : ℕ × A). test p.0) (enumerate_from n xs))

as_many_step : {A B : Type 0} (b : Bool) (test : ℕ → Bool) (n : ℕ) (x : A) (xs : List A) (y : B) (ys : List B) → test n ≡ b → passing test (n + 1) xs ≡ passing test (n + 1) ys
    → passing test n (x ∷ xs) ≡ passing test n (y ∷ ys)
as_many_step true test n x xs y ys e rest = rw e (ap suc rest)
as_many_step false test n x xs y ys e rest = rw e rest

-- how many pass depends on how many there are
pub as_many : {A B : Type 0} (test : ℕ → Bool) (n : ℕ) (xs : List A) (ys : List B) → length xs ≡ length ys → passing test n xs ≡ passing test n ys
as_many test n [] [] e = refl
as_many test n [] (y ∷ ys) e = absurd (omega (arith, e))
as_many test n (x ∷ xs) [] e = absurd (omega (arith, e))
as_many test n (x ∷ xs) (y ∷ ys) e = as_many_step (test n) test n x xs y ys refl (as_many test (n + 1) xs ys (omega (arith, e)))

here_step : {A : Type 0} (b : Bool) (test : ℕ → Bool) (n : ℕ) (x : A) (xs : List A) → test n ≡ b → b ≡ true → slice_get (passed test n (x ∷ xs)) 0 ≡ Some x
here_step true test n x xs e passes = rw e refl
here_step false test n x xs e passes = absurd (cc)

there_step : {A : Type 0} (b : Bool) (test : ℕ → Bool) (n i : ℕ) (x : A) (xs : List A) → test n ≡ b → slice_get (passed test (n + 1) xs) (counted test (n + 1) i) ≡ slice_get xs i
    → slice_get (passed test n (x ∷ xs)) (counted test n (suc i)) ≡ slice_get xs i
there_step true test n i x xs e rest = rw e rest
there_step false test n i x xs e rest = rw e rest

passed_there : {A : Type 0} (test : ℕ → Bool) (n i : ℕ) (xs : List A) → test (n + i) ≡ true → slice_get (passed test n xs) (counted test n i) ≡ slice_get xs i
passed_there test n i [] passes = refl
passed_there test n zero (x ∷ xs) passes =
    let here : n + 0 ≡ n = omega arith in
    here_step (test n) test n x xs refl (subst (λ k. test k ≡ true) here passes)
passed_there test n (suc i) (x ∷ xs) passes =
    let there : n + suc i ≡ (n + 1) + i = omega arith in
    there_step (test n) test n i x xs refl (passed_there test (n + 1) i xs (subst (λ k. test k ≡ true) there passes))

pub numbered_there : {A : Type 0} (test : ℕ → Bool) (items : List A) (at : ℕ) → test at ≡ true
    → slice_get (where_numbered test items) (count_by test (range_with_len 0 at)) ≡ slice_get items at
numbered_there test items at passes =
    let from : 0 + at ≡ at = omega arith in
    ap (slice_get (where_numbered test items)) (sym (length-filter test (range_with_len 0 at)))
    ∙ passed_there test 0 at items (subst (λ k. test k ≡ true) (sym from) passes)

-- ---- two lists behind one another

pub front_found : {A : Type 0} (xs ys : List A) (i : ℕ) (x : A) → slice_get xs i ≡ Some x → slice_get (xs ++ ys) i ≡ Some x
front_found [] ys i x e = absurd (cc)
front_found (y ∷ xs) ys zero x e = e
front_found (y ∷ xs) ys (suc i) x e = front_found xs ys i x e

pub behind_found : {A : Type 0} (xs ys : List A) (n i : ℕ) → n ≡ length xs + i → slice_get (xs ++ ys) n ≡ slice_get ys i
behind_found [] ys n i e = let same : n ≡ i = omega (arith, e) in ap (slice_get ys) same
behind_found (x ∷ xs) ys zero i e = absurd (omega (arith, e))
behind_found (x ∷ xs) ys (suc n) i e = behind_found xs ys n i (omega (arith, e))

-- ---- a view that stays

number_by : (b : Bool) (n number : ℕ) → ◌≡◌ {A = Option ℕ} (if b then Some n else None) (Some number) → (b ≡ true) × (n ≡ number)
number_by true n number e = (refl, cc)
number_by false n number e = absurd (cc)

pub survivor_there : {A : Type 0} (moved : List Moved) (a : AssetParts) (items : List A) (view number : ℕ) → renumbered moved a view ≡ Some number
    → slice_get (where_numbered (survives moved a) items) number ≡ slice_get items view
unfolding renumbered
survivor_there moved a items view number e =
    let s = number_by (survives moved a view) (count_by (survives moved a) (range_with_len 0 view)) number e in
    ap (slice_get (where_numbered (survives moved a) items)) (sym s.1) ∙ numbered_there (survives moved a) items view s.0

-- those that stay, and more behind them
pub survivor_found : {A : Type 0} (moved : List Moved) (a : AssetParts) (items more : List A) (view number : ℕ) (x : A) → renumbered moved a view ≡ Some number → slice_get items view ≡ Some x
    → slice_get (where_numbered (survives moved a) items ++ more) number ≡ Some x
survivor_found moved a items more view number x e found =
    front_found (where_numbered (survives moved a) items) more number x (survivor_there moved a items view number e ∙ found)

pub made_found : {A : Type 0} (moved : List Moved) (a : AssetParts) (items : List A) (f : Made → A) (at : ℕ) → length items ≡ length a.views
    → slice_get (where_numbered (survives moved a) items ++ map f (made_views a moved)) (length (where_numbered (survives moved a) a.views) + made_place (made_views a moved) at)
    ≡ option_map f (slice_get (made_views a moved) (made_place (made_views a moved) at))
made_found moved a items f at e =
    let stay = where_numbered (survives moved a) items in
    let made = made_views a moved in
    let place = made_place made at in
    let many : length stay ≡ length (where_numbered (survives moved a) a.views) = as_many (survives moved a) 0 items a.views e in
    behind_found stay (map f made) (length (where_numbered (survives moved a) a.views) + place) place (omega (arith, many)) ∙ slice_get-map f made place

pub all_counted : {A : Type 0} (moved : List Moved) (a : AssetParts) (items : List A) (f : Made → A) → length items ≡ length a.views
    → length (where_numbered (survives moved a) items ++ map f (made_views a moved)) ≡ length (where_numbered (survives moved a) a.views) + length (made_views a moved)
all_counted moved a items f e =
    let many : length (where_numbered (survives moved a) items) ≡ length (where_numbered (survives moved a) a.views) = as_many (survives moved a) 0 items a.views e in
    omega (arith, many, length-append (where_numbered (survives moved a) items) (map f (made_views a moved)), length-map (made_views a moved) f)

-- ---- the views of the output

streams_counted : (a : AssetParts) (flags : List Bool) → length (stored_views a flags) ≡ length a.views
unfolding stored_views
streams_counted a flags = length-map (enumerate_from 0 a.views) (λ (p : ℕ × View). stream_of (coding_of a flags p.0 p.1) (plain_bytes a.buffers p.1)) ∙ length-enumerate_from 0 a.views

pub stored_counted : StoredAreCounted
unfolding all_stored
stored_counted moved a =
    let contents = map (λ (v : View). plain_bytes a.buffers v) a.views in
    let streams = stored_views a (moved_flags moved (length a.accessors)) in
    length-map (zip contents streams) stored_as
    ∙ omega (arith, length-zip contents streams, length-map a.views (λ (v : View). plain_bytes a.buffers v), streams_counted a (moved_flags moved (length a.accessors)))

pub output_counted : OutputViewsAreCounted
unfolding output_views
output_counted moved a = all_counted moved a (all_stored moved a) stored_made (stored_counted moved a)

pub survivors_there : SurvivorsStandThere
unfolding output_views
survivors_there moved a view number s e found = survivor_found moved a (all_stored moved a) (map stored_made (made_views a moved)) view number s e found

pub made_there : MadeViewsStandThere
unfolding output_views
made_there moved a at = made_found moved a (all_stored moved a) stored_made at (stored_counted moved a)

-- ---- their trees

pub edited_there : EditedViewsAreThere
unfolding with_made_views
edited_there moved a root ts e =
    let more = map unplaced (made_views a moved) in
    let stay = where_numbered (survives moved a) in
    let change : PlainTree → PlainTree = λ views. and_items more (with_items stay views) in
    find_change (codes "bufferViews") change root ∙ ap (option_map change) e ∙ ap (λ l. Some (list (trees_of (l ++ more)))) (items_of (stay (item_list ts)))

pub others_there : MadeViewsKeepOthers
unfolding with_made_views
others_there moved a name root other =
    find_change_other name (codes "bufferViews") (λ views. and_items (map unplaced (made_views a moved)) (with_items (where_numbered (survives moved a)) views)) root other

pub trees_counted : EditedViewsAreCounted
trees_counted moved a items e = all_counted moved a items unplaced e

pub survivors_trees_there : SurvivorsTreesStandThere
survivors_trees_there moved a items view number t e found = survivor_found moved a items (map unplaced (made_views a moved)) view number t e found

pub made_trees_there : MadeTreesStandThere
made_trees_there moved a items at e = made_found moved a items unplaced at e
