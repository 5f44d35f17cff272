-- What the readers of views have in common, accessor by accessor.
use Rattle.std.proofs.Common.{◌≡◌, ℕ, ◌+◌, ◌<◌, ◌==◌, Bool, true, false, ◌&&◌, not, if◌then◌else◌, List, [], ◌∷◌, ◌++◌, length, map, get_or, take, Some, None, refl, sym, ap, ◌∙◌, arith, append-nil}
use Rattle.std.specs.Prelude.{filter}
use Rattle.std.specs.List.{list_all, enumerate_from}
use Rattle.std.proofs.Math.Bool.{and-true}
use Rattle.std.proofs.Math.ListN.{set, replicate}
use Rattle.std.proofs.lemmas.List.{take_more, length-take-le}
use Rattle.std.proofs.lemmas.List.Elements.{filter-append}
use Rattle.std.proofs.lemmas.List.Folds.{list_all-append}
use Rattle.std.proofs.lemmas.Option.{none-some}
use Rattle.gp_rules.specs.declared.accessing.Accessor.{Accessor}
use Rattle.gp_asset.specs.declared.usage.AccessorUse.{AccessorUse}
use Rattle.gp_rules.specs.Sizes.{component_size}
use Rattle.gp_rules.specs.Accessors.{size_of}
use Rattle.gp_storage.specs.declared.usage.Usage.{Usage}
use Rattle.gp_storage.specs.declared.shared.Common.TheVariants.{Same, Different}
use Rattle.gp_storage.specs.declared.shared.Shared.{Shared}
use Rattle.gp_storage.specs.Readers.{names, is_flagged, readers, is_index_list}
use Rattle.gp_storage.specs.Shared.{placed, usage_in, is_list, common, with_size, shared_by, with_reader, view_read}
use Rattle.gp_storage.proofs.Tables.{table, set_table, same_table, constant_table, item_at}
use Rattle.gp_storage.proofs.Usages.{is_list_is}
use Rattle.gp_storage.proofs.Named.{is_placed, not_placed}

-- ---- one reader more

compared : (b : Bool) (one size : ℕ) → (if b && ((size == one) && true) then Same one else Different) ≡ with_size (if b then Same one else Different) size
compared true one size = rw (and-true (size == one)) refl
compared false one size = refl

common_more : (sizes : List ℕ) (size : ℕ) → common (sizes ++ size ∷ []) ≡ with_size (common sizes) size
common_more [] size = refl
common_more (one ∷ sizes) size =
    ap (λ b. if b then Same one else Different) (list_all-append (λ other. other == one) sizes (size ∷ []))
    ∙ compared (list_all (λ other. other == one) sizes) one size

pub map_more : {X Y : Type 0} (f : X → Y) (xs : List X) (x : X) → map f (xs ++ x ∷ []) ≡ map f xs ++ f x ∷ []
map_more f [] x = refl
map_more f (y ∷ ys) x = ap (λ zs. f y ∷ zs) (map_more f ys x)

shared_more : (uses : List AccessorUse) (rs : List (ℕ × Accessor)) (at : ℕ) (a : Accessor) → shared_by uses (rs ++ (at, a) ∷ []) ≡ with_reader (shared_by uses rs) a (is_index_list uses at)
unfolding shared_by
shared_more uses rs at a =
    let component = λ (r : ℕ × Accessor). component_size r.1.component in
    let element = λ (r : ℕ × Accessor). size_of r.1 in
    let lists = λ (r : ℕ × Accessor). is_index_list uses r.0 in
    let components = ap common (map_more component rs (at, a)) ∙ common_more (map component rs) (component_size a.component) in
    let elements = ap common (map_more element rs (at, a)) ∙ common_more (map element rs) (size_of a) in
    let index_lists = list_all-append lists rs ((at, a) ∷ []) ∙ ap (λ b. list_all lists rs && b) (and-true (is_index_list uses at)) in
    rw (components, elements, index_lists) refl

-- ---- whether the next accessor is one

reads : List Bool → ℕ → Accessor → ℕ → Bool
reads moved at a view = not (is_flagged moved at) && names view a.view

pub numbered_behind : {X : Type 0} (n m : ℕ) (xs : List X) (x : X) → m ≡ n + length xs → enumerate_from n (xs ++ x ∷ []) ≡ enumerate_from n xs ++ (m, x) ∷ []
numbered_behind {X} n m [] x e =
    let same : n ≡ m = omega (arith, e) in
    ap {B = List (ℕ × X)} (λ k. (k, x) ∷ []) same
numbered_behind n m (y ∷ ys) x e = ap (λ zs. (n, y) ∷ zs) (numbered_behind (n + 1) m ys x (omega (arith, e)))

readers_more : (moved : List Bool) (accessors : List Accessor) (at view : ℕ) (a d : Accessor) → at < length accessors → a ≡ get_or accessors at d
    → readers moved (take (at + 1) accessors) view ≡ readers moved (take at accessors) view ++ filter (λ (r : ℕ × Accessor). not (is_flagged moved r.0) && names view r.1.view) ((at, a) ∷ [])
readers_more moved accessors at view a d within is =
    let long = length-take-le at accessors (omega (arith, within)) in
    let test = λ (r : ℕ × Accessor). not (is_flagged moved r.0) && names view r.1.view in
    let front : take (at + 1) accessors ≡ take at accessors ++ a ∷ [] = take_more accessors at d within ∙ ap (λ x. take at accessors ++ x ∷ []) (sym is) in
    ap (λ xs. filter test (enumerate_from 0 xs)) front
    ∙ ap (filter test) (numbered_behind 0 at (take at accessors) a (omega (arith, long)))
    ∙ filter-append test (enumerate_from 0 (take at accessors)) ((at, a) ∷ [])

abbrev pub shared_at : List AccessorUse → List Bool → List Accessor → ℕ → ℕ → Shared
shared_at uses moved accessors at view = shared_by uses (readers moved (take at accessors) view)

-- one that is
read : (uses : List AccessorUse) (moved : List Bool) (accessors : List Accessor) (at view : ℕ) (a d : Accessor) → at < length accessors → a ≡ get_or accessors at d → reads moved at a view ≡ true
    → shared_at uses moved accessors (at + 1) view ≡ with_reader (shared_at uses moved accessors at view) a (is_index_list uses at)
unfolding reads
read uses moved accessors at view a d within is does =
    ap (shared_by uses) (readers_more moved accessors at view a d within is)
    ∙ (rw does (shared_more uses (readers moved (take at accessors) view) at a))

-- one that isn't
not_read : (uses : List AccessorUse) (moved : List Bool) (accessors : List Accessor) (at view : ℕ) (a d : Accessor) → at < length accessors → a ≡ get_or accessors at d → reads moved at a view ≡ false
    → shared_at uses moved accessors (at + 1) view ≡ shared_at uses moved accessors at view
unfolding reads
not_read uses moved accessors at view a d within is never =
    ap (shared_by uses) (readers_more moved accessors at view a d within is)
    ∙ (rw (never, append-nil (readers moved (take at accessors) view)) refl)

-- ---- the view that it reads

record IsRead (moved : List Bool) (at : ℕ) (a : Accessor) (n view : ℕ) : Type 0 where
  within : view < n
  here : reads moved at a view ≡ true
  others : (k : ℕ) → (k ≡ view → ⊥) → reads moved at a k ≡ false

is_read : (moved : List Bool) (at : ℕ) (a : Accessor) (n view : ℕ) → view_read moved at a.view n ≡ Some view → IsRead moved at a n view
unfolding reads
is_read moved at a n view e = by_flag (is_flagged moved at) refl e
  where
    by_flag : (flag : Bool) → is_flagged moved at ≡ flag → (if flag then None else placed n a.view) ≡ Some view → IsRead moved at a n view
    by_flag true is e = elim (none-some view e) [ ]
    by_flag false is e =
        let p = is_placed n view a.view e in
        record { within = p.within; here = rw is p.here; others = λ k differ. rw is (p.others k differ) }

is_not_read : (moved : List Bool) (at : ℕ) (a : Accessor) (n k : ℕ) → view_read moved at a.view n ≡ None → k < n → reads moved at a k ≡ false
unfolding reads
is_not_read moved at a n k e below = by_flag (is_flagged moved at) refl e
  where
    by_flag : (flag : Bool) → is_flagged moved at ≡ flag → (if flag then None else placed n a.view) ≡ None → (not (is_flagged moved at) && names k a.view) ≡ false
    by_flag true is e = rw is refl
    by_flag false is e = rw is (not_placed n k a.view e below)

-- ---- the pass

abbrev pub so_far : List AccessorUse → List Bool → List Accessor → ℕ → ℕ → List Shared
so_far uses moved accessors at n = table (shared_at uses moved accessors at) n

-- before the first accessor
pub none : (uses : List AccessorUse) (moved : List Bool) (accessors : List Accessor) (n : ℕ) (shared : List Shared) (empty : Shared) → ((us : List AccessorUse) → empty ≡ shared_by us []) → shared ≡ replicate n empty → shared ≡ so_far uses moved accessors 0 n
none uses moved accessors n shared empty is e = e ∙ constant_table (shared_at uses moved accessors 0) empty n (λ k. sym (is uses))

-- past an accessor that reads a view
pub one_more : (uses : List AccessorUse) (moved : List Bool) (accessors : List Accessor) (at n view : ℕ) (a d : Accessor) (shared : List Shared) (before other next : Shared) → at < length accessors → a ≡ get_or accessors at d
    → view_read moved at a.view n ≡ Some view → before ≡ get_or shared view other → next ≡ with_reader before a (is_index_list uses at)
    → shared ≡ so_far uses moved accessors at n → set shared view next ≡ so_far uses moved accessors (at + 1) n
one_more uses moved accessors at n view a d shared before other next within is there was step e =
    let r = is_read moved at a n view there in
    let f = shared_at uses moved accessors at in
    let here : before ≡ f view = item_at f n view shared before other e r.within was in
    let now : next ≡ shared_at uses moved accessors (at + 1) view = step ∙ ap (λ b. with_reader b a (is_index_list uses at)) here ∙ sym (read uses moved accessors at view a d within is r.here) in
    ap (λ xs. set xs view next) e
    ∙ set_table f (shared_at uses moved accessors (at + 1)) next n view r.within (λ k differ. sym (not_read uses moved accessors at k a d within is (r.others k differ))) now

-- past one that reads none
pub none_more : (uses : List AccessorUse) (moved : List Bool) (accessors : List Accessor) (at n : ℕ) (a d : Accessor) (shared : List Shared) → at < length accessors → a ≡ get_or accessors at d
    → view_read moved at a.view n ≡ None → shared ≡ so_far uses moved accessors at n → shared ≡ so_far uses moved accessors (at + 1) n
none_more uses moved accessors at n a d shared within is never e =
    e ∙ same_table (shared_at uses moved accessors at) (shared_at uses moved accessors (at + 1)) n
    (λ k below. sym (not_read uses moved accessors at k a d within is (is_not_read moved at a n k never below)))

-- what its usage tells
pub list_at : (uses : List AccessorUse) (usages : List Usage) (n at : ℕ) (usage d : Usage) → usages ≡ table (usage_in uses) n → at < n → usage ≡ get_or usages at d → is_list usage ≡ is_index_list uses at
list_at uses usages n at usage d e within is = ap is_list (item_at (usage_in uses) n at usages usage d e within is) ∙ is_list_is uses at
