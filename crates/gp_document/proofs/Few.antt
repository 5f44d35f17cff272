-- The views of an asset can be counted in four bytes: each has a byte, and together they have at most 2^31.
use Rattle.std.proofs.Common.{◌≡◌, ℕ, ◌+◌, ◌<◌, ◌≤◌, ◌^◌, ◌||◌, ◌==◌, Bool, true, false, nat_lt, List, [], ◌∷◌, length, Option, Ok, Err, refl, subst, arith}
use Rattle.std.proofs.lemmas.Bool.Decides.{nat_tests}
use Rattle.std.specs.List.{sum_by}
use Rattle.std.proofs.lemmas.List.Sums.{sum_by-cons}
use Rattle.gp_tree.specs.Plain.{PlainTree}
use Rattle.gp_fields.specs.Fields.{BufferFields, ViewFields, AccessorFields}
use Rattle.gp_fields.specs.Record.{◌>>=◌, AssetFields, asset_fields}
use Rattle.gp_asset.specs.declared.purpose.Form.{Form}
use Rattle.gp_rules.specs.declared.fault.AssetFault.{AssetFault}
use Rattle.gp_rules.specs.declared.fault.AssetFault.TheVariants.{View as BadView, TooMuchData}
use Rattle.gp_rules.specs.declared.accessing.Accessor.{Accessor}
use Rattle.gp_rules.specs.declared.storage.View.{View}
use Rattle.gp_rules.specs.declared.storage.Packed.{Packed}
use Rattle.gp_rules.specs.Checks.{Checked, unless, each}
use Rattle.gp_rules.specs.Views.{is_bad_view, packed_of, view_of}
use Rattle.gp_asset.specs.Asset.{AssetParts, RuledParts, asset, by_rules, parts, in_shape}
use Rattle.gp_asset.specs.Extensions.{extensions_in_use, supported}
use Rattle.gp_asset.specs.Buffers.{buffer_of}
use Rattle.gp_rules.specs.Accessors.{accessor_of, is_too_much, load, padded_load}

-- a check that lets a value through has found the value of its first step
pub step : {A B : Type 0} {P : Type 0} (first : Checked A) (f : A → Checked B) (b : B) → first >>= f ≡ Ok b → ((a : A) → first ≡ Ok a → f a ≡ Ok b → P) → P
step (Ok a) f b e then_holds = then_holds a refl e
step (Err fault) f b e then_holds = absurd (cc)

pub passes : {A P : Type 0} (condition : Bool) (fault : AssetFault) (rest : Checked A) (a : A) → unless condition fault rest ≡ Ok a → (condition ≡ false → rest ≡ Ok a → P) → P
passes true fault rest a e then_holds = absurd (cc)
passes false fault rest a e then_holds = then_holds refl e

pub same : {A : Type 0} (x y : A) → ◌≡◌ {A = Checked A} (Ok x) (Ok y) → x ≡ y
same x y e = cc

-- items that count for one at least are as many as their sum at most
counted : {A B : Type 0} (size : B → ℕ) (f : ℕ → A → Checked B) (given : (i : ℕ) (x : A) (y : B) → f i x ≡ Ok y → 1 ≤ size y) (at : ℕ) (xs : List A) (ys : List B) → each f at xs ≡ Ok ys → length ys ≤ sum_by size ys
counted size f given at [] ys e = let none : [] ≡ ys = cc in subst (λ l. length l ≤ sum_by size l) none (omega arith)
counted size f given at (x ∷ xs) ys e =
    step (f at x) (λ y. each f (at + 1) xs >>= λ zs. Ok (y ∷ zs)) ys e (λ y one more.
    step (each f (at + 1) xs) (λ zs. Ok (y ∷ zs)) ys more (λ zs others whole.
    let all : y ∷ zs ≡ ys = cc in
    let first = given at x y one in
    let later = counted size f given (at + 1) xs zs others in
    let sum = sum_by-cons size y zs in
    subst (λ l. length l ≤ sum_by size l) all (omega (arith, sum, first, later))))

-- ---- one view

not_empty : (n : ℕ) (y z : Bool) → ((n == 0 || y) || z) ≡ false → 1 ≤ n
not_empty n y z e = grind (arith, nat_tests)

abbrev pub with_packed : ViewFields → Option Packed → View
with_packed v packed = record { buffer = v.buffer; offset = v.offset; length = v.length; stride = v.stride; packed = packed }

abbrev view_size : View → ℕ
view_size v = v.length

view_has : (buffers : List BufferFields) (at : ℕ) (v : ViewFields) (y : View) → view_of buffers at v ≡ Ok y → 1 ≤ view_size y
unfolding view_of is_bad_view
view_has buffers at v y e =
    passes (is_bad_view buffers v) (BadView at) (packed_of buffers at v v.packed >>= λ packed. Ok (with_packed v packed)) y e (λ good more.
    step (packed_of buffers at v v.packed) (λ packed. Ok (with_packed v packed)) y more (λ packed found whole.
    subst (λ (w : View). 1 ≤ view_size w) (same (with_packed v packed) y whole) (not_empty v.length _ _ good)))

-- ---- all views

few_of : (count views elements : ℕ) → nat_lt (2 ^ 31) (views + elements) ≡ false → count ≤ views → count < 2 ^ 32
few_of count views elements e h = grind (arith, nat_tests)

little : (vs : List View) (xs : List Accessor) → is_too_much vs xs ≡ false → length vs ≤ sum_by view_size vs → length vs < 2 ^ 32
unfolding load
little vs xs e h = few_of (length vs) (sum_by view_size vs) (sum_by padded_load xs) e h

abbrev pub ruled_by : List (Option (List ℕ)) → List View → List Accessor → RuledParts
ruled_by bs vs xs = record { buffers = bs; views = vs; accessors = xs }

abbrev pub load_on : List (Option (List ℕ)) → List View → List Accessor → Checked RuledParts
load_on bs vs xs = unless (is_too_much vs xs) TooMuchData (Ok (ruled_by bs vs xs))

abbrev pub accessors_on : List AccessorFields → List (Option (List ℕ)) → List View → Checked RuledParts
accessors_on accessors bs vs = each (accessor_of vs) 0 accessors >>= λ xs. load_on bs vs xs

abbrev pub views_on : List BufferFields → List ViewFields → List AccessorFields → List (Option (List ℕ)) → Checked RuledParts
views_on buffers views accessors bs = each (view_of buffers) 0 views >>= λ vs. accessors_on accessors bs vs

few_ruled : (buffers : List BufferFields) (views : List ViewFields) (accessors : List AccessorFields) (bin : Option (List ℕ)) (ruled : RuledParts) → by_rules buffers views accessors bin ≡ Ok ruled → length ruled.views < 2 ^ 32
unfolding by_rules
few_ruled buffers views accessors bin ruled e =
    step (each (buffer_of views bin) 0 buffers) (λ bs. views_on buffers views accessors bs) ruled e (λ bs e1 more1.
    step (each (view_of buffers) 0 views) (λ vs. accessors_on accessors bs vs) ruled more1 (λ vs e2 more2.
    step (each (accessor_of vs) 0 accessors) (λ xs. load_on bs vs xs) ruled more2 (λ xs e3 more3.
    passes (is_too_much vs xs) TooMuchData (Ok (ruled_by bs vs xs)) ruled more3 (λ small whole.
    subst (λ (r : RuledParts). length r.views < 2 ^ 32) (same (ruled_by bs vs xs) ruled whole)
    (little vs xs small (counted view_size (view_of buffers) (view_has buffers) 0 views vs e2))))))

-- ---- all of an asset

abbrev pub rules_on : AssetFields → Option (List ℕ) → List (List ℕ) → Checked AssetParts
rules_on fields bin used = by_rules fields.buffers fields.views fields.accessors bin >>= λ ruled. Ok (parts fields used ruled)

abbrev pub supported_on : Form → PlainTree → Option (List ℕ) → AssetFields → Checked AssetParts
supported_on form t bin fields = supported form (extensions_in_use t) >>= λ used. rules_on fields bin used

pub few_views : (form : Form) (t : PlainTree) (bin : Option (List ℕ)) (a : AssetParts) → asset form t bin ≡ Ok a → length a.views < 2 ^ 32
unfolding asset
few_views form t bin a e =
    step (in_shape (asset_fields t)) (λ fields. supported_on form t bin fields) a e (λ fields e1 more1.
    step (supported form (extensions_in_use t)) (λ used. rules_on fields bin used) a more1 (λ used e2 more2.
    step (by_rules fields.buffers fields.views fields.accessors bin) (λ ruled. Ok (parts fields used ruled)) a more2 (λ ruled e3 whole.
    subst (λ (x : AssetParts). length x.views < 2 ^ 32) (same (parts fields used ruled) a whole)
    (few_ruled fields.buffers fields.views fields.accessors bin ruled e3))))
