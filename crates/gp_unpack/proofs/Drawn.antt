-- What the rules of an asset say of its parts, once they have let it through.
use Rattle.std.proofs.Common.{◌≡◌, ℕ, suc, zero, ◌+◌, false, List, [], ◌∷◌, Option, Some, Result, Ok, Err, refl, sym, ap, subst, ◌∙◌, arith}
use Rattle.std.specs.List.{slice_get}
use Rattle.gp_tree.specs.Plain.{PlainTree}
use Rattle.gp_fields.specs.declared.fault.FieldFault.{FieldFault}
use Rattle.gp_fields.specs.Fields.{BufferFields, ViewFields, AccessorFields}
use Rattle.gp_fields.specs.Record.{◌>>=◌, AssetFields, asset_fields}
use Rattle.gp_asset.specs.declared.purpose.Form.{Form}
use Rattle.gp_rules.specs.declared.fault.AssetFault.TheVariants.{View as BadView, TooMuchData}
use Rattle.gp_rules.specs.declared.storage.View.{View}
use Rattle.gp_rules.specs.Checks.{Checked, unless, each}
use Rattle.gp_rules.specs.Views.{is_bad_view, packed_of, view_of}
use Rattle.gp_asset.specs.Buffers.{buffer_of}
use Rattle.gp_rules.specs.Accessors.{accessor_of, is_too_much}
use Rattle.gp_asset.specs.Extensions.{extensions_in_use, supported}
use Rattle.gp_asset.specs.Asset.{AssetParts, RuledParts, asset, by_rules, parts, in_shape}
use Rattle.gp_document.proofs.Few.{step, passes, same, with_packed, ruled_by, load_on, accessors_on, views_on, rules_on, supported_on}

-- ---- one item of a list

pub each_at : {A B : Type 0} (f : ℕ → A → Checked B) (at i j : ℕ) (xs : List A) (ys : List B) (x : A) → at + i ≡ j → each f at xs ≡ Ok ys
    → slice_get xs i ≡ Some x
    → (y : B) × (slice_get ys i ≡ Some y) × (f j x ≡ Ok y)
each_at f at i j [] ys x number e is = absurd (cc)
each_at f at zero j (z ∷ xs) ys x number e is =
    step (f at z) (λ y. each f (at + 1) xs >>= λ ys. Ok (y ∷ ys)) ys e (λ y one more.
    step (each f (at + 1) xs) (λ zs. Ok (y ∷ zs)) ys more (λ zs others whole.
    let first : z ≡ x = cc in
    let here : at ≡ j = omega (arith, number) in
    let all = same (y ∷ zs) ys whole in
    (y, subst (λ l. slice_get l 0 ≡ Some y) all refl, ap (λ n. f n x) (sym here) ∙ ap (f at) (sym first) ∙ one)))
each_at f at (suc i) j (z ∷ xs) ys x number e is =
    step (f at z) (λ y. each f (at + 1) xs >>= λ ys. Ok (y ∷ ys)) ys e (λ y one more.
    step (each f (at + 1) xs) (λ zs. Ok (y ∷ zs)) ys more (λ zs others whole.
    let all = same (y ∷ zs) ys whole in
    let there = each_at f (at + 1) i j xs zs x (omega (arith, number)) others is in
    (there.0, subst (λ l. slice_get l (suc i) ≡ Some there.0) all there.1, there.2)))

-- ---- one view

pub record ViewHolds (buffers : List BufferFields) (at : ℕ) (v : ViewFields) (y : View) : Type 0 where
  pub good : is_bad_view buffers v ≡ false
  pub packed : packed_of buffers at v v.packed ≡ Ok y.packed
  pub own : with_packed v y.packed ≡ y

pub view_holds : (buffers : List BufferFields) (at : ℕ) (v : ViewFields) (y : View) → view_of buffers at v ≡ Ok y → ViewHolds buffers at v y
unfolding view_of
view_holds buffers at v y e =
    passes (is_bad_view buffers v) (BadView at) (packed_of buffers at v v.packed >>= λ packed. Ok (with_packed v packed)) y e (λ good more.
    step (packed_of buffers at v v.packed) (λ packed. Ok (with_packed v packed)) y more (λ packed found whole.
    subst (ViewHolds buffers at v) (same (with_packed v packed) y whole) (record { good = good; packed = found; own = refl })))

-- ---- what the rules gave

pub record RulesHold (buffers : List BufferFields) (views : List ViewFields) (accessors : List AccessorFields) (bin : Option (List ℕ)) (r : RuledParts) : Type 0 where
  pub all_buffers : each (buffer_of views bin) 0 buffers ≡ Ok r.buffers
  pub all_views : each (view_of buffers) 0 views ≡ Ok r.views
  pub all_accessors : each (accessor_of r.views) 0 accessors ≡ Ok r.accessors
  pub little : is_too_much r.views r.accessors ≡ false

pub rules_hold : (buffers : List BufferFields) (views : List ViewFields) (accessors : List AccessorFields) (bin : Option (List ℕ)) (r : RuledParts)
    → by_rules buffers views accessors bin ≡ Ok r → RulesHold buffers views accessors bin r
unfolding by_rules
rules_hold buffers views accessors bin r e =
    step (each (buffer_of views bin) 0 buffers) (λ bs. views_on buffers views accessors bs) r e (λ bs e1 more1.
    step (each (view_of buffers) 0 views) (λ vs. accessors_on accessors bs vs) r more1 (λ vs e2 more2.
    step (each (accessor_of vs) 0 accessors) (λ xs. load_on bs vs xs) r more2 (λ xs e3 more3.
    passes (is_too_much vs xs) TooMuchData (Ok (ruled_by bs vs xs)) r more3 (λ little whole.
    subst (RulesHold buffers views accessors bin) (same (ruled_by bs vs xs) r whole) (record { all_buffers = e1; all_views = e2; all_accessors = e3; little = little })))))

pub rules_pass : (buffers : List BufferFields) (views : List ViewFields) (accessors : List AccessorFields) (bin : Option (List ℕ)) (r : RuledParts)
    → RulesHold buffers views accessors bin r → by_rules buffers views accessors bin ≡ Ok r
unfolding by_rules
rules_pass buffers views accessors bin r h =
    ap (λ bs. bs >>= λ bs. views_on buffers views accessors bs) h.all_buffers
    ∙ ap (λ vs. vs >>= λ vs. accessors_on accessors r.buffers vs) h.all_views
    ∙ ap (λ xs. xs >>= λ xs. load_on r.buffers r.views xs) h.all_accessors
    ∙ ap (λ much. unless much TooMuchData (Ok (ruled_by r.buffers r.views r.accessors))) h.little

-- ---- a whole asset

pub record AssetHolds (form : Form) (t : PlainTree) (bin : Option (List ℕ)) (fields : AssetFields) (used : List (List ℕ)) (ruled : RuledParts) : Type 0 where
  pub has_fields : asset_fields t ≡ Ok fields
  pub supports : supported form (extensions_in_use t) ≡ Ok used
  pub by_rule : by_rules fields.buffers fields.views fields.accessors bin ≡ Ok ruled

shaped : (r : Result AssetFields FieldFault) (fields : AssetFields) → in_shape r ≡ Ok fields → r ≡ Ok fields
shaped (Ok found) fields e = let d : found ≡ fields = same found fields e in ap Ok d
shaped (Err fault) fields e = absurd (cc)

pub asset_holds : {P : Type 0} (form : Form) (t : PlainTree) (bin : Option (List ℕ)) (a : AssetParts) → asset form t bin ≡ Ok a
    → ((fields : AssetFields) (used : List (List ℕ)) (ruled : RuledParts) → AssetHolds form t bin fields used ruled → parts fields used ruled ≡ a → P)
    → P
unfolding asset
asset_holds form t bin a e then_holds =
    step (in_shape (asset_fields t)) (λ fields. supported_on form t bin fields) a e (λ fields e1 more1.
    step (supported form (extensions_in_use t)) (λ used. rules_on fields bin used) a more1 (λ used e2 more2.
    step (by_rules fields.buffers fields.views fields.accessors bin) (λ ruled. Ok (parts fields used ruled)) a more2 (λ ruled e3 whole.
    then_holds fields used ruled (record { has_fields = shaped (asset_fields t) fields e1; supports = e2; by_rule = e3 }) (same (parts fields used ruled) a whole))))

pub asset_passes : (form : Form) (t : PlainTree) (bin : Option (List ℕ)) (fields : AssetFields) (used : List (List ℕ)) (ruled : RuledParts)
    → AssetHolds form t bin fields used ruled → asset form t bin ≡ Ok (parts fields used ruled)
unfolding asset
asset_passes form t bin fields used ruled h =
    ap (λ r. in_shape r >>= λ fields. supported_on form t bin fields) h.has_fields
    ∙ ap (λ r. r >>= λ used. rules_on fields bin used) h.supports
    ∙ ap (λ r. r >>= λ ruled. Ok (parts fields used ruled)) h.by_rule
