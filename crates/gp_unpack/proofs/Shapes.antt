-- The compressed forms of an asset have shapes that decoders ask for.
use Rattle.std.proofs.Common.{◌≡◌, ℕ, ◌+◌, Bool, true, false, not, ◌||◌, List, [], ◌∷◌, Option, Some, None, Ok, codes, refl, ap, subst}
use Rattle.std.specs.List.{All}
use Rattle.std.specs.Option.{IfSome}
use Rattle.std.proofs.lemmas.List.Elements.{All-nil, All-cons}
use Rattle.gp_tree.specs.Find.{is_named}
use Rattle.gp_fields.specs.Fields.{BufferFields, ViewFields, PackedFields, AccessorFields}
use Rattle.gp_fields.specs.Record.{◌>>=◌, asset_fields}
use Rattle.gp_asset.specs.declared.purpose.Form.TheVariants.{Any}
use Rattle.gp_rules.specs.declared.fault.AssetFault.TheVariants.{View as BadView, Extension, Filter, TooMuchData}
use Rattle.gp_rules.specs.declared.storage.View.{View}
use Rattle.gp_rules.specs.declared.storage.Packed.{Packed}
use Rattle.gp_rules.specs.declared.storage.StreamMode.{StreamMode}
use Rattle.gp_rules.specs.Kinds.{mode_of}
use Rattle.gp_rules.specs.Checks.{Checked, unless, each}
use Rattle.gp_rules.specs.Views.{is_stride_in, is_count_in, is_bad_view, is_bad_packed, packed_with, packed_of, view_of}
use Rattle.gp_asset.specs.Asset.{AssetParts, RuledParts, asset, by_rules, parts, in_shape}
use Rattle.gp_asset.specs.Extensions.{extensions_in_use, supported}
use Rattle.gp_asset.specs.Buffers.{buffer_of}
use Rattle.gp_rules.specs.Accessors.{accessor_of, is_too_much}
use Rattle.gp_document.specs.Document.{Document}
use Rattle.gp_document.specs.Accepted.{asset_of}
use Rattle.gp_document.proofs.Few.{step, passes, same, with_packed, ruled_by, load_on, accessors_on, views_on, rules_on, supported_on}
use Rattle.gp_unpack.specs.Contents.{HasShape, HaveShapes}
use Rattle.gp_unpack.specs.Laws.{AssetsHaveShapes}

-- what a check says of each item holds for all
pub each_has : {A B : Type 0} (P : B → Type 0) (f : ℕ → A → Checked B) (given : (i : ℕ) (x : A) (y : B) → f i x ≡ Ok y → P y) (at : ℕ) (xs : List A) (ys : List B) → each f at xs ≡ Ok ys → All P ys
each_has P f given at [] ys e = let none : [] ≡ ys = cc in subst (All P) none (All-nil P)
each_has P f given at (x ∷ xs) ys e =
    step (f at x) (λ y. each f (at + 1) xs >>= λ zs. Ok (y ∷ zs)) ys e (λ y one more.
    step (each f (at + 1) xs) (λ zs. Ok (y ∷ zs)) ys more (λ zs others whole.
    let all : y ∷ zs ≡ ys = cc in
    subst (All P) all (All-cons P y zs (given at x y one) (each_has P f given (at + 1) xs zs others))))

-- ---- one view

sound : (x s c y z : Bool) → (x || (not s || not c) || y || z) ≡ false → (s ≡ true) × (c ≡ true)
sound true s c y z e = absurd (cc)
sound false true true y z e = (refl, refl)
sound false true false y z e = absurd (cc)
sound false false c y z e = absurd (cc)

pub shape : (buffers : List BufferFields) (v : ViewFields) (p : PackedFields) (mode : StreamMode) → is_bad_packed buffers v p mode ≡ false → (is_stride_in mode p.stride ≡ true) × (is_count_in mode p.count ≡ true)
unfolding is_bad_packed
shape buffers v p mode e = sound _ (is_stride_in mode p.stride) (is_count_in mode p.count) _ _ e

abbrev pub kept : PackedFields → StreamMode → Packed
kept p mode = record { buffer = p.buffer; offset = p.offset; length = p.length; stride = p.stride; count = p.count; mode = mode }

packed_with_has : (buffers : List BufferFields) (at : ℕ) (v : ViewFields) (p : PackedFields) (mode : Option StreamMode) (packed : Option Packed) → packed_with buffers at v p mode ≡ Ok packed → IfSome packed HasShape
packed_with_has buffers at v p None packed e = absurd (cc)
packed_with_has buffers at v p (Some mode) packed e =
    passes (is_bad_packed buffers v p mode) (Extension at) (unless (not (is_named (codes "NONE") p.filter)) (Filter at) (Ok (Some (kept p mode)))) packed e (λ good more.
    passes (not (is_named (codes "NONE") p.filter)) (Filter at) (Ok (Some (kept p mode))) packed more (λ unfiltered found.
    let both = shape buffers v p mode good in
    subst (λ o. IfSome o HasShape) (same (Some (kept p mode)) packed found) (record { stride = both.0; count = both.1 })))

packed_has : (buffers : List BufferFields) (at : ℕ) (v : ViewFields) (p : Option PackedFields) (packed : Option Packed) → packed_of buffers at v p ≡ Ok packed → IfSome packed HasShape
packed_has buffers at v None packed e = let is : None ≡ packed = cc in subst (λ o. IfSome o HasShape) is tt
packed_has buffers at v (Some p) packed e = packed_with_has buffers at v p (mode_of p.mode) packed e

view_has : (buffers : List BufferFields) (at : ℕ) (v : ViewFields) (y : View) → view_of buffers at v ≡ Ok y → IfSome y.packed HasShape
unfolding view_of
view_has buffers at v y e =
    passes (is_bad_view buffers v) (BadView at) (packed_of buffers at v v.packed >>= λ packed. Ok (with_packed v packed)) y e (λ good more.
    step (packed_of buffers at v v.packed) (λ packed. Ok (with_packed v packed)) y more (λ packed found whole.
    subst (λ (w : View). IfSome w.packed HasShape) (same (with_packed v packed) y whole) (packed_has buffers at v v.packed packed found)))

-- ---- all views

ruled_have : (buffers : List BufferFields) (views : List ViewFields) (accessors : List AccessorFields) (bin : Option (List ℕ)) (ruled : RuledParts) → by_rules buffers views accessors bin ≡ Ok ruled → HaveShapes ruled.views
unfolding by_rules
ruled_have buffers views accessors bin ruled e =
    step (each (buffer_of views bin) 0 buffers) (λ bs. views_on buffers views accessors bs) ruled e (λ bs e1 more1.
    step (each (view_of buffers) 0 views) (λ vs. accessors_on accessors bs vs) ruled more1 (λ vs e2 more2.
    step (each (accessor_of vs) 0 accessors) (λ xs. load_on bs vs xs) ruled more2 (λ xs e3 more3.
    passes (is_too_much vs xs) TooMuchData (Ok (ruled_by bs vs xs)) ruled more3 (λ little whole.
    subst (λ (r : RuledParts). HaveShapes r.views) (same (ruled_by bs vs xs) ruled whole)
    (each_has (λ (v : View). IfSome v.packed HasShape) (view_of buffers) (view_has buffers) 0 views vs e2)))))

-- ---- all of an asset

pub assets_have_shapes : AssetsHaveShapes
unfolding asset
assets_have_shapes form t bin a e =
    step (in_shape (asset_fields t)) (λ fields. supported_on form t bin fields) a e (λ fields e1 more1.
    step (supported form (extensions_in_use t)) (λ used. rules_on fields bin used) a more1 (λ used e2 more2.
    step (by_rules fields.buffers fields.views fields.accessors bin) (λ ruled. Ok (parts fields used ruled)) a more2 (λ ruled e3 whole.
    subst HaveShapes (ap (λ (x : AssetParts). x.views) (same (parts fields used ruled) a whole))
    (ruled_have fields.buffers fields.views fields.accessors bin ruled e3))))

-- the same of the asset of a document
pub accepted_have_shapes : (d : Document) (a : AssetParts) → asset_of Any d ≡ Ok a → HaveShapes a.views
unfolding asset_of
accepted_have_shapes d a is = assets_have_shapes Any d.tree d.bin a is
