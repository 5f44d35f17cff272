-- The numbers that are written for the views of the output fit.
use Rattle.std.specs.Prelude.{if◌then◌else◌, IfSome}
use Rattle.std.specs.List.{All}
use Rattle.std.proofs.Common.{◌≡◌, ℕ, zero, suc, ◌+◌, ◌*◌, ◌/◌, ◌<◌, ◌≤◌, ◌^◌, Bool, true, false, List, [], ◌∷◌, ◌++◌, length, map, Option, Some, None, Ok, refl, subst, arith}
use Rattle.std.proofs.lemmas.List.Sums.{sum_by-cons}
use Rattle.gp_tree.specs.Lexical.{Each}
use Rattle.gp_rules.specs.declared.storage.View.{View}
use Rattle.gp_asset.specs.declared.purpose.Form.{Form}
use Rattle.gp_asset.specs.declared.purpose.Form.TheVariants.{Plain}
use Rattle.gp_asset.specs.Asset.{AssetParts}
use Rattle.gp_document.specs.Document.{Document}
use Rattle.gp_document.specs.Accepted.{asset_of}
use Rattle.gp_storage.specs.declared.coding.Coding.{Coding}
use Rattle.gp_storage.specs.declared.coding.Stream.{Stream}
use Rattle.gp_storage.specs.Streams.{is_shorter, stream_as, stream_of}
use Rattle.gp_unpack.proofs.Drawn.{rules_hold, asset_holds}
use Rattle.gp_unpack.proofs.EachItem.{each_of_all, all_of_each, each_is, each_both}
use Rattle.gp_sameness.specs.Survivors.{survives, where_numbered}
use Rattle.gp_packed.specs.MadeViews.{Made, made_views}
use Rattle.gp_packed.specs.Plan.{Stored, all_stored, stored_made, output_views}
use Rattle.gp_packed.specs.StoredParts.{IsStreamOf, SuitEach}
use Rattle.gp_packed.specs.StoredLaws.{Fits}
use Rattle.gp_packed.specs.SoundMoved.{MadeFits}
use Rattle.gp_packed.specs.OutputViews.{AllStoredSuit, AllStoredFit, OutputViewsFit}
use Rattle.gp_packed.proofs.StoredSuits.{all_suit}
use Rattle.gp_packed.proofs.StoredSizes.{sizes, loaded}
use Rattle.gp_packed.proofs.SoundPacked.{HasSmallStride, strides_small, each_joined, each_to_mapped}
use Rattle.gp_packed.proofs.OutputViews.{passed}

-- ---- a view's length and its stream's stride

-- a stride is within what has a whole element
within : (stride count total : ℕ) → stride * count ≡ total → 0 < total → stride ≤ total
within stride zero total e some = absurd (omega (arith, e, some))
within stride (suc n) total e some = omega (arith, e)

stride_fits : (own : Option ℕ) (contents : List ℕ) (stream : Option Stream) → IfSome stream (IsStreamOf own contents) → length contents < 2 ^ 32
    → IfSome stream (λ (s : Stream). s.coding.stride < 2 ^ 32)
stride_fits own contents None is low = tt
stride_fits own contents (Some s) is low =
    omega (arith, within s.coding.stride (length contents / s.coding.stride) (length contents) is.whole (omega (arith, is.shorter)), low)

each_fits : (vs : List View) (ss : List Stored) → SuitEach vs ss → sizes vs ≤ 2 ^ 31 → Each Fits ss
each_fits [] [] suits little = tt
each_fits [] (s ∷ ss) suits little = absurd suits
each_fits (v ∷ vs) [] suits little = absurd suits
each_fits (v ∷ vs) (s ∷ ss) suits little =
    let sum = sum_by-cons (λ (v : View). v.length) v vs in
    let low : length s.contents < 2 ^ 32 = omega (arith, suits.0.whole, sum, little) in (
      record { view = low; stride = stride_fits v.stride s.contents s.stream suits.0.stream low },
      each_fits vs ss suits.1 (omega (arith, sum, little)),
    )

all_fit : (form : Form) (d : Document) (a : AssetParts) (views : List Stored) → asset_of form d ≡ Ok a → SuitEach a.views views → All Fits views
unfolding asset_of
all_fit form d a views e suits =
    asset_holds form d.tree d.bin a e (λ f used r h all.
    let little = (rules_hold f.buffers f.views f.accessors d.bin r h.by_rule).little in
    let own : sizes a.views ≤ 2 ^ 31 = subst (λ (x : AssetParts). sizes x.views ≤ 2 ^ 31) all (loaded r.views r.accessors little) in
    all_of_each Fits views (each_fits a.views views suits own))

-- ---- the views that stay

passed_step : {A : Type 0} (P : A → Type 0) (b : Bool) (test : ℕ → Bool) (n : ℕ) (x : A) (xs : List A) → test n ≡ b → P x → Each P (passed test (n + 1) xs) → Each P (passed test n (x ∷ xs))
passed_step P true test n x xs e first rest = rw e (first, rest)
passed_step P false test n x xs e first rest = rw e rest

pub each_passed : {A : Type 0} (P : A → Type 0) (test : ℕ → Bool) (n : ℕ) (xs : List A) → Each P xs → Each P (passed test n xs)
each_passed P test n [] h = tt
each_passed P test n (x ∷ xs) h = passed_step P (test n) test n x xs refl h.0 (each_passed P test (n + 1) xs h.1)

pub stored_suit : AllStoredSuit
stored_suit = all_suit

pub stored_fit : AllStoredFit
stored_fit moved bytes d a small is e = all_fit Plain d a (all_stored moved a) e (all_suit moved bytes d a small is e)

-- ---- the views that are made

-- its stream has the stride that it is coded with
stream_small : (b : Bool) (c : Coding) (bytes : List ℕ) → c.stride < 2 ^ 32 → IfSome (if b then Some (stream_as c bytes) else None) (λ (s : Stream). s.coding.stride < 2 ^ 32)
stream_small true c bytes low = low
stream_small false c bytes low = tt

made_stream_small : (c : Coding) (bytes : List ℕ) → c.stride < 2 ^ 32 → IfSome (stream_of (Some c) bytes) (λ (s : Stream). s.coding.stride < 2 ^ 32)
unfolding stream_of
made_stream_small c bytes low = stream_small (is_shorter c bytes) c bytes low

made_fits : (v : Made) → MadeFits v × HasSmallStride v → Fits (stored_made v)
made_fits v h = record { view = h.0; stride = made_stream_small v.coding v.contents h.1 }

-- ---- all

pub output_fits : OutputViewsFit
unfolding output_views
output_fits moved a stored made =
    let views = made_views a moved in
    let stay = where_numbered (survives moved a) (all_stored moved a) in
    let first = each_passed Fits (survives moved a) 0 (all_stored moved a) (each_of_all Fits (all_stored moved a) stored) in
    let both = each_both MadeFits HasSmallStride views (each_of_all MadeFits views made) (strides_small a moved) in
    let second = each_to_mapped Fits stored_made views (each_is (λ v. MadeFits v × HasSmallStride v) (λ v. Fits (stored_made v)) made_fits views both) in
    all_of_each Fits (stay ++ map stored_made views) (each_joined Fits stay (map stored_made views) first second)
