-- What is known of an asset that was read, where its groups are looked at.
use Rattle.std.specs.Prelude.{◌*◌, ◌^◌, ◌==◌}
use Rattle.std.specs.List.{All, sum_by}
use Rattle.std.proofs.Common.{◌≡◌, ℕ, zero, suc, ◌+◌, ◌≤◌, Bool, false, ◌||◌, List, [], ◌∷◌, length, Option, Ok, refl, sym, subst, arith}
use Rattle.std.proofs.lemmas.Bool.{ltb-false}
use Rattle.std.proofs.lemmas.List.Sums.{sum_by-cons}
use Rattle.gp_tree.specs.Lexical.{Each}
use Rattle.gp_tree.specs.Plain.{PlainTree}
use Rattle.gp_fields.specs.Fields.{BufferFields, ViewFields}
use Rattle.gp_fields.specs.Record.{◌>>=◌, AssetFields}
use Rattle.gp_rules.specs.declared.accessing.Accessor.{Accessor}
use Rattle.gp_rules.specs.declared.accessing.Component.{Component}
use Rattle.gp_rules.specs.declared.accessing.Component.TheVariants.{I8, U8, I16, U16, U32, F32}
use Rattle.gp_rules.specs.declared.accessing.Shape.{Shape}
use Rattle.gp_rules.specs.declared.accessing.Shape.TheVariants.{Scalar, Vec2, Vec3, Vec4, Mat2, Mat3, Mat4}
use Rattle.gp_rules.specs.declared.storage.View.{View}
use Rattle.gp_rules.specs.Checks.{Checked, each}
use Rattle.gp_rules.specs.Sizes.{component_size, element_size, padded}
use Rattle.gp_rules.specs.Views.{is_bad_view, view_of}
use Rattle.gp_rules.specs.Accessors.{size_of, padded_load, load}
use Rattle.gp_asset.specs.declared.purpose.Form.{Form}
use Rattle.gp_asset.specs.Asset.{AssetParts, RuledParts, asset, parts}
use Rattle.gp_elements.specs.Held.{IsSound}
use Rattle.gp_elements.proofs.Sound.{accessors_are_sound}
use Rattle.gp_document.proofs.Few.{step, same}
use Rattle.gp_unpack.specs.Contents.{all_contents}
use Rattle.gp_unpack.proofs.Drawn.{AssetHolds, view_holds, rules_hold, asset_holds}
use Rattle.gp_unpack.proofs.EachItem.{each_of_all}
use Rattle.gp_unpack.proofs.Whole.{contents_are_whole}
use Rattle.gp_packed.proofs.StoredSizes.{sizes}
use Rattle.gp_kept.proofs.GroupsApart.{HasUses}
use Rattle.gp_kept.proofs.GroupsWhole.{some_elements}
use Rattle.gp_kept.proofs.AssetsRead.{assets_are_read}
use Rattle.gp_kept.specs.TrianglesMoved.{IsRead}

-- ---- uses

uses_of : (f : AssetFields) (used : List (List ℕ)) (r : RuledParts) → HasUses (parts f used r)
uses_of f used r = record { skins = f.skins; animations = f.animations; uses = refl }

pub has_uses : (form : Form) (t : PlainTree) (bin : Option (List ℕ)) (a : AssetParts) → asset form t bin ≡ Ok a → HasUses a
has_uses form t bin a e = asset_holds form t bin a e (λ f used r h all. subst HasUses all (uses_of f used r))

pub is_read : (form : Form) (t : PlainTree) (bin : Option (List ℕ)) (a : AssetParts) (contents : List (List ℕ)) → asset form t bin ≡ Ok a → all_contents a ≡ Ok contents → IsRead a contents
is_read form t bin a contents e read = assets_are_read form t bin a contents e (contents_are_whole form t bin a contents e read)

-- ---- how many views and accessors

each_of : {A B : Type 0} (f : ℕ → A → Checked B) (P : B → Type 0) → ((at : ℕ) (x : A) (y : B) → f at x ≡ Ok y → P y) → (at : ℕ) (xs : List A) (ys : List B) → each f at xs ≡ Ok ys → Each P ys
each_of f P one at [] ys e = subst (Each P) (same [] ys e) tt
each_of f P one at (x ∷ xs) ys e =
    step (f at x) (λ y. each f (at + 1) xs >>= λ rest. Ok (y ∷ rest)) ys e (λ y first more.
    step (each f (at + 1) xs) (λ rest. Ok (y ∷ rest)) ys more (λ rest others whole.
    subst (Each P) (same (y ∷ rest) ys whole) (one at x y first, each_of f P one (at + 1) xs rest others)))

abbrev HasBytes : View → Type 0
HasBytes v = 1 ≤ v.length

not_empty : (n : ℕ) (b c : Bool) → (((n == 0) || b) || c) ≡ false → 1 ≤ n
not_empty zero b c is = absurd (cc)
not_empty (suc n) b c is = omega arith

view_has_bytes : (buffers : List BufferFields) (at : ℕ) (f : ViewFields) (v : View) → view_of buffers at f ≡ Ok v → HasBytes v
unfolding is_bad_view
view_has_bytes buffers at f v e =
    let h = view_holds buffers at f v e in
    subst HasBytes h.own (not_empty f.length _ _ h.good)

-- as many as they have bytes at most
few_views : (vs : List View) → Each HasBytes vs → length vs ≤ sizes vs
few_views [] h = omega arith
few_views (v ∷ vs) h = let own = h.0 in omega (arith, sum_by-cons (λ (w : View). w.length) v vs, few_views vs h.1, own)

component_some : (c : Component) → 1 ≤ component_size c
component_some I8 = omega arith
component_some U8 = omega arith
component_some I16 = omega arith
component_some U16 = omega arith
component_some U32 = omega arith
component_some F32 = omega arith

pub element_some : (c : Component) (s : Shape) → 1 ≤ element_size c s
element_some c Scalar = component_some c
element_some c Vec2 = omega (arith, component_some c)
element_some c Vec3 = omega (arith, component_some c)
element_some c Vec4 = omega (arith, component_some c)
element_some c Mat2 = omega (arith, component_some c)
element_some c Mat3 = omega (arith, component_some c)
element_some c Mat4 = omega (arith, component_some c)

least_product : (n k : ℕ) → 1 ≤ n → 4 ≤ k → 4 ≤ n * k
least_product zero k some four = absurd (omega (arith, some))
least_product (suc n) k some four = omega (arith, four)

pub least_load : (x : Accessor) → 1 ≤ x.count → 4 ≤ padded_load x
least_load x some = least_product x.count (padded (size_of x)) some (omega (arith, element_some x.component x.shape))

few_accessors : (xs : List Accessor) → Each (λ (x : Accessor). 1 ≤ x.count) xs → 4 * length xs ≤ sum_by padded_load xs
few_accessors [] h = omega arith
few_accessors (x ∷ xs) h = omega (arith, sum_by-cons padded_load x xs, least_load x h.0, few_accessors xs h.1)

sound_each : (views : List View) (xs : List Accessor) → Each (IsSound views) xs → Each (λ (x : Accessor). 1 ≤ x.count) xs
sound_each views [] h = tt
sound_each views (x ∷ xs) h = (some_elements views x h.0, sound_each views xs h.1)

-- what an asset asks for together, and how many views and accessors it has at most
pub record IsLoaded (a : AssetParts) : Type 0 where
  pub load : sizes a.views + sum_by padded_load a.accessors ≤ 2 ^ 31
  pub views : length a.views ≤ sizes a.views
  pub accessors : 4 * length a.accessors ≤ sum_by padded_load a.accessors

load_of : (form : Form) (t : PlainTree) (bin : Option (List ℕ)) (f : AssetFields) (used : List (List ℕ)) (r : RuledParts) → AssetHolds form t bin f used r
    → All (IsSound r.views) r.accessors → IsLoaded (parts f used r)
unfolding load
load_of form t bin f used r h sound =
    let rules = rules_hold f.buffers f.views f.accessors bin r h.by_rule in
    record {
      load = ltb-false (2 ^ 31) (sizes r.views + sum_by padded_load r.accessors) rules.little;
      views = few_views r.views (each_of (view_of f.buffers) HasBytes (view_has_bytes f.buffers) 0 f.views r.views rules.all_views);
      accessors = few_accessors r.accessors (sound_each r.views r.accessors (each_of_all (IsSound r.views) r.accessors sound));
    }

pub is_loaded : (form : Form) (t : PlainTree) (bin : Option (List ℕ)) (a : AssetParts) → asset form t bin ≡ Ok a → IsLoaded a
is_loaded form t bin a e =
    asset_holds form t bin a e (λ f used r h all.
    let sound : All (IsSound r.views) r.accessors = subst (λ (x : AssetParts). All (IsSound x.views) x.accessors) (sym all) (accessors_are_sound form t bin a e) in
    subst IsLoaded all (load_of form t bin f used r h sound))

abbrev AllHaveBytes : AssetParts → Type 0
AllHaveBytes a = Each HasBytes a.views

pub views_have_bytes : (form : Form) (t : PlainTree) (bin : Option (List ℕ)) (a : AssetParts) → asset form t bin ≡ Ok a → Each HasBytes a.views
views_have_bytes form t bin a e =
    asset_holds form t bin a e (λ f used r h all.
    subst AllHaveBytes all (each_of (view_of f.buffers) HasBytes (view_has_bytes f.buffers) 0 f.views r.views (rules_hold f.buffers f.views f.accessors bin r h.by_rule).all_views))
