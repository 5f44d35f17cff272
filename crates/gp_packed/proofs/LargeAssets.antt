-- An asset of any size that asks for too much has that fault and no other.
use Rattle.std.proofs.Common.{◌≡◌, ℕ, true, List, Option, Ok, Err, ap, ◌∙◌, subst}
use Rattle.gp_tree.specs.Plain.{PlainTree}
use Rattle.gp_fields.specs.Fields.{BufferFields, ViewFields, AccessorFields}
use Rattle.gp_fields.specs.Record.{◌>>=◌, asset_fields}
use Rattle.gp_rules.specs.declared.fault.AssetFault.TheVariants.{TooMuchData}
use Rattle.gp_rules.specs.Checks.{unless, each}
use Rattle.gp_rules.specs.Views.{view_of}
use Rattle.gp_rules.specs.Accessors.{accessor_of, is_too_much}
use Rattle.gp_asset.specs.declared.purpose.Form.{Form}
use Rattle.gp_asset.specs.Buffers.{buffer_of}
use Rattle.gp_asset.specs.Extensions.{extensions_in_use, supported}
use Rattle.gp_asset.specs.Asset.{AssetParts, RuledParts, asset, by_rules, in_shape, parts}
use Rattle.gp_document.proofs.Few.{step, same, ruled_by, load_on, accessors_on, views_on, rules_on, supported_on}
use Rattle.gp_sameness.specs.AnySize.{by_each_rule, asset_of_any_size}

by_rules_too_much : (buffers : List BufferFields) (views : List ViewFields) (accessors : List AccessorFields) (bin : Option (List ℕ)) (r : RuledParts)
    → by_each_rule buffers views accessors bin ≡ Ok r → is_too_much r.views r.accessors ≡ true → by_rules buffers views accessors bin ≡ Err TooMuchData
unfolding by_each_rule by_rules
by_rules_too_much buffers views accessors bin r e =
    step (each (buffer_of views bin) 0 buffers) (λ bs. each (view_of buffers) 0 views >>= λ vs. each (accessor_of vs) 0 accessors >>= λ xs. Ok (ruled_by bs vs xs)) r e (λ bs e1 more1.
    step (each (view_of buffers) 0 views) (λ vs. each (accessor_of vs) 0 accessors >>= λ xs. Ok (ruled_by bs vs xs)) r more1 (λ vs e2 more2.
    step (each (accessor_of vs) 0 accessors) (λ xs. Ok (ruled_by bs vs xs)) r more2 (λ xs e3 whole.
    subst (λ (q : RuledParts). is_too_much q.views q.accessors ≡ true → by_rules buffers views accessors bin ≡ Err TooMuchData) (same (ruled_by bs vs xs) r whole) (λ large.
    ap (λ bs. bs >>= λ bs. views_on buffers views accessors bs) e1
    ∙ ap (λ vs. vs >>= λ vs. accessors_on accessors bs vs) e2
    ∙ ap (λ xs. xs >>= λ xs. load_on bs vs xs) e3
    ∙ ap (λ much. unless much TooMuchData (Ok (ruled_by bs vs xs))) large))))

pub large_ones_are_too_much : (form : Form) (t : PlainTree) (bin : Option (List ℕ)) (a : AssetParts) → asset_of_any_size form t bin ≡ Ok a
    → is_too_much a.views a.accessors ≡ true → asset form t bin ≡ Err TooMuchData
unfolding asset_of_any_size asset
large_ones_are_too_much form t bin a e =
    step (in_shape (asset_fields t)) (λ f. supported form (extensions_in_use t) >>= λ used. by_each_rule f.buffers f.views f.accessors bin >>= λ ruled. Ok (parts f used ruled)) a e (λ f e1 more1.
    step (supported form (extensions_in_use t)) (λ used. by_each_rule f.buffers f.views f.accessors bin >>= λ ruled. Ok (parts f used ruled)) a more1 (λ used e2 more2.
    step (by_each_rule f.buffers f.views f.accessors bin) (λ ruled. Ok (parts f used ruled)) a more2 (λ ruled e3 whole.
    subst (λ (b : AssetParts). is_too_much b.views b.accessors ≡ true → asset form t bin ≡ Err TooMuchData) (same (parts f used ruled) a whole) (λ large.
    ap (λ fields. fields >>= λ fields. supported_on form t bin fields) e1
    ∙ ap (λ used. used >>= λ used. rules_on f bin used) e2
    ∙ ap (λ ruled. ruled >>= λ ruled. Ok (parts f used ruled)) (by_rules_too_much f.buffers f.views f.accessors bin ruled e3 large)))))
