-- The rules let a packed asset through.
use Rattle.std.specs.List.{All, AllZip}
use Rattle.std.proofs.Common.{◌≡◌, ℕ, List, length, Option, Ok, Err, refl, sym, ap, subst, ◌∙◌}
use Rattle.gp_edits.proofs.AssetsBack.{asset_parts}
use Rattle.gp_fields.specs.Fields.{BufferFields, ViewFields, AccessorFields}
use Rattle.gp_fields.specs.Record.{◌>>=◌, AssetFields, asset_fields}
use Rattle.gp_tree.specs.Plain.{PlainTree}
use Rattle.gp_rules.specs.declared.storage.View.{View}
use Rattle.gp_asset.specs.declared.purpose.Form.TheVariants.{Plain}
use Rattle.gp_asset.specs.Buffers.{buffer_of}
use Rattle.gp_asset.specs.Asset.{AssetParts, RuledParts, asset, by_rules}
use Rattle.gp_rules.specs.declared.accessing.Accessor.{Accessor}
use Rattle.gp_rules.specs.Checks.{Checked, each}
use Rattle.gp_rules.specs.Views.{view_of}
use Rattle.gp_rules.specs.Accessors.{accessor_of}
use Rattle.gp_document.proofs.Few.{ruled_by, load_on, accessors_on, views_on}
use Rattle.gp_unpack.proofs.Drawn.{rules_hold, asset_holds}
use Rattle.gp_packed.specs.NewNumbers.{RefersBelow}
use Rattle.gp_packed.specs.PackedParts.{unstored_views}
use Rattle.gp_packed.specs.AccessorsBack.{all_accessors_fields}
use Rattle.gp_packed.specs.RulesMoved.{AccessorsPass, ViewsPass, with_load, LoadIsLast, packed_views_fields, packed_ruled, RulesPassMoved}
use Rattle.gp_packed.proofs.NewReferences.{references_below}
use Rattle.gp_packed.proofs.FieldsKnown.{same_fields, parts_stand}
use Rattle.gp_packed.specs.StoredParts.{stored_buffers}
use Rattle.gp_packed.specs.Plan.{output_views}
use Rattle.gp_packed.specs.MeshesBack.{output_fields}
use Rattle.gp_sameness.specs.AnySize.{by_each_rule}
use Rattle.gp_kept.proofs.MadeServe.{Sound}
use Rattle.gp_kept.proofs.StoredServe.{stored_serve}
use Rattle.gp_kept.proofs.ViewsPass.{all_sound, output_sound, output_serves, stored_pass, bytes_pass}
use Rattle.gp_kept.proofs.AccessorsPass.{unstored_pass, stored_alike}

pub accessors_pass : AccessorsPass
accessors_pass t bin a f moved e read groups =
    let s = parts_stand t bin a f e read in
    let h = asset_parts t f read in
    let below : All (RefersBelow (length a.views)) f.accessors = subst (λ k. All (RefersBelow k) f.accessors) s.views (references_below (length f.views) t f.accessors h.accessors) in
    stored_alike moved a (all_accessors_fields moved a f.accessors) ∙ unstored_pass moved a f.accessors groups s.ruled below

-- the fields of an asset's views break no rule
views_sound : (t : PlainTree) (bin : Option (List ℕ)) (a : AssetParts) (f : AssetFields) → asset Plain t bin ≡ Ok a → asset_fields t ≡ Ok f → AllZip Sound f.views a.views
views_sound t bin a f e read =
    asset_holds Plain t bin a e (λ g used r h all.
    let rules = rules_hold g.buffers g.views g.accessors bin r h.by_rule in
    subst (λ (b : AssetParts). AllZip Sound f.views b.views) all
    (subst (λ (fields : AssetFields). AllZip Sound fields.views r.views) (same_fields g f (sym h.has_fields ∙ read)) (all_sound g.buffers 0 g.views r.views rules.all_views)))

pub views_pass : ViewsPass
views_pass t bin a f moved e read groups =
    stored_pass (output_fields moved a f.views) (unstored_views moved a) (output_views moved a)
    (output_sound moved a f.views (views_sound t bin a f e read) groups)
    (output_serves moved a (stored_serve t bin a moved e) groups)

-- ---- all rules but the load

abbrev unloaded_on : List (Option (List ℕ)) → List View → List Accessor → Checked RuledParts
unloaded_on bs vs xs = Ok (ruled_by bs vs xs)

abbrev accessors_unloaded : List AccessorFields → List (Option (List ℕ)) → List View → Checked RuledParts
accessors_unloaded accessors bs vs = each (accessor_of vs) 0 accessors >>= λ xs. unloaded_on bs vs xs

abbrev views_unloaded : List BufferFields → List ViewFields → List AccessorFields → List (Option (List ℕ)) → Checked RuledParts
views_unloaded buffers views accessors bs = each (view_of buffers) 0 views >>= λ vs. accessors_unloaded accessors bs vs

load_behind : (bs : List (Option (List ℕ))) (vs : List View) (found : Checked (List Accessor))
    → (found >>= λ xs. load_on bs vs xs) ≡ ((found >>= λ xs. unloaded_on bs vs xs) >>= with_load)
load_behind bs vs (Ok xs) = refl
load_behind bs vs (Err fault) = refl

views_behind : (accessors : List AccessorFields) (bs : List (Option (List ℕ))) (found : Checked (List View))
    → (found >>= λ vs. accessors_on accessors bs vs) ≡ ((found >>= λ vs. accessors_unloaded accessors bs vs) >>= with_load)
views_behind accessors bs (Ok vs) = load_behind bs vs (each (accessor_of vs) 0 accessors)
views_behind accessors bs (Err fault) = refl

buffers_behind : (buffers : List BufferFields) (views : List ViewFields) (accessors : List AccessorFields) (found : Checked (List (Option (List ℕ))))
    → (found >>= λ bs. views_on buffers views accessors bs) ≡ ((found >>= λ bs. views_unloaded buffers views accessors bs) >>= with_load)
buffers_behind buffers views accessors (Ok bs) = views_behind accessors bs (each (view_of buffers) 0 views)
buffers_behind buffers views accessors (Err fault) = refl

pub load_last : LoadIsLast
unfolding by_rules by_each_rule
load_last buffers views accessors bin = buffers_behind buffers views accessors (each (buffer_of views bin) 0 buffers)

-- what passes step by step passes
unloaded_pass : (buffers : List BufferFields) (views : List ViewFields) (accessors : List AccessorFields) (bin : Option (List ℕ)) (r : RuledParts)
    → each (buffer_of views bin) 0 buffers ≡ Ok r.buffers → each (view_of buffers) 0 views ≡ Ok r.views → each (accessor_of r.views) 0 accessors ≡ Ok r.accessors
    → by_each_rule buffers views accessors bin ≡ Ok r
unfolding by_each_rule
unloaded_pass buffers views accessors bin r b v x =
    ap (λ found. found >>= λ bs. views_unloaded buffers views accessors bs) b
    ∙ ap (λ found. found >>= λ vs. accessors_unloaded accessors r.buffers vs) v
    ∙ ap (λ found. found >>= λ xs. unloaded_on r.buffers r.views xs) x

pub rules_pass_moved : RulesPassMoved
rules_pass_moved t bin a f moved more chunk e read groups has =
    unloaded_pass (stored_buffers (output_views moved a)) (packed_views_fields moved a f) (all_accessors_fields moved a f.accessors) chunk (packed_ruled moved a more)
    (bytes_pass moved a f more chunk (parts_stand t bin a f e read).views has)
    (views_pass t bin a f moved e read groups)
    (accessors_pass t bin a f moved e read groups)
