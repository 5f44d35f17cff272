use Rattle.std.proofs.Common.{◌≡◌, List, ℕ, Option, Ok, Err, Vec, Global, true, false, map, refl, sym, subst}
use Rattle.gp_fields.specs.Fields.{BufferFields, ViewFields, AccessorFields}
use Rattle.gp_rules.specs.declared.fault.AssetFault.TheVariants.{TooMuchData}
use Rattle.gp_rules.specs.declared.fault.AssetRefusal.TheVariants.{Fault}
use Rattle.gp_rules.specs.declared.storage.View.{View}
use Rattle.gp_rules.specs.declared.accessing.Accessor.{Accessor}
use Rattle.gp_asset.specs.declared.buffers.BufferBytes.{BufferBytes}
use Rattle.gp_asset.specs.Stored.{bytes_in}
use Rattle.gp_fields.specs.Record.{◌>>=◌}
use Rattle.gp_rules.specs.Checks.{Checked, Answers, each, unless}
use Rattle.gp_rules.specs.Views.{view_of}
use Rattle.gp_rules.specs.Accessors.{accessor_of, is_too_much}
use Rattle.gp_asset.specs.Asset.{RuledParts, by_rules}
use Rattle.gp_asset.proofs.Steps.{found, failed, refused, passed_by}
use Rattle.gp_asset.proofs.reading.read_by_rules.Goals as goal

-- what is left after the accessors, after the views, and after the buffers
abbrev ruled : List (Option (List ℕ)) → List View → List Accessor → RuledParts
ruled bs vs xs = record { buffers = bs; views = vs; accessors = xs }

abbrev load_on : List (Option (List ℕ)) → List View → List Accessor → Checked RuledParts
load_on bs vs xs = unless (is_too_much vs xs) TooMuchData (Ok (ruled bs vs xs))

abbrev accessors_on : List AccessorFields → List (Option (List ℕ)) → List View → Checked RuledParts
accessors_on accessors bs vs = each (accessor_of vs) 0 accessors >>= λ xs. load_on bs vs xs

abbrev views_on : List BufferFields → List ViewFields → List AccessorFields → List (Option (List ℕ)) → Checked RuledParts
views_on buffers views accessors bs = each (view_of buffers) 0 views >>= λ vs. accessors_on accessors bs vs

pub returns-in-Err : goal.returns-in-Err
unfolding by_rules
returns-in-Err c =
    failed {S = Vec BufferBytes Global} _ (λ v. map bytes_in v.items) (λ bs. views_on c.args.buffer_fields.now c.args.view_fields.now c.args.accessor_fields.now bs) (λ a. a)
    c.in-Err.refusal c.in-Err.ensures

pub returns-in-Err-read_views : goal.returns-in-Err-read_views
unfolding by_rules
returns-in-Err-read_views c =
    let bs = map bytes_in c.in-Ok.buffers.items in
    found (λ bs. views_on c.args.buffer_fields.now c.args.view_fields.now c.args.accessor_fields.now bs) (λ a. a) (Err c.in-Err-read_views.refusal) c.in-Ok.ensures
    (failed {S = Vec View Global} _ (λ v. v.items) (λ vs. accessors_on c.args.accessor_fields.now bs vs) (λ a. a) c.in-Err-read_views.refusal c.in-Err-read_views.ensures)

pub returns-in-Err-read_accessors : goal.returns-in-Err-read_accessors
unfolding by_rules
returns-in-Err-read_accessors c =
    let bs = map bytes_in c.in-Ok.buffers.items in
    let vs = c.in-Ok-read_views.views.items in
    let e = c.in-Err-read_accessors.refusal in
    found (λ bs. views_on c.args.buffer_fields.now c.args.view_fields.now c.args.accessor_fields.now bs) (λ a. a) (Err e) c.in-Ok.ensures
    (found (λ vs. accessors_on c.args.accessor_fields.now bs vs) (λ a. a) (Err e) c.in-Ok-read_views.ensures
    (failed {S = Vec Accessor Global} _ (λ v. v.items) (λ xs. load_on bs vs xs) (λ a. a) e
    (subst (λ vs. Answers {B = Vec Accessor Global} (each (accessor_of vs) 0 c.args.accessor_fields.now) (λ v. v.items) (Err e)) c.deref.ensures.value c.in-Err-read_accessors.ensures)))

pub returns-then-is_too_much : goal.returns-then-is_too_much
unfolding by_rules
returns-then-is_too_much c =
    let bs = map bytes_in c.in-Ok.buffers.items in
    let vs = c.in-Ok-read_views.views.items in
    let xs = c.in-Ok-read_accessors.accessors.items in
    let e = Fault TooMuchData in
    let read = subst (λ vs. each (accessor_of vs) 0 c.args.accessor_fields.now ≡ Ok xs) c.deref.ensures.value c.in-Ok-read_accessors.ensures in
    let much = subst (λ vs. true ≡ is_too_much vs xs) c.deref-2.ensures.value (subst (λ xs. true ≡ is_too_much c.deref-2.result.now xs) c.deref-3.ensures.value c.if-is_too_much.ensures) in
    found (λ bs. views_on c.args.buffer_fields.now c.args.view_fields.now c.args.accessor_fields.now bs) (λ (a : RuledParts). a) (Err e) c.in-Ok.ensures
    (found (λ vs. accessors_on c.args.accessor_fields.now bs vs) (λ (a : RuledParts). a) (Err e) c.in-Ok-read_views.ensures
    (found (λ xs. load_on bs vs xs) (λ (a : RuledParts). a) (Err e) read
    (refused TooMuchData (Ok (ruled bs vs xs)) (λ a. a) (sym much))))

pub returns : goal.returns
unfolding by_rules
returns c =
    let bs = map bytes_in c.in-Ok.buffers.items in
    let vs = c.in-Ok-read_views.views.items in
    let xs = c.in-Ok-read_accessors.accessors.items in
    let read = subst (λ vs. each (accessor_of vs) 0 c.args.accessor_fields.now ≡ Ok xs) c.deref.ensures.value c.in-Ok-read_accessors.ensures in
    let little = subst (λ vs. false ≡ is_too_much vs xs) c.deref-2.ensures.value (subst (λ xs. false ≡ is_too_much c.deref-2.result.now xs) c.deref-3.ensures.value c.if-is_too_much.ensures) in
    found (λ bs. views_on c.args.buffer_fields.now c.args.view_fields.now c.args.accessor_fields.now bs) (λ (a : RuledParts). a) (Ok (ruled bs vs xs)) c.in-Ok.ensures
    (found (λ vs. accessors_on c.args.accessor_fields.now bs vs) (λ (a : RuledParts). a) (Ok (ruled bs vs xs)) c.in-Ok-read_views.ensures
    (found (λ xs. load_on bs vs xs) (λ (a : RuledParts). a) (Ok (ruled bs vs xs)) read
    (passed_by TooMuchData (Ok (ruled bs vs xs)) (λ a. a) (Ok (ruled bs vs xs)) (sym little) refl)))
