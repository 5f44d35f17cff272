use Rattle.std.proofs.Common.{◌≡◌, Err, length, arith}
use Rattle.std.proofs.lemmas.Result.{err_from_is_err_and}
use Rattle.gp_tree.specs.Plain.{plain}
use Rattle.gp_fields.specs.Left.{meshes_on}
use Rattle.gp_fields.proofs.Steps.{views, accessors, views_on, accessors_on, found, counted, failed}
use Rattle.gp_fields.proofs.whole.read_from_buffers.Goals as goal

pub returns-in_err-views : goal.returns-in_err-views
returns-in_err-views c =
    let p = err_from_is_err_and c.from_residual-in_err-views.result c.from_residual-in_err-views.ensures.1 in
    let t = plain c.args.root.now in
    let bs = c.in_ok-buffers.buffers.items in
    let n : c.len.result ≡ length c.in_ok-buffers.buffers.items = omega (arith, c.len.ensures, c.in_ok-buffers.buffers.ok.0) in
    let e = c.in_err-views.field-0.0 in
    rw (p.1, p.2) (found (λ bs. views_on bs t) (Err e) c.in_ok-buffers.ensures
    (failed (views t) (λ vs. accessors_on bs vs t) e n c.in_err-views.ensures))

pub returns-in_err-accessors : goal.returns-in_err-accessors
returns-in_err-accessors c =
    let p = err_from_is_err_and c.from_residual-in_err-accessors.result c.from_residual-in_err-accessors.ensures.1 in
    let t = plain c.args.root.now in
    let bs = c.in_ok-buffers.buffers.items in
    let n : c.len.result ≡ length c.in_ok-buffers.buffers.items = omega (arith, c.len.ensures, c.in_ok-buffers.buffers.ok.0) in
    let vs = c.in_ok-views.views.items in
    let m : c.len-2.result ≡ length c.in_ok-views.views.items = omega (arith, c.len-2.ensures, c.in_ok-views.views.ok.0) in
    let e = c.in_err-accessors.field-0.0 in
    rw (p.1, p.2) (found (λ bs. views_on bs t) (Err e) c.in_ok-buffers.ensures
    (counted (views t) (λ vs. accessors_on bs vs t) (Err e) n c.in_ok-views.ensures
    (failed (accessors t) (λ xs. meshes_on bs vs xs t) e m c.in_err-accessors.ensures)))

pub returns : goal.returns
returns c =
    let t = plain c.args.root.now in
    let bs = c.in_ok-buffers.buffers.items in
    let n : c.len.result ≡ length c.in_ok-buffers.buffers.items = omega (arith, c.len.ensures, c.in_ok-buffers.buffers.ok.0) in
    let vs = c.in_ok-views.views.items in
    let m : c.len-2.result ≡ length c.in_ok-views.views.items = omega (arith, c.len-2.ensures, c.in_ok-views.views.ok.0) in
    let r = c.read_from_meshes.result in
    found (λ bs. views_on bs t) r c.in_ok-buffers.ensures
    (counted (views t) (λ vs. accessors_on bs vs t) r n c.in_ok-views.ensures
    (counted (accessors t) (λ xs. meshes_on bs vs xs t) r m c.in_ok-accessors.ensures c.read_from_meshes.ensures))
