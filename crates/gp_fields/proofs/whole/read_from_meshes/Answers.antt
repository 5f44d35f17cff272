use Rattle.std.proofs.Common.{◌≡◌, Result, Ok, Err, length, refl, arith}
use Rattle.gp_fields.specs.declared.fault.FieldRefusal.{FieldRefusal}
use Rattle.gp_fields.specs.Record.{AssetFields}
use Rattle.std.proofs.lemmas.Result.{err_from_is_err_and}
use Rattle.gp_tree.specs.Plain.{plain}
use Rattle.gp_fields.proofs.Steps.{meshes, skins, animations, images, skins_on, animations_on, images_on, counted, failed}
use Rattle.gp_fields.proofs.whole.read_from_meshes.Goals as goal

pub returns-in_err-meshes : goal.returns-in_err-meshes
returns-in_err-meshes c =
    let p = err_from_is_err_and c.from_residual.result c.from_residual.ensures.1 in
    let t = plain c.args.root.now in
    let bs = c.args.buffers.items in
    let vs = c.args.views.items in
    let xs = c.args.accessors.items in
    let n1 : c.len.result ≡ length c.args.accessors.items = omega (arith, c.len.ensures, c.args.accessors.ok.0) in
    let e = c.in_err-meshes.field-0.0 in
    rw (p.1, p.2) (failed (meshes t) (λ ms. skins_on bs vs xs ms t) e n1 c.in_err-meshes.ensures)

pub returns-in_err-skins : goal.returns-in_err-skins
returns-in_err-skins c =
    let p = err_from_is_err_and c.from_residual-in_err-skins.result c.from_residual-in_err-skins.ensures.1 in
    let t = plain c.args.root.now in
    let bs = c.args.buffers.items in
    let vs = c.args.views.items in
    let xs = c.args.accessors.items in
    let n1 : c.len.result ≡ length c.args.accessors.items = omega (arith, c.len.ensures, c.args.accessors.ok.0) in
    let n2 : c.len-2.result ≡ length c.args.accessors.items = omega (arith, c.len-2.ensures, c.args.accessors.ok.0) in
    let ms = c.in_ok-meshes.meshes.items in
    let e = c.in_err-skins.field-0.0 in
    rw (p.1, p.2) (counted (meshes t) (λ ms. skins_on bs vs xs ms t) (Err e) n1 c.in_ok-meshes.ensures
    (failed (skins t) (λ ss. animations_on bs vs xs ms ss t) e n2 c.in_err-skins.ensures))

pub returns-in_err-animations : goal.returns-in_err-animations
returns-in_err-animations c =
    let p = err_from_is_err_and c.from_residual-in_err-animations.result c.from_residual-in_err-animations.ensures.1 in
    let t = plain c.args.root.now in
    let bs = c.args.buffers.items in
    let vs = c.args.views.items in
    let xs = c.args.accessors.items in
    let n1 : c.len.result ≡ length c.args.accessors.items = omega (arith, c.len.ensures, c.args.accessors.ok.0) in
    let n2 : c.len-2.result ≡ length c.args.accessors.items = omega (arith, c.len-2.ensures, c.args.accessors.ok.0) in
    let n3 : c.len-3.result ≡ length c.args.accessors.items = omega (arith, c.len-3.ensures, c.args.accessors.ok.0) in
    let ms = c.in_ok-meshes.meshes.items in
    let ss = c.in_ok-skins.skins.items in
    let e = c.in_err-animations.field-0.0 in
    rw (p.1, p.2) (counted (meshes t) (λ ms. skins_on bs vs xs ms t) (Err e) n1 c.in_ok-meshes.ensures
    (counted (skins t) (λ ss. animations_on bs vs xs ms ss t) (Err e) n2 c.in_ok-skins.ensures
    (failed (animations t) (λ ns. images_on bs vs xs ms ss ns t) e n3 c.in_err-animations.ensures)))

pub returns-in_err-images : goal.returns-in_err-images
returns-in_err-images c =
    let p = err_from_is_err_and c.from_residual-in_err-images.result c.from_residual-in_err-images.ensures.1 in
    let t = plain c.args.root.now in
    let bs = c.args.buffers.items in
    let vs = c.args.views.items in
    let xs = c.args.accessors.items in
    let n1 : c.len.result ≡ length c.args.accessors.items = omega (arith, c.len.ensures, c.args.accessors.ok.0) in
    let n2 : c.len-2.result ≡ length c.args.accessors.items = omega (arith, c.len-2.ensures, c.args.accessors.ok.0) in
    let n3 : c.len-3.result ≡ length c.args.accessors.items = omega (arith, c.len-3.ensures, c.args.accessors.ok.0) in
    let n4 : c.len-4.result ≡ length c.args.views.items = omega (arith, c.len-4.ensures, c.args.views.ok.0) in
    let ms = c.in_ok-meshes.meshes.items in
    let ss = c.in_ok-skins.skins.items in
    let ns = c.in_ok-animations.animations.items in
    let e = c.in_err-images.field-0.0 in
    rw (p.1, p.2) (counted (meshes t) (λ ms. skins_on bs vs xs ms t) (Err e) n1 c.in_ok-meshes.ensures
    (counted (skins t) (λ ss. animations_on bs vs xs ms ss t) (Err e) n2 c.in_ok-skins.ensures
    (counted (animations t) (λ ns. images_on bs vs xs ms ss ns t) (Err e) n3 c.in_ok-animations.ensures
    (failed (images t) (λ is. Ok (record { buffers = bs; views = vs; accessors = xs; meshes = ms; skins = ss; animations = ns; images = is })) e n4 c.in_err-images.ensures))))

pub returns : goal.returns
returns c =
    let t = plain c.args.root.now in
    let bs = c.args.buffers.items in
    let vs = c.args.views.items in
    let xs = c.args.accessors.items in
    let n1 : c.len.result ≡ length c.args.accessors.items = omega (arith, c.len.ensures, c.args.accessors.ok.0) in
    let n2 : c.len-2.result ≡ length c.args.accessors.items = omega (arith, c.len-2.ensures, c.args.accessors.ok.0) in
    let n3 : c.len-3.result ≡ length c.args.accessors.items = omega (arith, c.len-3.ensures, c.args.accessors.ok.0) in
    let n4 : c.len-4.result ≡ length c.args.views.items = omega (arith, c.len-4.ensures, c.args.views.ok.0) in
    let ms = c.in_ok-meshes.meshes.items in
    let ss = c.in_ok-skins.skins.items in
    let ns = c.in_ok-animations.animations.items in
    let is = c.in_ok-images.images.items in
    let r : Result AssetFields FieldRefusal = Ok (record { buffers = bs; views = vs; accessors = xs; meshes = ms; skins = ss; animations = ns; images = is }) in
    counted (meshes t) (λ ms. skins_on bs vs xs ms t) r n1 c.in_ok-meshes.ensures
    (counted (skins t) (λ ss. animations_on bs vs xs ms ss t) r n2 c.in_ok-skins.ensures
    (counted (animations t) (λ ns. images_on bs vs xs ms ss ns t) r n3 c.in_ok-animations.ensures
    (counted (images t) (λ is. Ok (record { buffers = bs; views = vs; accessors = xs; meshes = ms; skins = ss; animations = ns; images = is })) r n4 c.in_ok-images.ensures refl)))
