use Rattle.std.proofs.Common.{◌≡◌, length, refl, sym, ap, ◌∙◌, arith}
use Rattle.gp_elements.specs.Held.{contents_of}
use Rattle.gp_mover.proofs.Steps.{lent, count_some, size_is, size_some, bytes_whole, bytes_few, all_joined, is_reordered, parts_are, is_whole, stands_so}
use Rattle.gp_mover.proofs.moving.move_group.Goals as goal

pub nonzero_div-size : goal.nonzero_div-size
nonzero_div-size g c =
    let n_is : c.len.result ≡ length c.in_ok-bytes.bytes.items = omega (arith, c.len.ensures, c.in_ok-bytes.bytes.ok) in
    count_some c.args.asset.now (g.V.ViewBytes.views c.args.views.now) c.args.group c.requires.views c.requires.sound c.requires.movable c.requires.columns c.in_ok-bytes.bytes.items c.len.result c.in_ok-bytes.ensures n_is

pub reorder-requires-clause-size : goal.reorder-requires-clause-size
reorder-requires-clause-size g c =
    let n_is : c.len.result ≡ length c.in_ok-bytes.bytes.items = omega (arith, c.len.ensures, c.in_ok-bytes.bytes.ok) in
    size_some c.args.asset.now (g.V.ViewBytes.views c.args.views.now) c.args.group c.requires.views c.requires.sound c.requires.movable c.requires.columns c.in_ok-bytes.bytes.items c.len.result c.in_ok-bytes.ensures n_is

pub reorder-requires-clause-whole : goal.reorder-requires-clause-whole
reorder-requires-clause-whole g c =
    let n_is : c.len.result ≡ length c.in_ok-bytes.bytes.items = omega (arith, c.len.ensures, c.in_ok-bytes.bytes.ok) in
    bytes_whole c.args.asset.now (g.V.ViewBytes.views c.args.views.now) c.args.group c.requires.views c.requires.sound c.requires.movable c.requires.columns c.in_ok-bytes.bytes.items c.len.result c.in_ok-bytes.ensures n_is

pub reorder-requires-clause-few : goal.reorder-requires-clause-few
reorder-requires-clause-few g c =
    let n_is : c.len.result ≡ length c.in_ok-bytes.bytes.items = omega (arith, c.len.ensures, c.in_ok-bytes.bytes.ok) in
    bytes_few c.args.asset.now (g.V.ViewBytes.views c.args.views.now) c.args.group c.requires.views c.requires.sound c.requires.movable c.requires.columns c.in_ok-bytes.bytes.items c.len.result c.in_ok-bytes.ensures n_is

pub reorder-requires-clause-joined : goal.reorder-requires-clause-joined
reorder-requires-clause-joined g c =
    let n_is : c.len.result ≡ length c.in_ok-bytes.bytes.items = omega (arith, c.len.ensures, c.in_ok-bytes.bytes.ok) in
    all_joined c.args.asset.now (g.V.ViewBytes.views c.args.views.now) c.args.group c.requires.views c.requires.sound c.requires.movable c.requires.columns c.in_ok-bytes.bytes.items c.len.result c.in_ok-bytes.ensures n_is
    c.as_slice.result.now c.deref_mut.result.now (c.deref_mut.ensures.value ∙ c.into_vec-joined.ensures ∙ c.in_ok-found.ensures.joined) (c.as_slice.ensures ∙ c.in_ok-found.ensures.ends)

pub returns-clause-parts : goal.returns-clause-parts
returns-clause-parts g c =
    let a = c.args.asset.now in
    let held = g.V.ViewBytes.views c.args.views.now in
    let n_is : c.len.result ≡ length c.in_ok-bytes.bytes.items = omega (arith, c.len.ensures, c.in_ok-bytes.bytes.ok) in
    let r = is_reordered a held c.args.group c.requires.views c.requires.sound c.requires.movable c.requires.columns c.in_ok-bytes.bytes.items c.len.result c.in_ok-bytes.ensures n_is
    c.as_slice.result.now c.deref_mut.result.now (c.deref_mut.ensures.value ∙ c.into_vec-joined.ensures ∙ c.in_ok-found.ensures.joined) (c.as_slice.ensures ∙ c.in_ok-found.ensures.ends)
    c.reorder.new.joined c.reorder.new.bytes.items c.in_ok-reorder.ensures in
    let back = lent c.into_vec-joined.result.items c.deref_mut.result.now c.reorder.new.joined c.into_vec-joined.result.len c.deref_mut.ensures.value c.reorder.auto.joined c.into_vec-joined.result.ok.0 in
    parts_are a (contents_of held) c.args.group _ refl (stands_so _ _ _ _ _ _ _ _ r c.from_vec.ensures (sym c.as_slice.ensures) (c.from_vec-2.ensures ∙ back))

pub returns-clause-size : goal.returns-clause-size
returns-clause-size g c =
    let n_is : c.len.result ≡ length c.in_ok-bytes.bytes.items = omega (arith, c.len.ensures, c.in_ok-bytes.bytes.ok) in
    size_is c.args.asset.now (g.V.ViewBytes.views c.args.views.now) c.args.group c.requires.views c.requires.sound c.requires.movable c.requires.columns c.in_ok-bytes.bytes.items c.len.result c.in_ok-bytes.ensures n_is

pub returns-clause-whole : goal.returns-clause-whole
returns-clause-whole g c =
    let a = c.args.asset.now in
    let held = g.V.ViewBytes.views c.args.views.now in
    let n_is : c.len.result ≡ length c.in_ok-bytes.bytes.items = omega (arith, c.len.ensures, c.in_ok-bytes.bytes.ok) in
    let some = size_some a held c.args.group c.requires.views c.requires.sound c.requires.movable c.requires.columns c.in_ok-bytes.bytes.items c.len.result c.in_ok-bytes.ensures n_is in
    let r = is_reordered a held c.args.group c.requires.views c.requires.sound c.requires.movable c.requires.columns c.in_ok-bytes.bytes.items c.len.result c.in_ok-bytes.ensures n_is
    c.as_slice.result.now c.deref_mut.result.now (c.deref_mut.ensures.value ∙ c.into_vec-joined.ensures ∙ c.in_ok-found.ensures.joined) (c.as_slice.ensures ∙ c.in_ok-found.ensures.ends)
    c.reorder.new.joined c.reorder.new.bytes.items c.in_ok-reorder.ensures in
    let back = lent c.into_vec-joined.result.items c.deref_mut.result.now c.reorder.new.joined c.into_vec-joined.result.len c.deref_mut.ensures.value c.reorder.auto.joined c.into_vec-joined.result.ok.0 in
    is_whole a (contents_of held) c.args.group _ some (stands_so _ _ _ _ _ _ _ _ r c.from_vec.ensures (sym c.as_slice.ensures) (c.from_vec-2.ensures ∙ back))
