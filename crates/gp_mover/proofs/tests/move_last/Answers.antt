use Rattle.std.proofs.Common.{◌≡◌, ◌<◌, true, List, [], ◌∷◌, ◌++◌, ℕ, length, Some, slice_get, refl, sym, ap, ◌∙◌, subst}
use Rattle.std.specs.List.{All}
use Rattle.gp_asset.specs.Asset.{AssetParts}
use Rattle.gp_elements.specs.Held.{contents_of}
use Rattle.gp_alias.specs.declared.group.Group.{Group}
use Rattle.gp_alias.specs.Movable.{is_movable, groups}
use Rattle.gp_alias.proofs.ClassLaws.{groups_say_what_moves}
use Rattle.gp_mover.specs.MovedParts.{record_size}
use Rattle.gp_mover.proofs.Kept.{columns_are_there}
use Rattle.gp_mover.proofs.tests.move_last.Goals as goal

last_is : (rest : List Group) (g : Group) → slice_get (rest ++ g ∷ []) (length rest) ≡ Some g
last_is [] g = refl
last_is (x ∷ xs) g = last_is xs g

last_moves : (a : AssetParts) (contents : List (List ℕ)) (all rest : List Group) (g : Group) → all ≡ groups a contents → all ≡ rest ++ g ∷ [] → g.movable ≡ true → is_movable a contents g ≡ true
last_moves a contents all rest g are is says =
    sym (groups_say_what_moves a contents (length rest) g (ap (λ (gs : List Group). slice_get gs (length rest)) (sym are ∙ is) ∙ last_is rest g)) ∙ says

pub move_group-requires-clause-movable : goal.move_group-requires-clause-movable
move_group-requires-clause-movable g c =
    last_moves c.args.asset.now (contents_of (g.V.ViewBytes.views c.args.views.now)) c.into_vec-all.result.items c.pop.new.self.items c.in-Some.group (c.into_vec-all.ensures ∙ c.in_ok-groups.ensures) c.in-Some.ensures.items c.if-not-group.false

pub column_bytes-requires-clause-known : goal.column_bytes-requires-clause-known
column_bytes-requires-clause-known g c =
    let a = c.args.asset.now in
    let contents = contents_of (g.V.ViewBytes.views c.args.views.now) in
    let movable =
    last_moves a contents c.into_vec-all.result.items c.pop.new.self.items c.in-Some.group (c.into_vec-all.ensures ∙ c.in_ok-groups.ensures) c.in-Some.ensures.items c.if-not-group.false in
    subst (λ (moved : Group). All (λ k. k < length a.accessors) moved.columns) (sym c.in_ok-moved.ensures.group) (columns_are_there a contents c.in-Some.group movable)

pub column_bytes-requires-clause-size : goal.column_bytes-requires-clause-size
column_bytes-requires-clause-size g c =
    c.in_ok-moved.ensures.size ∙ ap (λ (moved : Group). record_size c.args.asset.now moved.columns) (sym c.in_ok-moved.ensures.group)
