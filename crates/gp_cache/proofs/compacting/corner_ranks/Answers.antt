use Rattle.std.proofs.Common.{[], ◌∷◌, get_or}
use Rattle.std.proofs.lemmas.List.Elements.{Contains-get_or, Contains-append_right}
use Rattle.gp_cache.proofs.compacting.corner_ranks.Goals as goal

pub rank-requires-clause-stands : goal.rank-requires-clause-stands
rank-requires-clause-stands c =
    let list = c.args.list.now in
    let vertex = get_or list c.corners.at 0 in
    c.requires.own.keeps vertex (Contains-append_right (0 ∷ []) list vertex (Contains-get_or list c.corners.at 0 c.corners-test.true))
