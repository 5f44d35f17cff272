use Rattle.std.proofs.Common.{◌<◌, ◌≤◌, ◌++◌, [], ◌∷◌, List, ℕ, length, get_or, ap, ◌∙◌, arith}
use Rattle.std.proofs.lemmas.List.Elements.{All-get_or}
use Rattle.gp_mover.specs.Standing.{parts_of}
use Rattle.gp_pack.specs.MadeParts.{column_parts}
use Rattle.gp_pack.proofs.MadeGroups.{one_column, all_columns, first_column}
use Rattle.gp_kept.proofs.RecordsRead.{found_at}
use Rattle.gp_pack.proofs.making.push_columns.Goals as goal

pub columns-init : goal.columns-init
unfolding parts_of
columns-init c = first_column c.args.asset.now (parts_of c.args.moved.now) c.args.parts.now.items

pub columns-preserved : goal.columns-preserved
columns-preserved c =
    let a = c.args.asset.now in
    let m = c.args.moved.now in
    let columns = m.group.columns in
    let within : c.columns.at < length columns = omega (arith, c.columns-test.true, ap (λ (l : List ℕ). length l) c.as_slice-at-end.ensures) in
    let found = found_at a.accessors (get_or columns c.columns.at 0) (All-get_or (λ k. k < length a.accessors) columns c.columns.at 0 within c.requires.known) in
    one_column a (parts_of m) (c.args.parts.now.items ++ column_parts a (parts_of m)) c.columns.parts.items c.push.new.self.items columns c.columns.at found.0
    c.columns.invariant within found.1
    (c.in_ok-push.ensures.items ∙ ap (λ p. c.columns.parts.items ++ p ∷ []) (c.in_ok-part.ensures found.0 found.1))

pub returns : goal.returns
returns c =
    let a = c.args.asset.now in
    let m = c.args.moved.now in
    let columns = m.group.columns in
    let past : length columns ≤ c.columns.at = omega (arith, c.columns-test.false, ap (λ (l : List ℕ). length l) c.as_slice-at-end.ensures) in
    all_columns a (parts_of m) (c.args.parts.now.items ++ column_parts a (parts_of m)) c.columns.parts.items columns c.columns.at c.columns.invariant past
