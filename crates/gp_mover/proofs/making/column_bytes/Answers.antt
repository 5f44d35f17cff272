use Rattle.std.proofs.Common.{◌≡◌, ◌<◌, ℕ, List, length, get_or, take, sum_by, sym, ap, ◌∙◌, arith}
use Rattle.std.specs.List.{flat_map}
use Rattle.std.proofs.lemmas.Result.{IfOk-weaker}
use Rattle.gp_rules.specs.declared.accessing.Accessor.{Accessor}
use Rattle.gp_asset.specs.Contents.{part}
use Rattle.gp_layout.specs.Row.{zero_padded}
use Rattle.gp_merge.specs.Records.{records}
use Rattle.gp_mover.specs.MadeBytes.{size_at}
use Rattle.gp_mover.proofs.Made.{sizes_are, column_is, column_within}
use Rattle.gp_mover.proofs.making.column_bytes.Goals as goal

pub offset_of-start-requires-clause-fits : goal.offset_of-start-requires-clause-fits
offset_of-start-requires-clause-fits c =
    let accessors = c.args.asset.now.accessors in
    let same : sum_by (size_at c.accessors.result.now) c.as_slice-columns.result.now ≡ sum_by (size_at accessors) c.args.moved.now.group.columns =
    ap (λ (accs : List Accessor). sum_by (size_at accs) c.as_slice-columns.result.now) c.accessors.ensures ∙ ap (λ (cols : List ℕ). sum_by (size_at accessors) cols) c.as_slice-columns.ensures in
    omega (arith, same, sizes_are accessors c.args.moved.now.group.columns, c.requires.size)

pub join_parts-requires-clause-within : goal.join_parts-requires-clause-within
join_parts-requires-clause-within c =
    let accessors = c.args.asset.now.accessors in
    let columns = c.args.moved.now.group.columns in
    let start_is : c.offset_of-start.result ≡ sum_by (size_at accessors) (take c.args.at columns) =
    c.offset_of-start.ensures ∙ ap (λ (accs : List Accessor). sum_by (size_at accs) (take c.args.at c.as_slice-columns.result.now)) c.accessors.ensures
    ∙ ap (λ (cols : List ℕ). sum_by (size_at accessors) (take c.args.at cols)) c.as_slice-columns.ensures in
    let width_is : c.size_at-width.result ≡ size_at accessors (get_or columns c.args.at 0) =
    c.size_at-width.ensures ∙ ap (λ (accs : List Accessor). size_at accs (get_or c.as_slice-columns.result.now c.args.at 0)) c.accessors-2.ensures
    ∙ ap (λ (cols : List ℕ). size_at accessors (get_or cols c.args.at 0)) c.as_slice-columns.ensures in
    column_within c.args.asset.now columns c.args.at c.offset_of-start.result c.size_at-width.result c.args.moved.now.size c.requires.within c.requires.size start_is width_is

pub returns : goal.returns
returns c accessor found =
    let accessors = c.args.asset.now.accessors in
    let columns = c.args.moved.now.group.columns in
    let start = c.offset_of-start.result in
    let width = c.size_at-width.result in
    let start_is : start ≡ sum_by (size_at accessors) (take c.args.at columns) =
    c.offset_of-start.ensures ∙ ap (λ (accs : List Accessor). sum_by (size_at accs) (take c.args.at c.as_slice-columns.result.now)) c.accessors.ensures
    ∙ ap (λ (cols : List ℕ). sum_by (size_at accessors) (take c.args.at cols)) c.as_slice-columns.ensures in
    let width_is : width ≡ size_at accessors (get_or columns c.args.at 0) =
    c.size_at-width.ensures ∙ ap (λ (accs : List Accessor). size_at accs (get_or c.as_slice-columns.result.now c.args.at 0)) c.accessors-2.ensures
    ∙ ap (λ (cols : List ℕ). size_at accessors (get_or cols c.args.at 0)) c.as_slice-columns.ensures in
    IfOk-weaker c.join_parts.result _ _
    (λ v is. is ∙ ap (λ (bytes : List ℕ). flat_map (λ r. zero_padded (part r start width)) (records c.args.moved.now.size bytes)) c.as_slice.ensures
    ∙ column_is c.args.asset.now c.args.moved.now c.args.at accessor start width c.requires.known found start_is width_is)
    c.join_parts.ensures
