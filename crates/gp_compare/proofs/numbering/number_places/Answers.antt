use Rattle.std.specs.Prelude.{length}
use Rattle.std.proofs.Common.{◌≡◌, arith, subst}
use Rattle.gp_compare.specs.Joined.{record_of, Given}
use Rattle.gp_compare.proofs.Giving.{none_given}
use Rattle.gp_compare.proofs.numbering.number_places.Goals as goal

pub places-init : goal.places-init
places-init c =
    let rows = c.args.rows in
    none_given (record_of rows.size rows.of_first rows.first.now rows.second.now) c.args.places.now c.args.numbers.now

pub returns : goal.returns
returns c =
    let rows = c.args.rows in
    let all : c.places.at ≡ length c.args.places.now = omega arith in
    subst (Given (record_of rows.size rows.of_first rows.first.now rows.second.now) c.args.places.now c.places.numbers c.places.count) all c.places.invariant
