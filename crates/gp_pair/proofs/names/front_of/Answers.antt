use Rattle.std.proofs.Common.{◌≡◌, ◌+◌, ◌-◌, lit<, arith}
use Rattle.std.proofs.lemmas.Str.Pattern.{rfind_char}
use Rattle.gp_pair.proofs.SafeNames.{front_none, front_at}
use Rattle.gp_pair.proofs.names.front_of.Goals as goal

pub returns-in-Some : goal.returns-in-Some
returns-in-Some c =
    let found = rfind_char 47 c.args.name.now c.rfind.result c.rfind.ensures.cases (lit< tt) in
    let at = rw c.in-Some.is at found in
    let whole : c.in-Some.at + 1 - 0 ≡ c.in-Some.at + 1 = omega arith in
    rw (c.range.ensures.value, whole) (front_at c.args.name.now c.in-Some.at at.0 at.1 at.2)

pub returns-in-None : goal.returns-in-None
returns-in-None c =
    let found = rfind_char 47 c.args.name.now c.rfind.result c.rfind.ensures.cases (lit< tt) in
    front_none c.args.name.now (rw c.in-None.is at found)
