use Rattle.std.proofs.Common.{refl}
use Rattle.gp_app.proofs.Asking.{ends_bundle, ends_pair, completes_pair}
use Rattle.gp_app.proofs.running_in.run_in.Goals as goal

pub returns-in-Some-Bundle-clause-ends : goal.returns-in-Some-Bundle-clause-ends
returns-in-Some-Bundle-clause-ends g c =
    ends_bundle _ _ _ c.in-Some-Bundle.is c.wide_command.ensures.value c.wide_command.ensures.names _ _ _ c.in-Some-Bundle.field-0-is
    _ (c.index-words-1.result, c.index-words-1.is, c.deref.ensures) (c.do_bundle.ensures.ends (g.S.Source.state c.args.input.now)) refl

pub returns-in-Some-Pair-clause-ends : goal.returns-in-Some-Pair-clause-ends
returns-in-Some-Pair-clause-ends g c =
    ends_pair _ _ _ c.in-Some-Pair.is c.wide_command.ensures.value c.wide_command.ensures.names _ _ _ c.in-Some-Pair.field-0-is
    _ _ (c.index-words-1-in-Some-Pair.result, c.index-words-1-in-Some-Pair.is, c.deref-in-Some-Pair.ensures)
    (c.index-words-2.result, c.index-words-2.is, c.deref-in-Some-Pair-2.ensures)
    (c.do_pair.ensures.ends (g.S.Source.state c.args.input.now) (g.K.Sink.state c.args.output.now)) refl

pub returns-in-Some-Pair-clause-complete : goal.returns-in-Some-Pair-clause-complete
returns-in-Some-Pair-clause-complete g c taking =
    completes_pair _ _ _ c.in-Some-Pair.is c.wide_command.ensures.value c.wide_command.ensures.names _ _ _ c.in-Some-Pair.field-0-is
    _ (c.index-words-1-in-Some-Pair.result, c.index-words-1-in-Some-Pair.is, c.deref-in-Some-Pair.ensures)
    (c.do_pair.ensures.complete (g.S.Source.state c.args.input.now) (g.K.Sink.state c.args.output.now))
