use Rattle.std.proofs.lemmas.Result.{on_ok_weaker}
use Rattle.gp_glb.proofs.Appending.{put_header_is}
use Rattle.gp_glb.proofs.joining.put_header.Goals as goal

pub returns : goal.returns
returns c = on_ok_weaker c.put_word-3.result (λ third. put_header_is c.args.out.now.items _ _ _ c.args.total c.in_ok-put_word.ensures c.in_ok-put_word-2.ensures third) c.put_word-3.ensures
