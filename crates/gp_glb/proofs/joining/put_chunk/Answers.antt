use Rattle.std.proofs.Common.{refl}
use Rattle.gp_glb.proofs.Appending.{put_chunk_is}
use Rattle.gp_glb.proofs.joining.put_chunk.Goals as goal

pub returns : goal.returns
returns c =
    put_chunk_is c.args.out.now.items _ _ _ _ c.args.content.now c.args.kind c.args.filler _ _ c.in_ok-put_word.ensures c.in_ok-put_word-2.ensures c.in_ok-extend_from_slice.ensures.items c.in_ok-extend_from_slice-2.ensures.items refl refl
