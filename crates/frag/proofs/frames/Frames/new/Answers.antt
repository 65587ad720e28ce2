use Rattle.std.proofs.Common.{refl}
use Rattle.frag.proofs.Trailers.{all_frames}
use Rattle.frag.proofs.frames.Frames.new.Goals as goal

pub returns : goal.returns
returns c = all_frames c.args.mtu c.args.tid c.count.result c.args.payload.now c.trailer.result c.trailer.ensures.value (c.count.ensures c.args.payload.now refl)
