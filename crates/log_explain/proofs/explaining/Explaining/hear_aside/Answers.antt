use Rattle.std.proofs.Common.{◌∙◌, sym, ap}
use Rattle.std.specs.Option.{option_map as map_of}
use Rattle.std.specs.Result.{result_ok}
use Rattle.tail_frame.specs.Frames.{seen}
use Rattle.log_explain.proofs.Frames.{place_none}
use Rattle.log_explain.proofs.explaining.Explaining.hear_aside.Goals as goal

pub pass_by-requires-clause-nowhere : goal.pass_by-requires-clause-nowhere
pass_by-requires-clause-nowhere c =
    place_none c.args.self.now.node c.args.rec.now (seen c.in-Ok.frame) (sym c.read_frame.ensures.frame ∙ ap (λ r. map_of seen (result_ok r)) c.in-Ok.is) c.in-Ok.ensures.ranges.2 c.requires.nowhere
