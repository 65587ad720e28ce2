use Rattle.std.proofs.Common.{◌∙◌, sym, ap}
use Rattle.std.specs.Option.{option_map as map_of}
use Rattle.tail_frame.specs.Frames.{seen}
use Rattle.log_explain.proofs.Frames.{place_none}
use Rattle.log_explain.proofs.explaining.Explaining.hear_nowhere.Goals as goal

pub pass_by-requires-clause-nowhere : goal.pass_by-requires-clause-nowhere
pass_by-requires-clause-nowhere c =
    place_none c.args.self.now.node c.args.rec.now (seen c.in-Some.frame) (sym c.frame_of.ensures.value ∙ ap (map_of seen) c.in-Some.is) c.in-Some.ensures.ranges.2 c.requires.nowhere
