use Rattle.std.proofs.Common.{◌≤◌, ◌-◌, length, take, drop, arith}
use Rattle.std.proofs.lemmas.Grind.{common_steps}
use Rattle.line_loop.specs.Held.{bytes_of}
use Rattle.line_loop.proofs.Buffers.{skip_part}
use Rattle.line_loop.proofs.held.Held.skip.Goals as goal

pub returns : goal.returns
unfolding bytes_of
returns c =
    let h = c.args.self.now in
    let r : c.args.n ≤ length (take (h.end - h.start) (drop h.start h.buffer.items)) = c.requires in
    let le : c.args.n ≤ h.end - h.start = grind (arith, common_steps) in skip_part h.buffer.items h.start h.end c.args.n le
