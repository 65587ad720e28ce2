use Rattle.std.proofs.Common.{◌≡◌, ◌++◌}
use Rattle.frag.specs.Wire.{frames}
use Rattle.line_text.specs.Buffer.{text_of}
use Rattle.node_reach.specs.Lines.{tx_on}
use Rattle.node_reach.proofs.lines.put_on_bus.Given as goal

-- the lines so far, with those of the frames that are left
abbrev pub invariant-loop-bytes : goal.invariant-loop-bytes
invariant-loop-bytes l =
    text_of l.text ++ tx_on l.sent.moment l.sent.ident l.bus l.bytes-iterator
    ≡ text_of l.initial.text ++ tx_on l.sent.moment l.sent.ident l.bus (frames 8 l.sent.payload.now l.sent.tid)
