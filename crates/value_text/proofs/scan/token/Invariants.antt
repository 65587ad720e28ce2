use Rattle.std.proofs.Common.{take}
use Rattle.value_text.specs.Ends.{Clear, stop}
use Rattle.value_text.proofs.scan.token.Given as goal

-- the bytes so far end no text
abbrev pub invariant-loop-len : goal.invariant-loop-len
invariant-loop-len l = Clear stop (take l.len l.rest)
