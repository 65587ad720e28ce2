use Rattle.std.proofs.Common.{◌≡◌, ◌++◌}
use Rattle.line_text.specs.Buffer.{text_of}
use Rattle.log_gen.specs.Rules.{line_of, times}
use Rattle.log_gen.proofs.line.put_copies.Given as goal

abbrev pub invariant-loop : goal.invariant-loop
invariant-loop l = text_of l.text ≡ text_of l.initial.text ++ times l.counter (line_of l.row l.bytes)
