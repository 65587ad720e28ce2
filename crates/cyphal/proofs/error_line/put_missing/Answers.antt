use Rattle.std.proofs.Common.{◌≡◌, List, ℕ, OnOk, subst}
use Rattle.cy_outside.specs.Written.{behind}
use Rattle.cyphal.proofs.Parts.{three}
use Rattle.cyphal.proofs.error_line.put_missing.Goals as goal

pub returns-clause-written : goal.returns-clause-written
returns-clause-written g c =
    subst (λ (line : List ℕ). OnOk c.put_parts.result (g.E.Sink.written c.put_parts.new.err ≡ behind (g.E.Sink.written c.args.err.now) line))
    (three _ _ _ _ _ _ c.as_slice.ensures c.as_bytes.ensures.value c.as_slice-2.ensures) c.put_parts.ensures.written
