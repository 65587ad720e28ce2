use Rattle.std.proofs.Common.{◌≡◌, ◌∙◌, List, ℕ, OnOk, subst, refl}
use Rattle.cy_outside.specs.Written.{behind}
use Rattle.cyphal.proofs.Parts.{eight}
use Rattle.cyphal.proofs.error_line.put_unreadable.Goals as goal

pub returns-clause-written : goal.returns-clause-written
returns-clause-written g c =
    subst (λ (line : List ℕ). OnOk c.put_parts.result (g.E.Sink.written c.put_parts.new.err ≡ behind (g.E.Sink.written c.args.err.now) line))
    (eight _ _ _ c.args.word.now _ _ _ _ _ _ _ _ _ _ _ _ c.as_slice.ensures (c.as_bytes-line_digits.ensures.value ∙ c.format.ensures.text) c.as_slice-2.ensures refl (c.as_bytes-number_digits.ensures.value ∙ c.format-2.ensures.text) c.as_slice-3.ensures c.as_bytes.ensures.value c.as_slice-4.ensures) c.put_parts.ensures.written
