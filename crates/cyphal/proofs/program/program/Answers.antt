use Rattle.std.proofs.Common.{◌∙◌, inl, inr, ap, sym}
use Rattle.cyphal.specs.Cause.{is_refusal}
use Rattle.cyphal.proofs.Ended.{is_ok, is_read_fault, is_refused_by}
use Rattle.cyphal.proofs.program.program.Goals as goal

pub returns-clause-ended : goal.returns-clause-ended
returns-clause-ended g c own =
    let done = c.run_words-done in record {
      stat = done.result.status;
      numbers = done.result.numbers;
      code_is = c.code_of.ensures;
      answered = done.ensures.answered;
      said = done.ensures.said;
    }

pub returns-clause-quiet : goal.returns-clause-quiet
returns-clause-quiet g c code =
    let done = c.run_words-done in done.ensures.quiet (is_ok done.result.status (sym c.code_of.ensures ∙ code))

pub returns-clause-needed : goal.returns-clause-needed
returns-clause-needed g c code quiet =
    let done = c.run_words-done in
    done.ensures.needed (is_read_fault done.result.status (sym c.code_of.ensures ∙ code)) quiet

pub returns-clause-called : goal.returns-clause-called
returns-clause-called g c due =
    let done = c.run_words-done in
    done.ensures.called (elim due [ inl unserved ↦ inl unserved | inr number ↦ inr (is_refused_by done.result.status (ap is_refusal (sym c.code_of.ensures) ∙ number)) ])
