use Rattle.std.proofs.Common.{◌+◌, sym, ap, ◌∙◌, subst}
use Rattle.file_client.specs.Stands.{Keeps}
use Rattle.file_client.proofs.Steps.{later, late_again}
use Rattle.file_client.proofs.fetch.Fetch.late.Goals as goal

pub returns-clause-keeps : goal.returns-clause-keeps
returns-clause-keeps c = λ limit s k.
    subst (λ v. Keeps limit v.0 c.ask.new.self) (sym (late_again s (λ e. c.if-self-eq-MOST_LATE.false (ap (λ n. n + 1) k.lates ∙ e))))
    (c.ask.ensures.keeps limit (later s) (record {
      limit_is = k.limit_is;
      count = k.count;
      file = k.file;
      tid = k.tid;
      lates = ap (λ n. n + 1) k.lates;
      end = k.end;
      asked = k.asked;
    }))

pub returns-clause-answer : goal.returns-clause-answer
returns-clause-answer c = λ limit s k.
    c.ask.ensures.answer limit (later s) (record {
      limit_is = k.limit_is;
      count = k.count;
      file = k.file;
      tid = k.tid;
      lates = ap (λ n. n + 1) k.lates;
      end = k.end;
      asked = k.asked;
    })
    ∙ sym (ap (λ v. v.1) (late_again s (λ e. c.if-self-eq-MOST_LATE.false (ap (λ n. n + 1) k.lates ∙ e))))
