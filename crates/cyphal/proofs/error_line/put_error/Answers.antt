use Rattle.std.proofs.Common.{◌≡◌, ◌∙◌, List, [], ℕ, Option, Some, None, Result, OnOk, codes, refl, ap, sym, subst, append-nil}
use Rattle.cy_outside.specs.Written.{behind}
use Rattle.cyphal.specs.ErrorLine.{numbered, unreadable, missing, error_line}
use Rattle.node_run.specs.declared.status.Status.{Status}
use Rattle.cyphal.proofs.error_line.put_error.Goals as goal

-- the line was written, which is that of the status
told : {T E : Type 0} (r : Result T E) (before after : Option (List ℕ)) (line : List ℕ) (stat : Status) → line ≡ error_line stat → OnOk r (after ≡ behind before line) → OnOk r (after ≡ behind before (error_line stat))
told r before after line stat e h = subst (λ (t : List ℕ). OnOk r (after ≡ behind before t)) e h

-- where nothing is due, what was written is all
nothing_more : (before : Option (List ℕ)) → before ≡ behind before []
nothing_more None = refl
nothing_more (Some bytes) = ap Some (sym (append-nil bytes))

pub returns-in-Ok-clause-written : goal.returns-in-Ok-clause-written
returns-in-Ok-clause-written g c =
    let before = g.E.Sink.written c.args.err.now in
    nothing_more before ∙ ap (λ (s : Status). behind before (error_line s)) (sym c.in-Ok.is)

pub returns-in-Plan-clause-written : goal.returns-in-Plan-clause-written
returns-in-Plan-clause-written g c = told _ _ _ _ c.args.status.now (ap (λ (w : List ℕ). numbered (codes "cyphal: plan line ") c.in-Plan.line w) c.plan_why_text.ensures ∙ ap error_line (sym c.in-Plan.is)) c.put_numbered.ensures.written

pub returns-in-Log-clause-written : goal.returns-in-Log-clause-written
returns-in-Log-clause-written g c = told _ _ _ _ c.args.status.now (ap (λ (w : List ℕ). numbered (codes "cyphal: log line ") c.in-Log.line w) c.log_why_text.ensures ∙ ap error_line (sym c.in-Log.is)) c.put_numbered-in-Log.ensures.written

pub returns-in-Text-clause-written : goal.returns-in-Text-clause-written
returns-in-Text-clause-written g c = told _ _ _ _ c.args.status.now (ap error_line (sym c.in-Text.is)) c.put_numbered-in-Text.ensures.written

same_line : (n : ℕ) (p q v w : List ℕ) (a b : ℕ) → p ≡ q → v ≡ w → a ≡ b → unreadable n p v a ≡ unreadable n q w b
same_line n p q v w a b e f g = λ i. unreadable n (e i) (f i) (g i)

pub returns-in-Unreadable-clause-written : goal.returns-in-Unreadable-clause-written
returns-in-Unreadable-clause-written g c = told _ _ _ _ c.args.status.now (same_line c.in-Unreadable.line _ _ _ _ _ _ c.as_str-in-Unreadable.ensures c.read_why_word-word.ensures c.read_why_number.ensures ∙ ap error_line (sym c.in-Unreadable.is)) c.put_unreadable.ensures.written

pub returns-in-LogLong-clause-written : goal.returns-in-LogLong-clause-written
returns-in-LogLong-clause-written g c = told _ _ _ _ c.args.status.now (ap error_line (sym c.in-LogLong.is)) c.put_all-in-LogLong.ensures.written

pub returns-in-NoFile-clause-written : goal.returns-in-NoFile-clause-written
returns-in-NoFile-clause-written g c = told _ _ _ _ c.args.status.now (ap missing c.as_str-in-NoFile.ensures ∙ ap error_line (sym c.in-NoFile.is)) c.put_missing.ensures.written

pub returns-in-ReadFault-clause-written : goal.returns-in-ReadFault-clause-written
returns-in-ReadFault-clause-written g c = told _ _ _ _ c.args.status.now (ap error_line (sym c.in-ReadFault.is)) c.put_all-in-ReadFault.ensures.written

pub returns-in-WriteFault-clause-written : goal.returns-in-WriteFault-clause-written
returns-in-WriteFault-clause-written g c = told _ _ _ _ c.args.status.now (ap error_line (sym c.in-WriteFault.is)) c.put_all-in-WriteFault.ensures.written

pub returns-in-NoMemory-clause-written : goal.returns-in-NoMemory-clause-written
returns-in-NoMemory-clause-written g c = told _ _ _ _ c.args.status.now (ap error_line (sym c.in-NoMemory.is)) c.put_all-in-NoMemory.ensures.written
