-- From what a command did to what is said of any command.
use Rattle.std.proofs.Common.{◌≡◌, ◌∙◌, ◌⊎◌, inl, inr, ℕ, true, false, List, Option, refl, sym, ap, subst, arith}
use Rattle.report_lines.specs.declared.line.Line.{Line}
use Rattle.node_run.specs.Failures.{Failures}
use Rattle.node_run.specs.Ran.{no_numbers, reported}
use Rattle.node_run.specs.declared.status.Status.{Status}
use Rattle.cyphal.specs.CarriedOut.{IsCarriedOut, uncounted}
use Rattle.cyphal.specs.Cause.{Outside, counts, HasCause, HasCauseOver}
use Rattle.cyphal.specs.Job.{Job, Told, Outcome, outcome, printed, is_fault, NotDone, ReportsNothing, TookNothing, WroteNothing}
use Rattle.cyphal.specs.Words.{asked_by}
use Rattle.cyphal.specs.jobs.{job_of}
use Rattle.cyphal.specs.declared.counted.Counted.{Counted}
use Rattle.cyphal.specs.declared.words.Accepted.{Accepted}
use Rattle.cyphal.proofs.Causes.{refused_apart}

-- what is said of the command that is given
pub for_given : {L : Type 0} (given command : Accepted) (told : Told) (came : Outcome) (old new : Outside L) → given ≡ command
    → IsCarriedOut (job_of (asked_by command)) told came old new → IsCarriedOut (job_of (asked_by given)) told came old new
for_given given command told came old new e = subst (λ (g : Accepted). IsCarriedOut (job_of (asked_by g)) told came old new) (sym e)

module _ (job : Job) (told : Told) (stat : Status) (lines : Option (List Line)) (failed : Failures) (same : failed.new ≡ failed.old) where
  -- what a command came to that puts no line and counts nothing
  abbrev came : Option (List ℕ) → Option (List ℕ) → Outcome
  came left after = outcome stat (reported lines lines no_numbers) failed left after

  nothing : (left after : Option (List ℕ)) → ReportsNothing (came left after)
  nothing left after = record { lines = refl; counted = refl; failed = same }

  module _ (r : Counted) (is : r ≡ uncounted stat) where
    as_counted : {L : Type 0} (old new : Outside L) (left after : Option (List ℕ)) → IsCarriedOut job told (came left after) old new
        → IsCarriedOut job told (outcome r.status (reported lines lines r.numbers) failed left after) old new
    as_counted old new left after =
        subst (λ (c : Counted). IsCarriedOut job told (outcome c.status (reported lines lines c.numbers) failed left after) old new) (sym is)

    -- a command that is given no input
    pub printed_out : {L : Type 0} (old new : Outside L) (after : Option (List ℕ)) (Did : Type 0) → new.input ≡ old.input → new.source ≡ old.source
        → (is_fault stat ≡ false → job.expects told stat) → job.may_end stat ≡ true → HasCause stat (counts old.tree old.out) (counts new.tree new.out) → WroteNothing (printed stat told.written after) ⊎ Did
        → (Did → ReportsNothing (came told.input after) → job.did told (came told.input after))
        → IsCarriedOut job told (outcome r.status (reported lines lines r.numbers) failed told.input after) old new
    printed_out old new after Did input source answer among cause ran did = as_counted old new told.input after (record {
      answer = answer;
      among = among;
      cause = record {
        read = λ e. inl (cause.read e, source);
        untaken = λ _. source;
        refused = λ _. source;
        early = λ e. cause.kept (refused_apart stat e);
        write = cause.write;
        unread = λ _. input;
        unwritten = cause.unwritten;
        unserved = λ _. cause.kept;
      };
      ran = by_work ran;
      held = omega arith;
    })
      where
        by_work : WroteNothing (printed stat told.written after) ⊎ Did → NotDone told (came told.input after) old new ⊎ job.did told (came told.input after)
        by_work (inr d) = inr (did d (nothing told.input after))
        by_work (inl n) = inl (record {
          empty = nothing told.input after;
          written = n.written;
          not_settled = n.not_settled;
          not_write = n.not_write;
          left = refl;
          source = source;
          tree = cause.read;
          kept = cause.kept;
        })

    -- a command that is given an input
    pub read_out : {L : Type 0} (left_of : L → Option (List ℕ)) (old new : Outside L) (after : Option (List ℕ)) (Did : Type 0) → told.input ≡ left_of old.source
        → (is_fault stat ≡ false → job.expects told stat) → job.may_end stat ≡ true → HasCauseOver job.takes_input job.serves stat old new → TookNothing (printed stat told.written after) old new ⊎ Did
        → (Did → ReportsNothing (came (left_of new.source) after) → job.did told (came (left_of new.source) after))
        → IsCarriedOut job told (outcome r.status (reported lines lines r.numbers) failed (left_of new.source) after) old new
    read_out left_of old new after Did is_input answer among cause ran did = as_counted old new (left_of new.source) after (record {
      answer = answer;
      among = among;
      cause = cause;
      ran = by_work ran;
      held = omega arith;
    })
      where
        by_work : TookNothing (printed stat told.written after) old new ⊎ Did → NotDone told (came (left_of new.source) after) old new ⊎ job.did told (came (left_of new.source) after)
        by_work (inr d) = inr (did d (nothing (left_of new.source) after))
        by_work (inl n) = inl (record {
          empty = nothing (left_of new.source) after;
          written = n.nothing.written;
          not_settled = n.nothing.not_settled;
          not_write = n.nothing.not_write;
          left = ap left_of n.source ∙ sym is_input;
          source = n.source;
          tree = n.tree;
          kept = n.kept;
        })
