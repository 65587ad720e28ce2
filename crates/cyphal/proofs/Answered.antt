-- From what was done to all that is said of a call.
use Rattle.std.proofs.Common.{◌≡◌, ◌∙◌, ◌↔◌, inl, inr, ℕ, true, false, List, [], Option, Some, None, refl, sym, ap}
use Rattle.dsdl_resolve.specs.Laws.{HaveOneAnswer}
use Rattle.report_lines.specs.declared.line.Line.{Line}
use Rattle.report_lines.specs.declared.numbers.Numbers.{Numbers}
use Rattle.node_plan.specs.Laws.{OnePlan}
use Rattle.node_run.specs.Failures.{TreeCounts, failures, tree_counts}
use Rattle.node_run.specs.Ran.{reported, numbers_of, of_failed, of_report}
use Rattle.node_run.specs.ValueLines.{HasOneStatus}
use Rattle.node_run.specs.declared.report.Report.{Report}
use Rattle.node_run.specs.declared.status.Status.{Status}
use Rattle.node_run.specs.declared.status.Status.TheVariants as status
use Rattle.value_lines.specs.Decoded.{Decodes}
use Rattle.value_lines.specs.Encoded.{Encodes}
use Rattle.cyphal.specs.Answered.{IsAnswered, IsReported}
use Rattle.cyphal.specs.CarriedOut.{IsCarriedOut}
use Rattle.cyphal.specs.Cause.{Outside}
use Rattle.cyphal.specs.Expected.{job_for}
use Rattle.cyphal.specs.Headline.{HasPut}
use Rattle.cyphal.specs.Job.{Told, Outcome, outcome, is_fault}
use Rattle.cyphal.specs.Laws.{HeadlineLaws}
use Rattle.cyphal.specs.Words.{command_of}
use Rattle.cyphal.specs.declared.top.Done.{Done}
use Rattle.cyphal.proofs.Ended.{completed}
use Rattle.cyphal.proofs.Headlines.{headline_of, once_of, due_of, values_of, due_values_of}
use Rattle.cyphal.proofs.OneStatus.{one_status}
use Rattle.cyphal.proofs.Served.{none_failed, stays_or_told}
use Rattle.cyphal.proofs.Streaming.{taken_of, streamed_of}

module _ {L : Type 0} (one : HaveOneAnswer × OnePlan) (encodes : HasOneStatus Encodes) (decodes : HasOneStatus Decodes) (words : List (List ℕ)) (told : Told) (came : Outcome) (old new : Outside L)
    (done : IsCarriedOut (job_for words) told came old new) where
  -- a status that is asked for is the answer
  exact : (stat : Status) → (job_for words).is_told told ≡ true → (job_for words).expects told stat → is_fault came.status ≡ false → came.status ≡ stat
  exact stat asked expected h = one_status one encodes decodes (command_of words) told came.status stat asked (done.answer h) expected

  -- what was done is what is asked for
  pub answered : ((came.status ≡ status.Usage) ↔ (command_of words ≡ None)) → HeadlineLaws → IsAnswered words told came old new
  answered usage law = record {
    answer = done.answer;
    exact = exact;
    among = done.among;
    usage = usage;
    cause = done.cause;
    ran = done.ran;
    held = done.held;
    complete = λ due asked expected x y. completed due old new _ _ came.status (exact due asked expected) done.cause x y;
    headline = headline_of one words told came old new done.ran law;
    once = once_of one words told came old new done.ran law;
    due = due_of one words told came old new done.ran law;
    values = values_of one words told came old new done.ran law;
    due_values = due_values_of one words told came old new done.ran law;
    taken = taken_of one words told came old new done.ran;
    streamed = streamed_of one words told came old new law done.ran;
  }

some_is : (a b : List ℕ) → Some a ≡ Some b → a ≡ b
some_is a b e = cc

module _ {L : Type 0} (words : List (List ℕ)) (told : Told) (done : Done) (old new : Outside L) (left written : Option (List ℕ)) (calls calls_new : ℕ) where
  abbrev came : Outcome
  came = outcome done.status (of_report done.report) (of_failed done.report (tree_counts old.tree calls) (tree_counts new.tree calls_new)) left written

  -- what is said of a call, of its report
  pub reported_of : IsAnswered words told came old new → IsReported words told done old new
  reported_of a =
      let put : HasPut (of_report done.report) done.report.lines = ([], refl, refl) in record {
        once = a.once done.report.lines put;
        due = a.due done.report.lines put;
        values = a.values done.report.lines put;
        due_values = a.due_values done.report.lines put;
        failed = λ ok.
            elim (stays_or_told words told came old new a.ran (λ h. a.cause.unserved h (λ fault. (let bad : status.Ok ≡ status.ReadFault = sym ok ∙ fault in cc))) refl ok) [ inl stays ↦ inl stays | inr some ↦ inr (λ none. some (ap Some none)) ];
        unserved = λ h. some_is _ _ (none_failed words told came old new a.ran h);
      }

-- what a call came to whose sink kept its lines and its failed requests from nothing on, as one that gives their report
pub kept_report : (old new : List Line) (failed failed_new : List ℕ) (n : Numbers) (report : Report) (before now : TreeCounts) (stat : Status) (left written : Option (List ℕ))
    → old ≡ [] → failed ≡ [] → report.lines ≡ new → report.failed ≡ failed_new → numbers_of report ≡ n
    → outcome stat (reported (Some old) (Some new) n) (failures (Some failed) (Some failed_new) before now) left written ≡ outcome stat (of_report report) (of_failed report before now) left written
kept_report old new failed failed_new n report before now stat left written a b c d e =
    λ i. outcome stat (reported (Some (a i)) (Some (sym c i)) (sym e i)) (failures (Some (b i)) (Some (sym d i)) before now) left written
