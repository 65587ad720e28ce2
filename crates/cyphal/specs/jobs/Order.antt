-- `order MICROS`: the lines of the log of the input in the order of their moments.
use Rattle.std.specs.Prelude.{◌≡◌, ℕ, true, false, List, Option, IfSome, is_some}
use Rattle.line_loop.specs.Gone.{HasGone}
use Rattle.line_loop.specs.Reply.{IsReply}
use Rattle.line_loop.specs.Streamed.{IsStreamed}
use Rattle.line_loop.specs.declared.ended.LinesEnded.{LinesEnded}
use Rattle.line_loop.specs.declared.ended.LinesEnded.TheVariants as lines
use Rattle.line_order.specs.Answers.{order_voice}
use Rattle.line_order.specs.Sorted.{HasSorted}
use Rattle.line_order.specs.declared.refusal.Refusal.{Refusal}
use Rattle.log_loop.specs.declared.ended.Ended.{Ended}
use Rattle.log_loop.specs.declared.ended.Ended.TheVariants as end
use Rattle.node_run.specs.Ran.{status_of}
use Rattle.node_run.specs.ValueLines.{Flow}
use Rattle.node_run.specs.declared.status.Status.{Status}
use Rattle.cyphal.specs.Job.{Job, ReportsNothing, flow_of}
use Rattle.cyphal.specs.MayEnd.{of_log}

-- how a log ends that is brought into order, by how the loop over its lines ends
abbrev pub log_end : LinesEnded Refusal → Ended
log_end lines.Ok = end.Ok
log_end (lines.Refused refusal) = end.Log refusal.line refusal.why
log_end lines.TooLong = end.LogLong
log_end lines.ReadFault = end.ReadFault
log_end lines.WriteFault = end.WriteFault
log_end lines.NoMemory = end.NoMemory

-- The lines were said in order, with a window of so many microseconds, until the log ended so: each
-- as soon as the greatest moment is at least its own and the window together, those that are left
-- at the end or before a refusal; and however it ended, before much more was taken. Where no line
-- was refused, what was written is the one list of the lines that is sorted by moment and stable.
pub record IsOrderedUntil (window : ℕ) (ended : Ended) (told : Flow) : Type 0 where
  pub how : LinesEnded Refusal
  pub is : ended ≡ log_end how
  pub gone : HasGone (order_voice window) told.left told.new how told.before told.after
  pub streamed : IsStreamed (order_voice window) told.left told.new told.before told.after
  pub sorted : ended ≡ end.Ok → HasSorted told.left told.new told.before told.after

pub record HasOrdered (window : ℕ) (stat : Status) (told : Flow) : Type 0 where
  pub ended : Ended
  pub is : stat ≡ status_of ended
  pub ordered : IsOrderedUntil window ended told

-- where nothing fails, these bytes are answered so that this is the status
pub record EndsIn (window : ℕ) (bytes : List ℕ) (stat : Status) : Type 0 where
  pub text : List ℕ
  pub how : LinesEnded Refusal
  pub reply : IsReply (order_voice window) bytes text how
  pub is : stat ≡ status_of (log_end how)

-- the status is that of the bytes that the input has, where the input is told
abbrev pub EndsAsLines : ℕ → Option (List ℕ) → Status → Type 0
EndsAsLines window input stat = IfSome input (λ bytes. EndsIn window bytes stat)

abbrev pub order_job : ℕ → Job
order_job window = record {
  calls_tree = false;
  needs = λ files. 0;
  takes_input = true;
  serves = false;
  may_end = of_log;
  is_told = λ told. is_some told.input;
  expects = λ told stat. EndsAsLines window told.input stat;
  did = λ told came.
      HasOrdered window came.status (flow_of told came) × ReportsNothing came;
}
