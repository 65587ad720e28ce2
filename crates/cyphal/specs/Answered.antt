-- All that is said of one call.
use Rattle.std.specs.Prelude.{◌≡◌, ◌≢◌, ◌⊎◌, ◌↔◌, ◌≤◌, ℕ, true, false, List, [], Option, None}
use Rattle.cy_outside.specs.Outside.{Rose}
use Rattle.cy_outside.specs.Written.{behind, Begins}
use Rattle.report_lines.specs.declared.numbers.Numbers.{Numbers}
use Rattle.node_run.specs.Failures.{failures, tree_counts}
use Rattle.node_run.specs.Ran.{reported}
use Rattle.node_run.specs.declared.status.Status.{Status}
use Rattle.node_run.specs.declared.status.Status.TheVariants as status
use Rattle.cyphal.specs.Words.{command_of}
use Rattle.cyphal.specs.ErrorLine.{error_line, code_of}
use Rattle.cyphal.specs.Cause.{Outside, HasCauseOver, EndsAsDue}
use Rattle.cyphal.specs.Job.{Told, Outcome, outcome, is_fault, NotDone}
use Rattle.cyphal.specs.Expected.{job_for, WasDone}
use Rattle.cyphal.specs.Headline.{HeadlineOf, OnceOf, DueOf, ValuesOf, DueValuesOf}
use Rattle.cyphal.specs.Headline.{OncePut, DuePut, ValuesPut, DueValuesPut}
use Rattle.cyphal.specs.Streaming.{TakenOf, StreamedOf}
use Rattle.cyphal.specs.declared.top.Done.{Done}

-- The call did what the words ask for: it ended as they ask, with one of the statuses of their
-- command whatever is told, for that reason, and did what it says.
-- The headline, where the words, the files and the input are told, is of what is written; `once`,
-- `due` and the values are of the lines that were put, where the sink of lines tells them. `taken`
-- is how far the input is taken where a read fails: not at all, where the tree failed, or up to the
-- last whole line.
pub record IsAnswered {L : Type 0} (words : List (List ℕ)) (told : Told) (came : Outcome)
    (old new : Outside L) : Type 0 where
  pub answer : is_fault came.status ≡ false → (job_for words).expects told came.status
  pub exact : (stat : Status) → (job_for words).is_told told ≡ true
      → (job_for words).expects told stat → is_fault came.status ≡ false → came.status ≡ stat
  pub among : (job_for words).may_end came.status ≡ true
  pub usage : (came.status ≡ status.Usage) ↔ (command_of words ≡ None)
  pub cause : HasCauseOver (job_for words).takes_input (job_for words).serves came.status old new
  pub ran : WasDone words told came old new
  pub held : came.reported.numbers.held ≤ came.reported.numbers.bound
  pub complete : (due : Status)
      → (job_for words).is_told told ≡ true → (job_for words).expects told due
      → ¬ Rose old.input new.input → ¬ Rose old.out new.out
      → EndsAsDue due came.status old new
  pub headline : HeadlineOf words told came
  pub once : OncePut words told came
  pub due : DuePut words told came
  pub values : ValuesPut words told came
  pub due_values : DueValuesPut words told came
  pub taken : came.status ≡ status.ReadFault → NotDone told came old new ⊎ TakenOf words told came
  pub streamed : StreamedOf words told came

-- What is said of a report that keeps its lines: of these, and of the requests that it names, in
-- which the tree failed. Where all was done, the tree's count is as it was, or it names some; of a
-- command that serves no files it names none.
pub record IsReported {L : Type 0} (words : List (List ℕ)) (told : Told) (done : Done)
    (old new : Outside L) : Type 0 where
  pub once : OnceOf words told done.report.lines
  pub due : DueOf words told done.status done.report.lines
  pub values : ValuesOf words told done.report.lines
  pub due_values : DueValuesOf words told done.status done.report.lines
  pub failed : done.status ≡ status.Ok → (new.tree ≡ old.tree) ⊎ (done.report.failed ≢ [])
  pub unserved : (job_for words).serves ≡ false → done.report.failed ≡ []

-- an output: how many writes failed, and what was written
pub record Stream : Type 0 where
  pub faults : ℕ
  pub written : Option (List ℕ)

abbrev pub stream : ℕ → Option (List ℕ) → Stream
stream faults written = record { faults = faults; written = written }

-- the line of a status was written: a beginning of it, and all of it where no write failed
pub record HasSaid (stat : Status) (old new : Stream) : Type 0 where
  pub line : Begins (error_line stat) old.written new.written
  pub whole_line : ¬ Rose old.faults new.faults
      → new.written ≡ behind old.written (error_line stat)

-- what the program left: the rest of its input, and what is written on its output at its end; and
-- how often its tree had been called before, and then
pub record Left : Type 0 where
  pub input : Option (List ℕ)
  pub written : Option (List ℕ)
  pub calls : ℕ
  pub calls_new : ℕ

abbrev pub left_by : Option (List ℕ) → Option (List ℕ) → ℕ → ℕ → Left
left_by input written calls calls_new =
    record { input = input; written = written; calls = calls; calls_new = calls_new }

-- The program ended with this number: it is that of a status with which the words were answered,
-- and which was said. It keeps no line of its report, nor those of requests in which the tree
-- failed, but the numbers.
pub record HasEnded {L : Type 0} (words : List (List ℕ)) (told : Told) (code : ℕ) (left : Left)
    (old new : Outside L) (err err_new : Stream) : Type 0 where
  pub stat : Status
  pub numbers : Numbers
  pub code_is : code ≡ code_of stat
  pub answered :
      let put = reported None None numbers in
      let counts = tree_counts old.tree left.calls in
      let counts_new = tree_counts new.tree left.calls_new in
      let failed = failures None None counts counts_new in
      IsAnswered words told (outcome stat put failed left.input left.written) old new
  pub said : HasSaid stat err err_new
