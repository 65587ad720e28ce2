-- How a run goes on, step by step.
use Rattle.std.specs.Prelude.{◌≡◌, ◌≤◌, ◌⊎◌, ◌+◌, ◌-◌, ◌*◌, ◌/◌, ◌^◌, nat_lt, ◌==◌, ◌++◌, ℕ, min}
use Rattle.std.specs.Prelude.{max, refl, List, [], Option, if◌then◌else◌, length}
use Rattle.std.proofs.Common.{◌∙◌, ap, sym, append-nil}
use Rattle.node_plan.specs.Bound.{bound_of}
use Rattle.node_plan.specs.IsPlan.{IsPlan}
use Rattle.node_plan.specs.declared.plan.Plan.{Plan}
use Rattle.frame_log.specs.declared.error.LogError.{LogError}
use Rattle.log_loop.specs.Gone.{FirstOf}
use Rattle.report_lines.specs.declared.line.Line.{Line}
use Rattle.node_core.specs.declared.node.Node.{Node}
use Rattle.report_lines.specs.declared.numbers.Numbers.{Numbers}
use Rattle.node_core.specs.Keeps.{keeps}
use Rattle.report_lines.specs.LineSinks.{put_behind}
use Rattle.node_core.specs.Queues.{Queue, waiting}
use Rattle.node_core.specs.Stands.{Stands}
use Rattle.node_core.specs.Steps.{Step, records, kept, lines, lines_behind}
use Rattle.node_run.specs.declared.log.clock.Clock.{Clock}
use Rattle.node_run.specs.declared.log.running.Running.{Running}
use Rattle.node_core.specs.Types.{type_on}
use Rattle.node_run.specs.Failures.{Failures, TellsFailures}
use Rattle.node_run.specs.Forms.{Adds, Style}
use Rattle.node_run.specs.Ran.{Reported, reported, At, AtFirst, next_lines}

-- what a run has come to: its node, the style in which its lines are written, the lines that were
-- put, and the numbers
pub record State : Type 0 where
  pub node : Node
  pub style : Style
  pub told : Option (List Line)
  pub numbers : Numbers

abbrev pub state : Node → Style → Option (List Line) → Numbers → State
state node style told numbers =
    record { node = node; style = style; told = told; numbers = numbers }

-- what a run that listens has come to, by its writer's style and by what its sink tells of the
-- lines that were put
abbrev pub state_in : {W K T : Type 0} → (W → Style) → (K → Option (List Line)) → Running W K T
    → State
state_in style put run =
    state run.node.now (style run.writer.now) (put run.lines.now) run.tally.numbers

-- what it has reported, where these lines were put before
abbrev pub report_of : Option (List Line) → State → Reported
report_of before s = reported before s.told s.numbers

-- it is the run of a plan behind these steps, the newest first
pub record Runs (plan : Plan) (before : Option (List Line)) (s : State)
    (all : List Step) : Type 0 where
  pub is : IsPlan plan
  pub same : s.node.plan ≡ plan
  pub stands : Stands s.node (records all)
  pub keeps_are : keeps s.node ≡ kept plan all
  pub names : s.style.buses ≡ plan.buses
  pub at : At plan all (report_of before s)
  pub within : s.numbers.held ≤ bound_of plan

-- it broke off in one of these steps; the first of them, those of `past`, are reported and counted
pub record Broke (plan : Plan) (r : Reported) (f : Failures) (all past : List Step) : Type 0 where
  pub first : (refusal : Option LogError) → AtFirst plan all refusal r f
  pub behind : (refusal : Option LogError) → FirstOf (first refusal).past past
  pub within : r.numbers.held ≤ bound_of plan

-- it has not
abbrev pub unbroken : (plan : Plan) (before : Option (List Line)) (s : State) (f : Failures)
    (all past : List Step) → FirstOf all past → Runs plan before s all
    → TellsFailures all f → Broke plan (report_of before s) f all past
unbroken plan before s f all past of_past h failed = record {
  first = λ refusal. record {
    newer = [];
    past = all;
    parts = refl;
    told = [];
    rest = next_lines plan [] all refusal;
    next = refl;
    at = record {
      reported = h.at.reported ∙ ap (put_behind before) (sym (append-nil (lines plan all)));
      counted = h.at.counted;
    };
    failed = failed;
  };
  behind = λ refusal. of_past;
  within = h.within;
}

-- so few steps that what they send can be counted
abbrev pub IsFew : List Step → Type 0
IsFew all = length all ≤ 2 ^ 50

-- newer steps behind others are reported and counted, and a text of their lines is gathered behind
-- what was
pub record HasGoneOn (plan : Plan) (before : Option (List Line)) (newer past : List Step)
    (old new : State) (gathered_old gathered_new : List ℕ) : Type 0 where
  pub runs : Runs plan before new (newer ++ past)
  pub same : new.style ≡ old.style
  pub adds : Adds old.style (type_on plan) (lines_behind plan newer past) gathered_old gathered_new

-- a run goes on by newer steps, whatever steps it is behind
abbrev pub GoesOn : List Step → State → State → List ℕ → List ℕ → Type 0
GoesOn newer old new gathered_old gathered_new =
    (plan : Plan) (before : Option (List Line)) (past : List Step)
    → IsFew (newer ++ past) → Runs plan before old past
    → HasGoneOn plan before newer past old new gathered_old gathered_new

-- a run breaks off in one of these newer steps, where of those behind them these failures are told
abbrev pub BreaksOff : List Step → State → State → Type 0
BreaksOff newer old new =
    (plan : Plan) (before : Option (List Line)) (past : List Step) (f : Failures)
    → IsFew (newer ++ past) → Runs plan before old past → TellsFailures past f
    → Broke plan (report_of before new) f (newer ++ past) past

-- the numbers with so many more frames that were sent
abbrev pub with_sent : Numbers → ℕ → Numbers
with_sent n more = record n { sent = min (n.sent + more) (2 ^ 64 - 1) }

-- the moment of a clock's next tick by its number, where the first one is at this moment
abbrev pub begun_next : ℕ → ℕ → ℕ → ℕ
begun_next number next moment = if number == 0 then moment else next

-- how many ticks are due from one at this moment up to another
abbrev pub ticks_due : ℕ → ℕ → ℕ
ticks_due next moment = (moment - next) / 1000000 + 1

-- how many are due up to a moment, where the next one has this number and this moment
abbrev pub ticks_left : ℕ → ℕ → ℕ → ℕ
ticks_left number next moment =
    if nat_lt moment next then 0 else ticks_due (begun_next number next moment) moment

-- the moment of the next one behind them
abbrev pub next_behind : ℕ → ℕ → ℕ → ℕ
next_behind number next moment =
    if nat_lt moment next then next
    else begun_next number next moment + ticks_due (begun_next number next moment) moment * 1000000

-- if a tick is due, the first one was at this moment
abbrev pub IsFrom : ℕ → ℕ → ℕ → ℕ → Type 0
IsFrom first number next moment = next ≤ moment → begun_next number next moment ≡ first + number * 1000000

-- the moment of the last tick by the number and the moment of the next one; 0 where there was none
abbrev pub last_tick : ℕ → ℕ → ℕ
last_tick number next = if number == 0 then 0 else next - 1000000

-- no record comes before that, nor before the last frame that the node heard
abbrev pub latest_of : Node → Clock → ℕ
latest_of node clock = max node.latest (last_tick clock.number clock.next)

-- nothing waits, or a clock has this moment as the one behind which frames left last
abbrev pub IsLast : ℕ → List Queue → ℕ → Type 0
IsLast moment queues last = (waiting queues ≡ 0) ⊎ (last ≡ moment)
