-- What a node that runs has heard, and what it has reported.
use Rattle.std.specs.Prelude.{◌≡◌, ◌≤◌, ◌+◌, ◌*◌, ◌-◌, ◌^◌, ◌++◌, ℕ, List, [], ◌∷◌, Option, Some}
use Rattle.std.specs.Prelude.{None, ⊤, count_by, length, if◌then◌else◌, map, refl, unwrap_or}
use Rattle.cy_outside.specs.Files.{Files}
use Rattle.tail_frame.specs.declared.logged.Record.{Record}
use Rattle.log_loop.specs.Gone.{FirstOf, before_newest}
use Rattle.log_loop.specs.Voice.{Voice}
use Rattle.node_plan.specs.Bound.{bound_of}
use Rattle.node_plan.specs.declared.plan.Plan.{Plan}
use Rattle.report_lines.specs.declared.line.Line.{Line}
use Rattle.report_lines.specs.declared.numbers.Numbers.{Numbers}
use Rattle.node_core.specs.Queues.{rounds, waiting}
use Rattle.node_core.specs.Steps.{Heard, IsServedAt, Met, met_records, first_of, ticks_before}
use Rattle.node_core.specs.Steps.{ticks_done, steps, kept, emptying, lines_on, all_lines, is_tx}
use Rattle.node_core.specs.Steps.{end_numbers}
use Rattle.node_plan.specs.declared.plan.BusPlan.{BusPlan}
use Rattle.node_core.specs.Types.{type_on}
use Rattle.text_lines.specs.Text.{text}
use Rattle.node_run.specs.declared.log.clock.Clock.{Clock}
use Rattle.node_run.specs.declared.log.tally.Seen.{Seen}
use Rattle.node_run.specs.Failures.{Failures}
use Rattle.node_run.specs.Ran.{Reported, AtFirst, Emptied}
use Rattle.node_run.specs.Forms.{Form, Style, Text, Json, Spells, in_style, last_line, leaving_text}
use Rattle.node_run.specs.Goes.{State, Runs, Broke}

-- how many ticks come before the newest of these records
abbrev pub ticks_of : Plan → List Record → ℕ
ticks_of plan past = if plan.silent then 0 else ticks_done past

-- the moment of the next one; a silent node has none
abbrev pub next_of : Plan → List Record → ℕ
next_of plan [] = if plan.silent then 2 ^ 64 - 1 else 0
next_of plan (rec ∷ past) =
    if plan.silent then 2 ^ 64 - 1 else first_of rec past + ticks_done (rec ∷ past) * 1000000

-- a clock behind these records: where frames wait, it has the moment behind which frames left last
pub record IsClock (plan : Plan) (past : List Met) (clock : Clock) : Type 0 where
  pub number : clock.number ≡ ticks_of plan (met_records past)
  pub next : clock.next ≡ next_of plan (met_records past)
  pub last : let qs = (kept plan (steps plan past)).queues in
      rounds (waiting qs) clock.last qs ≡ emptying plan (steps plan past)

-- a run is behind these records, the newest first
pub record Hears (plan : Plan) (before : Option (List Line)) (s : State) (clock : Clock)
    (past : List Met) : Type 0 where
  pub runs : Runs plan before s (steps plan past)
  pub clock_is : IsClock plan past clock
  pub few : length (steps plan past) ≤ s.numbers.records + clock.number
  pub few_records : s.numbers.records ≤ 2 ^ 28
  pub few_ticks : clock.number ≤ 2 ^ 45

-- it broke off in a step of the newest of these records, or behind them
abbrev pub BrokeOff : Plan → Reported → Failures → List Met → Type 0
BrokeOff plan r f past = Broke plan r f (steps plan past) (steps plan (before_newest past))

-- the last line is said, and so many frames were sent in all
pub record HasEnded (plan : Plan) (r : Reported) (sent : ℕ) (past : List Met) : Type 0 where
  pub at : Emptied plan (steps plan past) r
  pub sent_is : sent ≡ count_by is_tx (all_lines plan (steps plan past))
  pub within : r.numbers.held ≤ bound_of plan

-- it broke off behind the last of these records, the last of the log
pub record CutShort (plan : Plan) (r : Reported) (f : Failures) (past : List Met) : Type 0 where
  pub first : AtFirst plan (steps plan past) None r f
  pub behind : FirstOf first.past (steps plan past)
  pub within : r.numbers.held ≤ bound_of plan

-- the text of what leaves at the end, and the last line
abbrev pub last_text : Style → Plan → List Met → List ℕ
last_text s plan past =
    leaving_text s (emptying plan (steps plan past))
    ++ last_line s.form (end_numbers plan (steps plan past))

-- what the tree does for a record behind others is what it may do
abbrev pub IsServedMet : Option Files → Plan → Met → List Met → Type 0
IsServedMet told plan m past =
    IsServedAt told plan (Heard m.rec m.file)
    (ticks_before plan m.rec (met_records past) ++ steps plan past)

-- what a run met, and the text that it said on it, if it heard it
pub record Said : Type 0 where
  pub met : Met
  pub text : Option (List ℕ)

abbrev pub said : Met → Option (List ℕ) → Said
said met text = record { met = met; text = text }

abbrev pub mets_of : List Said → List Met
mets_of past = map (λ (it : Said). it.met) past

-- the text on an event is one of the lines that it gives, with those of the ticks before it; in
-- JSON there is none where it wasn't heard, since nothing has put its floats down
abbrev pub MaySay : Style → Plan → Met → List Met → Option (List ℕ) → Type 0
MaySay s plan m past (Some text) = Spells s.form (type_on plan) s.buses (lines_on plan m past) text
MaySay s plan m past None = s.form ≡ Json

-- the text of lines that weren't heard
abbrev pub unheard : Form → List BusPlan → List Line → Option (List ℕ)
unheard Text buses lines = Some (text buses lines)
unheard Json buses lines = None

abbrev pub may_be_unheard : (form : Form) (buses : List BusPlan) (plan : Plan) (m : Met)
    (past : List Met)
    → MaySay (in_style form buses) plan m past (unheard form buses (lines_on plan m past))
may_be_unheard Text buses plan m past = refl
may_be_unheard Json buses plan m past = refl

-- what a run of a plan says over a log, where the tree tells these files or none
abbrev pub run_voice : Style → Option Files → Plan → Voice Said
run_voice s told plan = record {
  record_of = λ it. it.met.rec;
  may_come = λ it past.
      IsServedMet told plan it.met (mets_of past) × MaySay s plan it.met (mets_of past) it.text;
  step = λ it past. unwrap_or it.text [];
  last = λ past. last_text s plan (mets_of past);
}

-- on each of these events something was said, if only a text of no lines
abbrev pub IsSaid : Said → Type 0
IsSaid it = (text : List ℕ) × (it.text ≡ Some text)

abbrev pub AreSaid : List Said → Type 0
AreSaid [] = ⊤
AreSaid (it ∷ past) = IsSaid it × AreSaid past

abbrev pub AreSaidButNewest : List Said → Type 0
AreSaidButNewest past = AreSaid (before_newest past)

abbrev pub but_newest : (past : List Said) → AreSaid past → AreSaidButNewest past
but_newest [] h = tt
but_newest (it ∷ past) h = h.1

-- the numbers behind one more record, of which this is counted
abbrev pub counted : Numbers → Seen → ℕ → Numbers
counted n seen held = record n {
  records = n.records + 1;
  delivered = n.delivered + seen.delivered;
  badcrc = n.badcrc + seen.badcrc;
  nosession = n.nosession + seen.nosession;
  held = held;
}
