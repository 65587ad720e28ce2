-- A run that heard nothing.
use Rattle.std.proofs.Common.{◌≡◌, ◌∙◌, inl, ℕ, ◌+◌, ◌*◌, ◌≤◌, Bool, true, false, List, [], ◌∷◌, length, map, take, Option, refl, sym, ap, ap₂, subst, append-nil, arith}
use Rattle.std.proofs.lemmas.Grind.{common_steps}
use Rattle.std.specs.Prelude.{if◌then◌else◌, unwrap_or}
use Rattle.rx_table.specs.Ports.{Port, held}
use Rattle.cy_outside.specs.Files.{Files}
use Rattle.tail_frame.specs.declared.logged.Record.{Record}
use Rattle.frame_log.specs.Log.{log_of}
use Rattle.frame_log.specs.declared.error.LogError.{LogError}
use Rattle.log_loop.specs.Voice.{MayCome}
use Rattle.log_loop.proofs.Runs.{told_none}
use Rattle.log_loop.proofs.Written.{begins_none}
use Rattle.node_plan.specs.Bound.{bound_of}
use Rattle.node_plan.specs.declared.plan.Plan.{Plan}
use Rattle.report_lines.specs.declared.line.Line.{Line}
use Rattle.node_core.specs.Heard.{ports_of}
use Rattle.node_core.specs.Keeps.{keeps}
use Rattle.node_core.specs.Queues.{waiting}
use Rattle.node_core.specs.Stands.{Stands}
use Rattle.node_core.specs.Steps.{Step, held_at, kept, steps}
use Rattle.node_core.proofs.Queues.{nothing_waits}
use Rattle.node_core.proofs.Served.{something_served}
use Rattle.node_run.specs.Listens.{some_said}
use Rattle.node_plan.specs.IsPlan.{IsPlan}
use Rattle.node_run.specs.declared.log.clock.Clock.{Clock}
use Rattle.node_run.specs.Goes.{State, report_of}
use Rattle.node_run.specs.Hears.{Hears, Said, mets_of, next_of, run_voice, ticks_of}
use Rattle.node_run.proofs.Waits.{none_rounds}
use Rattle.node_run.specs.declared.status.Status.TheVariants as status
use Rattle.node_run.specs.Failures.{TreeCounts, failures}
use Rattle.node_run.specs.Forms.{Form, Text, Json, Style}
use Rattle.node_run.specs.HasRun.{HasRun}
use Rattle.node_run.specs.Ran.{names_of, newest_first, reported, no_numbers, At, AtFirst, BeginsSteps, IsBegun, due_lines, whole_text}
use Rattle.node_run.specs.ValueLines.{flow}
use Rattle.node_core.specs.Types.{type_on}
use Rattle.node_run.proofs.Fails.{failed_none}
use Rattle.node_run.proofs.Forms.{spells_none}
use Rattle.node_run.proofs.Goes.{first_none}
use Rattle.node_run.proofs.Runs.{are_served}
use Rattle.node_run.proofs.Spoken.{records_same}
use Rattle.node_run.proofs.Streams.{streamed_none}
use Rattle.node_run.proofs.Tells.{put_none}

take_none : (n : ℕ) → take {A = ℕ} n [] ≡ []
take_none n = grind (arith, common_steps)

-- before its first frame a port holds nothing
held_before : (ports : List Port) → held ports [] ≡ 0
held_before [] = refl
held_before (p ∷ ports) = ap (λ (s : List ℕ). length s * p.extent + held ports []) (take_none p.sources) ∙ (omega arith ∙ held_before ports)

pub held_none : (plan : Plan) → held_at plan [] ≡ 0
held_none plan = held_before (ports_of plan)

-- the numbers of nothing, but for the bound
pub at_none : (plan : Plan) (lines : Option (List Line)) (held bound : ℕ) → held ≡ held_at plan [] → bound ≡ bound_of plan → At plan [] (reported lines lines (record no_numbers { held = held; bound = bound }))
at_none plan lines held bound h b = record {
  reported = put_none lines;
  counted = λ i. record { records = 0; delivered = 0; badcrc = 0; nosession = 0; sent = 0; held = h i; bound = b i };
}

-- records of a log, each with something that the tree may tell for it
pub record SomeMet (style : Style) (told : Option Files) (plan : Plan) (log : List Record) : Type 0 where
  pub events : List Said
  pub are : map (λ (it : Said). it.met.rec) events ≡ log
  pub may : MayCome (run_voice style told plan) events

pub some_mets : (style : Style) (told : Option Files) (plan : Plan) (log : List Record) → SomeMet style told plan log
some_mets style told plan [] = record { events = []; are = refl; may = tt }
some_mets style told plan (rec ∷ log) =
    let past = some_mets style told plan log in
    let next = some_said something_served style told plan rec past.events in record {
      events = next.event ∷ past.events;
      are = ap₂ (λ (r : Record) (rs : List Record). r ∷ rs) next.of past.are;
      may = (next.may, past.may);
    }

-- nothing is a beginning of what is due
begun_none : (form : Form) (plan : Plan) (all : List Step) (refusal : Option LogError) (before : Option (List ℕ)) → IsBegun form plan all refusal before before
begun_none Text plan all refusal before = begins_none (whole_text plan all refusal) before
begun_none Json plan all refusal before = record {
  front = [];
  rest = due_lines plan all refusal;
  parts = refl;
  said = [];
  spelled = refl;
  end = [];
  ended = inl refl;
  written = begins_none [] before;
}

-- nothing is one of the lines of the first of these steps
steps_none : (form : Form) (plan : Plan) (all : List Step) (before : Option (List ℕ)) → BeginsSteps form plan all before before
steps_none form plan all before =
    record { came = []; first = record { newer = all; parts = sym (append-nil all) }; said = []; spelled = spells_none form (type_on plan) plan.buses; written = begins_none [] before }

-- memory was wanting before the first record
pub has_none : (style : Style) (told : Option Files) (plan : Plan) (left : Option (List ℕ)) (lines : Option (List Line)) (bound : ℕ) (before : Option (List ℕ)) (failed : Option (List ℕ)) (counts : TreeCounts) → bound ≡ bound_of plan
    → HasRun style.form plan told (flow left left before before) status.NoMemory (reported lines lines (record no_numbers { bound = bound })) (failures failed failed counts counts)
has_none style told plan left lines bound before failed counts b =
    let log = log_of (names_of plan) (unwrap_or left []) in
    let some = some_mets style told plan (newest_first log) in
    let mets = mets_of some.events in
    let all = steps plan mets in
    let r = reported lines lines (record no_numbers { bound = bound }) in
    let f = failures failed failed counts counts in
    let first = subst (λ (ss : List Step). AtFirst plan ss log.refusal r f) (append-nil all) (first_none plan all [] log.refusal r f (at_none plan lines 0 bound (sym (held_none plan)) b) (failed_none failed counts).tells) in record {
      bytes = unwrap_or left [];
      is = told_none left;
      mets = mets;
      of_log = records_same some.events ∙ some.are;
      served = are_served style told plan some.events some.may;
      ran = record {
        first = first;
        of_first = steps_none style.form plan first.past before;
        written = begun_none style.form plan all log.refusal before;
      };
      taken = λ e. absurd cc;
      streamed = streamed_none style.form plan mets left before status.NoMemory r;
    }

no_ticks : (plan : Plan) → ticks_of plan [] ≡ 0
no_ticks plan = go plan.silent
  where
    go : (b : Bool) → (if◌then◌else◌ {A = ℕ} b 0 0) ≡ 0
    go true = refl
    go false = refl

-- a run before its first record
pub hears_none : (plan : Plan) (before : Option (List Line)) (s : State) (clock : Clock) → IsPlan plan → plan ≡ s.node.plan → Stands s.node [] → keeps s.node ≡ kept plan [] → s.style.buses ≡ plan.buses → At s.node.plan [] (report_of before s) → s.numbers.held ≤ bound_of s.node.plan
    → clock.number ≡ 0 → clock.next ≡ next_of s.node.plan [] → s.numbers.records ≡ 0 → Hears s.node.plan before s clock []
hears_none plan before s clock is same stands keep buses at held number next none =
    let qs = (kept s.node.plan []).queues in record {
      runs = record {
        is = subst IsPlan same is;
        same = refl;
        stands = stands;
        keeps_are = keep ∙ ap (λ (p : Plan). kept p []) same;
        names = buses ∙ ap (λ (p : Plan). p.buses) same;
        at = at;
        within = held;
      };
      clock_is = record {
        number = number ∙ sym (no_ticks s.node.plan);
        next = next;
        last = none_rounds (waiting qs) clock.last qs (nothing_waits s.node.plan.queue s.node.plan.buses);
      };
      few = omega arith;
      few_records = omega arith;
      few_ticks = omega arith;
    }
