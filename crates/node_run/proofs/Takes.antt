-- The step of a record: what it came to, and what follows.
use Rattle.std.proofs.Common.{◌≡◌, ◌∙◌, ◌≤◌, ℕ, Bool, false, List, [], ◌∷◌, Option, None, count_by, refl, sym, ap, ap₂, subst}
use Rattle.cy_outside.specs.Files.{Files}
use Rattle.tail_frame.specs.declared.logged.Record.{Record}
use Rattle.rx_table.specs.Views.{subscriptions}
use Rattle.node_plan.specs.Bound.{bound_of}
use Rattle.node_plan.specs.declared.plan.Plan.{Plan}
use Rattle.node_core.specs.Came.{TellsRequest, came_lines, came_request, heard_lines}
use Rattle.node_core.specs.Files.{IsServed}
use Rattle.node_core.specs.Keeps.{IsServedBy, answered, keeps, reply_by}
use Rattle.report_lines.specs.LineSinks.{BeginsList, put_behind}
use Rattle.node_core.specs.Queues.{fulls}
use Rattle.node_core.specs.Heard.{IsElsewhere}
use Rattle.node_core.specs.Quick.{AsksNothing}
use Rattle.node_core.specs.Shapes.{port_schema}
use Rattle.node_core.specs.Stands.{Gives, Holds, IsWithinBound, Stands, StandsAsBefore, Takes, TellsBadCrc}
use Rattle.node_core.specs.Steps.{Step, Heard, IsServedAt, Kept, got, held_at, is_bad_at, is_nosession, is_rx, kept, lines_at, one_if, pushed, records, request_on, sends}
use Rattle.node_core.specs.Types.{type_on}
use Rattle.node_core.specs.declared.came.Came.{Came}
use Rattle.node_core.specs.declared.file_reply.FileReply.{FileReply}
use Rattle.report_lines.specs.declared.line.Line.{Line}
use Rattle.node_core.specs.declared.node.Node.{Node}
use Rattle.report_lines.specs.declared.numbers.Numbers.{Numbers}
use Rattle.node_core.specs.declared.request.Request.{Request}
use Rattle.node_run.specs.Follows.{BrokeFollowing, Follows, asked, following}
use Rattle.node_run.specs.Failures.{Failures, TellsFailures}
use Rattle.node_run.specs.Forms.{Style, Types}
use Rattle.node_run.specs.Goes.{Broke, HasGoneOn, IsFew, Runs, State, report_of, state}
use Rattle.node_run.specs.Hears.{counted}
use Rattle.node_run.specs.Leaves.{IsSameNode}
use Rattle.node_run.specs.Listens.{BreaksAt, BreaksOn, HasTaken}
use Rattle.node_run.specs.Tells.{AreTypesOf, HasTold}
use Rattle.node_run.specs.declared.log.tally.Seen.{Seen}
use Rattle.node_core.proofs.Elsewhere.{takes_by, gives_none, ends_none}
use Rattle.node_core.proofs.Served.{something_served}
use Rattle.node_run.proofs.Counts.{numbers_heard}
use Rattle.node_run.proofs.Goes.{all_lines_are, broke_in, broke_none, kept_next, runs_next, sent_is, step_told}
use Rattle.node_run.proofs.Tells.{begins_later}
use Rattle.node_run.proofs.TypesOf.{types_of}

-- a node has come to these lines and this request by a record
pub record CameTo (rec : Record) (old new : Node) (told : List Line) (request : Option Request) (bad : Bool) : Type 0 where
  pub same : new.plan ≡ old.plan
  pub keep : keeps new ≡ keeps old
  pub stands : Takes rec old new
  pub gives : Gives old rec told
  pub asks : (past : List Record) → Stands old past → request ≡ request_on old.plan rec (got old.plan rec past)
  pub is_bad : TellsBadCrc old rec bad

-- where it is no frame for the node it gives no line, and is no request
pub none_heard : (node : Node) (rec : Record) (came : Came) → came.heard ≡ None → [] ≡ came_lines node rec came
unfolding came_lines
none_heard node rec came e = sym (ap (heard_lines node rec) e)

pub came_to_none : (rec : Record) (old new : Node) (came : Came) → new.plan ≡ old.plan → keeps new ≡ keeps old → Takes rec old new → Gives old rec (came_lines new rec came) → TellsBadCrc old rec came.badcrc → came.heard ≡ None
    → CameTo rec old new [] None came.badcrc
came_to_none rec old new came same keep stands gives bad e =
    let none : Gives old rec [] = λ past s. none_heard new rec came e ∙ gives past s in record {
      same = same;
      keep = keep;
      stands = stands;
      gives = none;
      asks = λ past s. ap (request_on old.plan rec) (none past s);
      is_bad = bad;
    }

-- and else what it is told of
pub came_to : (rec : Record) (old new : Node) (came : Came) (told : List Line) (request : Option Request) → new.plan ≡ old.plan → keeps new ≡ keeps old → Takes rec old new → Gives old rec (came_lines new rec came) → TellsBadCrc old rec came.badcrc → TellsRequest old rec came
    → told ≡ came_lines new rec came → request ≡ came_request came told → CameTo rec old new told request came.badcrc
came_to rec old new came told request same keep stands gives bad asks lines r =
    let all : Gives old rec told = λ past s. lines ∙ gives past s in record {
      same = same;
      keep = keep;
      stands = stands;
      gives = all;
      asks = λ past s. r ∙ (ap (came_request came) (all past s) ∙ asks past s);
      is_bad = bad;
    }

-- it has come to none where it is on no port
pub came_by : (rec : Record) (node : Node) → IsElsewhere (subscriptions port_schema node.table) rec → CameTo rec node node [] None false
came_by rec node out = record {
  same = refl;
  keep = refl;
  stands = takes_by node rec out;
  gives = gives_none node rec out;
  asks = λ past s. ap (request_on node.plan rec) (gives_none node rec out past s);
  is_bad = ends_none node rec out;
}

-- nor where it asks nothing
pub came_quick : (rec : Record) (old new : Node) (told : List Line) (bad : Bool) → new.plan ≡ old.plan → keeps new ≡ keeps old → Takes rec old new → Gives old rec told → TellsBadCrc old rec bad → AsksNothing old rec → CameTo rec old new told None bad
came_quick rec old new told bad same keep stands gives is_bad asks = record {
  same = same;
  keep = keep;
  stands = stands;
  gives = gives;
  asks = λ past s. sym (asks (got old.plan rec past));
  is_bad = is_bad;
}

-- A run whose node stands for what it stood for goes on as before.
pub runs_again : (plan : Plan) (before : Option (List Line)) (past : List Step) (old : State) (node : Node) → Runs plan before old past → node.plan ≡ old.node.plan → keeps node ≡ keeps old.node → StandsAsBefore old.node node
    → Runs plan before (state node old.style old.told old.numbers) past
runs_again plan before past old node h same keep stands = record {
  is = h.is;
  same = same ∙ h.same;
  stands = stands (records past) h.stands;
  keeps_are = keep ∙ h.keeps_are;
  names = h.names;
  at = h.at;
  within = h.within;
}

-- What follows from such a node follows from the first one too.
module _ (files : Option Files) (rec : Record) (old : State) (node : Node) (new : State) (f : Failures) (same : node.plan ≡ old.node.plan) (keep : keeps node ≡ keeps old.node) (stands : StandsAsBefore old.node node) where
  pub taken_again : (before after : List ℕ) → HasTaken files rec (state node old.style old.told old.numbers) new before after f → HasTaken files rec old new before after f
  taken_again before after x = record {
    file = x.file;
    served = λ past s. subst (λ (p : Plan). IsServedAt files p (Heard rec x.file) past) same (x.served past (stands (records past) s));
    goes = λ plan first past few h.
        let g = x.goes plan first past few (runs_again plan first past old node h same keep stands) in
        record { runs = g.runs; same = g.same; adds = g.adds };
    fails = x.fails;
  }

  pub breaks_again : BreaksOn files rec (state node old.style old.told old.numbers) new f → BreaksOn files rec old new f
  breaks_again x = record {
    breaks = λ plan first past since h told. x.breaks plan first past since (runs_again plan first past old node h same keep stands) told;
    untold = x.untold;
  }

-- What the tree did for the request that it came to is what it may do for the record.
pub served_by : (told : Option Files) (rec : Record) (old node : Node) (ls : List Line) (request : Option Request) (bad : Bool) (file : FileReply)
    → CameTo rec old node ls request bad → IsServed told node.plan request file → IsServedBy told old (Heard rec file)
served_by told rec old node ls request bad file c s past stands =
    subst (λ (r : Option Request). IsServed told old.plan r file) (c.asks (records past) stands)
    (subst (λ (p : Plan). IsServed told p request file) c.same s)

-- It broke off before it told of the record.
pub broke_untold : (files : Option Files) (plan : Plan) (before : Option (List Line)) (rec : Record) (past : List Step) (old new : State) (since : Failures) → Runs plan before old past → TellsFailures past since → new.told ≡ old.told → new.numbers ≡ old.numbers
    → BreaksAt files plan rec past (report_of before new) since
broke_untold files plan before rec past old new since h failed told counted =
    let some = something_served files plan rec past in record {
      file = some.0;
      served = some.1;
      broke = broke_none plan before (Heard rec some.0 ∷ []) past old new since h told counted failed;
    }

-- What follows.

module _ (plan : Plan) (before : Option (List Line)) (rec : Record) (past : List Step) (old : State) (h : Runs plan before old past) (node : Node) (told : List Line) (request : Option Request) (bad : Bool) (c : CameTo rec old.node node told request bad) where
  abbrev k : Kept
  k = keeps node

  plan_is : node.plan ≡ plan
  plan_is = c.same ∙ h.same

  ek : k ≡ kept plan past
  ek = c.keep ∙ h.keeps_are

  lines_are : told ≡ got plan rec (records past)
  lines_are = c.gives (records past) h.stands ∙ ap (λ (p : Plan). got p rec (records past)) h.same

  asked_is : request ≡ request_on plan rec (got plan rec (records past))
  asked_is = c.asks (records past) h.stands ∙ ap (λ (p : Plan). request_on p rec (got p rec (records past))) h.same

  module _ (file : FileReply) where
    abbrev s : Step
    s = Heard rec file

    abbrev full : List Line
    full = fulls rec.moment (reply_by node.plan request file k) k.queues

    abbrev due : List Line
    due = following node.plan rec.moment (asked request file) k

    em : answered node.plan request file k ≡ pushed plan s past k
    em = ap₂ (λ (p : Plan) (r : Option Request). answered p r file k) plan_is asked_is

    ef : full ≡ fulls rec.moment (sends plan s past k) k.queues
    ef = ap₂ (λ (p : Plan) (r : Option Request). fulls rec.moment (reply_by p r file k) k.queues) plan_is asked_is

    served_at : (files : Option Files) → IsServed files node.plan request file → IsServedAt files plan s past
    served_at files d = subst (λ (r : Option Request). IsServed files plan r file) asked_is (subst (λ (p : Plan). IsServed files p request file) plan_is d)

    served_there : (files : Option Files) → IsServedAt files plan s past → IsServed files node.plan request file
    served_there files d = subst (λ (p : Plan). IsServed files p request file) (sym plan_is) (subst (λ (r : Option Request). IsServed files plan r file) (sym asked_is) d)

    -- it broke off when its own lines were told, and the first of those that follow
    broke_behind : (new : State) (since : Failures) (o : Option (List Line)) → TellsFailures past since → o ≡ put_behind old.told told → BeginsList due o new.told → new.numbers ≡ old.numbers → Broke plan (report_of before new) since (s ∷ past) past
    broke_behind new since o failed put b same =
        broke_in plan before s past old new since _ h (all_lines_are plan before s past old h k (answered node.plan request file k) ek em told full lines_are ef) (begins_later told _ old.told o new.told put b) same failed

    module _ (style : Style) (o : Option (List Line)) (t now after : List ℕ) (names : style ≡ old.style) (first : (types : Types) → AreTypesOf types node → HasTold old.style types told t now old.told o) (fin : State) (same : IsSameNode node fin.node) (behind : fin.style ≡ style) (f : Follows (asked request file) rec.moment (state node style o old.numbers) fin now after) where
      node_stands : Stands node (rec ∷ records past)
      node_stands = c.stands (records past) h.stands

      stands : Stands fin.node (rec ∷ records past)
      stands = same.stands (rec ∷ records past) node_stands

      types_are : AreTypesOf (type_on plan) node
      types_are = subst (λ (p : Plan). AreTypesOf (type_on p) node) plan_is (types_of node (rec ∷ records past) node_stands)

      next : HasTold old.style (type_on plan) due now after o fin.told
      next = subst (λ (s : Style). HasTold s (type_on plan) due now after o fin.told) names (subst (λ (p : Plan). HasTold style (type_on p) due now after o fin.told) plan_is f.told)

      all : HasTold old.style (type_on plan) (lines_at plan s past) t after old.told fin.told
      all = step_told plan before s past old h k (answered node.plan request file k) ek em told full lines_are ef (type_on plan) t now after o fin.told (first (type_on plan) types_are) next

      -- it goes on, once the record is counted
      pub goes_behind : IsFew (s ∷ past) → (seen : Seen) (held : ℕ) (numbers : Numbers) → seen.delivered ≡ count_by is_rx told → seen.badcrc ≡ one_if bad → seen.nosession ≡ count_by is_nosession told → Holds fin.node held → IsWithinBound fin.node held
          → numbers ≡ counted fin.numbers seen held → HasGoneOn plan before (s ∷ []) past old (record fin { numbers = numbers }) t after
      goes_behind few seen held numbers d b r holds within e =
          let plan_fin = same.plan ∙ plan_is in
          let more = sent_is plan before s past old h k (answered node.plan request file k) ek em _ refl in
          let bad_is = c.is_bad (records past) h.stands ∙ ap (λ (p : Plan). is_bad_at p rec (records past)) h.same in
          let held_is = holds (rec ∷ records past) stands ∙ ap (λ (p : Plan). held_at p (rec ∷ records past)) plan_fin in
          let counted_is =
          e ∙ numbers_heard plan past h.is rec file few old.numbers fin.numbers h.at.counted _ more f.counted seen held (d ∙ ap (count_by is_rx) lines_are) (b ∙ ap one_if bad_is) (r ∙ ap (count_by is_nosession) lines_are) held_is in
          let low = subst (λ (n : Numbers). n.held ≤ bound_of plan) (sym e) (subst (λ (p : Plan). held ≤ bound_of p) plan_fin (within (rec ∷ records past) stands)) in record {
            runs = runs_next plan before s past old (record fin { numbers = numbers }) h (same.plan ∙ c.same) stands (kept_next plan s past k (answered node.plan request file k) (keeps fin.node) ek em f.keeps_are) (behind ∙ names) all.put counted_is low;
            same = behind ∙ names;
            adds = all.gathered;
          }

  -- it broke off in what follows
  pub broke_following : (files : Option Files) (style : Style) (o : Option (List Line)) (new : State) (f since : Failures) → TellsFailures past since → o ≡ put_behind old.told told
      → BrokeFollowing files rec request (state node style o old.numbers) new f → BreaksAt files plan rec past (report_of before new) since
  broke_following files style o new f since failed put b =
      let some = something_served files plan rec past in
      let x = b.part some.0 (served_there some.0 files some.1) in record {
        file = x.file;
        served = served_at x.file files x.served;
        broke = broke_behind x.file new since o failed put x.part.told x.part.uncounted;
      }
