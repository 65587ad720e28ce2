-- How a run goes on, step by step.
use Rattle.std.proofs.Common.{◌≡◌, ◌∙◌, ◌^◌, ◌*◌, ℕ, ◌+◌, ◌-◌, ◌<◌, ◌≤◌, min, List, [], ◌∷◌, ◌++◌, length, Option, Some, None, refl, sym, ap, ap₂, subst, arith, append_assoc, append-nil}
use Rattle.frame_log.specs.declared.error.LogError.{LogError}
use Rattle.frame_log.specs.declared.error.LogError.TheVariants as error
use Rattle.log_loop.specs.Gone.{FirstOf}
use Rattle.log_loop.proofs.Events.{first_of}
use Rattle.node_plan.specs.Bound.{bound_of}
use Rattle.node_plan.specs.declared.plan.Plan.{Plan}
use Rattle.report_lines.specs.declared.line.Line.{Line}
use Rattle.report_lines.specs.declared.numbers.Numbers.{Numbers}
use Rattle.node_core.specs.Keeps.{keeps}
use Rattle.report_lines.specs.LineSinks.{BeginsList, put_behind}
use Rattle.node_core.specs.Queues.{Queue, fulls, leaving, waiting}
use Rattle.node_core.proofs.Waits.{all_stay, none_leaves}
use Rattle.node_core.specs.Stands.{Stands}
use Rattle.node_core.specs.Steps.{Step, Tick, Kept, ticks_from, emptying, kept, left, lines, lines_at, lines_behind, moment_of, numbers, pushed, received_at, records, sends}
use Rattle.node_core.specs.Types.{type_on}
use Rattle.node_run.specs.Failures.{Failures, TellsFailures}
use Rattle.node_run.specs.Forms.{Adds, Style, Types}
use Rattle.node_run.specs.Goes.{BreaksOff, Broke, GoesOn, IsFew, Runs, State, report_of, with_sent}
use Rattle.node_run.specs.Tells.{HasTold}
use Rattle.node_run.specs.Ran.{AtFirst, Reported, At, first_lines, next_lines}
use Rattle.node_run.proofs.Fails.{tells_later}
use Rattle.node_run.proofs.Steps.{behind_newer, length_behind, tick_more, ticks_split}
use Rattle.node_run.proofs.Forms.{adds_more, adds_none}
use Rattle.node_run.proofs.Tells.{put_more, told_more, told_none}

-- a step's lines, from what it received and what it sends
pub lines_are : (plan : Plan) (s : Step) (past : List Step) (k mid : Kept) (g f : List Line) → k ≡ kept plan past → mid ≡ pushed plan s past k → g ≡ received_at plan s past → f ≡ fulls (moment_of s) (sends plan s past k) k.queues
    → (g ++ f) ++ leaving (moment_of s) mid.queues ≡ lines_at plan s past
lines_are plan s past k mid g f e m a b =
    ap₂ (λ (x : List Line) (y : Kept). x ++ leaving (moment_of s) y.queues)
    (ap₂ (λ (x y : List Line). x ++ y) a (b ∙ ap (λ (y : Kept). fulls (moment_of s) (sends plan s past y) y.queues) e)) (m ∙ ap (pushed plan s past) e)

pub kept_next : (plan : Plan) (s : Step) (past : List Step) (k mid new : Kept) → k ≡ kept plan past → mid ≡ pushed plan s past k → new ≡ left mid → new ≡ kept plan (s ∷ past)
kept_next plan s past k mid new e m n = n ∙ ap left (m ∙ ap (pushed plan s past) e)

-- one more step is run
pub runs_next : (plan : Plan) (before : Option (List Line)) (s : Step) (past : List Step) (old new : State) → Runs plan before old past → new.node.plan ≡ old.node.plan → Stands new.node (records (s ∷ past)) → keeps new.node ≡ kept plan (s ∷ past) → new.style ≡ old.style
    → new.told ≡ put_behind old.told (lines_at plan s past) → new.numbers ≡ numbers plan (s ∷ past) → new.numbers.held ≤ bound_of plan → Runs plan before new (s ∷ past)
runs_next plan before s past old new h same stands keep style told counted held = record {
  is = h.is;
  same = same ∙ h.same;
  stands = stands;
  keeps_are = keep;
  names = ap (λ (x : Style). x.buses) style ∙ h.names;
  at = record { reported = told ∙ (ap (λ o. put_behind o (lines_at plan s past)) h.at.reported ∙ put_more before (lines plan past) (lines_at plan s past)); counted = counted };
  within = held;
}

-- Where it breaks off.

pub first_none : (plan : Plan) (newer past : List Step) (refusal : Option LogError) (r : Reported) (f : Failures) → At plan past r → TellsFailures past f → AtFirst plan (newer ++ past) refusal r f
first_none plan newer past refusal r f a failed = record {
  newer = newer;
  past = past;
  parts = refl;
  told = [];
  rest = next_lines plan newer past refusal;
  next = refl;
  at = record { reported = a.reported ∙ ap (put_behind r.old) (sym (append-nil (lines plan past))); counted = a.counted };
  failed = failed;
}

-- before it told a line of these steps
pub broke_none : (plan : Plan) (before : Option (List Line)) (newer past : List Step) (old new : State) (f : Failures) → Runs plan before old past → new.told ≡ old.told → new.numbers ≡ old.numbers → TellsFailures past f
    → Broke plan (report_of before new) f (newer ++ past) past
unfolding first_none
broke_none plan before newer past old new f h told counted failed = record {
  first = λ refusal. first_none plan newer past refusal (report_of before new) f (record { reported = told ∙ h.at.reported; counted = counted ∙ h.at.counted }) failed;
  behind = λ refusal. record { newer = []; parts = refl };
  within = subst (λ (n : Numbers). n.held ≤ bound_of plan) (sym counted) h.within;
}

-- when it had told some lines of a step
pub broke_in : (plan : Plan) (before : Option (List Line)) (s : Step) (past : List Step) (old new : State) (f : Failures) (ls : List Line) → Runs plan before old past → ls ≡ lines_at plan s past → BeginsList ls old.told new.told → new.numbers ≡ old.numbers → TellsFailures past f
    → Broke plan (report_of before new) f (s ∷ past) past
broke_in plan before s past old new f ls h e b counted failed = record {
  first = λ refusal. record {
    newer = s ∷ [];
    past = past;
    parts = refl;
    told = b.front;
    rest = b.rest;
    next = sym e ∙ b.whole;
    at = record {
      reported = b.put ∙ (ap (λ o. put_behind o b.front) h.at.reported ∙ put_more before (lines plan past) b.front);
      counted = counted ∙ h.at.counted;
    };
    failed = failed;
  };
  behind = λ refusal. record { newer = []; parts = refl };
  within = subst (λ (n : Numbers). n.held ≤ bound_of plan) (sym counted) h.within;
}

first_grow : (plan : Plan) (a s : Step) (n t past : List Step) → first_lines plan a (n ++ s ∷ t) past ≡ first_lines plan s t past
first_grow plan a s [] t past = refl
first_grow plan a s (b ∷ n) t past = first_grow plan b s n t past

next_grow : (plan : Plan) (n : List Step) (s : Step) (t past : List Step) (x y : Option LogError) → next_lines plan (n ++ s ∷ t) past x ≡ next_lines plan (s ∷ t) past y
next_grow plan [] s t past x y = refl
next_grow plan (a ∷ n) s t past x y = first_grow plan a s n t past

nothing : (a b : List Line) → [] ≡ a ++ b → a ≡ []
nothing [] b e = refl
nothing (x ∷ a) b e = cc

-- with newer steps that it didn't come to, behind the same
record Grown (plan : Plan) (all : List Step) (refusal : Option LogError) (r : Reported) (f : Failures) (past : List Step) : Type 0 where
  first : AtFirst plan all refusal r f
  same : first.past ≡ past

pub broke_grow : (plan : Plan) (n all past : List Step) (r : Reported) (g : Failures) → Broke plan r g all past → Broke plan r g (n ++ all) past
broke_grow plan n all past r g b = record {
  first = λ refusal. (grow refusal).first;
  behind = λ refusal. subst (λ (p : List Step). FirstOf p past) (sym (grow refusal).same) (b.behind (Some error.Failed));
  within = b.within;
}
  where
    grown : (refusal : Option LogError) (f : AtFirst plan all (Some error.Failed) r g) (newer : List Step) → all ≡ newer ++ f.past → next_lines plan newer f.past (Some error.Failed) ≡ f.told ++ f.rest → Grown plan (n ++ all) refusal r g f.past
    grown refusal f [] parts next = record {
      first = record {
        newer = n;
        past = f.past;
        parts = ap (λ t. n ++ t) parts;
        told = f.told;
        rest = next_lines plan n f.past refusal;
        next = ap (λ t. t ++ next_lines plan n f.past refusal) (sym (nothing f.told f.rest next));
        at = f.at;
        failed = f.failed;
      };
      same = refl;
    }
    grown refusal f (s ∷ t) parts next = record {
      first = record {
        newer = n ++ s ∷ t;
        past = f.past;
        parts = ap (λ x. n ++ x) parts ∙ sym (append_assoc n (s ∷ t) f.past);
        told = f.told;
        rest = f.rest;
        next = next_grow plan n s t f.past refusal (Some error.Failed) ∙ next;
        at = f.at;
        failed = f.failed;
      };
      same = refl;
    }

    grow : (refusal : Option LogError) → Grown plan (n ++ all) refusal r g (b.first (Some error.Failed)).past
    grow refusal = let f = b.first (Some error.Failed) in grown refusal f f.newer f.parts f.next

-- behind fewer steps
pub broke_older : (plan : Plan) (n all past : List Step) (r : Reported) (g : Failures) → Broke plan r g all (n ++ past) → Broke plan r g all past
broke_older plan n all past r g b = record { first = b.first; behind = λ refusal. first_of (b.first refusal).past (n ++ past) n past (b.behind refusal) refl; within = b.within }

-- a part of what left at the end is reported, and not counted
abbrev pub first_cut : (plan : Plan) (all : List Step) (r : Reported) (f : Failures) (mid : Option (List Line)) → mid ≡ put_behind r.old (lines plan all) → BeginsList (emptying plan all) mid r.new → r.numbers ≡ numbers plan all → TellsFailures all f → AtFirst plan all None r f
first_cut plan all r f mid m b counted failed = record {
  newer = [];
  past = all;
  parts = refl;
  told = b.front;
  rest = b.rest;
  next = b.whole;
  at = record { reported = b.put ∙ (ap (λ o. put_behind o b.front) m ∙ put_more r.old (lines plan all) b.front); counted = counted };
  failed = failed;
}

-- One after the other.

pub goes_none : (old : State) (t : List ℕ) → GoesOn [] old old t t
goes_none old t plan before past few h = record { runs = h; same = refl; adds = adds_none old.style (type_on plan) t }

pub goes_more : (a b : List Step) (old mid new : State) (t now after : List ℕ) → GoesOn a old mid t now → GoesOn b mid new now after → GoesOn (b ++ a) old new t after
goes_more a b old mid new t now after x y plan before past few h =
    let all = append_assoc b a past in
    let less : IsFew (a ++ past) = fewer b a past few in
    let f = x plan before past less h in
    let g = y plan before (a ++ past) (subst IsFew all few) f.runs in
    let first = lines_behind plan a past in
    let later = lines_behind plan b (a ++ past) in
    let adds = subst (λ (s : Style). Adds s (type_on plan) later now after) f.same g.adds in record {
      runs = subst (λ (l : List Step). Runs plan before new l) (sym all) g.runs;
      same = g.same ∙ f.same;
      adds = subst (λ (ls : List Line). Adds old.style (type_on plan) ls t after) (sym (behind_newer plan b a past))
          (adds_more old.style (type_on plan) first later t now after f.adds adds);
    }
  where
    longer : (c d : List Step) → length d ≤ length (c ++ d)
    longer [] d = omega arith
    longer (s ∷ c) d = let h = longer c d in omega arith

    fewer : (c d e : List Step) → IsFew ((c ++ d) ++ e) → IsFew (d ++ e)
    fewer c d e h =
        let all = ap length (append_assoc c d e) in
        let less = longer c (d ++ e) in omega arith

-- One step.

module _ (plan : Plan) (before : Option (List Line)) (s : Step) (past : List Step) (old : State) (h : Runs plan before old past) (k mid : Kept) (ek : k ≡ kept plan past) (em : mid ≡ pushed plan s past k) where
  abbrev out : List Line
  out = leaving (moment_of s) mid.queues

  -- how many frames left
  pub sent_is : (more : ℕ) → more ≡ length out → more ≡ length (leaving (moment_of s) (pushed plan s past (kept plan past)).queues)
  sent_is more e = e ∙ ap (λ (y : Kept). length (leaving (moment_of s) y.queues)) (em ∙ ap (pushed plan s past) ek)

  module _ (g f : List Line) (eg : g ≡ received_at plan s past) (ef : f ≡ fulls (moment_of s) (sends plan s past k) k.queues) where
    pub all_lines_are : g ++ (f ++ out) ≡ lines_at plan s past
    all_lines_are = sym (append_assoc g f out) ∙ lines_are plan s past k mid g f ek em eg ef

    pub step_told : (types : Types) (t now after : List ℕ) (o1 o2 : Option (List Line)) → HasTold old.style types g t now old.told o1 → HasTold old.style types (f ++ out) now after o1 o2 → HasTold old.style types (lines_at plan s past) t after old.told o2
    step_told types t now after o1 o2 x y =
        subst (λ (ls : List Line). HasTold old.style types ls t after old.told o2) all_lines_are
        (told_more old.style types g (f ++ out) t now after old.told o1 o2 x y)

-- what a quiet step leaves as it was
pub none_kept : (k : Kept) → waiting k.queues ≡ 0 → k ≡ left k
none_kept k e = ap (λ (qs : List Queue). record k { queues = qs }) (sym (all_stay k.queues e))

pub none_told : (style : Style) (types : Types) (moment : ℕ) (qs : List Queue) (t : List ℕ) (o : Option (List Line)) → waiting qs ≡ 0 → HasTold style types (leaving moment qs) t t o o
none_told style types moment qs t o e = subst (λ (ls : List Line). HasTold style types ls t t o o) (sym (none_leaves moment 0 qs e)) (told_none style types t o)

pub none_sent : (moment : ℕ) (qs : List Queue) (n : Numbers) → n.sent < 2 ^ 64 → waiting qs ≡ 0 → n ≡ with_sent n (length (leaving moment qs))
none_sent moment qs n low e =
    let none : length (leaving moment qs) ≡ 0 = ap length (none_leaves moment 0 qs e) in
    let same : n.sent ≡ min (n.sent + length (leaving moment qs)) (2 ^ 64 - 1) = omega arith in ap (λ m. record n { sent = m }) same

-- Ticks, in one of which it broke off.

pub ticks_broke : (first number due n at moment : ℕ) → n < due → at ≡ number + n → moment ≡ first + (number + n) * 1000000 → (old mid new : State) (t now : List ℕ) → GoesOn (ticks_from first number n) old mid t now → BreaksOff (Tick at moment ∷ []) mid new → BreaksOff (ticks_from first number due) old new
ticks_broke first number due n at moment below e f old mid new t now goes breaks plan before past g few h failed =
    let size = length_behind first number due past in
    let done = length_behind first number n past in
    let few_done : IsFew (ticks_from first number n ++ past) = omega (arith, few, size, done) in
    let few_more : IsFew (Tick at moment ∷ (ticks_from first number n ++ past)) = omega (arith, few, size, done) in
    let b = broke_older plan (ticks_from first number n) (Tick at moment ∷ (ticks_from first number n ++ past)) past (report_of before new) g
    (breaks plan before (ticks_from first number n ++ past) g few_more (goes plan before past few_done h).runs (tells_later first number n past g failed)) in
    let d = due - (n + 1) in
    let split = ticks_split first number (n + 1) d in
    let more = ap (λ (ts : List Step). ts ++ past) (tick_more first number n at moment e f) in
    let all : due ≡ (n + 1) + d = omega arith in
    let whole = ap (λ (ts : List Step). ts ++ past) (ap (ticks_from first number) all ∙ split.1) ∙ append_assoc split.0 (ticks_from first number (n + 1)) past in
    let broke : List Step → Type 0 = λ all. Broke plan (report_of before new) g all past in
    subst broke (sym whole) (broke_grow plan split.0 (ticks_from first number (n + 1) ++ past) past (report_of before new) g (subst broke more b))
