-- Which lines of a log were reported: the first of all that are due.
use Rattle.std.proofs.Common.{◌≡◌, ◌∙◌, List, [], ◌∷◌, ◌++◌, Option, Some, None, refl, sym, ap, append-nil, append_assoc}
use Rattle.frame_log.specs.declared.error.LogError.{LogError}
use Rattle.log_loop.specs.Gone.{FirstOf}
use Rattle.node_plan.specs.declared.plan.Plan.{Plan}
use Rattle.report_lines.specs.LineSinks.{put_behind}
use Rattle.node_core.specs.Steps.{Met, Step, lines, lines_at, lines_behind, emptying, all_lines, steps}
use Rattle.report_lines.specs.declared.line.Line.{Line}
use Rattle.node_run.specs.Failures.{Failures}
use Rattle.node_run.specs.Ran.{Reported, Tells, AtFirst, due_lines, due_numbers, first_lines, next_lines}
use Rattle.node_run.proofs.Steps.{first_steps, lines_newer}

-- the lines of the steps are the first of those that are due
pub steps_due : (plan : Plan) (all : List Step) (refusal : Option LogError) → (more : List Line) × (due_lines plan all refusal ≡ lines plan all ++ more)
steps_due plan all None = (emptying plan all, refl)
steps_due plan all (Some refusal) = ([], sym (append-nil (lines plan all)))

-- and those that are due are the first of all
pub due_all : (plan : Plan) (all : List Step) (refusal : Option LogError) → (more : List Line) × (all_lines plan all ≡ due_lines plan all refusal ++ more)
due_all plan all None = ([], sym (append-nil (all_lines plan all)))
due_all plan all (Some refusal) = (emptying plan all, refl)

-- the lines of the first steps are the first lines, and then come those of the next step
next_step : (plan : Plan) (step : Step) (newer past : List Step) → (more : List Line) × (lines plan (step ∷ (newer ++ past)) ≡ lines plan past ++ (first_lines plan step newer past ++ more))
next_step plan step [] past = ([], ap (λ t. lines plan past ++ t) (sym (append-nil (lines_at plan step past))))
next_step plan step (older ∷ newer) past =
    let f = next_step plan older newer past in
    let at = lines_at plan step (older ∷ (newer ++ past)) in
    let first = first_lines plan older newer past in (
      f.0 ++ at,
      ap (λ t. t ++ at) f.1
          ∙ (append_assoc (lines plan past) (first ++ f.0) at ∙ ap (λ t. lines plan past ++ t) (append_assoc first f.0 at)),
    )

-- behind the lines of the first steps come the next ones
next_due : (plan : Plan) (newer past : List Step) (refusal : Option LogError) → (more : List Line) × (due_lines plan (newer ++ past) refusal ≡ lines plan past ++ (next_lines plan newer past refusal ++ more))
next_due plan [] past None = ([], ap (λ t. lines plan past ++ t) (sym (append-nil (emptying plan past))))
next_due plan [] past (Some refusal) = ([], sym (append-nil (lines plan past)))
next_due plan (step ∷ newer) past refusal =
    let f = next_step plan step newer past in
    let d = steps_due plan (step ∷ (newer ++ past)) refusal in
    let first = first_lines plan step newer past in (
      f.0 ++ d.0,
      d.1
          ∙ (ap (λ t. t ++ d.0) f.1
          ∙ (append_assoc (lines plan past) (first ++ f.0) d.0 ∙ ap (λ t. lines plan past ++ t) (append_assoc first f.0 d.0))),
    )

-- the first lines of a log with these steps were put, and no other
pub record IsFront (plan : Plan) (all : List Step) (refusal : Option LogError) (r : Reported) : Type 0 where
  pub mine : List Line
  pub rest : List Line
  pub put : r.new ≡ put_behind r.old mine
  pub whole : due_lines plan all refusal ≡ mine ++ rest

module _ (plan : Plan) (all : List Step) (refusal : Option LogError) (r : Reported) where
  -- where it broke off
  pub first_front : (failed : Failures) → AtFirst plan all refusal r failed → IsFront plan all refusal r
  first_front failed f =
      let more = next_due plan f.newer f.past refusal in
      let before = lines plan f.past in
      record {
        mine = before ++ f.told;
        rest = f.rest ++ more.0;
        put = f.at.reported;
        whole =
            ap (λ s. due_lines plan s refusal) f.parts
            ∙ (more.1
            ∙ (ap (λ t. before ++ (t ++ more.0)) f.next
            ∙ (ap (λ t. before ++ t) (append_assoc f.told f.rest more.0) ∙ sym (append_assoc before f.told (f.rest ++ more.0)))));
      }

  -- where it came to the end of what counts
  pub whole_front : Tells (due_lines plan all refusal) (due_numbers plan all refusal) r → IsFront plan all refusal r
  whole_front t = let due = due_lines plan all refusal in record { mine = due; rest = []; put = t.reported; whole = sym (append-nil due) }

-- the lines of the records that came are the first of a log
pub came_lines : (plan : Plan) (mets came : List Met) (refusal : Option LogError) → FirstOf mets came
    → (rest : List Line) × (due_lines plan (steps plan mets) refusal ≡ lines plan (steps plan came) ++ rest)
came_lines plan mets came refusal first =
    let f = first_steps plan mets came first in
    let more = lines_behind plan f.newer (steps plan came) in
    let d = steps_due plan (steps plan mets) refusal in (
      more ++ d.0,
      d.1
          ∙ (ap (λ t. t ++ d.0) (ap (lines plan) f.parts ∙ lines_newer plan f.newer (steps plan came))
          ∙ append_assoc (lines plan (steps plan came)) more d.0),
    )
