-- What a run took of its input, and what was written meanwhile.
use Rattle.std.specs.Prelude.{ℕ, List}
use Rattle.cy_outside.specs.Files.{Files}
use Rattle.node_core.specs.Steps.{Met}
use Rattle.node_plan.specs.declared.plan.Plan.{Plan}
use Rattle.node_run.specs.Streamed.{IsStreamed}
use Rattle.node_run.specs.Taken.{IsOfTaken}
use Rattle.cyphal.specs.Job.{Told, Outcome, flow_of}
use Rattle.cyphal.specs.Headline.{AreMet, Asked}
use Rattle.cyphal.specs.Plans.{SinceLoaded}

-- the records of the input that count are met, each with what the tree told of a file there, and
-- this holds of them
pub record OverMet (plan : Plan) (tree : Files) (bytes : List ℕ)
    (holds : List Met → Type 0) : Type 0 where
  pub mets : List Met
  pub are : AreMet plan tree bytes mets
  pub is : holds mets

-- a run whose input failed: the report, the failures in it, and what is written are those of the
-- records whose line and newline were taken, each of them whole, and of no other
abbrev pub TakenOf : List (List ℕ) → Told → Outcome → Type 0
TakenOf words told came =
    (plan : Plan) (bytes : List ℕ) (a : Asked words told plan bytes)
    → OverMet plan a.tree bytes
    (λ mets. SinceLoaded a.root a.path told.files came.failures
    (IsOfTaken a.form plan mets (flow_of told came) came.reported))

-- however a run ended: at most 2^28 bytes of the input and one more were taken, and no more than
-- 8,192 of them before the lines on what came before were written
abbrev pub StreamedOf : List (List ℕ) → Told → Outcome → Type 0
StreamedOf words told came =
    (plan : Plan) (bytes : List ℕ) (a : Asked words told plan bytes)
    → OverMet plan a.tree bytes
    (λ mets. IsStreamed a.form plan mets (flow_of told came) came.status came.reported)
