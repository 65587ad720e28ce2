-- `encode ROOT TYPE` and `decode ROOT TYPE`: each line of the input answered as one of values of a
-- type.
use Rattle.std.specs.Prelude.{◌≡◌, ◌⊎◌, ℕ, true, false, ◌&&◌, ◌||◌, List, Option, is_some}
use Rattle.cy_outside.specs.Files.{Files}
use Rattle.dsdl_types.specs.Definitions.{IsNamespace}
use Rattle.dsdl_types.specs.declared.namespace.Namespace.{Namespace}
use Rattle.value_lines.specs.Decoded.{Decodes}
use Rattle.value_lines.specs.Encoded.{Encodes}
use Rattle.node_run.specs.Loaded.{is_none, IsLoaded, IsNotLoaded, calls_of}
use Rattle.node_run.specs.NamedTypes.{message_named}
use Rattle.node_run.specs.ValueLines.{Answering, Flow, AreStreamed, Ends, HasAnsweredLines}
use Rattle.node_run.specs.declared.status.Status.{Status}
use Rattle.cyphal.specs.Job.{Told, Job, ReportsNothing, flow_of, is_fault}
use Rattle.cyphal.specs.MayEnd.{of_root, of_values}
use Rattle.cyphal.specs.declared.jobs.values.Direction.{Direction}
use Rattle.cyphal.specs.declared.jobs.values.Direction.TheVariants as direction

-- what answers a line, by which way its values go
abbrev pub answers_by : Direction → Answering
answers_by direction.Encode = Encodes
answers_by direction.Decode = Decodes

-- the root has a namespace, whose types keep the rules, and answering the lines of the input in it
-- comes to this status
pub record AnswersIn (answers : Answering) (root name : List ℕ) (told : Told)
    (stat : Status) : Type 0 where
  pub names : Namespace
  pub is : IsLoaded root told.files names
  pub rules : IsNamespace names
  pub ends : Ends answers (message_named names name) name told.input stat

-- what answering the lines of the input comes to: why the root has no namespace, or what it comes
-- to in it
abbrev pub AnswersLines : Answering → List ℕ → List ℕ → Told → Status → Type 0
AnswersLines answers root name told stat = (is_fault stat ≡ false)
    × (IsNotLoaded root told.files stat ⊎ AnswersIn answers root name told stat)

-- the lines of the input were answered as values of a type of the namespace of a root, and each
-- answer was written before much more was taken
pub record HasAnsweredAt (answers : Answering) (root name : List ℕ) (files : Option Files)
    (stat : Status) (told : Flow) : Type 0 where
  pub names : Namespace
  pub is : IsLoaded root files names
  pub answered : HasAnsweredLines answers (message_named names name) name stat told
  pub streamed : AreStreamed answers (message_named names name) told

-- no files are needed where the root is `none`
abbrev pub values_job : Answering → List ℕ → List ℕ → Job
values_job answers root name = record {
  calls_tree = true;
  needs = calls_of root;
  takes_input = true;
  serves = false;
  may_end = λ stat. of_root stat || of_values stat;
  is_told = λ told. (is_none root || is_some told.files) && is_some told.input;
  expects = λ told stat. AnswersLines answers root name told stat;
  did = λ told came.
      HasAnsweredAt answers root name told.files came.status (flow_of told came)
      × ReportsNothing came;
}
