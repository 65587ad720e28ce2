-- The laws that the headline rests on.
use Rattle.std.specs.Prelude.{ℕ, List}
use Rattle.delivery_theorems.specs.Raw.{WireExplainsFields}
use Rattle.delivery_theorems.specs.Report.{DueInReport, OnceInPart}
use Rattle.frame_log.specs.Log.{log_of}
use Rattle.frame_log.specs.Order.{IsAhead}
use Rattle.dsdl_resolve.specs.Soundness.{NamespacesKeepRules}
use Rattle.node_core.specs.Laws.{NothingServed, RecordsOfSteps, SomethingServed}
use Rattle.node_plan.specs.Laws.{PlansKeepTypeRules}
use Rattle.session_lines.specs.Reported.{Reported, StepsReportAll}
use Rattle.session_lines.specs.Values.{DueValuesInReport, ValuesInReport}

-- the records of every log are in order
abbrev pub LogsAreInOrder : Type 0
LogsAreInOrder = (buses : List (List ℕ)) (bytes : List ℕ) → IsAhead 0 0 (log_of buses bytes).records

-- all of them
pub record HeadlineLaws : Type 0 where
  pub records : RecordsOfSteps
  pub plain : NothingServed
  pub served : SomethingServed
  pub sessions : Reported
  pub all : StepsReportAll
  pub fields : WireExplainsFields
  pub once : OnceInPart
  pub due : DueInReport
  pub order : LogsAreInOrder
  pub values : ValuesInReport
  pub due_values : DueValuesInReport
  pub namespaces : NamespacesKeepRules
  pub plans : PlansKeepTypeRules
