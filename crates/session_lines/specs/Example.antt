-- The premises of values and due values can be met, where the sender's type is newer than the
-- port's.
use Rattle.std.specs.Prelude.{◌≡◌, ◌≢◌, List}
use Rattle.dsdl_types.specs.Fits.{Fits}
use Rattle.dsdl_types.specs.Laws.{encoding}
use Rattle.dsdl_types.specs.Newer.{Newer}
use Rattle.dsdl_types.specs.Schemas.{Sch}
use Rattle.dsdl_types.specs.Sound.{IsSound}
use Rattle.dsdl_types.specs.Values.{Val}
use Rattle.tail_frame.specs.Chains.{KeyRecord}
use Rattle.rx_table.specs.Keys.{SessionKey}
use Rattle.rx_table.specs.Ports.{Port}
use Rattle.frag.specs.Sent.{transfer_at}
use Rattle.frag.specs.declared.sent.Pair.{Pair}
use Rattle.frag.specs.declared.sent.Sent.{Sent}
use Rattle.delivery_theorems.specs.Report.{IsDue}
use Rattle.node_plan.specs.declared.plan.Plan.{Plan}
use Rattle.node_core.specs.Steps.{Step, records}
use Rattle.session_lines.specs.Reported.{of_key}
use Rattle.session_lines.specs.Values.{IsSentTo}

-- a plan, a log and a sent list, with a due transfer that was sent as a value of a newer type than
-- the port's
pub record ValuesExample : Type 0 where
  pub plan : Plan
  pub key : SessionKey
  pub steps : List Step
  pub p : Port
  pub port : Sch
  pub sent : Sent
  pub origin : List Pair
  pub q : KeyRecord
  pub sender : Sch
  pub value : Val
  pub sent_to : IsSentTo plan key (records steps) p port sent origin
  pub due : IsDue plan.timeout sent origin (of_key plan key (records steps)) q
  pub is_newer : Newer sender port
  pub differ : sender ≢ port
  pub sound : IsSound sender
  pub fits : Fits sender value
  pub payload : (transfer_at sent due.j).payload ≡ encoding sender value
