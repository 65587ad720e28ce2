-- How far a run took its input.
use Rattle.std.proofs.Common.{ℕ, List, [], Option, arith}
use Rattle.frame_log.proofs.LogLemmas.{Took-none}
use Rattle.log_loop.proofs.Streams.{no_front}
use Rattle.node_plan.specs.declared.plan.Plan.{Plan}
use Rattle.node_core.specs.Steps.{Met}
use Rattle.node_run.specs.declared.status.Status.{Status}
use Rattle.node_run.specs.Ran.{Reported}
use Rattle.node_run.specs.Forms.{Form}
use Rattle.node_run.specs.Streamed.{IsStreamed}
use Rattle.node_run.specs.ValueLines.{flow}

-- a run that took nothing
pub streamed_none : (form : Form) (plan : Plan) (mets : List Met) (left before : Option (List ℕ)) (stat : Status) (r : Reported) → IsStreamed form plan mets (flow left left before before) stat r
streamed_none form plan mets left before stat r = record {
  taken = [];
  took = Took-none left;
  few = omega arith;
  written = λ front more e long. absurd (no_front front more e long);
  reported = λ front more e long. absurd (no_front front more e long);
}
