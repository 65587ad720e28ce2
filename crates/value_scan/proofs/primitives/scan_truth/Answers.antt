use Rattle.std.proofs.Common.{true, false}
use Rattle.dsdl_types.specs.Values.{Truth}
use Rattle.value_scan.proofs.Steps.{on_ok}
use Rattle.value_scan.proofs.primitives.scan_truth.Goals as goal

pub returns-in_ok-eat-clause-scanned : goal.returns-in_ok-eat-clause-scanned
returns-in_ok-eat-clause-scanned c = on_ok c.put.result (λ e. record { value = Truth true; fits = tt; spelled = c.in_ok-eat.ensures; put = e }) c.put.ensures.bits

pub returns-in_ok-eat-2-clause-scanned : goal.returns-in_ok-eat-2-clause-scanned
returns-in_ok-eat-2-clause-scanned c = on_ok c.put-else-eq.result (λ e. record { value = Truth false; fits = tt; spelled = c.in_ok-eat-2.ensures; put = e }) c.put-else-eq.ensures.bits
