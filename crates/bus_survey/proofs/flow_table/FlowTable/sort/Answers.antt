use Rattle.bus_survey.proofs.FlowLemmas.{in_order, moved}
use Rattle.bus_survey.proofs.flow_table.FlowTable.sort.Goals as goal

pub returns-clause-sorted : goal.returns-clause-sorted
returns-clause-sorted c = λ past is.
    let sort = c.in_ok-sort_unstable_keys.ensures {u = tt} in
    in_order past c.sort_unstable_keys.new.self.entries (moved past _ _ is sort.reordered.0) sort.unique sort.sorted

pub returns-clause-stands : goal.returns-clause-stands
returns-clause-stands c = λ past is. moved past _ _ is c.sort_unstable_keys.ensures.reordered.0

pub returns-in_err-sort_unstable_keys-clause-stands : goal.returns-in_err-sort_unstable_keys-clause-stands
returns-in_err-sort_unstable_keys-clause-stands c = λ past is. moved past _ _ is c.sort_unstable_keys.ensures.reordered.0
