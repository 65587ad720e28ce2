use Rattle.session_lines.proofs.Values.{values_are}
use Rattle.session_lines.proofs.laws.values.Goals as goal

pub returns : goal.returns
returns c =
    values_are c.reported.ensures c.emptying.ensures.reported c.readings.ensures c.once_in_report.ensures c.schemas_keep_rules.ensures.rules
    c.schemas_keep_rules.ensures.composite c.rules_suffice.ensures c.round_trip.ensures c.within_extent.ensures c.evolution.ensures
