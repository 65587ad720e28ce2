use Rattle.std.proofs.Common.{sym, ◌∙◌}
use Rattle.node_plan.proofs.NameLemmas.{IsUtf8-from_name}
use Rattle.node_plan.proofs.bus.bus_name.Goals as goal

pub returns-in-Err : goal.returns-in-Err
returns-in-Err c = absurd (c.in-Err.ensures.cases.0 (IsUtf8-from_name c.args.name.now (sym c.has_name_bytes.ensures ∙ c.if-not-has_name_bytes.false)))
