use Rattle.std.proofs.Common.{sym, ◌∙◌}
use Rattle.node_plan.proofs.NameLemmas.{IsUtf8-from_register}
use Rattle.node_plan.proofs.registers.register_name.Goals as goal

pub returns-in-Err : goal.returns-in-Err
returns-in-Err c = absurd (c.in-Err.ensures.cases.0 (IsUtf8-from_register c.args.name.now (sym c.has_register_bytes.ensures ∙ c.if-not-has_register_bytes.false)))
