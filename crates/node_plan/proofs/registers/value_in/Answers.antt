use Rattle.std.proofs.Common.{◌∙◌, ap}
use Rattle.std.specs.Prelude.{Err}
use Rattle.dsdl_types.specs.Views.{sch}
use Rattle.node_plan.proofs.ValueTexts.{none_read_by, register_schema}
use Rattle.node_plan.proofs.registers.value_in.Goals as goal

pub kept_value-requires-clause-schema : goal.kept_value-requires-clause-schema
kept_value-requires-clause-schema c = c.in_ok-standard.ensures.schema ∙ register_schema

pub returns-in-Err-Text : goal.returns-in-Err-Text
returns-in-Err-Text c = none_read_by (sch c.in_ok-standard.standard.schema) c.args.text.now (c.in_ok-standard.ensures.schema ∙ register_schema) (c.in-Err-Text.ensures.refused c.in-Err-Text.field-0-0 (ap Err c.in-Err-Text.field-0-is)).1
