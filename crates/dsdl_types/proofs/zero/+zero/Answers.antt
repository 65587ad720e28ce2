use Rattle.std.proofs.Common.{rules}
use Rattle.std.proofs.lemmas.Grind.{common_steps}
use Rattle.dsdl_types.proofs.Views.{join_none, join_push, same_items_next, zero_fields_end, body_is}
use Rattle.dsdl_types.proofs.zero.+zero.Goals as goal

pub zero_fields-loop-field-preserved : goal.zero_fields-loop-field-preserved
zero_fields-loop-field-preserved c = search (rules, common_steps, join_push)

pub zero_fields-returns : goal.zero_fields-returns
zero_fields-returns c = search (rules, zero_fields_end, body_is)

pub zeros-loop-preserved : goal.zeros-loop-preserved
zeros-loop-preserved c = search (rules, join_push, same_items_next)

pub zeros-returns : goal.zeros-returns
zeros-returns c = search (rules, join_none)
