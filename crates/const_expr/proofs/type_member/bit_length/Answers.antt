use Rattle.std.proofs.Common.{sym, ◌∙◌}
use Rattle.dsdl_types.specs.Views.{sch}
use Rattle.const_expr.proofs.MemberLists.{lengths_are}
use Rattle.const_expr.proofs.type_member.bit_length.Goals as goal

pub returns-clause-value : goal.returns-clause-value
returns-clause-value c =
    lengths_are (sch c.args.schema.now) c.in_ok-lengths.lengths (sym c.is_long.ensures ∙ c.if-is_long.false) c.count.ensures.ascending c.in_ok-lengths.ensures
