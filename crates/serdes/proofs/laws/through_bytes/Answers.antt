use Rattle.std.proofs.Common.{Err, ap, rules}
use Rattle.dsdl_types.specs.Rules.{IsSchema}
use Rattle.dsdl_types.specs.Views.{sch, val}
use Rattle.wire_values.proofs.RoundTrips.{never_refused, reads_back}
use Rattle.serdes.proofs.laws.through_bytes.Goals as goal

pub returns-in-Ok-clause-same : goal.returns-in-Ok-clause-same
returns-in-Ok-clause-same c =
    let s = sch c.args.layout.now.schema in
    let kept : IsSchema s = search rules in
    reads_back s (val c.args.value.now) (val c.in-Ok.value) c.in_ok-len.len c.write.new.out kept c.in_ok-len.ensures.ok c.in-Ok.ensures.ok

pub unreachable-requires : goal.unreachable-requires
unreachable-requires c =
    let s = sch c.args.layout.now.schema in
    let kept : IsSchema s = search rules in
    never_refused s (val c.args.value.now) c.in_ok-len.len c.write.new.out _ c.in-Err-Bad.field-0-1 kept c.in_ok-len.ensures.ok (c.in-Err-Bad.ensures.refused _ c.in-Err-Bad.field-0-1 (ap Err c.in-Err-Bad.field-0-is))
