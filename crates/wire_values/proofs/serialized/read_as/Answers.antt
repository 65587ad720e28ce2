use Rattle.std.proofs.Common.{◌∙◌, sym, subst, arith}
use Rattle.cy_bits.proofs.BitPlaces.{length_bits}
use Rattle.dsdl_types.specs.Reach.{reach}
use Rattle.dsdl_types.specs.Reading.{own}
use Rattle.dsdl_types.specs.Views.{sch}
use Rattle.wire_values.specs.Reads.{Near, behind}
use Rattle.wire_values.proofs.Buffers.{schema_rules}
use Rattle.wire_values.proofs.Near.{composite_near}
use Rattle.wire_values.proofs.serialized.read_as.Goals as goal

pub read_own-requires-clause-rules : goal.read_own-requires-clause-rules
read_own-requires-clause-rules c = schema_rules (sch c.args.schema.now) c.requires.rules

pub read_own-requires-clause-near : goal.read_own-requires-clause-near
read_own-requires-clause-near c =
    let s = sch c.args.schema.now in
    let near : Near c.args.bytes.now 0 (reach s) = omega (arith, composite_near s (schema_rules s c.requires.rules) c.requires.composite, length_bits c.args.bytes.now, c.requires.small) in
    subst (λ b. Near b c.new-at.result.place (reach s)) (sym c.new-at.ensures.bytes) (subst (λ p. Near c.args.bytes.now p (reach s)) (sym c.new-at.ensures.place) near)

pub returns-in-Ok-clause-ok : goal.returns-in-Ok-clause-ok
returns-in-Ok-clause-ok c =
    let s = sch c.args.schema.now in
    (c.read_own.new.at.place, behind c.read_own.new.at.bytes c.read_own.new.at.place, (λ i. own s (sym c.new-at.ensures.place i) (behind (sym c.new-at.ensures.bytes i) (sym c.new-at.ensures.place i))) ∙ c.in-Ok.ensures.reads)
