use Rattle.std.proofs.Common.{◌≡◌, rules}
use Rattle.std.specs.Cmp.Lexicographic.{other_text}
use Rattle.dsdl_types.specs.Views.{sch, val}
use Rattle.value_text.specs.Texts.{value_text}
use Rattle.value_text.proofs.ReadValues.{readable, refused}
use Rattle.value_text.proofs.read.read_value.Goals as goal

pub value_at-requires : goal.value_at-requires
value_at-requires c = readable (sch c.args.schema.now) c.requires

pub returns-else-eq-clause-refused : goal.returns-else-eq-clause-refused
returns-else-eq-clause-refused c n e =
    let printed : c.as_bytes.result.now ≡ value_text (sch c.args.schema.now) (val c.in-Ok.value) = search rules in
    (search rules, refused (sch c.args.schema.now) c.args.line.now c.as_bytes.result.now _ (val c.in-Ok.value) c.in-Ok.ensures printed (other_text c.as_bytes.result.now c.args.line.now c.if-eq.ensures))
