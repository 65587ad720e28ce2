use Rattle.std.proofs.Common.{refl, arith}
use Rattle.dsdl_resolve.proofs.Clear.{few_statements}
use Rattle.dsdl_resolve.proofs.PlaceLemmas.{places_moved}
use Rattle.dsdl_resolve.proofs.Rereading.{answers_read}
use Rattle.dsdl_resolve.proofs.valuing.value_lines.Goals as goal

pub value_file-requires-clause-places : goal.value_file-requires-clause-places
value_file-requires-clause-places c = places_moved c.args.scope.now _ c.args.places.now refl refl c.requires.places

pub value_file-requires-clause-spelled : goal.value_file-requires-clause-spelled
value_file-requires-clause-spelled c = c.well_spelled.ensures.text c.args.file.now.text c.args.lines.now c.requires.text

pub value_file-requires-clause-few : goal.value_file-requires-clause-few
value_file-requires-clause-few c = omega (arith, few_statements c.args.file.now.text c.args.lines.now c.requires.text, c.requires.short)

pub returns-clause-value : goal.returns-clause-value
returns-clause-value c = λ r is.
    answers_read c.one_parsing.ensures c.args.file.now r is c.args.name.now c.requires.named c.args.lines.now c.args.lines.now c.requires.text refl c.args.scope.now
    c.new.result c.in_ok-scope.field-0 c.new.ensures c.in_ok-scope.ensures c.value_file.result c.value_file.ensures.value
