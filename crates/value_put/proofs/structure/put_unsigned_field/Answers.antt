use Rattle.std.proofs.Common.{◌∙◌, ◌++◌, ap, refl}
use Rattle.dsdl_types.specs.Schemas.{PUint}
use Rattle.dsdl_types.specs.Views.{is_padding, is_saturated, named, type_of}
use Rattle.line_text.specs.Buffer.{text_of}
use Rattle.wire_values.specs.Reads.{behind}
use Rattle.value_text.specs.Words.{lead}
use Rattle.value_put.specs.Counted.{counted}
use Rattle.value_put.specs.Parts.{own_told}
use Rattle.value_put.specs.Told.{after}
use Rattle.value_put.proofs.Fields.{told_simple_field}
use Rattle.value_put.proofs.Readings.{on_ok}
use Rattle.value_put.proofs.structure.put_unsigned_field.Goals as goal

pub returns-clause-put : goal.returns-clause-put
returns-clause-put c =
    let f = named c.args.field.now in
    let old = text_of c.args.text.now in
    let at = c.put.new.at in
    let p = c.args.at.now.place in
    let b = counted c.args.at.now in
    let is = ap type_of c.requires in
    on_ok c.put.result
    (λ e fs. told_simple_field f.0 f.1 fs c.args.first b (counted at) p at.place
    old (old ++ lead c.args.first) (text_of c.put_name.new.text) (text_of c.put.new.text) (ap is_padding c.requires) (PUint c.args.bits (is_saturated c.args.cast), is) refl c.in_ok-put_name.ensures.text
    (ap (λ s. after (text_of c.put_name.new.text) (own_told s p (behind b p))) is ∙ e))
    c.put.ensures.told
