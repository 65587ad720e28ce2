use Rattle.std.proofs.Common.{ap, subst, sym}
use Rattle.dsdl_types.specs.Reading.{own}
use Rattle.dsdl_types.specs.Schemas.{PUint}
use Rattle.dsdl_types.specs.Views.{is_padding, is_saturated, named, type_of}
use Rattle.line_text.specs.Buffer.{text_of}
use Rattle.wire_values.specs.Reads.{behind}
use Rattle.value_json.specs.Json.{json_of}
use Rattle.value_json.proofs.Adding.{on_ok}
use Rattle.value_put.specs.Counted.{counted}
use Rattle.json_lines.specs.Typed.{Put}
use Rattle.json_lines.proofs.Fields.{simple_field_put}
use Rattle.json_lines.proofs.structure.put_unsigned_field.Goals as goal

pub returns-clause-put : goal.returns-clause-put
returns-clause-put c =
    let f = named c.args.field.now in
    let at = c.put_json.new.at in
    let p = c.args.at.now.place in
    let b = counted c.args.at.now in
    let mid = text_of c.put_name.new.text in
    let new = text_of c.put_json.new.text in
    let is = ap type_of c.requires in
    on_ok c.put_json.result
    (λ r fs. simple_field_put f.0 f.1 fs c.args.first b (counted at) p at.place
    (text_of c.args.text.now) mid new (ap is_padding c.requires)
    (PUint c.args.bits (is_saturated c.args.cast), is) c.in_ok-put_name.ensures.text
    (subst (λ s. Put (λ v. json_of s v) (own s p (behind b p)) mid new at.place
    (behind (counted at) at.place)) (sym is) r))
    c.put_json.ensures.put
