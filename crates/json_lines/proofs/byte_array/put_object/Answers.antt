use Rattle.std.proofs.Common.{◌∙◌, ◌++◌, Fits, arith, ap, get_or, take, w8}
use Rattle.std.specs.Prelude.{codes}
use Rattle.hex.specs.Hex.{encode_upper}
use Rattle.line_text.specs.Buffer.{text_of}
use Rattle.value_json.specs.Words.{bytes_text}
use Rattle.value_json.proofs.Bytes.{object_written}
use Rattle.value_put.proofs.Bytes.{are_bytes_taken}
use Rattle.json_lines.proofs.byte_array.put_object.Goals as goal

pub returns-clause-small : goal.returns-clause-small
returns-clause-small c = are_bytes_taken c.args.count c.args.bytes.now
    (λ i. let fits : Fits w8 (get_or c.args.bytes.now i 0) = c.type_inv.bytes i in omega arith)

pub returns-in_err-reserve-clause-small : goal.returns-in_err-reserve-clause-small
returns-in_err-reserve-clause-small c = are_bytes_taken c.args.count c.args.bytes.now
    (λ i. let fits : Fits w8 (get_or c.args.bytes.now i 0) = c.type_inv.bytes i in omega arith)

pub returns-clause-text : goal.returns-clause-text
returns-clause-text c =
    let w = take c.args.count c.args.bytes.now in
    object_written (encode_upper w) (bytes_text w) (text_of c.args.text.now)
    (text_of c.put.new.self) (text_of c.put_hex_of.new.self) (text_of c.put-2.new.self)
    (text_of c.put_text.new.text) (text_of c.put-3.new.self)
    (c.put.ensures.text ∙ ap (λ t. t ++ codes "{\"hex\":\"") c.reserve.ensures.text)
    c.put_hex_of.ensures.text c.put-2.ensures.text c.put_text.ensures.text c.put-3.ensures.text
