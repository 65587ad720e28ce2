use Rattle.std.proofs.Common.{◌==◌, refl}
use Rattle.dsdl_types.specs.Schemas.{PBool}
use Rattle.line_text.specs.Buffer.{text_of}
use Rattle.value_text.specs.Texts.{truth_text}
use Rattle.value_put.specs.Counted.{counted}
use Rattle.value_put.proofs.Readings.{told_simple}
use Rattle.value_put.proofs.primitive.TruthPrimitive.put.Goals as goal

pub returns-clause-told : goal.returns-clause-told
returns-clause-told c =
    let at = c.take.new.self in
    let n = c.in_ok-truth.field-0 in
    let is = c.in_ok-truth.ensures in
    told_simple PBool (counted c.args.at.now) (counted at) c.args.at.now.place at.place 1 n (text_of c.args.text.now) (text_of c.put_truth.new.text) (truth_text (n == 1)) refl is.bytes is.place is.value refl c.put_truth.ensures.text
