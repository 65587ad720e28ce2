use Rattle.std.proofs.Common.{◌∙◌, ◌^◌, ◌<◌, sym, ap, subst, arith}
use Rattle.line_text.specs.Buffer.{text_of}
use Rattle.value_json.specs.Floats.{format_of, float_of}
use Rattle.value_json.specs.Json.{float_json}
use Rattle.value_json.specs.Pieces.{Adds}
use Rattle.value_json.proofs.Adding.{on_ok}
use Rattle.value_json.proofs.Floats.{float_16, float_32, float_64, format_64}
use Rattle.value_json.proofs.float.put_float.Goals as goal

pub put_single-requires : goal.put_single-requires
put_single-requires c = ap format_of c.if-width-eq32.true

pub overflow_cast-bits : goal.overflow_cast-bits
overflow_cast-bits c =
    let h : c.args.bits < 2 ^ 32 = subst (λ w. c.args.bits < 2 ^ w) c.if-width-eq32.true c.requires in
    omega (arith, h)

pub put_double-requires : goal.put_double-requires
put_double-requires c = format_64 c.args.width c.if-width-eq16.false c.if-width-eq32.false

pub returns-then-width-eq16-clause-put : goal.returns-then-width-eq16-clause-put
returns-then-width-eq16-clause-put c =
    let e = c.if-width-eq16.true in
    on_ok c.put_half.result
    (λ a. subst (λ w. Adds (float_json w (float_of c.args.width c.args.bits)) (text_of c.args.text.now) (text_of c.put_half.new.text)) (sym e)
    (subst (λ x. Adds (float_json 16 x) (text_of c.args.text.now) (text_of c.put_half.new.text)) (sym (float_16 c.args.width c.args.bits e)) a)) c.put_half.ensures.put

pub returns-then-width-eq32-clause-put : goal.returns-then-width-eq32-clause-put
returns-then-width-eq32-clause-put c =
    on_ok c.put_single.result (λ a. subst (λ x. Adds (float_json c.args.width x) (text_of c.args.text.now) (text_of c.put_single.new.text)) (c.f32_from_bits_with_nan.ensures ∙ sym (float_32 c.args.width c.args.bits c.if-width-eq32.true)) a) c.put_single.ensures.put

pub returns-else-width-eq32-clause-put : goal.returns-else-width-eq32-clause-put
returns-else-width-eq32-clause-put c =
    on_ok c.put_double.result (λ a. subst (λ x. Adds (float_json c.args.width x) (text_of c.args.text.now) (text_of c.put_double.new.text)) (c.f64_from_bits_with_nan.ensures ∙ sym (float_64 c.args.width c.args.bits c.if-width-eq16.false c.if-width-eq32.false)) a) c.put_double.ensures.put
