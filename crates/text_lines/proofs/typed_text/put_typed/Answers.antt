use Rattle.std.proofs.Common.{◌≡◌, ◌∙◌, [], ◌∷◌, ◌++◌, take, ap, subst}
use Rattle.cy_bits.specs.Bits.{bits}
use Rattle.dsdl_types.specs.Views.{sch}
use Rattle.line_text.specs.Buffer.{text_of}
use Rattle.wire_values.specs.Reads.{behind}
use Rattle.value_put.specs.Counted.{counted}
use Rattle.value_put.specs.Parts.{own_told}
use Rattle.value_put.specs.Told.{Yes, after}
use Rattle.value_put.proofs.Readings.{on_ok}
use Rattle.text_lines.proofs.TypedText.{said}
use Rattle.text_lines.proofs.typed_text.put_typed.Goals as goal

pub returns-clause-put : goal.returns-clause-put
returns-clause-put c =
    let s = sch c.args.shape.now.schema in
    let count = c.in_ok-count.count in
    let b = take count (text_of c.keep.new.bytes) in
    let old = text_of c.args.text.now in
    let front = text_of c.put_one.new.text in
    let mid = text_of c.put_own.new.text in
    let at = c.new-at.result in
    let q = c.put_own.new.at.place in
    let y = behind (counted c.put_own.new.at) q in
    let is : counted at ≡ b = c.new-at.ensures.bytes ∙ ap (λ l. take count l) c.as_slice.ensures in
    let put : after front (own_told s 0 (bits b)) ≡ Yes mid q y =
    subst (λ l. after front (own_told s 0 (bits l)) ≡ Yes mid q y) is
    (subst (λ m. after front (own_told s m (behind (counted at) m)) ≡ Yes mid q y) c.new-at.ensures.place c.in_ok-put_own.ensures.told) in
    let told : after (old ++ 32 ∷ []) (own_told s 0 (bits b)) ≡ Yes mid q y =
    subst (λ f. after f (own_told s 0 (bits b)) ≡ Yes mid q y) c.in_ok-put_one.ensures.put put in
    on_ok c.put_one-2.result
    (λ e. said s c.args.payload.now b old mid (text_of c.put_one-2.new.text) q y c.in_ok-count.ensures.kept.read told e)
    c.put_one-2.ensures.put
