use Rattle.std.proofs.Common.{◌≡◌, ◌∙◌, take, ap, subst}
use Rattle.cy_bits.specs.Bits.{bits}
use Rattle.dsdl_types.specs.Views.{sch}
use Rattle.line_text.specs.Buffer.{text_of}
use Rattle.wire_values.specs.Reads.{behind}
use Rattle.value_put.specs.Counted.{counted}
use Rattle.value_put.specs.Parts.{own_told}
use Rattle.value_put.specs.Told.{Yes, after}
use Rattle.value_put.proofs.Readings.{on_ok}
use Rattle.value_lines.proofs.AtOnce.{heard}
use Rattle.value_lines.proofs.at_once.put_answer.Goals as goal

pub returns-clause-told : goal.returns-clause-told
returns-clause-told c =
    let s = sch c.args.schema.now in
    let b = take c.in_ok-count.count (text_of c.read_hex.new.bytes) in
    let old = text_of c.args.gathered.now in
    let mid = text_of c.put_own.new.text in
    let at = c.new-at.result in
    let q = c.put_own.new.at.place in
    let y = behind (counted c.put_own.new.at) q in
    let is : counted at ≡ b = c.new-at.ensures.bytes ∙ ap (λ l. take c.in_ok-count.count l) c.as_slice.ensures in
    let told : after old (own_told s 0 (bits b)) ≡ Yes mid q y =
    subst (λ l. after old (own_told s 0 (bits l)) ≡ Yes mid q y) is
    (subst (λ m. after old (own_told s m (behind (counted at) m)) ≡ Yes mid q y) c.new-at.ensures.place c.in_ok-put_own.ensures.told) in
    on_ok c.put_newline.result
    (λ e. heard s c.args.hex.now b old mid (text_of c.put_newline.new.gathered) q y c.requires c.in_ok-count.ensures.read.hex told e)
    c.put_newline.ensures.text
