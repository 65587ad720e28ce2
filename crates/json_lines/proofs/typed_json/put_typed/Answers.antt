use Rattle.std.proofs.Common.{◌≡◌, ◌∙◌, take, ap, subst}
use Rattle.cy_bits.specs.Bits.{bits}
use Rattle.dsdl_types.specs.Reading.{own}
use Rattle.dsdl_types.specs.Views.{sch}
use Rattle.line_text.specs.Buffer.{text_of}
use Rattle.wire_values.specs.Reads.{behind}
use Rattle.value_json.specs.Json.{json_of}
use Rattle.value_json.proofs.Adding.{on_ok}
use Rattle.value_put.specs.Counted.{counted}
use Rattle.json_lines.specs.Typed.{Put}
use Rattle.json_lines.proofs.Types.{said_put}
use Rattle.json_lines.proofs.typed_json.put_typed.Goals as goal

pub returns-clause-put : goal.returns-clause-put
returns-clause-put c =
    let s = sch c.args.shape.now.schema in
    let count = c.in_ok-count.count in
    let b = take count (text_of c.keep.new.bytes) in
    let front = text_of c.put_label.new.text in
    let mid = text_of c.put_own.new.text in
    let at = c.new-at.result in
    let q = c.put_own.new.at.place in
    let y = behind (counted c.put_own.new.at) q in
    let is : counted at ≡ b = c.new-at.ensures.bytes ∙ ap (λ l. take count l) c.as_slice.ensures in
    let put : Put (λ v. json_of s v) (own s 0 (bits b)) front mid q y =
    subst (λ l. Put (λ v. json_of s v) (own s 0 (bits l)) front mid q y) is
    (subst (λ m. Put (λ v. json_of s v) (own s m (behind (counted at) m)) front mid q y)
    c.new-at.ensures.place c.in_ok-put_own.ensures.put) in
    on_ok c.put_line_end.result
    (λ e. said_put s c.args.payload.now b (text_of c.args.text.now) front mid
    (text_of c.put_line_end.new.text) q y c.in_ok-count.ensures.kept.read
    c.in_ok-put_label.ensures.text put e)
    c.put_line_end.ensures.text
