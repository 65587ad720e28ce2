use Rattle.std.proofs.Common.{◌≡◌, ◌∙◌, ◌+◌, ◌*◌, ◌≤◌, length, take, sym, ap, subst}
use Rattle.cy_bits.specs.Bits.{bits}
use Rattle.dsdl_types.specs.Reading.{part, row}
use Rattle.dsdl_types.specs.Views.{sch}
use Rattle.line_text.specs.Buffer.{text_of}
use Rattle.wire_values.specs.Reads.{behind}
use Rattle.wire_values.proofs.Readings.{behind_more}
use Rattle.value_json.proofs.Adding.{on_ok}
use Rattle.value_put.specs.Counted.{counted}
use Rattle.value_put.proofs.Bytes.{uint8_is}
use Rattle.json_lines.specs.Typed.{Put, array_of}
use Rattle.json_lines.proofs.Bytes.{array_put}
use Rattle.json_lines.proofs.byte_array.put_bytes.Goals as goal

pub returns-clause-put : goal.returns-clause-put
returns-clause-put c =
    let b = counted c.args.at.now in
    let p = c.args.at.now.place in
    let n = c.args.count in
    let window = c.in_ok-window.window in
    let is = c.in_ok-window.ensures.window in
    let size = c.from-size.ensures in
    let w = take n window.bytes.now in
    let room : 8 * n ≤ length (behind b p) = subst (λ j. 8 * j ≤ length (behind b p)) size is.0.0 in
    let whole : counted window ≡ w = subst (λ j. counted window ≡ take j window.bytes.now) size
    is.1.bytes in
    let bits_are : bits w ≡ take (8 * n) (behind b p) = ap (λ l. bits l) (sym whole) ∙ subst
    (λ j. bits (counted window) ≡ take (8 * j) (behind b p)) size is.0.1 in
    let at = c.skip.new.self in
    let k = at.place in
    let old = text_of c.args.text.now in
    let new = text_of c.put_object.new.text in
    let u = uint8_is (sch c.args.item.now) c.requires in
    on_ok c.skip.result
    (λ e.
    let place : k ≡ p + 8 * n = subst (λ j. k ≡ p + 8 * j) size e in
    subst (λ s. Put (array_of s) (row (part s) n 0 p (behind b p)) old new k
    (behind (counted at) k)) (sym u.1)
    (array_put u.0 w (behind b p) n p k (behind (counted at) k) old new
    c.in_ok-put_object.ensures.small room bits_are place
    (behind_more b (counted at) p k (8 * n) c.skip.ensures.bytes place)
    c.in_ok-put_object.ensures.text))
    c.skip.ensures.place
