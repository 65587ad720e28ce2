use Rattle.hex.specs.Hex.{encode_upper}
use Rattle.value_json.proofs.Bytes.{bytes_end, bytes_here, bytes_next, hex_cons, hex_none}
use Rattle.value_json.proofs.Front.{begins_then}
use Rattle.value_json.proofs.byte_array.put_hex.Goals as goal

pub byte_of-requires : goal.byte_of-requires
byte_of-requires c = (bytes_here c.args.values.now c.loop-value.value-index c.value-item.result c.loop-value-test.true c.value-item.is c.loop-value.invariant.bytes).0

pub loop-value-preserved : goal.loop-value-preserved
loop-value-preserved c =
    let values = c.args.values.now in
    let i = c.loop-value.value-index in
    let v = c.value-item.result in
    record {
      bytes = (bytes_here values i v c.loop-value-test.true c.value-item.is c.loop-value.invariant.bytes).1;
      text = bytes_next (λ x. encode_upper x) hex_cons values i c.byte_of.result v _ _ _ c.loop-value-test.true c.value-item.is c.byte_of.ensures c.loop-value.invariant.text c.in_ok-put_hex_of.ensures.text;
      front = begins_then _ _ _ c.loop-value.invariant.front c.in_ok-put_hex_of.ensures.front;
    }

pub returns-clause-text : goal.returns-clause-text
returns-clause-text c = bytes_end (λ x. encode_upper x) hex_none c.args.values.now c.loop-value.value-index _ _ c.loop-value-test.false c.loop-value.invariant.text
