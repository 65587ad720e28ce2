use Rattle.value_json.proofs.Bytes.{bytes_here}
use Rattle.value_json.proofs.byte_array.are_printable.Goals as goal

pub byte_of-requires : goal.byte_of-requires
byte_of-requires c = (bytes_here c.args.values.now c.loop-value.value-index c.value-item.result c.loop-value-test.true c.value-item.is c.loop-value.invariant.bytes).0
