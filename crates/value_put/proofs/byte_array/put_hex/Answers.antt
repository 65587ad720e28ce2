use Rattle.std.proofs.Common.{Fits, arith, get_or, w8}
use Rattle.value_put.proofs.Bytes.{are_bytes_taken}
use Rattle.value_put.proofs.byte_array.put_hex.Goals as goal

pub returns-clause-small : goal.returns-clause-small
returns-clause-small c = are_bytes_taken c.args.count c.args.bytes.now (λ i. let fits : Fits w8 (get_or c.args.bytes.now i 0) = c.type_inv.bytes i in omega arith)

pub returns-in_err-reserve-clause-small : goal.returns-in_err-reserve-clause-small
returns-in_err-reserve-clause-small c = are_bytes_taken c.args.count c.args.bytes.now (λ i. let fits : Fits w8 (get_or c.args.bytes.now i 0) = c.type_inv.bytes i in omega arith)
