use Rattle.std.proofs.Common.{◌<◌, ℕ, Fits, arith, get_or, w8}
use Rattle.value_scan.proofs.WholeBytes.{whole_bytes}
use Rattle.value_scan.proofs.words.whole_bytes.Goals as goal

pub returns : goal.returns
returns c = λ whole.
    let all = c.args.all.now in
    let small : (i : ℕ) → get_or all i 0 < 256 = λ i. let fits : Fits w8 (get_or all i 0) = c.type_inv.all i in omega arith in
    whole_bytes all c.args.place small whole c.requires
