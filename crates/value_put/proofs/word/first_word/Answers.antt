use Rattle.std.proofs.Common.{◌∙◌, Fits, arith, get_or, w8}
use Rattle.value_put.proofs.Bytes.{are_bytes_at}
use Rattle.value_put.proofs.Words.{eight_bytes}
use Rattle.value_put.proofs.word.first_word.Goals as goal

pub returns : goal.returns
returns c =
    let b = c.args.b.now in
    c.from_le_bytes.ensures ∙ eight_bytes b (are_bytes_at b (λ i. let fits : Fits w8 (get_or b i 0) = c.type_inv.b i in omega arith)) c.requires
