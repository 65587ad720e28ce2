use Rattle.std.proofs.Common.{◌∙◌, ◌+◌, ◌/◌, length, refl, ap, arith}
use Rattle.std.proofs.lemmas.Slice.{take-put_mid}
use Rattle.value_scan.proofs.WordLemmas.{word_put}
use Rattle.value_scan.proofs.words.put_word.Goals as goal

pub returns : goal.returns
returns c = λ width fits.
    let xs = c.args.bytes.now in
    let a = c.args.place / 8 in
    let ys = c.copy_from_slice.new.self in
    let is = c.copy_from_slice.ensures.after ∙ c.to_le_bytes.ensures in
    word_put xs ys _ _ c.args.place width c.args.value c.behind_low-word.result c.requires refl fits c.behind_low-word.ensures is
    (take-put_mid a _ xs ys (a + 8) (omega (arith, ap length is)) (omega arith))
