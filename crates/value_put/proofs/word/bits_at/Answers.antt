use Rattle.std.proofs.Common.{◌≡◌, ◌∙◌, ◌/◌, ◌%◌, ◌^◌, ◌<◌, drop, take, sym, ap, arith}
use Rattle.std.proofs.lemmas.Nat.{one_shl}
use Rattle.cy_bits.specs.Bits.{bits, number}
use Rattle.value_put.proofs.Words.{behind_bytes, middle}
use Rattle.value_put.proofs.word.bits_at.Goals as goal

pub returns-then-width-eq64 : goal.returns-then-width-eq64
returns-then-width-eq64 c =
    let p = c.args.place in
    let b = c.args.bytes.now in
    let s : p % 8 ≡ 0 = omega (arith, c.requires.within, c.if-width-eq64.true) in
    let w : 64 ≡ c.args.width = omega (arith, c.if-width-eq64.true) in
    c.first_word-word.ensures
    ∙ ap (λ xs. number (take 64 (bits xs))) c.bytes_from.ensures
    ∙ ap (λ m. number (take 64 (drop m (bits (drop (p / 8) b))))) (sym s)
    ∙ (λ i. number (take (w i) (behind_bytes b p i)))

pub returns-else-width-eq64 : goal.returns-else-width-eq64
returns-else-width-eq64 c =
    let p = c.args.place in
    let b = c.args.bytes.now in
    let w = c.args.width in
    let short : w < 64 = omega (arith, c.requires.within, c.if-width-eq64.false) in
    ap (λ m. c.first_word-word.result / 2 ^ (p % 8) % m) (one_shl w 64 short)
    ∙ middle (bits (drop (p / 8) b)) c.first_word-word.result (p % 8) w (c.first_word-word.ensures ∙ ap (λ xs. number (take 64 (bits xs))) c.bytes_from.ensures) c.requires.within
    ∙ ap (λ l. number (take w l)) (behind_bytes b p)
