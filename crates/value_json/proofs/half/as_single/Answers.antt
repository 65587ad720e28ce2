use Rattle.std.proofs.Common.{◌∙◌, ◌+◌, ◌*◌, ◌%◌, inl, inr, refl, ap}
use lib.Ieee.{binary32, mul, of_bits}
use Rattle.value_json.proofs.Halves.{IsSign, half_finite, half_special}
use Rattle.value_json.proofs.half.as_single.Goals as goal
use Rattle.value_json.proofs.half.as_single.Goals.{then-bits-ge32768, else-bits-ge32768}

pub returns-then-size-lt31744 : goal.returns-then-size-lt31744
returns-then-size-lt31744 c =
    let n = c.args.bits in
    let sign = c.if-bits-ge32768.sign in
    let s : IsSign n sign = elim c.if-bits-ge32768.branch [ then-bits-ge32768 w ↦ inl (w.if-bits-ge32768.true, w.sign-is) | else-bits-ge32768 w ↦ inr (w.if-bits-ge32768.false, w.sign-is) ] in
    ap (λ x. mul binary32 x (of_bits binary32 0x7780_0000)) c.f32_from_bits_with_nan.ensures
    ∙ half_finite n (sign + n % 0x8000 * 0x2000) sign (n % 0x8000) s refl c.if-size-lt31744.true refl

pub returns-else-size-lt31744 : goal.returns-else-size-lt31744
returns-else-size-lt31744 c =
    let n = c.args.bits in
    let sign = c.if-bits-ge32768.sign in
    let s : IsSign n sign = elim c.if-bits-ge32768.branch [ then-bits-ge32768 w ↦ inl (w.if-bits-ge32768.true, w.sign-is) | else-bits-ge32768 w ↦ inr (w.if-bits-ge32768.false, w.sign-is) ] in
    c.f32_from_bits_with_nan-else-size-lt31744.ensures
    ∙ half_special n (sign + n % 0x8000 * 0x2000 + 0x7000_0000) sign (n % 0x8000) s refl c.if-size-lt31744.false refl
