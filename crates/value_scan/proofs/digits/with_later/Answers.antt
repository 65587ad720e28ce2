use Rattle.std.proofs.Common.{◌≡◌, ◌∙◌, ◌+◌, ◌≤◌, get_or, length, take, ap, arith, Fits, w8, refl}
use Rattle.value_scan.proofs.DigitLemmas.{wrote_more, wrote_all}
use Rattle.value_scan.proofs.digits.with_later.Goals as goal

pub loop-index-init : goal.loop-index-init
loop-index-init c = record { none = c.requires.none; some = c.requires.digits }

pub loop-index-preserved : goal.loop-index-preserved
loop-index-preserved c =
    let b = c.args.bytes.now in
    let i = c.loop-index.index in
    let v = c.from.result in
    let byte : Fits w8 (get_or b i 0) = c.type_inv.bytes i in
    let small : v ≤ 9 = omega (arith, c.from.ensures, c.if-value-gt9.false) in
    let is : get_or b i 0 ≡ 48 + v = omega (arith, byte.fits, c.from.ensures, small) in
    wrote_more b i c.loop-index.number v _ c.loop-index-test.true is small c.requires.least c.if-number-gt-MOST.false refl c.loop-index.invariant

pub returns-then-value-gt9 : goal.returns-then-value-gt9
returns-then-value-gt9 c =
    wrote_all c.args.bytes.now c.loop-index.index c.loop-index.number c.requires.least c.requires.most c.loop-index.invariant c.then-value-gt9.either

pub returns : goal.returns
returns c =
    let b = c.args.bytes.now in
    let i = c.loop-index.index in
    let end : i ≤ length b = c.loop-index.auto.index-end c.requires.within in
    let all : i ≡ length b = omega (arith, c.loop-index-test.false, end) in
    let some = c.loop-index.invariant.some (let h : 1 ≤ i = omega (arith, all, c.requires.some) in h) in
    some.1 ∙ ap (λ n. take n b) all
