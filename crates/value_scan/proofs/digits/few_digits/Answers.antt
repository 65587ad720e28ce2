use Rattle.std.proofs.Common.{◌≡◌, ◌+◌, ◌≤◌, get_or, arith, subst, sym, Fits, w8}
use Rattle.value_scan.proofs.DigitLemmas.{Few, few_more, few_same}
use Rattle.value_scan.proofs.digits.few_digits.Goals as goal
use Rattle.value_scan.proofs.digits.few_digits.Goals.{then-goes_on, else-goes_on}

pub loop-index-preserved : goal.loop-index-preserved
loop-index-preserved c =
    let b = c.args.bytes.now in
    let i = c.loop-index.index in
    let n = c.loop-index.number in
    let len = c.loop-index.len in
    let byte : Fits w8 (get_or b i 0) = c.type_inv.bytes i in
    elim c.if-goes_on.branch [
      | then-goes_on w ↦
          let v = w.from.result in
          let on = c.goes_on.ensures.yes w.if-goes_on.true in
          let small : v ≤ 9 = omega (arith, w.from.ensures, on.1) in
          let is : get_or b i 0 ≡ 48 + v = omega (arith, byte.fits, w.from.ensures, small) in
          few_more b i len n v _ _ (omega arith) (omega arith) is small c.requires.least on.0 w.number-is w.len-is c.loop-index.invariant
      | else-goes_on w ↦
          let same = few_same b i len n c.requires.least c.requires.most (c.goes_on.ensures.no w.if-goes_on.false) c.loop-index.invariant in
          subst (λ m. Few b (i + 1) c.if-goes_on.len m) (sym w.number-is) (subst (λ m. Few b (i + 1) m n) (sym w.len-is) same)
    ]

pub returns-clause-digits : goal.returns-clause-digits
returns-clause-digits c =
    let all = c.loop-index.invariant in
    let many : 1 ≤ c.loop-index.index = omega (arith, c.loop-index-test.false) in
    (all.wrote.some (all.some many)).1

pub returns-clause-some : goal.returns-clause-some
returns-clause-some c =
    let all = c.loop-index.invariant in
    let many : 1 ≤ c.loop-index.index = omega (arith, c.loop-index-test.false) in
    ((all.wrote.some (all.some many)).0, all.some many)

pub returns-clause-few : goal.returns-clause-few
returns-clause-few c =
    let all = c.loop-index.invariant in
    omega (arith, all.within, c.loop-index.auto.index-end)
