use Rattle.std.proofs.Common.{◌≡◌, ◌<◌, true, false, not, length, sym, ap, ◌∙◌, arith}
use Rattle.std.proofs.lemmas.List.{get_or_default}
use Rattle.pnp_alloc.specs.Allocation.{greatest}
use Rattle.pnp_alloc.specs.Used.{is_open}
use Rattle.pnp_alloc.proofs.Greatest.{greatest_below, greatest_here, greatest_down, greatest_zero}
use Rattle.pnp_alloc.proofs.allocator.Allocator.greatest_free.Goals as goal

pub loop-number-init : goal.loop-number-init
loop-number-init c = let s = c.args.self.now in (omega arith, greatest_below (is_open s.used) 125 s.top (omega (arith, s.room)) (λ n a b. ap not (s.above n a b)))

pub returns-then-not-self-number : goal.returns-then-not-self-number
returns-then-not-self-number c =
    let s = c.args.self.now in
    let n = c.loop-number.number in
    let within : n < length s.used = omega (arith, s.room, s.full) in
    sym (c.loop-number.invariant.1 ∙ greatest_here (is_open s.used) n c.loop-number-test.true (ap not (get_or_default s.used n true false within ∙ c.if-not-self-number.true)))

pub loop-number-preserved : goal.loop-number-preserved
loop-number-preserved c =
    let s = c.args.self.now in
    let n = c.loop-number.number in
    let within : n < length s.used = omega (arith, s.room, s.full) in
    (omega arith, c.loop-number.invariant.1 ∙ greatest_down (is_open s.used) n c.loop-number-test.true (ap not (get_or_default s.used n true false within ∙ c.if-not-self-number.false)))

pub returns : goal.returns
returns c =
    let s = c.args.self.now in
    let none : c.loop-number.number ≡ 0 = omega arith in
    sym (c.loop-number.invariant.1 ∙ ap (greatest (is_open s.used)) none ∙ greatest_zero (is_open s.used))
