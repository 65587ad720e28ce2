use Rattle.std.proofs.Common.{◌≡◌, ◌+◌, ◌^◌, ◌<◌, drop, take, sym, ap, ◌∙◌, subst, arith}
use Rattle.std.proofs.lemmas.List.{drop-drop}
use Rattle.cy_bits.specs.Bits.{bits, number}
use Rattle.cy_bits.proofs.BitPlaces.{number_none, number_step, number_fits, number_below}
use Rattle.cy_bits.proofs.bit_reader.bits_from.Goals as goal

pub loop-done-init : goal.loop-done-init
loop-done-init c = record {
  value = number_none (drop c.args.place (bits c.args.bytes.now));
  within = omega arith;
}

pub overflow_add-value : goal.overflow_add-value
overflow_add-value c =
    let l = drop c.args.place (bits c.args.bytes.now) in
    let a = c.loop-done.done in
    let k = c.min-count.result in
    let at : drop (c.args.place + c.from.result) (bits c.args.bytes.now) ≡ drop a l =
    ap (λ d. drop (c.args.place + d) (bits c.args.bytes.now)) c.from.ensures ∙ sym (drop-drop a c.args.place (bits c.args.bytes.now)) in
    let more = c.bits_in_byte.ensures.value ∙ ap (λ x. number (take k x)) at in
    let sum = number_step l a k c.loop-done.value c.bits_in_byte.result c.loop-done.invariant.value more (omega arith) in
    omega (arith, sum, number_fits l (a + k) (omega arith))

pub loop-done-preserved : goal.loop-done-preserved
loop-done-preserved c =
    let l = drop c.args.place (bits c.args.bytes.now) in
    let a = c.loop-done.done in
    let k = c.min-count.result in
    let at : drop (c.args.place + c.from.result) (bits c.args.bytes.now) ≡ drop a l =
    ap (λ d. drop (c.args.place + d) (bits c.args.bytes.now)) c.from.ensures ∙ sym (drop-drop a c.args.place (bits c.args.bytes.now)) in
    let more = c.bits_in_byte.ensures.value ∙ ap (λ x. number (take k x)) at in
    record {
      value = number_step l a k c.loop-done.value c.bits_in_byte.result c.loop-done.invariant.value more (omega arith);
      within = omega arith;
    }

pub returns-clause-value : goal.returns-clause-value
returns-clause-value c =
    let l = drop c.args.place (bits c.args.bytes.now) in
    let e : c.loop-done.done ≡ c.args.width = omega (arith, c.loop-done.invariant.within) in
    c.loop-done.invariant.value ∙ ap (λ n. number (take n l)) e

pub returns-clause-small : goal.returns-clause-small
returns-clause-small c =
    let l = drop c.args.place (bits c.args.bytes.now) in
    let e : c.loop-done.done ≡ c.args.width = omega (arith, c.loop-done.invariant.within) in
    subst (λ n. c.loop-done.value < 2 ^ n) e (subst (λ n. n < 2 ^ c.loop-done.done) (sym c.loop-done.invariant.value) (number_below c.loop-done.done l))
