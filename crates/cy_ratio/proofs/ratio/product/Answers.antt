use Rattle.std.proofs.Common.{◌≡◌, ◌*◌, ◌/◌, pos, ◌*ℤ◌, unsigned_abs, int_div, Ok, ap, sym, ◌∙◌, subst, rules, to_z, of_z}
use Rattle.std.proofs.lemmas.Int.{to_z-of_z}
use Rattle.std.specs.Int.{w128}
use mir.Val.{SFits}
use Rattle.cy_ratio.specs.Fraction.{IsReduced, gcd, named}
use Rattle.cy_ratio.proofs.PartLemmas.{kept, product_reduced, product_parts}
use Rattle.cy_ratio.proofs.ratio.product.Goals as goal
use Rattle.cy_ratio.proofs.ratio.product.Goals.{In_ok-below}

-- what the code has of the four parts
module _ (c : In_ok-below) where
  is_a : to_z w128 (of_z w128 c.args.a) ≡ c.args.a
  is_a = to_z-of_z w128 c.args.a c.ranges.a

  is_c : to_z w128 (of_z w128 c.args.c) ≡ c.args.c
  is_c = to_z-of_z w128 c.args.c c.ranges.c

  is_above : to_z w128 (of_z w128 c.in_ok-above.above) ≡ c.in_ok-above.above
  is_above = let f : SFits w128 c.in_ok-above.above = search rules in to_z-of_z w128 c.in_ok-above.above f

  is_g : c.gcd-g.result ≡ gcd (unsigned_abs c.args.a) c.args.d
  is_g = c.gcd-g.ensures.value ∙ ap (λ n. gcd n c.args.d) (c.unsigned_abs.ensures.value ∙ ap unsigned_abs is_a)

  is_h : c.gcd-h.result ≡ gcd (unsigned_abs c.args.c) c.args.b
  is_h = c.gcd-h.ensures.value ∙ ap (λ n. gcd n c.args.b) (c.unsigned_abs-2.ensures.value ∙ ap unsigned_abs is_c)

  above : named (int_div c.args.a (pos c.gcd-g.result) *ℤ int_div c.args.c (pos c.gcd-h.result)) ≡ Ok c.in_ok-above.above
  above =
      let x : SFits w128 c.quotient.result = search rules in
      let y : SFits w128 c.quotient-2.result = search rules in
      let left = c.quotient.ensures ∙ ap (λ z. int_div z (pos c.gcd-g.result)) is_a in
      let right = c.quotient-2.ensures ∙ ap (λ z. int_div z (pos c.gcd-h.result)) is_c in
      let was : c.times.result ≡ Ok c.in_ok-above.above = c.in_ok-above.was in
      let parts : (to_z w128 (of_z w128 c.quotient.result) *ℤ to_z w128 (of_z w128 c.quotient-2.result)) ≡ (int_div c.args.a (pos c.gcd-g.result) *ℤ int_div c.args.c (pos c.gcd-h.result))
      = ap (λ z. z *ℤ to_z w128 (of_z w128 c.quotient-2.result)) (to_z-of_z w128 c.quotient.result x ∙ left) ∙ ap (λ z. int_div c.args.a (pos c.gcd-g.result) *ℤ z) (to_z-of_z w128 c.quotient-2.result y ∙ right) in
      ap named (sym parts) ∙ sym c.times.ensures ∙ was

  below : kept (c.args.b / c.gcd-h.result * (c.args.d / c.gcd-g.result)) ≡ Ok c.in_ok-below.below
  below = let was : c.denominators.result ≡ Ok c.in_ok-below.below = c.in_ok-below.was in sym c.denominators.ensures ∙ was

pub invariant_of-result : goal.invariant_of-result
invariant_of-result c =
    subst (λ z. IsReduced (record { num = z; den = c.in_ok-below.below })) (sym (is_above c))
    (product_reduced c.args.a c.args.c c.args.b c.args.d c.gcd-g.result c.gcd-h.result c.in_ok-above.above c.in_ok-below.below c.requires.left c.requires.right (is_g c) (is_h c) (above c) (below c))

pub returns : goal.returns
returns c =
    ap (λ z. Ok (record { num = z; den = c.in_ok-below.below })) (is_above c)
    ∙ product_parts c.args.a c.args.c c.args.b c.args.d c.gcd-g.result c.gcd-h.result c.in_ok-above.above c.in_ok-below.below (is_g c) (is_h c) (above c) (below c)
