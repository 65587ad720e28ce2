use Rattle.std.proofs.Common.{◌≡◌, ◌∙◌, sym, ap, subst, map, ℕ, ◌%◌, ◌^◌, List, Bool, length, replicate, cond, ltb, arith}
use Rattle.std.specs.Simd.Lanes.{mask_l, zip2, top}
use Rattle.std.proofs.lemmas.Simd.{leading_from_mask_l, trailing_mask_l, mask_l-mod}
use Rattle.std.proofs.lemmas.List.{length-map}
use lib.Count.{count_trailing_zeros}
use Rattle.frame_log.proofs.LaneLemmas.{is_bad, mask_is, same_prefix}
use Rattle.frame_log.proofs.sixteen.digits_before.Goals as goal

-- the mask that the code computes of sixteen lanes
mask_of : (v : List ℕ) → length v ≡ 16 → mask_l (map (top 7) (zip2 (λ a b. cond (ltb a b) 255 0) (replicate 16 15) v)) % 2 ^ 64 ≡ mask_l (map is_bad v)
mask_of v long =
    ap (λ (ms : List Bool). mask_l ms % 2 ^ 64) (subst (λ (n : ℕ). map (top 7) (zip2 (λ a b. cond (ltb a b) 255 0) (replicate n 15) v) ≡ map is_bad v) long (mask_is v))
    ∙ mask_l-mod (map is_bad v) 64 (omega (arith, length-map v is_bad, long))

pub returns-then-bad-eq0 : goal.returns-then-bad-eq0
returns-then-bad-eq0 c =
    sym c.fits-v.0 ∙ (sym (leading_from_mask_l is_bad c.args.v (sym (mask_of c.args.v c.fits-v.0) ∙ c.if-bad-eq0.true)) ∙ same_prefix c.args.v)

pub returns-else-bad-eq0 : goal.returns-else-bad-eq0
returns-else-bad-eq0 c =
    let m = mask_of c.args.v c.fits-v.0 in
    ap (count_trailing_zeros 64) m ∙ (trailing_mask_l is_bad 64 c.args.v (omega (arith, c.fits-v.0)) (omega (arith, m, c.if-bad-eq0.false)) ∙ same_prefix c.args.v)
