-- A primitive's raw bits give its value in range
use Rattle.std.proofs.Common.{◌≡◌, ℕ, zero, suc, ◌*◌, ◌-◌, ◌%◌, ◌^◌, ◌<◌, ◌≤◌, min, true, false, cond, refl, ap, ◌∙◌, arith}
use Rattle.std.specs.Prelude.{pos, negsuc}
use Rattle.std.proofs.lemmas.Nat.{pow_pos}
use Rattle.std.specs.Prelude.{nat_lt}
use Rattle.std.proofs.lemmas.Bool.{cond-true, cond-false, lt-ltb, le-ltb}
use Rattle.dsdl_types.specs.Schemas.{Prim, PBool, PUint, PInt, PFloat, width}
use Rattle.dsdl_types.specs.Values.{Val, Truth, Num, Raw}
use Rattle.dsdl_types.specs.Reading.{value_of}
use Rattle.dsdl_types.specs.Cast.{cast_simple}
use Rattle.dsdl_types.specs.Encoding.{raw}
use Rattle.dsdl_types.specs.Fits.{FitsSimple}
use Rattle.dsdl_types.specs.Sound.{IsSoundPrim}

pow_half : (w : ℕ) → 1 ≤ w → 2 ^ w ≡ 2 * 2 ^ (w - 1)
pow_half zero h = omega arith
pow_half (suc w) h = let e : suc w - 1 ≡ w = omega arith in rw e (omega arith)

saturated_below : (w n : ℕ) → min n (2 ^ w - 1) < 2 ^ w
saturated_below w n = omega (arith, pow_pos w)

low_below : (w n : ℕ) → n % 2 ^ w < 2 ^ w
low_below w n = let p : 0 < 2 ^ w = pow_pos w in omega arith

high_below : (w n : ℕ) → 2 ^ w - 1 - n < 2 ^ w
high_below w n = let p : 0 < 2 ^ w = pow_pos w in omega arith

half_below : (w n : ℕ) → 2 ≤ w → min n (2 ^ (w - 1) - 1) < 2 ^ w
half_below w n h = let p : 0 < 2 ^ (w - 1) = pow_pos (w - 1) in omega (arith, pow_half w (omega arith))

pub raw_fits : (t : Prim) (v : Val) → IsSoundPrim t → FitsSimple t v → raw (width t) (cast_simple t v) < 2 ^ width t
raw_fits PBool (Truth true) i h = omega arith
raw_fits PBool (Truth false) i h = omega arith
raw_fits (PUint w true) (Num (pos n)) i h = saturated_below w n
raw_fits (PUint w true) (Num (negsuc n)) i h = pow_pos w
raw_fits (PUint w false) (Num (pos n)) i h = low_below w n
raw_fits (PUint w false) (Num (negsuc n)) i h = high_below w (n % 2 ^ w)
raw_fits (PInt w) (Num (pos n)) i h = half_below w n i.0
raw_fits (PInt w) (Num (negsuc n)) i h = high_below w (min n (2 ^ (w - 1) - 1))
raw_fits (PFloat w c) (Raw n) i h = h
raw_fits t v i h = absurd h

int_pos : (w n : ℕ) → cond (nat_lt (min n (2 ^ (w - 1) - 1)) (2 ^ (w - 1))) (pos (min n (2 ^ (w - 1) - 1))) (negsuc (2 ^ w - 1 - min n (2 ^ (w - 1) - 1))) ≡ pos (min n (2 ^ (w - 1) - 1))
int_pos w n = cond-true _ _ _ (lt-ltb _ _ (saturated_below (w - 1) n))

int_neg : (w n : ℕ) → 2 ≤ w → let m = min n (2 ^ (w - 1) - 1) in cond (nat_lt (2 ^ w - 1 - m) (2 ^ (w - 1))) (pos (2 ^ w - 1 - m)) (negsuc (2 ^ w - 1 - (2 ^ w - 1 - m))) ≡ negsuc m
int_neg w n h =
    let m = min n (2 ^ (w - 1) - 1) in
    let p : 0 < 2 ^ (w - 1) = pow_pos (w - 1) in
    let low : m < 2 ^ (w - 1) = saturated_below (w - 1) n in
    let e : 2 ^ w ≡ 2 * 2 ^ (w - 1) = pow_half w (omega arith) in
    let not_low : 2 ^ (w - 1) ≤ 2 ^ w - 1 - m = omega arith in
    let back : 2 ^ w - 1 - (2 ^ w - 1 - m) ≡ m = omega arith in
    cond-false _ _ _ (le-ltb _ _ not_low) ∙ ap negsuc back

pub raw_is : (t : Prim) (v : Val) → IsSoundPrim t → FitsSimple t v → value_of t (raw (width t) (cast_simple t v)) ≡ cast_simple t v
raw_is PBool (Truth true) i h = refl
raw_is PBool (Truth false) i h = refl
raw_is (PUint w true) (Num (pos n)) i h = refl
raw_is (PUint w true) (Num (negsuc n)) i h = refl
raw_is (PUint w false) (Num (pos n)) i h = refl
raw_is (PUint w false) (Num (negsuc n)) i h = refl
raw_is (PInt w) (Num (pos n)) i h = ap Num (int_pos w n)
raw_is (PInt w) (Num (negsuc n)) i h = ap Num (int_neg w n i.0)
raw_is (PFloat w c) (Raw n) i h = refl
raw_is t v i h = absurd h
