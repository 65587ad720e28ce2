-- The numbers of floats.
use Rattle.std.proofs.Common.{◌≡◌, ◌∙◌, ◌≢◌, ℕ, ◌==◌, ◌++◌, List, Bool, true, false, Some, sym, ap, subst}
use Rattle.std.proofs.lemmas.Bool.{false≢true}
use lib.Ieee.{is_nan}
use Rattle.std.specs.Float.{Float, Format, nan, inf, fin, binary32, binary64, float_is_finite, is_sign_negative}
use Rattle.ryu.specs.Parse.{parse_float}
use Rattle.ryu.specs.Plain.{IsLaidOutNumber}
use Rattle.std.specs.Prelude.{from_bits, if◌then◌else◌}
use Rattle.std.proofs.lemmas.Bool.{ne_eqb}
use Rattle.value_json.specs.Floats.{float_of, half, format_of, most_digits, most_zeros}
use Rattle.value_json.specs.Json.{float_json, infinity_text}
use Rattle.value_json.specs.Pieces.{Adds, exact}
use Rattle.value_json.proofs.Adding.{adds_exact, adds_number}

-- a finite float
pub put_finite : (w : ℕ) (f : Format) (x : Float) (old now new number : List ℕ) → now ≡ old → format_of w ≡ f → float_is_finite x ≡ true → parse_float f number ≡ Some x →
    IsLaidOutNumber (most_digits f) (most_zeros f) number → new ≡ now ++ number → Adds (float_json w x) old new
unfolding float_is_finite
put_finite w f nan old now new number same e h p l g = absurd (false≢true h)
put_finite w f (inf s) old now new number same e h p l g = absurd (false≢true h)
put_finite w f (fin s m k) old now new number same e h p l g =
    adds_number w (fin s m k) old new number
    (record { reads_back = subst (λ z. parse_float z number ≡ Some (fin s m k)) (sym e) p; laid_out = subst (λ z. IsLaidOutNumber (most_digits z) (most_zeros z) number) (sym e) l })
    (g ∙ ap (λ t. t ++ number) same)

-- what is no number
pub put_nan : (w : ℕ) (x : Float) (old new bytes : List ℕ) → is_nan x ≡ true → new ≡ old ++ bytes → float_json w nan ≡ exact bytes → Adds (float_json w x) old new
unfolding is_nan
put_nan w nan old new bytes h g e = subst (λ y. Adds y old new) (sym e) (adds_exact old new bytes g)
put_nan w (inf s) old new bytes h g e = absurd (false≢true h)
put_nan w (fin s m k) old new bytes h g e = absurd (false≢true h)

pub put_infinite : (w : ℕ) (x : Float) (negative : Bool) (old new : List ℕ) → is_nan x ≡ false → float_is_finite x ≡ false → negative ≡ is_sign_negative x → new ≡ old ++ infinity_text negative → Adds (float_json w x) old new
unfolding is_nan float_is_finite is_sign_negative
put_infinite w nan negative old new n h b g = absurd (false≢true (sym n))
put_infinite w (inf s) negative old new n h b g = adds_exact old new (infinity_text s) (g ∙ ap (λ z. old ++ infinity_text z) b)
put_infinite w (fin s m k) negative old new n h b g = absurd (false≢true (sym h))

-- ---- by the number of bits

pub float_16 : (w bits : ℕ) → w ≡ 16 → float_of w bits ≡ half bits
unfolding float_of
float_16 w bits e = ap (λ x. float_of x bits) e

pub float_32 : (w bits : ℕ) → w ≡ 32 → float_of w bits ≡ from_bits binary32 bits
unfolding float_of
float_32 w bits e = ap (λ x. float_of x bits) e

pub float_64 : (w bits : ℕ) → w ≢ 16 → w ≢ 32 → float_of w bits ≡ from_bits binary64 bits
unfolding float_of
float_64 w bits n m =
    ap (λ b. if b then half bits else if w == 32 then from_bits binary32 bits else from_bits binary64 bits) (ne_eqb w 16 n)
    ∙ ap (λ b. if b then from_bits binary32 bits else from_bits binary64 bits) (ne_eqb w 32 m)

pub format_64 : (w : ℕ) → w ≢ 16 → w ≢ 32 → format_of w ≡ binary64
format_64 w n m =
    ap (λ b. if b then binary32 else if w == 32 then binary32 else binary64) (ne_eqb w 16 n)
    ∙ ap (λ b. if b then binary32 else binary64) (ne_eqb w 32 m)
