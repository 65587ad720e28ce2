-- Pairs of hex digits are what the crate `hex` decodes.
use Rattle.std.proofs.Common.{◌≡◌, ◌∙◌, ◌<◌, ◌≤◌, ℕ, ◌+◌, ◌-◌, ◌*◌, ◌/◌, ◌%◌, ◌==◌, ◌&&◌, Bool, true, false, List, [], ◌∷◌, length, Option, Some, None, Result, Ok, Err, refl, sym, ap, arith}
use Rattle.std.specs.Prelude.{if◌then◌else◌, ◌||◌, nat_lt, nat_le, MatchResult}
use Rattle.std.specs.Result.{result_ok}
use Rattle.std.proofs.lemmas.Bool.{and_parts, and_left, eq-eqb, eqb-true, le-ltb, leb-true, lt-leb}
use Rattle.hex.specs.Hex.{hex_digit_value, digit_or_error, decode_pairs, decode_of, decode_sized, ◌>>=◌}
use Rattle.hex.specs.declared.error.FromHexError.{FromHexError}
use Rattle.hex.specs.declared.error.FromHexError.TheVariants.{OddLength, InvalidStringLength}
use Rattle.frame_log.specs.Line.{hex_digit, pairs_of, with_front}
use Rattle.frame_log.proofs.LineLemmas.{pairs_of-odd, yes, no}

-- whichever of three tests comes first
digit_by : (x y z : Bool) (a b d : ℕ) → (x ≡ true → (y ≡ false) × (z ≡ false) × (a ≤ 15)) → (y ≡ true → b ≤ 15) → (z ≡ true → d ≤ 15)
    → (if y then Some b else if z then Some d else if x then Some a else None)
    ≡ (if nat_lt 15 (if x then a else (if y then b else (if z then d else 16))) then None else Some (if x then a else (if y then b else (if z then d else 16))))
digit_by true true z a b d h k l = absurd (let e : true ≡ false = (h refl).0 in cc)
digit_by true false true a b d h k l = absurd (let e : true ≡ false = (h refl).1 in cc)
digit_by true false false a b d h k l = no (nat_lt 15 a) None (Some a) (le-ltb 15 a (h refl).2)
digit_by false true z a b d h k l = no (nat_lt 15 b) None (Some b) (le-ltb 15 b (k refl))
digit_by false false true a b d h k l = no (nat_lt 15 d) None (Some d) (le-ltb 15 d (l refl))
digit_by false false false a b d h k l = refl

in_range : (a b c : ℕ) → (nat_le a c && nat_le c b) ≡ true → (a ≤ c) × (c ≤ b)
in_range a b c e = let p = and_parts (nat_le a c) (nat_le c b) e in (leb-true a c p.0, leb-true c b p.1)

below : (a b c : ℕ) → c < a → (nat_le a c && nat_le c b) ≡ false
below a b c h = and_left (nat_le a c) (nat_le c b) (lt-leb a c h)

-- the value of one digit
digit_is : (c : ℕ) → hex_digit_value c ≡ (if nat_lt 15 (hex_digit c) then None else Some (hex_digit c))
digit_is c = digit_by (nat_le 48 c && nat_le c 57) (nat_le 65 c && nat_le c 70) (nat_le 97 c && nat_le c 102) (c - 48) (c - 55) (c - 87)
    (λ e. let r = in_range 48 57 c e in (below 65 70 c (omega (arith, r.1)), below 97 102 c (omega (arith, r.1)), omega (arith, r.1)))
    (λ e. let r = in_range 65 70 c e in omega (arith, r.1))
    (λ e. let r = in_range 97 102 c e in omega (arith, r.1))

-- two digits and a rest
two : (s t : Bool) (x y i a b : ℕ) (A B : Option ℕ) (r : Result (List ℕ) FromHexError) → A ≡ (if s then None else Some x) → B ≡ (if t then None else Some y)
    → (if s || t then None else with_front ((x * 16 + y) ∷ []) (result_ok r))
    ≡ result_ok ((digit_or_error a i A >>= (λ h. digit_or_error b (i + 1) B >>= (λ l. Ok (h * 16 + l)))) >>= (λ byte. r >>= (λ bytes. Ok (byte ∷ bytes))))
two true t x y i a b A B r e f = rw e refl
two false true x y i a b A B r e f = rw (e, f) refl
two false false x y i a b A B (Ok bytes) e f = rw (e, f) refl
two false false x y i a b A B (Err w) e f = rw (e, f) refl

pairs_are : (i : ℕ) (s : List ℕ) → pairs_of s ≡ result_ok (decode_pairs i s)
unfolding decode_pairs
pairs_are i [] = refl
pairs_are i (a ∷ []) = refl
pairs_are i (a ∷ b ∷ s) =
    ap (λ (o : Option (List ℕ)). if nat_lt 15 (hex_digit a) || nat_lt 15 (hex_digit b) then None else with_front ((hex_digit a * 16 + hex_digit b) ∷ []) o) (pairs_are (i + 2) s)
    ∙ two (nat_lt 15 (hex_digit a)) (nat_lt 15 (hex_digit b)) (hex_digit a) (hex_digit b) i a b (hex_digit_value a) (hex_digit_value b) (decode_pairs (i + 2) s) (digit_is a) (digit_is b)

by_length : (s : List ℕ) (t : Bool) → (length s % 2 == 1) ≡ t → pairs_of s ≡ result_ok (if t then Err OddLength else decode_pairs 0 s)
by_length s true e = pairs_of-odd s (λ h. let odd : length s % 2 ≡ 1 = eqb-true (length s % 2) 1 e in omega (arith, odd, h))
by_length s false e = pairs_are 0 s

-- pairs of hex digits are read as `hex` decodes them
pub pairs_by_hex : (s : List ℕ) → pairs_of s ≡ result_ok (decode_of s)
pairs_by_hex s = by_length s (length s % 2 == 1) refl

-- there is room for each pair
sized : (s : List ℕ) (n : ℕ) → n ≡ length s / 2 → decode_sized s n ≡ decode_of s
sized s n e = ap (λ (r : Result (List ℕ) FromHexError). if length s % 2 == 1 then Err OddLength else r)
    (sym (yes (length s / 2 == n) (decode_pairs 0 s) (Err InvalidStringLength) (eq-eqb (length s / 2) n (sym e))))

pairs_sized : (s : List ℕ) (n : ℕ) → n ≡ length s / 2 → pairs_of s ≡ result_ok (decode_sized s n)
pairs_sized s n e = pairs_by_hex s ∙ ap (λ (r : Result (List ℕ) FromHexError). result_ok r) (sym (sized s n e))

-- what was decoded
pub decoded : (s out : List ℕ) (n : ℕ) (r : Result Unit FromHexError) (u : Unit)
    → MatchResult (decode_sized s n) (λ bytes. (r ≡ Ok tt) × (out ≡ bytes)) (λ e. r ≡ Err e) → r ≡ Ok u → n ≡ length s / 2 → pairs_of s ≡ Some out
decoded s out n r u m is e = pairs_sized s n e ∙ go (decode_sized s n) m
  where
    go : (d : Result (List ℕ) FromHexError) → MatchResult d (λ bytes. (r ≡ Ok tt) × (out ≡ bytes)) (λ w. r ≡ Err w) → result_ok d ≡ Some out
    go (Ok bytes) h = ap Some (sym h.1)
    go (Err w) h = absurd (let f : Ok u ≡ Err w = sym is ∙ h in cc)

-- what wasn't
pub not_decoded : (s out : List ℕ) (n : ℕ) (r : Result Unit FromHexError) (w : FromHexError)
    → MatchResult (decode_sized s n) (λ bytes. (r ≡ Ok tt) × (out ≡ bytes)) (λ e. r ≡ Err e) → r ≡ Err w → n ≡ length s / 2 → pairs_of s ≡ None
not_decoded s out n r w m is e = pairs_sized s n e ∙ go (decode_sized s n) m
  where
    go : (d : Result (List ℕ) FromHexError) → MatchResult d (λ bytes. (r ≡ Ok tt) × (out ≡ bytes)) (λ v. r ≡ Err v) → result_ok d ≡ None
    go (Ok bytes) h = absurd (let f : Err w ≡ Ok tt = sym is ∙ h.0 in cc)
    go (Err v) h = refl
