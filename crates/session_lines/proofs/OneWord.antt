-- The words of which a report's lines are made: their bytes, and that no two things have one word.
use Rattle.std.proofs.Common.{◌≡◌, ◌∙◌, inl, inr, ℕ, zero, suc, ◌+◌, ◌/◌, ◌%◌, ◌<◌, ◌≤◌, ◌^◌, ◌==◌, ◌||◌, Bool, true, false, List, [], ◌∷◌, ◌++◌, length, get_or, Ok, refl, sym, ap, subst, arith, if◌then◌else◌}
use Rattle.std.specs.Prelude.{⊤, decimal, slice_index, nat_le}
use Rattle.std.specs.Fmt.{digit_glyph, digits, digits_onto}
use Rattle.std.specs.List.{list_all}
use Rattle.std.proofs.lemmas.Bool.{and_parts, cases_order, eqb-true, leb-true, lt-ltb, or_cases}
use Rattle.std.specs.Char.{is_ascii_alphanumeric}
use Rattle.std.specs.Int.{is_in_range}
use Rattle.std.proofs.lemmas.Fmt.{decimal_injective}
use Rattle.std.proofs.lemmas.Option.{slice_get-get_or}
use Rattle.hex.specs.Hex.{IsBytes, decode_of, encode_upper, encode_with, upper_digits}
use Rattle.hex.proofs.HexLemmas.{decode_of-encode_upper}
use Rattle.can_id.specs.Kinds.{kind_text}
use Rattle.can_id.specs.declared.key.Kind.{Kind}
use Rattle.can_id.specs.declared.key.Kind.TheVariants.{Message, Request, Response}
use Rattle.node_plan.specs.Names.{is_name_byte}
use Rattle.line_text.specs.Text.{digit, six_digits, moment_text, ident_text}
use Rattle.node_plan.specs.Buses.{bus_text, name_of}
use Rattle.node_plan.specs.declared.plan.BusPlan.{BusPlan}
use Rattle.session_lines.specs.OneReport.{AreNamed}
use Rattle.session_lines.proofs.Cuts.{unlike, Free, cut, decimal_pointless}

-- a hyphen, a point, a digit, a letter or `_`: all but the first within these
abbrev pub IsPlain : ℕ → Type 0
IsPlain c = (45 ≤ c) × (c ≤ 122)

abbrev pub ArePlain : List ℕ → Type 0
ArePlain [] = ⊤
ArePlain (c ∷ cs) = IsPlain c × ArePlain cs

pub plain_append : (a b : List ℕ) → ArePlain a → ArePlain b → ArePlain (a ++ b)
plain_append [] b p q = q
plain_append (c ∷ a) b p q = (p.0, plain_append a b p.1 q)

-- no plain byte ends a word
pub free_plain : (End : ℕ → Type 0) → ((c : ℕ) → IsPlain c → End c → ⊥) → (t : List ℕ) → ArePlain t → Free End t
free_plain End none [] h = tt
free_plain End none (c ∷ cs) h = (none c h.0, free_plain End none cs h.1)

plain_by : (p : Bool) (a b : List ℕ) → ArePlain a → ArePlain b → ArePlain (if p then a else b)
plain_by true a b h k = h
plain_by false a b h k = k

pub plain_bytes : (t : List ℕ) → list_all (nat_le 45) t ≡ true → list_all (λ c. nat_le c 122) t ≡ true → ArePlain t
plain_bytes [] h k = tt
plain_bytes (c ∷ t) h k =
    let p = and_parts (nat_le 45 c) (list_all (nat_le 45) t) h in
    let q = and_parts (nat_le c 122) (list_all (λ c. nat_le c 122) t) k in
    ((leb-true 45 c p.0, leb-true c 122 q.0), plain_bytes t p.1 q.1)

-- ---- numbers

glyph_plain : (d : ℕ) → d < 10 → IsPlain (digit_glyph false d)
glyph_plain d h = let e : digit_glyph false d ≡ 48 + d = ap (λ small. if small then 48 + d else 87 + d) (lt-ltb d 10 h) in
    subst IsPlain (sym e) (let low : 45 ≤ 48 + d = omega arith in let high : 48 + d ≤ 122 = omega (arith, h) in (low, high))

plain_onto : (k n : ℕ) (acc : List ℕ) → ArePlain acc → ArePlain (digits_onto k 10 false n acc)
plain_onto zero n acc h = h
plain_onto (suc k) n acc h =
    let d = digit_glyph false (n % 10) in
    let small : n % 10 < 10 = omega arith in
    let more : ArePlain (d ∷ acc) = (glyph_plain (n % 10) small, h) in
    plain_by (n / 10 == 0) (d ∷ acc) (digits_onto k 10 false (n / 10) (d ∷ acc)) more (plain_onto k (n / 10) (d ∷ acc) more)

pub plain_decimal : (n : ℕ) → ArePlain (decimal n)
unfolding digits
plain_decimal n = plain_onto 64 n [] tt

digit_plain : (n : ℕ) → IsPlain (digit n)
digit_plain n = let low : 45 ≤ 48 + n % 10 = omega arith in let high : 48 + n % 10 ≤ 122 = omega arith in (low, high)

-- ---- moments

plain_six : (n : ℕ) → ArePlain (six_digits n)
plain_six n = (digit_plain (n / 100000), (digit_plain (n / 10000), (digit_plain (n / 1000), (digit_plain (n / 100), (digit_plain (n / 10), (digit_plain n, tt))))))

pub plain_moment : (m : ℕ) → ArePlain (moment_text m)
plain_moment m = plain_append (decimal (m / 1000000)) (46 ∷ six_digits (m % 1000000)) (plain_decimal (m / 1000000)) (point, plain_six (m % 1000000))
  where
    point : IsPlain 46
    point = let low : 45 ≤ 46 = omega arith in let high : 46 ≤ 122 = omega arith in (low, high)

-- a number by its quotient by ten and its last digit
by_tens : (n m : ℕ) → n / 10 ≡ m / 10 → digit n ≡ digit m → n ≡ m
by_tens n m e f = let k : 48 + n % 10 ≡ 48 + m % 10 = f in omega arith

tenth : (n k : ℕ) → (n / 10) / 10 ≡ n / 100
tenth n k = omega arith

one_six : (n m : ℕ) → n < 1000000 → m < 1000000 → six_digits n ≡ six_digits m → n ≡ m
one_six n m p q e =
    let d5 : digit (n / 100000) ≡ digit (m / 100000) = cc in
    let d4 : digit (n / 10000) ≡ digit (m / 10000) = cc in
    let d3 : digit (n / 1000) ≡ digit (m / 1000) = cc in
    let d2 : digit (n / 100) ≡ digit (m / 100) = cc in
    let d1 : digit (n / 10) ≡ digit (m / 10) = cc in
    let d0 : digit n ≡ digit m = cc in
    let s5 : n / 100000 ≡ m / 100000 = by_tens (n / 100000) (m / 100000) (omega arith) d5 in
    let s4 : n / 10000 ≡ m / 10000 = by_tens (n / 10000) (m / 10000) (omega (arith, s5)) d4 in
    let s3 : n / 1000 ≡ m / 1000 = by_tens (n / 1000) (m / 1000) (omega (arith, s4)) d3 in
    let s2 : n / 100 ≡ m / 100 = by_tens (n / 100) (m / 100) (omega (arith, s3)) d2 in
    let s1 : n / 10 ≡ m / 10 = by_tens (n / 10) (m / 10) (omega (arith, s2)) d1 in
    by_tens n m s1 d0

pub one_moment : (m n : ℕ) → m < 2 ^ 64 → n < 2 ^ 64 → moment_text m ≡ moment_text n → m ≡ n
one_moment m n p q e =
    let s = cut (λ c. c ≡ 46) (decimal (m / 1000000)) (decimal (n / 1000000)) 46 46 (six_digits (m % 1000000)) (six_digits (n % 1000000))
    (decimal_pointless (m / 1000000) (omega arith)) (decimal_pointless (n / 1000000) (omega arith)) refl refl e in
    let high : m / 1000000 ≡ n / 1000000 = decimal_injective (m / 1000000) (n / 1000000) (omega arith) (omega arith) s.front in
    let low : m % 1000000 ≡ n % 1000000 = one_six (m % 1000000) (n % 1000000) (omega arith) (omega arith) s.rest in
    omega arith

-- ---- buses

ranged : (low high c : ℕ) → 45 ≤ low → high ≤ 122 → is_in_range low high c ≡ true → IsPlain c
ranged low high c p q e =
    let both = and_parts (nat_le low c) (nat_le c high) e in
    let l : low ≤ c = leb-true low c both.0 in
    let h : c ≤ high = leb-true c high both.1 in
    (omega (arith, p, l), omega (arith, q, h))

name_byte : (c : ℕ) → is_name_byte c ≡ true → IsPlain c
name_byte c h = elim (or_cases (is_ascii_alphanumeric c) (c == 95) h) [
  | inl letter ↦ elim (or_cases (is_in_range 48 57 c || is_in_range 65 90 c) (is_in_range 97 122 c) letter) [
    | inl more ↦ elim (or_cases (is_in_range 48 57 c) (is_in_range 65 90 c) more) [
      | inl digit ↦ ranged 48 57 c (omega arith) (omega arith) digit
      | inr upper ↦ ranged 65 90 c (omega arith) (omega arith) upper
    ]
    | inr lower ↦ ranged 97 122 c (omega arith) (omega arith) lower
  ]
  | inr line ↦ let e : c ≡ 95 = eqb-true c 95 line in let low : 45 ≤ c = omega (arith, e) in let high : c ≤ 122 = omega (arith, e) in (low, high)
]

plain_name : (name : List ℕ) → list_all is_name_byte name ≡ true → ArePlain name
plain_name [] h = tt
plain_name (c ∷ cs) h = let p = and_parts (is_name_byte c) (list_all is_name_byte cs) h in (name_byte c p.0, plain_name cs p.1)

abbrev pub no_bus : BusPlan
no_bus = record { name = []; mtu = 0; rate = 0 }

pub name_at : (buses : List BusPlan) (i : ℕ) → i < length buses → bus_text buses i ≡ (get_or buses i no_bus).name
name_at buses i h = ap name_of (slice_get-get_or buses i no_bus h)

pub plain_bus : (buses : List BusPlan) (i : ℕ) → AreNamed buses → i < length buses → ArePlain (bus_text buses i)
plain_bus buses i named h =
    let name = (get_or buses i no_bus).name in
    let p = and_parts (nat_le (length name) 15) (list_all is_name_byte name) (named.names i no_bus h) in
    subst ArePlain (sym (name_at buses i h)) (plain_name name p.1)

pub one_bus : (buses : List BusPlan) (i j : ℕ) → AreNamed buses → i < length buses → j < length buses → bus_text buses i ≡ bus_text buses j → i ≡ j
one_bus buses i j named p q e =
    let same : (get_or buses i no_bus).name ≡ (get_or buses j no_bus).name = sym (name_at buses i p) ∙ (e ∙ name_at buses j q) in
    elim (cases_order i j) [
      | inl is ↦ is
      | inr (inl less) ↦ absurd (named.differ i j no_bus less q same)
      | inr (inr more) ↦ absurd (named.differ j i no_bus more p (sym same))
    ]

-- ---- kinds and payloads

pub plain_kind : (kind : Kind) → ArePlain (kind_text kind)
plain_kind Message = plain_bytes (kind_text Message) refl refl
plain_kind Request = plain_bytes (kind_text Request) refl refl
plain_kind Response = plain_bytes (kind_text Response) refl refl

pub one_kind : (a b : Kind) → kind_text a ≡ kind_text b → a ≡ b
one_kind Message Message e = refl
one_kind Message Request e = absurd (unlike 109 114 (inl (omega arith)) (ap (λ (t : List ℕ). slice_index t 0) e))
one_kind Message Response e = absurd (unlike 109 114 (inl (omega arith)) (ap (λ (t : List ℕ). slice_index t 0) e))
one_kind Request Message e = absurd (unlike 114 109 (inr (omega arith)) (ap (λ (t : List ℕ). slice_index t 0) e))
one_kind Request Request e = refl
one_kind Request Response e = absurd (unlike 113 115 (inl (omega arith)) (ap (λ (t : List ℕ). slice_index t 2) e))
one_kind Response Message e = absurd (unlike 114 109 (inr (omega arith)) (ap (λ (t : List ℕ). slice_index t 0) e))
one_kind Response Request e = absurd (unlike 115 113 (inr (omega arith)) (ap (λ (t : List ℕ). slice_index t 2) e))
one_kind Response Response e = refl

plain_at : (t : List ℕ) (k : ℕ) → ArePlain t → k < length t → IsPlain (slice_index t k)
plain_at [] k h l = absurd (omega arith)
plain_at (c ∷ t) zero h l = h.0
plain_at (c ∷ t) (suc k) h l = plain_at t k h.1 (omega (arith, l))

plain_digits : (t bytes : List ℕ) → length t ≡ 16 → ArePlain t → IsBytes bytes → ArePlain (encode_with t bytes)
unfolding encode_with
plain_digits t [] n h k = tt
plain_digits t (b ∷ bytes) n h k =
    let small : b < 256 = k 0 in
    let high : b / 16 < length t = omega (arith, n, small) in
    let low : b % 16 < length t = omega (arith, n) in
    (plain_at t (b / 16) h high, (plain_at t (b % 16) h low, plain_digits t bytes n h (λ i. k (suc i))))

pub plain_hex : (bytes : List ℕ) → IsBytes bytes → ArePlain (encode_upper bytes)
plain_hex bytes h = plain_digits upper_digits bytes refl (plain_bytes upper_digits refl refl) h

pub one_hex : (a b : List ℕ) → IsBytes a → IsBytes b → encode_upper a ≡ encode_upper b → a ≡ b
one_hex a b p q e =
    let same : Ok a ≡ Ok b = sym (decode_of-encode_upper a p) ∙ (ap decode_of e ∙ decode_of-encode_upper b q) in cc

-- ---- identifiers

-- the four bytes of an identifier, high first
abbrev pub four : ℕ → List ℕ
four n = n / 0x1000000 ∷ n / 0x10000 % 256 ∷ n / 256 % 256 ∷ n % 256 ∷ []

pub four_bytes : (n : ℕ) → n < 2 ^ 32 → IsBytes (four n)
four_bytes n h zero = let k : n / 0x1000000 < 256 = omega arith in k
four_bytes n h (suc zero) = let k : n / 0x10000 % 256 < 256 = omega arith in k
four_bytes n h (suc (suc zero)) = let k : n / 256 % 256 < 256 = omega arith in k
four_bytes n h (suc (suc (suc zero))) = let k : n % 256 < 256 = omega arith in k
four_bytes n h (suc (suc (suc (suc i)))) = let k : 0 < 256 = omega arith in k

pub one_ident : (n m : ℕ) → n < 2 ^ 32 → m < 2 ^ 32 → ident_text n ≡ ident_text m → n ≡ m
one_ident n m p q e =
    let bytes : four n ≡ four m = one_hex (four n) (four m) (four_bytes n p) (four_bytes m q) e in
    let b3 : n / 0x1000000 ≡ m / 0x1000000 = cc in
    let b2 : n / 0x10000 % 256 ≡ m / 0x10000 % 256 = cc in
    let b1 : n / 256 % 256 ≡ m / 256 % 256 = cc in
    let b0 : n % 256 ≡ m % 256 = cc in
    omega arith
