-- The serialized form of structures whose fields are whole bytes
use Rattle.std.proofs.Common.{◌≡◌, ℕ, zero, suc, ◌+◌, ◌*◌, ◌/◌, ◌%◌, ◌^◌, ◌<◌, Bool, true, false, List, [], ◌∷◌, ◌++◌, length, drop, refl, sym, ap, ◌∙◌, arith}
use Rattle.std.proofs.Math.Nat.{min-eq_left, pow-suc}
use Rattle.std.proofs.Math.Pow.{le_ones}
use Rattle.std.proofs.lemmas.List.{append-nil}
use Rattle.std.proofs.lemmas.List.Elements.{All-head, All-tail}
use Rattle.std.proofs.lemmas.Nat.{pow-add, shr-shr}
use Rattle.std.specs.Int.{byte_at, bytes_low_first}
use Rattle.std.specs.List.{All}
use Rattle.cy_bits.specs.Bits.{bits, bits_of, bytes, bytes_up_to, gap, zeros}
use Rattle.cy_bits.proofs.BitFacts.{bits-append, drop_bits, take_bits}
use Rattle.cy_bits.proofs.BitPlaces.{bits_of_low, bits_of_split, length_bits}
use Rattle.dsdl_types.specs.Encoding.{with_header, each, field_bits, lead, own_bits, padded}
use Rattle.dsdl_types.specs.Laws.{encoding}
use Rattle.dsdl_types.specs.Schemas.{Sch, Flds, Outline, End, Field, Fixed, Struct, Var, is_aligned, is_delimited, length_field_bits}
use Rattle.dsdl_types.specs.Values.{Val, Vals, Empty, More, Parts, count}
use Rattle.dsdl_types.proofs.Lengths.{gap_none}
use Rattle.std_types.specs.Held.{natural_value, naturals_value, row_of}
use Rattle.std_types.specs.Schemas.{uint}

-- a value's own bits are those of these bytes
pub record IsBytes (s : Sch) (v : Val) (b : List ℕ) : Type 0 where
  pub same : own_bits s v ≡ bits b

-- the bits of fields that begin at a whole byte are those of these bytes
pub record AreBytes (fs : Flds) (vs : Vals) (b : List ℕ) : Type 0 where
  pub same : (p : ℕ) → p % 8 ≡ 0 → field_bits fs p vs ≡ bits b

bytes_again : (n : ℕ) (b : List ℕ) → n ≡ length b → All (λ x. x < 2 ^ 8) b → bytes_up_to n (bits b) ≡ b
bytes_again zero [] e h = refl
bytes_again (suc n) [] e h = absurd (omega arith)
bytes_again zero (x ∷ b) e h = absurd (omega arith)
bytes_again (suc n) (x ∷ b) e h =
    ap (λ y. y ∷ bytes_up_to n (drop 8 (bits_of 8 x ++ bits b))) (take_bits 8 x (bits b) (All-head (λ y. y < 2 ^ 8) x b h))
    ∙ ap (λ l. x ∷ bytes_up_to n l) (drop_bits 8 x (bits b))
    ∙ ap (λ l. x ∷ l) (bytes_again n b (omega arith) (All-tail (λ y. y < 2 ^ 8) x b h))

pub encoding_bytes : (s : Sch) (v : Val) (b : List ℕ) → IsBytes s v b → All (λ x. x < 2 ^ 8) b → encoding s v ≡ b
encoding_bytes s v b e h = ap bytes e.same ∙ bytes_again ((length (bits b) + 7) / 8) b (omega (arith, length_bits b)) h

-- ---- numbers

power_of_bytes : (i : ℕ) → 256 ^ i ≡ 2 ^ (8 * i)
power_of_bytes zero = refl
power_of_bytes (suc i) =
    let more : 8 * i + 8 ≡ 8 * suc i = omega arith in
    pow-suc 256 i ∙ ap (λ m. m * 256) (power_of_bytes i) ∙ sym (pow-add 2 (8 * i) 8) ∙ ap (λ m. 2 ^ m) more

byte_shifted : (i n : ℕ) → byte_at i n ≡ n / 2 ^ (8 * i) % 2 ^ 8
byte_shifted zero n =
    let same : n ≡ n / 2 ^ (8 * 0) = omega arith in
    ap (λ m. m % 256) same
byte_shifted (suc i) n = ap (λ m. n / m % 256) (power_of_bytes (suc i))

pub bits_low_first : (k i n : ℕ) → bits (bytes_low_first i k n) ≡ bits_of (8 * k) (n / 2 ^ (8 * i))
unfolding bits_of
bits_low_first zero i n = refl
bits_low_first (suc k) i n =
    let m = n / 2 ^ (8 * i) in
    let e : 8 + 8 * k ≡ 8 * suc k = omega arith in
    let f : 8 * i + 8 ≡ 8 * suc i = omega arith in
    ap (λ x. bits_of 8 x ++ bits (bytes_low_first (suc i) k n)) (byte_shifted i n)
    ∙ ap (λ l. l ++ bits (bytes_low_first (suc i) k n)) (bits_of_low 8 m)
    ∙ ap (λ l. bits_of 8 m ++ l) (bits_low_first k (suc i) n)
    ∙ ap (λ x. bits_of 8 m ++ bits_of (8 * k) x) (sym (shr-shr n (8 * i) 8 ∙ ap (λ x. n / 2 ^ x) f))
    ∙ sym (bits_of_split 8 (8 * k) m)
    ∙ ap (λ w. bits_of w m) e

-- an unsigned number of so many bytes
pub uint_bytes : (k n : ℕ) → n < 2 ^ (8 * k) → IsBytes (uint (8 * k)) (natural_value n) (bytes_low_first 0 k n)
uint_bytes k n h =
    let e : n ≡ n / 2 ^ (8 * 0) = omega arith in
    record { same = ap (bits_of (8 * k)) (min-eq_left (le_ones (8 * k) h) ∙ e) ∙ sym (bits_low_first k 0 n) }

pub byte_bytes : (n : ℕ) → n < 2 ^ 8 → IsBytes (uint 8) (natural_value n) (n ∷ [])
byte_bytes n h = record { same = ap (bits_of 8) (min-eq_left (le_ones 8 h)) ∙ sym (append-nil (bits_of 8 n)) }

-- ---- arrays of bytes

each_byte : (xs : List ℕ) → All (λ x. x < 2 ^ 8) xs → each (λ v. with_header false (own_bits (uint 8) v)) (row_of natural_value xs) ≡ bits xs
each_byte [] h = refl
each_byte (x ∷ xs) h =
    ap (λ l. l ++ each (λ v. with_header false (own_bits (uint 8) v)) (row_of natural_value xs)) (ap (bits_of 8) (min-eq_left (le_ones 8 (All-head (λ y. y < 2 ^ 8) x xs h))))
    ∙ ap (λ l. bits_of 8 x ++ l) (each_byte xs (All-tail (λ y. y < 2 ^ 8) x xs h))

count_row : (xs : List ℕ) → count (row_of natural_value xs) ≡ length xs
count_row [] = refl
count_row (x ∷ xs) = ap suc (count_row xs)

pub fixed_bytes : (n : ℕ) (xs : List ℕ) → All (λ x. x < 2 ^ 8) xs → IsBytes (Fixed (uint 8) n) (naturals_value xs) xs
fixed_bytes n xs h = record { same = each_byte xs h }

pub var_bytes : (cap : ℕ) (xs : List ℕ) → length_field_bits cap ≡ 8 → All (λ x. x < 2 ^ 8) xs → IsBytes (Var (uint 8) cap) (naturals_value xs) (length xs ∷ xs)
var_bytes cap xs e h = record {
  same = ap (λ w. bits_of w (count (row_of natural_value xs)) ++ each (λ v. with_header false (own_bits (uint 8) v)) (row_of natural_value xs)) e
      ∙ ap (λ n. bits_of 8 n ++ each (λ v. with_header false (own_bits (uint 8) v)) (row_of natural_value xs)) (count_row xs)
      ∙ ap (λ l. bits_of 8 (length xs) ++ l) (each_byte xs h);
}

-- ---- structures

no_lead : (aligned : Bool) (p : ℕ) → p % 8 ≡ 0 → lead aligned p ≡ []
no_lead false p h = refl
no_lead true p h = ap zeros (gap_none p h)

not_counted : (d : Bool) (l : List Bool) → d ≡ false → with_header d l ≡ l
not_counted false l e = refl
not_counted true l e = cc

joined : (p : ℕ) (l m : List Bool) (f : ℕ → List Bool) (b c : List ℕ) → p % 8 ≡ 0 → l ≡ [] → m ≡ bits b →
    ((q : ℕ) → q % 8 ≡ 0 → f q ≡ bits c) → l ++ (m ++ f (p + (length l + length m))) ≡ bits (b ++ c)
joined p l m f b c whole none first others =
    let q : ℕ = p + (0 + length (bits b)) in
    ap (λ x. x ++ (m ++ f (p + (length x + length m)))) none
    ∙ ap (λ x. x ++ f (p + (0 + length x))) first
    ∙ ap (λ x. bits b ++ x) (others q (omega (arith, length_bits b, whole)))
    ∙ sym (bits-append b c)

pub no_fields : AreBytes End Empty []
no_fields = record { same = λ p whole. refl }

pub field_bytes : {name : List ℕ} {s : Sch} {fs : Flds} {v : Val} {vs : Vals} {b c : List ℕ} → is_delimited s ≡ false →
    IsBytes s v b → AreBytes fs vs c → AreBytes (Field name s fs) (More v vs) (b ++ c)
field_bytes {s = s} {fs = fs} {v = v} {vs = vs} {b = b} {c = c} sealed first others = record {
  same = λ p whole. joined p (lead (is_aligned s) p) (with_header (is_delimited s) (own_bits s v)) (λ q. field_bits fs q vs) b c whole
      (no_lead (is_aligned s) p whole) (not_counted (is_delimited s) (own_bits s v) sealed ∙ first.same) others.same;
}

pub struct_bytes : {fs : Flds} {o : Outline} {vs : Vals} {b : List ℕ} → AreBytes fs vs b → IsBytes (Struct fs o) (Parts vs) b
struct_bytes {b = b} h =
    let none : gap (length (bits b)) ≡ 0 = gap_none (length (bits b)) (omega (arith, length_bits b)) in
    record { same = ap padded (h.same 0 refl) ∙ ap (λ n. bits b ++ zeros n) none ∙ append-nil (bits b) }
