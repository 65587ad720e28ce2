-- Lemmas on the forms of lines.
use Rattle.std.proofs.Common.{◌≡◌, ◌∙◌, ◌<◌, ◌≤◌, ◌^◌, ℕ, suc, ◌+◌, ◌*◌, Bool, true, false, List, [], ◌∷◌, ◌++◌, Option, Some, None, refl, sym, ap, subst, append_assoc, length, drop, get_or, arith, ap₂, ◌⊎◌, ◌/◌}
use Rattle.std.specs.Prelude.{if◌then◌else◌, ◌||◌, nat_lt}
use Rattle.std.proofs.lemmas.Bool.Decides.{nat_tests}
use Rattle.std.proofs.Math.Nat.{pow-le-pow_right}
use Rattle.std.proofs.Math.Seq.{drop-cons}
use Rattle.frame_log.specs.Line.{hex_digit, pairs_of, bytes_of, is_length, ◌>>=◌}

-- a number below a power of ten of at most 12 digits
pub below_decimal : (n i k : ℕ) → n < 10 ^ i → i ≤ k → n < 10 ^ k
below_decimal n i k h le = let p : 10 ^ i ≤ 10 ^ k = pow-le-pow_right (omega arith) le in omega arith

pub below_hex : (n i k : ℕ) → n < 16 ^ i → i ≤ k → n < 16 ^ k
below_hex n i k h le = let p : 16 ^ i ≤ 16 ^ k = pow-le-pow_right (omega arith) le in omega arith

pub some_is : {X : Type 0} (x y : X) → Some x ≡ Some y → x ≡ y
some_is x y h = cc

-- what isn't Some is None
pub none_where : {X : Type 0} (o : Option X) → ((x : X) → o ≡ Some x → ⊥) → o ≡ None
none_where None h = refl
none_where (Some x) h = absurd (h x refl)

-- neither of two digits is above 15
neither : {X : Type 0} (x y : ℕ) (u v : X) → x ≤ 15 → y ≤ 15 → (if nat_lt 15 x || nat_lt 15 y then u else v) ≡ v
neither x y u v h k = grind (arith, nat_tests)

-- one of them is
either : {X : Type 0} (x y : ℕ) (u v : X) → (15 < x) ⊎ (15 < y) → (if nat_lt 15 x || nat_lt 15 y then u else v) ≡ u
either x y u v h = grind (arith, nat_tests)

-- the first two bytes of a rest
drop-two : (s : List ℕ) (i : ℕ) → 2 * i + 1 < length s → drop (2 * i) s ≡ get_or s (2 * i) 0 ∷ get_or s (2 * i + 1) 0 ∷ drop (2 * (i + 1)) s
drop-two s i h =
    let a : drop (2 * i) s ≡ get_or s (2 * i) 0 ∷ drop (suc (2 * i)) s = drop-cons s (2 * i) 0 (omega arith) in
    let b : drop (suc (2 * i)) s ≡ get_or s (suc (2 * i)) 0 ∷ drop (suc (suc (2 * i))) s = drop-cons s (suc (2 * i)) 0 (omega arith) in
    let e : suc (2 * i) ≡ 2 * i + 1 = omega arith in
    let f : suc (suc (2 * i)) ≡ 2 * (i + 1) = omega arith in
    a ∙ ap (λ t. get_or s (2 * i) 0 ∷ t) (b ∙ ap (λ n. get_or s n 0 ∷ drop (suc (suc (2 * i))) s) e ∙ ap (λ n. get_or s (2 * i + 1) 0 ∷ drop n s) f)

-- a byte that was read goes to the end of what is there
bind-more : (o : Option (List ℕ)) (bytes : List ℕ) (x : ℕ) → ((o >>= (λ m. Some (x ∷ m))) >>= (λ more. Some (bytes ++ more))) ≡ (o >>= (λ more. Some ((bytes ++ x ∷ []) ++ more)))
bind-more None bytes x = refl
bind-more (Some m) bytes x = ap Some (sym (append_assoc bytes (x ∷ []) m))

pub pairs_of-two : (a b : ℕ) (s : List ℕ) → hex_digit a ≤ 15 → hex_digit b ≤ 15 → pairs_of (a ∷ b ∷ s) ≡ (pairs_of s >>= (λ m. Some ((hex_digit a * 16 + hex_digit b) ∷ m)))
pairs_of-two a b s h k = neither (hex_digit a) (hex_digit b) None (pairs_of s >>= (λ m. Some ((hex_digit a * 16 + hex_digit b) ∷ m))) h k

pub pairs_of-not : (a b : ℕ) (s : List ℕ) → (15 < hex_digit a) ⊎ (15 < hex_digit b) → pairs_of (a ∷ b ∷ s) ≡ None
pairs_of-not a b s h = either (hex_digit a) (hex_digit b) None (pairs_of s >>= (λ m. Some ((hex_digit a * 16 + hex_digit b) ∷ m))) h

-- a step of reading pairs
pub pairs_of-more : (s bytes : List ℕ) (i high low : ℕ) → pairs_of s ≡ (pairs_of (drop (2 * i) s) >>= (λ more. Some (bytes ++ more)))
    → 2 * i + 1 < length s → high ≡ hex_digit (get_or s (2 * i) 0) → low ≡ hex_digit (get_or s (2 * i + 1) 0) → high ≤ 15 → low ≤ 15
    → pairs_of s ≡ (pairs_of (drop (2 * (i + 1)) s) >>= (λ more. Some ((bytes ++ (high * 16 + low) ∷ []) ++ more)))
pairs_of-more s bytes i high low h l ha la hh lh =
    let a = get_or s (2 * i) 0 in let b = get_or s (2 * i + 1) 0 in
    let rest = drop (2 * (i + 1)) s in
    let two : pairs_of (a ∷ b ∷ rest) ≡ (pairs_of rest >>= (λ m. Some ((hex_digit a * 16 + hex_digit b) ∷ m))) = pairs_of-two a b rest (subst (λ n. n ≤ 15) ha hh) (subst (λ n. n ≤ 15) la lh) in
    h ∙ ap (λ t. pairs_of t >>= (λ more. Some (bytes ++ more))) (drop-two s i l)
    ∙ ap (λ (o : Option (List ℕ)). o >>= (λ more. Some (bytes ++ more))) two
    ∙ bind-more (pairs_of rest) bytes (hex_digit a * 16 + hex_digit b)
    ∙ ap₂ (λ x y. pairs_of rest >>= (λ more. Some ((bytes ++ (x * 16 + y) ∷ []) ++ more))) (sym ha) (sym la)

pub record Pair (test : Bool) (o : Option (List ℕ)) (x : ℕ) (bytes : List ℕ) : Type 0 where
  pub more : List ℕ
  pub read : o ≡ Some more
  pub whole : x ∷ more ≡ bytes

pair_of : (test : Bool) (o : Option (List ℕ)) (x : ℕ) (bytes : List ℕ) → (if test then None else (o >>= (λ m. Some (x ∷ m)))) ≡ Some bytes → Pair test o x bytes
pair_of true o x bytes h = absurd cc
pair_of false None x bytes h = absurd cc
pair_of false (Some m) x bytes h = record { more = m; read = refl; whole = some_is _ _ h }

-- two digits give a byte
pub pairs_of-length : (s bytes : List ℕ) → pairs_of s ≡ Some bytes → length s ≡ 2 * length bytes
pairs_of-length [] bytes h = let e : [] ≡ bytes = some_is _ _ h in ap (λ (t : List ℕ). 2 * length t) e
pairs_of-length (a ∷ []) bytes h = absurd cc
pairs_of-length (a ∷ b ∷ s) bytes h =
    let p = pair_of (nat_lt 15 (hex_digit a) || nat_lt 15 (hex_digit b)) (pairs_of s) (hex_digit a * 16 + hex_digit b) bytes h in
    let l : length s ≡ 2 * length p.more = pairs_of-length s p.more p.read in
    let e : suc (length p.more) ≡ length bytes = ap length p.whole in omega arith

-- a text of an odd length
pub pairs_of-odd : (s : List ℕ) → (length s ≡ 2 * (length s / 2) → ⊥) → pairs_of s ≡ None
pairs_of-odd s odd = none_where (pairs_of s) (λ bytes h. let l : length s ≡ 2 * length bytes = pairs_of-length s bytes h in odd (omega arith))

pub yes : {X : Type 0} (t : Bool) (u v : X) → t ≡ true → u ≡ (if t then u else v)
yes true u v h = refl
yes false u v h = absurd cc

pub no : {X : Type 0} (t : Bool) (u v : X) → t ≡ false → v ≡ (if t then u else v)
no true u v h = absurd cc
no false u v h = refl

-- bytes that were read
pub record Whole (fd : Bool) (o : Option (List ℕ)) (x : List ℕ) : Type 0 where
  pub read : o ≡ Some x
  pub fits : is_length fd (length x) ≡ true

tested : (t : Bool) (x y : List ℕ) → (if t then Some x else None) ≡ Some y → (x ≡ y) × (t ≡ true)
tested true x y h = (some_is _ _ h, refl)
tested false x y h = absurd cc

pub whole_of : (fd : Bool) (o : Option (List ℕ)) (x : List ℕ) → (o >>= (λ bytes. if is_length fd (length bytes) then Some bytes else None)) ≡ Some x → Whole fd o x
whole_of fd None x h = absurd cc
whole_of fd (Some y) x h = let t = tested (is_length fd (length y)) y x h in record {
  read = ap Some t.0;
  fits = subst (λ (z : List ℕ). is_length fd (length z) ≡ true) t.0 t.1;
}

pub is_length-most : (fd : Bool) (n : ℕ) → is_length fd n ≡ true → n ≤ 64
is_length-most false n h = grind (arith, nat_tests)
is_length-most true n h = grind (arith, nat_tests)

-- no data has more than 64 bytes
pub bytes_of-long : (fd : Bool) (s : List ℕ) → 128 < length s → bytes_of fd s ≡ None
bytes_of-long fd s long = none_where (bytes_of fd s) (λ x h.
    let w = whole_of fd (pairs_of s) x h in
    let l : length s ≡ 2 * length x = pairs_of-length s x w.read in
    let m : length x ≤ 64 = is_length-most fd (length x) w.fits in omega arith)

half : (n m : ℕ) → n ≡ 2 * m → n / 2 ≡ m
half n m h = omega arith

pub bytes_of-not : (fd : Bool) (s : List ℕ) → is_length fd (length s / 2) ≡ false → bytes_of fd s ≡ None
bytes_of-not fd s not = none_where (bytes_of fd s) (λ x h.
    let w = whole_of fd (pairs_of s) x h in
    let l : length s / 2 ≡ length x = half (length s) (length x) (pairs_of-length s x w.read) in
    let f : is_length fd (length x) ≡ false = subst (λ n. is_length fd n ≡ false) l not in
    let t : is_length fd (length x) ≡ true = w.fits in absurd (differ _ t f))
  where
    differ : (b : Bool) → b ≡ true → b ≡ false → ⊥
    differ b t f = cc

fits_at : (fd : Bool) (n : ℕ) (o : Option (List ℕ)) → ((x : List ℕ) → o ≡ Some x → n ≡ length x) → is_length fd n ≡ true → o ≡ (o >>= (λ bytes. if is_length fd (length bytes) then Some bytes else None))
fits_at fd n None h t = refl
fits_at fd n (Some x) h t = yes (is_length fd (length x)) (Some x) None (subst (λ k. is_length fd k ≡ true) (h x refl) t)

pub bytes_of-fits : (fd : Bool) (s : List ℕ) → is_length fd (length s / 2) ≡ true → pairs_of s ≡ bytes_of fd s
bytes_of-fits fd s t = fits_at fd (length s / 2) (pairs_of s) (λ x h. half (length s) (length x) (pairs_of-length s x h)) t
