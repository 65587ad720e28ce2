-- The line on a frame that left is UTF-8, where the bus's name is.
use Rattle.std.proofs.Common.{◌≡◌, ℕ, zero, suc, ◌<◌, ◌+◌, ◌/◌, ◌%◌, ◌==◌, Bool, true, false, List, [], ◌∷◌, ◌++◌, refl, sym, ap, subst, arith, if◌then◌else◌}
use Rattle.std.specs.Prelude.{codes, decimal, nat_lt}
use Rattle.std.specs.Fmt.{digit_glyph, digits, digits_onto}
use Rattle.std.specs.List.{list_all}
use Rattle.std.specs.Str.{IsAscii, IsUtf8}
use Rattle.std.proofs.lemmas.Bool.{and_parts, lt-ltb, ltb-true}
use Rattle.std.proofs.lemmas.Str.{IsAscii-append, IsUtf8-append, IsUtf8-from_ascii}
use Rattle.std.proofs.lemmas.Str.Ascii.{IsAscii-cons, IsAscii-nil}
use Rattle.hex.specs.Hex.{encode_upper, upper_digits}
use Rattle.hex.proofs.HexLemmas.{IsAscii-encode_with}
use Rattle.line_text.specs.Text.{digit, ident_text, moment_text, six_digits}
use Rattle.line_text.specs.TxLine.{tx_text}

ascii_of : (text : List ℕ) → list_all (λ c. nat_lt c 128) text ≡ true → IsAscii text
ascii_of [] h = IsAscii-nil
ascii_of (c ∷ text) h = let p = and_parts (nat_lt c 128) (list_all (λ c. nat_lt c 128) text) h in IsAscii-cons c text (ltb-true c 128 p.0) (ascii_of text p.1)

-- ---- numbers

glyph_with : (d : ℕ) (text : List ℕ) → d < 10 → IsAscii text → IsAscii (digit_glyph false d ∷ text)
glyph_with d text low h =
    let e : digit_glyph false d ≡ 48 + d = ap (λ small. if small then 48 + d else 87 + d) (lt-ltb d 10 low) in
    subst (λ (c : ℕ). IsAscii (c ∷ text)) (sym e) (IsAscii-cons (48 + d) text (omega (arith, low)) h)

either : (b : Bool) (x y : List ℕ) → IsAscii x → IsAscii y → IsAscii (if b then x else y)
either true x y p q = p
either false x y p q = q

ascii_onto : (k n : ℕ) (text : List ℕ) → IsAscii text → IsAscii (digits_onto k 10 false n text)
ascii_onto zero n text h = h
ascii_onto (suc k) n text h =
    let more = digit_glyph false (n % 10) ∷ text in
    let is : IsAscii more = glyph_with (n % 10) text (omega arith) h in
    either (n / 10 == 0) more (digits_onto k 10 false (n / 10) more) is (ascii_onto k (n / 10) more is)

ascii_decimal : (n : ℕ) → IsAscii (decimal n)
unfolding digits
ascii_decimal n = ascii_onto 64 n [] IsAscii-nil

digit_with : (n : ℕ) (text : List ℕ) → IsAscii text → IsAscii (digit n ∷ text)
digit_with n text h = IsAscii-cons (digit n) text (omega arith) h

ascii_six : (n : ℕ) → IsAscii (six_digits n)
ascii_six n =
    let d0 : IsAscii (digit n ∷ []) = digit_with n [] IsAscii-nil in
    let d1 = digit_with (n / 10) (digit n ∷ []) d0 in
    let d2 = digit_with (n / 100) (digit (n / 10) ∷ digit n ∷ []) d1 in
    let d3 = digit_with (n / 1000) (digit (n / 100) ∷ digit (n / 10) ∷ digit n ∷ []) d2 in
    let d4 = digit_with (n / 10000) (digit (n / 1000) ∷ digit (n / 100) ∷ digit (n / 10) ∷ digit n ∷ []) d3 in
    digit_with (n / 100000) (digit (n / 10000) ∷ digit (n / 1000) ∷ digit (n / 100) ∷ digit (n / 10) ∷ digit n ∷ []) d4

ascii_moment : (moment : ℕ) → IsAscii (moment_text moment)
ascii_moment moment =
    IsAscii-append (decimal (moment / 1000000)) (46 ∷ six_digits (moment % 1000000)) (ascii_decimal (moment / 1000000))
    (IsAscii-cons 46 (six_digits (moment % 1000000)) (omega arith) (ascii_six (moment % 1000000)))

ascii_hex : (bytes : List ℕ) → IsAscii (encode_upper bytes)
ascii_hex bytes = IsAscii-encode_with upper_digits bytes (ascii_of upper_digits refl)

-- ---- the line

-- a space in front of a text, and a word of ASCII before that
space_with : (text : List ℕ) → IsUtf8 text → IsUtf8 (32 ∷ text)
space_with text h = IsUtf8-append (32 ∷ []) text (IsUtf8-from_ascii (32 ∷ []) (ascii_of (32 ∷ []) refl)) h

word_with : (word text : List ℕ) → IsAscii word → IsUtf8 text → IsUtf8 (word ++ 32 ∷ text)
word_with word text w h = IsUtf8-append word (32 ∷ text) (IsUtf8-from_ascii word w) (space_with text h)

pub tx_is_utf8 : (moment : ℕ) (bus : List ℕ) (ident : ℕ) (bytes : List ℕ) → IsUtf8 bus → IsUtf8 (tx_text moment bus ident bytes)
tx_is_utf8 moment bus ident bytes name =
    let hex = encode_upper bytes ++ 10 ∷ [] in
    let behind = ident_text ident ++ 32 ∷ hex in
    let ascii : IsAscii hex = IsAscii-append (encode_upper bytes) (10 ∷ []) (ascii_hex bytes) (ascii_of (10 ∷ []) refl) in
    let rest : IsUtf8 behind = word_with (ident_text ident) hex (ascii_hex (ident / 0x1000000 ∷ ident / 0x10000 % 256 ∷ ident / 256 % 256 ∷ ident % 256 ∷ [])) (IsUtf8-from_ascii hex ascii) in
    let from_bus : IsUtf8 (bus ++ 32 ∷ behind) = IsUtf8-append bus (32 ∷ behind) name (space_with behind rest) in
    word_with (codes "tx") (moment_text moment ++ 32 ∷ (bus ++ 32 ∷ behind)) (ascii_of (codes "tx") refl)
    (word_with (moment_text moment) (bus ++ 32 ∷ behind) (ascii_moment moment) from_bus)
