-- Bytes that are written in hex are read back.
use Rattle.std.proofs.Common.{◌≡◌, ◌∙◌, ℕ, ◌+◌, ◌*◌, ◌/◌, ◌%◌, ◌^◌, ◌<◌, true, ◌&&◌, ltb, leb, eqb, List, [], ◌∷◌, Option, Some, None, length, slice_index, refl, ap, ap₂, arith}
use Rattle.std.proofs.lemmas.Bool.{agree_below_at, and_parts, eqb-true, leb-true, cond-false, le-ltb}
use Rattle.hex.specs.Hex.{encode_with, encode_upper, upper_digits}
use Rattle.line_text.specs.Text.{ident_text}
use Rattle.frame_log.specs.Line.{hex_digit, hex_from, pairs_of, ◌>>=◌}
use Rattle.frame_log.proofs.LineLemmas.{pairs_of-two}
use Rattle.log_text.proofs.Each.{Each, IsGlyph}

-- the digit of a value
abbrev glyph : ℕ → ℕ
glyph v = slice_index upper_digits v

right : (v : ℕ) → v < 16 → (eqb (hex_digit (glyph v)) v && (leb 48 (glyph v) && leb (glyph v) 70)) ≡ true
right v h = agree_below_at (λ v. eqb (hex_digit (glyph v)) v && (leb 48 (glyph v) && leb (glyph v) 70)) (λ _. true) 16 v refl h

glyph_value : (v : ℕ) → v < 16 → hex_digit (glyph v) ≡ v
glyph_value v h = eqb-true (hex_digit (glyph v)) v (and_parts (eqb (hex_digit (glyph v)) v) (leb 48 (glyph v) && leb (glyph v) 70) (right v h)).0

glyph_is : (v : ℕ) → v < 16 → IsGlyph (glyph v)
glyph_is v h =
    let p = and_parts (leb 48 (glyph v)) (leb (glyph v) 70) (and_parts (eqb (hex_digit (glyph v)) v) (leb 48 (glyph v) && leb (glyph v) 70) (right v h)).1 in
    (leb-true 48 (glyph v) p.0, leb-true (glyph v) 70 p.1)

pub hex_glyphs : (bytes : List ℕ) → Each (λ b. b < 256) bytes → Each IsGlyph (encode_upper bytes)
unfolding encode_with
hex_glyphs [] h = tt
hex_glyphs (b ∷ bytes) h = (glyph_is (b / 16) (omega (arith, h.0)), (glyph_is (b % 16) (omega arith), hex_glyphs bytes h.1))

pub hex_length : (bytes : List ℕ) → length (encode_upper bytes) ≡ 2 * length bytes
unfolding encode_with
hex_length [] = refl
hex_length (b ∷ bytes) = let e : length (encode_upper bytes) ≡ 2 * length bytes = hex_length bytes in omega arith

pub pairs_read : (bytes : List ℕ) → Each (λ b. b < 256) bytes → pairs_of (encode_upper bytes) ≡ Some bytes
unfolding encode_with
pairs_read [] h = refl
pairs_read (b ∷ bytes) h =
    let high : hex_digit (glyph (b / 16)) ≡ b / 16 = glyph_value (b / 16) (omega (arith, h.0)) in
    let low : hex_digit (glyph (b % 16)) ≡ b % 16 = glyph_value (b % 16) (omega arith) in
    let whole : b / 16 * 16 + b % 16 ≡ b = omega arith in
    pairs_of-two (glyph (b / 16)) (glyph (b % 16)) (encode_upper bytes) (omega (arith, h.0)) (omega arith)
    ∙ (ap (λ (o : Option (List ℕ)). o >>= (λ more. Some ((hex_digit (glyph (b / 16)) * 16 + hex_digit (glyph (b % 16))) ∷ more))) (pairs_read bytes h.1)
    ∙ (ap₂ (λ x y. Some ((x * 16 + y) ∷ bytes)) high low ∙ ap (λ x. Some (x ∷ bytes)) whole))

read_glyph : (n v : ℕ) (s : List ℕ) → v < 16 → hex_from n (glyph v ∷ s) ≡ hex_from (n * 16 + v) s
read_glyph n v s h =
    let e = glyph_value v h in
    cond-false (ltb 15 (hex_digit (glyph v))) None (hex_from (n * 16 + hex_digit (glyph v)) s) (le-ltb 15 (hex_digit (glyph v)) (omega arith))
    ∙ ap (λ x. hex_from (n * 16 + x) s) e

-- one byte more
read_byte : (n b m : ℕ) (s : List ℕ) → b < 256 → m ≡ n * 256 + b → hex_from n (glyph (b / 16) ∷ glyph (b % 16) ∷ s) ≡ hex_from m s
read_byte n b m s h e =
    let whole : (n * 16 + b / 16) * 16 + b % 16 ≡ m = omega arith in
    read_glyph n (b / 16) (glyph (b % 16) ∷ s) (omega arith) ∙ (read_glyph (n * 16 + b / 16) (b % 16) s (omega arith) ∙ ap (λ x. hex_from x s) whole)

pub ident_value : (n : ℕ) → n < 2 ^ 32 → hex_from 0 (ident_text n) ≡ Some n
unfolding encode_with
ident_value n h =
    let one = glyph (n % 256 / 16) ∷ glyph (n % 256 % 16) ∷ [] in
    let two = glyph (n / 256 % 256 / 16) ∷ glyph (n / 256 % 256 % 16) ∷ one in
    let three = glyph (n / 0x10000 % 256 / 16) ∷ glyph (n / 0x10000 % 256 % 16) ∷ two in
    read_byte 0 (n / 0x1000000) (n / 0x1000000) three (omega arith) (omega arith)
    ∙ (read_byte (n / 0x1000000) (n / 0x10000 % 256) (n / 0x10000) two (omega arith) (omega arith)
    ∙ (read_byte (n / 0x10000) (n / 256 % 256) (n / 256) one (omega arith) (omega arith)
    ∙ read_byte (n / 256) (n % 256) n [] (omega arith) (omega arith)))

pub ident_glyphs : (n : ℕ) → n < 2 ^ 32 → Each IsGlyph (ident_text n)
ident_glyphs n h = hex_glyphs (n / 0x1000000 ∷ n / 0x10000 % 256 ∷ n / 256 % 256 ∷ n % 256 ∷ []) (omega arith, (omega arith, (omega arith, (omega arith, tt))))
