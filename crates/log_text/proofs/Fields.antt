-- The words of a record's line are read back, one by one.
use Rattle.std.proofs.Common.{◌≡◌, ◌∙◌, ◌≢◌, ℕ, ◌-◌, ◌/◌, ◌%◌, ◌^◌, ◌<◌, ◌≤◌, true, false, ◌||◌, ltb, leb, eqb, cond, List, [], ◌∷◌, ◌++◌, Option, Some, None, length, take, drop, refl, ap, subst, length-append, decimal, arith}
use Rattle.std.proofs.lemmas.Bool.{cond-true, cond-false, or_from, and_left, ne_eqb, le-ltb, le-leb}
use Rattle.std.proofs.Math.Seq.{take-append_seam, drop-append_seam}
use Rattle.hex.specs.Hex.{encode_upper}
use Rattle.line_text.specs.Text.{six_digits, ident_text}
use Rattle.frame_log.specs.Line.{◌>>=◌, after, cut, front, decimal_from, hex_from, seconds_of, micros_of, bus_of, ident_of, bytes_of, hex_or, remote_or, data_of, is_flag, unflagged}
use Rattle.frame_log.proofs.CutLemmas.{longer, cut-other}
use Rattle.log_text.proofs.Each.{Each, IsDigit, IsGlyph, each_map, each_drop, glyph_other}
use Rattle.log_text.proofs.Digits.{decimal_value, decimal_digits, decimal_some, decimal_short, six_value}
use Rattle.log_text.proofs.Hex.{ident_value, pairs_read, hex_glyphs, hex_length}

-- a text before the first b
pub cut_at : (b : ℕ) (s t : List ℕ) → Each (λ x. x ≢ b) s → cut b (s ++ b ∷ t) ≡ Some (s, t)
cut_at b [] t h = cond-true (eqb b b) (Some ([], t)) (cut b t >>= longer b) (same b)
  where
    same : (b : ℕ) → eqb b b ≡ true
    same b = grind arith
cut_at b (x ∷ s) t h = cut-other b x (s ++ b ∷ t) (ne_eqb x b h.0) ∙ ap (λ (o : Option (List ℕ × List ℕ)). o >>= longer x) (cut_at b s t h.1)

-- the first bytes, as many as there are
front_of : (n : ℕ) (s t : List ℕ) → length s ≡ n → front n (s ++ t) ≡ Some (s, t)
front_of n s t e =
    subst (λ k. front k (s ++ t) ≡ Some (s, t)) e
    (cond-false (ltb (length (s ++ t)) (length s)) None (Some (take (length s) (s ++ t), drop (length s) (s ++ t))) (le-ltb (length (s ++ t)) (length s) (omega (arith, length-append s t)))
    ∙ (λ i. Some (take-append_seam s t i, drop-append_seam s t i)))

pub seconds_read : (n : ℕ) (t : List ℕ) → n < 10 ^ 12 → seconds_of (decimal n ++ 46 ∷ t) ≡ Some (n, t)
seconds_read n t h =
    let s = decimal n in
    let small : n < 2 ^ 64 = omega arith in
    let apart = each_map IsDigit (λ x. x ≢ 46) (λ x d e. omega (arith, d.0)) s (decimal_digits n small) in
    ap (λ (o : Option (List ℕ × List ℕ)). o >>= (λ p. decimal_from 0 p.0 >>= (λ seconds. cond (eqb (length p.0) 0 || ltb 12 (length p.0)) None (Some (seconds, p.1))))) (cut_at 46 s t apart)
    ∙ (ap (λ (o : Option ℕ). o >>= (λ seconds. cond (eqb (length s) 0 || ltb 12 (length s)) None (Some (seconds, t)))) (decimal_value n small)
    ∙ cond-false (eqb (length s) 0 || ltb 12 (length s)) None (Some (n, t))
    (or_from (eqb (length s) 0) (ltb 12 (length s)) (ne_eqb (length s) 0 (λ e. omega (arith, decimal_some n small))) (le-ltb 12 (length s) (decimal_short n h))))

pub micros_read : (n : ℕ) (t : List ℕ) → n < 1000000 → micros_of (six_digits n ++ 41 ∷ 32 ∷ t) ≡ Some (n, t)
micros_read n t h =
    ap (λ (o : Option (List ℕ × List ℕ)). o >>= (λ p. decimal_from 0 p.0 >>= (λ micros. after 41 p.1 >>= (λ a. after 32 a >>= (λ b. Some (micros, b)))))) (front_of 6 (six_digits n) (41 ∷ 32 ∷ t) refl)
    ∙ ap (λ (o : Option ℕ). o >>= (λ micros. Some (micros, t))) (six_value n h)

pub bus_read : (name t : List ℕ) → 1 ≤ length name → length name ≤ 15 → Each (λ x. x ≢ 32) name → bus_of (name ++ 32 ∷ t) ≡ Some (name, t)
bus_read name t some most apart =
    ap (λ (o : Option (List ℕ × List ℕ)). o >>= (λ p. cond (eqb (length p.0) 0 || ltb 15 (length p.0)) None (Some p))) (cut_at 32 name t apart)
    ∙ cond-false (eqb (length name) 0 || ltb 15 (length name)) None (Some (name, t))
    (or_from (eqb (length name) 0) (ltb 15 (length name)) (ne_eqb (length name) 0 (λ e. omega arith)) (le-ltb 15 (length name) most))

pub ident_read : (n : ℕ) (t : List ℕ) → n < 2 ^ 32 → ident_of 8 (ident_text n ++ 35 ∷ t) ≡ Some (n, t)
ident_read n t h =
    ap (λ (o : Option (List ℕ × List ℕ)). o >>= (λ p. hex_from 0 p.0 >>= (λ ident. after 35 p.1 >>= (λ a. Some (ident, a))))) (front_of 8 (ident_text n) (35 ∷ t) (hex_length (n / 0x1000000 ∷ n / 0x10000 % 256 ∷ n / 256 % 256 ∷ n % 256 ∷ [])))
    ∙ ap (λ (o : Option ℕ). o >>= (λ ident. Some (ident, t))) (ident_value n h)

-- a text that begins with another byte
not_after : (b : ℕ) (s : List ℕ) → Each (λ x. x ≢ b) s → after b s ≡ None
not_after b [] h = refl
not_after b (x ∷ s) h = cond-false (eqb x b) (Some s) None (ne_eqb x b h.0)

no_flag : (s : List ℕ) → Each (λ x. x ≢ 32) s → is_flag s ≡ false
no_flag [] h = refl
no_flag (a ∷ []) h = refl
no_flag (a ∷ b ∷ []) h = and_left (eqb a 32) (eqb b 82 || eqb b 84) (ne_eqb a 32 h.0)
no_flag (a ∷ b ∷ c ∷ s) h = refl

apart : (low : ℕ) (s : List ℕ) → low < 48 → Each IsGlyph s → Each (λ x. x ≢ low) s
apart low s l = each_map IsGlyph (λ x. x ≢ low) (λ x g. glyph_other low x l g) s

pub data_read : (bytes : List ℕ) → length bytes ≤ 8 → Each (λ b. b < 256) bytes → data_of (unflagged (encode_upper bytes)) ≡ Some (Some bytes)
data_read bytes short each =
    let s = encode_upper bytes in
    let n = length s - 2 in
    let glyphs = hex_glyphs bytes each in
    let bare : unflagged s ≡ s = cond-false (is_flag (drop n s)) (take n s) s (no_flag (drop n s) (each_drop (λ x. x ≢ 32) n s (apart 32 s (omega arith) glyphs))) in
    let no_r : after 82 s ≡ None = not_after 82 s (each_map IsGlyph (λ x. x ≢ 82) (λ x g e. omega (arith, g.1)) s glyphs) in
    let read : bytes_of false s ≡ Some bytes =
    ap (λ (o : Option (List ℕ)). o >>= (λ bs. cond (leb (length bs) 8) (Some bs) None)) (pairs_read bytes each)
    ∙ cond-true (leb (length bytes) 8) (Some bytes) None (le-leb (length bytes) 8 short) in
    ap data_of bare
    ∙ (ap (remote_or s) no_r
    ∙ (ap (hex_or s) (not_after 35 s (apart 35 s (omega arith) glyphs))
    ∙ ap (λ (o : Option (List ℕ)). o >>= (λ bs. Some (Some bs))) read))
