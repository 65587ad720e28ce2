-- The line of a record is read back.
use Rattle.std.proofs.Common.{◌≡◌, ◌∙◌, ◌≢◌, ℕ, ◌+◌, ◌-◌, ◌*◌, ◌/◌, ◌%◌, ◌^◌, ◌<◌, ◌≤◌, true, false, ltb, eqb, List, [], ◌∷◌, ◌++◌, Option, Some, length, take, drop, refl, ap, append_assoc, length-append, decimal, arith}
use Rattle.std.specs.Prelude.{unwrap_or}
use Rattle.std.specs.Str.{bytes_eq}
use Rattle.std.proofs.lemmas.Bool.{cond-false, and_left, ne_eqb, le-ltb}
use Rattle.std.proofs.Math.Seq.{drop-append-add}
use Rattle.hex.specs.Hex.{encode_upper}
use Rattle.line_text.specs.Text.{moment_text, six_digits, ident_text}
use Rattle.tail_frame.specs.declared.logged.Record.{Record}
use Rattle.frame_log.specs.Line.{NoForm, Nothing, Frame, ◌>>=◌, seconds_of, micros_of, bus_of, bus_at, frame_on, frame_of, behind_ident, behind_bus, form_of, without_return, said_of_text, said_of}
use Rattle.log_text.specs.Written.{name_at, record_text, IsWritten, LineIsRead}
use Rattle.log_text.proofs.Each.{Each, IsDigit, IsGlyph, each_map, each_append, each_drop, each_from, each_all, glyph_other}
use Rattle.log_text.proofs.Digits.{decimal_digits, decimal_short, six_each}
use Rattle.log_text.proofs.Hex.{hex_glyphs, hex_length, ident_glyphs}
use Rattle.log_text.proofs.Fields.{seconds_read, micros_read, bus_read, ident_read, data_read}

-- no carriage return stands at an end without one
no_return : (t : List ℕ) → Each (λ x. x ≢ 13) t → bytes_eq t (13 ∷ []) ≡ false
no_return [] h = refl
no_return (x ∷ []) h = and_left (eqb x 13) true (ne_eqb x 13 h.0)
no_return (x ∷ y ∷ s) h = and_left (eqb x 13) (bytes_eq (y ∷ s) []) (ne_eqb x 13 h.0)

whole_line : (xs : List ℕ) (y : ℕ) (ys : List ℕ) → Each (λ x. x ≢ 13) (y ∷ ys) → without_return (xs ++ y ∷ ys) ≡ xs ++ y ∷ ys
whole_line xs y ys h =
    let line = xs ++ y ∷ ys in
    let n = length line - 1 in
    let at : n ≡ length xs + length ys = omega (arith, length-append xs (y ∷ ys)) in
    let end : drop n line ≡ drop (length ys) (y ∷ ys) = ap (λ k. drop k line) at ∙ drop-append-add xs (y ∷ ys) (length ys) in
    cond-false (bytes_eq (drop n line) (13 ∷ [])) (take n line) line
    (ap (λ t. bytes_eq t (13 ∷ [])) end ∙ no_return (drop (length ys) (y ∷ ys)) (each_drop (λ x. x ≢ 13) (length ys) (y ∷ ys) h))

-- the words of a line one behind the other
nested : (m name ident hex : List ℕ) → m ++ 41 ∷ 32 ∷ name ++ 32 ∷ ident ++ 35 ∷ hex ≡ m ++ (41 ∷ 32 ∷ (name ++ (32 ∷ (ident ++ 35 ∷ hex))))
nested m name ident hex =
    append_assoc (m ++ 41 ∷ 32 ∷ name) (32 ∷ ident) (35 ∷ hex) ∙ append_assoc m (41 ∷ 32 ∷ name) (32 ∷ (ident ++ 35 ∷ hex))

module _ (names : List (List ℕ)) (r : Record) (w : IsWritten names r) where
  abbrev seconds : ℕ
  seconds = r.moment / 1000000

  abbrev micros : ℕ
  micros = r.moment % 1000000

  abbrev name : List ℕ
  name = name_at names r.bus

  abbrev hex : List ℕ
  hex = encode_upper r.bytes

  abbrev behind : List ℕ
  behind = ident_text r.ident ++ 35 ∷ hex

  each_byte : Each (λ b. b < 256) r.bytes
  each_byte = each_from (λ b. b < 256) r.bytes w.bytes

  few : seconds < 10 ^ 12
  few = omega (arith, w.moment)

  small : r.ident < 2 ^ 32
  small = omega (arith, w.ident)

  -- what stands behind the name of the bus
  behind_read : behind_bus names (seconds * 1_000_000 + micros) name behind ≡ Some (Frame r.moment r.bus r.ident r.bytes)
  behind_read =
      let whole : seconds * 1_000_000 + micros ≡ r.moment = omega arith in
      ap (behind_ident names (seconds * 1_000_000 + micros) name behind) (ident_read r.ident hex small)
      ∙ (ap (λ (o : Option (Option (List ℕ))). o >>= (λ bytes. Some (frame_of names (seconds * 1_000_000 + micros) name r.ident bytes))) (data_read r.bytes w.size each_byte)
      ∙ (ap Some (cond-false (ltb 0x1FFF_FFFF r.ident) Nothing (frame_on (seconds * 1_000_000 + micros) r.ident r.bytes (bus_at names name)) (le-ltb 0x1FFF_FFFF r.ident w.ident))
      ∙ (ap (λ o. Some (frame_on (seconds * 1_000_000 + micros) r.ident r.bytes o)) w.first
      ∙ ap (λ m. Some (Frame m r.bus r.ident r.bytes)) whole)))

  form_read : form_of names (record_text names r) ≡ Some (Frame r.moment r.bus r.ident r.bytes)
  form_read =
      let rest = name ++ 32 ∷ behind in
      let text = six_digits micros ++ (41 ∷ 32 ∷ rest) in
      ap (form_of names) (nested (40 ∷ moment_text r.moment) name (ident_text r.ident) hex)
      ∙ (ap (λ t. seconds_of t >>= (λ s. micros_of s.1 >>= (λ u. bus_of u.1 >>= (λ b. behind_bus names (s.0 * 1_000_000 + u.0) b.0 b.1)))) (append_assoc (decimal seconds) (46 ∷ six_digits micros) (41 ∷ 32 ∷ rest))
      ∙ (ap (λ (o : Option (ℕ × List ℕ)). o >>= (λ s. micros_of s.1 >>= (λ u. bus_of u.1 >>= (λ b. behind_bus names (s.0 * 1_000_000 + u.0) b.0 b.1)))) (seconds_read seconds text few)
      ∙ (ap (λ (o : Option (ℕ × List ℕ)). o >>= (λ u. bus_of u.1 >>= (λ b. behind_bus names (seconds * 1_000_000 + u.0) b.0 b.1))) (micros_read micros rest (omega arith))
      ∙ (ap (λ (o : Option (List ℕ × List ℕ)). o >>= (λ b. behind_bus names (seconds * 1_000_000 + micros) b.0 b.1)) (bus_read name behind w.name.some w.name.most (each_from (λ b. b ≢ 32) name w.name.no_space))
      ∙ behind_read))))

  kept : without_return (record_text names r) ≡ record_text names r
  kept =
      let no_end = each_map IsGlyph (λ x. x ≢ 13) (λ x g. glyph_other 13 x (omega arith) g) hex (hex_glyphs r.bytes each_byte) in
      whole_line (40 ∷ moment_text r.moment ++ 41 ∷ 32 ∷ name ++ 32 ∷ ident_text r.ident) 35 hex ((λ e. absurd (omega arith)), no_end)

  moment_length : length (moment_text r.moment) ≤ 19
  moment_length = omega (arith, length-append (decimal seconds) (46 ∷ six_digits micros), decimal_short seconds few)

  short : length (record_text names r) ≤ 63
  short =
      let moment = moment_text r.moment in
      let ident = ident_text r.ident in
      let all = length-append (40 ∷ moment ++ 41 ∷ 32 ∷ name ++ 32 ∷ ident) (35 ∷ hex) in
      let front = length-append (40 ∷ moment ++ 41 ∷ 32 ∷ name) (32 ∷ ident) in
      let first = length-append (40 ∷ moment) (41 ∷ 32 ∷ name) in
      let eight : length ident ≡ 8 = hex_length (r.ident / 0x1000000 ∷ r.ident / 0x10000 % 256 ∷ r.ident / 256 % 256 ∷ r.ident % 256 ∷ []) in
      omega (arith, all, front, first, eight, hex_length r.bytes, moment_length, w.size, w.name.most)

  one_line : Each (λ b. b ≢ 10) (record_text names r)
  one_line =
      let digit : (x : ℕ) → IsDigit x → x ≢ 10 = λ x d e. omega (arith, d.0) in
      let glyph : (x : ℕ) → IsGlyph x → x ≢ 10 = λ x g. glyph_other 10 x (omega arith) g in
      let moment = each_append (λ b. b ≢ 10) (decimal seconds) (46 ∷ six_digits micros) (each_map IsDigit (λ b. b ≢ 10) digit (decimal seconds) (decimal_digits seconds (omega (arith, few))))
      ((λ e. absurd (omega arith)), each_map IsDigit (λ b. b ≢ 10) digit (six_digits micros) (six_each micros)) in
      let other : (x : ℕ) → 10 < x → x ≢ 10 = λ x l e. omega arith in
      let front = 40 ∷ moment_text r.moment in
      let named = each_append (λ b. b ≢ 10) front (41 ∷ 32 ∷ name) (other 40 (omega arith), moment) (other 41 (omega arith), (other 32 (omega arith), each_from (λ b. b ≢ 10) name w.name.no_newline)) in
      let ident = each_append (λ b. b ≢ 10) (front ++ 41 ∷ 32 ∷ name) (32 ∷ ident_text r.ident) named (other 32 (omega arith), each_map IsGlyph (λ b. b ≢ 10) glyph (ident_text r.ident) (ident_glyphs r.ident small)) in
      each_append (λ b. b ≢ 10) (front ++ 41 ∷ 32 ∷ name ++ 32 ∷ ident_text r.ident) (35 ∷ hex) ident (other 35 (omega arith), each_map IsGlyph (λ b. b ≢ 10) glyph hex (hex_glyphs r.bytes each_byte))

  said : said_of names (record_text names r) ≡ Frame r.moment r.bus r.ident r.bytes
  said =
      cond-false (ltb 4096 (length (record_text names r))) NoForm (said_of_text names (without_return (record_text names r))) (le-ltb 4096 (length (record_text names r)) (omega (arith, short)))
      ∙ (ap (said_of_text names) kept
      ∙ (cond-false (eqb (length (record_text names r)) 0) Nothing (unwrap_or (form_of names (record_text names r)) NoForm) (ne_eqb (length (record_text names r)) 0 (λ e. absurd (omega arith)))
      ∙ ap (λ o. unwrap_or o NoForm) form_read))

pub line_is_read : LineIsRead
line_is_read names r w = record { said = said names r w; one_line = each_all (λ b. b ≢ 10) (record_text names r) (one_line names r w); short = short names r w }
