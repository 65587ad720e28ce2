-- A line that is answered without the value.
use Rattle.std.proofs.Common.{◌≡◌, ◌∙◌, ℕ, ◌^◌, ◌≤◌, Bool, List, [], ◌∷◌, ◌++◌, Ok, Err, length, append_assoc, sym, ap}
use Rattle.std.specs.Prelude.{if◌then◌else◌}
use Rattle.std.proofs.lemmas.Bool.{le-ltb}
use Rattle.cy_bits.specs.Bits.{bits}
use Rattle.dsdl_types.specs.Reading.{Got, own}
use Rattle.dsdl_types.specs.Schemas.{Sch}
use Rattle.dsdl_types.specs.Values.{Val}
use Rattle.hex.specs.Hex.{decode_of}
use Rattle.line_loop.specs.Heard.{IsHeard}
use Rattle.value_text.specs.Texts.{value_text}
use Rattle.value_lines.specs.Decoded.{Decodes, bytes_answer, read_answer, value_line}
use Rattle.value_lines.specs.LongLines.{longest_line}
use Rattle.value_lines.specs.declared.refusal.Refusal.TheVariants as refusal
use Rattle.value_put.specs.Parts.{own_told}
use Rattle.value_put.specs.Told.{Yes, after}
use Rattle.value_put.proofs.Readings.{was_read}

decodes : (s : Sch) (n : ℕ) (hex b : List ℕ) (v : Val) (q : ℕ) (y : List Bool) → length hex ≤ 2 ^ 20 → decode_of hex ≡ Ok b → own s 0 (bits b) ≡ Got v q y → Decodes s n hex (Ok (value_line s v))
decodes s n hex b v q y short e got =
    sym (ap (λ t. if t then Err (refusal.Text n) else bytes_answer s n (decode_of hex)) (le-ltb longest_line (length hex) short)
    ∙ ap (λ r. bytes_answer s n r) e
    ∙ ap (λ r. read_answer s n r) got)

-- the text of what the bytes read as was put, and a newline
pub heard : (s : Sch) (hex b old mid new : List ℕ) (q : ℕ) (y : List Bool) → length hex ≤ 2 ^ 20 → decode_of hex ≡ Ok b → after old (own_told s 0 (bits b)) ≡ Yes mid q y → new ≡ mid ++ 10 ∷ [] →
    (n : ℕ) → IsHeard (Decodes s n hex) old new
heard s hex b old mid new q y short e told line n =
    let r = was_read (λ v. value_text s v) (own s 0 (bits b)) old mid q y told in
    (value_line s r.value, decodes s n hex b r.value q y short e r.got, line ∙ ap (λ t. t ++ 10 ∷ []) r.text ∙ append_assoc old (value_text s r.value) (10 ∷ []))
