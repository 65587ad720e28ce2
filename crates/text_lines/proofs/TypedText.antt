-- What a payload says, of which the text was put without the value.
use Rattle.std.proofs.Common.{◌≡◌, ◌∙◌, ℕ, Bool, List, [], ◌∷◌, ◌++◌, Some, take, append_assoc, sym, ap}
use Rattle.cy_bits.specs.Bits.{bits}
use Rattle.dsdl_types.specs.Reading.{own}
use Rattle.dsdl_types.specs.Schemas.{Sch}
use Rattle.rx_session.specs.Extents.{bytes_of}
use Rattle.value_put.specs.Parts.{own_told}
use Rattle.value_put.specs.Told.{Yes, after}
use Rattle.value_put.proofs.Readings.{was_read}
use Rattle.value_text.specs.Texts.{value_text}
use Rattle.report_lines.specs.Readings.{of_read, reading_of}
use Rattle.text_lines.specs.Text.{reading_text}

-- a space was put, what the bytes say that are read, and a newline
pub said : (s : Sch) (payload b old mid new : List ℕ) (q : ℕ) (y : List Bool) → b ≡ take (bytes_of s) payload
    → after (old ++ 32 ∷ []) (own_told s 0 (bits b)) ≡ Yes mid q y → new ≡ mid ++ 10 ∷ []
    → new ≡ old ++ (32 ∷ reading_text (reading_of (Some s) payload) ++ 10 ∷ [])
said s payload b old mid new q y is told line =
    let r = was_read (λ v. value_text s v) (own s 0 (bits b)) (old ++ 32 ∷ []) mid q y told in
    let value = value_text s r.value in
    let text : reading_text (reading_of (Some s) payload) ≡ value =
    ap (λ l. reading_text (of_read s (own s 0 (bits l)))) (sym is) ∙ ap (λ z. reading_text (of_read s z)) r.got in
    line
    ∙ ap (λ t. t ++ 10 ∷ []) r.text
    ∙ append_assoc (old ++ 32 ∷ []) value (10 ∷ [])
    ∙ append_assoc old (32 ∷ []) (value ++ 10 ∷ [])
    ∙ ap (λ t. old ++ (32 ∷ t ++ 10 ∷ [])) (sym text)
