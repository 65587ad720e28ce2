-- No line has two answers.
use Rattle.std.proofs.Common.{◌≡◌, ◌∙◌, ℕ, Bool, true, false, List, Result, Ok, Err, MatchBool, sym, ap}
use Rattle.dsdl_types.specs.Fits.{Fits}
use Rattle.dsdl_types.specs.Laws.{encoding}
use Rattle.dsdl_types.specs.Rules.{IsSchema}
use Rattle.dsdl_types.specs.Schemas.{Sch}
use Rattle.dsdl_types.specs.Values.{Val}
use Rattle.value_text.specs.Texts.{value_text}
use Rattle.value_lines.specs.Encoded.{hex_line, IsEncoded, Encodes}
use Rattle.value_lines.specs.LongLines.{is_long}
use Rattle.value_lines.specs.declared.refusal.Refusal.{Refusal}
use Rattle.value_lines.specs.declared.refusal.Refusal.TheVariants as refusal

abbrev OneValue : Type 0
OneValue = (s : Sch) → IsSchema s → (v w : Val) → Fits s v → Fits s w → value_text s v ≡ value_text s w → v ≡ w

-- of a line that isn't too long
one_encoded : OneValue → (s : Sch) → IsSchema s → (n : ℕ) (line : List ℕ) (a b : Result (List ℕ) Refusal) → IsEncoded s n line a → IsEncoded s n line b → a ≡ b
one_encoded law s rules n line (Ok t) (Ok u) h k =
    let same : h.value ≡ k.value = law s rules h.value k.value h.fits k.fits (h.spelled ∙ sym k.spelled) in
    ap Ok (h.written ∙ (ap (λ v. hex_line (encoding s v)) same ∙ sym k.written))
one_encoded law s rules n line (Ok t) (Err (refusal.Text m)) h k = absurd (k.1 h.value h.fits h.spelled)
one_encoded law s rules n line (Ok t) (Err (refusal.Unreadable m path why)) h k = absurd k
one_encoded law s rules n line (Err (refusal.Text m)) (Ok u) h k = absurd (h.1 k.value k.fits k.spelled)
one_encoded law s rules n line (Err (refusal.Text m)) (Err (refusal.Text l)) h k = ap (λ i. Err (refusal.Text i)) (h.0 ∙ sym k.0)
one_encoded law s rules n line (Err (refusal.Text m)) (Err (refusal.Unreadable l path why)) h k = absurd k
one_encoded law s rules n line (Err (refusal.Unreadable m path why)) b h k = absurd h

one_of : (long : Bool) (s : Sch) (n : ℕ) (line : List ℕ) (a b : Result (List ℕ) Refusal) → (IsEncoded s n line a → IsEncoded s n line b → a ≡ b) → MatchBool long (a ≡ Err (refusal.Text n)) (IsEncoded s n line a) → MatchBool long (b ≡ Err (refusal.Text n)) (IsEncoded s n line b) → a ≡ b
one_of true s n line a b law h k = h ∙ sym k
one_of false s n line a b law h k = law h k

pub one_encoding : OneValue → (s : Sch) → IsSchema s → (n : ℕ) (line : List ℕ) (a b : Result (List ℕ) Refusal) → Encodes s n line a → Encodes s n line b → a ≡ b
one_encoding law s rules n line a b h k = one_of (is_long line) s n line a b (one_encoded law s rules n line a b) h k
