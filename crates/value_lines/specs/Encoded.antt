-- What encoding a line gives: the hex of the serialized form of the value that the line is the text
-- of (Cyphal Specification, section 3.7).
use Rattle.std.specs.Prelude.{◌≡◌, ℕ, List, [], ◌∷◌, ◌++◌, Result, Ok, Err, MatchBool}
use Rattle.hex.specs.Hex.{encode_upper}
use Rattle.dsdl_types.specs.Fits.{Fits}
use Rattle.dsdl_types.specs.Laws.{encoding}
use Rattle.dsdl_types.specs.Schemas.{Sch}
use Rattle.dsdl_types.specs.Values.{Val}
use Rattle.value_text.specs.Texts.{value_text}
use Rattle.value_lines.specs.LongLines.{is_long}
use Rattle.value_lines.specs.declared.refusal.Refusal.{Refusal}
use Rattle.value_lines.specs.declared.refusal.Refusal.TheVariants as refusal

-- the line of bytes: two hex digits for each, letters in upper case
abbrev pub hex_line : List ℕ → List ℕ
hex_line bytes = encode_upper bytes ++ 10 ∷ []

-- a line is the text of a value of the schema, and this is the line of the value's serialized form
pub record IsEncoding (s : Sch) (line text : List ℕ) : Type 0 where
  pub value : Val
  pub fits : Fits s value
  pub spelled : value_text s value ≡ line
  pub written : text ≡ hex_line (encoding s value)

-- a line is the text of no value of the schema
abbrev pub IsNoText : Sch → List ℕ → Type 0
IsNoText s line = (v : Val) → Fits s v → value_text s v ≡ line → ⊥

-- what answers a line that isn't too long, by its number
abbrev pub IsEncoded : Sch → ℕ → List ℕ → Result (List ℕ) Refusal → Type 0
IsEncoded s n line (Ok text) = IsEncoding s line text
IsEncoded s n line (Err (refusal.Text m)) = (m ≡ n) × IsNoText s line
IsEncoded s n line (Err (refusal.Unreadable m path why)) = ⊥

-- what encoding answers to a line, by its number: a line that is too long is refused
abbrev pub Encodes : Sch → ℕ → List ℕ → Result (List ℕ) Refusal → Type 0
Encodes s n line answer =
    MatchBool (is_long line) (answer ≡ Err (refusal.Text n)) (IsEncoded s n line answer)

-- no line has two answers
abbrev pub HasOneEncoding : Sch → Type 0
HasOneEncoding s = (n : ℕ) (line : List ℕ) (a b : Result (List ℕ) Refusal)
    → Encodes s n line a → Encodes s n line b → a ≡ b
