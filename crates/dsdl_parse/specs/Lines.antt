-- The lines of a text.
use Rattle.std.specs.Prelude.{◌≡◌, ◌≢◌, ℕ, ◌<◌, ◌≤◌, List, [], ◌∷◌, ◌++◌, length, All}
use Rattle.std.specs.Prelude.{if◌then◌else◌, ◌==◌}

-- no byte is a newline
abbrev pub NoNewline : List ℕ → Type 0
NoNewline bytes = All (λ b. b ≢ 10) bytes

-- the bytes without one `\r` at their end
abbrev pub without_return : List ℕ → List ℕ
without_return [] = []
without_return (b ∷ []) = if b == 13 then [] else b ∷ []
without_return (b ∷ c ∷ bytes) = b ∷ without_return (c ∷ bytes)

-- the lines of a text: each ends with a newline, and one `\r` in front of it isn't part of the
-- line; behind the last newline nothing stands, or one more line
pub data AreLines : List ℕ → List (List ℕ) → Type 0 where
  none : AreLines [] []
  last : {line : List ℕ} → 0 < length line → NoNewline line → AreLines line (line ∷ [])
  more : {text rest : List ℕ} {lines : List (List ℕ)} (raw : List ℕ) →
      NoNewline raw → AreLines rest lines → text ≡ raw ++ 10 ∷ rest → AreLines text (without_return raw ∷ lines)

-- this line stands at the front of a text, and the rest behind it
pub record IsFirstLine (text line rest : List ℕ) : Type 0 where
  pub in_front : (lines : List (List ℕ)) → AreLines rest lines → AreLines text (line ∷ lines)
  pub shorter : length rest < length text
  pub within : length line ≤ length text
