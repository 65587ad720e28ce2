-- Texts in which floats stand for the numbers that write them.
use Rattle.std.specs.Prelude.{◌≡◌, ℕ, List, [], ◌∷◌, ◌++◌}
use Rattle.std.specs.Float.{Float}
use Rattle.line_text.specs.Buffer.{text_of}
use Rattle.line_text.specs.declared.text_buffer.TextBuffer.{TextBuffer}
use Rattle.value_json.specs.Floats.{IsNumberOf}

-- a piece of a text: bytes as they are, or a number that a float of so many bits is written by
pub data Piece : Type 0 where
  Exact : List ℕ → Piece
  Number : ℕ → Float → Piece

abbrev pub exact : List ℕ → List Piece
exact bytes = Exact bytes ∷ []

-- a text is these pieces, one behind the other
abbrev pub Spells : List Piece → List ℕ → Type 0
Spells [] text = text ≡ []
Spells (Exact bytes ∷ pieces) text = (rest : List ℕ) × (text ≡ bytes ++ rest) × Spells pieces rest
Spells (Number w x ∷ pieces) text =
    (number : List ℕ) × (rest : List ℕ) × IsNumberOf w x number × (text ≡ number ++ rest) × Spells pieces rest

-- a text of these pieces stands behind another
pub record Adds (pieces : List Piece) (old new : List ℕ) : Type 0 where
  pub more : List ℕ
  pub is : new ≡ old ++ more
  pub spelled : Spells pieces more

-- one was put there
abbrev pub Puts : List Piece → TextBuffer → TextBuffer → Type 0
Puts pieces old new = Adds pieces (text_of old) (text_of new)

-- a text begins with another
pub record Begins (old new : List ℕ) : Type 0 where
  pub more : List ℕ
  pub is : new ≡ old ++ more
