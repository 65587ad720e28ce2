-- The line of a report on a frame that left a node.
use Rattle.std.specs.Prelude.{ℕ, List, [], ◌∷◌, codes}
use Rattle.hex.specs.Hex.{encode_upper}
use Rattle.line_text.specs.Text.{ident_text, line_of, moment_text}

-- its words: when it left, on which bus, its identifier and its data
abbrev pub tx_words : ℕ → List ℕ → ℕ → List ℕ → List (List ℕ)
tx_words moment bus ident bytes =
    codes "tx" ∷ moment_text moment ∷ bus ∷ ident_text ident ∷ encode_upper bytes ∷ []

-- the line
abbrev pub tx_text : ℕ → List ℕ → ℕ → List ℕ → List ℕ
tx_text moment bus ident bytes = line_of (tx_words moment bus ident bytes)
