-- Where the text of a value ends.
use Rattle.std.specs.Prelude.{◌≡◌, ℕ, ◌==◌, ◌||◌, Bool, true, false, List, [], ◌∷◌, ◌++◌}

-- a comma, a closing bracket or a closing brace
abbrev pub stop : ℕ → Bool
stop c = (c == 44) || ((c == 93) || (c == 125))

-- no byte is of the kind
abbrev pub Clear : (ℕ → Bool) → List ℕ → Type 0
Clear p [] = Unit {0}
Clear p (c ∷ cs) = (p c ≡ false) × Clear p cs

-- nothing, or a byte of the kind first
abbrev pub Halts : (ℕ → Bool) → List ℕ → Type 0
Halts p [] = Unit {0}
Halts p (c ∷ cs) = p c ≡ true

-- whether nothing is there, or a byte that ends a text
abbrev pub has_end : List ℕ → Bool
has_end [] = true
has_end (c ∷ cs) = stop c

-- the first byte, or 0
abbrev pub top : List ℕ → ℕ
top [] = 0
top (c ∷ cs) = c

-- Where a line goes on with the text of one of these and an end behind it, that one is read, up to
-- the end.
abbrev pub Reads : {A : Type 0} → (A → Type 0) → (A → List ℕ) → List ℕ → List ℕ → A → Type 0
Reads {A} F f before after v = (w : A) → F w → (rest : List ℕ) → Halts stop rest → before ≡ f w ++ rest → (v ≡ w) × (after ≡ rest)
