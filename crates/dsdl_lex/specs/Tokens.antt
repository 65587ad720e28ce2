-- The longest token at each place of a line.
use Rattle.std.specs.Prelude.{◌≡◌, ℕ, ◌+◌, ◌<◌, ◌≤◌, Bool, true, false, ◌||◌, ◌&&◌, ◌==◌, ◌⊎◌, List}
use Rattle.std.specs.Prelude.{[], ◌∷◌, length, take, drop, slice_index}
use Rattle.std.specs.List.{list_all}
use Rattle.dsdl_lex.specs.declared.token.TokenKind.{TokenKind}
use Rattle.dsdl_lex.specs.declared.token.TokenKind.TheVariants as k
use Rattle.dsdl_lex.specs.declared.token.Token.{Token}
use Rattle.dsdl_lex.specs.Bytes.{is_blank, begins_name}
use Rattle.dsdl_lex.specs.NumberText.{is_number}
use Rattle.dsdl_lex.specs.Texts.{is_name, is_string, is_sign, is_split, IsReference}

-- the whole text is a token of this kind
abbrev pub IsKind : TokenKind → List ℕ → Type 0
IsKind k.Reference text = IsReference text
IsKind k.Name text = is_name text ≡ true
IsKind k.Number text = is_number text ≡ true
IsKind k.Str text = is_string text ≡ true
IsKind k.Split text = is_split text ≡ true
IsKind k.Sign text = is_sign text ≡ true

-- the last byte is a point
abbrev pub ends_in_point : List ℕ → Bool
ends_in_point [] = false
ends_in_point (b ∷ []) = b == 46
ends_in_point (b ∷ c ∷ cs) = ends_in_point (c ∷ cs)

-- blanks, and then nothing or a comment
abbrev pub is_blank_end : List ℕ → Bool
is_blank_end [] = true
is_blank_end (b ∷ bs) = b == 35 || (is_blank b && is_blank_end bs)

-- a token of this kind may stand between what is in front of it and behind it: the point of a
-- number isn't taken where a name follows it, and a split is the whole line but for blanks and a
-- comment
abbrev pub MayStand : TokenKind → List ℕ → List ℕ → List ℕ → Type 0
MayStand k.Number front text behind = ends_in_point text ≡ true → begins_name behind ≡ false
MayStand k.Split front text behind = (list_all is_blank front ≡ true) × (is_blank_end behind ≡ true)
MayStand k.Reference front text behind = Unit {0}
MayStand k.Name front text behind = Unit {0}
MayStand k.Str front text behind = Unit {0}
MayStand k.Sign front text behind = Unit {0}

-- the n bytes from a place of the line on are a token of this kind
pub record IsToken (line : List ℕ) (at : ℕ) (kind : TokenKind) (n : ℕ) : Type 0 where
  pub within : at + n ≤ length line
  pub is_kind : IsKind kind (take n (drop at line))
  pub may_stand : MayStand kind (take at line) (take n (drop at line)) (drop (at + n) line)

-- they are one, and no more bytes from that place on are a token
pub record IsLongest (line : List ℕ) (at : ℕ) (kind : TokenKind) (n : ℕ) : Type 0 where
  pub is_token : IsToken line at kind n
  pub no_longer : (other : TokenKind) (m : ℕ) → n < m → IsToken line at other m → ⊥

-- no token begins at a place
abbrev pub NoToken : List ℕ → ℕ → Type 0
NoToken line at = (kind : TokenKind) (n : ℕ) → IsToken line at kind n → ⊥

-- the tokens from a place of the line on
pub data Lexes (line : List ℕ) : ℕ → List Token → Type 0 where
  ends : {at : ℕ} → length line ≤ at → Lexes line at []
  comment : {at : ℕ} → at < length line → slice_index line at ≡ 35 → Lexes line at []
  blank : {at : ℕ} {ts : List Token} → at < length line → is_blank (slice_index line at) ≡ true
      → Lexes line (at + 1) ts → Lexes line at ts
  token : {at n : ℕ} {ts : List Token} {kind : TokenKind} → IsLongest line at kind n
      → Lexes line (at + n) ts →
      Lexes line at (record { kind = kind; from = at; to = at + n } ∷ ts)

-- the first place from here on at which no token begins
pub data Stuck (line : List ℕ) : ℕ → ℕ → Type 0 where
  here : {at : ℕ} → at < length line → is_blank (slice_index line at) ≡ false
      → (slice_index line at ≡ 35 → ⊥) → NoToken line at → Stuck line at at
  past_blank : {at column : ℕ} → at < length line → is_blank (slice_index line at) ≡ true
      → Stuck line (at + 1) column → Stuck line at column
  past_token : {at n column : ℕ} {kind : TokenKind} → IsLongest line at kind n
      → Stuck line (at + n) column → Stuck line at column

-- a text is of one kind at most, and no token is empty
pub record KindsDiffer : Type 0 where
  pub one_kind : (text : List ℕ) (j k : TokenKind) → IsKind j text → IsKind k text → j ≡ k
  pub not_empty : (kind : TokenKind) → IsKind kind [] → ⊥

-- a line has either one list of tokens or one first place at which none begins
pub record IsReadOneWay : Type 0 where
  pub either : (line : List ℕ)
      → ((ts : List Token) × Lexes line 0 ts) ⊎ ((column : ℕ) × Stuck line 0 column)
  pub one_list : (line : List ℕ) (ts us : List Token) → Lexes line 0 ts → Lexes line 0 us → ts ≡ us
  pub one_place : (line : List ℕ) (m n : ℕ) → Stuck line 0 m → Stuck line 0 n → m ≡ n
  pub not_both : (line : List ℕ) (column : ℕ) (ts : List Token) → Stuck line 0 column
      → Lexes line 0 ts → ⊥
