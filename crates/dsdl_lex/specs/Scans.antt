-- What a scan finds at the front of a text.
use Rattle.std.specs.Prelude.{◌≡◌, ℕ, ◌+◌, ◌<◌, ◌≤◌, Bool, true, false, ◌&&◌, if◌then◌else◌, List}
use Rattle.std.specs.Prelude.{length, take, drop, slice_index, Option, Some, None}
use Rattle.dsdl_lex.specs.declared.token.TokenKind.{TokenKind}
use Rattle.dsdl_lex.specs.declared.state.State.{State}
use Rattle.dsdl_lex.specs.declared.state.State.TheVariants.{Word}
use Rattle.dsdl_lex.specs.declared.word.WordState.TheVariants as w
use Rattle.dsdl_lex.specs.Bytes.{is_blank, begins_name}
use Rattle.dsdl_lex.specs.Steps.{run, kind_of, is_pointed, is_dead}
use Rattle.dsdl_lex.specs.Tokens.{IsToken}
use Rattle.dsdl_lex.specs.declared.token.TokenKind.TheVariants as k

-- the kind of token that a scan stands behind, with these bytes behind it
abbrev pub kind_before : State → List ℕ → Option TokenKind
kind_before s behind = if is_pointed s && begins_name behind then None else kind_of s

-- the kind of the first n bytes
abbrev pub front_kind : State → List ℕ → ℕ → Option TokenKind
front_kind start text n = kind_before (run start (take n text)) (drop n text)

-- the best token among the fronts of at most `reach` bytes
abbrev pub IsBest : State → List ℕ → ℕ → Option (TokenKind × ℕ) → Type 0
IsBest start text reach None = (m : ℕ) → m ≤ reach → front_kind start text m ≡ None
IsBest start text reach (Some found) =
    (found.1 ≤ reach) × (front_kind start text found.1 ≡ Some found.0) × ((m : ℕ) → found.1 < m → m ≤ reach → front_kind start text m ≡ None)

-- the bytes before this place are the front of a token
abbrev pub IsAlive : State → List ℕ → ℕ → Type 0
IsAlive start text reach = (reach ≤ length text) × (is_dead (run start (take reach text)) ≡ false)

-- blanks alone stand between these places, and none at the second
pub record BlanksTo (line : List ℕ) (from to : ℕ) : Type 0 where
  pub in_order : from ≤ to
  pub within : to ≤ length line
  pub all_blank : (k : ℕ) → from ≤ k → k < to → is_blank (slice_index line k) ≡ true
  pub end : to < length line → is_blank (slice_index line to) ≡ false

-- `-` alone stand between these places, and none at the second
pub record DashesTo (line : List ℕ) (from to : ℕ) : Type 0 where
  pub in_order : from ≤ to
  pub within : to ≤ length line
  pub all_dashes : (k : ℕ) → from ≤ k → k < to → slice_index line k ≡ 45
  pub end : to < length line → slice_index line to ≡ 45 → ⊥

-- no split stands in the line
abbrev pub NoSplit : List ℕ → Type 0
NoSplit line = (at n : ℕ) → IsToken line at k.Split n → ⊥

-- no reference begins at a place
abbrev pub NoReference : List ℕ → ℕ → Type 0
NoReference line at = (n : ℕ) → IsToken line at k.Reference n → ⊥

-- no reference begins at a place from the first of these on that is before the second
abbrev pub IsClear : List ℕ → ℕ → ℕ → Type 0
IsClear line at clear = (place : ℕ) → at ≤ place → place < clear → NoReference line place

abbrev pub is_name_kind : TokenKind → Bool
is_name_kind k.Name = true
is_name_kind k.Reference = false
is_name_kind k.Number = false
is_name_kind k.Str = false
is_name_kind k.Split = false
is_name_kind k.Sign = false

-- the place before which no reference begins, behind a scan that reached so far from a place
abbrev pub clear_after : Option (TokenKind × ℕ) → ℕ → ℕ → ℕ → ℕ
clear_after None at reach clear = clear
clear_after (Some found) at reach clear = if is_name_kind found.0 then at + reach else clear

-- whether a scan stands in a name that more bytes of names leave a name
abbrev pub is_in_name : State → Bool
is_in_name (Word w.Plain) = true
is_in_name (Word w.First) = true
is_in_name _ = false
