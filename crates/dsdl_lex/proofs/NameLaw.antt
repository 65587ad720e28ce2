-- The scan's names are the texts that are names.
use Rattle.std.proofs.Common.{◌≡◌, ℕ, Bool, true, false, ◌&&◌, ◌==◌, cond, List, [], ◌∷◌, Some, ◌↔◌, refl}
use Rattle.std.specs.List.{list_all}
use Rattle.std.proofs.lemmas.Bool.{false≢true}
use Rattle.std.proofs.lemmas.Option.{none-some}
use Rattle.dsdl_lex.specs.declared.token.TokenKind.TheVariants as k
use Rattle.dsdl_lex.specs.declared.state.State.{State}
use Rattle.dsdl_lex.specs.declared.state.State.TheVariants.{Start, Plain, Dead, Word}
use Rattle.dsdl_lex.specs.declared.word.WordState.TheVariants as w
use Rattle.dsdl_lex.specs.Bytes.{is_letter, is_word}
use Rattle.dsdl_lex.specs.Steps.{run, kind_of, begin_other}
use Rattle.dsdl_lex.specs.Texts.{is_name}
use Rattle.dsdl_lex.proofs.May.{may, never, both, other_may}

-- a name comes of the state where the test holds
abbrev Names : State → List ℕ → Bool → Type 0
Names s text test = (kind_of (run s text) ≡ Some k.Name) ↔ (test ≡ true)

none : (s : State) (text : List ℕ) → may s k.Name ≡ false → Names s text false
none s text e = (λ h. absurd (never k.Name text s e h), λ h. absurd (false≢true h))

pub first : (text : List ℕ) → Names (Word w.First) text (list_all is_word text)
first [] = (λ e. refl, λ e. refl)
first (b ∷ bs) = go (first bs) (is_word b)
  where
    go : Names (Word w.First) bs (list_all is_word bs) → (t : Bool) → Names (cond t (Word w.First) (cond (b == 46) (Word w.Point) Dead)) bs (t && list_all is_word bs)
    go ih true = ih
    go ih false = none (cond (b == 46) (Word w.Point) Dead) bs (both (b == 46) (Word w.Point) Dead k.Name refl refl)

pub plain : (text : List ℕ) → Names (Word w.Plain) text (list_all is_word text)
plain [] = (λ e. refl, λ e. refl)
plain (b ∷ bs) = go (plain bs) (is_word b)
  where
    go : Names (Word w.Plain) bs (list_all is_word bs) → (t : Bool) → Names (cond t (Word w.Plain) Dead) bs (t && list_all is_word bs)
    go ih true = ih
    go ih false = none Dead bs refl

begun : (b : ℕ) (bs : List ℕ) (s : State) → Names s bs (list_all is_word bs) → (t : Bool) → Names (cond t s (begin_other b)) bs (t && list_all is_word bs)
begun b bs s h true = h
begun b bs s h false = none (begin_other b) bs (other_may b k.Name refl refl refl)

pub from_start : (text : List ℕ) → Names Start text (is_name text)
from_start [] = (λ e. absurd (none-some _ e), λ e. absurd (false≢true e))
from_start (b ∷ bs) = begun b bs (Word w.First) (first bs) (is_letter b)

pub from_plain : (text : List ℕ) → Names Plain text (is_name text)
from_plain [] = (λ e. absurd (none-some _ e), λ e. absurd (false≢true e))
from_plain (b ∷ bs) = begun b bs (Word w.Plain) (plain bs) (is_letter b)
