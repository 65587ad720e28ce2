-- The kinds that a scan tells are those of whole texts.
use Rattle.std.proofs.Common.{◌≡◌, ℕ, Bool, true, false, cond, List, [], ◌∷◌, Some, None, refl, sym, ap, ◌∙◌, subst, ◌⊎◌, inl, inr}
use Rattle.std.specs.List.{list_all}
use Rattle.std.specs.Prelude.{nat_le, length}
use Rattle.std.proofs.lemmas.Bool.{and_parts, false≢true, eqb-true}
use Rattle.std.proofs.lemmas.Option.{none-some, same_Some}
use Rattle.dsdl_lex.specs.declared.token.TokenKind.{TokenKind}
use Rattle.dsdl_lex.specs.declared.token.TokenKind.TheVariants as k
use Rattle.dsdl_lex.specs.declared.state.State.TheVariants.{Start, Plain, Word}
use Rattle.dsdl_lex.specs.declared.word.WordState.TheVariants as w
use Rattle.dsdl_lex.specs.Bytes.{is_letter}
use Rattle.dsdl_lex.specs.Steps.{run, kind_of, begin_other}
use Rattle.dsdl_lex.specs.Texts.{is_split, is_dash}
use Rattle.dsdl_lex.specs.Tokens.{IsKind}
use Rattle.dsdl_lex.proofs.May.{never, other_may}
use Rattle.dsdl_lex.proofs.NameLaw.{from_start, from_plain}
use Rattle.dsdl_lex.proofs.NumberLaw.{numbers}
use Rattle.dsdl_lex.proofs.StringLaw.{strings}
use Rattle.dsdl_lex.proofs.SignLaw.{signs_law}
use Rattle.dsdl_lex.proofs.ReferenceLaw.{reference_comes, reference_refers}
use Rattle.dsdl_lex.proofs.Runs.{run_dead}

-- a kind that a scan tells
abbrev pub IsTold : TokenKind → Type 0
IsTold k.Reference = Unit {0}
IsTold k.Name = Unit {0}
IsTold k.Number = Unit {0}
IsTold k.Str = Unit {0}
IsTold k.Split = ⊥
IsTold k.Sign = Unit {0}

-- a kind that a scan tells where no reference begins
abbrev pub IsPlain : TokenKind → Type 0
IsPlain k.Reference = ⊥
IsPlain k.Name = Unit {0}
IsPlain k.Number = Unit {0}
IsPlain k.Str = Unit {0}
IsPlain k.Split = ⊥
IsPlain k.Sign = Unit {0}

-- a split is no kind that a scan tells
no_split_start : (b : ℕ) (bs : List ℕ) → kind_of (run Start (b ∷ bs)) ≡ Some k.Split → ⊥
no_split_start b bs e = go (is_letter b) e
  where
    go : (t : Bool) → kind_of (run (cond t (Word w.First) (begin_other b)) bs) ≡ Some k.Split → ⊥
    go true x = never k.Split bs (Word w.First) refl x
    go false x = never k.Split bs (begin_other b) (other_may b k.Split refl refl refl) x

no_split_plain : (b : ℕ) (bs : List ℕ) → kind_of (run Plain (b ∷ bs)) ≡ Some k.Split → ⊥
no_split_plain b bs e = go (is_letter b) e
  where
    go : (t : Bool) → kind_of (run (cond t (Word w.Plain) (begin_other b)) bs) ≡ Some k.Split → ⊥
    go true x = never k.Split bs (Word w.Plain) refl x
    go false x = never k.Split bs (begin_other b) (other_may b k.Split refl refl refl) x

no_reference_plain : (b : ℕ) (bs : List ℕ) → kind_of (run Plain (b ∷ bs)) ≡ Some k.Reference → ⊥
no_reference_plain b bs e = go (is_letter b) e
  where
    go : (t : Bool) → kind_of (run (cond t (Word w.Plain) (begin_other b)) bs) ≡ Some k.Reference → ⊥
    go true x = never k.Reference bs (Word w.Plain) refl x
    go false x = never k.Reference bs (begin_other b) (other_may b k.Reference refl refl refl) x

pub told : (text : List ℕ) (kind : TokenKind) → kind_of (run Start text) ≡ Some kind → IsTold kind × IsKind kind text
told text k.Reference e = (tt, reference_comes text e)
told text k.Name e = (tt, (from_start text).0 e)
told text k.Number e = (tt, (numbers text Start).0 e)
told text k.Str e = (tt, (strings text Start).0 e)
told [] k.Split e = absurd (none-some k.Split e)
told (b ∷ bs) k.Split e = absurd (no_split_start b bs e)
told text k.Sign e = (tt, (signs_law text Start).0 e)

pub tells : (text : List ℕ) (kind : TokenKind) → IsTold kind → IsKind kind text → kind_of (run Start text) ≡ Some kind
tells text k.Reference t h = reference_refers text h
tells text k.Name t h = (from_start text).1 h
tells text k.Number t h = (numbers text Start).1 h
tells text k.Str t h = (strings text Start).1 h
tells text k.Split t h = absurd t
tells text k.Sign t h = (signs_law text Start).1 h

pub told_plain : (text : List ℕ) (kind : TokenKind) → kind_of (run Plain text) ≡ Some kind → IsPlain kind × IsKind kind text
told_plain [] k.Reference e = absurd (none-some k.Reference e)
told_plain (b ∷ bs) k.Reference e = absurd (no_reference_plain b bs e)
told_plain text k.Name e = (tt, (from_plain text).0 e)
told_plain text k.Number e = (tt, (numbers text Plain).0 e)
told_plain text k.Str e = (tt, (strings text Plain).0 e)
told_plain [] k.Split e = absurd (none-some k.Split e)
told_plain (b ∷ bs) k.Split e = absurd (no_split_plain b bs e)
told_plain text k.Sign e = (tt, (signs_law text Plain).0 e)

pub tells_plain : (text : List ℕ) (kind : TokenKind) → IsPlain kind → IsKind kind text → kind_of (run Plain text) ≡ Some kind
tells_plain text k.Reference t h = absurd t
tells_plain text k.Name t h = (from_plain text).1 h
tells_plain text k.Number t h = (numbers text Plain).1 h
tells_plain text k.Str t h = (strings text Plain).1 h
tells_plain text k.Split t h = absurd t
tells_plain text k.Sign t h = (signs_law text Plain).1 h

-- ---- a text is of one kind
-- a text of two dashes or more is told by no scan
pub two_dashes : (b c : ℕ) (bs : List ℕ) → is_dash b ≡ true → is_dash c ≡ true → kind_of (run Start (b ∷ c ∷ bs)) ≡ None
two_dashes b c bs e f =
    subst (λ v. kind_of (run Start (v ∷ c ∷ bs)) ≡ None) (sym (eqb-true b 45 e))
    (ap kind_of (run_dead bs))

pub split_untold : (text : List ℕ) → is_split text ≡ true → kind_of (run Start text) ≡ None
split_untold [] e = absurd (false≢true e)
split_untold (b ∷ []) e = absurd (false≢true e)
split_untold (b ∷ c ∷ bs) e =
    let p = and_parts (nat_le 3 (length (b ∷ c ∷ bs))) (list_all is_dash (b ∷ c ∷ bs)) e in
    let q = and_parts (is_dash b) (list_all is_dash (c ∷ bs)) p.1 in
    two_dashes b c bs q.0 (and_parts (is_dash c) (list_all is_dash bs) q.1).0

-- a kind but a split is told
pub kind_told : (text : List ℕ) (kind : TokenKind) → IsKind kind text → (kind ≡ k.Split) ⊎ (kind_of (run Start text) ≡ Some kind)
kind_told text k.Reference h = inr (tells text k.Reference tt h)
kind_told text k.Name h = inr (tells text k.Name tt h)
kind_told text k.Number h = inr (tells text k.Number tt h)
kind_told text k.Str h = inr (tells text k.Str tt h)
kind_told text k.Split h = inl refl
kind_told text k.Sign h = inr (tells text k.Sign tt h)

pub one_kind : (text : List ℕ) (i j : TokenKind) → IsKind i text → IsKind j text → i ≡ j
one_kind text i j x y = elim (kind_told text i x) [
  | inl p ↦ elim (kind_told text j y) [
    | inl q ↦ p ∙ sym q
    | inr q ↦ absurd (none-some j (sym (split_untold text (subst (λ v. IsKind v text) p x)) ∙ q))
  ]
  | inr p ↦ elim (kind_told text j y) [
    | inl q ↦ absurd (none-some i (sym (split_untold text (subst (λ v. IsKind v text) q y)) ∙ p))
    | inr q ↦ same_Some i j (sym p ∙ q)
  ]
]

pub not_empty : (kind : TokenKind) → IsKind kind [] → ⊥
not_empty kind h = elim (kind_told [] kind h) [
  | inl p ↦ false≢true (subst (λ v. IsKind v []) p h)
  | inr p ↦ none-some kind p
]
