-- What the scan's loop keeps.
use Rattle.std.proofs.Common.{◌≡◌, ℕ, ◌+◌, ◌<◌, Bool, true, false, ◌&&◌, cond, List, length, take, drop, get_or, Option, Some, None, refl, sym, ap, ◌∙◌, subst, inl, inr, arith}
use Rattle.std.proofs.lemmas.Bool.{cases_lt, cond-true, false≢true}
use Rattle.dsdl_lex.specs.declared.token.TokenKind.{TokenKind}
use Rattle.dsdl_lex.specs.declared.token.TokenKind.TheVariants as k
use Rattle.dsdl_lex.specs.declared.state.State.{State}
use Rattle.dsdl_lex.specs.declared.state.State.TheVariants.{Start, Plain, Dead, Word, Number, Inside, Closed, Point, Sign, Pair}
use Rattle.dsdl_lex.specs.declared.word.WordState.TheVariants as w
use Rattle.dsdl_lex.specs.Bytes.{begins_name, is_word}
use Rattle.dsdl_lex.specs.Steps.{run, step, kind_of, is_dead, is_pointed}
use Rattle.dsdl_lex.specs.Scans.{kind_before, front_kind, IsBest, IsAlive, is_in_name}
use Rattle.dsdl_lex.proofs.Runs.{run_more, stays_dead, dead_is}

pub record Scanned (start : State) (text : List ℕ) (i : ℕ) (state : State) (best : Option (TokenKind × ℕ)) : Type 0 where
  pub at : state ≡ run start (take i text)
  pub alive : is_dead state ≡ false
  pub longest : IsBest start text i best

both_none : (t : Bool) → ◌≡◌ {A = Option TokenKind} (cond t None None) None
both_none true = refl
both_none false = refl

-- before the first byte
pub begins : (start : State) (text : List ℕ) → kind_of start ≡ None → is_dead start ≡ false → Scanned start text 0 start None
begins start text fresh alive = record {
  at = refl;
  alive = alive;
  longest = λ m le. let z : 0 ≡ m = omega arith in subst (λ v. front_kind start text v ≡ None) z (ap (λ o. cond (is_pointed start && begins_name text) None o) fresh ∙ both_none (is_pointed start && begins_name text));
}

module _ (start : State) (text : List ℕ) (i : ℕ) (lt : i < length text) (state state' : State) (best : Option (TokenKind × ℕ)) (s : Scanned start text i state best)
    (stepped : state' ≡ step state (get_or text i 0)) where
  now : state' ≡ run start (take (i + 1) text)
  now = stepped ∙ ap (λ v. step v (get_or text i 0)) s.at ∙ sym (run_more start text i lt)

  kind_now : kind_before state' (drop (i + 1) text) ≡ front_kind start text (i + 1)
  kind_now = ap (λ v. kind_before v (drop (i + 1) text)) now

  kept_best : (o : Option (TokenKind × ℕ)) → IsBest start text i o → front_kind start text (i + 1) ≡ None → IsBest start text (i + 1) o
  kept_best None b e = λ m le. elim (cases_lt m (i + 1)) [
    | inl h ↦ b m (omega arith)
    | inr h ↦ let same : i + 1 ≡ m = omega arith in subst (λ v. front_kind start text v ≡ None) same e
  ]
  kept_best (Some r) b e = (
    omega (arith, b.0),
    b.1,
    λ m lo hi. elim (cases_lt m (i + 1)) [
      | inl h ↦ b.2 m lo (omega arith)
      | inr h ↦ let same : i + 1 ≡ m = omega arith in subst (λ v. front_kind start text v ≡ None) same e
    ],
  )

  pub scan_kept : is_dead state' ≡ false → kind_before state' (drop (i + 1) text) ≡ None → Scanned start text (i + 1) state' best
  scan_kept a e = record { at = now; alive = a; longest = kept_best best s.longest (sym kind_now ∙ e) }

  pub scan_better : (kind : TokenKind) → is_dead state' ≡ false → kind_before state' (drop (i + 1) text) ≡ Some kind → Scanned start text (i + 1) state' (Some (kind, i + 1))
  scan_better kind a e = record { at = now; alive = a; longest = (omega arith, sym kind_now ∙ e, λ m lo hi. absurd (omega arith)) }

  -- ---- where the byte makes the state dead
  none_beyond : is_dead state' ≡ true → (m : ℕ) → i < m → front_kind start text m ≡ None
  none_beyond d m le =
      let e : run start (take (i + 1) text) ≡ Dead = sym now ∙ dead_is state' d in
      ap (λ v. kind_before v (drop m text)) (stays_dead start text (i + 1) m (omega arith) e (omega arith))

  best_beyond : (o : Option (TokenKind × ℕ)) → IsBest start text i o → is_dead state' ≡ true → IsBest start text (length text) o
  best_beyond None b d = λ m le. elim (cases_lt i m) [ inl h ↦ none_beyond d m h | inr h ↦ b m h ]
  best_beyond (Some r) b d = (omega (arith, b.0), b.1, λ m lo hi. elim (cases_lt i m) [ inl h ↦ none_beyond d m h | inr h ↦ b.2 m lo h ])

  pub dead_best : is_dead state' ≡ true → IsBest start text (length text) best
  dead_best d = best_beyond best s.longest d

  pub dead_reach : IsAlive start text i
  dead_reach = (omega arith, subst (λ v. is_dead v ≡ false) s.at s.alive)

-- a name goes on, and is a name
name_on : (state : State) (b : ℕ) (behind : List ℕ) → is_in_name state ≡ true → is_word b ≡ true → (state ≡ step state b) × (kind_before state behind ≡ Some k.Name)
name_on (Word w.Plain) b behind n h = (sym (cond-true (is_word b) _ _ h), refl)
name_on (Word w.First) b behind n h = (sym (cond-true (is_word b) _ _ h), refl)
name_on Start b behind n h = absurd (false≢true n)
name_on Plain b behind n h = absurd (false≢true n)
name_on Dead b behind n h = absurd (false≢true n)
name_on (Word w.Later) b behind n h = absurd (false≢true n)
name_on (Word w.Point) b behind n h = absurd (false≢true n)
name_on (Word (w.Major m)) b behind n h = absurd (false≢true n)
name_on (Word (w.MajorPoint m)) b behind n h = absurd (false≢true n)
name_on (Word (w.Minor m l)) b behind n h = absurd (false≢true n)
name_on (Number s) b behind n h = absurd (false≢true n)
name_on (Inside q) b behind n h = absurd (false≢true n)
name_on Closed b behind n h = absurd (false≢true n)
name_on Point b behind n h = absurd (false≢true n)
name_on Sign b behind n h = absurd (false≢true n)
name_on (Pair q) b behind n h = absurd (false≢true n)

pub scan_name : (start : State) (text : List ℕ) (i : ℕ) → i < length text → (state : State) (best : Option (TokenKind × ℕ)) → Scanned start text i state best →
    is_in_name state ≡ true → is_word (get_or text i 0) ≡ true → Scanned start text (i + 1) state (Some (k.Name, i + 1))
scan_name start text i lt state best s n h =
    let p = name_on state (get_or text i 0) (drop (i + 1) text) n h in scan_better start text i lt state state best s p.0 k.Name s.alive p.1
