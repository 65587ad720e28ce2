-- The first line of a text, and that a text has its lines in one way.
use Rattle.std.proofs.Common.{◌≡◌, ◌≢◌, ℕ, zero, suc, ◌+◌, ◌<◌, ◌≤◌, Bool, true, false, if◌then◌else◌, ◌==◌, List, [], ◌∷◌, ◌++◌, length, take, drop, get_or, refl, sym, ap, ◌∙◌, subst, arith, eq-eqb, length-append, length-drop}
use Rattle.std.proofs.Math.Seq.{drop-cons, take-length}
use Rattle.std.proofs.lemmas.Bool.{cond-false, false≢true, eqb-true}
use Rattle.std.proofs.lemmas.List.{take-append-drop, get_or-take, length-take-le}
use Rattle.std.proofs.lemmas.List.Elements.{All-from_get_or}
use Rattle.dsdl_parse.specs.Lines.{NoNewline, without_return, AreLines, none, last, more, IsFirstLine}

pub returned : (front : List ℕ) → without_return (front ++ 13 ∷ []) ≡ front
returned [] = refl
returned (b ∷ []) = refl
returned (b ∷ c ∷ cs) = ap (λ l. b ∷ l) (returned (c ∷ cs))

pub kept : (front : List ℕ) (x : ℕ) → (x == 13) ≡ false → without_return (front ++ x ∷ []) ≡ front ++ x ∷ []
kept [] x h = cond-false (x == 13) _ _ h
kept (b ∷ []) x h = ap (λ l. b ∷ l) (kept [] x h)
kept (b ∷ c ∷ cs) x h = ap (λ l. b ∷ l) (kept (c ∷ cs) x h)

short_at : (t : Bool) (b : ℕ) → length (if t then [] else b ∷ []) ≤ 1
short_at true b = omega arith
short_at false b = omega arith

pub no_longer : (raw : List ℕ) → length (without_return raw) ≤ length raw
no_longer [] = omega arith
no_longer (b ∷ []) = short_at (b == 13) b
no_longer (b ∷ c ∷ cs) = let h = no_longer (c ∷ cs) in omega arith

none_before : (text : List ℕ) (i : ℕ) → i ≤ length text → ((k : ℕ) → k < i → (get_or text k 0 == 10) ≡ true → ⊥) → NoNewline (take i text)
none_before text i le h =
    All-from_get_or (λ b. b ≢ 10) (take i text) 0 (λ k lt e.
    let below : k < i = omega (arith, length-take-le i text le) in
    h k below (eq-eqb (get_or text k 0) 10 (sym (get_or-take i text k 0 below) ∙ e)))

-- the line in front of the first newline
pub ended_line : (text line rest : List ℕ) (i : ℕ) → i < length text → (get_or text i 0 == 10) ≡ true → ((k : ℕ) → k < i → (get_or text k 0 == 10) ≡ true → ⊥) →
    line ≡ without_return (take i text) → rest ≡ drop (i + 1) text → IsFirstLine text line rest
ended_line text line rest i lt is before e f = record {
  in_front = λ lines d. subst (λ l. AreLines text (l ∷ lines)) (sym e) (more (take i text) (none_before text i (omega arith) before) d parts);
  shorter = omega (arith, ap length f, length-drop (i + 1) text);
  within = omega (arith, ap length e, no_longer (take i text), length-take-le i text (omega arith));
}
  where
    next : i + 1 ≡ suc i
    next = omega arith

    parts : text ≡ take i text ++ 10 ∷ rest
    parts =
        sym (take-append-drop i text)
        ∙ ap (λ l. take i text ++ l) (drop-cons text i 0 lt ∙ ap (λ b. b ∷ drop (suc i) text) (eqb-true (get_or text i 0) 10 is) ∙ ap (λ l. 10 ∷ l) (ap (λ n. drop n text) (sym next) ∙ sym f))

longer_than : (raw rest : List ℕ) → 0 < length (raw ++ 10 ∷ rest)
longer_than raw rest = omega (arith, length-append raw (10 ∷ rest))

no_lines : {text : List ℕ} {lines : List (List ℕ)} → AreLines text lines → length text ≡ 0 → lines ≡ []
no_lines none e = refl
no_lines (last lt clean) e = absurd (omega arith)
no_lines (more {text} {rest} {lines} raw clean d f) e = absurd (omega (arith, longer_than raw rest, ap length f))

-- the last line, which has clean newline
pub open_line : (text : List ℕ) → 0 < length text → ((k : ℕ) → k < length text → (get_or text k 0 == 10) ≡ true → ⊥) → IsFirstLine text text []
open_line text lt h = record {
  in_front = λ lines d. subst (λ l. AreLines text (text ∷ l)) (sym (no_lines d refl)) (last lt (subst NoNewline (take-length text) (none_before text (length text) (omega arith) h)));
  shorter = lt;
  within = omega arith;
}

-- ---- a text has its lines in one way
no_byte : NoNewline []
no_byte k d lt = absurd (omega arith)

with_byte : (b : ℕ) (bs : List ℕ) → (b ≢ 10) → NoNewline bs → NoNewline (b ∷ bs)
with_byte b bs h clean zero d lt = h
with_byte b bs h clean (suc k) d lt = clean k d (omega arith)

behind_head : (b : ℕ) (bs : List ℕ) → NoNewline (b ∷ bs) → NoNewline bs
behind_head b bs clean k d lt = clean (suc k) d (omega arith)

at_head : (b : ℕ) (bs : List ℕ) → NoNewline (b ∷ bs) → b ≢ 10
at_head b bs clean = clean 0 0 (omega arith)

behind_byte : (b : ℕ) (bs : List ℕ) (lines : List (List ℕ)) → (b ≢ 10) → AreLines bs lines → (all : List (List ℕ)) × AreLines (b ∷ bs) all
behind_byte b bs lines h none = ((b ∷ []) ∷ [], last (omega arith) (with_byte b [] h no_byte))
behind_byte b bs lines h (last {line} lt clean) = ((b ∷ line) ∷ [], last (omega arith) (with_byte b line h clean))
behind_byte b bs lines h (more {text} {rest} {lines = behind} raw clean d e) = (without_return (b ∷ raw) ∷ behind, more (b ∷ raw) (with_byte b raw h clean) d (ap (λ l. b ∷ l) e))

pub some_lines : (text : List ℕ) → (lines : List (List ℕ)) × AreLines text lines
some_lines [] = ([], none)
some_lines (b ∷ bs) = let (lines, d) = some_lines bs in at (b == 10) refl lines d
  where
    at : (t : Bool) → (b == 10) ≡ t → (lines : List (List ℕ)) → AreLines bs lines → (all : List (List ℕ)) × AreLines (b ∷ bs) all
    at true e lines d = ([] ∷ lines, more [] no_byte d (ap (λ x. x ∷ bs) (eqb-true b 10 e)))
    at false e lines d = behind_byte b bs lines (λ f. false≢true (sym e ∙ eq-eqb b 10 f)) d

same_cut : (raw raw' rest rest' : List ℕ) → NoNewline raw → NoNewline raw' → raw ++ 10 ∷ rest ≡ raw' ++ 10 ∷ rest' → (raw ≡ raw') × (rest ≡ rest')
same_cut [] [] rest rest' clean clean' e = (refl, cc)
same_cut [] (c ∷ cs) rest rest' clean clean' e = absurd (at_head c cs clean' (cc))
same_cut (b ∷ bs) [] rest rest' clean clean' e = absurd (at_head b bs clean (cc))
same_cut (b ∷ bs) (c ∷ cs) rest rest' clean clean' e =
    let head : b ≡ c = cc in
    let tail : bs ++ 10 ∷ rest ≡ cs ++ 10 ∷ rest' = cc in
    let (p, q) = same_cut bs cs rest rest' (behind_head b bs clean) (behind_head c cs clean') tail in
    (cc, q)

open_end : (raw rest line : List ℕ) → NoNewline line → line ≡ raw ++ 10 ∷ rest → ⊥
open_end [] rest [] clean e = absurd (cc)
open_end [] rest (c ∷ cs) clean e = at_head c cs clean (cc)
open_end (b ∷ bs) rest [] clean e = absurd (cc)
open_end (b ∷ bs) rest (c ∷ cs) clean e = open_end bs rest cs (behind_head c cs clean) (cc)

pub one_split : {text : List ℕ} {lines others : List (List ℕ)} → AreLines text lines → AreLines text others → lines ≡ others
one_split none d = sym (no_lines d refl)
one_split (last lt clean) none = absurd (omega arith)
one_split (last lt clean) (last lt' clean') = refl
one_split (last {line} lt clean) (more {text} {rest} raw clean' d e) = absurd (open_end raw rest line clean e)
one_split (more {text} {rest} raw clean d e) none = absurd (omega (arith, longer_than raw rest, ap length e))
one_split (more {text} {rest} raw clean d e) (last {line} lt clean') = absurd (open_end raw rest line clean' e)
one_split (more {text} {rest} {lines} raw clean d e) (more {text = t} {rest = rest'} {lines = others} raw' clean' d' e') =
    let (p, q) = same_cut raw raw' rest rest' clean clean' (sym e ∙ e') in
    let same : lines ≡ others = one_split d (subst (λ r. AreLines r others) (sym q) d') in
    ap (λ r. without_return r ∷ lines) p ∙ ap (λ l. without_return raw' ∷ l) same
