-- There is one reply to an input.
use Rattle.std.proofs.Common.{◌≡◌, ◌∙◌, ◌+◌, ◌⊎◌, inl, inr, ℕ, Bool, true, false, List, [], ◌∷◌, ◌++◌, length, Option, Some, None, Result, Ok, Err, refl, sym, ap, subst, append_assoc}
use Rattle.std.specs.Prelude.{MatchBool, nat_lt}
use mathlib.Core.List.{reverse_aux}
use Rattle.line_loop.specs.Reply.{Voice, line_voice, Answers, AreAnswered, AreEnded, IsReply, HasOneAnswer, heard_lines, end_of}
use Rattle.line_loop.specs.declared.bounds.LineBounds.{LineBounds}
use Rattle.line_loop.specs.declared.ended.LinesEnded.{LinesEnded}
use Rattle.line_loop.specs.declared.ended.LinesEnded.TheVariants as end

-- each of these lines is answered, or one is refused behind those that are
abbrev pub Outcome : {R : Type 0} → Voice R → List (List ℕ) → List (List ℕ) → List ℕ → Option R → Type 0
Outcome v past [] text refusal = (refusal ≡ None) × v.last past text
Outcome {R} v past (line ∷ lines) text refusal =
    ((r : R) × Answers v past line (Err r) × (refusal ≡ Some r) × v.last past text)
    ⊎ ((first others : List ℕ) × Answers v past line (Ok first) × Outcome v (line ∷ past) lines others refusal × (text ≡ first ++ others))

either_one : {R : Type 0} (t : Bool) (refusal : R) (P : Result (List ℕ) R → Type 0) → ((a b : Result (List ℕ) R) → P a → P b → a ≡ b)
    → (a b : Result (List ℕ) R) → MatchBool t (a ≡ Err refusal) (P a) → MatchBool t (b ≡ Err refusal) (P b) → a ≡ b
either_one true refusal P h a b x y = x ∙ sym y
either_one false refusal P h a b x y = h a b x y

pub answers_one : {R : Type 0} (v : Voice R) → HasOneAnswer v → (past : List (List ℕ)) (line : List ℕ) (a b : Result (List ℕ) R) → Answers v past line a → Answers v past line b → a ≡ b
answers_one v h past line a b x y =
    either_one (nat_lt v.bounds.line (length line)) (v.long (length past + 1)) (v.answers past line) (h.answer past line) a b x y

ok_same : {R : Type 0} (x y : Result (List ℕ) R) (a b : List ℕ) → x ≡ Ok a → y ≡ Ok b → x ≡ y → a ≡ b
ok_same x y a b h k e = cc

err_same : {R : Type 0} (x y : Result (List ℕ) R) (a b : R) → x ≡ Err a → y ≡ Err b → x ≡ y → a ≡ b
err_same x y a b h k e = cc

never_both : {R : Type 0} (x y : Result (List ℕ) R) (a : List ℕ) (b : R) → x ≡ Ok a → y ≡ Err b → x ≡ y → ⊥
never_both x y a b h k e = cc

pub outcome_one : {R : Type 0} (v : Voice R) → HasOneAnswer v → (past lines : List (List ℕ)) (t u : List ℕ) (o p : Option R)
    → Outcome v past lines t o → Outcome v past lines u p → (t ≡ u) × (o ≡ p)
outcome_one v h past [] t u o p x y = (h.last past t u x.1 y.1, x.0 ∙ sym y.0)
outcome_one v h past (line ∷ lines) t u o p (inl x) (inl y) = (
  h.last past t u x.3 y.3,
  x.2 ∙ (ap Some (err_same (Err x.0) (Err y.0) x.0 y.0 refl refl (answers_one v h past line (Err x.0) (Err y.0) x.1 y.1)) ∙ sym y.2),
)
outcome_one v h past (line ∷ lines) t u o p (inl x) (inr y) = absurd (never_both (Ok y.0) (Err x.0) y.0 x.0 refl refl (answers_one v h past line (Ok y.0) (Err x.0) y.2 x.1))
outcome_one v h past (line ∷ lines) t u o p (inr x) (inl y) = absurd (never_both (Ok x.0) (Err y.0) x.0 y.0 refl refl (answers_one v h past line (Ok x.0) (Err y.0) x.2 y.1))
outcome_one v h past (line ∷ lines) t u o p (inr x) (inr y) =
    let first : x.0 ≡ y.0 = ok_same (Ok x.0) (Ok y.0) x.0 y.0 refl refl (answers_one v h past line (Ok x.0) (Ok y.0) x.2 y.2) in
    let i = outcome_one v h (line ∷ past) lines x.1 y.1 o p x.3 y.3 in
    (x.4 ∙ (ap (λ (a : List ℕ). a ++ x.1) first ∙ (ap (λ (s : List ℕ). y.0 ++ s) i.0 ∙ sym y.4)), i.1)

pub outcome_all : {R : Type 0} (v : Voice R) (past lines : List (List ℕ)) (text words : List ℕ) → AreAnswered v past lines text → v.last (reverse_aux lines past) words → Outcome v past lines (text ++ words) None
outcome_all v past [] text words a last = (refl, subst (λ (t : List ℕ). v.last past (t ++ words)) (sym a) last)
outcome_all v past (line ∷ lines) text words a last =
    inr (a.0, a.1 ++ words, a.2, outcome_all v (line ∷ past) lines a.1 words a.3 last, ap (λ (t : List ℕ). t ++ words) a.4 ∙ append_assoc a.0 a.1 words)

pub outcome_refused : {R : Type 0} (v : Voice R) (past before : List (List ℕ)) (line : List ℕ) (behind : List (List ℕ)) (text words : List ℕ) (r : R)
    → AreAnswered v past before text → v.last (reverse_aux before past) words → Answers v (reverse_aux before past) line (Err r) → Outcome v past (before ++ (line ∷ behind)) (text ++ words) (Some r)
outcome_refused v past [] line behind text words r a last b = inl (r, b, refl, subst (λ (t : List ℕ). v.last past (t ++ words)) (sym a) last)
outcome_refused v past (first ∷ before) line behind text words r a last b =
    inr (a.0, a.1 ++ words, a.2, outcome_refused v (first ∷ past) before line behind a.1 words r a.3 last b, ap (λ (t : List ℕ). t ++ words) a.4 ∙ append_assoc a.0 a.1 words)

-- how it ends, by the line that is refused
abbrev pub end_by : {R : Type 0} → Option R → LinesEnded R → LinesEnded R
end_by None ended = ended
end_by (Some r) ended = end.Refused r

abbrev pub HasOutcome : {R : Type 0} → Voice R → List ℕ → List ℕ → LinesEnded R → Type 0
HasOutcome {R} v bytes text ended = (o : Option R) × Outcome v [] (heard_lines v.bounds bytes) text o × (ended ≡ end_by o (end_of v.bounds bytes))

whole_outcome : {R : Type 0} (v : Voice R) (bytes text : List ℕ) (ended : LinesEnded R) → (ended ≡ end_of v.bounds bytes) × AreEnded v (heard_lines v.bounds bytes) text → HasOutcome v bytes text ended
whole_outcome v bytes text ended (e, h) =
    let lines = heard_lines v.bounds bytes in
    (None, subst (λ (t : List ℕ). Outcome v [] lines t None) (sym h.parts) (outcome_all v [] lines h.answers h.words h.answered h.last), e)

pub reply_outcome : {R : Type 0} (v : Voice R) (bytes text : List ℕ) (ended : LinesEnded R) → IsReply v bytes text ended → HasOutcome v bytes text ended
reply_outcome v bytes text (end.Refused r) h =
    let said = h.said in
    let outcome = outcome_refused v [] h.before h.line h.behind said.answers said.words r said.answered said.last h.refused in
    (Some r, subst (λ (ls : List (List ℕ)). Outcome v [] ls text (Some r)) (sym h.parts) (subst (λ (t : List ℕ). Outcome v [] (h.before ++ (h.line ∷ h.behind)) t (Some r)) (sym said.parts) outcome), refl)
reply_outcome v bytes text end.Ok h = whole_outcome v bytes text end.Ok h
reply_outcome v bytes text end.TooLong h = whole_outcome v bytes text end.TooLong h
reply_outcome v bytes text end.ReadFault h = whole_outcome v bytes text end.ReadFault h
reply_outcome v bytes text end.WriteFault h = whole_outcome v bytes text end.WriteFault h
reply_outcome v bytes text end.NoMemory h = whole_outcome v bytes text end.NoMemory h

pub one_reply : {R : Type 0} (v : Voice R) → HasOneAnswer v → (bytes t u : List ℕ) (e f : LinesEnded R) → IsReply v bytes t e → IsReply v bytes u f → (t ≡ u) × (e ≡ f)
one_reply v h bytes t u e f x y =
    let a = reply_outcome v bytes t e x in
    let b = reply_outcome v bytes u f y in
    let one = outcome_one v h [] (heard_lines v.bounds bytes) t u a.0 b.0 a.1 b.1 in
    (one.0, a.2 ∙ (ap (λ o. end_by o (end_of v.bounds bytes)) one.1 ∙ sym b.2))

-- each line has one answer by its number and its bytes, and there are no last words
pub one_by_number : {R : Type 0} (answers : ℕ → List ℕ → Result (List ℕ) R → Type 0) (long : ℕ → R) (bounds : LineBounds) → ((number : ℕ) (line : List ℕ) (a b : Result (List ℕ) R) → answers number line a → answers number line b → a ≡ b)
    → HasOneAnswer (line_voice answers long bounds)
one_by_number answers long bounds h = record {
  answer = λ past line a b x y. h (length past + 1) line a b x y;
  last = λ past a b x y. x ∙ sym y;
}
