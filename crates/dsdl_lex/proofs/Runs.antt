-- The state behind parts of a text.
use Rattle.std.proofs.Common.{◌≡◌, ℕ, zero, suc, ◌+◌, ◌<◌, ◌≤◌, true, List, [], ◌∷◌, ◌++◌, length, take, get_or, refl, sym, ap, ◌∙◌, arith, add-one}
use Rattle.std.proofs.lemmas.Bool.{false≢true}
use Rattle.dsdl_lex.specs.declared.state.State.{State}
use Rattle.dsdl_lex.specs.declared.state.State.TheVariants.{Start, Plain, Dead, Word, Number, Inside, Closed, Point, Sign, Pair}
use Rattle.dsdl_lex.specs.Steps.{run, step, is_dead}

pub run_dead : (bs : List ℕ) → run Dead bs ≡ Dead
run_dead [] = refl
run_dead (b ∷ bs) = run_dead bs

pub run_append : (s : State) (a b : List ℕ) → run s (a ++ b) ≡ run (run s a) b
run_append s [] b = refl
run_append s (x ∷ xs) b = run_append (step s x) xs b

pub run_more : (s : State) (text : List ℕ) (i : ℕ) → i < length text → run s (take (i + 1) text) ≡ step (run s (take i text)) (get_or text i 0)
run_more s [] i lt = absurd (omega arith)
run_more s (b ∷ bs) zero lt = refl
run_more s (b ∷ bs) (suc i) lt = rw add-one (sym (ap (run (step s b)) (ap (λ n. take n bs) (add-one i))) ∙ run_more (step s b) bs i (omega arith))

-- from a dead place on it stays dead
pub stays_dead : (s : State) (text : List ℕ) (i m : ℕ) → i ≤ length text → run s (take i text) ≡ Dead → i ≤ m → run s (take m text) ≡ Dead
stays_dead s text zero m w e le = ap (λ t. run t (take m text)) e ∙ run_dead (take m text)
stays_dead s [] (suc i) m w e le = absurd (omega arith)
stays_dead s (b ∷ bs) (suc i) zero w e le = absurd (omega arith)
stays_dead s (b ∷ bs) (suc i) (suc m) w e le = stays_dead (step s b) bs i m (omega arith) e (omega arith)

pub dead_is : (s : State) → is_dead s ≡ true → s ≡ Dead
dead_is Dead e = refl
dead_is Start e = absurd (false≢true e)
dead_is Plain e = absurd (false≢true e)
dead_is (Word s) e = absurd (false≢true e)
dead_is (Number s) e = absurd (false≢true e)
dead_is (Inside quote) e = absurd (false≢true e)
dead_is Closed e = absurd (false≢true e)
dead_is Point e = absurd (false≢true e)
dead_is Sign e = absurd (false≢true e)
dead_is (Pair second) e = absurd (false≢true e)
