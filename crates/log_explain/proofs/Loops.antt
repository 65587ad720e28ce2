-- Loops over lists whose items are put one after the other.
use Rattle.std.proofs.Common.{◌≡◌, ◌∙◌, ℕ, zero, suc, ◌+◌, List, [], ◌∷◌, ◌++◌, drop, Some, ap, append_assoc, refl, sym, slice_get, arith}
use Rattle.log_explain.specs.Sessions.{Session}
use Rattle.log_explain.specs.Text.{session_text, sessions_text}

some_is : {X : Type 0} (x y : X) → Some x ≡ Some y → x ≡ y
some_is x y h = cc

drop_one : {X : Type 0} (xs : List X) (i : ℕ) (x : X) → slice_get xs i ≡ Some x → drop i xs ≡ x ∷ drop (suc i) xs
drop_one [] i x h = absurd cc
drop_one {X} (y ∷ xs) zero x h = ap (λ (z : X). z ∷ xs) (some_is y x h)
drop_one (y ∷ xs) (suc i) x h = drop_one xs i x h

-- what is left begins with the next item
pub drop_next : {X : Type 0} (xs : List X) (i : ℕ) (x : X) → slice_get xs i ≡ Some x → drop i xs ≡ x ∷ drop (i + 1) xs
drop_next {X} xs i x h =
    let e : suc i ≡ i + 1 = omega arith in drop_one xs i x h ∙ ap (λ (n : ℕ). let rest : List X = drop n xs in x ∷ rest) e

-- one text more
pub put_more : (old new start all s rest front : List ℕ) → old ++ front ≡ start ++ all → new ≡ old ++ s → front ≡ s ++ rest → new ++ rest ≡ start ++ all
put_more old new start all s rest front a b d = ap (λ t. t ++ rest) b ∙ (append_assoc old s rest ∙ (ap (λ t. old ++ t) (sym d) ∙ a))

pub sessions_append : (names : List (List ℕ)) (a b : List Session) → sessions_text names (a ++ b) ≡ sessions_text names a ++ sessions_text names b
sessions_append names [] b = refl
sessions_append names (s ∷ a) b = ap (λ t. session_text names s ++ t) (sessions_append names a b) ∙ sym (append_assoc (session_text names s) (sessions_text names a) (sessions_text names b))
