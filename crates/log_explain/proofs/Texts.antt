-- Texts that are put one behind the other.
use Rattle.std.proofs.Common.{◌≡◌, ◌∙◌, ℕ, List, [], ◌∷◌, ◌++◌, OnOk, Result, Ok, Err, ap, append_assoc, refl, sym}
use Rattle.line_text.specs.Text.{line_of}
use Rattle.log_explain.specs.Text.{before}

-- what follows of the answer of a call
pub on_ok : {T E : Type 0} (P Q : Type 0) (r : Result T E) → (P → Q) → OnOk r P → OnOk r Q
on_ok P Q (Ok x) f h = f h
on_ok P Q (Err e) f h = tt

-- a text behind another
pub behind : {T E : Type 0} (r : Result T E) (old mid new a b : List ℕ) → mid ≡ old ++ a → OnOk r (new ≡ mid ++ b) → OnOk r (new ≡ old ++ (a ++ b))
behind r old mid new a b e h = on_ok (new ≡ mid ++ b) (new ≡ old ++ (a ++ b)) r (λ f. f ∙ (ap (λ t. t ++ b) e ∙ append_assoc old a b)) h

-- words before others, with a space before each
pub before_append : (a b : List (List ℕ)) → before (a ++ b) ≡ before a ++ before b
before_append [] b = refl
before_append (w ∷ a) b = ap (λ t. 32 ∷ t) (ap (λ t. w ++ t) (before_append a b) ∙ sym (append_assoc w (before a) (before b)))

-- a line by its first word
pub line_before : (w : List ℕ) (ws : List (List ℕ)) → line_of (w ∷ ws) ≡ w ++ (before ws ++ 10 ∷ [])
line_before w [] = refl
line_before w (v ∷ ws) = ap (λ t. w ++ 32 ∷ t) (line_before v ws ∙ sym (append_assoc v (before ws) (10 ∷ [])))
