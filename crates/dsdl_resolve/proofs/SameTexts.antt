-- Texts that are compared from their ends
use Rattle.std.proofs.Common.{◌≡◌, ℕ, ◌+◌, ◌<◌, Bool, true, false, List, ◌∷◌, get_or, drop, length, refl, sym, ap, ◌∙◌}
use Rattle.std.specs.Str.{bytes_eq}
use Rattle.std.proofs.lemmas.List.{drop_more}
use Rattle.std.proofs.lemmas.Slice.Eq.{bytes_eq-Decides}

pub unequal : (a b : List ℕ) → (a ≡ b → ⊥) → bytes_eq a b ≡ false
unequal a b differ = at (bytes_eq a b) refl
  where
    at : (t : Bool) → bytes_eq a b ≡ t → bytes_eq a b ≡ false
    at false e = e
    at true e = absurd (differ ((bytes_eq-Decides a b).0 e))

-- two texts are equal from a place on where they are from the next place on and have the same byte there
pub equal_from : (a b : List ℕ) (i : ℕ) → i < length a → i < length b → get_or a i 0 ≡ get_or b i 0 → drop (i + 1) a ≡ drop (i + 1) b → drop i a ≡ drop i b
equal_from a b i lt lu same rest = drop_more a i 0 lt ∙ ap (λ x. x ∷ drop (i + 1) a) same ∙ ap (λ l. get_or b i 0 ∷ l) rest ∙ sym (drop_more b i 0 lu)
