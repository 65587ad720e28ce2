-- Texts that grow at their end.
use Rattle.std.proofs.Common.{◌≡◌, ◌∙◌, ℕ, List, [], ◌∷◌, ◌++◌, Result, Ok, Err, OnOk, ap, append_assoc}

four_grouped : (a w x y z : List ℕ) → (((a ++ w) ++ x) ++ y) ++ z ≡ a ++ (w ++ (x ++ (y ++ z)))
four_grouped a w x y z = simp append_assoc

-- a text with four more behind it
pub with_four : {T E : Type 0} (r : Result T E) (a b c d e w x y z : List ℕ) → b ≡ a ++ w → c ≡ b ++ x → d ≡ c ++ y → OnOk r (e ≡ d ++ z) → OnOk r (e ≡ a ++ (w ++ (x ++ (y ++ z))))
with_four (Err error) a b c d e w x y z f g h i = tt
with_four (Ok v) a b c d e w x y z f g h i =
    i ∙ ap (λ t. t ++ z) (h ∙ ap (λ t. t ++ y) (g ∙ ap (λ t. t ++ x) f)) ∙ four_grouped a w x y z

six_grouped : (a n m v : List ℕ) → (((((a ++ n) ++ 32 ∷ []) ++ m) ++ 32 ∷ []) ++ v) ++ 10 ∷ [] ≡ a ++ (n ++ 32 ∷ (m ++ 32 ∷ (v ++ 10 ∷ [])))
six_grouped a n m v = simp append_assoc

-- a text with a line of three words behind it
pub with_line : {T E : Type 0} (r : Result T E) (a b c d e f g n m v : List ℕ) → b ≡ a ++ n → c ≡ b ++ 32 ∷ [] → d ≡ c ++ m → e ≡ d ++ 32 ∷ [] → f ≡ e ++ v → OnOk r (g ≡ f ++ 10 ∷ []) → OnOk r (g ≡ a ++ (n ++ 32 ∷ (m ++ 32 ∷ (v ++ 10 ∷ []))))
with_line (Err error) a b c d e f g n m v p q s t u w = tt
with_line (Ok ok) a b c d e f g n m v p q s t u w =
    w ∙ ap (λ x. x ++ 10 ∷ []) (u ∙ ap (λ x. x ++ v) (t ∙ ap (λ x. x ++ 32 ∷ []) (s ∙ ap (λ x. x ++ m) (q ∙ ap (λ x. x ++ 32 ∷ []) p)))) ∙ six_grouped a n m v
