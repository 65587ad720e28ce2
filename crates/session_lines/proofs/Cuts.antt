-- Texts that are cut where a byte ends a word.
use Rattle.std.proofs.Common.{◌≡◌, ◌∙◌, ◌⊎◌, inl, inr, ℕ, ◌<◌, ◌^◌, List, [], ◌∷◌, ◌++◌, length, refl, sym, ap, subst, append_assoc, arith}
use Rattle.std.specs.Prelude.{⊤, decimal, codes}
use Rattle.std.specs.Char.{digit_value}
use Rattle.std.specs.Str.Parse.{AllDigits}
use Rattle.std.proofs.lemmas.Fmt.{decimal_is_IsNumeral}
use Rattle.line_text.specs.Text.{line_of}

pub unlike : (n m : ℕ) → (n < m) ⊎ (m < n) → n ≡ m → ⊥
unlike n m (inl l) e = omega arith
unlike n m (inr l) e = omega arith

-- no byte of a text is one of these
abbrev pub Free : (ℕ → Type 0) → List ℕ → Type 0
Free End [] = ⊤
Free End (c ∷ cs) = (End c → ⊥) × Free End cs

-- two texts that are the same are cut at the same place
pub record SameCut (a b : List ℕ) (c d : ℕ) (x y : List ℕ) : Type 0 where
  pub front : a ≡ b
  pub at : c ≡ d
  pub rest : x ≡ y

pub cut : (End : ℕ → Type 0) (a b : List ℕ) (c d : ℕ) (x y : List ℕ) → Free End a → Free End b → End c → End d → a ++ c ∷ x ≡ b ++ d ∷ y → SameCut a b c d x y
cut End [] [] c d x y p q i j e = let at : c ≡ d = cc in let rest : x ≡ y = cc in record { front = refl; at = at; rest = rest }
cut End [] (b ∷ bs) c d x y p q i j e = let at : c ≡ b = cc in absurd (q.0 (subst End at i))
cut End (a ∷ t) [] c d x y p q i j e = let at : a ≡ d = cc in absurd (p.0 (subst End (sym at) j))
cut End (a ∷ t) (b ∷ bs) c d x y p q i j e =
    let more : t ++ c ∷ x ≡ bs ++ d ∷ y = cc in
    let same : a ≡ b = cc in
    let s = cut End t bs c d x y p.1 q.1 i j more in record { front = λ k. same k ∷ s.front k; at = s.at; rest = s.rest }

pub free_append : (End : ℕ → Type 0) (a b : List ℕ) → Free End a → Free End b → Free End (a ++ b)
free_append End [] b p q = q
free_append End (c ∷ a) b p q = (p.0, free_append End a b p.1 q)

-- a space and a newline end words
abbrev pub IsEnd : ℕ → Type 0
IsEnd c = (c ≡ 32) ⊎ (c ≡ 10)

abbrev pub AreWords : List (List ℕ) → Type 0
AreWords [] = ⊤
AreWords (w ∷ ws) = Free IsEnd w × AreWords ws

-- words that make the same line, and what stands behind it
pub record SameLine (ws vs : List (List ℕ)) (x y : List ℕ) : Type 0 where
  pub words : ws ≡ vs
  pub rest : x ≡ y

pub one_line : (w v : List ℕ) (ws vs : List (List ℕ)) (x y : List ℕ) → AreWords (w ∷ ws) → AreWords (v ∷ vs) → line_of (w ∷ ws) ++ x ≡ line_of (v ∷ vs) ++ y → SameLine (w ∷ ws) (v ∷ vs) x y
one_line w v [] [] x y p q e =
    let s = cut IsEnd w v 10 10 x y p.0 q.0 (inr refl) (inr refl) (sym (append_assoc w (10 ∷ []) x) ∙ (e ∙ append_assoc v (10 ∷ []) y)) in
    record { words = λ k. s.front k ∷ []; rest = s.rest }
one_line w v [] (u ∷ vs) x y p q e =
    let s = cut IsEnd w v 10 32 x (line_of (u ∷ vs) ++ y) p.0 q.0 (inr refl) (inl refl) (sym (append_assoc w (10 ∷ []) x) ∙ (e ∙ append_assoc v (32 ∷ line_of (u ∷ vs)) y)) in
    absurd (unlike 10 32 (inl (omega arith)) s.at)
one_line w v (u ∷ ws) [] x y p q e =
    let s = cut IsEnd w v 32 10 (line_of (u ∷ ws) ++ x) y p.0 q.0 (inl refl) (inr refl) (sym (append_assoc w (32 ∷ line_of (u ∷ ws)) x) ∙ (e ∙ append_assoc v (10 ∷ []) y)) in
    absurd (unlike 32 10 (inr (omega arith)) s.at)
one_line w v (u ∷ ws) (z ∷ vs) x y p q e =
    let s = cut IsEnd w v 32 32 (line_of (u ∷ ws) ++ x) (line_of (z ∷ vs) ++ y) p.0 q.0 (inl refl) (inl refl) (sym (append_assoc w (32 ∷ line_of (u ∷ ws)) x) ∙ (e ∙ append_assoc v (32 ∷ line_of (z ∷ vs)) y)) in
    let r = one_line u z ws vs x y p.1 q.1 s.rest in record { words = λ k. s.front k ∷ r.words k; rest = r.rest }

line_more : (w : List ℕ) (ws : List (List ℕ)) (t : List ℕ) → line_of (w ∷ (ws ++ t ∷ [])) ≡ w ++ 32 ∷ line_of (ws ++ t ∷ [])
line_more w [] t = refl
line_more w (u ∷ ws) t = refl

-- the same where the last text of a line is of any kind: as many words before it, and what stands from it on
pub one_front : (ws vs : List (List ℕ)) (t u x y : List ℕ) → length ws ≡ length vs → AreWords ws → AreWords vs → line_of (ws ++ t ∷ []) ++ x ≡ line_of (vs ++ u ∷ []) ++ y
    → SameLine ws vs ((t ++ 10 ∷ []) ++ x) ((u ++ 10 ∷ []) ++ y)
one_front [] [] t u x y n p q e = record { words = refl; rest = e }
one_front [] (v ∷ vs) t u x y n p q e = absurd (omega arith)
one_front (w ∷ ws) [] t u x y n p q e = absurd (omega arith)
one_front (w ∷ ws) (v ∷ vs) t u x y n p q e =
    let a = ap (λ (l : List ℕ). l ++ x) (line_more w ws t) ∙ append_assoc w (32 ∷ line_of (ws ++ t ∷ [])) x in
    let b = ap (λ (l : List ℕ). l ++ y) (line_more v vs u) ∙ append_assoc v (32 ∷ line_of (vs ++ u ∷ [])) y in
    let s = cut IsEnd w v 32 32 (line_of (ws ++ t ∷ []) ++ x) (line_of (vs ++ u ∷ []) ++ y) p.0 q.0 (inl refl) (inl refl) (sym a ∙ (e ∙ b)) in
    let m : length ws ≡ length vs = omega (arith, n) in
    let r = one_front ws vs t u x y m p.1 q.1 s.rest in record { words = λ k. s.front k ∷ r.words k; rest = r.rest }

-- digits are free of what is no digit
pub free_digits : (End : ℕ → Type 0) → ((c : ℕ) → digit_value c < 10 → End c → ⊥) → (ds : List ℕ) → AllDigits 10 ds → Free End ds
free_digits End none [] h = tt
free_digits End none (c ∷ cs) h = (none c h.0, free_digits End none cs h.1)

end_no_digit : (c : ℕ) → digit_value c < 10 → IsEnd c → ⊥
end_no_digit c h (inl e) = let k : digit_value 32 < 10 = subst (λ x. digit_value x < 10) e h in omega arith
end_no_digit c h (inr e) = let k : digit_value 10 < 10 = subst (λ x. digit_value x < 10) e h in omega arith

abbrev IsPoint : ℕ → Type 0
IsPoint c = c ≡ 46

point_no_digit : (c : ℕ) → digit_value c < 10 → IsPoint c → ⊥
point_no_digit c h e = let k : digit_value 46 < 10 = subst (λ x. digit_value x < 10) e h in omega arith

pub decimal_word : (n : ℕ) → n < 2 ^ 64 → Free IsEnd (decimal n)
decimal_word n h = free_digits IsEnd end_no_digit (decimal n) (decimal_is_IsNumeral n h).0.1

pub decimal_pointless : (n : ℕ) → n < 2 ^ 64 → Free IsPoint (decimal n)
decimal_pointless n h = free_digits IsPoint point_no_digit (decimal n) (decimal_is_IsNumeral n h).0.1

-- no decimal is the one `-`
pub decimal_no_hyphen : (n : ℕ) → n < 2 ^ 64 → decimal n ≡ codes "-" → ⊥
decimal_no_hyphen n h e =
    let k : AllDigits 10 (codes "-") = subst (AllDigits 10) e (decimal_is_IsNumeral n h).0.1 in
    let l : digit_value 45 < 10 = k.0 in omega arith
