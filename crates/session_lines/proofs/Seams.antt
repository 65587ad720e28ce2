-- Texts that are cut between words, where each word ends at the same separator.
use Rattle.std.proofs.Common.{◌≡◌, ◌⊎◌, ℕ, ◌+◌, List, [], ◌∷◌, ◌++◌, length, refl, arith}
use Rattle.std.specs.Prelude.{⊤}
use Rattle.std.proofs.lemmas.List.{append_cancel_left}
use Rattle.session_lines.proofs.Cuts.{Free, SameLine, cut}

-- a separator: the byte that ends a word, and what stands behind it
pub record Seam : Type 0 where
  pub end : ℕ
  pub more : List ℕ

-- words with their separators, and what stands behind them
abbrev pub woven : List Seam → List (List ℕ) → List ℕ → List ℕ
woven [] ws x = x
woven (s ∷ seams) [] x = x
woven (s ∷ seams) (w ∷ ws) x = w ++ s.end ∷ (s.more ++ woven seams ws x)

-- `"`, `,` and `}` end a word
abbrev pub EndsWord : ℕ → Type 0
EndsWord c = (c ≡ 34) ⊎ ((c ≡ 44) ⊎ (c ≡ 125))

abbrev pub AreSeams : List Seam → Type 0
AreSeams [] = ⊤
AreSeams (s ∷ seams) = EndsWord s.end × AreSeams seams

abbrev pub AreFree : List (List ℕ) → Type 0
AreFree [] = ⊤
AreFree (w ∷ ws) = Free EndsWord w × AreFree ws

-- as many words between the same separators: the words are the same, and what stands behind them
pub one_weave : (seams : List Seam) (ws vs : List (List ℕ)) (x y : List ℕ) → AreSeams seams
    → length ws ≡ length seams → length vs ≡ length seams → AreFree ws → AreFree vs
    → woven seams ws x ≡ woven seams vs y → SameLine ws vs x y
one_weave [] [] [] x y h n m p q e = record { words = refl; rest = e }
one_weave [] (w ∷ ws) vs x y h n m p q e = absurd (omega arith)
one_weave [] [] (v ∷ vs) x y h n m p q e = absurd (omega arith)
one_weave (s ∷ seams) [] vs x y h n m p q e = absurd (omega arith)
one_weave (s ∷ seams) (w ∷ ws) [] x y h n m p q e = absurd (omega arith)
one_weave (s ∷ seams) (w ∷ ws) (v ∷ vs) x y h n m p q e =
    let k = cut EndsWord w v s.end s.end (s.more ++ woven seams ws x) (s.more ++ woven seams vs y) p.0 q.0 h.0 h.0 e in
    let behind = append_cancel_left s.more (woven seams ws x) (woven seams vs y) k.rest in
    let nn : length ws ≡ length seams = omega (arith, n) in
    let mm : length vs ≡ length seams = omega (arith, m) in
    let r = one_weave seams ws vs x y h.1 nn mm p.1 q.1 behind in
    record { words = λ i. k.front i ∷ r.words i; rest = r.rest }
