-- Blocks of numbers.
use Rattle.std.proofs.Common.{◌≡◌, ◌∙◌, ℕ, zero, suc, ◌+◌, List, [], ◌∷◌, ◌++◌, decimal, length, map, slice_get, Some, option_map, sym, ap, arith}
use Rattle.std.proofs.lemmas.List.{map-append}
use Rattle.std.proofs.lemmas.Option.{slice_get-map}
use Rattle.log_explain.specs.Words.{numbers}
use Rattle.text_lines.specs.Words.{block_text}

abbrev pub number : ℕ → List ℕ
number n = decimal n ++ 32 ∷ []

-- one number more
pub numbers_more : (n count : ℕ) → numbers n (suc count) ≡ numbers n count ++ number (n + count) ∷ []
numbers_more n zero = let e : n ≡ n + 0 = omega arith in ap (λ m. number m ∷ []) e
numbers_more n (suc count) =
    let e : suc n + count ≡ n + suc count = omega arith in
    ap (λ ws. number n ∷ ws) (numbers_more (suc n) count ∙ ap (λ m. numbers (suc n) count ++ number m ∷ []) e)

-- the number at a place
pub number_at : (n count i : ℕ) (w : List ℕ) → slice_get (numbers n count) i ≡ Some w → w ≡ number (n + i)
number_at n zero i w e = absurd cc
number_at n (suc count) zero w e = let a : number n ≡ w = cc in let b : n ≡ n + 0 = omega arith in sym a ∙ ap number b
number_at n (suc count) (suc i) w e = let b : suc n + i ≡ n + suc i = omega arith in number_at (suc n) count i w e ∙ ap number b

-- the block at a place
pub block_at : (blocks : List (List ℕ)) (i : ℕ) (block : List ℕ) → map block_text blocks ≡ numbers 0 (length blocks) → slice_get blocks i ≡ Some block → block_text block ≡ number i
block_at blocks i block e h =
    let at = sym (slice_get-map block_text blocks i ∙ ap (option_map block_text) h) ∙ ap (λ (ws : List (List ℕ)). slice_get ws i) e in
    let z : 0 + i ≡ i = omega arith in
    number_at 0 (length blocks) i (block_text block) (sym at) ∙ ap number z

pub one_more : (blocks : List (List ℕ)) (block : List ℕ) (n : ℕ) → length blocks ≡ n → map block_text blocks ≡ numbers 0 n → block_text block ≡ number n → map block_text (blocks ++ block ∷ []) ≡ numbers 0 (n + 1)
one_more blocks block n l e b =
    let next : n + 1 ≡ suc n = omega arith in
    let z : 0 + n ≡ n = omega arith in
    map-append block_text blocks (block ∷ [])
    ∙ ((λ i. e i ++ (b ∙ ap number (sym z)) i ∷ []) ∙ (sym (numbers_more 0 n) ∙ ap (numbers 0) (sym next)))
