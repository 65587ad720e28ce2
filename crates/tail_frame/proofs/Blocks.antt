-- A block that is written behind bytes.
use borrow.Rule.Slice.PartMut.{put_mid}
use Rattle.std.specs.List.{refill}
use Rattle.std.proofs.Common.{◌≡◌, ◌∙◌, ◌≤◌, ◌+◌, ◌-◌, ◌++◌, ℕ, List, length, take, drop, ap, sym, arith}
use Rattle.std.proofs.Math.Seq.{take-append-add}
use Rattle.std.proofs.lemmas.List.{length-append, length-take-le, length-drop, take-append-le, take-take, take_all}

-- n bytes of a block that stands behind a bytes count
block_counts : (a k n : ℕ) (xs block : List ℕ) → a + k ≤ length xs → n ≤ k → length block ≡ k
    → take (a + n) (put_mid a k xs block) ≡ take a xs ++ take n block
block_counts a k n xs block fits few whole =
    let front : length (take a xs) ≡ a = length-take-le a xs (omega arith) in
    let rest = drop k (drop a xs) in
    ap (λ m. take (m + n) (take a xs ++ (block ++ rest))) (sym front)
    ∙ (take-append-add (take a xs) (block ++ rest) n ∙ ap (λ t. take a xs ++ t) (take-append-le n block rest (omega arith)))

-- the same in a full list that is written through a loan
pub block_put : (a k n : ℕ) (xs block : List ℕ) → a + k ≤ length xs → n ≤ k → length block ≡ k
    → take (a + n) (refill (length xs) xs (put_mid a k xs block)) ≡ take a xs ++ take n block
block_put a k n xs block fits few whole =
    let rest = drop k (drop a xs) in
    let all = take a xs ++ (block ++ rest) in
    let size : length all ≡ length xs =
    omega (arith, length-take-le a xs (omega arith), length-append (take a xs) (block ++ rest), length-append block rest, length-drop k (drop a xs), length-drop a xs, whole, fits) in
    take-take (a + n) (length xs) (all ++ drop (length all) xs) (omega arith)
    ∙ (take-append-le (a + n) all (drop (length all) xs) (omega arith) ∙ block_counts a k n xs block fits few whole)

-- the same where all of it counts, up to the place e
pub all_put : (a k e : ℕ) (xs block : List ℕ) → a + k ≤ length xs → e ≡ a + k → length block ≡ k
    → take e (refill (length xs) xs (put_mid a k xs block)) ≡ take a xs ++ block
all_put a k e xs block fits end whole =
    ap (λ m. take m (refill (length xs) xs (put_mid a k xs block))) end
    ∙ (block_put a k k xs block fits (omega arith) whole ∙ ap (λ t. take a xs ++ t) (take_all k block (omega (arith, whole))))
