-- A word that is put as two blocks.
use Rattle.std.proofs.Common.{◌≡◌, ◌∙◌, ℕ, ◌+◌, ◌≤◌, List, ◌++◌, append_assoc, length, take, drop, refl, sym, ap, arith}
use Rattle.std.proofs.Math.Seq.{take-append-add}
use Rattle.std.proofs.lemmas.List.{length-drop, take-append-drop, take-take, take_all}

-- the front of a word and its end were put
pub two_blocks : (n m : ℕ) (word old mid new : List ℕ) → m + n ≡ length word → m ≤ n → mid ≡ old ++ take m (take n word) → new ≡ mid ++ take n (take n (drop m word)) → new ≡ old ++ word
two_blocks n m word old mid new size few e f =
    let front : take m (take n word) ≡ take m word = take-take m n word few in
    let end : take n (take n (drop m word)) ≡ drop m word = take-take n n (drop m word) (omega arith) ∙ take_all n (drop m word) (omega (arith, length-drop m word, size)) in
    f ∙ (λ i. e i ++ end i) ∙ ap (λ l. (old ++ l) ++ drop m word) front ∙ append_assoc old (take m word) (drop m word) ∙ ap (λ l. old ++ l) (take-append-drop m word)

-- the end of a word, and two bytes behind it
end_more : (n m k : ℕ) (word more : List ℕ) → m + n ≡ length word → k ≡ n + 2 → take k (take n (drop m word) ++ more) ≡ take n (take n (drop m word)) ++ take 2 more
end_more n m k word more size count =
    let len : length (take n (drop m word)) ≡ n = ap (λ l. length l) (take_all n (drop m word) (omega (arith, length-drop m word, size))) ∙ omega (arith, length-drop m word, size) in
    let same : take n (take n (drop m word)) ≡ take n (drop m word) = take_all n (take n (drop m word)) (omega (arith, len)) in
    let all : k ≡ length (take n (drop m word)) + 2 = omega (arith, len, count) in
    ap (λ j. take j (take n (drop m word) ++ more)) all ∙ take-append-add (take n (drop m word)) more 2 ∙ ap (λ l. l ++ take 2 more) (sym same)

-- the front of a word was put, and its end with two bytes behind it
pub two_blocks_and : (n m k : ℕ) (word old mid new more : List ℕ) → m + n ≡ length word → m ≤ n → k ≡ n + 2 → mid ≡ old ++ take m (take n word) → new ≡ mid ++ take k (take n (drop m word) ++ more) →
    new ≡ (old ++ word) ++ take 2 more
two_blocks_and n m k word old mid new more size few count e f =
    f
    ∙ ap (λ l. mid ++ l) (end_more n m k word more size count)
    ∙ sym (append_assoc mid (take n (take n (drop m word))) (take 2 more))
    ∙ ap (λ l. l ++ take 2 more) (two_blocks n m word old mid (mid ++ take n (take n (drop m word))) size few e refl)
