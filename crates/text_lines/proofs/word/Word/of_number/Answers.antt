use Rattle.std.proofs.Common.{◌≡◌, ◌∙◌, ℕ, ◌+◌, ◌-◌, List, [], ◌∷◌, ◌++◌, length, take, drop, ap, arith, rules, take-take}
use Rattle.std.proofs.Math.Seq.{take-append-add}
use Rattle.std.proofs.lemmas.Fmt.{length-decimal-le}
use Rattle.text_lines.proofs.word.Word.of_number.Goals as goal

-- digits that end before the blanks of a block, with one blank
with_blank : (digits block bytes blanks : List ℕ) (start : ℕ) → start + length digits ≡ 31 → drop start block ≡ digits ++ 32 ∷ blanks
    → bytes ≡ take (start + 32 - start) (drop start block) → take (32 - start) bytes ≡ digits ++ 32 ∷ []
with_blank digits block bytes blanks start ends written copied =
    let size : start + 32 - start ≡ 32 = omega arith in
    let count : 32 - start ≡ length digits + 1 = omega arith in
    ap (take (32 - start)) (copied ∙ ap (λ k. take k (drop start block)) size)
    ∙ (take-take (32 - start) 32 (drop start block) (omega arith)
    ∙ (ap (take (32 - start)) written ∙ (ap (λ k. take k (digits ++ 32 ∷ blanks)) count ∙ take-append-add digits (32 ∷ blanks) 1)))

pub write_digits-start-requires : goal.write_digits-start-requires
write_digits-start-requires c = search (rules, length-decimal-le 20)

pub returns : goal.returns
returns c =
    with_blank _ _ _ _ _ c.write_digits-start.ensures.start c.write_digits-start.ensures.written c.copy_from_slice.ensures.after
