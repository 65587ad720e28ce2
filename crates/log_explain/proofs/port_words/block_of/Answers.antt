use Rattle.std.proofs.Common.{◌≡◌, ◌∙◌, ℕ, ◌+◌, ◌<◌, ◌≤◌, List, [], ◌∷◌, ◌++◌, decimal, length, ap, arith}
use Rattle.std.proofs.lemmas.Fmt.{length-decimal-le}
use Rattle.std.proofs.lemmas.List.{length-append}
use Rattle.log_explain.proofs.port_words.block_of.Goals as goal

fits : (a b c : List ℕ) (n m : ℕ) → a ≡ [] → m ≡ n → b ≡ a ++ decimal m → c ≡ b ++ 32 ∷ [] → n < 8192 → length c ≤ 7
fits a b c n m e s f g few =
    let digits : length (decimal n) ≤ 4 = length-decimal-le 4 n (omega arith) (omega (arith, few)) (omega (arith, few)) in
    let size : length c ≡ length (decimal n) + 1 =
    ap length (g ∙ (λ i. ((f ∙ (λ j. e j ++ decimal (s j))) i) ++ 32 ∷ [])) ∙ length-append (decimal n) (32 ∷ []) in
    omega (arith, digits, size)

pub block-requires : goal.block-requires
block-requires c = fits _ _ _ c.args.subject _ c.new-word.ensures c.from.ensures c.push_number.ensures.text c.push.ensures c.requires
