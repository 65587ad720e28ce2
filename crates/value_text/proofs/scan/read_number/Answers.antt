use Rattle.std.proofs.Common.{◌≡◌, ◌∙◌, length, drop, refl, ap, rules}
use Rattle.std.specs.Fmt.{signed_decimal}
use Rattle.std.proofs.lemmas.List.{drop_at}
use Rattle.value_text.proofs.Numerals.{signed_clear}
use Rattle.value_text.proofs.scan.read_number.Goals as goal

pub returns-clause-reads : goal.returns-clause-reads
returns-clause-reads c w h rest k e =
    let t : c.token-token.result.now ≡ signed_decimal w = c.token-token.ensures (signed_decimal w) rest (signed_clear w h) k e in
    let z : c.number_of.result ≡ w = c.number_of.ensures.reads w h t in
    let a : drop c.skip.new.at c.args.line.now ≡ rest =
    c.skip.ensures ∙ ap (λ l. drop (length l) (drop c.args.at.now c.args.line.now)) t ∙ ap (drop (length (signed_decimal w))) e ∙ drop_at (signed_decimal w) rest (length (signed_decimal w)) refl
    in
    (search rules, a)
