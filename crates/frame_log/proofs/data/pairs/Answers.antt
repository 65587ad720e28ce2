use Rattle.std.proofs.Common.{◌≡◌, ◌∙◌, ap, sym, Some, List, ℕ, arith}
use Rattle.std.proofs.lemmas.Grind.{common_steps}
use Rattle.frame_log.proofs.HexPairs.{decoded, not_decoded}
use Rattle.frame_log.proofs.data.pairs.Goals as goal

pub returns-in-Ok : goal.returns-in-Ok
returns-in-Ok c =
    let s = c.args.s.now in
    let out = c.decode_to_slice.new.out in
    let whole : c.extend.new.self ≡ out = grind (arith, common_steps) in
    decoded s out _ c.decode_to_slice.result c.in-Ok.field-0 c.decode_to_slice.ensures.value c.in-Ok.is (grind (arith, common_steps)) ∙ ap (λ (x : List ℕ). Some x) (sym whole)

pub returns-in-Err : goal.returns-in-Err
returns-in-Err c =
    let s = c.args.s.now in
    let out = c.decode_to_slice.new.out in
    not_decoded s out _ c.decode_to_slice.result c.in-Err.field-0 c.decode_to_slice.ensures.value c.in-Err.is (grind (arith, common_steps))
