use Rattle.std.proofs.Common.{◌∷◌, ◌++◌, [], length, sym, ap, ◌∙◌, arith, length-append}
use Rattle.std.proofs.lemmas.List.FromFn.{map-range_with_len_more}
use Rattle.log_gen.specs.Rules.{payload_byte}
use Rattle.log_gen.proofs.payload.payload_of.Goals as goal

pub loop-place-preserved : goal.loop-place-preserved
loop-place-preserved c =
    let f = payload_byte c.args.number c.args.transfer in
    let n = c.loop-place.place in
    record {
      bytes =
          c.push.ensures ∙ ap (λ s. s ++ f n ∷ []) c.loop-place.invariant.bytes ∙ sym (map-range_with_len_more f 0 n n (omega arith));
      size = (let e = ap length c.push.ensures ∙ length-append c.loop-place.payload (f n ∷ []) in omega arith);
    }
