use Rattle.std.proofs.Common.{◌≡◌, ◌%◌, ◌++◌, ◌∷◌, [], replicate, ap, sym, ◌∙◌, arith}
use Rattle.transfer_crc.specs.Crc.{crc_more}
use Rattle.frag.proofs.Trailers.{trailer_many, zeros_of}
use Rattle.frag.proofs.frames.trailer.Goals as goal

pub returns-clause-value : goal.returns-clause-value
returns-clause-value c =
    let zeros = c.zeros-bytes.result in
    let zeros_are : zeros ≡ zeros_of c.args.mtu c.args.payload.now = c.zeros-bytes.ensures ∙ ap (λ n. replicate n 0) c.padding.ensures.value in
    let data_is : c.add.new.self ≡ crc_more 0xFFFF c.args.payload.now = c.add.ensures ∙ ap (λ r. crc_more r c.args.payload.now) c.new-crc.ensures in
    let crc_is : c.value.result ≡ crc_more (crc_more 0xFFFF c.args.payload.now) zeros =
    c.value.ensures ∙ (c.add-2.ensures ∙ (ap (λ r. crc_more r c.as_slice.result.now) data_is ∙ ap (crc_more (crc_more 0xFFFF c.args.payload.now)) c.as_slice.ensures.value)) in
    let low = c.push-2.ensures ∙ ap (λ n. c.push.new.self ++ n % 256 ∷ []) (c.value-2.ensures ∙ sym c.value.ensures) in
    trailer_many c.args.mtu c.args.payload.now zeros c.push.new.self c.push-2.new.self c.value.result (omega arith) zeros_are crc_is c.push.ensures low
