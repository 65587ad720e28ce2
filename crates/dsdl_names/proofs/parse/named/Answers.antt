use Rattle.std.proofs.Common.{◌∙◌, ◌++◌, ◌∷◌, [], ◌<◌, ◌≤◌, length, Ok, ap, sym, arith}
use Rattle.dsdl_names.specs.Parts.{parts_of, dotted}
use Rattle.dsdl_names.proofs.PartLemmas.{length-dotted, with_name-long, with_name-short}
use Rattle.dsdl_names.proofs.parse.named.Goals as goal

pub returns-then-folders-short-gt255 : goal.returns-then-folders-short-gt255
returns-then-folders-short-gt255 c =
    let name = dotted (parts_of c.args.b c.args.folders.now ++ c.args.short.now ∷ []) in
    let long : 255 < length name = omega (arith, length-dotted c.args.b c.args.folders.now c.args.short.now) in
    λ given. sym (with_name-long name c.args.version c.args.port long)

pub returns-in-Ok : goal.returns-in-Ok
returns-in-Ok c =
    let name = dotted (parts_of c.args.b c.args.folders.now ++ c.args.short.now ∷ []) in
    let short : length name ≤ 255 = omega (arith, length-dotted c.args.b c.args.folders.now c.args.short.now) in
    λ given. ap (λ n. Ok (record { id = record { name = n; major = c.args.version.0; minor = c.args.version.1 }; port = c.args.port })) c.in-Ok.ensures ∙ sym (with_name-short name c.args.version c.args.port short)
