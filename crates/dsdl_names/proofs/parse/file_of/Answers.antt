use Rattle.std.proofs.Common.{◌∙◌, ◌∷◌, ap, sym}
use Rattle.dsdl_names.specs.Parts.{parts_of}
use Rattle.dsdl_names.specs.Names.{file_of}
use Rattle.dsdl_names.proofs.PartLemmas.{file_of-many}
use Rattle.dsdl_names.proofs.parse.file_of.Goals as goal

pub returns-in-Some-cut-4 : goal.returns-in-Some-cut-4
returns-in-Some-cut-4 c =
    let a = c.in-Some.a.now in
    let b = c.in-Some-cut.b.now in
    let e = c.in-Some-cut-2.c.now in
    let d = c.in-Some-cut-3.d.now in
    let parts = c.in-Some.ensures.parts ∙ ap (λ s. a ∷ s) (c.in-Some-cut.ensures.parts ∙ ap (λ s. b ∷ s) (c.in-Some-cut-2.ensures.parts ∙ ap (λ s. e ∷ s) (c.in-Some-cut-3.ensures.parts ∙ ap (λ s. d ∷ s) c.in-Some-cut-4.ensures.parts))) in
    λ given. sym (ap (file_of (parts_of 47 c.args.folders.now)) parts ∙ file_of-many (parts_of 47 c.args.folders.now) a b e d c.in-Some-cut-4.field-0.0.now c.in-Some-cut-4.field-0.1.now)
