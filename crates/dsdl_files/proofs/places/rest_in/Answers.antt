use Rattle.std.proofs.Common.{◌∙◌, ◌∷◌, ◌++◌, sym, ap, arith}
use Rattle.std.proofs.lemmas.Str.Pattern.{strip_prefix_char}
use Rattle.dsdl_files.proofs.Below.{rest_in-behind, rest_in-None}
use Rattle.dsdl_files.proofs.places.rest_in.Goals as goal

pub returns-in-Some : goal.returns-in-Some
returns-in-Some c =
    let cases = c.in-Some.ensures.cases in
    rest_in-behind c.args.folder.now c.args.path.now c.in-Some.rest.now c.strip_prefix-in-Some.result
    (cases.1.1 ∙ ap (λ r. c.args.folder.now ++ r) (sym cases.2))
    (strip_prefix_char 47 c.in-Some.rest.now c.strip_prefix-in-Some.result c.strip_prefix-in-Some.ensures.cases (omega arith))

pub returns-in-None : goal.returns-in-None
returns-in-None c = sym (rest_in-None c.args.folder.now c.args.path.now (λ more e. c.in-None.ensures.cases (47 ∷ more) e))
