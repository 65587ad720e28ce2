use Rattle.std.proofs.Common.{◌≡◌, ◌∙◌, map, reverse, ap, subst, IfOk}
use Rattle.dsdl_types.specs.Paths.{path_text, step_of}
use Rattle.wire_values.proofs.Paths.{map_reversed}
use Rattle.wire_values.proofs.path.path_of.Goals as goal

pub returns : goal.returns
returns c =
    let whole : map step_of c.as_slice.result.now ≡ reverse (map step_of c.args.steps) = ap (map step_of) (c.as_slice.ensures.value ∙ c.reverse.ensures.items ∙ ap reverse c.into_vec-steps.ensures) ∙ map_reversed c.args.steps in
    subst (λ l. IfOk c.path_text.result (λ text. text ≡ path_text l)) whole c.path_text.ensures
