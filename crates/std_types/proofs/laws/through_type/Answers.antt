use Rattle.std.proofs.Common.{◌≡◌, ◌∙◌, sym, ap}
use Rattle.dsdl_types.specs.ValueOf.{value_of}
use Rattle.dsdl_types.specs.Views.{val}
use Rattle.dsdl_types.proofs.ValuesOf.{value_of_val}
use Rattle.std_types.proofs.laws.through_type.Goals as goal

pub returns : goal.returns
returns g c =
    let law = g.met.S.Standard.forth (val c.args.given.now) c.requires in
    let same : val c.in_ok-value.value ≡ val c.args.given.now =
    c.in_ok-value.ensures ∙ ap (λ x. g.S.Standard.value x) c.in_ok-made.ensures ∙ law.1 in
    sym (value_of_val c.in_ok-value.value) ∙ ap value_of same ∙ value_of_val c.args.given.now
