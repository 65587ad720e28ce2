use Rattle.std.proofs.Common.{◌∙◌, subst, sym}
use Rattle.std.specs.Cmp.Lexicographic.{other_text, same_text}
use Rattle.dsdl_types.specs.Fits.{Fits}
use Rattle.dsdl_types.specs.Views.{sch, val}
use Rattle.std_types.specs.RegisterValues.{FitsRegisterValue}
use Rattle.std_types.specs.Schemas.{register_value}
use Rattle.node_plan.proofs.ValueTexts.{made_fits, text_kept, text_lost, value_fits}
use Rattle.node_plan.proofs.registers.kept_value.Goals as goal

pub print_value-requires : goal.print_value-requires
print_value-requires c =
    let fits : Fits register_value (val c.args.value.now) = subst (λ s. Fits s (val c.args.value.now)) c.requires.schema c.requires.fits in
    let kept : FitsRegisterValue c.in_ok-kept.kept = subst FitsRegisterValue (sym c.in_ok-kept.ensures) (made_fits (val c.args.value.now) fits) in
    subst (λ s. Fits s (val c.in_ok-again.again)) (sym c.requires.schema)
    (subst (λ v. Fits register_value v) (sym c.in_ok-again.ensures) (value_fits c.in_ok-kept.kept kept))

pub returns-then-eq : goal.returns-then-eq
returns-then-eq c =
    let printed = c.as_bytes.result.now in
    text_kept (sch c.args.schema.now) (val c.args.value.now) (val c.in_ok-again.again) c.in_ok-kept.kept printed c.requires.schema c.requires.fits c.in_ok-kept.ensures c.in_ok-again.ensures
    (c.as_bytes.ensures.value ∙ c.as_str.ensures ∙ c.in_ok-printed.ensures) c.args.text.now
    (same_text printed c.args.text.now c.if-eq.ensures)

pub returns-else-eq : goal.returns-else-eq
returns-else-eq c =
    let printed = c.as_bytes.result.now in
    text_lost (sch c.args.schema.now) (val c.args.value.now) (val c.in_ok-again.again) c.in_ok-kept.kept printed c.requires.schema c.requires.fits c.in_ok-kept.ensures c.in_ok-again.ensures
    (c.as_bytes.ensures.value ∙ c.as_str.ensures ∙ c.in_ok-printed.ensures) c.args.text.now c.requires.text
    (other_text printed c.args.text.now c.if-eq.ensures)
