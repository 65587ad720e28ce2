use Rattle.std.proofs.Common.{◌≡◌, ◌==◌, ◌<◌, true, false, length, get_or, take, ap, sym, ◌∙◌, subst, arith}
use Rattle.std.proofs.lemmas.List.{length-take-le, get_or-take, get_or_default}
use Rattle.std.proofs.lemmas.List.Folds.{list_any_at}
use Rattle.dsdl_clash.specs.Clashes.{clashes_with, same_name}
use Rattle.dsdl_clash.specs.Kinds.{clash_of, first_rival}
use Rattle.dsdl_clash.proofs.ClashLemmas.{clashes_never}
use Rattle.dsdl_clash.proofs.NameLemmas.{same_number_at, no_rival}
use Rattle.dsdl_clash.proofs.clash.clashes_with_earlier.Goals as goal

pub clash-requires : goal.clash-requires
clash-requires c =
    let ds = c.args.definitions.now in
    let i = c.loop-earlier.earlier in
    subst (λ ns. (get_or ns i 0 == get_or ns c.args.at 0) ≡ same_name c.index-definitions-earlier.result c.index-definitions-at.result) (sym c.requires.names)
    (same_number_at ds i c.args.at c.index-definitions-earlier.result c.index-definitions-at.result (omega (arith, c.requires.at)) c.requires.at c.index-definitions-earlier.is c.index-definitions-at.is)

pub returns-then-clash : goal.returns-then-clash
returns-then-clash c = λ d.
    let ds = c.args.definitions.now in
    let i = c.loop-earlier.earlier in
    let a = c.index-definitions-earlier.result in
    let b = c.index-definitions-at.result in
    let lt : i < length (take c.args.at ds) = omega (arith, length-take-le c.args.at ds (omega (arith, c.requires.at))) in
    let here : get_or (take c.args.at ds) i a ≡ a = get_or-take c.args.at ds i a c.loop-earlier-test.true ∙ sym c.index-definitions-earlier.is in
    let holds : clash_of c.args.by a b ≡ true = sym c.clash.ensures ∙ c.if-clash.true in
    let any : clashes_with (clash_of c.args.by) (take c.args.at ds) b ≡ true = list_any_at (λ e. clash_of c.args.by e b) (take c.args.at ds) i a lt (ap (λ e. clash_of c.args.by e b) here ∙ holds) in
    sym (ap (clashes_with (clash_of c.args.by) (take c.args.at ds)) (get_or_default ds c.args.at d b c.requires.at ∙ sym c.index-definitions-at.is) ∙ any)

pub returns-then-is_alone : goal.returns-then-is_alone
returns-then-is_alone c = λ d.
    let before = take c.args.at c.args.definitions.now in
    let b = c.index-definitions-at.result in
    let none : clashes_with (clash_of c.args.by) before b ≡ false = clashes_never (clash_of c.args.by) before b (c.is_alone.ensures c.if-is_alone.true) in
    sym (ap (clashes_with (clash_of c.args.by) before) (get_or_default c.args.definitions.now c.args.at d b c.requires.at ∙ sym c.index-definitions-at.is) ∙ none)

pub loop-earlier-init : goal.loop-earlier-init
loop-earlier-init c = λ d.
    let ds = c.args.definitions.now in
    let at = c.args.at in
    let this = get_or ds at d in
    let rival = subst (λ ns. c.first_rival-earlier.result ≡ first_rival c.args.by ns at) c.requires.names c.first_rival-earlier.ensures.rival in
    subst (λ k. clashes_with (clash_of c.args.by) (take k ds) this ≡ false) (sym rival) (no_rival c.args.by ds at this c.requires.at (get_or_default ds at d this c.requires.at))
