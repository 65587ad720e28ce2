use Rattle.std.proofs.Common.{◌≡◌, ◌∙◌, IfOk, map, ap, subst}
use Rattle.std.specs.List.{flat_map}
use Rattle.layout_text.specs.Namespaces.{IsByName}
use Rattle.type_versions.specs.Lines.{pair_line, pair_verdict, first_refusal}
use Rattle.type_versions.specs.Pairs.{version_pairs, pair_of}
use Rattle.type_versions.proofs.Told.{all_told}
use Rattle.type_versions.proofs.versions.versions_of.Goals as goal

pub returns : goal.returns
returns c =
    let r = c.compared.result in
    all_told c.args.names.now r (map (λ d. d.now) c.in_ok-sorted.sorted.items) (map pair_of c.in_ok-pairs.pairs.items)
    (subst (λ ds. IsByName ds (map (λ d. d.now) c.in_ok-sorted.sorted.items)) c.as_slice.ensures c.in_ok-sorted.ensures)
    (c.in_ok-pairs.ensures ∙ ap (λ rs. version_pairs (map (λ d. d.now) rs)) c.as_slice-2.ensures.value)
    (subst (λ ps. IfOk r (λ v. v.lines.items ≡ flat_map pair_line (map pair_of ps))) c.as_slice-3.ensures.value c.compared.ensures.lines)
    (subst (λ ps. IfOk r (λ v. v.first ≡ first_refusal (map pair_verdict (map pair_of ps)))) c.as_slice-3.ensures.value c.compared.ensures.first)
