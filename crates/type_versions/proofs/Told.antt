-- What is said of the versions of a namespace, from what its parts say.
use Rattle.std.proofs.Common.{◌≡◌, ◌↔◌, ◌∙◌, ℕ, List, map, All, Result, Ok, Err, IfOk, sym, ap, subst}
use Rattle.std.specs.List.{flat_map}
use Rattle.dsdl_types.specs.declared.definition.Definition.{Definition}
use Rattle.dsdl_types.specs.declared.namespace.Namespace.{Namespace}
use Rattle.layout_text.specs.Namespaces.{IsByName}
use Rattle.compat_check.specs.declared.verdict.Verdict.{Verdict}
use Rattle.compat_check.specs.declared.verdict.Verdict.TheVariants.{Yes}
use Rattle.type_versions.specs.Lines.{pair_line, pair_verdict, first_refusal, IsNewerPair, AreVersions}
use Rattle.type_versions.specs.Pairs.{version_pairs}
use Rattle.type_versions.specs.declared.versions.Versions.{Versions}
use Rattle.type_versions.proofs.Loops.{all_newer}

pub are_versions : (names : Namespace) (lines : List ℕ) (first : Verdict) (sorted : List Definition) (pairs : List (Definition × Definition)) → IsByName names.definitions sorted → pairs ≡ version_pairs sorted
    → lines ≡ flat_map pair_line pairs → first ≡ first_refusal (map pair_verdict pairs) → AreVersions names lines first
are_versions names lines first sorted pairs order is told refused =
    let r : first ≡ first_refusal (map pair_verdict (version_pairs sorted)) = refused ∙ ap (λ ps. first_refusal (map pair_verdict ps)) is in
    record {
      sorted = sorted;
      order = order;
      told = told ∙ ap (flat_map pair_line) is;
      refused = r;
      newer = subst (λ v. (v ≡ Yes) ↔ All IsNewerPair (version_pairs sorted)) (sym r) (all_newer (version_pairs sorted));
    }

pub all_told : {E : Type 0} (names : Namespace) (r : Result Versions E) (sorted : List Definition) (pairs : List (Definition × Definition)) → IsByName names.definitions sorted → pairs ≡ version_pairs sorted
    → IfOk r (λ v. v.lines.items ≡ flat_map pair_line pairs) → IfOk r (λ v. v.first ≡ first_refusal (map pair_verdict pairs)) → IfOk r (λ v. AreVersions names v.lines.items v.first)
all_told names (Err e) sorted pairs order is told refused = tt
all_told names (Ok v) sorted pairs order is told refused = are_versions names v.lines.items v.first sorted pairs order is told refused
