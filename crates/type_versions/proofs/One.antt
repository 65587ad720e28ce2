-- A namespace has an answer on its versions, and one alone.
use Rattle.std.proofs.Common.{◌≡◌, ◌∙◌, ℕ, List, map, refl, sym, ap}
use Rattle.std.specs.List.{flat_map}
use Rattle.dsdl_types.specs.declared.definition.Definition.{Definition}
use Rattle.dsdl_types.specs.declared.namespace.Namespace.{Namespace}
use Rattle.layout_text.specs.Namespaces.{IsByName}
use Rattle.layout_text.proofs.ByName.{before, before_ranks}
use Rattle.layout_text.proofs.OneOrder.{one_order}
use Rattle.layout_text.proofs.SomeText.{some_order}
use Rattle.layout_text.proofs.Sorting.{sort}
use Rattle.compat_check.specs.declared.verdict.Verdict.{Verdict}
use Rattle.type_versions.specs.Lines.{pair_line, pair_verdict, first_refusal, AreVersions}
use Rattle.type_versions.specs.Pairs.{version_pairs}
use Rattle.type_versions.proofs.Told.{are_versions}

pub some_answer : (names : Namespace) → (lines : List ℕ) × (first : Verdict) × AreVersions names lines first
some_answer names =
    let sorted = sort before names.definitions in
    let pairs = version_pairs sorted in
    let lines = flat_map pair_line pairs in
    let first = first_refusal (map pair_verdict pairs) in
    (lines, first, are_versions names lines first sorted pairs (some_order names.definitions) refl refl refl)

one_sort : (ds xs ys : List Definition) → IsByName ds xs → IsByName ds ys → xs ≡ ys
one_sort ds xs ys a b = one_order before before_ranks xs ys a.ascending b.ascending (λ d. a.stable d ∙ sym (b.stable d))

pub one_answer : (names : Namespace) (a b : List ℕ) (v w : Verdict) → AreVersions names a v → AreVersions names b w → (a ≡ b) × (v ≡ w)
one_answer names a b v w x y =
    let e = one_sort names.definitions x.sorted y.sorted x.order y.order in (
      x.told ∙ ap (λ ds. flat_map pair_line (version_pairs ds)) e ∙ sym y.told,
      x.refused ∙ ap (λ ds. first_refusal (map pair_verdict (version_pairs ds))) e ∙ sym y.refused,
    )
