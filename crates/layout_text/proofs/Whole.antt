-- The text of a namespace from its parts.
use Rattle.std.proofs.Common.{◌≡◌, ℕ, List, [], ◌++◌, map, ap, ◌∙◌, subst, Bor}
use Rattle.std.specs.List.{flat_map}
use Rattle.dsdl_types.specs.declared.definition.Definition.{Definition}
use Rattle.dsdl_types.specs.declared.namespace.Namespace.{Namespace}
use Rattle.dsdl_types.specs.declared.namespace.Print.{Print}
use Rattle.layout_text.specs.Appends.{Appends}
use Rattle.layout_text.specs.Definitions.{AreDefinitionTexts}
use Rattle.layout_text.specs.Namespaces.{IsByName, IsNamespaceText, print_line}

pub whole_namespace : (names : Namespace) (definitions : List Definition) (prints : List Print) (sorted slice : List (Bor Definition)) (none printed text : List ℕ) →
    definitions ≡ names.definitions → prints ≡ names.prints → slice ≡ sorted → none ≡ [] → printed ≡ none ++ flat_map print_line prints → IsByName definitions (map (λ r. r.now) sorted) →
    Appends (AreDefinitionTexts (map (λ r. r.now) slice)) printed text → IsNamespaceText names text
whole_namespace names definitions prints sorted slice none printed text d p s n e order (types, texts, f) = record {
  sorted = map (λ (r : Bor Definition). r.now) sorted;
  types = types;
  order = subst (λ ds. IsByName ds (map (λ r. r.now) sorted)) d order;
  texts = subst (λ rs. AreDefinitionTexts (map (λ r. r.now) rs) types) s texts;
  is = f ∙ ap (λ t. t ++ types) (e ∙ ap (λ t. t ++ flat_map print_line prints) n ∙ ap (flat_map print_line) p);
}
