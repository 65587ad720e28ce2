-- The text of a namespace.
use Rattle.std.specs.Prelude.{◌≡◌, ℕ, List, [], ◌∷◌, ◌++◌, codes, decimal}
use Rattle.std.specs.List.{flat_map}
use Rattle.std.specs.List.Sorted.{IsPermutation, IsSortedByKey, IsStableByKey}
use Rattle.dsdl_names.specs.Types.{type_order}
use Rattle.dsdl_types.specs.declared.definition.Definition.{Definition}
use Rattle.dsdl_types.specs.declared.namespace.Namespace.{Namespace}
use Rattle.dsdl_types.specs.declared.namespace.Print.{Print}
use Rattle.layout_text.specs.Definitions.{AreDefinitionTexts}
use Rattle.layout_text.specs.Words.{line_of}

-- a text as a word, where there is one
abbrev pub some_word : List ℕ → List (List ℕ)
some_word [] = []
some_word (b ∷ bs) = (b ∷ bs) ∷ []

-- the file, the line, and the value's text
abbrev pub print_line : Print → List ℕ
print_line p = line_of (codes "print" ∷ p.file ∷ decimal p.line ∷ some_word p.text)

-- The same definitions by name and version. Those of one name and version keep their order.
pub record IsByName (old sorted : List Definition) : Type 0 where
  pub same : IsPermutation old sorted
  pub ascending : IsSortedByKey (λ (d : Definition). d.id) type_order sorted
  pub stable : IsStableByKey (λ (d : Definition). d.id) type_order old sorted

-- what was printed, in order, and then the definitions by name and version
pub record IsNamespaceText (names : Namespace) (text : List ℕ) : Type 0 where
  pub sorted : List Definition
  pub types : List ℕ
  pub order : IsByName names.definitions sorted
  pub texts : AreDefinitionTexts sorted types
  pub is : text ≡ flat_map print_line names.prints ++ types
