-- The names and versions of the grammar are those of types.
use Rattle.std.specs.Prelude.{◌≡◌, ℕ, List, Some, None, if◌then◌else◌}
use Rattle.dsdl_lex.specs.Texts.{is_name, is_version, number_of}
use Rattle.dsdl_names.specs.Words as names

-- what is a name of the grammar is a name of types, and what is a version's number of the grammar
-- is the same number there
pub record AreOfTypes : Type 0 where
  pub name : (text : List ℕ) → is_name text ≡ names.is_name text
  pub version : (text : List ℕ)
      → names.number_to 255 text ≡ (if is_version text then Some (number_of text) else None)
