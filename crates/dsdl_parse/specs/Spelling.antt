-- How the names, the numbers and the references of statements are spelled.
use Rattle.std.specs.Prelude.{◌≡◌, ℕ, true, List}
use Rattle.std.specs.List.{All}
use Rattle.dsdl_lex.specs.Texts.{is_name}
use Rattle.dsdl_parse.specs.declared.statement.Scalar.{Scalar}
use Rattle.dsdl_parse.specs.declared.statement.Scalar.TheVariants as scalar
use Rattle.dsdl_parse.specs.declared.statement.Statement.{Statement}
use Rattle.dsdl_parse.specs.declared.statement.Statement.TheVariants as statement
use Rattle.dsdl_parse.specs.Ast.{IsLine, IsAst}
use Rattle.dsdl_parse.specs.Leaves.{IsReferenceTo}
use Rattle.dsdl_parse.specs.Statement.{are_digits, IsPrimitive}

-- a primitive is `bool`, or `uint`, `int` or `float` with digits; a reference has names and a
-- version; a void has digits
abbrev pub IsSpelled : Scalar → Type 0
IsSpelled (scalar.Primitive cast name) = IsPrimitive name
IsSpelled (scalar.Reference r) = (text : List ℕ) × IsReferenceTo text r
IsSpelled (scalar.Void digits) = are_digits digits ≡ true

-- the name of an attribute or a directive is a name, and the type of an attribute is spelled as the
-- grammar says
abbrev pub WellSpelled : Statement → Type 0
WellSpelled statement.Empty = Unit {0}
WellSpelled statement.Split = Unit {0}
WellSpelled (statement.Directive name x) = is_name name ≡ true
WellSpelled (statement.Constant form name x) = IsSpelled form.scalar × (is_name name ≡ true)
WellSpelled (statement.Field form name) = IsSpelled form.scalar × (is_name name ≡ true)
WellSpelled (statement.Padding digits) = are_digits digits ≡ true

-- the statement of a line is so spelled, and each statement of a text
pub record AreWellSpelled : Type 0 where
  pub line : (line : List ℕ) (s : Statement) → IsLine line s → WellSpelled s
  pub text : (text : List ℕ) (ss : List Statement) → IsAst text ss → All WellSpelled ss
