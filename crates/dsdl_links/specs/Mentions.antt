-- The types that the statements of a definition refer to.
use Rattle.std.specs.Prelude.{ℕ, ◌+◌, List, [], ◌∷◌, ◌++◌, map, Option, Some, None, option_map}
use Rattle.std.specs.List.{filter_map}
use Rattle.dsdl_names.specs.declared.TypeId.{TypeId}
use Rattle.dsdl_names.specs.Beside.{beside}
use Rattle.dsdl_parse.specs.declared.expr.Expr.{Expr}
use Rattle.dsdl_parse.specs.declared.expr.Reference.{Reference}
use Rattle.dsdl_parse.specs.declared.statement.Bound.{Bound}
use Rattle.dsdl_parse.specs.declared.statement.Scalar.{Scalar}
use Rattle.dsdl_parse.specs.declared.statement.Scalar.TheVariants as scalar
use Rattle.dsdl_parse.specs.declared.statement.Statement.{Statement}
use Rattle.dsdl_parse.specs.declared.statement.Statement.TheVariants as statement
use Rattle.dsdl_parse.specs.LeavesOf.{references_of}
use Rattle.dsdl_links.specs.declared.source.Mention.{Mention}

-- the type of this name and of a reference's version
abbrev pub of_version : Reference → List ℕ → TypeId
of_version r name = record { name = name; major = r.major; minor = r.minor }

-- the type that a reference means in the definition of a type; one without a name means none
abbrev pub type_of : List ℕ → Reference → Option TypeId
type_of own r = option_map (of_version r) (beside own r.names)

abbrev pub in_scalar : Scalar → List Reference
in_scalar (scalar.Primitive prefix name) = []
in_scalar (scalar.Reference r) = r ∷ []
in_scalar (scalar.Void digits) = []

abbrev pub in_bound : Option Bound → List Reference
in_bound None = []
in_bound (Some b) = references_of b.expr

abbrev pub in_value : Option Expr → List Reference
in_value None = []
in_value (Some x) = references_of x

-- the references in a statement in the order of the text: a type, its bound, a value
abbrev pub references_in : Statement → List Reference
references_in statement.Empty = []
references_in statement.Split = []
references_in (statement.Directive name x) = in_value x
references_in (statement.Constant form name x) = in_scalar form.scalar ++ (in_bound form.array ++ references_of x)
references_in (statement.Field form name) = in_scalar form.scalar ++ in_bound form.array
references_in (statement.Padding digits) = []

-- the types that a statement refers to, in the order of the text
abbrev pub refers : List ℕ → Statement → List TypeId
refers own s = filter_map (type_of own) (references_in s)

abbrev pub on_line : ℕ → TypeId → Mention
on_line n id = record { line = n; id = id }

-- the types that references of a line mean
abbrev pub noted : List ℕ → ℕ → List Reference → List Mention
noted own n rs = map (on_line n) (filter_map (type_of own) rs)

-- with their lines, of which the first has this number
abbrev pub mentions_from : ℕ → List ℕ → List Statement → List Mention
mentions_from n own [] = []
mentions_from n own (s ∷ ss) = noted own n (references_in s) ++ mentions_from (n + 1) own ss

-- the types that the statements of a definition refer to, in the order of the text, with their
-- lines, counted from 1
abbrev pub mentions : List ℕ → List Statement → List Mention
mentions own ss = mentions_from 1 own ss
