-- What a statement says by itself.
use Rattle.std.specs.Prelude.{ℕ, ◌||◌, Bool, true, false, List, [], ◌∷◌, ◌++◌, Option, Some, None}
use Rattle.std.specs.Prelude.{codes}
use Rattle.std.specs.List.{list_any}
use Rattle.std.specs.Str.{bytes_eq}
use Rattle.dsdl_parse.specs.declared.expr.Expr.{Expr}
use Rattle.dsdl_parse.specs.declared.statement.Bound.{Bound}
use Rattle.dsdl_parse.specs.declared.statement.Statement.{Statement}
use Rattle.dsdl_parse.specs.declared.statement.Statement.TheVariants as statement
use Rattle.dsdl_parse.specs.LeavesOf.{names_it}

-- `---`
abbrev pub is_split : Statement → Bool
is_split statement.Split = true
is_split _ = false

-- the directive of that name
abbrev pub is_directive : List ℕ → Statement → Bool
is_directive word (statement.Directive name x) = bytes_eq name word
is_directive word _ = false

abbrev pub is_union : Statement → Bool
is_union s = is_directive (codes "union") s

abbrev pub is_extent : Statement → Bool
is_extent s = is_directive (codes "extent") s

abbrev pub is_deprecated : Statement → Bool
is_deprecated s = is_directive (codes "deprecated") s

-- `@sealed` or `@extent`
abbrev pub is_sealing : Statement → Bool
is_sealing s = is_directive (codes "sealed") s || is_extent s

-- a field with a name; in a union it is a variant
abbrev pub is_field : Statement → Bool
is_field (statement.Field form name) = true
is_field _ = false

-- a field, a padding or a constant
abbrev pub is_entry : Statement → Bool
is_entry (statement.Field form name) = true
is_entry (statement.Padding digits) = true
is_entry (statement.Constant form name x) = true
is_entry _ = false

-- the name of an attribute, which is a field or a constant
abbrev pub attribute_of : Statement → Option (List ℕ)
attribute_of (statement.Field form name) = Some name
attribute_of (statement.Constant form name x) = Some name
attribute_of _ = None

-- the expression of an array's bound
abbrev pub of_bound : Option Bound → List Expr
of_bound None = []
of_bound (Some b) = b.expr ∷ []

abbrev pub of_value : Option Expr → List Expr
of_value None = []
of_value (Some x) = x ∷ []

-- the expressions of a statement: the bound of an array, then a value
abbrev pub expressions_of : Statement → List Expr
expressions_of (statement.Field form name) = of_bound form.array
expressions_of (statement.Constant form name x) = of_bound form.array ++ x ∷ []
expressions_of (statement.Directive name x) = of_value x
expressions_of _ = []

-- a statement names `_offset_`
abbrev pub names_offset : Statement → Bool
names_offset s = list_any (λ x. names_it x (codes "_offset_")) (expressions_of s)
