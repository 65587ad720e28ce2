-- What the expressions of a statement are worth, and what a statement adds to what its section
-- says.
use Rattle.std.specs.Prelude.{ℕ, ◌++◌, Bool, true, false, ℤ, pos, negsuc, List, [], ◌∷◌, fold}
use Rattle.std.specs.Prelude.{Option, Some, None, Result, Ok, Err, if◌then◌else◌, codes}
use Rattle.std.specs.Str.{bytes_eq}
use Rattle.dsdl_parse.specs.declared.expr.Expr.{Expr, out-Expr}
use Rattle.dsdl_parse.specs.declared.statement.Bound.{Bound}
use Rattle.dsdl_parse.specs.declared.statement.Statement.{Statement}
use Rattle.dsdl_parse.specs.declared.statement.Statement.TheVariants as statement
use Rattle.dsdl_types.specs.declared.schema.Field.{roll-Field}
use Rattle.dsdl_types.specs.declared.schema.Schema.TheVariants as schema
use Rattle.const_expr.specs.declared.constant.Const.{Const, out-Const}
use Rattle.const_expr.specs.declared.constant.Const.TheOpen as o
use Rattle.const_expr.specs.declared.error.ExprError.{ExprError}
use Rattle.const_expr.specs.declared.scope.Scope.{Scope}
use Rattle.const_expr.specs.Constants.{Layer, natural, whole_of}
use Rattle.const_expr.specs.Refusals.{at}
use Rattle.const_expr.specs.Text.{text_of}
use Rattle.const_expr.specs.Value.{value_of, with_value}
use Rattle.dsdl_resolve.specs.declared.typed.Typed.{Typed}
use Rattle.dsdl_resolve.specs.declared.values.Values.{Values}
use Rattle.dsdl_resolve.specs.Forms.{type_of, width_in}
use Rattle.dsdl_resolve.specs.Said.{Said, offsets}
use Rattle.dsdl_resolve.specs.Says.{names_offset}

-- `_offset_` means lengths where a statement names it
abbrev pub offset_in : Said → Bool → Option (List ℕ)
offset_in said true = Some (offsets said.union said.fields)
offset_in said false = None

-- the scope of the expressions of a statement behind what a section has said
abbrev pub scope_at : Scope → Said → Statement → Scope
scope_at scope said s = record scope { constants = said.constants; offset = offset_in said (names_offset s) }

abbrev pub bound_value : Scope → Option Bound → Result (Option Const) ExprError
bound_value scope None = Ok None
bound_value scope (Some b) = with_value (value_of scope b.expr) (λ u. Ok (Some u))

-- the text of an expression's value, as `@print` writes it
abbrev pub print_of : Scope → Expr → Result (List ℕ) ExprError
print_of scope x = with_value (value_of scope x) (λ u. at (out-Expr x).span (text_of u))

-- the value of a directive's expression; of `@print` one that has a text
abbrev pub directive_value : Scope → List ℕ → Expr → Result Const ExprError
directive_value scope name x = with_value (value_of scope x) (λ u. if bytes_eq name (codes "print") then with_value (at (out-Expr x).span (text_of u)) (λ t. Ok u) else Ok u)

abbrev pub of_bound : Result (Option Const) ExprError → Result Values ExprError
of_bound bound = with_value bound (λ b. Ok (record { bound = b; value = None }))

-- the values of a statement's expressions, or the first refusal
abbrev pub values : Scope → Statement → Result Values ExprError
values scope (statement.Field form name) = of_bound (bound_value scope form.array)
values scope (statement.Constant form name x) = with_value (bound_value scope form.array) (λ b. with_value (value_of scope x) (λ u. Ok (record { bound = b; value = Some u })))
values scope (statement.Directive name (Some x)) = with_value (directive_value scope name x) (λ u. Ok (record { bound = None; value = Some u }))
values scope _ = Ok (record { bound = None; value = None })

-- the character of a string is its number
abbrev pub character : List ℕ → Const → Const
character (c ∷ []) u = natural c
character _ u = u

abbrev pub numbered : Layer → Const → Const
numbered (o.Str t) u = character t u
numbered _ u = u

-- what a constant with this value is worth
abbrev pub constant_value : Const → Const
constant_value u = numbered (out-Const u) u

abbrev pub natural_in : Option ℤ → Option ℕ
natural_in (Some (pos n)) = Some n
natural_in (Some (negsuc n)) = None
natural_in None = None

abbrev pub natural_layer : Layer → Option ℕ
natural_layer (o.Number x) = natural_in (whole_of x)
natural_layer _ = None

-- the whole number, not below 0, that a value is
abbrev pub natural_of : Option Const → Option ℕ
natural_of None = None
natural_of (Some u) = natural_layer (out-Const u)

-- a field of a type
abbrev pub with_field : Said → List ℕ → Option Typed → Said
with_field said name None = said
with_field said name (Some t) = record said { fields = said.fields ++ roll-Field (record { name = name; schema = t.schema }) ∷ []; types = said.types ++ t.text ∷ [] }

-- padding of a width
abbrev pub with_padding : Said → Option ℕ → Said
with_padding said None = said
with_padding said (Some w) = record said { fields = said.fields ++ roll-Field (record { name = []; schema = schema.Void w }) ∷ [] }

abbrev pub with_constant : Said → List ℕ → Option Const → Said
with_constant said name None = said
with_constant said name (Some u) = record said { constants = said.constants ++ record { name = name; value = constant_value u } ∷ [] }

abbrev pub with_directive : Said → List ℕ → Option Const → Said
with_directive said name value =
    if bytes_eq name (codes "union") then record said { union = true }
    else if bytes_eq name (codes "extent") then record said { extent = natural_of value }
    else said

-- what a statement with these values adds
abbrev pub added : Scope → Said → Statement → Values → Said
added scope said (statement.Field form name) vs = with_field said name (type_of scope form vs.bound)
added scope said (statement.Padding digits) vs = with_padding said (width_in 1 64 digits)
added scope said (statement.Constant form name x) vs = with_constant said name vs.value
added scope said (statement.Directive name x) vs = with_directive said name vs.value
added scope said _ vs = said

-- a statement whose expressions are refused adds nothing
abbrev pub if_valued : Scope → Said → Statement → Result Values ExprError → Said
if_valued scope said s (Ok vs) = added scope said s vs
if_valued scope said s (Err e) = said

-- what a section says with one statement more
abbrev pub say : Scope → Said → Statement → Said
say scope said s = if_valued scope said s (values (scope_at scope said s) s)

abbrev pub nothing : Said
nothing = record { union = false; fields = []; types = []; constants = []; extent = None }

-- what the statements of a section say
abbrev pub said_by : Scope → List Statement → Said
said_by scope ss = fold (say scope) nothing ss
