-- What a file is refused for, and what it defines.
use Rattle.std.specs.Prelude.{ℕ, ◌+◌, ◌++◌, ◌^◌, nat_lt, min, Bool, true, false, List, [], ◌∷◌}
use Rattle.std.specs.Prelude.{length, Option, Some, None, Result, Ok, Err, if◌then◌else◌, codes}
use Rattle.std.specs.List.{list_any, before_first}
use Rattle.std.specs.Option.{option_map, option_or}
use Rattle.std.specs.Str.{bytes_eq}
use Rattle.dsdl_names.specs.declared.FileName.{FileName}
use Rattle.dsdl_parse.specs.declared.expr.Expr.{Expr}
use Rattle.dsdl_parse.specs.declared.statement.Statement.{Statement}
use Rattle.dsdl_parse.specs.declared.statement.Statement.TheVariants as statement
use Rattle.dsdl_types.specs.declared.definition.Parts.TheVariants as parts
use Rattle.dsdl_types.specs.declared.namespace.Print.{Print}
use Rattle.dsdl_types.specs.declared.schema.Body.{Body, roll-Body}
use Rattle.dsdl_types.specs.declared.schema.Schema.{Schema}
use Rattle.dsdl_types.specs.declared.schema.Schema.TheVariants as schema
use Rattle.const_expr.specs.declared.constant.Const.{Const, out-Const}
use Rattle.const_expr.specs.declared.constant.Const.TheOpen as o
use Rattle.const_expr.specs.declared.error.ExprError.{ExprError}
use Rattle.const_expr.specs.declared.error.ExprError.TheVariants as error
use Rattle.const_expr.specs.declared.scope.Scope.{Scope}
use Rattle.const_expr.specs.Constants.{Layer}
use Rattle.dsdl_resolve.specs.Place.{Place, place, last_section}
use Rattle.dsdl_resolve.specs.RuleNumbers.{union_offset_too_early}
use Rattle.dsdl_resolve.specs.Rules.{least, rules_at, rules_at_end, is_offset_too_early}
use Rattle.dsdl_resolve.specs.Said.{Said, greatest}
use Rattle.dsdl_resolve.specs.Says.{is_split}
use Rattle.dsdl_resolve.specs.declared.outcome.Outcome.{Outcome}
use Rattle.dsdl_resolve.specs.declared.outcome.Refused.{Refused}
use Rattle.dsdl_resolve.specs.declared.values.Values.{Values}
use Rattle.dsdl_resolve.specs.Values.{values, scope_at, said_by, added, natural_of, print_of}
use Rattle.dsdl_resolve.specs.declared.why.DsdlWhy.{DsdlWhy}
use Rattle.dsdl_resolve.specs.declared.why.DsdlWhy.TheVariants as why
use Rattle.dsdl_resolve.specs.declared.why.ExprWhy.{ExprWhy}
use Rattle.dsdl_resolve.specs.declared.why.ExprWhy.TheVariants as expr

-- the cause of an expression's refusal (no meaning of one is want of memory)
abbrev pub cause_of : ExprError → ExprWhy
cause_of (error.Kind span) = expr.Kind
cause_of (error.Range span) = expr.Range
cause_of (error.Zero span) = expr.Zero
cause_of (error.Unknown span name) = expr.Unknown
cause_of (error.Large span count) = expr.Large
cause_of error.NoMemory = expr.Kind

-- a length above 2^32 bits
abbrev pub above_limit : ℕ → Option DsdlWhy
above_limit n = if nat_lt (2 ^ 32) n then Some (why.Long (min n (2 ^ 63))) else None

abbrev pub long_extent : Option ℕ → Option DsdlWhy
long_extent None = None
long_extent (Some n) = above_limit n

-- with a field or padding the greatest length of the section is too long, or the extent is
abbrev pub long_at : Scope → Said → Values → Statement → Option DsdlWhy
long_at scope said vs (statement.Field form name) = above_limit (greatest said.union (added scope said (statement.Field form name) vs).fields)
long_at scope said vs (statement.Padding digits) = above_limit (greatest said.union (added scope said (statement.Padding digits) vs).fields)
long_at scope said vs (statement.Directive name x) = if bytes_eq name (codes "extent") then long_extent (natural_of vs.value) else None
long_at scope said vs _ = None

abbrev pub is_false : Layer → Bool
is_false (o.Truth false) = true
is_false _ = false

abbrev pub if_false : Option Const → Option DsdlWhy
if_false None = None
if_false (Some u) = if is_false (out-Const u) then Some why.Assert else None

-- an `@assert` whose value is false
abbrev pub assert_at : Values → Statement → Option DsdlWhy
assert_at vs (statement.Directive name x) = if bytes_eq name (codes "assert") then if_false vs.value else None
assert_at vs _ = None

-- what a statement with these values is refused for: the least rule that it breaks, then Assert,
-- then Long
abbrev pub refusal_valued : Scope → Place → Said → Values → Option DsdlWhy
refusal_valued scope p said vs = option_or (option_map (λ n. why.Rule n) (least (rules_at scope p said vs))) (option_or (assert_at vs p.at) (long_at scope said vs p.at))

-- an expression that is refused comes before all rules but `union_offset_too_early`
abbrev pub refusal_of_values : Scope → Place → Said → Result Values ExprError → Option DsdlWhy
refusal_of_values scope p said (Err e) = Some (why.Expr (cause_of e))
refusal_of_values scope p said (Ok vs) = refusal_valued scope p said vs

abbrev pub refusal_behind : Scope → Place → Said → Option DsdlWhy
refusal_behind scope p said =
    if is_offset_too_early p then Some (why.Rule union_offset_too_early)
    else refusal_of_values scope p said (values (scope_at scope said p.at) p.at)

-- what a statement is refused for at its place
abbrev pub refusal_at : Scope → Place → Option DsdlWhy
refusal_at scope p = refusal_behind scope p (said_by scope p.before)

-- what a file with a port is refused for at its end
abbrev pub refusal_at_end : Option ℕ → List Statement → Option DsdlWhy
refusal_at_end port file = option_map (λ n. why.Rule n) (least (rules_at_end port file (last_section file)))

-- a refusal with its line, counted from 1
abbrev pub on_line : ℕ → Option DsdlWhy → Option Refused
on_line n None = None
on_line n (Some cause) = Some (record { line = n; why = cause })

-- The first refusal among statements behind some of their file, or at the file's end, which has the
-- line of the last statement.
abbrev pub refusal_from : Scope → Option ℕ → List Statement → List Statement → Option Refused
refusal_from scope port front [] = on_line (length front) (refusal_at_end port front)
refusal_from scope port front (s ∷ back) = option_or (on_line (length front + 1) (refusal_at scope (place front s back))) (refusal_from scope port (front ++ s ∷ []) back)

abbrev pub text_or_none : Result (List ℕ) ExprError → List ℕ
text_or_none (Ok text) = text
text_or_none (Err e) = []

-- the text of a `@print`, which is empty without an expression
abbrev pub print_text : Scope → Option Expr → List ℕ
print_text scope None = []
print_text scope (Some x) = text_or_none (print_of scope x)

abbrev pub printed : List ℕ → ℕ → List ℕ → List Print
printed path n text = record { file = path; line = n; text = text } ∷ []

-- what a statement at a place of a file prints
abbrev pub prints_of : Scope → List ℕ → ℕ → Statement → List Print
prints_of scope path n (statement.Directive name x) = if bytes_eq name (codes "print") then printed path n (print_text scope x) else []
prints_of scope path n _ = []

abbrev pub prints_at : Scope → List ℕ → List Statement → Statement → List Print
prints_at scope path front s = prints_of (scope_at scope (said_by scope (last_section front)) s) path (length front + 1) s

-- what the statements behind some of their file print, in order
abbrev pub prints_from : Scope → List ℕ → List Statement → List Statement → List Print
prints_from scope path front [] = []
prints_from scope path front (s ∷ back) = prints_at scope path front s ++ prints_from scope path (front ++ s ∷ []) back

-- a structure or a union: of an extent, or sealed
abbrev pub body_of : Said → Option ℕ → Body
body_of said (Some n) = roll-Body (record { fields = said.fields; extent = n; sealed = false })
body_of said None = roll-Body (record { fields = said.fields; extent = greatest said.union said.fields; sealed = true })

-- the type that a section defines
abbrev pub composite_of : Said → Schema
composite_of said = if said.union then schema.Union (body_of said said.extent) else schema.Struct (body_of said said.extent)

-- a message of what a section says
abbrev pub message_of : FileName → Said → List Print → Outcome
message_of name said prints = record {
  definition = record { id = name.id; port = name.port; types = said.types; parts = parts.Message (composite_of said) };
  constants = said.constants;
  prints = prints;
}

-- a service of what two sections say, whose constants no one can name
abbrev pub service_of : FileName → Said → Said → List Print → Outcome
service_of name asked answered prints = record {
  definition = record {
    id = name.id;
    port = name.port;
    types = asked.types ++ answered.types;
    parts = parts.Service (composite_of asked) (composite_of answered);
  };
  constants = [];
  prints = prints;
}

abbrev pub finished : Scope → FileName → List Statement → List Print → Outcome
finished scope name lines prints =
    if list_any is_split lines
    then service_of name (said_by scope (before_first is_split lines)) (said_by scope (last_section lines)) prints
    else message_of name (said_by scope lines) prints

abbrev pub unless_refused : Option Refused → Outcome → Result Outcome Refused
unless_refused (Some refused) done = Err refused
unless_refused None done = Ok done

-- in the definition of a type
abbrev pub in_file : Scope → FileName → Scope
in_file scope name = record scope { own = name.id.name }

-- What a file by its path, its name and its lines defines, or its first refusal; the scope has the
-- types that it refers to.
abbrev pub outcome : Scope → List ℕ → FileName → List Statement → Result Outcome Refused
outcome scope path name lines =
    unless_refused (refusal_from (in_file scope name) name.port [] lines) (finished (in_file scope name) name lines (prints_from (in_file scope name) path [] lines))
