-- Why there is no constant, and what a call answers.
use Rattle.std.specs.Prelude.{◌≡◌, Result, Ok, Err}
use Rattle.cy_ratio.specs.declared.RatioError.{RatioError}
use Rattle.cy_ratio.specs.declared.RatioError.TheVariants as ratio
use Rattle.const_expr.specs.declared.why.Why.{Why}
use Rattle.const_expr.specs.declared.why.Why.TheVariants as why
use Rattle.const_expr.specs.declared.error.ExprError.{ExprError}
use Rattle.const_expr.specs.declared.error.ExprError.TheVariants as error
use Rattle.dsdl_parse.specs.declared.expr.Span.{Span}

-- the refusal of an operation on fractions
abbrev pub of_error : RatioError → Why
of_error ratio.Range = why.Range
of_error ratio.Zero = why.Zero

-- a refusal stays, and a value goes on
abbrev pub and_then : {A B : Type 0} → Result A Why → (A → Result B Why) → Result B Why
and_then (Ok a) next = next a
and_then (Err e) next = Err e

-- a refusal with the place of the expression whose own rule refuses
abbrev pub error_at : Span → Why → ExprError
error_at s why.Kind = error.Kind s
error_at s why.Range = error.Range s
error_at s why.Zero = error.Zero s
error_at s (why.Unknown name) = error.Unknown s name
error_at s (why.Large count) = error.Large s count
error_at s why.NoMemory = error.NoMemory

abbrev pub at : {A : Type 0} → Span → Result A Why → Result A ExprError
at s (Ok a) = Ok a
at s (Err e) = Err (error_at s e)

-- The call answers what the definition says, or wants memory.
abbrev pub Gives : {A : Type 0} → Result A Why → Result A Why → Type 0
Gives (Ok a) meaning = Ok a ≡ meaning
Gives (Err why.NoMemory) meaning = Unit {0}
Gives (Err e) meaning = Err e ≡ meaning
