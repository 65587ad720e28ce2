-- Reading the statement of a line.
use Rattle.std.specs.Prelude.{ℕ, Bool, ◌&&◌, ◌||◌, if◌then◌else◌, List, [], ◌∷◌, length, take, drop}
use Rattle.std.specs.Prelude.{Option, Some, None, is_some, codes}
use Rattle.std.specs.Str.{bytes_eq}
use Rattle.dsdl_lex.specs.declared.token.TokenKind.{TokenKind}
use Rattle.dsdl_lex.specs.declared.token.TokenKind.TheVariants as k
use Rattle.dsdl_parse.specs.declared.expr.Expr.{Expr}
use Rattle.dsdl_parse.specs.declared.statement.Bound.{Bound}
use Rattle.dsdl_parse.specs.declared.statement.BoundSign.{BoundSign}
use Rattle.dsdl_parse.specs.declared.statement.BoundSign.TheVariants as sign
use Rattle.dsdl_parse.specs.declared.statement.Form.{Form}
use Rattle.dsdl_parse.specs.declared.statement.Prefix.{Prefix}
use Rattle.dsdl_parse.specs.declared.statement.Prefix.TheVariants as prefix
use Rattle.dsdl_parse.specs.declared.statement.Scalar.{Scalar}
use Rattle.dsdl_parse.specs.declared.statement.Scalar.TheVariants as scalar
use Rattle.dsdl_parse.specs.declared.statement.Statement.{Statement}
use Rattle.dsdl_parse.specs.declared.statement.Statement.TheVariants as statement
use Rattle.dsdl_parse.specs.LeafReading.{reference_of}
use Rattle.dsdl_parse.specs.Reading.{◌>>=◌, Reader, close, is_name_kind, read_expression}
use Rattle.dsdl_parse.specs.Statement.{are_digits}
use Rattle.dsdl_parse.specs.Words.{Word, any_of, is_in, just}

-- the digits behind a word, where a text is that word with digits behind it
abbrev pub digits_behind : List ℕ → List ℕ → Option (List ℕ)
digits_behind word text =
    if bytes_eq (take (length word) text) word && are_digits (drop (length word) text) then Some (drop (length word) text) else None

abbrev pub is_primitive : List ℕ → Bool
is_primitive name =
    bytes_eq name (codes "bool")
    || (is_some (digits_behind (codes "uint") name) || (is_some (digits_behind (codes "int") name) || is_some (digits_behind (codes "float") name)))

-- what a word is as a prefix
abbrev pub prefix_of : TokenKind → List ℕ → Option Prefix
prefix_of k.Name text = if bytes_eq text (codes "saturated") then Some prefix.Saturated else if bytes_eq text (codes "truncated") then Some prefix.Truncated else None
prefix_of _ text = None

-- what a word is as a primitive type
abbrev pub primitive_of : Option Prefix → TokenKind → List ℕ → Option Scalar
primitive_of p k.Name text = if is_primitive text then Some (scalar.Primitive p text) else None
primitive_of p _ text = None

abbrev pub void_of : List ℕ → Option Scalar
void_of text = digits_behind (codes "void") text >>= λ digits. Some (scalar.Void digits)

-- what a word alone is as a type
abbrev pub plain_of : TokenKind → List ℕ → Option Scalar
plain_of k.Name text = if is_primitive text then Some (scalar.Primitive None text) else void_of text
plain_of k.Reference text = reference_of text >>= λ r. Some (scalar.Reference r)
plain_of _ text = None

-- a primitive type behind a prefix
abbrev pub behind_prefix : Prefix → Reader Scalar
behind_prefix p [] = None
behind_prefix p (w ∷ ws) = primitive_of (Some p) w.kind w.text >>= λ s. Some (s, ws)

abbrev pub with_prefix : Option Prefix → Word → Reader Scalar
with_prefix None w ws = plain_of w.kind w.text >>= λ s. Some (s, ws)
with_prefix (Some p) w ws = behind_prefix p ws

-- the type of one value
abbrev pub read_scalar : Reader Scalar
read_scalar [] = None
read_scalar (w ∷ ws) = with_prefix (prefix_of w.kind w.text) w ws

abbrev pub read_sign : List Word → BoundSign × List Word
read_sign [] = (sign.Exact, [])
read_sign (w ∷ ws) = if is_in (just (codes "<=")) w then (sign.AtMost, ws) else if is_in (just (codes "<")) w then (sign.Below, ws) else (sign.Exact, w ∷ ws)

abbrev pub end_bound : BoundSign → (Expr × Word) × List Word → Option (Bound × List Word)
end_bound s c = Some (record { sign = s; expr = c.0.0 }, c.1)

abbrev pub with_sign : BoundSign → Reader Bound
with_sign s ws = read_expression ws >>= λ r. close (just (codes "]")) r.0 r.1 >>= end_bound s

-- the rest of a bound behind `[`
abbrev pub read_bound : Reader Bound
read_bound ws = with_sign (read_sign ws).0 (read_sign ws).1

abbrev pub behind_scalar : Scalar → Reader Form
behind_scalar s [] = Some (record { scalar = s; array = None }, [])
behind_scalar s (w ∷ ws) =
    if is_in (just (codes "[")) w then read_bound ws >>= (λ r. Some (record { scalar = s; array = Some r.0 }, r.1)) else Some (record { scalar = s; array = None }, w ∷ ws)

-- a type
abbrev pub read_form : Reader Form
read_form ws = read_scalar ws >>= λ r. behind_scalar r.0 r.1

-- a name
abbrev pub read_name : Reader (List ℕ)
read_name [] = None
read_name (w ∷ ws) = if is_name_kind w.kind then Some (w.text, ws) else None

-- what a type and a name begin
abbrev pub behind_name : Form → List ℕ → Reader Statement
behind_name f name [] = Some (statement.Field f name, [])
behind_name f name (w ∷ ws) =
    if is_in (just (codes "=")) w then read_expression ws >>= (λ r. Some (statement.Constant f name r.0, r.1)) else Some (statement.Field f name, w ∷ ws)

-- what a type alone is
abbrev pub alone_of : Scalar → Option Bound → Option Statement
alone_of (scalar.Void digits) None = Some (statement.Padding digits)
alone_of (scalar.Void digits) (Some b) = None
alone_of (scalar.Primitive p name) a = None
alone_of (scalar.Reference r) a = None

-- what a type begins
abbrev pub behind_form : Form → Reader Statement
behind_form f [] = alone_of f.scalar f.array >>= λ s. Some (s, [])
behind_form f (w ∷ ws) = read_name (w ∷ ws) >>= λ n. behind_name f n.0 n.1

-- a constant, a field or padding
abbrev pub read_attribute : Reader Statement
read_attribute ws = read_form ws >>= λ r. behind_form r.0 r.1

abbrev pub named_directive : List ℕ → Reader Statement
named_directive name [] = Some (statement.Directive name None, [])
named_directive name (w ∷ ws) = read_expression (w ∷ ws) >>= λ r. Some (statement.Directive name (Some r.0), r.1)

-- a directive behind its `@`
abbrev pub read_directive : Reader Statement
read_directive ws = read_name ws >>= λ n. named_directive n.0 n.1

abbrev pub behind_sign : List ℕ → Reader Statement
behind_sign text ws = if any_of (just (codes "@")) text then read_directive ws else None

abbrev pub behind_first : TokenKind → Word → Reader Statement
behind_first k.Split w ws = Some (statement.Split, ws)
behind_first k.Sign w ws = behind_sign w.text ws
behind_first k.Name w ws = read_attribute (w ∷ ws)
behind_first k.Reference w ws = read_attribute (w ∷ ws)
behind_first k.Number w ws = None
behind_first k.Str w ws = None

-- a statement
abbrev pub read_statement : Reader Statement
read_statement [] = Some (statement.Empty, [])
read_statement (w ∷ ws) = behind_first w.kind w ws
