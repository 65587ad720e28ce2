-- The text of a constant.
use Rattle.std.specs.Prelude.{ℕ, ◌==◌, ◌++◌, Bool, true, false, List, [], ◌∷◌, Result, Ok}
use Rattle.std.specs.Prelude.{if◌then◌else◌, codes, decimal}
use Rattle.std.specs.Fmt.{signed_decimal}
use Rattle.std.specs.Str.Lossy.{utf8_lossy}
use Rattle.cy_ratio.specs.Fraction.{Fraction}
use Rattle.dsdl_names.specs.declared.TypeId.{TypeId}
use Rattle.const_expr.specs.declared.constant.Const.{Const, out-Const}
use Rattle.const_expr.specs.declared.constant.Const.TheOpen as o
use Rattle.const_expr.specs.declared.why.Why.{Why}
use Rattle.const_expr.specs.Refusals.{and_then}
use Rattle.const_expr.specs.Constants.{Layer}
use Rattle.const_expr.specs.Binary.{listed}

-- `n`, or `n/d`
abbrev pub number_text : Fraction → List ℕ
number_text x = signed_decimal x.num ++ (if x.den == 1 then [] else 47 ∷ decimal x.den)

abbrev pub truth_text : Bool → List ℕ
truth_text true = codes "true"
truth_text false = codes "false"

-- between quotes
abbrev pub quoted : List ℕ → List ℕ
quoted s = 34 ∷ (s ++ 34 ∷ [])

-- the full name and the version
abbrev pub id_text : TypeId → List ℕ
id_text id = utf8_lossy id.name ++ 46 ∷ (decimal id.major ++ 46 ∷ decimal id.minor)

-- a member of a set; what is no member has no text there
abbrev pub member_text : Layer → List ℕ
member_text (o.Number x) = number_text x
member_text (o.Truth b) = truth_text b
member_text (o.Str s) = quoted s
member_text _ = []

-- members, each behind `, `
abbrev pub members_behind : List Const → List ℕ
members_behind [] = []
members_behind (x ∷ xs) = (codes ", " ++ member_text (out-Const x)) ++ members_behind xs

-- members with `, ` between each two
abbrev pub members_text : List Const → List ℕ
members_text [] = []
members_text (x ∷ xs) = member_text (out-Const x) ++ members_behind xs

-- a constant that is listed
abbrev pub layer_text : Layer → List ℕ
layer_text (o.Number x) = number_text x
layer_text (o.Truth b) = truth_text b
layer_text (o.Str s) = quoted s
layer_text (o.Set xs) = 123 ∷ (members_text xs ++ 125 ∷ [])
layer_text (o.Lengths ns) = []
layer_text (o.Named id) = id_text id

-- The text of a constant. A set of lengths is listed.
unfoldable pub text_of : Const → Result (List ℕ) Why
text_of u = and_then (listed u) (λ x. Ok (layer_text (out-Const x)))
