-- Types that are found together with how large they are.
use Rattle.std.specs.Prelude.{◌≡◌, Option, Some, None}
use Rattle.dsdl_parse.specs.declared.statement.Form.{Form}
use Rattle.dsdl_types.specs.Views.{sch}
use Rattle.const_expr.specs.declared.constant.Const.{Const}
use Rattle.const_expr.specs.declared.scope.Scope.{Scope}
use Rattle.dsdl_resolve.specs.Forms.{item_of, type_of}
use Rattle.dsdl_resolve.specs.Totals.{AreCountsOf}
use Rattle.dsdl_resolve.specs.declared.typed.Counted.{Counted}
use Rattle.dsdl_resolve.specs.declared.typed.Typed.{Typed}

-- this type was found, and how large it is, or none
abbrev pub IsCounted : Option Typed → Option Counted → Type 0
IsCounted meaning None = meaning ≡ None
IsCounted meaning (Some t) = (meaning ≡ Some t.typed) × AreCountsOf t.counts (sch t.typed.schema)

-- the type of a form was found, and how large it is or its item, or none
abbrev pub IsCountedType : Scope → Form → Option Const → Option Counted → Type 0
IsCountedType scope form bound None = type_of scope form bound ≡ None
IsCountedType scope form bound (Some t) = (type_of scope form bound ≡ Some t.typed)
    × ((item : Typed) → item_of scope form.scalar ≡ Some item → AreCountsOf t.counts (sch item.schema))
