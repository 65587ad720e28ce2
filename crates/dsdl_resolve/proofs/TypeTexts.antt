-- The text of a type.
use Rattle.std.proofs.Common.{◌≡◌, Ok, rules}
use Rattle.const_expr.proofs.Layers.{type_layer}
use Rattle.const_expr.specs.Text.{id_text, text_of}
use Rattle.const_expr.specs.declared.constant.Const.TheVariants as c
use Rattle.dsdl_names.specs.declared.TypeId.{TypeId}

pub text_of_type : (id : TypeId) → text_of (c.Named id) ≡ Ok (id_text id)
unfolding text_of
text_of_type id = search (rules, type_layer)
