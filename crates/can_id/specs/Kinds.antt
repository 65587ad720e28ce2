-- The words of kinds.
use Rattle.std.specs.Prelude.{ℕ, List, codes}
use Rattle.can_id.specs.declared.key.Kind.{Kind}
use Rattle.can_id.specs.declared.key.Kind.TheVariants.{Message, Request, Response}

abbrev pub kind_text : Kind → List ℕ
kind_text Message = codes "msg"
kind_text Request = codes "req"
kind_text Response = codes "res"
