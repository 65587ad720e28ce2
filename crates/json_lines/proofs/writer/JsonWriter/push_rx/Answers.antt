use Rattle.std.proofs.Common.{ap}
use Rattle.std.specs.Prelude.{option_map}
use Rattle.dsdl_types.specs.Views.{sch}
use Rattle.json_lines.proofs.writer.JsonWriter.push_rx.Goals as goal

pub push_typed-requires : goal.push_typed-requires
push_typed-requires c = ap (λ o. option_map (λ shape. sch shape.now.schema) o) c.in-Some.is
