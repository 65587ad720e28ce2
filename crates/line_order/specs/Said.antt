-- What was found in a line.
use Rattle.std.specs.Prelude.{List, ℕ}
use Rattle.line_order.specs.Form.{Said, NoForm, Nothing, Line, line_text}
use Rattle.line_order.specs.declared.form.Found.{Found}
use Rattle.line_order.specs.declared.form.Found.TheVariants as found
use Rattle.line_order.specs.declared.form.Parts.{Parts}

-- the line of its parts
abbrev pub text_of_parts : Parts → List ℕ
text_of_parts p = line_text p.stamp.now p.bus.now p.rest.now

abbrev pub said_by_parts : Parts → Said
said_by_parts p = Line p.moment (text_of_parts p)

abbrev pub said_by : Found → Said
said_by found.NoForm = NoForm
said_by found.Nothing = Nothing
said_by (found.Line parts) = said_by_parts parts
