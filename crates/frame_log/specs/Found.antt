-- What the code found in a line, of which the bytes stand apart.
use Rattle.std.specs.Prelude.{ℕ, Bool, true, false, List, Option, Some, None}
use Rattle.frame_log.specs.declared.line.Found.{Found}
use Rattle.frame_log.specs.declared.line.Found.TheVariants as found
use Rattle.frame_log.specs.Line.{Said, NoForm, Nothing, UnknownBus, Frame}

-- the bytes, where there are some
abbrev pub bytes_if : Bool → List ℕ → Option (List ℕ)
bytes_if true bytes = Some bytes
bytes_if false bytes = None

-- what a line says, of which this was found
abbrev pub said_by : Found → List ℕ → Said
said_by found.NoForm bytes = NoForm
said_by found.Nothing bytes = Nothing
said_by found.UnknownBus bytes = UnknownBus
said_by (found.Frame moment bus ident) bytes = Frame moment bus ident bytes
