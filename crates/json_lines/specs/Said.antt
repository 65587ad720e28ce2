-- What a payload says, before its text.
use Rattle.dsdl_types.specs.Fits.{Fits}
use Rattle.dsdl_types.specs.Schemas.{Sch}
use Rattle.dsdl_types.specs.Views.{val}
use Rattle.value_text.specs.Texts.{value_text}
use Rattle.report_lines.specs.declared.line.Reading.{Reading}
use Rattle.report_lines.specs.declared.line.Reading.TheVariants as R
use Rattle.json_lines.specs.declared.said.Said.{Said}
use Rattle.json_lines.specs.declared.said.Said.TheVariants.{Value, Bad}

-- the reading of a line, as a type
abbrev pub reading_as : Sch → Said → Reading
reading_as s (Value value) = R.Good value (value_text s (val value))
reading_as s (Bad path why) = R.Bad path why

-- A value is one of the type.
abbrev pub FitsSaid : Sch → Said → Type 0
FitsSaid s (Value value) = Fits s (val value)
FitsSaid s (Bad path why) = Unit {0}
