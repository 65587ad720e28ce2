use Rattle.dsdl_types.specs.Views.{sch}
use Rattle.layout.specs.Layouts.{fields_of}
use Rattle.layout_text.proofs.FieldLines.{AreWritten}
use Rattle.layout_text.proofs.fields.push_fields.Given as goal

abbrev pub invariant-loop-i : goal.invariant-loop-i
invariant-loop-i l = AreWritten (sch l.schema) (fields_of (sch l.schema)) l.types l.i l.initial.text.items l.text.items
