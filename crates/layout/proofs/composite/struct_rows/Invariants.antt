use Rattle.std.proofs.Common.{drop}
use Rattle.dsdl_types.specs.Views.{body_of, flds}
use Rattle.layout.proofs.Walks.{Walks}
use Rattle.layout.proofs.composite.struct_rows.Given as goal

-- the fields so far have their rows, and can end at some places
abbrev pub invariant-loop-field : goal.invariant-loop-field
invariant-loop-field l =
    Walks (body_of l.body).0 (body_of l.body).1 (flds (drop l.field-index l.field-items)) l.rows.items l.ends
