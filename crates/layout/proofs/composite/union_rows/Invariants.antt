use Rattle.std.proofs.Common.{drop}
use Rattle.dsdl_types.specs.Views.{body_of, flds}
use Rattle.layout.proofs.Walks.{Joins}
use Rattle.layout.proofs.composite.union_rows.Given as goal

-- the variants so far have their rows and lengths
abbrev pub invariant-loop-field : goal.invariant-loop-field
invariant-loop-field l =
    Joins (body_of l.body).0 (body_of l.body).1 (flds (drop l.field-index l.field-items)) l.rows.items l.lengths
