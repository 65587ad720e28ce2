use Rattle.std.proofs.Common.{List, drop}
use Rattle.dsdl_types.specs.Views.{body_of, flds}
use Rattle.layout.specs.declared.row.Row.{Row}
use Rattle.layout.proofs.Walks.{PassesBehind, Joins}
use Rattle.layout.proofs.+lengths.Given as goal

-- the fields so far can end so many bits behind some places
abbrev pub invariant-bodies::lengths_of_struct-loop-field : goal.invariant-bodies::lengths_of_struct-loop-field
invariant-bodies::lengths_of_struct-loop-field l =
    PassesBehind (body_of l.body).0 (flds (drop l.field-index l.field-items)) l.places l.behind

-- the variants so far have their lengths, and there are rows for them, though none is made
abbrev pub invariant-bodies::lengths_of_union-loop-field : goal.invariant-bodies::lengths_of_union-loop-field
invariant-bodies::lengths_of_union-loop-field l =
    (rows : List Row) × Joins (body_of l.body).0 (body_of l.body).1 (flds (drop l.field-index l.field-items)) rows l.lengths
