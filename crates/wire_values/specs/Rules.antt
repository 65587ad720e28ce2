-- What reading and writing rest on of the rules of a schema.
use Rattle.std.specs.Prelude.{◌^◌, ◌≤◌}
use Rattle.dsdl_types.specs.Schemas.{Sch, Flds}
use Rattle.dsdl_types.specs.Sound.{IsSound, AreSound}
use Rattle.dsdl_types.specs.Rules.{IsFormed, AreFormed, nodes, nodes_of}

-- the rules, without those on names and on nesting
abbrev pub HasRules : Sch → Type 0
HasRules s = IsFormed s × IsSound s × (nodes s ≤ 2 ^ 20)

-- the same of fields
abbrev pub HaveRules : Flds → Type 0
HaveRules fs = AreFormed fs × AreSound fs × (nodes_of fs ≤ 2 ^ 20)
