-- A set of lengths as its members.
use Rattle.std.specs.Prelude.{ℕ, List, [], ◌∷◌, ◌++◌, Option, Some, None, min}
use Rattle.bit_length.specs.declared.run_set.RunSet.TheInside.{Inside}
use Rattle.bit_length.specs.declared.run.Run.{Run}
use Rattle.bit_length.specs.Runs.{members_of, AreRuns}

abbrev pub runs_of : Inside → List Run
runs_of s = s.others.items ++ s.last ∷ []

abbrev pub view_of : Inside → List ℕ
view_of s = members_of s.step (runs_of s)

abbrev pub IsSet : Inside → Type 0
IsSet s = AreRuns s.step (runs_of s)

-- the lesser of two numbers that may be absent
abbrev pub lesser_of : Option ℕ → Option ℕ → Option ℕ
lesser_of (Some x) (Some y) = Some (min x y)
lesser_of (Some x) None = Some x
lesser_of None b = b
