-- The answers of the code as those of the definitions.
use Rattle.std.specs.Prelude.{Option, Some, None, map, reverse}
use Rattle.dsdl_types.specs.Difference.{Cause, Turn, Difference}
use Rattle.dsdl_types.specs.Difference as D
use Rattle.compat_check.specs.Paths.{path_text}
use Rattle.compat_check.specs.declared.difference.Cause as K
use Rattle.compat_check.specs.declared.difference.Cause.TheVariants as causes
use Rattle.compat_check.specs.declared.difference.Difference as C
use Rattle.compat_check.specs.declared.path.Turn as T
use Rattle.compat_check.specs.declared.path.Turn.TheVariants as turns
use Rattle.compat_check.specs.declared.verdict.CompatWhy.{CompatWhy}
use Rattle.compat_check.specs.declared.verdict.CompatWhy.TheVariants as whys
use Rattle.compat_check.specs.declared.verdict.Verdict.{Verdict}
use Rattle.compat_check.specs.declared.verdict.Verdict.TheVariants.{Yes, No}

-- a cause of the code as one of the definitions
abbrev pub cause_of : K.Cause → Cause
cause_of causes.Kind = D.Kind
cause_of causes.Sealing = D.Sealing
cause_of causes.Extent = D.Extent
cause_of causes.Sealed = D.Sealed
cause_of causes.Count = D.Count

-- a cause of the definitions as that of a verdict
abbrev pub why_of : Cause → CompatWhy
why_of D.Kind = whys.Kind
why_of D.Sealing = whys.Sealing
why_of D.Extent = whys.Extent
why_of D.Sealed = whys.Sealed
why_of D.Count = whys.Count

-- the verdict where this is the first difference
abbrev pub verdict_of : Option Difference → Verdict
verdict_of None = Yes
verdict_of (Some d) = No (path_text d.path) (why_of d.cause)

-- a turn of the code as one of the definitions
abbrev pub turn_of : T.Turn → Turn
turn_of (turns.Named name) = D.Named name
turn_of turns.Item = D.Item

-- A difference of the code as one of the definitions. The code has the last turn first.
abbrev pub difference_of : C.Difference → Difference
difference_of d = record { path = reverse (map turn_of d.turns); cause = cause_of d.cause }

-- a difference that may be absent
abbrev pub found_of : Option C.Difference → Option Difference
found_of None = None
found_of (Some d) = Some (difference_of d)
