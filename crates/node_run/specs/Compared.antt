-- Whether one type of a namespace is newer than another, by their names.
use Rattle.std.specs.Prelude.{◌≡◌, ℕ, List, codes, Option, Some, None}
use Rattle.cy_outside.specs.Written.{behind, Begins}
use Rattle.dsdl_types.specs.declared.definition.Parts.{Parts}
use Rattle.dsdl_types.specs.declared.namespace.Namespace.{Namespace}
use Rattle.compat_check.specs.Services.{parts_verdict, AreNewer}
use Rattle.compat_check.specs.declared.verdict.Verdict.{Verdict}
use Rattle.compat_check.specs.declared.verdict.Verdict.TheVariants.{Yes, No}
use Rattle.node_run.specs.NamedTypes.{named}
use Rattle.node_run.specs.declared.status.Status.{Status}
use Rattle.node_run.specs.declared.status.Status.TheVariants as status

-- how a comparison ends
abbrev pub ended : Verdict → Status
ended Yes = status.Ok
ended (No path cause) = status.NotNewer path cause

-- the same where this was found of the names, the new one first
abbrev pub compared_found : List ℕ → List ℕ → Option Parts → Option Parts → Status
compared_found new old None other = status.NoFile new
compared_found new old (Some parts) None = status.NoFile old
compared_found new old (Some parts) (Some older) = ended (parts_verdict parts older)

-- how comparing what two names of a namespace stand for ends
abbrev pub compared : Namespace → List ℕ → List ℕ → Status
compared names new old = compared_found new old (named names new) (named names old)

-- both were found, and the first is newer
abbrev pub AreFoundNewer : Option Parts → Option Parts → Type 0
AreFoundNewer (Some new) (Some old) = AreNewer new old
AreFoundNewer new old = ⊥

-- what the first name stands for in a namespace is newer than what the second does
abbrev pub IsNewer : Namespace → List ℕ → List ℕ → Type 0
IsNewer names new old = AreFoundNewer (named names new) (named names old)

-- the line where a type is newer
abbrev pub newer_line : List ℕ
newer_line = codes "newer\n"

-- how a comparison ended, and what was written of it
abbrev pub HasCompared : Namespace → List ℕ → List ℕ → Status → Option (List ℕ) → Option (List ℕ)
    → Type 0
HasCompared names new old status.Ok before after =
    (compared names new old ≡ status.Ok) × (after ≡ behind before newer_line)
HasCompared names new old status.WriteFault before after =
    (compared names new old ≡ status.Ok) × Begins newer_line before after
HasCompared names new old status.NoMemory before after = after ≡ before
HasCompared names new old status.ReadFault before after = ⊥
HasCompared names new old stat before after = (compared names new old ≡ stat) × (after ≡ before)
