-- Lines of comparisons, and the first verdict of them that isn't yes.
use Rattle.std.specs.Prelude.{◌≡◌, ℕ, List, Option}
use Rattle.cy_outside.specs.Written.{behind, Begins}
use Rattle.compat_check.specs.declared.verdict.Verdict.{Verdict}
use Rattle.node_run.specs.Compared.{ended}
use Rattle.node_run.specs.declared.status.Status.{Status}
use Rattle.node_run.specs.declared.status.Status.TheVariants as status

-- lines with this first verdict were written, as far as the status says: where that is how the
-- comparisons end, all of them, also where it is that one isn't newer
abbrev pub IsTold : List ℕ → Verdict → Status → Option (List ℕ) → Option (List ℕ) → Type 0
IsTold lines first status.WriteFault before after = Begins lines before after
IsTold lines first stat before after = (stat ≡ ended first) × (after ≡ behind before lines)

-- the same of lines of which this holds; where memory was wanting, none is written
abbrev pub HasTold : (List ℕ → Verdict → Type 0) → Status → Option (List ℕ) → Option (List ℕ)
    → Type 0
HasTold AreLines status.NoMemory before after = after ≡ before
HasTold AreLines stat before after =
    (lines : List ℕ) × (first : Verdict) × AreLines lines first
    × IsTold lines first stat before after
