-- What lines of comparisons come to.
use Rattle.std.proofs.Common.{◌≡◌, ℕ, false, List, Option, refl, sym, subst}
use Rattle.compat_check.specs.declared.verdict.Verdict.{Verdict}
use Rattle.compat_check.specs.declared.verdict.Verdict.TheVariants.{Yes, No}
use Rattle.node_run.specs.Compared.{ended}
use Rattle.node_run.specs.declared.status.Status.{Status}
use Rattle.node_run.specs.declared.status.Status.TheVariants as status
use Rattle.cyphal.specs.Job.{is_fault}
use Rattle.cyphal.specs.Verdicts.{IsTold, HasTold}
use Rattle.cyphal.proofs.statuses.Compat.{ended_usage}

-- where they end well, no verdict is other than yes
pub well : (first : Verdict) → ended first ≡ status.Ok → first ≡ Yes
well Yes e = refl
well (No path why) e = absurd cc

ended_read : (first : Verdict) → ended first ≡ status.ReadFault → ⊥
ended_read Yes e = absurd cc
ended_read (No path why) e = absurd cc

ended_memory : (first : Verdict) → status.NoMemory ≡ ended first → ⊥
ended_memory Yes e = absurd cc
ended_memory (No path why) e = absurd cc

these_lines : (AreLines : List ℕ → Verdict → Type 0) (lines : List ℕ) (first : Verdict) (stat : Status) (before after : Option (List ℕ)) → AreLines lines first
    → IsTold lines first stat before after → HasTold AreLines stat before after
these_lines AreLines lines first status.NoMemory before after are told = absurd (ended_memory first told.0)
these_lines AreLines lines first other before after are told = (lines, first, are, told)

-- lines that were told are lines of which this holds
pub told_lines : (AreLines : List ℕ → Verdict → Type 0) (lines text : List ℕ) (first : Verdict) (stat : Status) (before after : Option (List ℕ))
    → AreLines lines first
    → text ≡ lines → IsTold text first stat before after → HasTold AreLines stat before after
told_lines AreLines lines text first stat before after are e told =
    these_lines AreLines lines first stat before after are (subst (λ (l : List ℕ). IsTold l first stat before after) e told)

-- they end as their first verdict says, but where a write failed
pub told_ends : (lines : List ℕ) (first : Verdict) (stat : Status) (before after : Option (List ℕ)) → IsTold lines first stat before after
    → is_fault stat ≡ false → stat ≡ ended first
told_ends lines first status.WriteFault before after told h = absurd cc
told_ends lines first other before after told h = told.0

-- they end with none of the statuses before them
pub told_usage : (AreLines : List ℕ → Verdict → Type 0) (stat : Status) (before after : Option (List ℕ)) → HasTold AreLines stat before after
    → stat ≡ status.Usage → ⊥
told_usage AreLines stat before after h e =
    let told = subst (λ (s : Status). HasTold AreLines s before after) e h in ended_usage told.1 (sym told.3.0)

pub told_read : (AreLines : List ℕ → Verdict → Type 0) (stat : Status) (before after : Option (List ℕ)) → HasTold AreLines stat before after
    → stat ≡ status.ReadFault → ⊥
told_read AreLines stat before after h e =
    let told = subst (λ (s : Status). HasTold AreLines s before after) e h in ended_read told.1 (sym told.3.0)
