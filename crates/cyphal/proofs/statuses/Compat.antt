-- A comparison's status.
use Rattle.std.proofs.Common.{◌≡◌, ◌↔◌, ◌∙◌, ℕ, false, List, Option, Some, None, sym, subst}
use Rattle.dsdl_types.specs.declared.definition.Parts.{Parts}
use Rattle.dsdl_types.specs.declared.namespace.Namespace.{Namespace}
use Rattle.compat_check.specs.Services.{parts_verdict}
use Rattle.compat_check.specs.declared.verdict.Verdict.{Verdict}
use Rattle.compat_check.specs.declared.verdict.Verdict.TheVariants as verdict
use Rattle.node_run.specs.NamedTypes.{named as named_in}
use Rattle.node_run.specs.Compared.{ended, compared_found, compared, HasCompared, IsNewer}
use Rattle.node_run.specs.declared.status.Status.{Status}
use Rattle.node_run.specs.declared.status.Status.TheVariants as status
use Rattle.cyphal.specs.Job.{is_fault}

-- a comparison's status is the one that is asked for
pub compared_answer : (names : Namespace) (new old : List ℕ) (stat : Status) (before after : Option (List ℕ)) → HasCompared names new old stat before after → is_fault stat ≡ false → stat ≡ compared names new old
compared_answer names new old status.Ok before after h f = sym h.0
compared_answer names new old status.Usage before after h f = sym h.0
compared_answer names new old (status.Dsdl file n w) before after h f = sym h.0
compared_answer names new old (status.Plan n w) before after h f = sym h.0
compared_answer names new old (status.Log n w) before after h f = sym h.0
compared_answer names new old (status.Text line) before after h f = sym h.0
compared_answer names new old (status.Unreadable line path w) before after h f = sym h.0
compared_answer names new old (status.NotNewer path w) before after h f = sym h.0
compared_answer names new old status.LogLong before after h f = sym h.0
compared_answer names new old (status.NoFile path) before after h f = sym h.0
compared_answer names new old status.ReadFault before after h f = absurd h
compared_answer names new old status.WriteFault before after h f = absurd cc
compared_answer names new old status.NoMemory before after h f = absurd cc

-- and it is Ok exactly where the comparison ends well
pub newer_ends : (names : Namespace) (new old : List ℕ) (stat : Status) → stat ≡ compared names new old
    → (compared names new old ≡ status.Ok) ↔ IsNewer names new old → (stat ≡ status.Ok) ↔ IsNewer names new old
newer_ends names new old stat e law = (λ ok. law.0 (sym e ∙ ok), λ newer. e ∙ law.1 newer)

pub ended_usage : (verdict : Verdict) → ended verdict ≡ status.Usage → ⊥
ended_usage verdict.Yes e = absurd cc
ended_usage (verdict.No path why) e = absurd cc

found_usage : (new old : List ℕ) (parts older : Option Parts) → compared_found new old parts older ≡ status.Usage → ⊥
found_usage new old None older e = absurd cc
found_usage new old (Some parts) None e = absurd cc
found_usage new old (Some parts) (Some older) e = ended_usage (parts_verdict parts older) e

-- it is none of the statuses before it
pub compared_usage : (names : Namespace) (new old : List ℕ) (stat : Status) (before after : Option (List ℕ)) → HasCompared names new old stat before after → stat ≡ status.Usage → ⊥
compared_usage names new old stat before after h e =
    let t = subst (λ (s : Status). HasCompared names new old s before after) e h in found_usage new old (named_in names new) (named_in names old) t.0

pub compared_read : (names : Namespace) (new old : List ℕ) (stat : Status) (before after : Option (List ℕ)) → HasCompared names new old stat before after → stat ≡ status.ReadFault → ⊥
compared_read names new old stat before after h e = subst (λ (s : Status). HasCompared names new old s before after) e h
