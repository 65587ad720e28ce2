-- A comparison ends well exactly where the one type is newer than the other.
use Rattle.std.proofs.Common.{◌≡◌, ◌↔◌, ℕ, List, Option, Some, None, refl, ap}
use Rattle.dsdl_types.specs.declared.definition.Parts.{Parts}
use Rattle.dsdl_types.specs.declared.namespace.Namespace.{Namespace}
use Rattle.compat_check.specs.Services.{parts_verdict}
use Rattle.compat_check.specs.declared.verdict.Verdict.{Verdict}
use Rattle.compat_check.specs.declared.verdict.Verdict.TheVariants.{Yes, No}
use Rattle.compat_check.proofs.NewerParts.{yes_is_newer}
use Rattle.node_run.specs.Compared.{ended, compared_found, compared, AreFoundNewer, IsNewer}
use Rattle.node_run.specs.NamedTypes.{named}
use Rattle.node_run.specs.declared.status.Status.TheVariants as status

of_end : (v : Verdict) → ended v ≡ status.Ok → v ≡ Yes
of_end Yes e = refl
of_end (No path why) e = absurd cc

found_newer : (new old : List ℕ) (a b : Option Parts) → (compared_found new old a b ≡ status.Ok) ↔ AreFoundNewer a b
found_newer new old None b = (λ e. absurd cc, λ h. absurd h)
found_newer new old (Some parts) None = (λ e. absurd cc, λ h. absurd h)
found_newer new old (Some parts) (Some older) =
    let law = yes_is_newer parts older in
    (λ e. law.0 (of_end (parts_verdict parts older) e), λ h. ap ended (law.1 h))

pub compared_newer : (names : Namespace) (new old : List ℕ) → (compared names new old ≡ status.Ok) ↔ IsNewer names new old
compared_newer names new old = found_newer new old (named names new) (named names old)
