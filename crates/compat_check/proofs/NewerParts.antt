-- What one definition stands for is newer than what another does exactly where the verdict is yes.
use Rattle.std.proofs.Common.{◌≡◌, ◌↔◌, ◌∙◌, List, ℕ, Option, Some, None, codes, refl, ap}
use Rattle.dsdl_types.specs.Difference.{Difference, difference}
use Rattle.dsdl_types.specs.Newer.{Newer}
use Rattle.dsdl_types.specs.Schemas.{Sch}
use Rattle.dsdl_types.specs.Views.{sch}
use Rattle.dsdl_types.specs.declared.definition.Parts.{Parts}
use Rattle.dsdl_types.specs.declared.definition.Parts.TheVariants as parts
use Rattle.dsdl_types.proofs.Comparing.{compares}
use Rattle.compat_check.specs.Services.{in_half, both, parts_verdict, AreNewer}
use Rattle.compat_check.specs.Verdicts.{verdict_of}
use Rattle.compat_check.specs.declared.verdict.Verdict.{Verdict}
use Rattle.compat_check.specs.declared.verdict.Verdict.TheVariants.{Yes, No}

no_difference : (d : Option Difference) → verdict_of d ≡ Yes → d ≡ None
no_difference None e = refl
no_difference (Some d) e = absurd cc

of_half : (half : List ℕ) (v : Verdict) → in_half half v ≡ Yes → v ≡ Yes
of_half half Yes e = refl
of_half half (No path why) e = absurd cc

pub of_first : (a b : Verdict) → both a b ≡ Yes → a ≡ Yes
of_first Yes b e = refl
of_first (No path why) b e = absurd cc

pub of_second : (a b : Verdict) → both a b ≡ Yes → b ≡ Yes
of_second Yes b e = e
of_second (No path why) b e = absurd cc

pub of_both : (a b : Verdict) → a ≡ Yes → b ≡ Yes → both a b ≡ Yes
of_both a b e f = ap (λ v. both v b) e ∙ f

newer_by : (new old : Sch) → verdict_of (difference new old) ≡ Yes → Newer new old
newer_by new old e = (compares new old).0 (no_difference (difference new old) e)

verdict_by : (new old : Sch) → Newer new old → verdict_of (difference new old) ≡ Yes
verdict_by new old h = ap verdict_of ((compares new old).1 h)

parts_newer : (new old : Parts) → parts_verdict new old ≡ Yes → AreNewer new old
parts_newer (parts.Message new) (parts.Message old) e = newer_by (sch new) (sch old) e
parts_newer (parts.Message new) (parts.Service old older) e = absurd cc
parts_newer (parts.Service new newer) (parts.Message old) e = absurd cc
parts_newer (parts.Service new newer) (parts.Service old older) e =
    let request = in_half (codes "request") (verdict_of (difference (sch new) (sch old))) in
    let response = in_half (codes "response") (verdict_of (difference (sch newer) (sch older))) in (
      newer_by (sch new) (sch old) (of_half (codes "request") _ (of_first request response e)),
      newer_by (sch newer) (sch older) (of_half (codes "response") _ (of_second request response e)),
    )

newer_parts : (new old : Parts) → AreNewer new old → parts_verdict new old ≡ Yes
newer_parts (parts.Message new) (parts.Message old) h = verdict_by (sch new) (sch old) h
newer_parts (parts.Message new) (parts.Service old older) h = absurd h
newer_parts (parts.Service new newer) (parts.Message old) h = absurd h
newer_parts (parts.Service new newer) (parts.Service old older) h =
    of_both _ _ (ap (in_half (codes "request")) (verdict_by (sch new) (sch old) h.0)) (ap (in_half (codes "response")) (verdict_by (sch newer) (sch older) h.1))

pub yes_is_newer : (new old : Parts) → (parts_verdict new old ≡ Yes) ↔ AreNewer new old
yes_is_newer new old = (parts_newer new old, newer_parts new old)
