-- What the plan at a path becomes in version 2.
use Rattle.std.proofs.Common.{◌≡◌, ◌∙◌, ℕ, inr, List, Option, Some, None, take, refl, sym, subst, arith}
use Rattle.cy_outside.specs.Files.{Files, ReadsFront}
use Rattle.dsdl_types.specs.declared.namespace.Namespace.{Namespace}
use Rattle.node_plan.specs.Laws.{PlansAreShort}
use Rattle.node_plan.specs.Plan.{Good}
use Rattle.node_run.specs.declared.status.Status.TheVariants as status
use Rattle.node_plan.specs.Answers.{IsMigrated}
use Rattle.cyphal.specs.Plans.{EndsOnFile, EndsIn, EndsAt}
use Rattle.cyphal.specs.jobs.Bound.{bounded}
use Rattle.cyphal.specs.jobs.Migrate.{Becomes, BecomesAt}
use Rattle.cyphal.proofs.Plans.{AreEnough, file_found}
use Rattle.std.proofs.lemmas.List.{take_all}

-- what was read of a plan's text is the whole file
pub becomes : (names : Namespace) (path : List ℕ) (files : Option Files) (text new : List ℕ) → ReadsFront files path 1048609 (Some text) → AreEnough names 1048609
    → PlansAreShort → IsMigrated names text new → Becomes names path files new
becomes names path None text new r enough short m = tt
becomes names path (Some fs) text new r enough short m =
    let f = file_found names path 1048609 fs text r enough in
    let few = short names f.all m.0 (f.plan (Good m.0) m.1) in
    let whole : take 1048609 f.all ≡ f.all = take_all 1048609 f.all (omega (arith, few)) in
    (f.all, f.is, subst (λ t. IsMigrated names t new) (f.front ∙ whole) m)

-- and the command ends well
well_in : (names : Namespace) (path : List ℕ) (files : Option Files) (new : List ℕ) → Becomes names path files new → EndsIn bounded names path files status.Ok
well_in names path None new b = tt
well_in names path (Some fs) new b =
    subst (λ (o : Option (List ℕ)). EndsOnFile bounded names path o status.Ok) (sym b.1)
    (record { plan = Good b.2.0; is = b.2.1; end = refl })

pub ends_well : (root path : List ℕ) (files : Option Files) (new : List ℕ) → BecomesAt root path files new → EndsAt bounded root path files status.Ok
ends_well root path files new b = (refl, inr (record { names = b.names; is = b.is; end = well_in b.names path files new b.becomes }))
