use Rattle.std.proofs.Common.{List, ℕ, Some, Err, sym, ap, subst}
use Rattle.cy_outside.specs.Files.{ReadsFront}
use Rattle.cyphal.proofs.Causes.{kept_cause}
use Rattle.cyphal.proofs.Migrations.{becomes}
use Rattle.cyphal.proofs.Plans.{error_ends}
use Rattle.cyphal.proofs.jobs.migrate.migrated_in.Goals as goal

pub returns-clause-cause : goal.returns-clause-cause
returns-clause-cause g c =
    kept_cause (List ℕ) _ _ c.plan_refused.result c.in-Ok.ensures.cause c.plan_refused.ensures.read

pub returns-in-Ok-migrate-clause-becomes : goal.returns-in-Ok-migrate-clause-becomes
returns-in-Ok-migrate-clause-becomes g c =
    let files = g.T.Tree.files c.args.tree.now in
    let names = c.args.names.now in
    let there = subst (λ (t : List ℕ). ReadsFront files c.args.path.now 1048609 (Some t)) (sym c.as_slice.ensures) c.in-Ok.ensures.text in
    becomes names c.args.path.now files c.as_slice.result.now c.in-Ok-migrate.new there (c.front_decides.ensures.front names) c.front_decides.ensures.short c.in-Ok-migrate.ensures.migrated

pub returns-clause-answer : goal.returns-clause-answer
returns-clause-answer g c h =
    let files = g.T.Tree.files c.args.tree.now in
    let names = c.args.names.now in
    let there = subst (λ (t : List ℕ). ReadsFront files c.args.path.now 1048609 (Some t)) (sym c.as_slice.ensures) c.in-Ok.ensures.text in
    error_ends names c.args.path.now 1048609 files c.as_slice.result.now c.plan_refused.result c.in-Err-migrate.error there (c.front_decides.ensures.front names)
    (λ n w e. c.in-Err-migrate.ensures.refused n w (ap Err e)) c.plan_refused.ensures.no_memory c.plan_refused.ensures.refused h
