use Rattle.std.proofs.Common.{List, ℕ, Some, Err, sym, ap, subst}
use Rattle.cy_outside.specs.Files.{ReadsFront}
use Rattle.node_plan.specs.declared.plan.Plan.{Plan}
use Rattle.cyphal.proofs.Causes.{kept_cause, same_cause}
use Rattle.cyphal.proofs.Plans.{error_ends, gives_plan}
use Rattle.cyphal.proofs.plan_file.plan_in.Goals as goal

pub returns-in-Err-clause-cause : goal.returns-in-Err-clause-cause
returns-in-Err-clause-cause g c =
    same_cause (List ℕ) Plan _ _ c.in-Err.status c.in-Err.ensures.cause

pub returns-clause-cause : goal.returns-clause-cause
returns-clause-cause g c =
    kept_cause Plan _ _ c.plan_refused.result c.in-Ok.ensures.cause c.plan_refused.ensures.read

pub returns-in-Ok-read_plan-clause-plan : goal.returns-in-Ok-read_plan-clause-plan
returns-in-Ok-read_plan-clause-plan g c =
    let files = g.T.Tree.files c.args.tree.now in
    let names = c.args.names.now in
    let there = subst (λ (t : List ℕ). ReadsFront files c.args.path.now 1048609 (Some t)) (sym c.as_slice.ensures) c.in-Ok.ensures.text in
    gives_plan names c.args.path.now 1048609 files c.as_slice.result.now c.in-Ok-read_plan.plan there (c.read_plan.ensures.enough names) c.in-Ok-read_plan.ensures.plan

pub returns-clause-answer : goal.returns-clause-answer
returns-clause-answer g c h =
    let files = g.T.Tree.files c.args.tree.now in
    let names = c.args.names.now in
    let there = subst (λ (t : List ℕ). ReadsFront files c.args.path.now 1048609 (Some t)) (sym c.as_slice.ensures) c.in-Ok.ensures.text in
    error_ends names c.args.path.now 1048609 files c.as_slice.result.now c.plan_refused.result c.in-Err-read_plan.error there (c.read_plan.ensures.enough names)
    (λ n w e. c.in-Err-read_plan.ensures.refused n w (ap Err e)) c.plan_refused.ensures.no_memory c.plan_refused.ensures.refused h
