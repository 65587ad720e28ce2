use Rattle.std.proofs.Common.{◌≤◌, ◌∙◌, length, rules, sym, ap, subst}
use Rattle.node_plan.specs.declared.line.Said.TheVariants as said
use Rattle.node_plan.specs.IsPlan.{IsFolderPath}
use Rattle.node_plan.proofs.PathLemmas.{is_path, says_no_path, says_path}
use Rattle.node_plan.proofs.serve.serve.Goals as goal

pub returns-in_ok-from_str-in-Ok-clause-value : goal.returns-in_ok-from_str-in-Ok-clause-value
returns-in_ok-from_str-in-Ok-clause-value c =
    let some : 1 ≤ length c.args.path.now = search rules in
    ap said.Serve (c.in_ok-from_str-in-Ok.ensures ∙ c.in-Ok.ensures.cases.0) ∙ says_path c.args.path.now some c.in-Ok.ensures.cases.1

pub returns-in_ok-from_str-in-Ok-clause-sound : goal.returns-in_ok-from_str-in-Ok-clause-sound
returns-in_ok-from_str-in-Ok-clause-sound c =
    let some : 1 ≤ length c.args.path.now = search rules in
    subst IsFolderPath (sym (c.in_ok-from_str-in-Ok.ensures ∙ c.in-Ok.ensures.cases.0)) (is_path c.args.path.now some c.in-Ok.ensures.cases.1 c.requires)

pub returns-in-Err-clause-value : goal.returns-in-Err-clause-value
returns-in-Err-clause-value c = says_no_path c.args.path.now c.in-Err.ensures.cases.0
