use Rattle.std.proofs.Common.{reverse, sym, ap, ◌∙◌}
use Rattle.compat_check.specs.Verdicts.{found_of}
use Rattle.compat_check.proofs.Verdicts.{yes_where_newer, no_where_older, no_with_path, at_error, not_newer, found_not_newer}
use Rattle.compat_check.proofs.verdict.newer.Goals as goal

pub returns-in-None-clause-yes : goal.returns-in-None-clause-yes
returns-in-None-clause-yes c = yes_where_newer _ _ (sym (ap found_of c.in-None.is) ∙ c.in_ok-difference.ensures.found)

pub returns-in_ok-path-in-Some-clause-yes : goal.returns-in_ok-path-in-Some-clause-yes
returns-in_ok-path-in-Some-clause-yes c = no_where_older _ _ c.in-Some.found _ _ (sym (ap found_of c.in-Some.is) ∙ c.in_ok-difference.ensures.found)

pub returns-in_ok-path-in-Some-clause-no : goal.returns-in_ok-path-in-Some-clause-no
returns-in_ok-path-in-Some-clause-no c =
    no_with_path c.in-Some.found _ _ _ _ (c.deref.ensures.value ∙ c.reverse.ensures.items ∙ ap reverse c.into_vec-turns.ensures) c.in_ok-path-in-Some.ensures c.why-why.ensures (sym (ap found_of c.in-Some.is) ∙ c.in_ok-difference.ensures.found)

pub returns-in_err-difference-clause-memory : goal.returns-in_err-difference-clause-memory
returns-in_err-difference-clause-memory c = at_error _ (not_newer _ _ c.in_err-difference.ensures.memory)

pub returns-in_err-path-in-Some-clause-memory : goal.returns-in_err-path-in-Some-clause-memory
returns-in_err-path-in-Some-clause-memory c =
    at_error _ (found_not_newer _ _ c.in-Some.found (sym (ap found_of c.in-Some.is) ∙ c.in_ok-difference.ensures.found))
