use Rattle.std.proofs.Common.{◌≡◌, ◌++◌, length}
use Rattle.node_plan.specs.Migrate.{migrated_text}
use Rattle.node_plan.proofs.migration.migrated_text.Given as goal

-- what was made, and then what is made of the lines that are left
abbrev pub invariant-loop-line : goal.invariant-loop-line
invariant-loop-line l = migrated_text l.numbers l.text ≡ l.made ++ migrated_text l.numbers l.behind

abbrev pub decreases-loop-line : goal.decreases-loop-line
decreases-loop-line l = length l.behind
