use Rattle.std.proofs.Common.{◌≡◌, drop, map}
use Rattle.type_versions.specs.Lines.{first_refusal}
use Rattle.type_changes.specs.Lines.{refusal}
use Rattle.type_changes.proofs.told.first_refusal.Given as goal

-- the first of the lines that are left is the first of all
abbrev pub invariant-loop-line : goal.invariant-loop-line
invariant-loop-line l = first_refusal (map (λ x. refusal x.change) (drop l.line-index l.lines)) ≡ first_refusal (map (λ x. refusal x.change) l.lines)
