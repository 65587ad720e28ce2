use Rattle.std.proofs.Common.{◌≡◌, ◌≤◌, ◌++◌, drop, length, map}
use Rattle.type_changes.specs.Entries.{entry_of, paired}
use Rattle.type_changes.proofs.entries.paired.Given as goal

-- the entries so far, and those of what is left of both, are all
abbrev pub invariant-loop-old : goal.invariant-loop-old
invariant-loop-old l =
    let olds = map (λ d. d.now) l.olds in
    let news = map (λ d. d.now) l.news in
    (l.at ≤ length l.news) × (map entry_of l.entries.items ++ paired (drop l.old-index olds) (drop l.at news) ≡ paired olds news)
