use Rattle.std.proofs.Common.{◌≡◌, ◌++◌, map, take}
use Rattle.type_changes.specs.Entries.{entry_of, of_new}
use Rattle.type_changes.proofs.entries.push_news.Given as goal

abbrev pub invariant-loop-new : goal.invariant-loop-new
invariant-loop-new l =
    map entry_of l.entries.items ≡ map entry_of l.initial.entries.items ++ map of_new (take l.new-index (map (λ d. d.now) l.news))
