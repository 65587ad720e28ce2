use Rattle.std.proofs.Common.{◌≡◌, ◌++◌, drop, map}
use Rattle.type_changes.specs.Entries.{Pairing, among, entry_of}
use Rattle.type_changes.proofs.entries.push_old.Given as goal

-- the entries so far, and those of the old definition among what is left of the new ones, are all
abbrev pub invariant-loop-at : goal.invariant-loop-at
invariant-loop-at l =
    let news = map (λ d. d.now) l.news in
    (behind : Pairing) → map entry_of l.entries.items ++ among l.old behind (drop l.at news) ≡ map entry_of l.initial.entries.items ++ among l.old behind (drop l.fn.from news)
