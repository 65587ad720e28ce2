use Rattle.std.proofs.Common.{sym, subst, nat_eq, get_or, List, ℕ, ◌%◌}
use Rattle.std.specs.List.{IsDistinct}
use Rattle.rx_table.specs.Ports.{sources_of}
use Rattle.rx_table.specs.Table.{entries_of}
use Rattle.rx_table.proofs.KnownSources.{sources-keys, distinct-position}
use Rattle.rx_table.proofs.port.Port.hinted.Goals as goal

pub returns-then-is_at-clause-index : goal.returns-then-is_at-clause-index
returns-then-is_at-clause-index g c =
    let es = c.args.self.now.sessions.entries in
    sym (distinct-position c.args.source (get_or c.args.self.now.hints (c.args.source % 128) 0) (sources_of (entries_of es)) (subst (λ (ks : List ℕ). IsDistinct nat_eq ks) (sources-keys es) c.len.ensures.unique) (c.is_at.ensures c.if-is_at.true))

pub returns-then-is_at-clause-unique : goal.returns-then-is_at-clause-unique
returns-then-is_at-clause-unique g c = subst (λ (ks : List ℕ). IsDistinct nat_eq ks) (sources-keys c.args.self.now.sessions.entries) c.len.ensures.unique

pub returns-else-hint-len-clause-unique : goal.returns-else-hint-len-clause-unique
returns-else-hint-len-clause-unique g c = subst (λ (ks : List ℕ). IsDistinct nat_eq ks) (sources-keys c.args.self.now.sessions.entries) c.len.ensures.unique
