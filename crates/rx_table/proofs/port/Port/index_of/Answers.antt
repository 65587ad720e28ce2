use Rattle.std.proofs.Common.{◌∙◌, ap, sym, subst, nat_eq, position, get_or, List, ℕ, ◌%◌}
use Rattle.std.specs.List.{IsDistinct}
use Rattle.rx_table.specs.Ports.{sources_of}
use Rattle.rx_table.specs.Table.{entries_of}
use Rattle.rx_table.proofs.KnownSources.{sources-keys, distinct-position}
use Rattle.rx_table.proofs.port.Port.index_of.Goals as goal

pub returns-then-is_at-clause-index : goal.returns-then-is_at-clause-index
returns-then-is_at-clause-index g c =
    let es = c.args.self.now.sessions.entries in
    sym (distinct-position c.args.source (get_or c.args.self.now.hints (c.args.source % 128) 0) (sources_of (entries_of es)) (subst (λ (ks : List ℕ). IsDistinct nat_eq ks) (sources-keys es) c.len.ensures.unique) (c.is_at.ensures c.if-is_at.true))

pub returns-then-is_at-clause-unique : goal.returns-then-is_at-clause-unique
returns-then-is_at-clause-unique g c = subst (λ (ks : List ℕ). IsDistinct nat_eq ks) (sources-keys c.args.self.now.sessions.entries) c.len.ensures.unique

pub returns-clause-index : goal.returns-clause-index
returns-clause-index g c = c.get_index_of.ensures.index ∙ ap (λ (ks : List ℕ). position (nat_eq c.args.source) ks) (sources-keys c.args.self.now.sessions.entries)

pub returns-clause-unique : goal.returns-clause-unique
returns-clause-unique g c = subst (λ (ks : List ℕ). IsDistinct nat_eq ks) (sources-keys c.args.self.now.sessions.entries) c.len.ensures.unique
