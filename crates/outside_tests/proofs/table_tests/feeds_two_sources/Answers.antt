use Rattle.std.proofs.Common.{ℕ, sym, subst, arith}
use Rattle.dsdl_types.specs.Views.{sch}
use Rattle.rx_session.specs.Extents.{extent_bytes}
use Rattle.rx_table.specs.Table.{states, HeardBy}
use Rattle.outside_tests.specs.declared.table_tests.Four.{Four}
use Rattle.outside_tests.proofs.table_tests.feeds_two_sources.Goals as goal

pub feed-requires : goal.feed-requires
feed-requires g c =
    subst (λ (now : ℕ). HeardBy now (states (extent_bytes (λ (four : Four). sch four.schema)) c.loop-ident.table.ports.items)) (sym c.whole.ensures) c.loop-ident.invariant

pub loop-ident-preserved : goal.loop-ident-preserved
loop-ident-preserved g c = c.feed.follows.holds-at-none.1 5 (let e = c.whole.ensures in omega arith)
