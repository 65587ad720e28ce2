use Rattle.std.proofs.Common.{◌≡◌, rules}
use Rattle.std.specs.Ordering.{is_lt}
use Rattle.std.proofs.lemmas.Fn.{always_returns_same}
use Rattle.std.proofs.lemmas.Iterator.{YieldsList-from_slice}
use Rattle.std.proofs.lemmas.Iterator.Consumers.{map_from_collect}
use Rattle.layout_text.proofs.ByName.{by_name_behind, ranks, stands_before}
use Rattle.layout_text.proofs.order.by_name.Goals as goal

pub returns : goal.returns
returns c =
    by_name_behind c.args.definitions.now c.in_ok-sorted.sorted.items c.sort_by.new.self.items
    (rw c.in_ok-sorted.was at (map_from_collect c.collect.result c.collect.ensures.ran (YieldsList-from_slice c.args.definitions.now c.iter.ensures.rest)))
    c.sort_by.ensures.permutation
    (c.in_ok-sort_by.ensures.sorted stands_before ranks (always_returns_same _ (λ a r. is_lt r ≡ stands_before a.0.now a.1.0.now) _ (λ a r f' k. search rules)))
    (c.sort_by.ensures.stable stands_before ranks (always_returns_same _ (λ a r. is_lt r ≡ stands_before a.0.now a.1.0.now) _ (λ a r f' k. search rules)))
