use Rattle.std.proofs.Common.{subst, sym, arith}
use Rattle.bit_length.specs.Lengths.{Has, Same, Only, Sums, Joins}
use Rattle.bit_length.specs.Moved.{Moved}
use Rattle.bit_length.proofs.SetLemmas.{done, same_join}
use Rattle.bit_length.proofs.MovedLemmas.{joins_right, moved_only, unmoved, same_back}
use Rattle.bit_length.proofs.run_set.RunSet.join_moved.Goals as goal

pub returns-then-by-eq0 : goal.returns-then-by-eq0
returns-then-by-eq0 c =
    let own = Has c.args.self.now in
    let other = Has c.args.o.now in
    let same = subst (λ k. Same other (Moved k other)) (sym c.if-by-eq0.true) (same_back (Moved 0 other) other (unmoved other)) in
    done c.join_within.result (Joins own other) (Joins own (Moved c.args.by other)) (joins_right own other (Moved c.args.by other) same) c.join_within.ensures

pub moved-requires : goal.moved-requires
moved-requires c = λ m h.
    let (n, x, e) = (moved_only c.args.by (Has c.args.o.now) m).0 h in
    let l = c.requires n x in omega arith

pub returns : goal.returns
returns c =
    let own = Has c.args.self.now in
    let other = Has c.args.o.now in
    let sums = Sums (Only c.args.by) other in
    let result = Has c.in_ok-moved.field-0 in
    done c.join_within-3.result (Joins own result) (Joins own (Moved c.args.by other)) (joins_right own result (Moved c.args.by other) (same_join result sums (Moved c.args.by other) c.in_ok-moved.ensures (moved_only c.args.by other))) c.join_within-3.ensures
