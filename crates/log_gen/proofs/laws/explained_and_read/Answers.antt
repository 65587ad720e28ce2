use Rattle.std.proofs.Common.{subst, sym}
use Rattle.std.specs.Prelude.{ℕ}
use Rattle.log_gen.specs.Rows.{pairs_of, records_of, rows}
use Rattle.log_gen.specs.Rules.{payload_of, sent_by, transfers, transfers_each, way_of}
use Rattle.log_gen.specs.Laws.{ExplainsSource}
use Rattle.log_gen.proofs.Payloads.{are_payloads, four_each, transfers_few}
use Rattle.log_gen.proofs.laws.explained_and_read.Goals as goal

pub returns-clause-explained : goal.returns-clause-explained
returns-clause-explained c s l =
    let number = c.args.number in
    let P : ℕ → Type 0 = λ n. let all = rows (payload_of number) (way_of number) n in ExplainsSource (sent_by number s) s (pairs_of s all) (records_of (payload_of number) all) in
    subst P (sym four_each) (c.each_is_explained.ensures (payload_of number) (way_of number) transfers_each s l)

pub returns-clause-reads : goal.returns-clause-reads
returns-clause-reads c =
    c.each_reads.ensures (payload_of c.args.number) (way_of c.args.number) transfers (are_payloads c.args.number) transfers_few
