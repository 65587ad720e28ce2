use Rattle.std.proofs.Common.{◌≡◌, ℕ, ◌%◌, sym, ap, ◌∙◌, subst, add-one}
use Rattle.std.proofs.lemmas.Bool.{ne_eqb}
use Rattle.log_gen.specs.Rows.{on_buses, pairs_of, rows}
use Rattle.log_gen.specs.Rules.{payload_of, way_of}
use Rattle.log_gen.proofs.Pairs.{others_on_buses}
use Rattle.log_gen.proofs.origin.push_transfers.Goals as goal
use Rattle.log_gen.proofs.origin.push_transfers.Goals.{then-transfer-source+in_ok-push_transfer, else-transfer-source}

pub loop-transfer-preserved : goal.loop-transfer-preserved
loop-transfer-preserved c =
    let payload = payload_of c.args.number in
    let way = way_of c.args.number in
    let j = c.loop-transfer.transfer in
    let past = rows payload way j in
    let next = ap (λ n. pairs_of c.args.source (rows payload way n)) (sym (add-one j)) in
    elim c.if-transfer-source.branch [
      | then-transfer-source+in_ok-push_transfer w ↦
          (let P : ℕ → Type 0 = λ s. c.loop-transfer.pairs ≡ pairs_of s past → w.push_transfer.new.pairs ≡ pairs_of s (on_buses payload way j 3 past) in
          w.pairs-is
          ∙ subst P w.if-transfer-source.true (w.in_ok-push_transfer.ensures {u = tt} past) c.loop-transfer.invariant
          ∙ next)
      | else-transfer-source w ↦
          w.pairs-is ∙ c.loop-transfer.invariant
          ∙ sym (others_on_buses payload way c.args.source j 3 past (ne_eqb (j % 4) c.args.source w.if-transfer-source.false))
          ∙ next
    ]
