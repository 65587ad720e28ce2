use Rattle.std.proofs.Common.{◌∙◌, Some, ap, sym, drop}
use Rattle.frame_log.proofs.ReadsLemmas.{micros-reads}
use Rattle.frame_log.proofs.MicrosLemmas.{micros_from, micros-seen}
use Rattle.frame_log.proofs.quick.micros_at.Goals as goal

pub returns-clause-reads : goal.returns-clause-reads
returns-clause-reads c =
    let s = c.args.s.now in
    micros-reads s (drop 8 s) _ (micros-seen s c.requires (c.is_micros.ensures c.if-not-is_micros.false) ∙ ap (λ p. Some (micros_from p, drop 8 s)) (sym c.tens.ensures))
