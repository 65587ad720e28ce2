use Rattle.std.proofs.Common.{◌∙◌, List, ℕ, subst, arith}
use Rattle.frame_log.specs.Reader.{place_of}
use Rattle.frame_log.specs.Used.{Passes}
use Rattle.frame_log.proofs.UsedLemmas.{passes-more}
use Rattle.frame_log.proofs.reader.LogReader.from_kept.Goals as goal

pub loop-step-preserved : goal.loop-step-preserved
loop-step-preserved c =
    let i = c.loop-step.invariant in
    let old = c.args.self.now in
    let mid = c.loop-step.self in
    let new = c.step_line.new.self in
    let more = subst (λ (b : List (List ℕ)). Passes b (place_of mid) mid.kept_bytes (place_of new) new.kept_bytes) i.same.0 c.in-Skipped.ensures.used in
    let same = c.step_line.ensures.same in record {
      next = λ rest. i.next rest ∙ c.in-Skipped.ensures.next rest;
      passes = passes-more old.buses (place_of old) (place_of mid) (place_of new) old.kept_bytes mid.kept_bytes new.kept_bytes i.passes more;
      within = omega (arith, i.within, c.step_line.ensures.within);
      same = (same.0 ∙ i.same.0, same.1 ∙ i.same.1, same.2 ∙ i.same.2, same.3 ∙ i.same.3);
    }
