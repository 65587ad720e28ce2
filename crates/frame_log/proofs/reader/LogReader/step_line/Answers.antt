use Rattle.std.proofs.Common.{◌∙◌, ◌<◌, ◌+◌, ap, sym, subst, length, List, ℕ, arith}
use Rattle.frame_log.specs.Line.{said_of}
use Rattle.frame_log.proofs.ReadsLemmas.{line-kept}
use Rattle.frame_log.proofs.reader.LogReader.step_line.Goals as goal

pub take_line-requires : goal.take_line-requires
take_line-requires c =
    let old = c.args.self.now in
    let w = c.window.result.now in
    let i = c.in-Some.seen.len in
    let within : i < length old.kept_bytes = subst (λ (h : List ℕ). i < length h) c.as_slice.ensures.value c.if-seen-as_slice.true in
    let a = line-kept w old.kept_bytes i c.in-Some.ensures.line within (c.window.ensures.same (i + 1) (omega (arith, within)) (omega (arith, c.in-Some.ensures.near))) in record {
      line = record {
        line = a.line;
        said = sym c.in-Some.ensures.said ∙ ap (said_of old.buses) a.same;
      };
    }
