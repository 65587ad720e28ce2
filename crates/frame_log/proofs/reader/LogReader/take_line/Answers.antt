use Rattle.std.proofs.Common.{◌∙◌, ◌+◌, ◌++◌, subst, sym, take, drop, length, List, ℕ, refl}
use Rattle.frame_log.specs.Line.{Said}
use Rattle.frame_log.specs.Log.{Log, given, given_by, log_from}
use Rattle.frame_log.specs.Reader.{place_of, log_behind}
use Rattle.frame_log.specs.Steps.{IsGiven, IsStep}
use Rattle.frame_log.specs.UsedSteps.{IsUsed}
use Rattle.frame_log.proofs.LogLemmas.{step-given, log_from-line, log_from-same}
use Rattle.frame_log.proofs.UsedLemmas.{used-given}
use Rattle.frame_log.proofs.reader.LogReader.take_line.Goals as goal

-- the step is what the first line gives
first : (c : goal.After-accept) → IsGiven (given c.args.self.now.buses (place_of c.args.self.now) (take c.args.i c.args.self.now.kept_bytes)) c.accept.result c.accept.new.written (place_of c.accept.new.self)
first c =
    let old = c.args.self.now in
    subst (λ (q : Said). IsGiven (given_by (place_of old) (old.lines + 1) q) c.accept.result c.accept.new.written (place_of c.accept.new.self)) c.requires.line.said c.accept.ensures.given

pub returns-clause-next : goal.returns-clause-next
returns-clause-next c rest =
    let old = c.args.self.now in
    let new = c.accept.new.self in
    let i = c.args.i in
    let stepped : IsStep (log_behind old rest) c.accept.result c.accept.new.written (log_from old.buses (old.room + length (drop (i + 1) old.kept_bytes)) (drop (i + 1) old.kept_bytes ++ rest) (place_of new)) =
    step-given (given old.buses (place_of old) (take i old.kept_bytes)) c.accept.result c.accept.new.written (place_of new)
    (λ p. log_from old.buses (old.room + length (drop (i + 1) old.kept_bytes)) (drop (i + 1) old.kept_bytes ++ rest) p) (log_behind old rest) (first c)
    (log_from-line old.buses old.room old.kept_bytes rest i (place_of old) c.requires.line.line) in
    subst (λ (l : Log). IsStep (log_behind old rest) c.accept.result c.accept.new.written l)
    (log_from-same old.buses new.buses old.room new.room (drop (i + 1) old.kept_bytes) new.kept_bytes rest (place_of new) c.accept.ensures.same.0 c.accept.ensures.same.2 (c.accept.ensures.same.1 ∙ c.skip.ensures))
    stepped

pub returns-clause-used : goal.returns-clause-used
returns-clause-used c =
    let old = c.args.self.now in
    let new = c.accept.new.self in
    let i = c.args.i in
    subst (λ (b : List ℕ). IsUsed old.buses (place_of old) old.kept_bytes c.accept.result c.accept.new.written (place_of new) b) (sym (c.accept.ensures.same.1 ∙ c.skip.ensures))
    (used-given (given old.buses (place_of old) (take i old.kept_bytes)) c.accept.result c.accept.new.written old.buses (place_of old) (place_of new) old.kept_bytes (take i old.kept_bytes) (drop (i + 1) old.kept_bytes) c.requires.line.line.1 refl (first c))
