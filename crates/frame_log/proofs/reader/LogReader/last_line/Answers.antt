use Rattle.std.proofs.Common.{◌≡◌, ◌<◌, ◌∙◌, ◌+◌, ◌++◌, List, [], ℕ, None, ap, ap₂, subst, sym, drop, length, arith}
use Rattle.std.proofs.Math.Seq.{drop-length}
use Rattle.frame_log.specs.declared.reader.step.Step.{Step}
use Rattle.frame_log.specs.Line.{Said, said_of}
use Rattle.frame_log.specs.Found.{said_by}
use Rattle.frame_log.specs.Log.{Log, given, given_by, log_from, ended}
use Rattle.frame_log.specs.Reader.{place_of, log_behind}
use Rattle.frame_log.specs.Steps.{IsGiven, IsStep}
use Rattle.frame_log.proofs.LogLemmas.{step-given, log_from-end, log_from-none}
use Rattle.frame_log.proofs.reader.LogReader.last_line.Goals as goal

-- the last line gives all that is left
whole : (c : goal.After-accept) → IsStep (log_behind c.args.self.now []) c.accept.result c.accept.new.written (ended None)
whole c =
    let old = c.args.self.now in
    let new = c.accept.new.self in
    let said : said_by c.read_line-found.result c.read_line-found.new.bytes ≡ said_of old.buses old.kept_bytes =
    c.read_line-found.ensures ∙ ap₂ (λ b h. said_of b h) c.as_slice.ensures.value c.as_slice-2.ensures.value in
    let is_given : IsGiven (given old.buses (place_of old) old.kept_bytes) c.accept.result c.accept.new.written (place_of new) =
    subst (λ (q : Said). IsGiven (given_by (place_of old) (old.lines + 1) q) c.accept.result c.accept.new.written (place_of new)) said c.accept.ensures.given in
    let some : 0 < length old.kept_bytes = subst (λ (s : List ℕ). 0 < length s) c.as_slice-n.ensures.value (omega arith) in
    step-given (given old.buses (place_of old) old.kept_bytes) c.accept.result c.accept.new.written (place_of new) (λ p. ended None) (log_behind old []) is_given
    (log_from-end old.buses old.room old.kept_bytes (place_of old) c.requires some)

pub returns-clause-next : goal.returns-clause-next
returns-clause-next c =
    let old = c.args.self.now in
    let new = c.accept.new.self in
    let nothing : new.kept_bytes ≡ [] = c.accept.ensures.same.1 ∙ c.skip.ensures ∙ ap (λ (s : List ℕ). drop (length s) old.kept_bytes) c.as_slice-n.ensures.value ∙ drop-length old.kept_bytes in
    let none : log_behind new [] ≡ ended None = ap (λ (s : List ℕ). log_from new.buses (new.room + length s) (s ++ []) (place_of new)) nothing ∙ log_from-none new.buses (new.room + 0) (place_of new) in
    subst (λ (l : Log). IsStep (log_behind old []) c.accept.result c.accept.new.written l) (sym none) (whole c)

pub returns-clause-skipped : goal.returns-clause-skipped
returns-clause-skipped c e = subst (λ (s : Step). IsStep (log_behind c.args.self.now []) s c.accept.new.written (ended None)) e (whole c)
