use Rattle.std.proofs.Common.{arith, ◌∙◌, ◌≡◌, ◌-◌, ◌≤◌, length, take, drop, subst, List, ℕ}
use Rattle.std.proofs.lemmas.Grind.{common_steps}
use Rattle.cy_outside.specs.Outside.{Adds}
use Rattle.cy_outside.proofs.Writes.{adds_more, begins_take}
use Rattle.cy_outside.proofs.writing.put_all.Goals as goal

pub loop-done-preserved : goal.loop-done-preserved
loop-done-preserved g c =
    let bytes = c.args.bytes.now in
    let rest : take (length bytes - c.loop-done.done) (drop c.loop-done.done bytes) ≡ drop c.loop-done.done bytes = grind (arith, common_steps) in
    let room : length (take (length bytes - c.loop-done.done) (drop c.loop-done.done bytes)) ≡ length bytes - c.loop-done.done = grind (arith, common_steps) in
    let test = c.loop-done-test.true in
    let within : c.in-Ok.n ≤ length bytes - c.loop-done.done = subst (λ (n : ℕ). c.in-Ok.n ≤ n) room c.in-Ok.ensures.within in record {
      within = omega arith;
      written = adds_more _ _ _ bytes c.loop-done.done c.in-Ok.n c.loop-done.invariant.written
          (subst (λ (r : List ℕ). Adds (g.O.Sink.written c.loop-done.out) (g.O.Sink.written c.write.new.self) r c.in-Ok.n) rest c.in-Ok.ensures.adds);
      faults = c.in-Ok.ensures.cause ∙ c.loop-done.invariant.faults;
    }

pub returns-in_default-clause-begins : goal.returns-in_default-clause-begins
returns-in_default-clause-begins g c = begins_take c.loop-done.done c.args.bytes.now _ _ (c.in_default.ensures.failed ∙ c.loop-done.invariant.written)
