use Rattle.std.proofs.Common.{◌≡◌, ℕ, ◌+◌, ◌-◌, ◌/◌, ◌%◌, ◌<◌, ◌≤◌, arith, append_assoc}
use Rattle.text_lines.proofs.second.Second.put.Goals as goal

-- a second that began at a moment has its number, and the microseconds since
number_is : (start moment : ℕ) → start % 1000000 ≡ 0 → start ≤ moment → moment < start + 1000000 → start / 1000000 ≡ moment / 1000000
number_is start moment whole from upto = omega arith

micros_are : (start moment : ℕ) → start % 1000000 ≡ 0 → start ≤ moment → moment < start + 1000000 → moment - start ≡ moment % 1000000
micros_are start moment whole from upto = omega arith

pub returns-clause-text : goal.returns-clause-text
returns-clause-text c =
    let second = c.come_to.new.self in
    let number = number_is second.start c.args.moment second.whole c.come_to.ensures.from c.come_to.ensures.upto in
    let micros = micros_are second.start c.args.moment second.whole c.come_to.ensures.from c.come_to.ensures.upto in
    rw (c.put_six_digits.ensures.text, c.put.ensures.text, second.front_is, number, micros) (simp append_assoc)
