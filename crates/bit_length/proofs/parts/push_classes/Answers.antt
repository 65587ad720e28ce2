use Rattle.std.proofs.Common.{◌≡◌, ◌*◌, ◌+◌, subst, arith}
use Rattle.bit_length.proofs.MemberLemmas.{Adds-none, Adds-push, Adds-same}
use Rattle.bit_length.proofs.RunLemmas.{InClasses, class_of, class_is_run, classes_more, classes_none, classes_all}
use Rattle.bit_length.specs.Runs.{InRun, Adds}
use Rattle.bit_length.proofs.parts.push_classes.Goals as goal

pub loop-class-init : goal.loop-class-init
loop-class-init c =
    Adds-none (c.args.step * c.args.many) c.args.parts.now.items (InClasses c.args.step c.args.many 0 c.args.run.now) (classes_none c.args.step c.args.many c.args.run.now)

pub loop-class-preserved : goal.loop-class-preserved
loop-class-preserved c =
    let s = c.args.step in
    let m = c.args.many in
    let j = c.loop-class.class in
    let r = c.args.run.now in
    rw (c.in_ok-push.ensures.items, c.member.ensures.value) (Adds-push (s * m) c.args.parts.now.items c.loop-class.parts.items (class_of s m j r) (InClasses s m j r) (InClasses s m (j + 1) r) c.loop-class.invariant (class_is_run s m j r c.loop-class-test.true c.requires.run c.requires.filled) (λ n. classes_more s m j r n c.loop-class-test.true c.requires.filled))

pub returns : goal.returns
returns c =
    Adds-same (c.args.step * c.args.many) c.args.parts.now.items c.loop-class.parts.items (InClasses c.args.step c.args.many c.args.many c.args.run.now) (InRun c.args.step c.args.run.now) (let e : c.loop-class.class ≡ c.args.many = omega arith in subst (λ j. Adds (c.args.step * c.args.many) c.args.parts.now.items c.loop-class.parts.items (InClasses c.args.step c.args.many j c.args.run.now)) e c.loop-class.invariant) (classes_all c.args.step c.args.many c.args.run.now c.requires.some)
