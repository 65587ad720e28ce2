use Rattle.std.proofs.Common.{◌∙◌, ◌+◌, ℕ, List, Some, take, refl, sym, ap, arith}
use Rattle.frame_log.proofs.CutLemmas.{cut-first, cut-none}
use Rattle.line_loop.proofs.Found.{rest_of}
use Rattle.line_order.proofs.form.cut.Goals as goal

pub returns-in-None : goal.returns-in-None
returns-in-None c = sym (cut-none c.args.b c.args.s.now (λ k less t. c.in-None.ensures k (omega arith) less t))

pub returns-in-Some : goal.returns-in-Some
returns-in-Some c =
    let s = c.args.s.now in
    let n = c.in-Some.n in
    let h = c.in-Some.ensures in
    ap (λ (t : List ℕ). Some (take n s, t)) (rest_of (n + 1) s s refl) ∙ sym (cut-first c.args.b s n h.0.high h.1 (λ k less t. h.0.before k (omega arith) less t))
