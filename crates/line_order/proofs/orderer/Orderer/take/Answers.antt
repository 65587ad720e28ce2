use Rattle.std.proofs.Common.{◌∙◌, ◌++◌, ◌∷◌, [], ◌-◌, ◌≤◌, refl, sym, subst, arith}
use Rattle.std.proofs.lemmas.Bool.Decides.{nat_tests}
use Rattle.line_text.specs.Buffer.{text_of}
use Rattle.line_order.specs.Held.{AreBelow, held_of}
use Rattle.line_order.specs.declared.orderer.Orderer.{Orderer}
use Rattle.line_order.proofs.Steps.{held_below, line_heard, line_taken}
use Rattle.line_order.proofs.orderer.Orderer.take.Goals as goal

pub returns-in-Ok-release : goal.returns-in-Ok-release
returns-in-Ok-release c line said first past h number =
    let old = c.args.self.now in
    let moment = c.args.moment in
    let text = c.args.text.now ++ 10 ∷ [] in
    let new : Orderer = record { alloc = old.alloc; window = old.window; held = c.release.new.self; front = old.front } in
    let before = text_of c.args.gathered.now in
    let after = text_of c.release.new.gathered in
    let timely : old.held.latest - old.window ≤ moment = grind (arith, nat_tests, c.saturating_sub.ensures, c.if-moment-saturating_sub.false) in
    let below : AreBelow c.args.number (held_of old.held) = subst (λ n. AreBelow n (held_of old.held)) (sym number) (held_below first old past h line) in
    let p = c.in-Ok.ensures h.1.sound below in
    let r = c.in-Ok-release.ensures.released p.sound in
    let none = c.in-Ok-release.ensures.none p.sound in
    let latest = r.latest ∙ p.latest in (
      line_taken first old past h line moment text said new c.args.number number (held_of c.put.new.self) before after timely refl latest p.held r.released none r.sound,
      line_heard first old past h line moment text said new c.args.number number (held_of c.put.new.self) before after timely refl latest p.held r.released none r.sound,
    )
