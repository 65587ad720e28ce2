use Rattle.std.proofs.Common.{◌∙◌, ◌++◌, ◌∷◌, [], ℕ, List, append_assoc, ap}
use Rattle.line_text.specs.Buffer.{text_of}
use Rattle.line_order.specs.Order.{entry}
use Rattle.line_order.proofs.Places.{Held, entries_at}
use Rattle.line_order.proofs.window.Window.pop_late.Goals as goal

pub returns-clause-pops : goal.returns-clause-pops
returns-clause-pops c =
    let s = c.in-Some in
    let before = text_of c.args.gathered.now in (
      entry s.field-0-0.moment s.field-0-0.number (s.text.items ++ 10 ∷ []),
      ap (λ (ps : List Held). entries_at ps) s.ensures.removal,
      c.in_ok-push-2.ensures.ok
          ∙ (ap (λ (t : List ℕ). t ++ 10 ∷ []) (c.in_ok-push.ensures.ok ∙ ap (λ (t : List ℕ). before ++ t) c.deref.ensures.value)
          ∙ append_assoc before s.text.items (10 ∷ [])),
    )
