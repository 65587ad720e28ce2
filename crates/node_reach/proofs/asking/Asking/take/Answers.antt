use Rattle.std.proofs.Common.{◌≡◌, ◌∙◌, ℕ, List, [], ◌++◌, append-nil, refl, sym, ap}
use Rattle.line_text.specs.Buffer.{text_of}
use Rattle.node_reach.specs.Fetched.{file_limit, answer_text}
use Rattle.node_reach.proofs.Lates.{said_nothing}
use Rattle.node_reach.proofs.asking.Asking.take.Goals as goal

pub returns-in_default : goal.returns-in_default
returns-in_default c = record {
  client = refl;
  asked = λ past h. c.event.ensures.stands file_limit past h;
  text = λ past h.
      let client = c.args.self.now.client in
      let quiet : answer_text client c.args.moment c.event.result ≡ [] = said_nothing client c.args.moment c.event.result c.in_default.not-Ask in
      sym (append-nil (text_of c.args.gathered.now))
      ∙ ap (λ (t : List ℕ). text_of c.args.gathered.now ++ t) (sym quiet ∙ ap (answer_text client c.args.moment) (c.event.ensures.answer file_limit past h));
}
