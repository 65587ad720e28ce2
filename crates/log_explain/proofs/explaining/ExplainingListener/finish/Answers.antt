use Rattle.std.proofs.Common.{◌≡◌, ◌∙◌, ◌++◌, ℕ, List, ap, append_assoc}
use Rattle.line_text.specs.Buffer.{text_of}
use Rattle.log_explain.specs.Text.{end_text, sessions_text}
use Rattle.log_explain.proofs.Nodes.{few_ports, told_count, told_sessions}
use Rattle.log_explain.proofs.Texts.{on_ok}
use Rattle.log_explain.proofs.explaining.ExplainingListener.finish.Goals as goal

-- two texts, one put behind the other
joined : (start mid new a b : List ℕ) → mid ≡ start ++ a → new ≡ mid ++ b → new ≡ start ++ (a ++ b)
joined start mid new a b e f = f ∙ (ap (λ t. t ++ b) e ∙ append_assoc start a b)

pub returns-clause-text : goal.returns-clause-text
returns-clause-text c =
    on_ok _ _ c.put_end.result (λ e first past h.
    let plan = first.node.plan in
    let now = c.args.self.now in
    let start = text_of c.args.gathered.now in
    let sessions = told_sessions plan now past h in
    let count = told_count plan now past h c.count_sessions.result c.count_sessions.ensures in
    joined start _ _ _ _ (c.in_ok-put_sessions.ensures {u = tt} (few_ports plan now past h)) e
    ∙ (λ i. start ++ (sessions_text (h.names i) (sessions i) ++ end_text (h.records i) (count i)))) c.put_end.ensures
