use Rattle.std.proofs.Common.{◌≡◌, ◌∙◌, ℕ, ◌+◌, ◌-◌, List, ◌++◌, append_assoc, add-one, sym, ap, subst, arith}
use Rattle.line_text.specs.Buffer.{text_of}
use Rattle.file_client.specs.Fetch.{late, State, fetched}
use Rattle.file_client.specs.Laws.{end_after}
use Rattle.file_client.specs.Stands.{Keeps}
use Rattle.node_reach.specs.Fetched.{file_limit, lates, event_text, lates_text}
use Rattle.node_reach.specs.Fetches.{HasAsked}
use Rattle.node_reach.specs.Ticks.{tick_moment}
use Rattle.node_reach.specs.declared.client.Client.{Client}
use Rattle.node_reach.proofs.Lates.{rest_stays, rest_quiet, ended_with}
use Rattle.node_reach.proofs.asking.Asking.wait.Goals as goal

pub loop-n-preserved : goal.loop-n-preserved
loop-n-preserved c =
    let i = c.loop-n.invariant in
    let n = c.loop-n.n in
    let old = text_of c.args.gathered.now in
    let client = c.args.self.now.client in
    record {
      client = c.take.ensures.client ∙ i.client;
      asked = λ past h. subst (λ k. HasAsked (lates k past) c.take.new.self) (sym (add-one n)) ((c.in_ok-take.ensures {u = tt}).asked (lates n past) (i.asked past h));
      text = λ past h.
          let moment = tick_moment c.args.first (c.args.tick + n + 1) in
          let said = event_text client moment late (lates n past) in
          (c.in_ok-take.ensures {u = tt}).text (lates n past) (i.asked past h)
          ∙ (ap (λ (a : Client). text_of c.loop-n.gathered ++ event_text a moment late (lates n past)) i.client
          ∙ (ap (λ (t : List ℕ). t ++ said) (i.text past h)
          ∙ (append_assoc old (lates_text client c.args.first c.args.tick n past) said
          ∙ ap (λ (k : ℕ). old ++ lates_text client c.args.first c.args.tick k past) (sym (add-one n)))));
    }

pub returns-then-has_ended-clause-asked : goal.returns-then-has_ended-clause-asked
returns-then-has_ended-clause-asked c = λ past h.
    let i = c.loop-n.invariant in
    let n = c.loop-n.n in
    let rest = c.args.last - c.args.tick - n in
    let all : c.args.last - c.args.tick ≡ n + rest = omega arith in
    let end = ended_with (end_after file_limit (lates n past)) (c.if-has_ended.ensures.ended (lates n past) (i.asked past h)) in
    let same = ap (λ (k : ℕ). fetched file_limit (lates k past)) all ∙ rest_stays file_limit n rest past end.0 end.1 in
    subst (λ (s : State). Keeps file_limit s c.loop-n.self.fetch) (sym same) (i.asked past h)

pub returns-then-has_ended-clause-text : goal.returns-then-has_ended-clause-text
returns-then-has_ended-clause-text c = λ past h.
    let i = c.loop-n.invariant in
    let n = c.loop-n.n in
    let client = c.args.self.now.client in
    let rest = c.args.last - c.args.tick - n in
    let all : c.args.last - c.args.tick ≡ n + rest = omega arith in
    let end = ended_with (end_after file_limit (lates n past)) (c.if-has_ended.ensures.ended (lates n past) (i.asked past h)) in
    let same =
    ap (λ (k : ℕ). lates_text client c.args.first c.args.tick k past) all
    ∙ rest_quiet c.fetch_laws.ensures client c.args.first c.args.tick n rest past end.0 end.1 in
    i.text past h ∙ ap (λ (t : List ℕ). text_of c.args.gathered.now ++ t) (sym same)
