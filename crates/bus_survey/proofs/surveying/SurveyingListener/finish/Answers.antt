use Rattle.std.proofs.Common.{◌≡◌, ◌∙◌, ℕ, ◌++◌, List, ap, append_assoc}
use Rattle.line_text.specs.Buffer.{text_of}
use Rattle.bus_survey.specs.Flows.{frames}
use Rattle.bus_survey.specs.Lines.{bus_lines, flow_lines, end_line}
use Rattle.bus_survey.specs.Sources.{nodes}
use Rattle.bus_survey.proofs.SurveyLemmas.{on_ok}
use Rattle.bus_survey.proofs.surveying.SurveyingListener.finish.Goals as goal

-- three texts, one put behind the other
joined : (start buses flows last a b d : List ℕ) → a ≡ start ++ buses → b ≡ a ++ flows → d ≡ b ++ last → d ≡ start ++ (buses ++ flows ++ last)
joined start buses flows last a b d e f g =
    g ∙ ap (λ t. t ++ last) (f ∙ ap (λ t. t ++ flows) e) ∙ simp append_assoc

pub returns-clause-text : goal.returns-clause-text
returns-clause-text c =
    on_ok _ _ c.put_end.result (λ e first past h.
    let count : c.count.result ≡ nodes (frames past) = c.count.ensures (frames past) h.sources_are in
    let sorted = (c.in_ok-sort.ensures {u = tt}).sorted (frames past) h.flows_are in
    let start = text_of c.args.gathered.now in
    joined start _ _ _ _ _ _ (c.in_ok-put_buses.ensures {u = tt}) (c.in_ok-put_flows.ensures {u = tt}) e
    ∙ (λ i. start ++ (bus_lines (h.names_are i) (h.buses_are i) ++ flow_lines (h.names_are i) (sorted i) ++ end_line (h.records_are i) (h.discarded_are i) (count i)))) c.put_end.ensures

pub returns-clause-ended : goal.returns-clause-ended
returns-clause-ended c =
    on_ok _ _ c.put_end.result (λ e first past h. record {
      names_are = h.names_are;
      buses_are = h.buses_are;
      flows_are = c.sort.ensures.stands (frames past) h.flows_are;
      sources_are = h.sources_are;
      records_are = h.records_are;
      discarded_are = h.discarded_are;
      short = h.short;
    }) c.put_end.ensures
