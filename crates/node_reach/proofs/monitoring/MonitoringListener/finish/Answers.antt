use Rattle.std.proofs.Common.{◌≡◌, ◌∙◌, ℕ, ◌++◌, List, length, ap, codes, append_assoc}
use Rattle.line_text.specs.Buffer.{text_of}
use Rattle.net_monitor.specs.Online.{heard, online}
use Rattle.time_sync.specs.Times.{estimate}
use Rattle.node_reach.specs.Lines.{end_line}
use Rattle.node_reach.specs.Monitored.{beats, messages, last_moment, node_lines, estimate_line}
use Rattle.node_reach.proofs.Results.{on_ok}
use Rattle.node_reach.proofs.monitoring.MonitoringListener.finish.Goals as goal

-- three texts, one put behind the other
joined : (start nodes time last a b d : List ℕ) → a ≡ start ++ nodes → b ≡ a ++ time → d ≡ b ++ last → d ≡ start ++ (nodes ++ time ++ last)
joined start nodes time last a b d e f g =
    g ∙ ap (λ t. t ++ last) (f ∙ ap (λ t. t ++ time) e) ∙ simp append_assoc

pub returns-clause-text : goal.returns-clause-text
returns-clause-text c =
    on_ok _ _ c.put_end.result (λ e first past h.
    let own = first.ear.own in
    let before = beats own past in
    let states : c.as_slice.result.now ≡ online (last_moment past) before =
    c.as_slice.ensures.value ∙ (c.online-online.ensures before h.knows.beats_are ∙ ap (λ m. online m before) h.latest) in
    let nodes : c.as_slice-2.result.now ≡ heard before = c.as_slice-2.ensures.value ∙ c.heard-heard.ensures before h.knows.beats_are in
    let time : c.estimate.result ≡ estimate (last_moment past) (messages own past) =
    c.estimate.ensures (messages own past) h.knows.messages_are ∙ ap (λ m. estimate m (messages own past)) h.latest in
    let count : c.len.result ≡ length (online (last_moment past) before) =
    c.len.ensures.value ∙ ap length (c.online-online.ensures before h.knows.beats_are ∙ ap (λ m. online m before) h.latest) in
    let start = text_of c.args.gathered.now in
    joined start _ _ _ _ _ _ (c.in_ok-put_nodes.ensures {u = tt}) (c.in_ok-put_estimate.ensures {u = tt}) e
    ∙ (λ i. start ++ (node_lines (states i) (nodes i) ++ estimate_line (time i) ++ end_line (h.records i) (codes "online") (count i)))) c.put_end.ensures
