-- Once and due, of the lines of a session that say `delivered`.
use Rattle.std.proofs.Common.{◌≡◌, ◌∙◌, ℕ, ◌<◌, ◌≤◌, eqb, List, [], ◌∷◌, ◌++◌, length, map, Option, Some, None, IfSome, refl, sym, ap, subst, inl, inr, append-nil, arith}
use Rattle.std.specs.Prelude.{All}
use Rattle.std.proofs.lemmas.Bool.{cond-false, cond-true, cond_both, eq-eqb, ne_eqb}
use Rattle.std.proofs.lemmas.List.Elements.{All-nil, All-cons, Contains-append_left, Contains-append_right, Contains-push}
use Rattle.tail_frame.specs.Chains.{KeyRecord, AtEach}
use Rattle.tail_frame.specs.declared.logged.Record.{Record}
use Rattle.rx_table.specs.Heard.{frames}
use Rattle.rx_table.specs.Keys.{EachFrame, IsLog, KeyedFrame, SessionKey, bears_on, history}
use Rattle.rx_table.specs.Ports.{Port}
use Rattle.frag.specs.Sent.{pair_at, transfer_at}
use Rattle.frag.specs.declared.sent.Pair.{Pair}
use Rattle.frag.specs.declared.sent.Sent.{Sent}
use Rattle.delivery_theorems.specs.Report.{AnyRx, EachRx, Explains, IsDue, IsSentRx, Rise, Rx, pair_on, reported}
use Rattle.node_plan.specs.declared.plan.Plan.{Plan}
use Rattle.session_lines.specs.Reported.{IsSession}
use Rattle.session_lines.proofs.Frames.{in_order}
use Rattle.node_run.specs.Ran.{names_of}
use Rattle.log_explain.specs.Laws.{AsRun}
use Rattle.log_explain.specs.declared.line.FrameLine.{FrameLine}
use Rattle.cyphal.specs.Delivered.{AreSentOnce, DeliveredOnce, DueDelivered, IsAmong, IsOfSent, delivered_in, sent_on}
use Rattle.cyphal.specs.Headline.{ExplainsIn, log_in, logged_in, of_session_in}
use Rattle.cyphal.specs.Laws.{HeadlineLaws}
use Rattle.cyphal.proofs.Headlines.{by_fields}
use Rattle.cyphal.proofs.ToldLines.{AreTold, key_in, told_are}

-- ---- the pair on the line of a record

abbrev Below : ℕ → List KeyRecord → Type 0
Below n h = AtEach (λ e _. e.line < n) h

below : (key : SessionKey) (m n : ℕ) (log : List KeyedFrame) → EachFrame (λ e. (e.rec.moment ≤ m) × (e.rec.line < n)) log → Below n (history key log)
below key m n [] x = tt
below key m n (f ∷ log) x =
    cond_both (bears_on key f) (f.rec ∷ history key log) (history key log) (Below n) (λ _. (x.0.1, below key m n log x.1)) (λ _. below key m n log x.1)

rising : (key : SessionKey) (log : List KeyedFrame) → IsLog log → AtEach (λ r past. Below r.line past) (history key log)
rising key [] x = tt
rising key (f ∷ log) x =
    cond_both (bears_on key f) (f.rec ∷ history key log) (history key log) (AtEach (λ r past. Below r.line past))
    (λ _. (below key f.rec.moment f.rec.line log x.0, rising key log x.1)) (λ _. rising key log x.1)

earlier : (n : ℕ) (newer : List KeyRecord) (q : KeyRecord) (past : List KeyRecord) → Below n (newer ++ q ∷ past) → q.line < n
earlier n [] q past h = h.0
earlier n (r ∷ newer) q past h = earlier n newer q past h.1

pair_there : (origin : List Pair) (newer : List KeyRecord) (q : KeyRecord) (past : List KeyRecord) → AtEach (λ r past. Below r.line past) (newer ++ q ∷ past) → pair_on origin (newer ++ q ∷ past) q.line ≡ pair_at origin (length past)
pair_there origin [] q past h = cond-true (eqb q.line q.line) (pair_at origin (length past)) (pair_on origin past q.line) (eq-eqb q.line q.line refl)
pair_there origin (r ∷ newer) q past h =
    let less = earlier r.line newer q past h.0 in
    cond-false (eqb r.line q.line) (pair_at origin (length (newer ++ q ∷ past))) (pair_on origin (newer ++ q ∷ past) q.line) (ne_eqb r.line q.line (λ e. absurd (omega arith)))
    ∙ pair_there origin newer q past h.1

-- ---- from the lines of a run to those of explain

module _ (key : SessionKey) (sent : Sent) (of_key : sent.key ≡ key_in key) (origin : List Pair) (records : List KeyRecord) where
  each_is : (extent : ℕ) (ls : List FrameLine) (rs : List Rx) → AreTold key ls rs → EachRx (IsSentRx extent sent origin records) rs → All (IsOfSent sent origin records) ls
  each_is extent [] [] t s = All-nil (IsOfSent sent origin records)
  each_is extent [] (rx ∷ rs) t s = absurd t
  each_is extent (line ∷ ls) [] t s = absurd t
  each_is extent (line ∷ ls) (rx ∷ rs) t s =
      let at : pair_on origin records rx.last ≡ pair_on origin records line.line = ap (pair_on origin records) (sym t.0.last) in
      let tid : rx.tid ≡ (transfer_at sent (sent_on origin records line)).tid = s.0.tid ∙ ap (λ (o : Pair). (transfer_at sent o.j).tid) at in
      All-cons (IsOfSent sent origin records) line ls (record {
        known = subst (λ (o : Pair). o.j < length sent.transfers) at s.0.known;
        transfer = t.0.transfer ∙ (λ i. Some (record { key = sym of_key i; tid = tid i }));
      }) (each_is extent ls rs t.1 s.1)

  same_places : (ls : List FrameLine) (rs : List Rx) → AreTold key ls rs → map (sent_on origin records) ls ≡ map (λ rx. (pair_on origin records rx.last).j) rs
  same_places [] [] t = refl
  same_places [] (rx ∷ rs) t = absurd t
  same_places (line ∷ ls) [] t = absurd t
  same_places (line ∷ ls) (rx ∷ rs) t = let more = same_places ls rs t.1 in λ i. (pair_on origin records (t.0.last i)).j ∷ more i

  further : (line : FrameLine) (ls : List FrameLine) (n j : ℕ) → IsAmong origin records ls n j → IsAmong origin records (line ∷ ls) n j
  further line ls n j h = record { line = h.line; stands = Contains-append_right (line ∷ []) ls h.line h.stands; number_is = h.number_is; transfer_is = h.transfer_is }

  some_is : (n j : ℕ) → (pair_on origin records n).j ≡ j → (ls : List FrameLine) (rs : List Rx) → AreTold key ls rs → AnyRx (λ rx. rx.last ≡ n) rs → IsAmong origin records ls n j
  some_is n j at [] [] t h = absurd h
  some_is n j at [] (rx ∷ rs) t h = absurd t
  some_is n j at (line ∷ ls) [] t h = absurd t
  some_is n j at (line ∷ ls) (rx ∷ rs) t (inr more) = further line ls n j (some_is n j at ls rs t.1 more)
  some_is n j at (line ∷ ls) (rx ∷ rs) t (inl is) =
      let number = t.0.last ∙ is in record {
        line = line;
        stands = Contains-append_left (line ∷ []) ls line (Contains-push [] line);
        number_is = number;
        transfer_is = ap (λ (m : ℕ). (pair_on origin records m).j) number ∙ at;
      }

module _ (law : HeadlineLaws) (as_run : AsRun) (plan : Plan) (bytes : List ℕ) where
  abbrev past : List Record
  past = logged_in plan bytes

  log_is : IsLog (frames plan.node past)
  log_is = in_order plan.node (log_in plan bytes).records (law.order (names_of plan) bytes)

  module _ (key : SessionKey) (p : Port) (sent : Sent) (origin : List Pair) (s : IsSession plan key past p) (x : ExplainsIn plan bytes sent key origin) where
    abbrev records : List KeyRecord
    records = of_session_in plan bytes key

    abbrev report : List Rx
    report = reported plan.timeout p.extent records

    explains : Explains plan.timeout sent key origin records
    explains = by_fields law plan bytes key sent origin x

    told : AreTold key (delivered_in plan bytes key) report
    told = told_are key as_run plan law.sessions past p s

    once : AreSentOnce sent origin records (delivered_in plan bytes key)
    once =
        let selected = law.once plan.timeout p.extent sent key origin (frames plan.node past) report [] log_is explains (sym (append-nil report)) in
        let places = same_places key sent explains.of_key origin records (delivered_in plan bytes key) report told in
        record {
          sent_ones = each_is key sent explains.of_key origin records p.extent (delivered_in plan bytes key) report told selected.sent_ones;
          in_order = subst Rise (sym places) selected.in_order;
        }

    among : (q : KeyRecord) → (due : IsDue plan.timeout sent origin records q) → IsAmong origin records (delivered_in plan bytes key) q.line due.j
    among q due =
        let order = rising key (frames plan.node past) log_is in
        let pair : pair_on origin records q.line ≡ pair_at origin (length due.past) =
        ap (λ (t : List KeyRecord). pair_on origin t q.line) due.split ∙ pair_there origin due.newer q due.past (subst (AtEach (λ r past. Below r.line past)) due.split order) in
        some_is key sent explains.of_key origin records q.line due.j (ap (λ (o : Pair). o.j) pair ∙ due.due.end_j) (delivered_in plan bytes key) report told
        (law.due plan.timeout p.extent sent key origin records q explains due)

  pub delivered_once : DeliveredOnce plan bytes
  delivered_once key p sent origin s x = once key p sent origin s x

  pub due_delivered : DueDelivered plan bytes
  due_delivered key p sent origin q s x due = among key p sent origin s x q due

-- what holds of any bytes holds of those that are told
pub where_told : (F : List ℕ → Type 0) → ((bytes : List ℕ) → F bytes) → (told : Option (List ℕ)) → IfSome told F
where_told F f None = tt
where_told F f (Some bytes) = f bytes
