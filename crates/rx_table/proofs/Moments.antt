-- What was heard is no later than the log.
use Rattle.std.proofs.Common.{ℕ, ◌≤◌, List, [], ◌∷◌, Some, unwrap_or, sym, subst, arith}
use Rattle.std.proofs.lemmas.Bool.{cond_both}
use Rattle.tail_frame.specs.Chains.{KeyRecord, AtEach}
use Rattle.redundancy.specs.Force.{heard, last_heard}
use Rattle.rx_table.specs.Keys.{SessionKey, KeyedFrame, bears_on, history, EachFrame}
use Rattle.rx_table.specs.Laws.{HeardInTime}

last_heard_by : (timeout now : ℕ) (h : List KeyRecord) → AtEach (λ r _. r.moment ≤ now) h → unwrap_or (last_heard timeout h) 0 ≤ now
last_heard_by timeout now [] x = omega arith
last_heard_by timeout now (r ∷ past) x =
    cond_both (heard timeout r past) (Some r.moment) (last_heard timeout past) (λ o. unwrap_or o 0 ≤ now) (λ _. x.0) (λ _. last_heard_by timeout now past x.1)

history_by : (now : ℕ) (key : SessionKey) (log : List KeyedFrame) → EachFrame (λ f. f.rec.moment ≤ now) log → AtEach (λ r _. r.moment ≤ now) (history key log)
history_by now key [] x = tt
history_by now key (f ∷ log) x =
    cond_both (bears_on key f) (f.rec ∷ history key log) (history key log) (AtEach (λ r _. r.moment ≤ now)) (λ _. (x.0, history_by now key log x.1)) (λ _. history_by now key log x.1)

pub heard_in_time : HeardInTime
heard_in_time crc timeout key log s now x st = subst (λ n. n ≤ now) (sym st.heard) (last_heard_by timeout now (history key log) (history_by now key log x))
