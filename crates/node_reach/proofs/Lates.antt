-- Behind an end nothing changes, and nothing is said.
use Rattle.std.proofs.Common.{◌≡◌, ◌∙◌, ℕ, zero, suc, ◌+◌, true, false, is_some, List, [], ◌∷◌, ◌++◌, Option, Some, None, refl, sym, ap, append-nil, add-zero, zero-add, add-suc}
use Rattle.tail_frame.specs.declared.logged.Record.{Record}
use Rattle.file_client.specs.Fetch.{Event, late, State, step_after, fetched, answer, is_end}
use Rattle.file_client.specs.Laws.{FetchLaws, end_after, end_of}
use Rattle.file_client.specs.declared.event.FetchOut.{FetchOut}
use Rattle.file_client.specs.declared.event.FetchOut.TheVariants.{Ask, Wait, Done, Refused, GaveUp, TooLong}
use Rattle.node_reach.specs.Fetched.{file_limit, lates, with_reply, reply_at, events, answer_text, event_text, lates_text, ticks_text, reply_text, step_text}
use Rattle.node_reach.specs.Ticks.{first_moment, tick_moment, last_tick, ticks_before}
use Rattle.node_reach.specs.declared.client.Client.{Client}

-- an end stays
pub stays_after : (limit : ℕ) (e : Event) (past : List Event) (out : FetchOut) → end_after limit past ≡ Some out → fetched limit (e ∷ past) ≡ fetched limit past
stays_after limit e past out h = let s = fetched limit past in ap (λ (o : Option FetchOut). (step_after limit o s e).0) h

-- also over more Lates
pub rest_stays : (limit n d : ℕ) (past : List Event) (out : FetchOut) → end_after limit (lates n past) ≡ Some out → fetched limit (lates (n + d) past) ≡ fetched limit (lates n past)
rest_stays limit n zero past out h = ap (λ (k : ℕ). fetched limit (lates k past)) (add-zero n)
rest_stays limit n (suc d) past out h =
    let i = rest_stays limit n d past out h in
    ap (λ (k : ℕ). fetched limit (lates k past)) (add-suc n d)
    ∙ (stays_after limit late (lates (n + d) past) out (ap (λ (s : State). s.end) i ∙ h) ∙ i)

pub lates_stay : (limit n : ℕ) (past : List Event) (out : FetchOut) → end_after limit past ≡ Some out → fetched limit (lates n past) ≡ fetched limit past
lates_stay limit n past out h = ap (λ (k : ℕ). fetched limit (lates k past)) (sym (zero-add n)) ∙ rest_stays limit 0 n past out h

-- and over a reply
pub reply_stays : (limit : ℕ) (o : Option Event) (past : List Event) (out : FetchOut) → end_after limit past ≡ Some out → fetched limit (with_reply o past) ≡ fetched limit past
reply_stays limit None past out h = refl
reply_stays limit (Some e) past out h = stays_after limit e past out h

-- an end that came is one
end_is : (out a : FetchOut) → end_of a ≡ Some out → is_end out ≡ true
end_is out (Ask tid offset) h = cc
end_is out Wait h = cc
end_is out Done h = let e : Done ≡ out = cc in ap is_end (sym e)
end_is out (Refused code) h = let e : Refused code ≡ out = cc in ap is_end (sym e)
end_is out (GaveUp offset) h = let e : GaveUp offset ≡ out = cc in ap is_end (sym e)
end_is out (TooLong n) h = let e : TooLong n ≡ out = cc in ap is_end (sym e)

-- and nothing is said on it
end_quiet : (client : Client) (moment : ℕ) (out : FetchOut) → is_end out ≡ true → answer_text client moment out ≡ []
end_quiet client moment (Ask tid offset) h = cc
end_quiet client moment Wait h = refl
end_quiet client moment Done h = refl
end_quiet client moment (Refused code) h = refl
end_quiet client moment (GaveUp offset) h = refl
end_quiet client moment (TooLong n) h = refl

module _ (laws : FetchLaws) where
  is_end_after : (limit : ℕ) (past : List Event) (out : FetchOut) → end_after limit past ≡ Some out → is_end out ≡ true
  is_end_after limit [] out h = cc
  is_end_after limit (e ∷ past) out h = end_is out (answer limit e past) (sym (laws.end_is limit e past) ∙ h)

  pub event_quiet : (client : Client) (moment : ℕ) (e : Event) (past : List Event) (out : FetchOut) → end_after file_limit past ≡ Some out → event_text client moment e past ≡ []
  event_quiet client moment e past out h =
      let s = fetched file_limit past in
      ap (λ (o : Option FetchOut). answer_text client moment (step_after file_limit o s e).1) h
      ∙ end_quiet client moment out (is_end_after file_limit past out h)

  pub rest_quiet : (client : Client) (first tick n d : ℕ) (past : List Event) (out : FetchOut) → end_after file_limit (lates n past) ≡ Some out
      → lates_text client first tick (n + d) past ≡ lates_text client first tick n past
  rest_quiet client first tick n zero past out h = ap (λ (k : ℕ). lates_text client first tick k past) (add-zero n)
  rest_quiet client first tick n (suc d) past out h =
      let quiet = event_quiet client (tick_moment first (tick + (n + d) + 1)) late (lates (n + d) past) out (ap (λ (s : State). s.end) (rest_stays file_limit n d past out h) ∙ h) in
      ap (λ (k : ℕ). lates_text client first tick k past) (add-suc n d)
      ∙ (ap (λ (t : List ℕ). lates_text client first tick (n + d) past ++ t) quiet
      ∙ (append-nil (lates_text client first tick (n + d) past) ∙ rest_quiet client first tick n d past out h))

  lates_quiet : (client : Client) (first tick n : ℕ) (past : List Event) (out : FetchOut) → end_after file_limit past ≡ Some out → lates_text client first tick n past ≡ []
  lates_quiet client first tick n past out h =
      ap (λ (k : ℕ). lates_text client first tick k past) (sym (zero-add n)) ∙ rest_quiet client first tick 0 n past out h

  reply_quiet : (client : Client) (moment : ℕ) (o : Option Event) (past : List Event) (out : FetchOut) → end_after file_limit past ≡ Some out → reply_text client moment o past ≡ []
  reply_quiet client moment None past out h = refl
  reply_quiet client moment (Some e) past out h = event_quiet client moment e past out h

  -- a record behind an end
  pub record_quiet : (client : Client) (rec : Record) (past : List Record) (out : FetchOut) → end_after file_limit (events client past) ≡ Some out → step_text client rec past ≡ []
  record_quiet client rec [] out h = cc
  record_quiet client rec (older ∷ past) out h =
      let before = events client (older ∷ past) in
      let n = ticks_before rec (older ∷ past) in
      let ended = ap (λ (s : State). s.end) (lates_stay file_limit n before out h) ∙ h in
      let quiet = reply_quiet client rec.moment (reply_at client.own client.server rec (older ∷ past)) (lates n before) out ended in
      ap (λ (t : List ℕ). ticks_text client rec (older ∷ past) ++ t) quiet
      ∙ (append-nil (ticks_text client rec (older ∷ past))
      ∙ lates_quiet client (first_moment older past) (last_tick (older ∷ past)) n before out h)

pub record_stays : (client : Client) (rec : Record) (past : List Record) (out : FetchOut) → end_after file_limit (events client past) ≡ Some out
    → fetched file_limit (events client (rec ∷ past)) ≡ fetched file_limit (events client past)
record_stays client rec past out h =
    let before = events client past in
    let n = ticks_before rec past in
    let stay = lates_stay file_limit n before out h in
    reply_stays file_limit (reply_at client.own client.server rec past) (lates n before) out (ap (λ (s : State). s.end) stay ∙ h) ∙ stay

-- an end that there is
pub ended_with : (o : Option FetchOut) → true ≡ is_some o → (out : FetchOut) × (o ≡ Some out)
ended_with None h = cc
ended_with (Some out) h = (out, refl)

pub not_ended : (o : Option FetchOut) → false ≡ is_some o → o ≡ None
not_ended None h = refl
not_ended (Some out) h = cc

-- nothing is said on an answer by which nothing is asked
pub said_nothing : (client : Client) (moment : ℕ) (out : FetchOut) → ((tid offset : ℕ) → out ≡ Ask tid offset → ⊥) → answer_text client moment out ≡ []
said_nothing client moment (Ask tid offset) h = absurd (h tid offset refl)
said_nothing client moment Wait h = refl
said_nothing client moment Done h = refl
said_nothing client moment (Refused code) h = refl
said_nothing client moment (GaveUp offset) h = refl
said_nothing client moment (TooLong n) h = refl
