-- Lines of a session, and the transfers that they report.
use Rattle.std.proofs.Common.{◌≡◌, true, List, [], ◌∷◌, ◌++◌, ap, subst, inl, inr}
use Rattle.std.specs.Prelude.{All, ⊤}
use Rattle.std.proofs.lemmas.Bool.{cond-true, cond-false, cond_both, cases_Bool}
use Rattle.std.proofs.lemmas.List.Elements.{All-nil, All-cons, All-contains, Contains-append_right, Contains-append_left, Contains-push}
use Rattle.rx_table.specs.Keys.{SessionKey}
use Rattle.delivery_theorems.specs.Report.{Rx as RxOf, EachRx, AnyRx}
use Rattle.report_lines.specs.declared.line.Line.{Line}
use Rattle.report_lines.specs.declared.line.Line.TheVariants.{Rx, NoSession, Tx, Full}
use Rattle.report_lines.specs.declared.line.Rx.{Rx as Received}
use Rattle.session_lines.specs.Reported.{is_key, without_key, rxs}
use Rattle.session_lines.specs.Values.{IsLineOf}

module _ (key : SessionKey) (P : RxOf → Type 0) where
  abbrev IfOf : Line → Type 0
  IfOf (Rx rx) = is_key key rx.key ≡ true → P (without_key rx)
  IfOf (NoSession refused) = ⊤
  IfOf (Tx tx) = ⊤
  IfOf (Full full) = ⊤

  each_line : (ls : List Line) → EachRx P (rxs key ls) → All IfOf ls
  each_line [] h = All-nil IfOf
  each_line (NoSession refused ∷ ls) h = All-cons IfOf (NoSession refused) ls tt (each_line ls h)
  each_line (Tx tx ∷ ls) h = All-cons IfOf (Tx tx) ls tt (each_line ls h)
  each_line (Full full ∷ ls) h = All-cons IfOf (Full full) ls tt (each_line ls h)
  each_line (Rx rx ∷ ls) h =
      let here = is_key key rx.key in
      let mine = without_key rx ∷ [] in
      All-cons IfOf (Rx rx) ls
      (λ y. (subst (EachRx P) (ap (λ (t : List RxOf). t ++ rxs key ls) (cond-true here mine [] y)) h).0)
      (each_line ls (cond_both here mine [] (λ (t : List RxOf). EachRx P (t ++ rxs key ls) → EachRx P (rxs key ls)) (λ _ g. g.1) (λ _ g. g) h))

  -- what holds of each transfer that is reported holds of the transfer of a line
  pub at_line : (ls : List Line) (rx : Received) → EachRx P (rxs key ls) → IsLineOf key ls rx → P (without_key rx)
  at_line ls rx h line = All-contains IfOf ls (Rx rx) (each_line ls h) line.stands line.is_of_key

  pub record HasLine (ls : List Line) : Type 0 where
    pub rx : Received
    pub line : IsLineOf key ls rx
    pub is : P (without_key rx)

  further : (l : Line) (ls : List Line) → HasLine ls → HasLine (l ∷ ls)
  further l ls h = record { rx = h.rx; line = record { stands = Contains-append_right (l ∷ []) ls (Rx h.rx) h.line.stands; is_of_key = h.line.is_of_key }; is = h.is }

  at_head : (rx : Received) (ls : List Line) → is_key key rx.key ≡ true → P (without_key rx) → HasLine (Rx rx ∷ ls)
  at_head rx ls y h = record { rx = rx; line = record { stands = Contains-append_left (Rx rx ∷ []) ls (Rx rx) (Contains-push [] (Rx rx)); is_of_key = y }; is = h }

  -- where one of them is such, it is on a line
  pub some_line : (ls : List Line) → AnyRx P (rxs key ls) → HasLine ls
  some_line [] h = absurd h
  some_line (NoSession refused ∷ ls) h = further (NoSession refused) ls (some_line ls h)
  some_line (Tx tx ∷ ls) h = further (Tx tx) ls (some_line ls h)
  some_line (Full full ∷ ls) h = further (Full full) ls (some_line ls h)
  some_line (Rx rx ∷ ls) h =
      let here = is_key key rx.key in
      let mine = without_key rx ∷ [] in
      elim (cases_Bool here) [
        | inl y ↦
            elim (subst (AnyRx P) (ap (λ (t : List RxOf). t ++ rxs key ls) (cond-true here mine [] y)) h) [
              | inl is ↦ at_head rx ls y is
              | inr more ↦ further (Rx rx) ls (some_line ls more)
            ]
        | inr n ↦ further (Rx rx) ls (some_line ls (subst (AnyRx P) (ap (λ (t : List RxOf). t ++ rxs key ls) (cond-false here mine [] n)) h))
      ]
