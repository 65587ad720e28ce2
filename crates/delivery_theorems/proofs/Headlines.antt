-- The theorems over a report, or the beginning of one
use Rattle.std.proofs.Common.{◌≡◌, ℕ, ◌<◌, ◌⊎◌, inl, inr, List, [], ◌∷◌, ◌++◌, length, map, ap, subst}
use mathlib.Core.List.{reverse_aux}
use Rattle.tail_frame.specs.Chains.{KeyRecord}
use Rattle.rx_table.specs.Received.{Delivery, received}
use Rattle.transfer_crc.specs.Crc.{crc_of}
use Rattle.rx_table.specs.Keys.{history}
use Rattle.delivery_theorems.specs.Due.{Any}
use Rattle.delivery_theorems.specs.Report.{EachNumber, Rise, Rx, rx_of, pair_on, EachRx, AnyRx, IsSentRx, OnceInPart, DueInReport}
use Rattle.frag.specs.Sent.{pair_at}
use Rattle.delivery_theorems.proofs.Dues.{due_theorem}
use Rattle.delivery_theorems.proofs.Reports.{once_in_report}

number_front : (P : ℕ → Type 0) (f : Rx → ℕ) (xs ys : List Rx) → EachNumber P (map f (xs ++ ys)) → EachNumber P (map f xs)
number_front P f [] ys h = tt
number_front P f (x ∷ xs) ys h = (h.0, number_front P f xs ys h.1)

rise_front : (f : Rx → ℕ) (xs ys : List Rx) → Rise (map f (xs ++ ys)) → Rise (map f xs)
rise_front f [] ys h = tt
rise_front f (x ∷ xs) ys h = (number_front (λ k. f x < k) f xs ys h.0, rise_front f xs ys h.1)

each_front : (P : Rx → Type 0) (xs ys : List Rx) → EachRx P (xs ++ ys) → EachRx P xs
each_front P [] ys h = tt
each_front P (x ∷ xs) ys h = (h.0, each_front P xs ys h.1)

pub once_in_part : OnceInPart
once_in_part timeout extent sent key origin log xs ys is_log x e =
    let h = history key log in
    let s = once_in_report timeout extent sent key origin log is_log x in
    record {
      sent_ones = each_front (IsSentRx extent sent origin h) xs ys (subst (EachRx (IsSentRx extent sent origin h)) e s.sent_ones);
      in_order = rise_front (λ rx. (pair_on origin h rx.last).j) xs ys (subst (λ (t : List Rx). Rise (map (λ rx. (pair_on origin h rx.last).j) t)) e s.in_order);
    }

any_turned : (extent : ℕ) (P : Delivery → Type 0) (Q : Rx → Type 0) → ((d : Delivery) → P d → Q (rx_of extent d)) → (ds acc : List Delivery) → Any P ds ⊎ AnyRx Q (map (rx_of extent) acc) → AnyRx Q (map (rx_of extent) (reverse_aux ds acc))
any_turned extent P Q f [] acc (inl h) = absurd h
any_turned extent P Q f [] acc (inr h) = h
any_turned extent P Q f (d ∷ ds) acc (inl (inl h)) = any_turned extent P Q f ds (d ∷ acc) (inr (inl (f d h)))
any_turned extent P Q f (d ∷ ds) acc (inl (inr h)) = any_turned extent P Q f ds (d ∷ acc) (inl h)
any_turned extent P Q f (d ∷ ds) acc (inr h) = any_turned extent P Q f ds (d ∷ acc) (inr (inr h))

pub due_in_report : DueInReport
due_in_report timeout extent sent key origin records q x d =
    any_turned extent (λ e. (e.place ≡ length d.past) × (e.last ≡ q)) (λ r. r.last ≡ q.line) (λ e h. ap (λ (r : KeyRecord). r.line) h.1) (received crc_of timeout records).delivered []
    (inl (due_theorem timeout sent (pair_at origin) records d.newer d.j d.p d.older q d.past x.sent_list x.explained d.split d.due))
