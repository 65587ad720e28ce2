use Rattle.std.proofs.Common.{◌≡◌, ◌∙◌, ℕ, ◌+◌, ◌<◌, ◌≤◌, ◌^◌, Bool, length, Option, Some, None, refl, ap, arith}
use Rattle.std.specs.Option.{is_some, option_or}
use Rattle.log_explain.specs.ReasonLaws.{is_badcrc}
use Rattle.log_explain.specs.Counts.{count, delivery_in, gaps, is_abandoned, is_copy, is_delivered, is_gap, is_handover, is_standby, is_stray, last, one_if, or_else}
use Rattle.log_explain.specs.declared.tally.Last.{Last}
use Rattle.log_explain.specs.declared.tally.Tally.{Tally}
use Rattle.log_explain.proofs.Counted.{count_few, gaps_few}
use Rattle.log_explain.proofs.tally.Tally.add_any.Goals as goal

-- one count more
one_more : (old new m : ℕ) (is b : Bool) → (old < 2 ^ 28 → new ≡ old + one_if is) → old ≡ m → m < 2 ^ 28 → is ≡ b → new ≡ m + one_if b
one_more old new m is b h e few s = h (omega (arith, e, few)) ∙ (λ i. e i + one_if (s i))

is_or : (now before : Option Last) → option_or now before ≡ or_else now before
is_or None before = refl
is_or (Some d) before = refl

pub returns : goal.returns
returns c past few e =
    let line = c.args.line.now in
    let below = λ (n : ℕ) (h : n ≤ length past). (let x : n < 2 ^ 28 = omega (arith, h, few) in x) in
    let a = one_more _ _ (count is_delivered past) _ _ c.plus-self.ensures (ap (λ (t : Tally). t.delivered) e) (below _ (count_few is_delivered past)) c.is_delivered.ensures in
    let b = one_more _ _ (count is_badcrc past) _ _ c.plus-self-2.ensures (ap (λ (t : Tally). t.badcrc) e) (below _ (count_few is_badcrc past)) c.is_badcrc.ensures in
    let d = one_more _ _ (count is_copy past) _ _ c.plus-self-3.ensures (ap (λ (t : Tally). t.copies) e) (below _ (count_few is_copy past)) c.is_copy.ensures in
    let f = one_more _ _ (count is_standby past) _ _ c.plus-self-4.ensures (ap (λ (t : Tally). t.standby) e) (below _ (count_few is_standby past)) c.is_standby.ensures in
    let g = one_more _ _ (count is_stray past) _ _ c.plus-self-5.ensures (ap (λ (t : Tally). t.stray) e) (below _ (count_few is_stray past)) c.is_stray.ensures in
    let h = one_more _ _ (count is_abandoned past) _ _ c.plus-self-6.ensures (ap (λ (t : Tally). t.abandoned) e) (below _ (count_few is_abandoned past)) (c.is_some.ensures ∙ ap (λ change. is_some change.over) c.change_of-change.ensures) in
    let k = one_more _ _ (count is_handover past) _ _ c.plus-self-7.ensures (ap (λ (t : Tally). t.handovers) e) (below _ (count_few is_handover past)) (c.is_some-2.ensures ∙ ap (λ change. is_some change.from) c.change_of-change.ensures) in
    let gap : c.is_gap.result ≡ is_gap (last past) (delivery_in line) = c.is_gap.ensures ∙ (λ i. is_gap ((ap (λ (t : Tally). t.last) e) i) (c.delivery_in-delivery.ensures i)) in
    let l = one_more _ _ (gaps past) _ _ c.plus-self-8.ensures (ap (λ (t : Tally). t.gaps) e) (below _ (gaps_few past)) gap in
    let m : c.or-self.result ≡ or_else (delivery_in line) (last past) =
    c.or-self.ensures ∙ (is_or c.delivery_in-delivery.result c.args.self.now.last ∙ (λ i. or_else (c.delivery_in-delivery.ensures i) ((ap (λ (t : Tally). t.last) e) i))) in
    λ i. record { delivered = a i; badcrc = b i; copies = d i; standby = f i; stray = g i; abandoned = h i; handovers = k i; gaps = l i; last = m i }
