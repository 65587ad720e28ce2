use Rattle.std.proofs.Common.{◌≡◌, ◌∙◌, ℕ, ◌+◌, Bool, false, List, ◌∷◌, Option, Some, None, refl, sym, ap, arith}
use Rattle.log_explain.specs.ReasonLaws.{is_badcrc}
use Rattle.log_explain.specs.declared.reasons.reason.Reason.{Reason}
use Rattle.log_explain.specs.declared.reasons.reason.Reason.TheVariants.{Standby, Taken}
use Rattle.log_explain.specs.declared.reasons.reason.Silence.{Silence}
use Rattle.log_explain.specs.Counts.{count, delivery_in, delivery_of, gaps, is_abandoned, is_copy, is_delivered, is_gap, is_handover, is_standby, is_stray, last, one_if, or_else}
use Rattle.log_explain.specs.declared.line.FrameLine.{FrameLine}
use Rattle.log_explain.specs.declared.line.Transfer.{Transfer}
use Rattle.log_explain.specs.declared.tally.Last.{Last}
use Rattle.log_explain.specs.declared.tally.Tally.{Tally}
use Rattle.log_explain.proofs.Counted.{count_few}
use Rattle.log_explain.proofs.tally.Tally.add.Goals as goal

none : (n : ℕ) (b : Bool) → b ≡ false → n ≡ n + one_if b
none n b e = let zero : one_if b ≡ 0 = ap one_if e in omega (arith, zero)

none_more : (test : Reason → Bool) (line : FrameLine) (past : List FrameLine) → test line.reason ≡ false → count test past ≡ count test (line ∷ past)
none_more test line past e = none (count test past) (test line.reason) e

no_gap : (before : Option Last) → is_gap before None ≡ false
no_gap None = refl
no_gap (Some d) = refl

-- a line that tells no delivery
gaps_stay : (line : FrameLine) (past : List FrameLine) → delivery_in line ≡ None → gaps past ≡ gaps (line ∷ past)
gaps_stay line past e = none (gaps past) (is_gap (last past) (delivery_in line)) (ap (is_gap (last past)) e ∙ no_gap (last past))

last_stays : (line : FrameLine) (past : List FrameLine) → delivery_in line ≡ None → last past ≡ last (line ∷ past)
last_stays line past e = sym (ap (λ d. or_else d (last past)) e)

taken_tells : (line : ℕ) (r : Reason) (first : ℕ) (t : Option Transfer) → r ≡ Taken first → delivery_of line r t ≡ None
taken_tells line r first None e = refl
taken_tells line r first (Some t) e = ap (λ (reason : Reason). delivery_of line reason (Some t)) e

standby_tells : (line : ℕ) (r : Reason) (silence : Silence) (t : Option Transfer) → r ≡ Standby silence → delivery_of line r t ≡ None
standby_tells line r silence None e = refl
standby_tells line r silence (Some t) e = ap (λ (reason : Reason). delivery_of line reason (Some t)) e

pub returns-in-Taken : goal.returns-in-Taken
returns-in-Taken c past few e =
    let line = c.args.line.now in
    let is = c.in-Taken.is in
    let tells : delivery_in line ≡ None = taken_tells line.line line.reason _ line.transfer is in
    e ∙ (λ i. record {
      delivered = none_more is_delivered line past (ap is_delivered is) i;
      badcrc = none_more is_badcrc line past (ap is_badcrc is) i;
      copies = none_more is_copy line past (ap is_copy is) i;
      standby = none_more is_standby line past (ap is_standby is) i;
      stray = none_more is_stray line past (ap is_stray is) i;
      abandoned = none_more is_abandoned line past (ap is_abandoned is) i;
      handovers = none_more is_handover line past (ap is_handover is) i;
      gaps = gaps_stay line past tells i;
      last = last_stays line past tells i;
    })

pub returns-in-Standby : goal.returns-in-Standby
returns-in-Standby c past few e =
    let line = c.args.line.now in
    let is = c.in-Standby.is in
    let tells : delivery_in line ≡ None = standby_tells line.line line.reason _ line.transfer is in
    let before = ap (λ (t : Tally). t.standby) e in
    let one = c.plus-self.ensures (omega (arith, before, count_few is_standby past, few)) in
    λ i. record {
      delivered = (ap (λ (t : Tally). t.delivered) e ∙ none_more is_delivered line past (ap is_delivered is)) i;
      badcrc = (ap (λ (t : Tally). t.badcrc) e ∙ none_more is_badcrc line past (ap is_badcrc is)) i;
      copies = (ap (λ (t : Tally). t.copies) e ∙ none_more is_copy line past (ap is_copy is)) i;
      standby = (one ∙ (λ j. before j + one_if (is_standby (sym is j)))) i;
      stray = (ap (λ (t : Tally). t.stray) e ∙ none_more is_stray line past (ap is_stray is)) i;
      abandoned = (ap (λ (t : Tally). t.abandoned) e ∙ none_more is_abandoned line past (ap is_abandoned is)) i;
      handovers = (ap (λ (t : Tally). t.handovers) e ∙ none_more is_handover line past (ap is_handover is)) i;
      gaps = (ap (λ (t : Tally). t.gaps) e ∙ gaps_stay line past tells) i;
      last = (ap (λ (t : Tally). t.last) e ∙ last_stays line past tells) i;
    }
