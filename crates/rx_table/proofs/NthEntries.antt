-- One session's step, by its place among a port's sources.
use Rattle.std.proofs.Common.{◌≡◌, ◌∙◌, ℕ, ◌≤◌, List, [], ◌∷◌, zero, suc, Some, None, refl, sym, ap, subst, slice_get}
use Rattle.std.specs.Map.{values_of}
use Rattle.indexmap.specs.IndexMap.{set_value_at}
use Rattle.tail_frame.specs.Chains.{KeyRecord}
use Rattle.transfer_crc.specs.Crc.{crc_more}
use Rattle.rx_session.specs.declared.session.Session.{Session}
use Rattle.rx_session.specs.declared.outcome.Step as code
use Rattle.rx_session.specs.Session.{Session as Kept, advance}
use Rattle.rx_session.specs.Seen.{kept, step_answer}
use Rattle.rx_table.specs.Ports.{Entry}
use Rattle.rx_table.specs.Places.{step_nth, outcome_nth, buffer_nth}
use Rattle.rx_table.specs.Table.{entries_of, EntriesHeard}

some_is : {X : Type 0} (x y : X) → Some x ≡ Some y → x ≡ y
some_is x y h = cc

module _ {S : Type 0} (timeout : ℕ) (r : KeyRecord) where
  pub entries-step : (es : List (ℕ × Session S)) (i : ℕ) (w v : Session S) → slice_get (values_of es) i ≡ Some v
      → kept w ≡ (advance crc_more 0xFFFF timeout (kept v) r).0 → entries_of (set_value_at es i w) ≡ step_nth timeout (entries_of es) i r
  entries-step [] i w v h k = refl
  entries-step (e ∷ es) zero w v h k =
      ap (λ (s : Kept). record { source = e.0; session = s } ∷ entries_of es) (k ∙ ap (λ (x : Session S). (advance crc_more 0xFFFF timeout (kept x) r).0) (sym (some_is _ _ h)))
  entries-step (e ∷ es) (suc i) w v h k = ap (λ (t : List Entry). record { source = e.0; session = kept e.1 } ∷ t) (entries-step es i w v h k)

  pub outcome-step : (es : List (ℕ × Session S)) (i : ℕ) (w v : Session S) (t : code.Step) → slice_get (values_of es) i ≡ Some v
      → step_answer w.buffer r t ≡ (advance crc_more 0xFFFF timeout (kept v) r).1 → step_answer (buffer_nth (entries_of (set_value_at es i w)) i) r t ≡ outcome_nth timeout (entries_of es) i r
  outcome-step [] i w v t h k = absurd cc
  outcome-step (e ∷ es) zero w v t h k = k ∙ ap (λ (x : Session S). (advance crc_more 0xFFFF timeout (kept x) r).1) (sym (some_is _ _ h))
  outcome-step (e ∷ es) (suc i) w v t h k = outcome-step es i w v t h k

pub buffer-some : {S : Type 0} (es : List (ℕ × Session S)) (i : ℕ) (e : ℕ × Session S) → slice_get es i ≡ Some e → buffer_nth (entries_of es) i ≡ e.1.buffer
buffer-some [] i e h = absurd cc
buffer-some {S} (d ∷ es) zero e h = ap (λ (p : ℕ × Session S). p.1.buffer) (some_is _ _ h)
buffer-some (d ∷ es) (suc i) e h = buffer-some es i e h

pub buffer-none : {S : Type 0} (es : List (ℕ × Session S)) (i : ℕ) → slice_get es i ≡ None → buffer_nth (entries_of es) i ≡ []
buffer-none [] i h = refl
buffer-none (d ∷ es) zero h = absurd cc
buffer-none (d ∷ es) (suc i) h = buffer-none es i h

pub heard-at : {S : Type 0} (now : ℕ) (es : List (ℕ × Session S)) (i : ℕ) (v : Session S) → EntriesHeard now (entries_of es) → slice_get (values_of es) i ≡ Some v → v.force.heard ≤ now
heard-at now [] i v x h = absurd cc
heard-at {S} now (e ∷ es) zero v x h = subst (λ (s : Session S). s.force.heard ≤ now) (some_is _ _ h) x.0
heard-at now (e ∷ es) (suc i) v x h = heard-at now es i v x.1 h
