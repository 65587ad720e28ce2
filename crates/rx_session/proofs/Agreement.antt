-- `accept` and `advance` say the same
use Rattle.std.proofs.Common.{◌≡◌, ℕ, ◌+◌, ◌-◌, Bool, true, false, cond, not, ◌&&◌, eqb, List, length, take, Option, Some, None, refl, sym, ap, ◌∙◌, subst, arith}
use Rattle.std.proofs.lemmas.Bool.{cond_both, both_ways}
use Rattle.tail_frame.specs.Chains.{KeyRecord, differs}
use Rattle.redundancy.specs.Hear.{hear}
use Rattle.rx_session.specs.Session.{Part, Session, Outcome, Ignored, Delivered, capped, is_last, is_whole, begin, take_in, go_on, on_heard, after_hear, accept, advance}
use Rattle.rx_session.specs.Laws.{FrontsAgree, Agree, StepsAgree}
use Rattle.rx_session.proofs.Buffers.{length_put, front_put}

-- the same choice of two pairs
cond_pair : {A : Type 0} (c : Bool) (x y v w : A) (R : A → A → Type 0) → (c ≡ true → R x v) → (c ≡ false → R y w) → R (cond c x y) (cond c v w)
cond_pair true x y v w R f g = f refl
cond_pair false x y v w R f g = g refl

abbrev Same : Session × Outcome → Session × Outcome → Type 0
Same x y = Agree x.0 y.0 × (x.1 ≡ y.1)

fronts_refl : (part : Option Part) (b : List ℕ) → FrontsAgree part b b
fronts_refl None b = tt
fronts_refl (Some p) b = refl

fronts_trans : (part : Option Part) (a b c : List ℕ) → FrontsAgree part a b → FrontsAgree part b c → FrontsAgree part a c
fronts_trans None a b c f g = tt
fronts_trans (Some p) a b c f g = f ∙ g

agree_trans : (s t u : Session) → Agree s t → Agree t u → Agree s u
agree_trans s t u f g = record {
  bus = f.bus ∙ g.bus;
  heard = f.heard ∙ g.heard;
  last = f.last ∙ g.last;
  part = f.part ∙ g.part;
  size = f.size ∙ g.size;
  front = fronts_trans s.part s.buffer t.buffer u.buffer f.front (subst (λ (p : Option Part). FrontsAgree p t.buffer u.buffer) (sym f.part) g.front);
}

abbrev with_buffer : Option ℕ → ℕ → Option ℕ → Option Part → List ℕ → Session
with_buffer bus heard last part buffer = record { bus = bus; heard = heard; last = last; part = part; buffer = buffer }

module _ (crc_more : ℕ → List ℕ → ℕ) (crc_start timeout : ℕ) where
  -- sessions that agree before a record agree behind it
  begin_agrees : (bus : Option ℕ) (heard : ℕ) (last : Option ℕ) (part : Option Part) (a b : List ℕ) (r : KeyRecord) → length a ≡ length b
      → Same (begin crc_more crc_start timeout (with_buffer bus heard last part a) r) (begin crc_more crc_start timeout (with_buffer bus heard last part b) r)
  begin_agrees bus heard last part a b r size =
      let sizes = length_put a 0 r.body ∙ (size ∙ sym (length_put b 0 r.body)) in
      cond_pair r.end _ _ _ _ Same
      (λ _. (
        record { bus = refl; heard = refl; last = refl; part = refl; size = sizes; front = tt },
        ap (λ (p : List ℕ). Delivered r.bus r.priority r.tid r.line r.line r.moment p) (front_put a b 0 (length r.body) r.body size refl (omega arith)),
      ))
      (λ _. (
        record { bus = refl; heard = refl; last = refl; part = refl; size = sizes; front = front_put a b 0 (capped (length r.body)) r.body size refl (omega arith) },
        refl,
      ))

  take_agrees : (bus : Option ℕ) (heard : ℕ) (last : Option ℕ) (part : Option Part) (p : Part) (a b : List ℕ) (r : KeyRecord) → length a ≡ length b → take p.taken a ≡ take p.taken b
      → Same (take_in crc_more crc_start timeout (with_buffer bus heard last part a) p r) (take_in crc_more crc_start timeout (with_buffer bus heard last part b) p r)
  take_agrees bus heard last part p a b r size front =
      let sizes = length_put a p.taken r.body ∙ (size ∙ sym (length_put b p.taken r.body)) in
      cond_pair r.end _ _ _ _ Same
      (λ _.
      cond_pair (eqb (crc_more p.crc r.body) 0) _ _ _ _ Same
      (λ _. (
        record { bus = refl; heard = refl; last = refl; part = refl; size = sizes; front = tt },
        ap (λ (q : List ℕ). Delivered r.bus r.priority p.tid p.first r.line p.moment q) (front_put a b p.taken (capped (p.taken + length r.body) - 2) r.body size front (omega arith)),
      ))
      (λ _. (record { bus = refl; heard = refl; last = refl; part = refl; size = sizes; front = tt }, refl)))
      (λ _. (
        record { bus = refl; heard = refl; last = refl; part = refl; size = sizes; front = front_put a b p.taken (capped (p.taken + length r.body)) r.body size front (omega arith) },
        refl,
      ))

  idle_agrees : (bus : Option ℕ) (heard : ℕ) (last : Option ℕ) (part : Option Part) (a b : List ℕ) → length a ≡ length b → FrontsAgree part a b
      → Same (with_buffer bus heard last part a, Ignored) (with_buffer bus heard last part b, Ignored)
  idle_agrees bus heard last part a b size front = (record { bus = refl; heard = refl; last = refl; part = refl; size = size; front = front }, refl)

  go_on_agrees : (bus : Option ℕ) (heard : ℕ) (last : Option ℕ) (part : Option Part) (a b : List ℕ) (r : KeyRecord) → length a ≡ length b → FrontsAgree part a b
      → Same (go_on crc_more crc_start timeout (with_buffer bus heard last part a) part r) (go_on crc_more crc_start timeout (with_buffer bus heard last part b) part r)
  go_on_agrees bus heard last None a b r size front = idle_agrees bus heard last None a b size front
  go_on_agrees bus heard last (Some p) a b r size front =
      cond_pair (eqb r.tid p.tid && not (differs r.toggle p.toggle)) _ _ _ _ Same
      (λ _. take_agrees bus heard last (Some p) p a b r size front)
      (λ _. idle_agrees bus heard last (Some p) a b size front)

  heard_agrees : (bus : Option ℕ) (heard : ℕ) (last : Option ℕ) (part : Option Part) (a b : List ℕ) (late : Bool) (r : KeyRecord) → length a ≡ length b → FrontsAgree part a b
      → Same (on_heard crc_more crc_start timeout (with_buffer bus heard last part a) late r) (on_heard crc_more crc_start timeout (with_buffer bus heard last part b) late r)
  heard_agrees bus heard last part a b late r size front =
      cond_pair r.start _ _ _ _ Same
      (λ _.
      cond_pair (not late && is_last last r.tid) _ _ _ _ Same
      (λ _. idle_agrees bus heard last part a b size front)
      (λ _. begin_agrees bus heard last part a b r size))
      (λ _. go_on_agrees bus heard last part a b r size front)

  after_agrees : (bus : Option ℕ) (heard : ℕ) (last : Option ℕ) (part : Option Part) (a b : List ℕ) (h : Option Bool) (r : KeyRecord) → length a ≡ length b → FrontsAgree part a b
      → Same (after_hear crc_more crc_start timeout (with_buffer bus heard last part a) h r) (after_hear crc_more crc_start timeout (with_buffer bus heard last part b) h r)
  after_agrees bus heard last part a b None r size front = idle_agrees bus heard last part a b size front
  after_agrees bus heard last part a b (Some late) r size front = heard_agrees (Some r.bus) r.moment last part a b late r size front

  accepts_agree : (s t : Session) (r : KeyRecord) → Agree s t → Same (accept crc_more crc_start timeout s r) (accept crc_more crc_start timeout t r)
  accepts_agree s t r g =
      let same : with_buffer s.bus s.heard s.last s.part t.buffer ≡ t = λ i. record { bus = g.bus i; heard = g.heard i; last = g.last i; part = g.part i; buffer = t.buffer } in
      subst (λ (w : Session). Same (accept crc_more crc_start timeout s r) (accept crc_more crc_start timeout w r)) same
      (after_agrees s.bus s.heard s.last s.part s.buffer t.buffer (hear timeout s.bus s.heard r.bus r.moment r.start) r g.size g.front)

  -- a buffer keeps its length, and where a whole transfer is delivered no reassembly runs
  pub record Ends (n : ℕ) (r : KeyRecord) (x : Session × Outcome) : Type 0 where
    pub size : length x.0.buffer ≡ n
    pub whole : is_whole r x.1 ≡ true → x.0.part ≡ None

  begin_ends : (s : Session) (r : KeyRecord) → Ends (length s.buffer) r (begin crc_more crc_start timeout s r)
  begin_ends s r =
      cond_both r.end _ _ (Ends (length s.buffer) r)
      (λ _. record { size = length_put s.buffer 0 r.body; whole = λ _. refl })
      (λ _. record { size = length_put s.buffer 0 r.body; whole = λ w. absurd (both_ways false refl w) })

  take_ends : (s : Session) (p : Part) (r : KeyRecord) → Ends (length s.buffer) r (take_in crc_more crc_start timeout s p r)
  take_ends s p r =
      cond_both r.end _ _ (Ends (length s.buffer) r)
      (λ _.
      cond_both (eqb (crc_more p.crc r.body) 0) _ _ (Ends (length s.buffer) r)
      (λ _. record { size = length_put s.buffer p.taken r.body; whole = λ _. refl })
      (λ _. record { size = length_put s.buffer p.taken r.body; whole = λ _. refl }))
      (λ _. record { size = length_put s.buffer p.taken r.body; whole = λ w. absurd (both_ways false refl w) })

  idle_ends : (s : Session) (r : KeyRecord) → Ends (length s.buffer) r (s, Ignored)
  idle_ends s r = record { size = refl; whole = λ w. absurd (both_ways false refl w) }

  go_on_ends : (s : Session) (part : Option Part) (r : KeyRecord) → Ends (length s.buffer) r (go_on crc_more crc_start timeout s part r)
  go_on_ends s None r = idle_ends s r
  go_on_ends s (Some p) r =
      cond_both (eqb r.tid p.tid && not (differs r.toggle p.toggle)) _ _ (Ends (length s.buffer) r) (λ _. take_ends s p r) (λ _. idle_ends s r)

  heard_ends : (s : Session) (late : Bool) (r : KeyRecord) → Ends (length s.buffer) r (on_heard crc_more crc_start timeout s late r)
  heard_ends s late r =
      cond_both r.start _ _ (Ends (length s.buffer) r)
      (λ _. cond_both (not late && is_last s.last r.tid) _ _ (Ends (length s.buffer) r) (λ _. idle_ends s r) (λ _. begin_ends s r))
      (λ _. go_on_ends s s.part r)

  after_ends : (s : Session) (h : Option Bool) (r : KeyRecord) → Ends (length s.buffer) r (after_hear crc_more crc_start timeout s h r)
  after_ends s None r = idle_ends s r
  after_ends s (Some late) r = heard_ends (with_buffer (Some r.bus) r.moment s.last s.part s.buffer) late r

  pub accept_ends : (s : Session) (r : KeyRecord) → Ends (length s.buffer) r (accept crc_more crc_start timeout s r)
  accept_ends s r = after_ends s (hear timeout s.bus s.heard r.bus r.moment r.start) r

  -- the two forms from the same session
  step_agrees : (s : Session) (r : KeyRecord) → Agree (accept crc_more crc_start timeout s r).0 (advance crc_more crc_start timeout s r).0
  step_agrees s r =
      let after = accept crc_more crc_start timeout s r in
      let ends = accept_ends s r in
      record {
        bus = refl;
        heard = refl;
        last = refl;
        part = refl;
        size = cond_both (is_whole r after.1) s.buffer after.0.buffer (λ (b : List ℕ). length after.0.buffer ≡ length b) (λ _. ends.size) (λ _. refl);
        front = cond_both (is_whole r after.1) s.buffer after.0.buffer (λ (b : List ℕ). FrontsAgree after.0.part after.0.buffer b)
            (λ w. subst (λ (p : Option Part). FrontsAgree p after.0.buffer s.buffer) (sym (ends.whole w)) tt)
            (λ _. fronts_refl after.0.part after.0.buffer);
      }

pub steps_agree : StepsAgree
steps_agree crc_more crc_start timeout s t r g =
    let both = accepts_agree crc_more crc_start timeout s t r g in
    (agree_trans _ _ _ both.0 (step_agrees crc_more crc_start timeout t r), both.1)
