-- The sources of a port, and the records of a key.
use Rattle.std.proofs.Common.{◌≡◌, ◌∙◌, ℕ, zero, suc, Bool, true, false, not, ◌&&◌, ◌||◌, eqb, List, [], ◌∷◌, ◌++◌, take, Some, None, refl, sym, ap, subst, inl, inr}
use Rattle.std.proofs.lemmas.Bool.{eqb-true, eqb-false, eq-eqb, ne_eqb, and_parts, and_from, and_left, and_right, or_parts, or_left, or_right, or_cases, cond-true, cond-false, cond_both, both_ways, not_from_false, cases_Bool, true≢false}
use Rattle.can_id.specs.declared.key.Kind.{Kind}
use Rattle.can_id.specs.declared.key.Kind.TheVariants.{Message, Request, Response}
use Rattle.tail_frame.specs.Chains.{KeyRecord, AtEach}
use Rattle.rx_table.specs.Received.{Got, begins, alone, after, received}
use Rattle.rx_table.specs.Keys.{KeyedFrame, same_kind, bears_on, history}
use Rattle.rx_table.specs.Admitted.{has, is_on, sources, key_of}
use Rattle.rx_table.specs.Laws.{Quiet}

pub same_kind_true : (a b : Kind) → same_kind a b ≡ true → a ≡ b
same_kind_true Message Message e = refl
same_kind_true Message Request e = absurd (true≢false (sym e))
same_kind_true Message Response e = absurd (true≢false (sym e))
same_kind_true Request Message e = absurd (true≢false (sym e))
same_kind_true Request Request e = refl
same_kind_true Request Response e = absurd (true≢false (sym e))
same_kind_true Response Message e = absurd (true≢false (sym e))
same_kind_true Response Request e = absurd (true≢false (sym e))
same_kind_true Response Response e = refl

pub same_kind_refl : (a : Kind) → same_kind a a ≡ true
same_kind_refl Message = refl
same_kind_refl Request = refl
same_kind_refl Response = refl

pub has_append : (s x : ℕ) (xs : List ℕ) → has s (xs ++ x ∷ []) ≡ (has s xs || eqb x s)
has_append s x [] = or_right_nil (eqb x s)
  where
    or_right_nil : (b : Bool) → (b || false) ≡ (false || b)
    or_right_nil true = refl
    or_right_nil false = refl
has_append s x (y ∷ xs) = go (eqb y s) (has_append s x xs)
  where
    go : (b : Bool) → has s (xs ++ x ∷ []) ≡ (has s xs || eqb x s) → (b || has s (xs ++ x ∷ [])) ≡ ((b || has s xs) || eqb x s)
    go true e = refl
    go false e = e

pub has_take : (s n : ℕ) (xs : List ℕ) → has s (take n xs) ≡ true → has s xs ≡ true
has_take s zero xs h = absurd (true≢false (sym h))
has_take s (suc n) [] h = absurd (true≢false (sym h))
has_take s (suc n) (x ∷ xs) h = elim (or_cases (eqb x s) (has s (take n xs)) h) [ inl e ↦ or_left (eqb x s) (has s xs) e | inr t ↦ or_right (eqb x s) (has s xs) (has_take s n xs t) ]

module _ (kind : Kind) (port : ℕ) where
  -- a frame bears on the key of its source alone
  pub bears : (s : ℕ) (f : KeyedFrame) → is_on kind port f ≡ true → f.key.source ≡ s → bears_on (key_of kind port s) f ≡ true
  bears s f on e =
      let p = and_parts (same_kind f.key.kind kind) (eqb f.key.port port) on in
      and_from (same_kind f.key.kind kind) (eqb f.key.port port && eqb f.key.source s) p.0 (and_from (eqb f.key.port port) (eqb f.key.source s) p.1 (eq-eqb f.key.source s e))

  pub bears_parts : (s : ℕ) (f : KeyedFrame) → bears_on (key_of kind port s) f ≡ true → (is_on kind port f ≡ true) × (f.key.source ≡ s)
  bears_parts s f b =
      let p = and_parts (same_kind f.key.kind kind) (eqb f.key.port port && eqb f.key.source s) b in
      let q = and_parts (eqb f.key.port port) (eqb f.key.source s) p.1 in
      (and_from (same_kind f.key.kind kind) (eqb f.key.port port) p.0 q.0, eqb-true f.key.source s q.1)

  pub not_bears : (s : ℕ) (f : KeyedFrame) → (f.key.source ≡ s → ⊥) → bears_on (key_of kind port s) f ≡ false
  not_bears s f ne = and_right (same_kind f.key.kind kind) (eqb f.key.port port && eqb f.key.source s) (and_right (eqb f.key.port port) (eqb f.key.source s) (ne_eqb f.key.source s ne))

  pub off_bears : (s : ℕ) (f : KeyedFrame) → is_on kind port f ≡ false → bears_on (key_of kind port s) f ≡ false
  off_bears s f n = elim (cases_Bool (bears_on (key_of kind port s) f)) [ inl b ↦ absurd (both_ways (is_on kind port f) n (bears_parts s f b).0) | inr b ↦ b ]

  -- a source with no start frame
  pub no_start : (s : ℕ) (log : List KeyedFrame) → has s (sources kind port log) ≡ false → AtEach (λ r _. r.start ≡ false) (history (key_of kind port s) log)
  no_start s [] h = tt
  no_start s (f ∷ log) h =
      let rest = sources kind port log in
      let src = f.key.source in
      let grows = is_on kind port f && (f.rec.start && not (has src rest)) in
      let hr = cond_both grows (rest ++ src ∷ []) rest (λ ss. has s ss ≡ false → has s rest ≡ false) (λ _ e. (or_parts (has s rest) (eqb src s) (sym (has_append s src rest) ∙ e)).0) (λ _ e. e) h in
      cond_both (bears_on (key_of kind port s) f) (f.rec ∷ history (key_of kind port s) log) (history (key_of kind port s) log) (AtEach (λ r _. r.start ≡ false))
      (λ b.
      let p = bears_parts s f b in (
        elim (cases_Bool f.rec.start) [
          | inr n ↦ n
          | inl y ↦
              let new = subst (λ t. has t rest ≡ false) (sym p.1) hr in
              let up = and_from (is_on kind port f) (f.rec.start && not (has src rest)) p.0 (and_from f.rec.start (not (has src rest)) y (not_from_false (has src rest) new)) in
              let e = sym (has_append s src rest) ∙ (ap (has s) (sym (cond-true grows (rest ++ src ∷ []) rest up)) ∙ h) in
              absurd (eqb-false src s (or_parts (has s rest) (eqb src s) e).1 p.1)
        ],
        no_start s log hr,
      ))
      (λ _. no_start s log hr)

-- with no start frame nothing begins
quiet_run : (crc : List ℕ → ℕ) (timeout : ℕ) (h : List KeyRecord) → AtEach (λ r _. r.start ≡ false) h → received crc timeout h ≡ record { begun = None; delivered = [] }
quiet_run crc timeout [] x = refl
quiet_run crc timeout (r ∷ past) x =
    let empty : Got = record { begun = None; delivered = [] } in
    ap (after crc timeout r past) (quiet_run crc timeout past x.1)
    ∙ cond-false (begins timeout r past []) (record { begun = Some (record { first = r; since = [] }); delivered = alone crc timeout r past [] }) empty (and_left r.start _ x.0)

pub quiet : Quiet
quiet crc timeout kind port source log h = ap (λ (g : Got). g.delivered) (quiet_run crc timeout (history (key_of kind port source) log) (no_start kind port source log h))
