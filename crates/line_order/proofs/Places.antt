-- The places of lines, and the entries that stand there.
use Rattle.std.proofs.Common.{◌≡◌, ◌∙◌, ◌+◌, ◌-◌, ◌<◌, ◌≤◌, ℕ, Bool, true, false, List, [], ◌∷◌, ◌++◌, length, Some, Vec, Global, refl, sym, ap, append_assoc, append-nil, arith}
use Rattle.std.specs.Prelude.{map, nat_le, nat_lt, slice_get}
use Rattle.std.specs.BTreeMap.{insert_entry}
use Rattle.std.specs.Cmp.{nat_cmp_is}
use Rattle.std.specs.Ordering.{match_ordering, nat_cmp, ordering_then}
use Rattle.std.specs.declared.cmp.Ordering.{Ordering}
use Rattle.std.specs.declared.cmp.Ordering.TheVariants.{Less, Equal, Greater}
use Rattle.std.proofs.lemmas.Bool.Decides.{nat_tests}
use Rattle.line_order.specs.Held.{AreBelow, AreDue, first_due, first_up_to}
use Rattle.line_order.specs.Moments.{AreUpTo, late_first}
use Rattle.line_order.specs.Row.{Pops, first_moment}
use Rattle.line_order.specs.Order.{Entry, entry, put, texts}
use Rattle.line_order.specs.declared.place.Place.{Place}
use Rattle.line_order.proofs.Lists.{yes, no}

abbrev pub Held : Type 0
Held = Place × Vec ℕ Global

abbrev pub entries_at : List Held → List Entry
entries_at ps = map (λ p. entry p.0.moment p.0.number (p.1.items ++ 10 ∷ [])) ps

-- A line with a new number.

pub place_less : (a b : Place) → a.moment < b.moment → ordering_then (nat_cmp a.moment b.moment) (nat_cmp a.number b.number) ≡ Less
place_less a b h = ap (λ o. ordering_then o (nat_cmp a.number b.number)) (sym (nat_cmp_is a.moment b.moment Less h))

pub place_greater : (a b : Place) → b.moment ≤ a.moment → b.number < a.number → ordering_then (nat_cmp a.moment b.moment) (nat_cmp a.number b.number) ≡ Greater
place_greater a b h k = either (nat_lt b.moment a.moment) refl
  where
    either : (t : Bool) → nat_lt b.moment a.moment ≡ t → ordering_then (nat_cmp a.moment b.moment) (nat_cmp a.number b.number) ≡ Greater
    either true t =
        let up : b.moment < a.moment = grind (arith, nat_tests, t) in
        ap (λ o. ordering_then o (nat_cmp a.number b.number)) (sym (nat_cmp_is a.moment b.moment Greater up))
    either false t =
        let down : a.moment ≤ b.moment = grind (arith, nat_tests, t) in
        let same : a.moment ≡ b.moment = omega (arith, down, h) in
        ap (λ o. ordering_then o (nat_cmp a.number b.number)) (sym (nat_cmp_is a.moment b.moment Equal same)) ∙ sym (nat_cmp_is a.number b.number Greater k)

module _ (cmp : Place → Place → Ordering) (less : (a b : Place) → a.moment < b.moment → cmp a b ≡ Less) (greater : (a b : Place) → b.moment ≤ a.moment → b.number < a.number → cmp a b ≡ Greater) where
  insert_step : (k : Place) (x : Vec ℕ Global) (p : Held) (ps : List Held) → p.0.number < k.number → entries_at (insert_entry cmp ps k x) ≡ put (entry k.moment k.number (x.items ++ 10 ∷ [])) (entries_at ps)
      → entries_at (insert_entry cmp (p ∷ ps) k x) ≡ put (entry k.moment k.number (x.items ++ 10 ∷ [])) (entries_at (p ∷ ps))
  insert_step k x p ps number rest = either (nat_lt k.moment p.0.moment) refl
    where
      e : Entry
      e = entry k.moment k.number (x.items ++ 10 ∷ [])

      q : Entry
      q = entry p.0.moment p.0.number (p.1.items ++ 10 ∷ [])

      either : (t : Bool) → nat_lt k.moment p.0.moment ≡ t → entries_at (insert_entry cmp (p ∷ ps) k x) ≡ put e (q ∷ entries_at ps)
      either true t =
          let first : k.moment < p.0.moment = grind (arith, nat_tests, t) in
          ap (λ o. entries_at (match_ordering o ((k, x) ∷ p ∷ ps) ((p.0, x) ∷ ps) (p ∷ insert_entry cmp ps k x))) (less k p.0 first)
          ∙ sym (yes (nat_lt k.moment p.0.moment) (e ∷ q ∷ entries_at ps) (q ∷ put e (entries_at ps)) t)
      either false t =
          let last : p.0.moment ≤ k.moment = grind (arith, nat_tests, t) in
          ap (λ o. entries_at (match_ordering o ((k, x) ∷ p ∷ ps) ((p.0, x) ∷ ps) (p ∷ insert_entry cmp ps k x))) (greater k p.0 last number)
          ∙ (ap (λ (l : List Entry). q ∷ l) rest ∙ sym (no (nat_lt k.moment p.0.moment) (e ∷ q ∷ entries_at ps) (q ∷ put e (entries_at ps)) t))

  pub insert_put : (k : Place) (x : Vec ℕ Global) (ps : List Held) → AreBelow k.number (entries_at ps) → entries_at (insert_entry cmp ps k x) ≡ put (entry k.moment k.number (x.items ++ 10 ∷ [])) (entries_at ps)
  insert_put k x [] b = refl
  insert_put k x (p ∷ ps) b = insert_step k x p ps b.0 (insert_put k x ps b.1)

-- a moment is up to the greatest without the window
le_shift : (m window latest limit : ℕ) → window ≤ latest → limit ≡ latest - window → nat_le m limit ≡ nat_le (m + window) latest
le_shift m window latest limit h e = either (nat_le m limit) refl
  where
    either : (t : Bool) → nat_le m limit ≡ t → nat_le m limit ≡ nat_le (m + window) latest
    either true t =
        let le : m ≤ limit = grind (arith, nat_tests, t) in
        let all : m + window ≤ latest = omega (arith, le, e, h) in t ∙ sym (grind (arith, nat_tests, all))
    either false t =
        let less : limit < m = grind (arith, nat_tests, t) in
        let all : latest < m + window = omega (arith, less, e, h) in t ∙ sym (grind (arith, nat_tests, all))

-- the first entry is due
pub due_at : (window latest limit : ℕ) (es : List Entry) → window ≤ latest → limit ≡ latest - window → first_up_to limit es ≡ first_due window latest es
due_at window latest limit [] h e = refl
due_at window latest limit (x ∷ es) h e = le_shift x.moment window latest limit h e

pub none_due : (window latest : ℕ) (es : List Entry) → latest < window → first_due window latest es ≡ false
none_due window latest [] h = refl
none_due window latest (e ∷ es) h = grind (arith, nat_tests)

pub all_due : (window latest limit : ℕ) (es : List Entry) → window ≤ latest → limit ≡ latest - window → AreUpTo limit es → AreDue window latest es
all_due window latest limit [] h e u = tt
all_due window latest limit (x ∷ es) h e u =
    let le : x.moment + window ≤ latest = omega (arith, u.0, h, e) in (grind (arith, nat_tests, le), all_due window latest limit es h e u.1)

pub no_late : (ps : List Held) (es : List Entry) → length ps ≡ 0 → false ≡ late_first (entries_at ps) es
no_late [] es h = refl
no_late (p ∷ ps) es h = absurd (omega (arith, h))

pub late_moment : (ps : List Held) (k : Place) (x : Vec ℕ Global) → slice_get ps 0 ≡ Some (k, x) → Some k.moment ≡ first_moment (entries_at ps)
late_moment [] k x s = absurd cc
late_moment (p ∷ ps) k x s = let same : p ≡ (k, x) = cc in ap (λ (q : Held). Some q.0.moment) (sym same)

-- Lines that go.

pub all_more : (held new : List Entry) (whole before after : List ℕ) (some : Bool) → before ++ texts held ≡ whole → Pops held new before after some → after ++ texts new ≡ whole
all_more held new whole before after true h p =
    ap (λ (t : List ℕ). t ++ texts new) p.2 ∙ (append_assoc before p.0.text (texts new) ∙ (ap (λ (l : List Entry). before ++ texts l) (sym p.1) ∙ h))
all_more held new whole before after false h p = ap (λ (t : List ℕ). t ++ texts new) p.2 ∙ (ap (λ (l : List Entry). before ++ texts l) (p.1 ∙ sym p.0) ∙ h)

-- all went
pub all_gone : (held new : List Entry) (whole before after : List ℕ) → before ++ texts held ≡ whole → Pops held new before after false → after ≡ whole
all_gone held new whole before after h p = p.2 ∙ (sym (append-nil before) ∙ (ap (λ (l : List Entry). before ++ texts l) (sym p.0) ∙ h))
