-- What a `Sync` keeps after a message.
use Rattle.std.proofs.Common.{◌≡◌, ℕ, ◌+◌, ◌<◌, ◌≤◌, eqb, leb, Bool, true, false, ◌&&◌, ◌||◌, List, [], ◌∷◌, Option, Some, None, length, get_or, set, replicate, refl, sym, ap, ◌∙◌, subst, inl, inr, arith}
use Rattle.std.specs.Prelude.{ℤ}
use Rattle.std.proofs.lemmas.Bool.{cases_eq, cases_Bool, eq-eqb, ne_eqb, leb-false, lt-leb, cond-true, cond-false}
use Rattle.std.proofs.lemmas.List.{get_or-set_same, get_or-set_other, get_or-replicate}
use Rattle.time_sync.specs.declared.last.Last.{Last}
use Rattle.time_sync.specs.declared.sync.Sync.{Sync}
use Rattle.time_sync.specs.Pairs.{Message, of_source, offset_after, last_offset}
use Rattle.time_sync.specs.Times.{is_online, least, master, is_recent, is_kept_recent, estimate, estimate_of, estimate_by, offset_in}
use Rattle.time_sync.specs.Stands.{AllUpTo, AreInOrder, IsKept, Stands}
use Rattle.time_sync.proofs.Least.{least_same}

-- the offset after a message
abbrev pub offset_then : Option Last → Message → Option ℤ
offset_then None e = None
offset_then (Some l) e = offset_after l.moment l.tid e.moment e.tid e.stamp l.offset

pub kept_offset : (o : Option Last) (ms : List Message) → IsKept o ms → last_offset ms ≡ offset_in o
kept_offset None [] k = refl
kept_offset None (b ∷ older) k = absurd k
kept_offset (Some l) [] k = absurd k
kept_offset (Some l) (b ∷ older) k = sym k.2

pub kept_then : (o : Option Last) (ms : List Message) (e : Message) → IsKept o ms → offset_then o e ≡ last_offset (e ∷ ms)
kept_then None [] e k = refl
kept_then None (b ∷ older) e k = absurd k
kept_then (Some l) [] e k = absurd k
kept_then (Some l) (b ∷ older) e k =
    ap (λ m. offset_after m l.tid e.moment e.tid e.stamp l.offset) k.0
    ∙ ap (λ t. offset_after b.moment t e.moment e.tid e.stamp l.offset) k.1
    ∙ ap (λ o. offset_after b.moment b.tid e.moment e.tid e.stamp o) k.2

-- whether the newest of one source's messages is recent
abbrev newest_recent : ℕ → List Message → Bool
newest_recent m [] = false
newest_recent m (b ∷ older) = leb m (b.moment + 3000000)

kept_recent : (m : ℕ) (o : Option Last) (ms : List Message) → IsKept o ms → is_recent m o ≡ newest_recent m ms
kept_recent m None [] k = refl
kept_recent m None (b ∷ older) k = absurd k
kept_recent m (Some l) [] k = absurd k
kept_recent m (Some l) (b ∷ older) k = ap (λ t. leb m (t + 3000000)) k.0

and_off : (a b : Bool) → b ≡ false → (a && b) ≡ false
and_off true b e = e
and_off false b e = refl

or_off : (a b : Bool) → a ≡ false → b ≡ false → (a || b) ≡ false
or_off true b e f = e
or_off false b e f = f

-- where a moment is too long ago, so are those before it
none_online : (m t s : ℕ) (past : List Message) → AllUpTo t past → t + 3000000 < m → is_online m past s ≡ false
none_online m t s [] h late = refl
none_online m t s (e ∷ past) h late =
    let early : e.moment ≤ t = h.0 in
    or_off (eqb e.source s && leb m (e.moment + 3000000)) (is_online m past s)
    (and_off (eqb e.source s) (leb m (e.moment + 3000000)) (lt-leb m (e.moment + 3000000) (omega arith)))
    (none_online m t s past h.1 late)

or_true : (a b : Bool) → a ≡ true → (a || b) ≡ true
or_true true b e = refl
or_true false b e = cc

-- in order, some message is recent exactly where the newest is
online_recent : (m s : ℕ) (past : List Message) → AreInOrder past → is_online m past s ≡ newest_recent m (of_source s past)
online_recent m s [] h = refl
online_recent m s (e ∷ past) h = elim (cases_Bool (eqb e.source s)) [
  | inl same ↦
      ap (λ b. (b && leb m (e.moment + 3000000)) || is_online m past s) same
      ∙ elim (cases_Bool (leb m (e.moment + 3000000))) as (λ _. (leb m (e.moment + 3000000) || is_online m past s) ≡ leb m (e.moment + 3000000)) [
        | inl t ↦ or_true (leb m (e.moment + 3000000)) (is_online m past s) t ∙ sym t
        | inr f ↦ or_off (leb m (e.moment + 3000000)) (is_online m past s) f (none_online m e.moment s past h.0 (leb-false m (e.moment + 3000000) f)) ∙ sym f
      ]
      ∙ sym (ap (newest_recent m) (cond-true (eqb e.source s) (e ∷ of_source s past) (of_source s past) same))
  | inr other ↦
      ap (λ b. (b && leb m (e.moment + 3000000)) || is_online m past s) other
      ∙ online_recent m s past h.1
      ∙ sym (ap (newest_recent m) (cond-false (eqb e.source s) (e ∷ of_source s past) (of_source s past) other))
]

pub master_stands : (m : ℕ) (past : List Message) (a : Sync) → Stands past a → least (is_kept_recent m a.sources) 128 ≡ master m past
master_stands m past a k = least_same (is_kept_recent m a.sources) (is_online m past) 128 (λ s h.
    kept_recent m (get_or a.sources s None) (of_source s past) (k.kept s (omega arith)) ∙ sym (online_recent m s past k.order))

-- the estimate by what is kept of the master
pub estimate_stands : (m s : ℕ) (past : List Message) (a : Sync) → Stands past a → s < 128 → least (is_kept_recent m a.sources) 128 ≡ Some s
    → estimate m past ≡ estimate_of s (offset_in (get_or a.sources s None))
estimate_stands m s past a k h e =
    ap (λ o. estimate_by o past) (sym (master_stands m past a k) ∙ e)
    ∙ ap (estimate_of s) (kept_offset (get_or a.sources s None) (of_source s past) (k.kept s (omega arith)))

pub estimate_none : (m : ℕ) (past : List Message) (a : Sync) → Stands past a → least (is_kept_recent m a.sources) 128 ≡ None → estimate m past ≡ None
estimate_none m past a k e = ap (λ o. estimate_by o past) (sym (master_stands m past a k) ∙ e)

up_to_later : (t u : ℕ) (past : List Message) → t ≤ u → AllUpTo t past → AllUpTo u past
up_to_later t u [] h a = tt
up_to_later t u (e ∷ past) h a = let early : e.moment ≤ t = a.0 in (omega arith, up_to_later t u past h a.1)

-- what is kept of a message
pub record IsLast (l : Last) (o : Option Last) (e : Message) : Type 0 where
  pub moment : l.moment ≡ e.moment
  pub tid : l.tid ≡ e.tid
  pub offset : l.offset ≡ offset_then o e

kept_after : (s : ℕ) (past : List Message) (sources : List (Option Last)) (e : Message) (l : Last) → IsKept (get_or sources s None) (of_source s past) → s < length sources
    → IsLast l (get_or sources e.source None) e → IsKept (get_or (set sources e.source (Some l)) s None) (of_source s (e ∷ past))
kept_after s past sources e l k h is = elim (cases_eq s e.source) [
  | inl same ↦
      let here : get_or (set sources e.source (Some l)) s None ≡ Some l = ap (λ i. get_or (set sources i (Some l)) s None) (sym same) ∙ get_or-set_same sources s (Some l) None h in
      let mine : of_source s (e ∷ past) ≡ e ∷ of_source s past = cond-true (eqb e.source s) (e ∷ of_source s past) (of_source s past) (eq-eqb e.source s (sym same)) in
      let offset : l.offset ≡ last_offset (e ∷ of_source s past) =
      is.offset ∙ ap (λ i. offset_then (get_or sources i None) e) (sym same) ∙ kept_then (get_or sources s None) (of_source s past) e k in
      subst (λ o. IsKept o (of_source s (e ∷ past))) (sym here) (subst (λ ms. IsKept (Some l) ms) (sym mine) (is.moment, is.tid, offset))
  | inr other ↦
      let there : get_or (set sources e.source (Some l)) s None ≡ get_or sources s None = get_or-set_other sources e.source s (Some l) None other in
      let theirs : of_source s (e ∷ past) ≡ of_source s past = cond-false (eqb e.source s) (e ∷ of_source s past) (of_source s past) (ne_eqb e.source s (λ f. other (sym f))) in
      subst (λ o. IsKept o (of_source s (e ∷ past))) (sym there) (subst (λ ms. IsKept (get_or sources s None) ms) (sym theirs) k)
]

pub stands_after : (past : List Message) (a b : Sync) (e : Message) (l : Last) → Stands past a → a.latest ≤ e.moment → length a.sources ≡ 128 → IsLast l (get_or a.sources e.source None) e
    → b.sources ≡ set a.sources e.source (Some l) → b.latest ≡ e.moment → Stands (e ∷ past) b
stands_after past a b e l k late full is sources latest =
    let before : AllUpTo e.moment past = up_to_later a.latest e.moment past late k.latest in
    record {
      kept = λ s h. subst (λ xs. IsKept (get_or xs s None) (of_source s (e ∷ past))) (sym sources) (kept_after s past a.sources e l (k.kept s h) (omega (arith, full)) is);
      order = (before, k.order);
      latest = (omega (arith, latest), up_to_later e.moment b.latest past (omega (arith, latest)) before);
    }

-- nothing heard yet
pub first_kept : (s : ℕ) → s ≤ 127 → IsKept (get_or (replicate 128 None) s None) []
first_kept s h = let none : Option Last = None in let here : get_or (replicate 128 none) s none ≡ none = get_or-replicate 128 s none none (omega arith) in subst (λ o. IsKept o []) (sym here) tt
