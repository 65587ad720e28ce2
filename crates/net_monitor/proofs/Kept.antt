-- What a `Monitor` keeps after a heartbeat, and what it tells by it.
use Rattle.std.proofs.Common.{◌≡◌, ℕ, ◌+◌, ◌<◌, ◌≤◌, eqb, leb, ltb, min, Bool, true, false, ◌&&◌, ◌||◌, cond, List, [], ◌∷◌, Option, Some, None, length, get_or, set, replicate, refl, sym, ap, ◌∙◌, inl, inr, arith}
use Rattle.std.specs.Option.{is_some}
use Rattle.std.proofs.lemmas.Bool.{cases_eq, cases_Bool, eq-eqb, ne_eqb, leb-false, leb-true, le-leb, lt-leb, cond-true, cond-false}
use Rattle.std.proofs.lemmas.List.{get_or-set_same, get_or-set_other, get_or-replicate}
use Rattle.net_monitor.specs.declared.node_state.NodeState.{NodeState}
use Rattle.net_monitor.specs.declared.monitor.Monitor.{Monitor}
use Rattle.net_monitor.specs.Beats.{Beat, of_node, restarts, capped_restarts, state_by, state_of}
use Rattle.net_monitor.specs.Online.{is_heard, is_online, heard, online, gathered}
use Rattle.net_monitor.specs.Kept.{restarts_after, if_online, kept_online, if_heard, kept_heard}
use Rattle.net_monitor.specs.Stands.{AllUpTo, AreInOrder, Stands}
use Rattle.net_monitor.proofs.Gathered.{gathered_same}

-- the number of restarts after a heartbeat
abbrev pub restarts_then : Option NodeState → ℕ → ℕ
restarts_then None uptime = 0
restarts_then (Some state) uptime = restarts_after state uptime

one_more : (r top : ℕ) (b : Bool) → cond b (min (min r top + 1) top) (min r top) ≡ min (r + cond b 1 0) top
one_more r top true = omega arith
one_more r top false = omega arith

pub restarts_kept : (s : ℕ) (beats : List Beat) (e : Beat) → restarts_then (state_by s beats) e.beat.uptime ≡ capped_restarts (e ∷ beats)
restarts_kept s [] e = refl
restarts_kept s (b ∷ older) e = one_more (restarts (b ∷ older)) 0xFFFFFFFFFFFFFFFF (ltb e.beat.uptime b.beat.uptime)

-- whether one of one node's heartbeats is recent, by the newest
abbrev pub newest_recent : ℕ → List Beat → Bool
newest_recent m [] = false
newest_recent m (b ∷ older) = leb m (b.moment + 3000000)

abbrev pub has_beat : List Beat → Bool
has_beat [] = false
has_beat (b ∷ older) = true

kept_recent : (m s : ℕ) (beats : List Beat) → if_online m (state_by s beats) ≡ cond (newest_recent m beats) (state_by s beats) None
kept_recent m s [] = refl
kept_recent m s (b ∷ older) = refl

kept_has : (s : ℕ) (beats : List Beat) → if_heard s (state_by s beats) ≡ cond (has_beat beats) (Some s) None
kept_has s [] = refl
kept_has s (b ∷ older) = refl

and_off : (a b : Bool) → b ≡ false → (a && b) ≡ false
and_off true b e = e
and_off false b e = refl

or_off : (a b : Bool) → a ≡ false → b ≡ false → (a || b) ≡ false
or_off true b e f = e
or_off false b e f = f

pub or_true : (a b : Bool) → a ≡ true → (a || b) ≡ true
or_true true b e = refl
or_true false b e = cc

-- where a moment is too long ago, so are those before it
none_online : (m t s : ℕ) (past : List Beat) → AllUpTo t past → t + 3000000 < m → is_online m past s ≡ false
none_online m t s [] h late = refl
none_online m t s (e ∷ past) h late =
    let early : e.moment ≤ t = h.0 in
    or_off (eqb e.node s && leb m (e.moment + 3000000)) (is_online m past s)
    (and_off (eqb e.node s) (leb m (e.moment + 3000000)) (lt-leb m (e.moment + 3000000) (omega arith)))
    (none_online m t s past h.1 late)

-- in order, some heartbeat is recent exactly where the newest is
pub online_recent : (m s : ℕ) (past : List Beat) → AreInOrder past → is_online m past s ≡ newest_recent m (of_node s past)
online_recent m s [] h = refl
online_recent m s (e ∷ past) h = elim (cases_Bool (eqb e.node s)) [
  | inl same ↦
      ap (λ b. (b && leb m (e.moment + 3000000)) || is_online m past s) same
      ∙ elim (cases_Bool (leb m (e.moment + 3000000))) as (λ _. (leb m (e.moment + 3000000) || is_online m past s) ≡ leb m (e.moment + 3000000)) [
        | inl t ↦ or_true (leb m (e.moment + 3000000)) (is_online m past s) t ∙ sym t
        | inr f ↦ or_off (leb m (e.moment + 3000000)) (is_online m past s) f (none_online m e.moment s past h.0 (leb-false m (e.moment + 3000000) f)) ∙ sym f
      ]
      ∙ sym (ap (newest_recent m) (cond-true (eqb e.node s) (e ∷ of_node s past) (of_node s past) same))
  | inr other ↦
      ap (λ b. (b && leb m (e.moment + 3000000)) || is_online m past s) other
      ∙ online_recent m s past h.1
      ∙ sym (ap (newest_recent m) (cond-false (eqb e.node s) (e ∷ of_node s past) (of_node s past) other))
]

pub heard_has : (s : ℕ) (past : List Beat) → is_heard past s ≡ has_beat (of_node s past)
heard_has s [] = refl
heard_has s (e ∷ past) = elim (cases_Bool (eqb e.node s)) [
  | inl same ↦ or_true (eqb e.node s) (is_heard past s) same ∙ sym (ap has_beat (cond-true (eqb e.node s) (e ∷ of_node s past) (of_node s past) same))
  | inr other ↦
      ap (λ b. b || is_heard past s) other ∙ heard_has s past
      ∙ sym (ap has_beat (cond-false (eqb e.node s) (e ∷ of_node s past) (of_node s past) other))
]

pub online_stands : (m : ℕ) (past : List Beat) (a : Monitor) → Stands past a → gathered (kept_online m a.nodes) 128 ≡ online m past
online_stands m past a k = gathered_same (kept_online m a.nodes) (λ s. cond (is_online m past s) (state_of s past) None) 128 (λ s h.
    ap (if_online m) (k.kept s (omega arith))
    ∙ kept_recent m s (of_node s past)
    ∙ ap (λ b. cond b (state_of s past) None) (sym (online_recent m s past k.order)))

pub heard_stands : (past : List Beat) (a : Monitor) → Stands past a → gathered (kept_heard a.nodes) 128 ≡ heard past
heard_stands past a k = gathered_same (kept_heard a.nodes) (λ s. cond (is_heard past s) (Some s) None) 128 (λ s h.
    ap (if_heard s) (k.kept s (omega arith))
    ∙ kept_has s (of_node s past)
    ∙ ap (λ b. cond b (Some s) None) (sym (heard_has s past)))

up_to_later : (t u : ℕ) (past : List Beat) → t ≤ u → AllUpTo t past → AllUpTo u past
up_to_later t u [] h a = tt
up_to_later t u (e ∷ past) h a = let early : e.moment ≤ t = a.0 in (omega arith, up_to_later t u past h a.1)

-- what is kept of a heartbeat
abbrev pub with_restarts : Beat → ℕ → NodeState
with_restarts e r = record { node = e.node; beat = e.beat; last = e.moment; restarts = r }

abbrev pub state_then : Option NodeState → Beat → NodeState
state_then o e = with_restarts e (restarts_then o e.beat.uptime)

then_by : (s : ℕ) (beats : List Beat) (e : Beat) → e.node ≡ s → Some (state_then (state_by s beats) e) ≡ state_by s (e ∷ beats)
then_by s beats e same =
    ap (λ n. Some (record { node = n; beat = e.beat; last = e.moment; restarts = restarts_then (state_by s beats) e.beat.uptime })) same
    ∙ ap (λ r. Some (record { node = s; beat = e.beat; last = e.moment; restarts = r })) (restarts_kept s beats e)

kept_after : (s : ℕ) (past : List Beat) (nodes : List (Option NodeState)) (e : Beat) → get_or nodes s None ≡ state_of s past → s < length nodes
    → get_or (set nodes e.node (Some (state_then (get_or nodes e.node None) e))) s None ≡ state_of s (e ∷ past)
kept_after s past nodes e k h = elim (cases_eq s e.node) [
  | inl same ↦
      let x : NodeState = state_then (get_or nodes e.node None) e in
      ap (λ i. get_or (set nodes i (Some x)) s None) (sym same)
      ∙ get_or-set_same nodes s (Some x) None h
      ∙ ap (λ i. Some (state_then (get_or nodes i None) e)) (sym same)
      ∙ ap (λ o. Some (state_then o e)) k
      ∙ then_by s (of_node s past) e (sym same)
      ∙ sym (ap (state_by s) (cond-true (eqb e.node s) (e ∷ of_node s past) (of_node s past) (eq-eqb e.node s (sym same))))
  | inr other ↦
      get_or-set_other nodes e.node s (Some (state_then (get_or nodes e.node None) e)) None other
      ∙ k
      ∙ sym (ap (state_by s) (cond-false (eqb e.node s) (e ∷ of_node s past) (of_node s past) (ne_eqb e.node s (λ f. other (sym f)))))
]

pub stands_after : (past : List Beat) (a b : Monitor) (e : Beat) → Stands past a → a.latest ≤ e.moment → length a.nodes ≡ 128 → e.node ≤ 127
    → b.nodes ≡ set a.nodes e.node (Some (state_then (get_or a.nodes e.node None) e)) → b.latest ≡ e.moment → Stands (e ∷ past) b
stands_after past a b e k late full low nodes latest =
    let before : AllUpTo e.moment past = up_to_later a.latest e.moment past late k.latest in
    record {
      kept = λ s h. ap (λ xs. get_or xs s None) nodes ∙ kept_after s past a.nodes e (k.kept s h) (omega (arith, full));
      order = (before, k.order);
      latest = (omega (arith, latest), up_to_later e.moment b.latest past (omega (arith, latest)) before);
    }

-- nothing heard yet
pub first_kept : (s : ℕ) → s ≤ 127 → get_or (replicate 128 None) s None ≡ state_of s []
first_kept s h = let none : Option NodeState = None in get_or-replicate 128 s none none (omega arith)

-- a moment that fits is no later than a sum exactly where it is no later than the sum as far as it fits
pub capped_later : (m a top : ℕ) → m ≤ top → leb m (min a top) ≡ leb m a
capped_later m a top h = elim (cases_Bool (leb m a)) [
  | inl t ↦ let l : m ≤ a = leb-true m a t in le-leb m (min a top) (omega arith) ∙ sym t
  | inr f ↦ let l : a < m = leb-false m a f in lt-leb m (min a top) (omega arith) ∙ sym f
]

pub heard_some : (s : ℕ) (o : Option NodeState) → is_some o ≡ true → if_heard s o ≡ Some s
heard_some s None e = cc
heard_some s (Some state) e = refl

pub heard_none : (s : ℕ) (o : Option NodeState) → is_some o ≡ false → if_heard s o ≡ None
heard_none s None e = refl
heard_none s (Some state) e = cc
