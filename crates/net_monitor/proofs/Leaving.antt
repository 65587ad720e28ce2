-- Who goes offline, and until when nobody does.
use Rattle.std.proofs.Common.{◌≡◌, ℕ, ◌+◌, ◌<◌, ◌≤◌, eqb, leb, min, Bool, true, false, not, ◌&&◌, cond, List, [], ◌∷◌, Option, Some, None, refl, sym, ap, ◌∙◌, subst, inl, inr, arith}
use Rattle.std.proofs.lemmas.Bool.{and_parts, and_from, le-leb, leb-true}
use Rattle.net_monitor.specs.declared.monitor.Monitor.{Monitor}
use Rattle.net_monitor.specs.declared.node_state.NodeState.{NodeState}
use Rattle.net_monitor.specs.Beats.{Beat, of_node, state_by}
use Rattle.net_monitor.specs.Changes.{gone}
use Rattle.net_monitor.specs.Online.{is_online, gathered}
use Rattle.net_monitor.specs.Renewals.{if_gone, kept_gone, until, kept_until, IsCalm}
use Rattle.net_monitor.specs.Stands.{Stands}
use Rattle.net_monitor.proofs.Gathered.{gathered_same, gathered_nothing}
use Rattle.net_monitor.proofs.Kept.{newest_recent, online_recent}
use Rattle.net_monitor.proofs.Told.{or_parts, or_left, or_right}

gone_kept : (before m s : ℕ) (beats : List Beat) → if_gone before m s (state_by s beats) ≡ cond (newest_recent before beats && not (newest_recent m beats)) (Some s) None
gone_kept before m s [] = refl
gone_kept before m s (b ∷ older) = refl

pub gone_stands : (before m : ℕ) (past : List Beat) (a : Monitor) → Stands past a → gathered (kept_gone before m a.nodes) 128 ≡ gone before m past
gone_stands before m past a k = gathered_same (kept_gone before m a.nodes) (λ s. cond (is_online before past s && not (is_online m past s)) (Some s) None) 128 (λ s h.
    ap (if_gone before m s) (k.kept s (omega arith))
    ∙ gone_kept before m s (of_node s past)
    ∙ ap (λ t. cond (t && not (newest_recent m (of_node s past))) (Some s) None) (sym (online_recent before s past k.order))
    ∙ ap (λ t. cond (is_online before past s && not t) (Some s) None) (sym (online_recent m s past k.order)))

-- a moment that is at most the last one of a state that is online
early : (calm last : ℕ) (on : Bool) → on ≡ true → calm ≤ cond on (min last 0xFFFFFFFFFFFFFFFF) 0xFFFFFFFFFFFFFFFF → calm ≤ last
early calm last true e h = omega arith
early calm last false e h = cc

until_kept : (m calm s : ℕ) (beats : List Beat) → newest_recent m beats ≡ true → calm ≤ until m (state_by s beats) → newest_recent calm beats ≡ true
until_kept m calm s [] on h = cc
until_kept m calm s (b ∷ older) on h = le-leb calm (b.moment + 3000000) (early calm (b.moment + 3000000) (leb m (b.moment + 3000000)) on h)

pub calm_stands : (m calm : ℕ) (past : List Beat) (a : Monitor) → Stands past a → ((s : ℕ) → s < 128 → calm ≤ kept_until m a.nodes s) → IsCalm m calm past
calm_stands m calm past a k h = λ s low on.
    online_recent calm s past k.order
    ∙ until_kept m calm s (of_node s past) (sym (online_recent m s past k.order) ∙ on) (subst (λ (o : Option NodeState). calm ≤ until m o) (k.kept s (omega arith)) (h s low))

-- who is online at a moment is so at an earlier one, by the same heartbeats
pub online_earlier : (n m s : ℕ) (past : List Beat) → n ≤ m → is_online m past s ≡ true → is_online n past s ≡ true
online_earlier n m s [] h on = cc
online_earlier n m s (e ∷ past) h on = elim (or_parts (eqb e.node s && leb m (e.moment + 3000000)) (is_online m past s) on) [
  | inl here ↦
      let p = and_parts (eqb e.node s) (leb m (e.moment + 3000000)) here in
      let late : m ≤ e.moment + 3000000 = leb-true m (e.moment + 3000000) p.1 in
      or_left (eqb e.node s && leb n (e.moment + 3000000)) (is_online n past s) (and_from (eqb e.node s) (leb n (e.moment + 3000000)) p.0 (le-leb n (e.moment + 3000000) (omega arith)))
  | inr later ↦ or_right (eqb e.node s && leb n (e.moment + 3000000)) (is_online n past s) (online_earlier n m s past h later)
]

-- what is calm from a moment on is so from a later one on
pub calm_later : (m n calm : ℕ) (past : List Beat) → m ≤ n → IsCalm m calm past → IsCalm n calm past
calm_later m n calm past h k = λ s low on. k s low (online_earlier m n s past h on)

-- and with one more heartbeat
pub calm_beat : (m calm until : ℕ) (e : Beat) (past : List Beat) → until ≤ calm → until ≤ e.moment + 3000000 → IsCalm m calm past → IsCalm m until (e ∷ past)
calm_beat m calm until e past h h2 k = λ s low on. elim (or_parts (eqb e.node s && leb m (e.moment + 3000000)) (is_online m past s) on) [
  | inl here ↦
      let p = and_parts (eqb e.node s) (leb m (e.moment + 3000000)) here in
      or_left (eqb e.node s && leb until (e.moment + 3000000)) (is_online until past s) (and_from (eqb e.node s) (leb until (e.moment + 3000000)) p.0 (le-leb until (e.moment + 3000000) h2))
  | inr later ↦ or_right (eqb e.node s && leb until (e.moment + 3000000)) (is_online until past s) (online_earlier until calm s past h (k s low later))
]

off : (s : ℕ) (a b : Bool) → (a ≡ true → b ≡ true) → cond (a && not b) (Some s) None ≡ None
off s true b h = ap (λ t. cond (not t) (Some s) None) (h refl)
off s false b h = refl

-- nobody goes offline so long
pub calm_gone : (m n calm : ℕ) (past : List Beat) → n ≤ calm → IsCalm m calm past → gone m n past ≡ []
calm_gone m n calm past h k = gathered_nothing (λ s. cond (is_online m past s && not (is_online n past s)) (Some s) None) 128 (λ s low.
    off s (is_online m past s) (is_online n past s) (λ on. online_earlier n calm s past h (k s low on)))

-- nobody is online before the first heartbeat
pub calm_first : (m calm : ℕ) → IsCalm m calm []
calm_first m calm = λ s low on. on
