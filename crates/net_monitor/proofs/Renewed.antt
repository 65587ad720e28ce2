-- What a heartbeat makes of its node, and what changes by it.
use Rattle.std.proofs.Common.{◌≡◌, ℕ, ◌+◌, ◌≤◌, eqb, leb, ltb, Bool, true, false, ◌&&◌, ◌||◌, cond, List, [], ◌∷◌, ◌++◌, Option, Some, None, get_or, refl, sym, ap, ◌∙◌}
use Rattle.std.proofs.lemmas.Bool.{eq-eqb}
use Rattle.net_monitor.specs.declared.monitor.Monitor.{Monitor}
use Rattle.net_monitor.specs.declared.node_state.NodeState.{NodeState}
use Rattle.net_monitor.specs.declared.renewal.Renewal.{Renewal}
use Rattle.net_monitor.specs.Beats.{Beat, of_node, state_by, state_of}
use Rattle.net_monitor.specs.Changes.{Change, Restart, Up, restart_by, differences, beat_changes}
use Rattle.net_monitor.specs.Online.{is_online}
use Rattle.net_monitor.specs.Renewals.{state_with, renewal_by, uptime_before, restart_from, said_at, up_at, renewal_changes}
use Rattle.net_monitor.specs.Stands.{AreInOrder, Stands}
use Rattle.net_monitor.proofs.Kept.{restarts_kept, with_restarts, state_then, newest_recent, online_recent}

-- what is kept of a heartbeat's node
pub renewal_stands : (past : List Beat) (a : Monitor) (e : Beat) → Stands past a → e.node ≤ 127
    → (record { before = get_or a.nodes e.node None; state = state_then (get_or a.nodes e.node None) e }) ≡ renewal_by e past
renewal_stands past a e k low =
    ap (λ (o : Option NodeState). let r : Renewal = record { before = o; state = state_then o e } in r) (k.kept e.node low)
    ∙ ap (λ n. let r : Renewal = record { before = state_of e.node past; state = with_restarts e n } in r) (restarts_kept e.node (of_node e.node past) e)

restart_if : (e : Beat) (now : NodeState) (old : ℕ) (b : Bool) → restart_from now (cond b (Some old) None) ≡ cond b (Restart now.node old now.beat.uptime ∷ []) []
restart_if e now old true = refl
restart_if e now old false = refl

restart_is : (e : Beat) (past beats : List Beat) → restart_from (state_with e past) (uptime_before (state_by e.node beats) e.beat.uptime) ≡ restart_by e beats
restart_is e past [] = refl
restart_is e past (b ∷ older) = restart_if e (state_with e past) b.beat.uptime (ltb e.beat.uptime b.beat.uptime)

said_is : (m : ℕ) (e : Beat) (past beats : List Beat) → said_at m (state_by e.node beats) (state_with e past) ≡ cond (newest_recent m beats) (differences e beats) (up_at m (state_with e past))
said_is m e past [] = refl
said_is m e past (b ∷ older) = refl

-- a node that wasn't online is so where its heartbeat is recent
up_is : (same recent on : Bool) (xs ys : List Change) → same ≡ true
    → cond on xs (cond recent ys []) ≡ cond on xs (cond ((same && recent) || on) ys [])
up_is true true true xs ys h = refl
up_is true false true xs ys h = refl
up_is true true false xs ys h = refl
up_is true false false xs ys h = refl
up_is false recent on xs ys h = cc

pub renewal_changes_are : (m : ℕ) (e : Beat) (past : List Beat) → AreInOrder past → renewal_changes m (renewal_by e past) ≡ beat_changes m e past
renewal_changes_are m e past order =
    let beats = of_node e.node past in
    let restarted : restart_from (state_with e past) (uptime_before (state_by e.node beats) e.beat.uptime) ≡ restart_by e beats = restart_is e past beats in
    let said : said_at m (state_by e.node beats) (state_with e past)
    ≡ cond (is_online m past e.node) (differences e beats) (cond (is_online m (e ∷ past) e.node) (Up e.node e.beat ∷ []) []) =
    said_is m e past beats
    ∙ ap (λ on. cond on (differences e beats) (up_at m (state_with e past))) (sym (online_recent m e.node past order))
    ∙ up_is (eqb e.node e.node) (leb m (e.moment + 3000000)) (is_online m past e.node) (differences e beats) (Up e.node e.beat ∷ []) (eq-eqb e.node e.node refl) in
    (λ i. restarted i ++ said i)
