-- What changes among nodes, one record further.
use Rattle.std.proofs.Common.{◌≡◌, ℕ, ◌+◌, ◌^◌, ◌<◌, ◌≤◌, eqb, leb, min, max, Bool, true, false, cond, List, [], ◌∷◌, ◌++◌, length, Option, Some, None, option_map, is_some, refl, sym, ap, ◌∙◌, subst, append_assoc, append-nil, arith}
use Rattle.net_monitor.specs.Beats.{Beat}
use Rattle.net_monitor.specs.Changes.{Change, Down, Restart, Up, Health, Mode, Code, gone, downs, if_other, restarts_in}
use Rattle.net_monitor.specs.Renewals.{IsCalm, renewal_by, uptime_before, restart_from, said_since, said_at, up_at, renewal_changes}
use Rattle.net_monitor.specs.Stands.{AreInOrder}
use Rattle.net_monitor.specs.declared.node_state.NodeState.{NodeState}
use Rattle.net_monitor.specs.declared.renewal.Renewal.{Renewal}
use Rattle.net_monitor.proofs.Leaving.{calm_beat, calm_gone, calm_later}
use Rattle.net_monitor.proofs.Renewed.{renewal_changes_are}
use Rattle.tail_frame.specs.declared.logged.Record.{Record}
use Rattle.node_reach.specs.ChangeLines.{change_line, change_lines}
use Rattle.node_reach.specs.Monitored.{beats, beat_at, with_beat}
use Rattle.node_reach.specs.Monitors.{Monitors, renewal_at}
use Rattle.node_reach.specs.Watched.{nobody, clock, changes_by, changes_at, changes, watch_text}
use Rattle.node_reach.specs.Watches.{changes_of, calm_with, count_with, TellsGone, Watches}
use Rattle.node_reach.specs.declared.watching.Watching.{Watching}

pub lines_append : (m : ℕ) (xs ys : List Change) → change_lines m (xs ++ ys) ≡ change_lines m xs ++ change_lines m ys
lines_append m [] ys = refl
lines_append m (x ∷ xs) ys = ap (λ (t : List ℕ). change_line m x ++ t) (lines_append m xs ys) ∙ simp append_assoc

-- the line of a change, if there is one
pub line_if : (m : ℕ) (b : Bool) (c : Change) → cond b [] (change_line m c) ≡ change_lines m (cond b [] (c ∷ []))
line_if m true c = refl
line_if m false c = sym (append-nil (change_line m c))

pub restarts_append : (xs ys : List Change) → restarts_in (xs ++ ys) ≡ restarts_in xs + restarts_in ys
restarts_append [] ys = omega arith
restarts_append (Down node ∷ xs) ys = restarts_append xs ys
restarts_append (Restart node old new ∷ xs) ys = omega (arith, restarts_append xs ys)
restarts_append (Up node beat ∷ xs) ys = restarts_append xs ys
restarts_append (Health node old new ∷ xs) ys = restarts_append xs ys
restarts_append (Mode node old new ∷ xs) ys = restarts_append xs ys
restarts_append (Code node old new ∷ xs) ys = restarts_append xs ys

restarts_downs : (nodes : List ℕ) → restarts_in (downs nodes) ≡ 0
restarts_downs [] = refl
restarts_downs (node ∷ nodes) = restarts_downs nodes

none_if : (b : Bool) (c : Change) → restarts_in (c ∷ []) ≡ 0 → restarts_in (cond b [] (c ∷ [])) ≡ 0
none_if true c h = refl
none_if false c h = h

restarts_since : (before now : NodeState) → restarts_in (said_since before now) ≡ 0
restarts_since before now =
    let old = before.beat in
    let new = now.beat in
    let health = if_other (Health now.node) old.health.value new.health.value in
    let mode = if_other (Mode now.node) old.mode.value new.mode.value in
    let code = if_other (Code now.node) old.vendor_specific_status_code new.vendor_specific_status_code in
    omega (
      arith,
      restarts_append (health ++ mode) code,
      restarts_append health mode,
      none_if (eqb old.health.value new.health.value) (Health now.node old.health.value new.health.value) refl,
      none_if (eqb old.mode.value new.mode.value) (Mode now.node old.mode.value new.mode.value) refl,
      none_if (eqb old.vendor_specific_status_code new.vendor_specific_status_code) (Code now.node old.vendor_specific_status_code new.vendor_specific_status_code) refl,
    )

up_if : (b : Bool) (now : NodeState) → restarts_in (cond b (Up now.node now.beat ∷ []) []) ≡ 0
up_if true now = refl
up_if false now = refl

either_none : (b : Bool) (xs ys : List Change) → restarts_in xs ≡ 0 → restarts_in ys ≡ 0 → restarts_in (cond b xs ys) ≡ 0
either_none true xs ys h k = h
either_none false xs ys h k = k

restarts_said : (m : ℕ) (before : Option NodeState) (now : NodeState) → restarts_in (said_at m before now) ≡ 0
restarts_said m None now = up_if (leb m (now.last + 3000000)) now
restarts_said m (Some before) now =
    either_none (leb m (before.last + 3000000)) (said_since before now) (up_at m now) (restarts_since before now) (up_if (leb m (now.last + 3000000)) now)

restarts_from : (now : NodeState) (o : Option ℕ) → restarts_in (restart_from now o) ≡ cond (is_some o) 1 0
restarts_from now None = refl
restarts_from now (Some old) = refl

restarts_renewal : (m : ℕ) (r : Renewal) → restarts_in (renewal_changes m r) ≡ cond (is_some (uptime_before r.before r.state.beat.uptime)) 1 0
restarts_renewal m r =
    let o = uptime_before r.before r.state.beat.uptime in
    omega (arith, restarts_append (restart_from r.state o) (said_at m r.before r.state), restarts_from r.state o, restarts_said m r.before r.state)

one_more : (n : ℕ) (b : Bool) → n < 2 ^ 28 → cond b (min (n + 1) 0xFFFFFFFFFFFFFFFF) n ≡ n + cond b 1 0
one_more n true h = omega arith
one_more n false h = omega arith

count_is : (m n : ℕ) (o : Option Renewal) → n < 2 ^ 28 → count_with n o ≡ n + restarts_in (changes_of m o)
count_is m n None h = omega arith
count_is m n (Some r) h =
    let b = is_some (uptime_before r.before r.state.beat.uptime) in
    one_more n b h ∙ ap (λ k. n + k) (sym (restarts_renewal m r))

at_most_one : (b : Bool) → cond b 1 0 ≤ 1
at_most_one true = omega arith
at_most_one false = omega arith

few_more : (m : ℕ) (o : Option Renewal) → restarts_in (changes_of m o) ≤ 1
few_more m None = omega arith
few_more m (Some r) =
    let b = is_some (uptime_before r.before r.state.beat.uptime) in
    omega (arith, restarts_renewal m r, at_most_one b)

-- what a heartbeat made of its node says what it changes
changes_are : (m : ℕ) (o : Option Beat) (past : List Beat) → AreInOrder past → changes_of m (option_map (λ e. renewal_by e past) o) ≡ changes_by m o past
changes_are m None past order = refl
changes_are m (Some e) past order = renewal_changes_are m e past order

capped : (a b top : ℕ) → min a (min b top) ≤ b
capped a b top = omega arith

calm_is : (m calm : ℕ) (o : Option Beat) (past : List Beat) → IsCalm m calm past → IsCalm m (calm_with calm (option_map (λ e. renewal_by e past) o)) (with_beat o past)
calm_is m calm None past k = k
calm_is m calm (Some e) past k =
    let until : ℕ = min calm (min (e.moment + 3000000) 0xFFFFFFFFFFFFFFFF) in
    calm_beat m calm until e past (omega arith) (capped calm (e.moment + 3000000) 0xFFFFFFFFFFFFFFFF) k

-- nobody goes offline so long
pub tells_none : (before m calm : ℕ) (past : List Beat) (text : List ℕ) → before ≤ m → m ≤ calm → IsCalm before calm past → TellsGone before m calm past text text
tells_none before m calm past text later within k = record {
  is_calm = calm_later before m calm past later k;
  text = sym (append-nil text) ∙ ap (λ (nodes : List ℕ). text ++ change_lines m (downs nodes)) (sym (calm_gone before m calm past within k));
}

latest_is : (a b : ℕ) → a ≤ b → max a b ≡ b
latest_is a b h = omega arith

-- the lines of what a node says otherwise, one put behind the other
pub since_lines : (m : ℕ) (before now : NodeState) (start a b d : List ℕ)
    → a ≡ start ++ cond (eqb before.beat.health.value now.beat.health.value) [] (change_line m (Health now.node before.beat.health.value now.beat.health.value))
    → b ≡ a ++ cond (eqb before.beat.mode.value now.beat.mode.value) [] (change_line m (Mode now.node before.beat.mode.value now.beat.mode.value))
    → d ≡ b ++ cond (eqb before.beat.vendor_specific_status_code now.beat.vendor_specific_status_code) [] (change_line m (Code now.node before.beat.vendor_specific_status_code now.beat.vendor_specific_status_code))
    → d ≡ start ++ change_lines m (said_since before now)
since_lines m before now start a b d e f g =
    let x = if_other (Health now.node) before.beat.health.value now.beat.health.value in
    let y = if_other (Mode now.node) before.beat.mode.value now.beat.mode.value in
    let z = if_other (Code now.node) before.beat.vendor_specific_status_code now.beat.vendor_specific_status_code in
    let health = line_if m (eqb before.beat.health.value now.beat.health.value) (Health now.node before.beat.health.value now.beat.health.value) in
    let mode = line_if m (eqb before.beat.mode.value now.beat.mode.value) (Mode now.node before.beat.mode.value now.beat.mode.value) in
    let code = line_if m (eqb before.beat.vendor_specific_status_code now.beat.vendor_specific_status_code) (Code now.node before.beat.vendor_specific_status_code now.beat.vendor_specific_status_code) in
    let first : a ≡ start ++ change_lines m x = e ∙ ap (λ (t : List ℕ). start ++ t) health in
    let second : b ≡ (start ++ change_lines m x) ++ change_lines m y = f ∙ (λ i. first i ++ mode i) in
    let third : d ≡ ((start ++ change_lines m x) ++ change_lines m y) ++ change_lines m z = g ∙ (λ i. second i ++ code i) in
    let lines : change_lines m (said_since before now) ≡ (change_lines m x ++ change_lines m y) ++ change_lines m z =
    lines_append m (x ++ y) z ∙ ap (λ (t : List ℕ). t ++ change_lines m z) (lines_append m x y) in
    third
    ∙ ap (λ (t : List ℕ). t ++ change_lines m z) (append_assoc start (change_lines m x) (change_lines m y))
    ∙ append_assoc start (change_lines m x ++ change_lines m y) (change_lines m z)
    ∙ ap (λ (t : List ℕ). start ++ t) (sym lines)

-- what is kept and what is told of one more record
module _ (old new : Watching) (rec : Record) (past : List Record) (renewal : Option Renewal) (calm : ℕ) (start middle after : List ℕ) where
  pub watches_next : Watches old past → old.monitoring.ear.latest ≤ rec.moment → old.monitoring.records < 2 ^ 28
      → Monitors nobody new.monitoring (rec ∷ past) → new.monitoring.ear.latest ≡ rec.moment → renewal ≡ renewal_at nobody rec past
      → TellsGone old.monitoring.ear.latest rec.moment calm (beats nobody past) start middle
      → new.calm ≡ calm_with calm renewal → new.restarts ≡ count_with old.restarts renewal
      → after ≡ middle ++ change_lines rec.moment (changes_of rec.moment renewal)
      → Watches new (rec ∷ past) × (after ≡ start ++ watch_text rec past)
  watches_next h behind room monitors latest renewed gone_told calm_new restarts_new text =
      let known : List Beat = beats nobody past in
      let beat : Option Beat = beat_at nobody rec past in
      let m : ℕ = rec.moment in
      let now : clock (rec ∷ past) ≡ m = latest_is (clock past) m (subst (λ k. k ≤ m) h.clock_is behind) in
      let by : changes_of m renewal ≡ changes_by m beat known = ap (changes_of m) renewed ∙ changes_are m beat known h.monitors.knows.beats_are.order in
      let all : changes_at rec past ≡ downs (gone old.monitoring.ear.latest m known) ++ changes_of m renewal =
      ap (λ k. downs (gone (clock past) k known) ++ changes_by k beat known) now
      ∙ (λ i. downs (gone (sym h.clock_is i) m known) ++ sym by i) in
      let count : restarts_in (changes_at rec past) ≡ restarts_in (changes_of m renewal) =
      ap restarts_in all ∙ restarts_append (downs (gone old.monitoring.ear.latest m known)) (changes_of m renewal)
      ∙ ap (λ k. k + restarts_in (changes_of m renewal)) (restarts_downs (gone old.monitoring.ear.latest m known)) ∙ omega arith in
      let few : restarts_in (changes past) ≤ length past = h.few in
      let heard : old.monitoring.records ≡ length past = h.monitors.records in
      let before : old.restarts ≡ restarts_in (changes past) = h.restarts_are in
      let counted : count_with old.restarts renewal ≡ old.restarts + restarts_in (changes_of m renewal) = count_is m old.restarts renewal (omega arith) in
      let sum = restarts_append (changes past) (changes_at rec past) in
      let one = few_more m renewal in (
        record {
          monitors = monitors;
          clock_is = latest ∙ sym now;
          is_calm = subst (λ k. IsCalm k new.calm (beats nobody (rec ∷ past))) (sym now)
              (subst (λ k. IsCalm m k (with_beat beat known)) (sym (calm_new ∙ ap (calm_with calm) renewed)) (calm_is m calm beat known gone_told.is_calm));
          restarts_are = omega (arith, restarts_new);
          few = omega arith;
        },
        text
            ∙ ap (λ (t : List ℕ). t ++ change_lines m (changes_of m renewal)) gone_told.text
            ∙ append_assoc start (change_lines m (downs (gone old.monitoring.ear.latest m known))) (change_lines m (changes_of m renewal))
            ∙ ap (λ (t : List ℕ). start ++ t) (sym (lines_append m (downs (gone old.monitoring.ear.latest m known)) (changes_of m renewal)) ∙ ap (change_lines m) (sym all)),
      )
