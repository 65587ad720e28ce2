-- What changes tell is what heartbeats give.
use Rattle.std.proofs.Common.{◌≡◌, ℕ, zero, suc, ◌+◌, ◌<◌, ◌≤◌, eqb, leb, ltb, Bool, true, false, not, ◌&&◌, ◌||◌, cond, List, [], ◌∷◌, ◌++◌, map, Option, Some, None, option_map, refl, sym, ap, ◌∙◌, subst, inl, inr, arith}
use Rattle.std.proofs.lemmas.Bool.{cases_Bool, cases_lt, cond-true, cond-false, eq-eqb, ne_eqb, eqb-true, and_parts}
use Rattle.net_monitor.specs.declared.node_state.NodeState.{NodeState}
use Rattle.net_monitor.specs.Beats.{Beat, of_node, restarts, state_by, state_of}
use Rattle.net_monitor.specs.Changes.{Change, Down, Restart, Up, Health, Mode, Code, gone, downs, restart_by, if_other, differences, beat_changes}
use Rattle.net_monitor.specs.Online.{is_heard, is_online, online, gathered, listed}
use Rattle.net_monitor.specs.Told.{Condition, condition_of, Told, told_with, node_of, told_behind, told_of, online_node, told_online, of_state}
use Rattle.net_monitor.proofs.Gathered.{gathered_zero, gathered_step, gathered_same, gathered_map}
use Rattle.net_monitor.proofs.Leaving.{online_earlier}
use Rattle.net_monitor.proofs.Kept.{has_beat, heard_has}
use Rattle.net_monitor.proofs.Told.{or_parts, or_left, or_right}

abbrev pub condition_by : List Beat → Option Condition
condition_by [] = None
condition_by (b ∷ older) = Some (condition_of b.beat)

-- what is told of the node s is what heartbeats give of it at the moment m
pub record Says (m : ℕ) (past : List Beat) (s : ℕ) (t : Told) : Type 0 where
  pub condition : t.condition ≡ cond (is_online m past s) (condition_by (of_node s past)) None
  pub restarts : t.restarts ≡ restarts (of_node s past)

abbrev told_as : Option Condition → ℕ → Told
told_as condition restarts = record { condition = condition; restarts = restarts }

pub told_append : (s : ℕ) (t : Told) (xs ys : List Change) → told_behind s t (xs ++ ys) ≡ told_behind s (told_behind s t xs) ys
told_append s t [] ys = refl
told_append s t (x ∷ xs) ys = told_append s (cond (eqb (node_of x) s) (told_with x t) t) xs ys

-- nothing is heard of a node at first
pub says_first : (m s : ℕ) → Says m [] s (told_of s [])
says_first m s = record { condition = refl; restarts = refl }

-- as time goes on

downs_append : (xs ys : List ℕ) → downs (xs ++ ys) ≡ downs xs ++ downs ys
downs_append [] ys = refl
downs_append (x ∷ xs) ys = ap (λ (cs : List Change). Down x ∷ cs) (downs_append xs ys)

module _ (s : ℕ) (test : ℕ → Bool) (t : Told) where
  abbrev named : ℕ → Option ℕ
  named k = cond (test k) (Some k) None

  abbrev down : Told → Told
  down u = told_as None u.restarts

  down_other : (k : ℕ) (b : Bool) (u : Told) → eqb k s ≡ false → told_behind s u (downs (listed (cond b (Some k) None))) ≡ u
  down_other k true u other = cond-false (eqb k s) (down u) u other
  down_other k false u other = refl

  down_same : (k : ℕ) (b : Bool) (u : Told) → eqb k s ≡ true → told_behind s u (downs (listed (cond b (Some k) None))) ≡ cond b (down u) u
  down_same k true u same = cond-true (eqb k s) (down u) u same
  down_same k false u same = refl

  further : (k : ℕ) → told_behind s t (downs (gathered named (suc k))) ≡ told_behind s (told_behind s t (downs (gathered named k))) (downs (listed (named k)))
  further k =
      ap (λ xs. told_behind s t (downs xs)) (gathered_step named k)
      ∙ ap (told_behind s t) (downs_append (gathered named k) (listed (named k)))
      ∙ told_append s t (downs (gathered named k)) (downs (listed (named k)))

  down_before : (k : ℕ) → k ≤ s → told_behind s t (downs (gathered named k)) ≡ t
  down_before zero h = ap (λ xs. told_behind s t (downs xs)) (gathered_zero named)
  down_before (suc k) h =
      further k
      ∙ down_other k (test k) (told_behind s t (downs (gathered named k))) (ne_eqb k s (λ e. absurd (omega arith)))
      ∙ down_before k (omega arith)

  down_behind : (k : ℕ) → s < k → told_behind s t (downs (gathered named k)) ≡ cond (test s) (down t) t
  down_behind zero h = absurd (omega arith)
  down_behind (suc k) h = elim (cases_lt s k) [
    | inl below ↦
        further k
        ∙ down_other k (test k) (told_behind s t (downs (gathered named k))) (ne_eqb k s (λ e. absurd (omega arith)))
        ∙ down_behind k below
    | inr last ↦
        let same : k ≡ s = omega arith in
        further k
        ∙ down_same k (test k) (told_behind s t (downs (gathered named k))) (eq-eqb k s same)
        ∙ ap (λ u. cond (test k) (down u) u) (down_before k (omega arith))
        ∙ ap (λ n. cond (test n) (down t) t) same
  ]

-- the condition where a node may have gone offline
gone_condition : (t : Told) (x : Option Condition) (a b : Bool) → (b ≡ true → a ≡ true) → t.condition ≡ cond a x None → (cond (a && not b) (told_as None t.restarts) t).condition ≡ cond b x None
gone_condition t x true true h e = e
gone_condition t x true false h e = refl
gone_condition t x false true h e = let wrong = h refl in cc
gone_condition t x false false h e = e

gone_restarts : (t : Told) (b : Bool) → (cond b (told_as None t.restarts) t).restarts ≡ t.restarts
gone_restarts t true = refl
gone_restarts t false = refl

pub says_later : (m n s : ℕ) (past : List Beat) (t : Told) → m ≤ n → s < 128 → Says m past s t → Says n past s (told_behind s t (downs (gone m n past)))
says_later m n s past t h low says =
    let test : ℕ → Bool = λ k. is_online m past k && not (is_online n past k) in
    let is : told_behind s t (downs (gone m n past)) ≡ cond (test s) (told_as None t.restarts) t = down_behind s test t 128 low in
    record {
      condition = ap (λ u. u.condition) is
          ∙ gone_condition t (condition_by (of_node s past)) (is_online m past s) (is_online n past s) (λ on. online_earlier m n s past h on) says.condition;
      restarts = ap (λ u. u.restarts) is ∙ gone_restarts t (test s) ∙ says.restarts;
    }

-- by a heartbeat

-- these are changes of one node
abbrev AllOf : ℕ → List Change → Type 0
AllOf n [] = Unit {0}
AllOf n (c ∷ changes) = (node_of c ≡ n) × AllOf n changes

all_append : (n : ℕ) (xs ys : List Change) → AllOf n xs → AllOf n ys → AllOf n (xs ++ ys)
all_append n [] ys a b = b
all_append n (x ∷ xs) ys a b = (a.0, all_append n xs ys a.1 b)

all_cond : (n : ℕ) (b : Bool) (xs ys : List Change) → AllOf n xs → AllOf n ys → AllOf n (cond b xs ys)
all_cond n true xs ys a b = a
all_cond n false xs ys a b = b

all_restart : (e : Beat) (beats : List Beat) → AllOf e.node (restart_by e beats)
all_restart e [] = tt
all_restart e (b ∷ older) = all_cond e.node (ltb e.beat.uptime b.beat.uptime) (Restart e.node b.beat.uptime e.beat.uptime ∷ []) [] (refl, tt) tt

all_differences : (e : Beat) (beats : List Beat) → AllOf e.node (differences e beats)
all_differences e [] = tt
all_differences e (b ∷ older) =
    let n = e.node in
    let health = if_other (Health n) b.beat.health.value e.beat.health.value in
    let mode = if_other (Mode n) b.beat.mode.value e.beat.mode.value in
    let code = if_other (Code n) b.beat.vendor_specific_status_code e.beat.vendor_specific_status_code in
    all_append n (health ++ mode) code
    (all_append n health mode
    (all_cond n (eqb b.beat.health.value e.beat.health.value) [] (Health n b.beat.health.value e.beat.health.value ∷ []) tt (refl, tt))
    (all_cond n (eqb b.beat.mode.value e.beat.mode.value) [] (Mode n b.beat.mode.value e.beat.mode.value ∷ []) tt (refl, tt)))
    (all_cond n (eqb b.beat.vendor_specific_status_code e.beat.vendor_specific_status_code) [] (Code n b.beat.vendor_specific_status_code e.beat.vendor_specific_status_code ∷ []) tt (refl, tt))

abbrev said : Beat → List Beat → Bool → Bool → List Change
said e beats on up = cond on (differences e beats) (cond up (Up e.node e.beat ∷ []) [])

all_changes : (e : Beat) (beats : List Beat) (on up : Bool) → AllOf e.node (restart_by e beats ++ said e beats on up)
all_changes e beats on up =
    let n = e.node in
    all_append n (restart_by e beats) (said e beats on up) (all_restart e beats)
    (all_cond n on (differences e beats) (cond up (Up n e.beat ∷ []) []) (all_differences e beats) (all_cond n up (Up n e.beat ∷ []) [] (refl, tt) tt))

-- of another node they tell nothing
told_other : (s n : ℕ) (t : Told) (changes : List Change) → AllOf n changes → eqb n s ≡ false → told_behind s t changes ≡ t
told_other s n t [] all other = refl
told_other s n t (c ∷ changes) all other =
    ap (λ u. told_behind s u changes) (cond-false (eqb (node_of c) s) (told_with c t) t (ap (λ k. eqb k s) all.0 ∙ other))
    ∙ told_other s n t changes all.1 other

-- of this one, what each of them does
abbrev run : Told → List Change → Told
run t [] = t
run t (c ∷ changes) = run (told_with c t) changes

told_same : (s n : ℕ) (t : Told) (changes : List Change) → AllOf n changes → eqb n s ≡ true → told_behind s t changes ≡ run t changes
told_same s n t [] all same = refl
told_same s n t (c ∷ changes) all same =
    ap (λ u. told_behind s u changes) (cond-true (eqb (node_of c) s) (told_with c t) t (ap (λ k. eqb k s) all.0 ∙ same))
    ∙ told_same s n (told_with c t) changes all.1 same

run_append : (t : Told) (xs ys : List Change) → run t (xs ++ ys) ≡ run (run t xs) ys
run_append t [] ys = refl
run_append t (x ∷ xs) ys = run_append (told_with x t) xs ys

restart_condition : (t : Told) (c : Change) (b : Bool) → (told_with c t).condition ≡ t.condition → (run t (cond b (c ∷ []) [])).condition ≡ t.condition
restart_condition t c true h = h
restart_condition t c false h = refl

restarted_condition : (t : Told) (e : Beat) (beats : List Beat) → (run t (restart_by e beats)).condition ≡ t.condition
restarted_condition t e [] = refl
restarted_condition t e (b ∷ older) = restart_condition t (Restart e.node b.beat.uptime e.beat.uptime) (ltb e.beat.uptime b.beat.uptime) refl

restart_count : (t : Told) (n old new count : ℕ) (b : Bool) → t.restarts ≡ count → (run t (cond b (Restart n old new ∷ []) [])).restarts ≡ count + cond b 1 0
restart_count t n old new count true h = ap (λ k. k + 1) h
restart_count t n old new count false h = omega (arith, h)

restarted_count : (t : Told) (e : Beat) (beats : List Beat) → t.restarts ≡ restarts beats → (run t (restart_by e beats)).restarts ≡ restarts (e ∷ beats)
restarted_count t e [] h = h
restarted_count t e (b ∷ older) h = restart_count t e.node b.beat.uptime e.beat.uptime (restarts (b ∷ older)) (ltb e.beat.uptime b.beat.uptime) h

health_runs : (n old new mode code r : ℕ) → run (told_as (Some (record { health = old; mode = mode; code = code })) r) (if_other (Health n) old new) ≡ told_as (Some (record { health = new; mode = mode; code = code })) r
health_runs n old new mode code r = elim (cases_Bool (eqb old new)) [
  | inl same ↦
      ap (λ (b : Bool). run (told_as (Some (record { health = old; mode = mode; code = code })) r) (cond b [] (Health n old new ∷ []))) same
      ∙ ap (λ k. told_as (Some (record { health = k; mode = mode; code = code })) r) (eqb-true old new same)
  | inr other ↦ ap (λ (b : Bool). run (told_as (Some (record { health = old; mode = mode; code = code })) r) (cond b [] (Health n old new ∷ []))) other
]

mode_runs : (n health old new code r : ℕ) → run (told_as (Some (record { health = health; mode = old; code = code })) r) (if_other (Mode n) old new) ≡ told_as (Some (record { health = health; mode = new; code = code })) r
mode_runs n health old new code r = elim (cases_Bool (eqb old new)) [
  | inl same ↦
      ap (λ (b : Bool). run (told_as (Some (record { health = health; mode = old; code = code })) r) (cond b [] (Mode n old new ∷ []))) same
      ∙ ap (λ k. told_as (Some (record { health = health; mode = k; code = code })) r) (eqb-true old new same)
  | inr other ↦ ap (λ (b : Bool). run (told_as (Some (record { health = health; mode = old; code = code })) r) (cond b [] (Mode n old new ∷ []))) other
]

code_runs : (n health mode old new r : ℕ) → run (told_as (Some (record { health = health; mode = mode; code = old })) r) (if_other (Code n) old new) ≡ told_as (Some (record { health = health; mode = mode; code = new })) r
code_runs n health mode old new r = elim (cases_Bool (eqb old new)) [
  | inl same ↦
      ap (λ (b : Bool). run (told_as (Some (record { health = health; mode = mode; code = old })) r) (cond b [] (Code n old new ∷ []))) same
      ∙ ap (λ k. told_as (Some (record { health = health; mode = mode; code = k })) r) (eqb-true old new same)
  | inr other ↦ ap (λ (b : Bool). run (told_as (Some (record { health = health; mode = mode; code = old })) r) (cond b [] (Code n old new ∷ []))) other
]

-- a node that says something else is told as saying it
differences_run : (e b : Beat) (older : List Beat) (r : ℕ) → run (told_as (Some (condition_of b.beat)) r) (differences e (b ∷ older)) ≡ told_as (Some (condition_of e.beat)) r
differences_run e b older r =
    let n = e.node in
    let x = b.beat in
    let y = e.beat in
    let health = if_other (Health n) x.health.value y.health.value in
    let mode = if_other (Mode n) x.mode.value y.mode.value in
    let code = if_other (Code n) x.vendor_specific_status_code y.vendor_specific_status_code in
    let t : Told = told_as (Some (condition_of x)) r in
    run_append t (health ++ mode) code
    ∙ ap (λ u. run u code) (run_append t health mode)
    ∙ ap (λ u. run (run u mode) code) (health_runs n x.health.value y.health.value x.mode.value x.vendor_specific_status_code r)
    ∙ ap (λ u. run u code) (mode_runs n y.health.value x.mode.value y.mode.value x.vendor_specific_status_code r)
    ∙ code_runs n y.health.value y.mode.value x.vendor_specific_status_code y.vendor_specific_status_code r

told_parts : (t : Told) (c : Option Condition) (r : ℕ) → t.condition ≡ c → t.restarts ≡ r → t ≡ told_as c r
told_parts t c r e f = λ i. told_as (e i) (f i)

-- what is told of its own node behind a heartbeat
own_run : (e : Beat) (beats : List Beat) (on up : Bool) (t : Told) → (on ≡ true → has_beat beats ≡ true) → (on ≡ true → up ≡ true)
    → t.condition ≡ cond on (condition_by beats) None → t.restarts ≡ restarts beats
    → run t (restart_by e beats ++ said e beats on up) ≡ told_as (cond up (Some (condition_of e.beat)) None) (restarts (e ∷ beats))
own_run e [] true up t has stays c r = let wrong : false ≡ true = has refl in cc
own_run e (b ∷ older) true up t has stays c r =
    let changes = restart_by e (b ∷ older) in
    let count = restarts (e ∷ b ∷ older) in
    let first : run t changes ≡ told_as (Some (condition_of b.beat)) count =
    told_parts (run t changes) (Some (condition_of b.beat)) count (restarted_condition t e (b ∷ older) ∙ c) (restarted_count t e (b ∷ older) r) in
    run_append t changes (differences e (b ∷ older))
    ∙ ap (λ u. run u (differences e (b ∷ older))) first
    ∙ differences_run e b older count
    ∙ ap (λ x. told_as (cond x (Some (condition_of e.beat)) None) count) (sym (stays refl))
own_run e beats false true t has stays c r =
    run_append t (restart_by e beats) (Up e.node e.beat ∷ [])
    ∙ ap (λ k. told_as (Some (condition_of e.beat)) k) (restarted_count t e beats r)
own_run e beats false false t has stays c r =
    run_append t (restart_by e beats) []
    ∙ told_parts (run t (restart_by e beats)) None (restarts (e ∷ beats)) (restarted_condition t e beats ∙ c) (restarted_count t e beats r)

-- who is online has a heartbeat
online_heard : (m s : ℕ) (past : List Beat) → is_online m past s ≡ true → is_heard past s ≡ true
online_heard m s [] on = cc
online_heard m s (e ∷ past) on = elim (or_parts (eqb e.node s && leb m (e.moment + 3000000)) (is_online m past s) on) [
  | inl here ↦ or_left (eqb e.node s) (is_heard past s) (and_parts (eqb e.node s) (leb m (e.moment + 3000000)) here).0
  | inr later ↦ or_right (eqb e.node s) (is_heard past s) (online_heard m s past later)
]

own_says : (m s : ℕ) (e : Beat) (past : List Beat) (t : Told) → e.node ≡ s → Says m past s t → Says m (e ∷ past) s (told_behind s t (beat_changes m e past))
own_says m s e past t same says =
    let n = e.node in
    let beats = of_node n past in
    let on = is_online m past n in
    let up = is_online m (e ∷ past) n in
    let test : eqb n s ≡ true = eq-eqb n s same in
    let condition : t.condition ≡ cond on (condition_by beats) None = subst (λ k. t.condition ≡ cond (is_online m past k) (condition_by (of_node k past)) None) (sym same) says.condition in
    let count : t.restarts ≡ restarts beats = subst (λ k. t.restarts ≡ restarts (of_node k past)) (sym same) says.restarts in
    let is : told_behind s t (beat_changes m e past) ≡ told_as (cond up (Some (condition_of e.beat)) None) (restarts (e ∷ beats)) =
    told_same s n t (beat_changes m e past) (all_changes e beats on up) test
    ∙ own_run e beats on up t
    (λ o. sym (heard_has n past) ∙ online_heard m n past o)
    (λ o. or_right (eqb n n && leb m (e.moment + 3000000)) on o) condition count in
    let all : of_node s (e ∷ past) ≡ e ∷ beats = cond-true (eqb n s) (e ∷ of_node s past) (of_node s past) test ∙ ap (λ k. e ∷ of_node k past) (sym same) in
    record {
      condition = ap (λ u. u.condition) is
          ∙ ap (λ k. cond (is_online m (e ∷ past) k) (Some (condition_of e.beat)) None) same
          ∙ ap (λ bs. cond (is_online m (e ∷ past) s) (condition_by bs) None) (sym all);
      restarts = ap (λ u. u.restarts) is ∙ ap restarts (sym all);
    }

other_says : (m s : ℕ) (e : Beat) (past : List Beat) (t : Told) → eqb e.node s ≡ false → Says m past s t → Says m (e ∷ past) s (told_behind s t (beat_changes m e past))
other_says m s e past t other says =
    let n = e.node in
    let is : told_behind s t (beat_changes m e past) ≡ t = told_other s n t (beat_changes m e past) (all_changes e (of_node n past) (is_online m past n) (is_online m (e ∷ past) n)) other in
    let all : of_node s (e ∷ past) ≡ of_node s past = cond-false (eqb n s) (e ∷ of_node s past) (of_node s past) other in
    let on : is_online m (e ∷ past) s ≡ is_online m past s = ap (λ b. (b && leb m (e.moment + 3000000)) || is_online m past s) other in
    record {
      condition = ap (λ u. u.condition) is ∙ says.condition ∙ (λ i. cond (sym on i) (condition_by (sym all i)) None);
      restarts = ap (λ u. u.restarts) is ∙ says.restarts ∙ ap restarts (sym all);
    }

pub says_beat : (m s : ℕ) (e : Beat) (past : List Beat) (t : Told) → Says m past s t → Says m (e ∷ past) s (told_behind s t (beat_changes m e past))
says_beat m s e past t says = elim (cases_Bool (eqb e.node s)) [
  | inl same ↦ own_says m s e past t (eqb-true e.node s same) says
  | inr other ↦ other_says m s e past t other says
]

-- who is online by what is told

state_told : (s : ℕ) (beats : List Beat) (on : Bool) → online_node s (told_as (cond on (condition_by beats) None) (restarts beats)) ≡ option_map of_state (cond on (state_by s beats) None)
state_told s [] true = refl
state_told s (b ∷ older) true = refl
state_told s beats false = refl

pub online_told : (m : ℕ) (past : List Beat) (changes : List Change) → ((s : ℕ) → s < 128 → Says m past s (told_of s changes)) → told_online changes ≡ map of_state (online m past)
online_told m past changes says =
    let found : ℕ → Option NodeState = λ s. cond (is_online m past s) (state_of s past) None in
    gathered_same (λ s. online_node s (told_of s changes)) (λ s. option_map of_state (found s)) 128 (λ s low.
    let k = says s low in
    ap (online_node s) (told_parts (told_of s changes) (cond (is_online m past s) (condition_by (of_node s past)) None) (restarts (of_node s past)) k.condition k.restarts)
    ∙ state_told s (of_node s past) (is_online m past s))
    ∙ sym (gathered_map of_state found 128)
