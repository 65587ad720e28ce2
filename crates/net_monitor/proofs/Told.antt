-- The laws: who is heard and online, and what is told of them.
use Rattle.std.proofs.Common.{◌≡◌, ℕ, zero, suc, ◌+◌, ◌<◌, ◌≤◌, eqb, leb, Bool, true, false, ◌&&◌, ◌||◌, cond, List, [], ◌∷◌, ◌++◌, append-nil, length, Option, Some, None, refl, sym, ap, ◌∙◌, subst, ◌⊎◌, inl, inr, arith}
use Rattle.std.specs.List.{Contains}
use Rattle.std.specs.Option.{is_some}
use Rattle.std.proofs.lemmas.Bool.{cases_lt, and_parts, and_from, cond-true, eqb-true, eq-eqb, leb-true, le-leb}
use Rattle.std.proofs.lemmas.List.Elements.{Contains-append_left, Contains-append_right, Contains-append_cases}
use Rattle.net_monitor.specs.declared.node_state.NodeState.{NodeState}
use Rattle.net_monitor.specs.Beats.{Beat, of_node, capped_restarts, state_by, state_of}
use Rattle.net_monitor.specs.Online.{is_heard, is_online, heard, online, gathered, listed}
use Rattle.net_monitor.specs.Laws.{IsHeard, IsOnline, Tells, AllAbove, Ascend, nodes_of, MonitorLaws}
use Rattle.net_monitor.proofs.Gathered.{gathered_zero, gathered_step}

some_inj : {A : Type 0} (a b : A) → Some a ≡ Some b → a ≡ b
some_inj a b e = cc

-- what is listed is there, and what is there is listed
listed_is : {X : Type 0} (o : Option X) (x : X) → Contains (listed o) x → o ≡ Some x
listed_is None x (j, h, e) = absurd (omega arith)
listed_is (Some y) x (zero, h, e) = ap (λ z. Some z) e
listed_is (Some y) x (suc j, h, e) = absurd (omega arith)

listed_has : {X : Type 0} (o : Option X) (x : X) → o ≡ Some x → Contains (listed o) x
listed_has None x e = cc
listed_has (Some y) x e = (0, omega arith, some_inj y x e)

-- where what is gathered comes from
pub record Comes {X : Type 0} (f : ℕ → Option X) (k : ℕ) (x : X) : Type 0 where
  pub from : ℕ
  pub below : from < k
  pub is : f from ≡ Some x

comes_further : {X : Type 0} (f : ℕ → Option X) (k : ℕ) (x : X) → Comes f k x → Comes f (suc k) x
comes_further f k x c = record { from = c.from; below = let h : c.from < k = c.below in omega arith; is = c.is }

gathered_comes : {X : Type 0} (f : ℕ → Option X) (k : ℕ) (x : X) → Contains (gathered f k) x → Comes f k x
gathered_comes f zero x c = let none : length (gathered f 0) ≡ 0 = ap length (gathered_zero f) in let h : c.0 < length (gathered f 0) = c.1 in absurd (omega arith)
gathered_comes f (suc k) x c =
    elim (Contains-append_cases (gathered f k) (listed (f k)) x (subst (λ xs. Contains xs x) (gathered_step f k) c)) [
      | inl before ↦ comes_further f k x (gathered_comes f k x before)
      | inr here ↦ record { from = k; below = omega arith; is = listed_is (f k) x here }
    ]

gathered_has : {X : Type 0} (f : ℕ → Option X) (k s : ℕ) (x : X) → s < k → f s ≡ Some x → Contains (gathered f k) x
gathered_has f zero s x h e = absurd (omega arith)
gathered_has f (suc k) s x h e = subst (λ xs. Contains xs x) (sym (gathered_step f k)) (elim (cases_lt s k) [
  | inl below ↦ Contains-append_left (gathered f k) (listed (f k)) x (gathered_has f k s x below e)
  | inr last ↦ let same : s ≡ k = omega arith in Contains-append_right (gathered f k) (listed (f k)) x (listed_has (f k) x (ap f (sym same) ∙ e))
])

-- numbers below a bound, with the bound behind them
abbrev AllBelow : ℕ → List ℕ → Type 0
AllBelow n [] = Unit {0}
AllBelow n (x ∷ xs) = (x < n) × AllBelow n xs

above_snoc : (x n : ℕ) (xs : List ℕ) → AllAbove x xs → x < n → AllAbove x (xs ++ n ∷ [])
above_snoc x n [] a h = (h, tt)
above_snoc x n (y ∷ ys) a h = (a.0, above_snoc x n ys a.1 h)

ascend_snoc : (n : ℕ) (xs : List ℕ) → Ascend xs → AllBelow n xs → Ascend (xs ++ n ∷ [])
ascend_snoc n [] a b = (tt, tt)
ascend_snoc n (x ∷ xs) a b = (above_snoc x n xs a.0 b.0, ascend_snoc n xs a.1 b.1)

below_snoc : (n : ℕ) (xs : List ℕ) → AllBelow n xs → AllBelow (suc n) (xs ++ n ∷ [])
below_snoc n [] b = (omega arith, tt)
below_snoc n (x ∷ xs) b = let h : x < n = b.0 in (omega arith, below_snoc n xs b.1)

below_later : (n : ℕ) (xs : List ℕ) → AllBelow n xs → AllBelow (suc n) xs
below_later n [] b = tt
below_later n (x ∷ xs) b = let h : x < n = b.0 in (omega arith, below_later n xs b.1)

-- what names the numbers that it comes from ascends
module _ {X : Type 0} (names : List X → List ℕ) (f : ℕ → Option X) where
  -- the names of these and of what is there of k
  abbrev Names : Type 0
  Names = (k : ℕ) → names (gathered f (suc k)) ≡ cond (is_some (f k)) (names (gathered f k) ++ k ∷ []) (names (gathered f k))

  ascends_by : (k : ℕ) (b : Bool) → Ascend (names (gathered f k)) → AllBelow k (names (gathered f k)) → (xs : List ℕ) → xs ≡ cond b (names (gathered f k) ++ k ∷ []) (names (gathered f k))
      → Ascend xs × AllBelow (suc k) xs
  ascends_by k true a l xs e = (subst Ascend (sym e) (ascend_snoc k (names (gathered f k)) a l), subst (AllBelow (suc k)) (sym e) (below_snoc k (names (gathered f k)) l))
  ascends_by k false a l xs e = (subst Ascend (sym e) a, subst (AllBelow (suc k)) (sym e) (below_later k (names (gathered f k)) l))

  ascends : names [] ≡ [] → Names → (k : ℕ) → Ascend (names (gathered f k)) × AllBelow k (names (gathered f k))
  ascends none further zero =
      let empty : names (gathered f 0) ≡ [] = ap names (gathered_zero f) ∙ none in
      (subst Ascend (sym empty) tt, subst (AllBelow 0) (sym empty) tt)
  ascends none further (suc k) = let before = ascends none further k in ascends_by k (is_some (f k)) before.0 before.1 (names (gathered f (suc k))) (further k)

nodes_append : (xs ys : List NodeState) → nodes_of (xs ++ ys) ≡ nodes_of xs ++ nodes_of ys
nodes_append [] ys = refl
nodes_append (x ∷ xs) ys = ap (λ l. x.node ∷ l) (nodes_append xs ys)

-- what is listed of a number is its name, or nothing
heard_listed : (k : ℕ) (b : Bool) (xs : List ℕ) → (xs ++ listed (cond b (Some k) None)) ≡ cond (is_some (cond b (Some k) None)) (xs ++ k ∷ []) xs
heard_listed k true xs = refl
heard_listed k false xs = append-nil xs

state_listed : (k : ℕ) (beats : List Beat) (xs : List ℕ) → (xs ++ nodes_of (listed (state_by k beats))) ≡ cond (is_some (state_by k beats)) (xs ++ k ∷ []) xs
state_listed k [] xs = append-nil xs
state_listed k (b ∷ older) xs = refl

online_listed : (k : ℕ) (b : Bool) (beats : List Beat) (xs : List ℕ) → (xs ++ nodes_of (listed (cond b (state_by k beats) None))) ≡ cond (is_some (cond b (state_by k beats) None)) (xs ++ k ∷ []) xs
online_listed k true beats xs = state_listed k beats xs
online_listed k false beats xs = append-nil xs

abbrev hears : List Beat → ℕ → Option ℕ
hears past s = cond (is_heard past s) (Some s) None

abbrev finds : ℕ → List Beat → ℕ → Option NodeState
finds m past s = cond (is_online m past s) (state_of s past) None

heard_names : (past : List Beat) (k : ℕ) → gathered (hears past) (suc k) ≡ cond (is_some (hears past k)) (gathered (hears past) k ++ k ∷ []) (gathered (hears past) k)
heard_names past k = gathered_step (hears past) k ∙ heard_listed k (is_heard past k) (gathered (hears past) k)

online_names : (m : ℕ) (past : List Beat) (k : ℕ)
    → nodes_of (gathered (finds m past) (suc k)) ≡ cond (is_some (finds m past k)) (nodes_of (gathered (finds m past) k) ++ k ∷ []) (nodes_of (gathered (finds m past) k))
online_names m past k =
    ap nodes_of (gathered_step (finds m past) k)
    ∙ nodes_append (gathered (finds m past) k) (listed (finds m past k))
    ∙ online_listed k (is_online m past k) (of_node k past) (nodes_of (gathered (finds m past) k))

-- a test of two parts that holds by one of them
pub or_parts : (a b : Bool) → (a || b) ≡ true → (a ≡ true) ⊎ (b ≡ true)
or_parts true b e = inl refl
or_parts false b e = inr e

pub or_left : (a b : Bool) → a ≡ true → (a || b) ≡ true
or_left true b e = refl
or_left false b e = cc

pub or_right : (a b : Bool) → b ≡ true → (a || b) ≡ true
or_right true b e = refl
or_right false b e = e

contains_later : (e b : Beat) (past : List Beat) → Contains past b → Contains (e ∷ past) b
contains_later e b past (i, h, is) = (suc i, omega arith, is)

contains_first : (e : Beat) (past : List Beat) → Contains (e ∷ past) e
contains_first e past = (0, omega arith, refl)

contains_parts : (e b : Beat) (past : List Beat) → Contains (e ∷ past) b → (e ≡ b) ⊎ Contains past b
contains_parts e b past (zero, h, is) = inl is
contains_parts e b past (suc i, h, is) = inr (i, omega arith, is)

-- the tests are the facts
heard_is : (past : List Beat) (s : ℕ) → is_heard past s ≡ true → IsHeard past s
heard_is [] s t = cc
heard_is (e ∷ past) s t = elim (or_parts (eqb e.node s) (is_heard past s) t) [
  | inl here ↦ record { b = e; there = contains_first e past; of_it = eqb-true e.node s here }
  | inr later ↦ let h = heard_is past s later in record { b = h.b; there = contains_later e h.b past h.there; of_it = h.of_it }
]

heard_test : (past : List Beat) (s : ℕ) (b : Beat) → Contains past b → b.node ≡ s → is_heard past s ≡ true
heard_test [] s b (i, h, is) of_it = absurd (omega arith)
heard_test (e ∷ past) s b there of_it = elim (contains_parts e b past there) [
  | inl same ↦ or_left (eqb e.node s) (is_heard past s) (eq-eqb e.node s (ap (λ x. x.node) same ∙ of_it))
  | inr later ↦ or_right (eqb e.node s) (is_heard past s) (heard_test past s b later of_it)
]

online_is : (m : ℕ) (past : List Beat) (s : ℕ) → is_online m past s ≡ true → IsOnline m past s
online_is m [] s t = cc
online_is m (e ∷ past) s t = elim (or_parts (eqb e.node s && leb m (e.moment + 3000000)) (is_online m past s) t) [
  | inl here ↦
      let p = and_parts (eqb e.node s) (leb m (e.moment + 3000000)) here in
      record { b = e; there = contains_first e past; of_it = eqb-true e.node s p.0; recent = leb-true m (e.moment + 3000000) p.1 }
  | inr later ↦ let h = online_is m past s later in record { b = h.b; there = contains_later e h.b past h.there; of_it = h.of_it; recent = h.recent }
]

online_test : (m : ℕ) (past : List Beat) (s : ℕ) (b : Beat) → Contains past b → b.node ≡ s → m ≤ b.moment + 3000000 → is_online m past s ≡ true
online_test m [] s b (i, h, is) of_it recent = absurd (omega arith)
online_test m (e ∷ past) s b there of_it recent = elim (contains_parts e b past there) [
  | inl same ↦
      let on_time : m ≤ e.moment + 3000000 = subst (λ x. m ≤ x.moment + 3000000) (sym same) recent in
      or_left (eqb e.node s && leb m (e.moment + 3000000)) (is_online m past s)
      (and_from (eqb e.node s) (leb m (e.moment + 3000000)) (eq-eqb e.node s (ap (λ x. x.node) same ∙ of_it)) (le-leb m (e.moment + 3000000) on_time))
  | inr later ↦ or_right (eqb e.node s && leb m (e.moment + 3000000)) (is_online m past s) (online_test m past s b later of_it recent)
]

-- a choice that is there was made
chosen : {X : Type 0} (b : Bool) (o : Option X) (x : X) → cond b o None ≡ Some x → (b ≡ true) × (o ≡ Some x)
chosen true o x e = (refl, e)
chosen false o x e = cc

-- a state by heartbeats tells what they say
record By (s : ℕ) (beats : List Beat) (x : NodeState) : Type 0 where
  pub last : Beat
  pub older : List Beat
  pub parts : beats ≡ last ∷ older
  pub node : s ≡ x.node
  pub beat : x.beat ≡ last.beat
  pub moment : x.last ≡ last.moment
  pub restarts : x.restarts ≡ capped_restarts (last ∷ older)

by_beats : (s : ℕ) (beats : List Beat) (x : NodeState) → state_by s beats ≡ Some x → By s beats x
by_beats s [] x e = cc
by_beats s (b ∷ older) x e =
    let y : NodeState = record { node = s; beat = b.beat; last = b.moment; restarts = capped_restarts (b ∷ older) } in
    let is : y ≡ x = some_inj y x e in
    record {
      last = b;
      older = older;
      parts = refl;
      node = ap (λ z. z.node) is;
      beat = sym (ap (λ z. z.beat) is);
      moment = sym (ap (λ z. z.last) is);
      restarts = sym (ap (λ z. z.restarts) is);
    }

by_tells : (past : List Beat) (x : NodeState) → Tells past x → state_of x.node past ≡ Some x
by_tells past x t =
    ap (state_by x.node) t.parts
    ∙ ap (λ z. Some (record { node = x.node; beat = z; last = t.last.moment; restarts = capped_restarts (t.last ∷ t.older) })) (sym t.beat)
    ∙ ap (λ z. Some (record { node = x.node; beat = x.beat; last = z; restarts = capped_restarts (t.last ∷ t.older) })) (sym t.moment)
    ∙ ap (λ z. Some (record { node = x.node; beat = x.beat; last = x.last; restarts = z })) (sym t.restarts)

online_law : (m : ℕ) (past : List Beat) (x : NodeState) → Contains (online m past) x → (x.node < 128) × IsOnline m past x.node × Tells past x
online_law m past x c =
    let from = gathered_comes (finds m past) 128 x c in
    let s : ℕ = from.from in
    let made = chosen (is_online m past s) (state_of s past) x from.is in
    let by = by_beats s (of_node s past) x made.1 in
    let low : s < 128 = from.below in
    let same : s ≡ x.node = by.node in (
      omega arith,
      subst (λ n. IsOnline m past n) by.node (online_is m past s made.0),
      record {
        last = by.last;
        older = by.older;
        parts = subst (λ n. of_node n past ≡ by.last ∷ by.older) by.node by.parts;
        beat = by.beat;
        moment = by.moment;
        restarts = by.restarts;
      },
    )

law_online : (m : ℕ) (past : List Beat) (x : NodeState) → x.node < 128 → IsOnline m past x.node → Tells past x → Contains (online m past) x
law_online m past x low on t =
    gathered_has (finds m past) 128 x.node x low
    (cond-true (is_online m past x.node) (state_of x.node past) None (online_test m past x.node on.b on.there on.of_it on.recent) ∙ by_tells past x t)

heard_law : (past : List Beat) (s : ℕ) → Contains (heard past) s → (s < 128) × IsHeard past s
heard_law past s c =
    let from = gathered_comes (hears past) 128 s c in
    let made = chosen (is_heard past from.from) (Some from.from) s from.is in
    let same : from.from ≡ s = some_inj from.from s made.1 in
    let low : from.from < 128 = from.below in
    (omega arith, subst (λ n. IsHeard past n) same (heard_is past from.from made.0))

law_heard : (past : List Beat) (s : ℕ) → s < 128 → IsHeard past s → Contains (heard past) s
law_heard past s low h = gathered_has (hears past) 128 s s low (cond-true (is_heard past s) (Some s) None (heard_test past s h.b h.there h.of_it))

pub monitor_laws : MonitorLaws
monitor_laws = record {
  heard_are = λ past s. (heard_law past s, λ h. law_heard past s h.0 h.1);
  heard_ascend = λ past. (ascends (λ xs. xs) (hears past) refl (heard_names past) 128).0;
  online_are = λ m past x. (online_law m past x, λ h. law_online m past x h.0 h.1 h.2);
  online_ascend = λ m past. (ascends nodes_of (finds m past) refl (online_names m past) 128).0;
}
