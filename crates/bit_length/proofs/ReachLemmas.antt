-- Remainders that follow one another by a step, and the rounds that mark what is reached.
use Rattle.std.proofs.Common.{◌≡◌, ℕ, ◌+◌, ◌-◌, ◌*◌, ◌/◌, ◌%◌, ◌<◌, ◌≤◌, ◌⊎◌, ◌↔◌, inl, inr, Bool, true, false, List, [], length, max, min, refl, sym, ap, ◌∙◌, subst, arith, set, length-set, get_or-set_other, get_or-set_same}
use Rattle.std.proofs.lemmas.Bool.{cases_lt}
use Rattle.std.proofs.Math.Nat.{add-mul-mod_self_left, mod-add-mod, div-add-mod, mod-eq_of_lt, le-max_left, le-max_right, max-le, min-le_left}
use Rattle.bit_length.specs.declared.run.Run.{Run}
use Rattle.bit_length.specs.Lengths.{Numbers, SomeLeaves}
use Rattle.bit_length.specs.Moved.{Moved}
use Rattle.bit_length.specs.Residues.{is_marked, AreNone, MarksAt, reach_at, AreAtMost, IsReached, Notes, MarksReached, Forgets}
use Rattle.bit_length.specs.Runs.{InRun, InSome}
use Rattle.bit_length.proofs.SetLemmas.{leaves_either}

-- ---- remainders

-- some steps from a remainder
steps_on : (k s a i : ℕ) → (a % k + s * i) % k ≡ (a + s * i) % k
steps_on k s a i = mod-add-mod a k (s * i)

step_on : (k s a t : ℕ) → ((a + s * t) % k + s) % k ≡ (a + s * (t + 1)) % k
step_on k s a t =
    let e : a + s * t + s ≡ a + s * (t + 1) = omega arith in
    mod-add-mod (a + s * t) k s ∙ ap (λ x. x % k) e

step_before : (k s a i : ℕ) → ((a + s) % k + s * i) % k ≡ (a + s * (i + 1)) % k
step_before k s a i =
    let e : a + s + s * i ≡ a + s * (i + 1) = omega arith in
    mod-add-mod (a + s) k (s * i) ∙ ap (λ x. x % k) e

-- steps by what a step leaves
stride_is : (k s a i : ℕ) → (a + s % k * i) % k ≡ (a + s * i) % k
stride_is k s a i =
    let e : s * i ≡ (k * (s / k) + s % k) * i = ap (λ t. t * i) (sym (div-add-mod s k)) in
    let f : a + s * i ≡ a + s % k * i + k * (s / k * i) = ap (λ t. a + t) e ∙ omega arith in
    sym (ap (λ t. t % k) f ∙ add-mul-mod_self_left (a + s % k * i) k (s / k * i))

-- behind a round the remainders come again
round_again : (k s round a i : ℕ) → (s * round) % k ≡ 0 → (a + s * (i % round)) % k ≡ (a + s * i) % k
round_again k s round a i e =
    let x : s * round ≡ k * (s * round / k) + (s * round) % k = sym (div-add-mod (s * round) k) in
    let y : s * round ≡ k * (s * round / k) = omega (arith, x, e) in
    let z : s * i ≡ s * (round * (i / round) + i % round) = ap (λ t. s * t) (sym (div-add-mod i round)) in
    let w : s * i ≡ s * (i % round) + s * round * (i / round) = z ∙ omega arith in
    let v : s * round * (i / round) ≡ k * (s * round / k * (i / round)) = ap (λ t. t * (i / round)) y ∙ omega arith in
    let f : a + s * i ≡ a + s * (i % round) + k * (s * round / k * (i / round)) = omega arith in
    sym (ap (λ t. t % k) f ∙ add-mul-mod_self_left (a + s * (i % round)) k (s * round / k * (i / round)))

-- ---- what is noted of runs

at_least : (old : List ℕ) (at n b : ℕ) → at < length old → reach_at old b ≤ reach_at (set old at (max (reach_at old at) n)) b
at_least old at n b lt = elim (cases_lt b at) [
  | inl h ↦ other (omega arith)
  | inr h ↦ elim (cases_lt at b) [
    | inl k ↦ other (omega arith)
    | inr k ↦ let e : at ≡ b = omega arith in here e
  ]
]
  where
    other : (b ≡ at → ⊥) → reach_at old b ≤ reach_at (set old at (max (reach_at old at) n)) b
    other ne =
        let e = get_or-set_other old at b (max (reach_at old at) n) 0 ne in omega (arith, e)

    here : at ≡ b → reach_at old b ≤ reach_at (set old at (max (reach_at old at) n)) b
    here e =
        subst (λ x. reach_at old x ≤ reach_at (set old at (max (reach_at old at) n)) x) e (let f = get_or-set_same old at (max (reach_at old at) n) 0 lt in let l = le-max_left (reach_at old at) n in omega (arith, f, l))

pub most_set : (old : List ℕ) (at n most : ℕ) → at < length old → AreAtMost old most → n ≤ most → AreAtMost (set old at (max (reach_at old at) n)) most
most_set old at n most lt are le b = elim (cases_lt b at) [
  | inl h ↦ other (omega arith)
  | inr h ↦ elim (cases_lt at b) [
    | inl k ↦ other (omega arith)
    | inr k ↦ let e : at ≡ b = omega arith in here e
  ]
]
  where
    other : (b ≡ at → ⊥) → reach_at (set old at (max (reach_at old at) n)) b ≤ most
    other ne =
        let e = get_or-set_other old at b (max (reach_at old at) n) 0 ne in omega (arith, e, are b)

    here : at ≡ b → reach_at (set old at (max (reach_at old at) n)) b ≤ most
    here e =
        subst (λ x. reach_at (set old at (max (reach_at old at) n)) x ≤ most) e (let f = get_or-set_same old at (max (reach_at old at) n) 0 lt in let l : max (reach_at old at) n ≤ most = max-le (are at) le in omega (arith, f, l))

-- the least of a run's members and how many they are, no more than come before they come again
pub notes_run : (s k by round at n : ℕ) (run : Run) (old : List ℕ) → 0 < k → length old ≡ k → 0 < round → (s * round) % k ≡ 0 → run.first ≤ run.last → n ≡ min (run.last + 1 - run.first) round → at ≡ (by + (run.residue + s * run.first)) % k →
    Notes s old (set old at (max (reach_at old at) n)) (Moved by (InRun s run))
notes_run s k by round at n run old pk len pr again order count here r = (there, back)
  where
    new : List ℕ
    new = set old at (max (reach_at old at) n)

    size : length (set old at (max (reach_at old at) n)) ≡ length old
    size = length-set old at (max (reach_at old at) n)

    place : at < length old
    place = omega arith

    member : (i : ℕ) → (at + s * i) % k ≡ (by + (run.residue + s * (run.first + i))) % k
    member i =
        let e : by + (run.residue + s * run.first) + s * i ≡ by + (run.residue + s * (run.first + i)) = omega arith in
        ap (λ x. (x + s * i) % k) here ∙ steps_on k s (by + (run.residue + s * run.first)) i ∙ ap (λ x. x % k) e

    of_run : (i : ℕ) → i < n → (at + s * i) % k ≡ r → SomeLeaves (Moved by (InRun s run)) (length old) r
    of_run i lt e =
        let l = min-le_left (run.last + 1 - run.first) round in (
          by + (run.residue + s * (run.first + i)),
          (run.residue + s * (run.first + i), (run.first + i, omega arith, omega arith, refl), refl),
          ap (λ m. (by + (run.residue + s * (run.first + i))) % m) len ∙ sym (member i) ∙ e,
        )

    from_at : (b i : ℕ) → b ≡ at → i < reach_at (set old at (max (reach_at old at) n)) b → (b + s * i) % k ≡ r → IsReached old s r ⊎ SomeLeaves (Moved by (InRun s run)) (length old) r
    from_at b i e lt f = elim (cases_lt i (reach_at old at)) [
      | inl h ↦ inl (at, i, place, h, ap (λ m. (at + s * i) % m) len ∙ sym (ap (λ x. (x + s * i) % k) e) ∙ f)
      | inr h ↦ inr (of_run i (elim (cases_lt i n) [
        | inl l ↦ l
        | inr l ↦ absurd (
            let x = ap (λ x. reach_at (set old at (max (reach_at old at) n)) x) e ∙ get_or-set_same old at (max (reach_at old at) n) 0 place in
            let m : max (reach_at old at) n ≤ i = max-le h l in
            omega (arith, x, m))
      ]) (sym (ap (λ x. (x + s * i) % k) e) ∙ f))
    ]

    from_other : (b i : ℕ) → (b ≡ at → ⊥) → b < length old → i < reach_at (set old at (max (reach_at old at) n)) b → (b + s * i) % k ≡ r → IsReached old s r
    from_other b i ne short lt f =
        let e = get_or-set_other old at b (max (reach_at old at) n) 0 ne in
        (b, i, short, omega (arith, e), ap (λ m. (b + s * i) % m) len ∙ f)

    there : IsReached (set old at (max (reach_at old at) n)) s r → IsReached old s r ⊎ SomeLeaves (Moved by (InRun s run)) (length old) r
    there (b, i, short, lt, f) =
        let g : (b + s * i) % k ≡ r = sym (ap (λ m. (b + s * i) % m) (size ∙ len)) ∙ f in
        elim (cases_lt b at) [
          | inl h ↦ inl (from_other b i (λ e. omega arith) (omega (arith, size)) lt g)
          | inr h ↦ elim (cases_lt at b) [
            | inl m ↦ inl (from_other b i (λ e. omega arith) (omega (arith, size)) lt g)
            | inr m ↦ from_at b i (omega arith) lt g
          ]
        ]

    back : IsReached old s r ⊎ SomeLeaves (Moved by (InRun s run)) (length old) r → IsReached (set old at (max (reach_at old at) n)) s r
    back (inl (b, i, short, lt, f)) =
        let l = at_least old at n b place in
        (b, i, omega (arith, size), omega (arith, l), ap (λ m. (b + s * i) % m) size ∙ f)
    back (inr (x, (m, (q, low, high, em), ex), f)) =
        let i : ℕ = (q - run.first) % round in
        let short : (q - run.first) % round < round = omega arith in
        let less : (q - run.first) % round ≤ q - run.first = omega arith in
        let below : (q - run.first) % round < n = elim (cases_lt ((q - run.first) % round) n) [
          | inl l ↦ l
          | inr l ↦ absurd (omega (arith, count))
        ] in
        let g = get_or-set_same old at (max (reach_at old at) n) 0 place in
        let l = le-max_right (reach_at old at) n in
        let e : x ≡ by + (run.residue + s * run.first) + s * (q - run.first) = plain (q - run.first) (omega arith) in (
          at,
          (q - run.first) % round,
          omega (arith, size),
          omega (arith, g, l),
          ap (λ m. (at + s * ((q - run.first) % round)) % m) (size ∙ len) ∙ round_again k s round at (q - run.first) again ∙ ap (λ t. (t + s * (q - run.first)) % k) here ∙ steps_on k s (by + (run.residue + s * run.first)) (q - run.first) ∙ sym (ap (λ t. t % k) e) ∙ sym (ap (λ m. x % m) len) ∙ f,
        )
      where
        plain : (d : ℕ) → q ≡ run.first + d → x ≡ by + (run.residue + s * run.first) + s * d
        plain d e = ex ∙ ap (λ t. by + t) em ∙ ap (λ t. by + (run.residue + s * t)) e ∙ omega arith

-- one set more
pub notes_then : (s : ℕ) (old mid new : List ℕ) (S T U : Numbers) → length mid ≡ length old → ((n : ℕ) → U n ↔ (S n ⊎ T n)) → Notes s old mid S → Notes s mid new T → Notes s old new U
notes_then s old mid new S T U len u first second r = (
  λ e. elim ((second r).0 e) [
    | inl x ↦ elim ((first r).0 x) [
      | inl y ↦ inl y
      | inr (n, h, f) ↦ inr (n, (u n).1 (inl h), f)
    ]
    | inr (n, h, f) ↦ inr (n, (u n).1 (inr h), ap (λ m. n % m) (sym len) ∙ f)
  ],
  λ h. (second r).1 (back h),
)
  where
    back : IsReached old s r ⊎ SomeLeaves U (length old) r → IsReached mid s r ⊎ SomeLeaves T (length mid) r
    back (inl h) = inl ((first r).1 (inl h))
    back (inr h) = elim (leaves_either S T U (length old) r u h) [
      | inl x ↦ inl ((first r).1 (inr x))
      | inr (n, x, f) ↦ inr (n, x, ap (λ m. n % m) len ∙ f)
    ]

pub notes_nothing : (by s : ℕ) (reaches : List ℕ) → Notes s reaches reaches (Moved by (InSome s []))
notes_nothing by s reaches r = (λ h. inl h, back)
  where
    back : IsReached reaches s r ⊎ SomeLeaves (Moved by (InSome s [])) (length reaches) r → IsReached reaches s r
    back (inl h) = h
    back (inr (n, (m, h, e), f)) = absurd h

-- ---- marks

pub marks_there : (marks : List Bool) (at left : ℕ) → at < length marks → 0 < left → MarksAt marks (set marks at true) at left
marks_there marks at left lt p r = elim (cases_lt r at) [
  | inl h ↦ other (omega arith)
  | inr h ↦ elim (cases_lt at r) [
    | inl k ↦ other (omega arith)
    | inr k ↦ let e : r ≡ at = omega arith in (λ _. inr (p, e), λ _. ap (is_marked (set marks at true)) e ∙ get_or-set_same marks at true false lt)
  ]
]
  where
    other : (r ≡ at → ⊥) → (is_marked (set marks at true) r ≡ true) ↔ ((is_marked marks r ≡ true) ⊎ ((0 < left) × (r ≡ at)))
    other ne =
        let e = get_or-set_other marks at r true false ne in (
          λ h. inl (sym e ∙ h),
          λ h. e ∙ (elim h as (λ _. is_marked marks r ≡ true) [ inl x ↦ x | inr x ↦ absurd (ne x.1) ]),
        )

pub marks_none_left : (marks : List Bool) (at left : ℕ) → left ≡ 0 → MarksAt marks marks at left
marks_none_left marks at left e r = (
  λ h. inl h,
  λ h. elim h as (λ _. is_marked marks r ≡ true) [ inl x ↦ x | inr x ↦ absurd (omega (arith, x.0)) ],
)

-- ---- two rounds

-- behind so many turns of two rounds
pub record IsTurn (reaches : List ℕ) (s from turn at left : ℕ) (old new : List Bool) : Type 0 where
  pub place : at ≡ (from + s * turn) % length reaches
  pub ahead : (i : ℕ) → i < left → IsReached reaches s ((at + s * i) % length reaches)
  pub only : (r : ℕ) → is_marked new r ≡ true → (is_marked old r ≡ true) ⊎ IsReached reaches s r
  pub kept : (r : ℕ) → is_marked old r ≡ true → is_marked new r ≡ true
  pub near : (j : ℕ) → j < turn → reach_at reaches ((from + s * j) % length reaches) ≤ left + (turn - j)
  pub behind : (j i : ℕ) → j + i < turn → i < reach_at reaches ((from + s * j) % length reaches) → is_marked new ((from + s * (j + i)) % length reaches) ≡ true

pub first_turn : (reaches : List ℕ) (s from : ℕ) (marks : List Bool) → from < length reaches → IsTurn reaches s from 0 from 0 marks marks
first_turn reaches s from marks lt = record {
  place = sym (ap (λ x. x % length reaches) (omega arith) ∙ mod-eq_of_lt lt);
  ahead = λ i l. absurd (omega arith);
  only = λ r h. inl h;
  kept = λ r h. h;
  near = λ j l. absurd (omega arith);
  behind = λ j i l h. absurd (omega arith);
}

pub next_turn : (reaches : List ℕ) (s from turn at left most after rest : ℕ) (old mid new : List Bool) → at < length reaches → most ≡ max (reach_at reaches at) left → after ≡ (at + s) % length reaches → rest ≡ most - 1 → IsTurn reaches s from turn at left old mid → MarksAt mid new at most → IsTurn reaches s from (turn + 1) after rest old new
next_turn reaches s from turn at left most after rest old mid new lt e ea er t marks = record {
  place = ea ∙ ap (λ x. (x + s) % k) t.place ∙ step_on k s from turn;
  ahead = λ i l. subst (IsReached reaches s) (sym (ap (λ x. (x + s * i) % k) ea ∙ step_before k s at i)) (reached (i + 1) (omega arith));
  only = only;
  kept = λ r h. (marks r).1 (inl (t.kept r h));
  near = near;
  behind = behind;
}
  where
    k : ℕ
    k = length reaches

    own : reach_at reaches at ≤ most
    own = let l = le-max_left (reach_at reaches at) left in omega arith

    before : left ≤ most
    before = let l = le-max_right (reach_at reaches at) left in omega arith

    reached : (i : ℕ) → i < most → IsReached reaches s ((at + s * i) % length reaches)
    reached i l = elim (cases_lt i left) [
      | inl h ↦ t.ahead i h
      | inr h ↦ elim (cases_lt i (reach_at reaches at)) [
        | inl m ↦ (at, i, lt, m, refl)
        | inr m ↦ absurd (let x : max (reach_at reaches at) left ≤ i = max-le m h in omega arith)
      ]
    ]

    only : (r : ℕ) → is_marked new r ≡ true → (is_marked old r ≡ true) ⊎ IsReached reaches s r
    only r h = elim ((marks r).0 h) [
      | inl x ↦ t.only r x
      | inr x ↦ inr (subst (IsReached reaches s) (ap (λ y. y % length reaches) (omega arith) ∙ mod-eq_of_lt lt ∙ sym x.1) (reached 0 x.0))
    ]

    near : (j : ℕ) → j < turn + 1 → reach_at reaches ((from + s * j) % length reaches) ≤ rest + (turn + 1 - j)
    near j l = elim (cases_lt j turn) [
      | inl h ↦ let x = t.near j h in omega (arith, before, x)
      | inr h ↦
          let f : turn ≡ j = omega arith in
          let x : reach_at reaches at ≡ reach_at reaches ((from + s * j) % length reaches) = ap (reach_at reaches) (t.place ∙ ap (λ y. (from + s * y) % length reaches) f) in
          omega (arith, own, x)
    ]

    here : (n : ℕ) → n ≡ turn → 0 < most → is_marked new ((from + s * n) % length reaches) ≡ true
    here n f p = (marks ((from + s * n) % length reaches)).1 (inr (p, ap (λ y. (from + s * y) % length reaches) f ∙ sym t.place))

    behind : (j i : ℕ) → j + i < turn + 1 → i < reach_at reaches ((from + s * j) % length reaches) → is_marked new ((from + s * (j + i)) % length reaches) ≡ true
    behind j i l h = elim (cases_lt (j + i) turn) [
      | inl m ↦ (marks ((from + s * (j + i)) % length reaches)).1 (inl (t.behind j i m h))
      | inr m ↦ here (j + i) (omega arith) (elim (cases_lt j turn) [
        | inl g ↦ let x = t.near j g in omega (arith, before, x)
        | inr g ↦
            let f : turn ≡ j = omega arith in
            let x : reach_at reaches at ≡ reach_at reaches ((from + s * j) % length reaches) = ap (reach_at reaches) (t.place ∙ ap (λ y. (from + s * y) % length reaches) f) in
            omega (arith, own, x)
      ])
    ]

pub both_rounds : (reaches : List ℕ) (s from turn round at left : ℕ) (old new : List Bool) → length reaches ≡ length old → AreAtMost reaches round → 2 * round ≤ turn → IsTurn reaches s from turn at left old new → MarksReached reaches s from round old new
both_rounds reaches s from turn round at left old new len most le t = record {
  only = t.only;
  kept = t.kept;
  all = λ j i l h.
      let g = subst (λ k. i < reach_at reaches ((from + s * j) % k)) (sym len) h in
      let m = most ((from + s * j) % length reaches) in
      subst (λ k. is_marked new ((from + s * (j + i)) % k) ≡ true) len (t.behind j i (omega (arith, g, m)) g);
}

-- ---- a round is forgotten

pub record IsForgetting (s from turn at : ℕ) (old new : List ℕ) : Type 0 where
  pub place : at ≡ (from + s * turn) % length old
  pub each : (r : ℕ) → (reach_at new r ≡ reach_at old r) ⊎ ((reach_at new r ≡ 0) × ((j : ℕ) × (j < turn) × (r ≡ (from + s * j) % length old)))
  pub first : 0 < turn → reach_at new from ≡ 0

pub forgets_none : (s from : ℕ) (reaches : List ℕ) → from < length reaches → IsForgetting s from 0 from reaches reaches
forgets_none s from reaches lt = record {
  place = sym (ap (λ x. x % length reaches) (omega arith) ∙ mod-eq_of_lt lt);
  each = λ r. inl refl;
  first = λ p. absurd (omega arith);
}

pub forgets_more : (s from turn at : ℕ) (old mid : List ℕ) → from < length old → at < length mid → IsForgetting s from turn at old mid → IsForgetting s from (turn + 1) ((at + s) % length old) old (set mid at 0)
forgets_more s from turn at old mid low lt t = record {
  place = ap (λ x. (x + s) % length old) t.place ∙ step_on (length old) s from turn;
  each = each;
  first = λ p. first;
}
  where
    each : (r : ℕ) → (reach_at (set mid at 0) r ≡ reach_at old r) ⊎ ((reach_at (set mid at 0) r ≡ 0) × ((j : ℕ) × (j < turn + 1) × (r ≡ (from + s * j) % length old)))
    each r = elim (cases_lt r at) [
      | inl h ↦ other (omega arith)
      | inr h ↦ elim (cases_lt at r) [
        | inl k ↦ other (omega arith)
        | inr k ↦
            let e : r ≡ at = omega arith in
            inr (ap (reach_at (set mid at 0)) e ∙ get_or-set_same mid at 0 0 lt, (turn, omega arith, e ∙ t.place))
      ]
    ]
      where
        other : (r ≡ at → ⊥) → (reach_at (set mid at 0) r ≡ reach_at old r) ⊎ ((reach_at (set mid at 0) r ≡ 0) × ((j : ℕ) × (j < turn + 1) × (r ≡ (from + s * j) % length old)))
        other ne =
            let e = get_or-set_other mid at r 0 0 ne in
            elim (t.each r) [
              | inl x ↦ inl (e ∙ x)
              | inr (x, (j, l, f)) ↦ inr (e ∙ x, (j, omega arith, f))
            ]

    -- the first turn forgets the first, and no later one sets it again
    first : reach_at (set mid at 0) from ≡ 0
    first = elim (cases_lt 0 turn) [
      | inl p ↦ elim (cases_lt from at) [
        | inl h ↦ get_or-set_other mid at from 0 0 (λ e. omega arith) ∙ t.first p
        | inr h ↦ elim (cases_lt at from) [
          | inl k ↦ get_or-set_other mid at from 0 0 (λ e. omega arith) ∙ t.first p
          | inr k ↦ let e : from ≡ at = omega arith in ap (reach_at (set mid at 0)) e ∙ get_or-set_same mid at 0 0 lt
        ]
      ]
      | inr p ↦
          let z : turn ≡ 0 = omega arith in
          let e : from ≡ at = sym (t.place ∙ ap (λ y. (from + s * y) % length old) z ∙ ap (λ x. x % length old) (omega arith) ∙ mod-eq_of_lt low) in
          ap (reach_at (set mid at 0)) e ∙ get_or-set_same mid at 0 0 lt
    ]

pub forgotten : (s from turn round at : ℕ) (old new : List ℕ) → 0 < round → turn ≡ round → IsForgetting s from turn at old new → Forgets s from round old new
forgotten s from turn round at old new p e t = record {
  each = subst (λ m. (r : ℕ) → (reach_at new r ≡ reach_at old r) ⊎ ((reach_at new r ≡ 0) × ((j : ℕ) × (j < m) × (r ≡ (from + s * j) % length old)))) e t.each;
  first = t.first (omega arith);
}

-- ---- all rounds

-- what is reached at first is marked or reached still, and nothing from below a number
pub record IsRounds (s from : ℕ) (first now : List ℕ) (marks : List Bool) : Type 0 where
  pub only : (r : ℕ) → is_marked marks r ≡ true → IsReached first s r
  pub less : (r : ℕ) → reach_at now r ≤ reach_at first r
  pub all : (r : ℕ) → IsReached first s r → (is_marked marks r ≡ true) ⊎ IsReached now s r
  pub below : (r : ℕ) → r < from → reach_at now r ≡ 0

pub no_round : (s : ℕ) (reaches : List ℕ) (marks : List Bool) → AreNone marks → IsRounds s 0 reaches reaches marks
no_round s reaches marks none = record {
  only = λ r h. absurd (none r h);
  less = λ r. omega arith;
  all = λ r h. inr h;
  below = λ r l. absurd (omega arith);
}

pub skips_round : (s from : ℕ) (first now : List ℕ) (marks : List Bool) → reach_at now from ≤ 0 → IsRounds s from first now marks → IsRounds s (from + 1) first now marks
skips_round s from first now marks z t = record {
  only = t.only;
  less = t.less;
  all = t.all;
  below = λ r l. elim (cases_lt r from) [
    | inl h ↦ t.below r h
    | inr h ↦ let e : from ≡ r = omega arith in subst (λ x. reach_at now x ≡ 0) e (omega arith)
  ];
}

pub one_round : (s stride from round : ℕ) (first now after : List ℕ) (marks new : List Bool) → length now ≡ length first → length after ≡ length now → length marks ≡ length now → stride ≡ s % length marks → MarksReached now stride from round marks new → Forgets stride from round now after → IsRounds s from first now marks → IsRounds s (from + 1) first after new
one_round s stride from round first now after marks new fl al ml es marked forgets t = record {
  only = only;
  less = less;
  all = all;
  below = below;
}
  where
    m : MarksReached now (s % length marks) from round marks new
    m = subst (λ x. MarksReached now x from round marks new) es marked

    f : Forgets (s % length marks) from round now after
    f = subst (λ x. Forgets x from round now after) es forgets

    only : (r : ℕ) → is_marked new r ≡ true → IsReached first s r
    only r h = elim (m.only r h) [
      | inl x ↦ t.only r x
      | inr (b, i, lt, w, e) ↦
          let l = t.less b in
          (b, i, omega arith, omega (arith, l), sym (stride_is (length first) s b i) ∙ ap (λ y. (b + s % y * i) % y) (sym fl) ∙ ap (λ y. (b + s % y * i) % length now) (sym ml) ∙ e)
    ]

    less : (r : ℕ) → reach_at after r ≤ reach_at first r
    less r =
        let l = t.less r in elim (f.each r) [ inl e ↦ omega (arith, l, e) | inr x ↦ omega (arith, x.0) ]

    met : (b i j r : ℕ) → b ≡ (from + s % length marks * j) % length now → (b + s * i) % length first ≡ r → (from + s % length marks * (j + i)) % length marks ≡ r
    met b i j r at e =
        let p : from + s % length marks * (j + i) ≡ from + s % length marks * j + s % length marks * i = omega arith in
        ap (λ y. y % length marks) p ∙ sym (steps_on (length marks) (s % length marks) (from + s % length marks * j) i) ∙ ap (λ y. (y + s % length marks * i) % length marks) (ap (λ y. (from + s % length marks * j) % y) ml ∙ sym at) ∙ stride_is (length marks) s b i ∙ ap (λ y. (b + s * i) % y) (ml ∙ fl) ∙ e

    all : (r : ℕ) → IsReached first s r → (is_marked new r ≡ true) ⊎ IsReached after s r
    all r h = elim (t.all r h) [
      | inl x ↦ inl (m.kept r x)
      | inr (b, i, lt, w, e) ↦ elim (f.each b) [
        | inl x ↦ inr (b, i, omega arith, omega (arith, x, w), ap (λ y. (b + s * i) % y) al ∙ e)
        | inr (z, (j, lj, at)) ↦ inl (subst (λ y. is_marked new y ≡ true) (met b i j r at (ap (λ y. (b + s * i) % y) (sym fl) ∙ e)) (m.all j i lj (subst (λ y. i < reach_at now y) (at ∙ ap (λ y. (from + s % length marks * j) % y) (sym ml)) w)))
      ]
    ]

    below : (r : ℕ) → r < from + 1 → reach_at after r ≡ 0
    below r l = elim (cases_lt r from) [
      | inl h ↦ elim (f.each r) [ inl e ↦ e ∙ t.below r h | inr x ↦ x.0 ]
      | inr h ↦ let e : from ≡ r = omega arith in subst (λ x. reach_at after x ≡ 0) e f.first
    ]

pub all_rounds : (s from : ℕ) (first now : List ℕ) (marks : List Bool) → length now ≤ from → IsRounds s from first now marks → (r : ℕ) → (is_marked marks r ≡ true) ↔ IsReached first s r
all_rounds s from first now marks le t r = (t.only r, back)
  where
    back : IsReached first s r → is_marked marks r ≡ true
    back h = elim (t.all r h) [
      | inl x ↦ x
      | inr (b, i, lt, w, e) ↦ absurd (let z = t.below b (omega arith) in omega (arith, z, w))
    ]
