-- What requests leave: names, limits and mutability as they were, and the values last written.
use Rattle.std.proofs.Common.{◌≡◌, ◌≢◌, ℕ, ◌<◌, Bool, true, false, cond, ◌&&◌, IsTrue, List, [], ◌∷◌, Option, Some, None, length, get_or, set, map, refl, sym, ap, subst, ◌∙◌, ◌⊎◌, inl, inr, arith}
use Rattle.std.proofs.Math.ListN.{get_or-map, length-set}
use Rattle.std.proofs.Math.Seq.{map-set_same}
use Rattle.std.proofs.lemmas.Bool.{both_ways, cases_Bool, cond-true, cond-false}
use Rattle.std.proofs.lemmas.List.{get_or_default, get_or-set_same, get_or-set_other}
use Rattle.std.proofs.lemmas.Slice.Eq.{bytes_eq-Decides}
use Rattle.std.specs.List.{AllPairs}
use Rattle.std.specs.Str.{bytes_eq}
use Rattle.std_types.specs.RegisterValues.{FitsRegisterValue}
use Rattle.std_types.specs.declared.register_value.RegisterValue.{RegisterValue}
use Rattle.std_types.specs.declared.registers.Register.{Register}
use Rattle.register_service.specs.Kept.{AreKept, IsAt}
use Rattle.register_service.specs.Laws.{AllFit, KeepWithin, last_written}
use Rattle.register_service.specs.RegisterMap.{Access, Listing, Request, after, after_access, entry, is_alike, takes}
use Rattle.register_service.specs.Variants.{variant}
use Rattle.register_service.specs.Within.{is_within}
use Rattle.register_service.proofs.Alike.{alike_same, taken_alike, taken_allowed}
use Rattle.register_service.proofs.Entries.{at_entry, found_at, found_name}
use Rattle.register_service.proofs.Map.{after_refused, after_taken, after_unknown, alike_variant, and_false, kept_set, set_keeps}

-- how an access can end: it finds nothing, a register that takes the value, or one that doesn't
pub record Taken (allowed : ℕ → RegisterValue → Bool) (xs : List Register) (name : List ℕ) (v : RegisterValue) : Type 0 where
  pub number : ℕ
  pub register : Register
  pub found : entry name xs ≡ Some (number, register)
  pub takes : takes allowed number register v ≡ true
  pub after : set xs number (record register { value = v }) ≡ after_access allowed xs name v

cases_by : (allowed : ℕ → RegisterValue → Bool) (xs : List Register) (name : List ℕ) (v : RegisterValue) (o : Option (ℕ × Register)) → entry name xs ≡ o
    → Taken allowed xs name v ⊎ (xs ≡ after_access allowed xs name v)
cases_by allowed xs name v None e = inr (after_unknown allowed xs name v e)
cases_by allowed xs name v (Some (k, q)) e = elim (cases_Bool (takes allowed k q v)) [
  | inl holds ↦ inl (record { number = k; register = q; found = e; takes = holds; after = after_taken allowed xs name v k q e holds })
  | inr fails ↦ inr (after_refused allowed xs name v k q e fails)
]

pub access_cases : (allowed : ℕ → RegisterValue → Bool) (xs : List Register) (name : List ℕ) (v : RegisterValue)
    → Taken allowed xs name v ⊎ (xs ≡ after_access allowed xs name v)
access_cases allowed xs name v = cases_by allowed xs name v (entry name xs) refl

-- what is told without the value stays
module _ {A : Type 0} (f : Register → A) (blind : (r : Register) (v : RegisterValue) → f (record r { value = v }) ≡ f r) where
  pub access_map : (allowed : ℕ → RegisterValue → Bool) (xs : List Register) (name : List ℕ) (v : RegisterValue) → map f (after_access allowed xs name v) ≡ map f xs
  access_map allowed xs name v = elim (access_cases allowed xs name v) [
    | inl t ↦
        ap (map f) (sym t.after)
        ∙ map-set_same f xs t.number (record t.register { value = v }) t.register (blind t.register v ∙ ap f (found_at name xs t.number t.register t.found).1)
    | inr same ↦ ap (map f) (sym same)
  ]

  pub after_map : (allowed : ℕ → RegisterValue → Bool) (opened : List Register) (past : List Request) → map f (after allowed opened past) ≡ map f opened
  after_map allowed opened [] = refl
  after_map allowed opened (Access name v ∷ past) = access_map allowed (after allowed opened past) name v ∙ after_map allowed opened past
  after_map allowed opened (Listing number ∷ past) = after_map allowed opened past

  pub after_get : (allowed : ℕ → RegisterValue → Bool) (opened : List Register) (past : List Request) (j : ℕ) (d : Register)
      → f (get_or (after allowed opened past) j d) ≡ f (get_or opened j d)
  after_get allowed opened past j d =
      sym (get_or-map f (after allowed opened past) j d) ∙ ap (λ l. get_or l j (f d)) (after_map allowed opened past) ∙ get_or-map f opened j d

access_length : (allowed : ℕ → RegisterValue → Bool) (xs : List Register) (name : List ℕ) (v : RegisterValue) → length (after_access allowed xs name v) ≡ length xs
access_length allowed xs name v = elim (access_cases allowed xs name v) [
  | inl t ↦ ap length (sym t.after) ∙ length-set xs t.number (record t.register { value = v })
  | inr same ↦ ap length (sym same)
]

pub after_length : (allowed : ℕ → RegisterValue → Bool) (opened : List Register) (past : List Request) → length (after allowed opened past) ≡ length opened
after_length allowed opened [] = refl
after_length allowed opened (Access name v ∷ past) = access_length allowed (after allowed opened past) name v ∙ after_length allowed opened past
after_length allowed opened (Listing number ∷ past) = after_length allowed opened past

pub name_stays : (allowed : ℕ → RegisterValue → Bool) (opened : List Register) (past : List Request) (j : ℕ) (d : Register)
    → (get_or (after allowed opened past) j d).name ≡ (get_or opened j d).name
name_stays allowed opened past j d = after_get (λ r. r.name) (λ r v. refl) allowed opened past j d

pub distinct_after : (allowed : ℕ → RegisterValue → Bool) (opened : List Register) (past : List Request) → AllPairs (λ r s. r.name ≢ s.name) opened
    → AllPairs (λ r s. r.name ≢ s.name) (after allowed opened past)
distinct_after allowed opened past h a b d less within same =
    h a b d less (omega (arith, after_length allowed opened past)) (sym (name_stays allowed opened past a d) ∙ same ∙ name_stays allowed opened past b d)

-- the register r with the number i is as it was, but for its value: that is w, which can be written with what r's can
pub record Stays (r : Register) (i : ℕ) (xs : List Register) (w : RegisterValue) : Type 0 where
  pub low : i < length xs
  pub at : record r { value = w } ≡ get_or xs i (record r { value = w })
  pub alike : (v : RegisterValue) → is_alike w v ≡ is_alike r.value v

pub takes_same : (allowed : ℕ → RegisterValue → Bool) (r : Register) (i : ℕ) (xs : List Register) (w v : RegisterValue) → Stays r i xs w
    → takes allowed i (record r { value = w }) v ≡ takes allowed i r v
takes_same allowed r i xs w v s = ap (λ b. r.mutable && (b && allowed i v)) (s.alike v)

stays_entry : (r : Register) (i : ℕ) (xs : List Register) (w : RegisterValue) (n : List ℕ) → AllPairs (λ r s. r.name ≢ s.name) xs → Stays r i xs w
    → bytes_eq r.name n ≡ true → entry n xs ≡ Some (i, record r { value = w })
stays_entry r i xs w n d s named = at_entry xs i (record r { value = w }) n d (s.low, s.at) ((bytes_eq-Decides r.name n).0 named)

step_taken : (allowed : ℕ → RegisterValue → Bool) (r : Register) (i : ℕ) (xs : List Register) (w : RegisterValue) (n : List ℕ) (v : RegisterValue)
    → AllPairs (λ r s. r.name ≢ s.name) xs → Stays r i xs w → bytes_eq r.name n ≡ true → takes allowed i r v ≡ true → Stays r i (after_access allowed xs n v) v
step_taken allowed r i xs w n v d s named holds =
    let t : Register = record r { value = v } in
    let same = takes_same allowed r i xs w v s in
    let a : is_alike w v ≡ true = taken_alike allowed i (record r { value = w }) v (same ∙ holds) in
    let low : i < length xs = s.low in
    subst (λ l. Stays r i l v) (after_taken allowed xs n v i (record r { value = w }) (stays_entry r i xs w n d s named) (same ∙ holds))
    (record {
      low = omega (arith, length-set xs i t);
      at = sym (get_or-set_same xs i t t low);
      alike = λ u. alike_same w v a u ∙ s.alike u;
    })

step_refused : (allowed : ℕ → RegisterValue → Bool) (r : Register) (i : ℕ) (xs : List Register) (w : RegisterValue) (n : List ℕ) (v : RegisterValue)
    → AllPairs (λ r s. r.name ≢ s.name) xs → Stays r i xs w → bytes_eq r.name n ≡ true → takes allowed i r v ≡ false → Stays r i (after_access allowed xs n v) w
step_refused allowed r i xs w n v d s named fails =
    subst (λ l. Stays r i l w)
    (after_refused allowed xs n v i (record r { value = w }) (stays_entry r i xs w n d s named) (takes_same allowed r i xs w v s ∙ fails)) s

-- another register's number
other_number : (r : Register) (i : ℕ) (xs : List Register) (n : List ℕ) (k : ℕ) (q : Register) → i < length xs → r ≡ get_or xs i r → bytes_eq r.name n ≡ false
    → entry n xs ≡ Some (k, q) → i ≢ k
other_number r i xs n k q low at fails e same =
    let found = found_at n xs k q e in
    let one : r ≡ q = at ∙ ap (λ j. get_or xs j r) same ∙ get_or_default xs k r q found.0 ∙ sym found.1 in
    both_ways (bytes_eq r.name n) fails ((bytes_eq-Decides r.name n).1 (ap (λ (x : Register). x.name) one ∙ found_name n xs k q e))

step_other : (allowed : ℕ → RegisterValue → Bool) (r : Register) (i : ℕ) (xs : List Register) (w : RegisterValue) (n : List ℕ) (v : RegisterValue)
    → Stays r i xs w → bytes_eq r.name n ≡ false → Stays r i (after_access allowed xs n v) w
step_other allowed r i xs w n v s fails = elim (access_cases allowed xs n v) [
  | inl t ↦
      let o : Register = record r { value = w } in
      let low : i < length xs = s.low in
      subst (λ l. Stays r i l w) t.after
      (record {
        low = omega (arith, length-set xs t.number (record t.register { value = v }));
        at = s.at ∙ sym (get_or-set_other xs t.number i (record t.register { value = v }) o (other_number o i xs n t.number t.register s.low s.at fails t.found));
        alike = s.alike;
      })
  | inr same ↦ subst (λ l. Stays r i l w) same s
]

and_first : (x y : Bool) → x ≡ true → (x && y) ≡ y
and_first x y e = ap (λ z. z && y) e

-- an access that names it, and another one
pub wrote : (r : Register) (n : List ℕ) (t : Bool) (v w : RegisterValue) → bytes_eq r.name n ≡ true → cond t v w ≡ cond (bytes_eq r.name n && t) v w
wrote r n t v w e = ap (λ b. cond b v w) (sym (and_first (bytes_eq r.name n) t e))

pub wrote_other : (r : Register) (n : List ℕ) (t : Bool) (v w : RegisterValue) → bytes_eq r.name n ≡ false → w ≡ cond (bytes_eq r.name n && t) v w
wrote_other r n t v w e = ap (λ b. cond (b && t) v w) (sym e)

step : (allowed : ℕ → RegisterValue → Bool) (r : Register) (i : ℕ) (xs : List Register) (w : RegisterValue) (n : List ℕ) (v : RegisterValue)
    → AllPairs (λ r s. r.name ≢ s.name) xs → Stays r i xs w → Stays r i (after_access allowed xs n v) (cond (bytes_eq r.name n && takes allowed i r v) v w)
step allowed r i xs w n v d s = elim (cases_Bool (bytes_eq r.name n)) [
  | inl named ↦ elim (cases_Bool (takes allowed i r v)) [
    | inl holds ↦ subst (Stays r i (after_access allowed xs n v)) (sym (cond-true (takes allowed i r v) v w holds) ∙ wrote r n (takes allowed i r v) v w named)
        (step_taken allowed r i xs w n v d s named holds)
    | inr fails ↦ subst (Stays r i (after_access allowed xs n v)) (sym (cond-false (takes allowed i r v) v w fails) ∙ wrote r n (takes allowed i r v) v w named)
        (step_refused allowed r i xs w n v d s named fails)
  ]
  | inr other ↦ subst (Stays r i (after_access allowed xs n v)) (wrote_other r n (takes allowed i r v) v w other) (step_other allowed r i xs w n v s other)
]

pub stays : (allowed : ℕ → RegisterValue → Bool) (opened : List Register) (past : List Request) (i : ℕ) (r : Register) → AllPairs (λ r s. r.name ≢ s.name) opened → IsAt opened i r
    → Stays r i (after allowed opened past) (last_written (takes allowed i r) r.name r.value past)
stays allowed opened [] i r d at = record { low = at.0; at = at.1; alike = λ v. refl }
stays allowed opened (Access n v ∷ past) i r d at =
    step allowed r i (after allowed opened past) (last_written (takes allowed i r) r.name r.value past) n v (distinct_after allowed opened past d) (stays allowed opened past i r d at)
stays allowed opened (Listing n ∷ past) i r d at = stays allowed opened past i r d at

-- a register that takes nothing has the value that it was opened with
pub never_written : (takes : RegisterValue → Bool) (name : List ℕ) (w : RegisterValue) (past : List Request) → ((v : RegisterValue) → takes v ≡ false)
    → last_written takes name w past ≡ w
never_written takes name w [] h = refl
never_written takes name w (Access n v ∷ past) h =
    ap (λ b. cond (bytes_eq name n && b) v (last_written takes name w past)) (h v)
    ∙ cond-false (bytes_eq name n && false) v (last_written takes name w past) (and_false (bytes_eq name n))
    ∙ never_written takes name w past h
never_written takes name w (Listing n ∷ past) h = never_written takes name w past h

-- the guard keeps registers within their limits also where a value was written
keep_set : (allowed : ℕ → RegisterValue → Bool) (xs : List Register) (i : ℕ) (r : Register) (v : RegisterValue) → KeepWithin allowed xs → r ≡ get_or xs i r
    → variant v ≡ variant r.value → KeepWithin allowed (set xs i (record r { value = v }))
keep_set allowed xs i r v k e same j t w at of yes' =
    let s : Register = record r { value = v } in
    let limits : (j : ℕ) (d : Register) → (get_or (set xs i s) j d).limits ≡ (get_or xs j d).limits = set_keeps (λ x. x.limits) xs i r s e refl in
    let variants : (j : ℕ) (d : Register) → variant (get_or (set xs i s) j d).value ≡ variant (get_or xs j d).value = set_keeps (λ x. variant x.value) xs i r s e same in
    let within : j < length (set xs i s) = at.0 in
    let low : j < length xs = omega (arith, length-set xs i s) in
    subst (λ l. IsTrue (is_within l w)) (sym (ap (λ x. x.limits) at.1 ∙ limits j t))
    (k j (get_or xs j t) w (low, get_or_default xs j t (get_or xs j t) low) (of.0 ∙ ap (λ x. variant x.value) at.1 ∙ variants j t, of.1) yes')

keep_access : (allowed : ℕ → RegisterValue → Bool) (xs : List Register) (name : List ℕ) (v : RegisterValue) → FitsRegisterValue v
    → AreKept xs × KeepWithin allowed xs → AreKept (after_access allowed xs name v) × KeepWithin allowed (after_access allowed xs name v)
keep_access allowed xs name v f h = elim (access_cases allowed xs name v) [
  | inl t ↦
      let at = found_at name xs t.number t.register t.found in
      let same = alike_variant t.register.value v (taken_alike allowed t.number t.register v t.takes) in
      let w = h.1 t.number t.register v at (same, f) (taken_allowed allowed t.number t.register v t.takes) in
      subst (λ l. AreKept l × KeepWithin allowed l) t.after
      (kept_set xs t.number t.register v h.0 at.0 at.1 f w, keep_set allowed xs t.number t.register v h.1 at.1 same)
  | inr same ↦ subst (λ l. AreKept l × KeepWithin allowed l) same h
]

pub keep_after : (allowed : ℕ → RegisterValue → Bool) (opened : List Register) (past : List Request) → AllFit past → AreKept opened × KeepWithin allowed opened
    → AreKept (after allowed opened past) × KeepWithin allowed (after allowed opened past)
keep_after allowed opened [] f h = h
keep_after allowed opened (Access n v ∷ past) f h = keep_access allowed (after allowed opened past) n v f.0 (keep_after allowed opened past f.1 h)
keep_after allowed opened (Listing n ∷ past) f h = keep_after allowed opened past f h
