-- The laws: what registers hold and answer, over every list of requests.
use Rattle.std.proofs.Common.{◌≡◌, ℕ, ◌<◌, ◌≤◌, Bool, true, false, List, [], ◌∷◌, ◌++◌, Option, Some, None, length, refl, sym, ap, subst, ◌∙◌, inl, inr, arith}
use Rattle.std.proofs.lemmas.Bool.{cases_Bool, cases_lt, cond-true, cond-false}
use Rattle.std.proofs.lemmas.Option.{slice_get-map, slice_get_cases, slice_get_past, slice_get_read}
use Rattle.std.proofs.Math.ListN.{length-set}
use Rattle.std.proofs.lemmas.List.{get_or_default, get_or-set_same}
use Rattle.std.proofs.lemmas.Slice.Eq.{bytes_eq-Decides}
use Rattle.std.specs.List.{slice_get}
use Rattle.std.specs.Option.{option_map}
use Rattle.std.specs.Str.{bytes_eq}
use Rattle.std_types.specs.declared.register_value.RegisterValue.{RegisterValue}
use Rattle.std_types.specs.declared.register_value.RegisterValue.TheVariants as V
use Rattle.std_types.specs.declared.registers.Limits.{Limits}
use Rattle.std_types.specs.declared.registers.Register.{Register}
use Rattle.register_service.specs.Kept.{AreRegisters, IsAt}
use Rattle.register_service.specs.Laws.{HoldAfter, IsUnknown, KeepWithin, RegisterLaws, last_written}
use Rattle.register_service.specs.RegisterMap.{Access, Request, access_reply, after, after_access, after_request, entry, name_at, replies, reply, reply_to, takes}
use Rattle.register_service.specs.Within.{is_allowed, is_allowed_by, limits_of}
use Rattle.register_service.proofs.Alike.{takes_empty, takes_nothing}
use Rattle.register_service.proofs.Entries.{at_entry, found_at, found_name, some_inj, unknown_entry}
use Rattle.register_service.proofs.Map.{after_refused, after_taken, after_unknown, reply_refused, reply_taken, reply_unknown}
use Rattle.register_service.proofs.Written.{access_map, after_length, after_map, distinct_after, keep_after, name_stays, never_written, stays, takes_same, wrote}

value : (allowed : ℕ → RegisterValue → Bool) (opened : List Register) (past : List Request) (i : ℕ) (r : Register) → AreRegisters opened → IsAt opened i r
    → IsAt (after allowed opened past) i (record r { value = last_written (takes allowed i r) r.name r.value past })
value allowed opened past i r h at =
    let s = stays allowed opened past i r h.distinct at in
    (s.low, s.at)

read_only : (allowed : ℕ → RegisterValue → Bool) (opened : List Register) (past : List Request) (i : ℕ) (r : Register) → AreRegisters opened → IsAt opened i r
    → r.mutable ≡ false → IsAt (after allowed opened past) i r
read_only allowed opened past i r h at e =
    subst (λ w. IsAt (after allowed opened past) i (record r { value = w }))
    (never_written (takes allowed i r) r.name r.value past (λ v. takes_nothing allowed i r v e)) (value allowed opened past i r h at)

known : (allowed : ℕ → RegisterValue → Bool) (opened : List Register) (past : List Request) (i : ℕ) (r : Register) (v : RegisterValue) → AreRegisters opened → IsAt opened i r
    → access_reply allowed (after allowed opened past) r.name v ≡ reply r.mutable (last_written (takes allowed i r) r.name r.value (Access r.name v ∷ past))
known allowed opened past i r v h at =
    let xs = after allowed opened past in
    let w = last_written (takes allowed i r) r.name r.value past in
    let q : Register = record r { value = w } in
    let s = stays allowed opened past i r h.distinct at in
    let found : entry r.name xs ≡ Some (i, q) = at_entry xs i q r.name (distinct_after allowed opened past h.distinct) (s.low, s.at) refl in
    let same : takes allowed i q v ≡ takes allowed i r v = takes_same allowed r i xs w v s in
    let named : bytes_eq r.name r.name ≡ true = (bytes_eq-Decides r.name r.name).1 refl in
    elim (cases_Bool (takes allowed i r v)) [
      | inl holds ↦
          sym (reply_taken allowed xs r.name v i q found (same ∙ holds))
          ∙ ap (reply r.mutable) (sym (cond-true (takes allowed i r v) v w holds) ∙ wrote r r.name (takes allowed i r v) v w named)
      | inr fails ↦
          sym (reply_refused allowed xs r.name v i q found (same ∙ fails))
          ∙ ap (reply r.mutable) (sym (cond-false (takes allowed i r v) v w fails) ∙ wrote r r.name (takes allowed i r v) v w named)
    ]

unknown_after : (allowed : ℕ → RegisterValue → Bool) (opened : List Register) (past : List Request) (name : List ℕ) → IsUnknown name opened
    → entry name (after allowed opened past) ≡ None
unknown_after allowed opened past name h =
    unknown_entry name (after allowed opened past)
    (λ j d less same. h j d (omega (arith, after_length allowed opened past)) (sym (name_stays allowed opened past j d) ∙ same))

unknown : (allowed : ℕ → RegisterValue → Bool) (opened : List Register) (past : List Request) (name : List ℕ) (v : RegisterValue) → IsUnknown name opened
    → access_reply allowed (after allowed opened past) name v ≡ reply false V.Empty
unknown allowed opened past name v h = sym (reply_unknown allowed (after allowed opened past) name v (unknown_after allowed opened past name h))

unknown_stays : (allowed : ℕ → RegisterValue → Bool) (opened : List Register) (past : List Request) (name : List ℕ) (v : RegisterValue) → IsUnknown name opened
    → after allowed opened (Access name v ∷ past) ≡ after allowed opened past
unknown_stays allowed opened past name v h = sym (after_unknown allowed (after allowed opened past) name v (unknown_after allowed opened past name h))

read_by : (allowed : ℕ → RegisterValue → Bool) (xs : List Register) (name : List ℕ) (o : Option (ℕ × Register)) → entry name xs ≡ o
    → after_access allowed xs name V.Empty ≡ xs
read_by allowed xs name None e = sym (after_unknown allowed xs name V.Empty e)
read_by allowed xs name (Some (k, q)) e = sym (after_refused allowed xs name V.Empty k q e (takes_empty allowed k q))

read : (allowed : ℕ → RegisterValue → Bool) (opened : List Register) (past : List Request) (name : List ℕ) → after allowed opened (Access name V.Empty ∷ past) ≡ after allowed opened past
read allowed opened past name = let xs = after allowed opened past in read_by allowed xs name (entry name xs) refl

-- a reading of what an access found
again_taken : (allowed : ℕ → RegisterValue → Bool) (xs : List Register) (name : List ℕ) (v : RegisterValue) (k : ℕ) (q : Register) → AreRegisters xs
    → entry name xs ≡ Some (k, q) → takes allowed k q v ≡ true
    → access_reply allowed (after_access allowed xs name v) name V.Empty ≡ access_reply allowed xs name v
again_taken allowed xs name v k q h e holds =
    let ys = after_access allowed xs name v in
    let t : Register = record q { value = v } in
    let found = found_at name xs k q e in
    let low : k < length xs = found.0 in
    let at : IsAt ys k t = subst (λ l. IsAt l k t) (after_taken allowed xs name v k q e holds) (omega (arith, length-set xs k t), sym (get_or-set_same xs k t t low)) in
    let found_again : entry name ys ≡ Some (k, t) = at_entry ys k t name (distinct_after allowed xs (Access name v ∷ []) h.distinct) at (found_name name xs k q e) in
    sym (reply_refused allowed ys name V.Empty k t found_again (takes_empty allowed k t)) ∙ reply_taken allowed xs name v k q e holds

again_refused : (allowed : ℕ → RegisterValue → Bool) (xs : List Register) (name : List ℕ) (v : RegisterValue) (k : ℕ) (q : Register)
    → entry name xs ≡ Some (k, q) → takes allowed k q v ≡ false
    → access_reply allowed (after_access allowed xs name v) name V.Empty ≡ access_reply allowed xs name v
again_refused allowed xs name v k q e fails =
    ap (λ l. access_reply allowed l name V.Empty) (sym (after_refused allowed xs name v k q e fails))
    ∙ sym (reply_refused allowed xs name V.Empty k q e (takes_empty allowed k q))
    ∙ reply_refused allowed xs name v k q e fails

again_by : (allowed : ℕ → RegisterValue → Bool) (xs : List Register) (name : List ℕ) (v : RegisterValue) (o : Option (ℕ × Register)) → AreRegisters xs → entry name xs ≡ o
    → access_reply allowed (after_access allowed xs name v) name V.Empty ≡ access_reply allowed xs name v
again_by allowed xs name v None h e =
    ap (λ l. access_reply allowed l name V.Empty) (sym (after_unknown allowed xs name v e))
    ∙ sym (reply_unknown allowed xs name V.Empty e)
    ∙ reply_unknown allowed xs name v e
again_by allowed xs name v (Some (k, q)) h e = elim (cases_Bool (takes allowed k q v)) [
  | inl holds ↦ again_taken allowed xs name v k q h e holds
  | inr fails ↦ again_refused allowed xs name v k q e fails
]

listed : (allowed : ℕ → RegisterValue → Bool) (opened : List Register) (past : List Request) (i : ℕ) → name_at (after allowed opened past) i ≡ name_at opened i
listed allowed opened past i =
    let name : Register → List ℕ = λ r. r.name in
    sym (slice_get-map name (after allowed opened past) i)
    ∙ ap (λ l. slice_get l i) (after_map name (λ r v. refl) allowed opened past)
    ∙ slice_get-map name opened i

-- the register that is listed
listed_is : (xs : List Register) (i : ℕ) (name : List ℕ) → name_at xs i ≡ Some name → (r : Register) × IsAt xs i r × (r.name ≡ name)
listed_is xs i name e = elim (slice_get_cases xs i).1 [
  | inl (r, low, is, at) ↦ (r, (low, sym at), some_inj r.name name (sym (ap (option_map (λ (x : Register). x.name)) is) ∙ e))
  | inr (past, none) ↦ let f : None ≡ Some name = sym (ap (option_map (λ (x : Register). x.name)) none) ∙ e in cc
]

listed_below : (xs : List Register) (i j : ℕ) (name : List ℕ) → AreRegisters xs → name_at xs i ≡ Some name → name_at xs j ≡ Some name → i < j → ⊥
listed_below xs i j name h e f less =
    let a = listed_is xs i name e in
    let b = listed_is xs j name f in
    let low : i < length xs = a.1.0 in
    h.distinct i j b.0 less b.1.0
    (ap (λ (x : Register). x.name) (get_or_default xs i b.0 a.0 low ∙ sym a.1.1) ∙ a.2 ∙ sym (ap (λ (x : Register). x.name) (sym b.1.1) ∙ b.2))

listed_once : (registers : List Register) (i j : ℕ) (name : List ℕ) → AreRegisters registers → name_at registers i ≡ Some name → name_at registers j ≡ Some name → i ≡ j
listed_once xs i j name h e f = elim (cases_lt i j) [
  | inl below ↦ absurd (listed_below xs i j name h e f below)
  | inr upto ↦ elim (cases_lt j i) [
    | inl below ↦ absurd (listed_below xs j i name h f e below)
    | inr back ↦ omega arith
  ]
]

listed_none : (xs : List Register) (i : ℕ) → name_at xs i ≡ None → length xs ≤ i
listed_none xs i e = elim (slice_get_cases xs i).1 [
  | inl (r, low, is, at) ↦ let f : Some r.name ≡ None = sym (ap (option_map (λ (x : Register). x.name)) is) ∙ e in cc
  | inr (past, none) ↦ past
]

pub by_limits : (registers : List Register) → KeepWithin (is_allowed (limits_of registers)) registers
by_limits xs i r v at of yes' =
    let limits : Register → Option Limits = λ x. x.limits in
    let there : slice_get (limits_of xs) i ≡ Some r.limits = slice_get-map limits xs i ∙ ap (option_map limits) (slice_get_read xs (length xs) i r refl at.0 at.1) in
    sym (ap (λ o. is_allowed_by o v) there) ∙ yes'

parts : (allowed : ℕ → RegisterValue → Bool) (opened : List Register) (newer past : List Request) → after allowed opened (newer ++ past) ≡ after allowed (after allowed opened past) newer
parts allowed opened [] past = refl
parts allowed opened (q ∷ newer) past = ap (λ xs. after_request allowed xs q) (parts allowed opened newer past)

replies_in_parts : (allowed : ℕ → RegisterValue → Bool) (opened : List Register) (newer past : List Request)
    → replies allowed opened (newer ++ past) ≡ replies allowed (after allowed opened past) newer ++ replies allowed opened past
replies_in_parts allowed opened [] past = refl
replies_in_parts allowed opened (q ∷ newer) past =
    ap (λ xs. reply_to allowed xs q ∷ replies allowed opened (newer ++ past)) (parts allowed opened newer past)
    ∙ ap (λ l. reply_to allowed (after allowed (after allowed opened past) newer) q ∷ l) (replies_in_parts allowed opened newer past)

hold_after : (allowed : ℕ → RegisterValue → Bool) (opened : List Register) (past : List Request) → HoldAfter allowed opened past
hold_after allowed opened past = record {
  number = after_length allowed opened past;
  value = value allowed opened past;
  read_only = read_only allowed opened past;
  known = known allowed opened past;
  unknown = unknown allowed opened past;
  unknown_stays = unknown_stays allowed opened past;
  read = read allowed opened past;
  listed = listed allowed opened past;
  limits = after_map (λ r. r.limits) (λ r v. refl) allowed opened past;
  within = λ g k f. (keep_after allowed opened past f (k, g)).0;
}

pub register_laws : RegisterLaws
register_laws = record {
  after_all = hold_after;
  parts = parts;
  replies_in_parts = replies_in_parts;
  limits_stay = access_map (λ r. r.limits) (λ r v. refl);
  read_again = λ allowed registers name v h. again_by allowed registers name v (entry name registers) h refl;
  listed_once = listed_once;
  listed_all = λ registers i. (listed_none registers i, λ past. ap (option_map (λ (x : Register). x.name)) (slice_get_past registers i past));
  by_limits = by_limits;
}
