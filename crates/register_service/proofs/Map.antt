-- Registers one by one: what a name finds, and what stays where a value is written.
use Rattle.std.proofs.Common.{◌≡◌, ℕ, suc, ◌+◌, ◌<◌, ◌≤◌, Bool, true, false, not, eqb, ltb, ◌&&◌, ◌||◌, IsTrue, List, [], ◌∷◌, Option, Some, None, length, get_or, set, drop, refl, sym, ap, subst, ◌∙◌, add-one, drop-cons, arith}
use Rattle.std.proofs.Math.ListN.{get_or-map, length-set, drop_of_length-le}
use Rattle.std.proofs.Math.Seq.{map-set_same}
use Rattle.std.proofs.lemmas.Bool.{and_from, and_parts, cond-true, cond-false, eqb-true, le-ltb, lt-ltb}
use Rattle.std.proofs.lemmas.List.{get_or_default}
use Rattle.std.proofs.lemmas.List.Elements.{All-set, AllWithin-more}
use Rattle.std.proofs.lemmas.List.Sums.{position_or_len_is}
use Rattle.std.specs.Fn.{Shared}
use Rattle.std.specs.List.{AllWithin, position_or_len}
use Rattle.std.specs.Str.{bytes_eq}
use denote.Ref.{Bor}
use Rattle.std_types.specs.RegisterValues.{FitsRegisterValue}
use Rattle.std_types.specs.declared.register.AccessReply.{AccessReply}
use Rattle.std_types.specs.declared.register_value.RegisterValue.{RegisterValue}
use Rattle.std_types.specs.declared.register_value.RegisterValue.TheVariants as V
use Rattle.std_types.specs.declared.registers.Limits.{Limits}
use Rattle.std_types.specs.declared.registers.Register.{Register}
use Rattle.register_service.specs.Kept.{AllowsBy, AreKept, AreWithin, IsAt, IsGuard, IsGuardOf, Stand}
use Rattle.register_service.specs.declared.service.Registers.{Registers}
use Rattle.register_service.specs.RegisterMap.{Access, IsAccess, Request, access_reply, after_access, entry, entry_from, is_alike, reply, reply_at, takes, written_at}
use Rattle.register_service.specs.Variants.{count, is_text, variant}
use Rattle.register_service.specs.Within.{first_outside, is_within, limits_of}

-- a name is not the one at a place: what is found is found behind it
pub entry_next : (n : ℕ) (name : List ℕ) (xs : List Register) (r : Register) → n < length xs → r ≡ get_or xs n r → bytes_eq r.name name ≡ false
    → entry_from n name (drop n xs) ≡ entry_from (n + 1) name (drop (n + 1) xs)
entry_next n name xs r h e fails =
    ap (entry_from n name) (drop-cons xs n r h)
    ∙ cond-false (bytes_eq (get_or xs n r).name name) (Some (n, get_or xs n r)) (entry_from (n + 1) name (drop (suc n) xs)) (ap (λ x. bytes_eq x.name name) (sym e) ∙ fails)
    ∙ ap (λ k. entry_from (n + 1) name (drop k xs)) (sym (add-one n))

-- it is the one at a place
pub entry_here : (n : ℕ) (name : List ℕ) (xs : List Register) (r : Register) → n < length xs → r ≡ get_or xs n r → bytes_eq r.name name ≡ true
    → entry_from n name (drop n xs) ≡ Some (n, r)
entry_here n name xs r h e holds =
    ap (entry_from n name) (drop-cons xs n r h)
    ∙ cond-true (bytes_eq (get_or xs n r).name name) (Some (n, get_or xs n r)) (entry_from (n + 1) name (drop (suc n) xs)) (ap (λ x. bytes_eq x.name name) (sym e) ∙ holds)
    ∙ ap (λ x. Some (n, x)) (sym e)

-- nothing is found past the last
pub entry_end : (n : ℕ) (name : List ℕ) (xs : List Register) → length xs ≤ n → entry_from n name (drop n xs) ≡ None
entry_end n name xs h = ap (entry_from n name) (drop_of_length-le xs h)

-- a register in the place of one that f cannot tell from it: f of each is as it was
pub set_keeps : {A : Type 0} (f : Register → A) (xs : List Register) (i : ℕ) (r s : Register) → r ≡ get_or xs i r → f s ≡ f r
    → (j : ℕ) (d : Register) → f (get_or (set xs i s) j d) ≡ f (get_or xs j d)
set_keeps f xs i r s e same j d =
    sym (get_or-map f (set xs i s) j d) ∙ ap (λ l. get_or l j (f d)) (map-set_same f xs i s r (same ∙ ap f e)) ∙ get_or-map f xs j d

-- a value that a register can be written with is of its variant
pub alike_variant : (held v : RegisterValue) → is_alike held v ≡ true → variant v ≡ variant held
alike_variant held v e =
    let a = and_parts (not (eqb (variant v) 0)) (eqb (variant v) (variant held) && (is_text v || eqb (count v) (count held))) e in
    let b = and_parts (eqb (variant v) (variant held)) (is_text v || eqb (count v) (count held)) a.1 in
    eqb-true (variant v) (variant held) b.0

-- registers with a value written that is one, within the limits
pub kept_set : (xs : List Register) (i : ℕ) (r : Register) (v : RegisterValue) → AreKept xs → i < length xs → r ≡ get_or xs i r
    → FitsRegisterValue v → IsTrue (is_within r.limits v) → AreKept (set xs i (record r { value = v }))
kept_set xs i r v k h e f w =
    let s : Register = record r { value = v } in
    let names : (j : ℕ) (d : Register) → (get_or (set xs i s) j d).name ≡ (get_or xs j d).name = set_keeps (λ x. x.name) xs i r s e refl in
    let long : length r.name ≤ 255 = subst (λ (x : Register). length x.name ≤ 255) (sym e) (k.sound.short i r h) in
    record {
      sound = record {
        few = omega (arith, length-set xs i s, k.sound.few);
        distinct = λ a b d less within same. k.sound.distinct a b d less (omega (arith, length-set xs i s)) (sym (names a d) ∙ same ∙ names b d);
        short = All-set (λ x. length x.name ≤ 255) xs i s long k.sound.short;
        fit = All-set (λ x. FitsRegisterValue x.value) xs i s f k.sound.fit;
      };
      within = All-set (λ x. IsTrue (is_within x.limits x.value)) xs i s w k.within;
    }

-- their guard is still one where the variant stays
pub guard_set : {G : Type 0} (g : Shared G (ℕ × (Bor RegisterValue × Unit {0})) Bool) (guard : G) (xs : List Register) (i : ℕ) (r : Register) (v : RegisterValue)
    → IsGuard g guard xs → r ≡ get_or xs i r → variant v ≡ variant r.value → IsGuard g guard (set xs i (record r { value = v }))
guard_set g guard xs i r v k e same =
    let s : Register = record r { value = v } in
    let limits : (j : ℕ) (d : Register) → (get_or (set xs i s) j d).limits ≡ (get_or xs j d).limits = set_keeps (λ x. x.limits) xs i r s e refl in
    let variants : (j : ℕ) (d : Register) → variant (get_or (set xs i s) j d).value ≡ variant (get_or xs j d).value = set_keeps (λ x. variant x.value) xs i r s e same in
    record {
      callable = λ j t p less is of.
          let low : j < length xs = omega (arith, length-set xs i s) in
          k.callable j (get_or xs j t) p low (get_or_default xs j t (get_or xs j t) low) (of.0 ∙ ap (λ x. variant x.value) is ∙ variants j t, of.1);
      within = λ j t p less is of yes'.
          let low : j < length xs = omega (arith, length-set xs i s) in
          subst (λ l. IsTrue (is_within l p.now)) (sym (ap (λ x. x.limits) is ∙ limits j t))
          (k.within j (get_or xs j t) p low (get_or_default xs j t (get_or xs j t) low) (of.0 ∙ ap (λ x. variant x.value) is ∙ variants j t, of.1) yes');
    }

-- of one of them it is its guard
pub guard_of : {G : Type 0} (g : Shared G (ℕ × (Bor RegisterValue × Unit {0})) Bool) (guard : G) (xs : List Register) (i : ℕ) (r : Register)
    → IsGuard g guard xs → IsAt xs i r → IsGuardOf g guard i r
guard_of g guard xs i r k at = record {
  callable = λ p of. k.callable i r p at.0 at.1 of;
  within = λ p of yes'. k.within i r p at.0 at.1 of yes';
}

-- a value that is written changes no limits
pub limits_set : (xs : List Register) (i : ℕ) (r : Register) (v : RegisterValue) → r ≡ get_or xs i r → limits_of (set xs i (record r { value = v })) ≡ limits_of xs
limits_set xs i r v e = let limits : Register → Option Limits = λ x. x.limits in map-set_same limits xs i (record r { value = v }) r (ap limits e)

-- what an access leaves and answers, by what its name finds and whether the register takes the value
pub after_unknown : (allowed : ℕ → RegisterValue → Bool) (xs : List Register) (name : List ℕ) (v : RegisterValue) → entry name xs ≡ None
    → xs ≡ after_access allowed xs name v
after_unknown allowed xs name v e = sym (ap (λ o. written_at allowed xs o v) e)

pub after_refused : (allowed : ℕ → RegisterValue → Bool) (xs : List Register) (name : List ℕ) (v : RegisterValue) (n : ℕ) (r : Register)
    → entry name xs ≡ Some (n, r) → takes allowed n r v ≡ false → xs ≡ after_access allowed xs name v
after_refused allowed xs name v n r e fails =
    sym (ap (λ o. written_at allowed xs o v) e ∙ cond-false (takes allowed n r v) (set xs n (record r { value = v })) xs fails)

pub after_taken : (allowed : ℕ → RegisterValue → Bool) (xs : List Register) (name : List ℕ) (v : RegisterValue) (n : ℕ) (r : Register)
    → entry name xs ≡ Some (n, r) → takes allowed n r v ≡ true → set xs n (record r { value = v }) ≡ after_access allowed xs name v
after_taken allowed xs name v n r e holds =
    sym (ap (λ o. written_at allowed xs o v) e ∙ cond-true (takes allowed n r v) (set xs n (record r { value = v })) xs holds)

pub reply_unknown : (allowed : ℕ → RegisterValue → Bool) (xs : List Register) (name : List ℕ) (v : RegisterValue) → entry name xs ≡ None
    → reply false V.Empty ≡ access_reply allowed xs name v
reply_unknown allowed xs name v e = sym (ap (λ o. reply_at allowed o v) e)

pub reply_refused : (allowed : ℕ → RegisterValue → Bool) (xs : List Register) (name : List ℕ) (v : RegisterValue) (n : ℕ) (r : Register)
    → entry name xs ≡ Some (n, r) → takes allowed n r v ≡ false → reply r.mutable r.value ≡ access_reply allowed xs name v
reply_refused allowed xs name v n r e fails =
    sym (ap (λ o. reply_at allowed o v) e ∙ ap (reply r.mutable) (cond-false (takes allowed n r v) v r.value fails))

pub reply_taken : (allowed : ℕ → RegisterValue → Bool) (xs : List Register) (name : List ℕ) (v : RegisterValue) (n : ℕ) (r : Register)
    → entry name xs ≡ Some (n, r) → takes allowed n r v ≡ true → reply r.mutable v ≡ access_reply allowed xs name v
reply_taken allowed xs name v n r e holds =
    sym (ap (λ o. reply_at allowed o v) e ∙ ap (reply r.mutable) (cond-true (takes allowed n r v) v r.value holds))

pub and_false : (x : Bool) → (x && false) ≡ false
and_false true = refl
and_false false = refl

-- an access by what its name finds, whatever the guard answers
pub access_unknown : (xs : List Register) (name : List ℕ) (v : RegisterValue) (a : AccessReply) → entry name xs ≡ None → a ≡ reply false V.Empty
    → IsAccess xs name v xs a
access_unknown xs name v a e is = record {
  allows = false;
  leaves = after_unknown (λ i w. false) xs name v e;
  answers = is ∙ reply_unknown (λ i w. false) xs name v e;
}

pub access_refused : (xs : List Register) (name : List ℕ) (v : RegisterValue) (a : AccessReply) (n : ℕ) (r : Register) → entry name xs ≡ Some (n, r)
    → a ≡ reply r.mutable r.value → IsAccess xs name v xs a
access_refused xs name v a n r e is =
    let fails : takes (λ i w. false) n r v ≡ false = ap (λ b. r.mutable && b) (and_false (is_alike r.value v)) ∙ and_false r.mutable in
    record {
      allows = false;
      leaves = after_refused (λ i w. false) xs name v n r e fails;
      answers = is ∙ reply_refused (λ i w. false) xs name v n r e fails;
    }

pub access_taken : (xs : List Register) (name : List ℕ) (v : RegisterValue) (a : AccessReply) (n : ℕ) (r : Register) → entry name xs ≡ Some (n, r)
    → r.mutable ≡ true → is_alike r.value v ≡ true → a ≡ reply r.mutable v → IsAccess xs name v (set xs n (record r { value = v })) a
access_taken xs name v a n r e m like is =
    let holds : takes (λ i w. true) n r v ≡ true = and_from r.mutable (is_alike r.value v && true) m (and_from (is_alike r.value v) true like refl) in
    record {
      allows = true;
      leaves = after_taken (λ i w. true) xs name v n r e holds;
      answers = is ∙ reply_taken (λ i w. true) xs name v n r e holds;
    }

-- registers stand for the longer list
pub stand_next : {G : Type 0} (g : Shared G (ℕ × (Bor RegisterValue × Unit {0})) Bool) (allowed : ℕ → RegisterValue → Bool) (opened : List Register) (past : List Request)
    (a b : Registers G) (name : List ℕ) (v : RegisterValue) → Stand g allowed opened past a → b.guard ≡ a.guard
    → b.list.items ≡ after_access allowed a.list.items name v → Stand g allowed opened (Access name v ∷ past) b
stand_next g allowed opened past a b name v s e f = record {
  allows = subst (λ k. AllowsBy g k allowed) (sym e) s.allows;
  holds = f ∙ ap (λ xs. after_access allowed xs name v) s.holds;
}

-- the first register outside its limits, by the loop that looks for it
pub outside_here : (xs : List Register) (i : ℕ) (r : Register) → i < length xs → r ≡ get_or xs i r
    → AllWithin (λ r. IsTrue (is_within r.limits r.value)) xs 0 i → is_within r.limits r.value ≡ false → first_outside xs ≡ Some i
outside_here xs i r h e before out =
    let p : Register → Bool = λ x. not (is_within x.limits x.value) in
    let at : position_or_len p xs ≡ i =
    position_or_len_is p xs i r (omega arith) (λ k lt. ap not (before k r (omega arith) lt)) (λ lt. ap p (sym e) ∙ ap not out) in
    let low : position_or_len p xs < length xs = omega (arith, at) in
    cond-true (ltb (position_or_len p xs) (length xs)) (Some (position_or_len p xs)) None (lt-ltb (position_or_len p xs) (length xs) low) ∙ ap Some at

pub no_outside : (xs : List Register) → AreWithin xs → first_outside xs ≡ None
no_outside xs all =
    let p : Register → Bool = λ x. not (is_within x.limits x.value) in
    let d : Register = record { name = []; mutable = false; value = V.Empty; limits = None } in
    let at : position_or_len p xs ≡ length xs =
    position_or_len_is p xs (length xs) d (omega arith) (λ k lt. ap not (all k d lt)) (λ lt. absurd (omega arith)) in
    let low : length xs ≤ position_or_len p xs = omega (arith, at) in
    cond-false (ltb (position_or_len p xs) (length xs)) (Some (position_or_len p xs)) None (le-ltb (position_or_len p xs) (length xs) low)

pub ruleset opening = (outside_here, no_outside, AllWithin-more)

pub ruleset finding = (entry_here, entry_next, entry_end)

pub ruleset accessing = (kept_set, guard_set, guard_of, limits_set, alike_variant, after_unknown, after_refused, after_taken, reply_unknown, reply_refused, reply_taken, access_unknown, access_refused, access_taken)
