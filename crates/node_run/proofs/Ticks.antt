-- Which ticks are due.
use Rattle.std.proofs.Common.{◌≡◌, ◌∙◌, ◌^◌, ℕ, ◌+◌, ◌-◌, ◌*◌, ◌<◌, ◌≤◌, Bool, true, false, List, [], ◌∷◌, refl, sym, ap, ap₂, subst, eqb-true, ltb-true, ltb-false, arith}
use Rattle.std.specs.Prelude.{if◌then◌else◌, ◌==◌, nat_lt}
use Rattle.tail_frame.specs.declared.logged.Record.{Record}
use Rattle.node_plan.specs.declared.plan.Plan.{Plan}
use Rattle.node_core.specs.Steps.{first_of, ticks_before, ticks_done, ticks_from, ticks_until, ticks_upto}
use Rattle.node_run.specs.Goes.{IsFrom, begun_next, last_tick, next_behind, ticks_due, ticks_left}
use Rattle.node_run.specs.Hears.{next_of, ticks_of}

due_count : (first number moment : ℕ) → first + number * 1000000 ≤ moment → ticks_until first moment - number ≡ ticks_due (first + number * 1000000) moment
due_count first number moment h = omega arith

due_none : (first number moment : ℕ) → 1 ≤ number → moment < first + number * 1000000 → ticks_until first moment - number ≡ 0
due_none first number moment some h = omega arith

done_due : (first number moment : ℕ) → first + number * 1000000 ≤ moment → number + ticks_due (first + number * 1000000) moment ≡ ticks_until first moment
done_due first number moment h = omega arith

done_same : (first number moment : ℕ) → 1 ≤ number → first + number * 1000000 - 1000000 ≤ moment → moment < first + number * 1000000 → number ≡ ticks_until first moment
done_same first number moment some low high = omega arith

not_zero : (n : ℕ) → 1 ≤ n → (n == 0) ≡ false
not_zero n some = go (n == 0) refl
  where
    go : (b : Bool) → b ≡ (n == 0) → (n == 0) ≡ false
    go false e = sym e
    go true e = absurd (let z = eqb-true n 0 (sym e) in omega arith)

begun_some : (number next moment : ℕ) → 1 ≤ number → begun_next number next moment ≡ next
begun_some number next moment some = ap (λ (b : Bool). if b then moment else next) (not_zero number some)

last_some : (number next : ℕ) → 1 ≤ number → last_tick number next ≡ next - 1000000
last_some number next some = ap (λ (b : Bool). if b then 0 else next - 1000000) (not_zero number some)

-- a record that comes behind a tick, or at its moment
pub record Due (plan : Plan) (rec : Record) (past : List Record) (number next : ℕ) : Type 0 where
  pub first : begun_next number next rec.moment ≡ first_of rec past + number * 1000000
  pub ticks : ticks_before plan rec past ≡ ticks_from (first_of rec past) number (ticks_due (begun_next number next rec.moment) rec.moment)
  pub number_is : number + ticks_due (begun_next number next rec.moment) rec.moment ≡ ticks_of plan (rec ∷ past)
  pub next_is : begun_next number next rec.moment + ticks_due (begun_next number next rec.moment) rec.moment * 1000000 ≡ next_of plan (rec ∷ past)

-- a record that comes before the next one
pub record NotDue (plan : Plan) (rec : Record) (past : List Record) (number next : ℕ) : Type 0 where
  pub ticks : ticks_before plan rec past ≡ []
  pub number_is : number ≡ ticks_of plan (rec ∷ past)
  pub next_is : next ≡ next_of plan (rec ∷ past)

module _ (plan : Plan) (rec : Record) where
  abbrev m : ℕ
  m = rec.moment

  silent_next : plan.silent ≡ true → (past : List Record) → next_of plan past ≡ 2 ^ 64 - 1
  silent_next e [] = ap (λ (b : Bool). if b then 2 ^ 64 - 1 else 0) e
  silent_next e (r ∷ past) = ap (λ (b : Bool). if b then 2 ^ 64 - 1 else first_of r past + ticks_done (r ∷ past) * 1000000) e

  loud_ticks : plan.silent ≡ false → (past : List Record) → ticks_of plan past ≡ ticks_done past
  loud_ticks e past = ap (λ (b : Bool). if b then 0 else ticks_done past) e

  loud_next : plan.silent ≡ false → (r : Record) (past : List Record) → next_of plan (r ∷ past) ≡ first_of r past + ticks_done (r ∷ past) * 1000000
  loud_next e r past = ap (λ (b : Bool). if b then 2 ^ 64 - 1 else first_of r past + ticks_done (r ∷ past) * 1000000) e

  loud_before : plan.silent ≡ false → (past : List Record) → ticks_before plan rec past ≡ ticks_upto (first_of rec past) (ticks_done past) m
  loud_before e past = ap (λ (b : Bool). if b then [] else ticks_upto (first_of rec past) (ticks_done past) m) e

  -- where the first tick comes at this moment
  at_first : plan.silent ≡ false → Due plan rec [] 0 0
  at_first e =
      let one : ticks_due m m ≡ 1 = omega arith in
      let done : ticks_until m m ≡ 1 = omega arith in record {
        first = omega arith;
        ticks = loud_before e [] ∙ ap (ticks_from m 0) (omega arith);
        number_is = omega arith ∙ sym (loud_ticks e (rec ∷ []));
        next_is = omega arith ∙ sym (loud_next e rec []);
      }

  later : plan.silent ≡ false → (r : Record) (past : List Record) → first_of r past + ticks_done (r ∷ past) * 1000000 ≤ m → Due plan rec (r ∷ past) (ticks_done (r ∷ past)) (first_of r past + ticks_done (r ∷ past) * 1000000)
  later e r past h =
      let n = ticks_done (r ∷ past) in
      let first = first_of r past in
      let x = first + n * 1000000 in
      let begun : begun_next n x m ≡ x = begun_some n x m (omega arith) in
      let count : ticks_until first m - n ≡ ticks_due (begun_next n x m) m = due_count first n m h ∙ ap (λ y. ticks_due y m) (sym begun) in
      let done : n + ticks_due (begun_next n x m) m ≡ ticks_until first m = ap (λ y. n + ticks_due y m) begun ∙ done_due first n m h in record {
        first = begun;
        ticks = loud_before e (r ∷ past) ∙ ap (ticks_from first n) count;
        number_is = done ∙ sym (loud_ticks e (rec ∷ r ∷ past));
        next_is = ap (λ y. y + ticks_due (begun_next n x m) m * 1000000) begun ∙ (omega (arith, done) ∙ sym (loud_next e rec (r ∷ past)));
      }

  loud_due : plan.silent ≡ false → (past : List Record) → next_of plan past ≤ m → Due plan rec past (ticks_of plan past) (next_of plan past)
  loud_due e [] h = subst (λ n. Due plan rec [] n (next_of plan [])) (sym (loud_ticks e [])) (subst (λ x. Due plan rec [] 0 x) (sym (ap (λ (b : Bool). if b then 2 ^ 64 - 1 else 0) e)) (at_first e))
  loud_due e (r ∷ past) h =
      let x = loud_next e r past in
      subst (λ n. Due plan rec (r ∷ past) n (next_of plan (r ∷ past))) (sym (loud_ticks e (r ∷ past)))
      (subst (λ y. Due plan rec (r ∷ past) (ticks_done (r ∷ past)) y) (sym x) (later e r past (subst (λ y. y ≤ m) x h)))

  pub ticks_are : (past : List Record) → m < 10 ^ 18 → next_of plan past ≤ m → Due plan rec past (ticks_of plan past) (next_of plan past)
  ticks_are past low h = go plan.silent refl
    where
      go : (b : Bool) → plan.silent ≡ b → Due plan rec past (ticks_of plan past) (next_of plan past)
      go true e = absurd (let x = silent_next e past in omega arith)
      go false e = loud_due e past h

  none_later : plan.silent ≡ false → (past : List Record) → m < next_of plan past → last_tick (ticks_of plan past) (next_of plan past) ≤ m → NotDue plan rec past (ticks_of plan past) (next_of plan past)
  none_later e [] h low = absurd (let x = ap (λ (b : Bool). if b then 2 ^ 64 - 1 else 0) e in let y : next_of plan [] ≡ 0 = x in omega arith)
  none_later e (r ∷ past) h low =
      let n = ticks_done (r ∷ past) in
      let first = first_of r past in
      let t = loud_ticks e (r ∷ past) in
      let x = loud_next e r past in
      let some : 1 ≤ n = omega arith in
      let high : m < first + n * 1000000 = subst (λ y. m < y) x h in
      let behind : first + n * 1000000 - 1000000 ≤ m = subst (λ y. y ≤ m) (ap₂ last_tick t x ∙ last_some n (first + n * 1000000) some) low in
      let same : n ≡ ticks_until first m = done_same first n m some behind high in record {
        ticks = loud_before e (r ∷ past) ∙ ap (ticks_from first n) (due_none first n m some high);
        number_is = t ∙ (same ∙ sym (loud_ticks e (rec ∷ r ∷ past)));
        next_is = x ∙ (ap (λ y. first + y * 1000000) same ∙ sym (loud_next e rec (r ∷ past)));
      }

  pub no_ticks : (past : List Record) → m < next_of plan past → last_tick (ticks_of plan past) (next_of plan past) ≤ m → NotDue plan rec past (ticks_of plan past) (next_of plan past)
  no_ticks past h low = go plan.silent refl
    where
      go : (b : Bool) → plan.silent ≡ b → NotDue plan rec past (ticks_of plan past) (next_of plan past)
      go true e = record {
        ticks = ap (λ (b : Bool). if b then [] else ticks_upto (first_of rec past) (ticks_done past) m) e;
        number_is = ap (λ (b : Bool). if b then 0 else ticks_done past) e ∙ sym (ap (λ (b : Bool). if b then 0 else ticks_done (rec ∷ past)) e);
        next_is = silent_next e past ∙ sym (silent_next e (rec ∷ past));
      }
      go false e = none_later e past h low

-- the ticks before a record, by the number and the moment of the next one
pub record Before (plan : Plan) (rec : Record) (past : List Record) (number next : ℕ) : Type 0 where
  pub first : IsFrom (first_of rec past) number next rec.moment
  pub ticks : ticks_before plan rec past ≡ ticks_from (first_of rec past) number (ticks_left number next rec.moment)
  pub number_is : number + ticks_left number next rec.moment ≡ ticks_of plan (rec ∷ past)
  pub next_is : next_behind number next rec.moment ≡ next_of plan (rec ∷ past)

pub before_are : (plan : Plan) (rec : Record) (past : List Record) (number next : ℕ) → number ≡ ticks_of plan past → next ≡ next_of plan past → rec.moment < 10 ^ 18 → last_tick number next ≤ rec.moment → Before plan rec past number next
before_are plan rec past number next en ex low last =
    subst (λ n. Before plan rec past n next) (sym en) (subst (λ x. Before plan rec past (ticks_of plan past) x) (sym ex) (go (nat_lt rec.moment (next_of plan past)) refl))
  where
    go : (b : Bool) → nat_lt rec.moment (next_of plan past) ≡ b → Before plan rec past (ticks_of plan past) (next_of plan past)
    go true e =
        let h : rec.moment < next_of plan past = ltb-true rec.moment (next_of plan past) e in
        let d = no_ticks plan rec past h (subst (λ m. m ≤ rec.moment) (ap₂ last_tick en ex) last) in
        let left : ticks_left (ticks_of plan past) (next_of plan past) rec.moment ≡ 0 = ap (λ (b : Bool). if b then 0 else ticks_due (begun_next (ticks_of plan past) (next_of plan past) rec.moment) rec.moment) e in record {
          first = λ g. absurd (omega arith);
          ticks = d.ticks ∙ sym (ap (ticks_from (first_of rec past) (ticks_of plan past)) left);
          number_is = ap (λ m. ticks_of plan past + m) left ∙ (omega arith ∙ d.number_is);
          next_is = ap (λ (b : Bool). if b then next_of plan past else begun_next (ticks_of plan past) (next_of plan past) rec.moment + ticks_due (begun_next (ticks_of plan past) (next_of plan past) rec.moment) rec.moment * 1000000) e ∙ d.next_is;
        }
    go false e =
        let h : next_of plan past ≤ rec.moment = let f = ltb-false rec.moment (next_of plan past) e in omega arith in
        let d = ticks_are plan rec past low h in
        let left : ticks_left (ticks_of plan past) (next_of plan past) rec.moment ≡ ticks_due (begun_next (ticks_of plan past) (next_of plan past) rec.moment) rec.moment =
        ap (λ (b : Bool). if b then 0 else ticks_due (begun_next (ticks_of plan past) (next_of plan past) rec.moment) rec.moment) e in record {
          first = λ g. d.first;
          ticks = d.ticks ∙ sym (ap (ticks_from (first_of rec past) (ticks_of plan past)) left);
          number_is = ap (λ m. ticks_of plan past + m) left ∙ d.number_is;
          next_is = ap (λ (b : Bool). if b then next_of plan past else begun_next (ticks_of plan past) (next_of plan past) rec.moment + ticks_due (begun_next (ticks_of plan past) (next_of plan past) rec.moment) rec.moment * 1000000) e ∙ d.next_is;
        }

pub left_due : (number next moment : ℕ) → next ≤ moment → ticks_left number next moment ≡ ticks_due (begun_next number next moment) moment
left_due number next moment h = go (nat_lt moment next) refl
  where
    go : (b : Bool) → nat_lt moment next ≡ b → ticks_left number next moment ≡ ticks_due (begun_next number next moment) moment
    go true e = absurd (let f = ltb-true moment next e in omega arith)
    go false e = ap (λ (b : Bool). if b then 0 else ticks_due (begun_next number next moment) moment) e
