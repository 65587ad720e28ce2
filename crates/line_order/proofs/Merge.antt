-- Entries that came late, put at their places among others.
use Rattle.std.proofs.Common.{◌≡◌, ◌∙◌, ◌<◌, ◌≤◌, ℕ, Bool, true, false, List, [], ◌∷◌, ◌++◌, refl, sym, ap, subst, arith}
use Rattle.std.specs.Prelude.{nat_lt}
use Rattle.std.proofs.lemmas.Bool.Decides.{nat_tests}
use Rattle.line_order.specs.Held.{AreBelow}
use Rattle.line_order.specs.Moments.{AreBefore, AreFrom, AreUpTo, Rises, late_first, put_all}
use Rattle.line_order.specs.Order.{Entry, put}
use Rattle.line_order.specs.Row.{Pops, first_moment}
use Rattle.line_order.proofs.Lists.{yes, no, put_case}
use Rattle.line_order.proofs.SortedLemmas.{put_last, up_to_more}

put_first : (e x : Entry) (xs : List Entry) → e.moment < x.moment → put e (x ∷ xs) ≡ e ∷ x ∷ xs
put_first e x xs h = yes (nat_lt e.moment x.moment) (e ∷ x ∷ xs) (x ∷ put e xs) (grind (arith, nat_tests, h))

put_next : (e x : Entry) (xs : List Entry) → x.moment ≤ e.moment → put e (x ∷ xs) ≡ x ∷ put e xs
put_next e x xs h = no (nat_lt e.moment x.moment) (e ∷ x ∷ xs) (x ∷ put e xs) (grind (arith, nat_tests, h))

-- two entries with different moments
put_swap : (a b : Entry) (es : List Entry) → a.moment < b.moment → put a (put b es) ≡ put b (put a es)
put_swap a b [] h = put_first a b [] h ∙ sym (put_next b a [] (omega (arith, h)))
put_swap a b (x ∷ xs) h = at_first (put_swap a b xs h) (nat_lt a.moment x.moment) (nat_lt b.moment x.moment) refl refl
  where
    at_first : put a (put b xs) ≡ put b (put a xs) → (s t : Bool) → nat_lt a.moment x.moment ≡ s → nat_lt b.moment x.moment ≡ t → put a (put b (x ∷ xs)) ≡ put b (put a (x ∷ xs))
    at_first more true true s t =
        let ax : a.moment < x.moment = grind (arith, nat_tests, s) in
        let bx : b.moment < x.moment = grind (arith, nat_tests, t) in
        let le : a.moment ≤ b.moment = omega (arith, h) in
        ap (λ (l : List Entry). put a l) (put_first b x xs bx)
        ∙ (put_first a b (x ∷ xs) h
        ∙ (ap (λ (l : List Entry). a ∷ l) (sym (put_first b x xs bx))
        ∙ (sym (put_next b a (x ∷ xs) le) ∙ ap (λ (l : List Entry). put b l) (sym (put_first a x xs ax)))))
    at_first more true false s t =
        let ax : a.moment < x.moment = grind (arith, nat_tests, s) in
        let bx : x.moment ≤ b.moment = grind (arith, nat_tests, t) in
        let le : a.moment ≤ b.moment = omega (arith, h) in
        ap (λ (l : List Entry). put a l) (put_next b x xs bx)
        ∙ (put_first a x (put b xs) ax
        ∙ (ap (λ (l : List Entry). a ∷ l) (sym (put_next b x xs bx))
        ∙ (sym (put_next b a (x ∷ xs) le) ∙ ap (λ (l : List Entry). put b l) (sym (put_first a x xs ax)))))
    at_first more false true s t =
        let ax : x.moment ≤ a.moment = grind (arith, nat_tests, s) in
        let bx : b.moment < x.moment = grind (arith, nat_tests, t) in absurd (omega (arith, ax, bx, h))
    at_first more false false s t =
        let ax : x.moment ≤ a.moment = grind (arith, nat_tests, s) in
        let bx : x.moment ≤ b.moment = grind (arith, nat_tests, t) in
        ap (λ (l : List Entry). put a l) (put_next b x xs bx)
        ∙ (put_next a x (put b xs) ax
        ∙ (ap (λ (l : List Entry). x ∷ l) more
        ∙ (sym (put_next b x (put a xs) bx) ∙ ap (λ (l : List Entry). put b l) (sym (put_next a x xs ax)))))

-- an entry whose moment is before those of the late ones
put_before : (e : Entry) (late es : List Entry) (m : ℕ) → e.moment < m → AreFrom m late → put e (put_all late es) ≡ put_all late (put e es)
put_before e [] es m h a = refl
put_before e (x ∷ xs) es m h a =
    let less : e.moment < x.moment = omega (arith, h, a.0) in
    put_before e xs (put x es) m h a.1 ∙ ap (λ (l : List Entry). put_all xs l) (put_swap e x es less)

-- an entry whose moment is behind those of the late ones
put_behind_late : (e : Entry) (late es : List Entry) → AreBefore e.moment late → put e (put_all late es) ≡ put_all late (put e es)
put_behind_late e [] es b = refl
put_behind_late e (x ∷ xs) es b = put_behind_late e xs (put x es) b.1 ∙ ap (λ (l : List Entry). put_all xs l) (sym (put_swap x e es b.0))

before_more : (m n : ℕ) (es : List Entry) → m ≤ n → AreBefore m es → AreBefore n es
before_more m n [] h b = tt
before_more m n (e ∷ es) h b = (omega (arith, b.0, h), before_more m n es h b.1)

pub before_put : (m : ℕ) (e : Entry) (es : List Entry) → e.moment < m → AreBefore m es → AreBefore m (put e es)
before_put m e [] h b = (h, tt)
before_put m e (x ∷ xs) h b = put_case e x xs (λ l. AreBefore m l) (λ less. (h, b)) (λ le. (b.0, before_put m e xs h b.1))

-- a line that comes in order stands behind all
pub put_in_order : (m : ℕ) (e : Entry) (late es : List Entry) → m ≤ e.moment → AreBefore m late → AreUpTo m es → put_all late (es ++ (e ∷ [])) ≡ put e (put_all late es)
put_in_order m e late es h b u =
    ap (λ (l : List Entry). put_all late l) (sym (put_last e es (up_to_more m e.moment es h u))) ∙ sym (put_behind_late e late es (before_more m e.moment late h b))

pub up_to_last : (m : ℕ) (e : Entry) (es : List Entry) → m ≤ e.moment → AreUpTo m es → AreUpTo e.moment (es ++ (e ∷ []))
up_to_last m e [] h u = (omega arith, tt)
up_to_last m e (x ∷ xs) h u = (omega (arith, h, u.0), up_to_last m e xs h u.1)

pub before_later : (m n : ℕ) (es : List Entry) → m ≤ n → AreBefore m es → AreBefore n es
before_later m n es h b = before_more m n es h b

-- a line that comes late is put among the late ones
pub put_late : (e : Entry) (late es : List Entry) → Rises late → put_all (put e late) es ≡ put e (put_all late es)
put_late e [] es r = refl
put_late e (x ∷ xs) es r = at_first (put_late e xs (put x es) r.1) (nat_lt e.moment x.moment) refl
  where
    at_first : put_all (put e xs) (put x es) ≡ put e (put_all xs (put x es)) → (t : Bool) → nat_lt e.moment x.moment ≡ t → put_all (put e (x ∷ xs)) es ≡ put e (put_all (x ∷ xs) es)
    at_first more true t =
        let less : e.moment < x.moment = grind (arith, nat_tests, t) in
        ap (λ (l : List Entry). put_all l es) (put_first e x xs less) ∙ sym (put_before e (x ∷ xs) es x.moment less (omega arith, r.0))
    at_first more false t =
        let le : x.moment ≤ e.moment = grind (arith, nat_tests, t) in
        ap (λ (l : List Entry). put_all l es) (put_next e x xs le) ∙ more

-- Numbers.

below_of_put : (n : ℕ) (e : Entry) (es : List Entry) → AreBelow n (put e es) → (e.number < n) × AreBelow n es
below_of_put n e [] b = b
below_of_put n e (x ∷ xs) b = put_case e x xs (λ l. AreBelow n l → (e.number < n) × AreBelow n (x ∷ xs)) (λ less k. k) (λ le k. let m = below_of_put n e xs k.1 in (m.0, (k.0, m.1))) b

below_of_all : (n : ℕ) (late es : List Entry) → AreBelow n (put_all late es) → AreBelow n late × AreBelow n es
below_of_all n [] es b = (tt, b)
below_of_all n (x ∷ xs) es b =
    let m = below_of_all n xs (put x es) b in
    let k = below_of_put n x es m.1 in ((k.0, m.0), k.1)

pub below_late : (n : ℕ) (late es : List Entry) → AreBelow n (put_all late es) → AreBelow n late
below_late n late es b = (below_of_all n late es b).0

-- The first entry.

behind_first : (e : Entry) (late es : List Entry) → AreFrom e.moment late → put_all late (e ∷ es) ≡ e ∷ put_all late es
behind_first e [] es a = refl
behind_first e (x ∷ xs) es a = ap (λ (l : List Entry). put_all xs l) (put_next x e es a.0) ∙ behind_first e xs (put x es) a.1

-- it came late
pub late_head : (l : Entry) (late es : List Entry) → Rises (l ∷ late) → late_first (l ∷ late) es ≡ true → put_all (l ∷ late) es ≡ l ∷ put_all late es
late_head l late [] r t = behind_first l late [] r.0
late_head l late (e ∷ es) r t =
    let less : l.moment < e.moment = grind (arith, nat_tests, t) in
    ap (λ (x : List Entry). put_all late x) (put_first l e es less) ∙ behind_first l late (e ∷ es) r.0

from_less : (m n : ℕ) (es : List Entry) → n ≤ m → AreFrom m es → AreFrom n es
from_less m n [] h a = tt
from_less m n (e ∷ es) h a = (omega (arith, h, a.0), from_less m n es h a.1)

-- it came in order
pub queue_head : (late : List Entry) (e : Entry) (es : List Entry) → Rises late → late_first late (e ∷ es) ≡ false → put_all late (e ∷ es) ≡ e ∷ put_all late es
queue_head [] e es r t = refl
queue_head (l ∷ late) e es r t =
    let le : e.moment ≤ l.moment = grind (arith, nat_tests, t) in behind_first e (l ∷ late) es (le, from_less l.moment e.moment late le r.0)

pub first_late : (late es : List Entry) → Rises late → late_first late es ≡ true → first_moment late ≡ first_moment (put_all late es)
first_late [] es r t = absurd cc
first_late (l ∷ late) es r t = ap (λ (x : List Entry). first_moment x) (sym (late_head l late es r t))

pub first_queued : (late es : List Entry) → Rises late → late_first late es ≡ false → first_moment es ≡ first_moment (put_all late es)
first_queued [] [] r t = refl
first_queued (l ∷ late) [] r t = absurd cc
first_queued late (e ∷ es) r t = ap (λ (x : List Entry). first_moment x) (sym (queue_head late e es r t))

pub pops_late : (late new es : List Entry) (before after : List ℕ) (some : Bool) → Rises late → late_first late es ≡ true → Pops late new before after some → Pops (put_all late es) (put_all new es) before after some
pops_late late new es before after true r t p =
    let rises : Rises (p.0 ∷ new) = subst (λ (l : List Entry). Rises l) p.1 r in
    let first : late_first (p.0 ∷ new) es ≡ true = subst (λ (l : List Entry). late_first l es ≡ true) p.1 t in
    (p.0, ap (λ (l : List Entry). put_all l es) p.1 ∙ late_head p.0 new es rises first, p.2)
pops_late late new es before after false r t p =
    let never : late_first [] es ≡ true = subst (λ (l : List Entry). late_first l es ≡ true) p.0 t in absurd cc

none_held : (late : List Entry) → late_first late [] ≡ false → late ≡ []
none_held [] t = refl
none_held (l ∷ late) t = absurd cc

pub pops_queued : (late es new : List Entry) (before after : List ℕ) (some : Bool) → Rises late → late_first late es ≡ false → Pops es new before after some → Pops (put_all late es) (put_all late new) before after some
pops_queued late es new before after true r t p =
    let first : late_first late (p.0 ∷ new) ≡ false = subst (λ (l : List Entry). late_first late l ≡ false) p.1 t in
    (p.0, ap (λ (l : List Entry). put_all late l) p.1 ∙ queue_head late p.0 new r first, p.2)
pops_queued late es new before after false r t p =
    let none : late ≡ [] = none_held late (subst (λ (l : List Entry). late_first late l ≡ false) p.0 t) in (
      ap (λ (l : List Entry). put_all l es) none ∙ p.0,
      ap (λ (l : List Entry). put_all l new) none ∙ p.1,
      p.2,
    )

-- What holds of all entries holds of those that are left.
pub left_up_to : (m : ℕ) (es new : List Entry) (before after : List ℕ) (some : Bool) → Pops es new before after some → AreUpTo m es → AreUpTo m new
left_up_to m es new before after true p u = (subst (λ (l : List Entry). AreUpTo m l) p.1 u).1
left_up_to m es new before after false p u = subst (λ (l : List Entry). AreUpTo m l) (p.0 ∙ sym p.1) u

pub left_before : (m : ℕ) (es new : List Entry) (before after : List ℕ) (some : Bool) → Pops es new before after some → AreBefore m es → AreBefore m new
left_before m es new before after true p u = (subst (λ (l : List Entry). AreBefore m l) p.1 u).1
left_before m es new before after false p u = subst (λ (l : List Entry). AreBefore m l) (p.0 ∙ sym p.1) u

pub left_rises : (es new : List Entry) (before after : List ℕ) (some : Bool) → Pops es new before after some → Rises es → Rises new
left_rises es new before after true p u = (subst (λ (l : List Entry). Rises l) p.1 u).1
left_rises es new before after false p u = subst (λ (l : List Entry). Rises l) (p.0 ∙ sym p.1) u
