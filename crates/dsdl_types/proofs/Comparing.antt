-- There is no difference exactly where a type is newer
use Rattle.std.proofs.Common.{◌≡◌, ℕ, ◌≤◌, ◌==◌, Bool, true, false, cond, [], Option, Some, refl, sym, ap, ◌∙◌, subst, arith, inl, inr}
use Rattle.std.specs.Prelude.{None, nat_lt, ◌⊎◌}
use Rattle.std.proofs.lemmas.Bool.{cond-false, cond-true, le-ltb, ltb-false, cases_Bool, eqb-true, eq-eqb, and_parts, and_from}
use Rattle.dsdl_types.specs.Schemas.{Prim, Sch, Flds, Outline, PBool, PUint, PInt, PFloat, Simple, Fixed, Var, Struct, Union, End, Pad, Field, field_count}
use Rattle.dsdl_types.specs.Newer.{bare, bare_fields, Newer, NewerFields, newer_simple, newer_fixed, newer_var, sealed_struct, sealed_union, newer_struct, newer_union, added, newer_pad, newer_field}
use Rattle.dsdl_types.specs.Difference.{Cause, Kind, Sealing, Extent, Sealed, Count, Turn, Named, Item, same_bool, same_prim, same_outline, same, same_fields, Difference, here, unless, below, or_else, outlined, difference, difference_fields, Compares}

same_bool_is : (x y : Bool) → same_bool x y ≡ true → x ≡ y
same_bool_is true true e = refl
same_bool_is false false e = refl
same_bool_is x y e = cc

same_bool_self : (x : Bool) → same_bool x x ≡ true
same_bool_self true = refl
same_bool_self false = refl

same_self : (n : ℕ) → (n == n) ≡ true
same_self n = eq-eqb n n refl

prim_is : (t u : Prim) → same_prim t u ≡ true → t ≡ u
prim_is PBool PBool e = refl
prim_is (PUint w c) (PUint v d) e = let p = and_parts (w == v) (same_bool c d) e in λ i. PUint (eqb-true w v p.0 i) (same_bool_is c d p.1 i)
prim_is (PInt w) (PInt v) e = ap PInt (eqb-true w v e)
prim_is (PFloat w c) (PFloat v d) e = let p = and_parts (w == v) (same_bool c d) e in λ i. PFloat (eqb-true w v p.0 i) (same_bool_is c d p.1 i)
prim_is t u e = cc

prim_self : (t : Prim) → same_prim t t ≡ true
prim_self PBool = refl
prim_self (PUint w c) = and_from (w == w) (same_bool c c) (same_self w) (same_bool_self c)
prim_self (PInt w) = same_self w
prim_self (PFloat w c) = and_from (w == w) (same_bool c c) (same_self w) (same_bool_self c)

outline_eq : (f g : Outline) → f.extent ≡ g.extent → f.sealed ≡ g.sealed → f ≡ g
outline_eq f g e s = λ i. record { extent = e i; sealed = s i }

outline_is : (f g : Outline) → same_outline f g ≡ true → f ≡ g
outline_is f g e = let p = and_parts (f.extent == g.extent) (same_bool f.sealed g.sealed) e in outline_eq f g (eqb-true f.extent g.extent p.0) (same_bool_is f.sealed g.sealed p.1)

outline_same : (f g : Outline) → f ≡ g → same_outline f g ≡ true
outline_same f g e = subst (λ x. same_outline f x ≡ true) e (and_from (f.extent == f.extent) (same_bool f.sealed f.sealed) (same_self f.extent) (same_bool_self f.sealed))

mutual
  same_bare : (a b : Sch) → same a b ≡ true → bare a ≡ bare b
  same_bare (Simple t) (Simple u) e = ap Simple (prim_is t u e)
  same_bare (Fixed a n) (Fixed b m) e = let p = and_parts (n == m) (same a b) e in λ i. Fixed (same_bare a b p.1 i) (eqb-true n m p.0 i)
  same_bare (Var a n) (Var b m) e = let p = and_parts (n == m) (same a b) e in λ i. Var (same_bare a b p.1 i) (eqb-true n m p.0 i)
  same_bare (Struct fs f) (Struct gs g) e = let p = and_parts (same_outline f g) (same_fields fs gs) e in λ i. Struct (same_bare_fields fs gs p.1 i) (outline_is f g p.0 i)
  same_bare (Union fs f) (Union gs g) e = let p = and_parts (same_outline f g) (same_fields fs gs) e in λ i. Union (same_bare_fields fs gs p.1 i) (outline_is f g p.0 i)
  same_bare a b e = cc

  same_bare_fields : (fs gs : Flds) → same_fields fs gs ≡ true → bare_fields fs ≡ bare_fields gs
  same_bare_fields End End e = refl
  same_bare_fields (Pad n fs) (Pad m gs) e = let p = and_parts (n == m) (same_fields fs gs) e in λ i. Pad (eqb-true n m p.0 i) (same_bare_fields fs gs p.1 i)
  same_bare_fields (Field name a fs) (Field name' b gs) e = let p = and_parts (same a b) (same_fields fs gs) e in λ i. Field [] (same_bare a b p.0 i) (same_bare_fields fs gs p.1 i)
  same_bare_fields fs gs e = cc

mutual
  bare_same : (a b : Sch) → bare a ≡ bare b → same a b ≡ true
  bare_same (Simple t) (Simple u) e = let h : t ≡ u = cc in subst (λ x. same_prim t x ≡ true) h (prim_self t)
  bare_same (Fixed a n) (Fixed b m) e = and_from (n == m) (same a b) (let h : n ≡ m = cc in eq-eqb n m h) (bare_same a b (let h : bare a ≡ bare b = cc in h))
  bare_same (Var a n) (Var b m) e = and_from (n == m) (same a b) (let h : n ≡ m = cc in eq-eqb n m h) (bare_same a b (let h : bare a ≡ bare b = cc in h))
  bare_same (Struct fs f) (Struct gs g) e = and_from (same_outline f g) (same_fields fs gs) (let h : f ≡ g = cc in outline_same f g h) (bare_same_fields fs gs (let h : bare_fields fs ≡ bare_fields gs = cc in h))
  bare_same (Union fs f) (Union gs g) e = and_from (same_outline f g) (same_fields fs gs) (let h : f ≡ g = cc in outline_same f g h) (bare_same_fields fs gs (let h : bare_fields fs ≡ bare_fields gs = cc in h))
  bare_same a b e = cc

  bare_same_fields : (fs gs : Flds) → bare_fields fs ≡ bare_fields gs → same_fields fs gs ≡ true
  bare_same_fields End End e = refl
  bare_same_fields (Pad n fs) (Pad m gs) e = and_from (n == m) (same_fields fs gs) (let h : n ≡ m = cc in eq-eqb n m h) (bare_same_fields fs gs (let h : bare_fields fs ≡ bare_fields gs = cc in h))
  bare_same_fields (Field name a fs) (Field name' b gs) e = and_from (same a b) (same_fields fs gs) (bare_same a b (let h : bare a ≡ bare b = cc in h)) (bare_same_fields fs gs (let h : bare_fields fs ≡ bare_fields gs = cc in h))
  bare_same_fields fs gs e = cc

unless_none : (b : Bool) (c : Cause) (d : Option Difference) → unless b c d ≡ None → (b ≡ true) × (d ≡ None)
unless_none true c d e = (refl, e)
unless_none false c d e = cc

unless_is : (b : Bool) (c : Cause) (d : Option Difference) → b ≡ true → unless b c d ≡ d
unless_is b c d e = ap (λ x. unless x c d) e

below_none : (t : Turn) (d : Option Difference) → below t d ≡ None → d ≡ None
below_none t None e = refl
below_none t (Some d) e = cc

or_none : (c d : Option Difference) → or_else c d ≡ None → (c ≡ None) × (d ≡ None)
or_none None d e = (refl, e)
or_none (Some c) d e = cc

or_is : (c d : Option Difference) → c ≡ None → d ≡ None → or_else c d ≡ None
or_is c d e h = ap (λ x. or_else x d) e ∙ h

-- what a composite that is no different shows
record Alike (f g : Outline) (equal : Bool) (d : Option Difference) : Type 0 where
  outline : f ≡ g
  sealed_or : ((f.sealed ≡ true) × (equal ≡ true)) ⊎ ((f.sealed ≡ false) × (d ≡ None))

alike : (f g : Outline) (equal : Bool) (d : Option Difference) → outlined f g equal d ≡ None → Alike f g equal d
alike f g equal d e =
    let one = unless_none (same_bool f.sealed g.sealed) Sealing (unless (f.extent == g.extent) Extent (cond f.sealed (unless equal Sealed None) d)) e in
    let two = unless_none (f.extent == g.extent) Extent (cond f.sealed (unless equal Sealed None) d) one.1 in
    record {
      outline = outline_eq f g (eqb-true f.extent g.extent two.0) (same_bool_is f.sealed g.sealed one.0);
      sealed_or = elim (cases_Bool f.sealed) [
        | inl y ↦ inl (y, (unless_none equal Sealed None (sym (cond-true f.sealed (unless equal Sealed None) d y) ∙ two.1)).0)
        | inr n ↦ inr (n, sym (cond-false f.sealed (unless equal Sealed None) d n) ∙ two.1)
      ];
    }

outlined_same : (f : Outline) (equal : Bool) (d : Option Difference) → cond f.sealed (unless equal Sealed None) d ≡ None → outlined f f equal d ≡ None
outlined_same f equal d h =
    unless_is (same_bool f.sealed f.sealed) Sealing (unless (f.extent == f.extent) Extent (cond f.sealed (unless equal Sealed None) d)) (same_bool_self f.sealed)
    ∙ unless_is (f.extent == f.extent) Extent (cond f.sealed (unless equal Sealed None) d) (same_self f.extent)
    ∙ h

sealed_same : (f : Outline) (equal : Bool) (d : Option Difference) → f.sealed ≡ true → equal ≡ true → outlined f f equal d ≡ None
sealed_same f equal d s e = outlined_same f equal d (cond-true f.sealed (unless equal Sealed None) d s ∙ unless_is equal Sealed None e)

open_same : (f : Outline) (equal : Bool) (d : Option Difference) → f.sealed ≡ false → d ≡ None → outlined f f equal d ≡ None
open_same f equal d s e = outlined_same f equal d (cond-false f.sealed (unless equal Sealed None) d s ∙ e)

fields_at_least : (fs gs : Flds) → NewerFields fs gs → field_count gs ≤ field_count fs
fields_at_least _ _ added = omega arith
fields_at_least _ _ (newer_pad {fs = fs} {gs = gs} k) = omega (arith, fields_at_least fs gs k)
fields_at_least _ _ (newer_field {fs = fs} {gs = gs} j k) = omega (arith, fields_at_least fs gs k)

not_fewer : (b : Bool) (d : Option Difference) → cond b (here Count) d ≡ None → (b ≡ false) × (d ≡ None)
not_fewer true d e = cc
not_fewer false d e = (refl, e)

mutual
  newer_from : (a b : Sch) → difference a b ≡ None → Newer a b
  newer_from (Simple t) (Simple u) e = subst (λ x. Newer (Simple t) (Simple x)) (prim_is t u (unless_none (same_prim t u) Kind None e).0) newer_simple
  newer_from (Fixed a n) (Fixed b m) e =
      let p = unless_none (n == m) Kind (below Item (difference a b)) e in
      subst (λ x. Newer (Fixed a n) (Fixed b x)) (eqb-true n m p.0) (newer_fixed (newer_from a b (below_none Item (difference a b) p.1)))
  newer_from (Var a n) (Var b m) e =
      let p = unless_none (n == m) Kind (below Item (difference a b)) e in
      subst (λ x. Newer (Var a n) (Var b x)) (eqb-true n m p.0) (newer_var (newer_from a b (below_none Item (difference a b) p.1)))
  newer_from (Struct fs f) (Struct gs g) e =
      let d = cond (nat_lt (field_count fs) (field_count gs)) (here Count) (difference_fields fs gs) in
      let z = alike f g (same_fields fs gs) d e in
      subst (λ x. Newer (Struct fs f) (Struct gs x)) z.outline
      (elim z.sealed_or [
        | inl y ↦ sealed_struct y.0 (same_bare_fields fs gs y.1)
        | inr n ↦
            let p = not_fewer (nat_lt (field_count fs) (field_count gs)) (difference_fields fs gs) n.1 in
            newer_struct n.0 (newer_fields_from fs gs p.1 (ltb-false (field_count fs) (field_count gs) p.0))
      ])
  newer_from (Union fs f) (Union gs g) e =
      let d = unless (field_count fs == field_count gs) Count (difference_fields fs gs) in
      let z = alike f g (same_fields fs gs) d e in
      subst (λ x. Newer (Union fs f) (Union gs x)) z.outline
      (elim z.sealed_or [
        | inl y ↦ sealed_union y.0 (same_bare_fields fs gs y.1)
        | inr n ↦
            let p = unless_none (field_count fs == field_count gs) Count (difference_fields fs gs) n.1 in
            let c : field_count fs ≡ field_count gs = eqb-true (field_count fs) (field_count gs) p.0 in
            newer_union n.0 c (newer_fields_from fs gs p.1 (omega arith))
      ])
  newer_from a b e = cc

  newer_fields_from : (fs gs : Flds) → difference_fields fs gs ≡ None → field_count gs ≤ field_count fs → NewerFields fs gs
  newer_fields_from fs End e h = added
  newer_fields_from (Pad n fs) (Pad m gs) e h =
      let p = or_none (below (Named []) (unless (n == m) Kind None)) (difference_fields fs gs) e in
      let q = unless_none (n == m) Kind None (below_none (Named []) (unless (n == m) Kind None) p.0) in
      subst (λ x. NewerFields (Pad n fs) (Pad x gs)) (eqb-true n m q.0) (newer_pad (newer_fields_from fs gs p.1 (omega arith)))
  newer_fields_from (Field name a fs) (Field name' b gs) e h =
      let p = or_none (below (Named name) (difference a b)) (difference_fields fs gs) e in
      newer_field (newer_from a b (below_none (Named name) (difference a b) p.0)) (newer_fields_from fs gs p.1 (omega arith))
  newer_fields_from End (Pad m gs) e h = absurd (omega arith)
  newer_fields_from End (Field name b gs) e h = absurd (omega arith)
  newer_fields_from fs gs e h = cc

mutual
  newer_same : (a b : Sch) → Newer a b → difference a b ≡ None
  newer_same _ _ (newer_simple {t = t}) = unless_is (same_prim t t) Kind None (prim_self t)
  newer_same _ _ (newer_fixed {a = a} {b = b} {n = n} k) = unless_is (n == n) Kind (below Item (difference a b)) (same_self n) ∙ ap (below Item) (newer_same a b k)
  newer_same _ _ (newer_var {a = a} {b = b} {n = n} k) = unless_is (n == n) Kind (below Item (difference a b)) (same_self n) ∙ ap (below Item) (newer_same a b k)
  newer_same _ _ (sealed_struct {fs = fs} {gs = gs} {o = f} s e) = sealed_same f (same_fields fs gs) (cond (nat_lt (field_count fs) (field_count gs)) (here Count) (difference_fields fs gs)) s (bare_same_fields fs gs e)
  newer_same _ _ (sealed_union {fs = fs} {gs = gs} {o = f} s e) = sealed_same f (same_fields fs gs) (unless (field_count fs == field_count gs) Count (difference_fields fs gs)) s (bare_same_fields fs gs e)
  newer_same _ _ (newer_struct {fs = fs} {gs = gs} {o = f} s k) =
      open_same f (same_fields fs gs) (cond (nat_lt (field_count fs) (field_count gs)) (here Count) (difference_fields fs gs)) s
      (cond-false (nat_lt (field_count fs) (field_count gs)) (here Count) (difference_fields fs gs) (le-ltb (field_count fs) (field_count gs) (fields_at_least fs gs k)) ∙ newer_fields_same fs gs k)
  newer_same _ _ (newer_union {fs = fs} {gs = gs} {o = f} s e k) =
      open_same f (same_fields fs gs) (unless (field_count fs == field_count gs) Count (difference_fields fs gs)) s
      (unless_is (field_count fs == field_count gs) Count (difference_fields fs gs) (eq-eqb (field_count fs) (field_count gs) e) ∙ newer_fields_same fs gs k)

  newer_fields_same : (fs gs : Flds) → NewerFields fs gs → difference_fields fs gs ≡ None
  newer_fields_same _ _ (added {fs = fs}) = none_added fs
    where
      none_added : (fs : Flds) → difference_fields fs End ≡ None
      none_added End = refl
      none_added (Pad n fs) = refl
      none_added (Field name s fs) = refl
  newer_fields_same _ _ (newer_pad {fs = fs} {gs = gs} {n = n} k) =
      or_is (below (Named []) (unless (n == n) Kind None)) (difference_fields fs gs) (ap (below (Named [])) (unless_is (n == n) Kind None (same_self n))) (newer_fields_same fs gs k)
  newer_fields_same _ _ (newer_field {name = name} {a = a} {b = b} {fs = fs} {gs = gs} j k) =
      or_is (below (Named name) (difference a b)) (difference_fields fs gs) (ap (below (Named name)) (newer_same a b j)) (newer_fields_same fs gs k)

pub compares : (a b : Sch) → Compares a b
compares a b = (newer_from a b, newer_same a b)
