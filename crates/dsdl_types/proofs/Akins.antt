-- Types of which one reads the other's bits
use Rattle.std.proofs.Common.{◌≡◌, ℕ, suc, Bool, true, false, not, List, refl, sym, ap, subst, arith}
use Rattle.dsdl_types.specs.Schemas.{Prim, Sch, Flds, Outline, Simple, Fixed, Var, Struct, Union, End, Pad, Field, is_aligned, is_delimited, variants, field_count}
use Rattle.dsdl_types.specs.Newer.{bare, bare_fields, Newer, NewerFields, newer_simple, newer_fixed, newer_var, sealed_struct, sealed_union, newer_struct, newer_union, added, newer_pad, newer_field}

mutual
  pub data Akin : Sch → Sch → Type 0 where
    akin_simple : {t : Prim} → Akin (Simple t) (Simple t)
    akin_fixed : {a b : Sch} {n : ℕ} → Akin a b → Akin (Fixed a n) (Fixed b n)
    akin_var : {a b : Sch} {n : ℕ} → Akin a b → Akin (Var a n) (Var b n)
    akin_struct : {fs gs : Flds} {f : Outline} → AkinFields (not f.sealed) fs gs → Akin (Struct fs f) (Struct gs f)
    akin_union : {fs gs : Flds} {f : Outline} → AkinFields false fs gs → Akin (Union fs f) (Union gs f)

  -- if it is true, either may have more fields than the other
  pub data AkinFields : Bool → Flds → Flds → Type 0 where
    akin_end : {l : Bool} → AkinFields l End End
    akin_pad : {l : Bool} {fs gs : Flds} {n : ℕ} → AkinFields l fs gs → AkinFields l (Pad n fs) (Pad n gs)
    akin_field : {l : Bool} {name name' : List ℕ} {a b : Sch} {fs gs : Flds} → Akin a b → AkinFields l fs gs → AkinFields l (Field name a fs) (Field name' b gs)
    fewer : {fs : Flds} → AkinFields true fs End
    more : {gs : Flds} → AkinFields true End gs

pub akin_aligned : (a b : Sch) → Akin a b → is_aligned a ≡ is_aligned b
akin_aligned _ _ akin_simple = refl
akin_aligned _ _ (akin_fixed {a = a} {b = b} h) = akin_aligned a b h
akin_aligned _ _ (akin_var {a = a} {b = b} h) = akin_aligned a b h
akin_aligned _ _ (akin_struct h) = refl
akin_aligned _ _ (akin_union h) = refl

pub akin_delimited : (a b : Sch) → Akin a b → is_delimited a ≡ is_delimited b
akin_delimited _ _ akin_simple = refl
akin_delimited _ _ (akin_fixed h) = refl
akin_delimited _ _ (akin_var h) = refl
akin_delimited _ _ (akin_struct h) = refl
akin_delimited _ _ (akin_union h) = refl

pub akin_variants : (fs gs : Flds) → AkinFields false fs gs → variants fs ≡ variants gs
akin_variants _ _ akin_end = refl
akin_variants _ _ (akin_pad {fs = fs} {gs = gs} h) = akin_variants fs gs h
akin_variants _ _ (akin_field {fs = fs} {gs = gs} k h) = ap suc (akin_variants fs gs h)

eq_simple : (t u : Prim) → Simple t ≡ Simple u → Akin (Simple t) (Simple u)
eq_simple t u e = let h : t ≡ u = cc in subst (λ x. Akin (Simple t) (Simple x)) h akin_simple

eq_fixed : (a b : Sch) (n m : ℕ) → Akin a b → n ≡ m → Akin (Fixed a n) (Fixed b m)
eq_fixed a b n m k e = subst (λ x. Akin (Fixed a n) (Fixed b x)) e (akin_fixed k)

eq_var : (a b : Sch) (n m : ℕ) → Akin a b → n ≡ m → Akin (Var a n) (Var b m)
eq_var a b n m k e = subst (λ x. Akin (Var a n) (Var b x)) e (akin_var k)

eq_struct : (fs gs : Flds) (f g : Outline) → AkinFields (not f.sealed) fs gs → f ≡ g → Akin (Struct fs f) (Struct gs g)
eq_struct fs gs f g k e = subst (λ x. Akin (Struct fs f) (Struct gs x)) e (akin_struct k)

eq_union : (fs gs : Flds) (f g : Outline) → AkinFields false fs gs → f ≡ g → Akin (Union fs f) (Union gs g)
eq_union fs gs f g k e = subst (λ x. Akin (Union fs f) (Union gs x)) e (akin_union k)

eq_pad : (l : Bool) (fs gs : Flds) (n m : ℕ) → AkinFields l fs gs → n ≡ m → AkinFields l (Pad n fs) (Pad m gs)
eq_pad l fs gs n m k e = subst (λ x. AkinFields l (Pad n fs) (Pad x gs)) e (akin_pad k)

-- types that differ in names alone
mutual
  pub same_akin : (a b : Sch) → bare a ≡ bare b → Akin a b
  same_akin (Simple t) (Simple u) e = eq_simple t u e
  same_akin (Fixed a n) (Fixed b m) e = eq_fixed a b n m (same_akin a b (let h : bare a ≡ bare b = cc in h)) (let h : n ≡ m = cc in h)
  same_akin (Var a n) (Var b m) e = eq_var a b n m (same_akin a b (let h : bare a ≡ bare b = cc in h)) (let h : n ≡ m = cc in h)
  same_akin (Struct fs f) (Struct gs g) e = eq_struct fs gs f g (same_fields (not f.sealed) fs gs (let h : bare_fields fs ≡ bare_fields gs = cc in h)) (let h : f ≡ g = cc in h)
  same_akin (Union fs f) (Union gs g) e = eq_union fs gs f g (same_fields false fs gs (let h : bare_fields fs ≡ bare_fields gs = cc in h)) (let h : f ≡ g = cc in h)
  same_akin a b e = cc

  pub same_fields : (l : Bool) (fs gs : Flds) → bare_fields fs ≡ bare_fields gs → AkinFields l fs gs
  same_fields l End End e = akin_end
  same_fields l (Pad n fs) (Pad m gs) e = eq_pad l fs gs n m (same_fields l fs gs (let h : bare_fields fs ≡ bare_fields gs = cc in h)) (let h : n ≡ m = cc in h)
  same_fields l (Field name a fs) (Field name' b gs) e = akin_field (same_akin a b (let h : bare a ≡ bare b = cc in h)) (same_fields l fs gs (let h : bare_fields fs ≡ bare_fields gs = cc in h))
  same_fields l fs gs e = cc

no_fields : (fs : Flds) → field_count fs ≡ 0 → fs ≡ End
no_fields End e = refl
no_fields (Pad n fs) e = absurd (omega arith)
no_fields (Field name s fs) e = absurd (omega arith)

-- a newer type reads an older one's bits, and the other way round
mutual
  pub newer_akin : (a b : Sch) → Newer a b → Akin a b × Akin b a
  newer_akin _ _ newer_simple = (akin_simple, akin_simple)
  newer_akin _ _ (newer_fixed {a = a} {b = b} k) = let h = newer_akin a b k in (akin_fixed h.0, akin_fixed h.1)
  newer_akin _ _ (newer_var {a = a} {b = b} k) = let h = newer_akin a b k in (akin_var h.0, akin_var h.1)
  newer_akin _ _ (sealed_struct {fs = fs} {gs = gs} {o = f} s e) = (akin_struct (same_fields (not f.sealed) fs gs e), akin_struct (same_fields (not f.sealed) gs fs (sym e)))
  newer_akin _ _ (sealed_union {fs = fs} {gs = gs} s e) = (akin_union (same_fields false fs gs e), akin_union (same_fields false gs fs (sym e)))
  newer_akin _ _ (newer_struct {fs = fs} {gs = gs} {o = f} s k) =
      let h = newer_akin_fields fs gs k in
      let open_ : true ≡ not f.sealed = ap not (sym s) in
      (akin_struct (subst (λ l. AkinFields l fs gs) open_ h.0), akin_struct (subst (λ l. AkinFields l gs fs) open_ h.1))
  newer_akin _ _ (newer_union {fs = fs} {gs = gs} s e k) = let h = newer_akin_variants fs gs k e in (akin_union h.0, akin_union h.1)

  pub newer_akin_fields : (fs gs : Flds) → NewerFields fs gs → AkinFields true fs gs × AkinFields true gs fs
  newer_akin_fields _ _ added = (fewer, more)
  newer_akin_fields _ _ (newer_pad {fs = fs} {gs = gs} k) = let h = newer_akin_fields fs gs k in (akin_pad h.0, akin_pad h.1)
  newer_akin_fields _ _ (newer_field {a = a} {b = b} {fs = fs} {gs = gs} j k) =
      let h = newer_akin_fields fs gs k in
      let i = newer_akin a b j in
      (akin_field i.0 h.0, akin_field i.1 h.1)

  pub newer_akin_variants : (fs gs : Flds) → NewerFields fs gs → field_count fs ≡ field_count gs → AkinFields false fs gs × AkinFields false gs fs
  newer_akin_variants _ _ (added {fs = fs}) e = subst (λ x. AkinFields false x End × AkinFields false End x) (sym (no_fields fs e)) (akin_end, akin_end)
  newer_akin_variants _ _ (newer_pad {fs = fs} {gs = gs} k) e = let h = newer_akin_variants fs gs k (omega arith) in (akin_pad h.0, akin_pad h.1)
  newer_akin_variants _ _ (newer_field {a = a} {b = b} {fs = fs} {gs = gs} j k) e =
      let h = newer_akin_variants fs gs k (omega arith) in
      let i = newer_akin a b j in
      (akin_field i.0 h.0, akin_field i.1 h.1)
