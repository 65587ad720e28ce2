-- Two schemas are one exactly where they are equal, names aside, and the names of their fields are the same.
use Rattle.std.proofs.Common.{◌≡◌, ◌∙◌, ◌↔◌, ◌&&◌, suc, Bool, true, false, [], None, refl, sym, ap, subst, inl, inr}
use Rattle.std.proofs.lemmas.Bool.{and_from, and_parts, cases_Bool, false≢true}
use Rattle.std.proofs.lemmas.Slice.Eq.{bytes_eq-Decides}
use Rattle.std.specs.Str.{bytes_eq}
use Rattle.dsdl_types.specs.Schemas.{Sch, Flds, Outline, Simple, Fixed, Var, Struct, Union, End, Pad, Field, field_count}
use Rattle.dsdl_types.specs.Difference.{same, difference, unless, Sealed}
use Rattle.dsdl_types.specs.Newer.{bare, bare_fields, Newer, NewerFields, newer_simple, newer_fixed, newer_var, sealed_struct, sealed_union, newer_struct, newer_union, added, newer_pad, newer_field}
use Rattle.dsdl_types.proofs.Comparing.{compares}
use Rattle.type_changes.specs.Names.{same_names, same_field_names, equal}

-- ---- equal, names aside, are those whose schemas without names are one
-- what a sealed structure tells of a newer one
abbrev SealedSame : Sch → Sch → Type 0
SealedSame (Struct fs o) (Struct gs p) = o.sealed ≡ true → bare_fields fs ≡ bare_fields gs
SealedSame _ _ = Unit {0}

of_sealed : (a b : Sch) → Newer a b → SealedSame a b
of_sealed _ _ newer_simple = tt
of_sealed _ _ (newer_fixed k) = tt
of_sealed _ _ (newer_var k) = tt
of_sealed _ _ (sealed_struct s e) = λ _. e
of_sealed _ _ (sealed_union s e) = tt
of_sealed _ _ (newer_struct s k) = λ t. absurd (false≢true (sym s ∙ t))
of_sealed _ _ (newer_union s e k) = tt

-- a sealed structure of one field
abbrev wrapped : Sch → Sch
wrapped a = Struct (Field [] a End) (record { extent = 0; sealed = true })

-- between two of these there is no difference exactly where the fields are equal
tells : (b : Bool) → unless (b && true) Sealed None ≡ None → b ≡ true
tells true e = refl
tells false e = absurd cc

pub same_bare : (a b : Sch) → same a b ≡ true → bare a ≡ bare b
same_bare a b e =
    let none : difference (wrapped a) (wrapped b) ≡ None = ap (λ x. unless (x && true) Sealed None) e in
    let fields : Field [] (bare a) End ≡ Field [] (bare b) End = of_sealed (wrapped a) (wrapped b) ((compares (wrapped a) (wrapped b)).0 none) refl in
    cc

pub bare_same : (a b : Sch) → bare a ≡ bare b → same a b ≡ true
bare_same a b e =
    let newer : Newer (wrapped a) (wrapped b) = sealed_struct refl (ap (λ x. Field [] x End) e) in
    tells (same a b) ((compares (wrapped a) (wrapped b)).1 newer)

-- ---- the names
mutual
  one_by_names : (a b : Sch) → bare a ≡ bare b → same_names a b ≡ true → a ≡ b
  one_by_names (Simple t) (Simple u) e h = e
  one_by_names (Fixed a n) (Fixed b m) e h = let k : bare a ≡ bare b = cc in let l : n ≡ m = cc in λ i. Fixed (one_by_names a b k h i) (l i)
  one_by_names (Var a n) (Var b m) e h = let k : bare a ≡ bare b = cc in let l : n ≡ m = cc in λ i. Var (one_by_names a b k h i) (l i)
  one_by_names (Struct fs o) (Struct gs p) e h = let k : bare_fields fs ≡ bare_fields gs = cc in let l : o ≡ p = cc in λ i. Struct (one_by_fields fs gs k h i) (l i)
  one_by_names (Union fs o) (Union gs p) e h = let k : bare_fields fs ≡ bare_fields gs = cc in let l : o ≡ p = cc in λ i. Union (one_by_fields fs gs k h i) (l i)
  one_by_names a b e h = absurd cc

  one_by_fields : (fs gs : Flds) → bare_fields fs ≡ bare_fields gs → same_field_names fs gs ≡ true → fs ≡ gs
  one_by_fields End End e h = refl
  one_by_fields (Pad n fs) (Pad m gs) e h = let k : bare_fields fs ≡ bare_fields gs = cc in let l : n ≡ m = cc in λ i. Pad (l i) (one_by_fields fs gs k h i)
  one_by_fields (Field name a fs) (Field name' b gs) e h =
      let k : bare_fields fs ≡ bare_fields gs = cc in
      let l : bare a ≡ bare b = cc in
      let p = and_parts (bytes_eq name name' && same_names a b) (same_field_names fs gs) h in
      let q = and_parts (bytes_eq name name') (same_names a b) p.0 in
      λ i. Field ((bytes_eq-Decides name name').0 q.0 i) (one_by_names a b l q.1 i) (one_by_fields fs gs k p.1 i)
  one_by_fields fs gs e h = absurd cc

mutual
  own_names : (a : Sch) → same_names a a ≡ true
  own_names (Simple t) = refl
  own_names (Fixed a n) = own_names a
  own_names (Var a n) = own_names a
  own_names (Struct fs o) = own_field_names fs
  own_names (Union fs o) = own_field_names fs

  own_field_names : (fs : Flds) → same_field_names fs fs ≡ true
  own_field_names End = refl
  own_field_names (Pad n fs) = own_field_names fs
  own_field_names (Field name a fs) =
      and_from (bytes_eq name name && same_names a a) (same_field_names fs fs)
      (and_from (bytes_eq name name) (same_names a a) ((bytes_eq-Decides name name).1 refl) (own_names a)) (own_field_names fs)

pub equal_is : (a b : Sch) → (equal a b ≡ true) ↔ (a ≡ b)
equal_is a b = (
  λ e. (let p = and_parts (same a b) (same_names a b) e in one_by_names a b (same_bare a b p.0) p.1),
  λ e. and_from (same a b) (same_names a b) (bare_same a b (ap bare e)) (subst (λ x. same_names a x ≡ true) e (own_names a)),
)

-- ---- what is equal, names aside, is newer
count_bare : (fs : Flds) → field_count (bare_fields fs) ≡ field_count fs
count_bare End = refl
count_bare (Pad n fs) = ap suc (count_bare fs)
count_bare (Field name a fs) = ap suc (count_bare fs)

same_count : (fs gs : Flds) → bare_fields fs ≡ bare_fields gs → field_count fs ≡ field_count gs
same_count fs gs e = sym (count_bare fs) ∙ ap field_count e ∙ count_bare gs

struct_newer : (fs gs : Flds) (o : Outline) → bare_fields fs ≡ bare_fields gs → NewerFields fs gs → Newer (Struct fs o) (Struct gs o)
struct_newer fs gs o e k = elim (cases_Bool o.sealed) [ inl s ↦ sealed_struct s e | inr s ↦ newer_struct s k ]

union_newer : (fs gs : Flds) (o : Outline) → bare_fields fs ≡ bare_fields gs → NewerFields fs gs → Newer (Union fs o) (Union gs o)
union_newer fs gs o e k = elim (cases_Bool o.sealed) [ inl s ↦ sealed_union s e | inr s ↦ newer_union s (same_count fs gs e) k ]

mutual
  pub bare_newer : (a b : Sch) → bare a ≡ bare b → Newer a b
  bare_newer (Simple t) (Simple u) e = let l : t ≡ u = cc in subst (λ x. Newer (Simple t) (Simple x)) l newer_simple
  bare_newer (Fixed a n) (Fixed b m) e = let k : bare a ≡ bare b = cc in let l : n ≡ m = cc in subst (λ x. Newer (Fixed a n) (Fixed b x)) l (newer_fixed (bare_newer a b k))
  bare_newer (Var a n) (Var b m) e = let k : bare a ≡ bare b = cc in let l : n ≡ m = cc in subst (λ x. Newer (Var a n) (Var b x)) l (newer_var (bare_newer a b k))
  bare_newer (Struct fs o) (Struct gs p) e =
      let k : bare_fields fs ≡ bare_fields gs = cc in let l : o ≡ p = cc in
      subst (λ x. Newer (Struct fs o) (Struct gs x)) l (struct_newer fs gs o k (bare_newer_fields fs gs k))
  bare_newer (Union fs o) (Union gs p) e =
      let k : bare_fields fs ≡ bare_fields gs = cc in let l : o ≡ p = cc in
      subst (λ x. Newer (Union fs o) (Union gs x)) l (union_newer fs gs o k (bare_newer_fields fs gs k))
  bare_newer a b e = absurd cc

  bare_newer_fields : (fs gs : Flds) → bare_fields fs ≡ bare_fields gs → NewerFields fs gs
  bare_newer_fields End End e = added
  bare_newer_fields (Pad n fs) (Pad m gs) e =
      let k : bare_fields fs ≡ bare_fields gs = cc in let l : n ≡ m = cc in
      subst (λ x. NewerFields (Pad n fs) (Pad x gs)) l (newer_pad (bare_newer_fields fs gs k))
  bare_newer_fields (Field name a fs) (Field name' b gs) e =
      let k : bare_fields fs ≡ bare_fields gs = cc in let l : bare a ≡ bare b = cc in
      newer_field (bare_newer a b l) (bare_newer_fields fs gs k)
  bare_newer_fields fs gs e = absurd cc
