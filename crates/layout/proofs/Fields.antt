-- The way through the fields of a structure
use Rattle.std.proofs.Common.{◌≡◌, ◌↔◌, ℕ, suc, ◌+◌, ◌^◌, ◌<◌, ◌≤◌, Bool, false, List, [], ◌∷◌, ◌++◌, length, refl, sym, ap, ◌∙◌, subst, arith, append_assoc, length-append, drop, get_or}
use Rattle.bit_length.specs.Lengths.{Numbers, Has, Same, Only, Sums, Pads}
use Rattle.dsdl_types.specs.Schemas.{Sch, Flds, Outline, Struct, End, Pad, Field, is_aligned, is_delimited, extent_of}
use Rattle.dsdl_types.specs.Greatest.{from_lead, longest, as_part}
use Rattle.dsdl_types.specs.Lengths.{EndsAt, StandsAt, Size}
use Rattle.dsdl_types.specs.Rules.{IsFormed}
use Rattle.dsdl_types.proofs.Cuts.{lead_mono}
use Rattle.layout.specs.declared.row.Row.{Row}
use Rattle.layout.specs.Layouts.{typed_fields, IsRow, AreRows, IsLayout, cast_of}
use Rattle.layout.specs.Sets.{Leads, IsShort}
use Rattle.layout.proofs.Walks.{Walks, Passes}
use Rattle.layout.proofs.Passing as passing
use Rattle.layout.proofs.Passing.{fields_from}
use Rattle.layout.proofs.Sets.{size_most, same_trans}
use Rattle.layout.proofs.Types.{flds_next, flds_end, field_typed}
use Rattle.dsdl_types.specs.Views.{Padding, kind_of, type_of, is_padding, with_field, named, flds}
use Rattle.dsdl_types.specs.declared.schema.Field as C
use Rattle.dsdl_types.specs.declared.schema.Field.{out-Field}

-- one more field and its row
pub rows_push : (s : Sch) (k : ℕ) (fields : List (List ℕ × Sch)) (rows : List Row) (f : List ℕ × Sch) (row : Row) → AreRows s k fields rows → IsRow s (k + length rows) f row →
    AreRows s k (fields ++ f ∷ []) (rows ++ row ∷ [])
rows_push s k [] [] f row all one = (let e : k + 0 ≡ k = omega arith in subst (λ j. IsRow s j f row) e one, tt)
rows_push s k [] (r ∷ rows) f row all one = absurd all
rows_push s k (g ∷ fields) [] f row all one = absurd all
rows_push s k (g ∷ fields) (r ∷ rows) f row all one = (
  all.0,
  rows_push s (suc k) fields rows f row all.1
      (let e : k + suc (length rows) ≡ suc k + length rows = omega arith in subst (λ j. IsRow s j f row) e one),
)

-- the places behind padding
pad_moves : (k : ℕ) (ends padding new : Numbers) → Same padding (Only k) → Same new (Sums ends padding) → (P : ℕ → Type 0) →
    ((p : ℕ) × ends p × P (p + k)) ↔ ((q : ℕ) × new q × P q)
pad_moves k ends padding new pad sum P = (
  λ (p, x, h). (p + k, (sum (p + k)).1 (p, k, x, (pad k).1 refl, refl), h),
  λ (q, y, h).
      let (a, b, x, z, e) = (sum q).0 y in
      let b_is : b ≡ k = (pad b).0 z in
      (a, x, subst P (e ∙ ap (λ c. a + c) b_is) h),
)

-- the places behind a field
field_moves : (d : Bool) (ends begins sizes lengths new : Numbers) → Same begins (Leads d ends) → Same lengths sizes → Same new (Sums begins lengths) → (P : ℕ → Type 0) →
    ((p : ℕ) × ends p × ((m : ℕ) × sizes m × P (from_lead d p + m))) ↔ ((q : ℕ) × new q × P q)
field_moves d ends begins sizes lengths new lead len sum P = (
  λ (p, x, (m, y, h)).
      (from_lead d p + m, (sum (from_lead d p + m)).1 (from_lead d p, m, (lead (from_lead d p)).1 (p, x, refl), (len m).1 y, refl), h),
  λ (q, y, h).
      let (a, m, x, z, e) = (sum q).0 y in
      let (p, w, a_is) = (lead a).0 x in
      (p, w, (m, (len m).0 z, subst P (e ∙ ap (λ c. c + m) a_is) h)),
)

both : {A B C : Type 0} → A ↔ B → B ↔ C → A ↔ C
both f g = (λ a. g.0 (f.0 a), λ c. f.1 (g.1 c))

pub walks_start : (fs : Flds) (o : Outline) (rest : Flds) (rows : List Row) (ends : List ℕ) → IsFormed (Struct fs o) → longest (Struct fs o) ≤ 2 ^ 32 → Same (Has ends) (Only 0) →
    fs ≡ rest → rows ≡ [] → Walks fs o rest rows ends
walks_start fs o rest rows ends formed short start e none =
    subst (λ r. Walks fs o rest r ends) (sym none) (subst (λ z. Walks fs o z [] ends) e from_all)
  where
    from_start : (P : ℕ → Type 0) → P 0 ↔ ((p : ℕ) × Has ends p × P p)
    from_start P = (λ h. (0, (start 0).1 refl, h), λ (p, x, h). subst P ((start p).0 x) h)

    from_all : Walks fs o fs [] ends
    from_all = record {
      done = [];
      split = refl;
      each = tt;
      stands = λ k n.
          let z : k ≡ 0 + k = omega arith in
          subst (λ j. StandsAt fs j 0 n ↔ ((p : ℕ) × Has ends p × StandsAt fs k p n)) z (from_start (λ p. StandsAt fs k p n));
      arrives = λ n. from_start (λ p. EndsAt fs p n);
      farthest = 0;
      within = λ p x. let z : p ≡ 0 = (start p).0 x in omega (arith, z);
      short = omega (arith, short);
      formed = formed.1;
    }

pad_within : (fs : Flds) (o : Outline) (k : ℕ) (rest : Flds) (rows : List Row) (ends padding : List ℕ) {new : Numbers} → (w : Walks fs o (Pad k rest) rows ends) →
    Same (Has padding) (Only k) → Same new (Sums (Has ends) (Has padding)) → (q : ℕ) → new q → q ≤ w.farthest + k
pad_within fs o k rest rows ends padding w pad sum q y =
    let (a, b, x, z, e) = (sum q).0 y in
    omega (arith, w.within a x, (pad b).0 z, e)

pub walks_pad : (fs : Flds) (o : Outline) (k : ℕ) (rest : Flds) (rows : List Row) (ends padding new : List ℕ) → Walks fs o (Pad k rest) rows ends →
    Same (Has padding) (Only k) → Same (Has new) (Sums (Has ends) (Has padding)) → Walks fs o rest rows new
walks_pad fs o k rest rows ends padding new w pad sum = record {
  done = w.done;
  split = w.split;
  each = w.each;
  stands = λ j n. both (w.stands j n) (pad_moves k (Has ends) (Has padding) (Has new) pad sum (λ p. StandsAt rest j p n));
  arrives = λ n. both (w.arrives n) (pad_moves k (Has ends) (Has padding) (Has new) pad sum (λ p. EndsAt rest p n));
  farthest = w.farthest + k;
  within = pad_within fs o k rest rows ends padding w pad sum;
  short = w.short;
  formed = w.formed.2;
}

pub pad_few : (fs : Flds) (o : Outline) (k : ℕ) (rest : Flds) (rows : List Row) (ends : List ℕ) → Walks fs o (Pad k rest) rows ends → k ≤ 2 ^ 32
pad_few fs o k rest rows ends w = omega (arith, w.formed.1)

pub pad_short : (fs : Flds) (o : Outline) (k : ℕ) (rest : Flds) (rows : List Row) (ends padding : List ℕ) → Walks fs o (Pad k rest) rows ends →
    Same (Has padding) (Only k) → IsShort (Sums (Has ends) (Has padding))
pad_short fs o k rest rows ends padding w pad n h =
    let m = pad_within fs o k rest rows ends padding w pad (λ q. (λ x. x, λ x. x)) n h in
    omega (arith, m, fields_from rest (w.farthest + k), w.short)

-- where the next field begins
pub lead_short : (fs : Flds) (o : Outline) (name : List ℕ) (s : Sch) (rest : Flds) (rows : List Row) (ends : List ℕ) → Walks fs o (Field name s rest) rows ends → IsShort (Leads (is_aligned s) (Has ends))
lead_short fs o name s rest rows ends w n (p, x, e) =
    let m = as_part (is_delimited s) (extent_of s) (longest s) in
    let d = is_aligned s in
    omega (arith, e, lead_mono d p w.farthest (w.within p x), fields_from rest (from_lead d w.farthest + m), w.short)

pub field_formed : (fs : Flds) (o : Outline) (name : List ℕ) (s : Sch) (rest : Flds) (rows : List Row) (ends : List ℕ) → Walks fs o (Field name s rest) rows ends →
    IsFormed s × (as_part (is_delimited s) (extent_of s) (longest s) ≤ 2 ^ 32)
field_formed fs o name s rest rows ends w =
    let m = as_part (is_delimited s) (extent_of s) (longest s) in
    (w.formed.0, omega (arith, fields_from rest (from_lead (is_aligned s) w.farthest + m), w.short))

field_within : (fs : Flds) (o : Outline) (name : List ℕ) (s : Sch) (rest : Flds) (rows : List Row) (ends begins lengths : List ℕ) → (w : Walks fs o (Field name s rest) rows ends) →
    Same (Has begins) (Leads (is_aligned s) (Has ends)) → Same (Has lengths) (Size s) → (q : ℕ) → Sums (Has begins) (Has lengths) q →
    q ≤ from_lead (is_aligned s) w.farthest + as_part (is_delimited s) (extent_of s) (longest s)
field_within fs o name s rest rows ends begins lengths w lead len q (a, m, x, z, e) =
    let (p, y, a_is) = (lead a).0 x in
    omega (arith, e, a_is, lead_mono (is_aligned s) p w.farthest (w.within p y), size_most s m ((len m).0 z))

pub field_short : (fs : Flds) (o : Outline) (name : List ℕ) (s : Sch) (rest : Flds) (rows : List Row) (ends begins lengths : List ℕ) → Walks fs o (Field name s rest) rows ends →
    Same (Has begins) (Leads (is_aligned s) (Has ends)) → Same (Has lengths) (Size s) → IsShort (Sums (Has begins) (Has lengths))
field_short fs o name s rest rows ends begins lengths w lead len n h =
    let m = as_part (is_delimited s) (extent_of s) (longest s) in
    omega (arith, field_within fs o name s rest rows ends begins lengths w lead len n h, fields_from rest (from_lead (is_aligned s) w.farthest + m), w.short)

pub walks_field : (fs : Flds) (o : Outline) (name : List ℕ) (s : Sch) (rest : Flds) (rows : List Row) (ends : List ℕ) (row : Row) (new : List ℕ) → Walks fs o (Field name s rest) rows ends →
    row.name ≡ name → row.cast ≡ cast_of s → Same (Has row.offsets) (Leads (is_aligned s) (Has ends)) → Same (Has row.lengths) (Size s) →
    Same (Has new) (Sums (Has row.offsets) (Has row.lengths)) → Walks fs o rest (rows ++ row ∷ []) new
walks_field fs o name s rest rows ends row new w row_name casts lead len sum = record {
  done = w.done ++ (name, s) ∷ [];
  split = w.split ∙ sym (append_assoc w.done ((name, s) ∷ []) (typed_fields rest));
  each = rows_push (Struct fs o) 0 w.done rows (name, s) row w.each this;
  stands = λ k n.
      let e : length rows + suc k ≡ length (rows ++ row ∷ []) + k = omega (arith, length-append rows (row ∷ [])) in
      subst (λ j. StandsAt fs j 0 n ↔ ((q : ℕ) × Has new q × StandsAt rest k q n)) e (both (w.stands (suc k) n) (stand k n));
  arrives = λ n. both (w.arrives n) (arrive n);
  farthest = from_lead (is_aligned s) w.farthest + as_part (is_delimited s) (extent_of s) (longest s);
  within = λ q y. field_within fs o name s rest rows ends row.offsets row.lengths w lead len q ((sum q).0 y);
  short = w.short;
  formed = w.formed.1;
}
  where
    moves : (P : ℕ → Type 0) → ((p : ℕ) × Has ends p × ((m : ℕ) × Size s m × P (from_lead (is_aligned s) p + m))) ↔ ((q : ℕ) × Has new q × P q)
    moves = field_moves (is_aligned s) (Has ends) (Has row.offsets) (Size s) (Has row.lengths) (Has new) lead len sum

    stand : (k n : ℕ) → ((p : ℕ) × Has ends p × StandsAt (Field name s rest) (suc k) p n) ↔ ((q : ℕ) × Has new q × StandsAt rest k q n)
    stand k n = moves (λ q. StandsAt rest k q n)

    arrive : (n : ℕ) → ((p : ℕ) × Has ends p × EndsAt (Field name s rest) p n) ↔ ((q : ℕ) × Has new q × EndsAt rest q n)
    arrive n = moves (λ q. EndsAt rest q n)

    here : (n : ℕ) → Has row.offsets n ↔ StandsAt fs (length rows) 0 n
    here n =
        let e : length rows + 0 ≡ length rows = omega arith in
        subst (λ j. Has row.offsets n ↔ StandsAt fs j 0 n) e (both (lead n) ((w.stands 0 n).1, (w.stands 0 n).0))

    this : IsRow (Struct fs o) (0 + length rows) (name, s) row
    this =
        let e : length rows ≡ 0 + length rows = omega arith in
        subst (λ j. IsRow (Struct fs o) j (name, s) row) e (record { name = row_name; offsets = here; lengths = len; cast = casts })

-- the way with rows, without them
passes : {fs rest : Flds} {o : Outline} {rows : List Row} {ends : List ℕ} → Walks fs o rest rows ends → Passes fs rest ends
passes w = record {
  arrives = w.arrives;
  farthest = w.farthest;
  within = w.within;
  short = w.short;
  formed = w.formed;
}

pub end_short : (fs : Flds) (o : Outline) (rows : List Row) (ends : List ℕ) → Walks fs o End rows ends → IsShort (Pads (Has ends) 8)
end_short fs o rows ends w = passing.end_short fs ends (passes w)

pub append_none : (l : List (List ℕ × Sch)) → l ++ [] ≡ l
append_none [] = refl
append_none (x ∷ l) = ap (λ m. x ∷ m) (append_none l)

pub walks_layout : (fs : Flds) (o : Outline) (rows : List Row) (ends lengths : List ℕ) → Walks fs o End rows ends → Same (Has lengths) (Pads (Has ends) 8) → IsLayout (Struct fs o) rows lengths
walks_layout fs o rows ends lengths w pad = record {
  each = subst (λ d. AreRows (Struct fs o) 0 d rows) (sym (w.split ∙ append_none w.done)) w.each;
  whole = same_trans pad (passing.end_lengths fs o ends (passes w));
}

-- ---- the next field of the code

pub at_pad : (fs : Flds) (o : Outline) (rows : List Row) (ends : List ℕ) (items : List C.Field) (i : ℕ) (x : C.Field) (n : ℕ) → Walks fs o (flds (drop i items)) rows ends → i < length items →
    x ≡ get_or items i x → kind_of (out-Field x).schema ≡ Padding n → Walks fs o (Pad n (flds (drop (i + 1) items))) rows ends
at_pad fs o rows ends items i x n w h e k =
    let rest = flds (drop (i + 1) items) in
    subst (λ z. Walks fs o z rows ends) (flds_next items i x h e ∙ ap (λ y. with_field (named x).0 y rest) k) w

pub at_field : (fs : Flds) (o : Outline) (rows : List Row) (ends : List ℕ) (items : List C.Field) (i : ℕ) (x : C.Field) → Walks fs o (flds (drop i items)) rows ends → i < length items →
    x ≡ get_or items i x → is_padding (kind_of (out-Field x).schema) ≡ false →
    Walks fs o (Field (named x).0 (type_of (named x).1) (flds (drop (i + 1) items))) rows ends
at_field fs o rows ends items i x w h e k =
    let rest = flds (drop (i + 1) items) in
    subst (λ z. Walks fs o z rows ends) (flds_next items i x h e ∙ field_typed (named x).0 (named x).1 rest k) w

pub at_end : (fs : Flds) (o : Outline) (rows : List Row) (ends : List ℕ) (items : List C.Field) (i : ℕ) → Walks fs o (flds (drop i items)) rows ends → length items ≤ i → Walks fs o End rows ends
at_end fs o rows ends items i w h = subst (λ z. Walks fs o z rows ends) (flds_end items i h) w
