-- Where the fields of a structure end, with one field more after another.
use Rattle.std.proofs.Common.{◌≡◌, ℕ, ◌+◌, ◌<◌, ◌≤◌, ◌^◌, Bool, true, false, List, [], ◌∷◌, ◌++◌, length, take, drop, get_or, map, refl, sym, ap, ◌∙◌, subst, arith}
use Rattle.std.proofs.lemmas.List.{map-append, take-append-drop, take_more, take_all}
use Rattle.bit_length.specs.Lengths.{Has, Same}
use Rattle.bit_length.proofs.MemberLemmas.{below-has, has-below}
use Rattle.dsdl_types.specs.Greatest.{from_lead, longest_fields}
use Rattle.dsdl_types.specs.Lengths.{EndsAt}
use Rattle.dsdl_types.specs.Rules.{AreFormed}
use Rattle.dsdl_types.specs.Schemas.{Flds, End, Pad, Field, is_aligned}
use Rattle.dsdl_types.specs.Views.{Kind, Typed, Padding, with_field, in_order, named, flds}
use Rattle.dsdl_types.specs.declared.schema.Field.{Field as FieldOf}
use Rattle.dsdl_types.proofs.Cuts.{lead_mono}
use Rattle.dsdl_types.proofs.Greatest.{ends_most}
use Rattle.layout.specs.Ends.{alone, EndsBehind}
use Rattle.bit_length.specs.Ascending.{Ascend}
use Rattle.bit_length.proofs.AscendingLemmas.{one_below}
use Rattle.const_expr.proofs.MemberSizes.{ends_tell, told, tells}
use Rattle.const_expr.specs.Sizes.{ends_at}
use Rattle.dsdl_resolve.specs.Said.{offsets}
use Rattle.dsdl_resolve.proofs.Onto.{onto, flds_more, part_of}

-- ---- one field more
module _ (name : List ℕ) (k : Kind) where
  ends_front : (fs : Flds) (p n : ℕ) → EndsAt (onto fs name k) p n → (q : ℕ) × EndsAt fs p q × EndsAt (with_field name k End) q n
  ends_front End p n h = (p, refl, h)
  ends_front (Pad m fs) p n h = ends_front fs (p + m) n h
  ends_front (Field other s fs) p n (m, x, h) = let (q, front, last) = ends_front fs (from_lead (is_aligned s) p + m) n h in (q, (m, x, front), last)

  ends_back : (fs : Flds) (p q n : ℕ) → EndsAt fs p q → EndsAt (with_field name k End) q n → EndsAt (onto fs name k) p n
  ends_back End p q n e h = subst (λ v. EndsAt (with_field name k End) v n) e h
  ends_back (Pad m fs) p q n e h = ends_back fs (p + m) q n e h
  ends_back (Field other s fs) p q n (m, x, e) h = (m, x, ends_back fs (from_lead (is_aligned s) p + m) q n e h)

  longest_last : (fs : Flds) (p : ℕ) → longest_fields (onto fs name k) p ≡ longest_fields (with_field name k End) (longest_fields fs p)
  longest_last End p = refl
  longest_last (Pad m fs) p = longest_last fs (p + m)
  longest_last (Field other s fs) p = longest_last fs (from_lead (is_aligned s) p + part_of s)

  formed_last : (fs : Flds) → AreFormed (onto fs name k) → AreFormed (with_field name k End)
  formed_last End h = h
  formed_last (Pad m fs) h = formed_last fs h.2
  formed_last (Field other s fs) h = formed_last fs h.1

-- fields don't end before they begin, and later where they begin later
longest_mono : (fs : Flds) (p q : ℕ) → p ≤ q → longest_fields fs p ≤ longest_fields fs q
longest_mono End p q le = le
longest_mono (Pad m fs) p q le = longest_mono fs (p + m) (q + m) (omega arith)
longest_mono (Field other s fs) p q le = longest_mono fs (from_lead (is_aligned s) p + part_of s) (from_lead (is_aligned s) q + part_of s) (omega (arith, lead_mono (is_aligned s) p q le))

lead_more : (d : Bool) (p : ℕ) → p ≤ from_lead d p
lead_more false p = omega arith
lead_more true p = omega arith

longest_more : (fs : Flds) (p : ℕ) → p ≤ longest_fields fs p
longest_more End p = omega arith
longest_more (Pad m fs) p = omega (arith, longest_more fs (p + m))
longest_more (Field other s fs) p = omega (arith, longest_more fs (from_lead (is_aligned s) p + part_of s), lead_more (is_aligned s) p)

-- ---- the first of some fields
longest_first : (xs ys : List (List ℕ × Kind)) (name : List ℕ) (k : Kind) (p : ℕ) → ((q : ℕ) → longest_fields (in_order (xs ++ ys)) q ≡ longest_fields (in_order ys) (longest_fields (in_order xs) q)) →
    longest_fields (with_field name k (in_order (xs ++ ys))) p ≡ longest_fields (in_order ys) (longest_fields (with_field name k (in_order xs)) p)
longest_first xs ys name (Typed s) p next = next (from_lead (is_aligned s) p + part_of s)
longest_first xs ys name (Padding n) p next = next (p + n)

longest_split : (xs ys : List (List ℕ × Kind)) (p : ℕ) → longest_fields (in_order (xs ++ ys)) p ≡ longest_fields (in_order ys) (longest_fields (in_order xs) p)
longest_split [] ys p = refl
longest_split (x ∷ xs) ys p = longest_first xs ys x.0 x.1 p (λ q. longest_split xs ys q)

pub formed_split : (xs ys : List (List ℕ × Kind)) → AreFormed (in_order (xs ++ ys)) → AreFormed (in_order xs)
formed_split [] ys h = tt
formed_split (x ∷ xs) ys h = first x.0 x.1 (formed_split xs ys) h
  where
    first : (name : List ℕ) (k : Kind) → (AreFormed (in_order (xs ++ ys)) → AreFormed (in_order xs)) → AreFormed (with_field name k (in_order (xs ++ ys))) → AreFormed (with_field name k (in_order xs))
    first name (Typed s) next h = (h.0, next h.1)
    first name (Padding n) next h = (h.0, h.1, next h.2)

pub flds_append : (xs ys : List FieldOf) → flds (xs ++ ys) ≡ in_order (map named xs ++ map named ys)
flds_append xs ys = ap in_order (map-append named xs ys)

pub front_longest : (xs ys : List FieldOf) (p : ℕ) → longest_fields (flds xs) p ≤ longest_fields (flds (xs ++ ys)) p
front_longest xs ys p =
    let e : longest_fields (flds (xs ++ ys)) p ≡ longest_fields (flds ys) (longest_fields (flds xs) p) = ap (λ fs. longest_fields fs p) (flds_append xs ys) ∙ longest_split (map named xs) (map named ys) p in
    omega (arith, e, longest_more (flds ys) (longest_fields (flds xs) p))

pub front_formed : (xs ys : List FieldOf) → AreFormed (flds (xs ++ ys)) → AreFormed (flds xs)
front_formed xs ys h = formed_split (map named xs) (map named ys) (subst AreFormed (flds_append xs ys) h)

-- ---- the next field of a list
module _ (fields : List FieldOf) (i : ℕ) (f : FieldOf) (lt : i < length fields) (is : f ≡ get_or fields i f) where
  front_more : take (i + 1) fields ≡ take i fields ++ f ∷ []
  front_more = take_more fields i f lt ∙ ap (λ x. take i fields ++ x ∷ []) (sym is)

  more_flds : flds (take (i + 1) fields) ≡ onto (flds (take i fields)) (named f).0 (named f).1
  more_flds = ap flds front_more ∙ flds_more (take i fields) f

  whole_is : take (i + 1) fields ++ drop (i + 1) fields ≡ fields
  whole_is = take-append-drop (i + 1) fields

  next_formed : AreFormed (flds fields) → AreFormed (flds (take (i + 1) fields))
  next_formed h = front_formed (take (i + 1) fields) (drop (i + 1) fields) (subst (λ l. AreFormed (flds l)) (sym whole_is) h)

  pub alone_formed : AreFormed (flds fields) → AreFormed (alone (named f))
  alone_formed h = formed_last (named f).0 (named f).1 (flds (take i fields)) (subst AreFormed more_flds (next_formed h))

  next_longest : longest_fields (flds (take (i + 1) fields)) 0 ≤ longest_fields (flds fields) 0
  next_longest = subst (λ l. longest_fields (flds (take (i + 1) fields)) 0 ≤ longest_fields (flds l) 0) whole_is (front_longest (take (i + 1) fields) (drop (i + 1) fields) 0)

  last_longest : longest_fields (alone (named f)) (longest_fields (flds (take i fields)) 0) ≤ longest_fields (flds fields) 0
  last_longest =
      subst (λ n. n ≤ longest_fields (flds fields) 0)
      (ap (λ fs. longest_fields fs 0) more_flds ∙ longest_last (named f).0 (named f).1 (flds (take i fields)) 0) next_longest

  pub alone_small : longest_fields (flds fields) 0 ≤ 2 ^ 32 → longest_fields (alone (named f)) 0 ≤ 2 ^ 32
  alone_small h = omega (arith, h, last_longest, longest_mono (alone (named f)) 0 (longest_fields (flds (take i fields)) 0) (omega arith))

  pub alone_short : longest_fields (flds fields) 0 ≤ 2 ^ 32 → (ends : List ℕ) → Same (Has ends) (EndsAt (flds (take i fields)) 0) → (p : ℕ) → Has ends p → longest_fields (alone (named f)) p ≤ 2 ^ 32
  alone_short h ends same p x =
      let most = ends_most (flds (take i fields)) 0 0 p (omega arith) ((same p).0 x) in
      omega (arith, h, last_longest, longest_mono (alone (named f)) p (longest_fields (flds (take i fields)) 0) most)

  pub ends_next : (ends new : List ℕ) → Same (Has ends) (EndsAt (flds (take i fields)) 0) → Same (Has new) (EndsBehind (alone (named f)) (Has ends)) → Same (Has new) (EndsAt (flds (take (i + 1) fields)) 0)
  ends_next ends new old more n = subst (λ fs. (Has new n → EndsAt fs 0 n) × (EndsAt fs 0 n → Has new n)) (sym more_flds) (
    λ h. let (p, x, last) = (more n).0 h in ends_back (named f).0 (named f).1 (flds (take i fields)) 0 p n ((old p).0 x) last,
    λ h. let (q, front, last) = ends_front (named f).0 (named f).1 (flds (take i fields)) 0 n h in (more n).1 (q, (old q).1 front, last),
  )

-- ---- as an ascending list
pub are_offsets : (fields : List FieldOf) (ns : List ℕ) → longest_fields (flds fields) 0 ≤ 2 ^ 32 → Ascend ns → Same (Has ns) (EndsAt (flds fields) 0) → ns ≡ offsets false fields
are_offsets fields ns short up same =
    one_below (2 ^ 32 + 1) (ends_at (flds fields) 0) ns up
    (λ k h. let x = (same k).0 h in (omega (arith, short, ends_most (flds fields) 0 0 k (omega arith) x), tells (ends_at (flds fields) 0 k) (EndsAt (flds fields) 0 k) (ends_tell (flds fields) 0 k) x))
    (λ k lt t. (same k).1 (told (ends_at (flds fields) 0 k) (EndsAt (flds fields) 0 k) (ends_tell (flds fields) 0 k) t))

pub offsets_same : (fields : List FieldOf) → longest_fields (flds fields) 0 ≤ 2 ^ 32 → Same (Has (offsets false fields)) (EndsAt (flds fields) 0)
offsets_same fields short n = (
  λ h. let (lt, t) = below-has (2 ^ 32 + 1) (ends_at (flds fields) 0) n h in told (ends_at (flds fields) 0 n) (EndsAt (flds fields) 0 n) (ends_tell (flds fields) 0 n) t,
  λ x. has-below (2 ^ 32 + 1) (ends_at (flds fields) 0) n (omega (arith, short, ends_most (flds fields) 0 0 n (omega arith) x))
      (tells (ends_at (flds fields) 0 n) (EndsAt (flds fields) 0 n) (ends_tell (flds fields) 0 n) x),
)

-- those of the first fields
pub front_same : (fields : List FieldOf) (i : ℕ) (ns : List ℕ) → longest_fields (flds fields) 0 ≤ 2 ^ 32 → ns ≡ offsets false (take i fields) → Same (Has ns) (EndsAt (flds (take i fields)) 0)
front_same fields i ns short e =
    let whole : take i fields ++ drop i fields ≡ fields = take-append-drop i fields in
    let front : longest_fields (flds (take i fields)) 0 ≤ longest_fields (flds fields) 0 =
    subst (λ l. longest_fields (flds (take i fields)) 0 ≤ longest_fields (flds l) 0) whole (front_longest (take i fields) (drop i fields) 0) in
    subst (λ l. Same (Has l) (EndsAt (flds (take i fields)) 0)) (sym e) (offsets_same (take i fields) (omega (arith, front, short)))

pub all_fields : (fields : List FieldOf) (i : ℕ) (ends : List ℕ) → length fields ≤ i → Same (Has ends) (EndsAt (flds (take i fields)) 0) → Same (Has ends) (EndsAt (flds fields) 0)
all_fields fields i ends le same = subst (λ l. Same (Has ends) (EndsAt (flds l) 0)) (take_all i fields le) same
