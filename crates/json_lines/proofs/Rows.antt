-- Items that were put, one after the other.
use Rattle.std.proofs.Common.{◌≡◌, ◌∙◌, ℕ, suc, ◌+◌, ◌-◌, ◌<◌, ◌≤◌, ◌==◌, Bool, true, false, List}
use Rattle.std.proofs.Common.{◌++◌, refl, sym, ap, subst, arith}
use Rattle.dsdl_types.specs.Reading.{Got, Index, and_then, under, part, row}
use Rattle.dsdl_types.specs.Schemas as D
use Rattle.dsdl_types.specs.Values.{Empty, More}
use Rattle.value_json.specs.Json.{json_of, texts}
use Rattle.value_json.specs.Pieces.{Adds, Piece}
use Rattle.value_json.specs.Words.{following, lead, rest_of}
use Rattle.value_json.proofs.Adding.{adds_none, adds_then, rest_next}
use Rattle.value_put.proofs.Rows.{later_index}
use Rattle.json_lines.specs.Typed.{Leaves, Put, comma, items_of}
use Rattle.json_lines.proofs.Fields.{comma_put}

-- one more item
pub item_put : (s : D.Sch) (n i : ℕ) (p q : ℕ) (x y : List Bool) (old front new : List ℕ) →
    front ≡ old ++ comma (i == 0) → Put (λ v. json_of s v) (part s p x) front new q y →
    Leaves (items_of s i) (row (part s) (suc n) i p x) old (items_of s (suc i))
    (row (part s) n (suc i) q y) new
item_put s n i p q x y old front new e w = λ end place rest more.
    let ts : List (List Piece) = texts (λ v. json_of s v) more.value in
    let others : Adds (following ts) new end = subst (λ b. Adds (rest_of b ts) new end)
    (later_index i) more.adds in
    record {
      value = More w.value more.value;
      got = ap (λ u. and_then (under (Index i) u) (λ v k z. and_then (row (part s) n (suc i) k z)
          (λ vs. Got (More v vs)))) w.got ∙ ap (λ u. and_then u (λ vs. Got (More w.value vs)))
          more.got;
      adds = subst (λ ps. Adds ps old end) (sym (rest_next (i == 0) (json_of s w.value) ts))
          (adds_then (lead (i == 0)) (json_of s w.value ++ following ts) old front end
          (comma_put (i == 0) old front e)
          (adds_then (json_of s w.value) (following ts) front new end w.adds others));
    }

-- the loop over items
pub row_start : (s : D.Sch) (n : ℕ) (p : ℕ) (x : List Bool) (old : List ℕ) → Leaves (items_of s 0)
    (row (part s) n 0 p x) old (items_of s 0) (row (part s) (n - 0) 0 p x) old
row_start s n p x old =
    let z : n ≡ n - 0 = omega arith in
    subst (λ m. Leaves (items_of s 0) (row (part s) n 0 p x) old (items_of s 0)
    (row (part s) m 0 p x) old) z (λ end place rest put. put)

pub row_next : (s : D.Sch) (n i : ℕ) (m p q : ℕ) (z x y : List Bool) (old now new : List ℕ) →
    i < n →
    ((k : ℕ) → Leaves (items_of s i) (row (part s) (suc k) i p x) now (items_of s (suc i))
    (row (part s) k (suc i) q y) new) →
    Leaves (items_of s 0) (row (part s) n 0 m z) old (items_of s i)
    (row (part s) (n - i) i p x) now →
    Leaves (items_of s 0) (row (part s) n 0 m z) old (items_of s (i + 1))
    (row (part s) (n - (i + 1)) (i + 1) q y) new
row_next s n i m p q z x y old now new h goes inv = λ end place rest put.
    let a : i + 1 ≡ suc i = omega arith in
    let b : suc (n - (i + 1)) ≡ n - i = omega arith in
    inv end place rest
    (subst (λ k. Put (items_of s i) (row (part s) k i p x) now end place rest) b
    (goes (n - (i + 1)) end place rest
    (subst (λ j. Put (items_of s j) (row (part s) (n - (i + 1)) j q y) new end place rest) a
    put)))

empty_put : (s : D.Sch) (b : Bool) (now : List ℕ) → Adds
    (rest_of b (texts (λ v. json_of s v) Empty)) now now
empty_put s true now = adds_none now now refl
empty_put s false now = adds_none now now refl

pub row_end : (s : D.Sch) (n i : ℕ) (m p : ℕ) (z x : List Bool) (old now : List ℕ) → n ≤ i →
    Leaves (items_of s 0) (row (part s) n 0 m z) old (items_of s i) (row (part s) (n - i) i p x) now
    → Put (items_of s 0) (row (part s) n 0 m z) old now p x
row_end s n i m p z x old now h inv =
    let none : 0 ≡ n - i = omega arith in
    inv now p x (subst (λ k. Put (items_of s i) (row (part s) k i p x) now now p x) none
    (record { value = Empty; got = refl; adds = empty_put s (i == 0) now }))
