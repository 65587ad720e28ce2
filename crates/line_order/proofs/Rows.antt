-- Lines in a row, of which some are added and some go.
use Rattle.std.proofs.Common.{◌≡◌, ◌∙◌, ◌+◌, ◌-◌, ◌≤◌, ◌<◌, ℕ, suc, true, List, [], ◌∷◌, ◌++◌, length, take, drop, refl, sym, ap, ap₂, append_assoc, arith, drop-drop, length-append, length-drop}
use Rattle.std.specs.Prelude.{slice_index_or}
use Rattle.std.proofs.Math.Seq.{drop-cons}
use Rattle.std.proofs.lemmas.List.{drop-append-le, take-append-le}
use Rattle.line_order.specs.Order.{Entry, entry}
use Rattle.line_order.specs.Row.{Pops, row_of, size_of}
use Rattle.line_order.specs.declared.queued.Queued.{Queued}

take-all : (t : List ℕ) → take (length t) t ≡ t
take-all [] = refl
take-all (x ∷ t) = ap (λ (l : List ℕ). x ∷ l) (take-all t)

take-whole : (t : List ℕ) (n : ℕ) → n ≡ length t → take n t ≡ t
take-whole t n h = ap (λ (m : ℕ). take m t) h ∙ take-all t

-- one line more
pub row_more : (qs : List Queued) (q : Queued) (bytes line : List ℕ) → size_of qs ≡ length bytes → q.len ≡ length line → row_of (qs ++ (q ∷ [])) (bytes ++ line) ≡ row_of qs bytes ++ (entry q.place.moment q.place.number line ∷ [])
row_more [] q [] line h k = ap (λ (t : List ℕ). entry q.place.moment q.place.number t ∷ []) (take-whole line q.len k)
row_more [] q (b ∷ bytes) line h k = absurd (omega (arith, h))
row_more (p ∷ qs) q bytes line h k =
    let le : p.len ≤ length bytes = omega (arith, h) in
    let rest : size_of qs ≡ length (drop p.len bytes) = omega (arith, h, length-drop p.len bytes) in
    ap₂ (λ (t : List ℕ) (l : List Entry). entry p.place.moment p.place.number t ∷ l) (take-append-le p.len bytes line le)
    (ap (λ (t : List ℕ). row_of (qs ++ (q ∷ [])) t) (drop-append-le p.len bytes line le) ∙ row_more qs q (drop p.len bytes) line rest k)

pub size_more : (qs : List Queued) (q : Queued) → size_of (qs ++ (q ∷ [])) ≡ size_of qs + q.len
size_more [] q = omega arith
size_more (p ∷ qs) q = omega (arith, size_more qs q)

-- a line was added
pub record Added (qs new : List Queued) (q : Queued) (first start : ℕ) (old text line : List ℕ) : Type 0 where
  pub within : first ≤ length new
  pub bytes : start + size_of (drop first new) ≡ length text
  pub row : row_of (drop first new) (drop start text) ≡ row_of (drop first qs) (drop start old) ++ (entry q.place.moment q.place.number (line ++ 10 ∷ []) ∷ [])
  pub more : size_of (drop first qs) ≤ size_of (drop first new)

pub added : (qs new : List Queued) (q : Queued) (first start : ℕ) (old mid text line : List ℕ) → first ≤ length qs → start + size_of (drop first qs) ≡ length old → new ≡ qs ++ (q ∷ []) → mid ≡ old ++ line → text ≡ mid ++ (10 ∷ []) → q.len ≡ length line + 1 → Added qs new q first start old text line
added qs new q first start old mid text line w b e m t n =
    let full = line ++ 10 ∷ [] in
    let whole : text ≡ old ++ full = t ∙ (ap (λ (s : List ℕ). s ++ 10 ∷ []) m ∙ append_assoc old line (10 ∷ [])) in
    let more : drop first new ≡ drop first qs ++ (q ∷ []) = ap (drop first) e ∙ drop-append-le first qs (q ∷ []) w in
    let short : start ≤ length old = omega (arith, b) in
    let rest : drop start text ≡ drop start old ++ full = ap (drop start) whole ∙ drop-append-le start old full short in
    let size : length full ≡ length line + 1 = length-append line (10 ∷ []) in
    let count : length text ≡ length old + length full = ap length whole ∙ length-append old full in
    let sizes : size_of (drop first new) ≡ size_of (drop first qs) + q.len = ap size_of more ∙ size_more (drop first qs) q in
    let lines : length new ≡ length qs + 1 = ap length e ∙ length-append qs (q ∷ []) in record {
      within = omega (arith, lines, w);
      bytes = omega (arith, sizes, count, size, n, b);
      row = ap₂ row_of more rest ∙ row_more (drop first qs) q (drop start old) full (omega (arith, b, length-drop start old)) (omega (arith, n, size));
      more = omega (arith, sizes);
    }

-- the first line
pub row_first : (qs : List Queued) (i : ℕ) (q : Queued) → i < length qs → q ≡ slice_index_or qs i q → drop i qs ≡ q ∷ drop (i + 1) qs
row_first qs i q h e =
    let next : suc i ≡ i + 1 = omega arith in
    drop-cons qs i q h ∙ ap₂ (λ (x : Queued) (k : ℕ). x ∷ drop k qs) (sym e) next

pub first_size : (qs : List Queued) (i start : ℕ) (q : Queued) (text : List ℕ) → i < length qs → q ≡ slice_index_or qs i q → start + size_of (drop i qs) ≡ length text → start + q.len ≤ length text
first_size qs i start q text h e b = let size : size_of (drop i qs) ≡ q.len + size_of (drop (i + 1) qs) = ap size_of (row_first qs i q h e) in omega (arith, size, b)

pub popped : (qs : List Queued) (q : Queued) (first start : ℕ) (text slice before after : List ℕ) → first < length qs → q ≡ slice_index_or qs first q → slice ≡ text → after ≡ before ++ take (start + q.len - start) (drop start slice)
    → Pops (row_of (drop first qs) (drop start text)) (row_of (drop (first + 1) qs) (drop (start + q.len) text)) before after true
popped qs q first start text slice before after h e s a =
    let len : start + q.len - start ≡ q.len = omega arith in (
      entry q.place.moment q.place.number (take q.len (drop start text)),
      ap (λ (l : List Queued). row_of l (drop start text)) (row_first qs first q h e)
          ∙ ap (λ (t : List ℕ). entry q.place.moment q.place.number (take q.len (drop start text)) ∷ row_of (drop (first + 1) qs) t) (drop-drop q.len start text),
      a ∙ ap₂ (λ (n : ℕ) (t : List ℕ). before ++ take n (drop start t)) len s,
    )
