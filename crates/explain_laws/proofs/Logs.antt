-- The records of a log have numbers that 64 bits hold, and are few.
use Rattle.std.proofs.Common.{◌≡◌, ℕ, suc, ◌+◌, ◌-◌, ◌≤◌, ◌^◌, false, eqb, List, [], ◌∷◌, ◌++◌, length, take, Option, Some, None, refl, sym, subst, length-append, length-take, arith}
use Rattle.std.specs.Prelude.{⊤, All, nat_lt}
use Rattle.std.proofs.lemmas.Bool.{cond-false, cond_both}
use Rattle.std.proofs.lemmas.List.Elements.{All-cons, All-head, All-nil, All-tail}
use mathlib.Core.List.{reverse_aux}
use Rattle.tail_frame.specs.declared.logged.Record.{Record}
use Rattle.frame_log.specs.Line.{Frame, NoForm, Nothing, Said, UnknownBus, said_of}
use Rattle.frame_log.specs.Log.{Given, Log, Place, Refuse, Skip, Take, first_of, followed, given, given_by, last_line, lines_of, log_of, log_of_lines, start, with_byte}
use Rattle.frame_log.specs.Order.{IsFit}
use Rattle.frame_log.specs.declared.error.LogError.{LogError}
use Rattle.frame_log.specs.declared.error.LogError.TheVariants as error
use Rattle.explain_laws.proofs.Ranges.{IsLogged}

abbrev LinesTo : ℕ → List Record → Type 0
LinesTo m [] = ⊤
LinesTo m (rec ∷ recs) = (rec.line ≤ m) × LinesTo m recs

-- lines up to m, and at most k of them
record IsWithin (m k : ℕ) (recs : List Record) : Type 0 where
  lines : LinesTo m recs
  few : length recs ≤ k

-- what the line with a number gives
abbrev IsAt : ℕ → Given → Type 0
IsAt n (Skip at) = at.lines ≡ n
IsAt n (Take rec at) = (rec.line ≡ n) × (at.lines ≡ n)
IsAt n (Refuse refusal) = ⊤

given_at : (at : Place) (n : ℕ) (said : Said) → IsAt n (given_by at n said)
given_at at n NoForm = tt
given_at at n Nothing = refl
given_at at n UnknownBus = tt
given_at at n (Frame moment bus ident bytes) =
    cond_both (nat_lt moment at.last) _ _ (IsAt n) (λ _. tt)
    (λ _. cond_both (nat_lt 100_000_000_000 (moment - first_of at.first moment)) _ _ (IsAt n) (λ _. tt) (λ _. (refl, refl)))

one_line : (m k : ℕ) (at : Place) (g : Given) (behind : Place → Log) → at.lines + 1 ≤ m → IsAt (at.lines + 1) g
    → ((new : Place) → new.lines ≡ at.lines + 1 → IsWithin m k (behind new).records) → IsWithin m (suc k) (followed g behind).records
one_line m k at (Skip new) behind h is more = let rest = more new is in record { lines = rest.lines; few = let f = rest.few in omega arith }
one_line m k at (Take rec new) behind h is more =
    let rest = more new is.1 in
    let line = is.0 in record { lines = (omega (arith, line, h), rest.lines); few = let f = rest.few in omega arith }
one_line m k at (Refuse refusal) behind h is more = record { lines = tt; few = omega arith }

within : (buses : List (List ℕ)) (refusal : Option LogError) (ls : List (List ℕ)) (at : Place) (m : ℕ) → at.lines + length ls ≤ m → IsWithin m (length ls) (log_of_lines buses refusal ls at).records
within buses refusal [] at m h = record { lines = tt; few = omega arith }
within buses refusal (l ∷ ls) at m h =
    one_line m (length ls) at (given buses at l) (λ new. log_of_lines buses refusal ls new) (omega arith) (given_at at (at.lines + 1) (said_of buses l))
    (λ new e. within buses refusal ls new m (omega (arith, e, h)))

-- a text has at most as many lines as bytes
byte_few : (b : ℕ) (ls : List (List ℕ)) (rest : List ℕ) (n : ℕ) → length ls + length rest ≤ n → length (with_byte b (ls, rest)).0 + length (with_byte b (ls, rest)).1 ≤ suc n
byte_few b [] rest n h = omega arith
byte_few b (l ∷ ls) rest n h = omega arith

cut_few : (s : List ℕ) → length (lines_of s).0 + length (lines_of s).1 ≤ length s
cut_few [] = omega arith
cut_few (b ∷ s) =
    let more = cut_few s in
    cond_both (eqb b 10) ([] ∷ (lines_of s).0, (lines_of s).1) (with_byte b (lines_of s)) (λ (p : List (List ℕ) × List ℕ). length p.0 + length p.1 ≤ suc (length s))
    (λ _. omega arith) (λ _. byte_few b (lines_of s).0 (lines_of s).1 (length s) more)

last_few : (n : ℕ) (rest : List ℕ) → nat_lt n 0 ≡ false → length (last_line n rest) ≤ length rest
last_few n [] none = subst (λ (t : List (List ℕ)). length t ≤ 0) (sym (cond-false (nat_lt n 0) ([] ∷ []) [] none)) (omega arith)
last_few n (b ∷ rest) none = cond_both (nat_lt n (length (b ∷ rest))) ((b ∷ rest) ∷ []) [] (λ (t : List (List ℕ)). length t ≤ suc (length rest)) (λ _. omega arith) (λ _. omega arith)

log_within : (buses : List (List ℕ)) (bytes : List ℕ) → IsWithin (2 ^ 28) (2 ^ 28) (log_of buses bytes).records
log_within buses bytes =
    cond_both (nat_lt (2 ^ 28) (length bytes)) _ _ (λ (l : Log). IsWithin (2 ^ 28) (2 ^ 28) l.records) (λ _. part (Some error.LogLong) 4096 refl) (λ _. part None 0 refl)
  where
    part : (refusal : Option LogError) (n : ℕ) → nat_lt n 0 ≡ false
        → IsWithin (2 ^ 28) (2 ^ 28) (log_of_lines buses refusal ((lines_of (take (2 ^ 28) bytes)).0 ++ last_line n (lines_of (take (2 ^ 28) bytes)).1) start).records
    part refusal n none =
        let s = take (2 ^ 28) bytes in
        let ls = (lines_of s).0 in
        let last = last_line n (lines_of s).1 in
        let cut = cut_few s in
        let end = last_few n (lines_of s).1 none in
        let size = length-append ls last in
        let most = length-take (2 ^ 28) bytes in
        let few : length (ls ++ last) ≤ 2 ^ 28 = omega (arith, cut, end, size, most) in
        let w = within buses refusal (ls ++ last) start (2 ^ 28) (omega (arith, few)) in
        record { lines = w.lines; few = let f = w.few in omega (arith, f, few) }

module _ (names : List (List ℕ)) where
  turned : (recs acc : List Record) → All (IsFit names) recs → LinesTo (2 ^ 28) recs → All (IsLogged names) acc → All (IsLogged names) (reverse_aux recs acc)
  turned [] acc fit to done = done
  turned (rec ∷ recs) acc fit to done =
      let f = All-head (IsFit names) rec recs fit in
      let line = to.0 in
      let moment = f.3 in
      turned recs (rec ∷ acc) (All-tail (IsFit names) rec recs fit) to.1
      (All-cons (IsLogged names) rec acc (record { line = omega (arith, line); moment = omega (arith, moment); bus = f.0 }) done)

  length_turned : (recs acc : List Record) → length (reverse_aux recs acc) ≡ length recs + length acc
  length_turned [] acc = omega arith
  length_turned (rec ∷ recs) acc = let more = length_turned recs (rec ∷ acc) in omega (arith, more)

  pub all_logged : (bytes : List ℕ) → All (IsFit names) (log_of names bytes).records → All (IsLogged names) (reverse_aux (log_of names bytes).records [])
  all_logged bytes fit = turned (log_of names bytes).records [] fit (log_within names bytes).lines (All-nil (IsLogged names))

  pub few_logged : (bytes : List ℕ) → length (reverse_aux (log_of names bytes).records []) ≤ 2 ^ 28
  few_logged bytes =
      let few = (log_within names bytes).few in
      let same = length_turned (log_of names bytes).records [] in omega (arith, few, same)
