-- The records of a log are in order.
use Rattle.std.proofs.Common.{◌≡◌, ◌<◌, ◌≤◌, ℕ, ◌+◌, ◌-◌, Bool, true, false, List, [], ◌∷◌, ◌++◌, Option, Some, None, refl, subst, length, take, arith}
use Rattle.std.specs.Prelude.{if◌then◌else◌, nat_lt}
use Rattle.std.proofs.lemmas.Bool.Decides.{nat_tests}
use Rattle.tail_frame.specs.declared.logged.Record.{Record}
use Rattle.frame_log.specs.declared.error.LogError.{LogError}
use Rattle.frame_log.specs.declared.error.LogError.TheVariants as error
use Rattle.frame_log.specs.Line.{Said, NoForm, Nothing, UnknownBus, Frame, said_of}
use Rattle.frame_log.specs.Log.{Log, Place, Given, Take, Refuse, first_of, given_by, followed, with_record, log_of_lines, lines_of, last_line, log_from}
use Rattle.frame_log.specs.Order.{IsAhead}
use Rattle.frame_log.proofs.LogLemmas.{parts}

-- what holds of both branches
pub either_way : {X : Type 0} (P : X → Type 0) (t : Bool) (u v : X) → (t ≡ true → P u) → (t ≡ false → P v) → P (if t then u else v)
either_way P true u v h k = h refl
either_way P false u v h k = k refl

wider : (m l n : ℕ) (rs : List Record) → l ≤ n → IsAhead m n rs → IsAhead m l rs
wider m l n [] h x = tt
wider m l n (r ∷ rs) h x = (x.0, omega (arith, x.1), x.2)

not_below : (m n : ℕ) → nat_lt m n ≡ false → n ≤ m
not_below m n h = grind (arith, nat_tests)

-- a line, and records that are ahead of it
ahead-given : (at : Place) (said : Said) (f : Place → Log) → ((q : Place) → IsAhead q.last q.lines (f q).records)
    → IsAhead at.last at.lines (followed (given_by at (at.lines + 1) said) f).records
ahead-given at NoForm f h = tt
ahead-given at Nothing f h = let q : Place = record at { lines = at.lines + 1 } in wider at.last at.lines (at.lines + 1) (f q).records (omega arith) (h q)
ahead-given at UnknownBus f h = tt
ahead-given at (Frame moment bus ident bytes) f h =
    let q : Place = record { lines = at.lines + 1; first = Some (first_of at.first moment); last = moment } in
    let r : Record = record { line = at.lines + 1; moment = moment; bus = bus; ident = ident; bytes = bytes } in
    either_way (λ (g : Given). IsAhead at.last at.lines (followed g f).records) (nat_lt moment at.last) (Refuse (error.TimeBack (at.lines + 1)))
    (if nat_lt 100_000_000_000 (moment - first_of at.first moment) then Refuse (error.TooFar (at.lines + 1)) else Take r q)
    (λ _. tt)
    (λ e. either_way (λ (g : Given). IsAhead at.last at.lines (followed g f).records) (nat_lt 100_000_000_000 (moment - first_of at.first moment)) (Refuse (error.TooFar (at.lines + 1))) (Take r q)
    (λ _. tt)
    (λ _. (not_below moment at.last e, omega arith, h q)))

pub ahead-lines : (buses : List (List ℕ)) (refusal : Option LogError) (ls : List (List ℕ)) (at : Place) → IsAhead at.last at.lines (log_of_lines buses refusal ls at).records
ahead-lines buses refusal [] at = tt
ahead-lines buses refusal (l ∷ ls) at = ahead-given at (said_of buses l) (λ new. log_of_lines buses refusal ls new) (λ q. ahead-lines buses refusal ls q)

ahead-parts : (buses : List (List ℕ)) (more : Bool) (lines : List (List ℕ) × List ℕ) (at : Place) → IsAhead at.last at.lines (parts buses more lines at).records
ahead-parts buses true lines at = ahead-lines buses (Some error.LogLong) (lines.0 ++ last_line 4096 lines.1) at
ahead-parts buses false lines at = ahead-lines buses None (lines.0 ++ last_line 0 lines.1) at

pub ahead-from : (buses : List (List ℕ)) (room : ℕ) (bytes : List ℕ) (at : Place) → IsAhead at.last at.lines (log_from buses room bytes at).records
ahead-from buses room bytes at = ahead-parts buses (nat_lt room (length bytes)) (lines_of (take room bytes)) at

-- the first of records that are ahead
pub ahead-first : (moment line : ℕ) (log after : Log) (r : Record) → IsAhead moment line log.records → log ≡ with_record r after → (moment ≤ r.moment) × (line < r.line)
ahead-first moment line log after r h e = let a : IsAhead moment line (with_record r after).records = subst (λ (l : Log). IsAhead moment line l.records) e h in (a.0, a.1)
