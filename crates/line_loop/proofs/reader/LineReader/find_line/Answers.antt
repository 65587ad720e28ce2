use Rattle.std.proofs.Common.{◌≡◌, ◌-◌, ℕ, List, length, take, drop, arith, sym, ap, subst, Some, None}
use Rattle.memchr.specs.Find.{IsFirstByte, is_byte}
use Rattle.line_loop.specs.Held.{bytes_of}
use Rattle.line_loop.proofs.Found.{found_behind, none_behind, rest_of}
use Rattle.line_loop.proofs.Splits.{IsClearTo}
use Rattle.line_loop.proofs.reader.LineReader.find_line.Goals as goal

pub invariant_of-self : goal.invariant_of-self
invariant_of-self c =
    let s = c.args.self.now in
    let rest : take (length c.as_slice.result.now - s.seen) (drop s.seen c.as_slice.result.now) ≡ drop s.seen (bytes_of s.held) = rest_of s.seen c.as_slice.result.now (bytes_of s.held) c.as_slice.ensures in
    let clear = none_behind (bytes_of s.held) s.seen s.seen_within s.clear
    (subst (λ (l : List ℕ). IsFirstByte (is_byte 10) l None) rest c.in-None.ensures) in
    let size : length c.as_slice-in-None.result.now ≡ length (bytes_of s.held) = ap (λ (l : List ℕ). length l) c.as_slice-in-None.ensures in record {
      seen_within = omega (arith, size);
      clear = subst (λ (l : List ℕ). IsClearTo (bytes_of s.held) (length l)) (sym c.as_slice-in-None.ensures) clear;
      counts = s.counts;
    }

pub returns-in-Some-clause-found : goal.returns-in-Some-clause-found
returns-in-Some-clause-found c =
    let s = c.args.self.now in
    let rest : take (length c.as_slice.result.now - s.seen) (drop s.seen c.as_slice.result.now) ≡ drop s.seen (bytes_of s.held) = rest_of s.seen c.as_slice.result.now (bytes_of s.held) c.as_slice.ensures in
    found_behind (bytes_of s.held) s.seen c.in-Some.n s.seen_within s.clear
    (subst (λ (l : List ℕ). IsFirstByte (is_byte 10) l (Some c.in-Some.n)) rest c.in-Some.ensures)
