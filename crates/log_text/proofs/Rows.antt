-- A log of two records.
use Rattle.std.proofs.Common.{◌≢◌, ◌<◌, ℕ, List, [], ◌∷◌, refl, arith}
use Rattle.std.specs.Prelude.{codes}
use Rattle.std.specs.Fmt.{digits}
use Rattle.hex.specs.Hex.{encode_with}
use Rattle.tail_frame.specs.declared.logged.Record.{Record}
use Rattle.log_text.specs.Written.{IsBusName, IsWritten, Example}
use Rattle.log_text.proofs.Each.{each_all}

abbrev names : List (List ℕ)
names = codes "can0" ∷ codes "can1" ∷ []

abbrev first : Record
first = record { line = 1; moment = 300; bus = 1; ident = 0x107D_5501; bytes = 0xA0 ∷ [] }

abbrev second : Record
second = record { line = 2; moment = 12_345_678; bus = 0; ident = 15; bytes = 0 ∷ 16 ∷ 255 ∷ 225 ∷ [] }

-- `can` and another byte
pub named : (last : ℕ) → 32 < last → IsBusName (99 ∷ 97 ∷ 110 ∷ last ∷ [])
named last l = record {
  some = omega arith;
  most = omega arith;
  no_space = each_all (λ b. b ≢ 32) (99 ∷ 97 ∷ 110 ∷ last ∷ []) ((λ e. omega arith), ((λ e. omega arith), ((λ e. omega arith), ((λ e. omega arith), tt))));
  no_newline = each_all (λ b. b ≢ 10) (99 ∷ 97 ∷ 110 ∷ last ∷ []) ((λ e. omega arith), ((λ e. omega arith), ((λ e. omega arith), ((λ e. omega arith), tt))));
}

first_written : IsWritten names first
first_written = record { moment = omega arith; ident = omega arith; size = omega arith; bytes = each_all (λ b. b < 256) first.bytes (omega arith, tt); name = named 49 (omega arith); first = refl }

second_written : IsWritten names second
second_written = record { moment = omega arith; ident = omega arith; size = omega arith; bytes = each_all (λ b. b < 256) second.bytes (omega arith, (omega arith, (omega arith, (omega arith, tt)))); name = named 48 (omega arith); first = refl }

pub example : Example
unfolding digits encode_with
example = record {
  names = names;
  records = second ∷ first ∷ [];
  in_turn = (
    record { written = second_written; line = refl; in_time = omega arith; within = omega arith },
    (record { written = first_written; line = refl; in_time = omega arith; within = omega arith }, tt),
  );
  text = refl;
}
