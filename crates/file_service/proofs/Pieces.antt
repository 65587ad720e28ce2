-- The bytes of a file, piece by piece.
use Rattle.std.proofs.Common.{◌≡◌, ◌≢◌, ◌∙◌, ℕ, zero, suc, ◌≤◌, ◌+◌, ◌*◌, List, [], ◌++◌, refl, sym, ap, length, take, drop, arith}
use Rattle.std.proofs.lemmas.Grind.{common_steps}
use Rattle.std.proofs.Math.Seq.{take-add}
use Rattle.file_service.specs.Standing.{Standing, File, Folder, Nothing}
use Rattle.file_service.specs.Replies.{read_reply, info_reply, io_error}
use Rattle.file_service.specs.Laws.{pieces, ReadLaws}

next_piece : (n : ℕ) → 256 * n + 256 ≡ 256 * suc n
next_piece n = omega arith

front : (bytes : List ℕ) (n : ℕ) → pieces bytes n ≡ take (256 * n) bytes
front bytes zero = refl
front bytes (suc n) =
    ap (λ p. p ++ take 256 (drop (256 * n) bytes)) (front bytes n) ∙ sym (take-add (256 * n) 256 bytes) ∙ ap (λ k. take k bytes) (next_piece n)

take_all : (bytes : List ℕ) (n : ℕ) → length bytes ≤ n → take n bytes ≡ bytes
take_all bytes n h = grind (arith, common_steps)

none_left : (bytes : List ℕ) (offset : ℕ) → length bytes ≤ offset → take 256 (drop offset bytes) ≡ []
none_left bytes offset h = grind (arith, common_steps)

some_left : (bytes : List ℕ) (offset : ℕ) → take 256 (drop offset bytes) ≡ [] → length bytes ≤ offset
some_left bytes offset e = grind (arith, common_steps, ap length e)

pub take_short : (n : ℕ) (bytes : List ℕ) → length (take n bytes) ≤ n
take_short n bytes = grind (arith, common_steps)

short_reply : (s : Standing) (offset : ℕ) → length (read_reply s offset).data ≤ 256
short_reply (File bytes) offset = take_short 256 (drop offset bytes)
short_reply Folder offset = omega arith
short_reply Nothing offset = omega arith

read_fault : (s : Standing) (offset : ℕ) → (read_reply s offset).error.value ≢ io_error
read_fault (File bytes) offset e = omega (arith, e)
read_fault Folder offset e = omega (arith, e)
read_fault Nothing offset e = omega (arith, e)

info_fault : (s : Standing) → (info_reply s).error.value ≢ io_error
info_fault (File bytes) e = omega (arith, e)
info_fault Folder e = omega (arith, e)
info_fault Nothing e = omega (arith, e)

pub read_laws : ReadLaws
read_laws = record {
  front = front;
  whole = λ bytes n h. front bytes n ∙ take_all bytes (256 * n) h;
  ended = λ bytes offset. (some_left bytes offset, none_left bytes offset);
  short = short_reply;
  no_fault = read_fault;
  no_fault_told = info_fault;
}
