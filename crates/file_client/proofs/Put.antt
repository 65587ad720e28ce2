-- A buffer that keeps a file in front
use Rattle.std.proofs.Common.{◌≡◌, ℕ, ◌+◌, ◌-◌, ◌≤◌, List, ◌++◌, length, take, drop, ap, ◌∙◌, take_all, length-append, arith}
use Rattle.std.proofs.Math.Seq.{take-append_seam}
use Rattle.cy_bits.specs.Put.{put_at}
use Rattle.file_client.specs.Fetch.{State}
use Rattle.file_client.specs.Stands.{Keeps}
use Rattle.file_client.specs.declared.fetch.Fetch.{Fetch}

-- what is put behind the file, within the buffer, is its next bytes
take_put : (buffer bytes file : List ℕ) (n : ℕ) → take n buffer ≡ file → n ≡ length file → n + length bytes ≤ length buffer
    → take (n + length bytes) (put_at buffer n bytes) ≡ file ++ bytes
take_put buffer bytes file n front at room =
    let rest = drop (n + length bytes) buffer in
    let long = length-append file bytes in
    ap (λ f. take (n + length bytes) (f ++ take (length buffer - n) bytes ++ rest)) front
    ∙ (ap (λ b. take (n + length bytes) (file ++ b ++ rest)) (take_all (length buffer - n) bytes (omega arith))
    ∙ (ap (λ k. take k (file ++ bytes ++ rest)) (omega arith)
    ∙ take-append_seam (file ++ bytes) rest))

-- what is kept with bytes put behind the file is the state with them
pub kept_put : (limit lates : ℕ) (s : State) (f g : Fetch) (bytes : List ℕ) → Keeps limit s f → f.count + length bytes ≤ length f.buffer
    → g.buffer ≡ put_at f.buffer f.count bytes → length g.buffer ≡ length f.buffer → g.count ≡ f.count + length bytes
    → g.tid ≡ f.tid → g.lates ≡ lates → g.end ≡ f.end
    → Keeps limit (record s { file = s.file ++ bytes; lates = lates }) g
kept_put limit lates s f g bytes k room put same count tid late_count end =
    let long = length-append s.file bytes in
    record {
      limit_is = same ∙ k.limit_is;
      count = omega (arith, k.count, count);
      file = ap (λ n. take n g.buffer) count ∙ (ap (take (f.count + length bytes)) put ∙ take_put f.buffer bytes s.file f.count k.file k.count room);
      tid = tid ∙ k.tid;
      lates = late_count;
      end = end ∙ k.end;
      asked = k.asked;
    }
