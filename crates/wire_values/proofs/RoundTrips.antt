-- What was written is read again
use Rattle.std.proofs.Common.{◌≡◌, ◌∙◌, ℕ, ◌-◌, ◌≤◌, min, List, length, take, sym, ap, subst, arith}
use Rattle.dsdl_types.specs.Cast.{cast}
use Rattle.dsdl_types.specs.Laws.{Reads, encoding, with_zeros}
use Rattle.dsdl_types.specs.Newer.{as_new, as_old}
use Rattle.dsdl_types.specs.Rules.{IsSchema}
use Rattle.dsdl_types.specs.Schemas.{Sch}
use Rattle.dsdl_types.specs.Values.{Val}
use Rattle.dsdl_types.proofs.Evolving.{cut_zeros, evolution_holds, reads_once, round_trips}
use Rattle.dsdl_types.proofs.SchemaRules.{schema_sound}
use Rattle.dsdl_types.specs.declared.read_why.ReadWhy.{ReadWhy}
use Rattle.dsdl_types.specs.Views.{why_of}
use Rattle.wire_values.specs.Laws.{Evolution, RoundTrip}
use Rattle.wire_values.specs.Results.{IsRefused, IsWritten}

-- so many of the bytes of a buffer are the serialized form with zeros behind
cut_written : (s : Sch) (v : Val) (n : ℕ) (out : List ℕ) → IsWritten s v n out → (k : ℕ) → n ≤ k → take k out ≡ with_zeros (encoding s v) (min (k - length (encoding s v)) (length out - n))
cut_written s v n out w k h = ap (λ l. take k l) w.bytes ∙ cut_zeros (encoding s v) k (length out - n) (omega (arith, w.size, h))

pub round_trip : RoundTrip
round_trip s rules v n out w k h =
    subst (λ b. Reads s b (cast s v)) (sym (cut_written s v n out w k h)) (round_trips s (schema_sound s rules) v w.fits (min (k - length (encoding s v)) (length out - n)))

pub evolution : Evolution
evolution new old rules old_rules newer =
    let law = evolution_holds new old (schema_sound new rules) (schema_sound old old_rules) newer in
    record {
      to_old = λ v n out w k h.
          subst (λ b. Reads old b (as_old new old (cast new v))) (sym (cut_written new v n out w k h)) ((law.to_old v w.fits).zeros (min (k - length (encoding new v)) (length out - n)));
      to_new = λ v n out w k h.
          subst (λ b. Reads new b (as_new new old (cast old v))) (sym (cut_written old v n out w k h)) ((law.to_new v w.fits).zeros (min (k - length (encoding old v)) (length out - n)));
    }

-- what was written isn't refused, and reads as one value
pub never_refused : (s : Sch) (v : Val) (n : ℕ) (out path : List ℕ) (why : ReadWhy) → IsSchema s → IsWritten s v n out → IsRefused s (take n out) path why → ⊥
never_refused s v n out path why rules w r =
    (reads_once s (take n out)).not_both (cast s v) r.0 (why_of why) (round_trip s rules v n out w n (omega arith)) r.1

pub reads_back : (s : Sch) (v u : Val) (n : ℕ) (out : List ℕ) → IsSchema s → IsWritten s v n out → Reads s (take n out) u → u ≡ cast s v
reads_back s v u n out rules w r = (reads_once s (take n out)).one_value u (cast s v) r (round_trip s rules v n out w n (omega arith))
