-- What is kept with one start, one frame and one record more.
use Rattle.std.proofs.Common.{◌≡◌, ◌∙◌, ℕ, ◌≤◌, ◌<◌, ◌+◌, ◌-◌, ◌^◌, min, max, Bool, true, false, cond, not, List, ◌∷◌, length, Option, Some, None, is_some, is_none, unwrap_or, refl, ap, arith}
use Rattle.std.specs.Int.{from_bool}
use Rattle.tail_frame.specs.Frames.{FrameOf, frame_of}
use Rattle.tail_frame.specs.declared.logged.Record.{Record}
use Rattle.bus_survey.specs.Buses.{discarded, first_moment, kept_records, silence, time_from}
use Rattle.bus_survey.specs.Counts.{AreShort, data_bytes, kept_frames, starts, start_of}
use Rattle.bus_survey.specs.Starts.{one_if, copies, gaps, is_copy, is_gap, kept_starts, kept_waits, last_tid, moments}
use Rattle.bus_survey.specs.declared.bus_counts.BusCounts.{BusCounts}
use Rattle.bus_survey.specs.declared.flow_counts.FlowCounts.{FlowCounts}
use Rattle.bus_survey.specs.declared.starts.Start.{Start}
use Rattle.bus_survey.specs.declared.starts.Starts.{Starts}
use Rattle.bus_survey.specs.declared.waits.Waits.{Waits}
use Rattle.bus_survey.proofs.CountLemmas.{one_low, copies_few, gaps_few, bytes_few, discarded_few}

one_more : (b : Bool) → from_bool b ≡ one_if b
one_more true = refl
one_more false = refl

-- a sum that stays below the greatest number
fits : (old n total more result : ℕ) → old ≡ total → n ≡ more → total + more < 2 ^ 64 → result ≡ min (old + n) (2 ^ 64 - 1) → result ≡ total + more
fits old n total more result o m low r = omega arith

pub start_more : (past : List Start) (s : Start) (old : Starts) (count copied gapped : ℕ) (waits : Waits) (copy gap : Bool) → length past < 2 ^ 28 → old ≡ kept_starts past
    → copy ≡ is_copy old.last_tid s.tid → gap ≡ is_gap old.last_tid s.tid
    → count ≡ min (old.count + 1) (2 ^ 64 - 1) → copied ≡ min (old.copies + from_bool copy) (2 ^ 64 - 1) → gapped ≡ min (old.gaps + from_bool gap) (2 ^ 64 - 1)
    → waits ≡ kept_waits (cond copy (moments past) (s.moment ∷ moments past))
    → record { count = count; copies = copied; gaps = gapped; last_tid = Some s.tid; waits = waits } ≡ kept_starts (s ∷ past)
start_more past s old count copied gapped waits copy gap few is c g counts copies_are gaps_are waits_are =
    let copy_is : copy ≡ is_copy (last_tid past) s.tid = c ∙ ap (λ o. is_copy o.last_tid s.tid) is in
    let gap_is : gap ≡ is_gap (last_tid past) s.tid = g ∙ ap (λ o. is_gap o.last_tid s.tid) is in
    let p : count ≡ length (s ∷ past) = omega (arith, counts, few, ap (λ o. o.count) is) in
    let q : copied ≡ copies (s ∷ past) =
    fits old.copies (from_bool copy) (copies past) (one_if (is_copy (last_tid past) s.tid)) copied (ap (λ o. o.copies) is) (one_more copy ∙ ap one_if copy_is)
    (omega (arith, few, copies_few past, one_low (is_copy (last_tid past) s.tid))) copies_are in
    let r : gapped ≡ gaps (s ∷ past) =
    fits old.gaps (from_bool gap) (gaps past) (one_if (is_gap (last_tid past) s.tid)) gapped (ap (λ o. o.gaps) is) (one_more gap ∙ ap one_if gap_is)
    (omega (arith, few, gaps_few past, one_low (is_gap (last_tid past) s.tid))) gaps_are in
    let w : waits ≡ kept_waits (moments (s ∷ past)) = waits_are ∙ ap (λ b. kept_waits (cond b (moments past) (s.moment ∷ moments past))) copy_is in
    λ i. record { count = p i; copies = q i; gaps = r i; last_tid = Some s.tid; waits = w i }

pub frame_more : (past : List FrameOf) (f : FrameOf) (old : FlowCounts) (frames bytes : ℕ) (new : Starts) → length past < 2 ^ 28 → AreShort past → length f.body ≤ 63 → old ≡ kept_frames past
    → frames ≡ min (old.frames + 1) (2 ^ 64 - 1) → bytes ≡ min (old.bytes + (length f.body + 1)) (2 ^ 64 - 1)
    → new ≡ kept_starts (cond f.tail.start (start_of f ∷ starts past) (starts past))
    → record { frames = frames; bytes = bytes; starts = new } ≡ kept_frames (f ∷ past)
frame_more past f old frames bytes new few short low is frames_are bytes_are starts_are =
    let p : frames ≡ length (f ∷ past) = omega (arith, frames_are, few, ap (λ o. o.frames) is) in
    let q : bytes ≡ data_bytes (f ∷ past) = omega (arith, bytes_are, few, low, bytes_few past short, ap (λ o. o.bytes) is) in
    λ i. record { frames = p i; bytes = q i; starts = starts_are i }

not_some : {X : Type 0} (o : Option X) → not (is_some o) ≡ is_none o
not_some None = refl
not_some (Some x) = refl

pub record_more : (past : List Record) (rec : Record) (old : BusCounts) (is_frame : Bool) (records no_frames first silent : ℕ) → length past < 2 ^ 28 → old ≡ kept_records past → is_frame ≡ is_some (frame_of rec)
    → records ≡ min (old.records + 1) (2 ^ 64 - 1) → no_frames ≡ min (old.discarded + from_bool (not is_frame)) (2 ^ 64 - 1)
    → first ≡ unwrap_or old.first rec.moment → silent ≡ max old.silence (time_from old.last rec.moment)
    → record { records = records; discarded = no_frames; first = Some first; last = Some rec.moment; silence = silent } ≡ kept_records (rec ∷ past)
record_more past rec old is_frame records no_frames first silent few is framed records_are discarded_are first_is silence_is =
    let none : not is_frame ≡ is_none (frame_of rec) = ap not framed ∙ not_some (frame_of rec) in
    let p : records ≡ length (rec ∷ past) = omega (arith, records_are, few, ap (λ o. o.records) is) in
    let q : no_frames ≡ discarded (rec ∷ past) =
    fits old.discarded (from_bool (not is_frame)) (discarded past) (one_if (is_none (frame_of rec))) no_frames (ap (λ o. o.discarded) is) (one_more (not is_frame) ∙ ap one_if none)
    (omega (arith, few, discarded_few past, one_low (is_none (frame_of rec)))) discarded_are in
    let r : first ≡ unwrap_or (first_moment past) rec.moment = first_is ∙ ap (λ o. unwrap_or o.first rec.moment) is in
    let s : silent ≡ silence (rec ∷ past) = silence_is ∙ ap (λ o. max o.silence (time_from o.last rec.moment)) is in
    λ i. record { records = p i; discarded = q i; first = Some (r i); last = Some rec.moment; silence = s i }
