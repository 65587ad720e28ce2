-- What is kept of one record more.
use Rattle.std.proofs.Common.{◌≡◌, ℕ, ◌≤◌, ◌<◌, ◌+◌, ◌-◌, ◌^◌, min, List, [], ◌∷◌, length, Option, Some, None, is_none, Result, Ok, Err, OnOk, ap, arith}
use Rattle.tail_frame.specs.Frames.{FrameOf, frame_of}
use Rattle.tail_frame.specs.declared.logged.Record.{Record}
use Rattle.bus_survey.specs.Buses.{discarded}
use Rattle.bus_survey.specs.Flows.{frames, with_frame}
use Rattle.bus_survey.specs.Starts.{one_if}
use Rattle.bus_survey.proofs.CountLemmas.{discarded_few}

with_few : (o : Option FrameOf) (past : List FrameOf) → length (with_frame o past) ≤ length past + 1
with_few None past = omega arith
with_few (Some f) past = omega arith

-- no more frames than records
pub frames_few : (past : List Record) → length (frames past) ≤ length past
frames_few [] = omega arith
frames_few (rec ∷ past) = omega (arith, frames_few past, with_few (frame_of rec) (frames past))

-- the frames with those of a record that is discarded, and of one that is a frame
pub frames_none : (rec : Record) (past : List Record) → frame_of rec ≡ None → frames (rec ∷ past) ≡ frames past
frames_none rec past e = ap (λ o. with_frame o (frames past)) e

pub frames_some : (rec : Record) (past : List Record) (f : FrameOf) → frame_of rec ≡ Some f → frames (rec ∷ past) ≡ f ∷ frames past
frames_some rec past f e = ap (λ o. with_frame o (frames past)) e

pub discarded_none : (rec : Record) (past : List Record) (old new : ℕ) → length past < 2 ^ 28 → frame_of rec ≡ None → old ≡ discarded past → new ≡ min (old + 1) (2 ^ 64 - 1) → new ≡ discarded (rec ∷ past)
discarded_none rec past old new few e is r =
    let one : one_if (is_none (frame_of rec)) ≡ 1 = ap (λ o. one_if (is_none o)) e in
    omega (arith, few, is, r, one, discarded_few past)

pub discarded_some : (rec : Record) (past : List Record) (f : FrameOf) → frame_of rec ≡ Some f → discarded past ≡ discarded (rec ∷ past)
discarded_some rec past f e =
    let one : one_if (is_none (frame_of rec)) ≡ 0 = ap (λ o. one_if (is_none o)) e in
    omega (arith, one)

-- what follows of the answer of a call
pub on_ok : {T E : Type 0} (P Q : Type 0) (r : Result T E) → (P → Q) → OnOk r P → OnOk r Q
on_ok P Q (Ok x) f h = f h
on_ok P Q (Err e) f h = tt
