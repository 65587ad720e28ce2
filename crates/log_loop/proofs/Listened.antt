-- What was done over a log, by how the loop over it ended.
use Rattle.std.specs.Prelude.{◌≢◌, unwrap_or}
use Rattle.std.proofs.Common.{◌≡◌, ◌∙◌, ℕ, List, [], ◌∷◌, ◌++◌, true, false, map, Option, Some, None, Ok, Err, refl, sym, ap, subst, inl}
use mathlib.Core.List.{reverse_aux}
use Rattle.tail_frame.specs.declared.logged.Record.{Record}
use Rattle.cy_outside.specs.Written.{behind, Begins}
use Rattle.frame_log.specs.Input.{IsAtEnd}
use Rattle.frame_log.specs.Line.{cut}
use Rattle.frame_log.specs.Log.{Log, log_of}
use Rattle.frame_log.specs.Reader.{kept_bytes_of, saw_end, log_behind}
use Rattle.frame_log.specs.declared.error.LogError.{LogError}
use Rattle.frame_log.specs.declared.error.LogError.TheVariants as error
use Rattle.frame_log.specs.declared.reader.LogReader.{LogReader}
use Rattle.gathered_text.specs.Gathered.{Gathered}
use Rattle.log_loop.specs.Gone.{FirstOf, Stages, BrokenOff, Gone, IsFinish, stopped}
use Rattle.log_loop.specs.Listened.{HasListened}
use Rattle.log_loop.specs.Met.{Comes as MayComeNext}
use Rattle.log_loop.specs.Next.{Comes, ComesBehind, Goes, GoesOn, Writes}
use Rattle.log_loop.specs.Streamed.{IsStreamed}
use Rattle.log_loop.specs.Taken.{IsOfTaken}
use Rattle.log_loop.specs.Voice.{Voice, AreEventsOf, MayCome, newest_first, said, whole_text}
use Rattle.log_loop.specs.declared.ended.Ended.{Ended}
use Rattle.log_loop.specs.declared.ended.Ended.TheVariants as end
use Rattle.log_loop.specs.declared.next.Stop.{Stop}
use Rattle.log_loop.specs.declared.next.Stop.TheVariants as stop
use Rattle.log_loop.proofs.Came.{Reads, Has, has_log, has_next}
use Rattle.log_loop.proofs.Events.{followed, followed_none}
use Rattle.log_loop.proofs.Logs.{onto, newest_onto}
use Rattle.log_loop.proofs.Runs.{HasGone, begun, broken_off, has_refused, has_finished, has_taken, not_read_fault, told_none}
use Rattle.log_loop.proofs.Streams.{Streams, failed_open, streamed_none, streamed_stopped, streamed_wanting, streamed_finished}
use Rattle.log_loop.proofs.Written.{all_written, gathered_less, begins_front, begins_gathered, begins_none}

-- the records of a log, of which some came
newest : (past : List Record) (rest log : Log) → log ≡ onto past rest → newest_first log ≡ reverse_aux rest.records past
newest past rest log e = ap newest_first e ∙ newest_onto past rest.records

module _ {E : Type 0} (names : List (List ℕ)) (v : Voice E) (s : Stages E) (comes : (rec : Record) (past : List E) → MayComeNext v rec past) (told : Option (List ℕ)) where
  -- where some events came, those of the whole log are these behind newer ones, one of each further record
  listened : (new : Option (List ℕ)) (past : List E) (rest : Log) (stat : Ended) (before after : Option (List ℕ)) → MayCome v past → Has names told (map v.record_of past) rest → HasGone v s past rest stat before after
      → ((events : List E) → FirstOf events past → stat ≡ end.ReadFault → IsOfTaken names v s.heard events told new before after)
      → ((events : List E) → FirstOf events past → IsStreamed names v s events told new stat before after) → HasListened names v s told new stat before after
  listened new past rest stat before after may h gone taken streamed =
      let f = followed v comes past may rest.records in
      let events = f.newer ++ past in
      let first : FirstOf events past = record { newer = f.newer; parts = refl } in record {
        bytes = h.bytes;
        is = h.is;
        events = events;
        of_log = subst (λ (r : List Record). AreEventsOf v r events) (sym (newest (map v.record_of past) rest (log_of names h.bytes) h.log)) f.of;
        gone = subst (λ (r : Option LogError). Gone v s events r stat before after) (sym (ap (λ (l : Log). l.refusal) h.log)) (gone events first (followed_none v comes past may rest.records));
        taken = taken events first;
        streamed = streamed events first;
      }

  -- it broke off before it heard any
  broken_none : (before : Option (List ℕ)) → s.broke [] → (events : List E) (refusal : Option LogError) → FirstOf events [] → BrokenOff v s.broke events refusal before before
  broken_none before k events refusal first = record { came = []; first = first; is = k; begins = begins_none [] before; written = begins_none (whole_text v events refusal) before }

  -- memory was wanting for the reader
  pub listened_none : (before : Option (List ℕ)) → s.broke [] → HasListened names v s told told end.NoMemory before before
  listened_none before k =
      let log = log_of names (unwrap_or told []) in
      listened told [] log end.NoMemory before before tt (record { bytes = unwrap_or told []; is = told_none told; log = refl })
      (λ events first all. inl (broken_none before k events log.refusal first))
      (λ events first e. absurd cc) (λ events first. streamed_none names v s events told end.NoMemory before before)

-- One more call.
module _ {E : Type 0} (names : List (List ℕ)) (v : Voice E) (s : Stages E) (comes : (rec : Record) (past : List E) → MayComeNext v rec past) (told left next_left : Option (List ℕ)) (old new : LogReader) (past : List E) (gathered rest : List ℕ)
    (before mid after : Option (List ℕ)) (may : MayCome v past) (reads : Reads names told left old (map v.record_of past)) (streams : Streams names v told left old past before mid) (has : Gathered (said v past) gathered before mid) where
  -- there is no further record
  pub listened_stopped : (halt : Stop) → GoesOn old new left next_left (Err halt) → ComesBehind old new left next_left rest (Err halt) → (saw_end old ≡ false → saw_end new ≡ true → IsAtEnd next_left)
      → (halt ≡ stop.Log error.Failed → (cut 10 (kept_bytes_of new) ≡ None) × (saw_end new ≡ false)) → Writes gathered rest mid after (Err halt) → s.heard past → HasListened names v s told next_left (stopped halt) before after
  listened_stopped (stop.Log why) l c e failed w k =
      let h = has_next names told left next_left old new (map v.record_of past) (Err why) reads l e in
      let none : Gathered (said v past) [] before after = subst (λ (t : List ℕ). Gathered (said v past) t before after) w.1 (gathered_less (said v past) gathered rest before mid after has w.0) in
      listened names v s comes told next_left past h.behind (stopped (stop.Log why)) before after may h.has (has_refused names v s told past before after why h k (all_written (said v past) before after none))
      (has_taken names v s.heard told left next_left old new past (stop.Log why) gathered rest before mid after reads l failed (λ h. failed_open names v told left next_left old new past rest before mid after why streams c l (λ same. failed (ap stop.Log same)) cc) k has w)
      (streamed_stopped names v s told left next_left old new past gathered rest before mid after (stop.Log why) streams c k has w)
  listened_stopped stop.Write l c e failed w k =
      let log = log_behind old (unwrap_or left []) in
      listened names v s comes told next_left past log end.WriteFault before after may (has_log names told left old (map v.record_of past) reads)
      (λ events first all. inl (begun v past before after s.heard events log.refusal first k (begins_gathered (said v past) gathered before mid after has w)))
      (λ events first e. absurd cc) (streamed_stopped names v s told left next_left old new past gathered rest before mid after stop.Write streams c k has w)

  -- memory was wanting for an event
  pub listened_wanting : (rec : Record) (event : E) → v.record_of event ≡ rec → v.may_come event past → Reads names told next_left new (rec ∷ map v.record_of past) → Comes old new left next_left rest (Ok (Some rec)) → Gathered gathered rest mid after
      → s.broke (event ∷ past) → HasListened names v s told next_left end.NoMemory before after
  listened_wanting rec event is m more c w k =
      let log = log_behind new (unwrap_or next_left []) in
      let h = has_log names told next_left new (rec ∷ map v.record_of past) more in
      listened names v s comes told next_left (event ∷ past) log end.NoMemory before after (m, may) (subst (λ (r : Record). Has names told (r ∷ map v.record_of past) log) (sym is) h)
      (λ events first all. inl (broken_off v past before after s.broke events log.refusal event first k (begins_front (said v past) rest before after (gathered_less (said v past) gathered rest before mid after has w))))
      (λ events first e. absurd cc) (streamed_wanting names v s told left next_left old new past gathered rest before mid after rec event streams c has w k)

  -- the log is at its end
  pub listened_finished : (stat : Ended) (last : Option (List ℕ)) → Goes old new left next_left (Ok None) → Comes old new left next_left rest (Ok None) → (saw_end old ≡ false → saw_end new ≡ true → IsAtEnd next_left) → Gathered gathered rest mid after
      → IsFinish stat → (stat ≢ end.NoMemory → s.ended past) → (stat ≡ end.NoMemory → s.cut_short past)
      → (stat ≡ end.Ok → last ≡ behind after (rest ++ v.last past)) → (stat ≡ end.WriteFault → Begins (rest ++ v.last past) after last) → (stat ≡ end.NoMemory → last ≡ after) → HasListened names v s told next_left stat before last
  listened_finished stat last l c e w f k b ok write memory =
      let h = has_next names told left next_left old new (map v.record_of past) (Ok None) reads l e in
      let less = gathered_less (said v past) gathered rest before mid after has w in
      listened names v s comes told next_left past h.behind stat before last may h.has (has_finished names v s told past before last stat h f k b after rest less ok write memory)
      (λ events first e. absurd (not_read_fault stat f e))
      (streamed_finished names v s told left next_left old new past gathered rest before mid after stat last (rest ++ v.last past) streams c k b has w f ok write memory)
