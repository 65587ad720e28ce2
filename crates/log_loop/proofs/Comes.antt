-- What came in a call, of which a reader has used all but the last bytes.
use Rattle.std.proofs.Common.{◌≡◌, ◌∙◌, inl, inr, ℕ, Bool, true, false, List, [], ◌++◌, Option, Some, None, Result, Ok, Err, refl, sym, subst, arith}
use Rattle.tail_frame.specs.declared.logged.Record.{Record}
use Rattle.frame_log.specs.Input.{Took}
use Rattle.frame_log.specs.Log.{Place}
use Rattle.frame_log.specs.Reader.{buses_of, place_of, kept_bytes_of, room_of, saw_end, given, AnswersKept}
use Rattle.frame_log.specs.Used.{Uses, UsesNext, UsesKept, IsBefore, IsBeforeKept}
use Rattle.frame_log.specs.declared.error.LogError.{LogError}
use Rattle.frame_log.specs.declared.error.LogError.TheVariants as error
use Rattle.frame_log.specs.declared.reader.LogReader.{LogReader}
use Rattle.frame_log.proofs.LogLemmas.{Took-none}
use Rattle.frame_log.proofs.UsedLemmas.{uses-none, uses-same, uses-later, passes-to, passes-came}
use Rattle.log_loop.specs.Next.{Goes, Comes, ComesBehind, handed}
use Rattle.log_loop.specs.declared.next.Stop.{Stop}
use Rattle.log_loop.specs.declared.next.Stop.TheVariants as stop

took_same : (before after : Option (List ℕ)) → after ≡ before → Took before after []
took_same before after e = subst (λ (o : Option (List ℕ)). Took before o []) (sym e) (Took-none before)

-- a record of the lines that are kept
pub goes_kept : (old new : LogReader) (left : Option (List ℕ)) (rec : Record) → AnswersKept old new (Ok (Some rec)) → saw_end new ≡ saw_end old → Goes old new left left (Ok (Some rec))
goes_kept old new left rec h e = record { came = []; took = Took-none left; ended = λ t. (refl, e ∙ t); next = λ rest _. h rest }

pub comes_kept : (old new : LogReader) (left : Option (List ℕ)) (gathered : List ℕ) (rec : Record) → UsesKept old new (Ok (Some rec)) → room_of new ≡ room_of old → Comes old new left left gathered (Ok (Some rec))
comes_kept old new left gathered rec u room = record {
  came = [];
  took = Took-none left;
  ended = λ _. refl;
  flushed = inl refl;
  used = λ _. uses-none (buses_of old) (place_of old) (kept_bytes_of old) (IsBefore (Ok (Some rec)) new)
      (uses-same (buses_of old) (place_of old) (kept_bytes_of old) (IsBeforeKept (Ok (Some rec)) new) (IsBefore (Ok (Some rec)) new) (λ at bytes gives _. gives) u);
  few = omega (arith, room);
}

-- a refusal among the lines that are kept
pub goes_refused : (old new : LogReader) (left : Option (List ℕ)) (e : LogError) → AnswersKept old new (Err e) → saw_end new ≡ saw_end old → Goes old new left left (Err e)
goes_refused old new left e h s = record { came = []; took = Took-none left; ended = λ t. (refl, s ∙ t); next = λ rest _. inl (h rest) }

refused_before : (e : LogError) (new : LogReader) (at : Place) (bytes : List ℕ) → (e ≡ error.Failed → ⊥) → IsBefore (Err e) new at bytes
refused_before (error.BadLine n) new at bytes d = tt
refused_before (error.TimeBack n) new at bytes d = tt
refused_before (error.UnknownBus n) new at bytes d = tt
refused_before (error.TooFar n) new at bytes d = tt
refused_before error.LogLong new at bytes d = tt
refused_before error.Failed new at bytes d = absurd (d refl)

pub comes_refused : (old new : LogReader) (left : Option (List ℕ)) (gathered : List ℕ) (e : LogError) → (e ≡ error.Failed → ⊥) → UsesKept old new (Err e) → room_of new ≡ room_of old → Comes old new left left gathered (Err e)
comes_refused old new left gathered e d u room = record {
  came = [];
  took = Took-none left;
  ended = λ _. refl;
  flushed = inl refl;
  used = λ _. uses-none (buses_of old) (place_of old) (kept_bytes_of old) (IsBefore (Err e) new)
      (uses-same (buses_of old) (place_of old) (kept_bytes_of old) (IsBeforeKept (Err e) new) (IsBefore (Err e) new) (λ at bytes _. refused_before e new at bytes d) u);
  few = omega (arith, room);
}

-- what a call gives that may read
pub comes_read : (old new : LogReader) (before after : Option (List ℕ)) (gathered : List ℕ) (answer : Result (Option Record) LogError)
    → UsesNext old new before after answer → (saw_end old ≡ true → after ≡ before) → gathered ≡ [] → Comes old new before after gathered answer
comes_read old new before after gathered answer n same none = by_end (saw_end old) refl
  where
    by_end : (b : Bool) → saw_end old ≡ b → Comes old new before after gathered answer
    by_end true e = record { came = []; took = took_same before after (same e); ended = λ _. refl; flushed = inr none; used = λ f. let bad : true ≡ false = sym e ∙ f in absurd cc; few = omega (arith, n.3) }
    by_end false e = record { came = n.0; took = n.1; ended = λ t. let bad : true ≡ false = sym t ∙ e in absurd cc; flushed = inr none; used = λ _. n.2; few = n.3 }

-- the same behind the lines that were kept
later : (old mid new : LogReader) (before after : Option (List ℕ)) (gathered : List ℕ) (answer : Result (Option Record) LogError) → UsesKept old mid (Ok None) → buses_of mid ≡ buses_of old → saw_end mid ≡ saw_end old
    → room_of mid ≡ room_of old → Comes mid new before after gathered answer → Comes old new before after gathered answer
later old mid new before after gathered answer u buses end room c = record {
  came = c.came;
  took = c.took;
  ended = λ e. c.ended (end ∙ e);
  flushed = c.flushed;
  used = λ e. uses-later (buses_of old) (place_of old) (place_of mid) (kept_bytes_of old ++ c.came) (kept_bytes_of mid ++ c.came) (IsBefore answer new)
      (passes-came (buses_of old) (place_of old) (place_of mid) (kept_bytes_of old) (kept_bytes_of mid) c.came (passes-to (buses_of old) (place_of old) (place_of mid) (kept_bytes_of old) (kept_bytes_of mid) u))
      (subst (λ (b : List (List ℕ)). Uses b (place_of mid) (kept_bytes_of mid ++ c.came) (IsBefore answer new)) buses (c.used (end ∙ e)));
  few = omega (arith, room, c.few);
}

pub comes_later : (old mid new : LogReader) (before after : Option (List ℕ)) (gathered : List ℕ) (answer : Result (Option Record) Stop) → UsesKept old mid (Ok None) → buses_of mid ≡ buses_of old
    → saw_end mid ≡ saw_end old → room_of mid ≡ room_of old → ComesBehind mid new before after gathered answer → ComesBehind old new before after gathered answer
comes_later old mid new before after gathered (Ok answer) u buses end room c = later old mid new before after gathered (Ok answer) u buses end room c
comes_later old mid new before after gathered (Err (stop.Log error)) u buses end room c = later old mid new before after gathered (Err error) u buses end room c
comes_later old mid new before after gathered (Err stop.Write) u buses end room c = c

-- the answer of a call that writes its record
pub comes_given : (old new : LogReader) (before after : Option (List ℕ)) (gathered : List ℕ) (written : Record) (more : Bool) → Comes old new before after gathered (given written (Ok more)) → ComesBehind old new before after gathered (handed written (Ok more))
comes_given old new before after gathered written true c = c
comes_given old new before after gathered written false c = c
