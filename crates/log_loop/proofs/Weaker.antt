-- What a loop over a log has written, whoever heard it.
use Rattle.std.proofs.Common.{inl, inr, ◌++◌, ℕ, List, Option}
use Rattle.std.specs.Prelude.{⊤}
use Rattle.frame_log.specs.Log.{log_of}
use Rattle.frame_log.specs.declared.error.LogError.{LogError}
use Rattle.log_loop.specs.Gone.{Stages, any_stages, Settled, Upto, Begun, BegunWhole, BrokenOff, CutShort, Gone}
use Rattle.log_loop.specs.Listened.{HasListened}
use Rattle.log_loop.specs.Streamed.{BreaksBehind, BrokeBehind, HearsBytes, IsStreamed}
use Rattle.log_loop.specs.Taken.{IsOfTaken}
use Rattle.log_loop.specs.Voice.{Voice}
use Rattle.log_loop.specs.declared.ended.Ended.{Ended}
use Rattle.log_loop.specs.declared.ended.Ended.TheVariants as end

module _ {E : Type 0} (names : List (List ℕ)) (v : Voice E) (s : Stages E) (events : List E) (before after : Option (List ℕ)) where
  settled : (done : List E → Type 0) (refusal : Option LogError) → Settled v done events refusal before after → Settled v (λ past. ⊤) events refusal before after
  settled done refusal h = record { hears = tt; written = h.written }

  upto : Upto v s.heard events before after → Upto v (λ past. ⊤) events before after
  upto u = record { came = u.came; first = u.first; hears = tt; written = u.written }

  begun : (done : List E → Type 0) (refusal : Option LogError) → Begun v done events refusal before after → Begun v (λ past. ⊤) events refusal before after
  begun done refusal b = record { came = b.came; first = b.first; is = tt; begins = b.begins; written = b.written }

  begun_whole : (done : List E → Type 0) (refusal : Option LogError) → BegunWhole v done events refusal before after → BegunWhole v (λ past. ⊤) events refusal before after
  begun_whole done refusal b = record { is = tt; read = b.read; written = b.written }

  broken_off : (refusal : Option LogError) → BrokenOff v s.broke events refusal before after → BrokenOff v (λ past. ⊤) events refusal before after
  broken_off refusal b = record { came = b.came; first = b.first; is = tt; begins = b.begins; written = b.written }

  cut_short : (refusal : Option LogError) → CutShort v s.cut_short events refusal before after → CutShort v (λ past. ⊤) events refusal before after
  cut_short refusal b = record { is = tt; read = b.read; begins = b.begins; written = b.written }

  gone : (refusal : Option LogError) (how : Ended) → Gone v s events refusal how before after → Gone v (any_stages E) events refusal how before after
  gone refusal end.Ok g = (g.0, settled s.ended refusal g.1)
  gone refusal (end.Log line why) g = (g.0, settled s.heard refusal g.1)
  gone refusal end.LogLong g = (g.0, settled s.heard refusal g.1)
  gone refusal end.ReadFault g = upto g
  gone refusal end.WriteFault (inl g) = inl (begun s.heard refusal g)
  gone refusal end.WriteFault (inr g) = inr (begun_whole s.ended refusal g)
  gone refusal end.NoMemory (inl g) = inl (broken_off refusal g)
  gone refusal end.NoMemory (inr g) = inr (cut_short refusal g)

  of_taken : (told new : Option (List ℕ)) → IsOfTaken names v s.heard events told new before after → IsOfTaken names v (λ past. ⊤) events told new before after
  of_taken told new t = record { taken = t.taken; took = t.took; came = t.came; are = t.are; hears = tt; written = t.written }

  hears_bytes : (bytes : List ℕ) → HearsBytes names v s events bytes → HearsBytes names v (any_stages E) events bytes
  hears_bytes bytes h = record { came = h.came; are = h.are; hears = record { newer = h.hears.newer; first = h.hears.first; hears = inl tt } }

  broke_behind : (past : List E) → BrokeBehind s events past → BrokeBehind (any_stages E) events past
  broke_behind past (inl b) = inl (record { next = b.next; first = b.first; is = tt })
  broke_behind past (inr c) = inr (c.0, tt)

  breaks_behind : (bytes : List ℕ) → BreaksBehind names v s events bytes → BreaksBehind names v (any_stages E) events bytes
  breaks_behind bytes b = record { came = b.came; are = b.are; newer = b.newer; broke = broke_behind (b.newer ++ b.came) b.broke }

  streamed : (told new : Option (List ℕ)) (how : Ended) → IsStreamed names v s events told new how before after → IsStreamed names v (any_stages E) events told new how before after
  streamed told new how t = record {
    taken = t.taken;
    took = t.took;
    few = t.few;
    written = t.written;
    hears = λ n front more e long. hears_bytes front (t.hears n front more e long);
    broke = λ n front more e long. breaks_behind front (t.broke n front more e long);
  }

pub has_listened : {E : Type 0} (names : List (List ℕ)) (v : Voice E) (s : Stages E) (told new : Option (List ℕ)) (how : Ended) (before after : Option (List ℕ)) → HasListened names v s told new how before after
    → HasListened names v (any_stages E) told new how before after
has_listened names v s told new how before after h = record {
  bytes = h.bytes;
  is = h.is;
  events = h.events;
  of_log = h.of_log;
  gone = gone names v s h.events before after (log_of names h.bytes).refusal how h.gone;
  taken = λ fault. of_taken names v s h.events before after told new (h.taken fault);
  streamed = streamed names v s h.events before after told new how h.streamed;
}
