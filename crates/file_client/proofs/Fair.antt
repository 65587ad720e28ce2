-- Over a fair list the bytes are a front of the file
use Rattle.std.proofs.Common.{◌≡◌, ℕ, ◌+◌, ◌-◌, ◌<◌, List, [], ◌∷◌, ◌++◌, length, take, drop, get_or, min, Option, Some, None, refl, sym, ap, ◌∙◌, take_all, length-append, length-take, length-drop, arith}
use Rattle.std.proofs.Math.Seq.{take-add}
use Rattle.file_client.specs.Fetch.{Event, reply, late, State, begin, tid_of, offset_of, ask, finish, on_late, on_piece, on_reply, step_after, fetched}
use Rattle.file_client.specs.Laws.{IsFairReply, IsFairEvent, IsFair}
use Rattle.file_client.specs.declared.event.FetchOut.{FetchOut}
use Rattle.file_client.specs.declared.event.FetchOut.TheVariants.{Done, Refused, GaveUp, TooLong}
use Rattle.file_client.proofs.Steps.{later, ended_by, grown_by, late_cases, piece_cases, reply_cases}

-- what holds of each state
pub record Served (file : List ℕ) (limit : ℕ) (s : State) : Type 0 where
  pub front : s.file ≡ take (offset_of s) file
  -- the request that is out is at the offset of the bytes so far
  pub out : s.end ≡ None → get_or s.asked 0 0 ≡ offset_of s
  pub asked : 0 < length s.asked
  pub whole : s.end ≡ Some Done → s.file ≡ file
  pub never_refused : (code : ℕ) → s.end ≡ Some (Refused code) → ⊥
  pub long_file : (n : ℕ) → s.end ≡ Some (TooLong n) → limit < length file

-- and of each answer
pub record Serves (file : List ℕ) (limit : ℕ) (v : State × FetchOut) : Type 0 where
  pub state : Served file limit v.0
  pub never_refused : (code : ℕ) → v.1 ≡ Refused code → ⊥
  pub long_file : (n : ℕ) → v.1 ≡ TooLong n → limit < length file

module _ (file : List ℕ) (limit : ℕ) where
  some_inj : (a b : FetchOut) → Some a ≡ Some b → a ≡ b
  some_inj a b e = cc

  started : Served file limit begin
  started = record {
    front = refl;
    out = λ _. refl;
    asked = omega arith;
    whole = λ e. cc;
    never_refused = λ code e. cc;
    long_file = λ n e. cc;
  }

  asks : (s : State) → s.file ≡ take (offset_of s) file → s.end ≡ None → Serves file limit (ask s)
  asks s front none = record {
    state = record {
      front = front;
      out = λ _. refl;
      asked = omega arith;
      whole = λ e. cc;
      never_refused = λ code e. cc;
      long_file = λ n e. cc;
    };
    never_refused = λ code e. cc;
    long_file = λ n e. cc;
  }

  finishes : (s : State) (out : FetchOut) → 0 < length s.asked → s.file ≡ take (offset_of s) file → (out ≡ Done → s.file ≡ file) → ((code : ℕ) → out ≡ Refused code → ⊥) → ((n : ℕ) → out ≡ TooLong n → limit < length file) → Serves file limit (finish s out)
  finishes s out asked front whole never long = record {
    state = record {
      front = front;
      out = λ e. cc;
      asked = asked;
      whole = λ e. whole (some_inj out Done e);
      never_refused = λ code e. never code (some_inj out (Refused code) e);
      long_file = λ n e. long n (some_inj out (TooLong n) e);
    };
    never_refused = never;
    long_file = long;
  }

  late_serves : (s : State) → s.end ≡ None → Served file limit s → Serves file limit (on_late s)
  late_serves s none sv =
      late_cases s (Serves file limit)
      (λ _. finishes s (GaveUp (offset_of s)) sv.asked sv.front (λ e. cc) (λ code e. cc) (λ n e. cc))
      (λ _. asks (later s) sv.front none)

  piece_serves : (s : State) (bytes : List ℕ) → s.end ≡ None → Served file limit s → bytes ≡ take 256 (drop (offset_of s) file) → Serves file limit (on_piece limit s bytes)
  piece_serves s bytes none sv b =
      let n = offset_of s in
      let so_far : length s.file ≡ min n (length file) = ap length sv.front ∙ length-take n file in
      let came : length bytes ≡ min 256 (length file - n) = ap length b ∙ (length-take 256 (drop n file) ∙ ap (min 256) (length-drop n file)) in
      let long = length-append s.file bytes in
      let grown : s.file ++ bytes ≡ take (n + 256) file = ap (λ f. f ++ bytes) sv.front ∙ (ap (λ x. take n file ++ x) b ∙ sym (take-add n 256 file)) in
      piece_cases limit s bytes (Serves file limit)
      (λ above. finishes s (TooLong (n + length bytes)) sv.asked sv.front (λ e. cc) (λ code e. cc) (λ m e. omega (arith, so_far, came, above)))
      (λ _ short.
      let all : s.file ++ bytes ≡ file = grown ∙ take_all (n + 256) file (omega (arith, came, short)) in
      let same = ap length all in
      finishes (ended_by s bytes) Done sv.asked (all ∙ sym (take_all (length (s.file ++ bytes)) file (omega (arith, same)))) (λ _. all) (λ code e. cc) (λ m e. cc))
      (λ _ full. asks (grown_by s bytes) (grown ∙ ap (λ k. take k file) (omega (arith, came, full, long))) none)

  -- a fair reply to the request that is out has the bytes at its offset
  bytes_at : (s : State) (tid code : ℕ) (bytes : List ℕ) → s.end ≡ None → Served file limit s → IsFairReply file s tid code bytes → tid ≡ tid_of s → bytes ≡ take 256 (drop (offset_of s) file)
  bytes_at s tid code bytes none sv f same =
      let newest : f.newer ≡ 0 = omega (arith, f.recent, f.made, f.tid_is, same) in
      f.bytes_are ∙ ap (λ o. take 256 (drop o file)) (ap (λ k. get_or s.asked k 0) newest ∙ sv.out none)

  reply_serves : (s : State) (tid code : ℕ) (bytes : List ℕ) → s.end ≡ None → Served file limit s → IsFairReply file s tid code bytes → Serves file limit (on_reply limit s tid code bytes)
  reply_serves s tid code bytes none sv f =
      reply_cases limit s tid code bytes (Serves file limit)
      (λ _. record { state = sv; never_refused = λ code e. cc; long_file = λ n e. cc })
      (λ _ wrong. absurd (wrong f.code_is))
      (λ same _. piece_serves s bytes none sv (bytes_at s tid code bytes none sv f same))

  serves_after : (o : Option FetchOut) (s : State) (e : Event) → s.end ≡ o → Served file limit s → IsFairEvent file s e → Serves file limit (step_after limit o s e)
  serves_after None s (reply tid code bytes) none sv f = reply_serves s tid code bytes none sv f
  serves_after None s late none sv f = late_serves s none sv
  serves_after (Some out) s e is sv f = record {
    state = sv;
    never_refused = λ code q. sv.never_refused code (is ∙ ap (λ x. Some x) q);
    long_file = λ n q. sv.long_file n (is ∙ ap (λ x. Some x) q);
  }

  pub served : (past : List Event) → IsFair file limit past → Served file limit (fetched limit past)
  served [] f = started
  served (e ∷ past) f = (serves_after (fetched limit past).end (fetched limit past) e refl (served past f.1) f.0).state

  pub serves : (e : Event) (past : List Event) → IsFair file limit (e ∷ past) → Serves file limit (step_after limit (fetched limit past).end (fetched limit past) e)
  serves e past f = serves_after (fetched limit past).end (fetched limit past) e refl (served past f.1) f.0
