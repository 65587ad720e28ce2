-- From what is said on the events that came to a whole run.
use Rattle.std.specs.Prelude.{◌≢◌, unwrap_or, IfSome}
use Rattle.std.proofs.Common.{◌≡◌, ◌∙◌, ◌^◌, ℕ, List, [], ◌∷◌, ◌++◌, ◌<◌, ◌≤◌, true, false, length, map, Option, Some, None, Ok, Err, All, refl, sym, ap, subst, append_assoc, append-nil, inl, inr, arith}
use mathlib.Core.List.{reverse_aux}
use Rattle.tail_frame.specs.declared.logged.Record.{Record}
use Rattle.cy_outside.specs.Written.{behind, Begins}
use Rattle.frame_log.specs.Log.{Log, ended as ended_by, log_of, start}
use Rattle.frame_log.specs.Order.{IsAhead, IsFit}
use Rattle.frame_log.specs.Input.{Took}
use Rattle.frame_log.specs.Line.{cut}
use Rattle.frame_log.specs.Reader.{buses_of, bytes_left, kept_bytes_of, place_of, saw_end, log_behind}
use Rattle.frame_log.specs.declared.reader.LogReader.{LogReader}
use Rattle.frame_log.specs.declared.error.LogError.{LogError}
use Rattle.frame_log.specs.declared.error.LogError.TheVariants as error
use Rattle.gathered_text.specs.Gathered.{Gathered}
use Rattle.log_loop.specs.Next.{GoesOn, Writes}
use Rattle.log_loop.specs.Taken.{whole_records, IsOfTaken, NoneRefused}
use Rattle.log_loop.specs.declared.next.Stop.{Stop}
use Rattle.log_loop.specs.declared.next.Stop.TheVariants as stop
use Rattle.log_loop.proofs.Events.{first_of, said_first}
use Rattle.log_loop.proofs.Logs.{newest_onto, latest_of, line_of, ahead_in, all_in}
use Rattle.log_loop.proofs.Written.{begins_more, begins_front, begins_end, gathered_end, gathered_less, gathered_more, all_written}
use Rattle.log_loop.proofs.Opens.{open_taken}
use Rattle.log_loop.proofs.Taken.{fill, plain_fill, length_fill, plain_cut, records_whole, none_behind}
use Rattle.log_loop.proofs.Came.{took_more, log_after, Reads, HasNext}
use Rattle.log_loop.specs.declared.ended.Ended.{Ended}
use Rattle.log_loop.specs.declared.ended.Ended.TheVariants as end
use Rattle.log_loop.specs.Voice.{Voice, said, end_part, whole_text}
use Rattle.log_loop.specs.Gone.{FirstOf, Stages, Settled, Begun, BegunWhole, BrokenOff, CutShort, Gone, IsFinish, refused, stopped}

module _ {E : Type 0} (v : Voice E) (past : List E) (before after : Option (List ℕ)) where
  -- a beginning of what was said is one of all that will be
  begins_whole : (events : List E) (refusal : Option LogError) → FirstOf events past → Begins (said v past) before after → Begins (whole_text v events refusal) before after
  begins_whole events refusal first b =
      let f = said_first v first.newer past in
      let tail = end_part v events refusal in
      subst (λ s. Begins s before after)
      (sym (ap (λ s. s ++ tail) (ap (said v) first.parts ∙ f.1) ∙ append_assoc (said v past) f.0 tail))
      (begins_more (said v past) (f.0 ++ tail) before after b)

  -- this holds of the first events
  pub begun : (done : List E → Type 0) (events : List E) (refusal : Option LogError) → FirstOf events past → done past → Begins (said v past) before after → Begun v done events refusal before after
  begun done events refusal first k b = record { came = past; first = first; is = k; begins = b; written = begins_whole events refusal first b }

  -- it broke off on one more event
  pub broken_off : (broke : List E → Type 0) (events : List E) (refusal : Option LogError) (event : E) → FirstOf events (event ∷ past) → broke (event ∷ past) → Begins (said v past) before after → BrokenOff v broke events refusal before after
  broken_off broke events refusal event first k b =
      record { came = event ∷ past; first = first; is = k; begins = b; written = begins_whole events refusal (first_of events (event ∷ past) (event ∷ []) past first refl) b }

  -- it broke off in its last words behind all events
  cut_short : (cut : List E → Type 0) (events : List E) → events ≡ past → cut past → Begins (said v past) before after → CutShort v cut events None before after
  cut_short cut events e k b = record {
    is = subst cut (sym e) k;
    read = refl;
    begins = subst (λ (t : List E). Begins (said v t) before after) (sym e) b;
    written = subst (λ (t : List E). Begins (whole_text v t None) before after) (sym e) (begins_more (said v past) (v.last past) before after b);
  }

  -- this holds of all events
  settled : (done : List E → Type 0) (events : List E) (refusal : Option LogError) → events ≡ past → done past → after ≡ behind before (whole_text v past refusal) → Settled v done events refusal before after
  settled done events refusal e k s = record {
    hears = subst done (sym e) k;
    written = s ∙ ap (behind before) (sym (ap (λ (t : List E). whole_text v t refusal) e));
  }

  begun_whole : (done : List E → Type 0) (events : List E) (refusal : Option LogError) → events ≡ past → refusal ≡ None → done past → Begins (whole_text v past refusal) before after → BegunWhole v done events refusal before after
  begun_whole done events refusal e r k b = record {
    is = subst done (sym e) k;
    read = r;
    written = subst (λ (t : List E). Begins (whole_text v t refusal) before after) (sym e) b;
  }

-- this is what was done over the log of these events, of which some came before those of the rest
abbrev pub HasGone : {E : Type 0} → Voice E → Stages E → List E → Log → Ended → Option (List ℕ) → Option (List ℕ) → Type 0
HasGone {E} v s past rest stat before after = (events : List E) → FirstOf events past → (rest.records ≡ [] → events ≡ past) → Gone v s events rest.refusal stat before after

module _ {E : Type 0} (names : List (List ℕ)) (v : Voice E) (s : Stages E) (told : Option (List ℕ)) (past : List E) (before after : Option (List ℕ)) where
  gone_refused : (e : LogError) → (h : HasNext names told (map v.record_of past) (Err e)) → (e ≡ error.Failed → ⊥) → s.heard past → after ≡ behind before (said v past)
      → (events : List E) → (h.behind.records ≡ [] → events ≡ past) → (h.behind.refusal ≡ Some e) × Settled v s.heard events h.behind.refusal before after
  gone_refused e h differs k w events all =
      let is : h.behind ≡ ended_by (Some e) = elim h.next [ inl x ↦ x | inr x ↦ absurd (differs x.0) ] in
      let refusal : h.behind.refusal ≡ Some e = ap (λ (l : Log). l.refusal) is in (
        refusal,
        subst (λ (r : Option LogError). Settled v s.heard events r before after) (sym refusal)
            (settled v past before after s.heard events (Some e) (all (ap (λ (l : Log). l.records) is)) k (w ∙ ap (behind before) (sym (append-nil (said v past))))),
      )

  pub has_refused : (e : LogError) → (h : HasNext names told (map v.record_of past) (Err e)) → s.heard past → after ≡ behind before (said v past) → HasGone v s past h.behind (refused e) before after
  has_refused (error.BadLine n) h k w events first all = gone_refused (error.BadLine n) h (λ e. cc) k w events all
  has_refused (error.TimeBack n) h k w events first all = gone_refused (error.TimeBack n) h (λ e. cc) k w events all
  has_refused (error.UnknownBus n) h k w events first all = gone_refused (error.UnknownBus n) h (λ e. cc) k w events all
  has_refused (error.TooFar n) h k w events first all = gone_refused (error.TooFar n) h (λ e. cc) k w events all
  has_refused error.LogLong h k w events first all = gone_refused error.LogLong h (λ e. cc) k w events all
  has_refused error.Failed h k w events first all = record { came = past; first = first; hears = k; written = w }

  pub has_finished : (stat : Ended) → (h : HasNext names told (map v.record_of past) (Ok None)) → IsFinish stat → (stat ≢ end.NoMemory → s.ended past) → (stat ≡ end.NoMemory → s.cut_short past) → (mid : Option (List ℕ)) (gathered : List ℕ)
      → Gathered (said v past) gathered before mid
      → (stat ≡ end.Ok → after ≡ behind mid (gathered ++ v.last past)) → (stat ≡ end.WriteFault → Begins (gathered ++ v.last past) mid after)
      → (stat ≡ end.NoMemory → after ≡ mid) → HasGone v s past h.behind stat before after
  has_finished stat h f k b mid gathered g ok write memory events first all =
      let none : h.behind.refusal ≡ None = ap (λ (l : Log). l.refusal) h.next in
      subst (λ (r : Option LogError). Gone v s events r stat before after) (sym none) (by_end stat f k b ok write memory (all (ap (λ (l : Log). l.records) h.next)))
    where
      by_end : (stat : Ended) → IsFinish stat → (stat ≢ end.NoMemory → s.ended past) → (stat ≡ end.NoMemory → s.cut_short past)
          → (stat ≡ end.Ok → after ≡ behind mid (gathered ++ v.last past)) → (stat ≡ end.WriteFault → Begins (gathered ++ v.last past) mid after)
          → (stat ≡ end.NoMemory → after ≡ mid) → events ≡ past → Gone v s events None stat before after
      by_end end.Ok f k b ok write memory e = (refl, settled v past before after s.ended events None e (k (λ e. cc)) (gathered_end (said v past) gathered (v.last past) before mid after g (ok refl)))
      by_end end.WriteFault f k b ok write memory e =
          inr (begun_whole v past before after s.ended events None e refl (k (λ e. cc)) (begins_end (said v past) gathered (v.last past) before mid after g (write refl)))
      by_end end.NoMemory f k b ok write memory e =
          inr (cut_short v past before after s.cut_short events e (b refl) (subst (λ o. Begins (said v past) before o) (sym (memory refl)) (begins_front (said v past) gathered before mid g)))
      by_end (end.Log line why) f k b ok write memory e = absurd f
      by_end end.LogLong f k b ok write memory e = absurd f
      by_end end.ReadFault f k b ok write memory e = absurd f

-- a record is behind those before it
pub next_order : ((buses : List (List ℕ)) (bytes : List ℕ) → IsAhead 0 0 (log_of buses bytes).records) → (names : List (List ℕ)) (told left : Option (List ℕ)) (reader : LogReader) (past : List Record) (rec : Record)
    → Reads names told left reader (rec ∷ past) → (latest_of past ≤ rec.moment) × (line_of past < rec.line)
next_order law names told left reader past rec r =
    let is = r.log [] (λ _. refl) in
    let all : IsAhead 0 0 (reverse_aux past (rec ∷ (log_behind reader []).records)) = subst (λ (l : Log). IsAhead 0 0 l.records) is (law names (r.came ++ [])) in
    let a = ahead_in past (rec ∷ (log_behind reader []).records) all in (a.0.0, a.0.1)

-- and has a moment below 10 ^ 18
pub next_low : ((buses : List (List ℕ)) (bytes : List ℕ) → All (IsFit buses) (log_of buses bytes).records) → (names : List (List ℕ)) (told left : Option (List ℕ)) (reader : LogReader) (past : List Record) (rec : Record)
    → Reads names told left reader (rec ∷ past) → rec.moment < 10 ^ 18
next_low law names told left reader past rec r =
    let is = r.log [] (λ _. refl) in
    let all : All (IsFit names) (reverse_aux past (rec ∷ (log_behind reader []).records)) = subst (λ (l : Log). All (IsFit names) l.records) is (law names (r.came ++ [])) in
    let a = all_in (IsFit names) past (rec ∷ (log_behind reader []).records) all in (a 0 rec (omega arith)).3

-- the text of one more event is gathered
pub gathered_step : {E : Type 0} (v : Voice E) (past : List E) (event : E) (gathered next : List ℕ) (before after : Option (List ℕ)) → Gathered (said v past) gathered before after
    → next ≡ gathered ++ v.step event past → Gathered (said v (event ∷ past)) next before after
gathered_step v past event gathered next before after g e =
    subst (λ (n : List ℕ). Gathered (said v (event ∷ past)) n before after) (sym e) (gathered_more (said v past) gathered (v.step event past) before after g)

-- a run whose input failed
pub has_taken : {E : Type 0} (names : List (List ℕ)) (v : Voice E) (heard : List E → Type 0) (told left next_left : Option (List ℕ)) (old new : LogReader) (past : List E) (halt : Stop) (gathered rest : List ℕ) (before mid after : Option (List ℕ))
    → Reads names told left old (map v.record_of past) → GoesOn old new left next_left (Err halt) → (halt ≡ stop.Log error.Failed → (cut 10 (kept_bytes_of new) ≡ None) × (saw_end new ≡ false))
    → (halt ≡ stop.Log error.Failed → (bytes : List ℕ) × Took told next_left bytes × NoneRefused names bytes)
    → heard past → Gathered (said v past) gathered before mid → Writes gathered rest mid after (Err halt) → (events : List E) → FirstOf events past → stopped halt ≡ end.ReadFault → IsOfTaken names v heard events told next_left before after
has_taken names v heard told left next_left old new past (stop.Log error.Failed) gathered rest before mid after r g failed unrefused k h w events first e =
    let records = map v.record_of past in
    let f = failed refl in
    let tail = fill 4097 in
    let plain = plain_fill 4097 in
    let size : length tail ≡ 4097 = length_fill 4097 in
    let long : 4096 < length tail = omega arith in
    let is_open : saw_end new ≡ true → tail ≡ [] = λ t. let bad : true ≡ false = sym t ∙ f.1 in absurd cc in
    let whole = log_after names told left next_left old new records (Err error.Failed) r g tail is_open in
    let next = g.next tail is_open in
    let none : (log_behind old (g.came ++ tail)).records ≡ [] = elim next [
      | inl x ↦ ap (λ (l : Log). l.records) x
      | inr x ↦ ap (λ (l : Log). l.records) x.1 ∙ none_behind (buses_of new) (bytes_left new) (kept_bytes_of new) tail (place_of new) (plain_cut (kept_bytes_of new) f.0) plain long
    ] in
    let of_lines = records_whole names (2 ^ 28) (r.came ++ g.came) tail start plain long in
    let same : whole_records names (r.came ++ g.came) ≡ records = ap (λ (t : List Record). reverse_aux t []) (sym of_lines ∙ (ap (λ (l : Log). l.records) whole ∙ ap (reverse_aux records) none)) ∙ newest_onto records [] in
    let others = unrefused refl in
    let front = open_taken names told next_left (r.came ++ g.came) others.0 (took_more told left next_left r.came g.came r.took g.took) others.1 others.2 in
    let empty : Gathered (said v past) [] before after = subst (λ (t : List ℕ). Gathered (said v past) t before after) w.1 (gathered_less (said v past) gathered rest before mid after h w.0) in record {
      taken = front.taken;
      took = front.took;
      came = past;
      are = record { unrefused = front.unrefused; first = first; records_are = sym (front.same ∙ same) };
      hears = k;
      written = all_written (said v past) before after empty;
    }
has_taken names v heard told left next_left old new past (stop.Log (error.BadLine n)) gathered rest before mid after r g failed unrefused k h w events first e = absurd cc
has_taken names v heard told left next_left old new past (stop.Log (error.TimeBack n)) gathered rest before mid after r g failed unrefused k h w events first e = absurd cc
has_taken names v heard told left next_left old new past (stop.Log (error.UnknownBus n)) gathered rest before mid after r g failed unrefused k h w events first e = absurd cc
has_taken names v heard told left next_left old new past (stop.Log (error.TooFar n)) gathered rest before mid after r g failed unrefused k h w events first e = absurd cc
has_taken names v heard told left next_left old new past (stop.Log error.LogLong) gathered rest before mid after r g failed unrefused k h w events first e = absurd cc
has_taken names v heard told left next_left old new past stop.Write gathered rest before mid after r g failed unrefused k h w events first e = absurd cc

pub not_read_fault : (stat : Ended) → IsFinish stat → stat ≡ end.ReadFault → ⊥
not_read_fault stat f e = subst IsFinish e f

pub told_none : (told : Option (List ℕ)) → IfSome told (λ (left : List ℕ). unwrap_or told [] ≡ left)
told_none None = tt
told_none (Some left) = refl
