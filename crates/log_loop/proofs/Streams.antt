-- How far the input was taken before what is said on it was written.
use Rattle.std.proofs.Common.{◌≡◌, ◌∙◌, ◌⊎◌, inl, inr, ◌+◌, ◌<◌, ◌≤◌, ◌^◌, ℕ, Bool, true, false, List, [], ◌∷◌, ◌++◌, length, take, drop, map, Option, Some, None, Result, Ok, Err, refl, sym, ap, subst, append_assoc, append-nil, length-append, arith}
use Rattle.std.specs.Prelude.{◌==◌, ◌≢◌, if◌then◌else◌}
use Rattle.std.proofs.lemmas.List.{take-append-drop}
use mathlib.Core.List.{reverse_aux}
use Rattle.tail_frame.specs.declared.logged.Record.{Record}
use Rattle.cy_outside.specs.Written.{behind, Begins}
use Rattle.frame_log.specs.Input.{Took}
use Rattle.frame_log.specs.Line.{cut}
use Rattle.frame_log.specs.Log.{Log, Place, Given, Skip, Take, Refuse, followed, given, lines_of, log_of_lines, with_byte, start}
use Rattle.frame_log.specs.Reader.{buses_of, place_of, kept_bytes_of, room_of, saw_end}
use Rattle.frame_log.specs.Used.{Passes, Gives, Uses, IsBefore, beyond}
use Rattle.frame_log.specs.declared.error.LogError.{LogError}
use Rattle.frame_log.specs.declared.error.LogError.TheVariants as error
use Rattle.frame_log.specs.declared.reader.LogReader.{LogReader}
use Rattle.frame_log.proofs.LogLemmas.{Took-none}
use Rattle.frame_log.proofs.UsedLemmas.{lines_of-whole, lines_of-one, cut-parts}
use Rattle.gathered_text.specs.Gathered.{Gathered}
use Rattle.log_loop.specs.Next.{Goes, Comes, ComesBehind, Writes}
use Rattle.log_loop.specs.Taken.{NoneRefused, whole_records}
use Rattle.log_loop.specs.declared.next.Stop.{Stop}
use Rattle.log_loop.specs.declared.next.Stop.TheVariants as stop
use Rattle.log_loop.proofs.Came.{took_more}
use Rattle.log_loop.proofs.Opens.{lines_open}
use Rattle.log_loop.proofs.Taken.{IsPlain, lines_of_more, plain_cut}
use Rattle.log_loop.proofs.Events.{first_of, oldest, said_first}
use Rattle.log_loop.proofs.Logs.{onto, newest_onto}
use Rattle.log_loop.proofs.Written.{behind_none, behind_more, all_written, gathered_less}
use Rattle.log_loop.specs.declared.ended.Ended.{Ended}
use Rattle.log_loop.specs.declared.ended.Ended.TheVariants as end
use Rattle.log_loop.specs.Voice.{Voice, said}
use Rattle.log_loop.specs.Streamed.{BreaksBehind, BrokeBehind, HasWritten, HasSaid, HearsBytes, IsStreamed}
use Rattle.log_loop.specs.Gone.{FirstOf, HeardOrEnded, Stages, IsFinish, stopped}

-- Lists.

reverse_append : {A : Type 0} (a b c : List A) → reverse_aux (a ++ b) c ≡ reverse_aux b (reverse_aux a c)
reverse_append [] b c = refl
reverse_append (x ∷ a) b c = reverse_append a b (x ∷ c)

-- what is turned round stands before the rest
reverse_before : {A : Type 0} (a b : List A) → reverse_aux a b ≡ reverse_aux a [] ++ b
reverse_before [] b = refl
reverse_before (x ∷ a) b =
    reverse_before a (x ∷ b) ∙ (sym (append_assoc (reverse_aux a []) (x ∷ []) b) ∙ ap (λ t. t ++ b) (sym (reverse_before a (x ∷ []))))

-- a front with more behind it than a whole has behind its own front is a front of that one
front_within : (front more whole rest : List ℕ) → front ++ more ≡ whole ++ rest → length rest ≤ length more → (k : List ℕ) × (whole ≡ front ++ k)
front_within [] more whole rest e h = (whole, refl)
front_within (x ∷ front) more [] rest e h =
    let size : length (x ∷ (front ++ more)) ≡ length rest = ap (λ (l : List ℕ). length l) e in
    let sum : length (front ++ more) ≡ length front + length more = length-append front more in absurd (omega arith)
front_within (x ∷ front) more (y ∷ whole) rest e h =
    let same : x ≡ y = cc in
    let tails : front ++ more ≡ whole ++ rest = cc in
    let k = front_within front more whole rest tails h in (k.0, ap (λ b. b ∷ whole) (sym same) ∙ ap (λ t. x ∷ t) k.1)

-- Lines.

byte_before : (b : ℕ) (front : List (List ℕ) × List ℕ) (whole : List (List ℕ) × List ℕ) (more : List (List ℕ)) → whole.0 ≡ front.0 ++ more → (rest : List (List ℕ)) × ((with_byte b whole).0 ≡ (with_byte b front).0 ++ rest)
byte_before b ([], tail) whole more e = ((with_byte b whole).0, refl)
byte_before b (l ∷ ls, tail) ([], t) more e = absurd cc
byte_before b (l ∷ ls, tail) (m ∷ ms, t) more e =
    let head : m ≡ l = cc in
    let rest : ms ≡ ls ++ more = cc in (more, ap (λ (x : List ℕ). (b ∷ x) ∷ ms) head ∙ ap (λ t. (b ∷ l) ∷ t) rest)

either_before : (t : Bool) (b : ℕ) (front whole : List (List ℕ) × List ℕ) (more : List (List ℕ)) → whole.0 ≡ front.0 ++ more
    → (rest : List (List ℕ)) × ((if t then ([] ∷ whole.0, whole.1) else with_byte b whole).0 ≡ (if t then ([] ∷ front.0, front.1) else with_byte b front).0 ++ rest)
either_before true b front whole more e = (more, ap (λ t. [] ∷ t) e)
either_before false b front whole more e = byte_before b front whole more e

-- the lines that end in a front are the first of all
lines_before : (front k : List ℕ) → (more : List (List ℕ)) × ((lines_of (front ++ k)).0 ≡ (lines_of front).0 ++ more)
lines_before [] k = ((lines_of k).0, refl)
lines_before (b ∷ front) k = let i = lines_before front k in either_before (b == 10) b (lines_of front) (lines_of (front ++ k)) i.0 i.1

-- the records of the first lines are the first of all
given_before : (g : Given) (f h : Place → Log) → ((at : Place) → (more : List Record) × ((f at).records ≡ (h at).records ++ more)) → (more : List Record) × ((followed g f).records ≡ (followed g h).records ++ more)
given_before (Skip at) f h i = i at
given_before (Take r at) f h i = let n = i at in (n.0, ap (λ t. r ∷ t) n.1)
given_before (Refuse e) f h i = ([], refl)

records_before : (names : List (List ℕ)) (o r : Option LogError) (first others : List (List ℕ)) (at : Place) → (more : List Record) × ((log_of_lines names o (first ++ others) at).records ≡ (log_of_lines names r first at).records ++ more)
records_before names o r [] others at = ((log_of_lines names o others at).records, refl)
records_before names o r (l ∷ first) others at = given_before (given names at l) _ _ (λ new. records_before names o r first others new)

-- the first of these bytes are whole lines, which give these records and lead to a place
pub record Whole (names : List (List ℕ)) (bytes : List ℕ) (past : List Record) (at : Place) : Type 0 where
  pub whole : (lines_of bytes).1 ≡ []
  pub leads : (refusal : Option LogError) (ls : List (List ℕ)) → log_of_lines names refusal ((lines_of bytes).0 ++ ls) start ≡ onto past (log_of_lines names refusal ls at)

-- the lines of a front, of which 2 ^ 28 bytes count, are the first of all
front_lines : (bytes front k : List ℕ) → bytes ≡ front ++ k → (more : List (List ℕ)) × ((lines_of bytes).0 ≡ (lines_of (take (2 ^ 28) front)).0 ++ more)
front_lines bytes front k e =
    let f = take (2 ^ 28) front in
    let rest = drop (2 ^ 28) front in
    let parts : bytes ≡ f ++ (rest ++ k) = e ∙ (ap (λ t. t ++ k) (sym (take-append-drop (2 ^ 28) front)) ∙ append_assoc f rest k) in
    let ls = lines_before f (rest ++ k) in (ls.0, ap (λ (b : List ℕ). (lines_of b).0) parts ∙ ls.1)

-- no line of these is refused
first_open : (names : List (List ℕ)) (bytes : List ℕ) (past : List Record) (at : Place) (first more : List (List ℕ)) → Whole names bytes past at → (lines_of bytes).0 ≡ first ++ more → (log_of_lines names None first start).refusal ≡ None
first_open names bytes past at first more w e =
    lines_open names first more start
    (sym (ap (λ (t : List (List ℕ)). (log_of_lines names None t start).refusal) (append-nil (lines_of bytes).0 ∙ e)) ∙ ap (λ (l : Log). l.refusal) (w.leads None []))

-- no line of a front is refused
front_open : (names : List (List ℕ)) (bytes front k : List ℕ) (past : List Record) (at : Place) → Whole names bytes past at → bytes ≡ front ++ k → NoneRefused names front
front_open names bytes front k past at w e = let ls = front_lines bytes front k e in first_open names bytes past at (lines_of (take (2 ^ 28) front)).0 ls.0 w ls.1

-- nor where bytes without a newline stand behind
kept_open : (names : List (List ℕ)) (bytes whole kept : List ℕ) (past : List Record) (at : Place) → Whole names whole past at → bytes ≡ whole ++ kept → IsPlain kept → NoneRefused names bytes
kept_open names bytes whole kept past at w e p =
    let ls = front_lines bytes bytes [] (sym (append-nil bytes)) in
    let same : (lines_of bytes).0 ≡ (lines_of whole).0 = ap (λ (b : List ℕ). (lines_of b).0) e ∙ ap (λ (l : List (List ℕ) × List ℕ). l.0) (lines_of_more whole kept p) in
    first_open names whole past at (lines_of (take (2 ^ 28) bytes)).0 ls.0 w (sym same ∙ ls.1)

-- the records of a front came before the others
front_records : (names : List (List ℕ)) (bytes front k : List ℕ) (past : List Record) (at : Place) → Whole names bytes past at → bytes ≡ front ++ k → (newer : List Record) × (past ≡ newer ++ whole_records names front)
front_records names bytes front k past at w e =
    let f = take (2 ^ 28) front in
    let ls = front_lines bytes front k e in
    let split : (lines_of bytes).0 ≡ (lines_of f).0 ++ ls.0 = ls.1 in
    let rs = records_before names None None (lines_of f).0 (ls.0 ++ []) start in
    let first = (log_of_lines names None (lines_of f).0 start).records in
    let all : (log_of_lines names None ((lines_of bytes).0 ++ []) start).records ≡ first ++ rs.0 =
    ap (λ (t : List (List ℕ)). (log_of_lines names None (t ++ []) start).records) split
    ∙ (ap (λ (t : List (List ℕ)). (log_of_lines names None t start).records) (append_assoc (lines_of f).0 ls.0 []) ∙ rs.1) in
    let whole : first ++ rs.0 ≡ reverse_aux past [] = sym all ∙ ap (λ (l : Log). l.records) (w.leads None []) in
    (reverse_aux rs.0 [], sym (newest_onto past []) ∙ (ap (λ (t : List Record). reverse_aux t []) (sym whole) ∙ (reverse_append first rs.0 [] ∙ reverse_before rs.0 (reverse_aux first []))))

-- What was written.

-- more was written
pub record Grew (before after : Option (List ℕ)) : Type 0 where
  pub more : List ℕ
  pub is : after ≡ behind before more

pub grew_none : (before : Option (List ℕ)) → Grew before before
grew_none before = record { more = []; is = sym (behind_none before) }

pub grew_gathered : (whole rest : List ℕ) (before after : Option (List ℕ)) → Gathered whole rest before after → Grew before after
grew_gathered whole rest before after g = record { more = g.front; is = g.written }

pub grew_begins : (whole : List ℕ) (before after : Option (List ℕ)) → Begins whole before after → Grew before after
grew_begins whole before after b = record { more = b.front; is = b.written }

written_later : (t : List ℕ) (before mid after : Option (List ℕ)) → HasWritten t before mid → Grew mid after → HasWritten t before after
written_later t before mid after w g =
    (w.0 ++ g.more, g.is ∙ (ap (λ o. behind o g.more) w.1 ∙ (behind_more before (t ++ w.0) g.more ∙ ap (behind before) (append_assoc t w.0 g.more))))

-- the events of the lines that end among these bytes came before the others, and what is said on them is written
pub record Far {E : Type 0} (names : List (List ℕ)) (v : Voice E) (front : List ℕ) (past : List E) (before after : Option (List ℕ)) : Type 0 where
  pub newer : List E
  pub came : List E
  pub parts : past ≡ newer ++ came
  pub unrefused : NoneRefused names front
  pub records_are : map v.record_of came ≡ whole_records names front
  pub written : HasWritten (said v came) before after

far_later : {E : Type 0} (names : List (List ℕ)) (v : Voice E) (front : List ℕ) (past : List E) (before mid after : Option (List ℕ)) → Far names v front past before mid → Grew mid after → Far names v front past before after
far_later names v front past before mid after f g =
    record { newer = f.newer; came = f.came; parts = f.parts; unrefused = f.unrefused; records_are = f.records_are; written = written_later _ before mid after f.written g }

far_next : {E : Type 0} (names : List (List ℕ)) (v : Voice E) (front : List ℕ) (past : List E) (event : E) (before after : Option (List ℕ)) → Far names v front past before after → Far names v front (event ∷ past) before after
far_next names v front past event before after f =
    record { newer = event ∷ f.newer; came = f.came; parts = ap (λ t. event ∷ t) f.parts; unrefused = f.unrefused; records_are = f.records_are; written = f.written }

-- where all is written, that of the first events is
far_all : {E : Type 0} (names : List (List ℕ)) (v : Voice E) (front : List ℕ) (past : List E) (newer : List Record) (before after : Option (List ℕ)) → NoneRefused names front → map v.record_of past ≡ newer ++ whole_records names front → after ≡ behind before (said v past)
    → Far names v front past before after
far_all names v front past newer before after n e w =
    let o = oldest v past newer (whole_records names front) e in
    let first = said_first v o.newer o.came in
    record { newer = o.newer; came = o.came; parts = o.parts; unrefused = n; records_are = o.records_are; written = (first.0, w ∙ ap (behind before) (ap (said v) o.parts ∙ first.1)) }

-- each front, behind which more than 8,192 bytes came
abbrev pub AllFar : {E : Type 0} → List (List ℕ) → Voice E → List ℕ → List E → Option (List ℕ) → Option (List ℕ) → Type 0
AllFar names v taken past before after = (front more : List ℕ) → taken ≡ front ++ more → 8192 < length more → Far names v front past before after

-- The reader.

-- all that was taken is whole lines, which gave the records, and what is kept
pub record Used (names : List (List ℕ)) (taken : List ℕ) (reader : LogReader) (past : List Record) : Type 0 where
  pub used : List ℕ
  pub parts : taken ≡ used ++ kept_bytes_of reader
  pub whole : Whole names used past (place_of reader)

pub record Streams {E : Type 0} (names : List (List ℕ)) (v : Voice E) (told left : Option (List ℕ)) (reader : LogReader) (past : List E) (before after : Option (List ℕ)) : Type 0 where
  pub taken : List ℕ
  pub took : Took told left taken
  pub few : length taken + room_of reader ≤ 2 ^ 28
  pub buses : buses_of reader ≡ names
  pub used : saw_end reader ≡ false → Used names taken reader (map v.record_of past)
  pub far : AllFar names v taken past before after

-- one byte at most is taken beyond the room
one_beyond : (answer : Result (Option Record) LogError) → beyond answer ≤ 1
one_beyond (Ok answer) = omega arith
one_beyond (Err (error.BadLine n)) = omega arith
one_beyond (Err (error.TimeBack n)) = omega arith
one_beyond (Err (error.UnknownBus n)) = omega arith
one_beyond (Err (error.TooFar n)) = omega arith
one_beyond (Err error.LogLong) = omega arith
one_beyond (Err error.Failed) = omega arith

-- no bytes have such a front
pub no_front : (front more : List ℕ) → [] ≡ front ++ more → 8192 < length more → ⊥
no_front front more e long =
    let size : length {A = ℕ} [] ≡ length (front ++ more) = ap (λ (l : List ℕ). length l) e in
    let sum : length (front ++ more) ≡ length front + length more = length-append front more in omega arith

-- at the start nothing was taken
pub streams_none : {E : Type 0} (names : List (List ℕ)) (v : Voice E) (left : Option (List ℕ)) (reader : LogReader) (before : Option (List ℕ)) → (buses_of reader ≡ names) × (place_of reader ≡ start) × (kept_bytes_of reader ≡ []) → room_of reader ≤ 2 ^ 28 → Streams names v left left reader [] before before
streams_none names v left reader before h room = record {
  taken = [];
  took = Took-none left;
  few = omega (arith, room);
  buses = h.0;
  used = λ e. record { used = []; parts = sym h.2; whole = record { whole = refl; leads = λ refusal ls. ap (log_of_lines names refusal ls) (sym h.1) } };
  far = λ front more e long. absurd (no_front front more e long);
}

-- lines that gave no record came behind
passed : (names : List (List ℕ)) (used bytes behind : List ℕ) (past : List Record) (at new : Place) → Whole names used past at → (p : Passes names at bytes new behind) → Whole names (used ++ p.skipped) past new
passed names used bytes behind past at new w p =
    let both = lines_of-whole used p.skipped w.whole in
    let first = (lines_of used).0 in
    let second = (lines_of p.skipped).0 in record {
      whole = ap (λ (l : List (List ℕ) × List ℕ). l.1) both ∙ p.whole;
      leads = λ refusal ls. ap (λ (l : List (List ℕ) × List ℕ). log_of_lines names refusal (l.0 ++ ls) start) both
          ∙ (ap (λ (l : List (List ℕ)). log_of_lines names refusal l start) (append_assoc first second ls) ∙ (w.leads refusal (second ++ ls) ∙ ap (onto past) (p.leads refusal ls)));
    }

-- the line of a record came behind
gave : (names : List (List ℕ)) (used bytes behind : List ℕ) (past : List Record) (rec : Record) (at new : Place) → Whole names used past at → (g : Gives names at bytes rec new behind) → Whole names (used ++ (g.line ++ 10 ∷ [])) (rec ∷ past) new
gave names used bytes behind past rec at new w g =
    let one = lines_of-one bytes g.line behind g.first in
    let both = lines_of-whole used (g.line ++ 10 ∷ []) w.whole in
    let first = (lines_of used).0 in record {
      whole = ap (λ (l : List (List ℕ) × List ℕ). l.1) (both ∙ ap (λ (l : List (List ℕ) × List ℕ). (first ++ l.0, l.1)) one);
      leads = λ refusal ls. ap (λ (l : List (List ℕ) × List ℕ). log_of_lines names refusal (l.0 ++ ls) start) (both ∙ ap (λ (l : List (List ℕ) × List ℕ). (first ++ l.0, l.1)) one)
          ∙ (ap (λ (l : List (List ℕ)). log_of_lines names refusal l start) (append_assoc first (g.line ∷ []) ls)
          ∙ (w.leads refusal (g.line ∷ ls) ∙ ap (λ (t : Given). onto past (followed t (λ p. log_of_lines names refusal ls p))) g.takes));
    }

-- One more call.
module _ {E : Type 0} (names : List (List ℕ)) (v : Voice E) (told left next_left : Option (List ℕ)) (old new : LogReader) (past : List E) (rest : List ℕ) (before mid after : Option (List ℕ)) where
  abbrev records : List Record
  records = map v.record_of past

  used_of : (answer : Result (Option Record) LogError) → Streams names v told left old past before mid → (c : Comes old new left next_left rest answer) → saw_end old ≡ false → Uses names (place_of old) (kept_bytes_of old ++ c.came) (IsBefore answer new)
  used_of answer s c e = subst (λ (b : List (List ℕ)). Uses b (place_of old) (kept_bytes_of old ++ c.came) (IsBefore answer new)) s.buses (c.used e)

  -- all that was taken, up to the last 8,192 bytes at most
  parts_of : (answer : Result (Option Record) LogError) → (s : Streams names v told left old past before mid) → (c : Comes old new left next_left rest answer) → (e : saw_end old ≡ false) → (u : Used names s.taken old records)
      → (p : Uses names (place_of old) (kept_bytes_of old ++ c.came) (IsBefore answer new)) → s.taken ++ c.came ≡ (u.used ++ p.passes.skipped) ++ p.behind
  parts_of answer s c e u p =
      ap (λ t. t ++ c.came) u.parts ∙ (append_assoc u.used (kept_bytes_of old) c.came ∙ (ap (λ t. u.used ++ t) p.passes.parts ∙ sym (append_assoc u.used p.passes.skipped p.behind)))

  -- where the input failed, no line that was taken is refused
  taken_open : (s : Streams names v told left old past before mid) → (c : Comes old new left next_left rest (Err error.Failed)) → saw_end old ≡ false → cut 10 (kept_bytes_of new) ≡ None → NoneRefused names (s.taken ++ c.came)
  taken_open s c was none =
      let u = s.used was in
      let p = used_of (Err error.Failed) s c was in
      let w = passed names u.used (kept_bytes_of old ++ c.came) p.behind records (place_of old) p.at u.whole p.passes in
      kept_open names (s.taken ++ c.came) (u.used ++ p.passes.skipped) p.behind records p.at w (parts_of (Err error.Failed) s c was u p) (subst (λ (t : List ℕ). IsPlain t) (sym p.there.1) (plain_cut (kept_bytes_of new) none))

  -- the same front, where nothing came
  far_same : (answer : Result (Option Record) LogError) → (s : Streams names v told left old past before mid) → (c : Comes old new left next_left rest answer) → c.came ≡ [] → Grew mid after → AllFar names v (s.taken ++ c.came) past before after
  far_same answer s c none g front more e long =
      far_later names v front past before mid after (s.far front more (sym (append-nil s.taken) ∙ (ap (λ t. s.taken ++ t) (sym none) ∙ e)) long) g

  -- where bytes came all was written
  far_read : (answer : Result (Option Record) LogError) → (s : Streams names v told left old past before mid) → (c : Comes old new left next_left rest answer) → saw_end old ≡ false
      → Gathered (said v past) rest before after → rest ≡ [] → AllFar names v (s.taken ++ c.came) past before after
  far_read answer s c was g none front more e long =
      let u = s.used was in
      let p = used_of answer s c was in
      let whole = said v past in
      let k = front_within front more (u.used ++ p.passes.skipped) p.behind (sym e ∙ parts_of answer s c was u p) (let near : length p.behind ≤ 8192 = p.near in omega (arith, near, long)) in
      let w = passed names u.used (kept_bytes_of old ++ c.came) p.behind records (place_of old) p.at u.whole p.passes in
      let n = front_records names (u.used ++ p.passes.skipped) front k.0 records p.at w k.1 in
      far_all names v front past n.0 before after (front_open names (u.used ++ p.passes.skipped) front k.0 records p.at w k.1) n.1 (all_written whole before after (subst (λ (t : List ℕ). Gathered whole t before after) none g))

  pub far_comes : (answer : Result (Option Record) LogError) → (s : Streams names v told left old past before mid) → (c : Comes old new left next_left rest answer) → Grew mid after
      → Gathered (said v past) rest before after → AllFar names v (s.taken ++ c.came) past before after
  far_comes answer s c g w = by_flush c.flushed
    where
      by_end : (t : Bool) → saw_end old ≡ t → rest ≡ [] → AllFar names v (s.taken ++ c.came) past before after
      by_end true e none = far_same answer s c (c.ended e) g
      by_end false e none = far_read answer s c e w none

      by_flush : (c.came ≡ []) ⊎ (rest ≡ []) → AllFar names v (s.taken ++ c.came) past before after
      by_flush (inl none) = far_same answer s c none g
      by_flush (inr none) = by_end (saw_end old) refl none

  -- an event came of a record
  pub streams_next : (rec : Record) (event : E) → v.record_of event ≡ rec → (s : Streams names v told left old past before mid) → (c : Comes old new left next_left rest (Ok (Some rec))) → (saw_end new ≡ false → saw_end old ≡ false) → buses_of new ≡ buses_of old → Grew mid after
      → Gathered (said v past) rest before after → Streams names v told next_left new (event ∷ past) before after
  streams_next rec event is s c still buses g w = record {
    taken = s.taken ++ c.came;
    took = took_more told left next_left s.taken c.came s.took c.took;
    few = omega (arith, length-append s.taken c.came, s.few, c.few);
    buses = buses ∙ s.buses;
    used = λ e. subst (λ (r : Record). Used names (s.taken ++ c.came) new (r ∷ records)) (sym is) (used_next (still e) e);
    far = λ front more e long. far_next names v front past event before after (far_comes (Ok (Some rec)) s c g w front more e long);
  }
    where
      used_next : saw_end old ≡ false → saw_end new ≡ false → Used names (s.taken ++ c.came) new (rec ∷ records)
      used_next was still_open =
          let u = s.used was in
          let p = used_of (Ok (Some rec)) s c was in
          let gives = subst (λ (b : List (List ℕ)). Gives b p.at p.behind rec (place_of new) (kept_bytes_of new)) (buses ∙ s.buses) (p.there still_open) in
          let first = u.used ++ p.passes.skipped in
          let line = gives.line ++ 10 ∷ [] in record {
            used = first ++ line;
            parts = parts_of (Ok (Some rec)) s c was u p
                ∙ (ap (λ t. first ++ t) (cut-parts p.behind gives.line (kept_bytes_of new) gives.first ∙ sym (append_assoc gives.line (10 ∷ []) (kept_bytes_of new))) ∙ sym (append_assoc first line (kept_bytes_of new)));
            whole = gave names first p.behind (kept_bytes_of new) records rec p.at (place_of new) (passed names u.used (kept_bytes_of old ++ c.came) p.behind records (place_of old) p.at u.whole p.passes) gives;
          }

-- the end was seen before, or it wasn't
pub open_before : (old new : LogReader) (before after : Option (List ℕ)) (answer : Result (Option Record) LogError) → Goes old new before after answer → saw_end new ≡ false → saw_end old ≡ false
open_before old new before after answer g e = by_end (saw_end old) refl
  where
    by_end : (t : Bool) → saw_end old ≡ t → saw_end old ≡ false
    by_end true is = let bad : true ≡ false = sym (g.ended is).1 ∙ e in absurd cc
    by_end false is = is

-- the bytes that were taken before the input failed
pub failed_open : {E : Type 0} (names : List (List ℕ)) (v : Voice E) (told left next_left : Option (List ℕ)) (old new : LogReader) (past : List E) (rest : List ℕ) (before mid after : Option (List ℕ)) (e : LogError)
    → Streams names v told left old past before mid → Comes old new left next_left rest (Err e) → Goes old new left next_left (Err e) → (e ≡ error.Failed → (cut 10 (kept_bytes_of new) ≡ None) × (saw_end new ≡ false))
    → e ≡ error.Failed → (bytes : List ℕ) × Took told next_left bytes × NoneRefused names bytes
failed_open names v told left next_left old new past rest before mid after error.Failed s c g f h =
    let k = f refl in (
      s.taken ++ c.came,
      took_more told left next_left s.taken c.came s.took c.took,
      taken_open names v told left next_left old new past rest before mid after s c (open_before old new left next_left (Err error.Failed) g k.1) k.0,
    )
failed_open names v told left next_left old new past rest before mid after (error.BadLine n) s c g f h = absurd cc
failed_open names v told left next_left old new past rest before mid after (error.TimeBack n) s c g f h = absurd cc
failed_open names v told left next_left old new past rest before mid after (error.UnknownBus n) s c g f h = absurd cc
failed_open names v told left next_left old new past rest before mid after (error.TooFar n) s c g f h = absurd cc
failed_open names v told left next_left old new past rest before mid after error.LogLong s c g f h = absurd cc

-- A whole run.

module _ {E : Type 0} (names : List (List ℕ)) (v : Voice E) (s : Stages E) (events past : List E) (told left : Option (List ℕ)) (taken : List ℕ) (before after : Option (List ℕ)) where
  has_said : FirstOf events past → (front : List ℕ) → Far names v front past before after → HasSaid names v events front before after
  has_said first front f = record {
    came = f.came;
    are = record { unrefused = f.unrefused; first = first_of events past f.newer f.came first f.parts; records_are = f.records_are };
    written = f.written;
  }

  hears_bytes : FirstOf events past → HeardOrEnded s past → (front : List ℕ) → Far names v front past before after → HearsBytes names v s events front
  hears_bytes first k front f = record {
    came = f.came;
    are = record { unrefused = f.unrefused; first = first_of events past f.newer f.came first f.parts; records_are = f.records_are };
    hears = record { newer = f.newer; first = subst (FirstOf events) f.parts first; hears = subst (HeardOrEnded s) f.parts k };
  }

  breaks_behind : FirstOf events past → BrokeBehind s events past → (front : List ℕ) → Far names v front past before after → BreaksBehind names v s events front
  breaks_behind first k front f = record {
    came = f.came;
    are = record { unrefused = f.unrefused; first = first_of events past f.newer f.came first f.parts; records_are = f.records_are };
    newer = f.newer;
    broke = subst (BrokeBehind s events) f.parts k;
  }

  streamed : (stat : Ended) → FirstOf events past → Took told left taken → length taken ≤ 2 ^ 28 + 1 → ((stat ≡ end.NoMemory → ⊥) → HeardOrEnded s past) → (stat ≡ end.NoMemory → BrokeBehind s events past) → AllFar names v taken past before after
      → IsStreamed names v s events told left stat before after
  streamed stat first t few k b far = record {
    taken = taken;
    took = t;
    few = few;
    written = λ front more e long. has_said first front (far front more e long);
    hears = λ n front more e long. hears_bytes first (k n) front (far front more e long);
    broke = λ n front more e long. breaks_behind first (b n) front (far front more e long);
  }

-- a run that took nothing
pub streamed_none : {E : Type 0} (names : List (List ℕ)) (v : Voice E) (s : Stages E) (events : List E) (left : Option (List ℕ)) (stat : Ended) (before after : Option (List ℕ)) → IsStreamed names v s events left left stat before after
streamed_none names v s events left stat before after = record {
  taken = [];
  took = Took-none left;
  few = omega arith;
  written = λ front more e long. absurd (no_front front more e long);
  hears = λ n front more e long. absurd (no_front front more e long);
  broke = λ n front more e long. absurd (no_front front more e long);
}

module _ {E : Type 0} (names : List (List ℕ)) (v : Voice E) (stages : Stages E) (told left next_left : Option (List ℕ)) (old new : LogReader) (past : List E) (gathered rest : List ℕ) (before mid after : Option (List ℕ)) where
  abbrev all_text : List ℕ
  all_text = said v past

  far_given : (answer : Result (Option Record) LogError) → (s : Streams names v told left old past before mid) → (c : Comes old new left next_left rest answer) → Gathered all_text gathered before mid → Gathered gathered rest mid after → AllFar names v (s.taken ++ c.came) past before after
  far_given answer s c g w =
      far_comes names v told left next_left old new past rest before mid after answer s c (grew_gathered gathered rest mid after w) (gathered_less all_text gathered rest before mid after g w)

  took_given : (answer : Result (Option Record) LogError) → (s : Streams names v told left old past before mid) → (c : Comes old new left next_left rest answer) → Took told next_left (s.taken ++ c.came)
  took_given answer s c = took_more told left next_left s.taken c.came s.took c.took

  few_given : (answer : Result (Option Record) LogError) → (s : Streams names v told left old past before mid) → (c : Comes old new left next_left rest answer) → length (s.taken ++ c.came) ≤ 2 ^ 28 + 1
  few_given answer s c = omega (arith, length-append s.taken c.came, s.few, c.few, one_beyond answer)

  -- memory wasn't wanting
  kept_going : (halt : Stop) → stopped halt ≡ end.NoMemory → ⊥
  kept_going stop.Write e = cc
  kept_going (stop.Log (error.BadLine n)) e = cc
  kept_going (stop.Log (error.TimeBack n)) e = cc
  kept_going (stop.Log (error.UnknownBus n)) e = cc
  kept_going (stop.Log (error.TooFar n)) e = cc
  kept_going (stop.Log error.LogLong) e = cc
  kept_going (stop.Log error.Failed) e = cc

  pub streamed_stopped : (halt : Stop) → Streams names v told left old past before mid → ComesBehind old new left next_left rest (Err halt) → stages.heard past → Gathered all_text gathered before mid → Writes gathered rest mid after (Err halt)
      → (events : List E) → FirstOf events past → IsStreamed names v stages events told next_left (stopped halt) before after
  streamed_stopped (stop.Log error) s c k g w events first =
      streamed names v stages events past told next_left (s.taken ++ c.came) before after (stopped (stop.Log error)) first (took_given (Err error) s c) (few_given (Err error) s c) (λ n. inl k) (λ n. absurd (kept_going (stop.Log error) n)) (far_given (Err error) s c g w.0)
  streamed_stopped stop.Write s c k g w events first =
      streamed names v stages events past told next_left s.taken before after end.WriteFault first (subst (λ (o : Option (List ℕ)). Took told o s.taken) (sym c) s.took) (omega (arith, s.few)) (λ n. inl k) (λ n. absurd (kept_going stop.Write n))
      (λ front more e long. far_later names v front past before mid after (s.far front more e long) (grew_begins gathered mid after w))

  pub streamed_wanting : (rec : Record) (event : E) → Streams names v told left old past before mid → Comes old new left next_left rest (Ok (Some rec)) → Gathered all_text gathered before mid → Gathered gathered rest mid after → stages.broke (event ∷ past)
      → (events : List E) → FirstOf events (event ∷ past) → IsStreamed names v stages events told next_left end.NoMemory before after
  streamed_wanting rec event s c g w k events first =
      streamed names v stages events past told next_left (s.taken ++ c.came) before after end.NoMemory (first_of events (event ∷ past) (event ∷ []) past first refl) (took_given (Ok (Some rec)) s c) (few_given (Ok (Some rec)) s c) (λ n. absurd (n refl))
      (λ n. inl (record { next = event; first = first; is = k })) (far_given (Ok (Some rec)) s c g w)

  pub streamed_finished : (stat : Ended) (last : Option (List ℕ)) (tail : List ℕ) → Streams names v told left old past before mid → Comes old new left next_left rest (Ok None) → (stat ≢ end.NoMemory → stages.ended past) → (stat ≡ end.NoMemory → stages.cut_short past) → Gathered all_text gathered before mid
      → Gathered gathered rest mid after → IsFinish stat → (stat ≡ end.Ok → last ≡ behind after tail) → (stat ≡ end.WriteFault → Begins tail after last) → (stat ≡ end.NoMemory → last ≡ after)
      → (events : List E) → FirstOf events past → IsStreamed names v stages events told next_left stat before last
  streamed_finished stat last tail s c k b g w f ok write memory events first =
      streamed names v stages events past told next_left (s.taken ++ c.came) before last stat first (took_given (Ok None) s c) (few_given (Ok None) s c) (λ n. inr (k n)) (λ n. inr (first, b n))
      (λ front more e long. far_later names v front past before after last (far_given (Ok None) s c g w front more e long) (grew_last stat f ok write memory))
    where
      grew_last : (stat : Ended) → IsFinish stat → (stat ≡ end.Ok → last ≡ behind after tail) → (stat ≡ end.WriteFault → Begins tail after last) → (stat ≡ end.NoMemory → last ≡ after) → Grew after last
      grew_last end.Ok f ok write memory = record { more = tail; is = ok refl }
      grew_last end.WriteFault f ok write memory = grew_begins tail after last (write refl)
      grew_last end.NoMemory f ok write memory = subst (Grew after) (sym (memory refl)) (grew_none after)
      grew_last (end.Log line why) f ok write memory = absurd f
      grew_last end.LogLong f ok write memory = absurd f
      grew_last end.ReadFault f ok write memory = absurd f
