-- Where a loop over lines stands between two reads, and how it ends.
use Rattle.std.proofs.Common.{◌≡◌, ◌∙◌, ◌⊎◌, inl, inr, ◌+◌, ◌-◌, ◌<◌, ◌≤◌, ℕ, Bool, true, false, List, [], ◌∷◌, ◌++◌, length, take, Option, None, Err, refl, sym, ap, subst, append_assoc, append-nil, length-append, arith}
use Rattle.std.specs.Prelude.{nat_lt}
use mathlib.Core.List.{reverse_aux}
use Rattle.std.proofs.lemmas.Bool.Decides.{nat_tests}
use Rattle.std.proofs.lemmas.Grind.{common_steps}
use Rattle.std.proofs.Math.Seq.{take-append-add}
use Rattle.cy_outside.specs.Written.{behind, Begins}
use Rattle.memchr.specs.Find.{IsFirstByte, is_byte}
use Rattle.gathered_text.specs.Gathered.{Gathered}
use Rattle.line_loop.specs.Gone.{AreFirst, Begun, Gone, HasGone}
use Rattle.line_loop.specs.Heard.{Met}
use Rattle.line_loop.specs.Input.{IsTaken, Took, IsEnd}
use Rattle.line_loop.specs.Lines.{Lines, lines_of, last_line, with_last}
use Rattle.line_loop.specs.Reply.{Voice, Answers, AreAnswered, AreEnded, IsReply, heard_lines, end_of}
use Rattle.line_loop.specs.Steps.{Answered, Goes, IsBroken, IsCut, IsRefused, Stops, IsOverlong, IsLastReply, EndsBy, in_front}
use Rattle.line_loop.specs.Streamed.{HasAnswered, HasHeardTaken, IsStreamed}
use Rattle.line_loop.specs.declared.ended.LinesEnded.{LinesEnded}
use Rattle.line_loop.specs.declared.ended.LinesEnded.TheVariants as end
use Rattle.line_loop.proofs.Hearing.{FirstAnswers, onto_append, are_append, are_first, answered_none, answered_more, answered_behind}
use Rattle.line_loop.proofs.Inputs.{took_none, took_more, taken_end}
use Rattle.line_loop.proofs.Splits.{clear_lines, front_within, lines_before, no, yes, short_last}
use Rattle.line_loop.proofs.Written.{all_written, behind_more, behind_none, begins_later}

-- The lines that are heard.

pub heard_short : {R : Type 0} (v : Voice R) (bytes : List ℕ) → length bytes ≤ v.bounds.all → heard_lines v.bounds bytes ≡ with_last 0 (lines_of bytes)
heard_short v bytes h = no (nat_lt v.bounds.all (length bytes)) _ _ (grind (arith, nat_tests))

pub heard_long : {R : Type 0} (v : Voice R) (bytes : List ℕ) → v.bounds.all < length bytes → heard_lines v.bounds bytes ≡ with_last v.bounds.line (lines_of (take v.bounds.all bytes))
heard_long v bytes h = yes (nat_lt v.bounds.all (length bytes)) _ _ (grind (arith, nat_tests))

-- the lines that are heard of some bytes, as those behind a front
pub record Behind {R : Type 0} (v : Voice R) (taken rest : List ℕ) : Type 0 where
  pub most : ℕ
  pub least : most ≤ v.bounds.line
  pub others : List ℕ
  pub heard : heard_lines v.bounds (taken ++ rest) ≡ with_last most (lines_of (taken ++ others))

behind_short : {R : Type 0} (v : Voice R) (taken rest : List ℕ) → length (taken ++ rest) ≤ v.bounds.all → Behind v taken rest
behind_short v taken rest h = record { most = 0; least = omega arith; others = rest; heard = heard_short v (taken ++ rest) h }

behind_long : {R : Type 0} (v : Voice R) (taken rest : List ℕ) → length taken ≤ v.bounds.all → v.bounds.all < length (taken ++ rest) → Behind v taken rest
behind_long v taken rest h long = record {
  most = v.bounds.line;
  least = omega arith;
  others = take (v.bounds.all - length taken) rest;
  heard = heard_long v (taken ++ rest) long ∙ ap (λ (s : List ℕ). with_last v.bounds.line (lines_of s)) (take_behind v.bounds.all taken rest h);
}
  where
    take_behind : (n : ℕ) (s t : List ℕ) → length s ≤ n → take n (s ++ t) ≡ s ++ take (n - length s) t
    take_behind n s t le =
        let e : n ≡ length s + (n - length s) = omega arith in ap (λ k. take k (s ++ t)) e ∙ take-append-add s t (n - length s)

pub heard_behind : {R : Type 0} (v : Voice R) (taken rest : List ℕ) → length taken ≤ v.bounds.all → Behind v taken rest
heard_behind v taken rest h = either (nat_lt v.bounds.all (length (taken ++ rest))) refl
  where
    either : (t : Bool) → nat_lt v.bounds.all (length (taken ++ rest)) ≡ t → Behind v taken rest
    either true e = behind_long v taken rest h (grind (arith, nat_tests))
    either false e = behind_short v taken rest (grind (arith, nat_tests))

-- behind lines that are answered stand the others that are heard
pub record Others {R : Type 0} (v : Voice R) (taken rest : List ℕ) (lines : List (List ℕ)) (left : List ℕ) : Type 0 where
  pub most : ℕ
  pub least : most ≤ v.bounds.line
  pub others : List ℕ
  pub heard : heard_lines v.bounds (taken ++ rest) ≡ lines ++ with_last most (lines_of (left ++ others))

pub heard_answered : {R : Type 0} (v : Voice R) (past new : List (List ℕ)) (taken rest left text : List ℕ) → length taken ≤ v.bounds.all → (a : Answered v past taken new left text) → Others v taken rest a.lines left
heard_answered v past new taken rest left text h a =
    let b = heard_behind v taken rest h in record {
      most = b.most;
      least = b.least;
      others = b.others;
      heard = b.heard
          ∙ (ap (λ (s : List ℕ). with_last b.most (lines_of s)) (ap (λ (s : List ℕ). s ++ b.others) a.parts ∙ append_assoc a.whole left b.others)
          ∙ (ap (λ (l : Lines). with_last b.most l) (a.split (left ++ b.others))
          ∙ append_assoc a.lines (lines_of (left ++ b.others)).ended (last_line b.most (lines_of (left ++ b.others)).rest)));
    }

-- lines that are answered are the first of the input, and of the bytes that were taken
pub first_answered : {R : Type 0} (v : Voice R) (new : List (List ℕ)) (taken rest left text : List ℕ) → length taken ≤ v.bounds.all → (a : Answered v [] taken new left text) → AreFirst v taken rest a.lines text
first_answered v new taken rest left text h a =
    let o = heard_answered v [] new taken rest left text h a in
    let p = heard_answered v [] new taken [] left text h a in record {
      behind = with_last o.most (lines_of (left ++ o.others));
      others = with_last p.most (lines_of (left ++ p.others));
      input = o.heard;
      alone = ap (λ (s : List ℕ). heard_lines v.bounds s) (sym (append-nil taken)) ∙ p.heard;
      answered = a.answered;
    }

-- What was written.

-- more was written
pub record Grew (before after : Option (List ℕ)) : Type 0 where
  pub more : List ℕ
  pub is : after ≡ behind before more

grew_none : (before : Option (List ℕ)) → Grew before before
grew_none before = record { more = []; is = sym (behind_none before) }

grew_same : (before after : Option (List ℕ)) → after ≡ before → Grew before after
grew_same before after e = record { more = []; is = e ∙ sym (behind_none before) }

answered_later : {R : Type 0} (v : Voice R) (lines : List (List ℕ)) (before mid after : Option (List ℕ)) → HasAnswered v lines before mid → Grew mid after → HasAnswered v lines before after
answered_later v lines before mid after h g = record {
  text = h.text;
  more = h.more ++ g.more;
  answered = h.answered;
  written = g.is ∙ (ap (λ o. behind o g.more) h.written ∙ (behind_more before (h.text ++ h.more) g.more ∙ ap (behind before) (append_assoc h.text h.more g.more)));
}

-- the answers to the lines of each front of some bytes are written, where more than so many bytes
-- stand behind it
abbrev pub Streams : {R : Type 0} → Voice R → ℕ → List ℕ → Option (List ℕ) → Option (List ℕ) → Type 0
Streams v near taken before after = (front more : List ℕ) → taken ≡ front ++ more → near < length more → HasAnswered v (lines_of front).ended before after

-- before the lines that are held are heard; all answers are written
pub record Open {R : Type 0} (v : Voice R) (left now : Option (List ℕ)) (past : List (List ℕ)) (held : List ℕ) (room : ℕ) (before after : Option (List ℕ)) : Type 0 where
  pub taken : List ℕ
  pub text : List ℕ
  pub took : Took left now taken
  pub answered : Answered v [] taken past held text
  pub written : after ≡ behind before text
  pub size : length taken + room ≡ v.bounds.all
  pub streams : Streams v 65536 taken before after

-- before the next read: what is held is no whole line, and not too long for one; all answers are
-- written
pub record Calm {R : Type 0} (v : Voice R) (left now : Option (List ℕ)) (past : List (List ℕ)) (held : List ℕ) (room : ℕ) (before after : Option (List ℕ)) : Type 0 where
  pub taken : List ℕ
  pub text : List ℕ
  pub took : Took left now taken
  pub answered : Answered v [] taken past held text
  pub written : after ≡ behind before text
  pub size : length taken + room ≡ v.bounds.all
  pub clear : IsFirstByte (is_byte 10) held None
  pub short : length held ≤ v.bounds.line

-- what a loop over lines has done
pub record Done {R : Type 0} (v : Voice R) (left now : Option (List ℕ)) (ended : LinesEnded R) (before after : Option (List ℕ)) : Type 0 where
  pub gone : HasGone v left now ended before after
  pub streamed : IsStreamed v left now before after

pub open_start : {R : Type 0} (v : Voice R) (left : Option (List ℕ)) (before : Option (List ℕ)) → Open v left left [] [] v.bounds.all before before
open_start v left before = record {
  taken = [];
  text = [];
  took = took_none left;
  answered = answered_none v [] [];
  written = sym (behind_none before);
  size = omega arith;
  streams = none;
}
  where
    none : Streams v 65536 [] before before
    none [] more e h = absurd (few more e h)
      where
        few : (more : List ℕ) → [] ≡ more → 65536 < length more → ⊥
        few [] e h = omega arith
        few (x ∷ xs) e h = cc
    none (x ∷ xs) more e h = absurd cc

-- Before a read.

calm_lines : {R : Type 0} (v : Voice R) (left now : Option (List ℕ)) (past : List (List ℕ)) (held : List ℕ) (room : ℕ) (before after : Option (List ℕ)) (c : Calm v left now past held room before after)
    → lines_of c.taken ≡ record { ended = c.answered.lines; rest = held }
calm_lines v left now past held room before after c =
    ap (λ (s : List ℕ). lines_of s) c.answered.parts
    ∙ (c.answered.split held ∙ (ap (λ (l : Lines). in_front c.answered.lines l) (clear_lines held c.clear)
    ∙ ap (λ (ls : List (List ℕ)). record { ended = ls; rest = held }) (append-nil c.answered.lines)))

first_written : {R : Type 0} (v : Voice R) (lines : List (List ℕ)) (text : List ℕ) (before after : Option (List ℕ)) → FirstAnswers v [] lines text → after ≡ behind before text → HasAnswered v lines before after
first_written v lines text before after f w = record {
  text = f.first;
  more = f.more;
  answered = f.answered;
  written = w ∙ ap (behind before) f.parts;
}

calm_front : {R : Type 0} (v : Voice R) (left now : Option (List ℕ)) (past : List (List ℕ)) (held : List ℕ) (room : ℕ) (before after : Option (List ℕ)) (c : Calm v left now past held room before after)
    → (front more : List ℕ) → c.taken ≡ front ++ more → HasAnswered v (lines_of front).ended before after
calm_front v left now past held room before after c front more e =
    let b = lines_before front more in
    let all : c.answered.lines ≡ (lines_of front).ended ++ b.0 =
    sym (ap (λ (l : Lines). l.ended) (calm_lines v left now past held room before after c)) ∙ (ap (λ (s : List ℕ). (lines_of s).ended) e ∙ b.1) in
    first_written v (lines_of front).ended c.text before after (are_first v [] (lines_of front).ended b.0 c.text (subst (λ (ls : List (List ℕ)). AreAnswered v [] ls c.text) all c.answered.answered)) c.written

calm_streams : {R : Type 0} (v : Voice R) (left now : Option (List ℕ)) (past : List (List ℕ)) (held : List ℕ) (room : ℕ) (before after : Option (List ℕ)) (c : Calm v left now past held room before after)
    → (came : List ℕ) → length came ≤ 65536 → Streams v 65536 (c.taken ++ came) before after
calm_streams v left now past held room before after c came few front more e h =
    let k = front_within front more c.taken came (sym e) (omega arith) in calm_front v left now past held room before after c front k.0 k.1

streams_later : {R : Type 0} (v : Voice R) (taken : List ℕ) (before mid after : Option (List ℕ)) → Streams v 65536 taken before mid → Grew mid after → Streams v 65536 taken before after
streams_later v taken before mid after s g front more e h = answered_later v (lines_of front).ended before mid after (s front more e h) g

streams_end : {R : Type 0} (v : Voice R) (left now : Option (List ℕ)) (past : List (List ℕ)) (held : List ℕ) (room : ℕ) (before after : Option (List ℕ)) (c : Calm v left now past held room before after) → Streams v 65536 c.taken before after
streams_end v left now past held room before after c front more e h = calm_front v left now past held room before after c front more e

pub calm_bytes : {R : Type 0} (v : Voice R) (left mid now : Option (List ℕ)) (past : List (List ℕ)) (held new : List ℕ) (room left_room : ℕ) (before after : Option (List ℕ)) (came : List ℕ)
    → Calm v left mid past held room before after → Took mid now came → new ≡ held ++ came → left_room + length came ≡ room → length came ≤ 65536 → Open v left now past new left_room before after
calm_bytes v left mid now past held new room left_room before after came c took grows size few =
    let sum : length (c.taken ++ came) ≡ length c.taken + length came = length-append c.taken came in record {
      taken = c.taken ++ came;
      text = c.text;
      took = took_more left mid now c.taken came c.took took;
      answered = subst (λ (s : List ℕ). Answered v [] (c.taken ++ came) past s c.text) (sym grows) (answered_behind v [] past c.taken held c.text came c.answered);
      written = c.written;
      size = omega (arith, c.size);
      streams = calm_streams v left mid past held room before after c came few;
    }

pub settled : {R : Type 0} (v : Voice R) (left now : Option (List ℕ)) (past new : List (List ℕ)) (held rest : List ℕ) (room room_new : ℕ) (was gathered : List ℕ) (before mid after : Option (List ℕ))
    → Open v left now past held room before mid → was ≡ [] → Goes v past held new rest was gathered mid after → gathered ≡ [] → IsFirstByte (is_byte 10) rest None → length rest ≤ v.bounds.line → room_new ≡ room
    → Calm v left now new rest room_new before after
settled v left now past new held rest room room_new was gathered before mid after o first g none clear short same = record {
  taken = o.taken;
  text = o.text ++ g.text;
  took = o.took;
  answered = answered_more v [] past new o.taken held rest o.text g.text o.answered g.answered;
  written = all_written g.text mid after (subst (λ (t : List ℕ). Gathered g.text t mid after) none (subst (λ (t : List ℕ). Gathered (t ++ g.text) gathered mid after) first g.gathered))
      ∙ (ap (λ w. behind w g.text) o.written ∙ behind_more before o.text g.text);
  size = omega (arith, o.size);
  clear = clear;
  short = short;
}

-- How it ends.

open_few : {R : Type 0} (v : Voice R) (taken : List ℕ) (room : ℕ) → length taken + room ≡ v.bounds.all → length taken ≤ v.bounds.all + 1
open_few v taken room h = omega arith

done : {R : Type 0} (v : Voice R) (left now : Option (List ℕ)) (taken rest : List ℕ) (ended : LinesEnded R) (before after : Option (List ℕ))
    → IsTaken left now taken rest → length taken ≤ v.bounds.all + 1 → Gone v taken rest ended before after → Streams v 65536 taken before after → Done v left now ended before after
done v left now taken rest ended before after told few gone streams = record {
  gone = record { taken = taken; rest = rest; told = told; few = few; gone = gone };
  streamed = record { taken = taken; rest = rest; told = told; written = streams };
}

begun_answered : {R : Type 0} (v : Voice R) (new : List (List ℕ)) (taken rest left text : List ℕ) (before after : Option (List ℕ)) → length taken ≤ v.bounds.all → Answered v [] taken new left text → Begins text before after → Begun v taken rest before after
begun_answered v new taken rest left text before after h a b = record { answered = a.lines; text = text; lines = first_answered v new taken rest left text h a; written = b }

-- a line is refused behind lines that are answered
reply_refused : {R : Type 0} (v : Voice R) (past : List (List ℕ)) (taken rest held text said : List ℕ) (refusal : R) → length taken ≤ v.bounds.all → Answered v [] taken past held text
    → IsRefused v past held refusal said → IsReply v (taken ++ rest) (text ++ said) (end.Refused refusal)
reply_refused v past taken rest held text said refusal h a r =
    let all = answered_more v [] past r.new taken held r.left text r.text a r.answered in
    let o = heard_answered v [] r.new taken rest r.left (text ++ r.text) h all in
    let f = r.refused o.most o.least o.others in record {
      before = all.lines;
      line = f.0;
      behind = f.1;
      parts = o.heard ∙ ap (λ (ls : List (List ℕ)). all.lines ++ ls) f.2;
      said = record {
        answers = text ++ r.text;
        words = r.words;
        answered = all.answered;
        last = subst (λ (ls : List (List ℕ)). v.last ls r.words) all.all r.last;
        parts = ap (λ (t : List ℕ). text ++ t) r.parts ∙ sym (append_assoc text r.text r.words);
      };
      refused = subst (λ (ls : List (List ℕ)). Answers v ls f.0 (Err refusal)) all.all f.3;
    }

module _ {R : Type 0} (v : Voice R) (left now : Option (List ℕ)) (past : List (List ℕ)) (held : List ℕ) (room : ℕ) (before mid after : Option (List ℕ)) (o : Open v left now past held room before mid) where
  broken_done : (ended : LinesEnded R) → (b : IsBroken v past held [] mid after) → Begun v o.taken o.took.0 before after × Streams v 65536 o.taken before after
  broken_done ended b = (
    begun_answered v b.new o.taken o.took.0 b.left (o.text ++ b.text) before after (omega (arith, o.size)) (answered_more v [] past b.new o.taken held b.left o.text b.text o.answered b.answered)
        (begins_later o.text b.text before mid after o.written b.written),
    streams_later v o.taken before mid after o.streams (record { more = b.written.front; is = b.written.written }),
  )

  fault_done : IsBroken v past held [] mid after ⊎ IsCut v past held [] mid after → Done v left now end.WriteFault before after
  fault_done (inl b) =
      let d = broken_done end.WriteFault b in done v left now o.taken o.took.0 end.WriteFault before after o.took.1 (open_few v o.taken room o.size) (inl d.0) d.1
  fault_done (inr c) =
      done v left now o.taken o.took.0 end.WriteFault before after o.took.1 (open_few v o.taken room o.size) (inr (record {
        text = o.text ++ c.said;
        ended = end.Refused c.refusal;
        reply = reply_refused v past o.taken o.took.0 held o.text c.said c.refusal (omega (arith, o.size)) o.answered c.refused;
        written = begins_later o.text c.said before mid after o.written c.written;
      }))
      (streams_later v o.taken before mid after o.streams (record { more = c.written.front; is = c.written.written }))

  pub stopped_done : (ended : LinesEnded R) → Stops v past held [] mid after ended → Done v left now ended before after
  stopped_done (end.Refused refusal) s =
      done v left now o.taken o.took.0 (end.Refused refusal) before after o.took.1 (open_few v o.taken room o.size) (record {
        text = o.text ++ s.0;
        reply = reply_refused v past o.taken o.took.0 held o.text s.0 refusal (omega (arith, o.size)) o.answered s.1;
        written = s.2 ∙ (ap (λ w. behind w s.0) o.written ∙ behind_more before o.text s.0);
      })
      (streams_later v o.taken before mid after o.streams (record { more = s.0; is = s.2 }))
  stopped_done end.WriteFault s = fault_done s
  stopped_done end.NoMemory s = let d = broken_done end.NoMemory s in done v left now o.taken o.took.0 end.NoMemory before after o.took.1 (open_few v o.taken room o.size) d.0 d.1
  stopped_done end.Ok s = absurd s
  stopped_done end.TooLong s = absurd s
  stopped_done end.ReadFault s = absurd s

begins_whole : (text : List ℕ) (before after : Option (List ℕ)) → after ≡ behind before text → Begins text before after
begins_whole text before after e = record { front = text; rest = []; whole = sym (append-nil text); written = e }

-- memory was wanted for the next read
pub calm_wanting : {R : Type 0} (v : Voice R) (left mid now : Option (List ℕ)) (past : List (List ℕ)) (held : List ℕ) (room : ℕ) (before after : Option (List ℕ)) → Calm v left mid past held room before after → now ≡ mid → Done v left now end.NoMemory before after
calm_wanting v left mid now past held room before after c e =
    subst (λ (o : Option (List ℕ)). Done v left o end.NoMemory before after) (sym e)
    (done v left mid c.taken c.took.0 end.NoMemory before after c.took.1 (open_few v c.taken room c.size)
    (begun_answered v past c.taken c.took.0 held c.text before after (omega (arith, c.size)) c.answered (begins_whole c.text before after c.written))
    (streams_end v left mid past held room before after c))

-- the next read failed
pub calm_failed : {R : Type 0} (v : Voice R) (left mid now : Option (List ℕ)) (past : List (List ℕ)) (held : List ℕ) (room : ℕ) (before after : Option (List ℕ)) → Calm v left mid past held room before after → now ≡ mid → Done v left now end.ReadFault before after
calm_failed v left mid now past held room before after c e =
    let lines = calm_lines v left mid past held room before after c in
    let first = first_answered v past c.taken c.took.0 held c.text (omega (arith, c.size)) c.answered in
    subst (λ (o : Option (List ℕ)). Done v left o end.ReadFault before after) (sym e)
    (done v left mid c.taken c.took.0 end.ReadFault before after c.took.1 (open_few v c.taken room c.size)
    (record {
      text = c.text;
      lines = subst (λ (ls : List (List ℕ)). AreFirst v c.taken c.took.0 ls c.text) (sym (ap (λ (l : Lines). l.ended) lines)) first;
      short = subst (λ (s : List ℕ). length s ≤ v.bounds.line) (sym (ap (λ (l : Lines). l.rest) lines)) c.short;
      written = c.written;
    })
    (streams_end v left mid past held room before after c))

-- the listener then
pub failed_heard : {R S : Type 0} (v : Voice R) (met : Met S) (first listener : S) (left mid now : Option (List ℕ)) (past : List (List ℕ)) (held : List ℕ) (room : ℕ) (before after : Option (List ℕ))
    → Calm v left mid past held room before after → now ≡ mid → met first listener past → HasHeardTaken met first listener left now
failed_heard v met first listener left mid now past held room before after c e h =
    let lines = calm_lines v left mid past held room before after c in
    subst (λ (o : Option (List ℕ)). HasHeardTaken met first listener left o) (sym e) (record {
      taken = c.taken;
      took = c.took;
      heard = subst (met first listener) (c.answered.all ∙ sym (ap (λ (l : Lines). reverse_aux l.ended []) lines)) h;
    })

take_all : (n : ℕ) (s t : List ℕ) → length s ≡ n → take n (s ++ t) ≡ s
take_all n s t e = grind (arith, common_steps)

-- the input has more bytes than count
module _ {R : Type 0} (v : Voice R) (left mid now : Option (List ℕ)) (past : List (List ℕ)) (held : List ℕ) (room : ℕ) (before mid_out : Option (List ℕ)) (came : List ℕ) (c : Calm v left mid past held room before mid_out) (took : Took mid now came) (one : length came ≡ 1)
    (full : room ≡ 0) where
  over_long : (rest : List ℕ) → v.bounds.all < length ((c.taken ++ came) ++ rest)
  over_long rest =
      let size : length (c.taken ++ came) ≡ length c.taken + length came = length-append c.taken came in
      let sum : length ((c.taken ++ came) ++ rest) ≡ length (c.taken ++ came) + length rest = length-append (c.taken ++ came) rest in omega (arith, c.size)

  -- all lines that count are answered
  over_heard : (rest : List ℕ) → heard_lines v.bounds ((c.taken ++ came) ++ rest) ≡ c.answered.lines
  over_heard rest =
      let bytes = (c.taken ++ came) ++ rest in
      let all : length c.taken ≡ v.bounds.all = omega (arith, c.size) in
      let front : take v.bounds.all bytes ≡ c.taken = ap (λ (s : List ℕ). take v.bounds.all s) (append_assoc c.taken came rest) ∙ take_all v.bounds.all c.taken (came ++ rest) all in
      heard_long v bytes (over_long rest)
      ∙ (ap (λ (s : List ℕ). with_last v.bounds.line (lines_of s)) front
      ∙ (ap (λ (l : Lines). with_last v.bounds.line l) (calm_lines v left mid past held room before mid_out c)
      ∙ (ap (λ (ls : List (List ℕ)). c.answered.lines ++ ls) (short_last v.bounds.line held c.short) ∙ append-nil c.answered.lines)))

  over_reply : (rest words : List ℕ) → v.last past words → IsReply v ((c.taken ++ came) ++ rest) (c.text ++ words) end.TooLong
  over_reply rest words last =
      let bytes = (c.taken ++ came) ++ rest in
      let ends : end.TooLong ≡ end_of v.bounds bytes = sym (yes (nat_lt v.bounds.all (length bytes)) end.TooLong end.Ok (grind (arith, nat_tests, over_long rest))) in (
        ends,
        subst (λ (ls : List (List ℕ)). AreEnded v ls (c.text ++ words)) (sym (over_heard rest)) (record {
          answers = c.text;
          words = words;
          answered = c.answered.answered;
          last = subst (λ (ls : List (List ℕ)). v.last ls words) c.answered.all last;
          parts = refl;
        }),
      )

  over_begun : (rest : List ℕ) → Begun v (c.taken ++ came) rest before mid_out
  over_begun rest = record {
    answered = c.answered.lines;
    text = c.text;
    lines = record {
      behind = [];
      others = [];
      input = over_heard rest ∙ sym (append-nil c.answered.lines);
      alone = ap (λ (s : List ℕ). heard_lines v.bounds s) (sym (append-nil (c.taken ++ came))) ∙ (over_heard [] ∙ sym (append-nil c.answered.lines));
      answered = c.answered.answered;
    };
    written = begins_whole c.text before mid_out c.written;
  }

  pub calm_over : (after : Option (List ℕ)) (ended : LinesEnded R) → IsOverlong (v.last past) mid_out after ended → Done v left now ended before after
  calm_over after ended h = by_end ended h
    where
      t : Took left now (c.taken ++ came)
      t = took_more left mid now c.taken came c.took took

      size : length (c.taken ++ came) ≡ length c.taken + length came
      size = length-append c.taken came

      all : (ended : LinesEnded R) → Gone v (c.taken ++ came) t.0 ended before after → Grew mid_out after → Done v left now ended before after
      all ended gone grew =
          done v left now (c.taken ++ came) t.0 ended before after t.1 (omega (arith, c.size, size)) gone
          (streams_later v (c.taken ++ came) before mid_out after (calm_streams v left mid past held room before mid_out c came (omega arith)) grew)

      by_end : (ended : LinesEnded R) → IsOverlong (v.last past) mid_out after ended → Done v left now ended before after
      by_end end.TooLong k =
          all end.TooLong (record {
            text = c.text ++ k.0;
            reply = over_reply t.0 k.0 k.1;
            written = k.2 ∙ (ap (λ w. behind w k.0) c.written ∙ behind_more before c.text k.0);
          })
          (record { more = k.0; is = k.2 })
      by_end end.WriteFault k =
          all end.WriteFault (inr (record {
            text = c.text ++ k.0;
            ended = end.TooLong;
            reply = over_reply t.0 k.0 k.1;
            written = begins_later c.text k.0 before mid_out after c.written k.2;
          }))
          (record { more = k.2.front; is = k.2.written })
      by_end end.NoMemory k =
          all end.NoMemory (subst (λ (o : Option (List ℕ)). Begun v (c.taken ++ came) t.0 before o) (sym k) (over_begun t.0)) (grew_same mid_out after k)
      by_end end.Ok k = absurd k
      by_end (end.Refused r) k = absurd k
      by_end end.ReadFault k = absurd k

-- At the end of the input.

calm_heard : {R : Type 0} (v : Voice R) (left now : Option (List ℕ)) (past : List (List ℕ)) (held : List ℕ) (room : ℕ) (before after : Option (List ℕ)) (c : Calm v left now past held room before after)
    → heard_lines v.bounds c.taken ≡ c.answered.lines ++ last_line 0 held
calm_heard v left now past held room before after c =
    heard_short v c.taken (omega (arith, c.size)) ∙ ap (λ (l : Lines). with_last 0 l) (calm_lines v left now past held room before after c)

-- the end of the input: what is said to the last line
calm_reply : {R : Type 0} (v : Voice R) (left now : Option (List ℕ)) (past : List (List ℕ)) (held : List ℕ) (room : ℕ) (before after : Option (List ℕ)) (c : Calm v left now past held room before after) (text : List ℕ) (ended : LinesEnded R)
    → IsLastReply v past held text ended → IsReply v c.taken (c.text ++ text) ended
calm_reply v left now past held room before after c text end.Ok h =
    let heard = calm_heard v left now past held room before after c in
    let lines = c.answered.lines ++ last_line 0 held in
    let ends : end.Ok ≡ end_of v.bounds c.taken = sym (no (nat_lt v.bounds.all (length c.taken)) end.TooLong end.Ok (grind (arith, nat_tests, c.size))) in
    let all : reverse_aux (last_line 0 held) past ≡ reverse_aux lines [] =
    ap (λ (ls : List (List ℕ)). reverse_aux (last_line 0 held) ls) c.answered.all ∙ sym (onto_append c.answered.lines (last_line 0 held) []) in (
      ends,
      subst (λ (ls : List (List ℕ)). AreEnded v ls (c.text ++ text)) (sym heard) (record {
        answers = c.text ++ h.0;
        words = h.1;
        answered = are_append v [] c.answered.lines (last_line 0 held) c.text h.0 c.answered.answered (subst (λ (ls : List (List ℕ)). AreAnswered v ls (last_line 0 held) h.0) c.answered.all h.2);
        last = subst (λ (ls : List (List ℕ)). v.last ls h.1) all h.3;
        parts = ap (λ (t : List ℕ). c.text ++ t) h.4 ∙ sym (append_assoc c.text h.0 h.1);
      }),
    )
calm_reply v left now past held room before after c text (end.Refused refusal) h = record {
  before = c.answered.lines;
  line = held;
  behind = [];
  parts = calm_heard v left now past held room before after c ∙ ap (λ (ls : List (List ℕ)). c.answered.lines ++ ls) h.0;
  said = record {
    answers = c.text;
    words = text;
    answered = c.answered.answered;
    last = subst (λ (ls : List (List ℕ)). v.last ls text) c.answered.all h.2;
    parts = refl;
  };
  refused = subst (λ (ls : List (List ℕ)). Answers v ls held (Err refusal)) c.answered.all h.1;
}
calm_reply v left now past held room before after c text end.TooLong h = absurd h
calm_reply v left now past held room before after c text end.ReadFault h = absurd h
calm_reply v left now past held room before after c text end.WriteFault h = absurd h
calm_reply v left now past held room before after c text end.NoMemory h = absurd h

calm_done : {R : Type 0} (v : Voice R) (left mid now : Option (List ℕ)) (past : List (List ℕ)) (held : List ℕ) (room : ℕ) (before mid_out after : Option (List ℕ)) (ended : LinesEnded R) (c : Calm v left mid past held room before mid_out)
    → Took mid now [] → IsEnd now → Grew mid_out after → Gone v c.taken [] ended before after → Done v left now ended before after
calm_done v left mid now past held room before mid_out after ended c took is_end grew gone =
    let t = subst (λ (s : List ℕ). Took left now s) (append-nil c.taken) (took_more left mid now c.taken [] c.took took) in
    done v left now c.taken [] ended before after (taken_end left now c.taken t is_end) (open_few v c.taken room c.size) gone
    (streams_later v c.taken before mid_out after (streams_end v left mid past held room before mid_out c) grew)

-- the same of the bytes that were taken, and none behind them
reply_all : {R : Type 0} (v : Voice R) (taken text : List ℕ) (ended : LinesEnded R) → IsReply v taken text ended → IsReply v (taken ++ []) text ended
reply_all v taken text ended r = subst (λ (s : List ℕ). IsReply v s text ended) (sym (append-nil taken)) r

pub calm_end : {R : Type 0} (v : Voice R) (left mid now : Option (List ℕ)) (past : List (List ℕ)) (held : List ℕ) (room : ℕ) (before mid_out after : Option (List ℕ)) (ended : LinesEnded R)
    → Calm v left mid past held room before mid_out → Took mid now [] → IsEnd now → EndsBy v past held mid_out after ended → Done v left now ended before after
calm_end v left mid now past held room before mid_out after end.Ok c took is_end h =
    calm_done v left mid now past held room before mid_out after end.Ok c took is_end (record { more = h.0; is = h.2 }) (
      refl,
      record {
        text = c.text ++ h.0;
        reply = calm_reply v left mid past held room before mid_out c h.0 end.Ok h.1;
        written = h.2 ∙ (ap (λ w. behind w h.0) c.written ∙ behind_more before c.text h.0);
      },
    )
calm_end v left mid now past held room before mid_out after (end.Refused refusal) c took is_end h =
    calm_done v left mid now past held room before mid_out after (end.Refused refusal) c took is_end (record { more = h.0; is = h.2 }) (record {
      text = c.text ++ h.0;
      reply = reply_all v c.taken (c.text ++ h.0) (end.Refused refusal) (calm_reply v left mid past held room before mid_out c h.0 (end.Refused refusal) h.1);
      written = h.2 ∙ (ap (λ w. behind w h.0) c.written ∙ behind_more before c.text h.0);
    })
calm_end v left mid now past held room before mid_out after end.WriteFault c took is_end h =
    calm_done v left mid now past held room before mid_out after end.WriteFault c took is_end (record { more = h.3.front; is = h.3.written }) (inr (record {
      text = c.text ++ h.0;
      ended = h.1;
      reply = reply_all v c.taken (c.text ++ h.0) h.1 (calm_reply v left mid past held room before mid_out c h.0 h.1 h.2);
      written = begins_later c.text h.0 before mid_out after c.written h.3;
    }))
calm_end v left mid now past held room before mid_out after end.NoMemory c took is_end h =
    calm_done v left mid now past held room before mid_out after end.NoMemory c took is_end (grew_same mid_out after h)
    (begun_answered v past c.taken [] held c.text before after (omega (arith, c.size)) c.answered (begins_whole c.text before after (h ∙ c.written)))
calm_end v left mid now past held room before mid_out after end.TooLong c took is_end h = absurd h.1
calm_end v left mid now past held room before mid_out after end.ReadFault c took is_end h = absurd h.1

pub calm_last_end : {R : Type 0} (v : Voice R) (left mid now : Option (List ℕ)) (past : List (List ℕ)) (held : List ℕ) (room : ℕ) (before mid_out after : Option (List ℕ)) (ended : LinesEnded R) (rest : List ℕ)
    → Calm v left mid past held room before mid_out → Took mid now [] → IsEnd now → rest ≡ held → EndsBy v past rest mid_out after ended → Done v left now ended before after
calm_last_end v left mid now past held room before mid_out after ended rest c took is_end bytes h =
    calm_end v left mid now past held room before mid_out after ended c took is_end (subst (λ (s : List ℕ). EndsBy v past s mid_out after ended) bytes h)

pub open_stopped : {R : Type 0} (v : Voice R) (left now : Option (List ℕ)) (past : List (List ℕ)) (held : List ℕ) (room : ℕ) (was : List ℕ) (before mid after : Option (List ℕ)) (ended : LinesEnded R)
    → Open v left now past held room before mid → was ≡ [] → Stops v past held was mid after ended → Done v left now ended before after
open_stopped v left now past held room was before mid after ended o first s =
    stopped_done v left now past held room before mid after o ended (subst (λ (t : List ℕ). Stops v past held t mid after ended) first s)
