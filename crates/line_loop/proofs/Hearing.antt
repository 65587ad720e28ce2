-- Answers in a row.
use Rattle.std.proofs.Common.{◌≡◌, ◌∙◌, ◌+◌, ◌<◌, ℕ, zero, suc, List, [], ◌∷◌, ◌++◌, length, take, drop, get_or, Result, Ok, Err, refl, sym, ap, subst, append_assoc, append-nil, arith, Option, Some, None, inl, inr}
use Rattle.std.specs.Prelude.{◌==◌, ◌⊎◌, Bool, true, false, MatchBool, nat_lt}
use mathlib.Core.List.{reverse_aux}
use Rattle.std.proofs.lemmas.Bool.Decides.{nat_tests}
use Rattle.cy_outside.specs.Written.{behind, Begins}
use Rattle.memchr.specs.Find.{IsFirstByte, is_byte}
use Rattle.gathered_text.specs.Gathered.{Gathered}
use Rattle.line_loop.specs.Heard.{Met, StayHeard, IsHeard, IsUnheard}
use Rattle.line_loop.specs.Lines.{Lines, lines_of, with_last, last_line}
use Rattle.line_loop.specs.Reply.{Voice, Answers, AreAnswered}
use Rattle.line_loop.specs.Steps.{HasHeardAll, Stays, Comes, Answered, Goes, IsBroken, IsCut, IsRefused, Refuses, Stops, IsRefusal, IsStop, IsWhole, IsLastReply, EndsBy, in_front}
use Rattle.line_loop.specs.declared.ended.LinesEnded.{LinesEnded}
use Rattle.line_loop.specs.declared.ended.LinesEnded.TheVariants as end
use Rattle.line_loop.specs.declared.listener.LineStop.{LineStop}
use Rattle.line_loop.specs.declared.listener.LineStop.TheVariants as stop
use Rattle.line_loop.proofs.Splits.{first_long, line_parts, line_split, long_last, short_last}
use Rattle.line_loop.proofs.Written.{all_written, begins_gathered, begins_none, gathered_all, gathered_less, gathered_more, gathered_none}

pub onto_append : (xs ys past : List (List ℕ)) → reverse_aux (xs ++ ys) past ≡ reverse_aux ys (reverse_aux xs past)
onto_append [] ys past = refl
onto_append (x ∷ xs) ys past = onto_append xs ys (x ∷ past)

pub are_append : {R : Type 0} (v : Voice R) (past xs ys : List (List ℕ)) (t u : List ℕ) → AreAnswered v past xs t → AreAnswered v (reverse_aux xs past) ys u → AreAnswered v past (xs ++ ys) (t ++ u)
are_append v past [] ys t u a b = subst (λ (s : List ℕ). AreAnswered v past ys (s ++ u)) (sym a) b
are_append v past (x ∷ xs) ys t u a b =
    (a.0, a.1 ++ u, a.2, are_append v (x ∷ past) xs ys a.1 u a.3 b, ap (λ (s : List ℕ). s ++ u) a.4 ∙ append_assoc a.0 a.1 u)

-- the answers to the first of some lines
pub record FirstAnswers {R : Type 0} (v : Voice R) (past xs : List (List ℕ)) (text : List ℕ) : Type 0 where
  pub first : List ℕ
  pub more : List ℕ
  pub answered : AreAnswered v past xs first
  pub parts : text ≡ first ++ more

pub are_first : {R : Type 0} (v : Voice R) (past xs ys : List (List ℕ)) (text : List ℕ) → AreAnswered v past (xs ++ ys) text → FirstAnswers v past xs text
are_first v past [] ys text a = record { first = []; more = text; answered = refl; parts = refl }
are_first v past (x ∷ xs) ys text a =
    let i = are_first v (x ∷ past) xs ys a.1 a.3 in record {
      first = a.0 ++ i.first;
      more = i.more;
      answered = (a.0, i.first, a.2, i.answered, refl);
      parts = a.4 ∙ (ap (λ (s : List ℕ). a.0 ++ s) i.parts ∙ sym (append_assoc a.0 i.first i.more));
    }

pub are_one : {R : Type 0} (v : Voice R) (past : List (List ℕ)) (line text : List ℕ) → Answers v past line (Ok text) → AreAnswered v past (line ∷ []) text
are_one v past line text a = (text, [], a, refl, sym (append-nil text))

-- Lines of bytes.

pub answered_none : {R : Type 0} (v : Voice R) (past : List (List ℕ)) (bytes : List ℕ) → Answered v past bytes past bytes []
answered_none v past bytes = record { whole = []; lines = []; parts = refl; split = λ others. refl; answered = refl; all = refl }

pub answered_more : {R : Type 0} (v : Voice R) (a b c : List (List ℕ)) (x y z t u : List ℕ) → Answered v a x b y t → Answered v b y c z u → Answered v a x c z (t ++ u)
answered_more v a b c x y z t u h k = record {
  whole = h.whole ++ k.whole;
  lines = h.lines ++ k.lines;
  parts = h.parts ∙ (ap (λ (s : List ℕ). h.whole ++ s) k.parts ∙ sym (append_assoc h.whole k.whole z));
  split = λ others. ap (λ (s : List ℕ). lines_of s) (append_assoc h.whole k.whole others)
      ∙ (h.split (k.whole ++ others) ∙ (ap (λ (l : Lines). in_front h.lines l) (k.split others)
      ∙ ap (λ (ls : List (List ℕ)). record { ended = ls; rest = (lines_of others).rest }) (sym (append_assoc h.lines k.lines (lines_of others).ended))));
  answered = are_append v a h.lines k.lines t u h.answered (subst (λ (past : List (List ℕ)). AreAnswered v past k.lines u) h.all k.answered);
  all = k.all ∙ (ap (λ (past : List (List ℕ)). reverse_aux k.lines past) h.all ∙ sym (onto_append h.lines k.lines a));
}

-- the same where more bytes stand behind
pub answered_behind : {R : Type 0} (v : Voice R) (a b : List (List ℕ)) (x y t more : List ℕ) → Answered v a x b y t → Answered v a (x ++ more) b (y ++ more) t
answered_behind v a b x y t more h = record {
  whole = h.whole;
  lines = h.lines;
  parts = ap (λ (s : List ℕ). s ++ more) h.parts ∙ append_assoc h.whole y more;
  split = h.split;
  answered = h.answered;
  all = h.all;
}

-- one line, which has i bytes
pub answered_one : {R : Type 0} (v : Voice R) (past : List (List ℕ)) (s : List ℕ) (i : ℕ) (text : List ℕ) → IsFirstByte (is_byte 10) s (Some i) → Answers v past (take i s) (Ok text)
    → Answered v past s (take i s ∷ past) (drop (i + 1) s) text
answered_one v past s i text h a = record {
  whole = take i s ++ (get_or s i 0 ∷ []);
  lines = take i s ∷ [];
  parts = line_parts s i h.0.high ∙ sym (append_assoc (take i s) (get_or s i 0 ∷ []) (drop (i + 1) s));
  split = line_split s i h.0.high h.0.before h.1;
  answered = are_one v past (take i s) text a;
  all = refl;
}

pub refuses_one : {R : Type 0} (v : Voice R) (past : List (List ℕ)) (s : List ℕ) (i : ℕ) (refusal : R) → IsFirstByte (is_byte 10) s (Some i) → Answers v past (take i s) (Err refusal) → Refuses v past s refusal
refuses_one v past s i refusal h a most le others =
    let whole = take i s ++ (get_or s i 0 ∷ []) in
    let rest = drop (i + 1) s in
    let parts : s ++ others ≡ whole ++ (rest ++ others) =
    ap (λ (t : List ℕ). t ++ others) (line_parts s i h.0.high ∙ sym (append_assoc (take i s) (get_or s i 0 ∷ []) rest)) ∙ append_assoc whole rest others in
    let lines = lines_of (rest ++ others) in (
      take i s,
      lines.ended ++ last_line most lines.rest,
      ap (λ (t : List ℕ). with_last most (lines_of t)) parts ∙ ap (with_last most) (line_split s i h.0.high h.0.before h.1 (rest ++ others)),
      a,
    )

match_true : (t : Bool) (P Q : Type 0) → t ≡ true → P → MatchBool t P Q
match_true t P Q e p = subst (λ (b : Bool). MatchBool b P Q) (sym e) p

pub answers_long : {R : Type 0} (v : Voice R) (past : List (List ℕ)) (line : List ℕ) → v.bounds.line < length line → Answers v past line (Err (v.long (length past + 1)))
answers_long {R} v past line h =
    let e : Result (List ℕ) R = Err (v.long (length past + 1)) in
    match_true (nat_lt v.bounds.line (length line)) (e ≡ e) (v.answers past line e) (grind (arith, nat_tests)) refl

pub refuses_long : {R : Type 0} (v : Voice R) (past : List (List ℕ)) (s : List ℕ) (n : ℕ) (refusal : R) → IsFirstByte (is_byte 10) s None → v.bounds.line < length s → n ≡ length past + 1 → refusal ≡ v.long n → Refuses v past s refusal
refuses_long v past s n refusal clear long number is most le others =
    let first = first_long s others most v.bounds.line clear le long in
    let answer = answers_long v past first.line first.long in
    (first.line, first.behind, first.parts, subst (λ r. Answers v past first.line (Err r)) (sym (is ∙ ap v.long number)) answer)

-- Steps.

pub goes_none : {R : Type 0} (v : Voice R) (past : List (List ℕ)) (bytes gathered : List ℕ) (before : Option (List ℕ)) → Goes v past bytes past bytes gathered gathered before before
goes_none v past bytes gathered before = record {
  text = [];
  answered = answered_none v past bytes;
  gathered = subst (λ (t : List ℕ). Gathered t gathered before before) (sym (append-nil gathered)) (gathered_all gathered before);
}

gathered_on : (g t u h k : List ℕ) (before mid after : Option (List ℕ)) → Gathered (g ++ t) h before mid → Gathered (h ++ u) k mid after → Gathered (g ++ (t ++ u)) k before after
gathered_on g t u h k before mid after x y =
    subst (λ (s : List ℕ). Gathered s k before after) (append_assoc g t u) (gathered_less ((g ++ t) ++ u) (h ++ u) k before mid after (gathered_more (g ++ t) h u before mid x) y)

begins_on : (g t u h : List ℕ) (before mid after : Option (List ℕ)) → Gathered (g ++ t) h before mid → Begins (h ++ u) mid after → Begins (g ++ (t ++ u)) before after
begins_on g t u h before mid after x y =
    subst (λ (s : List ℕ). Begins s before after) (append_assoc g t u) (begins_gathered ((g ++ t) ++ u) (h ++ u) before mid after (gathered_more (g ++ t) h u before mid x) y)

written_on : (g t u h : List ℕ) (before mid after : Option (List ℕ)) → Gathered (g ++ t) h before mid → after ≡ behind mid (h ++ u) → after ≡ behind before (g ++ (t ++ u))
written_on g t u h before mid after x y = all_written (g ++ (t ++ u)) before after (gathered_on g t u h [] before mid after x (gathered_none (h ++ u) mid after y))

pub goes_more : {R : Type 0} (v : Voice R) (a b c : List (List ℕ)) (x y z g h k : List ℕ) (before mid after : Option (List ℕ)) → Goes v a x b y g h before mid → Goes v b y c z h k mid after → Goes v a x c z g k before after
goes_more v a b c x y z g h k before mid after p q = record {
  text = p.text ++ q.text;
  answered = answered_more v a b c x y z p.text q.text p.answered q.answered;
  gathered = gathered_on g p.text q.text h k before mid after p.gathered q.gathered;
}

broken_more : {R : Type 0} (v : Voice R) (a b : List (List ℕ)) (x y g h : List ℕ) (before mid after : Option (List ℕ)) → Goes v a x b y g h before mid → IsBroken v b y h mid after → IsBroken v a x g before after
broken_more v a b x y g h before mid after p q = record {
  new = q.new;
  left = q.left;
  text = p.text ++ q.text;
  answered = answered_more v a b q.new x y q.left p.text q.text p.answered q.answered;
  written = begins_on g p.text q.text h before mid after p.gathered q.written;
}

refused_more : {R : Type 0} (v : Voice R) (a b : List (List ℕ)) (x y g h said : List ℕ) (refusal : R) (before mid : Option (List ℕ)) → (p : Goes v a x b y g h before mid) → IsRefused v b y refusal said → IsRefused v a x refusal (p.text ++ said)
refused_more v a b x y g h said refusal before mid p q = record {
  new = q.new;
  left = q.left;
  text = p.text ++ q.text;
  words = q.words;
  answered = answered_more v a b q.new x y q.left p.text q.text p.answered q.answered;
  refused = q.refused;
  last = q.last;
  parts = ap (λ (t : List ℕ). p.text ++ t) q.parts ∙ sym (append_assoc p.text q.text q.words);
}

fault_more : {R : Type 0} (v : Voice R) (a b : List (List ℕ)) (x y g h : List ℕ) (before mid after : Option (List ℕ)) → Goes v a x b y g h before mid
    → IsBroken v b y h mid after ⊎ IsCut v b y h mid after → IsBroken v a x g before after ⊎ IsCut v a x g before after
fault_more v a b x y g h before mid after p (inl q) = inl (broken_more v a b x y g h before mid after p q)
fault_more v a b x y g h before mid after p (inr q) = inr (record {
  refusal = q.refusal;
  said = p.text ++ q.said;
  refused = refused_more v a b x y g h q.said q.refusal before mid p q.refused;
  written = begins_on g p.text q.said h before mid after p.gathered q.written;
})

pub stops_more : {R : Type 0} (v : Voice R) (a b : List (List ℕ)) (x y g h : List ℕ) (before mid after : Option (List ℕ)) (ended : LinesEnded R) → Goes v a x b y g h before mid → Stops v b y h mid after ended → Stops v a x g before after ended
stops_more v a b x y g h before mid after (end.Refused r) p q = (
  p.text ++ q.0,
  refused_more v a b x y g h q.0 r before mid p q.1,
  written_on g p.text q.0 h before mid after p.gathered q.2,
)
stops_more v a b x y g h before mid after end.WriteFault p q = fault_more v a b x y g h before mid after p q
stops_more v a b x y g h before mid after end.NoMemory p q = broken_more v a b x y g h before mid after p q
stops_more v a b x y g h before mid after end.Ok p q = absurd q
stops_more v a b x y g h before mid after end.TooLong p q = absurd q
stops_more v a b x y g h before mid after end.ReadFault p q = absurd q

-- nothing further is answered
broken_here : {R : Type 0} (v : Voice R) (past : List (List ℕ)) (bytes g : List ℕ) (before after : Option (List ℕ)) → Begins g before after → IsBroken v past bytes g before after
broken_here v past bytes g before after b = record {
  new = past;
  left = bytes;
  text = [];
  answered = answered_none v past bytes;
  written = subst (λ (t : List ℕ). Begins t before after) (sym (append-nil g)) b;
}

-- memory was wanted, and nothing further is written
pub stops_wanting : {R : Type 0} (v : Voice R) (past : List (List ℕ)) (bytes g : List ℕ) (before after : Option (List ℕ)) → after ≡ before → Stops v past bytes g before after end.NoMemory
stops_wanting v past bytes g before after e =
    subst (λ (o : Option (List ℕ)). Stops v past bytes g before o end.NoMemory) (sym e) (broken_here v past bytes g before before (begins_none g before))

refused_here : {R : Type 0} (v : Voice R) (past : List (List ℕ)) (bytes words : List ℕ) (refusal : R) → Refuses v past bytes refusal → v.last past words → IsRefused v past bytes refusal words
refused_here v past bytes words refusal h last = record {
  new = past;
  left = bytes;
  text = [];
  words = words;
  answered = answered_none v past bytes;
  refused = h;
  last = last;
  parts = refl;
}

-- the next line is refused
pub stops_refused : {R : Type 0} (v : Voice R) (past : List (List ℕ)) (bytes g : List ℕ) (before after : Option (List ℕ)) (refusal : R) (ended : LinesEnded R)
    → Refuses v past bytes refusal → IsRefusal (v.last past) refusal g before after ended → Stops v past bytes g before after ended
stops_refused v past bytes g before after refusal (end.Refused r) h k =
    (k.1.0, refused_here v past bytes k.1.0 r (subst (λ q. Refuses v past bytes q) (sym k.0) h) k.1.1, k.1.2)
stops_refused v past bytes g before after refusal end.WriteFault h k =
    inr (record { refusal = refusal; said = k.0; refused = refused_here v past bytes k.0 refusal h k.1; written = k.2 })
stops_refused v past bytes g before after refusal end.NoMemory h k = stops_wanting v past bytes g before after k
stops_refused v past bytes g before after refusal end.Ok h k = absurd k
stops_refused v past bytes g before after refusal end.TooLong h k = absurd k
stops_refused v past bytes g before after refusal end.ReadFault h k = absurd k

-- the output failed
pub stops_writing : {R : Type 0} (v : Voice R) (a b : List (List ℕ)) (x y g text : List ℕ) (before after : Option (List ℕ)) → Answered v a x b y text → Begins (g ++ text) before after → Stops v a x g before after end.WriteFault
stops_writing v a b x y g text before after h k = inl (record { new = b; left = y; text = text; answered = h; written = k })

-- the end that a stop makes behind these lines
abbrev pub IsStopAt : {R : Type 0} → (List ℕ → Type 0) → LineStop R → List ℕ → Option (List ℕ) → Option (List ℕ) → LinesEnded R → Type 0
IsStopAt last (stop.Refused refusal) gathered before after ended = IsRefusal last refusal gathered before after ended
IsStopAt last stop.NoMemory gathered before after ended = (ended ≡ end.NoMemory) × (after ≡ before)

pub stop_at : {S R : Type 0} (heard : Met S) (last : S → List (List ℕ) → List ℕ → Type 0) (first now : S) (past : List (List ℕ)) (stop : LineStop R) (gathered : List ℕ) (before after : Option (List ℕ)) (ended : LinesEnded R)
    → StayHeard (heard first now) past stop → IsStop heard last now stop gathered before after ended → IsStopAt (last first past) stop gathered before after ended
stop_at heard last first now past (stop.Refused r) gathered before after ended h s = s first past h
stop_at heard last first now past stop.NoMemory gathered before after ended h s = s

-- a line is not answered
pub stops_heard : {R : Type 0} (v : Voice R) (past : List (List ℕ)) (bytes : List ℕ) (i : ℕ) (g h : List ℕ) (before after : Option (List ℕ)) (stop : LineStop R) (ended : LinesEnded R)
    → IsFirstByte (is_byte 10) bytes (Some i) → IsUnheard (Answers v past (take i bytes)) g h stop → IsStopAt (v.last past) stop h before after ended → Stops v past bytes g before after ended
stops_heard v past bytes i g h before after (stop.Refused r) ended line a by =
    stops_refused v past bytes g before after r ended (refuses_one v past bytes i r line a.0) (subst (λ (t : List ℕ). IsRefusal (v.last past) r t before after ended) a.1 by)
stops_heard v past bytes i g h before after stop.NoMemory ended line a by =
    subst (λ e. Stops v past bytes g before after e) (sym by.0) (stops_wanting v past bytes g before after by.1)

-- a line is answered
pub goes_heard : {R : Type 0} (v : Voice R) (past : List (List ℕ)) (bytes : List ℕ) (i : ℕ) (g h k rest : List ℕ) (before after : Option (List ℕ))
    → IsFirstByte (is_byte 10) bytes (Some i) → IsHeard (Answers v past (take i bytes)) g h → rest ≡ drop (i + 1) bytes → Gathered h k before after
    → Goes v past bytes (take i bytes ∷ past) rest g k before after
goes_heard v past bytes i g h k rest before after line a e w = record {
  text = a.0;
  answered = subst (λ (s : List ℕ). Answered v past bytes (take i bytes ∷ past) s a.0) (sym e) (answered_one v past bytes i a.0 line a.1);
  gathered = subst (λ (t : List ℕ). Gathered t k before after) a.2 w;
}

-- a line is answered, and the output failed
pub stops_unwritten : {R : Type 0} (v : Voice R) (past : List (List ℕ)) (bytes : List ℕ) (i : ℕ) (g h : List ℕ) (before after : Option (List ℕ))
    → IsFirstByte (is_byte 10) bytes (Some i) → IsHeard (Answers v past (take i bytes)) g h → Begins h before after → Stops v past bytes g before after end.WriteFault
stops_unwritten v past bytes i g h before after line a w =
    stops_writing v past (take i bytes ∷ past) bytes (drop (i + 1) bytes) g a.0 before after (answered_one v past bytes i a.0 line a.1) (subst (λ (t : List ℕ). Begins t before after) a.2 w)

-- all that is gathered was written, or the output failed
pub goes_written : {R : Type 0} (v : Voice R) (a b : List (List ℕ)) (x y g h none : List ℕ) (before mid after : Option (List ℕ)) → Goes v a x b y g h before mid → none ≡ [] → after ≡ behind mid h → Goes v a x b y g none before after
goes_written v a b x y g h none before mid after p e w = record {
  text = p.text;
  answered = p.answered;
  gathered = subst (λ (t : List ℕ). Gathered (g ++ p.text) t before after) (sym e) (gathered_less (g ++ p.text) h [] before mid after p.gathered (gathered_none h mid after w));
}

pub stops_behind : {R : Type 0} (v : Voice R) (a b : List (List ℕ)) (x y g h : List ℕ) (before mid after : Option (List ℕ)) → Goes v a x b y g h before mid → Begins h mid after → Stops v a x g before after end.WriteFault
stops_behind v a b x y g h before mid after p w = stops_writing v a b x y g p.text before after p.answered (begins_gathered (g ++ p.text) h before mid after p.gathered w)

-- another reader that holds the same
pub goes_at : {R : Type 0} (v : Voice R) (a b : List (List ℕ)) (x y z g h : List ℕ) (before after : Option (List ℕ)) → Goes v a x b y g h before after → z ≡ y → Goes v a x b z g h before after
goes_at v a b x y z g h before after p k = subst (λ (s : List ℕ). Goes v a x b s g h before after) (sym k) p

-- What a listener has heard.

module _ {S R : Type 0} (heard : Met S) (v : S → Voice R) where
  -- nothing more
  pub comes_none : (now : S) (count : ℕ) (bytes gathered : List ℕ) (before : Option (List ℕ)) → Comes heard now now count count (λ f p q. Goes (v f) p bytes q bytes gathered gathered before before)
  comes_none now count bytes gathered before f p h = record { past = p; hears = h; goes = goes_none (v f) p bytes gathered before }

  pub comes_more : (a b c : S) (m n o : ℕ) (x y z g h k : List ℕ) (before mid after : Option (List ℕ))
      → Comes heard a b m n (λ f p q. Goes (v f) p x q y g h before mid) → Comes heard b c n o (λ f p q. Goes (v f) p y q z h k mid after) → Comes heard a c m o (λ f p q. Goes (v f) p x q z g k before after)
  comes_more a b c m n o x y z g h k before mid after s t f p all =
      let i = s f p all in
      let j = t f i.past i.hears in record {
        past = j.past;
        hears = j.hears;
        goes = goes_more (v f) p i.past j.past x y z g h k before mid after i.goes j.goes;
      }

  pub stays_more : (a b : S) (m n : ℕ) (x y g h : List ℕ) (before mid after : Option (List ℕ)) (ended : LinesEnded R)
      → Comes heard a b m n (λ f p q. Goes (v f) p x q y g h before mid) → Stays heard b n (λ f p. Stops (v f) p y h mid after ended) → Stays heard a m (λ f p. Stops (v f) p x g before after ended)
  stays_more a b m n x y g h before mid after ended s t f p all =
      let i = s f p all in stops_more (v f) p i.past x y g h before mid after ended i.goes (t f i.past i.hears)

  -- by another reader that holds the same
  pub comes_at : (a b : S) (m n o : ℕ) (x y z g h : List ℕ) (before after : Option (List ℕ))
      → Comes heard a b m n (λ f p q. Goes (v f) p x q y g h before after) → o ≡ n → z ≡ y → Comes heard a b m o (λ f p q. Goes (v f) p x q z g h before after)
  comes_at a b m n o x y z g h before after s e k f p all =
      let i = s f p all in record {
        past = i.past;
        hears = record { heard = i.hears.heard; number = e ∙ i.hears.number };
        goes = goes_at (v f) p i.past x y z g h before after i.goes k;
      }

  -- all that is gathered was written, or the output failed
  pub comes_written : (a b : S) (m n : ℕ) (x y g h none : List ℕ) (before mid after : Option (List ℕ))
      → Comes heard a b m n (λ f p q. Goes (v f) p x q y g h before mid) → none ≡ [] → after ≡ behind mid h → Comes heard a b m n (λ f p q. Goes (v f) p x q y g none before after)
  comes_written a b m n x y g h none before mid after s e w f p all =
      let i = s f p all in record { past = i.past; hears = i.hears; goes = goes_written (v f) p i.past x y g h none before mid after i.goes e w }

  pub stays_behind : (a b : S) (m n : ℕ) (x y g h : List ℕ) (before mid after : Option (List ℕ))
      → Comes heard a b m n (λ f p q. Goes (v f) p x q y g h before mid) → Begins h mid after → Stays heard a m (λ f p. Stops (v f) p x g before after end.WriteFault)
  stays_behind a b m n x y g h before mid after s w f p all =
      let i = s f p all in stops_behind (v f) p i.past x y g h before mid after i.goes w

  -- the next line is answered
  pub hears_ok : (old new : S) (count number : ℕ) (line same before after : List ℕ) → number ≡ count + 1 → line ≡ same
      → ((f : S) (p : List (List ℕ)) → heard f old p → number ≡ length p + 1 → heard f new (line ∷ p) × IsHeard (Answers (v f) p line) before after)
      → Stays heard old count (λ f p. heard f new (same ∷ p) × IsHeard (Answers (v f) p same) before after)
  hears_ok old new count number line same before after n e h f p all =
      let k = h f p all.heard (omega (arith, n, all.number)) in
      subst (λ (l : List ℕ). heard f new (l ∷ p) × IsHeard (Answers (v f) p l) before after) e k

  -- the next line is not answered
  pub hears_err : (old new : S) (count number : ℕ) (line same before after : List ℕ) (stop : LineStop R) → number ≡ count + 1 → line ≡ same
      → ((f : S) (p : List (List ℕ)) → heard f old p → number ≡ length p + 1 → StayHeard (heard f new) p stop × IsUnheard (Answers (v f) p line) before after stop)
      → Stays heard old count (λ f p. StayHeard (heard f new) p stop × IsUnheard (Answers (v f) p same) before after stop)
  hears_err old new count number line same before after stop n e h f p all =
      let k = h f p all.heard (omega (arith, n, all.number)) in
      subst (λ (l : List ℕ). StayHeard (heard f new) p stop × IsUnheard (Answers (v f) p l) before after stop) e k

  -- it has heard one line more
  pub hears_all : (f now : S) (count new : ℕ) (line : List ℕ) (p : List (List ℕ)) (old : S) → HasHeardAll heard f old count p → heard f now (line ∷ p) → new ≡ count + 1 → HasHeardAll heard f now new (line ∷ p)
  hears_all f now count new line p old all h n = record { heard = h; number = omega (arith, n, all.number) }

-- The last line.

pub some_length : (n : ℕ) → (n == 0) ≡ false → 0 < n
some_length zero h = absurd cc
some_length (suc n) h = omega arith

pub no_length : (n : ℕ) → (n == 0) ≡ true → n ≡ 0
no_length n h = grind (arith, nat_tests, h)

-- nothing is held
pub last_none : {R : Type 0} (v : Voice R) (past : List (List ℕ)) (bytes g : List ℕ) (before after : Option (List ℕ)) (ended : LinesEnded R)
    → length bytes ≡ 0 → g ≡ [] → IsWhole (v.last past) g before after ended → EndsBy v past bytes before after ended
last_none {R} v past bytes g before after ended e none h = by_end ended (subst (λ (t : List ℕ). IsWhole (v.last past) t before after ended) none h)
  where
    lines : last_line 0 bytes ≡ []
    lines = short_last 0 bytes (omega arith)

    all : (words : List ℕ) → v.last past words → IsLastReply v past bytes words end.Ok
    all words h = (
      [],
      words,
      subst (λ (ls : List (List ℕ)). AreAnswered v past ls []) (sym lines) refl,
      subst (λ (ls : List (List ℕ)). v.last (reverse_aux ls past) words) (sym lines) h,
      refl,
    )

    by_end : (ended : LinesEnded R) → IsWhole (v.last past) [] before after ended → EndsBy v past bytes before after ended
    by_end end.Ok k = (k.0, all k.0 k.1, k.2)
    by_end end.WriteFault k = (k.0, end.Ok, all k.0 k.1, k.2)
    by_end end.NoMemory k = k
    by_end (end.Refused r) k = absurd k
    by_end end.TooLong k = absurd k
    by_end end.ReadFault k = absurd k

-- what is held is a line that is answered
pub last_heard : {R : Type 0} (v : Voice R) (past : List (List ℕ)) (bytes g h : List ℕ) (before after : Option (List ℕ)) (ended : LinesEnded R)
    → 0 < length bytes → g ≡ [] → IsHeard (Answers v past bytes) g h → IsWhole (v.last (bytes ∷ past)) h before after ended → EndsBy v past bytes before after ended
last_heard {R} v past bytes g h before after ended some none a k = by_end ended (subst (λ (t : List ℕ). IsWhole (v.last (bytes ∷ past)) t before after ended) text k)
  where
    text : h ≡ a.0
    text = a.2 ∙ ap (λ (t : List ℕ). t ++ a.0) none

    lines : last_line 0 bytes ≡ bytes ∷ []
    lines = long_last 0 bytes some

    all : (words : List ℕ) → v.last (bytes ∷ past) words → IsLastReply v past bytes (a.0 ++ words) end.Ok
    all words h = (
      a.0,
      words,
      subst (λ (ls : List (List ℕ)). AreAnswered v past ls a.0) (sym lines) (are_one v past bytes a.0 a.1),
      subst (λ (ls : List (List ℕ)). v.last (reverse_aux ls past) words) (sym lines) h,
      refl,
    )

    by_end : (ended : LinesEnded R) → IsWhole (v.last (bytes ∷ past)) a.0 before after ended → EndsBy v past bytes before after ended
    by_end end.Ok k = (a.0 ++ k.0, all k.0 k.1, k.2)
    by_end end.WriteFault k = (a.0 ++ k.0, end.Ok, all k.0 k.1, k.2)
    by_end end.NoMemory k = k
    by_end (end.Refused r) k = absurd k
    by_end end.TooLong k = absurd k
    by_end end.ReadFault k = absurd k

last_refused : {R : Type 0} (v : Voice R) (past : List (List ℕ)) (bytes : List ℕ) (before after : Option (List ℕ)) (r : R) (ended : LinesEnded R)
    → 0 < length bytes → Answers v past bytes (Err r) → IsRefusal (v.last past) r [] before after ended → EndsBy v past bytes before after ended
last_refused v past bytes before after r (end.Refused s) some a by =
    (by.1.0, (long_last 0 bytes some, subst (λ t. Answers v past bytes (Err t)) (sym by.0) a, by.1.1), by.1.2)
last_refused v past bytes before after r end.WriteFault some a by = (by.0, end.Refused r, (long_last 0 bytes some, a, by.1), by.2)
last_refused v past bytes before after r end.NoMemory some a by = by
last_refused v past bytes before after r end.Ok some a by = absurd by
last_refused v past bytes before after r end.TooLong some a by = absurd by
last_refused v past bytes before after r end.ReadFault some a by = absurd by

-- what is held is a line that is not answered
pub last_stopped : {R : Type 0} (v : Voice R) (past : List (List ℕ)) (bytes g h : List ℕ) (before after : Option (List ℕ)) (stop : LineStop R) (ended : LinesEnded R)
    → 0 < length bytes → g ≡ [] → IsUnheard (Answers v past bytes) g h stop → IsStopAt (v.last past) stop h before after ended → EndsBy v past bytes before after ended
last_stopped v past bytes g h before after (stop.Refused r) ended some none a by =
    last_refused v past bytes before after r ended some a.0 (subst (λ (t : List ℕ). IsRefusal (v.last past) r t before after ended) (a.1 ∙ none) by)
last_stopped v past bytes g h before after stop.NoMemory ended some none a by = subst (λ e. EndsBy v past bytes before after e) (sym by.0) by.1
