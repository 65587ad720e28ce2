-- How far a log was read.
use Rattle.std.proofs.Common.{◌≡◌, ◌∙◌, ℕ, Bool, true, false, List, [], ◌∷◌, ◌++◌, Option, Some, None, Result, Ok, IfSome, refl, sym, ap, subst, append_assoc}
use Rattle.std.specs.Prelude.{unwrap_or}
use Rattle.tail_frame.specs.declared.logged.Record.{Record}
use Rattle.frame_log.specs.Input.{Took, IsAtEnd}
use Rattle.frame_log.specs.Log.{Log, log_of}
use Rattle.frame_log.specs.Reader.{saw_end, log_behind, given, IsNext, AnswersNext, AnswersAtEnd}
use Rattle.frame_log.specs.declared.error.LogError.{LogError}
use Rattle.frame_log.specs.declared.reader.LogReader.{LogReader}
use Rattle.log_loop.specs.Next.{Goes, GoesOn, handed}
use Rattle.log_loop.proofs.Logs.{onto}

-- these records came, and whatever follows what was taken, the log behind the reader is the rest of the log
pub record Reads (names : List (List ℕ)) (told left : Option (List ℕ)) (reader : LogReader) (past : List Record) : Type 0 where
  pub came : List ℕ
  pub took : Took told left came
  pub log : (rest : List ℕ) → (saw_end reader ≡ true → rest ≡ []) → log_of names (came ++ rest) ≡ onto past (log_behind reader rest)
  pub ended : saw_end reader ≡ true → IsAtEnd left

-- the log of the input, which goes on so behind the records that came
pub record Has (names : List (List ℕ)) (told : Option (List ℕ)) (past : List Record) (behind : Log) : Type 0 where
  pub bytes : List ℕ
  pub is : IfSome told (λ (left : List ℕ). bytes ≡ left)
  pub log : log_of names bytes ≡ onto past behind

-- the same, where one more answer came
pub record HasNext (names : List (List ℕ)) (told : Option (List ℕ)) (past : List Record) (answer : Result (Option Record) LogError) : Type 0 where
  pub behind : Log
  pub after : Log
  pub has : Has names told past behind
  pub next : IsNext behind answer after

pub took_more : (told mid left : Option (List ℕ)) (a b : List ℕ) → Took told mid a → Took mid left b → Took told left (a ++ b)
took_more None mid left a b x y = subst (λ o. Took o left b) x y
took_more (Some l) None left a b x y = absurd x
took_more (Some l) (Some m) None a b x y = absurd y
took_more (Some l) (Some m) (Some n) a b x y = x ∙ (ap (λ t. a ++ t) y ∙ sym (append_assoc a b n))

told_bytes : (told left : Option (List ℕ)) (came : List ℕ) → Took told left came → IfSome told (λ l. came ++ unwrap_or left [] ≡ l)
told_bytes None left came t = tt
told_bytes (Some l) None came t = absurd t
told_bytes (Some l) (Some more) came t = sym t

none_left : (left : Option (List ℕ)) → IsAtEnd left → unwrap_or left [] ≡ []
none_left None e = refl
none_left (Some more) e = e

-- nothing comes behind the end
still_ended : (before after : Option (List ℕ)) (came : List ℕ) → Took before after came → IsAtEnd before → IsAtEnd after
still_ended None after came t e = subst IsAtEnd (sym t) tt
still_ended (Some l) None came t e = absurd t
still_ended (Some l) (Some more) [] t e = sym t ∙ e
still_ended (Some l) (Some more) (b ∷ came) t e = let bad : b ∷ (came ++ more) ≡ [] = sym t ∙ e in absurd cc

-- what is left counts as a rest
left_is_rest : (names : List (List ℕ)) (told left : Option (List ℕ)) (reader : LogReader) (past : List Record) → Reads names told left reader past → saw_end reader ≡ true → unwrap_or left [] ≡ []
left_is_rest names told left reader past r e = none_left left (r.ended e)

pub has_log : (names : List (List ℕ)) (told left : Option (List ℕ)) (reader : LogReader) (past : List Record) → Reads names told left reader past → Has names told past (log_behind reader (unwrap_or left []))
has_log names told left reader past r = record {
  bytes = r.came ++ unwrap_or left [];
  is = told_bytes told left r.came r.took;
  log = r.log (unwrap_or left []) (left_is_rest names told left reader past r);
}

-- a rest behind what came in a call is one behind what came before
rest_before : (old new : Bool) (came rest : List ℕ) → (old ≡ true → (came ≡ []) × (new ≡ true)) → (new ≡ true → rest ≡ []) → old ≡ true → came ++ rest ≡ []
rest_before old new came rest f g e = let h = f e in ap (λ t. t ++ rest) h.0 ∙ g h.1

either_ended : (old new : Bool) (before after : Option (List ℕ)) (came : List ℕ) → Took before after came → (old ≡ true → IsAtEnd before) → (old ≡ false → new ≡ true → IsAtEnd after) → new ≡ true → IsAtEnd after
either_ended true new before after came t f g e = still_ended before after came t (f refl)
either_ended false new before after came t f g e = g refl e

-- the log behind what came with an answer
pub log_after : (names : List (List ℕ)) (told before after : Option (List ℕ)) (old new : LogReader) (past : List Record) (answer : Result (Option Record) LogError) → (r : Reads names told before old past) → (g : Goes old new before after answer)
    → (rest : List ℕ) → (saw_end new ≡ true → rest ≡ []) → log_of names ((r.came ++ g.came) ++ rest) ≡ onto past (log_behind old (g.came ++ rest))
log_after names told before after old new past answer r g rest e =
    ap (log_of names) (append_assoc r.came g.came rest) ∙ r.log (g.came ++ rest) (rest_before (saw_end old) (saw_end new) g.came rest g.ended e)

pub reads_more : (names : List (List ℕ)) (told before after : Option (List ℕ)) (old new : LogReader) (past : List Record) (rec : Record) → Reads names told before old past → Goes old new before after (Ok (Some rec))
    → (saw_end old ≡ false → saw_end new ≡ true → IsAtEnd after) → Reads names told after new (rec ∷ past)
reads_more names told before after old new past rec r g end = record {
  came = r.came ++ g.came;
  took = took_more told before after r.came g.came r.took g.took;
  log = λ rest e. log_after names told before after old new past (Ok (Some rec)) r g rest e ∙ ap (onto past) (g.next rest e);
  ended = either_ended (saw_end old) (saw_end new) before after g.came g.took r.ended end;
}

pub has_next : (names : List (List ℕ)) (told before after : Option (List ℕ)) (old new : LogReader) (past : List Record) (answer : Result (Option Record) LogError) → Reads names told before old past → Goes old new before after answer
    → (saw_end old ≡ false → saw_end new ≡ true → IsAtEnd after) → HasNext names told past answer
has_next names told before after old new past answer r g end =
    let rest = unwrap_or after [] in
    let is_rest : saw_end new ≡ true → rest ≡ [] = λ e. none_left after (either_ended (saw_end old) (saw_end new) before after g.came g.took r.ended end e) in record {
      behind = log_behind old (g.came ++ rest);
      after = log_behind new rest;
      has = record {
        bytes = (r.came ++ g.came) ++ rest;
        is = told_bytes told after (r.came ++ g.came) (took_more told before after r.came g.came r.took g.took);
        log = log_after names told before after old new past answer r g rest is_rest;
      };
      next = g.next rest is_rest;
    }

-- at the start nothing came
pub reads_none : (names : List (List ℕ)) (left : Option (List ℕ)) (reader : LogReader) → ((rest : List ℕ) → log_behind reader rest ≡ log_of names rest) → saw_end reader ≡ false → Reads names left left reader []
reads_none names left reader h e = record { came = []; took = took_none left; log = λ rest _. sym (h rest); ended = λ t. let bad : false ≡ true = sym e ∙ t in absurd cc }
  where
    took_none : (o : Option (List ℕ)) → Took o o []
    took_none None = refl
    took_none (Some b) = refl

-- what a call gives that may read, also behind the end of the input, where it doesn't
pub goes_read : (old new : LogReader) (before after : Option (List ℕ)) (answer : Result (Option Record) LogError)
    → AnswersNext old new before after answer
    → (saw_end old ≡ true → AnswersAtEnd old new before after answer) → Goes old new before after answer
goes_read old new before after answer n e = by_end (saw_end old) refl
  where
    took_same : (a b : Option (List ℕ)) → b ≡ a → Took a b []
    took_same None b h = h
    took_same (Some l) b h = subst (λ (o : Option (List ℕ)). Took (Some l) o []) (sym h) refl

    by_end : (b : Bool) → saw_end old ≡ b → Goes old new before after answer
    by_end true h = record {
      came = [];
      took = took_same before after (e h).0;
      ended = λ _. (refl, (e h).1);
      next = λ rest r. subst (λ (t : List ℕ). IsNext (log_behind old t) answer (log_behind new t)) (sym (r (e h).1)) (e h).2;
    }
    by_end false h = record { came = n.0; took = n.1; ended = λ t. let bad : true ≡ false = sym t ∙ h in absurd cc; next = n.2 }

-- the answer of a call that writes its record
pub goes_given : (old new : LogReader) (before after : Option (List ℕ)) (written : Record) (more : Bool) → Goes old new before after (given written (Ok more)) → GoesOn old new before after (handed written (Ok more))
goes_given old new before after written true g = g
goes_given old new before after written false g = g
