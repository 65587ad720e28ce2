-- The text of records in turn is read back.
use Rattle.std.proofs.Common.{◌≡◌, ◌∙◌, ◌≢◌, ℕ, suc, ◌+◌, ◌-◌, ◌*◌, ◌^◌, ◌≤◌, ltb, List, [], ◌∷◌, ◌++◌, reverse, Option, Some, None, length, take, refl, sym, ap, append_assoc, append-nil, length-append, take_all, add-one, arith}
use mathlib.Core.List.{reverse_aux}
use Rattle.std.proofs.lemmas.Bool.{cond-false, le-ltb}
use Rattle.tail_frame.specs.declared.logged.Record.{Record}
use Rattle.frame_log.specs.declared.error.LogError.TheVariants as error
use Rattle.frame_log.specs.Log.{Log, Place, Take, Refuse, first_of, given_by, given, followed, log_of_lines, lines_of, last_line, log_from, start}
use Rattle.frame_log.proofs.LogLemmas.{with_line, lines_of-line}
use Rattle.log_text.specs.Written.{record_text, records_text, newest_moment, oldest_moment, IsNext, InTurn, LogIsRead, TextIsShort}
use Rattle.log_text.proofs.Each.{each_from}
use Rattle.log_text.proofs.Fields.{cut_at}
use Rattle.log_text.proofs.Lines.{line_is_read}

module _ (names : List (List ℕ)) where
  abbrev lines : List Record → List (List ℕ)
  lines [] = []
  lines (r ∷ past) = lines past ++ record_text names r ∷ []

  -- one line is split off
  split_line : (r : Record) (past : List Record) (more : List ℕ) → IsNext names r past → lines_of (record_text names r ++ 10 ∷ [] ++ more) ≡ with_line (record_text names r) (lines_of more)
  split_line r past more x =
      let line = record_text names r in
      lines_of-line (line ++ 10 ∷ []) line [] more (cut_at 10 line [] (each_from (λ b. b ≢ 10) line (line_is_read names r x.written).one_line))

  -- the lines of a text are those of its records
  split : (recs : List Record) (more : List ℕ) → InTurn names recs → lines_of (records_text names recs ++ more) ≡ (lines recs ++ (lines_of more).0, (lines_of more).1)
  split [] more x = refl
  split (r ∷ past) more x =
      let line = record_text names r in
      let behind = line ++ 10 ∷ [] ++ more in
      ap lines_of (ap (λ t. t ++ more) (append_assoc (records_text names past) line (10 ∷ [])) ∙ append_assoc (records_text names past) (line ++ 10 ∷ []) more)
      ∙ (split past behind x.1
      ∙ (ap (λ (p : List (List ℕ) × List ℕ). (lines past ++ p.0, p.1)) (split_line r past more x.0)
      ∙ ap (λ ls. (ls, (lines_of more).1)) (sym (append_assoc (lines past) (line ∷ []) (lines_of more).0))))

  -- the place behind records
  abbrev first_at : List Record → Option ℕ
  first_at [] = None
  first_at (r ∷ past) = Some (oldest_moment r.moment past)

  abbrev place_at : List Record → Place
  place_at recs = record { lines = length recs; first = first_at recs; last = newest_moment recs }

  oldest : (moment : ℕ) (past : List Record) → first_of (first_at past) moment ≡ oldest_moment moment past
  oldest moment [] = refl
  oldest moment (r ∷ past) = refl

  -- what the next line gives
  taken : (r : Record) (past : List Record) → IsNext names r past → given names (place_at past) (record_text names r) ≡ Take r (place_at (r ∷ past))
  taken r past x =
      let n = length past + 1 in
      let since = first_of (first_at past) r.moment in
      let at = oldest r.moment past in
      let written : ℕ → Record = λ k. record { line = k; moment = r.moment; bus = r.bus; ident = r.ident; bytes = r.bytes } in
      let place : ℕ → ℕ → Place = λ k first. record { lines = k; first = Some first; last = r.moment } in
      let far = Refuse (error.TooFar n) in
      let take_it = Take (written n) (place n since) in
      ap (given_by (place_at past) n) (line_is_read names r x.written).said
      ∙ (cond-false (ltb r.moment (newest_moment past)) (Refuse (error.TimeBack n)) _ (le-ltb r.moment (newest_moment past) x.in_time)
      ∙ (cond-false (ltb 100_000_000_000 (r.moment - since)) far take_it (le-ltb 100_000_000_000 (r.moment - since) (omega (arith, at, x.within)))
      ∙ (ap (λ k. Take (written k) (place n since)) (sym x.line)
      ∙ (ap (λ k. Take r (place k since)) (add-one (length past))
      ∙ ap (λ f. Take r (place (suc (length past)) f)) at))))

  -- records, the newest first, in front of a log
  abbrev onto : List Record → Log → Log
  onto past log = record { records = reverse_aux past log.records; refusal = log.refusal }

  -- what the lines of records give, and then the others
  read : (recs : List Record) (ls : List (List ℕ)) → InTurn names recs → log_of_lines names None (lines recs ++ ls) start ≡ onto recs (log_of_lines names None ls (place_at recs))
  read [] ls x = refl
  read (r ∷ past) ls x =
      let line = record_text names r in
      ap (λ t. log_of_lines names None t start) (append_assoc (lines past) (line ∷ []) ls)
      ∙ (read past (line ∷ ls) x.1 ∙ ap (λ g. onto past (followed g (λ new. log_of_lines names None ls new))) (taken r past x.0))

  whole : (recs : List Record) → InTurn names recs → lines_of (records_text names recs) ≡ (lines recs ++ [], [])
  whole recs x = ap lines_of (sym (append-nil (records_text names recs))) ∙ split recs [] x

  log_is : (recs : List Record) → InTurn names recs → (room : ℕ) → length (records_text names recs) ≤ room → log_from names room (records_text names recs) start ≡ record { records = reverse recs; refusal = None }
  log_is recs x room h =
      let text = records_text names recs in
      let all : lines_of (take room text) ≡ (lines recs ++ [], []) = ap lines_of (take_all room text h) ∙ whole recs x in
      let parts : (List (List ℕ) × List ℕ) → Log = λ p. log_of_lines names None (p.0 ++ last_line 0 p.1) start in
      cond-false (ltb room (length text)) (log_of_lines names (Some error.LogLong) ((lines_of (take room text)).0 ++ last_line 4096 (lines_of (take room text)).1) start) (parts (lines_of (take room text))) (le-ltb room (length text) h)
      ∙ (ap parts all
      ∙ (ap (λ t. log_of_lines names None t start) (append_assoc (lines recs) [] [])
      ∙ read recs [] x))

  short : (recs : List Record) → InTurn names recs → length (records_text names recs) ≤ 64 * length recs
  short [] x = omega arith
  short (r ∷ past) x =
      let line = record_text names r in
      omega (arith, short past x.1, length-append (records_text names past ++ line) (10 ∷ []), length-append (records_text names past) line, (line_is_read names r x.0.written).short)

pub log_is_read : LogIsRead
log_is_read names recs x h = log_is names recs x (2 ^ 28) h

pub text_is_short : TextIsShort
text_is_short = short
