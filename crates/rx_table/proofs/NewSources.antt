-- A source that goes behind a port's others.
use Rattle.std.proofs.Common.{◌≡◌, ◌∙◌, ℕ, suc, ◌≤◌, ◌<◌, ◌&&◌, List, [], ◌∷◌, ◌++◌, true, false, cond, nat_lt, length, slice_get, Some, refl, sym, ap, ap₂, arith}
use Rattle.std.proofs.lemmas.Bool.{lt-ltb, cond-true, cond-false, and_from, and_right, cases_Bool, ltb-true}
use Rattle.std.proofs.Common.{inl, inr}
use Rattle.tail_frame.specs.Chains.{KeyRecord}
use Rattle.transfer_crc.specs.Crc.{crc_more}
use Rattle.rx_session.specs.declared.session.Session.{Session}
use Rattle.rx_session.specs.declared.outcome.Step as code
use Rattle.rx_session.specs.Session.{Session as Kept, Ignored, advance}
use Rattle.rx_session.specs.Seen.{kept, fresh, step_answer}
use Rattle.rx_table.specs.Ports.{Port, Entry, Answer, NoSession, OfSession, sources_of, open_session}
use Rattle.rx_table.specs.Places.{opened, opened_answer, buffer_nth}
use Rattle.rx_table.specs.Table.{entries_of}

pub length-entries : {S : Type 0} (es : List (ℕ × Session S)) → length (entries_of es) ≡ length es
length-entries [] = refl
length-entries (e ∷ es) = ap suc (length-entries es)

pub entries-append : {S : Type 0} (es fs : List (ℕ × Session S)) → entries_of (es ++ fs) ≡ entries_of es ++ entries_of fs
entries-append [] fs = refl
entries-append (e ∷ es) fs = ap (λ (r : List Entry). record { source = e.0; session = kept e.1 } ∷ r) (entries-append es fs)

buffer-last : {S : Type 0} (es : List (ℕ × Session S)) (k : ℕ) (s : Session S) → buffer_nth (entries_of (es ++ (k, s) ∷ [])) (length es) ≡ s.buffer
buffer-last [] k s = refl
buffer-last (e ∷ es) k s = buffer-last es k s

source-last : {S : Type 0} (es : List (ℕ × Session S)) (k : ℕ) (s : Session S) → slice_get (sources_of (entries_of (es ++ (k, s) ∷ []))) (length es) ≡ Some k
source-last [] k s = refl
source-last (e ∷ es) k s = source-last es k s

not_below : (m n : ℕ) → n ≤ m → nat_lt m n ≡ false
not_below m n le = elim (cases_Bool (nat_lt m n)) [ inl y ↦ absurd (let l = ltb-true m n y in omega arith) | inr e ↦ e ]

module _ (timeout : ℕ) (p : Port) (r : KeyRecord) where
  abbrev added : ℕ → Entry
  added source = record { source = source; session = (advance crc_more 0xFFFF timeout (open_session p.extent) r).0 }

  abbrev first : Answer
  first = OfSession (advance crc_more 0xFFFF timeout (open_session p.extent) r).1

  -- where a port has as many sources as it takes
  pub full-entries : (source : ℕ) (es : List Entry) → p.sources ≤ length es → opened timeout p es source r ≡ es
  full-entries source es le =
      cond-false (r.start && nat_lt (length es) p.sources) (es ++ added source ∷ []) es (and_right r.start (nat_lt (length es) p.sources) (not_below (length es) p.sources le))

  pub full-answer : (es : List Entry) → r.start ≡ true → p.sources ≤ length es → opened_answer timeout p es r ≡ NoSession
  full-answer es start le =
      cond-true r.start (cond (nat_lt (length es) p.sources) first NoSession) (OfSession Ignored) start
      ∙ cond-false (nat_lt (length es) p.sources) first NoSession (not_below (length es) p.sources le)

  -- where there is room
  room-entries : (source : ℕ) (es : List Entry) → r.start ≡ true → length es < p.sources → opened timeout p es source r ≡ es ++ added source ∷ []
  room-entries source es start l =
      cond-true (r.start && nat_lt (length es) p.sources) (es ++ added source ∷ []) es (and_from r.start (nat_lt (length es) p.sources) start (lt-ltb (length es) p.sources l))

  pub room-answer : (es : List Entry) → r.start ≡ true → length es < p.sources → opened_answer timeout p es r ≡ first
  room-answer es start l =
      cond-true r.start (cond (nat_lt (length es) p.sources) first NoSession) (OfSession Ignored) start
      ∙ cond-true (nat_lt (length es) p.sources) first NoSession (lt-ltb (length es) p.sources l)

  -- a new session, with the frame taken, behind the others
  pub record Last {S : Type 0} (es es' : List (ℕ × Session S)) (source index : ℕ) (step : code.Step) : Type 0 where
    pub entries : entries_of es' ≡ opened timeout p (entries_of es) source r
    pub answer : OfSession (step_answer (buffer_nth (entries_of es') index) r step) ≡ opened_answer timeout p (entries_of es) r
    pub place : slice_get (sources_of (entries_of es')) index ≡ Some source

  pub put-last : {S : Type 0} (es es' : List (ℕ × Session S)) (source index : ℕ) (s w : Session S) (step : code.Step) → r.start ≡ true → index ≡ length es → index < p.sources
      → kept s ≡ fresh p.extent → kept w ≡ (advance crc_more 0xFFFF timeout (kept s) r).0 → step_answer w.buffer r step ≡ (advance crc_more 0xFFFF timeout (kept s) r).1
      → es' ≡ es ++ (source, w) ∷ [] → Last es es' source index step
  put-last {S} es es' source index s w step start at room new state answer e =
      let few : length (entries_of es) < p.sources = let n = length-entries es in omega arith in
      let began : kept w ≡ (advance crc_more 0xFFFF timeout (fresh p.extent) r).0 = state ∙ ap (λ (x : Kept). (advance crc_more 0xFFFF timeout x r).0) new in
      record {
        entries =
            ap (λ (t : List (ℕ × Session S)). entries_of t) e ∙ (entries-append es ((source, w) ∷ [])
            ∙ (ap (λ (x : Kept). entries_of es ++ record { source = source; session = x } ∷ []) began ∙ sym (room-entries source (entries_of es) start few)));
        answer =
            ap₂ (λ (t : List (ℕ × Session S)) (n : ℕ). OfSession (step_answer (buffer_nth (entries_of t) n) r step)) e at
            ∙ (ap (λ (b : List ℕ). OfSession (step_answer b r step)) (buffer-last es source w)
            ∙ (ap OfSession (answer ∙ ap (λ (x : Kept). (advance crc_more 0xFFFF timeout x r).1) new) ∙ sym (room-answer (entries_of es) start few)));
        place = ap₂ (λ (t : List (ℕ × Session S)) (n : ℕ). slice_get (sources_of (entries_of t)) n) e at ∙ source-last es source w;
      }
