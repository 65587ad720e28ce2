-- No two lists of lines have one text.
use Rattle.std.proofs.Common.{◌≡◌, ◌∙◌, inl, inr, ℕ, true, List, [], ◌∷◌, ◌++◌, refl, sym, ap, subst, append_assoc, arith}
use Rattle.std.specs.Prelude.{codes, decimal, nat_le, slice_index}
use Rattle.std.specs.List.{list_all}
use Rattle.rx_table.specs.Keys.{SessionKey}
use Rattle.line_text.specs.Text.{line_of, moment_text, spaced}
use Rattle.session_lines.proofs.Cuts.{AreWords, SameLine, decimal_word, one_line, unlike}
use Rattle.log_explain.specs.declared.reasons.reason.Reason.{Reason}
use Rattle.log_explain.specs.declared.reasons.reason.Reason.TheVariants.{
  BadCrc,
  Begun,
  Copy,
  Delivered,
  Discarded,
  Elsewhere,
  NoSession,
  Own,
  Standby,
  StrayNone,
  StrayTid,
  StrayToggle,
  Taken,
  Unknown,
  Unsubscribed,
}
use Rattle.log_explain.specs.Counts.{last}
use Rattle.log_explain.specs.Lines.{of_session}
use Rattle.log_explain.specs.Sessions.{Session}
use Rattle.log_explain.specs.Text.{front_words, kind_word, name_of, name_or, reason_words, tally_words, transfer_words}
use Rattle.log_explain.specs.declared.line.FrameLine.{FrameLine}
use Rattle.log_explain.specs.declared.tally.Tally.{Tally}
use Rattle.explain_laws.specs.Text.{
  AreBehind,
  AreNames,
  AtEnd,
  IsNumber,
  IsOnRecord,
  IsOnSession,
  IsTally,
  Line,
  OnRecord,
  OnSession,
  TextTells,
  line_text,
  text,
}
use Rattle.explain_laws.proofs.Words.{
  behind_four,
  behind_one,
  behind_three,
  behind_two,
  behind_transfer,
  bus_in,
  bus_is,
  bus_word,
  kind_are,
  kind_in,
  kind_is,
  moment_word,
  number_in,
  number_is,
  one_moment,
  reason_are,
  reason_in,
  reason_is,
  some_bus_in,
  some_bus_is,
  some_bus_word,
  free_above,
  transfer_are,
  transfer_in,
  transfer_is,
  word_at,
  words_append,
}

-- ---- the words of a line

abbrev first : Line → List ℕ
first (OnRecord line) = codes "frame"
first (OnSession s) = codes "session"
first (AtEnd records sessions) = codes "end"

abbrev rest : List (List ℕ) → Line → List (List ℕ)
rest names (OnRecord line) =
    decimal line.line ∷ moment_text line.moment ∷ name_of names line.bus ∷ (transfer_words line.transfer ++ reason_words names line.reason)
rest names (OnSession s) = kind_word s.key.kind ∷ decimal s.key.port ∷ decimal s.key.source ∷ name_or names s.bus ∷ tally_words s.tally
rest names (AtEnd records sessions) = codes "records" ∷ decimal records ∷ codes "sessions" ∷ decimal sessions ∷ []

-- words in front of others make one line with them
in_one : (ws : List (List ℕ)) (v : List ℕ) (vs : List (List ℕ)) → spaced ws ++ line_of (v ∷ vs) ≡ line_of (ws ++ v ∷ vs)
in_one [] v vs = refl
in_one (w ∷ []) v vs = append_assoc w (32 ∷ []) (line_of (v ∷ vs))
in_one (w ∷ u ∷ ws) v vs = append_assoc w (32 ∷ spaced (u ∷ ws)) (line_of (v ∷ vs)) ∙ ap (λ (t : List ℕ). w ++ 32 ∷ t) (in_one (u ∷ ws) v vs)

module _ (names : List (List ℕ)) where
  front_and_reason : (ws : List (List ℕ)) (reason : Reason) → spaced ws ++ line_of (reason_words names reason) ≡ line_of (ws ++ reason_words names reason)
  front_and_reason ws (Discarded why) = in_one ws _ _
  front_and_reason ws Own = in_one ws _ _
  front_and_reason ws (Elsewhere node) = in_one ws _ _
  front_and_reason ws Unsubscribed = in_one ws _ _
  front_and_reason ws Unknown = in_one ws _ _
  front_and_reason ws NoSession = in_one ws _ _
  front_and_reason ws (Standby silence) = in_one ws _ _
  front_and_reason ws (Copy line) = in_one ws _ _
  front_and_reason ws (Begun change) = in_one ws _ _
  front_and_reason ws (Delivered line change) = in_one ws _ _
  front_and_reason ws (BadCrc line) = in_one ws _ _
  front_and_reason ws (Taken line) = in_one ws _ _
  front_and_reason ws StrayNone = in_one ws _ _
  front_and_reason ws (StrayTid tid) = in_one ws _ _
  front_and_reason ws (StrayToggle line) = in_one ws _ _

  line_is : (line : Line) → line_text names line ≡ line_of (first line ∷ rest names line)
  line_is (OnRecord line) = front_and_reason (front_words names line) line.reason
  line_is (OnSession s) = refl
  line_is (AtEnd records sessions) = refl

  abbrev letter : List ℕ → ℕ
  letter t = slice_index t 0

  some_text : (line : Line) (x : List ℕ) → line_text names line ++ x ≡ [] → ⊥
  some_text (OnRecord line) x e = absurd (unlike 102 0 (inr (omega arith)) (ap letter e))
  some_text (OnSession s) x e = absurd (unlike 115 0 (inr (omega arith)) (ap letter e))
  some_text (AtEnd records sessions) x e = absurd (unlike 101 0 (inr (omega arith)) (ap letter e))

  module _ (named : AreNames names) where
    record_words : (line : FrameLine) → IsOnRecord names line → AreWords (first (OnRecord line) ∷ rest names (OnRecord line))
    record_words line h = (
      free_above (codes "frame") refl,
      (
        decimal_word line.line h.number,
        (
          moment_word line.moment h.moment,
          (
            bus_word names named line.bus h.bus,
            words_append (transfer_words line.transfer) (reason_words names line.reason) (transfer_are line.transfer h.transfer) (reason_are names named line.reason h.reason),
          ),
        ),
      ),
    )

    -- a word, a number behind it, and more words
    counted : (word : List ℕ) (n : ℕ) (more : List (List ℕ)) → list_all (nat_le 34) word ≡ true → IsNumber n → AreWords more → AreWords (word ∷ decimal n ∷ more)
    counted word n more w h m = (free_above word w, (decimal_word n h, m))

    tally_are : (t : Tally) → IsTally names t → AreWords (tally_words t)
    tally_are t h =
        let behind_delivered = behind_two (tally_words t) in
        let behind_badcrc = behind_two behind_delivered in
        let behind_copies = behind_two behind_badcrc in
        let behind_standby = behind_two behind_copies in
        let behind_stray = behind_two behind_standby in
        let behind_abandoned = behind_two behind_stray in
        let behind_handovers = behind_two behind_abandoned in
        counted (codes "delivered") t.delivered behind_delivered refl h.delivered
        (counted (codes "badcrc") t.badcrc behind_badcrc refl h.badcrc
        (counted (codes "copies") t.copies behind_copies refl h.copies
        (counted (codes "standby") t.standby behind_standby refl h.standby
        (counted (codes "stray") t.stray behind_stray refl h.stray
        (counted (codes "abandoned") t.abandoned behind_abandoned refl h.abandoned
        (counted (codes "handovers") t.handovers behind_handovers refl h.handovers
        (counted (codes "gaps") t.gaps [] refl h.gaps tt)))))))

    session_words : (past : List FrameLine) (s : Session) → IsOnSession names past s → AreWords (first (OnSession s) ∷ rest names (OnSession s))
    session_words past s h = (
      free_above (codes "session") refl,
      (
        kind_are s.key.kind,
        (
          decimal_word s.key.port h.port,
          (decimal_word s.key.source h.source, (some_bus_word names named s.bus h.bus, tally_are s.tally h.tally)),
        ),
      ),
    )

    end_words : (records sessions : ℕ) → IsNumber records → IsNumber sessions → AreWords (first (AtEnd records sessions) ∷ rest names (AtEnd records sessions))
    end_words records sessions r s =
        let last = codes "sessions" ∷ decimal sessions ∷ [] in
        (free_above (codes "end") refl, counted (codes "records") records last refl r (counted (codes "sessions") sessions [] refl s tt))

    -- ---- lines with the same words

    -- numbers that stand at the same place
    one_number : (i m n : ℕ) (ws vs : List (List ℕ)) → IsNumber m → IsNumber n → word_at ws i ≡ decimal m → word_at vs i ≡ decimal n → ws ≡ vs → m ≡ n
    one_number i m n ws vs p q a b e =
        sym (number_is m p) ∙ (ap number_in (sym a) ∙ (ap (λ (t : List (List ℕ)). number_in (word_at t i)) e ∙ (ap number_in b ∙ number_is n q)))

    one_record : (a b : FrameLine) → IsOnRecord names a → IsOnRecord names b → rest names (OnRecord a) ≡ rest names (OnRecord b) → a ≡ b
    one_record a b p q e =
        let ws = rest names (OnRecord a) in
        let vs = rest names (OnRecord b) in
        let line = one_number 0 a.line b.line ws vs p.number q.number refl refl e in
        let moment = one_moment a.moment b.moment p.moment q.moment (ap (λ (t : List (List ℕ)). word_at t 1) e) in
        let bus = sym (bus_is names named a.bus p.bus) ∙ (ap (λ (t : List (List ℕ)). bus_in names named (word_at t 2)) e ∙ bus_is names named b.bus q.bus) in
        let more : transfer_words a.transfer ++ reason_words names a.reason ≡ transfer_words b.transfer ++ reason_words names b.reason = ap behind_three e in
        let transfer = sym (transfer_is a.transfer (reason_words names a.reason) p.transfer) ∙ (ap transfer_in more ∙ transfer_is b.transfer (reason_words names b.reason) q.transfer) in
        let said : reason_words names a.reason ≡ reason_words names b.reason =
        sym (behind_transfer a.transfer (reason_words names a.reason)) ∙ (ap behind_four more ∙ behind_transfer b.transfer (reason_words names b.reason)) in
        let reason = sym (reason_is names named a.reason p.reason) ∙ (ap (reason_in names named) said ∙ reason_is names named b.reason q.reason) in
        λ i. record { line = line i; moment = moment i; bus = bus i; transfer = transfer i; reason = reason i }

    -- of a session all but its last delivery, which the lines before tell
    one_session : (past : List FrameLine) (a b : Session) → IsOnSession names past a → IsOnSession names past b → rest names (OnSession a) ≡ rest names (OnSession b) → a ≡ b
    one_session past a b p q e =
        let ws = rest names (OnSession a) in
        let vs = rest names (OnSession b) in
        let s = p.tally in
        let t = q.tally in
        let kind = sym (kind_is a.key.kind) ∙ (ap (λ (t : List (List ℕ)). kind_in (word_at t 0)) e ∙ kind_is b.key.kind) in
        let port = one_number 1 a.key.port b.key.port ws vs p.port q.port refl refl e in
        let source = one_number 2 a.key.source b.key.source ws vs p.source q.source refl refl e in
        let bus = sym (some_bus_is names named a.bus p.bus) ∙ (ap (λ (t : List (List ℕ)). some_bus_in names named (word_at t 3)) e ∙ some_bus_is names named b.bus q.bus) in
        let delivered = one_number 5 a.tally.delivered b.tally.delivered ws vs s.delivered t.delivered refl refl e in
        let badcrc = one_number 7 a.tally.badcrc b.tally.badcrc ws vs s.badcrc t.badcrc refl refl e in
        let copies = one_number 9 a.tally.copies b.tally.copies ws vs s.copies t.copies refl refl e in
        let standby = one_number 11 a.tally.standby b.tally.standby ws vs s.standby t.standby refl refl e in
        let stray = one_number 13 a.tally.stray b.tally.stray ws vs s.stray t.stray refl refl e in
        let abandoned = one_number 15 a.tally.abandoned b.tally.abandoned ws vs s.abandoned t.abandoned refl refl e in
        let handovers = one_number 17 a.tally.handovers b.tally.handovers ws vs s.handovers t.handovers refl refl e in
        let gaps = one_number 19 a.tally.gaps b.tally.gaps ws vs s.gaps t.gaps refl refl e in
        let key : a.key ≡ b.key = λ i. record { kind = kind i; port = port i; source = source i } in
        let last_is = p.last_is ∙ (ap (λ (k : SessionKey). last (of_session k past)) key ∙ sym q.last_is) in
        λ i. record {
          key = key i;
          bus = bus i;
          tally = record {
            delivered = delivered i;
            badcrc = badcrc i;
            copies = copies i;
            standby = standby i;
            stray = stray i;
            abandoned = abandoned i;
            handovers = handovers i;
            gaps = gaps i;
            last = last_is i;
          };
        }

    -- ---- lists of lines with the same text

    same_line : (a b : Line) (x y : List ℕ) → AreWords (first a ∷ rest names a) → AreWords (first b ∷ rest names b) → line_text names a ++ x ≡ line_text names b ++ y
        → SameLine (first a ∷ rest names a) (first b ∷ rest names b) x y
    same_line a b x y p q e =
        one_line (first a) (first b) (rest names a) (rest names b) x y p q
        (ap (λ (t : List ℕ). t ++ x) (sym (line_is a)) ∙ (e ∙ ap (λ (t : List ℕ). t ++ y) (line_is b)))

    same_rest : (a b : Line) → first a ∷ rest names a ≡ first b ∷ rest names b → rest names a ≡ rest names b
    same_rest a b e = ap behind_one e

    tells : (past : List FrameLine) (a b : List Line) → AreBehind names past a → AreBehind names past b → text names a ≡ text names b → a ≡ b
    tells past [] [] p q e = refl
    tells past [] (y ∷ b) p q e = absurd (some_text y (text names b) (sym e))
    tells past (x ∷ a) [] p q e = absurd (some_text x (text names a) e)
    tells past (OnRecord x ∷ a) (OnRecord y ∷ b) p q e =
        let s = same_line (OnRecord x) (OnRecord y) (text names a) (text names b) (record_words x p.0) (record_words y q.0) e in
        let is = one_record x y p.0 q.0 (same_rest (OnRecord x) (OnRecord y) s.words) in
        let more = tells (x ∷ past) a b p.1 (subst (λ (l : FrameLine). AreBehind names (l ∷ past) b) (sym is) q.1) s.rest in
        λ i. OnRecord (is i) ∷ more i
    tells past (OnSession x ∷ a) (OnSession y ∷ b) p q e =
        let s = same_line (OnSession x) (OnSession y) (text names a) (text names b) (session_words past x p.0) (session_words past y q.0) e in
        let is = one_session past x y p.0 q.0 (same_rest (OnSession x) (OnSession y) s.words) in
        let more = tells past a b p.1 q.1 s.rest in
        λ i. OnSession (is i) ∷ more i
    tells past (AtEnd r n ∷ a) (AtEnd u m ∷ b) p q e =
        let s = same_line (AtEnd r n) (AtEnd u m) (text names a) (text names b) (end_words r n p.0 p.1) (end_words u m q.0 q.1) e in
        let same = same_rest (AtEnd r n) (AtEnd u m) s.words in
        let records = one_number 1 r u (rest names (AtEnd r n)) (rest names (AtEnd u m)) p.0 q.0 refl refl same in
        let sessions = one_number 3 n m (rest names (AtEnd r n)) (rest names (AtEnd u m)) p.1 q.1 refl refl same in
        let more = tells past a b p.2 q.2 s.rest in
        λ i. AtEnd (records i) (sessions i) ∷ more i
    tells past (OnRecord x ∷ a) (OnSession y ∷ b) p q e = absurd (unlike 102 115 (inl (omega arith)) (ap letter e))
    tells past (OnRecord x ∷ a) (AtEnd u m ∷ b) p q e = absurd (unlike 102 101 (inr (omega arith)) (ap letter e))
    tells past (OnSession x ∷ a) (OnRecord y ∷ b) p q e = absurd (unlike 115 102 (inr (omega arith)) (ap letter e))
    tells past (OnSession x ∷ a) (AtEnd u m ∷ b) p q e = absurd (unlike 115 101 (inr (omega arith)) (ap letter e))
    tells past (AtEnd r n ∷ a) (OnRecord y ∷ b) p q e = absurd (unlike 101 102 (inl (omega arith)) (ap letter e))
    tells past (AtEnd r n ∷ a) (OnSession y ∷ b) p q e = absurd (unlike 101 115 (inl (omega arith)) (ap letter e))

pub text_tells : TextTells
text_tells names a b named p q e = tells names named [] a b p q e
