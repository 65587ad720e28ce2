-- No two lists of lines have one text.
use Rattle.std.proofs.Common.{◌≡◌, ◌∙◌, inl, inr, ℕ, suc, ◌+◌, ◌*◌, ◌<◌, ◌^◌, true, List, [], ◌∷◌, ◌++◌, length, get_or, Option, Some, None, refl, sym, ap, arith}
use Rattle.std.specs.Prelude.{decimal, codes, slice_index, nat_le}
use Rattle.std.specs.List.{list_all}
use Rattle.std.specs.Option.{ForSome}
use Rattle.std.proofs.lemmas.Fmt.{decimal_injective}
use Rattle.std.proofs.lemmas.List.{append_cancel_left}
use Rattle.hex.specs.Hex.{IsBytes, encode_upper, upper_digits}
use Rattle.hex.proofs.HexLemmas.{length-encode_with}
use Rattle.can_id.specs.declared.key.Key.{Key}
use Rattle.line_text.specs.Text.{moment_text, ident_text}
use Rattle.node_plan.specs.declared.plan.BusPlan.{BusPlan}
use Rattle.node_plan.specs.declared.plan.Plan.{Plan}
use Rattle.report_lines.specs.declared.line.Line.{Line}
use Rattle.report_lines.specs.declared.line.FullLine.{FullLine}
use Rattle.report_lines.specs.declared.line.Line.TheVariants.{Rx, NoSession, Tx, Full}
use Rattle.report_lines.specs.declared.line.Refused.{Refused}
use Rattle.report_lines.specs.declared.line.Rx.{Rx as Received}
use Rattle.report_lines.specs.declared.line.Tx.{Tx as SentFrame}
use Rattle.report_lines.specs.Readings.{reading_of}
use Rattle.text_lines.specs.Text.{bus_text, kind_text, source_text, payload_text, reading_text, front_words, words_of, line_text, text}
use Rattle.node_core.specs.Types.{type_on}
use Rattle.session_lines.specs.OneReport.{AreNamed, IsKey, IsReceived, IsRefused, IsSentFrame, IsFullBus, IsLineOn, AreLinesOn, TextTellsLines}
use Rattle.session_lines.proofs.Cuts.{unlike, Free, IsEnd, AreWords, one_line, one_front, decimal_no_hyphen}
use Rattle.session_lines.proofs.OneWord.{ArePlain, IsPlain, four, four_bytes, free_plain, one_bus, one_hex, one_ident, one_kind, one_moment, plain_bus, plain_bytes, plain_decimal, plain_hex, plain_kind, plain_moment}

-- ---- words

plain_within : (c : ℕ) → IsPlain c → IsEnd c → ⊥
plain_within c h (inl e) = absurd (omega (arith, h.0, e))
plain_within c h (inr e) = absurd (omega (arith, h.0, e))

word : (t : List ℕ) → ArePlain t → Free IsEnd t
word = free_plain IsEnd plain_within

plain_source : (source : Option ℕ) → ArePlain (source_text source)
plain_source None = plain_bytes (codes "-") refl refl
plain_source (Some s) = plain_decimal s

one_source : (a b : Option ℕ) → ForSome a (λ s. s < 256) → ForSome b (λ s. s < 256) → source_text a ≡ source_text b → a ≡ b
one_source None None p q e = refl
one_source None (Some b) p q e = let l = q b refl in absurd (decimal_no_hyphen b (omega arith) (sym e))
one_source (Some a) None p q e = let l = p a refl in absurd (decimal_no_hyphen a (omega arith) e)
one_source (Some a) (Some b) p q e =
    let l = p a refl in
    let r = q b refl in ap Some (decimal_injective a b (omega arith) (omega arith) e)

plain_payload : (bytes : List ℕ) → IsBytes bytes → ArePlain (payload_text bytes)
plain_payload [] h = plain_bytes (codes "-") refl refl
plain_payload (b ∷ bytes) h = plain_hex (b ∷ bytes) h

one_payload : (a b : List ℕ) → IsBytes a → IsBytes b → payload_text a ≡ payload_text b → a ≡ b
one_payload [] [] p q e = refl
one_payload [] (y ∷ b) p q e = let bad : 1 ≡ 2 * suc (length b) = ap length e ∙ length-encode_with upper_digits (y ∷ b) in absurd (omega arith)
one_payload (x ∷ a) [] p q e = let bad : 2 * suc (length a) ≡ 1 = sym (length-encode_with upper_digits (x ∷ a)) ∙ ap length e in absurd (omega arith)
one_payload (x ∷ a) (y ∷ b) p q e = one_hex (x ∷ a) (y ∷ b) p q e

one_key : (a b : Key) → IsKey a → IsKey b → kind_text a.kind ≡ kind_text b.kind → decimal a.port ≡ decimal b.port → source_text a.source ≡ source_text b.source → a ≡ b
one_key a b p q e f g =
    let kind = one_kind a.kind b.kind e in
    let pl = p.port in
    let ql = q.port in
    let port = decimal_injective a.port b.port (omega arith) (omega arith) f in
    let source = one_source a.source b.source p.source q.source g in λ i. record { kind = kind i; port = port i; source = source i }

-- ---- lines

-- the words of a transfer before what its payload says
abbrev front_of : List BusPlan → Received → List (List ℕ)
front_of buses rx = front_words buses rx ++ (payload_text rx.payload ∷ [])

module _ (plan : Plan) (named : AreNamed plan.buses) where
  small : (n : ℕ) → n < 256 → n < 2 ^ 64
  small n h = omega arith

  small_port : (n : ℕ) → n < 2 ^ 16 → n < 2 ^ 64
  small_port n h = omega arith

  constant : (t : List ℕ) → list_all (nat_le 45) t ≡ true → list_all (λ c. nat_le c 122) t ≡ true → Free IsEnd t
  constant t h k = word t (plain_bytes t h k)

  front_are_words : (rx : Received) → IsReceived plan rx → AreWords (front_of plan.buses rx)
  front_are_words rx h = (
    constant (codes "rx") refl refl,
    (
      word (moment_text rx.moment) (plain_moment rx.moment),
      (
        word (bus_text plan.buses rx.bus) (plain_bus plan.buses rx.bus named h.bus),
        (
          word (kind_text rx.key.kind) (plain_kind rx.key.kind),
          (
            word (decimal rx.key.port) (plain_decimal rx.key.port),
            (
              word (source_text rx.key.source) (plain_source rx.key.source),
              (
                word (decimal rx.priority) (plain_decimal rx.priority),
                (
                  word (decimal rx.tid) (plain_decimal rx.tid),
                  (
                    word (decimal rx.first) (plain_decimal rx.first),
                    (
                      word (decimal rx.last) (plain_decimal rx.last),
                      (word (payload_text rx.payload) (plain_payload rx.payload h.payload), tt),
                    ),
                  ),
                ),
              ),
            ),
          ),
        ),
      ),
    ),
  )

  refused_are_words : (r : Refused) → IsRefused plan r → AreWords (words_of plan.buses (NoSession r))
  refused_are_words r h = (
    constant (codes "nosession") refl refl,
    (
      word (moment_text r.moment) (plain_moment r.moment),
      (
        word (bus_text plan.buses r.bus) (plain_bus plan.buses r.bus named h.bus),
        (
          word (kind_text r.key.kind) (plain_kind r.key.kind),
          (
            word (decimal r.key.port) (plain_decimal r.key.port),
            (
              word (source_text r.key.source) (plain_source r.key.source),
              (word (decimal r.line) (plain_decimal r.line), tt),
            ),
          ),
        ),
      ),
    ),
  )

  tx_are_words : (tx : SentFrame) → IsSentFrame plan tx → AreWords (words_of plan.buses (Tx tx))
  tx_are_words tx h = (
    constant (codes "tx") refl refl,
    (
      word (moment_text tx.moment) (plain_moment tx.moment),
      (
        word (bus_text plan.buses tx.bus) (plain_bus plan.buses tx.bus named h.bus),
        (word (ident_text tx.ident) (plain_hex (four tx.ident) (four_bytes tx.ident h.ident)), (word (encode_upper tx.bytes) (plain_hex tx.bytes h.bytes), tt)),
      ),
    ),
  )

  full_are_words : (full : FullLine) → IsFullBus plan full → AreWords (words_of plan.buses (Full full))
  full_are_words full h = (
    constant (codes "full") refl refl,
    (
      word (moment_text full.moment) (plain_moment full.moment),
      (
        word (bus_text plan.buses full.bus) (plain_bus plan.buses full.bus named h.bus),
        (
          word (decimal full.port) (plain_decimal full.port),
          (word (decimal full.needed) (plain_decimal full.needed), (word (decimal full.free) (plain_decimal full.free), tt)),
        ),
      ),
    ),
  )

  abbrev word_at : List (List ℕ) → ℕ → List ℕ
  word_at ws i = get_or ws i []

  -- key and payload tell what the payload says
  same_rx : (a b : Received) → IsReceived plan a → IsReceived plan b → front_of plan.buses a ≡ front_of plan.buses b → a ≡ b
  same_rx a b p q e =
      let moment = one_moment a.moment b.moment p.moment q.moment (ap (λ (ws : List (List ℕ)). word_at ws 1) e) in
      let bus = one_bus plan.buses a.bus b.bus named p.bus q.bus (ap (λ (ws : List (List ℕ)). word_at ws 2) e) in
      let key = one_key a.key b.key p.key q.key (ap (λ (ws : List (List ℕ)). word_at ws 3) e) (ap (λ (ws : List (List ℕ)). word_at ws 4) e) (ap (λ (ws : List (List ℕ)). word_at ws 5) e) in
      let priority = decimal_injective a.priority b.priority (small a.priority p.priority) (small b.priority q.priority) (ap (λ (ws : List (List ℕ)). word_at ws 6) e) in
      let tid = decimal_injective a.tid b.tid (small a.tid p.tid) (small b.tid q.tid) (ap (λ (ws : List (List ℕ)). word_at ws 7) e) in
      let first = decimal_injective a.first b.first p.first q.first (ap (λ (ws : List (List ℕ)). word_at ws 8) e) in
      let last = decimal_injective a.last b.last p.last q.last (ap (λ (ws : List (List ℕ)). word_at ws 9) e) in
      let payload = one_payload a.payload b.payload p.payload q.payload (ap (λ (ws : List (List ℕ)). word_at ws 10) e) in
      let reading : a.reading ≡ b.reading = p.reading ∙ ((λ i. reading_of (type_on plan (key i)) (payload i)) ∙ sym q.reading) in
      λ i. record { moment = moment i; bus = bus i; key = key i; priority = priority i; tid = tid i; reading = reading i; first = first i; last = last i; payload = payload i }

  same_refused : (a b : Refused) → IsRefused plan a → IsRefused plan b → words_of plan.buses (NoSession a) ≡ words_of plan.buses (NoSession b) → a ≡ b
  same_refused a b p q e =
      let moment = one_moment a.moment b.moment p.moment q.moment (ap (λ (ws : List (List ℕ)). word_at ws 1) e) in
      let bus = one_bus plan.buses a.bus b.bus named p.bus q.bus (ap (λ (ws : List (List ℕ)). word_at ws 2) e) in
      let key = one_key a.key b.key p.key q.key (ap (λ (ws : List (List ℕ)). word_at ws 3) e) (ap (λ (ws : List (List ℕ)). word_at ws 4) e) (ap (λ (ws : List (List ℕ)). word_at ws 5) e) in
      let line = decimal_injective a.line b.line p.line q.line (ap (λ (ws : List (List ℕ)). word_at ws 6) e) in
      λ i. record { moment = moment i; bus = bus i; key = key i; line = line i }

  same_tx : (a b : SentFrame) → IsSentFrame plan a → IsSentFrame plan b → words_of plan.buses (Tx a) ≡ words_of plan.buses (Tx b) → a ≡ b
  same_tx a b p q e =
      let moment = one_moment a.moment b.moment p.moment q.moment (ap (λ (ws : List (List ℕ)). word_at ws 1) e) in
      let bus = one_bus plan.buses a.bus b.bus named p.bus q.bus (ap (λ (ws : List (List ℕ)). word_at ws 2) e) in
      let ident = one_ident a.ident b.ident p.ident q.ident (ap (λ (ws : List (List ℕ)). word_at ws 3) e) in
      let bytes = one_hex a.bytes b.bytes p.bytes q.bytes (ap (λ (ws : List (List ℕ)). word_at ws 4) e) in
      λ i. record { moment = moment i; bus = bus i; ident = ident i; bytes = bytes i }

  same_full : (a b : FullLine) → IsFullBus plan a → IsFullBus plan b → words_of plan.buses (Full a) ≡ words_of plan.buses (Full b) → a ≡ b
  same_full a b p q e =
      let moment = one_moment a.moment b.moment p.moment q.moment (ap (λ (ws : List (List ℕ)). word_at ws 1) e) in
      let bus = one_bus plan.buses a.bus b.bus named p.bus q.bus (ap (λ (ws : List (List ℕ)). word_at ws 2) e) in
      let port = decimal_injective a.port b.port (small_port a.port p.port) (small_port b.port q.port) (ap (λ (ws : List (List ℕ)). word_at ws 3) e) in
      let needed = decimal_injective a.needed b.needed p.needed q.needed (ap (λ (ws : List (List ℕ)). word_at ws 4) e) in
      let free = decimal_injective a.free b.free p.free q.free (ap (λ (ws : List (List ℕ)). word_at ws 5) e) in
      λ i. record { moment = moment i; bus = bus i; port = port i; needed = needed i; free = free i }

  -- of two lines with texts in front of other texts
  pub record SameFront (a b : Line) (x y : List ℕ) : Type 0 where
    pub line : a ≡ b
    pub rest : x ≡ y

  abbrev first_of_text : List ℕ → ℕ
  first_of_text t = slice_index t 0

  same_front : (a b : Line) (x y : List ℕ) → IsLineOn plan a → IsLineOn plan b → line_text plan.buses a ++ x ≡ line_text plan.buses b ++ y → SameFront a b x y
  same_front (Rx a) (Rx b) x y p q e =
      let s = one_front (front_of plan.buses a) (front_of plan.buses b) (reading_text a.reading) (reading_text b.reading) x y refl (front_are_words a p) (front_are_words b q) e in
      let is = same_rx a b p q s.words in
      let behind : reading_text b.reading ++ 10 ∷ [] ≡ reading_text a.reading ++ 10 ∷ [] = ap (λ (rx : Received). reading_text rx.reading ++ 10 ∷ []) (sym is) in
      record {
        line = ap Rx is;
        rest = append_cancel_left (reading_text a.reading ++ 10 ∷ []) x y (s.rest ∙ ap (λ (t : List ℕ). t ++ y) behind);
      }
  same_front (Rx a) (NoSession b) x y p q e = absurd (unlike 114 110 (inr (omega arith)) (ap first_of_text e))
  same_front (Rx a) (Tx b) x y p q e = absurd (unlike 114 116 (inl (omega arith)) (ap first_of_text e))
  same_front (Rx a) (Full b) x y p q e = absurd (unlike 114 102 (inr (omega arith)) (ap first_of_text e))
  same_front (NoSession a) (Rx b) x y p q e = absurd (unlike 110 114 (inl (omega arith)) (ap first_of_text e))
  same_front (NoSession a) (Tx b) x y p q e = absurd (unlike 110 116 (inl (omega arith)) (ap first_of_text e))
  same_front (NoSession a) (Full b) x y p q e = absurd (unlike 110 102 (inr (omega arith)) (ap first_of_text e))
  same_front (Tx a) (Rx b) x y p q e = absurd (unlike 116 114 (inr (omega arith)) (ap first_of_text e))
  same_front (Tx a) (NoSession b) x y p q e = absurd (unlike 116 110 (inr (omega arith)) (ap first_of_text e))
  same_front (Tx a) (Full b) x y p q e = absurd (unlike 116 102 (inr (omega arith)) (ap first_of_text e))
  same_front (Full a) (Rx b) x y p q e = absurd (unlike 102 114 (inl (omega arith)) (ap first_of_text e))
  same_front (Full a) (NoSession b) x y p q e = absurd (unlike 102 110 (inl (omega arith)) (ap first_of_text e))
  same_front (Full a) (Tx b) x y p q e = absurd (unlike 102 116 (inl (omega arith)) (ap first_of_text e))
  same_front (NoSession a) (NoSession b) x y p q e =
      let s = one_line _ _ _ _ x y (refused_are_words a p) (refused_are_words b q) e in record { line = ap NoSession (same_refused a b p q s.words); rest = s.rest }
  same_front (Tx a) (Tx b) x y p q e =
      let s = one_line _ _ _ _ x y (tx_are_words a p) (tx_are_words b q) e in record { line = ap Tx (same_tx a b p q s.words); rest = s.rest }
  same_front (Full a) (Full b) x y p q e =
      let s = one_line _ _ _ _ x y (full_are_words a p) (full_are_words b q) e in record { line = ap Full (same_full a b p q s.words); rest = s.rest }

  some_text : (line : Line) (x : List ℕ) → line_text plan.buses line ++ x ≡ [] → ⊥
  some_text (Rx rx) x e = absurd (unlike 114 0 (inr (omega arith)) (ap first_of_text e))
  some_text (NoSession r) x e = absurd (unlike 110 0 (inr (omega arith)) (ap first_of_text e))
  some_text (Tx tx) x e = absurd (unlike 116 0 (inr (omega arith)) (ap first_of_text e))
  some_text (Full full) x e = absurd (unlike 102 0 (inr (omega arith)) (ap first_of_text e))

  same_lines : (a b : List Line) → AreLinesOn plan a → AreLinesOn plan b → text plan.buses a ≡ text plan.buses b → a ≡ b
  same_lines [] [] p q e = refl
  same_lines [] (y ∷ b) p q e = absurd (some_text y (text plan.buses b) (sym e))
  same_lines (x ∷ a) [] p q e = absurd (some_text x (text plan.buses a) e)
  same_lines (x ∷ a) (y ∷ b) p q e =
      let s = same_front x y (text plan.buses a) (text plan.buses b) p.0 q.0 e in
      let t = same_lines a b p.1 q.1 s.rest in λ i. s.line i ∷ t i

pub text_tells_lines : TextTellsLines
text_tells_lines plan a b named p q e = same_lines plan named a b p q e
