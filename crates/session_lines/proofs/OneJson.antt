-- No two lists of lines have one JSON text.
use Rattle.std.proofs.Common.{◌≡◌, ◌∙◌, inl, inr, ℕ, ◌+◌, ◌<◌, ◌^◌, List, [], ◌∷◌, ◌++◌, get_or, Option, Some, None, refl, sym, ap, subst, append_assoc, arith}
use Rattle.std.specs.Prelude.{decimal, codes, slice_index}
use Rattle.std.specs.Option.{ForSome}
use Rattle.std.proofs.lemmas.Fmt.{decimal_injective, decimal_is_IsNumeral}
use Rattle.std.proofs.lemmas.List.{append_cancel_left}
use Rattle.std.specs.Str.Parse.{AllDigits}
use Rattle.std.specs.Char.{digit_value}
use Rattle.hex.specs.Hex.{encode_upper}
use Rattle.can_id.specs.Kinds.{kind_text}
use Rattle.can_id.specs.declared.key.Key.{Key}
use Rattle.dsdl_types.specs.Names.{HasNames}
use Rattle.dsdl_types.specs.Schemas.{Sch}
use Rattle.dsdl_types.specs.Views.{val}
use Rattle.line_text.specs.Text.{ident_text, moment_text}
use Rattle.node_core.specs.Types.{type_on}
use Rattle.node_plan.specs.Buses.{bus_text}
use Rattle.node_plan.specs.declared.plan.BusPlan.{BusPlan}
use Rattle.node_plan.specs.declared.plan.Plan.{Plan}
use Rattle.report_lines.specs.Readings.{reading_of}
use Rattle.report_lines.specs.declared.line.FullLine.{FullLine}
use Rattle.report_lines.specs.declared.line.Line.{Line}
use Rattle.report_lines.specs.declared.line.Line.TheVariants.{Rx, NoSession, Tx, Full}
use Rattle.report_lines.specs.declared.line.Reading.{Reading}
use Rattle.report_lines.specs.declared.line.Reading.TheVariants.{Raw, Good, Bad}
use Rattle.report_lines.specs.declared.line.Refused.{Refused}
use Rattle.report_lines.specs.declared.line.Rx.{Rx as Received}
use Rattle.report_lines.specs.declared.line.Tx.{Tx as SentFrame}
use Rattle.value_json.specs.Json.{json_of}
use Rattle.value_json.specs.Pieces.{Exact, Number, Piece, Spells, exact}
use Rattle.value_json.specs.Words.{name_text}
use Rattle.json_lines.specs.Text.{begin, error_text, front_text, json_text, key_members, line_end, line_json, more, payload_member, place_members, reading_json, source_json, transfer_members, tx_json, type_for}
use Rattle.session_lines.specs.OneJson.{HaveFieldNames, JsonTellsLines}
use Rattle.session_lines.specs.OneReport.{AreNamed, AreLinesOn, IsKey, IsLineOn, IsFullBus, IsReceived, IsRefused, IsSentFrame}
use Rattle.session_lines.proofs.Cuts.{Free, cut, unlike}
use Rattle.session_lines.proofs.Newlines.{AreClean, IsNewline, clean_json, clean_text, free_above}
use Rattle.session_lines.proofs.OneWord.{ArePlain, IsPlain, four, four_bytes, free_plain, one_bus, one_hex, one_ident, one_kind, one_moment, plain_bus, plain_bytes, plain_decimal, plain_hex, plain_kind, plain_moment}
use Rattle.session_lines.proofs.Seams.{AreFree, AreSeams, EndsWord, Seam, one_weave, woven}

-- ---- words

plain_within : (c : ℕ) → IsPlain c → EndsWord c → ⊥
plain_within c h (inl e) = absurd (omega (arith, h.0, e))
plain_within c h (inr (inl e)) = absurd (omega (arith, h.0, e))
plain_within c h (inr (inr e)) = absurd (omega (arith, h.1, e))

word : (t : List ℕ) → ArePlain t → Free EndsWord t
word = free_plain EndsWord plain_within

plain_source : (source : Option ℕ) → ArePlain (source_json source)
plain_source None = plain_bytes (codes "null") refl refl
plain_source (Some s) = plain_decimal s

-- no decimal is `null`
no_null : (n : ℕ) → n < 2 ^ 64 → decimal n ≡ codes "null" → ⊥
no_null n h e =
    let k : AllDigits 10 (codes "null") = subst (AllDigits 10) e (decimal_is_IsNumeral n h).0.1 in
    let l : digit_value 110 < 10 = k.0 in absurd (omega (arith, l))

one_source : (a b : Option ℕ) → ForSome a (λ s. s < 256) → ForSome b (λ s. s < 256) → source_json a ≡ source_json b → a ≡ b
one_source None None p q e = refl
one_source None (Some b) p q e = let l = q b refl in absurd (no_null b (omega arith) (sym e))
one_source (Some a) None p q e = let l = p a refl in absurd (no_null a (omega arith) e)
one_source (Some a) (Some b) p q e =
    let l = p a refl in
    let r = q b refl in ap Some (decimal_injective a b (omega arith) (omega arith) e)

one_key : (a b : Key) → IsKey a → IsKey b → kind_text a.kind ≡ kind_text b.kind → decimal a.port ≡ decimal b.port → source_json a.source ≡ source_json b.source → a ≡ b
one_key a b p q e f g =
    let kind = one_kind a.kind b.kind e in
    let pl = p.port in
    let ql = q.port in
    let port = decimal_injective a.port b.port (omega arith) (omega arith) f in
    let source = one_source a.source b.source p.source q.source g in λ i. record { kind = kind i; port = port i; source = source i }

-- ---- what a payload says, up to the end of its line

-- Where two lists of pieces stand behind the same line, they stand from one place on.
abbrev OneTail : List Piece → Type 0
OneTail pieces = (a b : List Piece) (x : List ℕ) → Spells ((pieces ++ exact line_end) ++ a) x → Spells ((pieces ++ exact line_end) ++ b) x → (r : List ℕ) × Spells a r × Spells b r

exact_tail : (bytes : List ℕ) (a b : List Piece) (x : List ℕ) → Spells (Exact bytes ∷ a) x → Spells (Exact bytes ∷ b) x → (r : List ℕ) × Spells a r × Spells b r
exact_tail bytes a b x (r, e, s) (q, f, t) =
    let same : r ≡ q = append_cancel_left bytes r q (sym e ∙ f) in (r, s, subst (Spells b) (sym same) t)

raw_tail : OneTail []
raw_tail a b x s t = exact_tail line_end a b x s t

bad_tail : (bytes : List ℕ) → OneTail (exact bytes)
bad_tail bytes a b x s t =
    let (r, u, v) = exact_tail bytes (exact line_end ++ a) (exact line_end ++ b) x s t in
    exact_tail line_end a b r u v

-- a text of pieces that stand in front of others
parted : (a b : List Piece) (x : List ℕ) → Spells (a ++ b) x → (u : List ℕ) × (v : List ℕ) × (x ≡ u ++ v) × Spells a u × Spells b v
parted [] b x s = ([], x, refl, refl, s)
parted (Exact bytes ∷ a) b x (rest, e, s) =
    let (u, v, f, p, q) = parted a b rest s in
    (bytes ++ u, v, e ∙ (ap (λ t. bytes ++ t) f ∙ sym (append_assoc bytes u v)), (u, refl, p), q)
parted (Number w y ∷ a) b x (number, rest, n, e, s) =
    let (u, v, f, p, q) = parted a b rest s in
    (number ++ u, v, e ∙ (ap (λ t. number ++ t) f ∙ sym (append_assoc number u v)), (number, u, n, refl, p), q)

-- a text without a newline, and behind it the end of a line
before_end : (u r x : List ℕ) → x ≡ u ++ (line_end ++ r) → x ≡ (u ++ 125 ∷ []) ++ 10 ∷ r
before_end u r x e = e ∙ sym (append_assoc u (125 ∷ []) (10 ∷ r))

with_brace : (u : List ℕ) → Free IsNewline u → Free IsNewline (u ++ 125 ∷ [])
with_brace [] h = ((λ e. absurd (omega (arith, e))), tt)
with_brace (c ∷ u) h = (h.0, with_brace u h.1)

clean_tail : (pieces : List Piece) → AreClean pieces → OneTail pieces
clean_tail pieces h a b x s t =
    let (u, v, e, p, q) = parted pieces (exact line_end ++ a) x (subst (λ l. Spells l x) (append_assoc pieces (exact line_end) a) s) in
    let (w, z, f, g, k) = parted pieces (exact line_end ++ b) x (subst (λ l. Spells l x) (append_assoc pieces (exact line_end) b) t) in
    let (r, m, n) = q in
    let (o, i, j) = k in
    let left = before_end u r x (e ∙ ap (λ l. u ++ l) m) in
    let right = before_end w o x (f ∙ ap (λ l. w ++ l) i) in
    let c = cut IsNewline (u ++ 125 ∷ []) (w ++ 125 ∷ []) 10 10 r o (with_brace u (clean_text pieces u h p)) (with_brace w (clean_text pieces w h g)) refl refl (sym left ∙ right) in
    (r, n, subst (Spells b) (sym c.rest) j)

reading_tail : (type : Option Sch) → ForSome type HasNames → (reading : Reading) → OneTail (reading_json type reading)
reading_tail None h reading = raw_tail
reading_tail (Some s) h Raw = raw_tail
reading_tail (Some s) h (Good value text) = clean_tail (Exact (44 ∷ name_text (codes "value")) ∷ json_of s (val value)) (front, clean_json s (val value) (h s refl))
  where
    front : Free IsNewline (44 ∷ name_text (codes "value"))
    front = free_above (44 ∷ name_text (codes "value")) refl
reading_tail (Some s) h (Bad path why) = bad_tail (more (codes "error") (error_text path why))

-- ---- lines

abbrev seam : ℕ → List ℕ → Seam
seam end more = record { end = end; more = more }

-- behind the moment and the bus
abbrev place_seams : List Seam → List Seam
place_seams seams = seam 44 (codes "\"bus\":\"") ∷ seams

abbrev rx_seams : List Seam
rx_seams = place_seams (
    seam 34 (codes ",\"kind\":\"")
    ∷ seam 34 (codes ",\"port\":")
    ∷ seam 44 (codes "\"source\":")
    ∷ seam 44 (codes "\"priority\":")
    ∷ seam 44 (codes "\"transfer_id\":")
    ∷ seam 44 (codes "\"first\":")
    ∷ seam 44 (codes "\"last\":")
    ∷ seam 44 (codes "\"payload\":\"")
    ∷ seam 34 []
    ∷ []
    )

abbrev refused_seams : List Seam
refused_seams = place_seams (
    seam 34 (codes ",\"kind\":\"")
    ∷ seam 34 (codes ",\"port\":")
    ∷ seam 44 (codes "\"source\":")
    ∷ seam 44 (codes "\"at\":")
    ∷ seam 125 (10 ∷ [])
    ∷ []
    )

abbrev tx_seams : List Seam
tx_seams = place_seams (seam 34 (codes ",\"id\":\"") ∷ seam 34 (codes ",\"data\":\"") ∷ seam 34 (codes "}\n") ∷ [])

abbrev full_seams : List Seam
full_seams = place_seams (
    seam 34 (codes ",\"port\":")
    ∷ seam 44 (codes "\"needed\":")
    ∷ seam 44 (codes "\"free\":")
    ∷ seam 125 (10 ∷ [])
    ∷ []
    )

abbrev rx_words : List BusPlan → Received → List (List ℕ)
rx_words buses rx = moment_text rx.moment ∷ bus_text buses rx.bus ∷ kind_text rx.key.kind ∷ decimal rx.key.port ∷ source_json rx.key.source ∷ decimal rx.priority ∷ decimal rx.tid ∷ decimal rx.first ∷ decimal rx.last ∷ encode_upper rx.payload ∷ []

abbrev refused_words : List BusPlan → Refused → List (List ℕ)
refused_words buses r = moment_text r.moment ∷ bus_text buses r.bus ∷ kind_text r.key.kind ∷ decimal r.key.port ∷ source_json r.key.source ∷ decimal r.line ∷ []

abbrev tx_words : List BusPlan → SentFrame → List (List ℕ)
tx_words buses tx = moment_text tx.moment ∷ bus_text buses tx.bus ∷ ident_text tx.ident ∷ encode_upper tx.bytes ∷ []

abbrev full_words : List BusPlan → FullLine → List (List ℕ)
full_words buses full = moment_text full.moment ∷ bus_text buses full.bus ∷ decimal full.port ∷ decimal full.needed ∷ decimal full.free ∷ []

abbrev refused_text : List BusPlan → Refused → List ℕ
refused_text buses refused =
    begin (codes "nosession") ++ (place_members buses refused.moment refused.bus
    ++ (key_members refused.key ++ (more (codes "at") (decimal refused.line) ++ line_end)))

abbrev full_text : List BusPlan → FullLine → List ℕ
full_text buses full =
    begin (codes "full") ++ (place_members buses full.moment full.bus
    ++ (more (codes "port") (decimal full.port)
    ++ (more (codes "needed") (decimal full.needed)
    ++ (more (codes "free") (decimal full.free) ++ line_end))))

-- the parts of lines in a row, whatever they are
place_row : (word time m bus b quote rest x : List ℕ) → (word ++ ((time ++ (m ++ (bus ++ (b ++ quote)))) ++ rest)) ++ x ≡ word ++ (time ++ (m ++ (bus ++ (b ++ (quote ++ (rest ++ x))))))
place_row word time m bus b quote rest x = simp append_assoc

key_row : (kind k quote port p source s rest x : List ℕ) → ((((kind ++ (k ++ quote)) ++ port) ++ (p ++ (source ++ s))) ++ rest) ++ x ≡ kind ++ (k ++ (quote ++ (port ++ (p ++ (source ++ (s ++ (rest ++ x)))))))
key_row kind k quote port p source s rest x = simp append_assoc

transfer_row : (priority r tid t first f last l payload y quote x : List ℕ) → (((priority ++ r) ++ ((tid ++ t) ++ ((first ++ f) ++ (last ++ l)))) ++ (payload ++ (y ++ quote))) ++ x ≡ priority ++ (r ++ (tid ++ (t ++ (first ++ (f ++ (last ++ (l ++ (payload ++ (y ++ (quote ++ x))))))))))
transfer_row priority r tid t first f last l payload y quote x = simp append_assoc

member_row : (name a rest x : List ℕ) → ((name ++ a) ++ rest) ++ x ≡ name ++ (a ++ (rest ++ x))
member_row name a rest x = simp append_assoc

full_row : (port p needed n free f end x : List ℕ) → ((port ++ p) ++ ((needed ++ n) ++ ((free ++ f) ++ end))) ++ x ≡ port ++ (p ++ (needed ++ (n ++ (free ++ (f ++ (end ++ x))))))
full_row port p needed n free f end x = simp append_assoc

place_woven : (word : List ℕ) (buses : List BusPlan) (moment bus : ℕ) (rest x : List ℕ) → (begin word ++ (place_members buses moment bus ++ rest)) ++ x ≡ begin word ++ (codes ",\"time\":" ++ (moment_text moment ++ (codes ",\"bus\":\"" ++ (bus_text buses bus ++ (codes "\"" ++ (rest ++ x))))))
place_woven word buses moment bus rest x = place_row (begin word) (codes ",\"time\":") (moment_text moment) (codes ",\"bus\":\"") (bus_text buses bus) (codes "\"") rest x

key_woven : (key : Key) (rest x : List ℕ) → (key_members key ++ rest) ++ x ≡ codes ",\"kind\":\"" ++ (kind_text key.kind ++ (codes "\"" ++ (codes ",\"port\":" ++ (decimal key.port ++ (codes ",\"source\":" ++ (source_json key.source ++ (rest ++ x)))))))
key_woven key rest x = key_row (codes ",\"kind\":\"") (kind_text key.kind) (codes "\"") (codes ",\"port\":") (decimal key.port) (codes ",\"source\":") (source_json key.source) rest x

transfer_woven : (rx : Received) (x : List ℕ) → (transfer_members rx.priority rx.tid rx.first rx.last ++ payload_member rx.payload) ++ x ≡ codes ",\"priority\":" ++ (decimal rx.priority ++ (codes ",\"transfer_id\":" ++ (decimal rx.tid ++ (codes ",\"first\":" ++ (decimal rx.first ++ (codes ",\"last\":" ++ (decimal rx.last ++ (codes ",\"payload\":\"" ++ (encode_upper rx.payload ++ (codes "\"" ++ x))))))))))
transfer_woven rx x = transfer_row (codes ",\"priority\":") (decimal rx.priority) (codes ",\"transfer_id\":") (decimal rx.tid) (codes ",\"first\":") (decimal rx.first) (codes ",\"last\":") (decimal rx.last) (codes ",\"payload\":\"") (encode_upper rx.payload) (codes "\"") x

abbrev behind_place : List ℕ → List BusPlan → ℕ → ℕ → List ℕ → List ℕ
behind_place word buses moment bus rest = begin word ++ (codes ",\"time\":" ++ (moment_text moment ++ (codes ",\"bus\":\"" ++ (bus_text buses bus ++ (codes "\"" ++ rest)))))

abbrev behind_key : Key → List ℕ → List ℕ
behind_key key rest = codes ",\"kind\":\"" ++ (kind_text key.kind ++ (codes "\"" ++ (codes ",\"port\":" ++ (decimal key.port ++ (codes ",\"source\":" ++ (source_json key.source ++ rest))))))

rx_woven : (buses : List BusPlan) (rx : Received) (x : List ℕ) → front_text buses rx ++ x ≡ codes "{\"line\":\"rx\",\"time\":" ++ woven rx_seams (rx_words buses rx) x
rx_woven buses rx x =
    let tail = transfer_members rx.priority rx.tid rx.first rx.last ++ payload_member rx.payload in
    place_woven (codes "rx") buses rx.moment rx.bus (key_members rx.key ++ tail) x
    ∙ ap (λ t. behind_place (codes "rx") buses rx.moment rx.bus t) (key_woven rx.key tail x)
    ∙ ap (λ t. behind_place (codes "rx") buses rx.moment rx.bus (behind_key rx.key t)) (transfer_woven rx x)

refused_woven : (buses : List BusPlan) (r : Refused) (x : List ℕ) → refused_text buses r ++ x ≡ codes "{\"line\":\"nosession\",\"time\":" ++ woven refused_seams (refused_words buses r) x
refused_woven buses r x =
    let tail = more (codes "at") (decimal r.line) ++ line_end in
    place_woven (codes "nosession") buses r.moment r.bus (key_members r.key ++ tail) x
    ∙ ap (λ t. behind_place (codes "nosession") buses r.moment r.bus t) (key_woven r.key tail x)
    ∙ ap (λ t. behind_place (codes "nosession") buses r.moment r.bus (behind_key r.key t)) (member_row (codes ",\"at\":") (decimal r.line) line_end x)

tx_woven : (buses : List BusPlan) (tx : SentFrame) (x : List ℕ) → tx_json buses tx ++ x ≡ codes "{\"line\":\"tx\",\"time\":" ++ woven tx_seams (tx_words buses tx) x
tx_woven buses tx x = simp append_assoc

full_woven : (buses : List BusPlan) (full : FullLine) (x : List ℕ) → full_text buses full ++ x ≡ codes "{\"line\":\"full\",\"time\":" ++ woven full_seams (full_words buses full) x
full_woven buses full x =
    let tail = more (codes "port") (decimal full.port) ++ (more (codes "needed") (decimal full.needed) ++ (more (codes "free") (decimal full.free) ++ line_end)) in
    place_woven (codes "full") buses full.moment full.bus tail x
    ∙ ap (λ t. behind_place (codes "full") buses full.moment full.bus t) (full_row (codes ",\"port\":") (decimal full.port) (codes ",\"needed\":") (decimal full.needed) (codes ",\"free\":") (decimal full.free) line_end x)

abbrev word_at : List (List ℕ) → ℕ → List ℕ
word_at ws i = get_or ws i []

quote_ends : EndsWord 34
quote_ends = inl refl

comma_ends : EndsWord 44
comma_ends = inr (inl refl)

brace_ends : EndsWord 125
brace_ends = inr (inr refl)

small : (n : ℕ) → n < 256 → n < 2 ^ 64
small n h = omega arith

module _ (plan : Plan) (named : AreNamed plan.buses) (types : HaveFieldNames plan) where
  rx_free : (rx : Received) → IsReceived plan rx → AreFree (rx_words plan.buses rx)
  rx_free rx h = (
    word (moment_text rx.moment) (plain_moment rx.moment),
    (
      word (bus_text plan.buses rx.bus) (plain_bus plan.buses rx.bus named h.bus),
      (
        word (kind_text rx.key.kind) (plain_kind rx.key.kind),
        (
          word (decimal rx.key.port) (plain_decimal rx.key.port),
          (
            word (source_json rx.key.source) (plain_source rx.key.source),
            (
              word (decimal rx.priority) (plain_decimal rx.priority),
              (
                word (decimal rx.tid) (plain_decimal rx.tid),
                (
                  word (decimal rx.first) (plain_decimal rx.first),
                  (
                    word (decimal rx.last) (plain_decimal rx.last),
                    (word (encode_upper rx.payload) (plain_hex rx.payload h.payload), tt),
                  ),
                ),
              ),
            ),
          ),
        ),
      ),
    ),
  )

  refused_free : (r : Refused) → IsRefused plan r → AreFree (refused_words plan.buses r)
  refused_free r h = (
    word (moment_text r.moment) (plain_moment r.moment),
    (
      word (bus_text plan.buses r.bus) (plain_bus plan.buses r.bus named h.bus),
      (
        word (kind_text r.key.kind) (plain_kind r.key.kind),
        (
          word (decimal r.key.port) (plain_decimal r.key.port),
          (
            word (source_json r.key.source) (plain_source r.key.source),
            (word (decimal r.line) (plain_decimal r.line), tt),
          ),
        ),
      ),
    ),
  )

  tx_free : (tx : SentFrame) → IsSentFrame plan tx → AreFree (tx_words plan.buses tx)
  tx_free tx h = (
    word (moment_text tx.moment) (plain_moment tx.moment),
    (
      word (bus_text plan.buses tx.bus) (plain_bus plan.buses tx.bus named h.bus),
      (
        word (ident_text tx.ident) (plain_hex (four tx.ident) (four_bytes tx.ident h.ident)),
        (word (encode_upper tx.bytes) (plain_hex tx.bytes h.bytes), tt),
      ),
    ),
  )

  full_free : (full : FullLine) → IsFullBus plan full → AreFree (full_words plan.buses full)
  full_free full h = (
    word (moment_text full.moment) (plain_moment full.moment),
    (
      word (bus_text plan.buses full.bus) (plain_bus plan.buses full.bus named h.bus),
      (
        word (decimal full.port) (plain_decimal full.port),
        (
          word (decimal full.needed) (plain_decimal full.needed),
          (word (decimal full.free) (plain_decimal full.free), tt),
        ),
      ),
    ),
  )

  -- key and payload tell what the payload says
  same_rx : (a b : Received) → IsReceived plan a → IsReceived plan b → rx_words plan.buses a ≡ rx_words plan.buses b → a ≡ b
  same_rx a b p q e =
      let moment = one_moment a.moment b.moment p.moment q.moment (ap (λ (ws : List (List ℕ)). word_at ws 0) e) in
      let bus = one_bus plan.buses a.bus b.bus named p.bus q.bus (ap (λ (ws : List (List ℕ)). word_at ws 1) e) in
      let key = one_key a.key b.key p.key q.key (ap (λ (ws : List (List ℕ)). word_at ws 2) e) (ap (λ (ws : List (List ℕ)). word_at ws 3) e) (ap (λ (ws : List (List ℕ)). word_at ws 4) e) in
      let priority = decimal_injective a.priority b.priority (small a.priority p.priority) (small b.priority q.priority) (ap (λ (ws : List (List ℕ)). word_at ws 5) e) in
      let tid = decimal_injective a.tid b.tid (small a.tid p.tid) (small b.tid q.tid) (ap (λ (ws : List (List ℕ)). word_at ws 6) e) in
      let first = decimal_injective a.first b.first p.first q.first (ap (λ (ws : List (List ℕ)). word_at ws 7) e) in
      let last = decimal_injective a.last b.last p.last q.last (ap (λ (ws : List (List ℕ)). word_at ws 8) e) in
      let payload = one_hex a.payload b.payload p.payload q.payload (ap (λ (ws : List (List ℕ)). word_at ws 9) e) in
      let reading : a.reading ≡ b.reading = p.reading ∙ ((λ i. reading_of (type_on plan (key i)) (payload i)) ∙ sym q.reading) in
      λ i. record { moment = moment i; bus = bus i; key = key i; priority = priority i; tid = tid i; reading = reading i; first = first i; last = last i; payload = payload i }

  same_refused : (a b : Refused) → IsRefused plan a → IsRefused plan b → refused_words plan.buses a ≡ refused_words plan.buses b → a ≡ b
  same_refused a b p q e =
      let moment = one_moment a.moment b.moment p.moment q.moment (ap (λ (ws : List (List ℕ)). word_at ws 0) e) in
      let bus = one_bus plan.buses a.bus b.bus named p.bus q.bus (ap (λ (ws : List (List ℕ)). word_at ws 1) e) in
      let key = one_key a.key b.key p.key q.key (ap (λ (ws : List (List ℕ)). word_at ws 2) e) (ap (λ (ws : List (List ℕ)). word_at ws 3) e) (ap (λ (ws : List (List ℕ)). word_at ws 4) e) in
      let line = decimal_injective a.line b.line p.line q.line (ap (λ (ws : List (List ℕ)). word_at ws 5) e) in
      λ i. record { moment = moment i; bus = bus i; key = key i; line = line i }

  same_tx : (a b : SentFrame) → IsSentFrame plan a → IsSentFrame plan b → tx_words plan.buses a ≡ tx_words plan.buses b → a ≡ b
  same_tx a b p q e =
      let moment = one_moment a.moment b.moment p.moment q.moment (ap (λ (ws : List (List ℕ)). word_at ws 0) e) in
      let bus = one_bus plan.buses a.bus b.bus named p.bus q.bus (ap (λ (ws : List (List ℕ)). word_at ws 1) e) in
      let ident = one_ident a.ident b.ident p.ident q.ident (ap (λ (ws : List (List ℕ)). word_at ws 2) e) in
      let bytes = one_hex a.bytes b.bytes p.bytes q.bytes (ap (λ (ws : List (List ℕ)). word_at ws 3) e) in
      λ i. record { moment = moment i; bus = bus i; ident = ident i; bytes = bytes i }

  same_full : (a b : FullLine) → IsFullBus plan a → IsFullBus plan b → full_words plan.buses a ≡ full_words plan.buses b → a ≡ b
  same_full a b p q e =
      let moment = one_moment a.moment b.moment p.moment q.moment (ap (λ (ws : List (List ℕ)). word_at ws 0) e) in
      let bus = one_bus plan.buses a.bus b.bus named p.bus q.bus (ap (λ (ws : List (List ℕ)). word_at ws 1) e) in
      let pl = p.port in
      let ql = q.port in
      let port = decimal_injective a.port b.port (omega arith) (omega arith) (ap (λ (ws : List (List ℕ)). word_at ws 2) e) in
      let needed = decimal_injective a.needed b.needed p.needed q.needed (ap (λ (ws : List (List ℕ)). word_at ws 3) e) in
      let free = decimal_injective a.free b.free p.free q.free (ap (λ (ws : List (List ℕ)). word_at ws 4) e) in
      λ i. record { moment = moment i; bus = bus i; port = port i; needed = needed i; free = free i }

  -- the first line of a text, in front of others
  abbrev Begins : Line → List Piece → List ℕ → Type 0
  Begins line others text = Spells (line_json (type_for (type_on plan) line) plan.buses line ++ others) text

  -- of two lines with one text in front of others
  record SameFirst (a b : Line) (others more : List Piece) : Type 0 where
    line : a ≡ b
    behind : List ℕ
    left : Spells others behind
    right : Spells more behind

  one_rx : (a b : Received) (x y : List ℕ) → IsReceived plan a → IsReceived plan b → front_text plan.buses a ++ x ≡ front_text plan.buses b ++ y → (a ≡ b) × (x ≡ y)
  one_rx a b x y p q e =
      let f = sym (rx_woven plan.buses a x) ∙ (e ∙ rx_woven plan.buses b y) in
      let g = append_cancel_left (codes "{\"line\":\"rx\",\"time\":") _ _ f in
      let s = one_weave rx_seams (rx_words plan.buses a) (rx_words plan.buses b) x y seams refl refl (rx_free a p) (rx_free b q) g in
      (same_rx a b p q s.words, s.rest)
    where
      seams : AreSeams rx_seams
      seams = (comma_ends, (quote_ends, (quote_ends, (comma_ends, (comma_ends, (comma_ends, (comma_ends, (comma_ends, (comma_ends, (quote_ends, tt))))))))))

  one_refused : (a b : Refused) (x y : List ℕ) → IsRefused plan a → IsRefused plan b → refused_text plan.buses a ++ x ≡ refused_text plan.buses b ++ y → (a ≡ b) × (x ≡ y)
  one_refused a b x y p q e =
      let f = sym (refused_woven plan.buses a x) ∙ (e ∙ refused_woven plan.buses b y) in
      let g = append_cancel_left (codes "{\"line\":\"nosession\",\"time\":") _ _ f in
      let s = one_weave refused_seams (refused_words plan.buses a) (refused_words plan.buses b) x y seams refl refl (refused_free a p) (refused_free b q) g in
      (same_refused a b p q s.words, s.rest)
    where
      seams : AreSeams refused_seams
      seams = (comma_ends, (quote_ends, (quote_ends, (comma_ends, (comma_ends, (brace_ends, tt))))))

  one_tx : (a b : SentFrame) (x y : List ℕ) → IsSentFrame plan a → IsSentFrame plan b → tx_json plan.buses a ++ x ≡ tx_json plan.buses b ++ y → (a ≡ b) × (x ≡ y)
  one_tx a b x y p q e =
      let f = sym (tx_woven plan.buses a x) ∙ (e ∙ tx_woven plan.buses b y) in
      let g = append_cancel_left (codes "{\"line\":\"tx\",\"time\":") _ _ f in
      let s = one_weave tx_seams (tx_words plan.buses a) (tx_words plan.buses b) x y seams refl refl (tx_free a p) (tx_free b q) g in
      (same_tx a b p q s.words, s.rest)
    where
      seams : AreSeams tx_seams
      seams = (comma_ends, (quote_ends, (quote_ends, (quote_ends, tt))))

  one_full : (a b : FullLine) (x y : List ℕ) → IsFullBus plan a → IsFullBus plan b → full_text plan.buses a ++ x ≡ full_text plan.buses b ++ y → (a ≡ b) × (x ≡ y)
  one_full a b x y p q e =
      let f = sym (full_woven plan.buses a x) ∙ (e ∙ full_woven plan.buses b y) in
      let g = append_cancel_left (codes "{\"line\":\"full\",\"time\":") _ _ f in
      let s = one_weave full_seams (full_words plan.buses a) (full_words plan.buses b) x y seams refl refl (full_free a p) (full_free b q) g in
      (same_full a b p q s.words, s.rest)
    where
      seams : AreSeams full_seams
      seams = (comma_ends, (quote_ends, (comma_ends, (comma_ends, (brace_ends, tt)))))

  -- the letter that tells the kinds of lines apart
  abbrev letter : List ℕ → ℕ
  letter t = slice_index t 9

  -- the text of a line without what its payload says, in front of the rest
  abbrev front_json : Line → List ℕ
  front_json (Rx rx) = front_text plan.buses rx
  front_json (NoSession r) = refused_text plan.buses r
  front_json (Tx tx) = tx_json plan.buses tx
  front_json (Full full) = full_text plan.buses full

  abbrev tail_json : Line → List Piece → List Piece
  tail_json (Rx rx) others = (reading_json (type_on plan rx.key) rx.reading ++ exact line_end) ++ others
  tail_json (NoSession r) others = others
  tail_json (Tx tx) others = others
  tail_json (Full full) others = others

  record Fronted (line : Line) (others : List Piece) (text : List ℕ) : Type 0 where
    rest : List ℕ
    is : text ≡ front_json line ++ rest
    spelled : Spells (tail_json line others) rest

  fronted : (line : Line) (others : List Piece) (text : List ℕ) → Begins line others text → Fronted line others text
  fronted (Rx rx) others text (x, e, s) = record { rest = x; is = e; spelled = s }
  fronted (NoSession r) others text (x, e, s) = record { rest = x; is = e; spelled = s }
  fronted (Tx tx) others text (x, e, s) = record { rest = x; is = e; spelled = s }
  fronted (Full full) others text (x, e, s) = record { rest = x; is = e; spelled = s }

  one_front : (a b : Line) (x y : List ℕ) → IsLineOn plan a → IsLineOn plan b → front_json a ++ x ≡ front_json b ++ y → (a ≡ b) × (x ≡ y)
  one_front (Rx a) (Rx b) x y p q e = let s = one_rx a b x y p q e in (ap Rx s.0, s.1)
  one_front (Rx a) (NoSession b) x y p q e = absurd (unlike 114 110 (inr (omega arith)) (ap letter e))
  one_front (Rx a) (Tx b) x y p q e = absurd (unlike 114 116 (inl (omega arith)) (ap letter e))
  one_front (Rx a) (Full b) x y p q e = absurd (unlike 114 102 (inr (omega arith)) (ap letter e))
  one_front (NoSession a) (Rx b) x y p q e = absurd (unlike 110 114 (inl (omega arith)) (ap letter e))
  one_front (NoSession a) (NoSession b) x y p q e = let s = one_refused a b x y p q e in (ap NoSession s.0, s.1)
  one_front (NoSession a) (Tx b) x y p q e = absurd (unlike 110 116 (inl (omega arith)) (ap letter e))
  one_front (NoSession a) (Full b) x y p q e = absurd (unlike 110 102 (inr (omega arith)) (ap letter e))
  one_front (Tx a) (Rx b) x y p q e = absurd (unlike 116 114 (inr (omega arith)) (ap letter e))
  one_front (Tx a) (NoSession b) x y p q e = absurd (unlike 116 110 (inr (omega arith)) (ap letter e))
  one_front (Tx a) (Tx b) x y p q e = let s = one_tx a b x y p q e in (ap Tx s.0, s.1)
  one_front (Tx a) (Full b) x y p q e = absurd (unlike 116 102 (inr (omega arith)) (ap letter e))
  one_front (Full a) (Rx b) x y p q e = absurd (unlike 102 114 (inl (omega arith)) (ap letter e))
  one_front (Full a) (NoSession b) x y p q e = absurd (unlike 102 110 (inl (omega arith)) (ap letter e))
  one_front (Full a) (Tx b) x y p q e = absurd (unlike 102 116 (inl (omega arith)) (ap letter e))
  one_front (Full a) (Full b) x y p q e = let s = one_full a b x y p q e in (ap Full s.0, s.1)

  one_tail : (line : Line) (others more : List Piece) (x : List ℕ) → Spells (tail_json line others) x → Spells (tail_json line more) x → (r : List ℕ) × Spells others r × Spells more r
  one_tail (Rx rx) others more x s t = reading_tail (type_on plan rx.key) (types rx.key) rx.reading others more x s t
  one_tail (NoSession r) others more x s t = (x, s, t)
  one_tail (Tx tx) others more x s t = (x, s, t)
  one_tail (Full full) others more x s t = (x, s, t)

  one_first : (a b : Line) (others more : List Piece) (text : List ℕ) → IsLineOn plan a → IsLineOn plan b → Begins a others text → Begins b more text → SameFirst a b others more
  one_first a b others more text p q s t =
      let f = fronted a others text s in
      let g = fronted b more text t in
      let is = one_front a b f.rest g.rest p q (sym f.is ∙ g.is) in
      let here : Spells (tail_json a more) f.rest = subst (λ l. Spells (tail_json l more) f.rest) (sym is.0) (subst (Spells (tail_json b more)) (sym is.1) g.spelled) in
      let (r, u, v) = one_tail a others more f.rest f.spelled here in
      record { line = is.0; behind = r; left = u; right = v }

  some_text : (line : Line) (others : List Piece) → Begins line others [] → ⊥
  some_text line others s = let f = fronted line others [] s in by_front line f.rest f.is
    where
      by_front : (line : Line) (x : List ℕ) → [] ≡ front_json line ++ x → ⊥
      by_front (Rx rx) x e = absurd (unlike 0 123 (inl (omega arith)) (ap (λ (t : List ℕ). slice_index t 0) e))
      by_front (NoSession r) x e = absurd (unlike 0 123 (inl (omega arith)) (ap (λ (t : List ℕ). slice_index t 0) e))
      by_front (Tx tx) x e = absurd (unlike 0 123 (inl (omega arith)) (ap (λ (t : List ℕ). slice_index t 0) e))
      by_front (Full full) x e = absurd (unlike 0 123 (inl (omega arith)) (ap (λ (t : List ℕ). slice_index t 0) e))

  one_report : (a b : List Line) (text : List ℕ) → AreLinesOn plan a → AreLinesOn plan b → Spells (json_text (type_on plan) plan.buses a) text → Spells (json_text (type_on plan) plan.buses b) text → a ≡ b
  one_report [] [] text p q s t = refl
  one_report [] (y ∷ b) text p q s t = absurd (some_text y (json_text (type_on plan) plan.buses b) (subst (Spells (json_text (type_on plan) plan.buses (y ∷ b))) s t))
  one_report (x ∷ a) [] text p q s t = absurd (some_text x (json_text (type_on plan) plan.buses a) (subst (Spells (json_text (type_on plan) plan.buses (x ∷ a))) t s))
  one_report (x ∷ a) (y ∷ b) text p q s t =
      let f = one_first x y (json_text (type_on plan) plan.buses a) (json_text (type_on plan) plan.buses b) text p.0 q.0 s t in
      let more = one_report a b f.behind p.1 q.1 f.left f.right in λ i. f.line i ∷ more i

pub json_tells_lines : JsonTellsLines
json_tells_lines plan a b text named types p q s t = one_report plan named types a b text p q s t
