-- What a frame of a transfer looks like to its receiver.
use Rattle.std.proofs.Common.{rules, ◌≡◌, ℕ, zero, suc, ◌+◌, ◌-◌, ◌*◌, ◌/◌, ◌<◌, ◌≤◌, Bool, true, false, cond, not, ◌&&◌, eqb, ltb, Option, Some, None, is_some, List, [], ◌∷◌, ◌++◌, length, take, drop, min, inl, inr, refl, sym, ap, ◌∙◌, subst, length-append, arith}
use Rattle.std.proofs.lemmas.Bool.{eqb-true, eqb-false, ne_eqb, cases_Bool, cases_lt, cond-false, cond_both, and_left, and_right, le-ltb, true≢false}
use Rattle.std.proofs.lemmas.List.{length-take, length-drop}
use Rattle.std.proofs.Math.Seq.{take-append_seam}
use Rattle.std.specs.List.{slice_get}
use Rattle.std.specs.Option.{option_and_then}
use Rattle.can_id.specs.Identifiers.{IsIdent, bits, ident_of, key_of}
use Rattle.can_id.specs.declared.ident.Ident.{Ident}
use Rattle.can_id.specs.declared.ident.Ident.TheVariants.{Message, Anonymous, Service}
use Rattle.can_id.specs.declared.key.Key.{Key}
use Rattle.tail_frame.specs.Frames.{FrameOf, frame_of, key_record, tail_of, tail_byte, is_anonymous, is_discarded, last_byte, framed}
use Rattle.tail_frame.specs.declared.discard.Discard.TheVariants as rule
use Rattle.tail_frame.specs.declared.logged.Record.{Record}
use Rattle.tail_frame.specs.declared.tail.Tail.{Tail}
use Rattle.frag.specs.Wire.{IsFrameSize, stream, last_frame, is_even, tail_at, body_at}
use Rattle.frag.specs.Sent.{IsUpTo, transfer_at, size_on, IsSentList, IsFrame, IsSent}
use Rattle.frag.specs.declared.sent.Pair.{Pair}
use Rattle.frag.specs.Raw.{EachRecord, IsWireSent, IsRecordOf, AreRecordsOf, FramesAreSeen, ExplainedByFields}
use Rattle.frag.specs.declared.sent.Sent.{Sent}
use Rattle.tail_frame.specs.Chains.{KeyRecord, AtEach}

-- an identifier as it is sent is read back
ident_undone : (ident : Ident) → IsIdent ident → ident_of (bits ident) ≡ Some ident
ident_undone (Message priority subject source) r = search rules
ident_undone (Anonymous priority subject pseudo) r = search rules
ident_undone (Service priority true service destination source) r = search rules
ident_undone (Service priority false service destination source) r = search rules

-- and so is a tail
tail_undone : (start end toggle : Bool) (tid : ℕ) → tid < 32 → tail_of (tail_byte (record { start = start; end = end; toggle = toggle; tid = tid })) ≡ record { start = start; end = end; toggle = toggle; tid = tid }
tail_undone start end toggle tid r = search rules

at_seam : (xs : List ℕ) (t : ℕ) → slice_get (xs ++ t ∷ []) (length xs) ≡ Some t
at_seam [] t = refl
at_seam (x ∷ xs) t = at_seam xs t

one_less : (xs : List ℕ) (t : ℕ) → length (xs ++ t ∷ []) - 1 ≡ length xs
one_less xs t = let e = length-append xs (t ∷ []) in omega arith

seam : (xs bytes : List ℕ) (t : ℕ) → bytes ≡ xs ++ t ∷ [] → length bytes - 1 ≡ length xs
seam xs bytes t e = ap (λ ys. length ys - 1) e ∙ one_less xs t

last_of : (xs bytes : List ℕ) (t : ℕ) → bytes ≡ xs ++ t ∷ [] → last_byte bytes ≡ Some t
last_of xs bytes t e = ap last_byte e ∙ (ap (slice_get (xs ++ t ∷ [])) (one_less xs t) ∙ at_seam xs t)

front_of : (xs bytes : List ℕ) (t : ℕ) → bytes ≡ xs ++ t ∷ [] → take (length bytes - 1) bytes ≡ xs
front_of xs bytes t e = ap (λ ys. take (length ys - 1) ys) e ∙ (ap (λ n. take n (xs ++ t ∷ [])) (one_less xs t) ∙ take-append_seam xs (t ∷ []))

-- each frame but the last is full, and of several none is empty
full_body : (m n i : ℕ) → IsFrameSize m → i < (n - 1) / (m - 1) → 7 ≤ min (m - 1) (n - i * (m - 1))
full_body m n i size l = elim size [ inl e ↦ full8 m n i e l | inr e ↦ full64 m n i e l ]
  where
    full8 : (m n i : ℕ) → m ≡ 8 → i < (n - 1) / (m - 1) → 7 ≤ min (m - 1) (n - i * (m - 1))
    full8 m n i e l = subst (λ k. i < (n - 1) / (k - 1) → 7 ≤ min (k - 1) (n - i * (k - 1))) (sym e) (λ h. omega arith) l

    full64 : (m n i : ℕ) → m ≡ 64 → i < (n - 1) / (m - 1) → 7 ≤ min (m - 1) (n - i * (m - 1))
    full64 m n i e l = subst (λ k. i < (n - 1) / (k - 1) → 7 ≤ min (k - 1) (n - i * (k - 1))) (sym e) (λ h. omega arith) l

some_body : (m n i : ℕ) → IsFrameSize m → i ≤ (n - 1) / (m - 1) → 0 < (n - 1) / (m - 1) → 0 < min (m - 1) (n - i * (m - 1))
some_body m n i size w l = elim size [ inl e ↦ some8 m n i e w l | inr e ↦ some64 m n i e w l ]
  where
    some8 : (m n i : ℕ) → m ≡ 8 → i ≤ (n - 1) / (m - 1) → 0 < (n - 1) / (m - 1) → 0 < min (m - 1) (n - i * (m - 1))
    some8 m n i e = subst (λ k. i ≤ (n - 1) / (k - 1) → 0 < (n - 1) / (k - 1) → 0 < min (k - 1) (n - i * (k - 1))) (sym e) (λ w l. omega arith)

    some64 : (m n i : ℕ) → m ≡ 64 → i ≤ (n - 1) / (m - 1) → 0 < (n - 1) / (m - 1) → 0 < min (m - 1) (n - i * (m - 1))
    some64 m n i e = subst (λ k. i ≤ (n - 1) / (k - 1) → 0 < (n - 1) / (k - 1) → 0 < min (k - 1) (n - i * (k - 1))) (sym e) (λ w l. omega arith)

length_body : (m : ℕ) (payload : List ℕ) (i : ℕ) → length (body_at m payload i) ≡ min (m - 1) (length (stream m payload) - i * (m - 1))
length_body m payload i = length-take (m - 1) (drop (i * (m - 1)) (stream m payload)) ∙ ap (min (m - 1)) (length-drop (i * (m - 1)) (stream m payload))

-- where no rule is broken
none_of : (a b c d : Bool) → a ≡ false → b ≡ false → c ≡ false → d ≡ false
    → is_some (cond a (Some rule.Toggle) (cond b (Some rule.Anonymous) (cond c (Some rule.Short) (cond d (Some rule.Bare) None)))) ≡ false
none_of a b c d p q r s = λ i. is_some (cond (p i) (Some rule.Toggle) (cond (q i) (Some rule.Anonymous) (cond (r i) (Some rule.Short) (cond (s i) (Some rule.Bare) None))))

-- a frame of a transfer isn't discarded
kept : (ident : Ident) (m i size tid : ℕ) (payload : List ℕ) → is_anonymous ident ≡ false → IsFrameSize m → i ≤ last_frame m payload → size ≡ length (body_at m payload i) → is_discarded ident (tail_at m payload tid i) size ≡ false
kept ident m i size tid payload known is_size within size_is =
    let last = last_frame m payload in
    let n = length (stream m payload) in
    let body = size_is ∙ length_body m payload i in
    let start = eqb i 0 in
    let end = eqb i last in
    none_of (start && not (is_even i)) (is_anonymous ident && not (start && end)) (not end && ltb size 7) (not (start && end) && eqb size 0)
    (elim (cases_Bool start) [
      | inl y ↦ (let zero_is = eqb-true i 0 y in subst (λ k. (eqb k 0 && not (is_even k)) ≡ false) (sym zero_is) refl)
      | inr n ↦ and_left start (not (is_even i)) n
    ])
    (and_left (is_anonymous ident) (not (start && end)) known)
    (elim (cases_Bool end) [
      | inl y ↦ and_left (not end) (ltb size 7) (ap not y)
      | inr other ↦ (let apart = eqb-false i last other in let full = full_body m n i is_size (below i last within apart) in and_right (not end) (ltb size 7) (le-ltb size 7 (omega arith)))
    ])
    (elim (cases_Bool (start && end)) [
      | inl y ↦ and_left (not (start && end)) (eqb size 0) (ap not y)
      | inr other ↦ (let several = more i last within other in let some = some_body m n i is_size within several in and_right (not (start && end)) (eqb size 0) (ne_eqb size 0 (λ z. absurd (omega arith))))
    ])
  where
    below : (i last : ℕ) → i ≤ last → (i ≡ last → ⊥) → i < last
    below i last w apart = elim (cases_lt i last) [ inl l ↦ l | inr g ↦ absurd (apart (omega arith)) ]

    more : (i last : ℕ) → i ≤ last → (eqb i 0 && eqb i last) ≡ false → 0 < last
    more i zero w none = (let e : i ≡ 0 = omega arith in absurd (true≢false (sym (subst (λ k. (eqb k 0 && eqb k 0) ≡ true) (sym e) refl) ∙ none)))
    more i (suc last) w none = omega arith

has_source : (ident : Ident) (key : Key) (source : ℕ) → key_of ident ≡ key → key.source ≡ Some source → is_anonymous ident ≡ false
has_source (Message priority subject s) key source k e = refl
has_source (Anonymous priority subject pseudo) key source k e = absurd (none_some source (ap (λ (a : Key). a.source) k ∙ e))
  where
    none_some : (s : ℕ) → None ≡ Some s → ⊥
    none_some s e = cc
has_source (Service priority is_request service destination s) key source k e = refl

pub frames_are_seen : FramesAreSeen
frames_are_seen key source x m i rec has_one size tid w =
    let tail = tail_at m x.payload x.tid i in
    let t = tail_byte tail in
    let body = body_at m x.payload i in
    let ident_is : ident_of rec.ident ≡ Some w.ident = ap ident_of w.identifier ∙ ident_undone w.ident w.ident_of.ranges in
    let tail_is : tail_of t ≡ tail = tail_undone (eqb i 0) (eqb i (last_frame m x.payload)) (is_even i) x.tid tid in
    let size_is = seam body rec.bytes t w.bytes in
    let f : FrameOf = record { line = rec.line; moment = rec.moment; bus = rec.bus; ident = w.ident; tail = tail_of t; body = take (length rec.bytes - 1) rec.bytes } in
    let taken : is_discarded w.ident (tail_of t) (length rec.bytes - 1) ≡ false =
    subst (λ (a : Tail). is_discarded w.ident a (length rec.bytes - 1) ≡ false) (sym tail_is) (kept w.ident m i (length rec.bytes - 1) x.tid x.payload (has_source w.ident key source w.ident_of.has_key has_one) size w.within size_is) in
    let is : frame_of rec ≡ Some f =
    ap (option_and_then (λ ident. option_and_then (framed rec ident) (last_byte rec.bytes))) ident_is
    ∙ (ap (option_and_then (framed rec w.ident)) (last_of body rec.bytes t w.bytes)
    ∙ cond-false (is_discarded w.ident (tail_of t) (length rec.bytes - 1)) None (Some f) taken) in (
      f,
      record {
        is_frame = is;
        has_key = w.ident_of.has_key;
        has_destination = w.ident_of.has_destination;
        part = record {
          within = w.within;
          priority = w.ident_of.has_priority;
          tid = ap (λ (a : Tail). a.tid) tail_is;
          start = ap (λ (a : Tail). a.start) tail_is;
          end = ap (λ (a : Tail). a.end) tail_is;
          toggle = ap (λ (a : Tail). a.toggle) tail_is;
          body = front_of body rec.bytes t w.bytes;
        };
      },
    )

some_inj : (f g : FrameOf) → Some f ≡ Some g → f ≡ g
some_inj f g e = cc

no_frame : (f : FrameOf) → None ≡ Some f → ⊥
no_frame f e = cc

-- a frame has the bus and the moment of its record
place_of : (rec : Record) (o : Option Ident) (b : Option ℕ) (f : FrameOf) → option_and_then (λ ident. option_and_then (framed rec ident) b) o ≡ Some f → (f.bus ≡ rec.bus) × (f.moment ≡ rec.moment)
place_of rec None b f e = absurd (no_frame f e)
place_of rec (Some ident) None f e = absurd (no_frame f e)
place_of rec (Some ident) (Some t) f e =
    let size = length rec.bytes - 1 in
    let whole : FrameOf = record { line = rec.line; moment = rec.moment; bus = rec.bus; ident = ident; tail = tail_of t; body = take size rec.bytes } in
    cond_both (is_discarded ident (tail_of t) size) None (Some whole) (λ a. a ≡ Some f → (f.bus ≡ rec.bus) × (f.moment ≡ rec.moment))
    (λ _ h. absurd (no_frame f h))
    (λ _ h. (let same = some_inj whole f h in (ap (λ (g : FrameOf). g.bus) (sym same), ap (λ (g : FrameOf). g.moment) (sym same)))) e

pub record_place : (rec : Record) (r : KeyRecord) → IsRecordOf rec r → (r.bus ≡ rec.bus) × (r.moment ≡ rec.moment)
record_place rec r a =
    let place = place_of rec (ident_of rec.ident) (last_byte rec.bytes) a.frame a.is_frame in
    (ap (λ (q : KeyRecord). q.bus) a.taken_apart ∙ place.0, ap (λ (q : KeyRecord). q.moment) a.taken_apart ∙ place.1)

pub same_length : (recs : List Record) (records : List KeyRecord) → AreRecordsOf recs records → length recs ≡ length records
same_length [] [] a = refl
same_length [] (r ∷ records) a = absurd a
same_length (rec ∷ recs) [] a = absurd a
same_length (rec ∷ recs) (r ∷ records) a = ap (λ n. suc n) (same_length recs records a.1)

order_of : (origin : ℕ → Pair) (now : Pair) (rec : Record) (r : KeyRecord) → r.bus ≡ rec.bus → (recs : List Record) (records : List KeyRecord) → AreRecordsOf recs records → EachRecord (λ e older. e.bus ≡ rec.bus → IsUpTo (origin (length older)) now) recs → AtEach (λ e older. e.bus ≡ r.bus → IsUpTo (origin (length older)) now) records
order_of origin now rec r b [] [] a x = tt
order_of origin now rec r b [] (q ∷ records) a x = absurd a
order_of origin now rec r b (e ∷ recs) [] a x = absurd a
order_of origin now rec r b (e ∷ recs) (q ∷ records) a x = (
  λ on. subst (λ n. IsUpTo (origin n) now) (same_length recs records a.1) (x.0 (sym (record_place e q a.0).0 ∙ (on ∙ b))),
  order_of origin now rec r b recs records a.1 x.1,
)

-- the record is the frame that the pair names
sent_of : (timeout : ℕ) (sent : Sent) (source : ℕ) (o : Pair) (rec : Record) (r : KeyRecord) → sent.key.source ≡ Some source → IsSentList sent → IsRecordOf rec r → IsWireSent timeout sent o rec → IsSent timeout sent o r
sent_of timeout sent source o rec r has list a w =
    let x = transfer_at sent o.j in
    let place = record_place rec r a in
    let seen = frames_are_seen sent.key source x (size_on sent rec.bus) o.i rec has (list.sizes rec.bus) (list.ranges o.j w.known).1 w.frame in
    let same : key_record seen.0 ≡ r = ap key_record (some_inj seen.0 a.frame (sym seen.1.is_frame ∙ a.is_frame)) ∙ sym a.taken_apart in
    record {
      known = w.known;
      frame = subst (λ c. IsFrame x (size_on sent c) o.i r) (sym place.0) (subst (IsFrame x (size_on sent rec.bus) o.i) same seen.1.part);
      since = subst (λ n. x.moment ≤ n) (sym place.1) w.since;
      until = subst (λ n. n < x.moment + timeout) (sym place.1) w.until;
    }

pub explained_by_fields : ExplainedByFields
explained_by_fields timeout sent source origin [] [] has list a w = tt
explained_by_fields timeout sent source origin [] (r ∷ records) has list a w = absurd a
explained_by_fields timeout sent source origin (rec ∷ recs) [] has list a w = absurd a
explained_by_fields timeout sent source origin (rec ∷ recs) (r ∷ records) has list a w =
    let n = same_length recs records a.1 in (
      record {
        is_sent = subst (λ k. IsSent timeout sent (origin k) r) n (sent_of timeout sent source (origin (length recs)) rec r has list a.0 w.0.is_sent);
        in_order = subst (λ k. AtEach (λ e older. e.bus ≡ r.bus → IsUpTo (origin (length older)) (origin k)) records) n (order_of origin (origin (length recs)) rec r (record_place rec r a.0).0 recs records a.1 w.0.in_order);
      },
      explained_by_fields timeout sent source origin recs records has list a.1 w.1,
    )
