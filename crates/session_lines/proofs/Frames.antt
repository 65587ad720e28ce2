-- The frames with a source that the records of a log are to a node, and their order.
use Rattle.std.proofs.Common.{◌≡◌, ◌∙◌, ℕ, ◌≤◌, ◌<◌, ◌-◌, List, [], ◌∷◌, length, take, Option, Some, None, refl, sym, ap, subst, arith}
use Rattle.std.proofs.lemmas.Bool.{cond_both}
use Rattle.std.proofs.lemmas.Option.{option_and_then_some}
use Rattle.std.specs.Option.{option_and_then}
use mathlib.Core.List.{reverse_aux}
use Rattle.can_id.specs.Identifiers.{ident_of, key_of as key_of_ident}
use Rattle.can_id.specs.declared.ident.Ident.{Ident}
use Rattle.can_id.specs.declared.key.Kind.{Kind}
use Rattle.tail_frame.specs.Frames.{FrameOf, frame_of, framed, key_record, is_discarded, tail_of, last_byte}
use Rattle.tail_frame.specs.Chains.{KeyRecord}
use Rattle.tail_frame.specs.declared.logged.Record.{Record}
use Rattle.rx_table.specs.Keys.{KeyedFrame, EachFrame, IsLog}
use Rattle.rx_table.specs.Table.{keyed, with_source, log_with}
use Rattle.frag.specs.Raw.{IsRecordOf}
use Rattle.rx_table.specs.Heard.{onto, frames_of}
use Rattle.frame_log.specs.Order.{IsAhead}
use Rattle.rx_table.specs.Heard.{is_for, if_for, frame_for, with_frame, frames}
use Rattle.rx_table.specs.Heard.{heard_as}

same_onto : (o : Option KeyedFrame) (log : List KeyedFrame) → onto o log ≡ log_with o log
same_onto None log = refl
same_onto (Some f) log = refl

onto_frame : (o : Option FrameOf) (log : List KeyedFrame) → onto (option_and_then keyed o) log ≡ with_frame o log
onto_frame None log = refl
onto_frame (Some f) log = same_onto (keyed f) log

-- these frames are those that the node's lines are of
pub frames_are : (node : ℕ) (past : List Record) → frames_of (heard_as node) past ≡ frames node past
frames_are node [] = refl
frames_are node (rec ∷ past) = onto_frame (frame_for node rec) (frames_of (heard_as node) past) ∙ ap (with_frame (frame_for node rec)) (frames_are node past)

some_inj : (f g : FrameOf) → Some f ≡ Some g → f ≡ g
some_inj f g e = cc

no_frame : (f : FrameOf) → None ≡ Some f → ⊥
no_frame f e = cc

if_for_some : (node : ℕ) (o : Option FrameOf) (f : FrameOf) → if_for node o ≡ Some f → o ≡ Some f
if_for_some node None f e = e
if_for_some node (Some g) f e = cond_both (is_for node g.ident) (Some g) None (λ (a : Option FrameOf). a ≡ Some f → Some g ≡ Some f) (λ _ h. h) (λ _ h. absurd (no_frame f h)) e

rec_of_source : (kind : Kind) (port : ℕ) (source : Option ℕ) (f : FrameOf) (k : KeyedFrame) → with_source kind port source f ≡ Some k → k.rec ≡ key_record f
rec_of_source kind port None f k e = absurd (let bad : None ≡ Some k = e in cc)
rec_of_source kind port (Some source) f k e =
    let made : KeyedFrame = record { key = record { kind = kind; port = port; source = source }; rec = key_record f } in
    let same : Some made ≡ Some k = e in
    let is : made ≡ k = cc in sym (ap (λ (t : KeyedFrame). t.rec) is)

-- and each is what its record says
pub are_records : (node : ℕ) (rec : Record) (k : KeyedFrame) → heard_as node rec ≡ Some k → IsRecordOf rec k.rec
are_records node rec k e =
    option_and_then_some keyed (frame_for node rec) k e (λ f is_for is_keyed. record {
      frame = f;
      is_frame = if_for_some node (frame_of rec) f is_for;
      taken_apart = let key = key_of_ident f.ident in rec_of_source key.kind key.port key.source f k is_keyed;
    })

-- a frame has the moment and the line of its record
place_in : (rec : Record) (o : Option Ident) (b : Option ℕ) (f : FrameOf) → option_and_then (λ ident. option_and_then (framed rec ident) b) o ≡ Some f → (f.moment ≡ rec.moment) × (f.line ≡ rec.line)
place_in rec None b f e = absurd (no_frame f e)
place_in rec (Some ident) None f e = absurd (no_frame f e)
place_in rec (Some ident) (Some t) f e =
    let size = length rec.bytes - 1 in
    let whole : FrameOf = record { line = rec.line; moment = rec.moment; bus = rec.bus; ident = ident; tail = tail_of t; body = take size rec.bytes } in
    cond_both (is_discarded ident (tail_of t) size) None (Some whole) (λ a. a ≡ Some f → (f.moment ≡ rec.moment) × (f.line ≡ rec.line))
    (λ _ h. absurd (no_frame f h))
    (λ _ h. (let same = some_inj whole f h in (ap (λ (g : FrameOf). g.moment) (sym same), ap (λ (g : FrameOf). g.line) (sym same)))) e

place_of : (rec : Record) (r : KeyRecord) → IsRecordOf rec r → (r.moment ≡ rec.moment) × (r.line ≡ rec.line)
place_of rec r a =
    let place = place_in rec (ident_of rec.ident) (last_byte rec.bytes) a.frame a.is_frame in
    (ap (λ (q : KeyRecord). q.moment) a.taken_apart ∙ place.0, ap (λ (q : KeyRecord). q.line) a.taken_apart ∙ place.1)

-- frames up to a moment and a line
abbrev UpTo : ℕ → ℕ → List KeyedFrame → Type 0
UpTo moment line log = EachFrame (λ e. (e.rec.moment ≤ moment) × (e.rec.line ≤ line)) log

later : (m n l k : ℕ) (log : List KeyedFrame) → m ≤ n → l ≤ k → UpTo m l log → UpTo n k log
later m n l k [] a b u = tt
later m n l k (f ∷ log) a b u =
    let h : f.rec.moment ≤ m = u.0.0 in
    let i : f.rec.line ≤ l = u.0.1 in ((omega arith, omega arith), later m n l k log a b u.1)

before : (m n l k : ℕ) (log : List KeyedFrame) → m ≤ n → l < k → UpTo m l log → EachFrame (λ e. (e.rec.moment ≤ n) × (e.rec.line < k)) log
before m n l k [] a b u = tt
before m n l k (f ∷ log) a b u =
    let h : f.rec.moment ≤ m = u.0.0 in
    let i : f.rec.line ≤ l = u.0.1 in ((omega arith, omega arith), before m n l k log a b u.1)

-- a log with one more record
one_more : (m l : ℕ) (rec : Record) (log : List KeyedFrame) (o : Option KeyedFrame) → ((k : KeyedFrame) → o ≡ Some k → IsRecordOf rec k.rec) → m ≤ rec.moment → l < rec.line → IsLog log → UpTo m l log
    → IsLog (onto o log) × UpTo rec.moment rec.line (onto o log)
one_more m l rec log None is a b s u = (s, later m rec.moment l rec.line log a (omega (arith, b)) u)
one_more m l rec log (Some k) is a b s u =
    let place = place_of rec k.rec (is k refl) in
    let moment : k.rec.moment ≡ rec.moment = place.0 in
    let line : k.rec.line ≡ rec.line = place.1 in
    ((before m k.rec.moment l k.rec.line log (omega arith) (omega arith) u, s), ((omega arith, omega arith), later m rec.moment l rec.line log a (omega (arith, b)) u))

more : (node m l : ℕ) (past rest : List Record) → IsAhead m l rest → IsLog (frames_of (heard_as node) past) → UpTo m l (frames_of (heard_as node) past) → IsLog (frames_of (heard_as node) (reverse_aux rest past))
more node m l past [] a s u = s
more node m l past (rec ∷ rest) a s u =
    let t = one_more m l rec (frames_of (heard_as node) past) (heard_as node rec) (are_records node rec) a.0 a.1 s u in
    more node rec.moment rec.line (rec ∷ past) rest a.2 t.0 t.1

-- the frames of records in order are in order
pub in_order : (node : ℕ) (recs : List Record) → IsAhead 0 0 recs → IsLog (frames node (reverse_aux recs []))
in_order node recs a = subst IsLog (frames_are node (reverse_aux recs [])) (more node 0 0 [] recs a tt tt)
