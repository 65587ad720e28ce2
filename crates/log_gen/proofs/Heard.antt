-- What node 10 hears of a frame of the log.
use Rattle.std.proofs.Common.{◌≡◌, ℕ, ◌+◌, ◌<◌, ◌≤◌, Bool, true, false, cond, eqb, Some, None, List, refl, sym, ap, ◌∙◌, inl, inr, arith}
use Rattle.std.specs.Option.{option_and_then}
use Rattle.std.proofs.lemmas.Bool.{cond-true, eq-eqb, ne_eqb, cases_eq, not_from_false}
use Rattle.can_id.specs.Identifiers.{key_of as ident_key}
use Rattle.can_id.specs.declared.ident.Ident.{Ident}
use Rattle.can_id.specs.declared.ident.Ident.TheVariants.{Message, Anonymous, Service}
use Rattle.can_id.specs.declared.key.Key.{Key}
use Rattle.can_id.specs.declared.key.Kind.TheVariants.{Message as message, Request, Response}
use Rattle.tail_frame.specs.Frames.{FrameOf, frame_of, key_record}
use Rattle.rx_table.specs.Heard.{is_for, if_for, heard_as}
use Rattle.rx_table.specs.Keys.{bears_on}
use Rattle.rx_table.specs.Table.{keyed, with_source}
use Rattle.frag.specs.Wire.{last_frame}
use Rattle.frag.specs.Sent.{IsWireFrame}
use Rattle.frag.specs.Raw.{FramesAreSeen}
use Rattle.log_gen.specs.Rows.{key_of, record_of, source_of, transfer}
use Rattle.log_gen.specs.Laws.{session_of}
use Rattle.log_gen.specs.declared.row.Row.{Row}

other_kind : (b : Bool) → cond b Request Response ≡ message → ⊥
other_kind true e = cc
other_kind false e = cc

-- a frame of one of the four sources is for node 10
is_for_ten : (ident : Ident) (s : ℕ) → s < 4 → ident_key ident ≡ key_of s → is_for 10 ident ≡ true
is_for_ten (Message priority subject source) s l e =
    let of : Some source ≡ Some (s + 1) = ap (λ (k : Key). k.source) e in
    let is : source ≡ s + 1 = cc in not_from_false (eqb source 10) (ne_eqb source 10 (λ ten. omega arith))
is_for_ten (Anonymous priority subject pseudo) s l e = refl
is_for_ten (Service priority is_request service destination source) s l e =
    absurd (other_kind is_request (ap (λ (k : Key). k.kind) e))

-- a frame whose identifier has the key of a source
heard_frame : (s : ℕ) (f : FrameOf) → s < 4 → ident_key f.ident ≡ key_of s → option_and_then keyed (if_for 10 (Some f)) ≡ Some (record { key = session_of s; rec = key_record f })
heard_frame s f l e =
    ap (option_and_then keyed) (cond-true (is_for 10 f.ident) (Some f) None (is_for_ten f.ident s l e))
    ∙ ap (λ (k : Key). with_source k.kind k.port k.source f) e

module _ (payload : ℕ → List ℕ) where
  -- the record of a frame is that frame, by identifier and data
  pub is_wire : (r : Row) (past : List Row) → r.frame ≤ last_frame 8 (payload r.transfer) → IsWireFrame (key_of (source_of r.transfer)) (transfer payload r.transfer) 8 r.frame (record_of payload r past)
  is_wire r past l = record {
    within = l;
    ident = Message 4 100 (source_of r.transfer + 1);
    ident_of = record {
      ranges = (omega arith, omega arith, omega arith);
      has_key = refl;
      has_priority = refl;
      has_destination = refl;
    };
    identifier = refl;
    bytes = refl;
  }

  -- and is heard as a frame of its source's session
  pub is_heard : FramesAreSeen → (r : Row) (past : List Row) → r.frame ≤ last_frame 8 (payload r.transfer) → (f : FrameOf) × (heard_as 10 (record_of payload r past) ≡ Some (record { key = session_of (source_of r.transfer); rec = key_record f })) × (frame_of (record_of payload r past) ≡ Some f)
  is_heard law r past l =
      let s = source_of r.transfer in
      let rec = record_of payload r past in
      let seen = law (key_of s) (s + 1) (transfer payload r.transfer) 8 r.frame rec refl (inl refl) (omega arith) (is_wire r past l) in (
        seen.0,
        ap (λ o. option_and_then keyed (if_for 10 o)) seen.1.is_frame
            ∙ heard_frame s seen.0 (omega arith) seen.1.has_key,
        seen.1.is_frame,
      )

-- a frame of a source's session is of another's where the sources are the same
same_after : (a b : ℕ) → eqb (a + 1) (b + 1) ≡ eqb a b
same_after a b =
    elim (cases_eq a b) [
      | inl e ↦ eq-eqb (a + 1) (b + 1) (omega arith) ∙ sym (eq-eqb a b e)
      | inr n ↦ ne_eqb (a + 1) (b + 1) (λ e. n (omega arith)) ∙ sym (ne_eqb a b n)
    ]

pub bears : (s t : ℕ) (f : FrameOf) → bears_on (session_of s) (record { key = session_of t; rec = key_record f }) ≡ eqb t s
bears s t f = same_after t s
