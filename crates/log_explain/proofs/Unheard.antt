-- What is told of a record that is no frame for the node.
use Rattle.std.proofs.Common.{◌≡◌, ◌∙◌, ℕ, Bool, true, false, cond, not, ◌&&◌, eqb, List, ◌∷◌, Option, Some, None, Result, Ok, Err, refl, sym, ap}
use Rattle.std.specs.Prelude.{is_some}
use Rattle.std.specs.Result.{result_err, result_ok}
use Rattle.can_id.specs.declared.ident.Ident.{Ident}
use Rattle.can_id.specs.declared.ident.Ident.TheVariants as ident
use Rattle.redundancy.specs.Force.{force, heard}
use Rattle.tail_frame.specs.Chains.{KeyRecord, chain_bytes, follows, tip}
use Rattle.tail_frame.specs.Frames.{FrameOf}
use Rattle.tail_frame.specs.declared.discard.Discard.{Discard}
use Rattle.transfer_crc.specs.Crc.{crc_of}
use Rattle.rx_table.specs.Heard.{frames, if_for, is_for}
use Rattle.rx_table.specs.Keys.{KeyedFrame, history}
use Rattle.rx_table.specs.Ports.{Port, is_admitted}
use Rattle.rx_table.specs.Received.{Run, begins, received}
use Rattle.rx_table.specs.Table.{keyed, port_on}
use Rattle.log_explain.specs.ReasonLaws.{TellsFrames, discarded_by, is_unheard}
use Rattle.log_explain.specs.Reads.{read_of}
use Rattle.log_explain.specs.Reasons.{Listens, aside, begun_reason, ended, from, last_line, no_change, of_heard, of_key, of_port, of_read, of_run, on_port, or_on_port, running, stray, unheard}
use Rattle.log_explain.specs.declared.reasons.reason.Change.{Change}
use Rattle.log_explain.specs.declared.reasons.reason.Reason.{Reason}
use Rattle.log_explain.specs.declared.reasons.reason.Reason.TheVariants.{BadCrc, Begun, Copy, Delivered, Elsewhere, NoSession, Own, StrayNone, StrayTid, StrayToggle, Taken, Unknown}
use Rattle.log_explain.proofs.Discards.{reads_each}

-- a reason of a frame that is for the node
record IsHeard (reason : Reason) : Type 0 where
  unheard : is_unheard reason ≡ false
  rule : discarded_by reason ≡ None

both : (b : Bool) (x y : Reason) → IsHeard x → IsHeard y → IsHeard (cond b x y)
both true x y p q = p
both false x y p q = q

-- ---- a frame on a port

heard_run : (r : KeyRecord) (o : Option Run) → IsHeard (of_run crc_of r o)
heard_run r None = record { unheard = refl; rule = refl }
heard_run r (Some run) =
    let a = run.first in
    both (follows a (tip a run.since) r) (cond r.end (ended crc_of r run) (Taken a.line)) (stray r run)
    (both r.end (ended crc_of r run) (Taken a.line)
    (both (eqb (crc_of (chain_bytes a (r ∷ run.since))) 0) (Delivered a.line no_change) (BadCrc a.line) (record { unheard = refl; rule = refl }) (record { unheard = refl; rule = refl }))
    (record { unheard = refl; rule = refl }))
    (both (tip a run.since).end StrayNone (cond (eqb r.tid a.tid) (StrayToggle a.line) (StrayTid a.tid)) (record { unheard = refl; rule = refl })
    (both (eqb r.tid a.tid) (StrayToggle a.line) (StrayTid a.tid) (record { unheard = refl; rule = refl }) (record { unheard = refl; rule = refl })))

heard_off : (r : KeyRecord) (past : List KeyRecord) (o : Option ℕ) → IsHeard (unheard r past o)
heard_off r past None = record { unheard = refl; rule = refl }
heard_off r past (Some bus) = record { unheard = refl; rule = refl }

heard_key : (timeout : ℕ) (r : KeyRecord) (past : List KeyRecord) → IsHeard (of_key crc_of timeout r past)
heard_key timeout r past =
    let got = received crc_of timeout past in
    let change : Change = record { over = running got.begun; from = from r past (force timeout past) } in
    both (heard timeout r past) (of_heard crc_of timeout r past got) (unheard r past (force timeout past))
    (both (begins timeout r past got.delivered) (begun_reason r change) (cond r.start (Copy (last_line got.delivered)) (of_run crc_of r got.begun))
    (both r.end (Delivered r.line change) (Begun change) (record { unheard = refl; rule = refl }) (record { unheard = refl; rule = refl }))
    (both r.start (Copy (last_line got.delivered)) (of_run crc_of r got.begun) (record { unheard = refl; rule = refl }) (heard_run r got.begun)))
    (heard_off r past (force timeout past))

heard_source : (timeout : ℕ) (p : Port) (f : FrameOf) (log : List KeyedFrame) (o : Option KeyedFrame) → IsHeard (on_port timeout p f log o)
heard_source timeout p f log None = record { unheard = refl; rule = refl }
heard_source timeout p f log (Some k) =
    both (is_admitted p k log) (of_key crc_of timeout k.rec (history k.key log)) (cond k.rec.start NoSession Unknown) (heard_key timeout k.rec (history k.key log))
    (both k.rec.start NoSession Unknown (record { unheard = refl; rule = refl }) (record { unheard = refl; rule = refl }))

heard_port : (timeout : ℕ) (f : FrameOf) (log : List KeyedFrame) (o : Option Port) → IsHeard (of_port timeout f log o)
heard_port timeout f log None = record { unheard = refl; rule = refl }
heard_port timeout f log (Some p) = heard_source timeout p f log (keyed f)

-- ---- a frame

module _ (w : Listens) (log : List KeyedFrame) (f : FrameOf) where
  abbrev by_aside : Option Reason → Reason
  by_aside o = or_on_port w f log o

  on : IsHeard (of_port w.timeout f log (port_on w.ports f))
  on = heard_port w.timeout f log (port_on w.ports f)

  -- it is told as heard exactly where it is for the node, and in no case as discarded
  record IsTold (mine : Bool) (o : Option Reason) : Type 0 where
    unheard : is_unheard (by_aside o) ≡ not mine
    rule : discarded_by (by_aside o) ≡ None

  told_by : (i : Ident) → IsTold (is_for w.own i) (aside w.own i)
  told_by (ident.Message priority subject source) = go (eqb source w.own)
    where
      go : (b : Bool) → IsTold (not b) (cond b (Some Own) None)
      go true = record { unheard = refl; rule = refl }
      go false = record { unheard = on.unheard; rule = on.rule }
  told_by (ident.Anonymous priority subject pseudo) = record { unheard = on.unheard; rule = on.rule }
  told_by (ident.Service priority is_request service destination source) = go (eqb source w.own) (eqb destination w.own)
    where
      go : (a b : Bool) → IsTold (not a && b) (cond a (Some Own) (cond b None (Some (Elsewhere destination))))
      go true b = record { unheard = refl; rule = refl }
      go false true = record { unheard = on.unheard; rule = on.rule }
      go false false = record { unheard = refl; rule = refl }

-- ---- a record

module _ (w : Listens) (log : List KeyedFrame) where
  abbrev For : Result FrameOf Discard → Option FrameOf
  For r = if_for w.own (result_ok r)

  some_if : (b : Bool) (f : FrameOf) → is_some (cond b (Some f) None) ≡ b
  some_if true f = refl
  some_if false f = refl

  unheard_read : (r : Result FrameOf Discard) → is_unheard (of_read w log r) ≡ not (is_some (For r))
  unheard_read (Err why) = refl
  unheard_read (Ok f) = (told_by w log f f.ident).unheard ∙ ap not (sym (some_if (is_for w.own f.ident) f))

  rule_read : (r : Result FrameOf Discard) → discarded_by (of_read w log r) ≡ result_err r
  rule_read (Err why) = refl
  rule_read (Ok f) = (told_by w log f f.ident).rule

pub tells_frames : TellsFrames
tells_frames = record {
  discarded = λ w rec past. rule_read w (frames w.own past) (read_of rec) ∙ sym (reads_each.rules rec);
  unheard = λ w rec past.
      unheard_read w (frames w.own past) (read_of rec)
      ∙ ap (λ (o : Option FrameOf). not (is_some (if_for w.own o))) (sym (reads_each.frames rec));
}
