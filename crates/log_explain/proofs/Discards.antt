-- A record is read as the frame that it is, or as the first rule that it breaks.
use Rattle.std.proofs.Common.{◌≡◌, ◌∙◌, ℕ, ◌-◌, length, take, Option, Some, None, Result, Ok, Err, cond, refl, sym, ap}
use Rattle.std.specs.Prelude.{is_some}
use Rattle.std.specs.Option.{option_and_then}
use Rattle.std.specs.Result.{result_err, result_ok}
use Rattle.can_id.specs.Identifiers.{ident_of}
use Rattle.can_id.specs.declared.ident.Ident.{Ident}
use Rattle.tail_frame.specs.Frames.{FrameOf, broken_by, discard_at, discard_by, discard_of, frame_of, framed, last_byte, tail_of}
use Rattle.tail_frame.specs.declared.discard.Discard.{Discard}
use Rattle.tail_frame.specs.declared.logged.Record.{Record}
use Rattle.log_explain.specs.ReasonLaws.{ReadsEach}
use Rattle.log_explain.specs.Reads.{frame_or, read_at, read_by, read_of}

frame_is : (f : FrameOf) (o : Option Discard) → cond (is_some o) None (Some f) ≡ result_ok (frame_or f o)
frame_is f None = refl
frame_is f (Some why) = refl

rule_is : (f : FrameOf) (o : Option Discard) → o ≡ result_err (frame_or f o)
rule_is f None = refl
rule_is f (Some why) = refl

module _ (rec : Record) where
  abbrev whole : Ident → ℕ → FrameOf
  whole i byte = record { line = rec.line; moment = rec.moment; bus = rec.bus; ident = i; tail = tail_of byte; body = take (length rec.bytes - 1) rec.bytes }

  frame_at : (i : Ident) (byte : Option ℕ) → option_and_then (framed rec i) byte ≡ result_ok (read_at rec i byte)
  frame_at i None = refl
  frame_at i (Some byte) = frame_is (whole i byte) (broken_by i (tail_of byte) (length rec.bytes - 1))

  frame_by : (o : Option Ident) → option_and_then (λ i. option_and_then (framed rec i) (last_byte rec.bytes)) o ≡ result_ok (read_by rec o)
  frame_by None = refl
  frame_by (Some i) = frame_at i (last_byte rec.bytes)

  rule_at : (i : Ident) (byte : Option ℕ) → discard_at rec i byte ≡ result_err (read_at rec i byte)
  rule_at i None = refl
  rule_at i (Some byte) = rule_is (whole i byte) (broken_by i (tail_of byte) (length rec.bytes - 1))

  rule_by : (o : Option Ident) → discard_by rec o ≡ result_err (read_by rec o)
  rule_by None = refl
  rule_by (Some i) = rule_at i (last_byte rec.bytes)

pub reads_each : ReadsEach
reads_each = record {
  frames = λ rec. frame_by rec (ident_of rec.ident);
  rules = λ rec. rule_by rec (ident_of rec.ident);
}

ok_is : (r : Result FrameOf Discard) (f : FrameOf) → result_ok r ≡ Some f → r ≡ Ok f
ok_is (Ok g) f e = let same : g ≡ f = cc in ap Ok same
ok_is (Err why) f e = absurd cc

err_is : (r : Result FrameOf Discard) (why : Discard) → result_err r ≡ Some why → r ≡ Err why
err_is (Ok g) why e = absurd cc
err_is (Err other) why e = let same : other ≡ why = cc in ap Err same

pub read_frame : (rec : Record) (f : FrameOf) → frame_of rec ≡ Some f → read_of rec ≡ Ok f
read_frame rec f e = ok_is (read_of rec) f (sym (reads_each.frames rec) ∙ e)

pub read_rule : (rec : Record) (why : Discard) → discard_of rec ≡ Some why → read_of rec ≡ Err why
read_rule rec why e = err_is (read_of rec) why (sym (reads_each.rules rec) ∙ e)

pub frame_read : (rec : Record) (f : FrameOf) → read_of rec ≡ Ok f → frame_of rec ≡ Some f
frame_read rec f e = reads_each.frames rec ∙ ap result_ok e

pub no_frame_read : (rec : Record) (why : Discard) → read_of rec ≡ Err why → frame_of rec ≡ None
no_frame_read rec why e = reads_each.frames rec ∙ ap result_ok e
