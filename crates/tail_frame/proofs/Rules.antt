-- A frame by the rule that it breaks, if it breaks one.
use Rattle.std.proofs.Common.{◌≡◌, ◌∙◌, ◌-◌, ℕ, List, Option, Some, None, is_some, length, take, sym, ap}
use Rattle.std.proofs.lemmas.Bool.{cond-false, cond-true}
use Rattle.can_id.specs.declared.ident.Ident.{Ident}
use Rattle.tail_frame.specs.Frames.{FrameOf, broken_by, framed, is_discarded, tail_of}
use Rattle.tail_frame.specs.declared.discard.Discard.{Discard}
use Rattle.tail_frame.specs.declared.logged.Record.{Record}
use Rattle.tail_frame.specs.declared.tail.Tail.{Tail}

module _ (rec : Record) (ident : Ident) (byte : ℕ) where
  abbrev frame_with : Tail → List ℕ → FrameOf
  frame_with tail bytes = record { line = rec.line; moment = rec.moment; bus = rec.bus; ident = ident; tail = tail; body = take (length bytes - 1) bytes }

  module _ (tail : Tail) (bytes : List ℕ) (why : Option Discard) (t : tail ≡ tail_of byte) (b : bytes ≡ rec.bytes) (w : why ≡ broken_by ident tail (length bytes - 1)) where
    pub broken : why ≡ broken_by ident (tail_of byte) (length rec.bytes - 1)
    broken = w ∙ (ap (λ (u : Tail). broken_by ident u (length bytes - 1)) t ∙ ap (λ (s : List ℕ). broken_by ident (tail_of byte) (length s - 1)) b)

    -- it breaks none
    pub is_frame : why ≡ None → Some (frame_with tail bytes) ≡ framed rec ident byte
    is_frame n =
        (λ i. Some (frame_with (t i) (b i)))
        ∙ sym (cond-false (is_discarded ident (tail_of byte) (length rec.bytes - 1)) None (Some (frame_with (tail_of byte) rec.bytes)) (ap (λ (o : Option Discard). is_some o) (sym broken ∙ n)))

    -- it breaks one
    pub no_frame : (rule : Discard) → why ≡ Some rule → None ≡ framed rec ident byte
    no_frame rule s =
        sym (cond-true (is_discarded ident (tail_of byte) (length rec.bytes - 1)) None (Some (frame_with (tail_of byte) rec.bytes)) (ap (λ (o : Option Discard). is_some o) (sym broken ∙ s)))
