-- Lines with their text.
use Rattle.std.proofs.Common.{ℕ, List, [], ◌∷◌, Some, None, inl, refl, ap, arith}
use Rattle.std.specs.Prelude.{codes, slice_index, IsTrue, ◌≢◌}
use Rattle.std.specs.Fmt.{digits}
use Rattle.std.proofs.lemmas.List.Elements.{All-cons, All-nil}
use Rattle.std.proofs.lemmas.List.Kept.{AllPairs-cons}
use Rattle.can_id.specs.declared.key.Kind.TheVariants.{Message}
use Rattle.node_plan.specs.Names.{is_bus_name}
use Rattle.tail_frame.specs.declared.discard.Discard.TheVariants.{Empty}
use Rattle.log_explain.specs.declared.reasons.reason.Reason.TheVariants.{Begun, Delivered, Discarded}
use Rattle.session_lines.proofs.Cuts.{unlike}
use Rattle.log_explain.specs.declared.line.FrameLine.{FrameLine}
use Rattle.log_explain.specs.declared.line.Transfer.{Transfer}
use Rattle.log_explain.specs.Sessions.{Session}
use Rattle.explain_laws.specs.Text.{AreLines, AreNames, AtEnd, Line, OnRecord, OnSession}
use Rattle.explain_laws.specs.Text as text

abbrev buses : List (List ℕ)
buses = codes "can0" ∷ codes "can1" ∷ []

abbrev transfer : Transfer
transfer = record { key = record { kind = Message; port = 1234; source = Some 42 }; tid = 7 }

abbrev begun : FrameLine
begun = record {
  line = 1;
  moment = 250_000;
  bus = 0;
  transfer = Some transfer;
  reason = Begun (record { over = Some 12; from = Some (record { bus = 1; micros = 300_000 }) });
}

abbrev empty : FrameLine
empty = record { line = 3; moment = 12_000_001; bus = 1; transfer = None; reason = Discarded Empty }

abbrev ended : FrameLine
ended = record { line = 4; moment = 12_000_020; bus = 0; transfer = Some transfer; reason = Delivered 1 (record { over = None; from = None }) }

abbrev session : Session
session = record {
  key = record { kind = Message; port = 1234; source = 42 };
  bus = Some 0;
  tally = record { delivered = 1; badcrc = 0; copies = 0; standby = 0; stray = 0; abandoned = 1; handovers = 1; gaps = 0; last = Some (record { tid = 7; line = 4 }) };
}

abbrev all : List Line
all = OnRecord begun ∷ OnRecord empty ∷ OnRecord ended ∷ OnSession session ∷ AtEnd 3 1 ∷ []

abbrev P : List ℕ → Type 0
P name = IsTrue (is_bus_name name)

abbrev R : List ℕ → List ℕ → Type 0
R a b = a ≢ b

named : AreNames buses
named = record {
  words = All-cons P (codes "can0") (codes "can1" ∷ []) refl (All-cons P (codes "can1") [] refl (All-nil P));
  differ = AllPairs-cons R (codes "can0") (codes "can1" ∷ []) (All-cons (R (codes "can0")) (codes "can1") [] (λ e. absurd (unlike 48 49 (inl (omega arith)) (ap (λ (t : List ℕ). slice_index t 3) e))) (All-nil (R (codes "can0"))))
      (AllPairs-cons R (codes "can1") [] (All-nil (R (codes "can1"))) (λ i j d less low. absurd (omega arith)));
}

are : AreLines buses all
are = (
  record {
    number = omega arith;
    moment = omega arith;
    bus = omega arith;
    transfer = record { port = omega arith; source = omega arith; tid = omega arith };
    reason = record { over = omega arith; from = record { bus = omega arith; micros = omega arith } };
  },
  (
    record { number = omega arith; moment = omega arith; bus = omega arith; transfer = tt; reason = tt },
    (
      record {
        number = omega arith;
        moment = omega arith;
        bus = omega arith;
        transfer = record { port = omega arith; source = omega arith; tid = omega arith };
        reason = (omega arith, record { over = tt; from = tt });
      },
      (
        record {
          port = omega arith;
          source = omega arith;
          bus = omega arith;
          tally = record { delivered = omega arith; badcrc = omega arith; copies = omega arith; standby = omega arith; stray = omega arith; abandoned = omega arith; handovers = omega arith; gaps = omega arith };
          last_is = refl;
        },
        (omega arith, omega arith, tt),
      ),
    ),
  ),
)

pub text_is : text.Example
unfolding digits
text_is = record { names = buses; lines = all; named = named; are = are; text_is = refl }
