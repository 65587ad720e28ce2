-- Lines on frames that left have one text in each form.
use Rattle.std.proofs.Common.{◌≡◌, ◌∙◌, ℕ, zero, suc, ◌+◌, List, [], ◌∷◌, ◌++◌, map, Option, refl, ap, ap₂, subst, append_assoc}
use Rattle.std.specs.Prelude.{⊤}
use Rattle.value_json.specs.Pieces.{Spells as SpellsPieces}
use Rattle.tx_queue.specs.declared.frame.OutFrame.{OutFrame}
use Rattle.node_plan.specs.declared.plan.BusPlan.{BusPlan}
use Rattle.node_plan.specs.declared.plan.Plan.{Plan}
use Rattle.report_lines.specs.declared.line.Line.{Line}
use Rattle.report_lines.specs.declared.line.Line.TheVariants.{Rx, NoSession, Tx, Full}
use Rattle.node_core.specs.Queues.{Queue, bus_lines, drained, leave, leaving, leaving_from, rounds, tx_line, waiting}
use Rattle.report_lines.specs.declared.numbers.Numbers.{Numbers}
use Rattle.node_core.specs.Keeps.{keeps}
use Rattle.node_core.specs.Steps.{Kept, Met, Step, emptying, end_numbers, kept, moment_of, steps}
use Rattle.node_core.specs.Types.{type_on}
use Rattle.json_lines.specs.Text.{json_text, leaving_json, tx_json}
use Rattle.node_run.specs.declared.log.clock.Clock.{Clock}
use Rattle.node_run.specs.Forms.{Adds, Form, Text, Json, Spells, Style, Types, last_line, leaving_in, leaving_text}
use Rattle.node_run.specs.Goes.{State}
use Rattle.node_run.specs.Hears.{Hears}

-- each of these lines is on a frame that left
abbrev AreTx : List Line → Type 0
AreTx [] = ⊤
AreTx (Tx tx ∷ lines) = AreTx lines
AreTx (_ ∷ lines) = ⊥

tx_append : (a b : List Line) → AreTx a → AreTx b → AreTx (a ++ b)
tx_append [] b h k = k
tx_append (Rx rx ∷ a) b h k = absurd h
tx_append (NoSession refused ∷ a) b h k = absurd h
tx_append (Tx tx ∷ a) b h k = tx_append a b h k
tx_append (Full full ∷ a) b h k = absurd h

tx_frames : (moment bus : ℕ) (fs : List OutFrame) → AreTx (map (tx_line moment bus) fs)
tx_frames moment bus [] = tt
tx_frames moment bus (f ∷ fs) = tx_frames moment bus fs

tx_from : (moment bus : ℕ) (qs : List Queue) → AreTx (leaving_from moment bus qs)
tx_from moment bus [] = tt
tx_from moment bus (q ∷ qs) = tx_append (bus_lines moment bus q) (leaving_from moment (bus + 1) qs) (tx_frames moment bus (leave q.rate q.waiting)) (tx_from moment (bus + 1) qs)

tx_rounds : (n moment : ℕ) (qs : List Queue) → AreTx (rounds n moment qs)
tx_rounds zero moment qs = tt
tx_rounds (suc n) moment qs = tx_append (leaving moment qs) (rounds n moment (map drained qs)) (tx_from moment 0 qs) (tx_rounds n moment (map drained qs))

tx_emptying : (plan : Plan) (all : List Step) → AreTx (emptying plan all)
tx_emptying plan [] = tt
tx_emptying plan (s ∷ past) = let qs = (kept plan (s ∷ past)).queues in tx_rounds (waiting qs) (moment_of s) qs

-- a text of them is that of frames that left
json_leaving : (types : Types) (buses : List BusPlan) (lines : List Line) (said : List ℕ) → AreTx lines → SpellsPieces (json_text types buses lines) said → said ≡ leaving_json buses lines
json_leaving types buses [] said is h = h
json_leaving types buses (Rx rx ∷ lines) said is h = absurd is
json_leaving types buses (NoSession refused ∷ lines) said is h = absurd is
json_leaving types buses (Tx tx ∷ lines) said is (rest, e, h) = e ∙ ap (λ t. tx_json buses tx ++ t) (json_leaving types buses lines rest is h)
json_leaving types buses (Full full ∷ lines) said is h = absurd is

said_leaving : (form : Form) (types : Types) (buses : List BusPlan) (lines : List Line) (said : List ℕ) → AreTx lines → Spells form types buses lines said → said ≡ leaving_in form buses lines
said_leaving Text types buses lines said is h = h
said_leaving Json types buses lines said is h = json_leaving types buses lines said is h

-- and that is one
json_spelled : (types : Types) (buses : List BusPlan) (lines : List Line) → AreTx lines → SpellsPieces (json_text types buses lines) (leaving_json buses lines)
json_spelled types buses [] is = refl
json_spelled types buses (Rx rx ∷ lines) is = absurd is
json_spelled types buses (NoSession refused ∷ lines) is = absurd is
json_spelled types buses (Tx tx ∷ lines) is = (leaving_json buses lines, refl, json_spelled types buses lines is)
json_spelled types buses (Full full ∷ lines) is = absurd is

tx_spelled : (form : Form) (types : Types) (buses : List BusPlan) (lines : List Line) → AreTx lines → Spells form types buses lines (leaving_in form buses lines)
tx_spelled Text types buses lines is = refl
tx_spelled Json types buses lines is = json_spelled types buses lines is

-- so it is with what leaves behind the last step
pub leaving_is : (form : Form) (types : Types) (buses : List BusPlan) (plan : Plan) (all : List Step) (said : List ℕ) → Spells form types buses (emptying plan all) said → said ≡ leaving_in form buses (emptying plan all)
leaving_is form types buses plan all said h = said_leaving form types buses (emptying plan all) said (tx_emptying plan all) h

pub leaving_spelled : (form : Form) (types : Types) (buses : List BusPlan) (plan : Plan) (all : List Step) → Spells form types buses (emptying plan all) (leaving_in form buses (emptying plan all))
leaving_spelled form types buses plan all = tx_spelled form types buses (emptying plan all) (tx_emptying plan all)

-- a run that heard records has that waiting
pub leaving_heard : (plan : Plan) (before : Option (List Line)) (s : State) (clock : Clock) (past : List Met) → Hears plan before s clock past → let qs = (keeps s.node).queues in rounds (waiting qs) clock.last qs ≡ emptying plan (steps plan past)
leaving_heard plan before s clock past h = ap (λ (k : Kept). rounds (waiting k.queues) clock.last k.queues) h.runs.keeps_are ∙ h.clock_is.last

-- what is said at the end: the text of what leaves, and the last line
module _ (s b : Style) (same : b ≡ s) (plan : Plan) (all : List Step) (before mid after : List ℕ) where
  leaving_adds : (lines : List Line) → lines ≡ emptying plan all → Adds b (type_on plan) lines before mid → mid ≡ before ++ leaving_text s (emptying plan all)
  leaving_adds lines e h =
      let adds = subst (λ (ls : List Line). Adds b (type_on plan) ls before mid) e h in
      adds.is ∙ (ap (λ t. before ++ t) (leaving_is b.form (type_on plan) b.buses plan all adds.said adds.spelled) ∙ ap (λ (y : Style). before ++ leaving_text y (emptying plan all)) same)

  pub ends_with : (lines : List Line) → lines ≡ emptying plan all → Adds b (type_on plan) lines before mid → (n : Numbers) → n ≡ end_numbers plan all → (now : Style) → now ≡ b → after ≡ mid ++ last_line now.form n
      → after ≡ before ++ (leaving_text s (emptying plan all) ++ last_line s.form (end_numbers plan all))
  ends_with lines e h n is now stays last =
      let words = ap₂ (λ (y : Style) m. last_line y.form m) (stays ∙ same) is in
      last ∙ (ap₂ (λ x y. x ++ y) (leaving_adds lines e h) words ∙ append_assoc before (leaving_text s (emptying plan all)) (last_line s.form (end_numbers plan all)))
