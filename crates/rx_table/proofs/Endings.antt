-- What ends at each record: what is delivered grows by it, and an outcome tells it.
use Rattle.std.proofs.Common.{◌≡◌, ◌∙◌, ℕ, suc, Bool, true, false, cond, ◌&&◌, eqb, List, [], ◌∷◌, length, Option, Some, None, refl, sym, ap, arith}
use Rattle.tail_frame.specs.Chains.{KeyRecord, chain_bytes, closes_at, without_crc}
use Rattle.rx_table.specs.Received.{Delivery, Run, Got, begins, alone, not_begun, received}
use Rattle.rx_session.specs.Session.{Ignored, Held, BadCrc, Delivered}
use Rattle.rx_table.specs.Steps.{of_run, add, delivery_at}
use Rattle.rx_table.specs.Laws.{DeliveredStep, OutcomeTells}

add_cond : (b : Bool) (d : Delivery) (ds : List Delivery) → cond b (d ∷ ds) ds ≡ add (cond b (Some d) None) ds
add_cond true d ds = refl
add_cond false d ds = refl

run_step : (crc : List ℕ → ℕ) (timeout : ℕ) (r : KeyRecord) (past : List KeyRecord) (begun : Option Run) (ds : List Delivery) → (not_begun crc timeout r past begun ds).delivered ≡ add (of_run crc timeout r past begun) ds
run_step crc timeout r past None ds = refl
run_step crc timeout r past (Some run) ds = add_cond (closes_at run.first run.since r && eqb (crc (chain_bytes run.first (r ∷ run.since))) 0) (record { first = run.first; last = r; place = length past; content = without_crc (chain_bytes run.first (r ∷ run.since)) }) ds

both : (b : Bool) (x y : Got) (u v : Option Delivery) (ds : List Delivery) → x.delivered ≡ add u ds → y.delivered ≡ add v ds → (cond b x y).delivered ≡ add (cond b u v) ds
both true x y u v ds p q = p
both false x y u v ds p q = q

pub delivered_step : DeliveredStep
delivered_step crc timeout r past =
    let g = received crc timeout past in
    let d : Delivery = record { first = r; last = r; place = length past; content = r.body } in
    both (begins timeout r past g.delivered) (record { begun = Some (record { first = r; since = [] }); delivered = alone crc timeout r past g.delivered }) (not_begun crc timeout r past g.begun g.delivered) (cond r.end (Some d) None) (of_run crc timeout r past g.begun) g.delivered
    (add_cond r.end d g.delivered) (run_step crc timeout r past g.begun g.delivered)

none : (o : Option Delivery) (ds : List Delivery) → add o ds ≡ ds → o ≡ None
none None ds e = refl
none (Some d) ds e = let n : suc (length ds) ≡ length ds = ap length e in absurd (omega arith)

some : (o : Option Delivery) (d : Delivery) (ds : List Delivery) → add o ds ≡ d ∷ ds → o ≡ Some d
some None d ds e = let n : length ds ≡ suc (length ds) = ap length e in absurd (omega arith)
some (Some c) d ds e = cc

pub outcome_tells : OutcomeTells
outcome_tells crc timeout extent r past Ignored x = none (delivery_at crc timeout r past) (received crc timeout past).delivered (sym (delivered_step crc timeout r past) ∙ x.0)
outcome_tells crc timeout extent r past Held x = none (delivery_at crc timeout r past) (received crc timeout past).delivered (sym (delivered_step crc timeout r past) ∙ x.0)
outcome_tells crc timeout extent r past BadCrc x = none (delivery_at crc timeout r past) (received crc timeout past).delivered (sym (delivered_step crc timeout r past) ∙ x.0)
outcome_tells crc timeout extent r past (Delivered bus priority tid first last moment payload) x =
    (x.0, some (delivery_at crc timeout r past) x.0 (received crc timeout past).delivered (sym (delivered_step crc timeout r past) ∙ x.1), x.3, x.4, x.5, x.6, x.7, x.8, x.9)
