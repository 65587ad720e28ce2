-- Events of a log, of which some came.
use Rattle.std.proofs.Common.{◌≡◌, ◌∙◌, ℕ, List, [], ◌∷◌, ◌++◌, map, refl, sym, ap, subst, append_assoc, append-nil}
use mathlib.Core.List.{reverse_aux}
use Rattle.tail_frame.specs.declared.logged.Record.{Record}
use Rattle.log_loop.specs.Gone.{FirstOf}
use Rattle.log_loop.specs.Met.{Comes}
use Rattle.log_loop.specs.Voice.{Voice, AreEventsOf, MayCome, said}

-- all events are the first of themselves
pub first_all : {E : Type 0} (events : List E) → FirstOf events events
first_all events = record { newer = []; parts = refl }

-- the first of the first are the first of all
pub first_of : {E : Type 0} (events past newer came : List E) → FirstOf events past → past ≡ newer ++ came → FirstOf events came
first_of events past newer came f e = record { newer = f.newer ++ newer; parts = f.parts ∙ (ap (λ t. f.newer ++ t) e ∙ sym (append_assoc f.newer newer came)) }

-- what is said on the first events is said first
pub said_first : {E : Type 0} (v : Voice E) (newer past : List E) → (more : List ℕ) × (said v (newer ++ past) ≡ said v past ++ more)
said_first v [] past = ([], sym (append-nil (said v past)))
said_first v (event ∷ newer) past =
    let i = said_first v newer past in
    let last = v.step event (newer ++ past) in (i.0 ++ last, ap (λ t. t ++ last) i.1 ∙ append_assoc (said v past) i.0 last)

-- the first events are those of these records
pub record Oldest {E : Type 0} (v : Voice E) (past : List E) (records : List Record) : Type 0 where
  pub newer : List E
  pub came : List E
  pub parts : past ≡ newer ++ came
  pub records_are : map v.record_of came ≡ records

-- also before a newer one
older : {E : Type 0} (v : Voice E) (past : List E) (records : List Record) (event : E) → Oldest v past records → Oldest v (event ∷ past) records
older v past records event o = record { newer = event ∷ o.newer; came = o.came; parts = ap (λ t. event ∷ t) o.parts; records_are = o.records_are }

pub oldest : {E : Type 0} (v : Voice E) (past : List E) (newer records : List Record) → map v.record_of past ≡ newer ++ records → Oldest v past records
oldest v past [] records e = record { newer = []; came = past; parts = refl; records_are = e }
oldest v [] (rec ∷ newer) records e = absurd cc
oldest v (event ∷ past) (rec ∷ newer) records e =
    let tails : map v.record_of past ≡ newer ++ records = cc in older v past records event (oldest v past newer records tails)

-- events of records that follow may come behind those that came
pub record Followed {E : Type 0} (v : Voice E) (past : List E) (records : List Record) : Type 0 where
  pub newer : List E
  pub of : AreEventsOf v (reverse_aux records (map v.record_of past)) (newer ++ past)

pub followed : {E : Type 0} (v : Voice E) → ((rec : Record) (past : List E) → Comes v rec past) → (past : List E) → MayCome v past → (records : List Record) → Followed v past records
followed v comes past may [] = record { newer = []; of = record { records_are = refl; may = may } }
followed v comes past may (rec ∷ records) =
    let c = comes rec past in
    let i = followed v comes (c.event ∷ past) (c.may, may) records in
    let parts = append_assoc i.newer (c.event ∷ []) past in record {
      newer = i.newer ++ c.event ∷ [];
      of = record {
        records_are = ap (map v.record_of) parts ∙ (i.of.records_are ∙ ap (λ r. reverse_aux records (r ∷ map v.record_of past)) c.of);
        may = subst (MayCome v) (sym parts) i.of.may;
      };
    }

-- none follow, where there are no such records
pub followed_none : {E : Type 0} (v : Voice E) (comes : (rec : Record) (past : List E) → Comes v rec past) (past : List E) (may : MayCome v past) (records : List Record) → records ≡ []
    → (followed v comes past may records).newer ++ past ≡ past
unfolding followed
followed_none v comes past may records e = ap (λ (r : List Record). (followed v comes past may r).newer ++ past) e
