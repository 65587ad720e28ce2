-- When a record comes next in a chain.
use Rattle.std.proofs.Common.{◌≡◌, Bool, true, false, not, ◌&&◌, eqb, refl, ap}
use Rattle.std.proofs.lemmas.Bool.{eqb-true, eq-eqb, ne_eqb, and_parts, and_from, and_left, and_right, not-true}
use Rattle.tail_frame.specs.Chains.{KeyRecord, differs, follows}

pub differs_same : (a : Bool) → differs a a ≡ false
differs_same true = refl
differs_same false = refl

pub differs_other : (a : Bool) → differs a (not a) ≡ true
differs_other true = refl
differs_other false = refl

-- what follows gives
pub follows_parts : (a l r : KeyRecord) → follows a l r ≡ true → record { open_end : l.end ≡ false; not_start : r.start ≡ false; bus : r.bus ≡ a.bus; tid : r.tid ≡ a.tid; toggle : differs l.toggle r.toggle ≡ true }
follows_parts a l r h =
    let p = and_parts (not l.end) (not r.start && ((eqb r.bus a.bus) && ((eqb r.tid a.tid) && differs l.toggle r.toggle))) h in
    let q = and_parts (not r.start) ((eqb r.bus a.bus) && ((eqb r.tid a.tid) && differs l.toggle r.toggle)) p.1 in
    let s = and_parts (eqb r.bus a.bus) ((eqb r.tid a.tid) && differs l.toggle r.toggle) q.1 in
    let t = and_parts (eqb r.tid a.tid) (differs l.toggle r.toggle) s.1 in
    record { open_end = not-true l.end p.0; not_start = not-true r.start q.0; bus = eqb-true r.bus a.bus s.0; tid = eqb-true r.tid a.tid t.0; toggle = t.1 }

-- and what gives it
pub follows_from : (a l r : KeyRecord) → l.end ≡ false → r.start ≡ false → r.bus ≡ a.bus → r.tid ≡ a.tid → differs l.toggle r.toggle ≡ true → follows a l r ≡ true
follows_from a l r open_end not_start bus tid toggle =
    and_from (not l.end) (not r.start && ((eqb r.bus a.bus) && ((eqb r.tid a.tid) && differs l.toggle r.toggle))) (ap not open_end)
    (and_from (not r.start) ((eqb r.bus a.bus) && ((eqb r.tid a.tid) && differs l.toggle r.toggle)) (ap not not_start)
    (and_from (eqb r.bus a.bus) ((eqb r.tid a.tid) && differs l.toggle r.toggle) (eq-eqb r.bus a.bus bus)
    (and_from (eqb r.tid a.tid) (differs l.toggle r.toggle) (eq-eqb r.tid a.tid tid) toggle)))

-- nothing follows behind a last frame
pub not_behind_end : (a l r : KeyRecord) → l.end ≡ true → follows a l r ≡ false
not_behind_end a l r e = and_left (not l.end) (not r.start && ((eqb r.bus a.bus) && ((eqb r.tid a.tid) && differs l.toggle r.toggle))) (ap not e)

-- nor a record of another bus
pub not_off_bus : (a l r : KeyRecord) → (r.bus ≡ a.bus → ⊥) → follows a l r ≡ false
not_off_bus a l r other =
    and_right (not l.end) (not r.start && ((eqb r.bus a.bus) && ((eqb r.tid a.tid) && differs l.toggle r.toggle)))
    (and_right (not r.start) ((eqb r.bus a.bus) && ((eqb r.tid a.tid) && differs l.toggle r.toggle))
    (and_left (eqb r.bus a.bus) ((eqb r.tid a.tid) && differs l.toggle r.toggle) (ne_eqb r.bus a.bus other)))

-- nor one with the same toggle
pub not_alike : (a l r : KeyRecord) → differs l.toggle r.toggle ≡ false → follows a l r ≡ false
not_alike a l r same =
    and_right (not l.end) (not r.start && ((eqb r.bus a.bus) && ((eqb r.tid a.tid) && differs l.toggle r.toggle)))
    (and_right (not r.start) ((eqb r.bus a.bus) && ((eqb r.tid a.tid) && differs l.toggle r.toggle))
    (and_right (eqb r.bus a.bus) ((eqb r.tid a.tid) && differs l.toggle r.toggle)
    (and_right (eqb r.tid a.tid) (differs l.toggle r.toggle) same)))
