-- The laws of what `nodes` says.
use Rattle.std.proofs.Common.{◌≡◌, ℕ, ◌<◌, ◌≤◌, max, eqb, not, true, List, [], ◌∷◌, Option, Some, None, refl, sym, ap, ◌∙◌, subst, arith}
use Rattle.std.proofs.lemmas.Bool.{ne_eqb}
use Rattle.net_monitor.specs.Beats.{Beat}
use Rattle.net_monitor.specs.Changes.{gone, downs}
use Rattle.net_monitor.specs.Told.{Told, told_behind, told_of}
use Rattle.net_monitor.proofs.Tells.{Says, told_append, says_first, says_later, says_beat, online_told}
use Rattle.tail_frame.specs.declared.logged.Record.{Record}
use Rattle.node_reach.specs.Ears.{AllUpTo}
use Rattle.node_reach.specs.Monitored.{beats, beat_at, with_beat, last_moment}
use Rattle.node_reach.specs.Watched.{nobody, clock, changes_by, changes_at, changes}
use Rattle.node_reach.specs.WatchLaws.{AreInOrder, WatchLaws}

says_by : (m s : ℕ) (o : Option Beat) (past : List Beat) (t : Told) → Says m past s t → Says m (with_beat o past) s (told_behind s t (changes_by m o past))
says_by m s None past t says = says
says_by m s (Some e) past t says = says_beat m s e past t says

later : (a b : ℕ) → a ≤ max a b
later a b = omega arith

-- what is told of a node behind any records
says_all : (past : List Record) (s : ℕ) → s < 128 → Says (clock past) (beats nobody past) s (told_of s (changes past))
says_all [] s low = says_first 0 s
says_all (rec ∷ past) s low =
    let known : List Beat = beats nobody past in
    let m : ℕ = clock past in
    let n : ℕ = clock (rec ∷ past) in
    let beat : Option Beat = beat_at nobody rec past in
    let t : Told = told_of s (changes past) in
    let away = downs (gone m n known) in
    let is : told_of s (changes (rec ∷ past)) ≡ told_behind s (told_behind s t away) (changes_by n beat known) =
    told_append s (told_of s []) (changes past) (changes_at rec past) ∙ told_append s t away (changes_by n beat known) in
    subst (λ u. Says n (with_beat beat known) s u) (sym is)
    (says_by n s beat known (told_behind s t away) (says_later m n s known t (later m rec.moment) low (says_all past s low)))

at_most : (m : ℕ) (past : List Record) → AllUpTo m past → clock past ≤ m
at_most m [] h = omega arith
at_most m (rec ∷ past) h = let early : rec.moment ≤ m = h.0 in omega (arith, at_most m past h.1)

clock_last : (past : List Record) → AreInOrder past → clock past ≡ last_moment past
clock_last [] h = refl
clock_last (rec ∷ past) h = omega (arith, at_most rec.moment past h.0)

not_nobody : (source : ℕ) → source < 128 → not (eqb source 128) ≡ true
not_nobody source low = ap not (ne_eqb source 128 (λ same. absurd (omega arith)))

pub watch_laws : WatchLaws
watch_laws = record {
  online_are = λ past. online_told (clock past) (beats nobody past) (changes past) (says_all past);
  restarts_are = λ past s low. (says_all past s low).restarts;
  clock_is = clock_last;
  none_left_out = λ priority subject source low. not_nobody source low;
}
