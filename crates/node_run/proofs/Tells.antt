-- Lines that were told, one after the other.
use Rattle.std.proofs.Common.{◌≡◌, ◌∙◌, ◌+◌, ◌<◌, ℕ, Bool, List, [], ◌∷◌, ◌++◌, Option, Some, None, Result, Ok, Err, length, map, take, drop, add-one, refl, sym, ap, subst, append_assoc, append-nil}
use Rattle.std.specs.Prelude.{IfSome, OnOk, OnErr, get_or}
use Rattle.std.proofs.lemmas.List.{map-append, take-append-drop}
use Rattle.std.proofs.Math.Seq.{take-suc}
use Rattle.can_id.specs.declared.key.Key.{Key}
use Rattle.report_lines.specs.Lent.{HasType}
use Rattle.report_lines.specs.declared.line_ref.LineRef.{LineRef}
use Rattle.report_lines.specs.declared.line_ref.LineRef.TheVariants as lent
use Rattle.report_lines.specs.declared.line.FullLine.{FullLine}
use Rattle.report_lines.specs.declared.line.Line.{Line}
use Rattle.report_lines.specs.declared.line.Line.TheVariants.{Full}
use Rattle.report_lines.specs.LineSinks.{BeginsList, put_behind}
use Rattle.node_run.specs.Forms.{Adds, Style, Types}
use Rattle.node_run.specs.Tells.{Counts, HasTold}
use Rattle.node_run.proofs.Forms.{adds_more, adds_none}
use Rattle.node_run.specs.declared.log.tally.Seen.{Seen}

pub put_none : {A : Type 0} (o : Option (List A)) → o ≡ put_behind o []
put_none None = refl
put_none (Some l) = ap Some (sym (append-nil l))

pub put_more : {A : Type 0} (o : Option (List A)) (a b : List A) → put_behind (put_behind o a) b ≡ put_behind o (a ++ b)
put_more None a b = refl
put_more (Some l) a b = ap Some (append_assoc l a b)

-- a line has the types that are equal to those that it has
pub typed_by : (types other : Types) (told : Option LineRef) → ((key : Key) → types key ≡ other key) → IfSome told (HasType other) → IfSome told (HasType types)
typed_by types other None same h = tt
typed_by types other (Some (lent.Rx rx)) same h = h ∙ sym (same rx.key)
typed_by types other (Some (lent.NoSession refused)) same h = tt
typed_by types other (Some (lent.Tx tx)) same h = tt
typed_by types other (Some (lent.Full full)) same h = tt

-- nothing was told
pub told_none : (s : Style) (types : Types) (t : List ℕ) (o : Option (List Line)) → HasTold s types [] t t o o
told_none s types t o = record { gathered = adds_none s types t; put = put_none o }

pub told_more : (s : Style) (types : Types) (a b : List Line) (t mid new : List ℕ) (o now after : Option (List Line)) → HasTold s types a t mid o now → HasTold s types b mid new now after → HasTold s types (a ++ b) t new o after
told_more s types a b t mid new o now after x y = record {
  gathered = adds_more s types a b t mid new x.gathered y.gathered;
  put = y.put ∙ (ap (λ p. put_behind p b) x.put ∙ put_more o a b);
}

-- the same in a style that is equal
pub told_in : {s b : Style} {told : List Line} {before after : List ℕ} {old new : Option (List Line)} → b ≡ s → (types : Types) → HasTold b types told before after old new → HasTold s types told before after old new
told_in {s} {b} {told} {before} {after} {old} {new} same types x = subst (λ (y : Style). HasTold y types told before after old new) same x

-- what was put doesn't depend on the types
pub put_of : {s : Style} {told : List Line} {before after : List ℕ} {old new : Option (List Line)} → ((types : Types) → HasTold s types told before after old new) → new ≡ put_behind old told
put_of x = (x (λ _. None)).put

-- no front, a front, and one behind others
pub begins_none : (items : List Line) (old new : Option (List Line)) → new ≡ old → BeginsList items old new
begins_none items old new e = record { front = []; rest = items; whole = refl; put = e ∙ put_none old }

pub begins_more : (a b : List Line) (old new : Option (List Line)) → BeginsList a old new → BeginsList (a ++ b) old new
begins_more a b old new x = record { front = x.front; rest = x.rest ++ b; whole = ap (λ t. t ++ b) x.whole ∙ append_assoc x.front x.rest b; put = x.put }

pub begins_later : (a b : List Line) (old mid new : Option (List Line)) → mid ≡ put_behind old a → BeginsList b mid new → BeginsList (a ++ b) old new
begins_later a b old mid new e x = record {
  front = a ++ x.front;
  rest = x.rest;
  whole = ap (λ t. a ++ t) x.whole ∙ sym (append_assoc a x.front x.rest);
  put = x.put ∙ (ap (λ o. put_behind o x.front) e ∙ put_more old a x.front);
}

-- some of these were told, the next one wasn't
pub broke_at : (all done rest : List Line) (old now new : Option (List Line)) → all ≡ done ++ rest → now ≡ put_behind old done → new ≡ now → BeginsList all old new
broke_at all done rest old now new e put same = record { front = done; rest = rest; whole = e; put = same ∙ put }

-- all of them were told, since none is left
pub told_all : {s : Style} {t new : List ℕ} {o after : Option (List Line)} (all done rest : List Line) → all ≡ done ++ rest → rest ≡ [] → ((types : Types) → HasTold s types done t new o after) → (types : Types) → HasTold s types all t new o after
told_all {s} {t} {new} {o} {after} all done rest e none told types =
    subst (λ (ls : List Line). HasTold s types ls t new o after) (sym (e ∙ (ap (λ r. done ++ r) none ∙ append-nil done))) (told types)

-- one more line was told
pub told_next : (s b : Style) (types : Types) (a l : List Line) (t mid new : List ℕ) (o now after : Option (List Line)) → b ≡ s → HasTold s types a t mid o now → Adds b types l mid new → after ≡ put_behind now l → HasTold s types (a ++ l) t new o after
told_next s b types a l t mid new o now after same x adds put_is =
    told_more s types a l t mid new o now after x (record { gathered = subst (λ (y : Style). Adds y types l mid new) same adds; put = put_is })

-- of lines on full buses
pub full_next : (fulls : List FullLine) (n : ℕ) (d : FullLine) → n < length fulls → map Full (take n fulls) ++ Full (get_or fulls n d) ∷ [] ≡ map Full (take (n + 1) fulls)
full_next fulls n d h = sym (ap (λ m. map Full (take m fulls)) (add-one n) ∙ (ap (map Full) (take-suc fulls n d h) ∙ map-append Full (take n fulls) (get_or fulls n d ∷ [])))

pub full_cut : (fulls : List FullLine) (n : ℕ) → map Full fulls ≡ map Full (take n fulls) ++ map Full (drop n fulls)
full_cut fulls n = ap (map Full) (sym (take-append-drop n fulls)) ∙ map-append Full (take n fulls) (drop n fulls)

-- what a call answers with, and what follows from that
pub on_ok_by : {A E P Q : Type 0} (r : Result A E) → (P → Q) → OnOk r P → OnOk r Q
on_ok_by (Ok a) f p = f p
on_ok_by (Err e) f p = p

pub on_err_by : {A E P Q : Type 0} (r : Result A E) → (P → Q) → OnErr r P → OnErr r Q
on_err_by (Ok a) f p = p
on_err_by (Err e) f p = f p

pub on_ok_both : {A E : Type 0} (P Q : Type 0) (r : Result A E) → OnOk r P → OnOk r Q → OnOk r (P × Q)
on_ok_both P Q (Ok a) p q = (p, q)
on_ok_both P Q (Err e) p q = tt

-- of no lines nothing is told, and nothing is counted
pub told_silent : (s : Style) (types : Types) (lines : List Line) (t : List ℕ) (o : Option (List Line)) → lines ≡ [] → HasTold s types lines t t o o
told_silent s types lines t o e = subst (λ (ls : List Line). HasTold s types ls t t o o) (sym e) (told_none s types t o)

pub counts_silent : (seen : Seen) (lines : List Line) (bad is_bad : Bool) → Counts seen [] bad → lines ≡ [] → is_bad ≡ bad → Counts seen lines is_bad
counts_silent seen lines bad is_bad x e b = subst (λ (ls : List Line). Counts seen ls is_bad) (sym e) (subst (λ (y : Bool). Counts seen [] y) (sym b) x)
