-- There is no harm exactly where all that the old namespace has is kept.
use Rattle.std.proofs.Common.{◌≡◌, ◌∙◌, ◌↔◌, ◌&&◌, ℕ, Bool, true, false, not, cond, List, [], ◌∷◌, ◌++◌, map, All, Option, Some, None, codes, refl, ap, arith}
use Rattle.std.specs.Str.Lossy.{utf8_lossy}
use Rattle.std.proofs.lemmas.List.Elements.{All-cons, All-head, All-tail}
use Rattle.dsdl_types.specs.Difference.{same, difference}
use Rattle.dsdl_types.specs.Newer.{Newer}
use Rattle.dsdl_types.specs.Schemas.{Sch}
use Rattle.dsdl_types.specs.Views.{sch}
use Rattle.dsdl_types.specs.declared.schema.Schema.{Schema}
use Rattle.dsdl_types.specs.declared.definition.Parts.{Parts}
use Rattle.compat_check.specs.Verdicts.{verdict_of}
use Rattle.compat_check.specs.declared.verdict.CompatWhy.TheVariants as why
use Rattle.compat_check.specs.declared.verdict.Verdict.{Verdict}
use Rattle.compat_check.specs.declared.verdict.Verdict.TheVariants.{Yes, No}
use Rattle.compat_check.proofs.NewerParts.{of_first, of_second, of_both}
use Rattle.layout_text.specs.Heads.{type_name}
use Rattle.type_versions.specs.Lines.{first_refusal}
use Rattle.type_changes.specs.Entries.{Entry}
use Rattle.type_changes.specs.Halves.{in_parts, message_in, request_in, response_in, port_in}
use Rattle.type_changes.specs.Lines.{line_where, half_line, entry_lines, lines_of, refusal, is_in_both, same_port, keeps_port, loss, loss_of, first_harm, IsKept, IsHarmless}
use Rattle.type_changes.specs.Laws.{IsNewer, IsSame}
use Rattle.type_changes.specs.Names.{equal}
use Rattle.type_changes.specs.Said.{change_of, compared}
use Rattle.type_changes.specs.declared.change.Change.{Change}
use Rattle.type_changes.specs.declared.change.Change.TheVariants.{Same, Renamed, Compared}
use Rattle.type_changes.specs.declared.line.Line.{Line}
use Rattle.type_changes.proofs.Compared.{newer_law}

-- ---- each of a list
abbrev Each : {X : Type 0} → (X → Type 0) → List X → Type 0
Each P [] = Unit {0}
Each P (x ∷ xs) = P x × Each P xs

each_of : {X : Type 0} (P : X → Type 0) (xs ys : List X) → Each P (xs ++ ys) ↔ (Each P xs × Each P ys)
each_of P [] ys = (λ h. (tt, h), λ h. h.1)
each_of P (x ∷ xs) ys =
    let rest = each_of P xs ys in
    (λ h. (let r = rest.0 h.1 in ((h.0, r.0), r.1)), λ h. (h.0.0, rest.1 (h.0.1, h.1)))

each_all : {X : Type 0} (P : X → Type 0) (xs : List X) → Each P xs ↔ All P xs
each_all P [] = (λ h k d short. absurd (omega arith), λ h. tt)
each_all P (x ∷ xs) =
    let rest = each_all P xs in
    (λ h. All-cons P x xs h.0 (rest.0 h.1), λ h. (All-head P x xs h, rest.1 (All-tail P x xs h)))

each_yes : (f : Line → Verdict) (ls : List Line) → (first_refusal (map f ls) ≡ Yes) ↔ Each (λ l. f l ≡ Yes) ls
each_yes f [] = (λ e. tt, λ h. refl)
each_yes f (l ∷ ls) =
    let rest = each_yes f ls in (
      λ e. (of_first (f l) (first_refusal (map f ls)) e, rest.0 (of_second (f l) (first_refusal (map f ls)) e)),
      λ h. of_both (f l) (first_refusal (map f ls)) h.0 (rest.1 h.1),
    )

-- ---- a line that tells no harm
abbrev Clean : Line → Type 0
Clean l = (refusal l.change ≡ Yes) × (loss l ≡ Yes)

both_each : (ls : List Line) → Each (λ l. refusal l.change ≡ Yes) ls → Each (λ l. loss l ≡ Yes) ls → Each Clean ls
both_each [] h g = tt
both_each (l ∷ ls) h g = ((h.0, g.0), both_each ls h.1 g.1)

first_each : (ls : List Line) → Each Clean ls → Each (λ l. refusal l.change ≡ Yes) ls × Each (λ l. loss l ≡ Yes) ls
first_each [] h = (tt, tt)
first_each (l ∷ ls) h = let r = first_each ls h.1 in ((h.0.0, r.0), (h.0.1, r.1))

no_harm : (ls : List Line) → (first_harm ls ≡ Yes) ↔ Each Clean ls
no_harm ls =
    let v = first_refusal (map (λ l. refusal l.change) ls) in
    let w = first_refusal (map loss ls) in (
      λ e. both_each ls ((each_yes (λ l. refusal l.change) ls).0 (of_first v w e)) ((each_yes loss ls).0 (of_second v w e)),
      λ h. (let p = first_each ls h in of_both v w ((each_yes (λ l. refusal l.change) ls).1 p.0) ((each_yes loss ls).1 p.1)),
    )

-- ---- of two schemas
abbrev chosen : Bool → Bool → Verdict → Change
chosen equal same verdict = cond equal Same (cond same Renamed (Compared verdict))

newer_yes : (b c : Bool) (v : Verdict) → (refusal (chosen b c v) ≡ Yes) ↔ IsNewer (chosen b c v)
newer_yes true c v = (λ e. tt, λ h. refl)
newer_yes false true v = (λ e. tt, λ h. refl)
newer_yes false false v = (λ e. e, λ h. h)

port_yes : (k : Bool) (lost : Verdict) → (lost ≡ Yes → ⊥) → (cond (not k) lost Yes ≡ Yes) ↔ (k ≡ true)
port_yes true lost ne = (λ e. refl, λ e. refl)
port_yes false lost ne = (λ e. absurd (ne e), λ e. absurd cc)

abbrev told_of : List ℕ → Option ℕ → Option ℕ → Change → Line
told_of name old_port new_port change = record { name = name; change = change; old_port = old_port; new_port = new_port }

loss_yes : (b c : Bool) (v : Verdict) (name : List ℕ) (old_port new_port : Option ℕ) → (loss (told_of name old_port new_port (chosen b c v)) ≡ Yes) ↔ (keeps_port old_port new_port ≡ true)
loss_yes true c v name old_port new_port = port_yes (keeps_port old_port new_port) _ (λ e. cc)
loss_yes false true v name old_port new_port = port_yes (keeps_port old_port new_port) _ (λ e. cc)
loss_yes false false v name old_port new_port = port_yes (keeps_port old_port new_port) _ (λ e. cc)

two_clean : (name : List ℕ) (old_port new_port : Option ℕ) (new old : Sch) → Clean (told_of name old_port new_port (compared new old)) ↔ (Newer new old × (keeps_port old_port new_port ≡ true))
two_clean name old_port new_port new old =
    let v = verdict_of (difference new old) in
    let n = newer_yes (equal new old) (same new old) v in
    let p = loss_yes (equal new old) (same new old) v name old_port new_port in
    let law = newer_law new old in (
      λ h. (law.0 (n.0 h.0), p.0 h.1),
      λ h. (n.1 (law.1 h.0), p.1 h.1),
    )

-- ---- of a half, a type, and all types
half_clean : (e : Entry) (half : List ℕ) (schema : Parts → Option Schema) → Each Clean (half_line e half schema) ↔ IsKept (port_in e.old) (port_in e.new) (in_parts schema e.old) (in_parts schema e.new)
half_clean e half schema = by (in_parts schema e.old) (in_parts schema e.new)
  where
    by : (old new : Option Schema) → Each Clean (line_where e half (change_of old new)) ↔ IsKept (port_in e.old) (port_in e.new) old new
    by None None = (λ h. tt, λ h. tt)
    by None (Some new) = (λ h. tt, λ h. ((refl, refl), tt))
    by (Some old) None = (λ h. (let bad = h.0.1 in absurd cc), λ h. absurd h)
    by (Some old) (Some new) =
        let two = two_clean (type_name e.id ++ half) (port_in e.old) (port_in e.new) (sch new) (sch old) in
        (λ h. two.0 h.0, λ h. (two.1 h, tt))

entry_clean : (e : Entry) → Each Clean (entry_lines e) ↔ IsHarmless e
entry_clean e =
    let m = half_clean e [] message_in in
    let q = half_clean e (codes ".Request") request_in in
    let r = half_clean e (codes ".Response") response_in in
    let outer = each_of Clean (half_line e [] message_in) (half_line e (codes ".Request") request_in ++ half_line e (codes ".Response") response_in) in
    let inner = each_of Clean (half_line e (codes ".Request") request_in) (half_line e (codes ".Response") response_in) in (
      λ h. (let p = outer.0 h in let s = inner.0 p.1 in (m.0 p.0, q.0 s.0, r.0 s.1)),
      λ h. outer.1 (m.1 h.0, inner.1 (q.1 h.1, r.1 h.2)),
    )

all_clean : (es : List Entry) → Each Clean (lines_of es) ↔ Each IsHarmless es
all_clean [] = (λ h. tt, λ h. tt)
all_clean (e ∷ es) =
    let one = entry_clean e in
    let rest = all_clean es in
    let parts = each_of Clean (entry_lines e) (lines_of es) in (
      λ h. (let p = parts.0 h in (one.0 p.0, rest.0 p.1)),
      λ h. parts.1 (one.1 h.0, rest.1 h.1),
    )

pub harmless : (es : List Entry) → (first_harm (lines_of es) ≡ Yes) ↔ All IsHarmless es
harmless es =
    let a = no_harm (lines_of es) in
    let b = all_clean es in
    let c = each_all IsHarmless es in
    (λ e. c.0 (b.0 (a.0 e)), λ h. a.1 (b.1 (c.1 h)))

-- ---- lines that say `same`
keeps : (b : Bool) (o n : Option ℕ) → (b && not (same_port o n)) ≡ false → (b && not (keeps_port o n)) ≡ false
keeps false o n e = refl
keeps true None n e = refl
keeps true (Some m) n e = e

same_clean : (l : Line) → IsSame l → Clean l
same_clean l h = (
  ap refusal h.0,
  ap (λ c. loss_of c l) h.0 ∙ ap (λ b. cond b (No (utf8_lossy l.name) why.Port) Yes) (keeps (is_in_both l.change) l.old_port l.new_port h.1),
)

all_same : (ls : List Line) → Each IsSame ls → Each Clean ls
all_same [] h = tt
all_same (l ∷ ls) h = (same_clean l h.0, all_same ls h.1)

pub itself_harmless : (ls : List Line) → All IsSame ls → first_harm ls ≡ Yes
itself_harmless ls h = (no_harm ls).1 (all_same ls ((each_all IsSame ls).1 h))
