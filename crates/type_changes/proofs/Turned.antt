-- The lines of two namespaces the other way round, and those of a namespace and itself.
use Rattle.std.proofs.Common.{◌≡◌, ◌∙◌, ◌&&◌, ℕ, Bool, true, false, not, cond, List, [], ◌∷◌, ◌++◌, map, All, Option, Some, None, codes, refl, sym, ap, subst, arith}
use Rattle.std.proofs.lemmas.Bool.{eq-eqb, false≢true}
use Rattle.std.proofs.lemmas.List.{map-append}
use Rattle.std.proofs.lemmas.List.Elements.{All-cons}
use Rattle.dsdl_types.specs.Difference.{same, difference}
use Rattle.dsdl_types.specs.Schemas.{Sch}
use Rattle.dsdl_types.specs.Views.{sch}
use Rattle.dsdl_types.specs.declared.schema.Schema.{Schema}
use Rattle.dsdl_types.specs.declared.definition.Definition.{Definition}
use Rattle.dsdl_types.specs.declared.definition.Parts.{Parts}
use Rattle.layout_text.specs.Heads.{type_name}
use Rattle.compat_check.specs.Verdicts.{verdict_of}
use Rattle.compat_check.specs.declared.verdict.Verdict.{Verdict}
use Rattle.type_changes.specs.Entries.{Entry, paired, of_both}
use Rattle.type_changes.specs.Halves.{in_parts, message_in, request_in, response_in, port_in}
use Rattle.type_changes.specs.Laws.{swapped, plain, turned, plain_line, turned_line, IsSame}
use Rattle.type_changes.specs.Lines.{line_where, half_line, entry_lines, lines_of, same_port, is_in_both}
use Rattle.type_changes.specs.Names.{equal}
use Rattle.type_changes.specs.Said.{change_of, compared}
use Rattle.type_changes.specs.declared.change.Change.{Change}
use Rattle.type_changes.specs.declared.change.Change.TheVariants.{Same, Renamed, Compared}
use Rattle.type_changes.specs.declared.line.Line.{Line}
use Rattle.type_changes.proofs.Compared.{same_law}
use Rattle.type_changes.proofs.Equal.{equal_is, same_bare, bare_same}
use Rattle.type_changes.proofs.Swapped.{swap, itself}

-- ---- two schemas
alike : (a b : Bool) → (a ≡ true → b ≡ true) → (b ≡ true → a ≡ true) → a ≡ b
alike true b f g = sym (f refl)
alike false true f g = absurd (false≢true (g refl))
alike false false f g = refl

equal_turned : (a b : Sch) → equal a b ≡ equal b a
equal_turned a b = alike (equal a b) (equal b a) (λ e. (equal_is b a).1 (sym ((equal_is a b).0 e))) (λ e. (equal_is a b).1 (sym ((equal_is b a).0 e)))

same_turned : (a b : Sch) → same a b ≡ same b a
same_turned a b = alike (same a b) (same b a) (λ e. bare_same b a (sym (same_bare a b e))) (λ e. bare_same a b (sym (same_bare b a e)))

abbrev chosen : Bool → Bool → Verdict → Change
chosen equal same verdict = cond equal Same (cond same Renamed (Compared verdict))

plain_chosen : (b c : Bool) (v w : Verdict) → turned (chosen b c v) ≡ plain (chosen b c w)
plain_chosen true c v w = refl
plain_chosen false true v w = refl
plain_chosen false false v w = refl

compared_turned : (new old : Sch) → turned (compared new old) ≡ plain (compared old new)
compared_turned new old =
    let v = verdict_of (difference new old) in
    let w = verdict_of (difference old new) in
    plain_chosen (equal new old) (same new old) v w ∙ (λ i. plain (chosen (equal_turned new old i) (same_turned new old i) w))

-- ---- their lines
where_turned : (e : Entry) (half : List ℕ) (old new : Option Schema) → map turned_line (line_where e half (change_of old new)) ≡ map plain_line (line_where (swapped e) half (change_of new old))
where_turned e half None None = refl
where_turned e half None (Some new) = refl
where_turned e half (Some old) None = refl
where_turned e half (Some old) (Some new) =
    λ i. record { name = type_name e.id ++ half; change = compared_turned (sch new) (sch old) i; old_port = port_in e.new; new_port = port_in e.old } ∷ []

half_turned : (e : Entry) (half : List ℕ) (schema : Parts → Option Schema) → map turned_line (half_line e half schema) ≡ map plain_line (half_line (swapped e) half schema)
half_turned e half schema = where_turned e half (in_parts schema e.old) (in_parts schema e.new)

entry_turned : (e : Entry) → map turned_line (entry_lines e) ≡ map plain_line (entry_lines (swapped e))
entry_turned e =
    let f = swapped e in
    map-append turned_line (half_line e [] message_in) (half_line e (codes ".Request") request_in ++ half_line e (codes ".Response") response_in)
    ∙ ap (λ l. map turned_line (half_line e [] message_in) ++ l) (map-append turned_line (half_line e (codes ".Request") request_in) (half_line e (codes ".Response") response_in))
    ∙ (λ i. half_turned e [] message_in i ++ (half_turned e (codes ".Request") request_in i ++ half_turned e (codes ".Response") response_in i))
    ∙ ap (λ l. map plain_line (half_line f [] message_in) ++ l) (sym (map-append plain_line (half_line f (codes ".Request") request_in) (half_line f (codes ".Response") response_in)))
    ∙ sym (map-append plain_line (half_line f [] message_in) (half_line f (codes ".Request") request_in ++ half_line f (codes ".Response") response_in))

all_turned : (es : List Entry) → map turned_line (lines_of es) ≡ map plain_line (lines_of (map swapped es))
all_turned [] = refl
all_turned (e ∷ es) =
    map-append turned_line (entry_lines e) (lines_of es) ∙ (λ i. entry_turned e i ++ all_turned es i)
    ∙ sym (map-append plain_line (entry_lines (swapped e)) (lines_of (map swapped es)))

pub lines_turned : (olds news : List Definition) → map turned_line (lines_of (paired olds news)) ≡ map plain_line (lines_of (paired news olds))
lines_turned olds news = all_turned (paired olds news) ∙ ap (λ es. map plain_line (lines_of es)) (sym (swap olds news))

-- ---- a namespace and itself
port_itself : (p : Option ℕ) → same_port p p ≡ true
port_itself None = refl
port_itself (Some n) = eq-eqb n n refl

abbrev Each : (Line → Type 0) → List Line → Type 0
Each P [] = Unit {0}
Each P (x ∷ xs) = P x × Each P xs

each_append : (P : Line → Type 0) (xs ys : List Line) → Each P xs → Each P ys → Each P (xs ++ ys)
each_append P [] ys h g = g
each_append P (x ∷ xs) ys h g = (h.0, each_append P xs ys h.1 g)

each_all : (P : Line → Type 0) (xs : List Line) → Each P xs → All P xs
each_all P [] h = λ k d short. absurd (omega arith)
each_all P (x ∷ xs) h = All-cons P x xs h.0 (each_all P xs h.1)

unmoved : (b : Bool) (p : Option ℕ) → (b && not (same_port p p)) ≡ false
unmoved true p = ap not (port_itself p)
unmoved false p = refl

where_itself : (d : Definition) (half : List ℕ) (s : Option Schema) → Each IsSame (line_where (of_both d d) half (change_of s s))
where_itself d half None = tt
where_itself d half (Some s) =
    ((let one = (same_law (sch s) (sch s)).1 refl in one, unmoved (is_in_both (compared (sch s) (sch s))) d.port), tt)

entry_itself : (d : Definition) → Each IsSame (entry_lines (of_both d d))
entry_itself d =
    let e = of_both d d in
    each_append IsSame (half_line e [] message_in) (half_line e (codes ".Request") request_in ++ half_line e (codes ".Response") response_in)
    (where_itself d [] (message_in d.parts))
    (each_append IsSame (half_line e (codes ".Request") request_in) (half_line e (codes ".Response") response_in) (where_itself d (codes ".Request") (request_in d.parts)) (where_itself d (codes ".Response") (response_in d.parts)))

each_itself : (ds : List Definition) → Each IsSame (lines_of (map (λ d. of_both d d) ds))
each_itself [] = tt
each_itself (d ∷ ds) = each_append IsSame (entry_lines (of_both d d)) (lines_of (map (λ d. of_both d d) ds)) (entry_itself d) (each_itself ds)

pub same_lines : (ds : List Definition) → All IsSame (lines_of (paired ds ds))
same_lines ds = subst (λ es. All IsSame (lines_of es)) (sym (itself ds)) (each_all IsSame (lines_of (map (λ d. of_both d d) ds)) (each_itself ds))
