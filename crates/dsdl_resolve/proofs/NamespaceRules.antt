-- Each definition of a compiled namespace keeps the rules
use Rattle.std.proofs.Common.{◌≡◌, ℕ, List, [], ◌∷◌, Option, Some, None, length, map, refl, sym, subst, arith}
use Rattle.std.specs.Prelude.{Result, Ok, Err, not, slice_get}
use Rattle.std.specs.List.{All, AllZip}
use Rattle.std.proofs.lemmas.List.Elements.{All-nil, All-cons, All-get_or, All-push, All-map, All-filter}
use Rattle.std.proofs.lemmas.Option.{slice_get_within, get_or_from_slice_get}
use Rattle.dsdl_files.specs.declared.file.DsdlFile.{DsdlFile}
use Rattle.dsdl_links.specs.declared.source.Source.{Source}
use Rattle.dsdl_parse.specs.Spelling.{AreWellSpelled, WellSpelled}
use Rattle.dsdl_types.specs.Definitions.{IsDefinition, IsNamespace}
use Rattle.dsdl_resolve.specs.Passes.{Compiled}
use Rattle.dsdl_resolve.specs.Progressing.{doubled}
use Rattle.dsdl_resolve.specs.Reads.{Read, AreRead, IsRead, sources_of}
use Rattle.dsdl_resolve.specs.Soundness.{DefinitionsKeepRules, NamespacesKeepRules}
use Rattle.dsdl_resolve.specs.Valuing.{Done, Stop, definition_of, is_meant, meant, scope_of, outcome_behind, with_done, with_outcome, with_file, valued_behind}
use Rattle.dsdl_resolve.specs.declared.outcome.Outcome.{Outcome}
use Rattle.dsdl_resolve.specs.declared.outcome.Refused.{Refused}
use Rattle.dsdl_resolve.proofs.Placement.{in_order_keep}

abbrev AreSpelled : Read → Type 0
AreSpelled r = All WellSpelled r.lines

abbrev Keeps : Done → Type 0
Keeps d = IsDefinition (definition_of d)

spelled : AreWellSpelled → (files : List DsdlFile) (reads : List Read) → AllZip IsRead files reads → All AreSpelled reads
spelled law [] [] h = All-nil AreSpelled
spelled law [] (r ∷ reads) h = absurd h
spelled law (file ∷ files) [] h = absurd h
spelled law (file ∷ files) (r ∷ reads) h = All-cons AreSpelled r reads (law.text file.text r.lines h.0.text) (spelled law files reads h.1)

one_of : (reads : List Read) (n : ℕ) (r : Read) → All AreSpelled reads → slice_get reads n ≡ Some r → AreSpelled r
one_of reads n r h e = subst AreSpelled (get_or_from_slice_get reads n r r e) (All-get_or AreSpelled reads n r (slice_get_within reads n r e) h)

module _ (keep : DefinitionsKeepRules) (sources : List Source) (done : List Done) where
  -- what follows these files
  abbrev Next : Type 0
  Next = List Done → Result (List Done) Stop

  abbrev GoesOn : Next → Type 0
  GoesOn next = (more : List Done) → All Keeps more → next more ≡ Ok done → All Keeps done

  of_outcome : (next : Next) (before : List Done) (n : ℕ) (x : Result Outcome Refused) → GoesOn next → All Keeps before → ((o : Outcome) → x ≡ Ok o → IsDefinition o.definition)
      → with_outcome next before n x ≡ Ok done → All Keeps done
  of_outcome next before n (Err refused) goes h keeps e = cc
  of_outcome next before n (Ok o) goes h keeps e = goes (with_done before n o) (All-push Keeps before (record { number = n; outcome = o }) h (keeps o refl)) e

  of_file : (next : Next) (before : List Done) (n : ℕ) (x : Option Read) → GoesOn next → All Keeps before → ((r : Read) → x ≡ Some r → AreSpelled r)
      → with_file next sources before n x ≡ Ok done → All Keeps done
  of_file next before n None goes h are e = goes before h e
  of_file next before n (Some r) goes h are e =
      of_outcome next before n (outcome_behind sources before r) goes h
      (λ o is. keep (scope_of sources before r) r.path r.name r.lines o (All-map IsDefinition definition_of (meant sources before) (All-filter (is_meant sources) Keeps before h)) (are r refl) is)
      e

all_valued : (keep : DefinitionsKeepRules) (reads : List Read) → All AreSpelled reads → (order : List ℕ) (before done : List Done) → All Keeps before → valued_behind reads before order ≡ Ok done → All Keeps done
all_valued keep reads are [] before done h e = let is : before ≡ done = cc in subst (All Keeps) is h
all_valued keep reads are (n ∷ order) before done h e =
    of_file keep (sources_of reads) done (λ more. valued_behind reads more order) before n (slice_get reads n)
    (λ more g f. all_valued keep reads are order more done g f) h (λ r is. one_of reads n r are is) e

pub namespaces_keep_rules : DefinitionsKeepRules → AreWellSpelled → NamespacesKeepRules
namespaces_keep_rules keep law files names c =
    let v = c.valued_all in
    let reads = v.reads in
    let are = spelled law files reads v.ordered.linked.passed.read in
    let keeps : All Keeps c.done = all_valued keep reads are v.order [] c.done (All-nil Keeps) v.valued_all in
    let sources = sources_of reads in
    subst (All IsDefinition) (sym c.definitions)
    (in_order_keep sources c.done (length files) (All-map IsDefinition definition_of (meant sources c.done) (All-filter (is_meant sources) Keeps c.done keeps))
    (All-map IsDefinition definition_of (doubled sources c.done) (All-filter (λ d. not (is_meant sources d)) Keeps c.done keeps)))
