-- A file that is read again, and one more that is valued
use Rattle.std.proofs.Common.{◌≡◌, ℕ, zero, suc, ◌+◌, ◌<◌, ◌≤◌, ◌==◌, Bool, true, false, List, [], ◌∷◌, length, drop, get_or, map, Some, None, Result, Ok, Err, cond, refl, sym, ap, ◌∙◌, subst, arith}
use Rattle.std.specs.Prelude.{◌&&◌, slice_get, unwrap_or, option_and_then}
use Rattle.std.specs.List.{All, position_from}
use Rattle.std.specs.Str.{bytes_eq}
use Rattle.std.proofs.Common.{eq-eqb}
use Rattle.std.proofs.lemmas.List.{drop_more, drop_all, get_or-map, length-map}
use Rattle.std.proofs.lemmas.Option.{slice_get-get_or, get_or_from_slice_get}
use Rattle.std.proofs.lemmas.Slice.Eq.{bytes_eq-Decides}
use Rattle.const_expr.specs.declared.scope.NamedConst.{NamedConst}
use Rattle.const_expr.specs.Member.{AreConstants}
use Rattle.const_expr.specs.declared.scope.Scope.{Scope}
use Rattle.const_expr.specs.declared.scope.TypeConsts.{TypeConsts}
use Rattle.dsdl_files.specs.declared.file.DsdlFile.{DsdlFile}
use Rattle.dsdl_links.specs.Links.{file_of, defines, first_numbers}
use Rattle.dsdl_links.specs.declared.source.Source.{Source}
use Rattle.dsdl_names.specs.Names.{file_name_of}
use Rattle.dsdl_names.specs.declared.FileName.{FileName}
use Rattle.dsdl_names.specs.declared.NameError.{NameError}
use Rattle.dsdl_names.specs.declared.TypeId.{TypeId}
use Rattle.dsdl_parse.specs.Ast.{IsAst, IsParsedOneWay}
use Rattle.dsdl_parse.specs.declared.statement.Statement.{Statement}
use Rattle.dsdl_types.specs.Definitions.{IsDefinition}
use Rattle.dsdl_types.specs.declared.definition.Definition.{Definition}
use Rattle.dsdl_types.specs.declared.namespace.Namespace.{Namespace}
use Rattle.dsdl_types.specs.declared.namespace.Print.{Print}
use Rattle.dsdl_resolve.specs.Answers.{Answers}
use Rattle.dsdl_resolve.specs.Judged.{outcome}
use Rattle.dsdl_resolve.specs.Passes.{path_at, StopsAt}
use Rattle.dsdl_resolve.specs.Progressing.{Holds, IsSound}
use Rattle.dsdl_resolve.specs.Reads.{Read, IsRead, AreRead, source_of, sources_of}
use Rattle.dsdl_resolve.specs.Reread.{WereRead, HasStatements, scope_in, IsValuedTo}
use Rattle.dsdl_resolve.specs.Valuing.{Done, definition_of, is_first, is_number, meant, scope_of, outcome_behind, valued, valued_behind, with_done, with_file, with_outcome}
use Rattle.dsdl_resolve.specs.declared.outcome.FileError.{FileError}
use Rattle.dsdl_resolve.specs.declared.outcome.Outcome.{Outcome}
use Rattle.dsdl_resolve.specs.declared.outcome.Valued.{Valued}
use Rattle.dsdl_resolve.specs.declared.progress.Progress.{Progress}
use Rattle.dsdl_resolve.specs.declared.why.DsdlWhy.{DsdlWhy}
use Rattle.dsdl_resolve.proofs.Lists.{zip_at, zip_long}
use Rattle.dsdl_resolve.proofs.PlaceLemmas.{places_moved}

-- ---- one file
pub same_name : (a b : FileName) → ◌≡◌ {A = Result FileName NameError} (Ok a) (Ok b) → a ≡ b
same_name a b e = cc

-- a scope that is set up for a file
abbrev pub set_up : Scope → List NamedConst → List ℕ → Scope
set_up scope constants own = record { constants = constants; offset = None; namespace = scope.namespace; own = own; members = scope.members }

pub answers_read : IsParsedOneWay → (file : DsdlFile) (r : Read) → IsRead file r → (name : FileName) → file_name_of file.path ≡ Ok name → (lines given : List Statement) → IsAst file.text lines → given ≡ lines →
    (scope : Scope) (constants : List NamedConst) (own : List ℕ) → constants ≡ [] → own ≡ name.id.name → (answer : Result Valued FileError) →
    Answers (outcome (set_up scope constants own) file.path name given) answer → Answers (outcome (scope_in scope r) r.path r.name r.lines) answer
answers_read law file r is name named lines given ast same scope constants own none mine answer h =
    let called : name ≡ r.name = same_name name r.name (sym named ∙ is.named) in
    let text : given ≡ r.lines = same ∙ law.one_list file.text lines r.lines ast is.text in
    subst (λ m. Answers m answer)
    (ap (λ cs. outcome (set_up scope cs own) file.path name given) none
    ∙ ap (λ o. outcome (set_up scope [] o) file.path name given) (mine ∙ ap (λ (n : FileName). n.id.name) called)
    ∙ ap (λ p. outcome (scope_in scope r) p name given) (sym is.same)
    ∙ ap (λ n. outcome (scope_in scope r) r.path n given) called
    ∙ ap (λ ss. outcome (scope_in scope r) r.path r.name ss) text) h

-- ---- the file that references mean
found : (i : ℕ) (ss : List Source) (id : TypeId) (n : ℕ) (s : Source) → n < length ss → s ≡ get_or ss n s → defines id s ≡ true → (j : ℕ) × (position_from (defines id) i ss ≡ Some j)
found i [] id n s lt is h = absurd (omega arith)
found i (x ∷ ss) id zero s lt is h = (i, ap (λ b. cond b (Some i) (position_from (defines id) (i + 1) ss)) (ap (defines id) (sym is) ∙ h))
found i (x ∷ ss) id (suc n) s lt is h = at (defines id x) refl (found (i + 1) ss id n s (omega arith) is h)
  where
    at : (b : Bool) → defines id x ≡ b → (j : ℕ) × (position_from (defines id) (i + 1) ss ≡ Some j) → (j : ℕ) × (position_from (defines id) i (x ∷ ss) ≡ Some j)
    at true e behind = (i, ap (λ b. cond b (Some i) (position_from (defines id) (i + 1) ss)) e)
    at false e behind = (behind.0, ap (λ b. cond b (Some i) (position_from (defines id) (i + 1) ss)) e ∙ behind.1)

same_bytes : (xs : List ℕ) → bytes_eq xs xs ≡ true
same_bytes xs = (bytes_eq-Decides xs xs).1 refl

all_true : (a b c : Bool) → a ≡ true → b ≡ true → c ≡ true → (a && (b && c)) ≡ true
all_true a b c p q r = ap (λ x. x && (b && c)) p ∙ ap (λ x. x && c) q ∙ r

defines_own : (s : Source) → defines s.id s ≡ true
defines_own s = all_true (bytes_eq s.id.name s.id.name) (s.id.major == s.id.major) (s.id.minor == s.id.minor) (same_bytes s.id.name) (eq-eqb s.id.major s.id.major refl) (eq-eqb s.id.minor s.id.minor refl)

pub first_is : (sources : List Source) (n : ℕ) (s : Source) → n < length sources → s ≡ get_or sources n s → (get_or (first_numbers sources) n 0 == n) ≡ is_first sources n
first_is sources n s lt is =
    let p = found 0 sources s.id n s lt is (defines_own s) in
    let number : Source → ℕ = λ t. unwrap_or (file_of sources t.id) 0 in
    let here : get_or (first_numbers sources) n 0 ≡ p.0 = get_or-map number sources n s 0 lt ∙ ap number (sym is) ∙ ap (λ o. unwrap_or o 0) p.1 in
    let there : slice_get sources n ≡ Some s = slice_get-get_or sources n s lt ∙ ap Some (sym is) in
    ap (λ m. m == n) here ∙ sym (ap (λ o. is_number n (option_and_then (λ (t : Source). file_of sources t.id) o)) there ∙ ap (is_number n) p.1)

-- ---- the files so far
pub record SoFar (reads : List Read) (order : List ℕ) (k : ℕ) (p : Progress) : Type 0 where
  pub done : List Done
  pub left : valued_behind reads done (drop k order) ≡ valued reads order
  pub holds : Holds (sources_of reads) done p

some_read : (reads : List Read) → 0 < length reads → Read
some_read [] lt = absurd (omega arith)
some_read (r ∷ reads) lt = r

-- what was read of the file of a number
pub record ReadAt (reads : List Read) (n : ℕ) (f : DsdlFile) : Type 0 where
  pub read : Read
  pub at : slice_get reads n ≡ Some read
  pub is_read : IsRead f read

pub read_at : (files : List DsdlFile) (reads : List Read) → AreRead files reads → (n : ℕ) (f : DsdlFile) → n < length files → f ≡ get_or files n f → ReadAt reads n f
read_at files reads h n f lt is =
    let long = zip_long IsRead files reads h in
    let d = some_read reads (omega arith) in
    let r = get_or reads n d in
    record {
      read = r;
      at = slice_get-get_or reads n d (omega arith);
      is_read = subst (λ x. IsRead x r) (sym is) (zip_at IsRead files reads n f d h lt);
    }

pub path_is : (files : List DsdlFile) (n : ℕ) (f : DsdlFile) (path : List ℕ) → n < length files → f ≡ get_or files n f → path ≡ f.path → path_at files n ≡ Some path
path_is files n f path lt is same =
    let paths = map (λ (x : DsdlFile). x.path) files in
    slice_get-get_or paths n f.path (omega (arith, length-map files (λ (x : DsdlFile). x.path)))
    ∙ ap Some (get_or-map (λ (x : DsdlFile). x.path) files n f f.path lt ∙ ap (λ (x : DsdlFile). x.path) (sym is) ∙ sym same)

-- the scope in which a file is valued is that of the definitions
same_scope : (sources : List Source) (done : List Done) (p : Progress) (r : Read) → Holds sources done p → scope_in p.scope r ≡ scope_of sources done r
same_scope sources done p r h =
    let of : List Definition → List Print → List TypeConsts → Scope = λ ds prints ms. record { constants = []; offset = None; namespace = record { definitions = ds; prints = prints }; own = r.name.id.name; members = ms } in
    ap (λ ds. of ds p.scope.namespace.prints p.scope.members) h.types.definitions
    ∙ ap (λ l. of (map definition_of (meant sources done)) l p.scope.members) h.types.no_prints
    ∙ ap (of (map definition_of (meant sources done)) []) h.types.members

pub so_far_none : (reads : List Read) (order : List ℕ) (p : Progress) → Holds (sources_of reads) [] p → SoFar reads order 0 p
so_far_none reads order p h = record { done = []; left = refl; holds = h }

-- what is valued next
next_is : (reads : List Read) (order : List ℕ) (k n : ℕ) (done : List Done) (r : Read) → k < length order → n ≡ get_or order k 0 → slice_get reads n ≡ Some r →
    valued_behind reads done (drop k order) ≡ with_outcome (λ more. valued_behind reads more (drop (k + 1) order)) done n (outcome_behind (sources_of reads) done r)
next_is reads order k n done r lt is at =
    ap (valued_behind reads done) (drop_more order k 0 lt ∙ ap (λ m. m ∷ drop (k + 1) order) (sym is))
    ∙ ap (with_file (λ more. valued_behind reads more (drop (k + 1) order)) (sources_of reads) done n) at

pub so_far_more : (reads : List Read) (order : List ℕ) (k n : ℕ) (p q : Progress) (r : Read) (o : Outcome) → (h : SoFar reads order k p) → k < length order → n ≡ get_or order k 0 → slice_get reads n ≡ Some r →
    outcome (scope_in p.scope r) r.path r.name r.lines ≡ Ok o → ((before : List Done) → Holds (sources_of reads) before p → Holds (sources_of reads) (with_done before n o) q) → SoFar reads order (k + 1) q
so_far_more reads order k n p q r o h lt is at gives holds = record {
  done = with_done h.done n o;
  left = sym (next_is reads order k n h.done r lt is at
      ∙ ap (with_outcome (λ more. valued_behind reads more (drop (k + 1) order)) h.done n) (ap (λ s. outcome s r.path r.name r.lines) (sym (same_scope (sources_of reads) h.done p r h.holds)) ∙ gives)) ∙ h.left;
  holds = holds h.done h.holds;
}

pub stops_at : (files : List DsdlFile) (reads : List Read) (order : List ℕ) (k n : ℕ) (p : Progress) (r : Read) (path : List ℕ) (line : ℕ) (why : DsdlWhy) → (h : SoFar reads order k p) → k < length order →
    n ≡ get_or order k 0 → slice_get reads n ≡ Some r → outcome (scope_in p.scope r) r.path r.name r.lines ≡ Err (record { line = line; why = why }) → path_at files n ≡ Some path →
    StopsAt files reads order path line why
stops_at files reads order k n p r path line why h lt is at gives named = record {
  file = n;
  stopped = sym h.left ∙ next_is reads order k n h.done r lt is at
      ∙ ap (with_outcome (λ more. valued_behind reads more (drop (k + 1) order)) h.done n) (ap (λ s. outcome s r.path r.name r.lines) (sym (same_scope (sources_of reads) h.done p r h.holds)) ∙ gives);
  named = named;
}

pub so_far_all : (reads : List Read) (order : List ℕ) (k : ℕ) (p : Progress) → SoFar reads order k p → length order ≤ k → IsValuedTo reads order p
so_far_all reads order k p h le = record { done = h.done; valued_all = sym h.left ∙ ap (valued_behind reads h.done) (drop_all k order le); holds = h.holds }

-- a scope with the same types
pub moved : (sources : List Source) (done : List Done) (p : Progress) (scope : Scope) → scope.namespace ≡ p.scope.namespace → scope.members ≡ p.scope.members → Holds sources done p →
    Holds sources done (record p { scope = scope })
moved sources done p scope names members h = record {
  types = record {
    definitions = ap (λ (n : Namespace). n.definitions) names ∙ h.types.definitions;
    members = members ∙ h.types.members;
    no_prints = ap (λ (n : Namespace). n.prints) names ∙ h.types.no_prints;
    numbers = h.types.numbers;
    doubles = h.types.doubles;
    double_numbers = h.types.double_numbers;
  };
  prints = h.prints;
}

pub moved_sound : (p : Progress) (scope : Scope) → scope.namespace ≡ p.scope.namespace → scope.members ≡ p.scope.members → IsSound p → IsSound (record p { scope = scope })
moved_sound p scope names members s = record {
  definitions = subst (λ (n : Namespace). All IsDefinition n.definitions) (sym names) s.definitions;
  members = subst (All (λ (t : TypeConsts). AreConstants t.constants)) (sym members) s.members;
  doubles = s.doubles;
  places = places_moved p.scope scope p.places names members s.places;
}

pub has_statements : (files : List DsdlFile) (names : List FileName) → WereRead files names → (n : ℕ) (f : DsdlFile) → n < length files → f ≡ get_or files n f → HasStatements f.text
has_statements files names h n f lt is = let r = read_at files h.reads h.are_read n f lt is in (r.read.lines, r.is_read.text)

pub has_name : (files : List DsdlFile) (names : List FileName) → WereRead files names → (n : ℕ) (f : DsdlFile) (m : FileName) → n < length files → f ≡ get_or files n f → m ≡ get_or names n m → file_name_of f.path ≡ Ok m
has_name files names h n f m lt is at =
    let r = read_at files h.reads h.are_read n f lt is in
    let name : Read → FileName = λ x. x.name in
    let here : m ≡ r.read.name = at ∙ ap (λ l. get_or l n m) (sym h.named) ∙ get_or-map name h.reads n r.read m (omega (arith, zip_long IsRead files h.reads h.are_read))
    ∙ ap name (get_or_from_slice_get h.reads n r.read r.read r.at) in
    r.is_read.named ∙ ap Ok (sym here)

pub name_count : (files : List DsdlFile) (names : List FileName) → WereRead files names → length names ≡ length files
name_count files names h = sym (ap length h.named) ∙ length-map h.reads (λ (r : Read). r.name) ∙ sym (zip_long IsRead files h.reads h.are_read)

pub source_count : (files : List DsdlFile) (reads : List Read) → AreRead files reads → length (sources_of reads) ≡ length files
source_count files reads h = length-map reads source_of ∙ sym (zip_long IsRead files reads h)

pub source_at : (reads : List Read) (n : ℕ) (r : Read) → slice_get reads n ≡ Some r → n < length reads → source_of r ≡ get_or (sources_of reads) n (source_of r)
source_at reads n r at lt = sym (get_or-map source_of reads n r (source_of r) lt ∙ ap source_of (get_or_from_slice_get reads n r r at))

first_at : (files : List DsdlFile) (reads : List Read) → AreRead files reads → (firsts : List ℕ) → firsts ≡ first_numbers (sources_of reads) → (n : ℕ) (r : Read) → n < length files → slice_get reads n ≡ Some r →
    (get_or firsts n 0 == n) ≡ is_first (sources_of reads) n
first_at files reads h firsts e n r lt at =
    let long = zip_long IsRead files reads h in
    ap (λ l. get_or l n 0 == n) e ∙ first_is (sources_of reads) n (source_of r) (omega (arith, source_count files reads h)) (source_at reads n r at (omega arith))

-- one file more, with the scope as the call leaves it
pub one_more : (files : List DsdlFile) (reads : List Read) → AreRead files reads → (firsts : List ℕ) → firsts ≡ first_numbers (sources_of reads) → (order : List ℕ) (k n : ℕ) (f : DsdlFile) (p q : Progress) (scope : Scope) (o : Outcome) →
    SoFar reads order k p → k < length order → n ≡ get_or order k 0 → n < length files → f ≡ get_or files n f → ((r : Read) → IsRead f r → outcome (scope_in p.scope r) r.path r.name r.lines ≡ Ok o) →
    scope.namespace ≡ p.scope.namespace → scope.members ≡ p.scope.members →
    ((sources : List Source) (before : List Done) → (get_or firsts n 0 == n) ≡ is_first sources n → Holds sources before (record p { scope = scope }) → Holds sources (with_done before n o) q) → SoFar reads order (k + 1) q
one_more files reads h firsts e order k n f p q scope o so_far lt is within at gives names members added =
    let r = read_at files reads h n f within at in
    so_far_more reads order k n p q r.read o so_far lt is r.at (gives r.read r.is_read)
    (λ before holds. added (sources_of reads) before (first_at files reads h firsts e n r.read within r.at) (moved (sources_of reads) before p scope names members holds))

pub stops_here : (files : List DsdlFile) (reads : List Read) → AreRead files reads → (order : List ℕ) (k n : ℕ) (f : DsdlFile) (p : Progress) (path : List ℕ) (line : ℕ) (why : DsdlWhy) → SoFar reads order k p → k < length order →
    n ≡ get_or order k 0 → n < length files → f ≡ get_or files n f → ((r : Read) → IsRead f r → outcome (scope_in p.scope r) r.path r.name r.lines ≡ Err (record { line = line; why = why })) → path ≡ f.path →
    StopsAt files reads order path line why
stops_here files reads h order k n f p path line why so_far lt is within at gives same =
    let r = read_at files reads h n f within at in
    stops_at files reads order k n p r.read path line why so_far lt is r.at (gives r.read r.is_read) (path_is files n f path within at same)

pub firsts_count : (files : List DsdlFile) (names : List FileName) (firsts : List ℕ) → WereRead files names → ((reads : List Read) → AreRead files reads → firsts ≡ first_numbers (sources_of reads)) → length firsts ≡ length files
firsts_count files names firsts h e =
    ap length (e h.reads h.are_read) ∙ length-map (sources_of h.reads) (λ (t : Source). unwrap_or (file_of (sources_of h.reads) t.id) 0) ∙ source_count files h.reads h.are_read
