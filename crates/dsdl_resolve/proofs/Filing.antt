-- What an open file keeps when it takes a statement, and what it is at its end.
use Rattle.std.proofs.Common.{◌≡◌, ℕ, suc, ◌+◌, ◌^◌, ◌<◌, ◌≤◌, ◌||◌, Bool, true, false, List, [], ◌∷◌, ◌++◌, length, take, drop, get_or, Option, Some, None, Ok, Err, refl, sym, ap, ◌∙◌, subst, arith, append_assoc}
use Rattle.std.specs.List.{All, list_any, before_first}
use Rattle.std.specs.Option.{option_map, option_or, option_to_list}
use Rattle.std.proofs.Math.Seq.{drop-cons}
use Rattle.std.proofs.lemmas.Bool.{cond-true, cond-false, false≢true}
use Rattle.std.proofs.lemmas.List.{append-nil, take_more, take_all, drop_all}
use Rattle.std.proofs.lemmas.List.Elements.{All-nil}
use Rattle.dsdl_names.specs.declared.FileName.{FileName}
use Rattle.dsdl_names.specs.declared.TypeId.{TypeId}
use Rattle.dsdl_parse.specs.declared.statement.Statement.{Statement}
use Rattle.dsdl_parse.specs.declared.statement.Statement.TheVariants as statement
use Rattle.dsdl_types.specs.Definitions.{IsDefinition}
use Rattle.dsdl_types.specs.Views.{flds}
use Rattle.dsdl_types.specs.declared.definition.Parts.TheVariants as parts
use Rattle.dsdl_types.specs.declared.namespace.Print.{Print}
use Rattle.const_expr.specs.Constants.{IsConst}
use Rattle.const_expr.specs.Member.{AreConstants, IsScope}
use Rattle.const_expr.specs.declared.scope.NamedConst.{NamedConst}
use Rattle.const_expr.specs.declared.scope.Scope.{Scope}
use Rattle.dsdl_resolve.specs.Additions.{IsBefore, IsStatementRefusal, Judges, Refuses}
use Rattle.dsdl_resolve.specs.Answers.{Answers}
use Rattle.dsdl_resolve.specs.Files.{IsFile, IsFileRefusal, IsRequest, IsStepped}
use Rattle.dsdl_resolve.specs.Judged.{composite_of, finished, in_file, message_of, on_line, outcome, prints_at, prints_from, prints_of, refusal_at, refusal_at_end, refusal_from, refusal_valued, unless_refused}
use Rattle.dsdl_resolve.specs.Opens.{IsOpen, IsReady, IsTaken, between, said_of}
use Rattle.dsdl_resolve.specs.Place.{place, onto_section, last_section}
use Rattle.dsdl_resolve.specs.Rules.{least, rules_at_end, split_rules}
use Rattle.dsdl_resolve.specs.Said.{Said}
use Rattle.dsdl_resolve.specs.Says.{is_split}
use Rattle.dsdl_resolve.specs.SoundSections.{KeepsRules}
use Rattle.dsdl_resolve.specs.Standing.{Stands}
use Rattle.dsdl_resolve.specs.Totals.{AreTotals}
use Rattle.dsdl_resolve.specs.Values.{said_by, scope_at}
use Rattle.dsdl_resolve.specs.declared.file.OpenFile.{OpenFile}
use Rattle.dsdl_resolve.specs.declared.open_section.Half.{Half}
use Rattle.dsdl_resolve.specs.declared.open_section.OpenSection.{OpenSection}
use Rattle.dsdl_resolve.specs.declared.addition.Judged.{Judged}
use Rattle.dsdl_resolve.specs.declared.addition.StatementError.{StatementError}
use Rattle.dsdl_resolve.specs.declared.addition.StatementError.TheVariants as statement_error
use Rattle.dsdl_resolve.specs.declared.outcome.FileError.{FileError}
use Rattle.dsdl_resolve.specs.declared.outcome.FileError.TheVariants as file_error
use Rattle.dsdl_resolve.specs.declared.outcome.Outcome.{Outcome}
use Rattle.dsdl_resolve.specs.declared.standing.Standing.{Standing}
use Rattle.dsdl_resolve.specs.declared.outcome.Refused.{Refused}
use Rattle.dsdl_resolve.specs.declared.values.Values.{Values}
use Rattle.dsdl_resolve.specs.declared.why.DsdlWhy.{DsdlWhy}
use Rattle.dsdl_resolve.specs.declared.why.DsdlWhy.TheVariants as why
use Rattle.dsdl_resolve.proofs.SoundFile.{before_last, before_some, last_more, splits}
use Rattle.dsdl_resolve.proofs.SoundSection.{any_more, any_same, kept, map_none, or_none, sound_none}

pub none_kept : AreConstants []
none_kept = All-nil (λ (c : NamedConst). IsConst c.value)

-- the scope of a file between two statements
pub scope_kept : (scope base : Scope) (name : FileName) (ks : List NamedConst) → scope ≡ between (in_file base name) ks → IsScope base → AreConstants ks → IsScope scope
scope_kept scope base name ks e h k = subst IsScope (sym e) (record { types = h.types; constants = k; members = h.members })

pub keeps_none : (S : Scope) → KeepsRules S []
keeps_none S = record { last = sound_none; whole = λ e. refl; half = λ e. absurd (false≢true e) }

pub file_begin : (file : OpenFile) (S : Scope) (lines : List Statement) → IsOpen file.section [] S [] lines → file.request ≡ None → IsFile file [] S [] lines
file_begin file S lines opened none = record {
  section = opened;
  kept = All-nil (λ (c : NamedConst). IsConst c.value);
  request = subst (IsRequest S []) (sym none) refl;
}

pub is_split_only : (s : Statement) → is_split s ≡ true → s ≡ statement.Split
is_split_only statement.Split e = refl
is_split_only statement.Empty e = absurd (false≢true e)
is_split_only (statement.Directive name x) e = absurd (false≢true e)
is_split_only (statement.Constant form name x) e = absurd (false≢true e)
is_split_only (statement.Field form name) e = absurd (false≢true e)
is_split_only (statement.Padding digits) e = absurd (false≢true e)

-- ---- `---`
-- what is known before a statement at its place
pub before_is : (section : OpenSection) (constants : List NamedConst) (S : Scope) (front : List Statement) (s : Statement) (back : List Statement) → IsOpen section constants S front (s ∷ back) →
    IsBefore section.before (place front s back) (said_by S (last_section front))
before_is section constants S front s back h = record {
  standing = h.standing;
  names = h.names;
  totals = subst (λ (d : Said). AreTotals section.before.totals d.union (flds d.fields)) (sym h.says) h.ready.totals;
  empty = λ e. h.keeps.last.none (sym h.standing.entry ∙ e);
}

abbrev no_values : Values
no_values = record { bound = None; value = None }

pub split_refusal : (S : Scope) (front back : List Statement) → refusal_at S (place front statement.Split back) ≡ refusal_valued S (place front statement.Split back) (said_by S (last_section front)) no_values
split_refusal S front back = refl

first_split : (S : Scope) (front back : List Statement) → refusal_at S (place front statement.Split back) ≡ None → list_any is_split front ≡ false
first_split S front back none =
    let p = place front statement.Split back in
    let first = or_none (option_map (λ n. why.Rule n) (least (split_rules p))) _ (sym (split_refusal S front back) ∙ none) in
    (kept (split_rules p) (map_none (λ n. why.Rule n) (least (split_rules p)) first.0)).0

module _ (S : Scope) (sound : All IsDefinition S.namespace.definitions) (file : OpenFile) (constants : List NamedConst) (front back : List Statement)
    (h : IsFile file constants S front (statement.Split ∷ back)) (allowed : refusal_at S (place front statement.Split back) ≡ None) where
  abbrev more : List Statement
  more = front ++ statement.Split ∷ []

  pub split_last : last_section (front ++ statement.Split ∷ []) ≡ []
  split_last = last_more front statement.Split

  pub split_keeps : KeepsRules S (front ++ statement.Split ∷ [])
  split_keeps = splits S sound front back h.section.keeps allowed

  split_request : (half : Half) → half.schema ≡ composite_of (said_of file.section constants) → half.types ≡ file.section.types → IsRequest S (front ++ statement.Split ∷ []) (Some half)
  split_request half schema types =
      let none = first_split S front back allowed in
      let before : before_first is_split more ≡ last_section front = before_last is_split front statement.Split none refl ∙ sym (h.section.keeps.whole none) in
      let says : said_of file.section constants ≡ said_by S (before_first is_split more) = sym h.section.says ∙ ap (said_by S) (sym before) in (
        any_more is_split front statement.Split ∙ or_true (list_any is_split front),
        schema ∙ ap composite_of says,
        types ∙ ap (λ (d : Said). d.types) says,
      )
    where
      or_true : (b : Bool) → (b || true) ≡ true
      or_true true = refl
      or_true false = refl

  -- the next section begins
  pub split_file : (new : OpenFile) (half : Half) → IsOpen new.section [] S (front ++ statement.Split ∷ []) back → new.request ≡ Some half →
      half.schema ≡ composite_of (said_of file.section constants) → half.types ≡ file.section.types → IsFile new [] S (front ++ statement.Split ∷ []) back
  split_file new half opened is schema types = record {
    section = opened;
    kept = All-nil (λ (c : NamedConst). IsConst c.value);
    request = subst (IsRequest S (front ++ statement.Split ∷ [])) (sym is) (split_request half schema types);
  }

-- ---- another statement
request_more : (S : Scope) (front : List Statement) (s : Statement) (r : Option Half) → is_split s ≡ false → IsRequest S front r → IsRequest S (front ++ s ∷ []) r
request_more S front s None plain h = any_same is_split front s plain ∙ h
request_more S front s (Some half) plain h =
    let before = sym (before_some is_split front (s ∷ []) h.0) in
    (any_same is_split front s plain ∙ h.0, h.1 ∙ ap (λ l. composite_of (said_by S l)) before, h.2 ∙ ap (λ l. (said_by S l).types) before)

pub stepped : (S : Scope) (path : List ℕ) (front : List Statement) (s : Statement) (back : List Statement) (old new : OpenFile) (after : List NamedConst) (vs : Values) (print : Option Print) (line : ℕ) →
    is_split s ≡ false → IsTaken S front back s vs new.section after → new.request ≡ old.request → IsRequest S front old.request → line ≡ length front + 1 →
    option_to_list print ≡ prints_of (scope_at S (said_by S (last_section front)) s) path line s → new.prints ≡ old.prints ++ option_to_list print → IsStepped old new after S path front s back
stepped S path front s back old new after vs print line plain t same request place_is says prints = record {
  allowed = t.allowed;
  file = record {
    section = t.next;
    kept = t.kept;
    request = request_more S front s new.request plain (subst (IsRequest S front) (sym same) request);
  };
  prints = prints ∙ ap (λ l. old.prints ++ l) (says ∙ ap (λ n. prints_of (scope_at S (said_by S (last_section front)) s) path n s) place_is);
}

pub split_stepped : (S : Scope) (path : List ℕ) (front back : List Statement) (old new : OpenFile) (after : List NamedConst) → refusal_at S (place front statement.Split back) ≡ None →
    IsFile new after S (front ++ statement.Split ∷ []) back → new.prints ≡ old.prints → IsStepped old new after S path front statement.Split back
split_stepped S path front back old new after allowed file prints = record { allowed = allowed; file = file; prints = prints ∙ sym (append-nil old.prints) }

-- ---- over all statements
pub record Filed (file : OpenFile) (constants : List NamedConst) (S : Scope) (port : Option ℕ) (path : List ℕ) (lines : List Statement) (i : ℕ) : Type 0 where
  pub file_is : IsFile file constants S (take i lines) (drop i lines)
  pub refusal : refusal_from S port [] lines ≡ refusal_from S port (take i lines) (drop i lines)
  pub prints : prints_from S path [] lines ≡ file.prints ++ prints_from S path (take i lines) (drop i lines)

pub filed_none : (file : OpenFile) (S : Scope) (port : Option ℕ) (path : List ℕ) (lines : List Statement) → IsFile file [] S [] lines → file.prints ≡ [] → Filed file [] S port path lines 0
filed_none file S port path lines h e = record { file_is = h; refusal = refl; prints = ap (λ l. l ++ prints_from S path [] lines) (sym e) }

module _ (S : Scope) (port : Option ℕ) (path : List ℕ) (lines : List Statement) (i : ℕ) (lt : i < length lines) (s : Statement) (is : s ≡ get_or lines i s) where
  abbrev front : List Statement
  front = take i lines

  pub behind_is : drop i lines ≡ s ∷ drop (i + 1) lines
  behind_is = drop-cons lines i s lt ∙ ap (λ x. x ∷ drop (suc i) lines) (sym is) ∙ ap (λ n. s ∷ drop n lines) (let e : suc i ≡ i + 1 = omega arith in e)

  more_is : take (i + 1) lines ≡ front ++ s ∷ []
  more_is = take_more lines i s lt ∙ ap (λ x. front ++ x ∷ []) (sym is)

  module _ (file : OpenFile) (constants : List NamedConst) (h : Filed file constants S port path lines i) where
    pub file_here : IsFile file constants S (take i lines) (s ∷ drop (i + 1) lines)
    file_here = subst (IsFile file constants S front) behind_is h.file_is

    refusal_here : refusal_from S port [] lines ≡ option_or (on_line (length front + 1) (refusal_at S (place front s (drop (i + 1) lines)))) (refusal_from S port (front ++ s ∷ []) (drop (i + 1) lines))
    refusal_here = h.refusal ∙ ap (refusal_from S port front) behind_is

    pub filed_more : (new : OpenFile) (after : List NamedConst) → IsStepped file new after S path (take i lines) s (drop (i + 1) lines) → Filed new after S port path lines (i + 1)
    filed_more new after t = record {
      file_is = subst (λ l. IsFile new after S l (drop (i + 1) lines)) (sym more_is) t.file;
      refusal =
          refusal_here ∙ ap (λ w. option_or (on_line (length front + 1) w) (refusal_from S port (front ++ s ∷ []) (drop (i + 1) lines))) t.allowed
          ∙ ap (λ l. refusal_from S port l (drop (i + 1) lines)) (sym more_is);
      prints =
          h.prints ∙ ap (λ l. file.prints ++ prints_from S path front l) behind_is
          ∙ sym (append_assoc file.prints (prints_at S path front s) (prints_from S path (front ++ s ∷ []) (drop (i + 1) lines)))
          ∙ ap (λ l. l ++ prints_from S path (front ++ s ∷ []) (drop (i + 1) lines)) (sym t.prints)
          ∙ ap (λ l. new.prints ++ prints_from S path l (drop (i + 1) lines)) (sym more_is);
    }

    pub refused_here : (line : ℕ) (cause : DsdlWhy) → line ≡ length (take i lines) + 1 → refusal_at S (place (take i lines) s (drop (i + 1) lines)) ≡ Some cause →
        refusal_from S port [] lines ≡ Some (record { line = line; why = cause })
    refused_here line cause at e =
        refusal_here ∙ ap (λ w. option_or (on_line (length front + 1) w) (refusal_from S port (front ++ s ∷ []) (drop (i + 1) lines))) e
        ∙ ap (λ n. Some (record { line = n; why = cause })) (sym at)

-- ---- at the end
module _ (S : Scope) (port : Option ℕ) (path : List ℕ) (lines : List Statement) (i : ℕ) (le : length lines ≤ i) (file : OpenFile) (constants : List NamedConst) (h : Filed file constants S port path lines i) where
  all_is : take i lines ≡ lines
  all_is = take_all i lines le

  none_is : drop i lines ≡ []
  none_is = drop_all i lines le

  pub file_end : IsFile file constants S lines []
  file_end = subst (λ l. IsFile file constants S l []) all_is (subst (IsFile file constants S (take i lines)) none_is h.file_is)

  pub refusal_end : refusal_from S port [] lines ≡ on_line (length lines) (refusal_at_end port lines)
  refusal_end = h.refusal ∙ ap (refusal_from S port (take i lines)) none_is ∙ ap (λ l. on_line (length l) (refusal_at_end port l)) all_is

  pub prints_end : prints_from S path [] lines ≡ file.prints
  prints_end = h.prints ∙ ap (λ l. file.prints ++ prints_from S path (take i lines) l) none_is ∙ append-nil file.prints

-- what a file answers
pub answers_refused : (S : Scope) (path : List ℕ) (name : FileName) (lines : List Statement) (r : Refused) → refusal_from (in_file S name) name.port [] lines ≡ Some r → outcome S path name lines ≡ Err r
answers_refused S path name lines r e = ap (λ w. unless_refused w (finished (in_file S name) name lines (prints_from (in_file S name) path [] lines))) e

pub answers_done : (S : Scope) (path : List ℕ) (name : FileName) (lines : List Statement) (prints : List Print) (done : Outcome) → refusal_from (in_file S name) name.port [] lines ≡ None →
    prints_from (in_file S name) path [] lines ≡ prints → done ≡ finished (in_file S name) name lines prints → outcome S path name lines ≡ Ok done
answers_done S path name lines prints done e p d =
    ap (λ w. unless_refused w (finished (in_file S name) name lines (prints_from (in_file S name) path [] lines))) e
    ∙ ap (λ l. Ok (finished (in_file S name) name lines l)) p ∙ ap Ok (sym d)

-- ---- what a file defines
pub finished_message : (S : Scope) (name : FileName) (lines : List Statement) (file : OpenFile) (constants ks : List NamedConst) (half : Half) (id : TypeId) → IsFile file constants S lines [] → file.request ≡ None →
    half.schema ≡ composite_of (said_of file.section constants) → half.types ≡ file.section.types → id ≡ name.id → ks ≡ constants →
    record { definition = record { id = id; port = name.port; types = half.types; parts = parts.Message half.schema }; constants = ks; prints = file.prints } ≡ finished S name lines file.prints
finished_message S name lines file constants ks half id h none schema types same_id same_ks =
    let plain : list_any is_split lines ≡ false = subst (IsRequest S lines) none h.request in
    let says : said_of file.section constants ≡ said_by S lines = sym h.section.says ∙ ap (said_by S) (h.section.keeps.whole plain) in
    ap (λ i. record { definition = record { id = i; port = name.port; types = half.types; parts = parts.Message half.schema }; constants = ks; prints = file.prints }) same_id
    ∙ ap (λ k. record { definition = record { id = name.id; port = name.port; types = half.types; parts = parts.Message half.schema }; constants = k; prints = file.prints }) same_ks
    ∙ ap (λ s. record { definition = record { id = name.id; port = name.port; types = half.types; parts = parts.Message s }; constants = constants; prints = file.prints }) schema
    ∙ ap (λ t. record { definition = record { id = name.id; port = name.port; types = t; parts = parts.Message (composite_of (said_of file.section constants)) }; constants = constants; prints = file.prints }) types
    ∙ ap (λ d. message_of name d file.prints) says ∙ sym (cond-false (list_any is_split lines) _ _ plain)

pub finished_service : (S : Scope) (name : FileName) (lines : List Statement) (file : OpenFile) (constants ks : List NamedConst) (asked half : Half) (id : TypeId) (texts : List (List ℕ)) → IsFile file constants S lines [] → file.request ≡ Some asked →
    half.schema ≡ composite_of (said_of file.section constants) → half.types ≡ file.section.types → id ≡ name.id → ks ≡ [] → texts ≡ asked.types ++ half.types →
    record { definition = record { id = id; port = name.port; types = texts; parts = parts.Service asked.schema half.schema }; constants = ks; prints = file.prints } ≡ finished S name lines file.prints
finished_service S name lines file constants ks asked half id texts h some schema types same_id same_ks joined =
    let request = subst (IsRequest S lines) some h.request in
    let first = said_by S (before_first is_split lines) in
    let last = said_by S (last_section lines) in
    let schema_is : half.schema ≡ composite_of last = schema ∙ ap composite_of (sym h.section.says) in
    let types_is : half.types ≡ last.types = types ∙ ap (λ (d : Said). d.types) (sym h.section.says) in
    ap (λ i. record { definition = record { id = i; port = name.port; types = texts; parts = parts.Service asked.schema half.schema }; constants = ks; prints = file.prints }) same_id
    ∙ ap (λ k. record { definition = record { id = name.id; port = name.port; types = texts; parts = parts.Service asked.schema half.schema }; constants = k; prints = file.prints }) same_ks
    ∙ ap (λ t. record { definition = record { id = name.id; port = name.port; types = t; parts = parts.Service asked.schema half.schema }; constants = []; prints = file.prints }) joined
    ∙ ap (λ s. record { definition = record { id = name.id; port = name.port; types = asked.types ++ half.types; parts = parts.Service s half.schema }; constants = []; prints = file.prints }) request.1
    ∙ ap (λ s. record { definition = record { id = name.id; port = name.port; types = asked.types ++ half.types; parts = parts.Service (composite_of first) s }; constants = []; prints = file.prints }) schema_is
    ∙ ap (λ t. record { definition = record { id = name.id; port = name.port; types = t ++ half.types; parts = parts.Service (composite_of first) (composite_of last) }; constants = []; prints = file.prints }) request.2
    ∙ ap (λ t. record { definition = record { id = name.id; port = name.port; types = first.types ++ t; parts = parts.Service (composite_of first) (composite_of last) }; constants = []; prints = file.prints }) types_is
    ∙ sym (cond-true (list_any is_split lines) _ _ request.0)

-- ---- from what calls ensure
pub split_refused : (S : Scope) (front back : List Statement) (file : OpenFile) (constants : List NamedConst) (e : StatementError) → IsFile file constants S front (statement.Split ∷ back) →
    IsStatementRefusal (λ cause. (scope : Scope) (vs : Values) → Refuses scope file.section.before statement.Split vs cause) e →
    IsStatementRefusal (λ cause. refusal_at S (place front statement.Split back) ≡ Some cause) e
split_refused S front back file constants (statement_error.Refused cause) h refused =
    split_refusal S front back ∙ refused S no_values (place front statement.Split back) (said_by S (last_section front)) refl (before_is file.section constants S front statement.Split back h.section)
split_refused S front back file constants statement_error.NoMemory h refused = tt

pub split_done : (S : Scope) → All IsDefinition S.namespace.definitions → (file : OpenFile) (constants : List NamedConst) (front back : List Statement) → IsFile file constants S front (statement.Split ∷ back) → (s : Statement) → s ≡ statement.Split → (j : Judged) →
    ((scope : Scope) (vs : Values) → Judges scope file.section.before statement.Split vs j) → (standing : Standing) →
    ((f section : List Statement) → Stands file.section.before.standing f section → Stands standing (f ++ s ∷ []) (onto_section section s)) → (next : OpenSection) →
    ((scope : Scope) (f : List Statement) → Stands standing f [] → last_section f ≡ [] → KeepsRules scope f → IsOpen next [] scope f back) → (half : Half) →
    ((ks : List NamedConst) → half.schema ≡ composite_of (said_of file.section ks)) → half.types ≡ file.section.types → (new : OpenFile) → new.section ≡ next → new.request ≡ Some half → (ks : List NamedConst) → ks ≡ [] →
    (refusal_at S (place front statement.Split back) ≡ None) × IsFile new ks S (front ++ statement.Split ∷ []) back
split_done S sound file constants front back h s is j judged standing stands next begins half schema types new new_section new_request ks none =
    let before = before_is file.section constants S front statement.Split back h.section in
    let allowed : refusal_at S (place front statement.Split back) ≡ None =
    split_refusal S front back ∙ (judged S no_values (place front statement.Split back) (said_by S (last_section front)) refl before).allowed in
    let stands_here : Stands standing (front ++ statement.Split ∷ []) [] =
    subst (λ x. Stands standing (front ++ x ∷ []) (onto_section (last_section front) x)) is (stands front (last_section front) h.section.standing) in
    let opened = begins S (front ++ statement.Split ∷ []) stands_here (split_last S sound file constants front back h allowed) (split_keeps S sound file constants front back h allowed) in
    (allowed, subst (λ k. IsFile new k S (front ++ statement.Split ∷ []) back) (sym none) (split_file S sound file constants front back h allowed new half (subst (λ x. IsOpen x [] S (front ++ statement.Split ∷ []) back) (sym new_section) opened) new_request (schema constants) types))

pub at_refused : (line : ℕ) (e : StatementError) (r : FileError) (P : DsdlWhy → Type 0) → IsFileRefusal (λ n cause. (n ≡ line) × (e ≡ statement_error.Refused cause)) r → IsStatementRefusal P e → IsFileRefusal (λ n cause. (n ≡ line) × P cause) r
at_refused line e (file_error.Refused r) P h k = (h.0, subst (IsStatementRefusal P) h.1 k)
at_refused line e file_error.NoMemory P h k = tt

-- the number of fields stays small
pub few_fields : (section : OpenSection) → IsReady section → section.before.standing.fields < 2 ^ 62
few_fields section h = omega (arith, h.within.variants, h.counted)

-- ---- the answer of a whole file
pub loop_refused : (S : Scope) (base : Scope) (name : FileName) (path : List ℕ) (lines : List Statement) (i : ℕ) (lt : i < length lines) (s : Statement) (is : s ≡ get_or lines i s) (file : OpenFile) (constants : List NamedConst) →
    S ≡ in_file base name → Filed file constants S name.port path lines i → (line : ℕ) → line ≡ length (take i lines) + 1 → (e : FileError) →
    IsFileRefusal (λ n cause. (n ≡ line) × (refusal_at S (place (take i lines) s (drop (i + 1) lines)) ≡ Some cause)) e → Answers (outcome base path name lines) (Err e)
loop_refused S base name path lines i lt s is file constants same h line at (file_error.Refused r) e =
    answers_refused base path name lines r
    (subst (λ t. refusal_from t name.port [] lines ≡ Some r) same
    (refused_here S name.port path lines i lt s is file constants h line r.why at e.1 ∙ ap (λ n. Some (record { line = n; why = r.why })) (sym e.0)))
loop_refused S base name path lines i lt s is file constants same h line at file_error.NoMemory e = tt

pub end_refused : (S : Scope) (base : Scope) (name : FileName) (path : List ℕ) (lines : List Statement) (i : ℕ) (le : length lines ≤ i) (file : OpenFile) (constants : List NamedConst) → S ≡ in_file base name →
    Filed file constants S name.port path lines i → (rule : ℕ) → Some rule ≡ least (rules_at_end name.port lines (last_section lines)) →
    outcome base path name lines ≡ Err (record { line = length lines; why = why.Rule rule })
end_refused S base name path lines i le file constants same h rule e =
    answers_refused base path name lines _
    (subst (λ t. refusal_from t name.port [] lines ≡ Some (record { line = length lines; why = why.Rule rule })) same
    (refusal_end S name.port path lines i le file constants h ∙ ap (λ w. on_line (length lines) (option_map (λ n. why.Rule n) w)) (sym e)))

pub end_done : (S : Scope) (base : Scope) (name : FileName) (path : List ℕ) (lines : List Statement) (i : ℕ) (le : length lines ≤ i) (file : OpenFile) (constants : List NamedConst) (done : Outcome) → S ≡ in_file base name →
    Filed file constants S name.port path lines i → None ≡ least (rules_at_end name.port lines (last_section lines)) → done ≡ finished S name lines file.prints → outcome base path name lines ≡ Ok done
end_done S base name path lines i le file constants done same h e made =
    answers_done base path name lines file.prints done
    (subst (λ t. refusal_from t name.port [] lines ≡ None) same (refusal_end S name.port path lines i le file constants h ∙ ap (λ w. on_line (length lines) (option_map (λ n. why.Rule n) w)) (sym e)))
    (subst (λ t. prints_from t path [] lines ≡ file.prints) same (prints_end S name.port path lines i le file constants h))
    (made ∙ ap (λ t. finished t name lines file.prints) same)

-- a step at `---`, from what it ensures there
pub split_step : (S : Scope) (path : List ℕ) (front : List Statement) (s : Statement) (back : List Statement) (old new : OpenFile) (ks after : List NamedConst) → is_split s ≡ true → IsFile old ks S front (s ∷ back) →
    (IsFile old ks S front (statement.Split ∷ back) → (refusal_at S (place front statement.Split back) ≡ None) × IsFile new after S (front ++ statement.Split ∷ []) back) → new.prints ≡ old.prints →
    IsStepped old new after S path front s back
split_step S path front s back old new ks after e h split prints =
    let is = is_split_only s e in
    let done = split (subst (λ x. IsFile old ks S front (x ∷ back)) is h) in
    subst (λ x. IsStepped old new after S path front x back) (sym is) (split_stepped S path front back old new after done.0 done.1 prints)

pub split_step_refused : (S : Scope) (front : List Statement) (s : Statement) (back : List Statement) (old : OpenFile) (ks : List NamedConst) (line : ℕ) (e : StatementError) (r : FileError) → is_split s ≡ true → IsFile old ks S front (s ∷ back) →
    IsFileRefusal (λ n cause. (n ≡ line) × (e ≡ statement_error.Refused cause)) r →
    (IsFile old ks S front (statement.Split ∷ back) → IsStatementRefusal (λ cause. refusal_at S (place front statement.Split back) ≡ Some cause) e) →
    IsFileRefusal (λ n cause. (n ≡ line) × (refusal_at S (place front s back) ≡ Some cause)) r
split_step_refused S front s back old ks line e r plain h at split =
    let is = is_split_only s plain in
    subst (λ x. IsFileRefusal (λ n cause. (n ≡ line) × (refusal_at S (place front x back) ≡ Some cause)) r) (sym is)
    (at_refused line e r (λ cause. refusal_at S (place front statement.Split back) ≡ Some cause) at (split (subst (λ x. IsFile old ks S front (x ∷ back)) is h)))
