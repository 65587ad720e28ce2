-- A file that passed is refused by no pass.
use Rattle.std.proofs.Common.{◌≡◌, ◌≢◌, ℕ, ◌<◌, ◌≤◌, suc, arith, length-append, List, ◌∷◌, ◌++◌, length, take, drop, get_or, Result, Ok, Err, refl, sym, ap, ◌∙◌}
use Rattle.std.specs.List.{All, AllZip}
use Rattle.dsdl_files.specs.declared.file.DsdlFile.{DsdlFile}
use Rattle.dsdl_names.specs.Names.{file_name_of}
use Rattle.dsdl_names.specs.declared.FileName.{FileName}
use Rattle.dsdl_names.specs.declared.NameError.{NameError}
use Rattle.dsdl_names.specs.declared.NameError.TheVariants as name_error
use Rattle.dsdl_parse.specs.Ast.{IsAst, FirstBad, IsParsedOneWay, AreStatements}
use Rattle.dsdl_parse.specs.Ast as ast
use Rattle.dsdl_parse.specs.Lines.{AreLines, none, last, more}
use Rattle.dsdl_parse.specs.declared.statement.Statement.{Statement}
use Rattle.dsdl_parse.specs.declared.syntax.SyntaxError.{SyntaxError}
use Rattle.dsdl_parse.specs.declared.syntax.SyntaxError.TheVariants as syntax_error
use Rattle.dsdl_resolve.specs.Passes.{Pass, NameRefuses, SyntaxRefuses, Passes, IsFirst, AreWithinLimits, FirstRefusal, name, syntax}
use Rattle.dsdl_resolve.specs.Reads.{Read, IsRead, AreRead}
use Rattle.dsdl_resolve.specs.Refusals.{IsRefusal}
use Rattle.dsdl_resolve.specs.declared.error.DsdlError.{DsdlError}
use Rattle.dsdl_resolve.specs.declared.error.DsdlError.TheVariants as dsdl_error
use Rattle.dsdl_resolve.specs.declared.why.DsdlWhy.{DsdlWhy}
use Rattle.dsdl_resolve.specs.declared.why.DsdlWhy.TheVariants as cause
use Rattle.dsdl_resolve.proofs.Lists.{parts_at, zip_all}

pub name_clear : (f : DsdlFile) (n : FileName) → file_name_of f.path ≡ Ok n → Passes NameRefuses f
name_clear f n e line why (error, g, is, place) = cc

pub read_clear : IsParsedOneWay → (f : DsdlFile) (r : Read) → IsRead f r → Passes SyntaxRefuses f
read_clear law f r h line why (bad, is) = law.not_both f.text line r.lines bad h.text

-- the file at a place is the first that is refused where those before it pass
pub first_at : (refuses : Pass) (files : List DsdlFile) (i : ℕ) (f : DsdlFile) (path : List ℕ) (line : ℕ) (why : DsdlWhy) → i < length files → get_or files i f ≡ f →
    All (Passes refuses) (take i files) → path ≡ f.path → refuses f line why → IsFirst refuses files path line why
first_at refuses files i f path line why lt is clear same refused = record {
  before = take i files;
  file = f;
  behind = drop (suc i) files;
  parts = parts_at files i f lt ∙ ap (λ x. take i files ++ x ∷ drop (suc i) files) is;
  named = same;
  refused = refused;
  earlier = clear;
}

pub told : (P Q : List ℕ → ℕ → DsdlWhy → Type 0) → ((path : List ℕ) (line : ℕ) (why : DsdlWhy) → P path line why → Q path line why) → (e : DsdlError) → IsRefusal P e → IsRefusal Q e
told P Q f (dsdl_error.At path line why) h = f path line why h
told P Q f dsdl_error.NoMemory h = tt

module _ (files : List DsdlFile) (i : ℕ) (f : DsdlFile) (lt : i < length files) (is : f ≡ get_or files i f) where
  pub first_name : (ns : List FileName) (error : NameError) (text : List ℕ) (e : DsdlError) → AllZip (λ file n. file_name_of file.path ≡ Ok n) (take i files) ns →
      ((◌≢◌ {A = Result FileName NameError} (Err error) (Err name_error.NoMemory)) → Err error ≡ file_name_of text) → text ≡ f.path →
      IsRefusal (λ path line why. (error ≢ name_error.NoMemory) × (path ≡ f.path) × (line ≡ 0) × (why ≡ cause.Name error)) e → IsRefusal (IsFirst NameRefuses files) e
  first_name ns error text e named answer same h =
      told _ _ (λ path line why r.
      let no : ◌≢◌ {A = Result FileName NameError} (Err error) (Err name_error.NoMemory) = λ q. r.0 (cc) in
      first_at NameRefuses files i f path line why lt (sym is) (zip_all _ (Passes NameRefuses) name_clear (take i files) ns named) r.1
      (error, sym (answer no ∙ ap file_name_of same), r.3, r.2)) e h

  pub first_text : {X : Type 0} → IsParsedOneWay → (reads : List Read) (error : SyntaxError) (e : DsdlError) → AreRead (take i files) reads →
      ((line : ℕ) → ◌≡◌ {A = Result X SyntaxError} (Err error) (Err (syntax_error.Syntax line)) → FirstBad f.text line) →
      IsRefusal (λ path line why. (error ≡ syntax_error.Syntax line) × (path ≡ f.path) × (why ≡ cause.Syntax)) e → IsRefusal (IsFirst SyntaxRefuses files) e
  first_text law reads error e read answer h =
      told _ _ (λ path line why r.
      first_at SyntaxRefuses files i f path line why lt (sym is) (zip_all _ (Passes SyntaxRefuses) (read_clear law) (take i files) reads read) r.1
      (answer line (ap Err r.0), r.2)) e h

pub name_refusal : (files : List DsdlFile) → AreWithinLimits files → (e : DsdlError) → IsRefusal (IsFirst NameRefuses files) e → IsRefusal (FirstRefusal files) e
name_refusal files within e h = told _ _ (λ path line why r. name within r) e h

module _ (files : List DsdlFile) (within : AreWithinLimits files) (ns : List FileName) (named : AllZip (λ file n. file_name_of file.path ≡ Ok n) files ns) where
  pub syntax_refusal : (e : DsdlError) → IsRefusal (IsFirst SyntaxRefuses files) e → IsRefusal (FirstRefusal files) e
  syntax_refusal e h = told _ _ (λ path line why r. syntax within (zip_all _ (Passes NameRefuses) name_clear files ns named) r) e h

-- a text has at most as many lines as bytes
few_lines : {text : List ℕ} {lines : List (List ℕ)} → AreLines text lines → length lines ≤ length text
few_lines none = omega arith
few_lines (last lt clean) = omega arith
few_lines (more {text} {rest} {lines} raw clean d e) = omega (arith, few_lines d, ap length e, length-append raw (10 ∷ rest))

as_many : {lines : List (List ℕ)} {ss : List Statement} → AreStatements lines ss → length ss ≡ length lines
as_many ast.none = refl
as_many (ast.more is d) = ap (λ n. suc n) (as_many d)

pub few_statements : (text : List ℕ) (ss : List Statement) → IsAst text ss → length ss ≤ length text
few_statements text ss (lines, d, good) = omega (arith, few_lines d, as_many good)
