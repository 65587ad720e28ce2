-- The files that were read, one more.
use Rattle.std.proofs.Common.{◌≡◌, ℕ, ◌+◌, ◌<◌, List, [], ◌∷◌, ◌++◌, length, take, get_or, Option, Some, None, refl, sym, ap, ◌∙◌, subst}
use Rattle.std.proofs.lemmas.List.{map-append}
use Rattle.dsdl_files.specs.declared.file.DsdlFile.{DsdlFile}
use Rattle.dsdl_links.specs.declared.source.Source.{Source}
use Rattle.dsdl_names.specs.declared.FileName.{FileName}
use Rattle.std.specs.Prelude.{IfSome}
use Rattle.dsdl_parse.specs.Ast.{IsAst}
use Rattle.dsdl_parse.specs.declared.syntax.Ast.{Ast}
use Rattle.dsdl_resolve.specs.Kept.{IsKept, AreKept}
use Rattle.dsdl_resolve.specs.Reads.{Read, IsRead, AreRead, source_of, sources_of}
use Rattle.dsdl_resolve.specs.Sources.{IsSource, AreSources}
use Rattle.dsdl_resolve.proofs.Lists.{zip_more, take_next}

pub sources_none : AreSources [] [] []
sources_none = record { reads = []; are_read = tt; named = refl; are = refl }

pub sources_more : (files : List DsdlFile) (names : List FileName) (sources more : List Source) (i : ℕ) (f : DsdlFile) (n : FileName) (s : Source) →
    AreSources (take i files) (take i names) sources → i < length files → f ≡ get_or files i f → i < length names → n ≡ get_or names i n → IsSource f n s → more ≡ sources ++ s ∷ [] →
    AreSources (take (i + 1) files) (take (i + 1) names) more
sources_more files names sources more i f n s h lt is lu at one e = record {
  reads = h.reads ++ one.read ∷ [];
  are_read = subst (λ l. AreRead l (h.reads ++ one.read ∷ [])) (sym (take_next files i f lt is)) (zip_more IsRead (take i files) h.reads f one.read h.are_read one.is_read);
  named = map-append (λ (r : Read). r.name) h.reads (one.read ∷ []) ∙ ap (λ l. l ++ one.read.name ∷ []) h.named ∙ ap (λ m. take i names ++ m ∷ []) one.named ∙ sym (take_next names i n lu at);
  are = e ∙ ap (λ l. l ++ s ∷ []) h.are ∙ ap (λ x. sources_of h.reads ++ x ∷ []) one.is ∙ sym (map-append source_of h.reads (one.read ∷ []));
}

-- the statements that may be kept of one file more
pub kept_more : (files : List DsdlFile) (kept more : List (Option Ast)) (i : ℕ) (f : DsdlFile) (k : Option Ast) (a : Ast) →
    AreKept (take i files) kept → i < length files → f ≡ get_or files i f → IfSome k (λ x. x ≡ a) → IsAst f.text a.lines → more ≡ kept ++ k ∷ [] → AreKept (take (i + 1) files) more
kept_more files kept more i f k a h lt is same ast e =
    subst (AreKept (take (i + 1) files)) (sym e)
    (subst (λ l. AreKept l (kept ++ k ∷ [])) (sym (take_next files i f lt is)) (zip_more IsKept (take i files) kept f k h (one k same)))
  where
    one : (k : Option Ast) → IfSome k (λ x. x ≡ a) → IsKept f k
    one None h = tt
    one (Some x) h = subst (λ (y : Ast). IsAst f.text y.lines) (sym h) ast
