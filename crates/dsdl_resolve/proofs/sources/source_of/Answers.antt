use Rattle.std.proofs.Common.{◌≡◌, refl, ◌∙◌, arith, ap, length, subst}
use Rattle.dsdl_links.specs.Mentions.{mentions}
use Rattle.dsdl_links.specs.declared.source.Source.{Source}
use Rattle.dsdl_parse.specs.Ast.{IsAst}
use Rattle.dsdl_resolve.specs.Reads.{Read, source_of}
use Rattle.dsdl_resolve.proofs.Clear.{few_statements}
use Rattle.dsdl_resolve.proofs.sources.source_of.Goals as goal

pub mentions_of-requires : goal.mentions_of-requires
mentions_of-requires c =
    omega (arith, ap length c.as_slice-2.ensures, ap length c.as_slice.ensures, few_statements c.as_slice.result.now c.in_ok-ast.ast.lines c.in_ok-ast.ensures.ast, c.requires.short)

pub returns-clause-source : goal.returns-clause-source
returns-clause-source c =
    let name = c.args.name.now in
    let lines = c.in_ok-ast.ast.lines in
    let read : Read = record { path = c.args.file.now.path; name = name; lines = lines } in
    let id : c.in_ok-copy.field-0 ≡ name.id = c.in_ok-copy.ensures in
    let found : c.in_ok-mentions_of.field-0 ≡ mentions name.id.name lines = c.in_ok-mentions_of.ensures ∙ ap (mentions name.id.name) c.as_slice-2.ensures in
    let same : Source = source_of read in
    record {
      read = read;
      is_read = record { same = refl; named = c.requires.named; text = subst (λ t. IsAst t lines) c.as_slice.ensures c.in_ok-ast.ensures.ast };
      named = refl;
      is = ap (λ i. let s : Source = record { id = i; mentions = c.in_ok-mentions_of.field-0 } in s) id ∙ ap (λ m. let s : Source = record { id = name.id; mentions = m } in s) found;
    }
