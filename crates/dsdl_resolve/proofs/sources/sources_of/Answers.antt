use Rattle.std.proofs.Common.{◌≡◌, Ok, arith, subst, take, refl}
use Rattle.std.proofs.lemmas.List.{take_all}
use Rattle.dsdl_names.specs.Names.{file_name_of}
use Rattle.dsdl_resolve.specs.Sources.{AreSources}
use Rattle.dsdl_resolve.proofs.Clear.{first_text}
use Rattle.dsdl_resolve.proofs.Lists.{zip_long, zip_here}
use Rattle.dsdl_resolve.proofs.Reading.{kept_more, sources_more}
use Rattle.dsdl_resolve.proofs.sources.sources_of.Goals as goal

pub bounds-names-i : goal.bounds-names-i
bounds-names-i c = omega (arith, zip_long _ c.args.files.now c.args.names.now c.requires.named)

pub source_of-requires-clause-named : goal.source_of-requires-clause-named
source_of-requires-clause-named c =
    zip_here (λ file name. file_name_of file.path ≡ Ok name) c.args.files.now c.args.names.now c.args.names.now c.loop-i.i c.index-files-i.result c.index-names-i.result c.requires.named
    c.loop-i-test.true c.index-files-i.is refl c.index-names-i.is

pub loop-i-preserved : goal.loop-i-preserved
loop-i-preserved c = record {
  sources = sources_more c.args.files.now c.args.names.now c.loop-i.sources c.push.new.self c.loop-i.i c.index-files-i.result c.index-names-i.result c.in-Ok.parsed.source c.loop-i.invariant.sources
      c.loop-i-test.true c.index-files-i.is (omega (arith, zip_long _ c.args.files.now c.args.names.now c.requires.named)) c.index-names-i.is c.in-Ok.ensures.source c.in_ok-push-in-Ok.ensures.ok;
  kept = kept_more c.args.files.now c.loop-i.kept c.push-in-Ok.new.self c.loop-i.i c.index-files-i.result c.keep.result c.in-Ok.parsed.ast c.loop-i.invariant.kept c.loop-i-test.true c.index-files-i.is
      c.keep.ensures.kept c.in-Ok.ensures.ast c.in_ok-push-in-Ok-2.ensures.ok;
}

pub returns-in-Err-clause-refused : goal.returns-in-Err-clause-refused
returns-in-Err-clause-refused c =
    first_text c.args.files.now c.loop-i.i c.index-files-i.result c.loop-i-test.true c.index-files-i.is c.one_parsing.ensures c.loop-i.invariant.sources.reads c.in-Err.error
    c.refused.result c.loop-i.invariant.sources.are_read c.in-Err.ensures.refused c.refused.ensures

pub returns-clause-sources : goal.returns-clause-sources
returns-clause-sources c =
    let lt = c.loop-i-test.false in
    subst (λ fs. AreSources fs c.args.names.now c.loop-i.sources) (take_all c.loop-i.i c.args.files.now lt)
    (subst (λ ns. AreSources (take c.loop-i.i c.args.files.now) ns c.loop-i.sources) (take_all c.loop-i.i c.args.names.now (omega (arith, zip_long _ c.args.files.now c.args.names.now c.requires.named)))
    c.loop-i.invariant.sources)
