use Rattle.std.proofs.Common.{ℕ, List, Err, get_or, refl, arith, subst}
use Rattle.dsdl_resolve.specs.Answers.{Answers}
use Rattle.dsdl_resolve.specs.Judged.{outcome}
use Rattle.dsdl_resolve.specs.Passes.{StopsAt}
use Rattle.dsdl_resolve.specs.Reads.{Read, AreRead, sources_of}
use Rattle.dsdl_resolve.specs.Reread.{scope_in}
use Rattle.dsdl_resolve.specs.declared.why.DsdlWhy.{DsdlWhy}
use Rattle.dsdl_resolve.specs.Kept.{IsKept}
use Rattle.dsdl_resolve.proofs.Clear.{told}
use Rattle.dsdl_resolve.proofs.Lists.{zip_here, zip_long}
use Rattle.dsdl_resolve.proofs.Rereading.{so_far_none, so_far_all, one_more, stops_here, has_name, has_statements, name_count, moved_sound, firsts_count}
use Rattle.dsdl_resolve.proofs.valuing.value_files.Goals as goal

pub bounds-names-number : goal.bounds-names-number
bounds-names-number c = omega (arith, name_count c.args.files.now c.args.names.now c.requires.read, c.requires.within c.loop-k.k c.loop-k-test.true)

pub bounds-kept-number : goal.bounds-kept-number
bounds-kept-number c = omega (arith, zip_long IsKept c.args.files.now c.args.kept.now c.requires.kept, c.requires.within c.loop-k.k c.loop-k-test.true)

pub value_one-requires-clause-kept : goal.value_one-requires-clause-kept
value_one-requires-clause-kept c =
    zip_here IsKept c.args.files.now c.args.kept.now c.args.kept.now (get_or c.args.order.now c.loop-k.k 0) c.index-files-number.result c.index-kept-number.result c.requires.kept
    (c.requires.within c.loop-k.k c.loop-k-test.true) c.index-files-number.is refl c.index-kept-number.is

pub bounds-firsts-number : goal.bounds-firsts-number
bounds-firsts-number c = omega (arith, firsts_count c.args.files.now c.args.names.now c.args.firsts.now c.requires.read c.requires.firsts, c.requires.within c.loop-k.k c.loop-k-test.true)

pub value_one-requires-clause-named : goal.value_one-requires-clause-named
value_one-requires-clause-named c =
    has_name c.args.files.now c.args.names.now c.requires.read (get_or c.args.order.now c.loop-k.k 0) c.index-files-number.result c.index-names-number.result
    (c.requires.within c.loop-k.k c.loop-k-test.true) c.index-files-number.is c.index-names-number.is

pub value_one-requires-clause-text : goal.value_one-requires-clause-text
value_one-requires-clause-text c =
    has_statements c.args.files.now c.args.names.now c.requires.read (get_or c.args.order.now c.loop-k.k 0) c.index-files-number.result
    (c.requires.within c.loop-k.k c.loop-k-test.true) c.index-files-number.is

pub loop-k-init : goal.loop-k-init
loop-k-init c = record {
  so_far = λ reads h. so_far_none reads c.args.order.now c.in_ok-progress.progress (c.in_ok-progress.ensures.holds (sources_of reads));
  sound = c.in_ok-progress.ensures.sound;
}

pub loop-k-preserved : goal.loop-k-preserved
loop-k-preserved c =
    let n = get_or c.args.order.now c.loop-k.k 0 in
    record {
      so_far = λ reads h.
          one_more c.args.files.now reads h c.args.firsts.now (c.requires.firsts reads h) c.args.order.now c.loop-k.k n c.index-files-number.result c.loop-k.progress c.add.new.self
          c.value_one.new.scope c.in-Ok.done.outcome (c.loop-k.invariant.so_far reads h) c.loop-k-test.true refl (c.requires.within c.loop-k.k c.loop-k-test.true) c.index-files-number.is
          c.in-Ok.ensures.value c.in-Ok.ensures.namespace c.in-Ok.ensures.members c.in_ok-add-in-Ok.ensures.holds;
      sound = c.in_ok-add-in-Ok.ensures.sound (moved_sound c.loop-k.progress c.value_one.new.scope c.in-Ok.ensures.namespace c.in-Ok.ensures.members c.loop-k.invariant.sound) c.in-Ok.ensures.sound
          c.in-Ok.ensures.constants c.in-Ok.ensures.counts;
    }

pub returns-in-Err-clause-refused : goal.returns-in-Err-clause-refused
returns-in-Err-clause-refused c =
    let n = get_or c.args.order.now c.loop-k.k 0 in
    told _ (λ (path : List ℕ) (line : ℕ) (why : DsdlWhy). (reads : List Read) → AreRead c.args.files.now reads → StopsAt c.args.files.now reads c.args.order.now path line why)
    (λ path line why r reads h.
    stops_here c.args.files.now reads h c.args.order.now c.loop-k.k n c.index-files-number.result c.loop-k.progress path line why (c.loop-k.invariant.so_far reads h) c.loop-k-test.true refl
    (c.requires.within c.loop-k.k c.loop-k-test.true) c.index-files-number.is
    (λ x is. subst (λ e. Answers (outcome (scope_in c.loop-k.progress.scope x) x.path x.name x.lines) (Err e)) r.0 (c.in-Err.ensures.value x is)) r.1) c.refused.result c.refused.ensures

pub returns-clause-valued : goal.returns-clause-valued
returns-clause-valued c = λ reads h. so_far_all reads c.args.order.now c.loop-k.k c.loop-k.progress (c.loop-k.invariant.so_far reads h) c.loop-k-test.false
