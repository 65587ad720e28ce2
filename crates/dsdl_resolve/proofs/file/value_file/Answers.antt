use Rattle.std.proofs.Common.{◌≡◌, ◌+◌, ◌∙◌, ◌∷◌, ◌≤◌, length, take, None, Some, Ok, sym, ap, subst, refl, arith}
use Rattle.std.proofs.lemmas.List.{length-take-le}
use Rattle.std.proofs.lemmas.List.Elements.{All-get_or}
use Rattle.const_expr.specs.declared.scope.Scope.{Scope}
use Rattle.dsdl_parse.specs.Spelling.{WellSpelled}
use Rattle.dsdl_resolve.specs.Files.{IsFile, IsFileRefusal, IsStepped}
use Rattle.dsdl_resolve.specs.Opens.{said_of}
use Rattle.dsdl_resolve.proofs.Counting.{parts_counted}
use Rattle.dsdl_resolve.specs.Judged.{composite_of, in_file, outcome, refusal_at}
use Rattle.dsdl_resolve.specs.Place.{last_section, place}
use Rattle.dsdl_resolve.proofs.Filing as filing
use Rattle.dsdl_resolve.proofs.Filing.{Filed}
use Rattle.dsdl_resolve.proofs.PlaceLemmas.{places_moved}
use Rattle.dsdl_resolve.proofs.file.value_file.Goals as goal

pub loop-i-init : goal.loop-i-init
loop-i-init c =
    let S = in_file c.args.scope.now c.args.name.now in
    record {
      filed = subst (λ ks. Filed c.begin-file.result ks S c.args.name.now.port c.args.path.now c.args.lines.now 0) (sym c.new.ensures)
          (filing.filed_none c.begin-file.result S c.args.name.now.port c.args.path.now c.args.lines.now (c.begin-file.ensures.file S) c.begin-file.ensures.prints);
      scope = ap (λ o. record c.args.scope.now { constants = c.new.result; offset = None; own = o }) c.in_ok-scope.ensures;
    }

pub reserve-requires : goal.reserve-requires
reserve-requires c =
    places_moved c.args.scope.now c.loop-i.scope c.args.places.now (ap (λ (t : Scope). t.namespace) c.loop-i.invariant.scope) (ap (λ (t : Scope). t.members) c.loop-i.invariant.scope) c.requires.places

pub take-requires-clause-places : goal.take-requires-clause-places
take-requires-clause-places c =
    places_moved c.args.scope.now c.loop-i.scope c.args.places.now (ap (λ (t : Scope). t.namespace) c.loop-i.invariant.scope) (ap (λ (t : Scope). t.members) c.loop-i.invariant.scope) c.requires.places

pub returns-in-Err-clause-value : goal.returns-in-Err-clause-value
returns-in-Err-clause-value c =
    let S = in_file c.args.scope.now c.args.name.now in
    let spelled : WellSpelled c.index-lines-i.result = subst WellSpelled (sym c.index-lines-i.is) (All-get_or WellSpelled c.args.lines.now c.loop-i.i c.index-lines-i.result c.loop-i-test.true c.requires.spelled) in
    let line : c.loop-i.i + 1 ≡ length (take c.loop-i.i c.args.lines.now) + 1 = omega (arith, length-take-le c.loop-i.i c.args.lines.now (omega (arith, c.loop-i-test.true))) in
    let here = filing.file_here S c.args.name.now.port c.args.path.now c.args.lines.now c.loop-i.i c.loop-i-test.true c.index-lines-i.result c.index-lines-i.is c.loop-i.file c.loop-i.scope.constants c.loop-i.invariant.filed in
    let front = take c.loop-i.i c.args.lines.now in
    let given = subst (λ b. IsFile c.loop-i.file c.loop-i.scope.constants S front (c.index-lines-i.result ∷ b)) (sym c.behind-rest.ensures) here in
    let refused = subst (λ b. IsFileRefusal (λ n cause. (n ≡ c.loop-i.i + 1) × (refusal_at S (place front c.index-lines-i.result b) ≡ Some cause)) c.in-Err.error) c.behind-rest.ensures
    (c.in-Err.ensures.stepped S front given c.loop-i.invariant.scope spelled line) in
    filing.loop_refused S c.args.scope.now c.args.name.now c.args.path.now c.args.lines.now c.loop-i.i c.loop-i-test.true c.index-lines-i.result c.index-lines-i.is c.loop-i.file c.loop-i.scope.constants refl
    c.loop-i.invariant.filed (c.loop-i.i + 1) line c.in-Err.error refused

pub returns-in-Err-clause-namespace : goal.returns-in-Err-clause-namespace
returns-in-Err-clause-namespace c = ap (λ (t : Scope). t.namespace) c.take.ensures.scope ∙ ap (λ (t : Scope). t.namespace) c.loop-i.invariant.scope

pub returns-in-Err-clause-members : goal.returns-in-Err-clause-members
returns-in-Err-clause-members c = ap (λ (t : Scope). t.members) c.take.ensures.scope ∙ ap (λ (t : Scope). t.members) c.loop-i.invariant.scope

pub loop-i-preserved : goal.loop-i-preserved
loop-i-preserved c =
    let S = in_file c.args.scope.now c.args.name.now in
    let spelled : WellSpelled c.index-lines-i.result = subst WellSpelled (sym c.index-lines-i.is) (All-get_or WellSpelled c.args.lines.now c.loop-i.i c.index-lines-i.result c.loop-i-test.true c.requires.spelled) in
    let line : c.loop-i.i + 1 ≡ length (take c.loop-i.i c.args.lines.now) + 1 = omega (arith, length-take-le c.loop-i.i c.args.lines.now (omega (arith, c.loop-i-test.true))) in
    let here = filing.file_here S c.args.name.now.port c.args.path.now c.args.lines.now c.loop-i.i c.loop-i-test.true c.index-lines-i.result c.index-lines-i.is c.loop-i.file c.loop-i.scope.constants c.loop-i.invariant.filed in
    let front = take c.loop-i.i c.args.lines.now in
    let given = subst (λ b. IsFile c.loop-i.file c.loop-i.scope.constants S front (c.index-lines-i.result ∷ b)) (sym c.behind-rest.ensures) here in
    let stepped = subst (IsStepped c.loop-i.file c.take.new.self c.take.new.scope.constants S c.args.path.now front c.index-lines-i.result) c.behind-rest.ensures
    (c.in-Ok.ensures.stepped S front given c.loop-i.invariant.scope spelled line) in
    record {
      filed = filing.filed_more S c.args.name.now.port c.args.path.now c.args.lines.now c.loop-i.i c.loop-i-test.true c.index-lines-i.result c.index-lines-i.is c.loop-i.file c.loop-i.scope.constants
          c.loop-i.invariant.filed c.take.new.self c.take.new.scope.constants stepped;
      scope = c.take.ensures.scope ∙ ap (λ (t : Scope). record t { constants = c.take.new.scope.constants }) c.loop-i.invariant.scope;
    }

pub returns-in-Some-clause-value : goal.returns-in-Some-clause-value
returns-in-Some-clause-value c =
    let S = in_file c.args.scope.now c.args.name.now in
    let le : length c.args.lines.now ≤ c.loop-i.i = omega (arith, c.loop-i-test.false) in
    let file = filing.file_end S c.args.name.now.port c.args.path.now c.args.lines.now c.loop-i.i le c.loop-i.file c.loop-i.scope.constants c.loop-i.invariant.filed in
    filing.end_refused S c.args.scope.now c.args.name.now c.args.path.now c.args.lines.now c.loop-i.i le c.loop-i.file c.loop-i.scope.constants refl c.loop-i.invariant.filed c.in-Some.rule
    (c.in-Some.ensures c.args.lines.now (last_section c.args.lines.now) file.section.standing)

pub returns-in_ok-outcome-in-None-clause-value : goal.returns-in_ok-outcome-in-None-clause-value
returns-in_ok-outcome-in-None-clause-value c =
    let S = in_file c.args.scope.now c.args.name.now in
    let le : length c.args.lines.now ≤ c.loop-i.i = omega (arith, c.loop-i-test.false) in
    let file = filing.file_end S c.args.name.now.port c.args.path.now c.args.lines.now c.loop-i.i le c.loop-i.file c.loop-i.scope.constants c.loop-i.invariant.filed in
    filing.end_done S c.args.scope.now c.args.name.now c.args.path.now c.args.lines.now c.loop-i.i le c.loop-i.file c.loop-i.scope.constants c.in_ok-outcome-in-None.outcome refl c.loop-i.invariant.filed
    (c.in-None.ensures c.args.lines.now (last_section c.args.lines.now) file.section.standing) (c.in_ok-outcome-in-None.ensures.done S c.args.lines.now file)

pub returns-in_ok-outcome-in-None-clause-sound : goal.returns-in_ok-outcome-in-None-clause-sound
returns-in_ok-outcome-in-None-clause-sound c =
    let S = in_file c.args.scope.now c.args.name.now in
    let le : length c.args.lines.now ≤ c.loop-i.i = omega (arith, c.loop-i-test.false) in
    let file = filing.file_end S c.args.name.now.port c.args.path.now c.args.lines.now c.loop-i.i le c.loop-i.file c.loop-i.scope.constants c.loop-i.invariant.filed in
    let value : outcome c.args.scope.now c.args.path.now c.args.name.now c.args.lines.now ≡ Ok c.in_ok-outcome-in-None.outcome =
    filing.end_done S c.args.scope.now c.args.name.now c.args.path.now c.args.lines.now c.loop-i.i le c.loop-i.file c.loop-i.scope.constants c.in_ok-outcome-in-None.outcome refl c.loop-i.invariant.filed
    (c.in-None.ensures c.args.lines.now (last_section c.args.lines.now) file.section.standing) (c.in_ok-outcome-in-None.ensures.done S c.args.lines.now file) in
    c.definitions_keep_rules.ensures c.args.scope.now c.args.path.now c.args.name.now c.args.lines.now c.in_ok-outcome-in-None.outcome c.requires.scope.types c.requires.spelled value

pub returns-in_ok-outcome-in-None-clause-counts : goal.returns-in_ok-outcome-in-None-clause-counts
returns-in_ok-outcome-in-None-clause-counts c =
    parts_counted c.counts-counts.result (composite_of (said_of c.loop-i.file.section c.loop-i.scope.constants)) c.in_ok-outcome-in-None.outcome.definition.parts
    (c.in_ok-outcome-in-None.ensures.parts c.loop-i.scope.constants) (c.counts-counts.ensures c.loop-i.scope.constants)
