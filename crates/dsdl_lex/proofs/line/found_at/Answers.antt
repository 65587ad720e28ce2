use Rattle.std.proofs.Common.{sym, subst, length, drop, arith}
use Rattle.dsdl_lex.specs.Scans.{IsBest, IsAlive, IsClear}
use Rattle.dsdl_lex.specs.declared.state.State.TheVariants.{Start, Plain}
use Rattle.dsdl_lex.proofs.Clear.{clear_behind}
use Rattle.dsdl_lex.proofs.Fronts as fronts
use Rattle.dsdl_lex.proofs.line.found_at.Goals as goal

pub returns-then-at-clear-clause-found : goal.returns-then-at-clear-clause-found
returns-then-at-clear-clause-found c =
    let best : IsBest Plain (drop c.args.at c.args.line.now) (length (drop c.args.at c.args.line.now)) c.scan.result.best = subst (λ t. IsBest Plain t (length t) c.scan.result.best) c.behind-text.ensures c.scan.ensures.best in
    fronts.longest_plain c.args.line.now c.args.at c.requires.within c.requires.no_split c.scan.result.best (c.requires.clear c.args.at (omega arith) c.if-at-clear.true) best

pub returns-then-at-clear-clause-none : goal.returns-then-at-clear-clause-none
returns-then-at-clear-clause-none c =
    let best : IsBest Plain (drop c.args.at c.args.line.now) (length (drop c.args.at c.args.line.now)) c.scan.result.best = subst (λ t. IsBest Plain t (length t) c.scan.result.best) c.behind-text.ensures c.scan.ensures.best in
    fronts.nothing_plain c.args.line.now c.args.at c.requires.within c.requires.no_split c.scan.result.best (c.requires.clear c.args.at (omega arith) c.if-at-clear.true) best

pub returns-clause-found : goal.returns-clause-found
returns-clause-found c =
    let best : IsBest Start (drop c.args.at c.args.line.now) (length (drop c.args.at c.args.line.now)) c.scan-best.result.best = subst (λ t. IsBest Start t (length t) c.scan-best.result.best) c.behind-text.ensures c.scan-best.ensures.best in
    fronts.longest_start c.args.line.now c.args.at c.requires.within c.requires.no_split c.scan-best.result.best best

pub returns-clause-none : goal.returns-clause-none
returns-clause-none c =
    let best : IsBest Start (drop c.args.at c.args.line.now) (length (drop c.args.at c.args.line.now)) c.scan-best.result.best = subst (λ t. IsBest Start t (length t) c.scan-best.result.best) c.behind-text.ensures c.scan-best.ensures.best in
    fronts.nothing_start c.args.line.now c.args.at c.requires.within c.requires.no_split c.scan-best.result.best best

pub returns-clause-clear : goal.returns-clause-clear
returns-clause-clear c =
    let best : IsBest Start (drop c.args.at c.args.line.now) (length (drop c.args.at c.args.line.now)) c.scan-best.result.best = subst (λ t. IsBest Start t (length t) c.scan-best.result.best) c.behind-text.ensures c.scan-best.ensures.best in
    let alive : IsAlive Start (drop c.args.at c.args.line.now) c.scan-best.result.reach = subst (λ t. IsAlive Start t c.scan-best.result.reach) c.behind-text.ensures c.scan-best.ensures.reach in
    let longest = fronts.longest_start c.args.line.now c.args.at c.requires.within c.requires.no_split c.scan-best.result.best best in
    subst (IsClear c.args.line.now c.args.at) (sym c.clear_behind.ensures) (clear_behind c.args.line.now c.args.at c.scan-best.result.reach c.args.clear.now c.scan-best.result.best c.requires.within longest alive c.requires.clear)
