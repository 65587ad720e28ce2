use Rattle.std.proofs.Common.{◌≤◌, ◌-◌, sym, ◌∙◌, arith}
use Rattle.std.proofs.lemmas.Bool.{false≢true}
use Rattle.dsdl_lex.proofs.SplitPlaces as places
use Rattle.dsdl_lex.proofs.split.split_of.Goals as goal
use Rattle.dsdl_lex.proofs.split.split_of.Goals.{else-to-from-ge3-via-then-to-from-ge3+else-is_blank_from, else-to-from-ge3-via-else-to-from-ge3}

pub returns-then-is_blank_from-clause-found : goal.returns-then-is_blank_from-clause-found
returns-then-is_blank_from-clause-found c =
    places.split_here c.args.line.now c.blanks_end-from.result c.dashes_end-to.result c.blanks_end-from.ensures c.dashes_end-to.ensures (omega arith) (sym c.is_blank_from.ensures ∙ c.if-is_blank_from.true)

pub returns-else-to-from-ge3-clause-none : goal.returns-else-to-from-ge3-clause-none
returns-else-to-from-ge3-clause-none c at n h = elim c.else-to-from-ge3.branch [
  | else-to-from-ge3-via-then-to-from-ge3+else-is_blank_from w ↦
      false≢true (sym (sym w.is_blank_from.ensures ∙ w.if-is_blank_from.false) ∙ places.blank_behind c.args.line.now c.blanks_end-from.result c.dashes_end-to.result c.blanks_end-from.ensures c.dashes_end-to.ensures at n h)
  | else-to-from-ge3-via-else-to-from-ge3 w ↦
      let enough : 3 ≤ c.dashes_end-to.result - c.blanks_end-from.result = places.enough c.args.line.now c.blanks_end-from.result c.dashes_end-to.result c.blanks_end-from.ensures c.dashes_end-to.ensures at n h in
      omega (arith, enough)
]
