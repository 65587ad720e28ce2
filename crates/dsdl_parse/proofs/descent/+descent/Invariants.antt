use Rattle.std.proofs.Common.{length, ◌+◌, ◌-◌, ◌*◌}
use Rattle.dsdl_parse.specs.Reading as r
use Rattle.dsdl_parse.specs.Levels.{operand_of, signs_of, rank}
use Rattle.dsdl_parse.proofs.Loops.{ChainLeft, MembersLeft, ItemsLeft}
use Rattle.dsdl_parse.proofs.descent.+descent.Given as goal

abbrev pub decreases-atom : goal.decreases-atom
decreases-atom l = l.depth * 32 + 1

abbrev pub decreases-parens : goal.decreases-parens
decreases-parens l = l.depth * 32

abbrev pub decreases-braces : goal.decreases-braces
decreases-braces l = l.depth * 32

abbrev pub decreases-chain : goal.decreases-chain
decreases-chain l = l.depth * 32 + rank l.level

abbrev pub decreases-member : goal.decreases-member
decreases-member l = l.depth * 32 + 2

abbrev pub decreases-not : goal.decreases-not
decreases-not l = l.depth * 32 + 13

abbrev pub decreases-operand : goal.decreases-operand
decreases-operand l = l.depth * 32 + (rank l.level - 1)

abbrev pub decreases-power : goal.decreases-power
decreases-power l = l.depth * 32 + 3

abbrev pub decreases-set_members : goal.decreases-set_members
decreases-set_members l = l.depth * 32 + 16

abbrev pub decreases-sign : goal.decreases-sign
decreases-sign l = l.depth * 32 + 4

abbrev pub invariant-chain-loop-op : goal.invariant-chain-loop-op
invariant-chain-loop-op l = ChainLeft (signs_of l.level) (operand_of (r.within l.depth) l.level) l.fn.words l.left l.words

abbrev pub decreases-chain-loop-op : goal.decreases-chain-loop-op
decreases-chain-loop-op l = length l.words

abbrev pub invariant-member-loop-words : goal.invariant-member-loop-words
invariant-member-loop-words l = MembersLeft (r.atom_of (r.within l.depth)) l.fn.words l.left l.words

abbrev pub decreases-member-loop-words : goal.decreases-member-loop-words
decreases-member-loop-words l = length l.words

abbrev pub invariant-set_members-loop-members : goal.invariant-set_members-loop-members
invariant-set_members-loop-members l = ItemsLeft (r.expression_of (r.within l.depth)) l.fn.words l.members l.words

abbrev pub decreases-set_members-loop-members : goal.decreases-set_members-loop-members
decreases-set_members-loop-members l = length l.words
