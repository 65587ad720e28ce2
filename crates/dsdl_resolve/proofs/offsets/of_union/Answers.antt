use Rattle.std.proofs.Common.{arith}
use Rattle.bit_length.specs.Lengths.{Has, Only, Sums}
use Rattle.dsdl_types.specs.Schemas.{tag_bits}
use Rattle.layout.proofs.Sets.{never_long}
use Rattle.dsdl_resolve.proofs.OffsetVariants as offsets
use Rattle.dsdl_resolve.proofs.offsets.of_union.Goals as goal

pub short-requires : goal.short-requires
short-requires c =
    never_long c.of.result (Only c.tag_bits.result) c.of.ensures.long (λ n e. omega (arith, e, c.tag_bits.ensures, c.requires.greatest))

pub short-requires-2 : goal.short-requires-2
short-requires-2 c =
    let tags = offsets.tag_of c.of.result c.in_ok-tag.tag c.tag_bits.result (tag_bits c.args.count) c.of.ensures.members c.in_ok-tag.ensures c.tag_bits.ensures in
    never_long c.sum.result (Sums (Has c.in_ok-tag.tag) (Has c.in_ok-joined.joined)) c.sum.ensures.long
    (offsets.sum_short c.args.fields.now c.in_ok-tag.tag c.in_ok-joined.joined c.args.count c.requires.count tags c.in_ok-joined.ensures c.requires.greatest)

pub returns : goal.returns
returns c =
    let tags = offsets.tag_of c.of.result c.in_ok-tag.tag c.tag_bits.result (tag_bits c.args.count) c.of.ensures.members c.in_ok-tag.ensures c.tag_bits.ensures in
    offsets.are_union_offsets c.args.fields.now c.in_ok-tag.tag c.in_ok-joined.joined c.args.count c.requires.count tags c.in_ok-joined.ensures c.requires.greatest c.in_ok-lengths.lengths c.count.ensures.ascending
    (offsets.of_ok c.sum.result c.in_ok-lengths.lengths (Sums (Has c.in_ok-tag.tag) (Has c.in_ok-joined.joined)) c.sum.ensures.members c.in_ok-lengths.ensures)
