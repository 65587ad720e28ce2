use Rattle.std.proofs.Common.{◌≡◌, ℕ, ◌+◌, ◌*◌, ◌/◌, ◌<◌, length, get_or, sym, subst, arith, rules}
use Rattle.cy_bits.specs.Bits.{gap}
use Rattle.dsdl_types.specs.Encoding.{own_bits}
use Rattle.dsdl_types.specs.Views.{sch, val}
use Rattle.wire_values.specs.Puts.{HasRoom, Puts}
use Rattle.wire_values.proofs.Buffers.{schema_rules, value_room, written}
use Rattle.wire_values.proofs.fitting.write_fitting.Goals as goal

pub write_own-requires-clause-rules : goal.write_own-requires-clause-rules
write_own-requires-clause-rules c = schema_rules (sch c.args.schema.now) c.requires.rules

pub write_own-requires-clause-room : goal.write_own-requires-clause-room
write_own-requires-clause-room c =
    let s = sch c.args.schema.now in
    let v = val c.args.value.now in
    subst (λ p. HasRoom c.args.out.now p (own_bits s v)) (sym c.new-to.ensures) (value_room s v c.args.out.now c.requires.rules c.requires.fits c.requires.room c.requires.small)

pub align-requires-clause-within : goal.align-requires-clause-within
align-requires-clause-within c =
    let room = value_room (sch c.args.schema.now) (val c.args.value.now) c.args.out.now c.requires.rules c.requires.fits c.requires.room c.requires.small in
    let same : length c.write_own.new.out ≡ length c.args.out.now = search rules in
    omega (arith, room.room, same, c.write_own.ensures.place, c.new-to.ensures)

pub clear_from-requires : goal.clear_from-requires
clear_from-requires c =
    let room = value_room (sch c.args.schema.now) (val c.args.value.now) c.args.out.now c.requires.rules c.requires.fits c.requires.room c.requires.small in
    let same : length c.align.new.buf ≡ length c.args.out.now = search rules in
    omega (arith, room.room, same, c.write_own.ensures.place, c.new-to.ensures, c.align.ensures.place)

pub returns : goal.returns
returns c =
    let s = sch c.args.schema.now in
    let v = val c.args.value.now in
    let old = c.args.out.now in
    let q = c.write_own.new.to.place in
    let n = c.align.new.self.place / 8 in
    let room = value_room s v old c.requires.rules c.requires.fits c.requires.room c.requires.small in
    let same : length c.align.new.buf ≡ length old = search rules in
    let puts : Puts old 0 c.write_own.new.out q (own_bits s v) = subst (λ p. Puts old p c.write_own.new.out q (own_bits s v)) c.new-to.ensures c.write_own.ensures in
    let whole : 8 * n ≡ q + gap q = omega (arith, c.align.ensures.place) in
    let small : (i : ℕ) → get_or c.clear_from.new.out i 0 < 256 = search rules in
    written s v old c.write_own.new.out c.align.new.buf c.clear_from.new.out q n c.requires.fits small room puts c.align.ensures.written whole
    (omega (arith, room.room, same, c.write_own.ensures.place, c.new-to.ensures, c.align.ensures.place)) c.clear_from.ensures
