use Rattle.std.proofs.Common.{◌≡◌, Some, arith}
use Rattle.std_types.specs.declared.registers.Register.{Register}
use Rattle.register_service.specs.RegisterMap.{entry, reply}
use Rattle.register_service.proofs.Map.{access_refused}
use Rattle.register_service.proofs.register_list.access.Goals as goal

pub returns-then-not-takes-clause-access : goal.returns-then-not-takes-clause-access
returns-then-not-takes-clause-access g c =
    let r : Register = c.in-Some.register.now in
    let found : entry c.args.name.now c.args.list.now.items ≡ Some (c.in-Some.number, r) = grind arith in
    let told : c.reply-then-not-takes.result ≡ reply r.mutable r.value = grind arith in
    access_refused c.args.list.now.items c.args.name.now c.args.value c.reply-then-not-takes.result c.in-Some.number r found told
