use Rattle.std.proofs.Common.{arith, refl}
use Rattle.layout_text.proofs.Texts.{message_count, service_count, service_text}
use Rattle.layout_text.proofs.definition.push_definition.Goals as goal

pub push_composite-requires-clause-texts : goal.push_composite-requires-clause-texts
push_composite-requires-clause-texts c =
    message_count c.args.definition.now c.in-Message.schema c.as_slice-types.result.now c.in_ok-layout-in-Message.layout.rows c.requires c.in-Message.is c.as_slice-types.ensures c.in_ok-layout-in-Message.ensures.each

pub split_at-requires : goal.split_at-requires
split_at-requires c =
    let count = service_count c.args.definition.now c.in-Service.request c.in-Service.response c.as_slice-types.result.now c.in_ok-first-in-Service.first.rows c.in_ok-second-in-Service.second.rows c.requires c.in-Service.is c.as_slice-types.ensures c.in_ok-first-in-Service.ensures.each c.in_ok-second-in-Service.ensures.each in
    omega (arith, c.len.ensures)

pub push_composite-requires-in-Service-2-clause-texts : goal.push_composite-requires-in-Service-2-clause-texts
push_composite-requires-in-Service-2-clause-texts c =
    let count = service_count c.args.definition.now c.in-Service.request c.in-Service.response c.as_slice-types.result.now c.in_ok-first-in-Service.first.rows c.in_ok-second-in-Service.second.rows c.requires c.in-Service.is c.as_slice-types.ensures c.in_ok-first-in-Service.ensures.each c.in_ok-second-in-Service.ensures.each in
    let back = c.split_at.ensures.back_len in
    omega (arith, c.len.ensures, c.split_at.ensures.back_len)

pub returns-in_ok-push_composite-in-Service : goal.returns-in_ok-push_composite-in-Service
returns-in_ok-push_composite-in-Service c =
    service_text c.push_composite-in-Service-2.result c.args.definition.now c.in-Service.request c.in-Service.response c.in-Service.request c.in-Service.response c.as_slice-types.result.now c.split_at.result.0.now c.split_at.result.1.now c.in_ok-first-in-Service.first.rows c.len.result c.args.text.now.items c.push_composite-in-Service.new.text.items c.push_composite-in-Service-2.new.text.items
    c.in-Service.is refl refl c.as_slice-types.ensures c.in_ok-first-in-Service.ensures.each c.len.ensures c.split_at.ensures.front c.split_at.ensures.back c.in_ok-push_composite-in-Service.ensures c.push_composite-in-Service-2.ensures
