use Rattle.std.proofs.Common.{◌≡◌, ◌∙◌, Some}
use Rattle.cyphal.proofs.ClapWords.{has_two, some_now, now_is}
use Rattle.cyphal.proofs.arguments.two_words.Goals as goal

pub unwrap-root-requires : goal.unwrap-root-requires
unwrap-root-requires c =
    let h = has_two _ c.in-Ok.matches _ c.in_ok-command.ensures c.requires c.in-Ok.ensures.matches in
    some_now c.get_str.result h.root (c.get_str.ensures ∙ h.is_root)

pub unwrap-argument-requires : goal.unwrap-argument-requires
unwrap-argument-requires c =
    let h = has_two _ c.in-Ok.matches _ c.in_ok-command.ensures c.requires c.in-Ok.ensures.matches in
    some_now c.get_str-in-Ok.result h.argument (c.get_str-in-Ok.ensures ∙ h.is_argument)

pub returns-in-Ok : goal.returns-in-Ok
returns-in-Ok c =
    let h = has_two _ c.in-Ok.matches _ c.in_ok-command.ensures c.requires c.in-Ok.ensures.matches in
    let root : h.root ≡ c.unwrap-root.result.now = now_is _ c.unwrap-root.result _ h.root c.unwrap-root.ensures c.get_str.ensures h.is_root in
    let argument : h.argument ≡ c.unwrap-argument.result.now = now_is _ c.unwrap-argument.result _ h.argument c.unwrap-argument.ensures c.get_str-in-Ok.ensures h.is_argument in
    h.asked ∙ (λ i. Some (root i, argument i))
