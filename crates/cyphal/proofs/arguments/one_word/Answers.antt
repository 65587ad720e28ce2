use Rattle.std.proofs.Common.{◌∙◌, Some, ap, List, ℕ}
use Rattle.cyphal.proofs.ClapWords.{has_one, some_now, now_is}
use Rattle.cyphal.proofs.arguments.one_word.Goals as goal

pub unwrap-requires : goal.unwrap-requires
unwrap-requires c =
    let h = has_one _ c.in-Ok.matches _ c.in_ok-command.ensures c.requires c.in-Ok.ensures.matches in
    some_now c.get_str.result h.value (c.get_str.ensures ∙ h.is)

pub returns-in-Ok : goal.returns-in-Ok
returns-in-Ok c =
    let h = has_one _ c.in-Ok.matches _ c.in_ok-command.ensures c.requires c.in-Ok.ensures.matches in
    h.asked ∙ ap (λ (p : List ℕ). Some p)
    (now_is _ c.unwrap.result _ h.value c.unwrap.ensures c.get_str.ensures h.is)
