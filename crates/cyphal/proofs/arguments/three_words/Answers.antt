use Rattle.std.proofs.Common.{◌≡◌, ◌∙◌, Some}
use Rattle.cyphal.proofs.ClapWords.{has_three, some_now, now_is}
use Rattle.cyphal.proofs.arguments.three_words.Goals as goal

pub unwrap-first-requires : goal.unwrap-first-requires
unwrap-first-requires c =
    let h = has_three _ c.in-Ok.matches _ c.in_ok-command.ensures c.requires c.in-Ok.ensures.matches in
    some_now c.get_str.result h.first (c.get_str.ensures ∙ h.is_first)

pub unwrap-second-requires : goal.unwrap-second-requires
unwrap-second-requires c =
    let h = has_three _ c.in-Ok.matches _ c.in_ok-command.ensures c.requires c.in-Ok.ensures.matches in
    some_now c.get_str-in-Ok.result h.second (c.get_str-in-Ok.ensures ∙ h.is_second)

pub unwrap-third-requires : goal.unwrap-third-requires
unwrap-third-requires c =
    let h = has_three _ c.in-Ok.matches _ c.in_ok-command.ensures c.requires c.in-Ok.ensures.matches in
    some_now c.get_str-in-Ok-2.result h.third (c.get_str-in-Ok-2.ensures ∙ h.is_third)

pub returns-in-Ok : goal.returns-in-Ok
returns-in-Ok c =
    let h = has_three _ c.in-Ok.matches _ c.in_ok-command.ensures c.requires c.in-Ok.ensures.matches in
    let first : h.first ≡ c.unwrap-first.result.now = now_is _ c.unwrap-first.result _ h.first c.unwrap-first.ensures c.get_str.ensures h.is_first in
    let second : h.second ≡ c.unwrap-second.result.now = now_is _ c.unwrap-second.result _ h.second c.unwrap-second.ensures c.get_str-in-Ok.ensures h.is_second in
    let third : h.third ≡ c.unwrap-third.result.now = now_is _ c.unwrap-third.result _ h.third c.unwrap-third.ensures c.get_str-in-Ok-2.ensures h.is_third in
    h.asked ∙ (λ i. Some (first i, second i, third i))
