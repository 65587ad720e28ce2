use Rattle.std.proofs.Common.{◌∙◌, refl, sym}
use Rattle.std.proofs.lemmas.Float.{T_from_false}
use Rattle.std.specs.Float.{binary32}
use Rattle.std.specs.Prelude.{is_nan}
use Rattle.value_json.proofs.Adding.{on_ok}
use Rattle.value_json.proofs.Floats.{put_finite, put_infinite, put_nan}
use Rattle.value_json.proofs.float.put_single.Goals as goal

pub returns-then-is_nan-clause-put : goal.returns-then-is_nan-clause-put
returns-then-is_nan-clause-put c =
    on_ok c.put_word.result (λ e. put_nan c.args.width c.args.x _ _ _ (sym c.is_nan.ensures.value ∙ c.if-is_nan.true) e refl) c.put_word.ensures.text

pub is_sign_negative-requires : goal.is_sign_negative-requires
is_sign_negative-requires c = T_from_false (is_nan c.args.x) (sym c.is_nan.ensures.value ∙ c.if-is_nan.false)

pub returns-then-not-is_finite-clause-put : goal.returns-then-not-is_finite-clause-put
returns-then-not-is_finite-clause-put c =
    on_ok c.put_infinity.result
    (λ e. put_infinite c.args.width c.args.x c.is_sign_negative.result _ _ (sym c.is_nan.ensures.value ∙ c.if-is_nan.false) (sym c.is_finite.ensures.value ∙ c.if-not-is_finite.true)
    c.is_sign_negative.ensures e) c.put_infinity.ensures.text

pub returns-clause-put : goal.returns-clause-put
returns-clause-put c =
    put_finite c.args.width binary32 c.args.x _ _ _ _ c.reserve.ensures.text c.requires (sym c.is_finite.ensures.value ∙ c.if-not-is_finite.false) c.format-len.ensures.parses c.format-len.ensures.layout
    c.put.ensures.text
