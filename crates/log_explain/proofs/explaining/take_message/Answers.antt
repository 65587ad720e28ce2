use Rattle.log_explain.proofs.Texts.{on_ok}
use Rattle.log_explain.proofs.explaining.take_message.Goals as goal

pub returns-in-None-clause-takes : goal.returns-in-None-clause-takes
returns-in-None-clause-takes c =
    on_ok _ _ c.take.result (λ takes past s. takes past (c.quick.ensures.none c.in-None.is past s)) c.take.ensures.takes
