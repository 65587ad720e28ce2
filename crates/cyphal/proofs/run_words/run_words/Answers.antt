use Rattle.cyphal.proofs.Answered.{answered}
use Rattle.cyphal.proofs.Parts.{begins_either, whole_either}
use Rattle.cyphal.proofs.run_words.run_words.Goals as goal

pub returns-clause-answered : goal.returns-clause-answered
returns-clause-answered g c =
    let done = c.work-done.ensures in
    answered (c.one_answer.ensures, c.one_plan.ensures) c.one_status.ensures.encode c.one_status.ensures.decode _ _ _ _ _ done.done done.usage c.headline_laws.ensures

pub returns-clause-said : goal.returns-clause-said
returns-clause-said g c = record {
  line = begins_either c.put_error.result _ _ _ c.put_error.ensures.written c.put_error.ensures.begins;
  whole_line = whole_either c.put_error.result _ _ c.put_error.ensures.written c.put_error.ensures.fault;
}
