use Rattle.cyphal.proofs.Parts.{begins_either, whole_either}
use Rattle.cyphal.proofs.program.tell.Goals as goal

pub returns-in-Err-clause-said : goal.returns-in-Err-clause-said
returns-in-Err-clause-said g c nine = record {
  line = begins_either c.put_error.result _ _ _ c.put_error.ensures.written c.put_error.ensures.begins;
  whole_line = whole_either c.put_error.result _ _ c.put_error.ensures.written c.put_error.ensures.fault;
}
