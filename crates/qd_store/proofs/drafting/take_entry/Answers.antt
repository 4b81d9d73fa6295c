use Rattle.qd_store.proofs.Taking.{none_taken, one_taken}
use Rattle.qd_store.proofs.drafting.take_entry.Goals as goal

pub returns-in-Some : goal.returns-in-Some
returns-in-Some c = record {
  taken = one_taken c.args.at c.args.draft c.args.entry.now c.in_ok-next.field-0 c.in_ok-next.ensures.lawful c.in_ok-next.ensures.taken c.in-Some.next c.in-Some.is;
}

pub returns-in-None : goal.returns-in-None
returns-in-None c = record {
  taken = none_taken c.args.at c.args.draft c.args.entry.now c.in_ok-next.field-0 c.in_ok-next.ensures.lawful c.in_ok-next.ensures.taken c.in-None.is c.segment_file.result c.segment_file.ensures.number;
}
