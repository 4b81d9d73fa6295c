use Rattle.std.proofs.Common.{length, arith}
use Rattle.qd_fields.specs.Spelling.{u32_bytes}
use Rattle.qd_wal_entry.proofs.DraftLemmas.{text_next}
use Rattle.qd_wal_entry.proofs.draft.push_texts.Goals as goal

pub loop-id-preserved : goal.loop-id-preserved
loop-id-preserved c = text_next c.args.bytes.now.items (u32_bytes (length c.args.texts.now)) c.loop-id.bytes.items c.push_text.new.bytes.items c.args.texts.now c.loop-id.id c.text_of.result.now (omega (arith, c.len-id-end.ensures.count)) c.text_of.ensures.text c.loop-id.invariant c.in_ok-push_text.ensures.bytes
