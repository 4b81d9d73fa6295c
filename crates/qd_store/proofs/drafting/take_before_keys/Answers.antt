use Rattle.std.proofs.Common.{◌≡◌, ◌∙◌, true, false, Err, Result, IfSome, get_or, length, subst, sym, arith}
use Rattle.std.proofs.lemmas.Result.{err_from_is_err_and}
use Rattle.qd_base.specs.declared.part.WalRef.{WalRef}
use Rattle.qd_apply.specs.Drafts.{Drafting}
use Rattle.qd_durable.specs.declared.fault.LogFault.{LogFault}
use Rattle.qd_volume.specs.Disk.{reads_of}
use Rattle.qd_store.specs.Drafting.{AreTaken}
use Rattle.qd_store.specs.Drafts.{sets_keys_in}
use Rattle.qd_store.proofs.Taking.{goes_end, goes_more, leads_next, read_broken, take_broken, taken_ends, taken_upto, taken_whole, untaken_counts}
use Rattle.qd_store.proofs.drafting.take_before_keys.Goals as goal

pub returns-in_err-entry-clause-told : goal.returns-in_err-entry-clause-told
returns-in_err-entry-clause-told g c =
    let p = err_from_is_err_and c.from_residual.result c.from_residual.ensures.1 in
    let old = (g.V.Volume.storage c.args.volume.now).disk in
    let none : WalRef = record { wal = 0; segment = 0; start = 0; len = 0 } in
    subst (λ (r : Result Drafting LogFault). IfSome old (λ disk. AreTaken r c.args.refs.now c.args.draft (reads_of disk))) (sym p.1)
    (subst (λ (f : LogFault). IfSome old (λ disk. AreTaken (Err f) c.args.refs.now c.args.draft (reads_of disk))) (sym p.2)
    (read_broken c.args.refs.now c.args.draft c.loop-at.draft c.loop-at.at-index old c.loop-at.invariant.leads none c.loop-at-test.true (g.V.Volume.storage c.loop-at.volume).disk c.loop-at.invariant.stays c.in_err-entry.field-0.0 c.in_err-entry.ensures.told))

pub returns-then-sets_keys-clause-taken : goal.returns-then-sets_keys-clause-taken
returns-then-sets_keys-clause-taken g c = goes_end c.loop-at.at-index (length c.args.refs.now) c.args.draft c.loop-at.draft c.loop-at.invariant.goes (omega arith)

pub returns-then-sets_keys-clause-told : goal.returns-then-sets_keys-clause-told
returns-then-sets_keys-clause-told g c =
    let old = (g.V.Volume.storage c.args.volume.now).disk in
    let none : WalRef = record { wal = 0; segment = 0; start = 0; len = 0 } in
    let sets : sets_keys_in c.in_ok-entry.entry ≡ true = sym c.sets_keys.ensures.keys ∙ c.if-sets_keys.true in
    taken_ends c.args.refs.now c.args.draft c.loop-at.draft c.loop-at.at-index old c.loop-at.invariant.leads none c.loop-at-test.true (g.V.Volume.storage c.loop-at.volume).disk c.loop-at.invariant.stays c.in_ok-entry.entry c.in_ok-entry.ensures.told sets

pub returns-in_err-draft-clause-told : goal.returns-in_err-draft-clause-told
returns-in_err-draft-clause-told g c =
    let p = err_from_is_err_and c.from_residual-in_err-draft.result c.from_residual-in_err-draft.ensures.1 in
    let old = (g.V.Volume.storage c.args.volume.now).disk in
    let none : WalRef = record { wal = 0; segment = 0; start = 0; len = 0 } in
    subst (λ (r : Result Drafting LogFault). IfSome old (λ disk. AreTaken r c.args.refs.now c.args.draft (reads_of disk))) (sym p.1)
    (subst (λ (f : LogFault). IfSome old (λ disk. AreTaken (Err f) c.args.refs.now c.args.draft (reads_of disk))) (sym p.2)
    (take_broken c.args.refs.now c.args.draft c.loop-at.draft c.loop-at.at-index old c.loop-at.invariant.leads none c.loop-at-test.true (g.V.Volume.storage c.loop-at.volume).disk c.loop-at.invariant.stays c.in_ok-entry.entry c.in_ok-entry.ensures.told c.in_err-draft.field-0.0 c.in_err-draft.ensures.taken))

pub returns-in_err-draft-clause-counted : goal.returns-in_err-draft-clause-counted
returns-in_err-draft-clause-counted g c =
    let p = err_from_is_err_and c.from_residual-in_err-draft.result c.from_residual-in_err-draft.ensures.1 in
    let none : WalRef = record { wal = 0; segment = 0; start = 0; len = 0 } in
    rw (p.1, p.2) (untaken_counts Drafting (get_or c.args.refs.now c.loop-at.at-index none) c.loop-at.draft c.in_ok-entry.entry c.in_err-draft.field-0.0 _ _ c.in_err-draft.ensures.taken (c.in_ok-entry.ensures.counted ∙ c.loop-at.invariant.counted))

pub read_entry-requires : goal.read_entry-requires
read_entry-requires g c = record { segment = c.requires.segments c.loop-at.at-index (record { wal = 0; segment = 0; start = 0; len = 0 }) c.loop-at-test.true }

pub take_entry-requires-clause-segment : goal.take_entry-requires-clause-segment
take_entry-requires-clause-segment g c = c.requires.segments c.loop-at.at-index (record { wal = 0; segment = 0; start = 0; len = 0 }) c.loop-at-test.true

pub loop-at-preserved : goal.loop-at-preserved
loop-at-preserved g c =
    let none : WalRef = record { wal = 0; segment = 0; start = 0; len = 0 } in
    let old = (g.V.Volume.storage c.args.volume.now).disk in
    let goes_on : sets_keys_in c.in_ok-entry.entry ≡ false = sym c.sets_keys.ensures.keys ∙ c.if-sets_keys.false in
    record {
      upto = omega (arith, taken_upto c.loop-at.draft c.in_ok-draft.draft c.in_ok-entry.entry c.in_ok-draft.ensures.taken, c.loop-at.invariant.upto);
      goes = goes_more c.loop-at.at-index c.args.draft c.loop-at.draft c.in_ok-draft.draft c.in_ok-entry.entry c.loop-at.invariant.goes c.in_ok-draft.ensures.taken goes_on;
      stays = c.in_ok-entry.ensures.stays ∙ c.loop-at.invariant.stays;
      counted = c.in_ok-entry.ensures.counted ∙ c.loop-at.invariant.counted;
      leads = leads_next c.args.refs.now c.args.draft c.loop-at.draft c.loop-at.at-index old c.loop-at.invariant.leads none c.loop-at-test.true (g.V.Volume.storage c.loop-at.volume).disk c.loop-at.invariant.stays c.in_ok-entry.entry c.in_ok-entry.ensures.told c.in_ok-draft.draft goes_on c.in_ok-draft.ensures.taken;
    }

pub returns-clause-taken : goal.returns-clause-taken
returns-clause-taken g c = goes_end c.loop-at.at-index (length c.args.refs.now) c.args.draft c.loop-at.draft c.loop-at.invariant.goes (omega arith)

pub returns-clause-told : goal.returns-clause-told
returns-clause-told g c = taken_whole c.args.refs.now c.args.draft c.loop-at.draft c.loop-at.at-index (g.V.Volume.storage c.args.volume.now).disk c.loop-at.invariant.leads c.loop-at-test.false
