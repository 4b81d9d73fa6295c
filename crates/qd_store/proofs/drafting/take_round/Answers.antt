use Rattle.std.proofs.Common.{◌^◌, ◌-◌, ◌<◌, ap, drop, get_or, Err, IfSome, Result, length, refl, subst, sym, take, arith}
use Rattle.std.proofs.lemmas.List.Elements.{All-drop, All-take}
use Rattle.std.proofs.lemmas.Result.{IfOk-weaker, err_from_is_err_and}
use Rattle.qd_base.specs.declared.part.WalRef.{WalRef}
use Rattle.qd_apply.specs.Drafts.{Drafting}
use Rattle.qd_durable.specs.declared.fault.LogFault.{LogFault}
use Rattle.qd_volume.specs.Disk.{reads_of}
use Rattle.qd_store.specs.Drafting.{AreSomeTaken, IsRoundTaken, IsSomeRound}
use Rattle.qd_store.proofs.Taking.{first_of, first_unread, first_untaken, round_told, some_round, untaken_counts}
use Rattle.qd_store.proofs.drafting.take_round.Goals as goal

pub read_entry-requires : goal.read_entry-requires
read_entry-requires g c = record { segment = c.requires.segments 0 (record { wal = 0; segment = 0; start = 0; len = 0 }) c.requires.some }

pub take_entry-requires-clause-segment : goal.take_entry-requires-clause-segment
take_entry-requires-clause-segment g c = c.requires.segments 0 (record { wal = 0; segment = 0; start = 0; len = 0 }) c.requires.some

pub returns-in_err-entry-clause-told : goal.returns-in_err-entry-clause-told
returns-in_err-entry-clause-told g c =
    let p = err_from_is_err_and c.from_residual.result c.from_residual.ensures.1 in
    let old = (g.V.Volume.storage c.args.volume.now).disk in
    let none : WalRef = record { wal = 0; segment = 0; start = 0; len = 0 } in
    let refs = c.args.refs.now in
    subst (λ (r : Result Drafting LogFault). IfSome old (λ disk. IsRoundTaken r refs c.args.draft (reads_of disk))) (sym p.1)
    (subst (λ (f : LogFault). IfSome old (λ disk. IsRoundTaken (Err f) refs c.args.draft (reads_of disk))) (sym p.2)
    (first_unread refs (take (length refs - 1) (drop 1 refs)) (get_or refs 0 none) (first_of refs none c.requires.some) c.args.draft old old refl c.in_err-entry.field-0.0 c.in_err-entry.ensures.told))

pub returns-in_err-draft-clause-told : goal.returns-in_err-draft-clause-told
returns-in_err-draft-clause-told g c =
    let p = err_from_is_err_and c.from_residual-in_err-draft.result c.from_residual-in_err-draft.ensures.1 in
    let old = (g.V.Volume.storage c.args.volume.now).disk in
    let none : WalRef = record { wal = 0; segment = 0; start = 0; len = 0 } in
    let refs = c.args.refs.now in
    subst (λ (r : Result Drafting LogFault). IfSome old (λ disk. IsRoundTaken r refs c.args.draft (reads_of disk))) (sym p.1)
    (subst (λ (f : LogFault). IfSome old (λ disk. IsRoundTaken (Err f) refs c.args.draft (reads_of disk))) (sym p.2)
    (first_untaken refs (take (length refs - 1) (drop 1 refs)) (get_or refs 0 none) (first_of refs none c.requires.some) c.args.draft old old refl c.in_ok-entry.entry c.in_ok-entry.ensures.told c.in_err-draft.field-0.0 c.in_err-draft.ensures.taken))

pub returns-in_err-draft-clause-counted : goal.returns-in_err-draft-clause-counted
returns-in_err-draft-clause-counted g c =
    let p = err_from_is_err_and c.from_residual-in_err-draft.result c.from_residual-in_err-draft.ensures.1 in
    let none : WalRef = record { wal = 0; segment = 0; start = 0; len = 0 } in
    rw (p.1, p.2) (untaken_counts Drafting (get_or c.args.refs.now 0 none) c.args.draft c.in_ok-entry.entry c.in_err-draft.field-0.0 _ _ c.in_err-draft.ensures.taken c.in_ok-entry.ensures.counted)

pub take_before_keys-requires-clause-segments : goal.take_before_keys-requires-clause-segments
take_before_keys-requires-clause-segments g c = All-take (λ (at : WalRef). at.segment < 2 ^ 24) _ _ (All-drop (λ (at : WalRef). at.segment < 2 ^ 24) 1 c.args.refs.now c.requires.segments)

pub returns-clause-taken : goal.returns-clause-taken
returns-clause-taken g c =
    let refs = c.args.refs.now in
    IfOk-weaker c.take_before_keys.result (λ d. AreSomeTaken (length (take (length refs - 1) (drop 1 refs))) c.in_ok-draft.draft d) (λ d. IsSomeRound (length refs) c.args.draft d)
    (λ d some. some_round (length (take (length refs - 1) (drop 1 refs))) (length refs) c.args.draft c.in_ok-draft.draft d c.in_ok-entry.entry c.in_ok-draft.ensures.taken some (omega (arith, ap length (first_of refs (record { wal = 0; segment = 0; start = 0; len = 0 }) c.requires.some))))
    c.take_before_keys.ensures.taken

pub returns-clause-told : goal.returns-clause-told
returns-clause-told g c =
    let old = (g.V.Volume.storage c.args.volume.now).disk in
    let none : WalRef = record { wal = 0; segment = 0; start = 0; len = 0 } in
    let refs = c.args.refs.now in
    round_told refs (take (length refs - 1) (drop 1 refs)) (get_or refs 0 none) (first_of refs none c.requires.some) c.args.draft _ old c.in_ok-entry.ensures.stays c.in_ok-entry.entry c.in_ok-entry.ensures.told c.in_ok-draft.draft c.take_before_keys.result c.in_ok-draft.ensures.taken c.take_before_keys.ensures.told
