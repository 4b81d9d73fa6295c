use Rattle.std.proofs.Common.{◌≡◌, ◌^◌, ◌<◌, List, Some, IfOk, IfSome, length, refl, ap, subst, arith}
use Rattle.std.proofs.lemmas.List.Elements.{All-drop, All-take}
use Rattle.qd_base.specs.declared.op.Entry.{Entry}
use Rattle.qd_base.specs.declared.part.WalRef.{WalRef}
use Rattle.qd_catalog.specs.Versions.{Versions, n_of, version_at}
use Rattle.qd_txnfile.specs.Versions.{Version}
use Rattle.qd_volume.specs.Disk.{reads_of}
use Rattle.qd_store.specs.Drafting.{AreArrived, IsArrived, IsArrivedFrom}
use Rattle.qd_store.specs.Stores.{Book, IsStore}
use Rattle.qd_store.proofs.Arrived.{arrived_over, arrived_read, arrived_told, number_here, tables_here}
use Rattle.qd_store.proofs.Committing.{the_current}
use Rattle.qd_store.proofs.book.Book.arrived.Goals as goal

pub take_round-requires-clause-segments : goal.take_round-requires-clause-segments
take_round-requires-clause-segments g c = All-take (λ (at : WalRef). at.segment < 2 ^ 24) _ _ (All-drop (λ (at : WalRef). at.segment < 2 ^ 24) _ _ c.refs.ensures.segments)

pub returns-clause-arrived : goal.returns-clause-arrived
returns-clause-arrived g c =
    let inside : Book = record { sequence = c.self.inside.sequencer; versions = c.self.inside.versions; limits = c.self.inside.limits } in
    let v : Versions = c.self.inside.versions.versions in
    let x = the_current (version_at v v.current) c.keeps_its_law.ensures.law.live in
    let here : version_at c.args.self.now.versions.versions c.args.self.now.versions.versions.current ≡ Some x.0 = subst (λ (s : Book). version_at s.versions.versions s.versions.versions.current ≡ Some x.0) c.self.view_is x.1 in
    let below = c.requires.more x.0.n (ap n_of here) in
    let number = number_here v c.current-row.result c.current-row.ensures.row x.0 x.1 c.n_of.result c.unwrap_or-n.result c.n_of.ensures.n c.unwrap_or-n.ensures in
    subst (λ (s : Book). IfOk c.take_round.result (λ d. IsArrived s.versions.versions c.args.upto d)) c.self.view_is
    (arrived_over x.0 c.unwrap_or-n.result c.shape_of-shape.result.now number
    (tables_here v c.current-row.result c.current-row.ensures.row x.0 x.1 c.shape_of-shape.result.now c.shape_of-shape.ensures.shape)
    v.next_block c.next_block.result c.in_ok-draft.draft c.next_block.ensures.next c.in_ok-draft.ensures.begun c.take_round.result c.refs.result.now c.self.inside.sequencer.refs c.args.upto c.refs.ensures.list
    (omega (arith, c.requires.few, ap (λ (s : Book). length s.sequence.refs) c.self.view_is)) below
    v refl x.1 c.take_round.ensures.taken)

pub returns-clause-told : goal.returns-clause-told
returns-clause-told g c =
    let inside : Book = record { sequence = c.self.inside.sequencer; versions = c.self.inside.versions; limits = c.self.inside.limits } in
    let v : Versions = c.self.inside.versions.versions in
    let x = the_current (version_at v v.current) c.keeps_its_law.ensures.law.live in
    let here : version_at c.args.self.now.versions.versions c.args.self.now.versions.versions.current ≡ Some x.0 = subst (λ (s : Book). version_at s.versions.versions s.versions.versions.current ≡ Some x.0) c.self.view_is x.1 in
    let below = c.requires.more x.0.n (ap n_of here) in
    let number = number_here v c.current-row.result c.current-row.ensures.row x.0 x.1 c.n_of.result c.unwrap_or-n.result c.n_of.ensures.n c.unwrap_or-n.ensures in
    let old = (g.V.Volume.storage c.args.volume.now).disk in
    subst (λ (s : Book). IfSome old (λ disk. (h : List Entry) (next : Version) → IsStore s h next disk → IsArrivedFrom c.take_round.result s h c.args.upto)) c.self.view_is
    (arrived_told x.0 c.unwrap_or-n.result c.shape_of-shape.result.now number
    (tables_here v c.current-row.result c.current-row.ensures.row x.0 x.1 c.shape_of-shape.result.now c.shape_of-shape.ensures.shape)
    v.next_block c.next_block.result c.in_ok-draft.draft c.next_block.ensures.next c.in_ok-draft.ensures.begun c.take_round.result c.refs.result.now c.self.inside.sequencer.refs c.args.upto c.refs.ensures.list
    (omega (arith, c.requires.few, ap (λ (s : Book). length s.sequence.refs) c.self.view_is)) below
    inside refl refl x.1 c.one_entry_is_read.ensures old c.take_round.ensures.told)

pub returns-clause-read : goal.returns-clause-read
returns-clause-read g c =
    let inside : Book = record { sequence = c.self.inside.sequencer; versions = c.self.inside.versions; limits = c.self.inside.limits } in
    let v : Versions = c.self.inside.versions.versions in
    let x = the_current (version_at v v.current) c.keeps_its_law.ensures.law.live in
    let here : version_at c.args.self.now.versions.versions c.args.self.now.versions.versions.current ≡ Some x.0 = subst (λ (s : Book). version_at s.versions.versions s.versions.versions.current ≡ Some x.0) c.self.view_is x.1 in
    let below = c.requires.more x.0.n (ap n_of here) in
    let number = number_here v c.current-row.result c.current-row.ensures.row x.0 x.1 c.n_of.result c.unwrap_or-n.result c.n_of.ensures.n c.unwrap_or-n.ensures in
    let old = (g.V.Volume.storage c.args.volume.now).disk in
    subst (λ (s : Book). IfSome old (λ disk. AreArrived c.take_round.result s c.args.upto (reads_of disk))) c.self.view_is
    (arrived_read x.0 c.unwrap_or-n.result c.shape_of-shape.result.now number
    (tables_here v c.current-row.result c.current-row.ensures.row x.0 x.1 c.shape_of-shape.result.now c.shape_of-shape.ensures.shape)
    v.next_block c.next_block.result c.in_ok-draft.draft c.next_block.ensures.next c.in_ok-draft.ensures.begun c.take_round.result c.refs.result.now c.self.inside.sequencer.refs c.args.upto c.refs.ensures.list
    (omega (arith, c.requires.few, ap (λ (s : Book). length s.sequence.refs) c.self.view_is)) below
    inside refl refl x.1 old c.take_round.ensures.told)
