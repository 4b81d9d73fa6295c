use Rattle.std.proofs.Common.{◌≡◌, ◌∙◌, ◌+◌, List, Some, ap, sym, subst, take, drop}
use Rattle.std.proofs.lemmas.List.{take_all}
use Rattle.qd_base.specs.declared.op.Entry.{Entry}
use Rattle.qd_base.specs.declared.op.Op.{Op}
use Rattle.qd_base.specs.declared.schema.Schema.{Schema}
use Rattle.qd_base.specs.Database.{Database}
use Rattle.qd_base.specs.Lawful.{AreLawful, LawfulFrom}
use Rattle.qd_base.specs.Replay.{commit, replay}
use Rattle.qd_scan.specs.Sources.{SourceView}
use Rattle.qd_memory.specs.Kept.{database_of, schemas_in, Kept}
use Rattle.qd_memory.proofs.ChangeLemmas.{next_entry, replay_more, schemas_done}
use Rattle.qd_memory.proofs.parts.ListParts.apply.Goals as goal

pub after-requires : goal.after-requires
after-requires c =
    let next = next_entry (schemas_in c.loop-entry.next) c.args.entries.now c.loop-entry.entry-index c.entry-item.result c.loop-entry-test.true c.entry-item.is c.loop-entry.invariant.lawful in
    record { lawful = subst (AreLawful (schemas_in c.loop-entry.next)) (sym c.as_slice.ensures.items) next.0 }

pub loop-entry-preserved : goal.loop-entry-preserved
loop-entry-preserved c =
    let es = c.args.entries.now in
    let i = c.loop-entry.entry-index in
    let e : Entry = c.entry-item.result in
    let old = c.loop-entry.next in
    let now = c.in_ok-next-2.next in
    let first : Database = database_of c.in_ok-next.next in
    let next = next_entry (schemas_in old) es i e c.loop-entry-test.true c.entry-item.is c.loop-entry.invariant.lawful in
    let done : database_of c.in_ok-next-2.next ≡ commit (database_of c.loop-entry.next) c.entry-item.result = c.in_ok-next-2.ensures.after ∙ ap (λ (os : List Op). commit (database_of c.loop-entry.next) (record { ops = os })) c.as_slice.ensures.items in
    record {
      after = done ∙ ap (λ (db : Database). commit db c.entry-item.result) c.loop-entry.invariant.after ∙ sym (replay_more first es i e c.loop-entry-test.true c.entry-item.is);
      lawful = subst (λ (l : List Schema). LawfulFrom l (drop (c.loop-entry.entry-index + 1) c.args.entries.now)) (sym (schemas_done old now e.ops done)) next.1;
    }

pub returns-clause-ok : goal.returns-clause-ok
returns-clause-ok c = λ db told.
    let es = c.args.entries.now in
    let some : Some (database_of c.self.inside.kept) ≡ Some db = ap (λ (s : SourceView). s.database) c.self.view_is ∙ told in
    let begun : database_of c.self.inside.kept ≡ db = cc in
    let first : database_of c.in_ok-next.next ≡ db = ap database_of c.in_ok-next.ensures.same ∙ begun in
    ap (λ (d : Database). Some d)
    (c.in_ok-self-inside.ensures.same ∙ c.loop-entry.invariant.after
    ∙ ap (replay (database_of c.in_ok-next.next)) (take_all c.loop-entry.entry-index es c.loop-entry-test.false)
    ∙ ap (λ (d : Database). replay d c.args.entries.now) first)
