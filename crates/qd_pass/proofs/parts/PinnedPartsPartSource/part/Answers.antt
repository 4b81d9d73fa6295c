use Rattle.std.proofs.Common.{◌≡◌, ◌∙◌, ◌<◌, Err, ap, get_or, length, subst, sym}
use Rattle.std.specs.Arc.{arc_value}
use Rattle.qd_block.specs.Blocks.{Block}
use Rattle.qd_durable.specs.declared.fault.LogFault.TheVariants as fault
use Rattle.qd_scan.specs.Sources.{HasRowsOf, IsBlockOf, part_at, parts_at, schema_at}
use Rattle.qd_shared.specs.Snaps.{pinned_at}
use Rattle.qd_store_backend.proofs.Shown.{no_table_parts}
use Rattle.qd_pass.specs.Reading.{Reading, shown_of}
use Rattle.qd_pass.proofs.Pinned.{block_is, damaged_on, kept_are, none_on, part_in, put_on, reading_kept, rows_are}
use Rattle.qd_pass.proofs.parts.PinnedPartsPartSource.part.Goals as goal

pub invariant_of-self : goal.invariant_of-self
invariant_of-self g c =
    let i = c.self.inside in
    let r : Reading = record { from = i.from.was; pass = i.pass; pin = pinned_at i.pin; memo = i.memo; damages = i.damages; last_damage = i.last_damage } in
    (c.self.invariant.0, reading_kept r c.find.new.self c.find.ensures.keeps c.self.invariant.1)

pub invariant_of-self-in-Some : goal.invariant_of-self-in-Some
invariant_of-self-in-Some g c =
    let i = c.self.inside in
    let r : Reading = record { from = i.from.was; pass = i.pass; pin = pinned_at i.pin; memo = i.memo; damages = i.damages; last_damage = i.last_damage } in
    (c.self.invariant.0, reading_kept r c.find.new.self c.find.ensures.keeps c.self.invariant.1)

pub returns-in-Some-clause-block : goal.returns-in-Some-clause-block
returns-in-Some-clause-block g c =
    let i = c.self.inside in
    let r : Reading = record { from = i.from.was; pass = i.pass; pin = pinned_at i.pin; memo = i.memo; damages = i.damages; last_damage = i.last_damage } in
    let kept = rw c.in-Some.is at c.in_ok-block.ensures.found in
    subst (λ (x : Reading). IsBlockOf (schema_at (shown_of x) c.args.table) (part_at (shown_of x) c.args.table c.args.i) (arc_value c.in-Some.block)) c.self.view_is
    (kept_are r c.self.invariant.1 c.args.table c.args.i (arc_value c.in-Some.block) kept).0

pub returns-in-Some-clause-told : goal.returns-in-Some-clause-told
returns-in-Some-clause-told g c =
    let i = c.self.inside in
    let r : Reading = record { from = i.from.was; pass = i.pass; pin = pinned_at i.pin; memo = i.memo; damages = i.damages; last_damage = i.last_damage } in
    let kept = rw c.in-Some.is at c.in_ok-block.ensures.found in
    subst (λ (x : Reading). HasRowsOf (shown_of x) c.args.table c.args.i (arc_value c.in-Some.block)) c.self.view_is
    (kept_are r c.self.invariant.1 c.args.table c.args.i (arc_value c.in-Some.block) kept).1

pub read_part-requires-clause-there : goal.read_part-requires-clause-there
read_part-requires-clause-there g c =
    let i = c.self.inside in
    let r : Reading = record { from = i.from.was; pass = i.pass; pin = pinned_at i.pin; memo = i.memo; damages = i.damages; last_damage = i.last_damage } in
    let within = subst (λ (x : Reading). c.args.table < length (shown_of x).schemas) (sym c.self.view_is) c.requires.table in
    let there = subst (λ (x : Reading). c.args.i < length (parts_at (shown_of x) c.args.table)) (sym c.self.view_is) c.requires.there in
    (get_or i.memo.snap.shape c.args.table no_table_parts, part_at (shown_of r) c.args.table c.args.i, part_in r c.args.table c.args.i c.self.invariant.1 within there)

pub invariant_of-self-in_err-share-in-Ok : goal.invariant_of-self-in_err-share-in-Ok
invariant_of-self-in_err-share-in-Ok g c =
    let i = c.self.inside in
    let r : Reading = record { from = i.from.was; pass = i.pass; pin = pinned_at i.pin; memo = i.memo; damages = i.damages; last_damage = i.last_damage } in
    let within = subst (λ (x : Reading). c.args.table < length (shown_of x).schemas) (sym c.self.view_is) c.requires.table in
    let there = subst (λ (x : Reading). c.args.i < length (parts_at (shown_of x) c.args.table)) (sym c.self.view_is) c.requires.there in
    (c.read_part.ensures.reads.holds.table ∙ c.self.invariant.0, put_on r c.args.table c.args.i c.self.invariant.1 within c.read_part.result c.read_part.new.pass c.read_part.ensures.reads there c.find.new.self c.share.new.self c.in-Ok.block c.in-Ok.is c.find.ensures.keeps c.share.ensures.keeps)

pub invariant_of-self-in-Ok : goal.invariant_of-self-in-Ok
invariant_of-self-in-Ok g c =
    let i = c.self.inside in
    let r : Reading = record { from = i.from.was; pass = i.pass; pin = pinned_at i.pin; memo = i.memo; damages = i.damages; last_damage = i.last_damage } in
    let within = subst (λ (x : Reading). c.args.table < length (shown_of x).schemas) (sym c.self.view_is) c.requires.table in
    let there = subst (λ (x : Reading). c.args.i < length (parts_at (shown_of x) c.args.table)) (sym c.self.view_is) c.requires.there in
    (c.read_part.ensures.reads.holds.table ∙ c.self.invariant.0, put_on r c.args.table c.args.i c.self.invariant.1 within c.read_part.result c.read_part.new.pass c.read_part.ensures.reads there c.find.new.self c.share.new.self c.in-Ok.block c.in-Ok.is c.find.ensures.keeps c.share.ensures.keeps)

pub invariant_of-self-in-Err-Vol : goal.invariant_of-self-in-Err-Vol
invariant_of-self-in-Err-Vol g c =
    let i = c.self.inside in
    let r : Reading = record { from = i.from.was; pass = i.pass; pin = pinned_at i.pin; memo = i.memo; damages = i.damages; last_damage = i.last_damage } in
    let within = subst (λ (x : Reading). c.args.table < length (shown_of x).schemas) (sym c.self.view_is) c.requires.table in
    let there = subst (λ (x : Reading). c.args.i < length (parts_at (shown_of x) c.args.table)) (sym c.self.view_is) c.requires.there in
    (c.read_part.ensures.reads.holds.table ∙ c.self.invariant.0, none_on r c.args.table c.args.i c.self.invariant.1 within c.read_part.result c.read_part.new.pass c.read_part.ensures.reads there c.find.new.self c.find.ensures.keeps)

pub invariant_of-self-in-Err-Damaged : goal.invariant_of-self-in-Err-Damaged
invariant_of-self-in-Err-Damaged g c =
    let i = c.self.inside in
    let r : Reading = record { from = i.from.was; pass = i.pass; pin = pinned_at i.pin; memo = i.memo; damages = i.damages; last_damage = i.last_damage } in
    let within = subst (λ (x : Reading). c.args.table < length (shown_of x).schemas) (sym c.self.view_is) c.requires.table in
    let there = subst (λ (x : Reading). c.args.i < length (parts_at (shown_of x) c.args.table)) (sym c.self.view_is) c.requires.there in
    let damaged : c.in-Err-Damaged.field-0 ≡ fault.Damaged c.in-Err-Damaged.file c.in-Err-Damaged.at = search in
    (c.read_part.ensures.reads.holds.table ∙ c.self.invariant.0, damaged_on r c.args.table c.args.i c.self.invariant.1 within c.read_part.result c.read_part.new.pass c.read_part.ensures.reads there c.find.new.self c.in-Err-Damaged.file c.in-Err-Damaged.at c.saturating_add-self-inside.result _ (c.in-Err-Damaged.is ∙ ap (λ f. Err f) damaged) c.find.ensures.keeps)

pub invariant_of-self-in-Err-Memory : goal.invariant_of-self-in-Err-Memory
invariant_of-self-in-Err-Memory g c =
    let i = c.self.inside in
    let r : Reading = record { from = i.from.was; pass = i.pass; pin = pinned_at i.pin; memo = i.memo; damages = i.damages; last_damage = i.last_damage } in
    let within = subst (λ (x : Reading). c.args.table < length (shown_of x).schemas) (sym c.self.view_is) c.requires.table in
    let there = subst (λ (x : Reading). c.args.i < length (parts_at (shown_of x) c.args.table)) (sym c.self.view_is) c.requires.there in
    (c.read_part.ensures.reads.holds.table ∙ c.self.invariant.0, none_on r c.args.table c.args.i c.self.invariant.1 within c.read_part.result c.read_part.new.pass c.read_part.ensures.reads there c.find.new.self c.find.ensures.keeps)

pub returns-in_ok-share-in-Ok-clause-block : goal.returns-in_ok-share-in-Ok-clause-block
returns-in_ok-share-in-Ok-clause-block g c =
    let i = c.self.inside in
    let r : Reading = record { from = i.from.was; pass = i.pass; pin = pinned_at i.pin; memo = i.memo; damages = i.damages; last_damage = i.last_damage } in
    let within = subst (λ (x : Reading). c.args.table < length (shown_of x).schemas) (sym c.self.view_is) c.requires.table in
    let there = subst (λ (x : Reading). c.args.i < length (parts_at (shown_of x) c.args.table)) (sym c.self.view_is) c.requires.there in
    subst (λ (x : Reading). IsBlockOf (schema_at (shown_of x) c.args.table) (part_at (shown_of x) c.args.table c.args.i) (arc_value c.in_ok-share-in-Ok.field-0)) c.self.view_is
    (subst (λ (b : Block). IsBlockOf (schema_at (shown_of r) c.args.table) (part_at (shown_of r) c.args.table c.args.i) b) (sym c.in_ok-share-in-Ok.ensures.shared) (block_is r c.args.table c.args.i c.self.invariant.1 within c.read_part.result c.read_part.new.pass c.read_part.ensures.reads there c.in-Ok.block c.in-Ok.is))

pub returns-in_ok-share-in-Ok-clause-told : goal.returns-in_ok-share-in-Ok-clause-told
returns-in_ok-share-in-Ok-clause-told g c =
    let i = c.self.inside in
    let r : Reading = record { from = i.from.was; pass = i.pass; pin = pinned_at i.pin; memo = i.memo; damages = i.damages; last_damage = i.last_damage } in
    let within = subst (λ (x : Reading). c.args.table < length (shown_of x).schemas) (sym c.self.view_is) c.requires.table in
    let there = subst (λ (x : Reading). c.args.i < length (parts_at (shown_of x) c.args.table)) (sym c.self.view_is) c.requires.there in
    subst (λ (x : Reading). HasRowsOf (shown_of x) c.args.table c.args.i (arc_value c.in_ok-share-in-Ok.field-0)) c.self.view_is
    (subst (λ (b : Block). HasRowsOf (shown_of r) c.args.table c.args.i b) (sym c.in_ok-share-in-Ok.ensures.shared) (rows_are r c.args.table c.args.i c.self.invariant.1 within c.read_part.result c.read_part.new.pass c.read_part.ensures.reads there c.in-Ok.block c.in-Ok.is))
