use Rattle.std.proofs.Common.{◌≡◌, sym, subst}
use Rattle.std.specs.Arc.{arc_value}
use Rattle.qd_block.specs.Blocks.{Block}
use Rattle.qd_durable.specs.declared.fault.LogFault.TheVariants as damage
use Rattle.qd_scan.specs.Sources.{part_at, schema_at, HasRowsOf, IsBlockOf}
use Rattle.qd_store_backend.specs.Backs.{source_of, Parts}
use Rattle.qd_store_backend.specs.Kept.{AreOf}
use Rattle.qd_store_backend.proofs.KeptLemmas.{damage_stays, keeping_read, none_damaged, no_other_of, one_of}
use Rattle.qd_store_backend.proofs.Shown.{block_fits, damage_found, part_there, rows_told}
use Rattle.qd_store_backend.proofs.parts.StorePartsPartSource.part.Goals as goal

pub invariant_of-self : goal.invariant_of-self
invariant_of-self g c =
    let i = c.self.inside in
    let p : Parts = record { owned = i.store; history = i.telling.history; schemas = i.schemas; damages = i.damages; last_damage = i.last_damage } in
    record { parts = c.self.invariant.parts; blocks = no_other_of (source_of p) i.kept.cache.entries c.find.new.self.cache.entries c.find.ensures.keeps c.self.invariant.blocks }

pub invariant_of-self-in-Some : goal.invariant_of-self-in-Some
invariant_of-self-in-Some g c =
    let i = c.self.inside in
    let p : Parts = record { owned = i.store; history = i.telling.history; schemas = i.schemas; damages = i.damages; last_damage = i.last_damage } in
    record { parts = c.self.invariant.parts; blocks = no_other_of (source_of p) i.kept.cache.entries c.find.new.self.cache.entries c.find.ensures.keeps c.self.invariant.blocks }

pub returns-in-Some-clause-block : goal.returns-in-Some-clause-block
returns-in-Some-clause-block g c =
    let i = c.self.inside in
    let p : Parts = record { owned = i.store; history = i.telling.history; schemas = i.schemas; damages = i.damages; last_damage = i.last_damage } in
    let kept = rw c.in-Some.is at c.in_ok-block.ensures.found in
    subst (λ (x : Parts). IsBlockOf (schema_at (source_of x) c.args.table) (part_at (source_of x) c.args.table c.args.i) (arc_value c.in-Some.block)) c.self.view_is
    (c.self.invariant.blocks c.args.table c.args.i (arc_value c.in-Some.block) kept).0

pub read_part-requires : goal.read_part-requires
read_part-requires g c =
    let p : Parts = record { owned = c.self.inside.store; history = c.self.inside.telling.history; schemas = c.self.inside.schemas; damages = c.self.inside.damages; last_damage = c.self.inside.last_damage } in
    record { there = part_there p c.args.self.now c.current-row.result c.args.table c.args.i c.self.view_is c.self.invariant.parts c.current-row.ensures.row c.current-row.ensures.live c.requires.table c.requires.there }

pub invariant_of-self-in_err-share-in-Ok : goal.invariant_of-self-in_err-share-in-Ok
invariant_of-self-in_err-share-in-Ok g c =
    let i = c.self.inside in
    let p : Parts = record { owned = i.store; history = i.telling.history; schemas = i.schemas; damages = i.damages; last_damage = i.last_damage } in
    let block = c.in-Ok.block in
    let now = source_of c.args.self.now in
    let was = i.kept.cache.entries in
    let found = c.find.new.self.cache.entries in
    let shared = c.share.new.self.cache.entries in
    let fits = block_fits p c.args.self.now c.current-row.result c.args.table c.args.i c.self.view_is c.self.invariant.parts c.current-row.ensures.row c.current-row.ensures.live c.requires.table c.requires.there block c.in-Ok.ensures.block in
    let rows = rows_told p c.args.self.now c.current-row.result c.args.table c.args.i c.self.view_is c.self.invariant.parts c.current-row.ensures.row c.current-row.ensures.live c.requires.table c.requires.there block c.in-Ok.ensures.shown in
    let are = subst (λ (x : Parts). AreOf (source_of x) found) c.self.view_is (no_other_of (source_of p) was found c.find.ensures.keeps c.self.invariant.blocks) in
    let blocks = subst (λ (x : Parts). AreOf (source_of x) shared) (sym c.self.view_is) (one_of now found shared c.args.table c.args.i block c.share.ensures.keeps fits rows are) in
    keeping_read p c.read_part.new.self i.damages i.last_damage shared (record { parts = c.self.invariant.parts; blocks = blocks }) c.read_part.ensures.store c.read_part.ensures.stays c.self.invariant.parts.whole (damage_stays i.store c.read_part.new.self i.last_damage c.read_part.ensures.store c.read_part.ensures.stays c.self.invariant.parts.damage)

pub invariant_of-self-in-Ok : goal.invariant_of-self-in-Ok
invariant_of-self-in-Ok g c =
    let i = c.self.inside in
    let p : Parts = record { owned = i.store; history = i.telling.history; schemas = i.schemas; damages = i.damages; last_damage = i.last_damage } in
    let block = c.in-Ok.block in
    let now = source_of c.args.self.now in
    let was = i.kept.cache.entries in
    let found = c.find.new.self.cache.entries in
    let shared = c.share.new.self.cache.entries in
    let fits = block_fits p c.args.self.now c.current-row.result c.args.table c.args.i c.self.view_is c.self.invariant.parts c.current-row.ensures.row c.current-row.ensures.live c.requires.table c.requires.there block c.in-Ok.ensures.block in
    let rows = rows_told p c.args.self.now c.current-row.result c.args.table c.args.i c.self.view_is c.self.invariant.parts c.current-row.ensures.row c.current-row.ensures.live c.requires.table c.requires.there block c.in-Ok.ensures.shown in
    let are = subst (λ (x : Parts). AreOf (source_of x) found) c.self.view_is (no_other_of (source_of p) was found c.find.ensures.keeps c.self.invariant.blocks) in
    let blocks = subst (λ (x : Parts). AreOf (source_of x) shared) (sym c.self.view_is) (one_of now found shared c.args.table c.args.i block c.share.ensures.keeps fits rows are) in
    keeping_read p c.read_part.new.self i.damages i.last_damage shared (record { parts = c.self.invariant.parts; blocks = blocks }) c.read_part.ensures.store c.read_part.ensures.stays c.self.invariant.parts.whole (damage_stays i.store c.read_part.new.self i.last_damage c.read_part.ensures.store c.read_part.ensures.stays c.self.invariant.parts.damage)

pub invariant_of-self-in-Err-Vol : goal.invariant_of-self-in-Err-Vol
invariant_of-self-in-Err-Vol g c =
    let i = c.self.inside in
    let p : Parts = record { owned = i.store; history = i.telling.history; schemas = i.schemas; damages = i.damages; last_damage = i.last_damage } in
    keeping_read p c.read_part.new.self i.damages i.last_damage c.find.new.self.cache.entries (record { parts = c.self.invariant.parts; blocks = no_other_of (source_of p) i.kept.cache.entries c.find.new.self.cache.entries c.find.ensures.keeps c.self.invariant.blocks }) c.read_part.ensures.store c.read_part.ensures.stays c.self.invariant.parts.whole (damage_stays i.store c.read_part.new.self i.last_damage c.read_part.ensures.store c.read_part.ensures.stays c.self.invariant.parts.damage)

pub invariant_of-self-in-Err-Memory : goal.invariant_of-self-in-Err-Memory
invariant_of-self-in-Err-Memory g c =
    let i = c.self.inside in
    let p : Parts = record { owned = i.store; history = i.telling.history; schemas = i.schemas; damages = i.damages; last_damage = i.last_damage } in
    keeping_read p c.read_part.new.self i.damages i.last_damage c.find.new.self.cache.entries (record { parts = c.self.invariant.parts; blocks = no_other_of (source_of p) i.kept.cache.entries c.find.new.self.cache.entries c.find.ensures.keeps c.self.invariant.blocks }) c.read_part.ensures.store c.read_part.ensures.stays c.self.invariant.parts.whole (damage_stays i.store c.read_part.new.self i.last_damage c.read_part.ensures.store c.read_part.ensures.stays c.self.invariant.parts.damage)

pub invariant_of-self-in-Err-Damaged : goal.invariant_of-self-in-Err-Damaged
invariant_of-self-in-Err-Damaged g c =
    let i = c.self.inside in
    let p : Parts = record { owned = i.store; history = i.telling.history; schemas = i.schemas; damages = i.damages; last_damage = i.last_damage } in
    let damaged : c.in-Err-Damaged.field-0 ≡ damage.Damaged c.in-Err-Damaged.file c.in-Err-Damaged.at = search in
    keeping_read p c.read_part.new.self c.saturating_add-self-inside.result _ c.find.new.self.cache.entries (record { parts = c.self.invariant.parts; blocks = no_other_of (source_of p) i.kept.cache.entries c.find.new.self.cache.entries c.find.ensures.keeps c.self.invariant.blocks }) c.read_part.ensures.store c.read_part.ensures.stays
    (none_damaged p c.current-row.result c.args.table c.args.i c.in-Err-Damaged.file c.in-Err-Damaged.at c.saturating_add-self-inside.result c.in-Err-Damaged.field-0 c.self.invariant.parts damaged c.in-Err-Damaged.ensures.shown)
    (rw damaged (damage_found p c.args.self.now c.current-row.result c.args.table c.args.i c.self.view_is c.self.invariant.parts c.current-row.ensures.row c.current-row.ensures.live c.requires.table c.requires.there c.read_part.new.self c.in-Err-Damaged.file c.in-Err-Damaged.at c.in-Err-Damaged.field-0 damaged c.read_part.ensures.store c.read_part.ensures.stays c.in-Err-Damaged.ensures.told))

pub returns-in_ok-share-in-Ok-clause-block : goal.returns-in_ok-share-in-Ok-clause-block
returns-in_ok-share-in-Ok-clause-block g c =
    let i = c.self.inside in
    let p : Parts = record { owned = i.store; history = i.telling.history; schemas = i.schemas; damages = i.damages; last_damage = i.last_damage } in
    subst (λ (b : Block). IsBlockOf (schema_at (source_of c.args.self.now) c.args.table) (part_at (source_of c.args.self.now) c.args.table c.args.i) b) (sym c.in_ok-share-in-Ok.ensures.shared)
    (block_fits p c.args.self.now c.current-row.result c.args.table c.args.i c.self.view_is c.self.invariant.parts c.current-row.ensures.row c.current-row.ensures.live c.requires.table c.requires.there c.in-Ok.block c.in-Ok.ensures.block)

pub returns-in_ok-share-in-Ok-clause-told : goal.returns-in_ok-share-in-Ok-clause-told
returns-in_ok-share-in-Ok-clause-told g c =
    let i = c.self.inside in
    let p : Parts = record { owned = i.store; history = i.telling.history; schemas = i.schemas; damages = i.damages; last_damage = i.last_damage } in
    subst (λ (b : Block). HasRowsOf (source_of c.args.self.now) c.args.table c.args.i b) (sym c.in_ok-share-in-Ok.ensures.shared)
    (rows_told p c.args.self.now c.current-row.result c.args.table c.args.i c.self.view_is c.self.invariant.parts c.current-row.ensures.row c.current-row.ensures.live c.requires.table c.requires.there c.in-Ok.block c.in-Ok.ensures.shown)
