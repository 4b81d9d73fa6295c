-- A pinned version as a source of parts: what is kept of it, over what its pass has seen since.
use Rattle.std.proofs.Common.{◌≡◌, ◌≢◌, ◌∙◌, ℕ, ◌<◌, ◌≤◌, List, length, map, Option, Some, None, IfSome, Result, Ok, Err, get_or, slice_get, length-append, refl, sym, ap, subst, arith}
use Rattle.std.proofs.lemmas.Option.{slice_get-get_or}
use Rattle.std.specs.Result.{IfOk}
use Rattle.std.specs.declared.sync.Arc.{Arc}
use Rattle.qd_base.specs.declared.op.Entry.{Entry}
use Rattle.qd_base.specs.declared.part.Part.{Part}
use Rattle.qd_base.specs.declared.schema.Schema.{Schema}
use Rattle.qd_base.specs.Database.{Database}
use Rattle.qd_base.specs.Replay.{first}
use Rattle.qd_block.specs.Blocks.{Block}
use Rattle.qd_durable.specs.declared.fault.LogFault.{LogFault}
use Rattle.qd_durable.specs.declared.fault.LogFault.TheVariants as fault
use Rattle.qd_manifest.specs.declared.shape.TableParts.{TableParts}
use Rattle.qd_manifest.specs.Spelling.{no_part}
use Rattle.qd_scan.specs.Sources.{HasRowsOf, IsBlockOf, IsSource, SourceView, part_at, parts_at, rows_at, rows_in_part, schema_at, table_rows}
use Rattle.qd_score_model.specs.declared.view.Place.{Place}
use Rattle.qd_score_model.specs.declared.view.Version.{Version}
use Rattle.qd_score_model.specs.Machine.{version_at}
use Rattle.qd_score_model.proofs.Lists.{prefix_length}
use Rattle.qd_session.specs.Looks.{Extends}
use Rattle.qd_session.proofs.RuleLemmas.{first-append}
use Rattle.qd_shared.specs.declared.item.Item.{Item}
use Rattle.qd_shared.specs.declared.snap.Snap.{Snap}
use Rattle.qd_shared.specs.Passes.{Pass, faults_of, history_of, view_of}
use Rattle.qd_shared.specs.Snaps.{AreHeld, HasPart, IsCopied, IsPinned, IsRowsOf, Notes, ReadsPart}
use Rattle.qd_store_backend.specs.Backs.{database_in}
use Rattle.qd_store_backend.specs.declared.kept.KeptBlocks.{KeptBlocks}
use Rattle.qd_store_backend.specs.Kept.{AreOf, KeepsNoOther, KeepsOne}
use Rattle.qd_store_backend.proofs.KeptLemmas.{no_other_of, one_of}
use Rattle.qd_store_backend.proofs.Shown.{is_table, no_table_parts, tables_law}
use Rattle.qd_pass.specs.declared.memo.Memo.{Memo}
use Rattle.qd_pass.specs.Memos.{source_over, IsMemoOf}
use Rattle.qd_pass.specs.Passed.{GoesStill, IsCounted}
use Rattle.qd_pass.specs.Reading.{IsReading, Reading, shown_of}
use Rattle.qd_pass.proofs.Going.{counted_now, extends_seen, held_still, still_both, still_refl}

-- ---- a longer history

-- no fewer transactions are told than are copied
pub few_told : (s : Snap) (a : Option (List Entry)) → IsCopied s a → IfSome a (λ h. s.n ≤ length h)
few_told s None c = tt
few_told s (Some h) c = c.held.0

database_on : (n : ℕ) (a b : Option (List Entry)) → Extends a b → IfSome a (λ h. n ≤ length h) → database_in b n ≡ database_in a n
database_on n None b e few = ap (λ (o : Option (List Entry)). database_in o n) e
database_on n (Some h) b (more, e) few = ap (λ (o : Option (List Entry)). database_in o n) e ∙ ap (λ (d : Database). Some d) (first-append h more n few)

pub copied_on : (s : Snap) (a b : Option (List Entry)) → Extends a b → IsCopied s a → IsCopied s b
copied_on s None b e c = subst (IsCopied s) (sym e) c
copied_on s (Some h) b (more, e) c =
    subst (IsCopied s) (sym e)
    (record {
      schemas = c.schemas;
      tables = c.tables;
      held = (
        let le = c.held.0 in let count = length-append h more in omega (arith, le, count),
        subst (AreHeld s.shape) (sym (first-append h more s.n c.held.0)) c.held.1,
      );
    })

module _ {Z : Type 0} where
  pub blocks_on : (s : Snap) (kept : List ((ℕ × ℕ) × Arc Block Z)) (a b : Option (List Entry)) → Extends a b → IsCopied s a → AreOf (source_over s a 0 0 None) kept → AreOf (source_over s b 0 0 None) kept
  blocks_on s kept a b e c are =
      subst (λ (d : Option Database). AreOf (record { schemas = s.schemas; parts = map (λ (t : TableParts). t.parts) s.shape; database = d; faults = 0; damages = 0; last_damage = None }) kept) (sym (database_on s.n a b e (few_told s a c))) are

-- what is kept when the version is let go
pub memo_left : (r : Reading) (p : Pass) → IsReading r → (view_of p).noted ≡ (view_of r.pass).noted → (view_of p).seen ≡ (view_of r.pass).seen → history_of p ≡ history_of r.pass → IsMemoOf p r.memo
memo_left r p is noted seen told =
    let on = subst (λ (o : Option (List Entry)). Extends (history_of r.from) o) (sym told) (extends_seen r.from r.pass is.goes.goes) in
    record {
      noted = (is.noted.0, ap (λ (l : List (Option (Version (List TableParts)))). version_at l is.noted.0) noted ∙ is.noted.1);
      within = (let few = is.within in let more = prefix_length (view_of r.from).seen (view_of r.pass).seen is.goes.goes.seen in let same = ap (λ (l : List Item). length l) seen in omega (arith, few, more, same));
      copied = copied_on r.memo.snap (history_of r.from) (history_of p) on is.copied;
      blocks = blocks_on r.memo.snap r.memo.kept.cache.entries (history_of r.from) (history_of p) on is.copied is.blocks;
    }

-- a source begins over what a pass keeps
pub reading_first : (p : Pass) (pin : Place) (m : Memo) → IsCounted p → IsPinned p pin → m.snap.n ≡ pin.n → IsMemoOf p m → IsReading (record { from = p; pass = p; pin = pin; memo = m; damages = 0; last_damage = None })
reading_first p pin m counted pinned number is = record {
  goes = still_refl p;
  counted = counted;
  pinned = pinned;
  number = number;
  within = is.within;
  noted = is.noted;
  copied = is.copied;
  blocks = is.blocks;
  told = λ told. refl;
}

-- it keeps no other blocks
pub reading_kept : (r : Reading) (kept : KeptBlocks) → KeepsNoOther r.memo.kept.cache.entries kept.cache.entries → IsReading r
    → IsReading (record { from = r.from; pass = r.pass; pin = r.pin; memo = record { snap = r.memo.snap; kept = kept }; damages = r.damages; last_damage = r.last_damage })
reading_kept r kept keeps is = record {
  goes = is.goes;
  counted = is.counted;
  pinned = is.pinned;
  number = is.number;
  within = is.within;
  noted = is.noted;
  copied = is.copied;
  blocks = no_other_of (source_over r.memo.snap (history_of r.from) 0 0 None) r.memo.kept.cache.entries kept.cache.entries keeps is.blocks;
  told = is.told;
}

-- a block that is kept is the one that the source would give
pub kept_are : (r : Reading) → IsReading r → AreOf (shown_of r) r.memo.kept.cache.entries
kept_are r is = is.blocks

-- ---- the law of sources

held_in : (s : Snap) (o : Option (List Entry)) → IsCopied s o → IfSome (database_in o s.n) (AreHeld s.shape)
held_in s None c = tt
held_in s (Some h) c = c.held.1

pub pinned_law : (r : Reading) → IsReading r → IsSource (shown_of r)
pinned_law r is = tables_law r.memo.snap.schemas r.memo.snap.shape (database_in (history_of r.from) r.memo.snap.n) (faults_of r.pass) r.damages r.last_damage is.copied.schemas is.copied.tables (held_in r.memo.snap (history_of r.from) is.copied)

-- ---- a part

module _ (r : Reading) (table i : ℕ) (is : IsReading r) (within : table < length r.memo.snap.schemas) where
  abbrev its : TableParts
  its = get_or r.memo.snap.shape table no_table_parts

  pub parts_there : parts_at (shown_of r) table ≡ its.parts
  parts_there = (is_table r.memo.snap.schemas r.memo.snap.shape table is.copied.schemas within).parts

  schema_there : schema_at (shown_of r) table ≡ its.schema
  schema_there = (is_table r.memo.snap.schemas r.memo.snap.shape table is.copied.schemas within).schema

  pub part_in : i < length (parts_at (shown_of r) table) → HasPart r.memo.snap.shape table i its (part_at (shown_of r) table i)
  part_in there = record {
    its_table = (is_table r.memo.snap.schemas r.memo.snap.shape table is.copied.schemas within).there;
    its_part = subst (λ (ps : List Part). slice_get ps i ≡ Some (part_at (shown_of r) table i)) parts_there (slice_get-get_or (parts_at (shown_of r) table) i no_part there);
  }

  -- the block that is read has the rows of its part
  module _ (result : Result Block LogFault) (new : Pass) (reads : ReadsPart result r.pass new r.pin r.memo.snap.shape table i) (there : i < length (parts_at (shown_of r) table)) where
    on : GoesStill r.pass new
    on = held_still r.pass new reads.found reads.left reads.holds (let same = reads.shown in omega (arith, same)) reads.items

    extends : Extends (history_of r.from) (history_of new)
    extends = extends_seen r.from new (still_both r.from r.pass new is.goes on).goes

    pub block_is : (b : Block) → result ≡ Ok b → IsBlockOf (schema_at (shown_of r) table) (part_at (shown_of r) table i) b
    block_is b ok =
        subst (λ (s : Schema). IsBlockOf s (part_at (shown_of r) table i) b) (sym schema_there)
        (subst (λ (o : Result Block LogFault). IfOk o (λ c. IsBlockOf its.schema (part_at (shown_of r) table i) c)) ok (reads.block its (part_at (shown_of r) table i) (part_in there)))

    rows_over : (a o : Option (List Entry)) (b : Block) → Extends a o → IfSome a (λ h. r.memo.snap.n ≤ length h) → IsRowsOf (Ok b) o r.memo.snap.n table its (part_at (shown_of r) table i)
        → IfSome (database_in a r.memo.snap.n) (λ db. table_rows its.schema.cols b ≡ rows_in_part its.schema.time_col (rows_at db table) (part_at (shown_of r) table i))
    rows_over None o b e few told = tt
    rows_over (Some h) o b (more, e) few told =
        subst (λ (db : Database). table_rows its.schema.cols b ≡ rows_in_part its.schema.time_col (rows_at db table) (part_at (shown_of r) table i)) (first-append h more r.memo.snap.n few)
        (subst (λ (x : Option (List Entry)). IsRowsOf (Ok b) x r.memo.snap.n table its (part_at (shown_of r) table i)) e told)

    pub rows_are : (b : Block) → result ≡ Ok b → HasRowsOf (shown_of r) table i b
    rows_are b ok =
        subst (λ (s : Schema). IfSome (database_in (history_of r.from) r.memo.snap.n) (λ db. table_rows s.cols b ≡ rows_in_part s.time_col (rows_at db table) (part_at (shown_of r) table i))) (sym schema_there)
        (rows_over (history_of r.from) (history_of new) b extends (few_told r.memo.snap (history_of r.from) is.copied)
        (subst (λ (n : ℕ). IsRowsOf (Ok b) (history_of new) n table its (part_at (shown_of r) table i)) (sym is.number)
        (subst (λ (o : Result Block LogFault). IsRowsOf o (history_of new) r.pin.n table its (part_at (shown_of r) table i)) ok (reads.rows its (part_at (shown_of r) table i) (part_in there)))))

    none_told : (a o : Option (List Entry)) → Extends a o → o ≡ None → a ≡ None
    none_told None o e is = refl
    none_told (Some h) o (more, e) is = absurd (cc (e, is))

    -- damage is found where nothing is told
    pub damage_untold : (file at : ℕ) → result ≡ Err (fault.Damaged file at) → history_of r.from ≡ None
    damage_untold file at err =
        none_told (history_of r.from) (history_of new) extends
        (subst (λ (o : Result Block LogFault). IsRowsOf o (history_of new) r.pin.n table its (part_at (shown_of r) table i)) err (reads.rows its (part_at (shown_of r) table i) (part_in there)))

    -- what the source keeps then
    pub reading_on : (kept : Memo) → kept.snap ≡ r.memo.snap → AreOf (source_over r.memo.snap (history_of r.from) 0 0 None) kept.kept.cache.entries → (damages : ℕ) (last : Option (ℕ × ℕ)) → (history_of r.from ≢ None → damages ≡ 0)
        → IsReading (record { from = r.from; pass = new; pin = r.pin; memo = kept; damages = damages; last_damage = last })
    reading_on kept same are damages last told = record {
      goes = still_both r.from r.pass new is.goes on;
      counted = counted_now new reads.left reads.holds.seen reads.history reads.count;
      pinned = reads.holds.phase ∙ is.pinned;
      number = subst (λ (s : Snap). s.n ≡ r.pin.n) (sym same) is.number;
      within = subst (λ (s : Snap). s.n ≤ length (view_of r.from).seen) (sym same) is.within;
      noted = subst (λ (s : Snap). Notes new s.n s.shape) (sym same) (subst (λ (n : ℕ). Notes new n r.memo.snap.shape) (sym is.number) reads.noted);
      copied = subst (λ (s : Snap). IsCopied s (history_of r.from)) (sym same) is.copied;
      blocks = subst (λ (s : Snap). AreOf (source_over s (history_of r.from) 0 0 None) kept.kept.cache.entries) (sym same) are;
      told = told;
    }

    abbrev over : SourceView
    over = source_over r.memo.snap (history_of r.from) 0 0 None

    -- the block is kept
    pub put_on : (found put : KeptBlocks) (b : Block) → result ≡ Ok b → KeepsNoOther r.memo.kept.cache.entries found.cache.entries → KeepsOne found.cache.entries put.cache.entries table i b
        → IsReading (record { from = r.from; pass = new; pin = r.pin; memo = record { snap = r.memo.snap; kept = put }; damages = r.damages; last_damage = r.last_damage })
    put_on found put b ok keeps puts =
        reading_on (record { snap = r.memo.snap; kept = put }) refl
        (one_of over found.cache.entries put.cache.entries table i b puts (block_is b ok) (rows_are b ok) (no_other_of over r.memo.kept.cache.entries found.cache.entries keeps is.blocks)) r.damages r.last_damage is.told

    -- none is
    pub none_on : (found : KeptBlocks) → KeepsNoOther r.memo.kept.cache.entries found.cache.entries
        → IsReading (record { from = r.from; pass = new; pin = r.pin; memo = record { snap = r.memo.snap; kept = found }; damages = r.damages; last_damage = r.last_damage })
    none_on found keeps = reading_on (record { snap = r.memo.snap; kept = found }) refl (no_other_of over r.memo.kept.cache.entries found.cache.entries keeps is.blocks) r.damages r.last_damage is.told

    pub damaged_on : (found : KeptBlocks) (file at damages : ℕ) (last : Option (ℕ × ℕ)) → result ≡ Err (fault.Damaged file at) → KeepsNoOther r.memo.kept.cache.entries found.cache.entries
        → IsReading (record { from = r.from; pass = new; pin = r.pin; memo = record { snap = r.memo.snap; kept = found }; damages = damages; last_damage = last })
    damaged_on found file at damages last err keeps =
        reading_on (record { snap = r.memo.snap; kept = found }) refl (no_other_of over r.memo.kept.cache.entries found.cache.entries keeps is.blocks) damages last (λ told. absurd (told (damage_untold file at err)))
