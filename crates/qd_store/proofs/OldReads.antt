-- One part that rows are merged into, as it is read: its designated times, and beside them the rows that don't stay as they lie.
use Rattle.std.proofs.Common.{◌≡◌, ℕ, ◌≤◌, List, length, map, Option, Some, None, Ok, Err, IfSome, sym, ap, ◌∙◌, subst, arith}
use Rattle.std.specs.List.Sorted.{IsNonDecreasing}
use Rattle.std.proofs.lemmas.List.{length-map}
use Rattle.std.proofs.lemmas.Option.{same_Some}
use Rattle.qd_base.specs.declared.part.Part.{Part}
use Rattle.qd_base.specs.declared.schema.ColType.TheVariants as kind
use Rattle.qd_base.specs.declared.schema.Schema.{Schema}
use Rattle.qd_base.specs.Rows.{time_in}
use Rattle.qd_block.specs.Blocks.{Block}
use Rattle.qd_catalog.specs.declared.version.Version as catalog
use Rattle.qd_catalog.specs.Versions.{version_at}
use Rattle.qd_column.specs.Cells.{CellsOf, time_cell}
use Rattle.qd_column_files.specs.Reading.{IsBlockRead, IsFitColumn}
use Rattle.qd_column_files.specs.Rests.{rest_of, IsRestOf, IsRestRead}
use Rattle.qd_column_files.proofs.ColumnLemmas.{designated_is}
use Rattle.qd_durable.specs.declared.fault.LogFault.{LogFault}
use Rattle.qd_durable.specs.declared.fault.LogFault.TheVariants as fault
use Rattle.qd_manifest.specs.declared.shape.TableParts.{TableParts}
use Rattle.qd_versions.specs.Reading.{IsPartAt}
use Rattle.qd_versions.specs.Stores as versions
use Rattle.qd_versions.proofs.Stores.{part_lawful, IsLawfulPart}
use Rattle.qd_volume.specs.Disk.{Disk, Image, reads_of}
use Rattle.qd_apply.specs.declared.olds.Late.{Late}
use Rattle.qd_apply.specs.declared.olds.OldPart.{OldPart}
use Rattle.qd_apply.specs.declared.olds.Stay.{Stay}
use Rattle.qd_apply.specs.Olds.{cut_at, rows_staying, stay_of, times_of}
use Rattle.qd_store.specs.Damage.{IsPartRead, IsThere}
use Rattle.qd_store.specs.Drafting.{AreTimesRead, IsReadOf}
use Rattle.qd_store.specs.Stores.{Book}
use Rattle.qd_store.proofs.LateParts.{staying_few}
use Rattle.qd_store.proofs.RestFillers.{moments_are, moments_rise, refilled, refilled_fits, refilled_moments, refilled_rest, timely}

-- the version is the current one
pub there_in : (s : Book) (y : catalog.Version) (late : Late) → version_at s.versions.versions s.versions.versions.current ≡ Some y → IsThere y.shape late
    → (x : catalog.Version) → version_at s.versions.versions s.versions.versions.current ≡ Some x → IsThere x.shape late
there_in s y late found there x at = subst (λ (z : catalog.Version). IsThere z.shape late) (same_Some y x (sym found ∙ at)) there

-- where the rest is damaged, the block is
as_block : (cause : LogFault) (s : Schema) (p : Part) (times : CellsOf) (skip : ℕ) (image : Image) → IsRestRead (Err cause) s p times skip image → IsBlockRead (Err cause) s p image
as_block (fault.Damaged file place) s p times skip image lost = lost
as_block fault.Vol s p times skip image lost = tt
as_block fault.Memory s p times skip image lost = tt

module _ (s : Book) (row : ℕ) (is_row : row ≡ s.versions.versions.current) (x : catalog.Version) (at : version_at s.versions.versions s.versions.versions.current ≡ Some x) (late : Late) (there : IsThere x.shape late) where
  pub part_at : IsPartAt s.versions.versions row late.table late.part there.table there.part
  part_at = record { version = x; live = ap (λ r. version_at s.versions.versions r) is_row ∙ at; its_table = there.its_table; its_part = there.its_part }

  abbrev pub OfPart : (Schema → Part → Type 0) → Type 0
  OfPart P = (t : TableParts) (p : Part) → IsPartAt s.versions.versions row late.table late.part t p → P t.schema p

  -- where it isn't read
  pub times_failed : (split : ℕ) (cause : LogFault) (o : Option Disk) → OfPart (λ schema p. IfSome o (λ disk. AreTimesRead (Err cause) schema p (reads_of disk)))
      → IfSome o (λ disk. IsPartRead split x.shape late (Err cause) (reads_of disk))
  times_failed split cause None read = tt
  times_failed split cause (Some disk) read = record { there = there; read = read there.table there.part part_at }

  pub rest_failed : (split : ℕ) (times : CellsOf) (skip : ℕ) (cause : LogFault) (o now : Option Disk) → now ≡ o → OfPart (λ schema p. IfSome now (λ disk. IsRestRead (Err cause) schema p times skip (reads_of disk)))
      → IfSome o (λ disk. IsPartRead split x.shape late (Err cause) (reads_of disk))
  rest_failed split times skip cause None now same read = tt
  rest_failed split times skip cause (Some disk) now same read = record {
    there = there;
    read = as_block cause there.table.schema there.part times skip (reads_of disk)
        (subst (λ (m : Option Disk). IfSome m (λ disk. IsRestRead (Err cause) there.table.schema there.part times skip (reads_of disk))) same (read there.table there.part part_at));
  }

  module _ (law : versions.IsStore s.versions) (times : CellsOf) (fits : OfPart (λ schema p. IsFitColumn schema p schema.time_col times)) where
    lawful : IsLawfulPart there.table there.part
    lawful = part_lawful s.versions row late.table late.part there.table there.part law part_at

    fit : IsFitColumn there.table.schema there.part there.table.schema.time_col times
    fit = fits there.table there.part part_at

    pub times_kind : times.kind ≡ kind.Time
    times_kind = fit.is.kind ∙ (designated_is there.table.schema lawful.schema).1

    module _ (ts : List ℕ) (cells : times.cells ≡ map time_cell ts) where
      moments : map time_in times.cells ≡ ts
      moments = moments_are ts times.cells (timely there.table.schema there.part lawful.schema lawful.its_part times fit) cells

      pub times_rise : IsNonDecreasing ts
      times_rise = subst IsNonDecreasing moments (moments_rise times.cells (timely there.table.schema there.part lawful.schema lawful.its_part times fit))

      module _ (split : ℕ) (stays : Stay) (stays_is : stays ≡ stay_of split late.first ts) (skip : ℕ) (skip_is : skip ≡ rows_staying stays (length times.cells)) where
        few : rows_staying stays (length times.cells) ≤ length times.cells
        few =
            let count : length ts ≡ length times.cells = sym (ap length cells ∙ length-map ts time_cell) in
            subst (λ (n : ℕ). rows_staying stays n ≤ n) count (subst (λ (y : Stay). rows_staying y (length ts) ≤ length ts) (sym stays_is) (staying_few split late.first ts))

        pub skip_within : (t : TableParts) (p : Part) → IsPartAt s.versions.versions row late.table late.part t p → skip ≤ p.rows
        skip_within t p is = let size = (fits t p is).is.rows in omega (arith, few, skip_is, size)

        within : skip ≤ there.part.rows
        within = skip_within there.table there.part part_at

        skip_part : skip ≡ rows_staying stays there.part.rows
        skip_part = skip_is ∙ ap (rows_staying stays) fit.is.rows

        stays_by : stays ≡ stay_of split late.first (map time_in times.cells)
        stays_by = stays_is ∙ ap (stay_of split late.first) (sym moments)

        module _ (rest : Block) where
          abbrev pub old : OldPart
          old = record { stay = stays; rest = rest }

          -- as of a block that is the part's
          pub read_as : OfPart (λ schema p. IsRestOf schema p times skip rest) → IsReadOf split x.shape late (record { stay = stays; rest = rest })
          read_as rests =
              let schema : Schema = there.table.schema in
              let p : Part = there.part in
              let is : IsRestOf schema p times skip rest = rests there.table there.part part_at in
              let b : Block = refilled schema p lawful.schema lawful.its_part times fit skip within rest is in
              let fits_part = refilled_fits schema p lawful.schema lawful.its_part times fit skip within rest is in
              let times_is : times_of b ≡ map time_in times.cells = refilled_moments schema p lawful.schema lawful.its_part times fit skip within rest is in
              let behind : rest_of skip b ≡ rest = refilled_rest schema p lawful.schema lawful.its_part times fit skip within rest is in
              let place : skip ≡ rows_staying stays (length b.rows) = skip_part ∙ ap (rows_staying stays) (sym fits_part.of.rows) in
              record {
                there = there;
                block = b;
                of = fits_part.of;
                whole = fits_part.whole;
                read =
                    ap (λ (r : Block). let o : OldPart = record { stay = stays; rest = r } in o) (sym behind ∙ ap (λ (n : ℕ). rest_of n b) place)
                    ∙ ap (λ (y : Stay). cut_at y b) (stays_by ∙ ap (stay_of split late.first) (sym times_is));
              }

          -- of its files
          pub files_as : (o now : Option Disk) → now ≡ o → OfPart (λ schema p. IfSome o (λ disk. AreTimesRead (Ok times) schema p (reads_of disk)))
              → OfPart (λ schema p. IfSome now (λ disk. IsRestRead (Ok rest) schema p times skip (reads_of disk)))
              → IfSome o (λ disk. IsPartRead split x.shape late (Ok (record { stay = stays; rest = rest })) (reads_of disk))
          files_as None now same read behind = tt
          files_as (Some disk) now same read behind =
              let told : IsRestRead (Ok rest) there.table.schema there.part times skip (reads_of disk) =
              subst (λ (m : Option Disk). IfSome m (λ disk. IsRestRead (Ok rest) there.table.schema there.part times skip (reads_of disk))) same (behind there.table there.part part_at) in
              record {
                there = there;
                read = record {
                  times = times;
                  spelled = read there.table there.part part_at;
                  stay = stays_by;
                  rest = λ b held. told b held ∙ ap (λ (n : ℕ). rest_of n b) skip_part;
                };
              }
