-- The first bytes of the files of a column spell what the files do.
use Rattle.std.proofs.Common.{◌≡◌, ◌⊎◌, inl, inr, ⊎_elim, ℕ, ◌+◌, ◌*◌, ◌^◌, ◌<◌, ◌≤◌, min, List, [], ◌∷◌, ◌++◌, length, take, drop, get_or, slice_get, Option, None, Some, IfOk, IfSome, Result, Ok, Err, Vec, refl, sym, ◌∙◌, ap, subst, arith}
use Rattle.std.proofs.lemmas.List.{append_assoc, get_or-map, length-take, take-append-drop, take-take, take_all, take_at}
use Rattle.std.proofs.lemmas.Nat.{row_fits}
use Rattle.qd_base.specs.declared.schema.ColType.{ColType}
use Rattle.qd_base.specs.declared.schema.ColType.TheVariants as kind
use Rattle.qd_column.specs.Cells.{CellsOf}
use Rattle.qd_column_format.specs.Damage.{IsAuxDamageBy, IsDamage, IsMainDamage}
use Rattle.qd_column_format.specs.Fields.{Follows, bytes_of_fields, field_size, fields_of}
use Rattle.qd_column_format.specs.Spelling.{BeginsWith, SpellsColumn, aux_of, main_of}
use Rattle.qd_column_files.proofs.StoredLemmas.{length-fields, length-words}
use Rattle.std.proofs.lemmas.Bool.{cases_lt}
use Rattle.std.specs.declared.alloc.Global.{Global}
use Rattle.qd_base.specs.declared.cell.Cell.{Cell}
use Rattle.qd_base.specs.declared.part.Part.{Part}
use Rattle.qd_base.specs.declared.schema.Col.{Col}
use Rattle.qd_block.proofs.RowLemmas.{got_there}
use Rattle.qd_block.specs.Blocks.{kinds_in}
use Rattle.qd_column.proofs.ListLemmas.{got}
use Rattle.qd_base.specs.declared.schema.Schema.{Schema}
use Rattle.qd_durable.specs.declared.fault.LogFault.{LogFault}
use Rattle.qd_durable.specs.declared.fault.LogFault.TheVariants as fault
use Rattle.qd_io.specs.declared.fault.IoFault.{IoFault}
use Rattle.qd_column_format.specs.Spelling.{aux_of_kind}
use Rattle.qd_volume.specs.Disk.{Disk, reads_of}
use Rattle.qd_column_files.specs.Columns.{kind_of}
use Rattle.qd_column_files.specs.Damage.{IsColumnDamage}
use Rattle.qd_column_files.specs.Files.{column_file}
use Rattle.qd_column_files.specs.Reading.{IsAuxRead, IsColumnRead, IsFitColumn, IsFrontRead, aux_read}

-- what the first bytes begin with, all do
begins_whole : (n : ℕ) (bytes part : List ℕ) → BeginsWith (take n bytes) part → BeginsWith bytes part
begins_whole n bytes part b = (b.0 ++ drop n bytes, sym (take-append-drop n bytes) ∙ ap (λ (l : List ℕ). l ++ drop n bytes) b.1 ∙ append_assoc part b.0 (drop n bytes))

begins_cut : (n : ℕ) (bytes part : List ℕ) → length part ≤ n → BeginsWith bytes part → BeginsWith (take n bytes) part
begins_cut n bytes part low b =
    let front : take (length part) (take n bytes) ≡ part = take-take (length part) n bytes low ∙ ap (take (length part)) b.1 ∙ take_at part b.0 (length part) refl in
    (drop (length part) (take n bytes), sym (take-append-drop (length part) (take n bytes)) ∙ ap (λ (l : List ℕ). l ++ drop (length part) (take n bytes)) front)

-- the bytes of all rows
pub main_long : (column : CellsOf) → length (main_of column) ≡ length column.cells * field_size column.kind
main_long column = length-words (field_size column.kind) (fields_of column.kind column.cells) ∙ ap (λ n. n * field_size column.kind) (length-fields column.kind column.cells)

-- the second file, where the kind has one
aux_forth : (k : ColType) (cells : List Cell) (aux : List ℕ) → BeginsWith (aux_read k aux) (aux_of_kind k cells) → BeginsWith aux (aux_of_kind k cells)
aux_forth kind.Long cells aux b = (aux, refl)
aux_forth kind.Bool cells aux b = (aux, refl)
aux_forth kind.Symbol cells aux b = b
aux_forth kind.Varchar cells aux b = b
aux_forth kind.Time cells aux b = (aux, refl)

aux_back : (k : ColType) (cells : List Cell) (aux : List ℕ) → BeginsWith aux (aux_of_kind k cells) → BeginsWith (aux_read k aux) (aux_of_kind k cells)
aux_back kind.Long cells aux b = ([], refl)
aux_back kind.Bool cells aux b = ([], refl)
aux_back kind.Symbol cells aux b = b
aux_back kind.Varchar cells aux b = b
aux_back kind.Time cells aux b = ([], refl)

aux_damaged : (k : ColType) (fields aux : List ℕ) (at : ℕ) → IsAuxDamageBy k fields (aux_read k aux) at → IsAuxDamageBy k fields aux at
aux_damaged kind.Long fields aux at d = d
aux_damaged kind.Bool fields aux at d = d
aux_damaged kind.Symbol fields aux at d = d
aux_damaged kind.Varchar fields aux at d = d
aux_damaged kind.Time fields aux at d = d

-- behind fields that keep the rules bytes are missing, or a field breaks them
abbrev Broken : ColType → List ℕ → List ℕ → ℕ → Type 0
Broken k main fields at = ((length main < length (bytes_of_fields k fields) + field_size k) × (at ≡ length main)) ⊎ ((next : ℕ) × (next < 256 ^ field_size k) × BeginsWith main (bytes_of_fields k (fields ++ next ∷ [])) × (Follows k fields next → ⊥) × (at ≡ length (bytes_of_fields k fields)))

-- the files spell what their first bytes do
module _ (main aux : List ℕ) (rows : ℕ) where
  pub spelled_whole : (k : ColType) (column : CellsOf) → column.kind ≡ k → SpellsColumn (take (rows * field_size k) main) (aux_read k aux) column → SpellsColumn main aux column
  spelled_whole k column is s = record {
    cells = s.cells;
    main_bytes = begins_whole (rows * field_size k) main (main_of column) s.main_bytes;
    aux_bytes = aux_forth column.kind column.cells aux (subst (λ m. BeginsWith (aux_read m aux) (aux_of column)) (sym is) s.aux_bytes);
    fit = s.fit;
    few = s.few;
  }

  pub spelled_cut : (k : ColType) (column : CellsOf) → column.kind ≡ k → length column.cells ≡ rows → SpellsColumn main aux column → SpellsColumn (take (rows * field_size k) main) (aux_read k aux) column
  spelled_cut k column is size s =
      let long : length (main_of column) ≡ rows * field_size k = main_long column ∙ ap (λ n. n * field_size column.kind) size ∙ ap (λ m. rows * field_size m) is in
      record {
        cells = s.cells;
        main_bytes = begins_cut (rows * field_size k) main (main_of column) (omega (arith, long)) s.main_bytes;
        aux_bytes = subst (λ m. BeginsWith (aux_read m aux) (aux_of column)) is (aux_back column.kind column.cells aux s.aux_bytes);
        fit = s.fit;
        few = s.few;
      }

  -- and are damaged where they are
  main_damaged : (k : ColType) (at : ℕ) → IsMainDamage k rows (take (rows * field_size k) main) at → IsMainDamage k rows main at
  main_damaged k at d = record {
    fields = d.fields;
    sound = d.sound;
    fewer = d.fewer;
    there = begins_whole (rows * field_size k) main (bytes_of_fields k d.fields) d.there;
    damage = ⊎_elim cut odd d.damage;
  }
    where
      cut : (length (take (rows * field_size k) main) < length (bytes_of_fields k d.fields) + field_size k) × (at ≡ length (take (rows * field_size k) main)) → Broken k main d.fields at
      cut h =
          let n = rows * field_size k in
          let room : length d.fields * field_size k + field_size k ≤ n = row_fits (length d.fields) (field_size k) rows (field_size k) d.fewer (omega arith) in
          let size : length (bytes_of_fields k d.fields) ≡ length d.fields * field_size k = length-words (field_size k) d.fields in
          let same : take n main ≡ main = take_all n main (omega (arith, h.0, size, room, length-take n main)) in
          inl (subst (λ (l : List ℕ). (length l < length (bytes_of_fields k d.fields) + field_size k) × (at ≡ length l)) same h)

      odd : ((next : ℕ) × (next < 256 ^ field_size k) × BeginsWith (take (rows * field_size k) main) (bytes_of_fields k (d.fields ++ next ∷ [])) × (Follows k d.fields next → ⊥) × (at ≡ length (bytes_of_fields k d.fields))) → Broken k main d.fields at
      odd h = inr (h.0, h.1, begins_whole (rows * field_size k) main (bytes_of_fields k (d.fields ++ h.0 ∷ [])) h.2, h.3, h.4)

  pub damaged_whole : (k : ColType) (half at : ℕ) → IsDamage k rows (take (rows * field_size k) main) (aux_read k aux) half at → IsDamage k rows main aux half at
  damaged_whole k half at (inl d) = inl (d.0, main_damaged k at d.1)
  damaged_whole k half at (inr d) = inr (
    d.0,
    record {
      fields = d.1.fields;
      sound = d.1.sound;
      whole = d.1.whole;
      there = begins_whole (rows * field_size k) main (bytes_of_fields k d.1.fields) d.1.there;
      damage = aux_damaged k d.1.fields aux at d.1.damage;
    },
  )

module _ (s : Schema) (p : Part) (col : ℕ) (main aux : List ℕ) where
  abbrev first : List ℕ
  first = take (p.rows * field_size (kind_of s col)) main

  abbrev second : List ℕ
  second = aux_read (kind_of s col) aux

  damaged_column : (half at : ℕ) → IsColumnDamage s p col first second half at → IsColumnDamage s p col main aux half at
  damaged_column half at (inl d) = inl (damaged_whole main aux p.rows (kind_of s col) half at d)
  damaged_column half at (inr d) = inr (record {
    column = d.column;
    kind = d.kind;
    rows = d.rows;
    spelled = spelled_whole main aux p.rows (kind_of s col) d.column d.kind d.spelled;
    row = d.row;
    mistimed = d.mistimed;
    in_main = d.in_main;
    place = d.place;
  })

  pub read_whole : (result : Result CellsOf LogFault) → IfOk result (λ column. IsFitColumn s p col column) → IsColumnRead result s p col first second → IsColumnRead result s p col main aux
  read_whole (Ok column) fit read = spelled_whole main aux p.rows (kind_of s col) column fit.is.kind read
  read_whole (Err (fault.Damaged file at)) fit lost = record {
    half = lost.half;
    in_file = lost.in_file;
    damaged = damaged_column lost.half at lost.damaged;
    none = λ column is spelled. lost.none column is (spelled_cut main aux p.rows (kind_of s col) column is.kind is.rows spelled);
  }
  read_whole (Err fault.Vol) fit read = tt
  read_whole (Err fault.Memory) fit read = tt

-- a number of bytes that is at most the greatest length
pub front_enough : (n most : ℕ) (bytes : List ℕ) → most ≡ min n 18446744073709551615 → length bytes < 2 ^ 64 → take most bytes ≡ take n bytes
front_enough n most bytes is fits = by (cases_lt n 18446744073709551615)
  where
    by : (n < 18446744073709551615) ⊎ (18446744073709551615 ≤ n) → take most bytes ≡ take n bytes
    by (inl less) = let same : most ≡ n = omega arith in ap (λ m. take m bytes) same
    by (inr more) = take_all most bytes (omega arith) ∙ sym (take_all n bytes (omega arith))

module _ (s : Schema) (p : Part) (col : ℕ) (k : ColType) (result : Result CellsOf LogFault) (main aux : Vec ℕ Global) (is : k ≡ kind_of s col) (fit : IfOk result (λ column. IsFitColumn s p col column)) (read : IsColumnRead result s p col main.items aux.items) where
  both_read : (most file other : ℕ) (old mid : Option Disk) → most ≡ min (p.rows * field_size k) 18446744073709551615 → mid ≡ old
      → IfSome old (λ disk. IsFrontRead (Ok main) most (reads_of disk file))
      → IfSome mid (λ disk. IsAuxRead (Ok aux) k (reads_of disk other))
      → IfSome old (λ disk. IsColumnRead result s p col (reads_of disk file) (reads_of disk other))
  both_read most file other None mid limit same main_is aux_is = tt
  both_read most file other (Some disk) mid limit same main_is aux_is =
      let again : IsAuxRead (Ok aux) k (reads_of disk other) = subst (λ m. IfSome m (λ d. IsAuxRead (Ok aux) k (reads_of d other))) same aux_is in
      let front : main.items ≡ take (p.rows * field_size (kind_of s col)) (reads_of disk file) = main_is.0 ∙ front_enough (p.rows * field_size k) most (reads_of disk file) limit main_is.1 ∙ ap (λ m. take (p.rows * field_size m) (reads_of disk file)) is in
      let back : aux.items ≡ aux_read (kind_of s col) (reads_of disk other) = again ∙ ap (λ m. aux_read m (reads_of disk other)) is in
      read_whole s p col (reads_of disk file) (reads_of disk other) result fit
      (subst (λ (l : List ℕ). IsColumnRead result s p col l (aux_read (kind_of s col) (reads_of disk other))) front
      (subst (λ (l : List ℕ). IsColumnRead result s p col main.items l) back read))

  pub told_read : (most file other : ℕ) (old mid : Option Disk) → most ≡ min (p.rows * field_size k) 18446744073709551615 → mid ≡ old → file ≡ column_file p.block col 0 → other ≡ column_file p.block col 1
      → IfSome old (λ disk. IsFrontRead (Ok main) most (reads_of disk file))
      → IfSome mid (λ disk. IsAuxRead (Ok aux) k (reads_of disk other))
      → IfSome old (λ disk. IsColumnRead result s p col (reads_of disk (column_file p.block col 0)) (reads_of disk (column_file p.block col 1)))
  told_read most file other old mid limit same is_main is_aux main_is aux_is =
      subst (λ f. IfSome old (λ disk. IsColumnRead result s p col (reads_of disk f) (reads_of disk (column_file p.block col 1)))) is_main
      (subst (λ f. IfSome old (λ disk. IsColumnRead result s p col (reads_of disk file) (reads_of disk f))) is_aux
      (both_read most file other old mid limit same main_is aux_is))

-- the kinds that have a second file
pub aux_whole : (k : ColType) → (k ≡ kind.Symbol) ⊎ (k ≡ kind.Varchar) → (bytes : List ℕ) → aux_read k bytes ≡ bytes
aux_whole k (inl is) bytes = ap (λ (m : ColType). aux_read m bytes) is
aux_whole k (inr is) bytes = ap (λ (m : ColType). aux_read m bytes) is

-- a second file that is read whole
pub aux_told : (k : ColType) (old : Option Disk) (file : ℕ) (result : Result (Vec ℕ Global) IoFault) → ((bytes : List ℕ) → aux_read k bytes ≡ bytes) → IfSome old (λ disk. IsFrontRead result 18446744073709551615 (reads_of disk file)) → IfSome old (λ disk. IsAuxRead result k (reads_of disk file))
aux_told k None file result whole read = tt
aux_told k (Some disk) file (Ok bytes) whole read = read.0 ∙ take_all 18446744073709551615 (reads_of disk file) (omega (arith, read.1)) ∙ sym (whole (reads_of disk file))
aux_told k (Some disk) file (Err fault) whole read = tt

-- the kind of a column by its number
pub kind_got : (cols : List Col) (i : ℕ) (c : Col) → slice_get cols i ≡ Some c → c.kind ≡ get_or (kinds_in cols) i kind.Time
kind_got cols i c e =
    let low : i < length cols = got_there cols i c e in
    ap (λ (x : Col). x.kind) (sym (got cols i c c low e)) ∙ sym (get_or-map (λ (x : Col). x.kind) cols i c kind.Time low)
