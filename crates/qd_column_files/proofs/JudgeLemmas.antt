-- What is read of the bytes of a column.
use Rattle.std.proofs.Common.{◌≡◌, inl, inr, ℕ, ◌*◌, List, length, refl, sym, ◌∙◌, subst}
use Rattle.qd_base.specs.declared.part.Part.{Part}
use Rattle.qd_base.specs.declared.schema.Schema.{Schema}
use Rattle.qd_column.specs.Cells.{CellsOf}
use Rattle.qd_column_format.specs.Damage.{IsDamage}
use Rattle.qd_column_format.specs.Spelling.{SpellsColumn}
use Rattle.qd_column_format.specs.Laws.{OneColumnIsSpelled}
use Rattle.qd_column_files.specs.Columns.{AreTimely, HasEnds, IsColumnOf, is_designated, kind_of}
use Rattle.qd_column_files.specs.Damage.{IsMistimedAt}
use Rattle.qd_column_files.specs.Files.{column_file}
use Rattle.qd_column_files.specs.Reading.{IsColumnLost, IsFitColumn}
use Rattle.qd_column_files.proofs.TakeLemmas.{AreBytes, column_takes}
use Rattle.qd_column_files.proofs.TimeLemmas.{not_mistimed, timely_low}

module _ (s : Schema) (p : Part) (col : ℕ) (main aux : List ℕ) where
  -- the bytes break the layout
  pub lost_bytes : (file half at : ℕ) → file ≡ column_file p.block col half → IsDamage (kind_of s col) p.rows main aux half at → ((column : CellsOf) → column.kind ≡ kind_of s col → length column.cells ≡ p.rows → SpellsColumn main aux column → ⊥) → IsColumnLost s p col file at main aux
  lost_bytes file half at is damage none = record { half = half; in_file = is; damaged = inl damage; none = λ column of spelled. none column of.kind of.rows spelled }

  -- or the time of a row isn't as the part asks
  pub lost_time : OneColumnIsSpelled → (file row at : ℕ) (column : CellsOf) → file ≡ column_file p.block col 0 → at ≡ 8 * row → column.kind ≡ kind_of s col → length column.cells ≡ p.rows → SpellsColumn main aux column → IsMistimedAt (is_designated s col) p column.cells row → IsColumnLost s p col file at main aux
  lost_time one_column file row at column is place kind rows spelled mistimed = record {
    half = 0;
    in_file = is;
    damaged = inr (record { column = column; kind = kind; rows = rows; spelled = spelled; row = row; mistimed = mistimed; in_main = refl; place = place });
    none = λ other of also.
        let same : other ≡ column = one_column main aux other column (of.kind ∙ sym kind) (of.rows ∙ sym rows) also spelled in
        let holds : IsColumnOf s p col column = subst (IsColumnOf s p col) same of in
        not_mistimed (is_designated s col) p column.cells row holds.timely holds.ends mistimed;
  }

  -- the column is as the part asks
  pub column_fits : (column : CellsOf) → AreBytes aux → column.kind ≡ kind_of s col → length column.cells ≡ p.rows → SpellsColumn main aux column → AreTimely (is_designated s col) column.cells → HasEnds (is_designated s col) p column.cells → IsFitColumn s p col column
  column_fits column known kind rows spelled timely ends = record {
    is = record { kind = kind; rows = rows; timely = timely; ends = ends };
    takes = column_takes (kind_of s col) main aux column kind known spelled (timely_low (is_designated s col) column.cells timely);
  }
