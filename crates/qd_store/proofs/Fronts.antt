-- A version that shows a beginning of a block's files keeps it while rows are put behind.
use Rattle.std.proofs.Common.{◌≡◌, inl, inr, ℕ, zero, suc, ◌<◌, ◌≤◌, nat_eq, Bool, true, false, List, [], ◌∷◌, length, get_or, Contains, refl, sym, ◌∙◌, ap, subst, arith, eq-eqb}
use Rattle.std.proofs.lemmas.List.{length-map, length-take}
use Rattle.std.proofs.lemmas.List.Elements.{Contains-append_cases, Contains-append_left, Contains-append_right}
use Rattle.qd_base.specs.declared.part.Part.{Part}
use Rattle.qd_base.specs.declared.schema.ColType.{ColType}
use Rattle.qd_base.specs.declared.schema.ColType.TheVariants as kind
use Rattle.qd_base.specs.Rows.{Row, cell_at}
use Rattle.qd_block.specs.Blocks.{Block, column_in}
use Rattle.qd_catalog.specs.Versions.{parts_of, shown}
use Rattle.qd_column_format.specs.Laws.{OneColumnIsSpelled}
use Rattle.qd_column_format.specs.Spelling.{SpellsColumn}
use Rattle.qd_column_files.specs.Files.{HoldsBlock, column_file, front_of}
use Rattle.qd_column_files.specs.Laws.{FirstRowsAreHeld}
use Rattle.qd_manifest.specs.declared.shape.TableParts.{TableParts}
use Rattle.qd_manifest.specs.Spelling.{blocks_in, blocks_of}
use Rattle.qd_volume.specs.Disk.{Image}

-- ---- the files of one block

cells_long : (b : Block) (col : ℕ) → length (column_in b col).cells ≡ length b.rows
cells_long b col = length-map b.rows (λ (r : Row). cell_at r col)

-- Two blocks of the same kinds, one of which has no more rows: where an image holds both, each image that holds the longer one holds
-- the shorter one.
pub front_held : FirstRowsAreHeld → OneColumnIsSpelled → (n : ℕ) (mine other : Block) (earlier image : Image) → mine.kinds ≡ other.kinds → length mine.rows ≤ length other.rows
    → HoldsBlock n mine earlier → HoldsBlock n other earlier → HoldsBlock n other image → HoldsBlock n mine image
front_held fronts columns n mine other earlier image kinds fewer here there now =
    let count = length mine.rows in
    let front = front_of count other in
    let was : HoldsBlock n front earlier = fronts n count other earlier there in
    let is : HoldsBlock n front image = fronts n count other image now in
    let long : length front.rows ≡ count = (let e = length-take count other.rows in omega (arith, e, fewer)) in
    let same : (col : ℕ) → col < length mine.kinds → column_in mine col ≡ column_in front col = λ col lt.
    columns (earlier (column_file n col 0)) (earlier (column_file n col 1)) (column_in mine col) (column_in front col)
    (ap (λ (ks : List ColType). get_or ks col kind.Time) kinds) (cells_long mine col ∙ sym long ∙ sym (cells_long front col))
    (here.each col lt) (was.each col (subst (λ (ks : List ColType). col < length ks) kinds lt)) in
    record {
      each = λ col lt.
          subst (λ c. SpellsColumn (image (column_file n col 0)) (image (column_file n col 1)) c) (sym (same col lt))
          (is.each col (subst (λ (ks : List ColType). col < length ks) kinds lt));
    }

-- ---- the part of a block

-- a part of some tables, which has the block
pub record HasBlock (shape : List TableParts) (b : ℕ) : Type 0 where
  pub table : TableParts
  pub part : Part
  pub in_tables : Contains shape table
  pub in_parts : Contains table.parts part
  pub named : part.block ≡ b

part_named : (parts : List Part) (b : ℕ) → Contains (blocks_in parts) b → (p : Part) × Contains parts p × (p.block ≡ b)
part_named [] b there = absurd (omega (arith, there.1))
part_named (p ∷ ps) b (zero, low, is) = (p, (0, omega arith, refl), is)
part_named (p ∷ ps) b (suc k, low, is) =
    let later = part_named ps b (k, omega (arith, low), is) in
    let lt = later.1.1 in
    (later.0, (suc later.1.0, omega (arith, lt), later.1.2), later.2)

pub has_block : (shape : List TableParts) (b : ℕ) → Contains (blocks_of shape) b → HasBlock shape b
has_block [] b there = absurd (omega (arith, there.1))
has_block (t ∷ ts) b there = elim (Contains-append_cases (blocks_in t.parts) (blocks_of ts) b there) [
  | inl here ↦ let found = part_named t.parts b here in record { table = t; part = found.0; in_tables = (0, omega arith, refl); in_parts = found.1; named = found.2 }
  | inr later ↦ let found = has_block ts b later in let lt = found.in_tables.1 in record {
    table = found.table;
    part = found.part;
    in_tables = (suc found.in_tables.0, omega (arith, lt), found.in_tables.2);
    in_parts = found.in_parts;
    named = found.named;
  }
]

-- ---- how many rows of a block parts show

one_shown : (p : Part) (ps : List Part) (b : ℕ) (same : Bool) → nat_eq p.block b ≡ same → shown ps b ≤ shown (p ∷ ps) b
one_shown p ps b true e = rw e (omega arith)
one_shown p ps b false e = rw e (omega arith)

here_shown : (p : Part) (ps : List Part) → p.rows ≤ shown (p ∷ ps) p.block
here_shown p ps = rw (eq-eqb p.block p.block refl) (omega arith)

pub part_shown : (parts : List Part) (p : Part) → Contains parts p → p.rows ≤ shown parts p.block
part_shown [] p there = absurd (omega (arith, there.1))
part_shown (q ∷ qs) p (zero, low, is) = subst (λ (x : Part). x.rows ≤ shown (q ∷ qs) x.block) is (here_shown q qs)
part_shown (q ∷ qs) p (suc k, low, is) =
    let later = part_shown qs p (k, omega (arith, low), is) in
    let more = one_shown q qs p.block (nat_eq q.block p.block) refl in
    omega (arith, later, more)

among_parts : (shape : List TableParts) (t : TableParts) (p : Part) → Contains shape t → Contains t.parts p → Contains (parts_of shape) p
among_parts [] t p there in_parts = absurd (omega (arith, there.1))
among_parts (s ∷ ss) t p (zero, low, is) in_parts = Contains-append_left s.parts (parts_of ss) p (subst (λ (x : TableParts). Contains x.parts p) (sym is) in_parts)
among_parts (s ∷ ss) t p (suc k, low, is) in_parts = Contains-append_right s.parts (parts_of ss) p (among_parts ss t p (k, omega (arith, low), is) in_parts)

pub shape_shows : (shape : List TableParts) (t : TableParts) (p : Part) → Contains shape t → Contains t.parts p → p.rows ≤ shown (parts_of shape) p.block
shape_shows shape t p there in_parts = part_shown (parts_of shape) p (among_parts shape t p there in_parts)
