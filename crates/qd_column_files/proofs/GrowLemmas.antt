-- What rows put behind those of a column leave.
use Rattle.std.proofs.Common.{◌≡◌, ◌≢◌, ◌⊎◌, inl, inr, ℕ, zero, suc, ◌+◌, ◌<◌, ◌≤◌, List, [], ◌∷◌, ◌++◌, length, map, take, drop, get_or, set, Option, None, Some, Result, Ok, Err, OnOk, IfSome, refl, sym, ◌∙◌, ap, ap₂, subst, arith, append_assoc, append-nil, length-append}
use Rattle.std.proofs.lemmas.Bool.{cases_eq, cases_lt}
use Rattle.std.proofs.lemmas.List.{get_or-set_other, get_or-set_same, length-map, map-append, take-append-drop, take_at}
use Rattle.std.proofs.lemmas.List.FromFn.{fill_by_all, get_or-map-range_with_len, map-range_with_len_more}
use Rattle.std.specs.List.{range_with_len}
use Rattle.qd_base.specs.declared.cell.Cell.{Cell}
use Rattle.qd_base.specs.declared.schema.ColType.{ColType}
use Rattle.qd_base.specs.declared.schema.ColType.TheVariants as kind
use Rattle.qd_base.specs.Rows.{Row, cell_at}
use Rattle.qd_block.specs.Blocks.{Block, column_in}
use Rattle.qd_column.specs.Cells.{CellsOf}
use Rattle.qd_column_format.specs.declared.encode.ColumnBytes.{ColumnBytes}
use Rattle.qd_column_format.specs.Added.{SpellsItself, column_of}
use Rattle.qd_column_format.specs.Spelling.{BeginsWith, SpellsColumn, aux_of, main_of}
use Rattle.qd_column_format.specs.Tails.{AddsBehind, GoesFurther, behind, joined, Behind}
use Rattle.qd_durable.proofs.Moved.{but_both, leaves_both, leaves_still, moments_have, moves_both, moves_still, moves_weaker, now_has}
use Rattle.qd_durable.proofs.Writes.{told_both, told_map, told_still}
use Rattle.qd_durable.specs.Moments.{EachNow, LeavesOnly, Moves, SameBut, Told}
use Rattle.qd_durable.specs.Places.{StandsAt}
use Rattle.qd_volume.specs.Calls.{Measures}
use Rattle.qd_volume.specs.Disk.{Disk, Image, reads_of}
use Rattle.qd_column_files.proofs.Below.{reads_left}
use Rattle.qd_column_files.proofs.FileLemmas.{halves_apart, halves_differ, neither_file, no_column_of, other_column}
use Rattle.qd_column_files.specs.Calls.{HoldsColumn, PutsFile, SameBelow, is_column_file}
use Rattle.qd_column_files.specs.Files.{HoldsBlock, column_file, is_file_of}
use Rattle.qd_column_files.specs.Growing.{BlockBehind, GoesBehind, GoesOn, GrowsBlock, GrowsColumn, GrowsHeld, GrowsTail, KeepsColumn, PutsBehind, SameBelowPlaces, StandsIn, tails_of, with_rows}

-- ---- bytes

-- what a file begins with stays where it is the same below its end
begins_kept : (old new front : List ℕ) (at : ℕ) → at ≡ length front → take at new ≡ take at old → BeginsWith old front → BeginsWith new front
begins_kept old new front at is same begins =
    let taken : take at old ≡ front = ap (take at) begins.1 ∙ take_at front begins.0 at (sym is) in
    (drop at new, sym (take-append-drop at new) ∙ ap (λ (l : List ℕ). l ++ drop at new) (same ∙ taken))

-- and it begins with more where bytes stand behind
begins_more : (old new front part : List ℕ) (at : ℕ) → at ≡ length front → take at new ≡ take at old → BeginsWith old front → StandsAt new at part → BeginsWith new (front ++ part)
begins_more old new front part at is same begins stands =
    let taken : take at old ≡ front = ap (take at) begins.1 ∙ take_at front begins.0 at (sym is) in
    let rest : drop at new ≡ part ++ drop (length part) (drop at new) = sym (take-append-drop (length part) (drop at new)) ∙ ap (λ (l : List ℕ). l ++ drop (length part) (drop at new)) stands in
    (drop (length part) (drop at new), sym (take-append-drop at new) ∙ ap₂ (λ (a b : List ℕ). a ++ b) (same ∙ taken) rest ∙ sym (append_assoc front part (drop (length part) (drop at new))))

-- a column that some bytes spell can be stored
pub spells_itself : (main aux : List ℕ) (column : CellsOf) → SpellsColumn main aux column → SpellsItself column
spells_itself main aux column s = record {
  cells = s.cells;
  main_bytes = ([], sym (append-nil (main_of column)));
  aux_bytes = ([], sym (append-nil (aux_of column)));
  fit = s.fit;
  few = s.few;
}

-- ---- files
module _ (block col : ℕ) where
  abbrev main_file : ℕ
  main_file = column_file block col 0

  abbrev aux_file : ℕ
  aux_file = column_file block col 1

  main_below : (at aux_at : ℕ) (x y : Image) → SameBelow main_file at x y → SameBelowPlaces block col at aux_at x y
  main_below at aux_at x y same = record {
    others = λ file out. same.others file (neither_file block col 0 file (omega arith) out);
    main = same.below;
    aux = ap (take aux_at) (same.others aux_file (halves_apart block col));
  }

  both_below : (at aux_at : ℕ) (x y z : Image) → SameBelow main_file at x y → SameBelow aux_file aux_at y z → SameBelowPlaces block col at aux_at x z
  both_below at aux_at x y z one two =
      let first = main_below at aux_at x y one in
      record {
        others = λ file out. two.others file (neither_file block col 1 file (omega arith) out) ∙ first.others file out;
        main = ap (take at) (two.others main_file (halves_differ block col)) ∙ first.main;
        aux = two.below ∙ first.aux;
      }

-- what no bytes are at any place
no_bytes : (l : List ℕ) (at : ℕ) → StandsAt l at []
no_bytes l at = none (drop at l)
  where
    none : (l : List ℕ) → take 0 l ≡ []
    none [] = refl
    none (x ∷ xs) = refl

-- nothing was put
pub file_unput : (T E : Type 0) (old : Option Disk) (file at : ℕ) (bytes : List ℕ) (fault : E) → Told old old (PutsFile {T = T} {E = E} (Err fault) file at bytes)
file_unput T E old file at bytes fault = told_still (PutsFile {T = T} {E = E} (Err fault) file at bytes) old (λ disk. record { below = moves_still (SameBelow file at) disk (λ image. record { others = λ other e. refl; below = refl }); put = tt })

pub still_unput : (T E : Type 0) (old new : Option Disk) (file at : ℕ) (bytes : List ℕ) (fault : E) → new ≡ old → Told old new (PutsFile {T = T} {E = E} (Err fault) file at bytes)
still_unput T E old new file at bytes fault same = subst (λ (o : Option Disk). Told old o (PutsFile {T = T} {E = E} (Err fault) file at bytes)) (sym same) (file_unput T E old file at bytes fault)

-- the file and the bytes by their names
pub named_file : (T E : Type 0) (old new : Option Disk) (file other at : ℕ) (bytes same : List ℕ) (result : Result T E) → file ≡ other → bytes ≡ same → Told old new (PutsFile {T = T} {E = E} result file at bytes) → Told old new (PutsFile {T = T} {E = E} result other at same)
named_file T E old new file other at bytes same result is are told =
    subst (λ (f : ℕ). Told old new (PutsFile {T = T} {E = E} result f at same)) is
    (subst (λ (l : List ℕ). Told old new (PutsFile {T = T} {E = E} result file at l)) are told)

-- a file that was measured has the place
pub reach_there : (E : Type 0) (old new : Option Disk) (file n at : ℕ) → new ≡ old → Measures {E = E} old file (Ok n) → at ≤ n → IfSome new (λ disk. at ≤ length (reads_of disk file))
reach_there E None new file n at same told le = subst (λ (o : Option Disk). IfSome o (λ disk. at ≤ length (reads_of disk file))) (sym same) tt
reach_there E (Some disk) new file n at same told le = subst (λ (o : Option Disk). IfSome o (λ disk. at ≤ length (reads_of disk file))) (sym same) (let fits : at ≤ length (reads_of disk file) = omega (arith, told, le) in fits)

module _ (T E : Type 0) (block col : ℕ) (bytes : ColumnBytes) where
  abbrev main : ℕ
  main = column_file block col 0

  abbrev aux : ℕ
  aux = column_file block col 1

  -- the first file failed
  pub behind_failed : (old new : Option Disk) (fault answer : E) → Told old new (PutsFile {T = T} {E = E} (Err fault) main bytes.main_at bytes.main) → Told old new (PutsBehind {T = T} {E = E} (Err answer) block col bytes)
  behind_failed old new fault answer told =
      told_map (PutsFile {T = T} {E = E} (Err fault) main bytes.main_at bytes.main) (PutsBehind {T = T} {E = E} (Err answer) block col bytes) old new
      (λ before after puts. record { below = moves_weaker (SameBelow main bytes.main_at) (SameBelowPlaces block col bytes.main_at bytes.aux_at) before after (main_below block col bytes.main_at bytes.aux_at) puts.below; put = tt })
      told

  -- there is one file
  pub behind_alone : (old new : Option Disk) (done answer : T) → bytes.aux ≡ [] → Told old new (PutsFile {T = T} {E = E} (Ok done) main bytes.main_at bytes.main) → Told old new (PutsBehind {T = T} {E = E} (Ok answer) block col bytes)
  behind_alone old new done answer none told =
      told_map (PutsFile {T = T} {E = E} (Ok done) main bytes.main_at bytes.main) (PutsBehind {T = T} {E = E} (Ok answer) block col bytes) old new
      (λ before after puts. record {
        below = moves_weaker (SameBelow main bytes.main_at) (SameBelowPlaces block col bytes.main_at bytes.aux_at) before after (main_below block col bytes.main_at bytes.aux_at) puts.below;
        put = λ image now. record { main = puts.put.0 image now; aux = subst (λ (l : List ℕ). StandsAt (image aux) bytes.aux_at l) (sym none) (no_bytes (image aux) bytes.aux_at) };
      })
      told

  both_behind : (before mid after : Disk) (done : T) (result : Result T E) → PutsFile {T = T} {E = E} (Ok done) main bytes.main_at bytes.main before mid → PutsFile {T = T} {E = E} result aux bytes.aux_at bytes.aux mid after → PutsBehind {T = T} {E = E} result block col bytes before after
  both_behind before mid after done result first second = by result second
    where
      below : Moves (SameBelow aux bytes.aux_at) mid after → Moves (SameBelowPlaces block col bytes.main_at bytes.aux_at) before after
      below more =
          moves_both (SameBelow main bytes.main_at) (SameBelow aux bytes.aux_at) (SameBelowPlaces block col bytes.main_at bytes.aux_at) before mid after
          (main_below block col bytes.main_at bytes.aux_at)
          (λ x y z one two. both_below block col bytes.main_at bytes.aux_at x y z one two)
          first.below more

      main_stands : Moves (SameBelow aux bytes.aux_at) mid after → EachNow after (λ image. StandsAt (image main) bytes.main_at bytes.main)
      main_stands more =
          now_has (SameBelow aux bytes.aux_at) (λ image. StandsAt (image main) bytes.main_at bytes.main) (λ image. StandsAt (image main) bytes.main_at bytes.main) mid after more first.put.0
          (λ earlier image stands same. subst (λ (l : List ℕ). StandsAt l bytes.main_at bytes.main) (sym (same.others main (halves_differ block col))) stands)

      by : (result : Result T E) → PutsFile {T = T} {E = E} result aux bytes.aux_at bytes.aux mid after → PutsBehind {T = T} {E = E} result block col bytes before after
      by (Err fault) second = record { below = below second.below; put = tt }
      by (Ok answer) second = record { below = below second.below; put = λ image now. record { main = main_stands second.below image now; aux = second.put.0 image now } }

  -- there are two
  pub behind_put : (old mid new : Option Disk) (done : T) (result : Result T E) → Told old mid (PutsFile {T = T} {E = E} (Ok done) main bytes.main_at bytes.main) → Told mid new (PutsFile {T = T} {E = E} result aux bytes.aux_at bytes.aux) → Told old new (PutsBehind {T = T} {E = E} result block col bytes)
  behind_put old mid new done result first second =
      told_both (PutsFile {T = T} {E = E} (Ok done) main bytes.main_at bytes.main) (PutsFile {T = T} {E = E} result aux bytes.aux_at bytes.aux) (PutsBehind {T = T} {E = E} result block col bytes) old mid new
      (λ a b c one two. both_behind a b c done result one two)
      first second

-- ---- a column

module _ (first : CellsOf) (rows : List Cell) (bytes : ColumnBytes) (adds : AddsBehind first.kind first.cells rows bytes) where
  front : take (length first.cells) (first.cells ++ rows) ≡ first.cells
  front = take_at first.cells rows (length first.cells) refl

  main_at : bytes.main_at ≡ length (main_of first)
  main_at = adds.added.main_at ∙ ap (λ (cs : List Cell). length (main_of (column_of first.kind cs))) front

  aux_at : bytes.aux_at ≡ length (aux_of first)
  aux_at = adds.added.aux_at ∙ ap (λ (cs : List Cell). length (aux_of (column_of first.kind cs))) front

  main_all : main_of first ++ bytes.main ≡ main_of (joined first rows)
  main_all = sym (ap (λ (cs : List Cell). main_of (column_of first.kind cs) ++ bytes.main) front) ∙ adds.added.main

  aux_all : aux_of first ++ bytes.aux ≡ aux_of (joined first rows)
  aux_all = sym (ap (λ (cs : List Cell). aux_of (column_of first.kind cs) ++ bytes.aux) front) ∙ adds.added.aux

  keeps_column : (block col : ℕ) (x y : Image) → SameBelowPlaces block col bytes.main_at bytes.aux_at x y → KeepsColumn block col first x y
  keeps_column block col x y same = record {
    others = same.others;
    kept = λ held. record {
      cells = held.cells;
      main_bytes = begins_kept (x (column_file block col 0)) (y (column_file block col 0)) (main_of first) bytes.main_at main_at same.main held.main_bytes;
      aux_bytes = begins_kept (x (column_file block col 1)) (y (column_file block col 1)) (aux_of first) bytes.aux_at aux_at same.aux held.aux_bytes;
      fit = held.fit;
      few = held.few;
    };
  }

  holds_more : (block col : ℕ) (x y : Image) → SameBelowPlaces block col bytes.main_at bytes.aux_at x y → StandsIn block col bytes y → HoldsColumn block col first x → HoldsColumn block col (joined first rows) y
  holds_more block col x y same stands held = record {
    cells = adds.spelled.cells;
    main_bytes = subst (BeginsWith (y (column_file block col 0))) main_all (begins_more (x (column_file block col 0)) (y (column_file block col 0)) (main_of first) bytes.main bytes.main_at main_at same.main held.main_bytes stands.main);
    aux_bytes = subst (BeginsWith (y (column_file block col 1))) aux_all (begins_more (x (column_file block col 1)) (y (column_file block col 1)) (aux_of first) bytes.aux bytes.aux_at aux_at same.aux held.aux_bytes stands.aux);
    fit = adds.spelled.fit;
    few = adds.spelled.few;
  }

  pub column_grows : (T E : Type 0) (result : Result T E) (block col : ℕ) (before after : Disk) → PutsBehind {T = T} {E = E} result block col bytes before after → GrowsColumn {T = T} {E = E} result block col first rows before after
  column_grows T E (Err fault) block col before after puts = record {
    keeps = moves_weaker (SameBelowPlaces block col bytes.main_at bytes.aux_at) (KeepsColumn block col first) before after (keeps_column block col) puts.below;
    grown = λ had. tt;
  }
  column_grows T E (Ok done) block col before after puts = record {
    keeps = moves_weaker (SameBelowPlaces block col bytes.main_at bytes.aux_at) (KeepsColumn block col first) before after (keeps_column block col) puts.below;
    grown = λ had image now. let from = puts.below.now image now in holds_more block col from.0 image from.2 (puts.put image now) (had from.0 from.1);
  }

-- ---- rows behind the first ones of a column

pub tail_ungrown : (T E : Type 0) (old : Option Disk) (fault : E) (block col from : ℕ) (tail : Behind) (rows : CellsOf) → Told old old (GrowsTail {T = T} {E = E} (Err fault) block col from tail rows)
tail_ungrown T E old fault block col from tail rows = told_still (GrowsTail {T = T} {E = E} (Err fault) block col from tail rows) old (λ disk. record {
  elsewhere = moves_still (SameBut (is_column_file block col)) disk (λ image file e. refl);
  grows = λ first goes. record { keeps = moves_still (KeepsColumn block col first) disk (λ image. record { others = λ file e. refl; kept = λ h. h }); grown = λ had. tt };
})

pub tail_grows : (T E : Type 0) (result : Result T E) (block col from : ℕ) (old new : Behind) (rows : CellsOf) (bytes : ColumnBytes) (v w : Option Disk)
    → ((first : CellsOf) → first.kind ≡ rows.kind → length first.cells ≡ from → SpellsItself first → old ≡ behind first → GoesFurther first rows.cells new bytes)
    → Told v w (PutsBehind {T = T} {E = E} result block col bytes) → Told v w (GrowsTail {T = T} {E = E} result block col from old rows)
tail_grows T E result block col from old new rows bytes v w further told =
    told_map (PutsBehind {T = T} {E = E} result block col bytes) (GrowsTail {T = T} {E = E} result block col from old rows) v w
    (λ before after puts. record {
      elsewhere = moves_weaker (SameBelowPlaces block col bytes.main_at bytes.aux_at) (SameBut (is_column_file block col)) before after (λ x y same. same.others) puts.below;
      grows = λ first goes. let f = further first goes.kind goes.count goes.itself goes.goes_on in column_grows first rows.cells bytes f.adds T E result block col before after puts;
    })
    told

pub on_ok : {T E : Type 0} (P : Type 0) (r : Result T E) → P → OnOk r P
on_ok P (Ok x) p = p
on_ok P (Err e) p = tt

-- ---- rows behind those of a block

abbrev pub nothing : Behind
nothing = record { texts = []; end = 0 }

abbrev pub tail_at : ℕ → List Behind → BlockBehind
tail_at rows columns = record { rows = rows; columns = columns }

-- The first columns of a block have grown.
pub record GrownFirst (n block : ℕ) (held : Block) (old now : List Behind) (rows : List Row) (before mid : Disk) : Type 0 where
  pub moments : LeavesOnly before mid (HoldsBlock block held)
  pub stays : EachNow mid (HoldsBlock block held)
  pub grown : EachNow mid (λ image. (k : ℕ) → k < n → HoldsColumn block k (column_in (with_rows held rows) k) image)
  pub behind : (k : ℕ) → k < n → get_or now k nothing ≡ behind (column_in (with_rows held rows) k)
  pub left : (k : ℕ) → n ≤ k → get_or now k nothing ≡ get_or old k nothing

pub record GrowsFirst (n block from : ℕ) (old now : List Behind) (rows : Block) (before mid : Disk) : Type 0 where
  pub elsewhere : Moves (SameBut (is_file_of block)) before mid
  pub grows : (held : Block) → GoesOn held (tail_at from old) rows → EachNow before (HoldsBlock block held) → GrownFirst n block held old now rows.rows before mid

pub none_grown : (old : Option Disk) (block from : ℕ) (tails : List Behind) (rows : Block) → Told old old (GrowsFirst 0 block from tails tails rows)
none_grown old block from tails rows = told_still (GrowsFirst 0 block from tails tails rows) old (λ disk. record {
  elsewhere = moves_still (SameBut (is_file_of block)) disk (λ image file e. refl);
  grows = λ held goes had. record {
    moments = leaves_still (HoldsBlock block held) disk had;
    stays = had;
    grown = λ image now k low. absurd (omega arith);
    behind = λ k low. absurd (omega arith);
    left = λ k le. refl;
  };
})

module _ (T E : Type 0) (n block from : ℕ) (old now : List Behind) (rows : Block) (few : n < 512) (low : n < length rows.kinds) where
  column_moved : (before mid after : Disk) → Moves (SameBut (is_file_of block)) before mid → Moves (SameBut (is_column_file block n)) mid after → Moves (SameBut (is_file_of block)) before after
  column_moved before mid after first second =
      moves_both (SameBut (is_file_of block)) (SameBut (is_column_file block n)) (SameBut (is_file_of block)) before mid after
      (λ x y r. r)
      (λ x y z one two. but_both (is_file_of block) x y z one (λ file out. two file (no_column_of block n file few out)))
      first second

  module _ (held : Block) (goes : GoesOn held (tail_at from old) rows) where
    abbrev first : CellsOf
    first = column_in held n

    within : n < length held.kinds
    within = let e = ap length goes.kinds in omega arith

    -- the block's column as far as it was, and its tail
    goes_behind : (before mid : Disk) → GrownFirst n block held old now rows.rows before mid → GoesBehind first from (get_or now n nothing) (column_in rows n)
    goes_behind before mid g = record {
      kind = ap (λ (ks : List ColType). get_or ks n kind.Time) goes.kinds;
      count = length-map held.rows (λ (r : Row). cell_at r n) ∙ sym (ap (λ (t : BlockBehind). t.rows) goes.goes_on);
      itself = spells_itself (reads_of mid (column_file block n 0)) (reads_of mid (column_file block n 1)) (column_in held n) ((g.stays (reads_of mid) (reads_left mid)).each n within);
      goes_on = g.left n (omega arith) ∙ ap (λ (t : BlockBehind). get_or t.columns n nothing) goes.goes_on ∙ get_or-map-range_with_len (λ (col : ℕ). behind (column_in held col)) 0 (length held.kinds) n n nothing within (omega arith);
    }

    joined_rows : joined first (column_in rows n).cells ≡ column_in (with_rows held rows.rows) n
    joined_rows = ap (λ (cs : List Cell). column_of (get_or held.kinds n kind.Time) cs) (sym (map-append (λ (r : Row). cell_at r n) held.rows rows.rows))

    keeps_block : (x y : Image) → HoldsBlock block held x → KeepsColumn block n first x y → HoldsBlock block held y
    keeps_block x y had kept = record { each = λ k lt. by k lt (cases_eq n k) }
      where
        by : (k : ℕ) → k < length held.kinds → (n ≡ k) ⊎ (n ≢ k) → SpellsColumn (y (column_file block k 0)) (y (column_file block k 1)) (column_in held k)
        by k lt (inl same) = subst (λ (i : ℕ). SpellsColumn (y (column_file block i 0)) (y (column_file block i 1)) (column_in held i)) same (kept.kept (had.each n within))
        by k lt (inr differ) =
            subst (λ (l : List ℕ). SpellsColumn l (y (column_file block k 1)) (column_in held k)) (sym (kept.others (column_file block k 0) (other_column block n k 0 differ (omega arith))))
            (subst (λ (l : List ℕ). SpellsColumn (x (column_file block k 0)) l (column_in held k)) (sym (kept.others (column_file block k 1) (other_column block n k 1 differ (omega arith)))) (had.each k lt))

    -- the block stays
    moments_on : (before mid after : Disk) → GrownFirst n block held old now rows.rows before mid → Moves (KeepsColumn block n first) mid after → LeavesOnly before after (HoldsBlock block held)
    moments_on before mid after g moves = leaves_both before mid after (HoldsBlock block held) g.moments (moments_have (KeepsColumn block n first) (HoldsBlock block held) (HoldsBlock block held) mid after moves g.stays keeps_block)

    stays_on : (before mid after : Disk) → GrownFirst n block held old now rows.rows before mid → Moves (KeepsColumn block n first) mid after → EachNow after (HoldsBlock block held)
    stays_on before mid after g moves = now_has (KeepsColumn block n first) (HoldsBlock block held) (HoldsBlock block held) mid after moves g.stays keeps_block

    -- the columns that have grown
    grown_on : (before mid after : Disk) (next : Behind) → GrownFirst n block held old now rows.rows before mid → Moves (SameBut (is_column_file block n)) mid after → EachNow after (HoldsColumn block n (joined first (column_in rows n).cells)) → EachNow after (λ image. (k : ℕ) → k < n + 1 → HoldsColumn block k (column_in (with_rows held rows.rows) k) image)
    grown_on before mid after next g moves more image now_left k lt = by (cases_lt k n)
      where
        earlier_ones : EachNow after (λ image. (k : ℕ) → k < n → HoldsColumn block k (column_in (with_rows held rows.rows) k) image)
        earlier_ones =
            now_has (SameBut (is_column_file block n)) (λ image. (k : ℕ) → k < n → HoldsColumn block k (column_in (with_rows held rows.rows) k) image) (λ image. (k : ℕ) → k < n → HoldsColumn block k (column_in (with_rows held rows.rows) k) image) mid after moves g.grown
            (λ x y had same i less.
            let differ : n ≢ i = λ e. omega (arith, e, less) in
            subst (λ (l : List ℕ). SpellsColumn l (y (column_file block i 1)) (column_in (with_rows held rows.rows) i)) (sym (same (column_file block i 0) (other_column block n i 0 differ (omega arith))))
            (subst (λ (l : List ℕ). SpellsColumn (x (column_file block i 0)) l (column_in (with_rows held rows.rows) i)) (sym (same (column_file block i 1) (other_column block n i 1 differ (omega arith)))) (had i less)))

        by : (k < n) ⊎ (n ≤ k) → HoldsColumn block k (column_in (with_rows held rows.rows) k) image
        by (inl less) = earlier_ones image now_left k less
        by (inr most) = let same : n ≡ k = omega arith in subst (λ (i : ℕ). HoldsColumn block i (column_in (with_rows held rows.rows) i) image) same (subst (λ (c : CellsOf). HoldsColumn block n c image) joined_rows (more image now_left))

    one_more : (before mid after : Disk) (done : T) (next : Behind) → n < length now → GrownFirst n block held old now rows.rows before mid → GrowsTail {T = T} {E = E} (Ok done) block n from (get_or now n nothing) (column_in rows n) mid after
        → ((f : CellsOf) → GoesBehind f from (get_or now n nothing) (column_in rows n) → next ≡ behind (joined f (column_in rows n).cells)) → GrownFirst (n + 1) block held old (set now n next) rows.rows before after
    one_more before mid after done next there g tail further =
        let behind_it = goes_behind before mid g in
        let grows = tail.grows first behind_it in
        record {
          moments = moments_on before mid after g grows.keeps;
          stays = stays_on before mid after g grows.keeps;
          grown = grown_on before mid after next g tail.elsewhere (grows.grown (first_held g));
          behind = λ k lt. place k lt (further first behind_it ∙ ap behind joined_rows) g.behind (cases_eq k n);
          left = λ k le. get_or-set_other now n k next nothing (λ e. omega (arith, e, le)) ∙ g.left k (omega arith);
        }
      where
        first_held : GrownFirst n block held old now rows.rows before mid → EachNow mid (HoldsColumn block n first)
        first_held g image now_left = (g.stays image now_left).each n within

        place : (k : ℕ) → k < n + 1 → next ≡ behind (column_in (with_rows held rows.rows) n) → ((i : ℕ) → i < n → get_or now i nothing ≡ behind (column_in (with_rows held rows.rows) i)) → (k ≡ n) ⊎ (k ≢ n) → get_or (set now n next) k nothing ≡ behind (column_in (with_rows held rows.rows) k)
        place k lt is had (inl same) = subst (λ (i : ℕ). get_or (set now n next) i nothing ≡ behind (column_in (with_rows held rows.rows) i)) (sym same) (get_or-set_same now n next nothing there ∙ is)
        place k lt is had (inr other) = get_or-set_other now n k next nothing other ∙ had k (omega arith)

  pub more_grown : (v m w : Option Disk) (done : T) (next : Behind) → n < length now → Told v m (GrowsFirst n block from old now rows) → Told m w (GrowsTail {T = T} {E = E} (Ok done) block n from (get_or now n nothing) (column_in rows n))
      → ((f : CellsOf) → GoesBehind f from (get_or now n nothing) (column_in rows n) → next ≡ behind (joined f (column_in rows n).cells)) → Told v w (GrowsFirst (n + 1) block from old (set now n next) rows)
  more_grown v m w done next there first second further =
      told_both (GrowsFirst n block from old now rows) (GrowsTail {T = T} {E = E} (Ok done) block n from (get_or now n nothing) (column_in rows n)) (GrowsFirst (n + 1) block from old (set now n next) rows) v m w
      (λ a b c one two. record {
        elsewhere = column_moved a b c one.elsewhere two.elsewhere;
        grows = λ held goes had. one_more held goes a b c done next there (one.grows held goes had) two further;
      })
      first second

  pub some_ungrown : (v m w : Option Disk) (fault answer : E) (new : BlockBehind) → Told v m (GrowsFirst n block from old now rows) → Told m w (GrowsTail {T = T} {E = E} (Err fault) block n from (get_or now n nothing) (column_in rows n)) → Told v w (GrowsBlock {T = T} {E = E} (Err answer) block (tail_at from old) new rows)
  some_ungrown v m w fault answer new first second =
      told_both (GrowsFirst n block from old now rows) (GrowsTail {T = T} {E = E} (Err fault) block n from (get_or now n nothing) (column_in rows n)) (GrowsBlock {T = T} {E = E} (Err answer) block (tail_at from old) new rows) v m w
      (λ a b c one two. record {
        elsewhere = column_moved a b c one.elsewhere two.elsewhere;
        grows = λ held goes had.
            let g = one.grows held goes had in
            let grows = two.grows (column_in held n) (goes_behind held goes a b g) in
            record { moments = moments_on held goes a b c g grows.keeps; stays = stays_on held goes a b c g grows.keeps; grown = tt; tail = tt };
      })
      first second

-- all columns have grown
pub all_grown : (T E : Type 0) (n block from : ℕ) (old now : List Behind) (rows : Block) (v w : Option Disk) (done : T) → n ≡ length rows.kinds → length now ≡ length rows.kinds → Told v w (GrowsFirst n block from old now rows) → Told v w (GrowsBlock {T = T} {E = E} (Ok done) block (tail_at from old) (tail_at (from + length rows.rows) now) rows)
all_grown T E n block from old now rows v w done all sized told =
    told_map (GrowsFirst n block from old now rows) (GrowsBlock {T = T} {E = E} (Ok done) block (tail_at from old) (tail_at (from + length rows.rows) now) rows) v w
    (λ before after g. record { elsewhere = g.elsewhere; grows = λ held goes had. whole before after held goes (g.grows held goes had) })
    told
  where
    whole : (before after : Disk) (held : Block) → GoesOn held (tail_at from old) rows → GrownFirst n block held old now rows.rows before after → GrowsHeld {T = T} {E = E} (Ok done) block held (tail_at (from + length rows.rows) now) rows.rows before after
    whole before after held goes g =
        let size : length held.kinds ≡ n = ap length goes.kinds ∙ sym all in
        let holds : EachNow after (HoldsBlock block (with_rows held rows.rows)) = λ image left. record { each = λ k lt. g.grown image left k (omega (arith, size)) } in
        let count : from + length rows.rows ≡ length (held.rows ++ rows.rows) = ap (λ (t : BlockBehind). t.rows + length rows.rows) goes.goes_on ∙ sym (length-append held.rows rows.rows) in
        let columns : now ≡ tails_of (with_rows held rows.rows) = fill_by_all (λ (col : ℕ). behind (column_in (with_rows held rows.rows) col)) now (length held.kinds) nothing (sized ∙ sym (ap length goes.kinds)) (λ k lt. g.behind k (omega (arith, size))) in
        record {
          moments = g.moments;
          stays = g.stays;
          grown = (holds, holds (reads_of after) (reads_left after));
          tail = ap₂ tail_at count columns;
        }

-- the tail and the rows by their names
pub any_got : (xs : List Behind) (i : ℕ) (d e : Behind) → i < length xs → get_or xs i d ≡ get_or xs i e
any_got [] i d e lt = absurd (omega arith)
any_got (x ∷ xs) zero d e lt = refl
any_got (x ∷ xs) (suc i) d e lt = any_got xs i d e (omega arith)

pub named_tail : (T E : Type 0) (v w : Option Disk) (result : Result T E) (block col from : ℕ) (t same : Behind) (rows are : CellsOf) → t ≡ same → rows ≡ are → Told v w (GrowsTail {T = T} {E = E} result block col from t rows) → Told v w (GrowsTail {T = T} {E = E} result block col from same are)
named_tail T E v w result block col from t same rows are e f told =
    subst (λ (x : Behind). Told v w (GrowsTail {T = T} {E = E} result block col from x are)) e
    (subst (λ (r : CellsOf). Told v w (GrowsTail {T = T} {E = E} result block col from t r)) f told)

pub named_next : (from : ℕ) (t same next : Behind) (rows are : CellsOf) → t ≡ same → rows ≡ are → ((f : CellsOf) → GoesBehind f from t rows → next ≡ behind (joined f rows.cells)) → (f : CellsOf) → GoesBehind f from same are → next ≡ behind (joined f are.cells)
named_next from t same next rows are e f further =
    subst (λ (x : Behind). (c : CellsOf) → GoesBehind c from x are → next ≡ behind (joined c are.cells)) e
    (subst (λ (r : CellsOf). (c : CellsOf) → GoesBehind c from t r → next ≡ behind (joined c r.cells)) f further)

-- the tails of one more column
pub tails_more : (b : Block) (n : ℕ) (old new : List Behind) (t : Behind) → old ≡ map (λ (col : ℕ). behind (column_in b col)) (range_with_len 0 n) → new ≡ old ++ t ∷ [] → t ≡ behind (column_in b n) → new ≡ map (λ (col : ℕ). behind (column_in b col)) (range_with_len 0 (n + 1))
tails_more b n old new t had pushed is = pushed ∙ ap₂ (λ (l : List Behind) (x : Behind). l ++ x ∷ []) had is ∙ sym (map-range_with_len_more (λ (col : ℕ). behind (column_in b col)) 0 n n (omega arith))

-- nothing was done
pub block_ungrown : (T E : Type 0) (old : Option Disk) (fault : E) (block : ℕ) (tail new : BlockBehind) (rows : Block) → Told old old (GrowsBlock {T = T} {E = E} (Err fault) block tail new rows)
block_ungrown T E old fault block tail new rows = told_still (GrowsBlock {T = T} {E = E} (Err fault) block tail new rows) old (λ disk. record {
  elsewhere = moves_still (SameBut (is_file_of block)) disk (λ image file e. refl);
  grows = λ held goes had. record { moments = leaves_still (HoldsBlock block held) disk had; stays = had; grown = tt; tail = tt };
})

-- of a tail that is of no further use nothing is said
pub any_tail : (T E : Type 0) (v w : Option Disk) (fault answer : E) (block : ℕ) (tail new other : BlockBehind) (rows : Block) → Told v w (GrowsBlock {T = T} {E = E} (Err fault) block tail new rows) → Told v w (GrowsBlock {T = T} {E = E} (Err answer) block tail other rows)
any_tail T E v w fault answer block tail new other rows told =
    told_map (GrowsBlock {T = T} {E = E} (Err fault) block tail new rows) (GrowsBlock {T = T} {E = E} (Err answer) block tail other rows) v w
    (λ before after g. record {
      elsewhere = g.elsewhere;
      grows = λ held goes had. let h = g.grows held goes had in record { moments = h.moments; stays = h.stays; grown = tt; tail = tt };
    })
    told
