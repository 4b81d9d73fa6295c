-- Columns read, and why bytes give none.
use Rattle.std.proofs.Common.{◌≡◌, ℕ, ◌*◌, ◌-◌, ◌<◌, ◌≤◌, inl, inr, Result, Ok, Err, IfErr, List, ◌++◌, length, map, take, drop, slice_index, refl, sym, ap, ◌∙◌, arith, All, subst}
use Rattle.std.specs.List.{flat_map}
use Rattle.std.proofs.lemmas.List.{length-take-le, take-append-drop, take_all}
use Rattle.qd_base.specs.declared.schema.ColType.{ColType}
use Rattle.qd_base.specs.declared.schema.ColType.TheVariants as kind
use Rattle.qd_base.specs.Dictionary.{AreDistinct}
use Rattle.qd_column.specs.Symbols.{symbol_cell, texts_in, AreSymbols}
use Rattle.qd_column.specs.Texts.{cells_from, Tile}
use Rattle.qd_column_format.specs.declared.fault.ColumnFault.{ColumnFault}
use Rattle.qd_column_format.specs.declared.fault.ColumnFault.TheVariants as fault
use Rattle.qd_column_format.specs.Fields.{field_size, named, end_of, Follows, AreFields}
use Rattle.qd_column_format.specs.Spelling.{stored_text, BeginsWith}
use Rattle.qd_column_format.specs.Damage.{IsMainDamage, IsTextDamage, IsDamage}
use Rattle.qd_column_format.specs.Reading.{AreThere, IsReadColumn, IsFault, IsUnspelled}
use Rattle.qd_column_format.specs.Added.{column_of}
use Rattle.qd_column_format.proofs.SymbolLemmas.{are_symbols}
use Rattle.qd_column_format.proofs.TextLemmas.{tile_of_fields, texts_again}
use Rattle.qd_column_format.proofs.ColumnLemmas.{symbol_column, text_column, column_read}
use Rattle.qd_column_format.proofs.DamageLemmas.{main_damage_at, main_damage_cut, damage_unspelled}

pub err_weaker : {X Y : Type 0} (r : Result X Y) (P Q : Y → Type 0) → ((y : Y) → P y → Q y) → IfErr r P → IfErr r Q
err_weaker (Ok x) P Q f h = tt
err_weaker (Err y) P Q f h = f y h

pub fault_unspelled : (k : ColType) (rows : ℕ) (main aux : List ℕ) (e : ColumnFault) → IsFault k rows main aux e → IsUnspelled k rows main aux e
fault_unspelled k rows main aux fault.Memory d = tt
fault_unspelled k rows main aux (fault.Damaged half at) d = λ column is size s. damage_unspelled k rows main aux half at column is size s d

-- the main file is damaged at a row whose number breaks the rules
pub row_damage : (k : ColType) (rows : ℕ) (main aux fields : List ℕ) (row : ℕ) → field_size k ≡ 8 → AreThere k rows main fields → row < length fields → AreFields k (take row fields) → (Follows k (take row fields) (slice_index fields row) → ⊥) → IsDamage k rows main aux 0 (8 * row)
row_damage k rows main aux fields row eight there low sound breaks =
    let place : row * field_size k ≡ 8 * row = ap (λ n. row * n) eight ∙ omega arith in
    inl (refl, subst (λ n. IsMainDamage k rows main n) place (main_damage_at k rows main fields row low there.few sound there.fit breaks there.begins))

-- and at its end, where it has too few bytes
pub rows_cut : (k : ColType) (rows : ℕ) (main aux fields : List ℕ) → AreThere k rows main fields → AreFields k fields → length fields < rows → IsDamage k rows main aux 0 (length main)
rows_cut k rows main aux fields there sound fewer = inl (refl, main_damage_cut k rows main fields sound fewer there.begins (there.cut fewer))

-- ids of all rows, and the texts that they name
pub symbols_known : (ids : List ℕ) (texts : List (List ℕ)) → AreFields kind.Symbol ids → length texts ≡ named ids → AreDistinct texts → All (λ t. length t ≤ 65535) texts → AreSymbols texts ids
symbols_known ids texts sound size distinct short = are_symbols texts ids distinct short sound size

pub symbols_read : (rows : ℕ) (main aux ids : List ℕ) (texts : List (List ℕ)) → AreThere kind.Symbol rows main ids → rows ≤ length ids → AreSymbols texts ids → AreDistinct texts → length texts ≤ length ids → BeginsWith aux (flat_map stored_text texts) → IsReadColumn kind.Symbol rows main aux (column_of kind.Symbol (map (symbol_cell texts) ids))
symbols_read rows main aux ids texts there whole are distinct few begins =
    let column = column_of kind.Symbol (map (symbol_cell texts) ids) in
    let small = there.small in
    let most = there.few in
    let aux_begins : BeginsWith aux (flat_map stored_text (texts_in (map (symbol_cell texts) ids))) = subst (λ ts. BeginsWith aux (flat_map stored_text ts)) (sym are.appeared) begins in
    column_read column ids main aux rows (symbol_column texts ids are distinct (omega arith) there.fit) (omega arith) (omega arith) there.begins aux_begins

-- the second file is damaged where its texts are
pub symbols_damage : (rows : ℕ) (main aux ids : List ℕ) (at : ℕ) → AreThere kind.Symbol rows main ids → AreFields kind.Symbol ids → rows ≤ length ids → IsTextDamage (named ids) aux at → IsDamage kind.Symbol rows main aux 1 at
symbols_damage rows main aux ids at there sound whole d =
    let most = there.few in
    inr (refl, record { fields = ids; sound = sound; whole = omega arith; there = there.begins; damage = d })

pub texts_damage : (rows : ℕ) (main aux marks : List ℕ) → AreThere kind.Varchar rows main marks → AreFields kind.Varchar marks → rows ≤ length marks → length aux < end_of marks → IsDamage kind.Varchar rows main aux 1 (length aux)
texts_damage rows main aux marks there sound whole short =
    let most = there.few in
    inr (refl, record { fields = marks; sound = sound; whole = omega arith; there = there.begins; damage = (short, refl) })

-- marks of all rows, and the bytes of their texts
pub marks_tile : (marks bytes aux : List ℕ) → AreFields kind.Varchar marks → end_of marks ≤ length aux → bytes ≡ take (end_of marks) aux → Tile 0 marks (length bytes)
marks_tile marks bytes aux sound room is =
    let size : end_of marks ≡ length bytes = sym (ap length is ∙ length-take-le (end_of marks) aux room) in
    subst (λ n. Tile 0 marks n) size (tile_of_fields 0 marks sound.kept)

pub texts_read : (rows : ℕ) (main aux marks bytes : List ℕ) → AreThere kind.Varchar rows main marks → AreFields kind.Varchar marks → rows ≤ length marks → end_of marks ≤ length aux → bytes ≡ take (end_of marks) aux → IsReadColumn kind.Varchar rows main aux (column_of kind.Varchar (cells_from bytes 0 marks))
texts_read rows main aux marks bytes there sound whole room is =
    let tile = marks_tile marks bytes aux sound room is in
    let small = there.small in
    let most = there.few in
    let texts : bytes ≡ take (length bytes - 0) bytes = sym (take_all (length bytes - 0) bytes (omega arith)) in
    let begins : aux ≡ bytes ++ drop (end_of marks) aux = sym (ap (λ l. l ++ drop (end_of marks) aux) is ∙ take-append-drop (end_of marks) aux) in
    column_read (column_of kind.Varchar (cells_from bytes 0 marks)) marks main aux rows (text_column bytes marks tile there.fit) (omega arith) (omega arith) there.begins (drop (end_of marks) aux, begins ∙ ap (λ l. l ++ drop (end_of marks) aux) (texts ∙ sym (texts_again bytes 0 (length bytes) marks tile)))
