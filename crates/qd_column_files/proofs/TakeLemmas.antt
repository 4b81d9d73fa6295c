-- Cells that bytes spell are taken by a table's column.
use Rattle.std.proofs.Common.{◌≡◌, ℕ, zero, suc, ◌+◌, ◌<◌, ◌≤◌, List, [], ◌∷◌, ◌++◌, length, fold, take, drop, get_or, refl, sym, ◌∙◌, ap, subst, arith, All, length-append, length-drop}
use Rattle.std.specs.List.{flat_map}
use Rattle.std.proofs.lemmas.Grind.{flat_map-append}
use Rattle.std.proofs.lemmas.List.{drop_at, get_or_append_left, get_or-append-add, get_or-drop, get_or_default, take-append-drop}
use Rattle.std.proofs.lemmas.List.Elements.{All-drop}
use Rattle.byteorder.specs.Endian.{little_bytes}
use Rattle.qd_base.specs.declared.cell.Cell.{Cell}
use Rattle.qd_base.specs.declared.cell.Cell.TheVariants as cell
use Rattle.qd_base.specs.declared.limits.TheConstants.{MAX_TIME}
use Rattle.qd_base.specs.declared.schema.ColType.{ColType}
use Rattle.qd_base.specs.declared.schema.ColType.TheVariants as kind
use Rattle.qd_base.specs.Dictionary.{id_for, with_text}
use Rattle.qd_base.specs.Lawful.{Takes}
use Rattle.qd_base.specs.Rows.{time_in}
use Rattle.qd_base.proofs.Texts.{text_given}
use Rattle.qd_column.specs.Cells.{CellsOf}
use Rattle.qd_column.specs.Symbols.{texts_in, with_text_of}
use Rattle.qd_column_format.specs.Rests.{IsHeldRest}
use Rattle.qd_column_format.specs.Spelling.{BeginsWith, IsStorable, SpellsColumn, aux_of_kind, stored_text, text_bytes}
use Rattle.qd_column_format.specs.Tails.{texts_end}
use Rattle.qd_column_files.proofs.StoredLemmas.{Texts, texts_more}

abbrev pub AreBytes : List ℕ → Type 0
AreBytes bytes = All (λ b. b < 256) bytes

-- parts of bytes
front : (xs ys : List ℕ) → AreBytes (xs ++ ys) → AreBytes xs
front xs ys each k d lt = subst (λ b. b < 256) (get_or_append_left xs ys d k lt) (each k d (omega (arith, length-append xs ys, lt)))

back : (xs ys : List ℕ) → AreBytes (xs ++ ys) → AreBytes ys
back xs ys each k d lt = subst (λ b. b < 256) (get_or-append-add xs ys k d) (each (length xs + k) d (omega (arith, length-append xs ys, lt)))

-- the text of a cell has bytes
HasBytes : Cell → Type 0
HasBytes c = AreBytes (text_bytes c)

text_has : (cells : List Cell) → AreBytes (flat_map text_bytes cells) → All HasBytes cells
unfolding HasBytes
text_has [] each k d lt = absurd (omega (arith, lt))
text_has (c ∷ cs) each zero d lt = front (text_bytes c) (flat_map text_bytes cs) each
text_has (c ∷ cs) each (suc k) d lt = text_has cs (back (text_bytes c) (flat_map text_bytes cs) each) k d (omega (arith, lt))

texts_have : (texts : Texts) → AreBytes (flat_map stored_text texts) → All AreBytes texts
texts_have [] each k d lt = absurd (omega (arith, lt))
texts_have (t ∷ ts) each zero d lt = back (little_bytes 2 (length t)) t (front (stored_text t) (flat_map stored_text ts) each)
texts_have (t ∷ ts) each (suc k) d lt = texts_have ts (back (stored_text t) (flat_map stored_text ts) each) k d (omega (arith, lt))

no_text : HasBytes cell.Null
unfolding HasBytes
no_text = λ k d lt. absurd (omega (arith, lt))

given_has : (before : Texts) (t : List ℕ) (cs : List Cell) → All AreBytes (fold with_text_of (with_text before t) cs) → HasBytes (cell.Text t)
unfolding HasBytes
given_has before t cs known =
    let given = text_given before t [] in
    let more = texts_more (with_text before t) cs in
    let whole : List (List ℕ) = fold with_text_of (with_text before t) cs in
    let there : id_for before t < length whole = omega (arith, given.0, ap length more.1, length-append (with_text before t) more.0) in
    let is : get_or whole (id_for before t) [] ≡ t = ap (λ (l : Texts). get_or l (id_for before t) []) more.1 ∙ get_or_append_left (with_text before t) more.0 [] (id_for before t) given.0 ∙ given.1 in
    subst AreBytes is (known (id_for before t) [] there)

symbol_has : (before : Texts) (cells : List Cell) → All (IsStorable kind.Symbol) cells → All AreBytes (fold with_text_of before cells) → All HasBytes cells
symbol_has before [] each known k d lt = absurd (omega (arith, lt))
symbol_has before (cell.Null ∷ cs) each known zero d lt = no_text
symbol_has before (cell.Null ∷ cs) each known (suc k) d lt = symbol_has before cs (λ j e h. each (suc j) e (omega (arith, h))) known k d (omega (arith, lt))
symbol_has before (cell.Text t ∷ cs) each known zero d lt = given_has before t cs known
symbol_has before (cell.Text t ∷ cs) each known (suc k) d lt = symbol_has (with_text before t) cs (λ j e h. each (suc j) e (omega (arith, h))) known k d (omega (arith, lt))
symbol_has before (cell.Long x ∷ cs) each known k d lt = absurd (each 0 cell.Null (omega arith))
symbol_has before (cell.Bool b ∷ cs) each known k d lt = absurd (each 0 cell.Null (omega arith))
symbol_has before (cell.Time t ∷ cs) each known k d lt = absurd (each 0 cell.Null (omega arith))

takes : (k : ColType) (c : Cell) → IsStorable k c → ((k ≡ kind.Symbol → HasBytes c) × (k ≡ kind.Varchar → HasBytes c)) → time_in c ≤ MAX_TIME → Takes k c
unfolding HasBytes
takes kind.Long cell.Null h bytes low = tt
takes kind.Long (cell.Long x) h bytes low = h
takes kind.Long (cell.Bool b) h bytes low = absurd h
takes kind.Long (cell.Text t) h bytes low = absurd h
takes kind.Long (cell.Time t) h bytes low = absurd h
takes kind.Bool cell.Null h bytes low = absurd h
takes kind.Bool (cell.Long x) h bytes low = absurd h
takes kind.Bool (cell.Bool b) h bytes low = tt
takes kind.Bool (cell.Text t) h bytes low = absurd h
takes kind.Bool (cell.Time t) h bytes low = absurd h
takes kind.Symbol cell.Null h bytes low = tt
takes kind.Symbol (cell.Long x) h bytes low = absurd h
takes kind.Symbol (cell.Bool b) h bytes low = absurd h
takes kind.Symbol (cell.Text t) h bytes low = record { short = h; bytes = bytes.0 refl }
takes kind.Symbol (cell.Time t) h bytes low = absurd h
takes kind.Varchar cell.Null h bytes low = tt
takes kind.Varchar (cell.Long x) h bytes low = absurd h
takes kind.Varchar (cell.Bool b) h bytes low = absurd h
takes kind.Varchar (cell.Text t) h bytes low = record { short = h; bytes = bytes.1 refl }
takes kind.Varchar (cell.Time t) h bytes low = absurd h
takes kind.Time cell.Null h bytes low = tt
takes kind.Time (cell.Long x) h bytes low = absurd h
takes kind.Time (cell.Bool b) h bytes low = absurd h
takes kind.Time (cell.Text t) h bytes low = absurd h
takes kind.Time (cell.Time t) h bytes low = low

-- the second file has the texts of a column
texts_of : (main aux : List ℕ) (column : CellsOf) → AreBytes aux → SpellsColumn main aux column → (i : ℕ) (d : Cell) → i < length column.cells → (column.kind ≡ kind.Symbol → HasBytes (get_or column.cells i d)) × (column.kind ≡ kind.Varchar → HasBytes (get_or column.cells i d))
texts_of main aux column known s i d lt = (symbols, texts)
  where
    begun : (part : List ℕ) → BeginsWith aux part → AreBytes part
    begun part b = front part b.0 (subst AreBytes b.1 known)

    symbols : column.kind ≡ kind.Symbol → HasBytes (get_or column.cells i d)
    symbols is =
        let also : SpellsColumn main aux (record { kind = kind.Symbol; cells = column.cells }) = subst (λ k. SpellsColumn main aux (record { kind = k; cells = column.cells })) is s in
        symbol_has [] column.cells also.cells (texts_have (texts_in column.cells) (begun (flat_map stored_text (texts_in column.cells)) also.aux_bytes)) i d lt

    texts : column.kind ≡ kind.Varchar → HasBytes (get_or column.cells i d)
    texts is =
        let also : SpellsColumn main aux (record { kind = kind.Varchar; cells = column.cells }) = subst (λ k. SpellsColumn main aux (record { kind = k; cells = column.cells })) is s in
        text_has column.cells (begun (flat_map text_bytes column.cells) also.aux_bytes) i d lt

pub column_takes : (k : ColType) (main aux : List ℕ) (column : CellsOf) → column.kind ≡ k → AreBytes aux → SpellsColumn main aux column → ((i : ℕ) → i < length column.cells → time_in (get_or column.cells i cell.Null) ≤ MAX_TIME) → All (Takes k) column.cells
column_takes k main aux column is known s low i d lt =
    subst (λ m. Takes m (get_or column.cells i d)) is
    (takes column.kind (get_or column.cells i d) (s.cells i d lt) (texts_of main aux column known s i d lt)
    (subst (λ c. time_in c ≤ MAX_TIME) (get_or_default column.cells i cell.Null d lt) (low i lt)))

-- ---- rows behind others

-- a cell that isn't of a TIMESTAMP column has no time
time_low : (k : ColType) (c : Cell) → IsStorable k c → (k ≡ kind.Time → time_in c ≤ MAX_TIME) → time_in c ≤ MAX_TIME
time_low k cell.Null h low = omega arith
time_low k (cell.Long x) h low = omega arith
time_low k (cell.Bool b) h low = omega arith
time_low k (cell.Text t) h low = omega arith
time_low kind.Long (cell.Time t) h low = absurd h
time_low kind.Bool (cell.Time t) h low = absurd h
time_low kind.Symbol (cell.Time t) h low = absurd h
time_low kind.Varchar (cell.Time t) h low = absurd h
time_low kind.Time (cell.Time t) h low = low refl

-- the texts of rows that bytes hold
rest_texts : (start : ℕ) (main aux : List ℕ) (column : CellsOf) → AreBytes aux → IsHeldRest start main aux column → (i : ℕ) (d : Cell) → i < length column.cells → (column.kind ≡ kind.Symbol → HasBytes (get_or column.cells i d)) × (column.kind ≡ kind.Varchar → HasBytes (get_or column.cells i d))
rest_texts start main aux column known held i d lt = (symbols, texts)
  where
    whole : CellsOf
    whole = held.whole

    cells_are : column.cells ≡ drop held.skip whole.cells
    cells_are = ap (λ (c : CellsOf). c.cells) held.is

    kind_is : column.kind ≡ whole.kind
    kind_is = ap (λ (c : CellsOf). c.kind) held.is

    there : held.skip + i < length whole.cells
    there = omega (arith, lt, ap length cells_are, length-drop held.skip whole.cells)

    symbols : column.kind ≡ kind.Symbol → HasBytes (get_or column.cells i d)
    symbols is =
        let same : whole.kind ≡ kind.Symbol = sym kind_is ∙ is in
        let storable : All (IsStorable kind.Symbol) whole.cells = subst (λ (k : ColType). All (IsStorable k) whole.cells) same held.held.stored.cells in
        let begins : BeginsWith aux (flat_map stored_text (texts_in whole.cells)) = subst (λ (k : ColType). BeginsWith aux (drop (texts_end k (take held.skip whole.cells)) (aux_of_kind k whole.cells))) same held.held.texts in
        let all : HasBytes (get_or whole.cells (held.skip + i) d) = symbol_has [] whole.cells storable (texts_have (texts_in whole.cells) (front (flat_map stored_text (texts_in whole.cells)) begins.0 (subst AreBytes begins.1 known))) (held.skip + i) d there in
        subst HasBytes (sym (ap (λ (cs : List Cell). get_or cs i d) cells_are ∙ get_or-drop held.skip whole.cells i d)) all

    texts : column.kind ≡ kind.Varchar → HasBytes (get_or column.cells i d)
    texts is =
        let same : whole.kind ≡ kind.Varchar = sym kind_is ∙ is in
        let skipped = flat_map text_bytes (take held.skip whole.cells) in
        let rest = flat_map text_bytes (drop held.skip whole.cells) in
        let begins : BeginsWith aux (drop (length skipped) (flat_map text_bytes whole.cells)) = subst (λ (k : ColType). BeginsWith aux (drop (texts_end k (take held.skip whole.cells)) (aux_of_kind k whole.cells))) same held.held.texts in
        let behind : drop (length skipped) (flat_map text_bytes whole.cells) ≡ rest = ap (drop (length skipped)) (ap (flat_map text_bytes) (sym (take-append-drop held.skip whole.cells)) ∙ flat_map-append text_bytes (take held.skip whole.cells) (drop held.skip whole.cells)) ∙ drop_at skipped rest (length skipped) refl in
        let also : BeginsWith aux rest = subst (BeginsWith aux) behind begins in
        subst (λ (cs : List Cell). HasBytes (get_or cs i d)) (sym cells_are) (text_has (drop held.skip whole.cells) (front rest also.0 (subst AreBytes also.1 known)) i d (omega (arith, lt, ap length cells_are)))

pub rest_takes : (k : ColType) (start : ℕ) (main aux : List ℕ) (column : CellsOf) → column.kind ≡ k → AreBytes aux → (0 < length column.cells → IsHeldRest start main aux column) → (column.kind ≡ kind.Time → (i : ℕ) → i < length column.cells → time_in (get_or column.cells i cell.Null) ≤ MAX_TIME) → All (Takes k) column.cells
rest_takes k start main aux column is known made low i d lt =
    let held = made (omega (arith, lt)) in
    let cells_are : column.cells ≡ drop held.skip held.whole.cells = ap (λ (c : CellsOf). c.cells) held.is in
    let kind_is : held.whole.kind ≡ column.kind = sym (ap (λ (c : CellsOf). c.kind) held.is) in
    let all : All (IsStorable held.whole.kind) column.cells = subst (All (IsStorable held.whole.kind)) (sym cells_are) (All-drop (IsStorable held.whole.kind) held.skip held.whole.cells held.held.stored.cells) in
    let storable : IsStorable column.kind (get_or column.cells i d) = subst (λ (j : ColType). IsStorable j (get_or column.cells i d)) kind_is (all i d lt) in
    subst (λ (m : ColType). Takes m (get_or column.cells i d)) is
    (takes column.kind (get_or column.cells i d) storable (rest_texts start main aux column known held i d lt)
    (time_low column.kind (get_or column.cells i d) storable (λ time. subst (λ (c : Cell). time_in c ≤ MAX_TIME) (get_or_default column.cells i cell.Null d lt) (low time i lt))))
