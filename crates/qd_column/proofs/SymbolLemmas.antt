-- Ids, and the texts that they stand for.
use Rattle.std.proofs.Common.{◌≡◌, ◌≢◌, ℕ, zero, suc, ◌+◌, ◌^◌, ◌<◌, ◌≤◌, ◌⊎◌, inl, inr, ⊎_elim, List, [], ◌∷◌, ◌++◌, length, map, fold, get_or, refl, sym, ap, ◌∙◌, arith, cond, eqb, ltb, true, false, Bool, All, length-append, subst, set}
use Rattle.std.proofs.lemmas.Bool.{eq-eqb, ne_eqb, lt-ltb}
use Rattle.std.proofs.lemmas.Bool.Decides.{eqb_tells}
use Rattle.std.proofs.lemmas.List.{get_or-set_same, get_or-set_other}
use Rattle.std.proofs.lemmas.List.Elements.{All-append}
use Rattle.std.proofs.lemmas.List.Sums.{fold-append}
use Rattle.qd_base.specs.declared.cell.Cell.{Cell}
use Rattle.qd_base.specs.declared.cell.Cell.TheVariants as cell
use Rattle.qd_base.specs.declared.limits.TheConstants.{NULL_ID}
use Rattle.qd_base.specs.Dictionary.{id_for, with_text}
use Rattle.qd_base.proofs.Texts.{text_given, text_kept, text_stands, with_text-there}
use Rattle.qd_column.specs.Symbols.{with_text_of, texts_in, symbol_cell, IsIdOf, AreSymbols, LeadsTo}

map-push : {S T : Type 0} (f : T → S) (xs : List T) (y : T) → map f (xs ++ y ∷ []) ≡ map f xs ++ f y ∷ []
map-push f [] y = refl
map-push f (x ∷ xs) y = ap (λ l. f x ∷ l) (map-push f xs y)

map-same : {S T : Type 0} (P : T → Type 0) (f g : T → S) → ((x : T) → P x → f x ≡ g x) → (xs : List T) → All P xs → map f xs ≡ map g xs
map-same P f g h [] each = refl
map-same P f g h (x ∷ xs) each = ap (λ y. y ∷ map f xs) (h x (each zero x (omega arith))) ∙ ap (λ l. g x ∷ l) (map-same P f g h xs (λ k d lt. each (suc k) d (omega arith)))

pub texts_in-push : (cells : List Cell) (x : Cell) → texts_in (cells ++ x ∷ []) ≡ with_text_of (texts_in cells) x
texts_in-push cells x = fold-append with_text_of [] cells (x ∷ [])

-- an id stands for the same cell where its text is the same
pub same_cell : (old new : List (List ℕ)) (id at : ℕ) → id ≢ NULL_ID → at ≢ NULL_ID → get_or new at [] ≡ get_or old id [] → symbol_cell new at ≡ symbol_cell old id
same_cell old new id at some also e = rw (ne_eqb id NULL_ID some, ne_eqb at NULL_ID also) (ap cell.Text e)

pub null_cell : (texts : List (List ℕ)) → symbol_cell texts NULL_ID ≡ cell.Null
null_cell texts = refl

-- one text more leaves the cells of the ids as they are
cell_kept : (texts : List (List ℕ)) (text : List ℕ) (id : ℕ) → IsIdOf texts id → symbol_cell (with_text texts text) id ≡ symbol_cell texts id
cell_kept texts text id h = ⊎_elim (λ null. rw null (null_cell (with_text texts text) ∙ sym (null_cell texts))) (λ lt. ap (λ t. cond (eqb id NULL_ID) cell.Null (cell.Text t)) (text_kept texts text [] id lt).1) h

id_kept : (texts : List (List ℕ)) (text : List ℕ) (id : ℕ) → IsIdOf texts id → IsIdOf (with_text texts text) id
id_kept texts text id h = ⊎_elim (λ null. inl null) (λ lt. inr (text_kept texts text [] id lt).0) h

All-same : {T : Type 0} (P Q : T → Type 0) → ((x : T) → P x → Q x) → (xs : List T) → All P xs → All Q xs
All-same P Q h xs each k d lt = h (get_or xs k d) (each k d lt)

All-one : {T : Type 0} (P : T → Type 0) (x : T) → P x → All P (x ∷ [])
All-one P x h zero d lt = h
All-one P x h (suc k) d lt = absurd (omega arith)

short_with : (texts : List (List ℕ)) (text : List ℕ) → length text ≤ 65535 → All (λ t. length t ≤ 65535) texts → All (λ t. length t ≤ 65535) (with_text texts text)
short_with texts text h each = go (ltb (id_for texts text) (length texts))
  where
    go : (b : Bool) → All (λ t. length t ≤ 65535) (cond b texts (texts ++ text ∷ []))
    go true = each
    go false = All-append (λ t. length t ≤ 65535) texts (text ∷ []) each (All-one (λ t. length t ≤ 65535) text h)

-- the id of a text that is interned stands for that text
pub given_cell : (texts : List (List ℕ)) (text : List ℕ) → length (with_text texts text) < 2 ^ 64 → symbol_cell (with_text texts text) (id_for texts text) ≡ cell.Text text
given_cell texts text few =
    let given = text_given texts text [] in
    let some : id_for texts text ≢ NULL_ID = λ e. let lt = given.0 in absurd (omega arith) in
    rw (ne_eqb (id_for texts text) NULL_ID some) (ap cell.Text given.1)

-- a row with a text
pub text_interned : (texts : List (List ℕ)) (ids : List ℕ) (text : List ℕ) → AreSymbols texts ids → length text ≤ 65535 → length (with_text texts text) < 2 ^ 64 → (map (symbol_cell (with_text texts text)) (ids ++ id_for texts text ∷ []) ≡ map (symbol_cell texts) ids ++ cell.Text text ∷ []) × AreSymbols (with_text texts text) (ids ++ id_for texts text ∷ [])
text_interned texts ids text known short few =
    let new = with_text texts text in
    let id = id_for texts text in
    let cells : map (symbol_cell new) (ids ++ id ∷ []) ≡ map (symbol_cell texts) ids ++ cell.Text text ∷ [] =
    map-push (symbol_cell new) ids id ∙ ap (λ l. l ++ symbol_cell new id ∷ []) (map-same (IsIdOf texts) (symbol_cell new) (symbol_cell texts) (cell_kept texts text) ids known.each)
    ∙ ap (λ x. map (symbol_cell texts) ids ++ x ∷ []) (given_cell texts text few) in (
      cells,
      record {
        each = All-append (IsIdOf new) ids (id ∷ []) (All-same (IsIdOf texts) (IsIdOf new) (id_kept texts text) ids known.each) (All-one (IsIdOf new) id (inr (text_given texts text []).0));
        appeared = ap texts_in cells ∙ texts_in-push (map (symbol_cell texts) ids) (cell.Text text) ∙ ap (λ t. with_text t text) known.appeared;
        short = short_with texts text short known.short;
      },
    )

-- a row with the text of an id that is there
pub id_repeated : (texts : List (List ℕ)) (ids : List ℕ) (id : ℕ) → AreSymbols texts ids → id < length texts → id ≢ NULL_ID → (map (symbol_cell texts) (ids ++ id ∷ []) ≡ map (symbol_cell texts) ids ++ symbol_cell texts id ∷ []) × AreSymbols texts (ids ++ id ∷ []) × (texts_in (map (symbol_cell texts) ids ++ symbol_cell texts id ∷ []) ≡ texts_in (map (symbol_cell texts) ids))
id_repeated texts ids id known within some =
    let cells : map (symbol_cell texts) (ids ++ id ∷ []) ≡ map (symbol_cell texts) ids ++ symbol_cell texts id ∷ [] = map-push (symbol_cell texts) ids id in
    let shown : symbol_cell texts id ≡ cell.Text (get_or texts id []) = rw (ne_eqb id NULL_ID some) refl in
    let kept : with_text_of texts (symbol_cell texts id) ≡ texts = ap (with_text_of texts) shown ∙ with_text-there texts (get_or texts id []) (text_stands texts id [] within) in
    let more : texts_in (map (symbol_cell texts) ids ++ symbol_cell texts id ∷ []) ≡ texts = texts_in-push (map (symbol_cell texts) ids) (symbol_cell texts id) ∙ ap (λ t. with_text_of t (symbol_cell texts id)) known.appeared ∙ kept in (
      cells,
      record {
        each = All-append (IsIdOf texts) ids (id ∷ []) known.each (All-one (IsIdOf texts) id (inr within));
        appeared = ap texts_in cells ∙ more;
        short = known.short;
      },
      more ∙ sym known.appeared,
    )

-- an empty table leads to nothing
pub leads_nowhere : (from to : List (List ℕ)) (table : List ℕ) → ((k : ℕ) → k < length from → get_or table k NULL_ID ≡ NULL_ID) → LeadsTo from to table
leads_nowhere from to table none k h = inl (none k h)

-- where the table leads, the cell is the same
pub led_cell : (from to : List (List ℕ)) (table : List ℕ) (id at : ℕ) → LeadsTo from to table → id < length from → id ≢ NULL_ID → at ≡ get_or table id NULL_ID → at ≢ NULL_ID → (at < length to) × (symbol_cell to at ≡ symbol_cell from id)
led_cell from to table id at leads within some is also =
    ⊎_elim (λ none. absurd (also (is ∙ none))) (λ led. let e : get_or to at [] ≡ get_or from id [] = ap (λ n. get_or to n []) is ∙ led.1 in (subst (λ (n : ℕ). n < length to) (sym is) led.0, same_cell from to id at some also e)) (leads id within)

-- the table with the id of a text that is new to the column
pub leads_more : (from to : List (List ℕ)) (table : List ℕ) (id : ℕ) (text : List ℕ) → LeadsTo from to table → length table ≡ length from → id < length from → text ≡ get_or from id [] → LeadsTo from (with_text to text) (set table id (id_for to text))
leads_more from to table id text leads size within is k h =
    elim (eqb_tells k id) [
      | inl same ↦
          (let at : get_or (set table id (id_for to text)) k NULL_ID ≡ id_for to text = ap (λ n. get_or (set table id (id_for to text)) n NULL_ID) same.1 ∙ get_or-set_same table id (id_for to text) NULL_ID (omega arith) in
          let given = text_given to text [] in
          let stands : get_or (with_text to text) (get_or (set table id (id_for to text)) k NULL_ID) [] ≡ get_or from k [] = ap (λ n. get_or (with_text to text) n []) at ∙ given.1 ∙ is ∙ ap (λ n. get_or from n []) (sym same.1) in
          inr (subst (λ (n : ℕ). n < length (with_text to text)) (sym at) given.0, stands))
      | inr other ↦
          (let at : get_or (set table id (id_for to text)) k NULL_ID ≡ get_or table k NULL_ID = get_or-set_other table id k (id_for to text) NULL_ID other.1 in
          ⊎_elim (λ none. inl (at ∙ none)) (λ led. let kept = text_kept to text [] (get_or table k NULL_ID) led.0 in let stands : get_or (with_text to text) (get_or (set table id (id_for to text)) k NULL_ID) [] ≡ get_or from k [] = ap (λ n. get_or (with_text to text) n []) at ∙ kept.1 ∙ led.1 in inr (subst (λ (n : ℕ). n < length (with_text to text)) (sym at) kept.0, stands)) (leads k h))
    ]

-- a table that leads to the texts of cells leads to those of more cells
leads_with : (from to : List (List ℕ)) (table : List ℕ) (x : Cell) → LeadsTo from to table → LeadsTo from (with_text_of to x) table
leads_with from to table cell.Null leads = leads
leads_with from to table (cell.Long x) leads = leads
leads_with from to table (cell.Bool b) leads = leads
leads_with from to table (cell.Text t) leads = λ k h. ⊎_elim (λ none. inl none) (λ led. let kept = text_kept to t [] (get_or table k NULL_ID) led.0 in inr (kept.0, kept.1 ∙ led.1)) (leads k h)
leads_with from to table (cell.Time t) leads = leads

leads_on : (from to : List (List ℕ)) (table : List ℕ) (more : List Cell) → LeadsTo from to table → LeadsTo from (fold with_text_of to more) table
leads_on from to table [] leads = leads
leads_on from to table (x ∷ more) leads = leads_on from (with_text_of to x) table more (leads_with from to table x leads)

pub leads_longer : (from : List (List ℕ)) (table : List ℕ) (cells more : List Cell) → LeadsTo from (texts_in cells) table → LeadsTo from (texts_in (cells ++ more)) table
leads_longer from table cells more leads = subst (λ (t : List (List ℕ)). LeadsTo from t table) (sym (fold-append with_text_of [] cells more)) (leads_on from (texts_in cells) table more leads)
