-- Damaged bytes spell no column, and where bytes that spell none are damaged.
use Rattle.std.proofs.Common.{◌≡◌, ℕ, suc, ◌+◌, ◌*◌, ◌^◌, ◌<◌, ◌≤◌, inl, inr, ⊎_elim, Some, None, IsSome, is_some, Bool, true, false, fold, List, [], ◌∷◌, ◌++◌, length, take, drop, get_or, slice_index, refl, sym, ap, ◌∙◌, arith, All, subst, length-append, cond, ltb, append-nil, ◌/◌}
use Rattle.std.specs.List.{flat_map}
use Rattle.std.proofs.lemmas.Bool.{cases_lt, le-ltb, false≢true}
use Rattle.std.proofs.lemmas.List.{append_cancel_left, append_assoc, take-append-drop, take_at, take_more, get_or_at, get_or-take, take-take, length-take-le, length_push, drop_more, take_all, get_or_default}
use Rattle.std.proofs.lemmas.Nat.{row_fits}
use Rattle.std.proofs.lemmas.List.Elements.{All-push}
use Rattle.byteorder.specs.Endian.{little_bytes, little_number}
use Rattle.byteorder.specs.Numbers.{little_number-reads_back, length-bytes_low_first}
use Rattle.qd_base.specs.declared.cell.Cell.{Cell}
use Rattle.qd_base.specs.declared.schema.ColType.{ColType}
use Rattle.qd_base.specs.declared.schema.ColType.TheVariants as kind
use Rattle.qd_base.specs.declared.cell.Cell.TheVariants as cell
use Rattle.qd_base.specs.Dictionary.{id_in, id_for, with_text, AreDistinct}
use Rattle.qd_base.proofs.Texts.{none_distinct}
use Rattle.qd_column.specs.Cells.{CellsOf}
use Rattle.qd_column.specs.Symbols.{with_text_of, texts_in}
use Rattle.qd_column_format.specs.Fields.{field_size, fields_of, bytes_of_fields, Follows, AreFields}
use Rattle.qd_column_format.specs.Spelling.{aux_of_kind, stored_text, text_bytes, IsStorable, BeginsWith, SpellsColumn}
use Rattle.qd_column_format.specs.declared.fault.LoadFault.TheVariants as load_fault
use Rattle.qd_column_format.specs.Reading.{AreUnspelled}
use Rattle.qd_column_format.specs.Damage.{IsMainDamage, IsCutText, IsTextDamage, IsAuxDamageBy, IsDamage}
use Rattle.qd_column_format.proofs.FieldLemmas.{field_inj, fields_inj, length-words, begins_front}
use Rattle.qd_column_format.proofs.WordLemmas.{AreBytes, words_of, words_held}
use Rattle.qd_column_format.proofs.SymbolLemmas.{id_for-append, id_of_place, ids_are_fields, distinct_texts}
use Rattle.qd_column_format.proofs.SpellingLemmas.{length-fields, spelled_fields, single_bytes}
use Rattle.qd_column_format.proofs.TextLemmas.{end_of_marks}

-- where the main file has a number for each row, it isn't damaged
pub main_whole : (k : ColType) (rows : ℕ) (main : List ℕ) (at : ℕ) (all : List ℕ) → AreFields k all → length all ≡ rows → BeginsWith main (bytes_of_fields k all) → IsMainDamage k rows main at → ⊥
main_whole k rows main at all are size begins d = ⊎_elim cut odd d.damage
  where
    n : ℕ
    n = length d.fields

    cut : (length main < length (bytes_of_fields k d.fields) + field_size k) × (at ≡ length main) → ⊥
    cut h =
        let few = length-words (field_size k) d.fields in
        let many = length-words (field_size k) all in
        let whole = ap length begins.1 ∙ length-append (bytes_of_fields k all) begins.0 in
        let room : n * field_size k + field_size k ≤ length all * field_size k = row_fits n (field_size k) (length all) (field_size k) (omega (arith, d.fewer, size)) (omega arith) in
        absurd (omega (arith, h.0, few, many, whole, room))

    odd : ((next : ℕ) × (next < 256 ^ field_size k) × BeginsWith main (bytes_of_fields k (d.fields ++ next ∷ [])) × (Follows k d.fields next → ⊥) × (at ≡ length (bytes_of_fields k d.fields))) → ⊥
    odd h =
        let next = h.0 in
        let fits = h.1 in
        let b = h.2 in
        let breaks = h.3 in
        let front = d.fields ++ next ∷ [] in
        let count : length front ≡ n + 1 = length_push d.fields next in
        let same : front ≡ take (length front) all = fields_inj (field_size k) front all b.0 begins.0 (All-push (λ x. x < 256 ^ field_size k) d.fields next d.sound.fit fits) are.fit (omega (arith, d.fewer, size, count)) (sym b.1 ∙ begins.1) in
        let item : slice_index all n ≡ next = sym (get_or-take (length front) all n 0 (omega (arith, count))) ∙ ap (λ l. get_or l n 0) (sym same) ∙ get_or_at d.fields next [] 0 n refl in
        let before : take n all ≡ d.fields = sym (take-take n (length front) all (omega (arith, count))) ∙ ap (take n) (sym same) ∙ take_at d.fields (next ∷ []) n refl in
        breaks (subst (λ x. Follows k d.fields x) item (subst (λ l. Follows k l (slice_index all n)) before (are.kept n (omega (arith, d.fewer, size)))))

-- texts behind their lengths
pub text_inj : (x y r s : List ℕ) → length x ≤ 65535 → length y ≤ 65535 → stored_text x ++ r ≡ stored_text y ++ s → (x ≡ y) × (r ≡ s)
text_inj x y r s hx hy e =
    let one = field_inj 2 (length x) (length y) (x ++ r) (y ++ s) (omega arith) (omega arith) (sym (append_assoc (little_bytes 2 (length x)) x r) ∙ e ∙ append_assoc (little_bytes 2 (length y)) y s) in
    let same : x ≡ y = sym (take_at x r (length x) refl) ∙ ap (take (length x)) one.1 ∙ ap (λ n. take n (y ++ s)) one.0 ∙ take_at y s (length y) refl in
    (same, append_cancel_left y r s (ap (λ l. l ++ r) (sym same) ∙ one.1))

abbrev pub AreShort : List (List ℕ) → Type 0
AreShort texts = All (λ t. length t ≤ 65535) texts

pub texts_inj : (xs ys : List (List ℕ)) (r s : List ℕ) → AreShort xs → AreShort ys → length xs ≤ length ys → flat_map stored_text xs ++ r ≡ flat_map stored_text ys ++ s → (xs ≡ take (length xs) ys) × (r ≡ flat_map stored_text (drop (length xs) ys) ++ s)
texts_inj [] ys r s hx hy le e = (refl, e)
texts_inj (x ∷ xs) [] r s hx hy le e = absurd (omega arith)
texts_inj (x ∷ xs) (y ∷ ys) r s hx hy le e =
    let one = text_inj x y (flat_map stored_text xs ++ r) (flat_map stored_text ys ++ s) (hx 0 [] (omega arith)) (hy 0 [] (omega arith)) (sym (append_assoc (stored_text x) (flat_map stored_text xs) r) ∙ e ∙ append_assoc (stored_text y) (flat_map stored_text ys) s) in
    let rest = texts_inj xs ys r s (λ k d lt. hx (suc k) d (omega arith)) (λ k d lt. hy (suc k) d (omega arith)) (omega arith) one.1 in
    (ap (λ l. x ∷ l) rest.0 ∙ ap (λ t. t ∷ take (length xs) ys) one.0, rest.1)

-- a whole text isn't cut
length-stored : (t : List ℕ) → length (stored_text t) ≡ 2 + length t
length-stored t = length-append (little_bytes 2 (length t)) t ∙ ap (λ n. n + length t) (length-bytes_low_first 0 2 (length t))

size_read : (t more : List ℕ) → length t ≤ 65535 → little_number 2 (stored_text t ++ more) ≡ length t
size_read t more short = ap (little_number 2) (append_assoc (little_bytes 2 (length t)) t more) ∙ little_number-reads_back 2 (length t) (t ++ more) (omega arith)

pub text_uncut : (t more : List ℕ) → length t ≤ 65535 → IsCutText (stored_text t ++ more) → ⊥
text_uncut t more short (inl few) = absurd (omega (arith, few, length-append (stored_text t) more, length-stored t))
text_uncut t more short (inr few) = absurd (omega (arith, few, size_read t more short, length-append (stored_text t) more, length-stored t))

-- bytes that hold distinct texts aren't damaged
pub texts_whole : (texts : List (List ℕ)) (bytes r : List ℕ) (at : ℕ) → AreDistinct texts → AreShort texts → bytes ≡ flat_map stored_text texts ++ r → IsTextDamage (length texts) bytes at → ⊥
texts_whole texts bytes r at distinct short is d = ⊎_elim cut repeated d.damage
  where
    n : ℕ
    n = length d.texts

    next : List ℕ
    next = get_or texts n []

    more : List ℕ
    more = flat_map stored_text (drop (n + 1) texts) ++ r

    found : (d.texts ≡ take n texts) × (d.rest ≡ stored_text next ++ more)
    found =
        let le : n ≤ length texts = let h = d.fewer in omega arith in
        let both = texts_inj d.texts texts d.rest r d.short short le (sym d.there ∙ is) in
        (both.0, both.1 ∙ ap (λ l. flat_map stored_text l ++ r) (drop_more texts n [] d.fewer) ∙ append_assoc (stored_text next) (flat_map stored_text (drop (n + 1) texts)) r)

    cut : IsCutText d.rest × (at ≡ length bytes) → ⊥
    cut h = text_uncut next more (short n [] d.fewer) (subst IsCutText found.1 h.0)

    repeated : ((t : List ℕ) × (length t ≤ 65535) × BeginsWith d.rest (stored_text t) × IsSome (id_in d.texts t) × (at ≡ length (flat_map stored_text d.texts))) → ⊥
    repeated h =
        let t = h.0 in
        let small = h.1 in
        let b = h.2 in
        let some = h.3 in
        let same : t ≡ next = (text_inj t next b.0 more small (short n [] d.fewer) (sym b.1 ∙ found.1)).0 in
        let whole : d.texts ++ drop n texts ≡ texts = ap (λ l. l ++ drop n texts) found.0 ∙ take-append-drop n texts in
        elim (cases_lt (id_for d.texts t) n) [
          | inl there ↦ (let early = id_for-append d.texts (drop n texts) t there in let all = ap (λ l. id_for l t) whole in let place = ap (id_for texts) same ∙ id_of_place texts n distinct d.fewer in absurd (omega arith))
          | inr late ↦ (let none : id_in d.texts t ≡ None = ap (λ b. cond b (Some (id_for d.texts t)) None) (le-ltb (id_for d.texts t) n late) in absurd (false≢true (ap is_some (sym none) ∙ some)))
        ]

pub text_unspelled : (count : ℕ) (bytes : List ℕ) (at : ℕ) → IsTextDamage count bytes at → AreUnspelled count bytes (load_fault.Damaged at)
text_unspelled count bytes at d = λ texts size distinct short begins. texts_whole texts bytes begins.0 at distinct short begins.1 (subst (λ n. IsTextDamage n bytes at) (sym size) d)

-- the texts of cells that can be stored are short
short_with : (texts : List (List ℕ)) (t : List ℕ) → length t ≤ 65535 → AreShort texts → AreShort (with_text texts t)
short_with texts t h each = go (ltb (id_for texts t) (length texts))
  where
    go : (b : Bool) → AreShort (cond b texts (texts ++ t ∷ []))
    go true = each
    go false = All-push (λ t. length t ≤ 65535) texts t each h

pub short_texts : (texts : List (List ℕ)) (cells : List Cell) → All (IsStorable kind.Symbol) cells → AreShort texts → AreShort (fold with_text_of texts cells)
short_texts texts [] each short = short
short_texts texts (cell.Null ∷ cs) each short = short_texts texts cs (λ k d lt. each (suc k) d (omega arith)) short
short_texts texts (cell.Text t ∷ cs) each short = short_texts (with_text texts t) cs (λ k d lt. each (suc k) d (omega arith)) (short_with texts t (each 0 cell.Null (omega arith)) short)
short_texts texts (cell.Long x ∷ cs) each short = absurd (each 0 cell.Null (omega arith))
short_texts texts (cell.Bool b ∷ cs) each short = absurd (each 0 cell.Null (omega arith))
short_texts texts (cell.Time t ∷ cs) each short = absurd (each 0 cell.Null (omega arith))

-- where the second file has the texts of all rows, it isn't damaged
aux_whole : (k : ColType) (cells : List Cell) (aux : List ℕ) (at : ℕ) → All (IsStorable k) cells → length cells < 2 ^ 63 → BeginsWith aux (aux_of_kind k cells) → IsAuxDamageBy k (fields_of k cells) aux at → ⊥
aux_whole kind.Long cells aux at each few b d = d
aux_whole kind.Bool cells aux at each few b d = d
aux_whole kind.Time cells aux at each few b d = d
aux_whole kind.Symbol cells aux at each few b d =
    texts_whole (texts_in cells) aux b.0 at (distinct_texts [] cells none_distinct) (short_texts [] cells each (λ k d lt. absurd (omega arith))) b.1 (subst (λ n. IsTextDamage n aux at) (ids_are_fields cells few).1 d)
aux_whole kind.Varchar cells aux at each few b d = absurd (omega (arith, d.0, end_of_marks 0 cells, ap length b.1, length-append (flat_map text_bytes cells) b.0))

-- damaged bytes spell no column
spelled_whole : (main aux : List ℕ) (half at : ℕ) (column : CellsOf) → SpellsColumn main aux column → IsDamage column.kind (length column.cells) main aux half at → ⊥
spelled_whole main aux half at column s (inl both) = main_whole column.kind (length column.cells) main at (fields_of column.kind column.cells) (spelled_fields main aux column s) (length-fields column.kind column.cells) s.main_bytes both.1
spelled_whole main aux half at column s (inr both) =
    let d = both.1 in
    let all = fields_of column.kind column.cells in
    let are = spelled_fields main aux column s in
    let size = length-fields column.kind column.cells in
    let same : d.fields ≡ all = fields_inj (field_size column.kind) d.fields all d.there.0 s.main_bytes.0 d.sound.fit are.fit (omega (arith, d.whole, size)) (sym d.there.1 ∙ s.main_bytes.1) ∙ take_all (length d.fields) all (omega (arith, d.whole, size)) in
    aux_whole column.kind column.cells aux at s.cells s.few s.aux_bytes (subst (λ fs. IsAuxDamageBy column.kind fs aux at) same d.damage)

pub damage_unspelled : (k : ColType) (rows : ℕ) (main aux : List ℕ) (half at : ℕ) (column : CellsOf) → column.kind ≡ k → length column.cells ≡ rows → SpellsColumn main aux column → IsDamage k rows main aux half at → ⊥
damage_unspelled k rows main aux half at column is size s d = spelled_whole main aux half at column s (subst (λ n. IsDamage column.kind n main aux half at) (sym size) (subst (λ j. IsDamage j rows main aux half at) (sym is) d))

-- the main file is damaged at the first row whose number breaks the rules
pub main_damage_at : (k : ColType) (rows : ℕ) (main fields : List ℕ) (i : ℕ) → i < length fields → length fields ≤ rows → AreFields k (take i fields) → All (λ n. n < 256 ^ field_size k) fields → (Follows k (take i fields) (slice_index fields i) → ⊥) → BeginsWith main (bytes_of_fields k fields) → IsMainDamage k rows main (i * field_size k)
main_damage_at k rows main fields i low few sound fit breaks b =
    let count = length-take-le i fields (omega arith) in
    let next : take (i + 1) fields ≡ take i fields ++ slice_index fields i ∷ [] = take_more fields i 0 low in
    record {
      fields = take i fields;
      sound = sound;
      fewer = omega arith;
      there = begins_front k main fields i b;
      damage = inr (slice_index fields i, fit i 0 low, subst (λ l. BeginsWith main (bytes_of_fields k l)) next (begins_front k main fields (i + 1) b), breaks, sym (length-words (field_size k) (take i fields) ∙ ap (λ m. m * field_size k) count));
    }

-- or at its end, where bytes are missing
pub main_damage_cut : (k : ColType) (rows : ℕ) (main fields : List ℕ) → AreFields k fields → length fields < rows → BeginsWith main (bytes_of_fields k fields) → length main < length fields * field_size k + field_size k → IsMainDamage k rows main (length main)
main_damage_cut k rows main fields sound fewer b short =
    record {
      fields = fields;
      sound = sound;
      fewer = fewer;
      there = b;
      damage = inl (let count = length-words (field_size k) fields in omega arith, refl);
    }

-- where the main file of a LONG or a TIMESTAMP column has too few bytes
pub long_cut : (rows : ℕ) (main aux : List ℕ) → AreBytes main → length main / 8 < rows → IsDamage kind.Long rows main aux 0 (length main)
long_cut rows main aux known short =
    let n = length main / 8 in
    let held = words_held n main known (omega arith) in
    inl (refl, main_damage_cut kind.Long rows main (words_of n main) (record { fit = held.1; kept = λ i h. tt }) (omega (arith, held.0)) (drop (8 * n) main, held.2) (omega (arith, held.0)))

pub time_cut : (rows : ℕ) (main aux : List ℕ) → AreBytes main → length main / 8 < rows → IsDamage kind.Time rows main aux 0 (length main)
time_cut rows main aux known short =
    let n = length main / 8 in
    let held = words_held n main known (omega arith) in
    inl (refl, main_damage_cut kind.Time rows main (words_of n main) (record { fit = held.1; kept = λ i h. tt }) (omega (arith, held.0)) (drop (8 * n) main, held.2) (omega (arith, held.0)))

-- bytes that are truth values, and the first that is none
truths_sound : (bytes : List ℕ) (n : ℕ) → All (λ b. b < 2) (take n bytes) → AreFields kind.Bool (take n bytes)
truths_sound bytes n each = record { fit = λ k d lt. let small = each k d lt in omega arith; kept = λ i lt. each i 0 lt }

pub truth_damage : (rows : ℕ) (main aux : List ℕ) (at : ℕ) → AreBytes main → at < length main → at < rows → All (λ b. b < 2) (take at main) → (slice_index main at < 2 → ⊥) → IsDamage kind.Bool rows main aux 0 at
truth_damage rows main aux at known low few each breaks =
    let all : All (λ b. b < 256) main = λ k d lt. subst (λ b. b < 256) (get_or_default main k 0 d lt) (known k) in
    let whole : flat_map (little_bytes 1) main ≡ main = single_bytes main all in
    let size = length-take-le at main (omega arith) in
    let next : take (at + 1) main ≡ take at main ++ slice_index main at ∷ [] = take_more main at 0 low in
    let begins : BeginsWith main (bytes_of_fields kind.Bool main) = ([], sym (ap (λ l. l ++ []) whole ∙ append-nil main)) in
    let place : at ≡ length (bytes_of_fields kind.Bool (take at main)) = sym (length-words 1 (take at main) ∙ ap (λ n. n * 1) size ∙ one at) in
    inl (
      refl,
      record {
        fields = take at main;
        sound = truths_sound main at each;
        fewer = omega arith;
        there = begins_front kind.Bool main main at begins;
        damage = inr (slice_index main at, known at, subst (λ l. BeginsWith main (bytes_of_fields kind.Bool l)) next (begins_front kind.Bool main main (at + 1) begins), breaks, place);
      },
    )
  where
    one : (n : ℕ) → n * 1 ≡ n
    one n = omega arith

pub truth_cut : (rows : ℕ) (main aux : List ℕ) → AreBytes main → All (λ b. b < 2) main → length main < rows → IsDamage kind.Bool rows main aux 0 (length main)
truth_cut rows main aux known each few =
    let all : All (λ b. b < 256) main = λ k d lt. subst (λ b. b < 256) (get_or_default main k 0 d lt) (known k) in
    let whole : flat_map (little_bytes 1) main ≡ main = single_bytes main all in
    inl (refl, main_damage_cut kind.Bool rows main main (record { fit = λ k d lt. all k d lt; kept = λ i lt. each i 0 lt }) few ([], sym (ap (λ l. l ++ []) whole ∙ append-nil main)) (omega arith))
