-- Partitions as rows are counted in them are those of the plain meaning.
use Rattle.std.proofs.Common.{◌≡◌, ℕ, zero, suc, ◌+◌, ◌<◌, ◌≤◌, ◌==◌, Bool, true, false, cond, not, List, [], ◌∷◌, ◌++◌, length, map, filter, take, get_or, set, pos, refl, sym, ap, ap₂, ◌∙◌, subst, arith, inl, inr, append_assoc, append-nil, length-append}
use Rattle.std.specs.List.{AllByRecursion}
use Rattle.std.proofs.lemmas.Bool.{cases_lt, eq-eqb, ne_eqb, eqb-true, eqb-false}
use Rattle.std.proofs.lemmas.List.{map-append, get_or-take, get_or_default, length-take, take_more}
use Rattle.std.proofs.lemmas.List.Elements.{recursion_from_All, filter-append}
use Rattle.qd_base.specs.declared.cell.Cell.TheVariants as cell
use Rattle.qd_base.specs.declared.limits.TheConstants.{MAX_TIME}
use Rattle.qd_base.specs.declared.schema.PartUnit.{PartUnit}
use Rattle.qd_base.specs.declared.unit.TimeUnit.{TimeUnit}
use Rattle.qd_base.specs.Laws.{IsInOrder}
use Rattle.qd_base.specs.Rows.{Row, time_of}
use Rattle.qd_meaning.specs.Joined.{last_or}
use Rattle.qd_meaning.specs.Partitions.{once, partition_row, partition_start}
use Rattle.qd_query.specs.declared.partitions.Partition.{Partition}
use Rattle.qd_query.specs.Counted.{begun, counted, grown, shown_row}
use Rattle.qd_scan.proofs.RowLemmas.{times_rise}
use Rattle.qd_time.specs.Units.{name_of, start_of, unit_of}
use Rattle.qd_time.proofs.UnitLemmas.{in_unit, start_of-within}

-- ---- units

-- a later moment lies in no earlier unit
pub starts_rise : (u : TimeUnit) (a b : ℕ) → a ≤ b → start_of u a ≤ start_of u b
starts_rise u a b low = elim (cases_lt (start_of u b) (start_of u a)) [
  | inl less ↦
      absurd (
      let here = in_unit u a in
      let there = in_unit u b in
      let one : start_of u (start_of u a) ≡ start_of u a = start_of-within u a (start_of u a) (omega arith) (omega (arith, here.0, here.1)) in
      let other : start_of u (start_of u a) ≡ start_of u b = start_of-within u b (start_of u a) (omega arith) (omega (arith, here.0, there.1)) in
      omega (arith, one, other))
  | inr most ↦ most
]

-- ---- numbers of a list, each once

kept_above : (b : Bool) (n m : ℕ) (ms : List ℕ) → n < m → AllByRecursion (λ x. n < x) ms → AllByRecursion (λ x. n < x) (cond b (m ∷ ms) ms)
kept_above true n m ms low h = (low, h)
kept_above false n m ms low h = h

filter_above : (q : ℕ → Bool) (n : ℕ) (ms : List ℕ) → AllByRecursion (λ x. n < x) ms → AllByRecursion (λ x. n < x) (filter q ms)
filter_above q n [] h = tt
filter_above q n (m ∷ ms) h = kept_above (q m) n m (filter q ms) h.0 (filter_above q n ms h.1)

once_above : (n : ℕ) (ms : List ℕ) → AllByRecursion (λ x. n < x) ms → AllByRecursion (λ x. n < x) (once ms)
once_above n [] h = tt
once_above n (m ∷ ms) h = (h.0, filter_above (λ x. not (x == m)) n (once ms) (once_above n ms h.1))

others : (n : ℕ) (ms : List ℕ) → AllByRecursion (λ x. n < x) ms → filter (λ x. not (x == n)) ms ≡ ms
others n [] h = refl
others n (m ∷ ms) h =
    let apart : (m == n) ≡ false = ne_eqb m n (λ same. let low = h.0 in omega (arith, same, low)) in
    ap (λ (t : Bool). cond (not t) (m ∷ filter (λ x. not (x == n)) ms) (filter (λ x. not (x == n)) ms)) apart ∙ ap (λ (l : List ℕ). m ∷ l) (others n ms h.1)

once_run : (n : ℕ) (ns ms : List ℕ) → AllByRecursion (λ x. x ≡ n) ns → AllByRecursion (λ x. n < x) ms → filter (λ x. not (x == n)) (once (ns ++ ms)) ≡ once ms
once_run n [] ms same above = others n (once ms) (once_above n ms above)
once_run n (m ∷ ns) ms same above =
    let rest = once (ns ++ ms) in
    ap (λ (k : ℕ). filter (λ x. not (x == n)) (k ∷ filter (λ x. not (x == k)) rest)) same.0
    ∙ ap (λ (t : Bool). cond (not t) (n ∷ filter (λ x. not (x == n)) (filter (λ x. not (x == n)) rest)) (filter (λ x. not (x == n)) (filter (λ x. not (x == n)) rest))) (eq-eqb n n refl)
    ∙ ap (filter (λ x. not (x == n))) (once_run n ns ms same.1 above)
    ∙ others n (once ms) (once_above n ms above)

map_above : {X : Type 0} (k : ℕ) (f g : ℕ → X) (ns : List ℕ) → ((n : ℕ) → k < n → f n ≡ g n) → AllByRecursion (λ x. k < x) ns → map f ns ≡ map g ns
map_above k f g [] h above = refl
map_above k f g (n ∷ ns) h above = ap₂ (λ x l. x ∷ l) (h n above.0) (map_above k f g ns h above.1)

-- ---- facts of each element

back_all : {X : Type 0} (P : X → Type 0) (xs ys : List X) → AllByRecursion P (xs ++ ys) → AllByRecursion P ys
back_all P [] ys h = h
back_all P (x ∷ xs) ys h = back_all P xs ys h.1

both_all : {X : Type 0} (P : X → Type 0) (xs ys : List X) → AllByRecursion P xs → AllByRecursion P ys → AllByRecursion P (xs ++ ys)
both_all P [] ys h more = more
both_all P (x ∷ xs) ys h more = (h.0, both_all P xs ys h.1 more)

map_all : {X Y : Type 0} (P : Y → Type 0) (f : X → Y) (xs : List X) → AllByRecursion (λ x. P (f x)) xs → AllByRecursion P (map f xs)
map_all P f [] h = tt
map_all P f (x ∷ xs) h = (h.0, map_all P f xs h.1)

last_more : (r x : Row) (rs : List Row) → last_or r (rs ++ x ∷ []) ≡ x
last_more r x [] = refl
last_more r x (y ∷ rs) = last_more y x rs

-- ---- rows as partitions

module _ (unit : PartUnit) (col : ℕ) where
  abbrev st : Row → ℕ
  st = partition_start unit col

  -- what is known of a partition and its rows
  pub record IsGroup (p : Partition) (r : Row) (rs : List Row) : Type 0 where
    pub start : p.start ≡ partition_start unit col r
    pub each : AllByRecursion (λ x. partition_start unit col x ≡ p.start) rs
    pub first : p.first ≡ time_of col r
    pub last : p.last ≡ time_of col (last_or r rs)
    pub rows : p.rows ≡ length (r ∷ rs)

  -- rows are those of partitions, one after another, whose starts rise
  abbrev pub Splits : List Partition → List Row → Type 0
  Splits [] rows = rows ≡ []
  Splits (p ∷ ps) rows =
      (r : Row) × (rs : List Row) × (rest : List Row) × IsGroup p r rs × (rows ≡ (r ∷ rs) ++ rest) × AllByRecursion (λ x. p.start < partition_start unit col x) rest × Splits ps rest

  same_all : (n : ℕ) (rs : List Row) → AllByRecursion (λ x. st x ≡ n) rs → filter (λ x. st x == n) rs ≡ rs
  same_all n [] h = refl
  same_all n (r ∷ rs) h = ap (λ (t : Bool). cond t (r ∷ filter (λ x. st x == n) rs) (filter (λ x. st x == n) rs)) (eq-eqb (st r) n h.0) ∙ ap (λ (l : List Row). r ∷ l) (same_all n rs h.1)

  none_of : (n : ℕ) (rs : List Row) → AllByRecursion (λ x. st x ≡ n → ⊥) rs → filter (λ x. st x == n) rs ≡ []
  none_of n [] h = refl
  none_of n (r ∷ rs) h = ap (λ (t : Bool). cond t (r ∷ filter (λ x. st x == n) rs) (filter (λ x. st x == n) rs)) (ne_eqb (st r) n h.0) ∙ none_of n rs h.1

  weaker : (P Q : Row → Type 0) → ((x : Row) → P x → Q x) → (rs : List Row) → AllByRecursion P rs → AllByRecursion Q rs
  weaker P Q f [] h = tt
  weaker P Q f (r ∷ rs) h = (f r h.0, weaker P Q f rs h.1)

  group_each : (p : Partition) (r : Row) (rs : List Row) → IsGroup p r rs → AllByRecursion (λ x. st x ≡ p.start) (r ∷ rs)
  group_each p r rs g = (sym g.start, g.each)

  group_row : (p : Partition) (r : Row) (rs : List Row) → IsGroup p r rs → shown_row unit p ≡ partition_row unit col (r ∷ rs)
  group_row p r rs g =
      ap₂ (λ (a b : ℕ). cell.Text (name_of unit a) ∷ cell.Long (pos p.rows) ∷ cell.Time a ∷ cell.Time b ∷ []) g.first g.last
      ∙ ap (λ (n : ℕ). cell.Text (name_of unit (time_of col r)) ∷ cell.Long (pos n) ∷ cell.Time (time_of col r) ∷ cell.Time (time_of col (last_or r rs)) ∷ []) g.rows

  -- the rows of one partition among those of all
  abbrev part : List Row → ℕ → Row
  part rows n = partition_row unit col (filter (λ x. st x == n) rows)

  -- the partitions of rows by the plain meaning
  abbrev pub parts : List Row → List Row
  parts rows = map (part rows) (once (map st rows))

  group_part : (p : Partition) (r : Row) (rs rest : List Row) → IsGroup p r rs → AllByRecursion (λ x. p.start < st x) rest → shown_row unit p ≡ part ((r ∷ rs) ++ rest) p.start
  group_part p r rs rest g above =
      let own : filter (λ x. st x == p.start) (r ∷ rs) ≡ r ∷ rs = same_all p.start (r ∷ rs) (group_each p r rs g) in
      let none : filter (λ x. st x == p.start) rest ≡ [] = none_of p.start rest (weaker (λ x. p.start < st x) (λ x. st x ≡ p.start → ⊥) (λ x low same. omega (arith, low, same)) rest above) in
      group_row p r rs g
      ∙ ap (partition_row unit col) (sym (filter-append (λ x. st x == p.start) (r ∷ rs) rest ∙ ap₂ (λ (a b : List Row). a ++ b) own none ∙ append-nil (r ∷ rs)))

  rest_part : (p : Partition) (r : Row) (rs rest : List Row) (n : ℕ) → IsGroup p r rs → p.start < n → part ((r ∷ rs) ++ rest) n ≡ part rest n
  rest_part p r rs rest n g low =
      let none : filter (λ x. st x == n) (r ∷ rs) ≡ [] = none_of n (r ∷ rs) (weaker (λ x. st x ≡ p.start) (λ x. st x ≡ n → ⊥) (λ x is same. omega (arith, low, is, same)) (r ∷ rs) (group_each p r rs g)) in
      ap (partition_row unit col) (filter-append (λ x. st x == n) (r ∷ rs) rest ∙ ap (λ (l : List Row). l ++ filter (λ x. st x == n) rest) none)

  once_rows : (p : Partition) (r : Row) (rs rest : List Row) → IsGroup p r rs → AllByRecursion (λ x. p.start < st x) rest → once (map st ((r ∷ rs) ++ rest)) ≡ p.start ∷ once (map st rest)
  once_rows p r rs rest g above =
      ap once (map-append st (r ∷ rs) rest)
      ∙ ap (λ (n : ℕ). n ∷ filter (λ x. not (x == n)) (once (map st rs ++ map st rest))) (sym g.start)
      ∙ ap (λ (l : List ℕ). p.start ∷ l) (once_run p.start (map st rs) (map st rest) (map_all (λ x. x ≡ p.start) st rs g.each) (map_all (λ x. p.start < x) st rest above))

  pub split_parts : (ps : List Partition) (rows : List Row) → Splits ps rows → map (shown_row unit) ps ≡ parts rows
  split_parts [] rows h = ap parts (sym h)
  split_parts (p ∷ ps) rows h =
      let r : Row = h.0 in
      let rs : List Row = h.1 in
      let rest : List Row = h.2 in
      let g : IsGroup p r rs = h.3 in
      let above : AllByRecursion (λ x. p.start < st x) rest = h.5 in
      let all : List Row = (r ∷ rs) ++ rest in
      ap₂ (λ (x : Row) (l : List Row). x ∷ l) (group_part p r rs rest g above)
      (split_parts ps rest h.6 ∙ sym (map_above p.start (part all) (part rest) (once (map st rest)) (λ n low. rest_part p r rs rest n g low) (once_above p.start (map st rest) (map_all (λ x. p.start < x) st rest above))))
      ∙ ap (map (part all)) (sym (once_rows p r rs rest g above))
      ∙ ap parts (sym h.4)

  -- ---- a row more

  one_row : (x : Row) → IsGroup (begun (st x) (time_of col x)) x []
  one_row x = record { start = refl; each = tt; first = refl; last = refl; rows = refl }

  row_more : (p : Partition) (r x : Row) (rs : List Row) → IsGroup p r rs → p.start ≡ st x → IsGroup (grown (st x) (time_of col x) p) r (rs ++ x ∷ [])
  row_more p r x rs g same = record {
    start = sym same ∙ g.start;
    each = both_all (λ y. st y ≡ st x) rs (x ∷ []) (weaker (λ y. st y ≡ p.start) (λ y. st y ≡ st x) (λ y e. e ∙ same) rs g.each) (refl, tt);
    first = g.first;
    last = ap (time_of col) (sym (last_more r x rs));
    rows = count;
  }
    where
      count : (grown (st x) (time_of col x) p).rows ≡ length (r ∷ (rs ++ x ∷ []))
      count = let l = length-append rs (x ∷ []) in omega (arith, l, g.rows)

  last_row : (b : Bool) (p : Partition) (r x : Row) (rs : List Row) → (p.start == st x) ≡ b → IsGroup p r rs → p.start ≤ st x
      → Splits (cond b (grown (st x) (time_of col x) p ∷ []) (p ∷ begun (st x) (time_of col x) ∷ [])) ((r ∷ rs) ++ x ∷ [])
  last_row true p r x rs e g low = (r, rs ++ x ∷ [], [], row_more p r x rs g (eqb-true p.start (st x) e), sym (append-nil (r ∷ (rs ++ x ∷ []))), tt, refl)
  last_row false p r x rs e g low =
      let apart = eqb-false p.start (st x) e in
      let less : p.start < st x = strict p.start (st x) low apart in
      (r, rs, x ∷ [], g, refl, (less, tt), (x, [], [], one_row x, refl, tt, refl))
    where
      strict : (a b : ℕ) → a ≤ b → (a ≡ b → ⊥) → a < b
      strict a b low apart = elim (cases_lt a b) [ inl less ↦ less | inr most ↦ absurd (apart (omega arith)) ]

  pub split_more : (ps : List Partition) (rows : List Row) (x : Row) → Splits ps rows → AllByRecursion (λ y. st y ≤ st x) rows → Splits (counted (st x) (time_of col x) ps) (rows ++ x ∷ [])
  split_more [] rows x h low = (x, [], [], one_row x, ap (λ (l : List Row). l ++ x ∷ []) h, tt, refl)
  split_more (p ∷ []) rows x h low =
      let r : Row = h.0 in
      let rs : List Row = h.1 in
      let g : IsGroup p r rs = h.3 in
      let is : rows ≡ r ∷ rs = h.4 ∙ ap (λ (l : List Row). (r ∷ rs) ++ l) h.6 ∙ append-nil (r ∷ rs) in
      let low_all : AllByRecursion (λ y. st y ≤ st x) (r ∷ rs) = subst (AllByRecursion (λ y. st y ≤ st x)) is low in
      let low_first : st r ≤ st x = low_all.0 in
      subst (λ (l : List Row). Splits (counted (st x) (time_of col x) (p ∷ [])) (l ++ x ∷ [])) (sym is) (last_row (p.start == st x) p r x rs refl g (omega (arith, g.start, low_first)))
  split_more (p ∷ q ∷ ps) rows x h low =
      let r : Row = h.0 in
      let rs : List Row = h.1 in
      let rest : List Row = h.2 in
      let g : IsGroup p r rs = h.3 in
      let above : AllByRecursion (λ y. p.start < st y) rest = h.5 in
      let low_all : AllByRecursion (λ y. st y ≤ st x) rest = back_all (λ y. st y ≤ st x) (r ∷ rs) rest (subst (AllByRecursion (λ y. st y ≤ st x)) h.4 low) in
      let inner : Splits (q ∷ ps) rest = h.6 in
      let next : Row = inner.0 in
      let starts : rest ≡ (next ∷ inner.1) ++ inner.2 = inner.4 in
      let one : AllByRecursion (λ y. p.start < st y) ((next ∷ inner.1) ++ inner.2) = subst (AllByRecursion (λ y. p.start < st y)) starts above in
      let two : AllByRecursion (λ y. st y ≤ st x) ((next ∷ inner.1) ++ inner.2) = subst (AllByRecursion (λ y. st y ≤ st x)) starts low_all in
      let less : p.start < st next = one.0 in
      let most : st next ≤ st x = two.0 in
      (r, rs, rest ++ x ∷ [], g, ap (λ (l : List Row). l ++ x ∷ []) h.4 ∙ append_assoc (r ∷ rs) rest (x ∷ []), both_all (λ y. p.start < st y) rest (x ∷ []) above (omega (arith, less, most), tt), split_more (q ∷ ps) rest x inner low_all)

  pub split_timely : (ps : List Partition) (rows : List Row) → Splits ps rows → AllByRecursion (λ y. time_of col y ≤ MAX_TIME) rows → AllByRecursion (λ (p : Partition). p.first ≤ MAX_TIME) ps
  split_timely [] rows h low = tt
  split_timely (p ∷ ps) rows h low =
      let r : Row = h.0 in
      let rs : List Row = h.1 in
      let rest : List Row = h.2 in
      let g : IsGroup p r rs = h.3 in
      let all : AllByRecursion (λ y. time_of col y ≤ MAX_TIME) ((r ∷ rs) ++ rest) = subst (AllByRecursion (λ y. time_of col y ≤ MAX_TIME)) h.4 low in
      let first : time_of col r ≤ MAX_TIME = all.0 in
      (omega (arith, g.first, first), split_timely ps rest h.6 (back_all (λ y. time_of col y ≤ MAX_TIME) (r ∷ rs) rest all))

  -- the rows so far are no later than the next
  pub earlier : (rows : List Row) (i : ℕ) → IsInOrder col rows → i < length rows → AllByRecursion (λ y. st y ≤ st (get_or rows i [])) (take i rows)
  earlier rows i order low =
      recursion_from_All (λ y. st y ≤ st (get_or rows i [])) (take i rows)
      (λ k d lt.
      let below : k < i = within k i rows lt in
      let here : get_or (take i rows) k d ≡ get_or rows k d = get_or-take i rows k d below in
      let same : get_or rows k d ≡ get_or rows k [] = get_or_default rows k d [] (omega arith) in
      let rise = times_rise col rows order k i (omega arith) low in
      subst (λ (y : Row). st y ≤ st (get_or rows i [])) (sym (here ∙ same)) (starts_rise (unit_of unit) (time_of col (get_or rows k [])) (time_of col (get_or rows i [])) rise))
    where
      within : (k i : ℕ) (rows : List Row) → k < length (take i rows) → k < i
      within k i rows lt = let most = length-take i rows in omega (arith, most)

  pub split_next : (ps new : List Partition) (rows : List Row) (i start time : ℕ) → IsInOrder col rows → i < length rows → time ≡ time_of col (get_or rows i []) → start ≡ start_of (unit_of unit) time → new ≡ counted start time ps
      → Splits ps (take i rows) → Splits new (take (i + 1) rows)
  split_next ps new rows i start time order low is begins made h =
      let x : Row = get_or rows i [] in
      let same : counted start time ps ≡ counted (st x) (time_of col x) ps = ap₂ (λ (a b : ℕ). counted a b ps) (begins ∙ ap (start_of (unit_of unit)) is) is in
      subst (λ (l : List Partition). Splits l (take (i + 1) rows)) (sym (made ∙ same))
      (subst (λ (l : List Row). Splits (counted (st x) (time_of col x) ps) l) (sym (take_more rows i [] low)) (split_more ps (take i rows) x h (earlier rows i order low)))

-- ---- the list of partitions

pub grown_last : (start time n : ℕ) (ps : List Partition) (last more : Partition) → length ps ≡ suc n → last ≡ get_or ps n last → last.start ≡ start → more ≡ grown start time last → set ps n more ≡ counted start time ps
grown_last start time n [] last more size is same made = absurd (omega arith)
grown_last start time zero (p ∷ []) last more size is same made =
    let here : last ≡ p = is in
    let begins : (p.start == start) ≡ true = eq-eqb p.start start (ap (λ (x : Partition). x.start) (sym here) ∙ same) in
    ap (λ (x : Partition). x ∷ []) (made ∙ ap (grown start time) here) ∙ sym (ap (λ (t : Bool). cond t (grown start time p ∷ []) (p ∷ begun start time ∷ [])) begins)
grown_last start time (suc n) (p ∷ []) last more size is same made = absurd (omega arith)
grown_last start time zero (p ∷ q ∷ ps) last more size is same made = absurd (omega arith)
grown_last start time (suc n) (p ∷ q ∷ ps) last more size is same made = ap (λ (l : List Partition). p ∷ l) (grown_last start time n (q ∷ ps) last more (omega arith) is same made)

pub begun_last : (start time n : ℕ) (ps : List Partition) (last : Partition) → length ps ≡ suc n → last ≡ get_or ps n last → (last.start ≡ start → ⊥) → ps ++ begun start time ∷ [] ≡ counted start time ps
begun_last start time n [] last size is apart = absurd (omega arith)
begun_last start time zero (p ∷ []) last size is apart =
    let here : last ≡ p = is in
    let other : (p.start == start) ≡ false = ne_eqb p.start start (λ e. apart (ap (λ (x : Partition). x.start) here ∙ e)) in
    sym (ap (λ (t : Bool). cond t (grown start time p ∷ []) (p ∷ begun start time ∷ [])) other)
begun_last start time (suc n) (p ∷ []) last size is apart = absurd (omega arith)
begun_last start time zero (p ∷ q ∷ ps) last size is apart = absurd (omega arith)
begun_last start time (suc n) (p ∷ q ∷ ps) last size is apart = ap (λ (l : List Partition). p ∷ l) (begun_last start time n (q ∷ ps) last (omega arith) is apart)

pub begun_first : (start time : ℕ) (ps : List Partition) → length ps ≤ 0 → ps ++ begun start time ∷ [] ≡ counted start time ps
begun_first start time [] none = refl
begun_first start time (p ∷ ps) none = absurd (omega arith)
