-- Reading a line that gives a row.
use Rattle.std.proofs.Common.{◌≡◌, ◌≢◌, ℕ, ◌+◌, ◌-◌, true, false, List, [], ◌∷◌, ◌++◌, length, length-append, length-drop, take, drop, refl, sym, ap, subst, ◌∙◌, Option, Some, None, append_assoc, map, arith}
use Rattle.std.specs.Prelude.{if◌then◌else◌}
use Rattle.std.specs.List.{AllByRecursion}
use Rattle.std.proofs.lemmas.List.{drop_at, take_all, map-append}
use Rattle.qd_ilp.specs.declared.stop.Stop.{Stop}
use Rattle.qd_ilp.specs.declared.stop.Stop.TheVariants as stop
use Rattle.qd_ilp.specs.declared.value.Span.{Span}
use Rattle.qd_ilp.specs.declared.item.Pair.{Pair}
use Rattle.qd_ilp.specs.declared.row.Head.{Head}
use Rattle.qd_ilp.specs.Cut.{◌>>=◌, Fails, begins, cut}
use Rattle.qd_ilp.specs.Value.{Moment, is_empty}
use Rattle.qd_ilp.specs.Line.{Item, Row, Rest, items_at, after_spaces, tail_at, tags_at, fields_at, rest_at, row_at}
use Rattle.qd_ilp.specs.Kept.{Puts, bytes_in, item_in, moment_in, SpanFits, PairFits, PutsItems}
use Rattle.qd_ilp.specs.Whole.{pairs_in, row_in, HeadFits}
use Rattle.qd_ilp.proofs.Growing.{grows_twice}
use Rattle.qd_ilp.proofs.Places.{drop_on}
use Rattle.qd_ilp.proofs.Kepts.{empty_span, grow_pairs, each_append}

-- tags
pub tags_none : (text : List ℕ) → begins 44 text ≡ false → tags_at text ≡ Some ([], text)
unfolding tags_at
tags_none text h = rw h refl

pub tags_behind : (text : List ℕ) (at : ℕ) → begins 44 (drop at text) ≡ true → tags_at (drop at text) ≡ items_at true (length text - (at + 1)) (drop (at + 1) text)
unfolding tags_at
tags_behind text at h =
    let on = drop_on 1 at text in
    let size : length (drop 1 (drop at text)) ≡ length text - (at + 1) = ap length (sym on) ∙ length-drop (at + 1) text in
    rw h (ap (λ (k : ℕ). items_at true k (drop 1 (drop at text))) size ∙ ap (items_at true (length text - (at + 1))) (sym on))

abbrev pub rest_of : List Item → Option Moment → List ℕ → Rest
rest_of fields moment after = record { fields = fields; moment = moment; after = after }

-- fields
pub fields_unspaced : (text : List ℕ) → begins 32 text ≡ false → fields_at text ≡ None
unfolding fields_at
fields_unspaced text h = rw h refl

sized : {A : Type 0} (f : ℕ → A) (n m : ℕ) (a : A) → n ≡ m → f n ≡ a → f m ≡ a
sized f n m a same is = ap f (sym same) ∙ is

pub fields_fault : (text rest : List ℕ) (n : ℕ) (e : Stop) → begins 32 text ≡ true → rest ≡ after_spaces text → n ≡ length rest → Fails e (items_at false n rest) → Fails e (fields_at text)
unfolding fields_at
fields_fault text rest n stop.Memory space here size fails = tt
fields_fault text rest n stop.Syntax space here size fails = let fails' = sized (λ (k : ℕ). items_at false k rest) n (length rest) None size fails in rw (space, ← here, fails') refl

pub fields_untailed : (text rest behind : List ℕ) (n : ℕ) (fields : List Item) → begins 32 text ≡ true → rest ≡ after_spaces text → n ≡ length rest → items_at false n rest ≡ Some (fields, behind) → tail_at behind ≡ None → fields_at text ≡ None
unfolding fields_at
fields_untailed text rest behind n fields space here size items tail = let items' = sized (λ (k : ℕ). items_at false k rest) n (length rest) (Some (fields, behind)) size items in rw (space, ← here, items', tail) refl

pub fields_are : (text rest behind after : List ℕ) (n : ℕ) (fields : List Item) (moment : Option Moment) → begins 32 text ≡ true → rest ≡ after_spaces text → n ≡ length rest → items_at false n rest ≡ Some (fields, behind) → Some (moment, after) ≡ tail_at behind
    → fields_at text ≡ Some (rest_of fields moment after)
unfolding fields_at
fields_are text rest behind after n fields moment space here size items tail = let items' = sized (λ (k : ℕ). items_at false k rest) n (length rest) (Some (fields, behind)) size items in rw (space, ← here, items', ← tail) refl

-- what stands behind the tags
pub rest_tail : (text after : List ℕ) (moment : Option Moment) → Some (moment, after) ≡ tail_at text → rest_at text ≡ Some (rest_of [] moment after)
unfolding rest_at
rest_tail text after moment tail = rw (← tail) refl

pub rest_fields : (text : List ℕ) → tail_at text ≡ None → rest_at text ≡ fields_at text
unfolding rest_at
rest_fields text tail = rw tail refl

-- items that were put are there
pub puts_twice : (a b c : List ℕ) (p q r : List Pair) (is js : List Item) → PutsItems a b p q is → PutsItems b c q r js → PutsItems a c p r (is ++ js)
puts_twice a b c p q r is js one two =
    let grown = grow_pairs b c one.more two.grows one.fit in
    record {
      grows = grows_twice a b c one.grows two.grows;
      more = one.more ++ two.more;
      pushed = two.pushed ∙ ap (λ (l : List Pair). l ++ two.more) one.pushed ∙ append_assoc p one.more two.more;
      are = map-append (item_in c) one.more two.more ∙ ap (λ (l : List Item). l ++ map (item_in c) two.more) (grown.0 ∙ one.are) ∙ ap (λ (l : List Item). is ++ l) two.are;
      fit = each_append (PairFits (length c)) one.more two.more grown.1 two.fit;
    }

pub pairs_are : (p q more : List Pair) (first end : ℕ) → q ≡ p ++ more → first ≡ length p → end ≡ length q → take (end - first) (drop first q) ≡ more
pairs_are p q more first end pushed begin finish =
    let size : length q ≡ length p + length more = ap length pushed ∙ length-append p more in
    let back : drop first q ≡ more = ap (λ (n : ℕ). drop n q) begin ∙ ap (drop (length p)) pushed ∙ drop_at p more (length p) refl in
    let count : end - first ≡ length more = omega (arith, size, begin, finish) in
    ap (λ (n : ℕ). take n (drop first q)) count ∙ ap (take (length more)) back ∙ take_all (length more) more (omega arith)

length_map : (f : Pair → Item) (ps : List Pair) → length (map f ps) ≡ length ps
length_map f [] = refl
length_map f (p ∷ ps) = let rest = length_map f ps in cc

nothing_in : (m n : ℕ) (is : List Item) → n ≡ m + length is → (m ≡ n → is_empty is ≡ true) × (m ≢ n → is_empty is ≡ false)
nothing_in m n [] size = ((λ _. refl), λ differ. absurd (differ (omega (arith, size))))
nothing_in m n (i ∷ is) size = ((λ same. absurd (omega (arith, size, same))), λ _. refl)

pub nothing_put : (a b : List ℕ) (p q : List Pair) (is : List Item) → PutsItems a b p q is → (length p ≡ length q → is_empty is ≡ true) × (length p ≢ length q → is_empty is ≡ false)
nothing_put a b p q is puts =
    let size : length q ≡ length p + length puts.more = ap length puts.pushed ∙ length-append p puts.more in
    let count : length is ≡ length puts.more = ap length (sym puts.are) ∙ length_map (item_in b) puts.more in
    nothing_in (length p) (length q) is (omega (arith, size, count))

-- a row
pub row_unnamed : (text before now : List ℕ) (span : Span) → Puts before now span (cut false text).0 → span.start ≡ span.end → row_at text ≡ None
unfolding row_at
row_unnamed text before now span puts same = rw ((empty_span before now (cut false text).0 span puts).0 same) refl

abbrev pub finished : List ℕ → List Item → Rest → Option (Row × List ℕ)
finished table tags r = if is_empty (tags ++ r.fields) then None else Some (record { table = table; items = tags ++ r.fields; moment = r.moment }, r.after)

abbrev pub named : List ℕ → List ℕ → Option (Row × List ℕ)
named table rest = tags_at rest >>= λ t. rest_at t.1 >>= λ r. finished table t.0 r

pub row_named : (text before now rest : List ℕ) (span : Span) → Puts before now span (cut false text).0 → rest ≡ (cut false text).1 → span.start ≢ span.end → row_at text ≡ named (cut false text).0 rest
unfolding row_at
row_named text before now rest span puts behind differ = rw ((empty_span before now (cut false text).0 span puts).1 differ, ← behind) refl

pub tags_fault : (text table rest : List ℕ) (e : Stop) → row_at text ≡ named table rest → Fails e (tags_at rest) → Fails e (row_at text)
tags_fault text table rest stop.Memory goes fails = tt
tags_fault text table rest stop.Syntax goes fails = goes ∙ ap (λ (o : Option (List Item × List ℕ)). o >>= λ t. rest_at t.1 >>= λ r. finished table t.0 r) fails

pub row_tagged : (text table rest behind : List ℕ) (tags : List Item) → row_at text ≡ named table rest → tags_at rest ≡ Some (tags, behind) → row_at text ≡ (rest_at behind >>= λ r. finished table tags r)
row_tagged text table rest behind tags goes found = goes ∙ ap (λ (o : Option (List Item × List ℕ)). o >>= λ t. rest_at t.1 >>= λ r. finished table t.0 r) found

pub rest_fault : (text table behind : List ℕ) (tags : List Item) (e : Stop) → row_at text ≡ (rest_at behind >>= λ r. finished table tags r) → Fails e (rest_at behind) → Fails e (row_at text)
rest_fault text table behind tags stop.Memory goes fails = tt
rest_fault text table behind tags stop.Syntax goes fails = goes ∙ ap (λ (o : Option Rest). o >>= λ r. finished table tags r) fails

pub row_finished : (text table behind : List ℕ) (tags : List Item) (r : Rest) → row_at text ≡ (rest_at behind >>= λ r. finished table tags r) → rest_at behind ≡ Some r → row_at text ≡ finished table tags r
row_finished text table behind tags r goes found = goes ∙ ap (λ (o : Option Rest). o >>= λ r. finished table tags r) found

pub row_empty : (text table : List ℕ) (tags : List Item) (r : Rest) → row_at text ≡ finished table tags r → is_empty (tags ++ r.fields) ≡ true → row_at text ≡ None
row_empty text table tags r goes empty = goes ∙ (rw empty refl)

pub row_is : (t u : List ℕ) (is js : List Item) (m : Option Moment) → t ≡ u → is ≡ js → (let r : Row = record { table = t; items = is; moment = m } in r) ≡ record { table = u; items = js; moment = m }
row_is t u is js m table items = ap (λ (x : List ℕ). let r : Row = record { table = x; items = is; moment = m } in r) table ∙ ap (λ (x : List Item). let r : Row = record { table = u; items = x; moment = m } in r) items

pub row_done : (text table after bytes : List ℕ) (pairs : List Pair) (head : Head) (tags fields : List Item) → row_at text ≡ finished table tags (rest_of fields (moment_in head.when) after) → is_empty (tags ++ fields) ≡ false
    → bytes_in bytes head.table ≡ table → map (item_in bytes) (pairs_in pairs head) ≡ tags ++ fields → row_at text ≡ Some (row_in bytes pairs head, after)
row_done text table after bytes pairs head tags fields goes some name items =
    let one : finished table tags (rest_of fields (moment_in head.when) after) ≡ Some (record { table = table; items = tags ++ fields; moment = moment_in head.when }, after) = rw some refl in
    goes ∙ one ∙ ap (λ (r : Row). let o : Option (Row × List ℕ) = Some (r, after) in o) (sym (row_is (bytes_in bytes head.table) table (map (item_in bytes) (pairs_in pairs head)) (tags ++ fields) (moment_in head.when) name items))

-- what is kept of a row lies within the buffers
pub fits_head : (a b : List ℕ) (p q : List Pair) (is : List Item) (head : Head) → PutsItems a b p q is → SpanFits (length b) head.table → head.first ≡ length p → head.end ≡ length q → HeadFits b q head
fits_head a b p q is head puts table begin finish =
    let size : length q ≡ length p + length puts.more = ap length puts.pushed ∙ length-append p puts.more in
    record {
      table = table;
      order = omega (arith, size, begin, finish);
      within = omega (arith, finish);
      each = let P : List Pair → Type 0 = AllByRecursion (PairFits (length b)) in subst P (sym (pairs_are p q puts.more head.first head.end puts.pushed begin finish)) puts.fit;
    }

pub items_put : (a b : List ℕ) (p q : List Pair) (is : List Item) (head : Head) → PutsItems a b p q is → head.first ≡ length p → head.end ≡ length q → map (item_in b) (pairs_in q head) ≡ is
items_put a b p q is head puts begin finish = ap (map (item_in b)) (pairs_are p q puts.more head.first head.end puts.pushed begin finish) ∙ puts.are
