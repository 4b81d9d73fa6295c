-- What a batch keeps stays what it is while its buffer grows.
use Rattle.std.proofs.Common.{◌≡◌, ◌≢◌, ℕ, ◌+◌, ◌-◌, ◌≤◌, true, false, List, [], ◌∷◌, ◌++◌, length, length-append, length-drop, take, drop, refl, sym, ap, ◌∙◌, append_assoc, map, arith}
use Rattle.std.proofs.lemmas.List.{append-nil, length-take-le, take-append-le, drop-append-le, drop_at, map-append, take_all}
use Rattle.std.specs.List.{AllByRecursion}
use Rattle.qd_ilp.specs.declared.value.Span.{Span}
use Rattle.qd_ilp.specs.declared.value.Kept.{Kept}
use Rattle.qd_ilp.specs.declared.value.Kept.TheVariants as kept
use Rattle.qd_ilp.specs.declared.item.Pair.{Pair}
use Rattle.qd_ilp.specs.Value.{Value, Tag, Text, is_empty}
use Rattle.qd_ilp.specs.Line.{Item}
use Rattle.qd_ilp.specs.Kept.{bytes_in, SpanFits, value_in, ValueFits, Puts, item_in, PairFits, PutsItems}
use Rattle.qd_ilp.specs.Cut.{Grows}
use Rattle.qd_ilp.proofs.Growing.{grows_twice}

-- a text that was put at the end
pub put_behind : (before now text : List ℕ) (span : Span) → now ≡ before ++ text → span.start ≡ length before → span.end ≡ length now → Puts before now span text
put_behind before now text span whole start finish =
    let size : length now ≡ length before + length text = ap length whole ∙ length-append before text in
    let begin : drop span.start now ≡ text = ap (λ (n : ℕ). drop n now) start ∙ ap (drop (length before)) whole ∙ drop_at before text (length before) refl in
    let count : span.end - span.start ≡ length text = omega (arith, size, start, finish) in
    record {
      grows = record { more = text; whole = whole };
      is = ap (λ (n : ℕ). take n (drop span.start now)) count ∙ ap (take (length text)) begin ∙ take_all (length text) text (omega arith);
      fits = (omega (arith, size, start, finish), omega (arith, finish));
    }

pub puts_in : (before now text : List ℕ) (span : Span) → Puts before now span text → bytes_in now span ≡ text
puts_in before now text span puts = puts.is

pub puts_fits : (before now text : List ℕ) (span : Span) → Puts before now span text → SpanFits (length now) span
puts_fits before now text span puts = puts.fits

pub puts_grows : (before now text : List ℕ) (span : Span) → Puts before now span text → Grows before now
puts_grows before now text span puts = puts.grows

span_size : (now : List ℕ) (span : Span) → SpanFits (length now) span → length (bytes_in now span) ≡ span.end - span.start
span_size now span fits = length-take-le (span.end - span.start) (drop span.start now) (omega (arith, length-drop span.start now, fits))

pub empty_span : (before now text : List ℕ) (span : Span) → Puts before now span text → (span.start ≡ span.end → is_empty text ≡ true) × (span.start ≢ span.end → is_empty text ≡ false)
empty_span before now [] span puts =
    let size : 0 ≡ span.end - span.start = ap length (sym puts.is) ∙ span_size now span puts.fits in
    ((λ _. refl), λ differ. absurd (differ (omega (arith, size, puts.fits))))
empty_span before now (x ∷ xs) span puts =
    let size : length (x ∷ xs) ≡ span.end - span.start = ap length (sym puts.is) ∙ span_size now span puts.fits in
    ((λ same. absurd (omega (arith, size, same))), λ _. refl)

pub grow_span : (before now : List ℕ) (span : Span) → Grows before now → SpanFits (length before) span → (bytes_in now span ≡ bytes_in before span) × SpanFits (length now) span
grow_span before now span grows fits =
    let size : length now ≡ length before + length grows.more = ap length grows.whole ∙ length-append before grows.more in
    let back : drop span.start now ≡ drop span.start before ++ grows.more = ap (drop span.start) grows.whole ∙ drop-append-le span.start before grows.more (omega (arith, fits)) in
    let within : span.end - span.start ≤ length (drop span.start before) = omega (arith, length-drop span.start before, fits) in
    (ap (take (span.end - span.start)) back ∙ take-append-le (span.end - span.start) (drop span.start before) grows.more within, (fits.0, omega (arith, size, fits.1)))

pub grow_value : (before now : List ℕ) (value : Kept) → Grows before now → ValueFits (length before) value → (value_in now value ≡ value_in before value) × ValueFits (length now) value
grow_value before now (kept.Tag span) grows fits = let h = grow_span before now span grows fits in (ap Tag h.0, h.1)
grow_value before now (kept.Text span) grows fits = let h = grow_span before now span grows fits in (ap Text h.0, h.1)
grow_value before now (kept.Long n) grows fits = (refl, tt)
grow_value before now kept.Huge grows fits = (refl, tt)
grow_value before now (kept.Truth b) grows fits = (refl, tt)
grow_value before now kept.Other grows fits = (refl, tt)

item_is : (a b : List ℕ) (v w : Value) → a ≡ b → v ≡ w → (let i : Item = record { name = a; value = v } in i) ≡ record { name = b; value = w }
item_is a b v w name value = ap (λ (n : List ℕ). let i : Item = record { name = n; value = v } in i) name ∙ ap (λ (x : Value). let i : Item = record { name = b; value = x } in i) value

pub grow_pair : (before now : List ℕ) (pair : Pair) → Grows before now → PairFits (length before) pair → (item_in now pair ≡ item_in before pair) × PairFits (length now) pair
grow_pair before now pair grows fits =
    let name = grow_span before now pair.name grows fits.0 in
    let value = grow_value before now pair.value grows fits.1 in
    (item_is (bytes_in now pair.name) (bytes_in before pair.name) (value_in now pair.value) (value_in before pair.value) name.0 value.0, (name.1, value.1))

items_are : (i j : Item) (is js : List Item) → i ≡ j → is ≡ js → i ∷ is ≡ j ∷ js
items_are i j is js head tail = ap (λ (x : Item). x ∷ is) head ∙ ap (λ (l : List Item). j ∷ l) tail

pub grow_pairs : (before now : List ℕ) (pairs : List Pair) → Grows before now → AllByRecursion (PairFits (length before)) pairs → (map (item_in now) pairs ≡ map (item_in before) pairs) × AllByRecursion (PairFits (length now)) pairs
grow_pairs before now [] grows fits = (refl, tt)
grow_pairs before now (p ∷ ps) grows fits =
    let head = grow_pair before now p grows fits.0 in
    let tail = grow_pairs before now ps grows fits.1 in
    (items_are (item_in now p) (item_in before p) (map (item_in now) ps) (map (item_in before) ps) head.0 tail.0, (head.1, tail.1))

pub each_append : {T : Type 0} (P : T → Type 0) (xs ys : List T) → AllByRecursion P xs → AllByRecursion P ys → AllByRecursion P (xs ++ ys)
each_append P [] ys all more = more
each_append P (x ∷ xs) ys all more = (all.0, each_append P xs ys all.1 more)

pub puts_none : (bytes : List ℕ) (pairs : List Pair) → PutsItems bytes bytes pairs pairs []
puts_none bytes pairs = record { grows = record { more = []; whole = sym (append-nil bytes) }; more = []; pushed = sym (append-nil pairs); are = refl; fit = tt }

pub puts_more : (a b c : List ℕ) (p q : List Pair) (is : List Item) (pair : Pair) → PutsItems a b p q is → Grows b c → PairFits (length c) pair → PutsItems a c p (q ++ pair ∷ []) (is ++ item_in c pair ∷ [])
puts_more a b c p q is pair puts grows fits =
    let grown = grow_pairs b c puts.more grows puts.fit in
    record {
      grows = grows_twice a b c puts.grows grows;
      more = puts.more ++ pair ∷ [];
      pushed = ap (λ (l : List Pair). l ++ pair ∷ []) puts.pushed ∙ append_assoc p puts.more (pair ∷ []);
      are = map-append (item_in c) puts.more (pair ∷ []) ∙ ap (λ (l : List Item). l ++ item_in c pair ∷ []) (grown.0 ∙ puts.are);
      fit = each_append (PairFits (length c)) puts.more (pair ∷ []) grown.1 (fits, tt);
    }

pub puts_more_at : (a b c : List ℕ) (p q q' : List Pair) (is : List Item) (pair : Pair) → PutsItems a b p q is → Grows b c → PairFits (length c) pair → q' ≡ q ++ pair ∷ [] → PutsItems a c p q' (is ++ item_in c pair ∷ [])
puts_more_at a b c p q q' is pair puts grows fits pushed =
    let more = puts_more a b c p q is pair puts grows fits in
    record { grows = more.grows; more = more.more; pushed = pushed ∙ more.pushed; are = more.are; fit = more.fit }
