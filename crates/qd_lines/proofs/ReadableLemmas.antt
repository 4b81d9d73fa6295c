-- What the lines of a text of bytes can have: texts of bytes, LONGs of 64 bits, and timestamps.
use Rattle.std.proofs.Common.{◌≡◌, ℕ, zero, suc, ◌/◌, ◌<◌, ◌≤◌, ◌<ℤ◌, ◌≤ℤ◌, pos, neg_ℤ, inl, inr, ◌&&◌, Bool, true, false, not, cond, leb, List, [], ◌∷◌, ◌++◌, Option, Some, None, All, refl, sym, subst, arith}
use Rattle.std.specs.Prelude.{◌==◌}
use Rattle.std.specs.List.{AllByRecursion}
use Rattle.std.proofs.lemmas.Bool.{leb-true}
use Rattle.std.proofs.lemmas.Int.{ints}
use Rattle.std.proofs.lemmas.List.Elements.{All-from_recursion, recursion_from_All}
use Rattle.qd_base.specs.declared.limits.TheConstants.{MAX_LONG, MAX_TIME, NULL_LONG}
use Rattle.qd_base.proofs.Lists.{each-append}
use Rattle.qd_ilp.specs.Cut.{begins}
use Rattle.qd_ilp.specs.Value.{Value, Long, Huge, Truth, Other, Moment, At, Outside, bare, is_true, is_false, is_long, long_digits, long_of, moment_of, number_of, stamp, unsigned}
use Rattle.qd_ilp.specs.Line.{Item, Row, Line, Blank, Gives}
use Rattle.qd_ilp.specs.Grammar.{EndsLine, Fields, HasValue, IsItem, IsLine, IsRow, Comment, Items, Name, NameByte, Parted, Quoted, QuotedByte, Spaced, Tail, Word, spaces}
use Rattle.qd_ilp.specs.Whole.{BeginsWith, IsReading, Reading}
use Rattle.qd_lines.specs.Laws.{IsReadable, IsStamped, IsRowReadable, IsLineReadable}

abbrev pub AreBytes : List ℕ → Type 0
AreBytes text = AllByRecursion (λ b. b < 256) text

-- ---- numbers and stamps

long-fits : (negative : Bool) (n : ℕ) → n ≤ 9223372036854775807 → (NULL_LONG <ℤ cond negative (neg_ℤ (pos n)) (pos n)) × (cond negative (neg_ℤ (pos n)) (pos n) ≤ℤ MAX_LONG)
long-fits true zero h = (omega (arith, ints), omega (arith, ints))
long-fits true (suc n) h = (omega (arith, ints), omega (arith, ints))
long-fits false n h = (omega (arith, ints), omega (arith, ints))

long-readable : (negative : Bool) (n : ℕ) → IsReadable (long_of negative n)
long-readable negative n = go (leb n 9223372036854775807) refl
  where
    go : (b : Bool) → leb n 9223372036854775807 ≡ b → IsReadable (cond b (Long (cond negative (neg_ℤ (pos n)) (pos n))) Huge)
    go true e = long-fits negative n (leb-true n 9223372036854775807 e)
    go false e = tt

bare-readable : (w : List ℕ) → IsReadable (bare w)
unfolding bare
bare-readable w = go (is_true w) (is_false w) (is_long w)
  where
    go : (a b c : Bool) → IsReadable (cond a (Truth true) (cond b (Truth false) (cond c (long_of (begins 45 w) (number_of (long_digits w))) Other)))
    go true b c = tt
    go false true c = tt
    go false false true = long-readable (begins 45 w) (number_of (long_digits w))
    go false false false = tt

moment-stamped : (negative : Bool) (nanos : ℕ) → IsStamped (Some (moment_of negative nanos))
moment-stamped negative nanos = go (negative && not (nanos == 0)) (leb (nanos / 1000) MAX_TIME) refl
  where
    go : (a b : Bool) → leb (nanos / 1000) MAX_TIME ≡ b → IsStamped (Some (cond a Outside (cond b (At (nanos / 1000)) Outside)))
    go true b e = tt
    go false true e = leb-true (nanos / 1000) MAX_TIME e
    go false false e = tt

stamp-stamped : (w : List ℕ) → IsStamped (Some (stamp w))
unfolding stamp
stamp-stamped w = moment-stamped (begins 45 w) (number_of (unsigned w))

-- ---- parts of a text of bytes

-- the text is that of the second list, with bytes before it
rest-bytes : (front text rest : List ℕ) → text ≡ front ++ rest → AreBytes text → AreBytes rest
rest-bytes front text rest e h = behind front (subst AreBytes e h)
  where
    behind : (bs : List ℕ) → AreBytes (bs ++ rest) → AreBytes rest
    behind [] k = k
    behind (b ∷ bs) k = behind bs k.1

one-byte : (text more : List ℕ) (b : ℕ) → text ≡ b ∷ more → AreBytes text → (b < 256) × AreBytes more
one-byte text more b e h = subst AreBytes e h

name-byte : (text more : List ℕ) (b : ℕ) → NameByte text b more → AreBytes text → (b < 256) × AreBytes more
name-byte text more b (inl k) h = let two = one-byte text (b ∷ more) 92 k.0 h in two.1
name-byte text more b (inr k) h = one-byte text more b k.0 h

quoted-byte : (text more : List ℕ) (b : ℕ) → QuotedByte text b more → AreBytes text → (b < 256) × AreBytes more
quoted-byte text more b (inl k) h = let two = one-byte text (b ∷ more) 92 k.0 h in two.1
quoted-byte text more b (inr k) h = one-byte text more b k.0 h

name-bytes : (text name rest : List ℕ) → Name text name rest → AreBytes text → AreBytes name × AreBytes rest
name-bytes text [] rest k h = (tt, subst AreBytes k.0 h)
name-bytes text (b ∷ bs) rest k h =
    let one = name-byte text k.0 b k.1 h in
    let again = name-bytes k.0 bs rest k.2 one.1 in
    ((one.0, again.0), again.1)

quoted-bytes : (text quoted rest : List ℕ) → Quoted text quoted rest → AreBytes text → AreBytes quoted × AreBytes rest
quoted-bytes text [] rest k h = (tt, (one-byte text rest 34 k h).1)
quoted-bytes text (b ∷ bs) rest k h =
    let one = quoted-byte text k.0 b k.1 h in
    let again = quoted-bytes k.0 bs rest k.2 one.1 in
    ((one.0, again.0), again.1)

word-bytes : (text word rest : List ℕ) → Word text word rest → AreBytes text → AreBytes rest
word-bytes text [] rest k h = subst AreBytes k.0 h
word-bytes text (b ∷ bs) rest k h = word-bytes k.0 bs rest k.3 (one-byte text k.0 b k.1 h).1

value-bytes : (tag : Bool) (text : List ℕ) (v : Value) (rest : List ℕ) → HasValue tag text v rest → AreBytes text → IsReadable v × AreBytes rest
value-bytes true text v rest k h =
    let name = name-bytes text k.0 rest k.2 h in
    (subst IsReadable (sym k.1) (All-from_recursion (λ b. b < 256) k.0 name.0), name.1)
value-bytes false text v rest (inl k) h =
    let quoted = quoted-bytes k.1 k.0 rest k.4 (one-byte text k.1 34 k.3 h).1 in
    (subst IsReadable (sym k.2) (All-from_recursion (λ b. b < 256) k.0 quoted.0), quoted.1)
value-bytes false text v rest (inr k) h = (subst IsReadable (sym k.1) (bare-readable k.0), word-bytes text k.0 rest k.2 h)

abbrev AreItems : List Item → Type 0
AreItems items = AllByRecursion (λ (i : Item). IsReadable i.value) items

item-bytes : (tag : Bool) (text : List ℕ) (item : Item) (rest : List ℕ) → IsItem tag text item rest → AreBytes text → IsReadable item.value × AreBytes rest
item-bytes tag text item rest k h =
    let named = name-bytes text item.name (61 ∷ k.0) k.1 h in
    value-bytes tag k.0 item.value rest k.3 named.1.1

items-bytes : (tag : Bool) (text : List ℕ) (items : List Item) (rest : List ℕ) → Items tag text items rest → AreBytes text → AreItems items × AreBytes rest
items-bytes tag text [] rest k h = (tt, subst AreBytes k.0 h)
items-bytes tag text (i ∷ is) rest k h =
    let one = item-bytes tag k.0 i k.1 k.3 (one-byte text k.0 44 k.2 h).1 in
    let again = items-bytes tag k.1 is rest k.4 one.1 in
    ((one.0, again.0), again.1)

parted-bytes : (tag : Bool) (text : List ℕ) (items : List Item) (rest : List ℕ) → Parted tag text items rest → AreBytes text → AreItems items × AreBytes rest
parted-bytes tag text [] rest k h = absurd k
parted-bytes tag text (i ∷ is) rest k h =
    let one = item-bytes tag text i k.0 k.1 h in
    let again = items-bytes tag k.0 is rest k.2 one.1 in
    ((one.0, again.0), again.1)

spaced-bytes : (text rest : List ℕ) → Spaced text rest → AreBytes text → AreBytes rest
spaced-bytes text rest k h = rest-bytes (spaces k.0) text rest k.1 h

ended-bytes : (text rest : List ℕ) → EndsLine text rest → AreBytes text → AreBytes rest
ended-bytes text rest (inl k) h = subst AreBytes (sym k.1) tt
ended-bytes text rest (inr (inl k)) h = (one-byte text rest 10 k h).1
ended-bytes text rest (inr (inr k)) h = rest-bytes (13 ∷ 10 ∷ []) text rest k h

tail-bytes : (text : List ℕ) (moment : Option Moment) (rest : List ℕ) → Tail text moment rest → AreBytes text → IsStamped moment × AreBytes rest
tail-bytes text None rest k h = (tt, ended-bytes k.0 rest k.2 (spaced-bytes text k.0 k.1 h))
tail-bytes text (Some m) rest k h =
    let word = word-bytes k.0 k.1 k.2 k.6 (spaced-bytes text k.0 k.5 h) in
    (subst (λ (x : Moment). IsStamped (Some x)) (sym k.8) (stamp-stamped k.1), ended-bytes k.3 rest k.10 (spaced-bytes k.2 k.3 k.9 word))

fields-bytes : (text : List ℕ) (fields : List Item) (moment : Option Moment) (rest : List ℕ) → Fields text fields moment rest → AreBytes text → AreItems fields × IsStamped moment × AreBytes rest
fields-bytes text [] moment rest k h = let t = tail-bytes text moment rest k h in (tt, t.0, t.1)
fields-bytes text (i ∷ is) moment rest k h =
    let parted = parted-bytes false k.0 (i ∷ is) k.1 k.4 (spaced-bytes text k.0 k.3 h) in
    let t = tail-bytes k.1 moment rest k.5 parted.1 in
    (parted.0, t.0, t.1)

row-bytes : (text : List ℕ) (row : Row) (rest : List ℕ) → IsRow text row rest → AreBytes text → IsRowReadable row × AreBytes rest
row-bytes text row rest k h =
    let named = name-bytes text row.table k.2 k.4 h in
    let tags = items-bytes true k.2 k.0 k.3 k.6 named.1 in
    let fields = fields-bytes k.3 k.1 row.moment rest k.7 tags.1 in
    (record { values = subst AreItems (sym k.8) (each-append (λ (i : Item). IsReadable i.value) k.0 k.1 tags.0 fields.0); moment = fields.1 }, fields.2)

comment-bytes : (text comment rest : List ℕ) → Comment text comment rest → AreBytes text → AreBytes rest
comment-bytes text [] rest k h = subst AreBytes k.0 h
comment-bytes text (b ∷ bs) rest k h = comment-bytes k.0 bs rest k.3 (one-byte text k.0 b k.1 h).1

line-bytes : (text : List ℕ) (line : Line) (rest : List ℕ) → IsLine text line rest → AreBytes text → IsLineReadable line × AreBytes rest
line-bytes text Blank rest (inl k) h = (tt, ended-bytes k.0 rest k.2 (spaced-bytes text k.0 k.1 h))
line-bytes text Blank rest (inr k) h = (tt, ended-bytes k.1 rest k.4 (comment-bytes text k.0 k.1 k.3 h))
line-bytes text (Gives row) rest k h = row-bytes text row rest k.1 h

lines-readable : (text : List ℕ) (lines : List Line) (rest : List ℕ) → BeginsWith text lines rest → AreBytes text → AllByRecursion IsLineReadable lines
lines-readable text [] rest k h = tt
lines-readable text (line ∷ lines) rest k h =
    let one = line-bytes text line k.1 k.2.0 h in
    (one.0, lines-readable k.1 lines rest k.3 one.1)

-- the lines of a text of bytes
pub reading-readable : (text : List ℕ) (reading : Reading) → All (λ b. b < 256) text → IsReading text reading → AllByRecursion IsLineReadable reading.lines
reading-readable text reading h k = lines-readable text reading.lines k.0 k.1 (recursion_from_All (λ b. b < 256) text h)
