-- What one more tag or field changes in a draft of a line.
use Rattle.std.proofs.Common.{◌≡◌, ℕ, zero, suc, ◌+◌, ◌<◌, ◌≤◌, ◌||◌, ◌&&◌, inl, inr, Bool, true, false, not, cond, eqb, List, [], ◌∷◌, ◌++◌, Option, Some, None, length, map, get_or, set, take, refl, sym, ap, ap₂, ◌∙◌, arith, slice_get, length-append, subst, true≢false, append_assoc, le_of_suc-le-suc}
use Rattle.std.specs.List.{list_any, IsDistinct, AllByRecursion}
use Rattle.std.specs.Option.{option_or, is_some}
use Rattle.std.proofs.lemmas.Bool.Decides.{eqb_tells}
use Rattle.std.proofs.lemmas.List.{get_or_append_left, get_or_push, get_or-map, map-append, take_more, append-nil, length-map}
use Rattle.std.proofs.lemmas.Map.Keys.{apart_from_distinct}
use Rattle.std.proofs.lemmas.Option.{none-some, get_or_from_slice_get}
use Rattle.qd_base.proofs.Alike.{joins, names_equal, turned}
use Rattle.qd_base.proofs.Lists.{IsDistinct-push, IsDistinct-nil, each-weaker}
use Rattle.std.proofs.lemmas.List.Folds.{list_any-append}
use Rattle.std.proofs.lemmas.List.Sums.{fold-append}
use Rattle.std.proofs.lemmas.List.Elements.{All-push, Contains-push, Contains-append_left}
use Rattle.std.proofs.lemmas.List.Quantifiers.{position-Some}
use Rattle.qd_base.specs.declared.limits.TheConstants.{MAX_COLUMNS}
use Rattle.qd_base.specs.declared.schema.Col.{Col}
use Rattle.qd_base.specs.Names.{IsColumnName}
use Rattle.qd_base.specs.Schemas.{same_name, column_at}
use Rattle.qd_base.proofs.Tables.{find-position}
use Rattle.qd_ilp.specs.Line.{Item}
use Rattle.qd_ilp.specs.Transaction.{name_at, suits, with_items}
use Rattle.qd_lines.specs.declared.draft.Columns.{Columns}
use Rattle.qd_lines.specs.declared.draft.Draft.{Draft}
use Rattle.qd_lines.specs.Drafts.{IsUsable, mark, time_name, clashes_in, column_made, ValuesSeen, NamesSeen, AreTwice, TwiceSeen, Marked, Draws}
use Rattle.qd_lines.proofs.MarkLemmas.{all_at, name_at-there, place_is, others_differ, none_before, none_at, none_from, found_none, marks_met, marks_kept, mark_met}

-- a name more is fair or not
pub named : (items : List Item) (i : Item) (old fair new : Bool) → (fair ≡ true → IsColumnName i.name) → (IsColumnName i.name → fair ≡ true) → new ≡ (old || not fair) → NamesSeen items old → NamesSeen (items ++ i ∷ []) new
named items i true fair new if_fair if_named e h =
    let one = h.one refl in
    record { one = λ _. (one.0, Contains-append_left items (i ∷ []) one.0 one.1, one.2); none = λ f. absurd (true≢false (sym e ∙ f)) }
named items i false false new if_fair if_named e h =
    record { one = λ _. (i, Contains-push items i, λ is. true≢false (sym (if_named is))); none = λ f. absurd (true≢false (sym e ∙ f)) }
named items i false true new if_fair if_named e h =
    record { one = λ t. absurd (true≢false (sym t ∙ e)); none = λ _. All-push (λ (x : Item). IsColumnName x.name) items i (h.none refl) (if_fair refl) }

-- whether a value clashes with its column, by the place of that
module _ (cols : List Col) (time : ℕ) (u : IsUsable cols time) (i : Item) where
  pub named_at : (added : List Col) (p : ℕ) (d : Col) → column_at (cols ++ added) i.name ≡ Some p → p < length cols → same_name (get_or cols p d).name i.name ≡ true
  named_at added p d e lt =
      let h = position-Some (λ (c : Col). same_name c.name i.name) (cols ++ added) p d e in
      ap (λ (c : Col). same_name c.name i.name) (sym (get_or_append_left cols added d p lt)) ∙ h.1

  -- an item names the designated column exactly where its place is that
  pub times_name : (p : ℕ) (d : Col) → p < length cols → same_name (get_or cols p d).name i.name ≡ true → same_name (name_at cols time) i.name ≡ eqb p time
  times_name p d lt has = rw (name_at-there cols time d u.there) (elim (eqb_tells p time) [
    | inl e ↦ rw e.0 (ap (λ (k : ℕ). same_name (get_or cols k d).name i.name) (sym e.1) ∙ has)
    | inr e ↦ rw e.0 (others_differ cols u.distinct p time d i.name lt u.there e.1 has)
  ])

  pub clash_found : (added : List Col) (p : ℕ) (d : Col) → column_at (cols ++ added) i.name ≡ Some p → p < length cols → clashes_in cols (name_at cols time) i ≡ (not (eqb p time) && not (suits (get_or cols p d).kind i.value))
  clash_found added p d e lt =
      let has = named_at added p d e lt in
      let at = find-position (λ (c : Col). same_name c.name i.name) cols p d (place_is cols u.distinct p d i.name lt has) in
      rw (times_name p d lt has, at) refl

  clash_missing : (added : List Col) (o : Option ℕ) → column_at (cols ++ added) i.name ≡ o → ((p : ℕ) → o ≡ Some p → length cols ≤ p) → clashes_in cols (name_at cols time) i ≡ false
  clash_missing added o e far = rw (found_none (λ (c : Col). same_name c.name i.name) cols (none_before (λ (c : Col). same_name c.name i.name) cols added o e far)) (no (not (same_name (name_at cols time) i.name)))
    where
      no : (b : Bool) → (b && false) ≡ false
      no true = refl
      no false = refl

  pub clash_behind : (added : List Col) (p : ℕ) → column_at (cols ++ added) i.name ≡ Some p → length cols ≤ p → clashes_in cols (name_at cols time) i ≡ false
  clash_behind added p e far = clash_missing added (Some p) e (λ q same. let is : p ≡ q = cc in omega arith)

  pub clash_nowhere : (added : List Col) → column_at (cols ++ added) i.name ≡ None → clashes_in cols (name_at cols time) i ≡ false
  clash_nowhere added e = clash_missing added None e (λ q same. absurd (none-some q same))

pub eqb_apart : (a b : ℕ) → (a ≡ b → ⊥) → eqb a b ≡ false
eqb_apart a b ne = elim (eqb_tells a b) [
  | inl e ↦ absurd (ne e.1)
  | inr e ↦ e.0
]

pub eqb_same : (a b : ℕ) → a ≡ b → eqb a b ≡ true
eqb_same a b e = elim (eqb_tells a b) [
  | inl f ↦ f.0
  | inr f ↦ absurd (f.1 e)
]

-- lists
list_any_at : {X : Type 0} (p : X → Bool) (xs : List X) (k : ℕ) (d : X) → k < length xs → p (get_or xs k d) ≡ true → list_any p xs ≡ true
list_any_at p [] k d lt h = absurd (omega arith)
list_any_at p (x ∷ xs) zero d lt h = rw h refl
list_any_at p (x ∷ xs) (suc k) d lt h = rw (list_any_at p xs k d (le_of_suc-le-suc lt) h) (or_true (p x))
  where
    or_true : (b : Bool) → (b || true) ≡ true
    or_true true = refl
    or_true false = refl

list_any_false : {X : Type 0} (p : X → Bool) (xs : List X) → AllByRecursion (λ x. p x ≡ false) xs → list_any p xs ≡ false
list_any_false p [] h = refl
list_any_false p (x ∷ xs) h = rw h.0 (list_any_false p xs h.1)

or_left : (a b : Bool) → a ≡ true → (a || b) ≡ true
or_left a b e = rw e refl

or_right : (a b : Bool) → b ≡ true → (a || b) ≡ true
or_right true b e = refl
or_right false b e = e

neither : (a b : Bool) → (a || b) ≡ false → (a ≡ false) × (b ≡ false)
neither true b e = absurd (true≢false e)
neither false b e = (refl, e)

each_more : {X : Type 0} (P Q : X → Type 0) → ((x : X) → P x → Q x) → (xs : List X) (y : X) → AllByRecursion P xs → Q y → AllByRecursion Q (xs ++ y ∷ [])
each_more P Q f [] y h k = (k, tt)
each_more P Q f (x ∷ xs) y h k = (f x h.0, each_more P Q f xs y h.1 k)

distinct_prefix : {X : Type 0} (e : X → X → Bool) (xs ys : List X) → IsDistinct e (xs ++ ys) → IsDistinct e xs
unfolding IsDistinct
distinct_prefix e [] ys h = tt
distinct_prefix e (x ∷ xs) ys h = (part xs h.0, distinct_prefix e xs ys h.1)
  where
    part : (us : List _) → AllByRecursion (λ y. e x y ≡ false) (us ++ ys) → AllByRecursion (λ y. e x y ≡ false) us
    part [] k = tt
    part (u ∷ us) k = (k.0, part us k.1)

-- the columns after one more item
with_items_push : (cols : List Col) (items : List Item) (i : Item) → with_items cols (items ++ i ∷ []) ≡ cond (is_some (column_at (with_items cols items) i.name)) (with_items cols items) (with_items cols items ++ column_made i ∷ [])
with_items_push cols items i = fold-append (λ (cs : List Col) (x : Item). cond (is_some (column_at cs x.name)) cs (cs ++ column_made x ∷ [])) cols items (i ∷ [])

-- there are no fewer columns after one more item
pub with_items_grow : (cols : List Col) (items : List Item) (i : Item) → length (with_items cols items) ≤ length (with_items cols (items ++ i ∷ []))
with_items_grow cols items i = rw (with_items_push cols items i) (go (is_some (column_at (with_items cols items) i.name)))
  where
    go : (b : Bool) → length (with_items cols items) ≤ length (cond b (with_items cols items) (with_items cols items ++ column_made i ∷ []))
    go true = omega arith
    go false = omega (arith, length-append (with_items cols items) (column_made i ∷ []))

same_item : Item → Item → Bool
same_item a b = same_name a.name b.name

-- who is twice stays so
still_twice : (time : List ℕ) (items : List Item) (i : Item) → AreTwice time items → AreTwice time (items ++ i ∷ [])
still_twice time items i h = elim h [
  | inl f ↦ inl (λ d. f (distinct_prefix (λ (a : Item) (b : Item). same_name a.name b.name) items (i ∷ []) d))
  | inr e ↦ inr (list_any-append (λ (x : Item). same_name time x.name) items (i ∷ []) ∙ or_left _ _ e)
]

module _ (cols : List Col) (time : ℕ) (u : IsUsable cols time) (items : List Item) (i : Item) (added : List Col) (marks : List (Option ℕ)) (twice : Bool) (m : Marked cols (name_at cols time) items added marks twice) where
  abbrev pub time_is : List ℕ
  time_is = name_at cols time

  abbrev pub every : List Col
  every = cols ++ added

  every_usable : IsUsable every time
  every_usable = record { distinct = m.distinct; there = let h : time < length cols = u.there in omega (arith, length-append cols added) }

  same_time : (d : Col) → name_at every time ≡ name_at cols time
  same_time d = name_at-there every time d every_usable.there ∙ ap (λ (c : Col). c.name) (get_or_append_left cols added d time u.there) ∙ sym (name_at-there cols time d u.there)

  -- an item names the designated column exactly where its place is that
  time_by_place : (p : ℕ) (d : Col) → p < length every → same_name (get_or every p d).name i.name ≡ true → same_name time_is i.name ≡ eqb p time
  time_by_place p d lt has = ap (λ (t : List ℕ). same_name t i.name) (sym (same_time d)) ∙ times_name every time every_usable i p d lt has

  pub met : (p : ℕ) → column_at every i.name ≡ Some p → (marks' : List (Option ℕ)) (twice' : Bool) → marks' ≡ set marks p (option_or (get_or marks p None) (Some (length items))) → twice' ≡ (twice || (is_some (get_or marks p None) || eqb p time)) → Marked cols time_is (items ++ i ∷ []) added marks' twice'
  met p e marks' twice' is_marks is_twice =
      let d = column_made i in
      let h = position-Some (λ (c : Col). same_name c.name i.name) every p d e in
      let x = get_or every p d in
      let has : same_name x.name i.name ≡ true = h.1 in
      let marked : get_or marks p None ≡ mark items x = ap (λ (ms : List (Option ℕ)). get_or ms p None) m.marks_are ∙ get_or-map (mark items) every p d None h.0 in
      let at_time = time_by_place p d h.0 has in
      record {
        cols_after = m.cols_after ∙ sym (with_items_push cols items i ∙ rw (sym m.cols_after, e) refl);
        distinct = m.distinct;
        marks_are = is_marks ∙ ap₂ (λ (ms : List (Option ℕ)) (o : Option ℕ). set ms p (option_or o (Some (length items)))) m.marks_are marked ∙ sym (marks_met items i every p d m.distinct h.0 has);
        covers = each_more (λ (y : Item). list_any (λ (c : Col). same_name c.name y.name) every ≡ true) (λ (y : Item). list_any (λ (c : Col). same_name c.name y.name) every ≡ true) (λ y k. k) items i m.covers (list_any_at (λ (c : Col). same_name c.name i.name) every p d h.0 has);
        names_twice = twice_met x has (get_or marks p None) (eqb p time) twice twice' is_twice marked at_time m.names_twice;
      }
    where
      twice_met : (x : Col) → same_name x.name i.name ≡ true → (o : Option ℕ) (at : Bool) (before now : Bool) → now ≡ (before || (is_some o || at)) → o ≡ mark items x → same_name time_is i.name ≡ at → TwiceSeen time_is items before → TwiceSeen time_is (items ++ i ∷ []) now
      twice_met x has o at true now is marked at_time t = record { some = λ _. still_twice time_is items i (t.some refl); none = λ f. absurd (true≢false (sym is ∙ f)) }
      twice_met x has (Some j) at false now is marked at_time t =
          let h = position-Some (λ (y : Item). same_name x.name y.name) items j i (sym marked) in
          let one : same_name (get_or items j i).name i.name ≡ true = joins x.name (get_or items j i).name i.name true h.1 has in
          record {
            some = λ _. inl (λ d. let apart = apart_from_distinct (λ (a : Item) (b : Item). same_name a.name b.name) (items ++ i ∷ []) j (length items) i d h.0 (omega (arith, length-append items (i ∷ []))) in
                true≢false (sym one ∙ ap₂ (λ (a b : Item). same_name a.name b.name) (sym (get_or_append_left items (i ∷ []) i j h.0)) (sym (get_or_push items i i (length items) refl)) ∙ apart));
            none = λ f. absurd (true≢false (sym is ∙ f));
          }
      twice_met x has None true false now is marked at_time t = record { some = λ _. inr (list_any-append (λ (y : Item). same_name time_is y.name) items (i ∷ []) ∙ or_right _ _ (or_left _ _ at_time)); none = λ f. absurd (true≢false (sym is ∙ f)) }
      twice_met x has None false false now is marked at_time t =
          let free = none_at (λ (y : Item). same_name x.name y.name) items (sym marked) in
          let before = t.none refl in
          record {
            some = λ e. absurd (true≢false (sym e ∙ is));
            none = λ _. (
              IsDistinct-push (λ (a : Item) (b : Item). same_name a.name b.name) items i before.0 (each-weaker (λ (y : Item). same_name x.name y.name ≡ false) (λ (y : Item). same_name y.name i.name ≡ false) (λ y f. turned i.name y.name false (joins x.name i.name y.name false has f)) items free),
              list_any-append (λ (y : Item). same_name time_is y.name) items (i ∷ []) ∙ rw (before.1, at_time) refl,
            );
          }

  -- an item that names no column shares its name with no item
  pub new_name : column_at every i.name ≡ None → AllByRecursion (λ (x : Item). same_name x.name i.name ≡ false) items
  new_name e = go items m.covers
    where
      free : AllByRecursion (λ (c : Col). same_name c.name i.name ≡ false) every
      free = none_at (λ (c : Col). same_name c.name i.name) every e

      one : (x : Item) (b : Bool) → same_name x.name i.name ≡ b → list_any (λ (c : Col). same_name c.name x.name) every ≡ true → b ≡ false
      one x false is any = refl
      one x true is any =
          let none = list_any_false (λ (c : Col). same_name c.name x.name) every (each-weaker (λ (c : Col). same_name c.name i.name ≡ false) (λ (c : Col). same_name c.name x.name ≡ false) (λ c f. turned x.name c.name false (joins i.name x.name c.name false (turned x.name i.name true is) (turned c.name i.name false f))) every free) in
          absurd (true≢false (sym any ∙ none))

      go : (xs : List Item) → AllByRecursion (λ (x : Item). list_any (λ (c : Col). same_name c.name x.name) every ≡ true) xs → AllByRecursion (λ (x : Item). same_name x.name i.name ≡ false) xs
      go [] h = tt
      go (x ∷ xs) h = (one x (same_name x.name i.name) refl h.0, go xs h.1)

  pub made : column_at every i.name ≡ None → (added' : List Col) (marks' : List (Option ℕ)) → added' ≡ added ++ column_made i ∷ [] → marks' ≡ marks ++ Some (length items) ∷ [] → Marked cols time_is (items ++ i ∷ []) added' marks' twice
  made e added' marks' is_added is_marks =
      let new = column_made i in
      let more : cols ++ added' ≡ every ++ new ∷ [] = ap (λ (cs : List Col). cols ++ cs) is_added ∙ sym (append_assoc cols added (new ∷ [])) in
      let free = none_at (λ (c : Col). same_name c.name i.name) every e in
      let others = new_name e in
      let unmarked : mark items new ≡ None = none_from (λ (y : Item). same_name i.name y.name) items (each-weaker (λ (y : Item). same_name y.name i.name ≡ false) (λ (y : Item). same_name i.name y.name ≡ false) (λ y f. turned y.name i.name false f) items others) in
      let itself : same_name new.name i.name ≡ true = names_equal.refl i.name in
      let last : mark (items ++ i ∷ []) new ≡ Some (length items) = mark_met items i new itself ∙ rw unmarked refl in
      let d : Col = new in
      let time_free : same_name time_is i.name ≡ false = ap (λ (t : List ℕ). same_name t i.name) (name_at-there cols time d u.there ∙ ap (λ (c : Col). c.name) (sym (get_or_append_left cols added d time u.there))) ∙ all_at (λ (c : Col). same_name c.name i.name ≡ false) every time d free every_usable.there in
      record {
        cols_after = more ∙ ap (λ (cs : List Col). cs ++ new ∷ []) m.cols_after ∙ sym (with_items_push cols items i ∙ rw (sym m.cols_after, e) refl);
        distinct = subst (λ (cs : List Col). IsDistinct (λ (a : Col) (b : Col). same_name a.name b.name) cs) (sym more) (IsDistinct-push (λ (a : Col) (b : Col). same_name a.name b.name) every new m.distinct free);
        marks_are = is_marks ∙ ap₂ (λ (ms : List (Option ℕ)) (o : Option ℕ). ms ++ o ∷ []) (m.marks_are ∙ sym (marks_kept items i every free)) (sym last) ∙ sym (map-append (mark (items ++ i ∷ [])) every (new ∷ [])) ∙ ap (map (mark (items ++ i ∷ []))) (sym more);
        covers = subst (λ (cs : List Col). AllByRecursion (λ (x : Item). list_any (λ (c : Col). same_name c.name x.name) cs ≡ true) (items ++ i ∷ [])) (sym more)
            (each_more (λ (x : Item). list_any (λ (c : Col). same_name c.name x.name) every ≡ true) (λ (x : Item). list_any (λ (c : Col). same_name c.name x.name) (every ++ new ∷ []) ≡ true)
            (λ x k. list_any-append (λ (c : Col). same_name c.name x.name) every (new ∷ []) ∙ or_left _ _ k) items i m.covers (list_any-append (λ (c : Col). same_name c.name i.name) every (new ∷ []) ∙ or_right _ _ (or_left _ _ itself)));
        names_twice = record {
          some = λ t. still_twice time_is items i (m.names_twice.some t);
          none = λ f. let before = m.names_twice.none f in (
            IsDistinct-push (λ (a : Item) (b : Item). same_name a.name b.name) items i before.0 others,
            list_any-append (λ (y : Item). same_name time_is y.name) items (i ∷ []) ∙ rw (before.1, time_free) refl,
          );
        };
      }

-- a draft after one more item
pub stepped : (c : Columns) (items : List Item) (i : Item) (old new : Draft) → Draws c items old
    → ValuesSeen (items ++ i ∷ []) new.faults → NamesSeen (items ++ i ∷ []) new.faults.name
    → new.faults.clash ≡ (old.faults.clash || clashes_in c.cols.now (time_name c) i)
    → length new.marks.items ≡ length c.cols.now + length new.added
    → (length c.cols.now + length new.added ≤ MAX_COLUMNS → Marked c.cols.now (time_name c) (items ++ i ∷ []) new.added new.marks.items new.faults.twice)
    → (MAX_COLUMNS < length c.cols.now + length new.added → MAX_COLUMNS < length (with_items c.cols.now (items ++ i ∷ [])))
    → Draws c (items ++ i ∷ []) new
stepped c items i old new h values names clash sized few many =
    record {
      values = values;
      names = names;
      clashes = clash ∙ ap (λ b. b || clashes_in c.cols.now (time_name c) i) h.clashes ∙ sym (list_any-append (clashes_in c.cols.now (time_name c)) items (i ∷ []) ∙ ap (λ b. list_any (clashes_in c.cols.now (time_name c)) items || b) (or_none (clashes_in c.cols.now (time_name c) i)));
      sized = sized;
      few = few;
      many = many;
    }
  where
    or_none : (b : Bool) → (b || false) ≡ b
    or_none true = refl
    or_none false = refl

-- the items up to the next one
pub one_more : (items : List Item) (at : ℕ) (i : Item) → slice_get items at ≡ Some i → at < length items → take (at + 1) items ≡ take at items ++ i ∷ []
one_more items at i got lt = take_more items at i lt ∙ ap (λ (x : Item). take at items ++ x ∷ []) (get_or_from_slice_get items at i i got)

-- a draft before the first item
pub begun : (c : Columns) (d : Draft) → IsUsable c.cols.now c.time → d.added ≡ [] → d.marks.items ≡ map (mark []) c.cols.now → ValuesSeen [] d.faults → NamesSeen [] d.faults.name → d.faults.clash ≡ false → d.faults.twice ≡ false → Draws c [] d
begun c d u none marks values names clash twice =
    let same : c.cols.now ++ d.added ≡ c.cols.now = ap (λ (cs : List Col). c.cols.now ++ cs) none ∙ append-nil c.cols.now in
    let nothing : length d.added ≡ 0 = ap length none in
    let unmarked : AllByRecursion (λ (i : Item). list_any (λ (x : Col). same_name x.name i.name) (c.cols.now ++ d.added) ≡ true) [] = tt in
    record {
      values = values;
      names = names;
      clashes = clash;
      sized = omega (arith, nothing, ap length marks, length-map c.cols.now (mark []));
      few = λ le. record {
        cols_after = same;
        distinct = subst (λ (cs : List Col). IsDistinct (λ (a : Col) (b : Col). same_name a.name b.name) cs) (sym same) u.distinct;
        marks_are = marks ∙ ap (map (mark [])) (sym same);
        covers = unmarked;
        names_twice = record { some = λ t. absurd (true≢false (sym t ∙ twice)); none = λ f. (IsDistinct-nil (λ (a : Item) (b : Item). same_name a.name b.name), refl) };
      };
      many = λ lt. omega (arith, lt, nothing);
    }
