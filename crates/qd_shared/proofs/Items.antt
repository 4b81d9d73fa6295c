-- Items of a history: how they grow, and which transactions are told of them.
use Rattle.std.proofs.Common.{◌≡◌, suc, List, [], ◌∷◌, ◌++◌, length, map, Option, Some, None, IfSome, Result, Ok, Err, refl, sym, ap, ap₂, ◌∙◌, subst, arith, is_some}
use mathlib.Core.List.{IsPrefix}
use Rattle.qd_base.specs.declared.op.Entry.{Entry}
use Rattle.qd_base.specs.declared.part.WalRef.{WalRef}
use Rattle.qd_score_model.proofs.Lists.{prefix_refl}
use Rattle.qd_store_backend.specs.Backs.{IsToldBehind}
use Rattle.qd_shared.specs.declared.item.Fixed.{Fixed}
use Rattle.qd_shared.specs.declared.item.Item.{Item}
use Rattle.qd_shared.specs.Desks.{Desk, entries, entry_in, fixed_of, items_in, items_of, items_with, told, untold}
use Rattle.qd_shared.specs.Commits.{IsCounted}
use Rattle.qd_shared.specs.Passes.{Holds, Pass, history_by, history_of, is_told}

-- as many items as places
pub items_with_count : (places : List WalRef) (h : List Entry) → length (items_with places h) ≡ length places
items_with_count [] h = refl
items_with_count (place ∷ places) [] = ap suc (items_with_count places [])
items_with_count (place ∷ places) (e ∷ h) = ap suc (items_with_count places h)

map_count : (places : List WalRef) → length (map untold places) ≡ length places
map_count [] = refl
map_count (place ∷ places) = ap suc (map_count places)

pub items_count : (places : List WalRef) (history : Option (List Entry)) → length (items_of places history) ≡ length places
items_count places None = map_count places
items_count places (Some h) = items_with_count places h

-- ---- they grow at their end

map_grow : (places more : List WalRef) → map untold places ++ map untold more ≡ map untold (places ++ more)
map_grow [] more = refl
map_grow (place ∷ places) more = ap (λ (l : List Item). untold place ∷ l) (map_grow places more)

with_grow : (places more : List WalRef) (h es : List Entry) → length places ≡ length h → items_with places h ++ items_with more es ≡ items_with (places ++ more) (h ++ es)
with_grow [] more [] es same = refl
with_grow [] more (e ∷ h) es same = absurd (omega (arith, same))
with_grow (place ∷ places) more [] es same = absurd (omega (arith, same))
with_grow (place ∷ places) more (e ∷ h) es same = ap (λ (l : List Item). told place e ∷ l) (with_grow places more h es (omega (arith, same)))

pub untold_grow : (places places' : List WalRef) → IsPrefix places places' → IsPrefix (items_of places None) (items_of places' None)
untold_grow places places' (more, is) = (map untold more, map_grow places more ∙ ap (map untold) is)

pub told_grow : (places places' : List WalRef) (h h' : List Entry) → length places ≡ length h → IsPrefix places places' → IsPrefix h h' → IsPrefix (items_of places (Some h)) (items_of places' (Some h'))
told_grow places places' h h' same (more, is) (es, told) =
    (items_with more es, with_grow places more h es same ∙ ap₂ items_with is told)

-- ---- what is told of them

entries_append : (xs ys : List Item) → entries xs ++ entries ys ≡ entries (xs ++ ys)
entries_append [] ys = refl
entries_append (x ∷ xs) ys = by x.entry (entries_append xs ys) where
  by : (o : Option Entry) → entries xs ++ entries ys ≡ entries (xs ++ ys) → (entry_in o ++ entries xs) ++ entries ys ≡ entry_in o ++ entries (xs ++ ys)
  by None more = more
  by (Some e) more = ap (λ (l : List Entry). e ∷ l) more

pub entries_grow : (xs ys : List Item) → IsPrefix xs ys → IsPrefix (entries xs) (entries ys)
entries_grow xs ys (more, is) = (entries more, entries_append xs more ∙ ap entries is)

pub entries_told : (places : List WalRef) (h : List Entry) → length places ≡ length h → entries (items_with places h) ≡ h
entries_told [] [] same = refl
entries_told [] (e ∷ h) same = absurd (omega (arith, same))
entries_told (place ∷ places) [] same = absurd (omega (arith, same))
entries_told (place ∷ places) (e ∷ h) same = ap (λ (l : List Entry). e ∷ l) (entries_told places h (omega (arith, same)))

-- the transactions that are told of a desk's items are its history
pub history_is : (d : Desk) → IsCounted d → history_by (is_some d.history) (items_in d) ≡ d.history
history_is d counted = by d.history counted.count where
  by : (history : Option (List Entry)) → IfSome history (λ h. length d.owned.store.sequence.refs ≡ length h) → history_by (is_some history) (items_of d.owned.store.sequence.refs history) ≡ history
  by None count = refl
  by (Some h) count = ap Some (entries_told d.owned.store.sequence.refs h count)

-- ---- over a commit

told_behind : {T E : Type 0} (result : Result T E) (h : List Entry) (new : Option (List Entry)) (Own : Entry → Type 0) → IsToldBehind result (Some h) new Own → (h' : List Entry) × (new ≡ Some h') × IsPrefix h h'
told_behind (Ok done) h new Own (e, own, is) = (h ++ e ∷ [], is, (e ∷ [], refl))
told_behind (Err fault) h new Own is = (h, is, prefix_refl h)

untold_behind : {T E : Type 0} (result : Result T E) (new : Option (List Entry)) (Own : Entry → Type 0) → IsToldBehind result None new Own → new ≡ None
untold_behind (Ok done) new Own is = is
untold_behind (Err fault) new Own is = is

pub committed_grow : {T E : Type 0} (result : Result T E) (places places' : List WalRef) (history history' : Option (List Entry)) (Own : Entry → Type 0) → IfSome history (λ h. length places ≡ length h)
    → IsPrefix places places' → IsToldBehind result history history' Own → IsPrefix (items_of places history) (items_of places' history')
committed_grow result places places' None history' Own count grow told =
    subst (λ (o : Option (List Entry)). IsPrefix (items_of places None) (items_of places' o)) (sym (untold_behind result history' Own told)) (untold_grow places places' grow)
committed_grow result places places' (Some h) history' Own count grow told =
    let b = told_behind result h history' Own told in
    subst (λ (o : Option (List Entry)). IsPrefix (items_of places (Some h)) (items_of places' o)) (sym b.1) (told_grow places places' h b.0 count grow b.2)

pub committed_told : {T E : Type 0} (result : Result T E) (history history' : Option (List Entry)) (Own : Entry → Type 0) → IsToldBehind result history history' Own → is_some history' ≡ is_some history
committed_told result None history' Own told = ap is_some (untold_behind result history' Own told)
committed_told result (Some h) history' Own told = ap is_some (told_behind result h history' Own told).1

-- ---- what a pass is told

-- the history that a pass has seen is that of the desk that it left
pub history_left : (old new : Pass) (found left : Desk) (o : Desk) → old.knows.origin ≡ Some o → Holds old new found left → IsCounted left → history_of new ≡ left.history
history_left old new found left o is h counted =
    let same : fixed_of found ≡ fixed_of o = subst (λ (x : Option Desk). IfSome x (λ d. fixed_of found ≡ fixed_of d)) is h.fixed in
    let told : is_told new.knows.origin ≡ is_some left.history =
    ap is_told (h.origin ∙ is) ∙ ap (λ (f : Fixed). f.told) (sym (h.stays ∙ same))
    in
    ap₂ history_by told h.seen ∙ history_is left counted
