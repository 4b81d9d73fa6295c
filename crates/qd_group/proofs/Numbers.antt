-- The numbers that a map gives to keys.
use Rattle.std.proofs.Common.{◌≡◌, ℕ, ◌+◌, ◌<◌, Bool, true, false, cond, eqb, Some, None, Option, List, [], ◌∷◌, ◌++◌, length, get_or, refl, sym, ap, ap₂, ◌∙◌, arith, subst}
use Rattle.std.specs.Prelude.{unwrap_or, is_some}
use Rattle.std.specs.BTreeMap.{BTreeMap, get, is_at, btree_map_len}
use Rattle.std.specs.Cmp.{IsTotalOrder}
use Rattle.std.specs.Map.{lookup}
use Rattle.std.specs.Ordering.{is_eq}
use Rattle.std.specs.declared.cmp.Ordering.{Ordering}
use Rattle.std.specs.declared.cmp.Ordering.TheVariants.{Less, Equal, Greater}
use Rattle.std.proofs.lemmas.Bool.{eq-eqb, ne_eqb, cond-true, cond-false}
use Rattle.std.proofs.lemmas.List.{get_or_default, length_push}
use Rattle.std.proofs.lemmas.Cmp.{tied_itself}
use Rattle.qd_group.specs.Grouping.{same_items, spot, AreGroups}
use Rattle.qd_group.specs.Numbering.{Knows}
use Rattle.qd_group.proofs.Leaders.{groups_none, groups_more}
use Rattle.qd_group.proofs.Spots.{or_last, spot-push, spot-some}

-- the item of a place is equal to a key
abbrev pub is_item_of : {K : Type 0} → (K → K → Ordering) → List K → K → ℕ → K → Bool
is_item_of cmp keys d f q = is_eq (cmp (get_or keys f d) q)

equal_of : (o : Ordering) → is_eq o ≡ true → o ≡ Equal
equal_of Less e = cc
equal_of Equal e = refl
equal_of Greater e = cc

lookup_same : {K X : Type 0} (p q : K → Bool) → ((k : K) → p k ≡ q k) → (es : List (K × X)) → lookup p es ≡ lookup q es
lookup_same p q same [] = refl
lookup_same p q same (e ∷ es) = ap (λ b. cond b (Some e.1) (lookup p es)) (same e.0) ∙ ap (λ r. cond (q e.0) (Some e.1) r) (lookup_same p q same es)

pub knows_none : {K : Type 0} (cmp : K → K → Ordering) (m : BTreeMap K ℕ) (tells : ℕ → K → Bool) → m.entries ≡ [] → Knows cmp m tells []
knows_none cmp m tells empty = record { found = λ q. ap (lookup (is_at (cmp q))) empty; count = ap length empty }

module _ {K : Type 0} (cmp : K → K → Ordering) (total : IsTotalOrder cmp) where
  -- equal keys find the same
  pub got_same : (m : BTreeMap K ℕ) (a b : K) → is_at (cmp a) b ≡ true → get cmp m a ≡ get cmp m b
  got_same m a b e = lookup_same (is_at (cmp a)) (is_at (cmp b)) (λ k. ap is_eq (total.congr a b k (equal_of (cmp a b) e))) m.entries

  -- a key that is there keeps its number
  pub known_same : (m : BTreeMap K ℕ) (key : K) (n : ℕ) (q : K) → get cmp m key ≡ Some n → get cmp m q ≡ cond (is_at (cmp key) q) (Some n) (get cmp m q)
  known_same m key n q at = by (is_at (cmp key) q) refl
    where
      by : (b : Bool) → is_at (cmp key) q ≡ b → get cmp m q ≡ cond b (Some n) (get cmp m q)
      by true e = sym (got_same m key q e) ∙ at
      by false e = refl

  -- what is known stays known
  pub known_kept : (old new : BTreeMap K ℕ) (key q : K) (number n : ℕ) → number ≡ unwrap_or (get cmp old key) (btree_map_len old) → ((p : K) → get cmp new p ≡ cond (is_at (cmp key) p) (Some number) (get cmp old p))
      → get cmp old q ≡ Some n → get cmp new q ≡ Some n
  known_kept old new key q number n number_is known at = by (is_at (cmp key) q) refl
    where
      by : (b : Bool) → is_at (cmp key) q ≡ b → get cmp new q ≡ Some n
      by true e = known q ∙ ap (λ b. cond b (Some number) (get cmp old q)) e ∙ ap Some (number_is ∙ ap (λ o. unwrap_or o (btree_map_len old)) (got_same old key q e ∙ at))
      by false e = known q ∙ ap (λ b. cond b (Some number) (get cmp old q)) e ∙ at

  -- a key that was added is known
  pub known_itself : (old new : BTreeMap K ℕ) (key : K) (number : ℕ) → ((p : K) → get cmp new p ≡ cond (is_at (cmp key) p) (Some number) (get cmp old p)) → get cmp new key ≡ Some number
  known_itself old new key number known = known key ∙ ap (λ b. cond b (Some number) (get cmp old key)) (ap is_eq (tied_itself total key))

  -- one key more
  pub knows_more : (old new : BTreeMap K ℕ) (tells : ℕ → K → Bool) (key : K) (i number : ℕ) (fs more_fs : List ℕ) → ((q : K) → tells i q ≡ is_at (cmp key) q) → Knows cmp old tells fs → number ≡ unwrap_or (get cmp old key) (btree_map_len old)
      → ((q : K) → get cmp new q ≡ cond (is_at (cmp key) q) (Some number) (get cmp old q)) → btree_map_len new ≡ btree_map_len old + cond (is_some (get cmp old key)) 0 1
      → more_fs ≡ cond (eqb number (length fs)) (fs ++ i ∷ []) fs → Knows cmp new tells more_fs
  knows_more old new tells key i number fs more_fs told knows number_is known count fs_is = by (get cmp old key) refl number_is count
    where
      by : (o : Option ℕ) → get cmp old key ≡ o → number ≡ unwrap_or o (btree_map_len old) → btree_map_len new ≡ btree_map_len old + cond (is_some o) 0 1 → Knows cmp new tells more_fs
      by (Some k) at is size =
          let there = spot-some (λ f. tells f key) fs k 0 (sym (knows.found key) ∙ at) in
          let whole : more_fs ≡ fs = fs_is ∙ cond-false (eqb number (length fs)) (fs ++ i ∷ []) fs (ne_eqb number (length fs) (λ e. omega (arith, there.0, is, e))) in
          record {
            found = λ q. known q ∙ ap (λ n. cond (is_at (cmp key) q) (Some n) (get cmp old q)) is ∙ sym (known_same old key k q at) ∙ knows.found q ∙ ap (spot (λ f. tells f q)) (sym whole);
            count = omega (arith, size, knows.count, ap length whole);
          }
      by None at is size =
          let next : number ≡ length fs = is ∙ knows.count in
          let whole : more_fs ≡ fs ++ i ∷ [] = fs_is ∙ cond-true (eqb number (length fs)) (fs ++ i ∷ []) fs (eq-eqb number (length fs) next) in
          record {
            found = λ q. known q ∙ step q next (is_at (cmp key) q) refl ∙ ap (spot (λ f. tells f q)) (sym whole);
            count = omega (arith, size, knows.count, ap length whole, length_push fs i);
          }
        where
          step : (q : K) → number ≡ length fs → (b : Bool) → is_at (cmp key) q ≡ b → cond b (Some number) (get cmp old q) ≡ spot (λ f. tells f q) (fs ++ i ∷ [])
          step q next true e =
              sym (spot-push (λ f. tells f q) fs i
              ∙ ap₂ (λ o b. or_last o b (length fs)) (sym (knows.found q) ∙ sym (got_same old key q e) ∙ at) (told q ∙ e)
              ∙ ap Some (sym next))
          step q next false e =
              sym (spot-push (λ f. tells f q) fs i
              ∙ ap₂ (λ o b. or_last o b (length fs)) (sym (knows.found q)) (told q ∙ e)
              ∙ unlasted (get cmp old q) (length fs))
            where
              unlasted : (o : Option ℕ) (n : ℕ) → or_last o false n ≡ o
              unlasted None n = refl
              unlasted (Some k) n = refl

-- the keys so far are grouped, and the map knows their numbers
pub record AreNumbered {K : Type 0} (cmp : K → K → Ordering) (m : BTreeMap K ℕ) (keys : List K) (n : ℕ) (ns fs : List ℕ) : Type 0 where
  pub groups : (d : K) → AreGroups (same_items cmp keys d) n ns fs
  pub knows : (d : K) → Knows cmp m (is_item_of cmp keys d) fs

pub numbered_none : {K : Type 0} (cmp : K → K → Ordering) (m : BTreeMap K ℕ) (keys : List K) (ns fs : List ℕ) → m.entries ≡ [] → ns ≡ [] → fs ≡ [] → AreNumbered cmp m keys 0 ns fs
numbered_none cmp m keys ns fs empty no_ns no_fs = record {
  groups = λ d. subst (λ (l : List ℕ). AreGroups (same_items cmp keys d) 0 l fs) (sym no_ns) (subst (λ (l : List ℕ). AreGroups (same_items cmp keys d) 0 [] l) (sym no_fs) (groups_none (same_items cmp keys d)));
  knows = λ d. subst (λ (l : List ℕ). Knows cmp m (is_item_of cmp keys d) l) (sym no_fs) (knows_none cmp m (is_item_of cmp keys d) empty);
}

pub numbered_more : {K : Type 0} (cmp : K → K → Ordering) (total : IsTotalOrder cmp) (old new : BTreeMap K ℕ) (keys : List K) (key : K) (i number : ℕ) (ns fs more_ns more_fs : List ℕ) → i < length keys → key ≡ get_or keys i key
    → AreNumbered cmp old keys i ns fs → number ≡ unwrap_or (get cmp old key) (btree_map_len old)
    → ((q : K) → get cmp new q ≡ cond (is_at (cmp key) q) (Some number) (get cmp old q)) → btree_map_len new ≡ btree_map_len old + cond (is_some (get cmp old key)) 0 1
    → more_ns ≡ ns ++ number ∷ [] → more_fs ≡ cond (eqb number (length fs)) (fs ++ length ns ∷ []) fs → AreNumbered cmp new keys (i + 1) more_ns more_fs
numbered_more {K} cmp total old new keys key i number ns fs more_ns more_fs low is are number_is known count ns_is fs_is = record { groups = groups; knows = knows }
  where
    at : (d : K) → key ≡ get_or keys i d
    at d = is ∙ get_or_default keys i key d low

    groups : (d : K) → AreGroups (same_items cmp keys d) (i + 1) more_ns more_fs
    groups d =
        groups_more (same_items cmp keys d) i number ns fs more_ns more_fs (ap is_eq (tied_itself total (get_or keys i d))) (are.groups d)
        (number_is ∙ ap₂ (λ o n. unwrap_or o n) ((are.knows d).found key ∙ ap (λ k. spot (λ f. is_eq (cmp (get_or keys f d) k)) fs) (at d)) (are.knows d).count)
        ns_is fs_is

    knows : (d : K) → Knows cmp new (is_item_of cmp keys d) more_fs
    knows d = knows_more cmp total old new (is_item_of cmp keys d) key i number fs more_fs (λ q. ap (λ k. is_eq (cmp k q)) (sym (at d))) (are.knows d) number_is known count (fs_is ∙ ap (λ n. cond (eqb number (length fs)) (fs ++ n ∷ []) fs) (are.groups d).count)
