-- Rows that are numbered one after another, by their keys or by a table of what is known.
use Rattle.std.proofs.Common.{◌≡◌, ℕ, zero, suc, ◌+◌, ◌<◌, ◌≤◌, cond, eqb, Option, Some, None, List, [], ◌∷◌, ◌++◌, length, set, get_or, refl, sym, ap, ap₂, ◌∙◌, arith, subst, inl, inr}
use Rattle.std.specs.Prelude.{unwrap_or, is_some, IfSome}
use Rattle.std.specs.BTreeMap.{BTreeMap, get, is_at, btree_map_len}
use Rattle.std.specs.Cmp.{IsTotalOrder}
use Rattle.std.proofs.lemmas.Bool.{cases_eq, cases_lt, ne_eqb}
use Rattle.std.proofs.lemmas.List.{get_or_append_left, length-set, get_or-set_same, get_or-set_other}
use Rattle.qd_base.specs.declared.cell.Cell.{Cell}
use Rattle.qd_base.specs.declared.cell.Cell.TheVariants as cell
use Rattle.qd_base.specs.declared.limits.TheConstants.{NULL_ID}
use Rattle.qd_base.specs.Rows.{cell_eq}
use Rattle.qd_column.specs.Symbols.{symbol_cell, IsIdOf}
use Rattle.qd_group.specs.contracts.keys.KeyOrd.TheImpl.Laws.{total-law}
use Rattle.qd_group.specs.declared.keys.Key.{Key}
use Rattle.qd_group.specs.declared.symbols.Symbols.{Symbols}
use Rattle.qd_group.specs.Grouping.{spot, AreGroups}
use Rattle.qd_group.specs.Keys.{lent}
use Rattle.qd_group.specs.Numbering.{key_cmp, is_cell_of, same_cells, slot, IsKnown, IsTable, Knows, Stands}
use Rattle.qd_group.proofs.Assembly.{keys_tied}
use Rattle.qd_group.proofs.Distincts.{cells_equiv}
use Rattle.qd_group.proofs.Leaders.{groups_none, groups_more}
use Rattle.qd_group.proofs.Numbers.{knows_none, knows_more, known_kept, known_same}

pub key_order : IsTotalOrder key_cmp
key_order = total-law

-- ---- tables

-- what a table has stays true where what is known stays known
pub table_kept : (texts : ℕ → List (List ℕ)) (old new : BTreeMap Key ℕ) (entries : List (Option (ℕ × ℕ))) → ((q : Key) (n : ℕ) → get key_cmp old q ≡ Some n → get key_cmp new q ≡ Some n) → IsTable texts old entries → IsTable texts new entries
table_kept texts old new entries kept stands id low = by (get_or entries (slot id) None) (stands id low)
  where
    by : (o : Option (ℕ × ℕ)) → IfSome o (λ e. IsKnown old (symbol_cell (texts e.0) id) e.1) → IfSome o (λ e. IsKnown new (symbol_cell (texts e.0) id) e.1)
    by None h = tt
    by (Some e) h = record { key = h.key; is = h.is; at = kept h.key e.1 h.at }

-- no two ids have one place
slot_apart : (a b : ℕ) → slot a ≡ slot b → a ≡ b
slot_apart a b e = elim (cases_eq a NULL_ID) [
  | inl a_null ↦ elim (cases_eq b NULL_ID) [
    | inl b_null ↦ a_null ∙ sym b_null
    | inr b_some ↦ absurd (omega (arith, sym (ap slot a_null) ∙ e ∙ far b b_some))
  ]
  | inr a_some ↦ elim (cases_eq b NULL_ID) [
    | inl b_null ↦ absurd (omega (arith, sym (ap slot b_null) ∙ sym e ∙ far a a_some))
    | inr b_some ↦ (let h : a + 1 ≡ b + 1 = sym (far a a_some) ∙ e ∙ far b b_some in omega arith)
  ]
]
  where
    far : (n : ℕ) → (n ≡ NULL_ID → ⊥) → slot n ≡ n + 1
    far n other = ap (λ t. cond t 0 (n + 1)) (ne_eqb n NULL_ID other)

pub slot_within : (texts : List (List ℕ)) (id n : ℕ) → IsIdOf texts id → length texts < n → slot id < n
slot_within texts id n (inl null) room = omega (arith, ap slot null)
slot_within texts id n (inr low) room = elim (cases_eq id NULL_ID) [
  | inl null ↦ omega (arith, ap slot null)
  | inr some ↦ omega (arith, ap (λ t. cond t 0 (id + 1)) (ne_eqb id NULL_ID some))
]

-- an entry more
pub table_set : (texts : ℕ → List (List ℕ)) (m : BTreeMap Key ℕ) (entries : List (Option (ℕ × ℕ))) (id block number : ℕ) → slot id < length entries → IsKnown m (symbol_cell (texts block) id) number → IsTable texts m entries
    → IsTable texts m (set entries (slot id) (Some (block, number)))
table_set texts m entries id block number there known stands other low = elim (cases_eq (slot id) (slot other)) [
  | inl same ↦
      (let is : id ≡ other = slot_apart id other same in
      subst (λ (k : ℕ). IfSome (get_or (set entries (slot id) (Some (block, number))) (slot k) None) (λ e. IsKnown m (symbol_cell (texts e.0) k) e.1)) is
      (subst (λ (o : Option (ℕ × ℕ)). IfSome o (λ e. IsKnown m (symbol_cell (texts e.0) id) e.1)) (sym (get_or-set_same entries (slot id) (Some (block, number)) None there)) known))
  | inr apart ↦
      subst (λ (o : Option (ℕ × ℕ)). IfSome o (λ e. IsKnown m (symbol_cell (texts e.0) other) e.1)) (sym (get_or-set_other entries (slot id) (slot other) (Some (block, number)) None (λ e. apart (sym e))))
      (stands other (omega (arith, length-set entries (slot id) (Some (block, number)))))
]

-- a place more, for an id that was not met
pub table_longer : (texts : ℕ → List (List ℕ)) (m : BTreeMap Key ℕ) (entries : List (Option (ℕ × ℕ))) → IsTable texts m entries → IsTable texts m (entries ++ None ∷ [])
table_longer texts m entries stands id low = elim (cases_lt (slot id) (length entries)) [
  | inl there ↦ subst (λ (o : Option (ℕ × ℕ)). IfSome o (λ e. IsKnown m (symbol_cell (texts e.0) id) e.1)) (sym (get_or_append_left entries (None ∷ []) None (slot id) there)) (stands id there)
  | inr behind ↦ subst (λ (o : Option (ℕ × ℕ)). IfSome o (λ e. IsKnown m (symbol_cell (texts e.0) id) e.1)) (sym (last_none entries (slot id) behind)) tt
]
  where
    last_none : (xs : List (Option (ℕ × ℕ))) (k : ℕ) → length xs ≤ k → get_or (xs ++ None ∷ []) k None ≡ None
    last_none [] zero h = refl
    last_none [] (suc k) h = refl
    last_none (x ∷ xs) zero h = absurd (omega arith)
    last_none (x ∷ xs) (suc k) h = last_none xs k (omega arith)

-- ---- rows

pub stands_none : (texts : ℕ → List (List ℕ)) (cells : List Cell) (s : Symbols) → s.numbers.entries ≡ [] → s.table.items ≡ [] → s.groups.numbers.items ≡ [] → s.groups.firsts.items ≡ [] → Stands texts cells 0 s
stands_none texts cells s no_map no_table no_ns no_fs = record {
  groups = subst (λ (l : List ℕ). AreGroups (same_cells cells) 0 l s.groups.firsts.items) (sym no_ns) (subst (λ (l : List ℕ). AreGroups (same_cells cells) 0 [] l) (sym no_fs) (groups_none (same_cells cells)));
  knows = subst (λ (l : List ℕ). Knows key_cmp s.numbers (is_cell_of cells) l) (sym no_fs) (knows_none key_cmp s.numbers (is_cell_of cells) no_map);
  table = λ id low. absurd (omega (arith, ap length no_table));
}

-- one row more, whose key has the number that the map gives
pub stands_more : (texts : ℕ → List (List ℕ)) (cells : List Cell) (n : ℕ) (s t : Symbols) (key : Key) (number : ℕ) → lent key ≡ get_or cells n cell.Null → Stands texts cells n s
    → number ≡ unwrap_or (get key_cmp s.numbers key) (btree_map_len s.numbers)
    → ((q : Key) → get key_cmp t.numbers q ≡ cond (is_at (key_cmp key) q) (Some number) (get key_cmp s.numbers q)) → btree_map_len t.numbers ≡ btree_map_len s.numbers + cond (is_some (get key_cmp s.numbers key)) 0 1
    → t.groups.numbers.items ≡ s.groups.numbers.items ++ number ∷ [] → t.groups.firsts.items ≡ cond (eqb number (length s.groups.firsts.items)) (s.groups.firsts.items ++ length s.groups.numbers.items ∷ []) s.groups.firsts.items
    → t.table.items ≡ s.table.items → Stands texts cells (n + 1) t
stands_more texts cells n s t key number is stands number_is known count ns_is fs_is table_is = record {
  groups =
      groups_more (same_cells cells) n number s.groups.numbers.items s.groups.firsts.items t.groups.numbers.items t.groups.firsts.items (cells_equiv.refl (get_or cells n cell.Null)) stands.groups
      (number_is ∙ ap₂ (λ o k. unwrap_or o k) (stands.knows.found key ∙ ap (λ c. spot (λ f. cell_eq (get_or cells f cell.Null) c) s.groups.firsts.items) is) stands.knows.count)
      ns_is fs_is;
  knows =
      knows_more key_cmp key_order s.numbers t.numbers (is_cell_of cells) key n number s.groups.firsts.items t.groups.firsts.items told stands.knows number_is known count
      (fs_is ∙ ap (λ k. cond (eqb number (length s.groups.firsts.items)) (s.groups.firsts.items ++ k ∷ []) s.groups.firsts.items) stands.groups.count);
  table = subst (λ (l : List (Option (ℕ × ℕ))). IsTable texts t.numbers l) (sym table_is) (table_kept texts s.numbers t.numbers s.table.items (λ q k at. known_kept key_cmp key_order s.numbers t.numbers key q number k number_is known at) stands.table);
}
  where
    told : (q : Key) → is_cell_of cells n q ≡ is_at (key_cmp key) q
    told q = ap (λ c. cell_eq c (lent q)) (sym is) ∙ sym (keys_tied key q)

-- one row more, whose number is known
pub stands_again : (texts : ℕ → List (List ℕ)) (cells : List Cell) (n : ℕ) (s t : Symbols) (number : ℕ) → IsKnown s.numbers (get_or cells n cell.Null) number → Stands texts cells n s
    → t.numbers ≡ s.numbers
    → t.groups.numbers.items ≡ s.groups.numbers.items ++ number ∷ [] → t.groups.firsts.items ≡ cond (eqb number (length s.groups.firsts.items)) (s.groups.firsts.items ++ length s.groups.numbers.items ∷ []) s.groups.firsts.items
    → t.table.items ≡ s.table.items → Stands texts cells (n + 1) t
stands_again texts cells n s t number known stands same ns_is fs_is table_is =
    stands_more texts cells n s t known.key number known.is stands
    (sym (ap (λ o. unwrap_or o (btree_map_len s.numbers)) known.at))
    (λ q. ap (λ m. get key_cmp m q) same ∙ known_same key_cmp key_order s.numbers known.key number q known.at)
    (ap btree_map_len same ∙ sym (ap (λ o. btree_map_len s.numbers + cond (is_some o) 0 1) known.at ∙ none_more (btree_map_len s.numbers)))
    ns_is fs_is table_is
  where
    none_more : (k : ℕ) → k + 0 ≡ k
    none_more k = omega arith

-- what a table has of an id, where it was met in the block
pub met : (texts : ℕ → List (List ℕ)) (m : BTreeMap Key ℕ) (entries : List (Option (ℕ × ℕ))) (id block number : ℕ) (entry : Option (ℕ × ℕ)) → slot id < length entries → get_or entries (slot id) None ≡ entry → entry ≡ Some (block, number) → IsTable texts m entries → IsKnown m (symbol_cell (texts block) id) number
met texts m entries id block number entry low at is stands = subst (λ (o : Option (ℕ × ℕ)). IfSome o (λ e. IsKnown m (symbol_cell (texts e.0) id) e.1)) (at ∙ is) (stands id low)
