-- What a version that is added changes of the blocks that are kept.
use Rattle.std.proofs.Common.{◌≡◌, ◌≢◌, ℕ, ◌+◌, ◌<◌, ◌≤◌, max, Bool, true, false, cond, eqb, nat_eq, List, [], ◌∷◌, ◌++◌, length, get_or, set, replicate, Option, Some, None, Contains, refl, sym, ap, subst, ◌∙◌, inl, inr, arith}
use Rattle.std.specs.List.{list_any, IsDistinct}
use Rattle.std.proofs.lemmas.Bool.{cases_Bool, cases_eq, cond-true, cond-false, both_ways}
use Rattle.std.proofs.lemmas.List.{length-set, get_or-set_same, get_or-set_other, get_or-replicate, length-replicate}
use Rattle.std.proofs.lemmas.Option.{none-some, same_Some}
use Rattle.qd_base.specs.declared.part.Part.{Part}
use Rattle.qd_manifest.specs.declared.shape.TableParts.{TableParts}
use Rattle.qd_manifest.specs.Spelling.{blocks_in, blocks_of}
use Rattle.qd_catalog.specs.declared.blocks.Kept.{Kept}
use Rattle.qd_catalog.specs.declared.version.Version.{Version}
use Rattle.qd_catalog.specs.Versions.{lists, shown, parts_of}
use Rattle.qd_catalog.specs.Tracked.{listed_by, no_rows, kept_in, and_row, Tracks, Queues, ListsAll, listing}
use Rattle.qd_catalog.proofs.KeptLemmas.{shown-absent, blocks_of_parts}

-- the record of a block, kept or not, has 64 rows, and knows which of them list it
module _ (old : ℕ → Option Kept) (listed : ℕ → ℕ → Bool) (tracks : Tracks old listed) (b : ℕ) where
  in_rows : (o : Option Kept) → old b ≡ o → length (kept_in o).rows ≡ 64
  in_rows None e = length-replicate 64 false
  in_rows (Some k) e = tracks.rows b k e

  in_there : (o : Option Kept) → old b ≡ o → (row : ℕ) → row < 64 → listed_by (kept_in o) row ≡ listed row b
  in_there None e row lt = get_or-replicate 64 row false false lt ∙ sym (tracks.absent b e row lt)
  in_there (Some k) e row lt = tracks.there b k e row lt

module _ (versions : List (Option Version)) (row : ℕ) (x : Option Version) (size : length versions ≡ 64) (low : row < 64) where
  -- which row lists which block, once a row has another version
  pub listing-same : (b : ℕ) → listing (set versions row x) row b ≡ lists x b
  listing-same b = ap (λ (v : Option Version). lists v b) (get_or-set_same versions row x None (omega (arith, size)))

  pub listing-other : (r b : ℕ) → r ≢ row → listing (set versions row x) r b ≡ listing versions r b
  listing-other r b other = ap (λ (v : Option Version). lists v b) (get_or-set_other versions row r x None other)

module _ (old new : ℕ → Option Kept) (versions : List (Option Version)) (row n : ℕ) (shape : List TableParts) (size : length versions ≡ 64) (low : row < 64) (free : get_or versions row None ≡ None) (lists_all : ListsAll old new row (parts_of shape)) (tracks : Tracks old (listing versions)) where
  abbrev x : Option Version
  x = Some (record { n = n; shape = shape })

  abbrev here : ℕ → Bool
  here b = list_any (nat_eq b) (blocks_in (parts_of shape))

  listed_here : (b : ℕ) → list_any (nat_eq b) (blocks_of shape) ≡ here b
  listed_here b = ap (list_any (nat_eq b)) (blocks_of_parts shape)

  -- a block of the shape
  new_here : (b : ℕ) → here b ≡ true → new b ≡ Some (and_row (kept_in (old b)) row (shown (parts_of shape) b))
  new_here b e = lists_all b ∙ cond-true (here b) (Some (and_row (kept_in (old b)) row (shown (parts_of shape) b))) (old b) e

  -- another block
  new_other : (b : ℕ) → here b ≡ false → new b ≡ old b
  new_other b e = lists_all b ∙ cond-false (here b) (Some (and_row (kept_in (old b)) row (shown (parts_of shape) b))) (old b) e

  of_shape : (b : ℕ) (k : Kept) → here b ≡ true → new b ≡ Some k → and_row (kept_in (old b)) row (shown (parts_of shape) b) ≡ k
  of_shape b k holds e = same_Some (and_row (kept_in (old b)) row (shown (parts_of shape) b)) k (sym (new_here b holds) ∙ e)

  before : (b : ℕ) (o : Option Kept) → here b ≡ false → new b ≡ o → old b ≡ o
  before b o none e = sym (new_other b none) ∙ e

  at_row : (b : ℕ) → listing versions row b ≡ false
  at_row b = ap (λ (v : Option Version). lists v b) free

  there_new : (b : ℕ) (k : Kept) (r : ℕ) → new b ≡ Some k → r < 64 → listed_by k r ≡ listing (set versions row x) r b
  there_new b k r e lt =
      elim (cases_Bool (here b)) [
        | inl holds ↦ elim (cases_eq r row) [
          | inl same ↦ subst (λ (i : ℕ). listed_by k i ≡ listing (set versions row x) i b) (sym same)
              (ap (λ (j : Kept). listed_by j row) (sym (of_shape b k holds e)) ∙ get_or-set_same (kept_in (old b)).rows row true false (omega (arith, in_rows old (listing versions) tracks b (old b) refl))
              ∙ sym (listing-same versions row x size low b ∙ listed_here b ∙ holds))
          | inr other ↦ ap (λ (j : Kept). listed_by j r) (sym (of_shape b k holds e)) ∙ get_or-set_other (kept_in (old b)).rows row r true false other
              ∙ in_there old (listing versions) tracks b (old b) refl r lt ∙ sym (listing-other versions row x size low r b other)
        ]
        | inr none ↦ elim (cases_eq r row) [
          | inl same ↦ subst (λ (i : ℕ). listed_by k i ≡ listing (set versions row x) i b) (sym same)
              (tracks.there b k (before b (Some k) none e) row low ∙ at_row b ∙ sym (listing-same versions row x size low b ∙ listed_here b ∙ none))
          | inr other ↦ tracks.there b k (before b (Some k) none e) r lt ∙ sym (listing-other versions row x size low r b other)
        ]
      ]

  absent_new : (b : ℕ) → new b ≡ None → here b ≡ false
  absent_new b e =
      elim (cases_Bool (here b)) [
        | inl holds ↦ absurd (none-some (and_row (kept_in (old b)) row (shown (parts_of shape) b)) (sym e ∙ new_here b holds))
        | inr none ↦ none
      ]

  pub tracks_added : Tracks new (listing (set versions row x))
  tracks_added = record {
    rows = λ b k e. elim (cases_Bool (here b)) [
      | inl holds ↦ subst (λ (j : Kept). length j.rows ≡ 64) (of_shape b k holds e) (length-set (kept_in (old b)).rows row true ∙ in_rows old (listing versions) tracks b (old b) refl)
      | inr none ↦ tracks.rows b k (before b (Some k) none e)
    ];
    there = λ b k e r lt. there_new b k r e lt;
    absent = λ b e r lt. elim (cases_eq r row) [
      | inl same ↦ subst (λ (i : ℕ). listing (set versions row x) i b ≡ false) (sym same) (listing-same versions row x size low b ∙ listed_here b ∙ absent_new b e)
      | inr other ↦ listing-other versions row x size low r b other ∙ tracks.absent b (before b None (absent_new b e) e) r lt
    ];
  }

  -- the queue stays, where it has no block of the shape
  pub queues_added : (retired : List ℕ) → ((b : ℕ) → here b ≡ true → Contains retired b → ⊥) → Queues old (listing versions) retired → Queues new (listing (set versions row x)) retired
  queues_added retired apart queues = record {
    once = queues.once;
    there = λ b c e. queues.there b c (before b None (absent_new b e) e);
    free = λ b c r lt. elim (cases_Bool (here b)) [
      | inl holds ↦ absurd (apart b holds c)
      | inr none ↦ elim (cases_eq r row) [
        | inl same ↦ subst (λ (i : ℕ). listing (set versions row x) i b ≡ false) (sym same) (listing-same versions row x size low b ∙ listed_here b ∙ none)
        | inr other ↦ listing-other versions row x size low r b other ∙ queues.free b c r lt
      ]
    ];
    all = λ b k e h. elim (cases_Bool (here b)) [
      | inl holds ↦ absurd (both_ways (lists x b) (sym (listing-same versions row x size low b) ∙ h row low) (listed_here b ∙ holds))
      | inr none ↦ queues.all b k (before b (Some k) none e) (λ r lt. elim (cases_eq r row) [
        | inl same ↦ subst (λ (i : ℕ). listing versions i b ≡ false) (sym same) (at_row b)
        | inr other ↦ sym (listing-other versions row x size low r b other) ∙ h r lt
      ])
    ];
  }
