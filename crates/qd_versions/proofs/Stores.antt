-- What every store of versions keeps, through each change of its catalogue.
use Rattle.std.proofs.Common.{◌≡◌, ◌≢◌, ◌⊎◌, inl, inr, ℕ, zero, suc, ◌+◌, ◌^◌, ◌<◌, ◌≤◌, Bool, true, false, cond, nat_eq, not, List, [], ◌∷◌, length, get_or, set, replicate, Option, Some, None, is_some, All, Contains, slice_get, refl, sym, ap, subst, ◌∙◌, arith, true≢false, eq-eqb}
use Rattle.std.specs.Arc.{arc_value}
use Rattle.std.specs.List.{list_any}
use Rattle.std.proofs.lemmas.Bool.{eqb-true, eqb-false}
use Rattle.std.proofs.lemmas.List.{get_or-set_same, get_or-set_other, length-map, length-set, length-take-le}
use Rattle.std.proofs.lemmas.List.Elements.{All-nil, All-contains, All-weaker, Contains-append_cases}
use Rattle.std.proofs.lemmas.Option.{get_or_from_slice_get, none-some, same_Some, slice_get_within}
use Rattle.std.proofs.lemmas.List.Folds.{list_any-append}
use Rattle.qd_base.proofs.Lists.{IsDistinct-nil}
use Rattle.qd_base.specs.Lawful.{IsSchema}
use Rattle.qd_base.specs.Schemas.{same_name}
use Rattle.qd_base.specs.declared.limits.TheConstants.{MAX_COLUMNS}
use Rattle.qd_base.specs.declared.part.Part.{Part}
use Rattle.qd_base.specs.declared.schema.Col.{Col}
use Rattle.qd_base.specs.declared.schema.ColType.{ColType}
use Rattle.qd_base.specs.declared.schema.Schema.{Schema}
use Rattle.qd_block.specs.Blocks.{Block, kinds_in}
use Rattle.qd_column_files.specs.Growing.{BlockBehind}
use Rattle.qd_manifest.specs.declared.shape.TableParts.{TableParts}
use Rattle.qd_manifest.specs.Spelling.{AreParts, IsManifest, IsPart, blocks_in, blocks_of, rows_shown, schemas_in}
use Rattle.qd_txnfile.specs.States.{Root}
use Rattle.qd_catalog.specs.declared.version.Version.{Version}
use Rattle.qd_catalog.specs.Versions.{Adds, IsListed, IsLive, IsOpened, MayAdd, Retires, SameVersions, Sweeps, Versions, first_row, is_kept, lists, n_of, next_after, rows_in, version_at, written_of}
use Rattle.qd_catalog.proofs.CoverLemmas.{covered}
use Rattle.qd_versions.specs.declared.growing.Growing.{Growing}
use Rattle.qd_versions.specs.declared.published.GrownBlock.{GrownBlock}
use Rattle.qd_versions.specs.Publishing.{MayGrow, MayPublish, block_of_part, grown_block, part_in_table, part_in_version}
use Rattle.qd_versions.specs.Reading.{IsPartAt}
use Rattle.qd_versions.specs.Stores.{AreAlike, AreTables, HaveOneKinds, IsCurrent, IsStore, Store, current_version, manifest_in, stored, stored_version}
use Rattle.qd_versions.specs.Tails.{IsGrowing}
use Rattle.qd_versions.proofs.Alike.{alike_with, kinds_flip, listed_at, or_either, or_second}
use Rattle.qd_versions.proofs.Blocks.{after_all, few_new, listed_in, shown_listed, written_kept}

-- two numbers are one or not
apart_or_second : (a b : ℕ) → (a ≡ b) ⊎ (a ≢ b)
apart_or_second a b = by (nat_eq a b) refl
  where
    by : (same : Bool) → nat_eq a b ≡ same → (a ≡ b) ⊎ (a ≢ b)
    by true e = inl (eqb-true a b e)
    by false e = inr (eqb-false a b e)

-- versions with the same rows list the same blocks
listed_same : (v w : Versions) (b : ℕ) → w.versions ≡ v.versions → IsListed w b → IsListed v b
listed_same v w b same listed = (listed.0, subst (λ (l : List (Option Version)). lists (get_or l listed.0 None) b ≡ true) same listed.1)

-- the tables of a manifest
pub tables_of : (n next : ℕ) (shape : List TableParts) → IsManifest n (manifest_in next shape) → AreTables shape
tables_of n next shape sound = record { schemas = sound.schemas; parts = sound.parts }

-- a version shows few transactions, so its next block is small
small_next : (n next : ℕ) (shape : List TableParts) → n ≤ 2 ^ 30 → IsManifest n (manifest_in next shape) → next ≤ 2 ^ 52
small_next n next shape few sound = omega (arith, sound.next)

-- ---- versions that are the same but for room

module _ (old new : Store) (keeps : IsStore old) (same : SameVersions old.versions new.versions) (number : new.root.n ≡ old.root.n) where
  at_same : (row : ℕ) → version_at new.versions row ≡ version_at old.versions row
  at_same row = ap (λ (l : List (Option Version)). get_or l row None) same.versions

  at_current : version_at new.versions new.versions.current ≡ version_at old.versions old.versions.current
  at_current = ap (λ r. version_at new.versions r) same.current ∙ at_same old.versions.current

  current_same : (x : Version) → IsCurrent old x → IsCurrent new x
  current_same x is = record {
    number = is.number ∙ sym number;
    sound = subst (λ n. IsManifest x.n (manifest_in n x.shape)) (sym same.next_block) is.sound;
  }

  pub store_same : IsStore new
  store_same = record {
    rows = ap (λ (l : List (Option Version)). length l) same.versions ∙ keeps.rows;
    few = omega (arith, keeps.few, number);
    live = ap (λ (o : Option Version). is_some o) at_current ∙ keeps.live;
    current = λ x e. current_same x (keeps.current x (sym at_current ∙ e));
    tables = λ row x e. keeps.tables row x (sym (at_same row) ∙ e);
    below = λ b listed. subst (λ n. b < n) (sym same.next_block) (keeps.below b (listed_same old.versions new.versions b same.versions listed));
    queued = λ b c. subst (λ n. b < n) (sym same.next_block) (keeps.queued b (subst (λ (l : List ℕ). Contains l b) same.retired c));
    has_rows = λ b listed. subst (λ (l : List (ℕ × ℕ)). 0 < rows_in l b) (sym same.written) (keeps.has_rows b (listed_same old.versions new.versions b same.versions listed));
    covered = covered.reserved old.versions new.versions keeps.covered same;
    alike = λ row other x y differ here there. keeps.alike row other x y differ (sym (at_same row) ∙ here) (sym (at_same other) ∙ there);
    apart = λ b listed c. keeps.apart b (listed_same old.versions new.versions b same.versions listed) (subst (λ (l : List ℕ). Contains l b) same.retired c);
    small = omega (arith, keeps.small, same.next_block);
  }

  pub version_same : current_version new.versions ≡ current_version old.versions
  version_same = ap (λ n. stored_version n (version_at new.versions new.versions.current)) same.next_block ∙ ap (λ (o : Option Version). stored_version old.versions.next_block o) at_current

-- ---- one version

no_version : (n row : ℕ) → get_or (replicate {A = Option Version} n None) row None ≡ None
no_version zero row = refl
no_version (suc n) zero = refl
no_version (suc n) (suc row) = no_version n row

only_first : (n : ℕ) (shape : List TableParts) (row : ℕ) (x : Version) → get_or (first_row n shape) row None ≡ Some x → record { n = n; shape = shape } ≡ x
only_first n shape zero x e = same_Some _ _ e
only_first n shape (suc row) x e = absurd (none-some x (sym (no_version 63 row) ∙ e))

one_row : (n : ℕ) (shape : List TableParts) (row : ℕ) (x : Version) → get_or (first_row n shape) row None ≡ Some x → row ≡ 0
one_row n shape zero x e = refl
one_row n shape (suc row) x e = absurd (none-some x (sym (no_version 63 row) ∙ e))

module _ (s : Store) (n next : ℕ) (shape : List TableParts) (number : s.root.n ≡ n) (few : n ≤ 2 ^ 30) (sound : IsManifest n (manifest_in next shape)) (opened : IsOpened s.versions n next shape) where
  at_first : (row : ℕ) → version_at s.versions row ≡ get_or (first_row n shape) row None
  at_first row = ap (λ (l : List (Option Version)). get_or l row None) opened.versions

  is_first : (row : ℕ) (x : Version) → version_at s.versions row ≡ Some x → record { n = n; shape = shape } ≡ x
  is_first row x e = only_first n shape row x (sym (at_first row) ∙ e)

  listed_first : (b : ℕ) → IsListed s.versions b → list_any (nat_eq b) (blocks_of shape) ≡ true
  listed_first b listed =
      let x = listed_at (version_at s.versions listed.0) b listed.1 in
      ap (λ (v : Version). list_any (nat_eq b) (blocks_of v.shape)) (is_first listed.0 x.0 x.1) ∙ x.2

  none_queued : (b : ℕ) → Contains s.versions.retired b → ⊥
  none_queued b c = omega (arith, c.1, ap (λ (l : List ℕ). length l) opened.retired)

  -- no other row is live
  only_row : (row : ℕ) (x : Version) → version_at s.versions row ≡ Some x → row ≡ 0
  only_row row x e = one_row n shape row x (sym (at_first row) ∙ e)

  pub store_opened : IsStore s
  store_opened = record {
    rows = ap (λ (l : List (Option Version)). length l) opened.versions;
    few = omega (arith, number);
    live = ap (λ (o : Option Version). is_some o) (at_first s.versions.current) ∙ ap (λ (r : ℕ). is_some (get_or (first_row n shape) r None)) opened.current;
    current = λ x e. subst (λ (v : Version). IsCurrent s v) (is_first s.versions.current x e)
        (record { number = sym number; sound = subst (λ k. IsManifest n (manifest_in k shape)) (sym opened.next_block) sound });
    tables = λ row x e. subst (λ (v : Version). AreTables v.shape) (is_first row x e) (tables_of n next shape sound);
    below = λ b listed. subst (λ k. b < k) (sym opened.next_block) (All-contains (λ b. b < next) (blocks_of shape) b sound.below (listed_in b (blocks_of shape) (listed_first b listed)));
    queued = λ b c. absurd (none_queued b c);
    has_rows = λ b listed. subst (λ k. 0 < k) (sym (opened.written b)) (shown_listed shape b sound.parts (listed_first b listed));
    covered = covered.opened s.versions n next shape opened;
    alike = λ row other x y differ here there. absurd (differ (only_row row x here ∙ sym (only_row other y there)));
    apart = λ b listed c. none_queued b c;
    small = omega (arith, opened.next_block, small_next n next shape few sound);
  }

pub version_opened : (v : Versions) (n next : ℕ) (shape : List TableParts) → IsOpened v n next shape → current_version v ≡ stored n next shape
version_opened v n next shape opened =
    ap (λ k. stored_version k (version_at v v.current)) opened.next_block
    ∙ ap (λ r. stored_version next (get_or v.versions r None)) opened.current
    ∙ ap (λ (l : List (Option Version)). stored_version next (get_or l 0 None)) opened.versions

-- ---- a version that is published

module _ (old : Store) (keeps : IsStore old) (n : ℕ) (shape : List TableParts) (count : ℕ) (may : MayPublish old.versions n shape count) (mid : Versions) (same : SameVersions old.versions mid) where
  abbrev next : ℕ
  next = old.versions.next_block

  below_next : (b : ℕ) → Contains (blocks_of shape) b → b < next + count
  below_next b c = All-contains (λ b. b < next + count) (blocks_of shape) b may.sound.below c

  -- an old block of the shape is listed
  old_listed : (b : ℕ) → Contains (blocks_of shape) b → b < next → IsListed old.versions b
  old_listed b c less = (old.versions.current, may.old b c less)

  -- and so is kept
  old_kept : (b : ℕ) → Contains (blocks_of shape) b → b < next → is_kept mid b ≡ true
  old_kept b c less = written_kept mid.written b (subst (λ (l : List (ℕ × ℕ)). 0 < rows_in l b) (sym same.written) (keeps.has_rows b (old_listed b c less)))

  new_only : (b : ℕ) → Contains (blocks_of shape) b → not (is_kept mid b) ≡ true → (next ≤ b) × (b < next + count)
  new_only b c e = (by (le_or_less b), below_next b c)
    where
      le_or_less : (b : ℕ) → (next ≤ b) ⊎ (b < next)
      le_or_less b = grind arith

      by : (next ≤ b) ⊎ (b < next) → next ≤ b
      by (inl le) = le
      by (inr less) = absurd (true≢false (sym e ∙ ap not (old_kept b c less)))

  unqueued : (b : ℕ) → Contains (blocks_of shape) b → Contains mid.retired b → ⊥
  unqueued b c q =
      let there = subst (λ (l : List ℕ). Contains l b) same.retired q in
      keeps.apart b (old_listed b c (keeps.queued b there)) there

  pub may_add : count ≤ mid.spare → MayAdd mid n shape
  may_add room = record {
    newer = λ k e. may.newer k (ap n_of (sym (at_current old (record { root = old.root; versions = mid; kept = [] }) keeps same refl)) ∙ e);
    room = omega (arith, few_new (λ b. not (is_kept mid b)) (blocks_of shape) next count may.sound.distinct new_only);
    unretired = unqueued;
    small = All-weaker (λ b. b < next + count) (λ b. b + 1 < 2 ^ 64) (λ b less. omega (arith, less, small_next n (next + count) shape may.few may.sound)) (blocks_of shape) may.sound.below;
  }

  module _ (new : Store) (row : ℕ) (adds : Adds mid new.versions n shape row) (number : new.root.n ≡ n) where
    abbrev added : Version
    added = record { n = n; shape = shape }

    rows_were : length mid.versions ≡ 64
    rows_were = ap (λ (l : List (Option Version)). length l) same.versions ∙ keeps.rows

    at_row : version_at new.versions row ≡ Some added
    at_row = ap (λ (l : List (Option Version)). get_or l row None) adds.versions ∙ get_or-set_same mid.versions row (Some added) None (omega (arith, rows_were, adds.within))

    at_other : (r : ℕ) → r ≢ row → version_at new.versions r ≡ version_at old.versions r
    at_other r other = ap (λ (l : List (Option Version)). get_or l r None) adds.versions ∙ get_or-set_other mid.versions row r (Some added) None other ∙ ap (λ (l : List (Option Version)). get_or l r None) same.versions

    pub now_current : version_at new.versions new.versions.current ≡ Some added
    now_current = ap (λ r. version_at new.versions r) adds.current ∙ at_row

    pub now_next : new.versions.next_block ≡ next + count
    now_next = adds.next_block ∙ ap (λ k. next_after k (blocks_of shape)) same.next_block ∙ after_all (blocks_of shape) next count may.sound.below may.whole

    -- what is listed now is of the new version, or was listed
    listed_or : (b : ℕ) → IsListed new.versions b → (list_any (nat_eq b) (blocks_of shape) ≡ true) ⊎ IsListed old.versions b
    listed_or b listed = by (apart_or_second listed.0 row)
      where
        by : (listed.0 ≡ row) ⊎ (listed.0 ≢ row) → (list_any (nat_eq b) (blocks_of shape) ≡ true) ⊎ IsListed old.versions b
        by (inl is) = inl (sym (ap (λ (o : Option Version). lists o b) (ap (λ r. version_at new.versions r) is ∙ at_row)) ∙ listed.1)
        by (inr other) = inr (listed.0, sym (ap (λ (o : Option Version). lists o b) (at_other listed.0 other)) ∙ listed.1)

    is_current : (x : Version) → version_at new.versions new.versions.current ≡ Some x → IsCurrent new x
    is_current x e = subst (λ (v : Version). IsCurrent new v) (same_Some _ _ (sym now_current ∙ e))
        (record { number = sym number; sound = subst (λ k. IsManifest n (manifest_in k shape)) (sym now_next) may.sound })

    are_tables : (r : ℕ) (x : Version) → version_at new.versions r ≡ Some x → AreTables x.shape
    are_tables r x e = by (apart_or_second r row)
      where
        by : (r ≡ row) ⊎ (r ≢ row) → AreTables x.shape
        by (inl is) = subst (λ (v : Version). AreTables v.shape) (same_Some _ _ (sym at_row ∙ ap (λ k. version_at new.versions k) (sym is) ∙ e)) (tables_of n (next + count) shape may.sound)
        by (inr other) = keeps.tables r x (sym (at_other r other) ∙ e)

    is_below : (b : ℕ) → (list_any (nat_eq b) (blocks_of shape) ≡ true) ⊎ IsListed old.versions b → b < new.versions.next_block
    is_below b (inl here) = omega (arith, below_next b (listed_in b (blocks_of shape) here), now_next)
    is_below b (inr there) = omega (arith, keeps.below b there, now_next)

    was_queued : (b : ℕ) → Contains new.versions.retired b → Contains old.versions.retired b
    was_queued b c = subst (λ (l : List ℕ). Contains l b) (adds.retired ∙ same.retired) c

    is_shown : (b : ℕ) → (list_any (nat_eq b) (blocks_of shape) ≡ true) ⊎ IsListed old.versions b → 0 < written_of new.versions b
    is_shown b (inl here) = omega (arith, adds.written b, shown_listed shape b may.sound.parts here)
    is_shown b (inr there) =
        let was : 0 < written_of mid b = subst (λ (l : List (ℕ × ℕ)). 0 < rows_in l b) (sym same.written) (keeps.has_rows b there) in
        omega (arith, adds.written b, was)

    is_apart : (b : ℕ) → (list_any (nat_eq b) (blocks_of shape) ≡ true) ⊎ IsListed old.versions b → Contains new.versions.retired b → ⊥
    is_apart b (inl here) c = unqueued b (listed_in b (blocks_of shape) here) (subst (λ (l : List ℕ). Contains l b) adds.retired c)
    is_apart b (inr there) c = keeps.apart b there (was_queued b c)

    alike_new : (r : ℕ) (x : Version) → r ≢ row → version_at new.versions r ≡ Some x → HaveOneKinds shape x.shape
    alike_new r x other e = alike_with old.versions keeps.alike keeps.below shape may.alike may.old r x (sym (at_other r other) ∙ e)

    are_alike : AreAlike new.versions
    are_alike r s x y differ here there = by (apart_or_second r row) (apart_or_second s row)
      where
        is_added : (k : ℕ) (z : Version) → k ≡ row → version_at new.versions k ≡ Some z → added ≡ z
        is_added k z is e = same_Some _ _ (sym at_row ∙ ap (λ j. version_at new.versions j) (sym is) ∙ e)

        by : (r ≡ row) ⊎ (r ≢ row) → (s ≡ row) ⊎ (s ≢ row) → HaveOneKinds x.shape y.shape
        by (inl first) (inl second) = absurd (differ (first ∙ sym second))
        by (inl first) (inr second) = subst (λ (z : Version). HaveOneKinds z.shape y.shape) (is_added r x first here) (alike_new s y second there)
        by (inr first) (inl second) = subst (λ (z : Version). HaveOneKinds x.shape z.shape) (is_added s y second there) (kinds_flip shape x.shape (alike_new r x first here))
        by (inr first) (inr second) = keeps.alike r s x y differ (sym (at_other r first) ∙ here) (sym (at_other s second) ∙ there)

    pub store_added : IsStore new
    store_added = record {
      rows = ap (λ (l : List (Option Version)). length l) adds.versions ∙ length-set mid.versions row (Some added) ∙ rows_were;
      few = omega (arith, number, may.few);
      live = ap (λ (o : Option Version). is_some o) now_current;
      current = is_current;
      tables = are_tables;
      below = λ b listed. is_below b (listed_or b listed);
      queued = λ b c. omega (arith, keeps.queued b (was_queued b c), now_next);
      has_rows = λ b listed. is_shown b (listed_or b listed);
      covered = covered.added mid new.versions n shape row (covered.reserved old.versions mid keeps.covered same) adds;
      alike = are_alike;
      apart = λ b listed c. is_apart b (listed_or b listed) c;
      small = omega (arith, now_next, small_next n (next + count) shape may.few may.sound);
    }

    pub version_added : current_version new.versions ≡ stored n (next + count) shape
    version_added = ap (λ k. stored_version k (version_at new.versions new.versions.current)) now_next ∙ ap (λ (o : Option Version). stored_version (next + count) o) now_current

-- ---- a version that is let go

module _ (old new : Store) (row : ℕ) (keeps : IsStore old) (older : row ≢ old.versions.current) (live : IsLive old.versions row) (retires : Retires old.versions new.versions row) (root : new.root ≡ old.root) where
  left_other : (r : ℕ) → r ≢ row → version_at new.versions r ≡ version_at old.versions r
  left_other r other = ap (λ (l : List (Option Version)). get_or l r None) retires.versions ∙ get_or-set_other old.versions.versions row r None None other

  set_none : (l : List (Option Version)) (r : ℕ) → get_or (set l r None) r None ≡ None
  set_none [] r = refl
  set_none (x ∷ l) zero = refl
  set_none (x ∷ l) (suc r) = set_none l r

  left_row : version_at new.versions row ≡ None
  left_row = ap (λ (l : List (Option Version)). get_or l row None) retires.versions ∙ set_none old.versions.versions row

  pub left_current : version_at new.versions new.versions.current ≡ version_at old.versions old.versions.current
  left_current = ap (λ r. version_at new.versions r) retires.current ∙ left_other old.versions.current (λ e. older (sym e))

  was_listed : (b : ℕ) → IsListed new.versions b → IsListed old.versions b
  was_listed b listed = by (apart_or_second listed.0 row)
    where
      by : (listed.0 ≡ row) ⊎ (listed.0 ≢ row) → IsListed old.versions b
      by (inl is) = absurd (true≢false (sym (sym (ap (λ (o : Option Version). lists o b) (ap (λ r. version_at new.versions r) is ∙ left_row)) ∙ listed.1)))
      by (inr other) = (listed.0, sym (ap (λ (o : Option Version). lists o b) (left_other listed.0 other)) ∙ listed.1)

  was_live : (r : ℕ) (x : Version) → version_at new.versions r ≡ Some x → version_at old.versions r ≡ Some x
  was_live r x e = by (apart_or_second r row)
    where
      by : (r ≡ row) ⊎ (r ≢ row) → version_at old.versions r ≡ Some x
      by (inl is) = absurd (none-some x (sym left_row ∙ ap (λ k. version_at new.versions k) (sym is) ∙ e))
      by (inr other) = sym (left_other r other) ∙ e

  queued_or : (b : ℕ) → Contains new.versions.retired b → Contains old.versions.retired b ⊎ Contains retires.gone b
  queued_or b c = Contains-append_cases old.versions.retired retires.gone b (subst (λ (l : List ℕ). Contains l b) retires.retired c)

  queue_below : (b : ℕ) → Contains old.versions.retired b ⊎ Contains retires.gone b → b < new.versions.next_block
  queue_below b (inl c) = omega (arith, keeps.queued b c, retires.next_block)
  queue_below b (inr c) = omega (arith, keeps.below b (row, ((retires.are_gone.exactly b).0 c).0), retires.next_block)

  queue_apart : (b : ℕ) → IsListed new.versions b → Contains old.versions.retired b ⊎ Contains retires.gone b → ⊥
  queue_apart b listed (inl c) = keeps.apart b (was_listed b listed) c
  queue_apart b listed (inr c) = ((retires.are_gone.exactly b).0 c).1 listed

  left_is : (x : Version) → IsCurrent old x → IsCurrent new x
  left_is x is = record {
    number = is.number ∙ sym (ap (λ (r : Root). r.n) root);
    sound = subst (λ n. IsManifest x.n (manifest_in n x.shape)) (sym retires.next_block) is.sound;
  }

  pub store_retired : IsStore new
  store_retired = record {
    rows = ap (λ (l : List (Option Version)). length l) retires.versions ∙ length-set old.versions.versions row None ∙ keeps.rows;
    few = omega (arith, keeps.few, ap (λ (r : Root). r.n) root);
    live = ap (λ (o : Option Version). is_some o) left_current ∙ keeps.live;
    current = λ x e. left_is x (keeps.current x (sym left_current ∙ e));
    tables = λ r x e. keeps.tables r x (was_live r x e);
    below = λ b listed. omega (arith, keeps.below b (was_listed b listed), retires.next_block);
    queued = λ b c. queue_below b (queued_or b c);
    has_rows = λ b listed. omega (arith, keeps.has_rows b (was_listed b listed), retires.written b);
    covered = covered.retired old.versions new.versions row keeps.covered retires;
    alike = λ r s x y differ here there. keeps.alike r s x y differ (was_live r x here) (was_live s y there);
    apart = λ b listed c. queue_apart b listed (queued_or b c);
    small = omega (arith, keeps.small, retires.next_block);
  }

  pub version_retired : current_version new.versions ≡ current_version old.versions
  version_retired = ap (λ n. stored_version n (version_at new.versions new.versions.current)) retires.next_block ∙ ap (λ (o : Option Version). stored_version old.versions.next_block o) left_current

-- ---- a block that is swept

module _ (old new : Store) (block : ℕ) (keeps : IsStore old) (sweeps : Sweeps old.versions new.versions block) (number : new.root.n ≡ old.root.n) where
  swept_at : (row : ℕ) → version_at new.versions row ≡ version_at old.versions row
  swept_at row = ap (λ (l : List (Option Version)). get_or l row None) sweeps.versions

  pub swept_current : version_at new.versions new.versions.current ≡ version_at old.versions old.versions.current
  swept_current = ap (λ r. version_at new.versions r) sweeps.current ∙ swept_at old.versions.current

  in_front : Contains old.versions.retired block
  in_front = subst (λ (l : List ℕ). Contains l block) (sym sweeps.retired) (0, omega arith, refl)

  -- what stays in the queue was in it
  still_queued : (b : ℕ) → Contains new.versions.retired b → Contains old.versions.retired b
  still_queued b c = subst (λ (l : List ℕ). Contains l b) (sym sweeps.retired) (suc c.0, omega (arith, c.1), c.2)

  still_listed : (b : ℕ) → IsListed new.versions b → IsListed old.versions b
  still_listed b listed = listed_same old.versions new.versions b sweeps.versions listed

  other_block : (b : ℕ) → IsListed old.versions b → nat_eq block b ≡ false
  other_block b listed = by (nat_eq block b) refl
    where
      by : (same : Bool) → nat_eq block b ≡ same → same ≡ false
      by false e = refl
      by true e = absurd (keeps.apart b listed (subst (λ x. Contains old.versions.retired x) (eqb-true block b e) in_front))

  still_shown : (b : ℕ) → IsListed old.versions b → 0 < written_of new.versions b
  still_shown b listed =
      subst (λ k. 0 < k) (sym (sweeps.written b ∙ ap (λ c. cond c 0 (written_of old.versions b)) (other_block b listed))) (keeps.has_rows b listed)

  swept_is : (x : Version) → IsCurrent old x → IsCurrent new x
  swept_is x is = record {
    number = is.number ∙ sym number;
    sound = subst (λ n. IsManifest x.n (manifest_in n x.shape)) (sym sweeps.next_block) is.sound;
  }

  pub store_swept : IsStore new
  store_swept = record {
    rows = ap (λ (l : List (Option Version)). length l) sweeps.versions ∙ keeps.rows;
    few = omega (arith, keeps.few, number);
    live = ap (λ (o : Option Version). is_some o) swept_current ∙ keeps.live;
    current = λ x e. swept_is x (keeps.current x (sym swept_current ∙ e));
    tables = λ row x e. keeps.tables row x (sym (swept_at row) ∙ e);
    below = λ b listed. omega (arith, keeps.below b (still_listed b listed), sweeps.next_block);
    queued = λ b c. omega (arith, keeps.queued b (still_queued b c), sweeps.next_block);
    has_rows = λ b listed. still_shown b (still_listed b listed);
    covered = covered.swept old.versions new.versions block keeps.covered (λ listed. keeps.apart block listed in_front) sweeps;
    alike = λ r s x y differ here there. keeps.alike r s x y differ (sym (swept_at r) ∙ here) (sym (swept_at s) ∙ there);
    apart = λ b listed c. keeps.apart b (still_listed b listed) (still_queued b c);
    small = omega (arith, keeps.small, sweeps.next_block);
  }

  pub version_swept : current_version new.versions ≡ current_version old.versions
  version_swept = ap (λ n. stored_version n (version_at new.versions new.versions.current)) sweeps.next_block ∙ ap (λ (o : Option Version). stored_version old.versions.next_block o) swept_current

-- ---- what is asked of a store

pub same_versions : (v : Versions) → SameVersions v v
same_versions v = record { versions = refl; current = refl; next_block = refl; written = refl; retired = refl }

-- a manifest of no table
pub no_manifest : IsManifest 0 (manifest_in 0 [])
no_manifest = record {
  next = omega arith;
  next_fits = omega arith;
  schemas = record { few = omega arith; each = All-nil IsSchema; distinct = IsDistinct-nil (λ (a : Schema) (b : Schema). same_name a.name b.name) };
  parts = All-nil (λ t. AreParts t.schema t.parts);
  few = All-nil (λ (t : TableParts). rows_shown t.parts ≤ 0);
  below = All-nil (λ b. b < 0);
  distinct = IsDistinct-nil nat_eq;
}

-- the front of a queue
pub front_in : (xs : List ℕ) (b : ℕ) → Some b ≡ slice_get xs 0 → Contains xs b
front_in [] b e = absurd (none-some b (sym e))
front_in (x ∷ xs) b e = (0, omega arith, sym (same_Some b x e))

pub front_rest : (xs : List ℕ) (b : ℕ) → Some b ≡ slice_get xs 0 → (rest : List ℕ) × (xs ≡ b ∷ rest)
front_rest [] b e = absurd (none-some b (sym e))
front_rest (x ∷ xs) b e = (xs, ap (λ y. y ∷ xs) (sym (same_Some b x e)))

pub front_none : (xs : List ℕ) → None ≡ slice_get xs 0 → xs ≡ []
front_none [] e = refl
front_none (x ∷ xs) e = absurd (none-some x e)

pub front_small : (s : Store) (b : ℕ) → IsStore s → Some b ≡ slice_get s.versions.retired 0 → b < 2 ^ 52
front_small s b keeps e = omega (arith, keeps.queued b (front_in s.versions.retired b e), keeps.small)

-- a part of a live version, of a table that is there
at_part : (ps : List Part) (k : ℕ) (p : Part) → slice_get ps k ≡ Some p → list_any (nat_eq p.block) (blocks_in ps) ≡ true
at_part [] k p e = absurd (none-some p e)
at_part (q ∷ qs) zero p e = or_either (nat_eq p.block q.block) (list_any (nat_eq p.block) (blocks_in qs)) (eq-eqb p.block q.block (ap (λ (x : Part). x.block) (sym (same_Some q p e))))
at_part (q ∷ qs) (suc k) p e = or_second (nat_eq p.block q.block) (list_any (nat_eq p.block) (blocks_in qs)) (at_part qs k p e)

at_table : (ts : List TableParts) (k : ℕ) (t : TableParts) (b : ℕ) → slice_get ts k ≡ Some t → list_any (nat_eq b) (blocks_in t.parts) ≡ true → list_any (nat_eq b) (blocks_of ts) ≡ true
at_table [] k t b e h = absurd (none-some t e)
at_table (u ∷ us) zero t b e h =
    list_any-append (nat_eq b) (blocks_in u.parts) (blocks_of us)
    ∙ or_either (list_any (nat_eq b) (blocks_in u.parts)) (list_any (nat_eq b) (blocks_of us)) (subst (λ (x : TableParts). list_any (nat_eq b) (blocks_in x.parts) ≡ true) (sym (same_Some u t e)) h)
at_table (u ∷ us) (suc k) t b e h =
    list_any-append (nat_eq b) (blocks_in u.parts) (blocks_of us)
    ∙ or_second (list_any (nat_eq b) (blocks_in u.parts)) (list_any (nat_eq b) (blocks_of us)) (at_table us k t b e h)

at_all : {X : Type 0} (P : X → Type 0) (xs : List X) (k : ℕ) (x : X) → All P xs → slice_get xs k ≡ Some x → P x
at_all P xs k x all e = subst P (get_or_from_slice_get xs k x x e) (all k x (slice_get_within xs k x e))

at_schema : (ts : List TableParts) (k : ℕ) (t : TableParts) → slice_get ts k ≡ Some t → slice_get (schemas_in ts) k ≡ Some t.schema
at_schema [] k t e = absurd (none-some t e)
at_schema (u ∷ us) zero t e = ap (λ (x : TableParts). Some x.schema) (same_Some u t e)
at_schema (u ∷ us) (suc k) t e = at_schema us k t e

-- what a part of a live version is
pub record IsLawfulPart (t : TableParts) (p : Part) : Type 0 where
  pub schema : IsSchema t.schema
  pub its_part : IsPart t.schema p
  pub small : p.block < 2 ^ 52

pub part_lawful : (s : Store) (row table i : ℕ) (t : TableParts) (p : Part) → IsStore s → IsPartAt s.versions row table i t p → IsLawfulPart t p
part_lawful s row table i t p keeps at =
    let tables = keeps.tables row at.version at.live in
    let parts = at_all (λ (x : TableParts). AreParts x.schema x.parts) at.version.shape table t tables.parts at.its_table in
    let here = at_table at.version.shape table t p.block at.its_table (at_part t.parts i p at.its_part) in
    let listed : IsListed s.versions p.block = (row, ap (λ (o : Option Version). lists o p.block) at.live ∙ here) in
    record {
      schema = at_all IsSchema (schemas_in at.version.shape) table t.schema tables.schemas.each (at_schema at.version.shape table t at.its_table);
      its_part = at_all (IsPart t.schema) t.parts i p parts.each at.its_part;
      small = omega (arith, keeps.below p.block listed, keeps.small);
    }

pub part_below : (s : Store) (row table i : ℕ) (t : TableParts) (p : Part) → IsStore s → IsPartAt s.versions row table i t p → p.block < s.versions.next_block
part_below s row table i t p keeps at =
    let here = at_table at.version.shape table t p.block at.its_table (at_part t.parts i p at.its_part) in
    keeps.below p.block (row, ap (λ (o : Option Version). lists o p.block) at.live ∙ here)

-- the table and the part that are lent are those of a place
pub record IsLent (t lent : TableParts) (p given : Part) : Type 0 where
  pub table_is : t ≡ lent
  pub part_is : p ≡ given

pub lent_is : (v : Versions) (row table i : ℕ) (t lent : TableParts) (p given : Part) (shape : List TableParts) → IsPartAt v row table i t p → ((x : Version) → version_at v row ≡ Some x → shape ≡ x.shape) → slice_get shape table ≡ Some lent → slice_get lent.parts i ≡ Some given → IsLent t lent p given
lent_is v row table i t lent p given shape at shown table_at part_at =
    let table_is : t ≡ lent = same_Some t lent (sym at.its_table ∙ ap (λ (l : List TableParts). slice_get l table) (sym (shown at.version at.live)) ∙ table_at) in
    record {
      table_is = table_is;
      part_is = same_Some p given (sym at.its_part ∙ ap (λ (x : TableParts). slice_get x.parts i) table_is ∙ part_at);
    }

pub lent_to_grow : (v : Versions) (row : ℕ) (g : GrownBlock) (may : MayGrow v g) (lent : TableParts) (given : Part) (shape : List TableParts) → row ≡ v.current → ((x : Version) → version_at v row ≡ Some x → shape ≡ x.shape) → slice_get shape g.table ≡ Some lent → slice_get lent.parts g.part ≡ Some given → IsLent may.t lent may.p given
lent_to_grow v row g may lent given shape current shown table_at part_at =
    lent_is v v.current g.table g.part may.t lent may.p given shape may.there (λ x e. shown x (ap (λ r. version_at v r) current ∙ e)) table_at part_at

pub lent_lawful : (s : Store) (row table i : ℕ) (t lent : TableParts) (p given : Part) → IsStore s → IsPartAt s.versions row table i t p → IsLent t lent p given → IsLawfulPart lent given
lent_lawful s row table i t lent p given keeps at is =
    subst (λ (u : TableParts). IsLawfulPart u given) is.table_is (subst (λ (q : Part). IsLawfulPart t q) is.part_is (part_lawful s row table i t p keeps at))

pub part_block : (v : Versions) (g : GrownBlock) (t : TableParts) (p : Part) → IsPartAt v v.current g.table g.part t p → grown_block v g ≡ p.block
part_block v g t p at =
    ap (λ (o : Option Version). block_of_part (part_in_version o g.table g.part)) at.live
    ∙ ap (λ (o : Option TableParts). block_of_part (part_in_table o g.part)) at.its_table
    ∙ ap block_of_part at.its_part

-- rows that are read for a part of the current version
pub is_growing : (s : Store) (g : GrownBlock) (lent : TableParts) (given : Part) (tail : BlockBehind) (x : Growing) → IsStore s → (may : MayGrow s.versions g) → IsLent may.t lent may.p given → length tail.columns ≡ given.cols → length (arc_value g.rows).kinds ≤ MAX_COLUMNS
    → x.block ≡ given.block → x.tail ≡ tail → arc_value x.rows ≡ arc_value g.rows → IsGrowing s.versions g x
is_growing s g lent given tail x keeps may is columns few block tailed rows =
    let at = may.there in
    let lawful = part_lawful s s.versions.current g.table g.part may.t may.p keeps at in
    let number : x.block ≡ may.p.block = block ∙ ap (λ (q : Part). q.block) (sym is.part_is) in
    let kinds : length (arc_value g.rows).kinds ≡ may.p.cols =
    ap (λ (ks : List ColType). length ks) may.kinds ∙ length-take-le may.p.cols (kinds_in may.t.schema.cols) (subst (λ n. may.p.cols ≤ n) (sym (length-map may.t.schema.cols (λ (c : Col). c.kind))) lawful.its_part.columns) in
    record {
      block = number ∙ sym (part_block s.versions g may.t may.p at);
      rows = rows;
      fit = record {
        below = subst (λ n. n < s.versions.next_block) (sym number) (part_below s s.versions.current g.table g.part may.t may.p keeps at);
        columns = ap (λ (b : BlockBehind). length b.columns) tailed ∙ columns ∙ ap (λ (q : Part). q.cols) (sym is.part_is) ∙ sym kinds ∙ ap (λ (b : Block). length b.kinds) (sym rows);
        few = subst (λ (b : Block). length b.kinds ≤ MAX_COLUMNS) (sym rows) few;
      };
    }

-- a version that may be published is newer than the root's
pub root_newer : (s : Store) (n : ℕ) (shape : List TableParts) (count : ℕ) → IsStore s → MayPublish s.versions n shape count → s.root.n < n
root_newer s n shape count keeps may = by (version_at s.versions s.versions.current) refl
  where
    by : (o : Option Version) → version_at s.versions s.versions.current ≡ o → s.root.n < n
    by None e = absurd (true≢false (sym keeps.live ∙ ap (λ (o : Option Version). is_some o) e))
    by (Some x) e = omega (arith, may.newer x.n (ap n_of e), (keeps.current x e).number)
