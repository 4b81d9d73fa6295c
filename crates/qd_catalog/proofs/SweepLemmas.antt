-- What a block that is swept changes of the blocks that are kept.
use Rattle.std.proofs.Common.{◌≡◌, ℕ, zero, suc, ◌+◌, ◌<◌, Bool, true, false, cond, nat_eq, List, [], ◌∷◌, length, Option, Some, None, Contains, refl, sym, ap, subst, ◌∙◌, inl, inr, arith}
use Rattle.std.specs.List.{IsDistinct, AllByRecursion}
use Rattle.std.proofs.lemmas.Bool.{cases_Bool, cond-true, cond-false, both_ways, eqb-true, eqb-false}
use Rattle.std.proofs.lemmas.Map.Keys.{IsDistinct-head, IsDistinct-tail}
use Rattle.std.proofs.lemmas.Option.{none-some}
use Rattle.qd_catalog.specs.declared.blocks.Kept.{Kept}
use Rattle.qd_catalog.specs.declared.version.Version.{Version}
use Rattle.qd_catalog.specs.Tracked.{listing, Tracks, Queues}

first_in : (b : ℕ) (bs : List ℕ) → Contains (b ∷ bs) b
first_in b bs = (0, omega arith, refl)

later_in : (x b : ℕ) (bs : List ℕ) → Contains bs b → Contains (x ∷ bs) b
later_in x b bs c = (suc c.0, omega (arith, c.1), c.2)

but_first : (x b : ℕ) (bs : List ℕ) → nat_eq x b ≡ false → Contains (x ∷ bs) b → Contains bs b
but_first x b bs ne (zero, lt, e) = absurd (eqb-false x b ne e)
but_first x b bs ne (suc i, lt, e) = (i, omega (arith, lt), e)

each_in : (P : ℕ → Type 0) (xs : List ℕ) (x : ℕ) → AllByRecursion P xs → Contains xs x → P x
each_in P [] x h c = absurd (omega (arith, c.1))
each_in P (y ∷ ys) x h (zero, lt, e) = subst P e h.0
each_in P (y ∷ ys) x h (suc i, lt, e) = each_in P ys x h.1 (i, omega (arith, lt), e)

module _ (old new : ℕ → Option Kept) (versions : List (Option Version)) (block : ℕ) (rest : List ℕ) (without : (b : ℕ) → new b ≡ cond (nat_eq block b) None (old b)) (tracks : Tracks old (listing versions)) (queues : Queues old (listing versions) (block ∷ rest)) where
  another : (b : ℕ) (k : Kept) → new b ≡ Some k → nat_eq block b ≡ false
  another b k e =
      elim (cases_Bool (nat_eq block b)) [
        | inl holds ↦ absurd (none-some k (sym (cond-true (nat_eq block b) None (old b) holds) ∙ sym (without b) ∙ e))
        | inr none ↦ none
      ]

  before : (b : ℕ) (o : Option Kept) → nat_eq block b ≡ false → new b ≡ o → old b ≡ o
  before b o none e = sym (cond-false (nat_eq block b) None (old b) none) ∙ sym (without b) ∙ e

  pub tracks_swept : Tracks new (listing versions)
  tracks_swept = record {
    rows = λ b k e. tracks.rows b k (before b (Some k) (another b k e) e);
    there = λ b k e r lt. tracks.there b k (before b (Some k) (another b k e) e) r lt;
    absent = λ b e r lt. elim (cases_Bool (nat_eq block b)) [
      | inl holds ↦ subst (λ (x : ℕ). listing versions r x ≡ false) (eqb-true block b holds) (queues.free block (first_in block rest) r lt)
      | inr none ↦ tracks.absent b (before b None none e) r lt
    ];
  }

  not_block : (b : ℕ) → Contains rest b → nat_eq block b ≡ false
  not_block b c = each_in (λ y. nat_eq block y ≡ false) rest b (IsDistinct-head nat_eq block rest queues.once) c

  pub queues_swept : Queues new (listing versions) rest
  queues_swept = record {
    once = IsDistinct-tail nat_eq block rest queues.once;
    there = λ b c e. queues.there b (later_in block b rest c) (before b None (not_block b c) e);
    free = λ b c. queues.free b (later_in block b rest c);
    all = λ b k e h. but_first block b rest (another b k e) (queues.all b k (before b (Some k) (another b k e) e) h);
  }
