-- Parts of histories: what is spelled of them, and that they are lawful.
use Rattle.std.proofs.Common.{◌≡◌, ◌⊎◌, inl, inr, ℕ, zero, suc, ◌<◌, ◌≤◌, List, [], ◌∷◌, fold, length, take, drop, refl, sym, ap, ap₂, subst, ◌∙◌, arith}
use Rattle.std.specs.Prelude.{slice_range}
use Rattle.std.proofs.lemmas.List.{take-append-drop, take-take, take_all}
use Rattle.std.proofs.lemmas.List.Sums.{fold-append}
use Rattle.std.proofs.lemmas.Slice.{between_is}
use Rattle.std.proofs.lemmas.Slice.Zip.{AllZip-long}
use Rattle.qd_base.specs.declared.op.Entry.{Entry}
use Rattle.qd_base.specs.declared.part.WalRef.{WalRef}
use Rattle.qd_base.specs.declared.schema.Schema.{Schema}
use Rattle.qd_base.specs.Lawful.{Lawful, LawfulFrom}
use Rattle.qd_base.specs.Replay.{commit, first, replay}
use Rattle.qd_base.specs.Schemas.{schemas_from, schemas_step}
use Rattle.qd_sequencer.specs.Histories.{AreSpelled, IsLawfulOver}
use Rattle.qd_sequencer.specs.Reading.{BreaksOff}
use Rattle.qd_volume.specs.Disk.{Image}
use Rattle.qd_wal.specs.Laws.{OneEntryIsRead}
use Rattle.qd_wal.specs.Reading.{SpellsAt}
use Rattle.qd_wal.specs.Segments.{file_in}
use Rattle.qd_store.specs.Damage.{IsRoundAt}
use Rattle.qd_store.specs.Drafts.{between, round_of}
use Rattle.qd_store.proofs.RoundLists.{round_known}

-- ---- lawful ones

pub lawful_front : (schemas : List Schema) (n : ℕ) (h : List Entry) → LawfulFrom schemas h → LawfulFrom schemas (take n h)
lawful_front schemas zero h lawful = tt
lawful_front schemas (suc n) [] lawful = tt
lawful_front schemas (suc n) (e ∷ h) lawful = (lawful.0, lawful.1, lawful.2, lawful_front (fold schemas_step schemas e.ops) n h lawful.3)

lawful_behind : (schemas : List Schema) (n : ℕ) (h : List Entry) → LawfulFrom schemas h → LawfulFrom (schemas_from schemas (take n h)) (drop n h)
lawful_behind schemas zero h lawful = lawful
lawful_behind schemas (suc n) [] lawful = tt
lawful_behind schemas (suc n) (e ∷ h) lawful = lawful_behind (fold schemas_step schemas e.ops) n h lawful.3

pub lawful_between : (h : List Entry) (n upto : ℕ) → Lawful h → n ≤ upto → LawfulFrom (schemas_from [] (take n h)) (between h n upto)
lawful_between h n upto lawful le =
    subst (λ (front : List Entry). LawfulFrom (schemas_from [] front) (between h n upto)) (take-take n upto h le)
    (lawful_behind [] n (take upto h) (lawful_front [] upto h lawful))

-- ---- spelled ones

pub spelled_take : (n : ℕ) (refs : List WalRef) (h : List Entry) (image : Image) → AreSpelled refs h image → AreSpelled (take n refs) (take n h) image
spelled_take zero refs h image spelled = tt
spelled_take (suc n) [] [] image spelled = tt
spelled_take (suc n) [] (e ∷ h) image spelled = absurd spelled
spelled_take (suc n) (r ∷ refs) [] image spelled = absurd spelled
spelled_take (suc n) (r ∷ refs) (e ∷ h) image spelled = (spelled.0, spelled_take n refs h image spelled.1)

spelled_drop : (n : ℕ) (refs : List WalRef) (h : List Entry) (image : Image) → AreSpelled refs h image → AreSpelled (drop n refs) (drop n h) image
spelled_drop zero refs h image spelled = spelled
spelled_drop (suc n) [] [] image spelled = tt
spelled_drop (suc n) [] (e ∷ h) image spelled = absurd spelled
spelled_drop (suc n) (r ∷ refs) [] image spelled = absurd spelled
spelled_drop (suc n) (r ∷ refs) (e ∷ h) image spelled = spelled_drop n refs h image spelled.1

pub spelled_long : (refs : List WalRef) (h : List Entry) (image : Image) → AreSpelled refs h image → length h ≡ length refs
spelled_long refs h image spelled = AllZip-long (λ (ref : WalRef) (e : Entry). SpellsAt (image (file_in ref)) ref e) refs h spelled

pub spelled_between : (n upto : ℕ) (refs : List WalRef) (h : List Entry) (image : Image) → AreSpelled refs h image
    → AreSpelled (slice_range refs n upto) (between h n upto) image
spelled_between n upto refs h image spelled =
    subst (λ (l : List WalRef). AreSpelled l (between h n upto) image) (sym (between_is refs n upto))
    (spelled_drop n (take upto refs) (take upto h) image (spelled_take upto refs h image spelled))

-- ---- what is read of them

module _ (law : OneEntryIsRead) where
  -- what is spelled is one
  pub spelled_one : (refs : List WalRef) (a b : List Entry) (image : Image) → AreSpelled refs a image → AreSpelled refs b image → a ≡ b
  spelled_one [] [] [] image p q = refl
  spelled_one [] [] (y ∷ b) image p q = absurd q
  spelled_one [] (x ∷ a) b image p q = absurd p
  spelled_one (r ∷ refs) [] b image p q = absurd p
  spelled_one (r ∷ refs) (x ∷ a) [] image p q = absurd q
  spelled_one (r ∷ refs) (x ∷ a) (y ∷ b) image p q = ap₂ (λ (e : Entry) (es : List Entry). e ∷ es) (law (image (file_in r)) r x y p.0 q.0) (spelled_one refs a b image p.1 q.1)

  -- what is read until a round is known is the round of what is spelled
  pub round_one : (refs : List WalRef) (es h : List Entry) (image : Image) → AreSpelled refs h image → IsRoundAt refs es image → es ≡ round_of h
  round_one refs es h image spelled is = by is.known
    where
      k : ℕ
      k = length is.read

      front : is.read ≡ take k h
      front = spelled_one (take k refs) is.read (take k h) image is.spelled (spelled_take k refs h image spelled)

      round : es ≡ round_of (take k h)
      round = is.round ∙ ap round_of front

      by : (length es < k) ⊎ (k ≡ length refs) → es ≡ round_of h
      by (inl lt) = round ∙ round_known k h (omega (arith, lt, ap length round, ap length front))
      by (inr all) = round ∙ ap round_of (take_all k h (omega (arith, all, spelled_long refs h image spelled)))

  -- a lawful history that is spelled doesn't break off
  pub no_break : (refs : List WalRef) (h : List Entry) (schemas : List Schema) (image : Image) (file place : ℕ) → AreSpelled refs h image → LawfulFrom schemas h
      → BreaksOff refs schemas image file place → ⊥
  no_break [] [] schemas image file place p q breaks = breaks
  no_break [] (e ∷ h) schemas image file place p q breaks = breaks
  no_break (r ∷ refs) [] schemas image file place p q breaks = p
  no_break (r ∷ refs) (e ∷ h) schemas image file place p q (inl (inl unread)) = unread.unspelled e p.0
  no_break (r ∷ refs) (e ∷ h) schemas image file place p q (inl (inr bad)) =
      bad.unlawful (subst (λ (x : Entry). IsLawfulOver schemas x) (law (image (file_in r)) r e bad.entry p.0 bad.spelled) (record { changes = q.0; cells = q.1; alone = q.2 }))
  no_break (r ∷ refs) (e ∷ h) schemas image file place p q (inr more) =
      no_break refs h (fold schemas_step schemas e.ops) image file place p.1 q.3
      (subst (λ (x : Entry). BreaksOff refs (fold schemas_step schemas x.ops) image file place) (sym (law (image (file_in r)) r e more.0 p.0 more.1.spelled)) more.2)

-- ---- what they leave

-- the transactions behind the first ones, up to a number, lead from the one database to the other
pub replay_between : (h : List Entry) (n upto : ℕ) → n ≤ upto → replay (first h n) (between h n upto) ≡ first h upto
replay_between h n upto le =
    ap (λ (front : List Entry). replay (replay [] front) (between h n upto)) (sym (take-take n upto h le))
    ∙ sym (fold-append commit [] (take n (take upto h)) (drop n (take upto h)))
    ∙ ap (replay []) (take-append-drop n (take upto h))
