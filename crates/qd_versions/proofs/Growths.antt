-- Blocks that grow: their files, and what of them the steps of a publication keep.
use Rattle.std.proofs.Common.{◌≡◌, ◌≢◌, ◌⊎◌, inl, inr, ℕ, zero, suc, ◌+◌, ◌<◌, ◌≤◌, nat_eq, Bool, true, false, ◌||◌, List, [], ◌∷◌, length, get_or, All, Result, Ok, Err, refl, sym, ap, ◌∙◌, subst, arith}
use Rattle.std.specs.Arc.{arc_value}
use Rattle.std.specs.List.{IsDistinct}
use Rattle.std.proofs.lemmas.Bool.{eqb-true, eqb-false}
use Rattle.std.proofs.lemmas.List.{length-map}
use Rattle.std.proofs.lemmas.List.Elements.{All-head, All-tail}
use Rattle.std.proofs.lemmas.Map.Keys.{apart_from_distinct}
use Rattle.qd_base.specs.declared.limits.TheConstants.{MAX_COLUMNS}
use Rattle.qd_base.specs.declared.schema.ColType.{ColType}
use Rattle.qd_block.specs.Blocks.{Block}
use Rattle.qd_volume.specs.Disk.{Disk, Image}
use Rattle.qd_durable.specs.Moments.{ComesFrom, EachNow, LeavesOnly, Moves, SameBut}
use Rattle.qd_durable.proofs.Moved.{but_both, but_same, leaves_both, leaves_still, leaves_weaker, moments_have, moves_both, moves_still, moves_weaker, now_has}
use Rattle.qd_column_files.specs.Files.{HoldsBlock, is_file_of}
use Rattle.qd_column_files.specs.Growing.{BlockBehind, GoesOn, GrowsBlock, GrowsHeld}
use Rattle.qd_versions.specs.declared.growing.Growing.{Growing}
use Rattle.qd_versions.specs.Publishing.{is_file_among}
use Rattle.qd_versions.specs.Tails.{AreGrownTails, AreReady, GrowsBlocks, IsFit, IsGrownTail, Keeps, blocks_growing, grown_of}
use Rattle.qd_versions.proofs.Files.{held_kept, low_of, of_not_earlier, of_not_later, or_left, or_right}
use Rattle.qd_versions.proofs.Kept.{leaves_and}

-- two numbers are one or not
one_or_other : (a b : ℕ) → (a ≡ b) ⊎ (a ≢ b)
one_or_other a b = by (nat_eq a b) refl
  where
    by : (same : Bool) → nat_eq a b ≡ same → (a ≡ b) ⊎ (a ≢ b)
    by true e = inl (eqb-true a b e)
    by false e = inr (eqb-false a b e)

less_or_more : (a b : ℕ) → a ≢ b → (a < b) ⊎ (b < a)
less_or_more a b differ = grind arith

-- ---- their files

-- a file of a block is none of another one
pub of_not_other : (block other file : ℕ) → block ≢ other → is_file_of block file ≡ true → is_file_of other file ≡ false
of_not_other block other file differ is = by (less_or_more block other differ)
  where
    by : (block < other) ⊎ (other < block) → is_file_of other file ≡ false
    by (inl less) = of_not_later block other file less is
    by (inr more) = of_not_earlier block other file more is

pub or_none : (a b : Bool) → a ≡ false → b ≡ false → (a || b) ≡ false
or_none true b first second = first
or_none false b first second = second

-- the low files are none of any block
pub low_among : (blocks : List ℕ) (file : ℕ) → file ≤ 3 → is_file_among blocks file ≡ false
low_among [] file low = refl
low_among (b ∷ bs) file low = or_none (is_file_of b file) (is_file_among bs file) (low_of b file low) (low_among bs file low)

-- a file that is none of the blocks is none of one of them
among_at : (growing : List Growing) (k : ℕ) (d : Growing) (file : ℕ) → k < length growing → is_file_among (blocks_growing growing) file ≡ false → is_file_of (get_or growing k d).block file ≡ false
among_at [] k d file less e = absurd (omega arith)
among_at (x ∷ xs) zero d file less e = or_left (is_file_of x.block file) (is_file_among (blocks_growing xs) file) e
among_at (x ∷ xs) (suc k) d file less e = among_at xs k d file (omega (arith, less)) (or_right (is_file_of x.block file) (is_file_among (blocks_growing xs) file) e)

-- a file of a block from a number on is none of those below it
pub new_not_among : (next block : ℕ) (growing : List Growing) (file : ℕ) → All (IsFit next) growing → next ≤ block → is_file_of block file ≡ true → is_file_among (blocks_growing growing) file ≡ false
new_not_among next block [] file fit low is = refl
new_not_among next block (x ∷ xs) file fit low is =
    or_none (is_file_of x.block file) (is_file_among (blocks_growing xs) file)
    (of_not_earlier block x.block file (omega (arith, (All-head (IsFit next) x xs fit).below, low)) is)
    (new_not_among next block xs file (All-tail (IsFit next) x xs fit) low is)

number_of : (growing : List Growing) (k : ℕ) (d : Growing) → get_or (blocks_growing growing) k d.block ≡ (get_or growing k d).block
number_of [] k d = refl
number_of (x ∷ xs) zero d = refl
number_of (x ∷ xs) (suc k) d = number_of xs k d

-- no two are one block
differ_at : (growing : List Growing) (i k : ℕ) (d : Growing) → IsDistinct nat_eq (blocks_growing growing) → i < k → k < length growing → (get_or growing i d).block ≢ (get_or growing k d).block
differ_at growing i k d distinct less here =
    let apart = apart_from_distinct nat_eq (blocks_growing growing) i k d.block distinct less (subst (λ n. k < n) (sym (length-map growing (λ (x : Growing). x.block))) here) in
    λ e. eqb-false (get_or (blocks_growing growing) i d.block) (get_or (blocks_growing growing) k d.block) apart (number_of growing i d ∙ e ∙ sym (number_of growing k d))

pub differ : (growing : List Growing) (i k : ℕ) (d : Growing) → IsDistinct nat_eq (blocks_growing growing) → i < length growing → k < length growing → k ≢ i → (get_or growing k d).block ≢ (get_or growing i d).block
differ growing i k d distinct there here other = by (less_or_more k i other)
  where
    by : (k < i) ⊎ (i < k) → (get_or growing k d).block ≢ (get_or growing i d).block
    by (inl less) = differ_at growing k i d distinct less there
    by (inr more) = λ e. differ_at growing i k d distinct more here (sym e)

-- ---- blocks that are held

-- an image holds a block of each number
abbrev pub HoldsEach : (Growing → Block) → List Growing → Image → Type 0
HoldsEach f growing image = All (λ x. HoldsBlock x.block (f x) image) growing

-- the blocks have few columns
abbrev pub AreNarrow : (Growing → Block) → List Growing → Type 0
AreNarrow f growing = (k : ℕ) (d : Growing) → k < length growing → length (f (get_or growing k d)).kinds ≤ MAX_COLUMNS

-- files that are touched are none of the blocks
abbrev pub AreLeft : (ℕ → Bool) → List Growing → Type 0
AreLeft touched growing = (k file : ℕ) (d : Growing) → k < length growing → is_file_of (get_or growing k d).block file ≡ true → touched file ≡ false

module _ (f : Growing → Block) (growing : List Growing) (narrow : AreNarrow f growing) (touched : ℕ → Bool) (left : AreLeft touched growing) where
  each_kept : (earlier image : Image) → HoldsEach f growing earlier → SameBut touched earlier image → HoldsEach f growing image
  each_kept earlier image holds same k d less =
      let x = get_or growing k d in
      held_kept x.block (f x) touched earlier image (narrow k d less) (λ file is. left k file d less is) same (holds k d less)

  module _ (a b : Disk) (moves : Moves (SameBut touched) a b) (held : EachNow a (HoldsEach f growing)) where
    pub each_moments : LeavesOnly a b (HoldsEach f growing)
    each_moments = moments_have (SameBut touched) (HoldsEach f growing) (HoldsEach f growing) a b moves held each_kept

    pub each_now : EachNow b (HoldsEach f growing)
    each_now = now_has (SameBut touched) (HoldsEach f growing) (HoldsEach f growing) a b moves held each_kept

-- the blocks that go on
module _ (next : ℕ) (growing : List Growing) (fit : All (IsFit next) growing) (held : ℕ → Block) where
  abbrev was : Growing → Block
  was x = held x.block

  pub narrow_was : (disk : Disk) → AreReady held growing disk → AreNarrow was growing
  narrow_was disk ready k d less = subst (λ (ks : List ColType). length ks ≤ MAX_COLUMNS) (sym (ready k d less).0.kinds) (fit k d less).few

  pub narrow_grown : (disk : Disk) → AreReady held growing disk → AreNarrow (grown_of held) growing
  narrow_grown disk ready k d less = narrow_was disk ready k d less

  pub ready_keeps : (disk : Disk) → AreReady held growing disk → EachNow disk (Keeps held growing)
  ready_keeps disk ready image now k d less = (ready k d less).1 image now

  -- they stay so while their files do
  pub ready_kept : (touched : ℕ → Bool) → AreLeft touched growing → (a b : Disk) → Moves (SameBut touched) a b → AreReady held growing a → AreReady held growing b
  ready_kept touched left a b moves ready k d less =
      ((ready k d less).0, λ image now. each_now was growing (narrow_was a ready) touched left a b moves (ready_keeps a ready) image now k d less)

-- ---- rows are put behind one after the other

-- the first blocks have grown
pub record GrownFirst (i : ℕ) (held : ℕ → Block) (growing now : List Growing) (before after : Disk) : Type 0 where
  pub moments : LeavesOnly before after (Keeps held growing)
  pub stays : EachNow after (Keeps held growing)
  pub grown : (k : ℕ) (d : Growing) → k < i → EachNow after (HoldsBlock (get_or growing k d).block (grown_of held (get_or growing k d)))
  pub tails : AreGrownTails i held growing now

pub record HasGrown (i : ℕ) (growing now : List Growing) (before after : Disk) : Type 0 where
  pub elsewhere : Moves (SameBut (is_file_among (blocks_growing growing))) before after
  pub grows : (held : ℕ → Block) → AreReady held growing before → GrownFirst i held growing now before after

pub grown_none : (growing : List Growing) (disk : Disk) → HasGrown 0 growing growing disk disk
grown_none growing disk = record {
  elsewhere = moves_still (SameBut (is_file_among (blocks_growing growing))) disk (but_same (is_file_among (blocks_growing growing)));
  grows = λ held ready. record {
    moments = leaves_still (Keeps held growing) disk (λ image now k d less. (ready k d less).1 image now);
    stays = λ image now k d less. (ready k d less).1 image now;
    grown = λ k d less. absurd (omega arith);
    tails = λ k d e less. absurd (omega arith);
  };
}

module _ (next i : ℕ) (growing : List Growing) (fit : All (IsFit next) growing) (distinct : IsDistinct nat_eq (blocks_growing growing)) (here : i < length growing) (x : Growing) (is : (d : Growing) → get_or growing i d ≡ x) (now : List Growing) (a b c : Disk) (had : HasGrown i growing now a b) where
  one_among : (earlier image : Image) → SameBut (is_file_of x.block) earlier image → SameBut (is_file_among (blocks_growing growing)) earlier image
  one_among earlier image same file e = same file (subst (λ (y : Growing). is_file_of y.block file ≡ false) (is x) (among_at growing i x file here e))

  grown_elsewhere : Moves (SameBut (is_file_of x.block)) b c → Moves (SameBut (is_file_among (blocks_growing growing))) a c
  grown_elsewhere moves =
      moves_both (SameBut (is_file_among (blocks_growing growing))) (SameBut (is_file_among (blocks_growing growing))) (SameBut (is_file_among (blocks_growing growing))) a b c (λ p q r. r) (but_both (is_file_among (blocks_growing growing))) had.elsewhere
      (moves_weaker (SameBut (is_file_of x.block)) (SameBut (is_file_among (blocks_growing growing))) b c one_among moves)

  -- a block at another place keeps its files
  files_apart : (k : ℕ) (d : Growing) → k < length growing → k ≢ i → (file : ℕ) → is_file_of (get_or growing k d).block file ≡ true → is_file_of x.block file ≡ false
  files_apart k d less other file of =
      of_not_other (get_or growing k d).block x.block file (subst (λ (y : Growing). (get_or growing k d).block ≢ y.block) (is d) (differ growing i k d distinct here less other)) of

  module _ (held : ℕ → Block) (ready : AreReady held growing a) where
    abbrev before_it : GrownFirst i held growing now a b
    before_it = had.grows held ready

    goes : GoesOn (held x.block) x.tail (arc_value x.rows)
    goes = subst (λ (y : Growing). GoesOn (held y.block) y.tail (arc_value y.rows)) (is x) (ready i x here).0

    it_was : EachNow b (HoldsBlock x.block (held x.block))
    it_was image now = subst (λ (y : Growing). HoldsBlock y.block (held y.block) image) (is x) (before_it.stays image now i x here)

    -- the block at the place, and the others
    all_of : (image : Image) → HoldsBlock x.block (held x.block) image × ComesFrom (SameBut (is_file_of x.block)) b image → Keeps held growing image
    all_of image both k d less = by (one_or_other k i)
      where
        by : (k ≡ i) ⊎ (k ≢ i) → HoldsBlock (get_or growing k d).block (held (get_or growing k d).block) image
        by (inl same) = subst (λ (y : Growing). HoldsBlock y.block (held y.block) image) (sym (ap (λ n. get_or growing n d) same ∙ is d)) both.0
        by (inr other) =
            let y = get_or growing k d in
            held_kept y.block (held y.block) (is_file_of x.block) both.1.0 image (narrow_was next growing fit held a ready k d less) (files_apart k d less other) both.1.2 (before_it.stays both.1.0 both.1.1 k d less)

    module _ {T E : Type 0} (result : Result T E) (new : BlockBehind) (grows : GrowsBlock result x.block x.tail new (arc_value x.rows) b c) where
      abbrev it : GrowsHeld result x.block (held x.block) new (arc_value x.rows).rows b c
      it = grows.grows (held x.block) goes it_was

      kept_moments : LeavesOnly a c (Keeps held growing)
      kept_moments =
          leaves_both a b c (Keeps held growing) before_it.moments
          (leaves_weaker (λ image. HoldsBlock x.block (held x.block) image × ComesFrom (SameBut (is_file_of x.block)) b image) (Keeps held growing) b c all_of
          (leaves_and (HoldsBlock x.block (held x.block)) (ComesFrom (SameBut (is_file_of x.block)) b) b c it.moments grows.elsewhere.moments))

      kept_now : EachNow c (Keeps held growing)
      kept_now image now = all_of image (it.stays image now, grows.elsewhere.now image now)

  pub grown_failed : {T E : Type 0} (fault answer : E) (new : BlockBehind) → GrowsBlock {T = T} {E = E} (Err fault) x.block x.tail new (arc_value x.rows) b c → (later : List Growing) → GrowsBlocks {T = T} {E = E} (Err answer) growing later a c
  grown_failed {T} {E} fault answer new grows later = record {
    elsewhere = grown_elsewhere grows.elsewhere;
    grows = λ held ready. record {
      moments = kept_moments held ready {T = T} {E = E} (Err fault) new grows;
      stays = kept_now held ready {T = T} {E = E} (Err fault) new grows;
      grown = tt;
      tails = tt;
    };
  }

  pub grown_more : {T E : Type 0} (done : T) (y : Growing) (later : List Growing) → y.block ≡ x.block → ((e : Growing) → get_or later i e ≡ y) → ((k : ℕ) (e : Growing) → k < i → get_or later k e ≡ get_or now k e) → GrowsBlock {T = T} {E = E} (Ok done) x.block x.tail y.tail (arc_value x.rows) b c → HasGrown (i + 1) growing later a c
  grown_more {T} {E} done y later block at before grows = record {
    elsewhere = grown_elsewhere grows.elsewhere;
    grows = λ held ready. record {
      moments = kept_moments held ready {T = T} {E = E} (Ok done) y.tail grows;
      stays = kept_now held ready {T = T} {E = E} (Ok done) y.tail grows;
      grown = λ k d less. by held ready k d (cases k less);
      tails = λ k d e less. behind held ready k d e (cases k less);
    };
  }
    where
      cases : (k : ℕ) → k < i + 1 → (k < i) ⊎ (k ≡ i)
      cases k less = grind arith

      by : (held : ℕ → Block) → AreReady held growing a → (k : ℕ) (d : Growing) → (k < i) ⊎ (k ≡ i) → EachNow c (HoldsBlock (get_or growing k d).block (grown_of held (get_or growing k d)))
      by held ready k d (inl lower) =
          let y = get_or growing k d in
          let other : k ≢ i = λ e. omega (arith, e, lower) in
          let less : k < length growing = omega (arith, lower, here) in
          now_has (SameBut (is_file_of x.block)) (HoldsBlock y.block (grown_of held y)) (HoldsBlock y.block (grown_of held y)) b c grows.elsewhere ((had.grows held ready).grown k d lower)
          (λ earlier image holds same. held_kept y.block (grown_of held y) (is_file_of x.block) earlier image (narrow_grown next growing fit held a ready k d less) (files_apart k d less other) same holds)
      by held ready k d (inr same) =
          subst (λ (y : Growing). EachNow c (HoldsBlock y.block (grown_of held y))) (sym (ap (λ n. get_or growing n d) same ∙ is d))
          (grows.grows (held x.block) (goes held ready) (it_was held ready)).grown.0

      its_tail : (held : ℕ → Block) → AreReady held growing a → IsGrownTail held x y
      its_tail held ready = record { block = block; tail = (grows.grows (held x.block) (goes held ready) (it_was held ready)).tail }

      behind : (held : ℕ → Block) → AreReady held growing a → (k : ℕ) (d e : Growing) → (k < i) ⊎ (k ≡ i) → IsGrownTail held (get_or growing k d) (get_or later k e)
      behind held ready k d e (inl lower) = subst (λ (z : Growing). IsGrownTail held (get_or growing k d) z) (sym (before k e lower)) ((had.grows held ready).tails k d e lower)
      behind held ready k d e (inr same) =
          subst (λ n. IsGrownTail held (get_or growing n d) (get_or later n e)) (sym same)
          (subst (λ (z : Growing). IsGrownTail held z (get_or later i e)) (sym (is d)) (subst (λ (z : Growing). IsGrownTail held x z) (sym (at e)) (its_tail held ready)))

pub grown_all : {T E : Type 0} (done : T) (growing now : List Growing) (before after : Disk) → length now ≡ length growing → HasGrown (length growing) growing now before after → GrowsBlocks {T = T} {E = E} (Ok done) growing now before after
grown_all done growing now before after count had = record {
  elsewhere = had.elsewhere;
  grows = λ held ready.
      let g = had.grows held ready in
      record { moments = g.moments; stays = g.stays; grown = λ image is k d less. g.grown k d less image is; tails = record { count = count; each = g.tails } };
}
