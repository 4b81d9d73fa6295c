-- An account of a maker's works: which wires were given to it, which of its works are out, and which couldn't be started.
use Rattle.std.specs.Prelude.{◌≡◌, ℕ, ◌<◌, List, [], ◌∷◌, ◌++◌, length, slice_get, Some, Result}
use Rattle.std.specs.List.{remove}
use Rattle.std.specs.Result.{MatchResult}
use Rattle.qd_server.specs.declared.maker.TheConstants.{MOST}

pub record Works (W J : Type 0) : Type 0 where
  -- the wires that `make` was given, in order
  pub taken : List W
  -- the works that are out, in the order in which they were made
  pub out : List J
  -- the works that `refused` was given, in order
  pub unstarted : List J

module _ {W J : Type 0} where
  -- a work was made of a wire
  abbrev pub with_work : Works W J → W → J → Works W J
  with_work s wire work = record s { taken = s.taken ++ wire ∷ []; out = s.out ++ work ∷ [] }

  -- a wire was given up for want of memory
  abbrev pub with_wire : Works W J → W → Works W J
  with_wire s wire = record s { taken = s.taken ++ wire ∷ [] }

  -- the work that was made last went back, and these are left out
  abbrev pub back : Works W J → List J → J → Works W J
  back s rest work = record s { out = rest; unstarted = s.unstarted ++ work ∷ [] }

  -- the work at a place among those that are out is done
  abbrev pub without : Works W J → ℕ → Works W J
  without s place = record s { out = remove s.out place }

-- A maker is related to its accounts by `works`. What is asked is asked of some account, and what is promised holds of each.
module _ {W J M : Type 0} (works : M → Works W J → Type 0) where
  -- there is room for one work more
  abbrev pub MayMake : M → Type 0
  MayMake maker = (s : Works W J) × works maker s × (length s.out < MOST)

  -- a work was made of the wire, or the wire was given up
  abbrev pub Makes : {E : Type 0} → M → M → W → Result J E → Type 0
  Makes maker now wire result = (s : Works W J) → works maker s → length s.out < MOST → MatchResult result (λ work. works now (with_work s wire work)) (λ _. works now (with_wire s wire))

  -- the work was made last
  abbrev pub MayGoBack : M → J → Type 0
  MayGoBack maker work = (s : Works W J) × works maker s × ((rest : List J) × (s.out ≡ rest ++ work ∷ []))

  abbrev pub GoesBack : M → M → J → Type 0
  GoesBack maker now work = (s : Works W J) (rest : List J) → works maker s → s.out ≡ rest ++ work ∷ [] → works now (back s rest work)

  module _ {O : Type 0} (gives : J → O → Type 0) where
    -- some work that is out promises to give this
    abbrev pub MayBeDone : M → O → Type 0
    MayBeDone maker out = (s : Works W J) × works maker s × ((place : ℕ) × (work : J) × (slice_get s.out place ≡ Some work) × gives work out)

    -- whichever work promised it isn't out any more
    abbrev pub IsDone : M → M → O → Type 0
    IsDone maker now out = (s : Works W J) (place : ℕ) (work : J) → works maker s → slice_get s.out place ≡ Some work → gives work out → works now (without s place)
