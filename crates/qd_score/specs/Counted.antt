-- The book of numbers as a scoreboard sees it.
use Rattle.std.specs.Prelude.{◌≡◌, ℕ, ◌-◌, ◌≤◌, List, [], ◌∷◌, replicate, Option, Some, None}
use Rattle.qd_score_model.specs.declared.limits.TheConstants.{ROWS}
use Rattle.qd_score_model.specs.declared.view.Version.{Version}
use Rattle.qd_score_model.specs.Machine.{Book, version_at}
use Rattle.qd_score.specs.declared.counted.CountBook.{CountBook}
use Rattle.qd_score.specs.declared.counted.Listed.{Listed}

abbrev pub version_of : Option Listed → Option (Version (List ℕ))
version_of None = None
version_of (Some listed) = Some (record { n = listed.n; shape = listed.blocks.items })

abbrev pub book_of : CountBook → Book ℕ (List ℕ)
book_of b = record {
  history = b.numbers.items;
  current = record { n = b.current; row = b.row };
  versions = version_of b.first ∷ version_of b.second ∷ replicate (ROWS - 2) None;
  present = b.present.items;
  queued = b.queued;
  faults = b.faults;
  removed = b.removed;
}

-- a shape is the list of its blocks
abbrev pub blocks_of : List ℕ → List ℕ
blocks_of shape = shape

-- a version that lists no block
abbrev pub bare : ℕ → Version (List ℕ)
bare n = record { n = n; shape = [] }

-- version 0 is live in row 0, and is the current one
pub record IsFirst (b : Book ℕ (List ℕ)) : Type 0 where
  pub versions : b.versions ≡ Some (bare 0) ∷ None ∷ replicate (ROWS - 2) None
  pub current : b.current ≡ record { n = 0; row = 0 }

-- version 1 is live in row 1 beside it, and is the current one
pub record IsSecond (b : Book ℕ (List ℕ)) : Type 0 where
  pub versions : b.versions ≡ Some (bare 0) ∷ Some (bare 1) ∷ replicate (ROWS - 2) None
  pub current : b.current ≡ record { n = 1; row = 1 }

-- version 1 alone is live, and is the current one
pub record IsThird (b : Book ℕ (List ℕ)) : Type 0 where
  pub versions : b.versions ≡ None ∷ Some (bare 1) ∷ replicate (ROWS - 2) None
  pub current : b.current ≡ record { n = 1; row = 1 }

-- no live version lists a block, or is newer than the current one
pub record AreBare (b : Book ℕ (List ℕ)) : Type 0 where
  pub each : (row : ℕ) (x : Version (List ℕ)) → version_at b.versions row ≡ Some x → (x.n ≤ b.current.n) × (x.shape ≡ [])
