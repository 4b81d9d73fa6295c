-- What every event keeps, in nine parts.
use Rattle.std.specs.Prelude.{◌≡◌, ◌≢◌, ℕ, ◌+◌, ◌<◌, ◌≤◌, Bool, true, false, ◌==◌, if◌then◌else◌, List, [], ◌∷◌, length, sum_by, count_by, is_some, Some, None, All}
use mathlib.Core.Option.{some}
use mathlib.Core.List.{IsPrefix}
use lib.ListN.{get_elem?}
use Rattle.qd_score_model.specs.declared.limits.TheConstants.{MAX_SPLITS, ROWS}
use Rattle.qd_score_model.specs.declared.view.Mode.TheVariants.{Sole, Keeper}
use Rattle.qd_score_model.specs.declared.view.Place.{Place}
use Rattle.qd_score_model.specs.declared.view.Phase.{Phase}
use Rattle.qd_score_model.specs.declared.view.Phase.TheVariants.{Idle, Looked, Trying, Pinned}
use Rattle.qd_score_model.specs.declared.view.Version.{Version}
use Rattle.qd_score_model.specs.declared.view.Record.{Record}
use Rattle.qd_score_model.specs.declared.view.View.{View}
use Rattle.qd_score_model.specs.Machine.{Board, State, version_at, hold_of, IsGreatest, AllPresent}

-- the seat counts on the row
abbrev pub counts_on : ℕ → Phase → Bool
counts_on row Idle = false
counts_on row (Looked place) = false
counts_on row (Trying place) = place.row == row
counts_on row (Pinned place) = place.row == row

-- a rising list of numbers above low, none of them above high
abbrev pub RisesWithin : ℕ → ℕ → List ℕ → Type 0
RisesWithin low high [] = low ≤ high
RisesWithin low high (x ∷ xs) = (low < x) × RisesWithin x high xs

-- numbers that never fall from low on, through what each record found and left, up to high
abbrev pub NeverFalls : (Record → ℕ) → (Record → ℕ) → ℕ → ℕ → List Record → Type 0
NeverFalls found left low high [] = low ≤ high
NeverFalls found left low high (x ∷ xs) = (low ≤ found x) × (found x ≤ left x) × NeverFalls found left (left x) high xs

-- how often a number stands in a list
abbrev pub times : ℕ → List ℕ → ℕ
times n xs = count_by (λ x. x == n) xs

module _ {I S : Type 0} where
  -- P holds of the view of each seat
  abbrev pub Each : List (View I S) → (ℕ → View I S → Type 0) → Type 0
  Each views P = (seat : ℕ) (v : View I S) → get_elem? views seat ≡ some v → P seat v

  -- the rooms of all seats, and the seats themselves
  abbrev pub rooms : List (View I S) → ℕ
  rooms views = sum_by (λ (v : View I S). if v.spent then 0 else v.room + 1) views

  -- how often the row is counted on
  abbrev pub counted : ℕ → List (View I S) → ℕ
  counted row views = count_by (λ (v : View I S). counts_on row v.phase) views

  -- how often a position is said to be a seat's own
  abbrev pub claimed : ℕ → List (View I S) → ℕ
  claimed n views = sum_by (λ (v : View I S). times n v.own) views

  -- how many positions all seats say to be their own
  abbrev pub own_by : View I S → ℕ
  own_by v = if v.spent then 0 else length v.own

  abbrev pub added : List (View I S) → ℕ
  added views = sum_by own_by views

  -- a version with this place's number is live in its row
  abbrev pub IsLive : Board I S → Place → Type 0
  IsLive b place = (x : Version S) × (version_at b.versions place.row ≡ Some x) × (x.n ≡ place.n)

  -- the place is the current one, or of a lower number
  abbrev pub WasCurrent : Board I S → Place → Type 0
  WasCurrent b place = (place.n ≤ b.current.n) × (place.n ≡ b.current.n → place.row ≡ b.current.row)

  abbrev pub PhaseFits : Board I S → Phase → Type 0
  PhaseFits b Idle = Unit {0}
  PhaseFits b (Looked place) = WasCurrent b place
  PhaseFits b (Trying place) = WasCurrent b place
  PhaseFits b (Pinned place) = IsLive b place

  -- At most one seat holds the lock. It is there, and it alone has a hold, which sees the board as it stands.
  pub record OneHolder (s : State I S) : Type 0 where
    pub holds : Each s.views (λ seat v. v.hold ≡ hold_of s.board seat)
    pub there : (seat : ℕ) → s.board.holder ≡ Some seat → seat < length s.views

  -- The pins of a row are the seats that count on it. A count stays far below what a word holds.
  pub record PinsAreCounted (s : State I S) : Type 0 where
    pub pins : (row : ℕ) → s.board.pins row ≡ counted row s.views
    pub rooms : rooms s.views ≤ MAX_SPLITS + 1
    -- a seat that went into another counts on nothing
    pub gone : Each s.views (λ seat v. v.spent ≡ true → v.mode ≡ Keeper)

  -- Live rows are those of the versions, and no two have one number. The current version is live, and at most one live
  -- version is newer, none while nobody holds the lock.
  pub record VersionsStand (b : Board I S) : Type 0 where
    pub rows : length b.versions ≡ ROWS
    pub live : (row : ℕ) → b.live row ≡ is_some (version_at b.versions row)
    pub distinct : (row other : ℕ) (x y : Version S) → version_at b.versions row ≡ Some x → version_at b.versions other ≡ Some y → x.n ≡ y.n → row ≡ other
    pub current : IsLive b b.current
    pub newer : (row other : ℕ) (x y : Version S) → version_at b.versions row ≡ Some x → version_at b.versions other ≡ Some y → b.current.n < x.n → b.current.n < y.n → row ≡ other
    pub newest : b.holder ≡ None → IsGreatest b.current.n b.versions

  -- what a seat has seen is a beginning of the one history, and what it met is of that; its own positions lie within it, behind the
  -- items that there were at the opening
  pub record SeenFits (b : Board I S) (v : View I S) : Type 0 where
    pub seen : IsPrefix v.seen b.history
    pub met : All (λ xs. IsPrefix xs v.seen) v.met
    pub own : RisesWithin 0 (length v.seen) v.own
    pub since : RisesWithin b.opened (length b.history) v.own
    pub known : v.known ≤ b.current.n
    pub faults : NeverFalls (λ r. r.faults_found) (λ r. r.faults_left) 0 b.faults v.records
    pub removed : NeverFalls (λ r. r.removed_found) (λ r. r.removed_left) 0 b.removed v.records

  -- One history for all seats: each has seen a beginning of it, and each position is one seat's at most. As many are some
  -- seat's as items have come since the opening. No version stands for more of it than there is.
  pub record OneHistory (s : State I S) : Type 0 where
    pub seats : Each s.views (λ seat v. SeenFits s.board v)
    pub once : (n : ℕ) → claimed n s.views ≤ 1
    pub whole : added s.views + s.board.opened ≡ length s.board.history
    pub versions : IsGreatest (length s.board.history) s.board.versions

  -- a Sole seat has seen the whole history, and all others are Keepers
  pub record SoleFits (s : State I S) (seat : ℕ) (v : View I S) : Type 0 where
    pub seen : v.seen ≡ s.board.history
    pub others : Each s.views (λ other w. other ≢ seat → w.mode ≡ Keeper)

  -- a version that the seat noted has a number that was current, and where it is live still, the shape that was noted
  abbrev pub NotedFits : Board I S → View I S → Type 0
  NotedFits b v = (row : ℕ) (x : Version S) → version_at v.noted row ≡ Some x → (x.n ≤ b.current.n) × ((other : ℕ) (y : Version S) → version_at b.versions other ≡ Some y → y.n ≡ x.n → y.shape ≡ x.shape)

module _ {I S : Type 0} (blocks : S → List ℕ) where
  pub record Kept (s : State I S) : Type 0 where
    pub one_holder : OneHolder s
    pub pins : PinsAreCounted s
    pub versions : VersionsStand s.board
    -- a pinned version is live in its row; one that was looked for was current
    pub phases : Each s.views (λ seat v. PhaseFits s.board v.phase)
    pub blocks_present : s.board.holder ≡ None → AllPresent blocks s.board.versions s.board.present
    pub history : OneHistory s
    pub sole : Each s.views (λ seat v. v.mode ≡ Sole → SoleFits s seat v)
    pub noted : Each s.views (λ seat v. NotedFits s.board v)
    pub keepers : Each s.views (λ seat v. v.mode ≡ Keeper → v.phase ≡ Idle)
