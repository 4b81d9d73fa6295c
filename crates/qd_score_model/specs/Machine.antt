-- The scoreboard as a machine. Seats step one at a time, in any order: a reader pins a version by counting on its row, a
-- writer makes versions live, current and no longer live, and the holder of the lock changes the book.
use Rattle.std.specs.Prelude.{◌≡◌, ◌≢◌, ℕ, zero, suc, ◌+◌, ◌-◌, ◌*◌, ◌<◌, ◌≤◌, max, Bool, true, false, ◌&&◌, ◌==◌, ◌⊎◌, if◌then◌else◌, nat_le, List, [], ◌∷◌, ◌++◌, length, replicate, fold, Contains, slice_set, slice_index_or, is_some, Option, Some, None}
use mathlib.Core.Option.{Option as Found, none, some}
use mathlib.Core.List.{IsPrefix}
use lib.ListN.{get_elem?}
use Rattle.qd_score_model.specs.declared.limits.TheConstants.{MAX_SPLITS, ROWS}
use Rattle.qd_score_model.specs.declared.view.Mode.{Mode}
use Rattle.qd_score_model.specs.declared.view.Mode.TheVariants.{Sole, Writer, Keeper}
use Rattle.qd_score_model.specs.declared.view.Place.{Place}
use Rattle.qd_score_model.specs.declared.view.Phase.TheVariants.{Idle, Looked, Trying, Pinned}
use Rattle.qd_score_model.specs.declared.view.Version.{Version}
use Rattle.qd_score_model.specs.declared.view.Sight.{Sight}
use Rattle.qd_score_model.specs.declared.view.Record.{Record}
use Rattle.qd_score_model.specs.declared.view.View.{View}

-- What lies under the lock, as far as the scoreboard looks at it.
pub record Book (I S : Type 0) : Type 0 where
  pub history : List I
  pub current : Place
  -- one for each row
  pub versions : List (Option (Version S))
  pub present : List ℕ
  -- how many present blocks are queued for removal
  pub queued : ℕ
  pub faults : ℕ
  pub removed : ℕ

-- What all seats share.
pub record Board (I S : Type 0) : Type 0 where
  -- how many items there were when it was opened
  pub opened : ℕ
  pub history : List I
  pub current : Place
  -- how often each row is pinned, and whether it is live
  pub pins : ℕ → ℕ
  pub live : ℕ → Bool
  pub versions : List (Option (Version S))
  pub present : List ℕ
  pub faults : ℕ
  pub removed : ℕ
  -- the seat that holds the lock
  pub holder : Option ℕ

pub record State (I S : Type 0) : Type 0 where
  pub board : Board I S
  pub views : List (View I S)

pub data Event (I S : Type 0) : Type 0 where
  -- the lock, and the book that goes back under it
  Take : Event I S
  Give : Book I S → Event I S
  -- a pin: the current place is read, its row is counted up, the place is read again; and the row is counted down
  Look : Event I S
  Raise : Place → Event I S
  Confirm : Place → Event I S
  Drop : Place → Event I S
  -- a pin of the current version by the holder of the lock
  HeldRaise : Event I S
  GoLive : ℕ → Version S → Event I S
  SetCurrent : Place → Event I S
  Retire : ℕ → Event I S
  Split : Mode → Event I S
  Join : ℕ → Event I S
  Share : Event I S

-- an event of a seat
pub record Step (I S : Type 0) : Type 0 where
  pub seat : ℕ
  pub event : Event I S

-- f with x in place of what it has at the row
abbrev pub put_at : {A : Type 0} → (ℕ → A) → ℕ → A → ℕ → A
put_at f row x r = if r == row then x else f r

module _ {S : Type 0} where
  abbrev pub version_at : List (Option (Version S)) → ℕ → Option (Version S)
  version_at versions row = slice_index_or versions row None

  -- the rows that are live, rising, of versions whose first row is this one
  abbrev pub live_from : ℕ → List (Option (Version S)) → List ℕ
  live_from row [] = []
  live_from row (v ∷ vs) = if is_some v then row ∷ live_from (suc row) vs else live_from (suc row) vs

  -- no live version has a greater number
  abbrev pub IsGreatest : ℕ → List (Option (Version S)) → Type 0
  IsGreatest n versions = (row : ℕ) (x : Version S) → version_at versions row ≡ Some x → x.n ≤ n

-- the count many numbers behind n
abbrev pub behind : ℕ → ℕ → List ℕ
behind n zero = []
behind n (suc count) = suc n ∷ behind (suc n) count

-- a number goes to its place in a rising list
abbrev pub insert : ℕ → List ℕ → List ℕ
insert n [] = n ∷ []
insert n (x ∷ xs) = if nat_le n x then n ∷ x ∷ xs else x ∷ insert n xs

abbrev pub merged : List ℕ → List ℕ → List ℕ
merged [] ys = ys
merged (x ∷ xs) ys = insert x (merged xs ys)

abbrev pub longer : {A : Type 0} → List A → List A → List A
longer xs ys = if nat_le (length ys) (length xs) then xs else ys

abbrev pub same_place : Place → Place → Bool
same_place a b = (a.n == b.n) && (a.row == b.row)

module _ {I S : Type 0} where
  -- what the holder sees as it takes the lock
  abbrev pub sight : Board I S → Sight I S
  sight b = record { history = b.history; present = b.present; faults = b.faults; removed = b.removed; current = b.current; versions = b.versions }

  -- what the seat sees of it: nothing, unless it is the one that holds the lock
  abbrev pub seen_by : Sight I S → ℕ → Option ℕ → Option (Sight I S)
  seen_by x seat None = None
  seen_by x seat (Some holder) = if seat == holder then Some x else None

  abbrev pub hold_of : Board I S → ℕ → Option (Sight I S)
  hold_of b seat = seen_by (sight b) seat b.holder

  -- the record of a hold that ends
  abbrev pub record_of : Sight I S → Book I S → Record
  record_of h book = record {
    items = length h.history;
    faults_found = h.faults;
    removed_found = h.removed;
    faults_left = book.faults;
    removed_left = book.removed;
    queued_left = book.queued;
    live_left = live_from 0 book.versions;
  }

  -- a view as the lock is taken, and as it is given back with this book
  abbrev pub took : View I S → Sight I S → View I S
  took v h = record v { refused = []; hold = Some h }

  abbrev pub gave : View I S → Sight I S → Book I S → View I S
  gave v h book = record v {
    seen = book.history;
    own = v.own ++ behind (length h.history) (length book.history - length h.history);
    known = h.current.n;
    noted = book.versions;
    records = v.records ++ record_of h book ∷ [];
    hold = None;
  }

  -- a view once the current place was read, a row was counted up, the place was read again, and the row counted down
  abbrev pub looked : View I S → Place → View I S
  looked v now = record v { phase = Looked now; known = now.n; reads = v.reads ++ now ∷ [] }

  abbrev pub tries : View I S → Place → View I S
  tries v place = record v { phase = Trying place }

  abbrev pub confirmed : View I S → Place → Place → View I S
  confirmed v now place = record v { phase = if same_place now place then Pinned place else Trying place; known = now.n; reads = v.reads ++ now ∷ [] }

  abbrev pub dropped : View I S → View I S
  dropped v = record v { phase = Idle }

  abbrev pub pinned_held : View I S → Place → View I S
  pinned_held v now = record v { phase = Pinned now; known = now.n }

  -- a view of the holder whose own step changed what it sees, or found a row that is counted on
  abbrev pub sees : View I S → Sight I S → View I S
  sees v h = record v { hold = Some h }

  abbrev pub refuses : View I S → ℕ → ℕ → View I S
  refuses v row word = record v { refused = v.refused ++ record { row = row; word = word } ∷ [] }

  -- a view whose seat was split, and one that isn't Sole any more
  abbrev pub lent : View I S → View I S
  lent v = record v { room = v.room - 1 }

  abbrev pub shared : View I S → View I S
  shared v = record v { mode = Writer }

  -- the board without the row's version
  abbrev pub retired : Board I S → ℕ → Board I S
  retired b row = record b { live = put_at b.live row false; versions = slice_set b.versions row None }

  -- the board after an event of the seat
  abbrev pub board_after : Board I S → ℕ → Event I S → Board I S
  board_after b seat Take = record b { holder = Some seat }
  board_after b seat (Give book) = record b { history = book.history; present = book.present; faults = book.faults; removed = book.removed; holder = None }
  board_after b seat (Raise place) = record b { pins = put_at b.pins place.row (b.pins place.row + 1) }
  board_after b seat (Drop place) = record b { pins = put_at b.pins place.row (b.pins place.row - 1) }
  board_after b seat HeldRaise = record b { pins = put_at b.pins b.current.row (b.pins b.current.row + 1) }
  board_after b seat (GoLive row x) = record b { live = put_at b.live row true; versions = slice_set b.versions row (Some x) }
  board_after b seat (SetCurrent place) = record b { current = place }
  board_after b seat (Retire row) = if b.pins row == 0 then retired b row else b
  board_after b seat e = b

  -- the seat's view after its event
  abbrev pub view_after : Board I S → ℕ → View I S → Event I S → View I S
  view_after b seat v Take = took v (sight b)
  view_after b seat v (Give book) = gave v (sight b) book
  view_after b seat v Look = looked v b.current
  view_after b seat v (Raise place) = tries v place
  view_after b seat v (Confirm place) = confirmed v b.current place
  view_after b seat v (Drop place) = dropped v
  view_after b seat v HeldRaise = pinned_held v b.current
  view_after b seat v (GoLive row x) = sees v (sight (board_after b seat (GoLive row x)))
  view_after b seat v (SetCurrent place) = sees v (sight (board_after b seat (SetCurrent place)))
  view_after b seat v (Retire row) = if b.pins row == 0 then sees v (sight (retired b row)) else refuses v row (2 * b.pins row + 1)
  view_after b seat v (Split mode) = lent v
  view_after b seat v (Join other) = v
  view_after b seat v Share = shared v

  -- the view of a seat that is split off
  abbrev pub newcomer : View I S → Mode → View I S
  newcomer v mode = record { spent = false; mode = mode; room = 0; seen = v.seen; met = []; own = []; known = v.known; phase = Idle; reads = []; noted = v.noted; records = []; refused = []; hold = None }

  -- the view that takes in another
  abbrev pub joined : View I S → View I S → View I S
  joined v w = record v { room = v.room + w.room + 1; seen = longer v.seen w.seen; met = v.seen ∷ w.seen ∷ v.met; own = merged v.own w.own; known = max v.known w.known }

  -- what a join leaves of the other
  abbrev pub gone : View I S
  gone = record { spent = true; mode = Keeper; room = 0; seen = []; met = []; own = []; known = 0; phase = Idle; reads = []; noted = []; records = []; refused = []; hold = None }

  abbrev pub join_views : List (View I S) → ℕ → View I S → ℕ → Found (View I S) → List (View I S)
  join_views views seat v other none = views
  join_views views seat v other (some w) = slice_set (slice_set views seat (joined v w)) other gone

  -- the views after an event of the seat, whose view is v
  abbrev pub views_after : State I S → ℕ → View I S → Event I S → List (View I S)
  views_after s seat v (Split mode) = slice_set s.views seat (lent v) ++ newcomer v mode ∷ []
  views_after s seat v (Join other) = join_views s.views seat v other (get_elem? s.views other)
  views_after s seat v e = slice_set s.views seat (view_after s.board seat v e)

  -- the state after an event of the seat, whose view is v
  abbrev pub happens : State I S → ℕ → View I S → Event I S → State I S
  happens s seat v e = record { board = board_after s.board seat e; views = views_after s seat v e }

  -- nothing, where there is no such seat
  abbrev pub happens_if : State I S → ℕ → Event I S → Found (View I S) → State I S
  happens_if s seat e none = s
  happens_if s seat e (some v) = happens s seat v e

  -- the state after a step, and after a list of steps
  abbrev pub next : State I S → Step I S → State I S
  next s x = happens_if s x.seat x.event (get_elem? s.views x.seat)

  abbrev pub after : State I S → List (Step I S) → State I S
  after s steps = fold next s steps

module _ {S : Type 0} (blocks : S → List ℕ) where
  -- every block that these versions list is present
  abbrev pub AllPresent : List (Option (Version S)) → List ℕ → Type 0
  AllPresent versions present = (row : ℕ) (x : Version S) → version_at versions row ≡ Some x → (block : ℕ) → Contains (blocks x.shape) block → Contains present block

module _ {I S : Type 0} (blocks : S → List ℕ) where
  -- what the holder may give back
  pub record MayGive (b : Board I S) (seat : ℕ) (v : View I S) (book : Book I S) : Type 0 where
    pub holder : b.holder ≡ Some seat
    -- the history goes on behind its end; a Keeper's stays
    pub history : IsPrefix b.history book.history
    pub keeper : v.mode ≡ Keeper → book.history ≡ b.history
    pub faults : b.faults ≤ book.faults
    pub removed : b.removed ≤ book.removed
    -- the book has the rows that the holder's own steps left live, with the numbers and shapes that they went live with
    pub versions : book.versions ≡ b.versions
    pub current : book.current ≡ b.current
    pub greatest : IsGreatest b.current.n b.versions
    pub present : AllPresent blocks b.versions book.present

module _ {I S : Type 0} where
  pub record MayGoLive (b : Board I S) (seat row : ℕ) (x : Version S) : Type 0 where
    pub holder : b.holder ≡ Some seat
    pub is_row : row < ROWS
    pub dead : b.live row ≡ false
    -- the current version is the newest that is live
    pub greatest : IsGreatest b.current.n b.versions
    pub newer : b.current.n < x.n
    pub within : x.n ≤ length b.history

  pub record MaySetCurrent (b : Board I S) (seat : ℕ) (place : Place) : Type 0 where
    pub holder : b.holder ≡ Some seat
    pub live : (x : Version S) × (version_at b.versions place.row ≡ Some x) × (x.n ≡ place.n)
    pub newer : b.current.n < place.n

  pub record MayRetire (b : Board I S) (seat row : ℕ) : Type 0 where
    pub holder : b.holder ≡ Some seat
    pub live : b.live row ≡ true
    pub other : row ≢ b.current.row

  pub record MaySplit (v : View I S) (mode : Mode) : Type 0 where
    pub room : 0 < v.room
    pub kind : (mode ≡ Keeper) ⊎ ((mode ≡ Writer) × (v.mode ≡ Writer))

  pub record MayJoin (views : List (View I S)) (seat : ℕ) (other : ℕ) (w : View I S) : Type 0 where
    pub apart : other ≢ seat
    pub there : get_elem? views other ≡ some w
    pub stands : w.spent ≡ false
    pub no_lock : w.hold ≡ None
    pub no_pin : (w.phase ≡ Idle) ⊎ ((place : Place) × (w.phase ≡ Looked place))

module _ {I S : Type 0} (blocks : S → List ℕ) where
  -- what an event of the seat needs, whose view is v
  abbrev pub Needs : State I S → ℕ → View I S → Event I S → Type 0
  Needs s seat v Take = s.board.holder ≡ None
  Needs s seat v (Give book) = MayGive blocks s.board seat v book
  Needs s seat v Look = (v.phase ≡ Idle) × (v.mode ≢ Keeper)
  Needs s seat v (Raise place) = v.phase ≡ Looked place
  Needs s seat v (Confirm place) = v.phase ≡ Trying place
  Needs s seat v (Drop place) = (v.phase ≡ Trying place) ⊎ (v.phase ≡ Pinned place)
  Needs s seat v HeldRaise = (s.board.holder ≡ Some seat) × (v.phase ≡ Idle) × (v.mode ≢ Keeper)
  Needs s seat v (GoLive row x) = MayGoLive s.board seat row x
  Needs s seat v (SetCurrent place) = MaySetCurrent s.board seat place
  Needs s seat v (Retire row) = MayRetire s.board seat row
  Needs s seat v (Split mode) = MaySplit v mode
  Needs s seat v (Join other) = (w : View I S) × MayJoin s.views seat other w
  Needs s seat v Share = v.mode ≡ Sole

  -- the seat is there, and its event may come
  abbrev pub MayHappen : State I S → Step I S → Type 0
  MayHappen s x = (v : View I S) × (get_elem? s.views x.seat ≡ some v) × (v.spent ≡ false) × Needs s x.seat v x.event

  -- each step may come where it stands
  abbrev pub IsRun : State I S → List (Step I S) → Type 0
  IsRun s [] = Unit {0}
  IsRun s (x ∷ xs) = MayHappen s x × IsRun (next s x) xs

  -- what the board is opened over: row 0 is the one live row, and the current one
  pub record MayOpen (book : Book I S) (first : Version S) : Type 0 where
    pub versions : book.versions ≡ Some first ∷ replicate (ROWS - 1) None
    pub current : book.current ≡ record { n = first.n; row = 0 }
    pub within : first.n ≤ length book.history
    pub present : AllPresent blocks book.versions book.present

module _ {I S : Type 0} where
  -- the view of the first seat
  abbrev pub first_view : Book I S → View I S
  first_view book = record { spent = false; mode = Sole; room = MAX_SPLITS; seen = book.history; met = []; own = []; known = book.current.n; phase = Idle; reads = []; noted = []; records = []; refused = []; hold = None }

  abbrev pub opening : Book I S → State I S
  opening book = record {
    board = record { opened = length book.history; history = book.history; current = book.current; pins = λ row. 0; live = λ row. row == 0; versions = book.versions; present = book.present; faults = book.faults; removed = book.removed; holder = None };
    views = first_view book ∷ [];
  }
