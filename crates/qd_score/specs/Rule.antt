-- The rule of the table: its words, the book in its slot and the views of all seats show a state of the scoreboard that is
-- kept. Word 0 is the lock, word 1 the current place, and word row + 2 is twice the pins of a row, and one more where the
-- row is live. The one slot has the book, while nobody holds the lock.
use Rattle.std.specs.Prelude.{◌≡◌, ℕ, ◌+◌, ◌-◌, ◌*◌, ◌/◌, ◌%◌, ◌<◌, ◌≤◌, ◌⊎◌, Bool, false, if◌then◌else◌, List, [], ◌∷◌, map, length, slice_index, Option, Some, None, IfSome}
use mathlib.Core.Option.{Option as Found, some, none}
use lib.ListN.{get_elem?}
use Rattle.atomic_table.specs.Table.{State as TableState}
use Rattle.qd_score_model.specs.declared.limits.TheConstants.{MAX_SPLITS, ROWS}
use Rattle.qd_score_model.specs.declared.view.Place.{Place}
use Rattle.qd_score_model.specs.declared.view.Version.{Version}
use Rattle.qd_score_model.specs.declared.view.View.{View}
use Rattle.qd_score_model.specs.declared.view.Sight.{Sight}
use Rattle.qd_score_model.specs.Machine.{Book, Board, State, version_at, IsGreatest, AllPresent, behind, first_view, gone}
use Rattle.qd_score_model.specs.Kept.{Kept}
use Rattle.qd_score.specs.declared.limits.TheConstants.{VERSIONS_END}
use Rattle.qd_score.specs.declared.table.Knows.{Knows}

-- the word of a row
abbrev pub row_word : ℕ → Bool → ℕ
row_word pins live = 2 * pins + (if live then 1 else 0)

-- the word of the current place, and the place of a word
abbrev pub place_word : Place → ℕ
place_word place = ROWS * place.n + place.row

abbrev pub place_of : ℕ → Place
place_of word = record { n = word / ROWS; row = word % ROWS }

-- what the words show of a board
pub record WordsShow {S : Type 0} (current : Place) (pins : ℕ → ℕ) (live : ℕ → Bool) (versions : List (Option (Version S))) (words : List ℕ) : Type 0 where
  pub count : length words ≡ ROWS + 2
  pub place : slice_index words 1 ≡ place_word current
  pub row : current.row < ROWS
  pub rows : (row : ℕ) → row < ROWS → slice_index words (row + 2) ≡ row_word (pins row) (live row)
  -- a number fits the word of a place
  pub small : (row : ℕ) (x : Version S) → version_at versions row ≡ Some x → x.n < VERSIONS_END

module _ {I S : Type 0} where
  -- what the holder of the lock sees of a book
  abbrev pub sight_of : Book I S → Sight I S
  sight_of book = record { history = book.history; present = book.present; faults = book.faults; removed = book.removed; current = book.current; versions = book.versions }

  -- the view of a seat that is there, in some state that is kept
  abbrev pub Stands : (S → List ℕ) → View I S → Type 0
  Stands blocks v = (s : State I S) × (seat : ℕ) × Kept blocks s × (get_elem? s.views seat ≡ some v) × (v.spent ≡ false)

module _ {I S : Type 0} (blocks : S → List ℕ) where
  -- What a take finds: a version or none in each row, of which the current one is the newest, none for more of the history
  -- than there is, and every block that a live version lists is present.
  pub record IsInOrder (h : Sight I S) : Type 0 where
    pub rows : length h.versions ≡ ROWS
    pub within : IsGreatest (length h.history) h.versions
    pub greatest : IsGreatest h.current.n h.versions
    pub present : AllPresent blocks h.versions h.present

module _ {I S B : Type 0} where
  abbrev pub view_in : Knows I S B → View I S
  view_in k = k.view

  -- the same seat, with another view
  abbrev pub with_view : Knows I S B → View I S → Knows I S B
  with_view k v = record k { view = v }

  -- a seat holds the lock, and has the slot
  pub record IsHeld (b : Board I S) (words : List ℕ) (homes : List (Found (Option B))) : Type 0 where
    pub seat : ℕ
    pub holder : b.holder ≡ Some seat
    pub lock : slice_index words 0 ≡ 1
    pub home : homes ≡ none ∷ []

  -- what a join leaves of a seat
  abbrev pub nobody : Knows I S B
  nobody = record { view = gone; origin = None }

module _ {I S B F : Type 0} (book : B → Book I S) (sound : B → Type 0) (fixed : B → F) where
  -- the first seat, over the book that it starts with
  abbrev pub first_seat : B → Knows I S B
  first_seat x = record { view = first_view (book x); origin = Some x }

  -- the book is sound where the one that it came from was, and its fixed data are that one's
  abbrev pub ComesFrom : B → B → Type 0
  ComesFrom origin x = (sound origin → sound x) × (fixed x ≡ fixed origin)

  -- a seat that each other one went into has added just what a book has behind the one that it came from
  abbrev pub HasAddedAll : Knows I S B → B → Type 0
  HasAddedAll k x = MAX_SPLITS ≤ k.view.room → IfSome k.origin (λ origin. k.view.own ≡ behind (length (book origin).history) (length (book x).history - length (book origin).history))

  -- the book lies in the slot, as the board shows it
  pub record IsFree (b : Board I S) (origin : B) (words : List ℕ) (homes : List (Found (Option B))) : Type 0 where
    pub holder : b.holder ≡ None
    pub lock : slice_index words 0 ≡ 0
    pub inside : B
    pub home : homes ≡ some (Some inside) ∷ []
    pub history : (book inside).history ≡ b.history
    pub versions : (book inside).versions ≡ b.versions
    pub current : (book inside).current ≡ b.current
    pub present : (book inside).present ≡ b.present
    pub faults : (book inside).faults ≡ b.faults
    pub removed : (book inside).removed ≡ b.removed
    pub comes : ComesFrom origin inside

  module _ (blocks : S → List ℕ) where
    pub record Ruled (t : TableState (Option B) (Knows I S B)) : Type 0 where
      pub state : State I S
      pub origin : B
      pub kept : Kept blocks state
      pub opened : state.board.opened ≡ length (book origin).history
      pub views : map view_in t.views ≡ state.views
      pub origins : (seat : ℕ) (k : Knows I S B) → get_elem? t.views seat ≡ some k → k.view.spent ≡ false → k.origin ≡ Some origin
      pub words : WordsShow state.board.current state.board.pins state.board.live state.board.versions t.words
      pub slot : IsFree state.board origin t.words t.homes ⊎ IsHeld state.board t.words t.homes
