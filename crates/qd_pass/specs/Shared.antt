-- The rule of a session over a shared store: other sessions write and apply beside it.
use Rattle.std.specs.Prelude.{◌≡◌, ◌≢◌, ◌⊎◌, ℕ, ◌<◌, ◌≤◌, List, Contains, Option}
use Rattle.qd_base.specs.Codes.{number_of}
use Rattle.qd_base.specs.declared.code.Code.TheVariants as code
use Rattle.qd_base.specs.declared.op.Entry.{Entry}
use Rattle.qd_base.specs.declared.request.Request.{Request}
use Rattle.qd_base.specs.declared.request.Request.TheVariants as request
use Rattle.qd_base.specs.declared.request.Reply.{Reply}
use Rattle.qd_base.specs.declared.request.Reply.TheVariants as reply
use Rattle.qd_session.specs.Allowed.{Allowed}
use Rattle.qd_session.specs.Looks.{Look, PinnedRow}

-- all rows of versions but one were found pinned
abbrev pub AllPinned : List PinnedRow → Type 0
AllPinned pinned = (current : ℕ) × ((row : ℕ) → row < 64 → row ≢ current → (word : ℕ) × Contains pinned (record { row = row; word = word }) × (3 ≤ word))

-- an apply is refused where each version but the current one is pinned by some reader, and no row is free for the next one
abbrev pub IsCrowded : Look → Request → Reply → Type 0
IsCrowded now request.Apply (reply.Refused number place) = (number ≡ number_of code.NoRow) × (place ≡ 0) × AllPinned now.pinned
IsCrowded now asked given = ⊥

-- The rule of the product, and that refusal.
abbrev pub AllowedShared : Option (List Entry) → (before now : Look) → (time : ℕ) → Request → Reply → Type 0
AllowedShared history before now time asked given = Allowed history before now time asked given ⊎ IsCrowded now asked given
