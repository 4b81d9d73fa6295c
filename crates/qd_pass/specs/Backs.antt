-- What a backend over a shared store keeps.
use Rattle.std.specs.Prelude.{◌≡◌, [], Option, Some, None, IfSome}
use Rattle.atomic_table.specs.Seated.{TableId}
use Rattle.qd_session.specs.Looks.{Shown}
use Rattle.qd_shared.specs.Passes.{Pass}
use Rattle.qd_pass.specs.declared.asking.Session.{Session}
use Rattle.qd_pass.specs.Memos.{IsMemoOf}
use Rattle.qd_pass.specs.Passed.{IsReady, shown_by}

-- a session that is away shows nothing
abbrev pub nothing : Shown
nothing = record { history = None; sequenced = 0; known = 0; own = []; faults = 0; pinned = []; pending = None }

abbrev pub back_shown : Option Pass → Shown
back_shown None = nothing
back_shown (Some p) = shown_by p

-- the scoreboard that a pass is of, where it is there
abbrev pub table_in : Option Pass → Option TableId
table_in None = None
table_in (Some p) = Some p.table

module _ {V : Type 0} where
  -- the pass of a session, where it is there
  abbrev pub pass_in : Option (Session V) → Option Pass
  pass_in None = None
  pass_in (Some s) = Some s.pass

  -- A session is there, whose pass is of the store, and is ready; and a memo is of what its pass has noted.
  pub record IsSession (table : TableId) (s : Session V) : Type 0 where
    pub table_is : s.pass.table ≡ table
    pub ready : IsReady s.pass
    pub memo : IfSome s.memo (IsMemoOf s.pass)

  abbrev pub IsBack : TableId → Option (Session V) → Type 0
  IsBack table None = ⊥
  IsBack table (Some s) = IsSession table s
