-- Histories that may be unknown.
use Rattle.std.specs.Prelude.{List, [], ◌∷◌, ◌++◌, Option, Some, None}
use Rattle.qd_base.specs.declared.op.Entry.{Entry}

-- what a history is once one entry more has been told: longer by it where it is known
abbrev pub grown : Option (List Entry) → Entry → Option (List Entry)
grown None e = None
grown (Some past) e = Some (past ++ e ∷ [])
