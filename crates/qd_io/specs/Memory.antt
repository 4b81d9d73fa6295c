-- The devices over memory: what they hold, when their calls fail, and what each call does to them.
use Rattle.std.specs.Prelude.{◌≡◌, ℕ, Bool, true, false, nat_eq, List, [], ◌++◌, length, take, drop, min, Option, None, Some, Result, Ok, Err}
use Rattle.std.specs.List.{list_any}
use Rattle.qd_io.specs.declared.fault.IoFault.{IoFault}
use Rattle.qd_io.specs.declared.fault.IoFault.TheVariants.{Failed, Memory}
use Rattle.qd_io.specs.Clocks.{Times, after_time, always, next_time}
use Rattle.qd_io.specs.Ends.{counts_together}

-- which calls of a device over memory fail
pub record Plan : Type 0 where
  -- how many calls were made
  pub calls : ℕ
  -- the numbers, from 0, of the calls that fail
  pub fails : List ℕ
  -- how many calls have failed
  pub failed : ℕ

-- one more, up to the greatest number that a count can show
abbrev pub counted : ℕ → ℕ
counted n = counts_together n 1

-- whether the next call fails: its number is among those that do
abbrev pub fails_now : Plan → Bool
fails_now plan = list_any (λ number. nat_eq number plan.calls) plan.fails

-- after a call that did what it was asked
abbrev pub after_pass : Plan → Plan
after_pass plan = record plan { calls = counted plan.calls }

-- after a call that failed
abbrev pub after_failure : Plan → Plan
after_failure plan = record plan { calls = counted plan.calls; failed = counted plan.failed }

-- a source over memory: the bytes that reads may still give, and the most that one read gives
pub record Unread : Type 0 where
  pub left : List ℕ
  pub piece : ℕ
  pub plan : Plan

-- a sink over memory: the bytes that writes have taken, and the most that one write takes
pub record Written : Type 0 where
  pub taken : List ℕ
  pub piece : ℕ
  pub plan : Plan

-- a read that gives n bytes
pub record GivesPiece (old new : Unread) (before after : List ℕ) (n : ℕ) : Type 0 where
  pub not_listed : fails_now old.plan ≡ false
  -- as many of the bytes left as a piece has and the buffer has room for
  pub most : n ≡ min old.piece (min (length before) (length old.left))
  -- what is behind them in the buffer stays
  pub buffer : after ≡ take n old.left ++ drop n before
  pub source : new ≡ record { left = drop n old.left; piece = old.piece; plan = after_pass old.plan }

-- a read that fails, since its number is among those that do
pub record FailsRead (old new : Unread) (before after : List ℕ) : Type 0 where
  pub listed : fails_now old.plan ≡ true
  pub buffer : after ≡ before
  pub source : new ≡ record { left = old.left; piece = old.piece; plan = after_failure old.plan }

-- what a read of a source over memory does to the source and the buffer: it never wants memory
abbrev pub MemReads : Unread → Unread → List ℕ → List ℕ → Result ℕ IoFault → Type 0
MemReads old new before after (Ok n) = GivesPiece old new before after n
MemReads old new before after (Err Failed) = FailsRead old new before after
MemReads old new before after (Err Memory) = ⊥

-- a write that takes n of the bytes
pub record TakesPiece (old new : Written) (bytes : List ℕ) (n : ℕ) : Type 0 where
  pub not_listed : fails_now old.plan ≡ false
  -- as many as a piece has
  pub most : n ≡ min old.piece (length bytes)
  pub sink : new ≡ record { taken = old.taken ++ take n bytes; piece = old.piece; plan = after_pass old.plan }

-- a write that fails, since its number is among those that do
pub record FailsWrite (old new : Written) : Type 0 where
  pub listed : fails_now old.plan ≡ true
  pub sink : new ≡ record { taken = old.taken; piece = old.piece; plan = after_failure old.plan }

-- what a write to a sink over memory does to it: where there is no memory for the bytes everything stays, the
-- number of the next write too
abbrev pub MemWrites : Written → Written → List ℕ → Result ℕ IoFault → Type 0
MemWrites old new bytes (Ok n) = TakesPiece old new bytes n
MemWrites old new bytes (Err Failed) = FailsWrite old new
MemWrites old new bytes (Err Memory) = new ≡ old

-- a clock over memory: the times that its calls give
pub record Ticking : Type 0 where
  pub times : Times
  pub plan : Plan

-- a call that gives a time
pub record TakesTime (old new : Ticking) (time : ℕ) : Type 0 where
  pub not_listed : fails_now old.plan ≡ false
  pub next : time ≡ next_time old.times
  pub clock : new ≡ record { times = after_time old.times; plan = after_pass old.plan }

-- a call that fails, since its number is among those that do
pub record FailsTime (old new : Ticking) : Type 0 where
  pub listed : fails_now old.plan ≡ true
  pub clock : new ≡ record { times = old.times; plan = after_failure old.plan }

-- what a call of a clock over memory does to it: it never wants memory
abbrev pub MemGivesTime : Ticking → Ticking → Result ℕ IoFault → Type 0
MemGivesTime old new (Ok time) = TakesTime old new time
MemGivesTime old new (Err Failed) = FailsTime old new
MemGivesTime old new (Err Memory) = ⊥

-- no call was made yet
pub record IsUnused (plan : Plan) : Type 0 where
  pub calls : plan.calls ≡ 0
  pub none_failed : plan.failed ≡ 0

-- a clock that gives the same time at each call, and never fails
abbrev pub steady : ℕ → Ticking
steady time = record { times = always time; plan = record { calls = 0; fails = []; failed = 0 } }
