-- How a session reads its clock: once for a batch that lacks a time, and for no other request.
use Rattle.std.specs.Prelude.{◌≡◌, ℕ, ◌<◌, Bool, true, false, ◌⊎◌, List, All, Result, Ok, Err}
use Rattle.qd_base.specs.Codes.{number_of}
use Rattle.qd_base.specs.declared.code.Code.TheVariants as code
use Rattle.qd_base.specs.declared.request.Request.{Request}
use Rattle.qd_base.specs.declared.request.Request.TheVariants as request
use Rattle.qd_base.specs.declared.request.Reply.{Reply}
use Rattle.qd_base.specs.declared.request.Reply.TheVariants as reply
use Rattle.qd_ilp.specs.Whole.{IsReading, Reading, lacks_time}
use Rattle.qd_io.specs.Clocks.{GivesTime, Timeline}
use Rattle.qd_io.specs.Ends.{Counts}
use Rattle.qd_io.specs.declared.fault.IoFault.{IoFault}
use Rattle.qd_io.specs.declared.fault.IoFault.TheVariants as fault

-- the reply that says that no memory was found
abbrev pub want_of_memory : Reply
want_of_memory = reply.Refused (number_of code.Memory) 0

-- the reply that says that the clock failed
abbrev pub clock_refusal : Reply
clock_refusal = reply.Refused (number_of code.Clock) 0

-- this is what is read of some text of bytes
abbrev pub IsRead : Reading → Type 0
IsRead reading = (text : List ℕ) × All (λ b. b < 256) text × IsReading text reading

-- The text of a batch lacks a time: all of its lines are of the grammar, and one of them gives a row and has no stamp.
abbrev pub LacksTime : List ℕ → Type 0
LacksTime text = (reading : Reading) × IsReading text reading × (lacks_time reading ≡ true)

-- the clock was read once, and this came of it
pub record ReadsOnce (old new : Timeline) (result : Result ℕ IoFault) : Type 0 where
  pub told : GivesTime old.ahead new.ahead result
  pub counted : Counts old.faults new.faults result

-- the time of a batch, by whether it lacks one: what the clock gave, or 0 from no clock
abbrev pub TimesBatch : (lacks : Bool) → (old new : Timeline) → Result ℕ IoFault → Type 0
TimesBatch false old new result = (new ≡ old) × (result ≡ Ok 0)
TimesBatch true old new result = ReadsOnce old new result

-- What came of reading the clock decides the reply, or gives the time that the batch is handled with.
abbrev pub IsTimed : Result ℕ IoFault → (time : ℕ) → Reply → Type 0
IsTimed (Ok given_time) time given = time ≡ given_time
IsTimed (Err fault.Failed) time given = given ≡ clock_refusal
IsTimed (Err fault.Memory) time given = given ≡ want_of_memory

-- What a request does to the clock, and the time that it is handled with. A batch that no memory was found to read leaves
-- the clock as it is.
abbrev pub ReadsClock : (old new : Timeline) (time : ℕ) → Request → Reply → Type 0
ReadsClock old new time (request.Write text) given =
    ((given ≡ want_of_memory) × (new ≡ old))
    ⊎ ((reading : Reading) × IsReading text reading × (result : Result ℕ IoFault) × TimesBatch (lacks_time reading) old new result × IsTimed result time given)
ReadsClock old new time asked given = (new ≡ old) × (time ≡ 0)
