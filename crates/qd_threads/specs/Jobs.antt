-- What a thread hands back of a job, and what one who starts jobs shows.
use Rattle.std.specs.Prelude.{◌≡◌, ℕ, ◌+◌, ◌-◌, Bool, min}
use Rattle.qd_threads.specs.declared.job.Handed.{Handed}
use Rattle.qd_threads.specs.declared.job.Handed.TheVariants.{Ran, Unrun}

module _ {J O : Type 0} where
  -- the job was run, and this is what it gave; or it is handed back as it was
  abbrev pub IsHanded : (J → O → Type 0) → J → Handed J O → Type 0
  IsHanded gives job (Ran out) = gives job out
  IsHanded gives job (Unrun back) = back ≡ job

-- whether every start is refused, and how many starts were refused so far
pub record Starter : Type 0 where
  pub refuses : Bool
  pub failed : ℕ

-- one more, up to the greatest number that a count can show
abbrev pub one_more : ℕ → ℕ
one_more count = count + min 1 (18446744073709551615 - count)

-- after a start that was refused
abbrev pub refuse_one : Starter → Starter
refuse_one s = record s { failed = one_more s.failed }
