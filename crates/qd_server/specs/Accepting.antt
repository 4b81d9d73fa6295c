-- What a server does with the wires of its listener.
use Rattle.std.specs.Prelude.{◌≡◌, ◌≢◌, ℕ, ◌≤◌, ◌⊎◌, Bool, true, false, List, [], ◌++◌, length, min, Option, None, Some, IfOk, Result, Ok, Err}
use Rattle.qd_io.specs.declared.fault.IoFault.{IoFault}
use Rattle.qd_io.specs.Ends.{last_count, counts_together}
use Rattle.qd_net.specs.Arrivals.{Arrivals}
use Rattle.qd_server.specs.Works.{Works}

module _ {W J : Type 0} where
  -- Each of these wires went to one `make`, in order, and so many starts were refused as works went back.
  pub record Serves (wires : List W) (s now : Works W J) (failed failed_now : ℕ) : Type 0 where
    pub taken : now.taken ≡ s.taken ++ wires
    pub refused : List J
    pub unstarted : now.unstarted ≡ s.unstarted ++ refused
    pub counted : failed_now ≡ counts_together failed (length refused)

  -- the account is one of the maker's, and these works are out
  abbrev pub IsOut : {M : Type 0} → (M → Works W J → Type 0) → M → List J → Works W J → Type 0
  IsOut works maker outs s = works maker s × (s.out ≡ outs)

  -- some account with these works out is the maker's
  abbrev pub HasOut : {M : Type 0} → (M → Works W J → Type 0) → M → List J → Type 0
  HasOut works maker outs = (s : Works W J) × IsOut works maker outs s

  -- Whatever account was the maker's, one of its accounts now goes on from there with these wires.
  abbrev pub GoesOn : {M : Type 0} → (M → Works W J → Type 0) → M → M → List J → List J → List W → ℕ → ℕ → Type 0
  GoesOn works maker now outs outs_now wires failed failed_now = (s : Works W J) → IsOut works maker outs s → (t : Works W J) × IsOut works now outs_now t × Serves wires s t failed failed_now

-- the wires were the first ones ahead, where the listener tells them
abbrev pub Takes : {W : Type 0} → List W → Option (List W) → Option (List W) → Type 0
Takes wires None now = Unit {0}
Takes {W} wires (Some ahead) now = (rest : List W) × (ahead ≡ wires ++ rest) × (now ≡ Some rest)

-- none is left of the wires ahead, where the listener tells them
abbrev pub IsEmptied : {W : Type 0} → Option (List W) → Option (List W) → Type 0
IsEmptied None now = Unit {0}
IsEmptied (Some ahead) now = now ≡ Some []

-- one wire was taken, or none since none comes any more; where there was a fault one wire may have been given up
abbrev pub Round : {W : Type 0} → List W → Option (List W) → Option (List W) → Bool → Result Bool IoFault → Type 0
Round wires ahead now closed (Ok true) = length wires ≡ 1
Round wires ahead now closed (Ok false) = (wires ≡ []) × (closed ≡ true) × IsEmptied ahead now
Round wires ahead now closed (Err fault) = length wires ≤ 1

-- how many wires were taken, as far as a count can show it
abbrev pub number_of : {W : Type 0} → List W → ℕ
number_of wires = min (length wires) last_count

-- a server that ends without a fault has taken as many wires as were asked for, or the listener has answered that none comes, and
-- none is left
abbrev pub Ends : {W : Type 0} → List W → ℕ → Option (List W) → Option (List W) → Bool → Result ℕ IoFault → Type 0
Ends wires most ahead now closed result = IfOk result (λ k. (k ≡ number_of wires) × (((most ≢ 0) × (length wires ≡ most)) ⊎ ((closed ≡ true) × IsEmptied ahead now)))

-- no more wires are taken than were asked for, where 0 is no end
abbrev pub IsWithin : {W : Type 0} → List W → ℕ → Type 0
IsWithin wires most = most ≢ 0 → length wires ≤ most

-- what a server has before it at a moment: its listener, its maker, the works that are out, and the starts refused so far
pub record Site (W J M : Type 0) : Type 0 where
  pub listener : Arrivals W
  pub maker : M
  pub outs : List J
  pub failed : ℕ

-- A server took some wires and served them; it ended for this reason, and took no more than it was asked for.
abbrev pub Accepts : {W J M : Type 0} → (M → Works W J → Type 0) → Site W J M → Site W J M → ℕ → Result ℕ IoFault → Type 0
Accepts {W} works old now most result = (wires : List W) × Takes wires old.listener.ahead now.listener.ahead × GoesOn works old.maker now.maker old.outs now.outs wires old.failed now.failed × Ends wires most old.listener.ahead now.listener.ahead now.listener.closed result × IsWithin wires most
