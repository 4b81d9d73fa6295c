-- Which replies a session may give to its requests. What each of them may be is the backend's own rule.
use Rattle.std.specs.Prelude.{◌≡◌, ℕ, ◌≤◌, List, [], ◌∷◌, ◌++◌, length, Option, IfSome, Result, Ok, Err}
use Rattle.qd_base.specs.declared.op.Entry.{Entry}
use Rattle.qd_base.specs.declared.request.Request.{Request}
use Rattle.qd_base.specs.declared.request.Request.TheVariants as request
use Rattle.qd_base.specs.declared.request.Reply.{Reply}
use Rattle.qd_base.specs.declared.request.Reply.TheVariants as reply
use Rattle.qd_io.specs.Clocks.{Timeline}
use Rattle.qd_io.specs.Ends.{HasRisen}
use Rattle.qd_session.specs.Looks.{Extends, Grows, IsNoLess, IsStill, Look, Shown, look_at}
use Rattle.qd_session.specs.Timing.{LacksTime, ReadsClock, clock_refusal, want_of_memory}

-- A rule says whether a reply may come to a request: over the history, where it is told; between what the session knew at
-- its look before and what it knows at this one; and, for a batch, with the time that its lines without a stamp are given.
abbrev pub Rule : Type 1
Rule = Option (List Entry) → (before now : Look) → (time : ℕ) → Request → Reply → Type 0

-- none of the requests is for the end
abbrev pub GoesOn : List Request → Type 0
GoesOn [] = Unit {0}
GoesOn (request.End ∷ requests) = ⊥
GoesOn (asked ∷ requests) = GoesOn requests

-- nothing is asked after the end
abbrev pub EndIsLast : List Request → Type 0
EndIsLast [] = Unit {0}
EndIsLast (request.End ∷ requests) = requests ≡ []
EndIsLast (asked ∷ requests) = EndIsLast requests

-- A request for the end is answered by Bye, and by nothing else; and nothing else is answered so.
pub record EndsByBye (rule : Rule) : Type 0 where
  pub bye : (history : Option (List Entry)) (before now : Look) (time : ℕ) → IsStill before now → rule history before now time request.End reply.Bye
  pub only_bye : (history : Option (List Entry)) (before now : Look) (time : ℕ) (given : Reply) → rule history before now time request.End given → given ≡ reply.Bye
  pub only_end : (history : Option (List Entry)) (before now : Look) (time : ℕ) (asked : Request) → rule history before now time asked reply.Bye → asked ≡ request.End

-- To any other request it may be said that no memory was found, where nothing has changed.
abbrev pub MayWantMemory : Rule → Type 0
MayWantMemory rule =
    (history : Option (List Entry)) (before now : Look) (time : ℕ) (asked : Request) → GoesOn (asked ∷ []) → IsStill before now → rule history before now time asked want_of_memory

-- To a batch that lacks a time it may be said that the clock failed, where it did so in this request and nothing else has
-- changed.
abbrev pub MayLackClock : Rule → Type 0
MayLackClock rule =
    (history : Option (List Entry)) (before now : Look) (time : ℕ) (text : List ℕ) → LacksTime text → IsStill before now → HasRisen before.clock.faults now.clock.faults
    → rule history before now time (request.Write text) clock_refusal

-- What may come over a history may come over each that it grows to.
abbrev pub IsLasting : Rule → Type 0
IsLasting rule =
    (old new : Option (List Entry)) (before now : Look) (time : ℕ) (asked : Request) (given : Reply)
    → Extends old new → IfSome old (λ h. now.sequenced ≤ length h) → rule old before now time asked given → rule new before now time asked given

-- The replies to requests, one for each, lead from one look to another, and no number falls. Each request reads the clock as
-- it is to, and the rule is given the time that came of it.
abbrev pub LegalRun : Rule → Option (List Entry) → (from : Look) → List Request → List Reply → (upto : Look) → Type 0
LegalRun rule history from [] [] upto = upto ≡ from
LegalRun rule history from (asked ∷ requests) (given ∷ replies) upto =
    (now : Look) × (time : ℕ) × IsNoLess from now × ReadsClock from.clock now.clock time asked given × rule history from now time asked given
    × LegalRun rule history now requests replies upto
LegalRun rule history from [] (given ∷ replies) upto = ⊥
LegalRun rule history from (asked ∷ requests) [] upto = ⊥

-- A legal session, from one look to another: each reply may come by the rule, over the history that it saw in the end.
pub record Legal (rule : Rule) (history : Option (List Entry)) (from upto : Look) (requests : List Request) (replies : List Reply) : Type 0 where
  pub run : LegalRun rule history from requests replies upto
  pub seen : IfSome history (λ h. upto.sequenced ≤ length h)
  pub end_is_last : EndIsLast requests

-- the numbers of the transactions that replies acknowledge, in order
abbrev pub done_in : Reply → List ℕ
done_in (reply.Done n) = n ∷ []
done_in _ = []

abbrev pub done_numbers : List Reply → List ℕ
done_numbers [] = []
done_numbers (given ∷ replies) = done_in given ++ done_numbers replies

-- A backend answered a request: what it shows has grown, the reply may come by its rule whatever the clock does, and its
-- own transactions are those that the reply acknowledges.
pub record Answers (rule : Rule) (old new : Shown) (time : ℕ) (asked : Request) (given : Reply) : Type 0 where
  pub grows : Grows old new
  pub allowed : (clock clock' : Timeline) → clock.faults ≤ clock'.faults → rule new.history (look_at clock old) (look_at clock' new) time asked given
  pub own : new.own ≡ old.own ++ done_in given

-- What a call of a backend does: it answers, or finds no memory, which may then be the reply. So it has added nothing then.
abbrev pub Handles : {E : Type 0} → Rule → (old new : Shown) → (time : ℕ) → Request → Result Reply E → Type 0
Handles rule old new time asked (Ok given) = Answers rule old new time asked given
Handles rule old new time asked (Err e) = Answers rule old new time asked want_of_memory
