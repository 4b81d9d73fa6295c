-- A front that prints no acknowledgements: what it reads is what another front reads.
use Rattle.std.specs.Prelude.{◌≡◌, ℕ, List, [], map}
use Rattle.qd_base.specs.declared.request.Reply.{Reply}
use Rattle.qd_base.specs.declared.request.Reply.TheVariants as reply
use Rattle.qd_base.specs.Script.{Protocol, Script, Turn, Asks, Says, Ending, Waiting, Ended, Malformed}

-- each reply as it is printed, but an acknowledgement as nothing
abbrev pub without_done : (Reply → List ℕ) → Reply → List ℕ
without_done printed (reply.Done n) = []
without_done printed given = printed given

-- the same turns, and the same ending, but that acknowledgements are printed as nothing
abbrev pub quiet_turn : Turn → Turn
quiet_turn (Asks asked printed) = Asks asked (without_done printed)
quiet_turn (Says bytes) = Says bytes

abbrev pub quiet_ending : Ending → Ending
quiet_ending (Waiting rest place printed) = Waiting rest place (without_done printed)
quiet_ending Ended = Ended
quiet_ending (Malformed place printed) = Malformed place (without_done printed)

abbrev pub quiet_script : Script → Script
quiet_script s = record { turns = map quiet_turn s.turns; ending = quiet_ending s.ending }

-- what is spelled is a script of the other front, with these changes
abbrev pub quiet_spells : (List ℕ → Script → Type 0) → List ℕ → Script → Type 0
quiet_spells spells more s = (whole : Script) × spells more whole × (s ≡ quiet_script whole)

-- such a front over one that shows a protocol
abbrev pub quiet_protocol : Protocol → Protocol
quiet_protocol p = record { waiting = p.waiting; start = p.start; spells = quiet_spells p.spells; printed = without_done p.printed }
