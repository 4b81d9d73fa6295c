-- What the backends and the front of this crate's tests mean: they show that others than those of the product meet the traits.
use Rattle.std.specs.Prelude.{◌≡◌, ℕ, ◌+◌, ◌==◌, if◌then◌else◌, ◌⊎◌, List, [], ◌∷◌, ◌++◌, length, map, drop, codes, Option, Some, None}
use Rattle.std.specs.List.{range_with_len}
use Rattle.qd_base.specs.declared.op.Entry.{Entry}
use Rattle.qd_base.specs.declared.request.Request.{Request}
use Rattle.qd_base.specs.declared.request.Request.TheVariants as request
use Rattle.qd_base.specs.declared.request.Reply.{Reply}
use Rattle.qd_base.specs.declared.request.Reply.TheVariants as reply
use Rattle.qd_base.specs.Script.{Protocol, Script, Turn, Asks, Says, Waiting}
use Rattle.qd_print.specs.Printed.{reply_bytes}
use Rattle.qd_session.specs.Allowed.{Allowed}
use Rattle.qd_session.specs.Looks.{Look, Shown}

-- a backend that tells no transaction, and through which all of them came
abbrev pub silent : (sequenced known faults : ℕ) → Shown
silent sequenced known faults = record {
  history = None;
  sequenced = sequenced;
  known = known;
  own = range_with_len 1 sequenced;
  faults = faults;
  pinned = [];
  pending = None;
}

-- a backend that has nothing
abbrev pub nothing : Shown
nothing = record { history = Some []; sequenced = 0; known = 0; own = []; faults = 0; pinned = []; pending = None }

-- a statement that the product doesn't know, and its answer
abbrev pub IsPing : (before now : Look) → Request → Reply → Type 0
IsPing before now asked given = (asked ≡ request.Sql (codes "ping")) × (given ≡ reply.Applied before.known)

-- the rule of the product, and that statement
abbrev pub AllowedOrPing : Option (List Entry) → (before now : Look) → (time : ℕ) → Request → Reply → Type 0
AllowedOrPing history before now time asked given = Allowed history before now time asked given ⊎ IsPing before now asked given

-- each byte is a turn: A asks to apply, and each other one is said back
abbrev pub echo_turn : ℕ → Turn
echo_turn b = if b == 65 then Asks request.Apply reply_bytes else Says (b ∷ [])

abbrev pub echo_script : (at : ℕ) → List ℕ → Script
echo_script at bytes = record { turns = map echo_turn bytes; ending = Waiting [] (at + length bytes) reply_bytes }

-- a front that was fed these bytes and has taken so many of them
pub record Echoed : Type 0 where
  pub taken : ℕ
  pub bytes : List ℕ

abbrev pub echo : Echoed → Protocol
echo e = record {
  waiting = drop e.taken e.bytes;
  start = e.taken;
  spells = λ more s. s ≡ echo_script e.taken (drop e.taken e.bytes ++ more);
  printed = reply_bytes;
}
