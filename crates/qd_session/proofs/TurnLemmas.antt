-- One step of a session, put together from what its parts did.
use Rattle.std.proofs.Common.{◌≡◌, ℕ, ◌+◌, ◌<◌, ◌≤◌, inl, inr, List, [], ◌∷◌, ◌++◌, length, Option, Some, None, refl, sym, ◌∙◌, ap, subst, arith}
use Rattle.qd_base.specs.declared.limits.TheConstants.{LAST_OFFSET}
use Rattle.qd_base.specs.declared.request.Request.{Request}
use Rattle.qd_base.specs.declared.request.Request.TheVariants as request
use Rattle.qd_base.specs.declared.request.Reply.{Reply}
use Rattle.qd_base.specs.Script.{Protocol, ReadsOn, Script, SpellsOn, SpellsTurn, Asks, Says, Waiting, Malformed, with_turn, only, TakesRequest}
use Rattle.qd_io.specs.declared.fault.IoFault.{IoFault}
use Rattle.qd_io.specs.declared.fault.IoFault.TheVariants as fault
use Rattle.qd_io.specs.Clocks.{Timeline}
use Rattle.qd_io.specs.Ends.{Stream}
use Rattle.qd_session.specs.declared.ended.Ended.{Ended as EndedBy}
use Rattle.qd_session.specs.declared.ended.Ended.TheVariants as ended
use Rattle.qd_session.specs.Looks.{Shown}
use Rattle.qd_session.specs.Legal.{GoesOn, Rule}
use Rattle.qd_session.specs.Session.{Moves, moment, refusal}
use Rattle.qd_session.specs.Turns.{BadEnd, CutStep, Finishes, IsAskable, IsHandled, IsIdle, IsOut, Refuses, Said, SessionStep, Stopped, TakesPiece, TakesTurn, Waits, WritesFront, ended_by_write}
use Rattle.qd_session.proofs.WireLemmas.{moves-none, moves-put}

pub reads_on-here : (f : Protocol) → ReadsOn f f
reads_on-here f = record { waiting = refl; start = refl; spelled = λ more s k. k }

-- a request that a front asks may be asked
pub askable-from_takes : (front front' : Protocol) (asked : Request) → TakesRequest front front' asked → IsAskable asked
askable-from_takes front front' (request.Write text) h = tt
askable-from_takes front front' (request.Sql text) h = h.0
askable-from_takes front front' request.Apply h = tt
askable-from_takes front front' request.End h = tt

-- a request that isn't for the end is a turn
spelled-from_takes : (front front' : Protocol) (asked : Request) → GoesOn (asked ∷ []) → TakesRequest front front' asked → SpellsTurn front (Asks asked front'.printed) front'
spelled-from_takes front front' (request.Write text) on h = h.1
spelled-from_takes front front' (request.Sql text) on h = h.2
spelled-from_takes front front' request.Apply on h = h.1
spelled-from_takes front front' request.End on h = absurd on

-- a request that was handled, by what became of its reply
pub turn-from_print : (rule : Rule) (printed : Reply → List ℕ) (back back' : Shown) (clock clock' : Timeline) (wire wire' : Stream) (asked : Request) (given : Reply) (f : IoFault) → IsHandled rule back back' clock clock' asked given → WritesFront wire wire' (printed given) → TakesTurn rule printed back back' clock clock' wire wire' asked (Some (ended_by_write f))
turn-from_print rule printed back back' clock clock' wire wire' asked given fault.Failed a w = (given, a, w)
turn-from_print rule printed back back' clock clock' wire wire' asked given fault.Memory a w = (given, a, w)

-- the request after which the session goes on isn't for the end
pub goes_on-unless_end : (asked : Request) → (asked ≡ request.End → ⊥) → GoesOn (asked ∷ [])
goes_on-unless_end (request.Write text) h = tt
goes_on-unless_end (request.Sql text) h = tt
goes_on-unless_end request.Apply h = tt
goes_on-unless_end request.End h = h refl

module _ (rule : Rule) (front middle last : Protocol) (later : ReadsOn middle last) (back back' : Shown) (clock clock' : Timeline) (wire wire' : Stream) (fed : ℕ) where
  -- a request was taken, and its reply wasn't all written
  cut_turn : (asked : Request) → TakesRequest front middle asked
      → (given : Reply) → IsHandled rule back back' clock clock' asked given → WritesFront wire wire' (middle.printed given)
      → CutStep rule (moment front back wire clock) (moment last back' wire' clock') fed
  cut_turn (request.Write text) takes given a w =
      inr (inl (middle.printed given, record { turn = Asks (request.Write text) middle.printed; spelled = λ more s k. takes.1 more s (later.spelled more s k); replied = (given, tt, a, refl) }, w))
  cut_turn (request.Sql text) takes given a w =
      inr (inl (middle.printed given, record { turn = Asks (request.Sql text) middle.printed; spelled = λ more s k. takes.2 more s (later.spelled more s k); replied = (given, tt, a, refl) }, w))
  cut_turn request.Apply takes given a w =
      inr (inl (middle.printed given, record { turn = Asks request.Apply middle.printed; spelled = λ more s k. takes.1 more s (later.spelled more s k); replied = (given, tt, a, refl) }, w))
  cut_turn request.End takes given a w =
      inr (inr (inl (middle.printed given, record { printed = middle.printed; given = given; spelled = takes; handled = a; printing = refl }, w)))

  -- a request was taken
  pub step-from_turn : (asked : Request) (result : Option EndedBy) → TakesRequest front middle asked
      → TakesTurn rule middle.printed back back' clock clock' wire wire' asked result
      → SessionStep rule (moment front back wire clock) (moment last back' wire' clock') fed fed result
  step-from_turn asked None takes t =
      inl (middle.printed t.0, record { turn = Asks asked middle.printed; spelled = λ more s k. spelled-from_takes front middle asked t.1 takes more s (later.spelled more s k); replied = (t.0, t.1, t.2, refl) }, t.3, refl)
  step-from_turn request.End (Some ended.Finished) takes t =
      inl (middle.printed t.0, record { printed = middle.printed; given = t.0; spelled = takes; handled = t.2; printing = refl }, t.3)
  step-from_turn (request.Write text) (Some ended.Finished) takes t = absurd (cc (t.1))
  step-from_turn (request.Sql text) (Some ended.Finished) takes t = absurd (cc (t.1))
  step-from_turn request.Apply (Some ended.Finished) takes t = absurd (cc (t.1))
  step-from_turn asked (Some ended.BadFrame) takes t = absurd t
  step-from_turn asked (Some ended.ReadFault) takes t = absurd t
  step-from_turn asked (Some ended.WriteFault) takes t = cut_turn asked takes t.0 t.1 t.2
  step-from_turn asked (Some ended.Memory) takes t = cut_turn asked takes t.0 t.1 t.2

module _ (rule : Rule) (front last : Protocol) (back : Shown) (clock : Timeline) (wire wire' : Stream) (fed : ℕ) where
  idle : IsIdle (moment front back wire clock) (moment last back wire' clock)
  idle = record { back = refl; clock = refl }

  -- a refusal was written, or a prefix of it
  stop-from_refusal : (middle : Stream) (place : ℕ) (printed : Reply → List ℕ) (how : EndedBy) → BadEnd (moment front back wire clock) fed place printed
      → Moves wire middle [] [] → Refuses middle wire' (printed (refusal place)) how
      → Stopped rule (moment front back wire clock) (moment last back wire' clock) fed how
  stop-from_refusal middle place printed ended.Finished bad m r = absurd r
  stop-from_refusal middle place printed ended.BadFrame bad m r = (place, printed, bad, moves-put wire middle wire' [] [] (printed (refusal place)) m r, idle)
  stop-from_refusal middle place printed ended.ReadFault bad m r = absurd r
  stop-from_refusal middle place printed ended.WriteFault bad m r =
      inr (inr (inr (place, printed, bad, record { written = r.written; missing = r.missing; moved = moves-put wire middle wire' [] [] r.written m r.moved; front = r.front }, idle)))
  stop-from_refusal middle place printed ended.Memory bad m r =
      inr (inr (inr (place, printed, bad, record { written = r.written; missing = r.missing; moved = moves-put wire middle wire' [] [] r.written m r.moved; front = r.front }, idle)))

  -- bytes that begin no request were refused
  pub stop-from_malformed : (place : ℕ) (printed : Reply → List ℕ) (how : EndedBy) → ((more : List ℕ) → front.spells more (only (Malformed place printed)))
      → Refuses wire wire' (printed (refusal place)) how
      → Stopped rule (moment front back wire clock) (moment last back wire' clock) fed how
  stop-from_malformed place printed how spelled r =
      stop-from_refusal wire place printed how (record { ending = Malformed place printed; spelled = spelled []; bad = (refl, refl) }) (moves-none wire) r

  -- bytes that the front says by itself were written
  pub step-from_said : (bytes : List ℕ) (result : Option EndedBy) → SpellsTurn front (Says bytes) last → Said wire wire' bytes result
      → SessionStep rule (moment front back wire clock) (moment last back wire' clock) fed fed result
  step-from_said bytes None spelled t = inl (bytes, record { turn = Says bytes; spelled = spelled; replied = (idle, refl) }, t, refl)
  step-from_said bytes (Some ended.Finished) spelled t = absurd t
  step-from_said bytes (Some ended.BadFrame) spelled t = absurd t
  step-from_said bytes (Some ended.ReadFault) spelled t = absurd t
  step-from_said bytes (Some ended.WriteFault) spelled t = inr (inl (bytes, record { turn = Says bytes; spelled = spelled; replied = (idle, refl) }, t))
  step-from_said bytes (Some ended.Memory) spelled t = inr (inl (bytes, record { turn = Says bytes; spelled = spelled; replied = (idle, refl) }, t))

  -- no memory was found, and these bytes were not fed
  pub stop-from_memory : (unfed : List ℕ) (how : EndedBy) → how ≡ ended.Memory → Moves wire wire' unfed [] → SpellsOn front [] last → fed + length unfed ≤ LAST_OFFSET
      → Stopped rule (moment front back wire clock) (moment last back wire' clock) fed how
  stop-from_memory unfed ended.Memory e moved later short = inl (unfed, moved, idle, later, short)
  stop-from_memory unfed ended.Finished e moved later short = absurd (cc e)
  stop-from_memory unfed ended.BadFrame e moved later short = absurd (cc e)
  stop-from_memory unfed ended.ReadFault e moved later short = absurd (cc e)
  stop-from_memory unfed ended.WriteFault e moved later short = absurd (cc e)

  read_fault : (rest : List ℕ) (how : EndedBy) → how ≡ ended.ReadFault → Waits (moment front back wire clock) rest → Moves wire wire' [] []
      → Stopped rule (moment front back wire clock) (moment last back wire' clock) fed how
  read_fault rest ended.ReadFault e waits moved = (rest, waits, moved, idle)
  read_fault rest ended.Finished e waits moved = absurd (cc e)
  read_fault rest ended.BadFrame e waits moved = absurd (cc e)
  read_fault rest ended.WriteFault e waits moved = absurd (cc e)
  read_fault rest ended.Memory e waits moved = absurd (cc e)

  clean_end : (how : EndedBy) → how ≡ ended.Finished → Waits (moment front back wire clock) [] → IsOut wire.input fed → Moves wire wire' [] []
      → Stopped rule (moment front back wire clock) (moment last back wire' clock) fed how
  clean_end ended.Finished e waits out moved = inr (waits, out, moved, idle)
  clean_end ended.BadFrame e waits out moved = absurd (cc e)
  clean_end ended.ReadFault e waits out moved = absurd (cc e)
  clean_end ended.WriteFault e waits out moved = absurd (cc e)
  clean_end ended.Memory e waits out moved = absurd (cc e)

  -- the input ended, where the front, as it was after its step, waits for more
  stop-from_finish : (now : Protocol) (middle : Stream) (how : EndedBy) → front.spells [] (only (Waiting front.waiting front.start now.printed)) → ReadsOn front now
      → IsOut wire.input fed → Moves wire middle [] [] → Finishes now middle wire' how
      → Stopped rule (moment front back wire clock) (moment last back wire' clock) fed how
  stop-from_finish now middle how waits on out m (inl e) =
      clean_end how e.0 (front.start, now.printed, subst (λ (x : List ℕ). front.spells [] (only (Waiting x front.start now.printed))) (sym on.waiting ∙ e.1) waits) out (moves-put wire middle wire' [] [] [] m e.2)
  stop-from_finish now middle how waits on out m (inr r) =
      stop-from_refusal middle now.start now.printed how
      (record { ending = Waiting front.waiting front.start now.printed; spelled = waits; bad = (subst (λ (x : List ℕ). 0 < length x) on.waiting r.0, out, sym on.start, refl) })
      m r.1

  -- a piece was read, or the input ended
  pub step-from_piece : (now : Protocol) (fed' : ℕ) (result : Option EndedBy)
      → front.spells [] (only (Waiting front.waiting front.start now.printed)) → ReadsOn front now
      → TakesPiece now last wire wire' fed fed' result
      → SessionStep rule (moment front back wire clock) (moment last back wire' clock) fed fed' result
  step-from_piece now fed' None waits on t = inr (t.0, t.1, idle, t.2, λ more s k. on.spelled (t.0 ++ more) s (t.3 more s k))
  step-from_piece now fed' (Some how) waits on (inl t) = read_fault front.waiting how t.0 (front.start, now.printed, waits) t.1
  step-from_piece now fed' (Some how) waits on (inr (inl t)) =
      stop-from_memory t.1 how t.0 t.2 (λ more s k. on.spelled more s (t.3 more s k)) t.4
  step-from_piece now fed' (Some how) waits on (inr (inr t)) = stop-from_finish now t.1 how waits on t.0 t.2 t.3
