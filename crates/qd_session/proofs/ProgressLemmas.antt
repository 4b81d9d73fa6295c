-- A session's progress, step by step, to its end.
use Rattle.std.proofs.Common.{◌≡◌, ℕ, ◌+◌, ◌≤◌, inl, inr, List, [], ◌∷◌, ◌++◌, length, Option, Some, None, refl, sym, ◌∙◌, ap, subst, arith}
use Rattle.std.specs.Prelude.{IfSome}
use Rattle.std.proofs.lemmas.List.{append_assoc, append-nil, length-append}
use Rattle.qd_base.specs.declared.limits.TheConstants.{LAST_OFFSET}
use Rattle.qd_base.specs.declared.op.Entry.{Entry}
use Rattle.qd_base.specs.declared.request.Request.{Request}
use Rattle.qd_base.specs.declared.request.Request.TheVariants as request
use Rattle.qd_base.specs.declared.request.Reply.{Reply}
use Rattle.qd_base.specs.Script.{Protocol, Script, SpellsOn, SpellsTurn, Turn, Asks, Says, Ending, Waiting, Ended, Malformed, with_turn, only}
use Rattle.qd_io.specs.Clocks.{Timeline}
use Rattle.qd_io.specs.Ends.{Stream}
use Rattle.qd_session.specs.declared.ended.Ended.{Ended as EndedBy}
use Rattle.qd_session.specs.declared.ended.Ended.TheVariants as ended
use Rattle.qd_session.specs.Looks.{Extends, IsCounted, Look, Shown, look_at}
use Rattle.qd_session.specs.Legal.{EndIsLast, GoesOn, IsLasting, LegalRun, Rule, done_in, done_numbers}
use Rattle.qd_session.specs.Session.{Concludes, Dialogue, IsBad, IsCutShort, IsWrittenUpTo, Moment, Moves, Progress, Serves, TakenFrom, last_bytes, look, refusal, requests_in, transcript, with_turns}
use Rattle.qd_session.specs.Turns.{BadEnd, CutStep, EndOf, IsBadHere, IsHandled, IsIdle, Replied, Stepped, Stopped, TurnOf, WritesFront}
use Rattle.qd_session.proofs.HandledLemmas.{faults_rise}
use Rattle.qd_session.proofs.WireLemmas.{moves-none, moves-put, moves-take, over-from_out}
use Rattle.qd_session.proofs.RunLemmas.{done_numbers-snoc, end_is_last-from_goes_on, end_is_last-snoc, extends-here, extends-on, goes_on-snoc, run-matches, run-on, run-snoc}

-- turns, with one more
pub requests_in-snoc : (turns : List Turn) (turn : Turn) → requests_in (turns ++ turn ∷ []) ≡ requests_in turns ++ requests_in (turn ∷ [])
requests_in-snoc [] turn = refl
requests_in-snoc (Asks asked printed ∷ turns) turn = ap (λ (x : List Request). asked ∷ x) (requests_in-snoc turns turn)
requests_in-snoc (Says bytes ∷ turns) turn = requests_in-snoc turns turn

pub transcript-asks : (turns : List Turn) (replies : List Reply) (asked : Request) (printed : Reply → List ℕ) (given : Reply) → length replies ≡ length (requests_in turns) → transcript (turns ++ Asks asked printed ∷ []) (replies ++ given ∷ []) ≡ transcript turns replies ++ printed given
transcript-asks [] [] asked printed given e = append-nil (printed given)
transcript-asks [] (r ∷ replies) asked printed given e = absurd (omega (arith, e))
transcript-asks (Asks a p ∷ turns) [] asked printed given e = absurd (omega (arith, e))
transcript-asks (Asks a p ∷ turns) (r ∷ replies) asked printed given e =
    ap (λ (x : List ℕ). p r ++ x) (transcript-asks turns replies asked printed given (omega (arith, e))) ∙ sym (append_assoc (p r) (transcript turns replies) (printed given))
transcript-asks (Says bytes ∷ turns) replies asked printed given e =
    ap (λ (x : List ℕ). bytes ++ x) (transcript-asks turns replies asked printed given e) ∙ sym (append_assoc bytes (transcript turns replies) (printed given))

pub transcript-says : (turns : List Turn) (replies : List Reply) (said : List ℕ) → length replies ≡ length (requests_in turns) → transcript (turns ++ Says said ∷ []) replies ≡ transcript turns replies ++ said
transcript-says [] replies said e = append-nil said
transcript-says (Asks a p ∷ turns) [] said e = absurd (omega (arith, e))
transcript-says (Asks a p ∷ turns) (r ∷ replies) said e =
    ap (λ (x : List ℕ). p r ++ x) (transcript-says turns replies said (omega (arith, e))) ∙ sym (append_assoc (p r) (transcript turns replies) said)
transcript-says (Says bytes ∷ turns) replies said e =
    ap (λ (x : List ℕ). bytes ++ x) (transcript-says turns replies said e) ∙ sym (append_assoc bytes (transcript turns replies) said)

-- the last turn's bytes are those of one more
pub last-asks : (these : List ℕ) (turns : List Turn) (replies : List Reply) (asked : Request) (printed : Reply → List ℕ) (given : Reply) → length replies ≡ length (requests_in turns) → last_bytes these (turns ++ Asks asked printed ∷ []) (replies ++ given ∷ []) ≡ printed given
last-asks these [] [] asked printed given e = refl
last-asks these [] (r ∷ replies) asked printed given e = absurd (omega (arith, e))
last-asks these (Asks a p ∷ turns) [] asked printed given e = absurd (omega (arith, e))
last-asks these (Asks a p ∷ turns) (r ∷ replies) asked printed given e = last-asks (p r) turns replies asked printed given (omega (arith, e))
last-asks these (Says bytes ∷ turns) replies asked printed given e = last-asks bytes turns replies asked printed given e

pub last-says : (these : List ℕ) (turns : List Turn) (replies : List Reply) (said : List ℕ) → length replies ≡ length (requests_in turns) → last_bytes these (turns ++ Says said ∷ []) replies ≡ said
last-says these [] replies said e = refl
last-says these (Asks a p ∷ turns) [] said e = absurd (omega (arith, e))
last-says these (Asks a p ∷ turns) (r ∷ replies) said e = last-says (p r) turns replies said (omega (arith, e))
last-says these (Says bytes ∷ turns) replies said e = last-says bytes turns replies said e

-- a turn behind others, before a script
pub with_turns-snoc : (turns : List Turn) (turn : Turn) (s : Script) → with_turns turns (with_turn turn s) ≡ with_turns (turns ++ turn ∷ []) s
with_turns-snoc turns turn s = ap (λ (x : List Turn). record { turns = x; ending = s.ending }) (sym (append_assoc turns (turn ∷ []) s.turns))

pub with_turns-only : (turns : List Turn) (ending : Ending) → with_turns turns (only ending) ≡ record { turns = turns; ending = ending }
with_turns-only turns ending = ap (λ (x : List Turn). record { turns = x; ending = ending }) (append-nil turns)

-- how far a session has come since it began
pub record Reached (rule : Rule) (before now : Moment) (fed : ℕ) : Type 0 where
  pub taken : List ℕ
  pub written : List ℕ
  pub moved : Moves before.wire now.wire taken written
  pub count : length taken ≡ fed
  pub grows : Extends before.back.history now.back.history
  pub progress : Progress rule before now taken written

pub reached_start : (rule : Rule) (before : Moment) → Reached rule before before 0
reached_start rule before = record {
  taken = [];
  written = [];
  moved = moves-none before.wire;
  count = refl;
  grows = extends-here before.back.history;
  progress = record { turns = []; replies = []; begins = λ more s k. k; run = refl; goes_on = tt; bytes = refl; own = sym (append-nil before.back.own) };
}

-- as many transactions as are told are seen
seen-from_counted : (s : Shown) → IsCounted s → IfSome s.history (λ h. s.sequenced ≤ length h)
seen-from_counted s counted = seen s.history s.sequenced counted
  where
    seen : (history : Option (List Entry)) (n : ℕ) → IfSome history (λ h. n ≡ length h) → IfSome history (λ h. n ≤ length h)
    seen None n e = tt
    seen (Some h) n e = omega (arith, e)

module _ (rule : Rule) (before m now : Moment) (fed : ℕ) (lasts : IsLasting rule) (counted : IsCounted m.back) (r : Reached rule before m fed) where
  same_length : length r.progress.replies ≡ length (requests_in r.progress.turns)
  same_length = run-matches rule m.back.history (look before) (requests_in r.progress.turns) r.progress.replies (look m) r.progress.run

  -- the run so far, over the history that has grown
  run_so_far : Extends m.back.history now.back.history → LegalRun rule now.back.history (look before) (requests_in r.progress.turns) r.progress.replies (look m)
  run_so_far grows = run-on rule lasts m.back.history now.back.history (look before) (requests_in r.progress.turns) r.progress.replies (look m) grows (seen-from_counted m.back counted) r.progress.run

  -- a request behind the others, with its reply
  record Spoken (asked : Request) (printed : Reply → List ℕ) (given : Reply) (bytes : List ℕ) : Type 0 where
    run : LegalRun rule now.back.history (look before) (requests_in (r.progress.turns ++ Asks asked printed ∷ [])) (r.progress.replies ++ given ∷ []) (look now)
    bytes_are : transcript (r.progress.turns ++ Asks asked printed ∷ []) (r.progress.replies ++ given ∷ []) ≡ r.written ++ bytes
    last_are : last_bytes [] (r.progress.turns ++ Asks asked printed ∷ []) (r.progress.replies ++ given ∷ []) ≡ bytes
    own : now.back.own ≡ before.back.own ++ done_numbers (r.progress.replies ++ given ∷ [])
    grows : Extends before.back.history now.back.history

  spoken : (asked : Request) (printed : Reply → List ℕ) (given : Reply) (bytes : List ℕ) → IsHandled rule m.back now.back m.clock now.clock asked given → bytes ≡ printed given → Spoken asked printed given bytes
  spoken asked printed given bytes h e =
      record {
        run = subst (λ (x : List Request). LegalRun rule now.back.history (look before) x (r.progress.replies ++ given ∷ []) (look now)) (sym (requests_in-snoc r.progress.turns (Asks asked printed)))
            (run-snoc rule now.back.history (look before) (requests_in r.progress.turns) r.progress.replies (look m) (look now) h.time asked given
            (run_so_far h.grows.history)
            (record { sequenced = h.grows.sequenced; known = h.grows.known; clock_faults = faults_rise m.clock now.clock h.time asked given h.read; volume_faults = h.grows.faults })
            h.read
            h.allowed);
        bytes_are = transcript-asks r.progress.turns r.progress.replies asked printed given same_length ∙ ap (λ (x : List ℕ). x ++ printed given) (sym r.progress.bytes) ∙ ap (λ (x : List ℕ). r.written ++ x) (sym e);
        last_are = last-asks [] r.progress.turns r.progress.replies asked printed given same_length ∙ sym e;
        own = h.own ∙ ap (λ (x : List ℕ). x ++ done_in given) r.progress.own ∙ append_assoc before.back.own (done_numbers r.progress.replies) (done_in given) ∙ ap (λ (x : List ℕ). before.back.own ++ x) (sym (done_numbers-snoc r.progress.replies given));
        grows = extends-on before.back.history m.back.history now.back.history r.grows h.grows.history;
      }

  -- a turn behind the others: its requests, replies and bytes
  record Turned (bytes : List ℕ) : Type 0 where
    turns : List Turn
    replies : List Reply
    begins : (more : List ℕ) (s : Script) → now.front.spells more s → before.front.spells (r.taken ++ more) (with_turns turns s)
    run : LegalRun rule now.back.history (look before) (requests_in turns) replies (look now)
    goes_on : GoesOn (requests_in turns)
    bytes_are : transcript turns replies ≡ r.written ++ bytes
    last_are : last_bytes [] turns replies ≡ bytes
    own : now.back.own ≡ before.back.own ++ done_numbers replies
    grows : Extends before.back.history now.back.history

  -- the backend and the clock as they were
  same_look : IsIdle m now → look now ≡ look m
  same_look i = ap (λ (b : Shown). look_at now.clock b) i.back ∙ ap (λ (c : Timeline). look_at c m.back) i.clock

  same_run : IsIdle m now → LegalRun rule now.back.history (look before) (requests_in r.progress.turns) r.progress.replies (look now)
  same_run i =
      subst (λ (x : Look). LegalRun rule now.back.history (look before) (requests_in r.progress.turns) r.progress.replies x) (sym (same_look i))
      (subst (λ (b : Shown). LegalRun rule b.history (look before) (requests_in r.progress.turns) r.progress.replies (look m)) (sym i.back) r.progress.run)

  same_grows : IsIdle m now → Extends before.back.history now.back.history
  same_grows i = subst (λ (b : Shown). Extends before.back.history b.history) (sym i.back) r.grows

  same_own : IsIdle m now → now.back.own ≡ before.back.own ++ done_numbers r.progress.replies
  same_own i = ap (λ (b : Shown). b.own) i.back ∙ r.progress.own

  begun : (turn : Turn) → SpellsTurn m.front turn now.front → (more : List ℕ) (s : Script) → now.front.spells more s → before.front.spells (r.taken ++ more) (with_turns (r.progress.turns ++ turn ∷ []) s)
  begun turn spelled more s k =
      subst (λ (x : Script). before.front.spells (r.taken ++ more) x) (with_turns-snoc r.progress.turns turn s) (r.progress.begins more (with_turn turn s) (spelled more s k))

  turned_by : (bytes : List ℕ) (turn : Turn) → SpellsTurn m.front turn now.front → Replied rule m now bytes turn → Turned bytes
  turned_by bytes (Asks asked printed) spelled (given, on, h, e) =
      let k = spoken asked printed given bytes h e in
      record {
        turns = r.progress.turns ++ Asks asked printed ∷ [];
        replies = r.progress.replies ++ given ∷ [];
        begins = begun (Asks asked printed) spelled;
        run = k.run;
        goes_on = subst GoesOn (sym (requests_in-snoc r.progress.turns (Asks asked printed))) (goes_on-snoc (requests_in r.progress.turns) asked r.progress.goes_on on);
        bytes_are = k.bytes_are;
        last_are = k.last_are;
        own = k.own;
        grows = k.grows;
      }
  turned_by bytes (Says said) spelled (i, e) =
      let none : requests_in (r.progress.turns ++ Says said ∷ []) ≡ requests_in r.progress.turns = requests_in-snoc r.progress.turns (Says said) ∙ append-nil (requests_in r.progress.turns) in
      record {
        turns = r.progress.turns ++ Says said ∷ [];
        replies = r.progress.replies;
        begins = begun (Says said) spelled;
        run = subst (λ (x : List Request). LegalRun rule now.back.history (look before) x r.progress.replies (look now)) (sym none) (same_run i);
        goes_on = subst GoesOn (sym none) r.progress.goes_on;
        bytes_are = transcript-says r.progress.turns r.progress.replies said same_length ∙ ap (λ (x : List ℕ). x ++ said) (sym r.progress.bytes) ∙ ap (λ (x : List ℕ). r.written ++ x) (sym e);
        last_are = last-says [] r.progress.turns r.progress.replies said same_length ∙ sym e;
        own = same_own i;
        grows = same_grows i;
      }

  turned : (bytes : List ℕ) → TurnOf rule m now bytes → Turned bytes
  turned bytes t = turned_by bytes t.turn t.spelled t.replied

  -- a step after which the session goes on
  pub reached_step : (fed' : ℕ) → Stepped rule m now fed fed' → Reached rule before now fed'
  reached_step fed' (inl (bytes, t, moved, same)) =
      let k = turned bytes t in
      record {
        taken = r.taken;
        written = r.written ++ bytes;
        moved = moves-put before.wire m.wire now.wire r.taken r.written bytes r.moved moved;
        count = r.count ∙ sym same;
        grows = k.grows;
        progress = record { turns = k.turns; replies = k.replies; begins = k.begins; run = k.run; goes_on = k.goes_on; bytes = sym k.bytes_are; own = k.own };
      }
  reached_step fed' (inr (piece, moved, i, more_fed, spelled)) = record {
    taken = r.taken ++ piece;
    written = r.written;
    moved = moves-take before.wire m.wire now.wire r.taken piece r.written r.moved moved;
    count = length-append r.taken piece ∙ ap (λ (x : ℕ). x + length piece) r.count ∙ sym more_fed;
    grows = same_grows i;
    progress = record {
      turns = r.progress.turns;
      replies = r.progress.replies;
      begins = λ more s k. subst (λ (x : List ℕ). before.front.spells x (with_turns r.progress.turns s)) (sym (append_assoc r.taken piece more)) (r.progress.begins (piece ++ more) s (spelled more s k));
      run = same_run i;
      goes_on = r.progress.goes_on;
      bytes = r.progress.bytes;
      own = same_own i;
    };
  }

  module _ (closing : IsCounted now.back) (few : fed ≤ LAST_OFFSET) where
    few_taken : length r.taken ≤ LAST_OFFSET
    few_taken = omega (arith, r.count, few)

    -- the turns so far, and an ending, are a whole session
    abbrev whole : (ending : Ending) → m.front.spells [] (only ending) → IsIdle m now → Dialogue rule before now r.taken
    whole ending spelled i = record {
      script = record { turns = r.progress.turns; ending = ending };
      replies = r.progress.replies;
      spelled = subst (λ (x : Script). before.front.spells r.taken x) (with_turns-only r.progress.turns ending)
          (subst (λ (x : List ℕ). before.front.spells x (with_turns r.progress.turns (only ending))) (append-nil r.taken) (r.progress.begins [] (only ending) spelled));
      legal = record { run = same_run i; seen = seen-from_counted now.back closing; end_is_last = end_is_last-from_goes_on (requests_in r.progress.turns) r.progress.goes_on };
      own = same_own i;
    }

    -- the turns so far and the request for the end are one too
    abbrev ended_by : (bytes : List ℕ) → EndOf rule m now bytes → Dialogue rule before now r.taken
    ended_by bytes t =
        let k = spoken request.End t.printed t.given bytes t.handled t.printing in
        record {
          script = record { turns = r.progress.turns ++ Asks request.End t.printed ∷ []; ending = Ended };
          replies = r.progress.replies ++ t.given ∷ [];
          spelled = subst (λ (x : List ℕ). before.front.spells x (record { turns = r.progress.turns ++ Asks request.End t.printed ∷ []; ending = Ended })) (append-nil r.taken)
              (r.progress.begins [] (with_turn (Asks request.End t.printed) (only Ended)) (t.spelled []));
          legal = record {
            run = k.run;
            seen = seen-from_counted now.back closing;
            end_is_last = subst EndIsLast (sym (requests_in-snoc r.progress.turns (Asks request.End t.printed))) (end_is_last-snoc (requests_in r.progress.turns) r.progress.goes_on);
          };
          own = k.own;
        }

    bad-from_here : (ending : Ending) (place : ℕ) (printed : Reply → List ℕ) → IsBadHere m.wire.input fed ending place printed → IsBad before.wire.input r.taken ending place printed
    bad-from_here Ended place printed b = b
    bad-from_here (Waiting rest at printed') place printed b = (b.0, over-from_out before.wire.input m.wire.input r.taken fed r.moved.from r.count b.1, b.2, b.3)
    bad-from_here (Malformed at printed') place printed b = b

    -- a prefix of these bytes stands behind those so far
    behind : (all last bytes : List ℕ) (w : WritesFront m.wire now.wire bytes) → all ≡ r.written ++ bytes → last ≡ bytes → IsWrittenUpTo all last (r.written ++ w.written)
    behind all last bytes w e l = record {
      sent = w.written;
      missing = w.missing;
      front = e ∙ ap (λ (x : List ℕ). r.written ++ x) w.front ∙ sym (append_assoc r.written w.written w.missing);
      end_of_last = l ∙ w.front;
    }

    -- a session that ends so
    served : (how : EndedBy) (written : List ℕ) → Moves m.wire now.wire [] written → Concludes rule before now r.taken (r.written ++ written) how → Serves rule before now how
    served how written moved c = record { taken = r.taken; written = r.written ++ written; moved = moves-put before.wire m.wire now.wire r.taken r.written written r.moved moved; short = few_taken; concluded = c }

    served_cut : (how : EndedBy) → ((taken written : List ℕ) → IsCutShort rule before now taken written → Concludes rule before now taken written how) → CutStep rule m now fed → Serves rule before now how
    served_cut how concludes (inl (unfed, moved, i, later, short)) = record {
      taken = r.taken ++ unfed;
      written = r.written;
      moved = moves-take before.wire m.wire now.wire r.taken unfed r.written r.moved moved;
      short = omega (arith, length-append r.taken unfed, r.count, short);
      concluded = concludes (r.taken ++ unfed) r.written
          (inl (
            record {
              turns = r.progress.turns;
              replies = r.progress.replies;
              unfed = unfed;
              begins = λ more s k. subst (λ (x : List ℕ). before.front.spells x (with_turns r.progress.turns s)) (sym (append_assoc r.taken unfed more)) (r.progress.begins (unfed ++ more) s (later (unfed ++ more) s k));
              legal = record { run = same_run i; seen = seen-from_counted now.back closing; end_is_last = end_is_last-from_goes_on (requests_in r.progress.turns) r.progress.goes_on };
              own = same_own i;
            },
            record {
              sent = last_bytes [] r.progress.turns r.progress.replies;
              missing = [];
              front = sym (append-nil r.written ∙ r.progress.bytes);
              end_of_last = sym (append-nil (last_bytes [] r.progress.turns r.progress.replies));
            },
          ));
    }
    served_cut how concludes (inr (inl (bytes, t, w))) =
        let k = turned bytes t in
        served how w.written w.moved
        (concludes r.taken (r.written ++ w.written)
        (inl (
          record {
            turns = k.turns;
            replies = k.replies;
            unfed = [];
            begins = k.begins;
            legal = record { run = k.run; seen = seen-from_counted now.back closing; end_is_last = end_is_last-from_goes_on (requests_in k.turns) k.goes_on };
            own = k.own;
          },
          behind (transcript k.turns k.replies) (last_bytes [] k.turns k.replies) bytes w k.bytes_are k.last_are,
        )))
    served_cut how concludes (inr (inr (inl (bytes, t, w)))) =
        let k = spoken request.End t.printed t.given bytes t.handled t.printing in
        served how w.written w.moved
        (concludes r.taken (r.written ++ w.written)
        (inr (inl (
          ended_by bytes t,
          behind (transcript (r.progress.turns ++ Asks request.End t.printed ∷ []) (r.progress.replies ++ t.given ∷ [])) (last_bytes [] (r.progress.turns ++ Asks request.End t.printed ∷ []) (r.progress.replies ++ t.given ∷ [])) bytes w k.bytes_are k.last_are,
        ))))
    served_cut how concludes (inr (inr (inr (place, printed, bad, w, i)))) =
        served how w.written w.moved
        (concludes r.taken (r.written ++ w.written)
        (inr (inr (
          whole bad.ending bad.spelled i,
          place,
          printed,
          bad-from_here bad.ending place printed bad.bad,
          behind (transcript r.progress.turns r.progress.replies ++ printed (refusal place)) (printed (refusal place)) (printed (refusal place)) w (ap (λ (x : List ℕ). x ++ printed (refusal place)) (sym r.progress.bytes)) refl,
        ))))

    -- a step after which it is over
    pub reached_stop : (how : EndedBy) → Stopped rule m now fed how → Serves rule before now how
    reached_stop ended.Finished (inl (bytes, t, moved)) =
        let k = spoken request.End t.printed t.given bytes t.handled t.printing in
        served ended.Finished bytes moved (ended_by bytes t, tt, sym k.bytes_are)
    reached_stop ended.Finished (inr ((place, printed, spelled), out, moved, i)) =
        served ended.Finished [] moved
        (whole (Waiting [] place printed) spelled i, (refl, over-from_out before.wire.input m.wire.input r.taken fed r.moved.from r.count out), append-nil r.written ∙ r.progress.bytes)
    reached_stop ended.BadFrame (place, printed, bad, moved, i) =
        served ended.BadFrame (printed (refusal place)) moved
        (whole bad.ending bad.spelled i, place, printed, bad-from_here bad.ending place printed bad.bad, ap (λ (x : List ℕ). x ++ printed (refusal place)) r.progress.bytes)
    reached_stop ended.ReadFault (rest, (place, printed, spelled), moved, i) =
        served ended.ReadFault [] moved (whole (Waiting rest place printed) spelled i, tt, append-nil r.written ∙ r.progress.bytes)
    reached_stop ended.WriteFault cut = served_cut ended.WriteFault (λ taken written c. c) cut
    reached_stop ended.Memory cut = served_cut ended.Memory (λ taken written c. c) cut

  cut_grows : CutStep rule m now fed → Extends before.back.history now.back.history
  cut_grows (inl (unfed, moved, i, later, short)) = same_grows i
  cut_grows (inr (inl (bytes, t, w))) = (turned bytes t).grows
  cut_grows (inr (inr (inl (bytes, t, w)))) = (spoken request.End t.printed t.given bytes t.handled t.printing).grows
  cut_grows (inr (inr (inr (place, printed, bad, w, i)))) = same_grows i

  -- the history has grown
  pub stop_grows : (how : EndedBy) → Stopped rule m now fed how → Extends before.back.history now.back.history
  stop_grows ended.Finished (inl (bytes, t, moved)) = (spoken request.End t.printed t.given bytes t.handled t.printing).grows
  stop_grows ended.Finished (inr (waits, out, moved, i)) = same_grows i
  stop_grows ended.BadFrame (place, printed, bad, moved, i) = same_grows i
  stop_grows ended.ReadFault (rest, waits, moved, i) = same_grows i
  stop_grows ended.WriteFault cut = cut_grows cut
  stop_grows ended.Memory cut = cut_grows cut

-- no memory was found before the first step
pub served_nothing : (rule : Rule) (before : Moment) → IsLasting rule → IsCounted before.back → Serves rule before before ended.Memory
served_nothing rule before lasts counted =
    reached_stop rule before before before 0 lasts counted (reached_start rule before) counted (omega arith) ended.Memory
    (inl ([], moves-none before.wire, record { back = refl; clock = refl }, λ more s k. k, omega arith))
