-- What a step of a front is to a session.
use Rattle.std.proofs.Common.{◌≡◌, ℕ, ◌+◌, ◌≤◌, Bool, true, false, MatchBool, List, [], ◌∷◌, ◌++◌, length, refl, sym, ap, ◌∙◌, subst, arith, append_assoc, length-append}
use Rattle.std.proofs.lemmas.List.{append-nil}
use Rattle.httparse.specs.Grammar.{RequestHead, print_request}
use Rattle.qd_base.specs.declared.limits.TheConstants.{MAX_QUERY_BYTES}
use Rattle.qd_base.specs.declared.request.Reply.{Reply}
use Rattle.qd_base.specs.declared.request.Request.TheVariants as request
use Rattle.qd_base.specs.declared.request.Step.{Step}
use Rattle.qd_base.specs.declared.request.Step.TheVariants as step
use Rattle.qd_base.specs.Script.{SpellsOn, SpellsTurn, Turn, Asks, Says, Waiting, Ended, Malformed, TakesBytes, TakesStep, ReadsOn, with_turn, only}
use Rattle.qd_http.specs.declared.wanted.Wanted.{Wanted}
use Rattle.qd_http.specs.declared.wanted.Wanted.TheVariants as wanted
use Rattle.qd_http.specs.declared.reply.Asked.{Asked}
use Rattle.qd_http.specs.declared.reply.Asked.TheVariants as asked
use Rattle.qd_http.specs.Responses.{printed}
use Rattle.qd_http.specs.Steps.{BeginsNone, BeginsRequest, EndsHere, Https, HttpSteps, IsUnfinished, StepIs, Stays, TakesHttp, TakesRequest, TakesSome, https_protocol, https_spell, is_last, turn_of, turn_with}
use Rattle.qd_http.specs.Targets.{wanted_of}
use Rattle.qd_http.proofs.HeadLemmas.{head_long, target_short}
use Rattle.qd_http.proofs.LengthLemmas.{statement_short}
use Rattle.qd_http.proofs.SortLemmas.{HasRequest, never_both, none_more, request_is_some, request_is_whole, request_more, request_one}

-- the bytes of a request go
takes_bytes : (old new : Https) (head : RequestHead) (body : List ℕ) → TakesRequest old new head body → TakesBytes (https_protocol old) (https_protocol new)
takes_bytes old new head body t =
    let reads = t.begins.begins.reads in
    let all = length-append (print_request head) body in
    record {
      taken = print_request head ++ body;
      some = omega (arith, all, head_long head reads.0);
      front = reads.1 ∙ sym (append_assoc (print_request head) body new.waiting);
      offset = t.offset ∙ ap (λ n. old.start + n) (sym all);
    }

-- and its turn is spelled
spells_turn : (old new : Https) (head : RequestHead) (body : List ℕ) (turn : Turn) → old.closing ≡ false → TakesRequest old new head body → turn ≡ turn_of head body → SpellsTurn (https_protocol old) turn (https_protocol new)
spells_turn old new head body turn open_ t is more s spelled =
    let size = length (print_request head) + length body in
    let P : Bool → ℕ → Type 0 = λ b n. MatchBool b (EndsHere s.turns s.ending) (HttpSteps n (new.waiting ++ more) s.turns s.ending) in
    let behind : P (is_last head) (old.start + size) = subst (λ b. P b (old.start + size)) t.last (subst (λ n. P new.closing n) t.offset spelled) in
    subst (λ b. MatchBool b (EndsHere (turn ∷ s.turns) s.ending) (HttpSteps old.start (old.waiting ++ more) (turn ∷ s.turns) s.ending)) (sym open_)
    (head, body, new.waiting ++ more, request_more old.waiting more head body new.waiting t.begins, is, behind)

-- a statement that is asked is no longer than one may be
statement_of : (body : List ℕ) (w : Wanted) (text : List ℕ) (how : Reply → List ℕ) → turn_with body w ≡ Asks (request.Sql text) how → w ≡ wanted.Statement text
statement_of body wanted.Write text how e = absurd (cc)
statement_of body (wanted.Statement other) text how e = let same : other ≡ text = cc in ap (λ t. wanted.Statement t) same
statement_of body wanted.Apply text how e = absurd (cc)
statement_of body (wanted.Refused why) text how e = absurd (cc)

asked_short : (bytes : List ℕ) (head : RequestHead) (body rest : List ℕ) (text : List ℕ) (how : Reply → List ℕ) → BeginsRequest bytes head body rest → turn_of head body ≡ Asks (request.Sql text) how → length text ≤ MAX_QUERY_BYTES
asked_short bytes head body rest text how h is =
    let short = statement_short head.method head.target text (statement_of body (wanted_of head.method head.target) text how is) in
    omega (arith, short, target_short head, h.begins.short)

-- where nothing is taken, what is spelled is as it was
stays_on : (old new : Https) → Stays old new → SpellsOn (https_protocol old) [] (https_protocol new)
stays_on old new h more s spelled =
    let P : Bool → ℕ → List ℕ → Type 0 = λ b n w. MatchBool b (EndsHere s.turns s.ending) (HttpSteps n (w ++ more) s.turns s.ending) in
    subst (λ b. P b old.start old.waiting) h.closing (subst (λ n. P new.closing n old.waiting) h.start (subst (λ w. P new.closing new.start w) h.waiting spelled))

reads_on : (old new : Https) → Stays old new → ReadsOn (https_protocol old) (https_protocol new)
reads_on old new h = record { waiting = h.waiting; start = h.start; spelled = stays_on old new h }

waits_now : (old new : Https) → old.closing ≡ false → new.asked ≡ asked.Nothing → IsUnfinished old.waiting → https_spell old [] (only (Waiting old.waiting old.start (printed new.asked)))
waits_now old new open_ bare unfinished =
    let all = append-nil old.waiting in
    let ending = Waiting old.waiting old.start (printed new.asked) in
    subst (λ b. MatchBool b (EndsHere [] ending) (HttpSteps old.start (old.waiting ++ []) [] ending)) (sym open_)
    (sym all, refl, ap printed bare, subst IsUnfinished (sym all) unfinished)

refused_now : (old new : Https) (place : ℕ) → old.closing ≡ false → new.asked ≡ asked.Nothing → BeginsNone old.waiting → place ≡ old.start → (more : List ℕ) → https_spell old more (only (Malformed place (printed new.asked)))
refused_now old new place open_ bare none here more =
    let ending = Malformed place (printed new.asked) in
    subst (λ b. MatchBool b (EndsHere [] ending) (HttpSteps old.start (old.waiting ++ more) [] ending)) (sym open_)
    (here, ap printed bare, none_more old.waiting more none)

ends_now : (old new : Https) → old.closing ≡ true → new.asked ≡ asked.End → (more : List ℕ) → https_spell old more (with_turn (Asks request.End (printed new.asked)) (only Ended))
ends_now old new closing end more =
    let turns : List Turn = Asks request.End (printed new.asked) ∷ [] in
    subst (λ b. MatchBool b (EndsHere turns Ended) (HttpSteps old.start (old.waiting ++ more) turns Ended)) (sym closing)
    (ap (λ (a : Asked). Asks request.End (printed a) ∷ []) end, refl)

pub takes_step : (old new : Https) (given : Step) → TakesHttp old new given → TakesStep (https_protocol old) (https_protocol new) given
takes_step old new (step.Ask (request.Write text)) (open_, head, body, t, is) =
    (takes_bytes old new head body t, spells_turn old new head body (Asks (request.Write text) (printed new.asked)) open_ t (sym is))
takes_step old new (step.Ask (request.Sql text)) (open_, head, body, t, is) = (
  asked_short old.waiting head body new.waiting text (printed new.asked) t.begins is,
  takes_bytes old new head body t,
  spells_turn old new head body (Asks (request.Sql text) (printed new.asked)) open_ t (sym is),
)
takes_step old new (step.Ask request.Apply) (open_, head, body, t, is) =
    (takes_bytes old new head body t, spells_turn old new head body (Asks request.Apply (printed new.asked)) open_ t (sym is))
takes_step old new (step.Ask request.End) (closing, end, stays) = ends_now old new closing end
takes_step old new (step.Say bytes) (open_, head, body, t, is) =
    (takes_bytes old new head body t, spells_turn old new head body (Says bytes) open_ t (sym is))
takes_step old new step.More (open_, bare, stays, unfinished) = (waits_now old new open_ bare unfinished, reads_on old new stays)
takes_step old new step.Clean h = h
takes_step old new (step.Bad place) (open_, bare, stays, none, here) = refused_now old new place open_ bare none here

-- ---- which step comes

open_is_no_end : (b : Bool) → b ≡ true → b ≡ false → ⊥
open_is_no_end b yes_ no_ = cc

whole_some : (old new : Https) (given : Step) (head : RequestHead) (body rest : List ℕ) → TakesSome old new given → BeginsRequest old.waiting head body rest → StepIs (turn_of head body) new.asked given
whole_some old new given head body rest t h =
    let same = request_one old.waiting t.1 head t.2 body new.waiting rest t.3.begins h in
    subst (λ b. StepIs (turn_of head b) new.asked given) same.1 (subst (λ k. StepIs (turn_of k t.2) new.asked given) same.0 t.4)

pub only_whole : (old new : Https) (given : Step) → TakesHttp old new given → (head : RequestHead) (body rest : List ℕ) → old.closing ≡ false → BeginsRequest old.waiting head body rest → StepIs (turn_of head body) new.asked given
only_whole old new (step.Ask (request.Write text)) t head body rest open_ h = whole_some old new (step.Ask (request.Write text)) head body rest t h
only_whole old new (step.Ask (request.Sql text)) t head body rest open_ h = whole_some old new (step.Ask (request.Sql text)) head body rest t h
only_whole old new (step.Ask request.Apply) t head body rest open_ h = whole_some old new (step.Ask request.Apply) head body rest t h
only_whole old new (step.Ask request.End) t head body rest open_ h = absurd (open_is_no_end old.closing t.0 open_)
only_whole old new (step.Say bytes) t head body rest open_ h = whole_some old new (step.Say bytes) head body rest t h
only_whole old new step.More t head body rest open_ h = absurd (request_is_whole old.waiting (head, body, rest, h) t.3)
only_whole old new step.Clean t head body rest open_ h = absurd t
only_whole old new (step.Bad place) t head body rest open_ h = absurd (request_is_some old.waiting (head, body, rest, h) t.3)

taken_is : (old new : Https) (given : Step) → TakesSome old new given → HasRequest old.waiting
taken_is old new given t = (t.1, t.2, new.waiting, t.3.begins)

pub only_unfinished : (old new : Https) (given : Step) → TakesHttp old new given → old.closing ≡ false → IsUnfinished old.waiting → given ≡ step.More
only_unfinished old new (step.Ask (request.Write text)) t open_ h = absurd (request_is_whole old.waiting (taken_is old new (step.Ask (request.Write text)) t) h)
only_unfinished old new (step.Ask (request.Sql text)) t open_ h = absurd (request_is_whole old.waiting (taken_is old new (step.Ask (request.Sql text)) t) h)
only_unfinished old new (step.Ask request.Apply) t open_ h = absurd (request_is_whole old.waiting (taken_is old new (step.Ask request.Apply) t) h)
only_unfinished old new (step.Ask request.End) t open_ h = absurd (open_is_no_end old.closing t.0 open_)
only_unfinished old new (step.Say bytes) t open_ h = absurd (request_is_whole old.waiting (taken_is old new (step.Say bytes) t) h)
only_unfinished old new step.More t open_ h = refl
only_unfinished old new step.Clean t open_ h = absurd t
only_unfinished old new (step.Bad place) t open_ h = absurd (never_both old.waiting h t.3)

pub only_none : (old new : Https) (given : Step) → TakesHttp old new given → old.closing ≡ false → BeginsNone old.waiting → given ≡ step.Bad old.start
only_none old new (step.Ask (request.Write text)) t open_ h = absurd (request_is_some old.waiting (taken_is old new (step.Ask (request.Write text)) t) h)
only_none old new (step.Ask (request.Sql text)) t open_ h = absurd (request_is_some old.waiting (taken_is old new (step.Ask (request.Sql text)) t) h)
only_none old new (step.Ask request.Apply) t open_ h = absurd (request_is_some old.waiting (taken_is old new (step.Ask request.Apply) t) h)
only_none old new (step.Ask request.End) t open_ h = absurd (open_is_no_end old.closing t.0 open_)
only_none old new (step.Say bytes) t open_ h = absurd (request_is_some old.waiting (taken_is old new (step.Say bytes) t) h)
only_none old new step.More t open_ h = absurd (never_both old.waiting t.3 h)
only_none old new step.Clean t open_ h = absurd t
only_none old new (step.Bad place) t open_ h = ap (λ n. step.Bad n) t.4

pub only_end : (old new : Https) (given : Step) → TakesHttp old new given → old.closing ≡ true → given ≡ step.Ask request.End
only_end old new (step.Ask (request.Write text)) t closing = absurd (open_is_no_end old.closing closing t.0)
only_end old new (step.Ask (request.Sql text)) t closing = absurd (open_is_no_end old.closing closing t.0)
only_end old new (step.Ask request.Apply) t closing = absurd (open_is_no_end old.closing closing t.0)
only_end old new (step.Ask request.End) t closing = refl
only_end old new (step.Say bytes) t closing = absurd (open_is_no_end old.closing closing t.0)
only_end old new step.More t closing = absurd (open_is_no_end old.closing closing t.0)
only_end old new step.Clean t closing = absurd t
only_end old new (step.Bad place) t closing = absurd (open_is_no_end old.closing closing t.0)

some_total : (old new : Https) (given : Step) → TakesSome old new given → new.start + length new.waiting ≡ old.start + length old.waiting
some_total old new given t =
    omega (arith, t.3.offset, ap length t.3.begins.begins.reads.1, length-append (print_request t.1) (t.2 ++ new.waiting), length-append t.2 new.waiting)

stays_total : (old new : Https) → Stays old new → new.start + length new.waiting ≡ old.start + length old.waiting
stays_total old new h = omega (arith, h.start, ap length h.waiting)

pub total_kept : (old new : Https) (given : Step) → TakesHttp old new given → new.start + length new.waiting ≡ old.start + length old.waiting
total_kept old new (step.Ask (request.Write text)) t = some_total old new (step.Ask (request.Write text)) t
total_kept old new (step.Ask (request.Sql text)) t = some_total old new (step.Ask (request.Sql text)) t
total_kept old new (step.Ask request.Apply) t = some_total old new (step.Ask request.Apply) t
total_kept old new (step.Ask request.End) t = stays_total old new t.2
total_kept old new (step.Say bytes) t = some_total old new (step.Say bytes) t
total_kept old new step.More t = stays_total old new t.2
total_kept old new step.Clean t = absurd t
total_kept old new (step.Bad place) t = stays_total old new t.2
