-- What a step of a front is to a session.
use Rattle.std.proofs.Common.{◌≡◌, ℕ, ◌+◌, ◌-◌, ◌≤◌, Bool, true, false, MatchBool, List, [], ◌++◌, length, take, drop, refl, sym, ap, ◌∙◌, subst, arith}
use Rattle.std.specs.Prelude.{if◌then◌else◌}
use Rattle.std.proofs.lemmas.List.{append-nil, take-append-drop, length-take, length-take-le, length-drop}
use Rattle.qd_base.specs.declared.limits.TheConstants.{MAX_QUERY_BYTES}
use Rattle.qd_base.specs.declared.request.Request.TheVariants as request
use Rattle.qd_base.specs.declared.request.Step.{Step}
use Rattle.qd_base.specs.declared.request.Step.TheVariants as step
use Rattle.qd_base.specs.Script.{SpellsTurn, Turn, Asks, Says, Ended, TakesBytes, TakesStep, with_turn, only}
use Rattle.qd_pgwire.specs.declared.found.Kind.{Kind}
use Rattle.qd_pgwire.specs.declared.found.Kind.TheVariants as kind
use Rattle.qd_pgwire.specs.declared.found.Mode.{Mode}
use Rattle.qd_pgwire.specs.declared.found.Mode.TheVariants as mode
use Rattle.qd_pgwire.specs.declared.found.Found.{Found}
use Rattle.qd_pgwire.specs.declared.found.Found.TheVariants as found
use Rattle.qd_pgwire.specs.declared.reader.Reader.{Reader}
use Rattle.qd_pgwire.specs.Messages.{first, text_in}
use Rattle.qd_pgwire.specs.Reading.{pgs_of}
use Rattle.qd_pgwire.specs.Replies.{empty_query, pg_reply}
use Rattle.qd_pgwire.specs.Steps.{EndsHere, Pgs, PgSteps, TakesBy, TakesPg, are_blanks, extended_turn, is_last, mode_after, pg_protocol, pg_spell, query_turn, step_of, turn_of}
use Rattle.qd_pgwire.proofs.FindLemmas.{least_of, whole_lies, whole_more, wrong_more}
use Rattle.qd_pgwire.proofs.ScriptLemmas.{turn_more}

-- what a front is behind a message
abbrev pub behind : Pgs → Kind → ℕ → Pgs
behind f k size = record { waiting = drop size f.waiting; start = f.start + size; mode = mode_after f.mode k }

-- the bytes of a message go
takes_bytes : (f : Pgs) (k : Kind) (size : ℕ) → first f.mode f.waiting ≡ found.Whole k size → TakesBytes (pg_protocol f) (pg_protocol (behind f k size))
takes_bytes f k size is =
    let lies = whole_lies f.mode f.waiting k size is in
    let long : length (take size f.waiting) ≡ size = length-take-le size f.waiting lies.1 in
    record {
      taken = take size f.waiting;
      some = omega (arith, long, least_of k size f.waiting lies);
      front = sym (take-append-drop size f.waiting);
      offset = ap (λ n. f.start + n) (sym long);
    }

-- and its turn is spelled
spells_turn : (f : Pgs) (k : Kind) (size : ℕ) → first f.mode f.waiting ≡ found.Whole k size → is_last k ≡ false → SpellsTurn (pg_protocol f) (turn_of f.mode k (text_in size f.waiting)) (pg_protocol (behind f k size))
spells_turn f k size is open_ more s spelled =
    turn_more f.mode f.start f.waiting more (turn_of f.mode k (text_in size f.waiting)) s.turns s.ending k size is refl open_ spelled

-- the last message of a connection
ends_now : (f new : Pgs) (k : Kind) (size : ℕ) → first f.mode f.waiting ≡ found.Whole k size → is_last k ≡ true → turn_of f.mode k (text_in size (f.waiting)) ≡ Asks request.End pg_reply
    → ((text : List ℕ) → turn_of f.mode k text ≡ Asks request.End pg_reply) → (more : List ℕ) → pg_spell f more (with_turn (Asks request.End pg_reply) (only Ended))
ends_now f new k size is last turn always more = (
  k,
  size,
  whole_more f.mode f.waiting more k size is,
  sym (always (text_in size (f.waiting ++ more))),
  subst (λ b. MatchBool b (EndsHere [] Ended) (PgSteps (mode_after f.mode k) (f.start + size) (drop size (f.waiting ++ more)) [] Ended)) (sym last) (refl, refl),
)

-- a query is no longer than one may be
text_short : (f : Pgs) (size : ℕ) → first f.mode f.waiting ≡ found.Whole kind.Query size → length (text_in size f.waiting) ≤ MAX_QUERY_BYTES
text_short f size is =
    let lies = whole_lies f.mode f.waiting kind.Query size is in
    omega (arith, length-take (size - 1 - 5) (drop 5 f.waiting), lies.2)

-- what a session is shown of a turn that takes bytes
Shown : Pgs → Kind → ℕ → Turn → Type 0
Shown f k size turn = TakesStep (pg_protocol f) (pg_protocol (behind f k size)) (step_of turn)

query_by : (f : Pgs) (size : ℕ) (text : List ℕ) (b : Bool) → length text ≤ MAX_QUERY_BYTES → TakesBytes (pg_protocol f) (pg_protocol (behind f kind.Query size))
    → SpellsTurn (pg_protocol f) (if b then Says empty_query else Asks (request.Sql text) pg_reply) (pg_protocol (behind f kind.Query size))
    → Shown f kind.Query size (if b then Says empty_query else Asks (request.Sql text) pg_reply)
unfolding Shown
query_by f size text true short taken spelled = (taken, spelled)
query_by f size text false short taken spelled = (short, taken, spelled)

query_shown : (f : Pgs) (size : ℕ) (text : List ℕ) (m : Mode) → length text ≤ MAX_QUERY_BYTES → TakesBytes (pg_protocol f) (pg_protocol (behind f kind.Query size))
    → SpellsTurn (pg_protocol f) (query_turn m text) (pg_protocol (behind f kind.Query size)) → Shown f kind.Query size (query_turn m text)
unfolding Shown
query_shown f size text mode.Starting short taken spelled = query_by f size text (are_blanks text) short taken spelled
query_shown f size text mode.Ready short taken spelled = query_by f size text (are_blanks text) short taken spelled
query_shown f size text mode.Skipping short taken spelled = (taken, spelled)

extended_shown : (f : Pgs) (size : ℕ) (m : Mode) → TakesBytes (pg_protocol f) (pg_protocol (behind f kind.Extended size))
    → SpellsTurn (pg_protocol f) (extended_turn m) (pg_protocol (behind f kind.Extended size)) → Shown f kind.Extended size (extended_turn m)
unfolding Shown
extended_shown f size mode.Starting taken spelled = (taken, spelled)
extended_shown f size mode.Ready taken spelled = (taken, spelled)
extended_shown f size mode.Skipping taken spelled = (taken, spelled)

turn_shown : (f : Pgs) (k : Kind) (size : ℕ) → first f.mode f.waiting ≡ found.Whole k size → Shown f k size (turn_of f.mode k (text_in size f.waiting))
unfolding Shown
turn_shown f (kind.Start names) size is = (takes_bytes f (kind.Start names) size is, spells_turn f (kind.Start names) size is refl)
turn_shown f kind.Encrypt size is = (takes_bytes f kind.Encrypt size is, spells_turn f kind.Encrypt size is refl)
turn_shown f kind.Cancel size is = ends_now f (behind f kind.Cancel size) kind.Cancel size is refl refl (λ text. refl)
turn_shown f kind.Query size is =
    query_shown f size (text_in size f.waiting) f.mode (text_short f size is) (takes_bytes f kind.Query size is) (spells_turn f kind.Query size is refl)
turn_shown f kind.Extended size is = extended_shown f size f.mode (takes_bytes f kind.Extended size is) (spells_turn f kind.Extended size is refl)
turn_shown f kind.Flush size is = (takes_bytes f kind.Flush size is, spells_turn f kind.Flush size is refl)
turn_shown f kind.Sync size is = (takes_bytes f kind.Sync size is, spells_turn f kind.Sync size is refl)
turn_shown f kind.Terminate size is = ends_now f (behind f kind.Terminate size) kind.Terminate size is refl refl (λ text. refl)

-- nothing is taken
waits_now : (f : Pgs) → first f.mode f.waiting ≡ found.Short → TakesStep (pg_protocol f) (pg_protocol f) step.More
waits_now f is =
    let all = append-nil f.waiting in
    ((sym all, refl, refl, ap (first f.mode) all ∙ is), record { waiting = refl; start = refl; spelled = λ more s h. h })

refused_now : (f : Pgs) → first f.mode f.waiting ≡ found.Wrong → TakesStep (pg_protocol f) (pg_protocol f) (step.Bad f.start)
refused_now f is more = (refl, refl, wrong_more f.mode f.waiting more is)

takes_by : (old new : Pgs) (given : Step) (f : Found) → first old.mode old.waiting ≡ f → TakesBy old new given f → TakesStep (pg_protocol old) (pg_protocol new) given
unfolding Shown
takes_by old new given found.Short is t =
    subst (λ (g : Step). TakesStep (pg_protocol old) (pg_protocol new) g) (sym t.0) (subst (λ (n : Pgs). TakesStep (pg_protocol old) (pg_protocol n) step.More) (sym t.1) (waits_now old is))
takes_by old new given found.Wrong is t =
    subst (λ (g : Step). TakesStep (pg_protocol old) (pg_protocol new) g) (sym t.0) (subst (λ (n : Pgs). TakesStep (pg_protocol old) (pg_protocol n) (step.Bad old.start)) (sym t.1) (refused_now old is))
takes_by old new given (found.Whole k size) is t =
    subst (λ (g : Step). TakesStep (pg_protocol old) (pg_protocol new) g) (sym t.0)
    (subst (λ (n : Pgs). TakesStep (pg_protocol old) (pg_protocol n) (step_of (turn_of old.mode k (text_in size old.waiting)))) (sym t.1) (turn_shown old k size is))

pub takes_step : (old new : Pgs) (given : Step) → TakesPg old new given → TakesStep (pg_protocol old) (pg_protocol new) given
takes_step old new given t = takes_by old new given (first old.mode old.waiting) refl t

-- ---- which step comes

pub only_whole : (old new : Pgs) (given : Step) → TakesPg old new given → (k : Kind) (size : ℕ) → first old.mode old.waiting ≡ found.Whole k size → given ≡ step_of (turn_of old.mode k (text_in size old.waiting))
only_whole old new given t k size is = (subst (TakesBy old new given) is t).0

pub only_short : (old new : Pgs) (given : Step) → TakesPg old new given → first old.mode old.waiting ≡ found.Short → given ≡ step.More
only_short old new given t is = (subst (TakesBy old new given) is t).0

pub only_wrong : (old new : Pgs) (given : Step) → TakesPg old new given → first old.mode old.waiting ≡ found.Wrong → given ≡ step.Bad old.start
only_wrong old new given t is = (subst (TakesBy old new given) is t).0

total_by : (old new : Pgs) (given : Step) (f : Found) → first old.mode old.waiting ≡ f → TakesBy old new given f → new.start + length new.waiting ≡ old.start + length old.waiting
total_by old new given found.Short is t = ap (λ (n : Pgs). n.start + length n.waiting) t.1
total_by old new given found.Wrong is t = ap (λ (n : Pgs). n.start + length n.waiting) t.1
total_by old new given (found.Whole k size) is t =
    let lies = whole_lies old.mode old.waiting k size is in
    ap (λ (n : Pgs). n.start + length n.waiting) t.1 ∙ omega (arith, length-drop size old.waiting, lies.1)

pub total_kept : (old new : Pgs) (given : Step) → TakesPg old new given → new.start + length new.waiting ≡ old.start + length old.waiting
total_kept old new given t = total_by old new given (first old.mode old.waiting) refl t

-- ---- what a reader does

made : List ℕ → ℕ → Mode → Pgs
made w n m = record { waiting = w; start = n; mode = m }

same_made : (a b : List ℕ) (n o : ℕ) (m l : Mode) → a ≡ b → n ≡ o → m ≡ l → made a n m ≡ made b o l
same_made a b n o m l p q r = ap (λ w. made w n m) p ∙ (ap (λ x. made b x m) q ∙ ap (λ x. made b o x) r)

pub waits_step : (old : Reader) (waiting : List ℕ) → waiting ≡ old.queue → found.Short ≡ first old.mode waiting → TakesPg (pgs_of old) (pgs_of old) step.More
waits_step old waiting same is = subst (TakesBy (pgs_of old) (pgs_of old) step.More) (is ∙ ap (first old.mode) same) (refl, refl)

pub refuses_step : (old : Reader) (waiting : List ℕ) → waiting ≡ old.queue → found.Wrong ≡ first old.mode waiting → TakesPg (pgs_of old) (pgs_of old) (step.Bad old.start)
refuses_step old waiting same is = subst (TakesBy (pgs_of old) (pgs_of old) (step.Bad old.start)) (is ∙ ap (first old.mode) same) (refl, refl)

pub takes_whole : (old new : Reader) (waiting text : List ℕ) (k : Kind) (size : ℕ) (given : Step) → waiting ≡ old.queue → first old.mode old.queue ≡ found.Whole k size
    → given ≡ step_of (turn_of old.mode k text) → turn_of old.mode k text ≡ turn_of old.mode k (text_in size waiting)
    → new.queue ≡ drop size old.queue → new.start ≡ old.start + size → new.mode ≡ mode_after old.mode k → TakesPg (pgs_of old) (pgs_of new) given
unfolding made
takes_whole old new waiting text k size given same is given_is text_is queue start mode_is =
    subst (TakesBy (pgs_of old) (pgs_of new) given) (sym is) (
      given_is ∙ ap step_of (text_is ∙ ap (λ (w : List ℕ). turn_of old.mode k (text_in size w)) same),
      same_made new.queue (drop size old.queue) new.start (old.start + size) new.mode (mode_after old.mode k) queue start mode_is,
    )
