-- A command over the volume of its host, from what the store and the session over it say.
use Rattle.std.proofs.Common.{◌≡◌, ℕ, ◌≤◌, inl, inr, true, List, [], ◌++◌, length, Option, Some, None, IfSome, is_some, Result, Ok, Err, refl, sym, ◌∙◌, ap, subst, arith}
use Rattle.std.specs.Result.{IfErr, IfOk}
use Rattle.std.proofs.lemmas.List.{append-nil}
use Rattle.qd_sequencer.specs.Histories.{IsPending}
use Rattle.qd_store_backend.specs.Backs.{AreUsual, BeginsWith, IsLeftOf, IsTold, current, n_in}
use Rattle.qd_store_backend.specs.Rounds.{IsOnlyOne}
use Rattle.qd_store_backend.specs.Volumes.{HoldsTold, IsDamagedAt, IsUnopened, KeepsTold, MayFind, Starts}
use Rattle.qd_store_backend.proofs.Begun.{shown_within, told_over}
use Rattle.qd_store_backend.proofs.Handled.{extends_same}
use Rattle.qd_store_backend.proofs.Keeping.{keeps_told}
use Rattle.qd_store_backend.proofs.Told.{told_of}
use Rattle.qd_store_backend.proofs.ToldOf.{told_count}
use Rattle.qd_base.specs.declared.op.Entry.{Entry}
use Rattle.qd_base.specs.declared.part.WalRef.{WalRef}
use Rattle.qd_base.specs.declared.request.Reply.{Reply}
use Rattle.qd_base.specs.declared.request.Reply.TheVariants as reply
use Rattle.qd_base.specs.declared.request.Request.TheVariants as request
use Rattle.qd_base.specs.Script.{Waiting}
use Rattle.qd_catalog.specs.declared.version.Version as catalog
use Rattle.qd_catalog.specs.Versions.{version_at}
use Rattle.qd_durable.specs.Moments.{Told}
use Rattle.qd_frames.specs.Frames.{Steps, frame}
use Rattle.qd_durable.proofs.Writes.{told_still}
use Rattle.qd_host.specs.Hosts as hosts
use Rattle.qd_host.specs.Hosts.{ClocksStay, Supply, after_clock, after_volume, risen, without_clock}
use Rattle.qd_io.specs.declared.fault.IoFault.TheVariants as io
use Rattle.qd_io.specs.Clocks.{Times, Timeline}
use Rattle.qd_io.specs.Ends.{HasRisen, counts_together}
use Rattle.qd_print.specs.Printed.{reply_bytes}
use Rattle.qd_session.specs.declared.ended.Ended.{Ended as EndedBy}
use Rattle.qd_session.specs.declared.ended.Ended.TheVariants as ended
use Rattle.qd_session.specs.Session.{PutTo, TakenFrom}
use Rattle.qd_store.specs.declared.fault.OpenFault.{OpenFault}
use Rattle.qd_store.specs.declared.fault.OpenFault.TheVariants as fault
use Rattle.qd_store.specs.Faults.{CountsOpen}
use Rattle.qd_store.specs.Laws.{StoresAreWhole}
use Rattle.qd_store.specs.Opening.{HasFirstRow}
use Rattle.qd_store.specs.Owned.{Store as Owned}
use Rattle.qd_store.specs.Stores.{IsBook}
use Rattle.qd_top.specs.declared.status.Status.{Status}
use Rattle.qd_top.specs.declared.status.Status.TheVariants as status
use Rattle.qd_top.specs.Run.{AsksFor, CountsReads, CutRun, FoundDamage, IsBegun, IsDamagedTold, IsEnded, Ran, Replied, Store, Traffic, Unopened, fresh}
use Rattle.qd_top.specs.Status.{status_of}
use Rattle.qd_top.specs.Stores.{HasLent, HasNoStore, IsOfNoStore, IsServable, Names, RanFrom, Refuses, SaysDamage, SaysFault, begun_of, with_volume}
use Rattle.qd_top.proofs.RunLemmas.{replied-from_legal}
use Rattle.qd_versions.specs.Stores as versions
use Rattle.qd_volume.specs.Calls.{Storage}
use Rattle.qd_volume.specs.Disk.{Disk}

-- the law of hosts that this crate needs: what failed of a volume is counted once it is given back
abbrev pub FaultsComeBack : Type 0
FaultsComeBack = (storage : Storage) (supply : Supply) → HasRisen supply.lent_faults storage.faults → HasRisen supply.volume_faults (after_volume storage supply).volume_faults

-- ---- hosts

-- a host that gave a volume, and has lent it since
pub record IsLent (given host : Supply) (storage : Storage) : Type 0 where
  pub clock_times : host.clock_times ≡ given.clock_times
  pub clock_faults : host.clock_faults ≡ given.clock_faults
  pub volume_faults : host.volume_faults ≡ given.volume_faults
  pub shelf : storage.disk ≡ given.shelf
  pub lent : host.lent_faults ≡ storage.faults

-- as if the volume had stood on the shelf
pub lent-shelf : (host : Supply) (storage : Storage) → host.lent_faults ≡ storage.faults → IsLent (with_volume storage host) host storage
lent-shelf host storage lent = record { clock_times = refl; clock_faults = refl; volume_faults = refl; shelf = refl; lent = lent }

-- two hosts show the same clock and volume, and have counted as much
pub record Alike (a b : Supply) : Type 0 where
  pub clock_times : b.clock_times ≡ a.clock_times
  pub clock_faults : b.clock_faults ≡ a.clock_faults
  pub volume_faults : b.volume_faults ≡ a.volume_faults
  pub shelf : b.shelf ≡ a.shelf

module _ (found : Option (List Entry)) (a b host' : Supply) (alike : Alike a b) where
  begun_alike : (before : Store) → IsBegun found b before → IsBegun found a before
  begun_alike before is = record {
    clock = is.clock ∙ ap (λ (o : Option Times). record { ahead = o; faults = 0 }) alike.clock_times;
    history = is.history;
    count = is.count;
    shown = subst (λ (o : Option Disk). IfSome found (λ h. (n : ℕ) → HoldsTold o h n → before.applied ≡ n)) alike.shelf is.shown;
    within = is.within;
    undamaged = λ d. is.undamaged (subst IsDamagedTold (sym alike.shelf) d);
    settled = is.settled;
  }

  -- a store that may be served from the one may be from the other
  pub servable_alike : (owned : Owned) → IsServable found b host' owned → IsServable found a host' owned
  servable_alike owned s = record {
    usual = s.usual;
    alone = s.alone;
    first = s.first;
    told = s.told;
    settled = s.settled;
    lent = record { clock_times = s.lent.clock_times ∙ alike.clock_times; clock_faults = s.lent.clock_faults ∙ alike.clock_faults; volume_faults = s.lent.volume_faults ∙ alike.volume_faults };
    faults = s.faults;
    begun = begun_alike (begun_of owned found (fresh host')) s.begun;
  }

module _ (a b host' : Supply) (alike : Alike a b) where
  refuses_alike : (Change : Disk → Disk → Type 0) → Refuses Change b host' → Refuses Change a host'
  refuses_alike Change r = record { clock_faults = r.clock_faults ∙ alike.clock_faults; volume = subst (λ (o : Option Disk). Told o host'.shelf Change) alike.shelf r.volume }

  -- and so where there is none
  pub no_store_alike : (why : OpenFault) → HasNoStore why b host' → HasNoStore why a host'
  no_store_alike fault.NotMade h = h
  no_store_alike fault.Vol (r, more) = (refuses_alike IsUnopened r, subst (λ (n : ℕ). HasRisen n host'.volume_faults) alike.volume_faults more)
  no_store_alike (fault.Damaged file at) r = refuses_alike (IsDamagedAt file at) r
  no_store_alike fault.Memory r = refuses_alike IsUnopened r

-- ---- a store is opened or made

-- a backend may begin over it with the history that the volume held
pub begins : (found : Option (List Entry)) (given host : Supply) (storage : Storage) (owned : Owned) → IsLent given host storage → MayFind found given.shelf → Told storage.disk owned.storage.disk (Starts (Ok owned.store)) → BeginsWith found owned
begins None given host storage owned lent may told = tt
begins (Some h) given host storage owned lent may told = by given.shelf lent.shelf may
  where
    by : (shelf : Option Disk) → storage.disk ≡ shelf → MayFind (Some h) shelf → IsTold owned h
    by None is (n, holds) = absurd holds
    by (Some disk) is (n, holds) =
        let after = told_of (Starts (Ok owned.store)) storage.disk owned.storage.disk disk is told in
        let starts = after.2.stands h n holds in
        (after.0, starts.1, after.1, starts.2)

-- the current version's number is the root's
root_number : (s : versions.Store) → versions.IsStore s → n_in (version_at s.versions s.versions.current) ≡ s.root.n
root_number s is = by (version_at s.versions s.versions.current) refl
  where
    by : (o : Option catalog.Version) → version_at s.versions s.versions.current ≡ o → n_in o ≡ s.root.n
    by None none = let live : is_some (version_at s.versions s.versions.current) ≡ true = is.live in absurd (cc (ap (λ (o : Option catalog.Version). is_some o) none, live))
    by (Some x) there = (is.current x there).number

-- as many transactions are applied as the volume's version shows
shown_found : (found : Option (List Entry)) (given host : Supply) (storage : Storage) (owned : Owned) → IsLent given host storage → versions.IsStore owned.store.versions → Told storage.disk owned.storage.disk (Starts (Ok owned.store))
    → IfSome found (λ h. (n : ℕ) → HoldsTold given.shelf h n → n_in (current owned.store) ≡ n)
shown_found None given host storage owned lent sound told = tt
shown_found (Some h) given host storage owned lent sound told = λ n holds. by n given.shelf lent.shelf holds
  where
    by : (n : ℕ) (shelf : Option Disk) → storage.disk ≡ shelf → HoldsTold shelf h n → n_in (current owned.store) ≡ n
    by n None is holds = absurd holds
    by n (Some disk) is holds =
        let after = told_of (Starts (Ok owned.store)) storage.disk owned.storage.disk disk is told in
        root_number owned.store.versions sound ∙ (after.2.stands h n holds).0

-- the volume is nowhere damaged
undamaged_found : (given host : Supply) (storage : Storage) (owned : Owned) → IsLent given host storage → Told storage.disk owned.storage.disk (Starts (Ok owned.store)) → IsDamagedTold given.shelf → ⊥
undamaged_found given host storage owned lent told = by given.shelf lent.shelf
  where
    by : (shelf : Option Disk) → storage.disk ≡ shelf → IsDamagedTold shelf → ⊥
    by None is d = d
    by (Some disk) is (made, file, at, damaged) =
        let after = told_of (Starts (Ok owned.store)) storage.disk owned.storage.disk disk is told in
        (after.2.whole made).0 file at damaged

fresh_lent : (given host : Supply) (storage : Storage) → IsLent given host storage → fresh host ≡ fresh given
fresh_lent given host storage lent = ap (λ (o : Option Times). record { ahead = o; faults = 0 }) lent.clock_times

pub begun : (found : Option (List Entry)) (given host : Supply) (storage : Storage) (owned : Owned) → IsLent given host storage → MayFind found given.shelf → Told storage.disk owned.storage.disk (Starts (Ok owned.store)) → IsBook owned.store → versions.IsStore owned.store.versions
    → owned.store.sequence.pending ≡ None → IsBegun found given (begun_of owned found (fresh host))
begun found given host storage owned lent may told book sound settled = record {
  clock = fresh_lent given host storage lent;
  history = refl;
  count = told_count owned found (told_over found owned (begins found given host storage owned lent may told));
  shown = shown_found found given host storage owned lent sound told;
  within = shown_within owned.store book;
  undamaged = undamaged_found given host storage owned lent told;
  settled = refl;
}

-- so that a session over it may begin
pub servable : (found : Option (List Entry)) (host : Supply) (storage : Storage) (owned : Owned) → host.lent_faults ≡ storage.faults → MayFind found storage.disk → Told storage.disk owned.storage.disk (Starts (Ok owned.store)) → IsBook owned.store → versions.IsStore owned.store.versions
    → owned.store.sequence.pending ≡ None → AreUsual owned.store.limits → IsOnlyOne owned.store.versions.versions → HasFirstRow owned.store.versions.versions → owned.storage.faults ≡ storage.faults → IsServable found (with_volume storage host) host owned
servable found host storage owned lent may told book sound settled usual alone first counted =
    let is_lent = lent-shelf host storage lent in
    record {
      usual = usual;
      alone = alone;
      first = first;
      told = begins found (with_volume storage host) host storage owned is_lent may told;
      settled = settled;
      lent = record { clock_times = refl; clock_faults = refl; volume_faults = refl };
      faults = lent ∙ sym counted;
      begun = begun found (with_volume storage host) host storage owned is_lent may told book sound settled;
    }

-- ---- a session over it

ended_lent : (given host host' : Supply) (before after : Store) → HasLent given host → IsEnded host host' before after → IsEnded given host' before after
ended_lent given host host' before after lent e = record {
  clock_faults = e.clock_faults ∙ ap (λ (n : ℕ). counts_together n after.clock.faults) lent.clock_faults;
  volume_faults = e.volume_faults ∙ ap (λ (n : ℕ). counts_together n (risen before.volume_faults after.volume_faults)) lent.volume_faults;
  kept = e.kept;
}

-- it was a run over the host's volume
pub stored : (print : Reply → List ℕ) (found : Option (List Entry)) (given host host' : Supply) (before : Store) (t : Traffic) (s : Status) → HasLent given host → IsBegun found given before → RanFrom print before host host' t s → Ran print found given host' t s
stored print found given host host' before t status.Finished lent b r = record { before = before; after = r.0; begun = b; ended = ended_lent given host host' before r.0 lent r.1; ran = r.2 }
stored print found given host host' before t status.Usage lent b r = absurd r.2
stored print found given host host' before t status.BadFrame lent b r = record { before = before; after = r.0; begun = b; ended = ended_lent given host host' before r.0 lent r.1; ran = r.2 }
stored print found given host host' before t status.ReadFault lent b r = record { before = before; after = r.0; begun = b; ended = ended_lent given host host' before r.0 lent r.1; ran = r.2 }
stored print found given host host' before t status.WriteFault lent b r = inl (record { before = before; after = r.0; begun = b; ended = ended_lent given host host' before r.0 lent r.1; ran = r.2 })
stored print found given host host' before t status.NoVolume lent b r = absurd r.2
stored print found given host host' before t status.Damaged lent b r = absurd r.2
stored print found given host host' before t status.NoMemory lent b r = inl (inl (record { before = before; after = r.0; begun = b; ended = ended_lent given host host' before r.0 lent r.1; ran = r.2 }))
stored print found given host host' before t status.NoListener lent b r = absurd r.2

-- the host took back the clock and then the volume of a session
pub session-ended : (host one two three : Supply) (next : Option Times) (storage : Storage) (before after : Store) → one ≡ without_clock next host → two ≡ after_clock after.clock.faults one → three ≡ after_volume storage two
    → storage.faults ≡ after.volume_faults → host.lent_faults ≡ before.volume_faults → IfSome after.history (λ h. KeepsTold storage.disk h after.pending after.applied) → IsEnded host three before after
session-ended host one two three next storage before after first second third faults lent kept =
    subst (λ (s : Supply). IsEnded host s before after) (sym (third ∙ ap (after_volume storage) (second ∙ ap (after_clock after.clock.faults) first)))
    (record {
      clock_faults = refl;
      volume_faults = ap (λ (n : ℕ). counts_together host.volume_faults (risen n storage.faults)) lent ∙ ap (λ (n : ℕ). counts_together host.volume_faults (risen before.volume_faults n)) faults;
      kept = kept;
    })

-- the folders of a host that took these back are those of before
pub session-folders : (host one two three : Supply) (next : Option Times) (faults : ℕ) (storage : Storage) → one ≡ without_clock next host → two ≡ after_clock faults one → three ≡ after_volume storage two → three.folders ≡ host.folders
session-folders host one two three next faults storage first second third =
    ap (λ (s : Supply). s.folders) (third ∙ ap (after_volume storage) (second ∙ ap (after_clock faults) first))

-- the clock that the host gave is the one that a run begins with
pub clock-is : (host : Supply) (c : Timeline) → c.ahead ≡ host.clock_times → c.faults ≡ 0 → c ≡ fresh host
clock-is host c a f = ap (λ (o : Option Times). record { ahead = o; faults = c.faults }) a ∙ ap (λ (n : ℕ). record { ahead = host.clock_times; faults = n }) f

-- ---- no memory was found for a session

pub counts_none : (n : ℕ) → n ≡ counts_together n 0
counts_none n = omega arith

took-nothing : (input : Option (List ℕ)) → TakenFrom input input []
took-nothing None = tt
took-nothing (Some bytes) = (bytes, refl, refl)

pub put-nothing : (output : Option (List ℕ)) → PutTo output output []
put-nothing None = tt
put-nothing (Some bytes) = ap (λ (x : List ℕ). Some x) (sym (append-nil bytes))

-- no bytes spell no request, and wait for one
nothing-spelled : Steps 0 [] [] (Waiting [] 0 reply_bytes)
nothing-spelled = (refl, refl, refl, (request.End, frame request.End, tt, omega arith, refl))

seen_all : (history : Option (List Entry)) (n : ℕ) → IfSome history (λ h. n ≡ length h) → IfSome history (λ h. n ≤ length h)
seen_all None n is = tt
seen_all (Some h) n is = omega (arith, is)

replied-nothing : (s : Store) → IfSome s.history (λ h. s.sequenced ≡ length h) → Replied s s [] []
replied-nothing s count = replied-from_legal s s [] [] (extends_same s.history s.history refl) (record { run = refl; seen = seen_all s.history s.sequenced count; end_is_last = tt })

nothing-ran : (print : Reply → List ℕ) (s : Store) (input output : Option (List ℕ)) → IfSome s.history (λ h. s.sequenced ≡ length h) → CutRun print s s (record { input = input; left = input; output = output; written = output })
nothing-ran print s input output count = record {
  taken = [];
  requests = [];
  later = [];
  ending = Waiting [] 0 reply_bytes;
  replies = [];
  written = [];
  from = took-nothing input;
  short = omega arith;
  spelled = nothing-spelled;
  replied = replied-nothing s count;
  put = put-nothing output;
  front = inl (record { sent = []; missing = []; front = refl; end_of_last = refl });
}

-- where nothing is pending, nothing is left
none_left_of : (found : Option (List Entry)) (owned : Owned) → owned.store.sequence.pending ≡ None → IsLeftOf found owned None
none_left_of None owned settled = refl
none_left_of (Some h) owned settled = λ disk there e pends. subst (λ (o : Option WalRef). IsPending o disk e) settled pends

pub handed-back : StoresAreWhole → (print : Reply → List ℕ) (found : Option (List Entry)) (host host' : Supply) (storage : Storage) (owned back : Owned) (input output : Option (List ℕ)) → BeginsWith found owned → owned.store.sequence.pending ≡ None → versions.IsStore back.store.versions → back ≡ owned
    → host.lent_faults ≡ owned.storage.faults → storage ≡ back.storage → host' ≡ after_volume storage host → RanFrom print (begun_of owned found (fresh host)) host host' (record { input = input; left = input; output = output; written = output }) status.NoMemory
handed-back whole print found host host' storage owned back input output begins settled sound same lent is taken =
    let told : IfSome found (IsTold owned) = told_over found owned begins in
    let held : storage ≡ owned.storage = is ∙ ap (λ (o : Owned). o.storage) same in
    let sound' : versions.IsStore owned.store.versions = subst (λ (o : Owned). versions.IsStore o.store.versions) same sound in
    let before : Store = begun_of owned found (fresh host) in (
      before,
      subst (λ (s : Supply). IsEnded host s before before) (sym taken)
          (record {
            clock_faults = counts_none host.clock_faults;
            volume_faults = ap (λ (n : ℕ). counts_together host.volume_faults (risen n storage.faults)) lent ∙ ap (λ (x : Storage). counts_together host.volume_faults (risen owned.storage.faults x.faults)) held;
            kept = subst (λ (x : Storage). IfSome found (λ h. KeepsTold x.disk h None (n_in (current owned.store)))) (sym held) (keeps_told whole owned sound' found told None (none_left_of found owned settled));
          }),
      nothing-ran print before input output (told_count owned found told),
    )

-- ---- no store was opened

module _ (host host' : Supply) (storage storage' : Storage) (lent : host.lent_faults ≡ storage.faults) (back : host' ≡ after_volume storage' host) where
  refuses : (Change : Disk → Disk → Type 0) → Told storage.disk storage'.disk Change → Refuses Change (with_volume storage host) host'
  refuses Change told = record { clock_faults = ap (λ (h : Supply). h.clock_faults) back; volume = subst (λ (h : Supply). Told storage.disk h.shelf Change) (sym back) told }

  came_back : FaultsComeBack → HasRisen storage.faults storage'.faults → HasRisen host.volume_faults host'.volume_faults
  came_back law more =
      subst (λ (h : Supply). HasRisen host.volume_faults h.volume_faults) (sym back) (law storage' host (subst (λ (n : ℕ). HasRisen n storage'.faults) (sym lent) more))

  pub no_store : FaultsComeBack → (why : OpenFault) → (why ≡ fault.NotMade → ⊥) → CountsOpen {T = Store} storage.faults storage'.faults (Err why) → Told storage.disk storage'.disk (Starts (Err why)) → HasNoStore why (with_volume storage host) host'
  no_store law fault.NotMade made counted told = absurd (made refl)
  no_store law fault.Vol made counted told = (refuses IsUnopened told, came_back law counted.1)
  no_store law (fault.Damaged file at) made counted told = refuses (IsDamagedAt file at) told
  no_store law fault.Memory made counted told = refuses IsUnopened told

pub folders_back : (host host' : Supply) (storage : Storage) → host' ≡ after_volume storage host → host'.folders ≡ host.folders
folders_back host host' storage back = ap (λ (h : Supply). h.folders) back

-- what is said of it is what a command did that served nothing
module _ (host host' : Supply) (input output output' : Option (List ℕ)) where
  pub unopened : Refuses IsUnopened host host' → PutTo output output' [] → Unopened host host' (record { input = input; left = input; output = output; written = output' })
  unopened r put = record { unserved = record { unread = refl; put = put; clock_faults = r.clock_faults }; volume = r.volume }

  pub damaged : (file at : ℕ) (bytes missing : List ℕ) → Refuses (IsDamagedAt file at) host host' → PutTo output output' bytes → reply_bytes (reply.Damaged file at) ≡ bytes ++ missing → FoundDamage host host' (record { input = input; left = input; output = output; written = output' }) missing
  damaged file at bytes missing r put place = record { file = file; at = at; bytes = bytes; unserved = record { unread = refl; put = put; clock_faults = r.clock_faults }; volume = r.volume; place = place }

module _ (print : Reply → List ℕ) (found : Option (List Entry)) (host host' : Supply) (input output output' : Option (List ℕ)) where
  abbrev t : Traffic
  t = record { input = input; left = input; output = output; written = output' }

  said-damage : (file at : ℕ) (s : Status) → SaysDamage file at output output' s → Refuses (IsDamagedAt file at) host host' → Ran print found host host' t s
  said-damage file at status.Finished said r = absurd said
  said-damage file at status.Usage said r = absurd said
  said-damage file at status.BadFrame said r = absurd said
  said-damage file at status.ReadFault said r = absurd said
  said-damage file at status.WriteFault (bytes, missing, put, place) r = inr (missing, damaged host host' input output output' file at bytes missing r put place)
  said-damage file at status.NoVolume said r = absurd said
  said-damage file at status.Damaged said r = damaged host host' input output output' file at (reply_bytes (reply.Damaged file at)) [] r said (sym (append-nil (reply_bytes (reply.Damaged file at))))
  said-damage file at status.NoMemory (bytes, missing, put, place) r = inl (inr (missing, damaged host host' input output output' file at bytes missing r put place))
  said-damage file at status.NoListener said r = absurd said

  pub refused : (why : OpenFault) (s : Status) → HasNoStore why host host' → SaysFault why output output' s → Ran print found host host' t s
  refused fault.NotMade s none said = absurd none
  refused fault.Vol s none (is, put) = subst (λ (u : Status). Ran print found host host' t u) (sym is) (unopened host host' input output output' none.0 put, none.1)
  refused (fault.Damaged file at) s none said = said-damage file at s said none
  refused fault.Memory s none (is, put) = subst (λ (u : Status). Ran print found host host' t u) (sym is) (inr (unopened host host' input output output' none put))

-- no read is counted where nothing was read
pub reads-of-none : (why : OpenFault) (output output' : Option (List ℕ)) (n : ℕ) (s : Status) → SaysFault why output output' s → CountsReads n n s
reads-of-none why output output' n status.Finished said = refl
reads-of-none why output output' n status.Usage said = refl
reads-of-none why output output' n status.BadFrame said = refl
reads-of-none fault.NotMade output output' n status.ReadFault said = absurd said
reads-of-none fault.Vol output output' n status.ReadFault said = absurd (cc (said.0))
reads-of-none (fault.Damaged file at) output output' n status.ReadFault said = absurd said
reads-of-none fault.Memory output output' n status.ReadFault said = absurd (cc (said.0))
reads-of-none why output output' n status.WriteFault said = refl
reads-of-none why output output' n status.NoVolume said = refl
reads-of-none why output output' n status.Damaged said = refl
reads-of-none why output output' n status.NoMemory said = refl
reads-of-none why output output' n status.NoListener said = refl

-- want of memory is said as that
pub says-memory : (why : OpenFault) (output output' : Option (List ℕ)) (s : Status) → why ≡ fault.Memory → SaysFault why output output' s → s ≡ status.NoMemory
says-memory fault.Memory output output' s is said = said.0
says-memory fault.NotMade output output' s is said = absurd said
says-memory fault.Vol output output' s is said = absurd (cc (is))
says-memory (fault.Damaged file at) output output' s is said = absurd (cc (is))

-- a store that isn't made is never the reason
pub is-made : (why : OpenFault) (host host' : Supply) → HasNoStore why host host' → why ≡ fault.NotMade → ⊥
is-made fault.NotMade host host' none is = none
is-made fault.Vol host host' none is = cc (is)
is-made (fault.Damaged file at) host host' none is = cc (is)
is-made fault.Memory host host' none is = cc (is)

-- a session doesn't end as where there is no store
pub session-stays : (how : EndedBy) → IsOfNoStore (status_of how) → ⊥
session-stays ended.Finished h = h
session-stays ended.BadFrame h = h
session-stays ended.ReadFault h = h
session-stays ended.WriteFault h = h
session-stays ended.Memory h = h

-- ---- what was asked for

pub asks-ok : {A T : Type 0} (old new : Option (List A)) (name : Option A) (v : T) → hosts.Names old new name (Ok v) → AsksFor old new name
asks-ok None new name v h = h
asks-ok (Some names) new name v h = h

pub asks-failed : {A : Type 0} (T : Type 0) (old new : Option (List A)) (name : Option A) → hosts.Names {T = T} old new name (Err io.Failed) → AsksFor old new name
asks-failed T None new name h = h
asks-failed T (Some names) new name h = h

pub asks-memory : {A : Type 0} (T : Type 0) (old new : Option (List A)) (name : Option A) → hosts.Names {T = T} old new name (Err io.Memory) → new ≡ old
asks-memory T None new name h = h
asks-memory T (Some names) new name h = h

-- a host that shows the same folders was asked for the same
pub names-later : (old mid new : Option (List (List ℕ))) (dir : Option (List ℕ)) (P Q : Type 0) → (P → Q) → new ≡ mid → Names old mid dir P → Names old new dir Q
names-later old mid new dir P Q f same (inl asks) = inl (subst (λ (o : Option (List (List ℕ))). AsksFor old o dir) (sym same) asks)
names-later old mid new dir P Q f same (inr (p, e)) = inr (f p, same ∙ e)

-- ---- the host gave no volume

-- the volume that a host gave stood on its shelf
pub volume_given : (host host' : Supply) (storage : Storage) → ClocksStay host host' → host'.volume_faults ≡ host.volume_faults → storage.disk ≡ host.shelf → Alike host (with_volume storage host')
volume_given host host' storage clocks counted told = record { clock_times = clocks.times; clock_faults = clocks.faults; volume_faults = counted; shelf = told }

-- no volume could be had
pub not_had : (host host' : Supply) → ClocksStay host host' → host'.shelf ≡ host.shelf → Refuses IsUnopened host host'
not_had host host' clocks shelf = record {
  clock_faults = clocks.faults;
  volume = subst (λ (o : Option Disk). Told host.shelf o IsUnopened) (sym shelf) (told_still IsUnopened host.shelf (λ disk. inl (λ file. refl)));
}

-- ---- what an answer says

pub if_ok : {A E : Type 0} (P Q : A → Type 0) (r : Result A E) → ((a : A) → P a → Q a) → IfOk r P → IfOk r Q
if_ok P Q (Ok a) f h = f a h
if_ok P Q (Err e) f h = tt

pub if_err : {A E : Type 0} (P Q : E → Type 0) (r : Result A E) → ((e : E) → P e → Q e) → IfErr r P → IfErr r Q
if_err P Q (Ok a) f h = tt
if_err P Q (Err e) f h = f e h

-- an answer that is another one isn't this
pub other_answer : {A E : Type 0} {X : Type 0} (r : Result A E) (a : A) (e : E) → r ≡ Ok a → r ≡ Err e → X
other_answer r a e ok err = absurd (cc (ok, err))

pub same_err : {A E : Type 0} (r : Result A E) (e d : E) → r ≡ Err e → r ≡ Err d → e ≡ d
same_err r e d x y = cc (x, y)
