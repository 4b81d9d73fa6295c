-- What runs leave that stop: one, and several in a row.
use Rattle.std.proofs.Common.{◌≡◌, ◌⊎◌, inl, inr, ℕ, zero, suc, List, [], ◌∷◌, ◌++◌, Contains, refl, sym, ◌∙◌, ap, subst, arith}
use Rattle.std.proofs.lemmas.List.{append_assoc}
use Rattle.qd_base.specs.declared.op.Entry.{Entry}
use Rattle.qd_lines.specs.Laws.{OneAnswer}
use Rattle.qd_sequencer.specs.declared.fault.Committed.{Committed}
use Rattle.qd_sequencer.specs.Histories.{IsPending}
use Rattle.qd_txnfile.specs.Versions.{Version}
use Rattle.qd_volume.specs.Disk.{Image}
use Rattle.qd_store.specs.Calls.{MayBe, ShowsOneOf}
use Rattle.qd_store.specs.Found.{Finds, Found}
use Rattle.qd_store.specs.Laws.{OneIsFound, StoresAreWhole}
use Rattle.qd_store.specs.Stores.{IsStore}
use Rattle.qd_recovery.specs.Calls.{Acknowledges, AreNumbered, Asked, AsksFor, Call, IsNumbered, MayBeLeft, acknowledged, acknowledged_by}
use Rattle.qd_recovery.specs.Runs.{Follows, HasNumber, IsLeftBy, IsNoOlder, Leaves, MayStandBehind, Run, Stops}
use Rattle.qd_recovery.proofs.Steps.{IsSomeStore, PendsOnly, ReadsAreAnImage, begins_as, begins_clean, none_pends, steps_go_on, steps_leave, steps_numbered}
use Rattle.qd_recovery.proofs.Within.{OnlyNow, shows_wider, stop_within}

-- ---- one stop

pub some_version : Version
some_version = record { n = 0; manifest = [] }

module _ (one : OneAnswer) (h : List Entry) (run : Run) (image : Image) (stop : Stops h run image) where
  begun : IsStore stop.begun h some_version stop.opened
  begun = begins_as h stop.begun stop.volume stop.opened some_version stop.begins

  there : IsSomeStore stop.store (h ++ acknowledged run.calls) stop.before
  there = steps_go_on one h run.calls stop.begun stop.store stop.opened stop.before some_version begun stop.steps

  left : PendsOnly stop.store stop.before (MayBeLeft h run.calls (λ x. ⊥))
  left =
      steps_leave one h run.calls stop.begun stop.store stop.opened stop.before some_version (λ x. ⊥) begun
      (none_pends stop.begun stop.opened (λ x. ⊥) (begins_clean h stop.begun stop.volume stop.opened stop.begins)) stop.steps

  own_or_left : (e : Entry) → AsksFor (h ++ acknowledged run.calls) run.last e ⊎ IsPending stop.store.sequence.pending stop.before e → MayStandBehind h run e
  own_or_left e (inl own) = inl own
  own_or_left e (inr pends) = inr (left e pends)

  pub stop_shows : StoresAreWhole → OnlyNow → ShowsOneOf (h ++ acknowledged run.calls) (MayStandBehind h run) (IsNoOlder stop.store) image
  stop_shows whole only_now =
      shows_wider (h ++ acknowledged run.calls) (λ e. AsksFor (h ++ acknowledged run.calls) run.last e ⊎ IsPending stop.store.sequence.pending stop.before e) (MayStandBehind h run) (IsNoOlder stop.store) (IsNoOlder stop.store) image
      own_or_left (λ v no_older. no_older)
      (stop_within whole only_now (h ++ acknowledged run.calls) stop.store stop.later stop.before stop.after there.0 there.1 run.last stop.last image stop.left)

  pub stop_leaves : ReadsAreAnImage → (found : List Entry) → MayBe (h ++ acknowledged run.calls) (MayStandBehind h run) found → Leaves h run found
  stop_leaves reads found may = record { numbered = steps_numbered one reads h run.calls stop.begun stop.store stop.opened stop.before some_version begun stop.steps; history = may }

-- ---- several

module _ (one : OneAnswer) (whole : StoresAreWhole) (only_now : OnlyNow) (reads : ReadsAreAnImage) (one_found : OneIsFound) where
  pub followed : (image : Image) (runs : List Run) (last : Image) (f : Found) → Finds f image → Follows image runs last → (g : Found) × Finds g last × IsLeftBy f.history runs g.history
  followed image [] last f finds same = (f, subst (Finds f) (sym same) finds, refl)
  followed image (run ∷ runs) last f finds (start, left, found, stop, follows) =
      let shows = stop_shows one start.history run left stop whole only_now in
      let behind = followed left runs last shows.found shows.finds follows in
      (behind.0, behind.1, (shows.found.history, subst (λ (g : Found). Leaves g.history run shows.found.history) (one_found start f image found finds) (stop_leaves one start.history run left stop reads shows.found.history shows.history), behind.2))

  pub left_by : (h : List Entry) (run : Run) (runs : List Run) (first last : Image) → Stops h run first → Follows first runs last → (f : Found) × Finds f last × IsLeftBy h (run ∷ runs) f.history
  left_by h run runs first last stop follows =
      let shows = stop_shows one h run first stop whole only_now in
      let behind = followed first runs last shows.found shows.finds follows in
      (behind.0, behind.1, (shows.found.history, stop_leaves one h run first stop reads shows.found.history shows.history, behind.2))

-- ---- what is there

-- a transaction keeps its number in what goes on behind a history
goes_on_as : (n : ℕ) (e : Entry) (h more : List Entry) → HasNumber n e h → HasNumber n e (h ++ more)
goes_on_as n e h more has = record {
  front = has.front;
  behind = has.behind ++ more;
  is = ap (λ (l : List Entry). l ++ more) has.is ∙ append_assoc has.front (e ∷ has.behind) more;
  number = has.number;
}

in_one_of : (n : ℕ) (e : Entry) (h found : List Entry) (More : Entry → Type 0) → MayBe h More found → HasNumber n e h → HasNumber n e found
in_one_of n e h found More (inl same) has = subst (HasNumber n e) (sym same) has
in_one_of n e h found More (inr (x, more, same)) has = subst (HasNumber n e) (sym same) (goes_on_as n e h (x ∷ []) has)

stays_there : (n : ℕ) (e : Entry) (h : List Entry) (runs : List Run) (found : List Entry) → IsLeftBy h runs found → HasNumber n e h → HasNumber n e found
stays_there n e h [] found same has = subst (HasNumber n e) (sym same) has
stays_there n e h (run ∷ runs) found (mid, leaves, left) has =
    stays_there n e mid runs found left
    (in_one_of n e (h ++ acknowledged run.calls) mid (MayStandBehind h run) leaves.history (goes_on_as n e h (acknowledged run.calls) has))

-- the number of a transaction that one of some calls acknowledged
module _ (asked : Asked) (done : Committed) (e : Entry) where
  first_number : (h : List Entry) (call : Call) (calls : List Call) → Acknowledges asked done e ≡ call → IsNumbered h call → HasNumber done.n e (h ++ (acknowledged_by call ++ acknowledged calls))
  first_number h call calls same =
      let P : Call → Type 0 = λ c. IsNumbered h c → HasNumber done.n e (h ++ (acknowledged_by c ++ acknowledged calls)) in
      subst P same (λ number. record { front = h; behind = acknowledged calls; is = refl; number = number })

  number_in : (h : List Entry) (calls : List Call) → AreNumbered h calls → Contains calls (Acknowledges asked done e) → HasNumber done.n e (h ++ acknowledged calls)
  number_in h [] numbered (k, low, is) = absurd (omega (arith, low))
  number_in h (call ∷ calls) numbered (zero, low, is) = first_number h call calls (sym is) numbered.0
  number_in h (call ∷ calls) numbered (suc k, low, is) =
      subst (HasNumber done.n e) (append_assoc h (acknowledged_by call) (acknowledged calls)) (number_in (h ++ acknowledged_by call) calls numbered.1 (k, omega (arith, low), is))

  of_run : (h : List Entry) (r run : Run) (mid : List Entry) → Leaves h r mid → r ≡ run → Contains run.calls (Acknowledges asked done e) → HasNumber done.n e mid
  of_run h r run mid leaves same there =
      in_one_of done.n e (h ++ acknowledged r.calls) mid (MayStandBehind h r) leaves.history
      (number_in h r.calls leaves.numbered (subst (λ (q : Run). Contains q.calls (Acknowledges asked done e)) (sym same) there))

  number_kept : (h found : List Entry) (runs : List Run) → IsLeftBy h runs found → (run : Run) → Contains runs run → Contains run.calls (Acknowledges asked done e) → HasNumber done.n e found
  number_kept h found [] left run (k, low, is) there = absurd (omega (arith, low))
  number_kept h found (r ∷ runs) (mid, leaves, left) run (zero, low, is) there = stays_there done.n e mid runs found left (of_run h r run mid leaves is there)
  number_kept h found (r ∷ runs) (mid, leaves, left) run (suc k, low, is) there = number_kept mid found runs left run (k, omega (arith, low), is) there

pub kept : (h found : List Entry) (runs : List Run) → IsLeftBy h runs found → (run : Run) → Contains runs run → (asked : Asked) (done : Committed) (e : Entry) → Contains run.calls (Acknowledges asked done e) → HasNumber done.n e found
kept h found runs left run in_runs asked done e in_calls = number_kept asked done e h found runs left run in_runs in_calls
