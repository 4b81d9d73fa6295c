-- Connections of a port, from what the store, its passes and the listener say.
use Rattle.std.proofs.Common.{◌≡◌, ◌≢◌, ◌∙◌, ◌⊎◌, ℕ, zero, suc, ◌+◌, ◌-◌, ◌≤◌, ◌<◌, inl, inr, Bool, true, false, List, [], ◌∷◌, length, map, ◌++◌, Option, Some, None, IfSome, Result, Ok, Err, refl, sym, ap, ap₂, subst, arith, append-nil, le_refl}
use Rattle.std.specs.List.{range_with_len}
use Rattle.std.specs.List.Sorted.{IsPermutation}
use Rattle.std.proofs.lemmas.List.{length-map, map-append}
use Rattle.std.proofs.lemmas.List.Elements.{All-nil}
use Rattle.std.proofs.lemmas.List.Sorted.{IsPermutation-refl, IsPermutation-trans, length_permutation}
use Rattle.qd_base.specs.declared.op.Entry.{Entry}
use Rattle.qd_base.specs.declared.request.Reply.TheVariants as reply
use Rattle.qd_connections.specs.Accounts.{CameBack, IsMain}
use Rattle.qd_connections.specs.Connections.{Connection, IsFated, IsTaken, refusals_in}
use Rattle.qd_connections.specs.Serving.{ServesAll}
use Rattle.qd_connections.proofs.Counting.{fates_last}
use Rattle.qd_connections.proofs.Making.{more_seen}
use Rattle.qd_fronts.specs.declared.front.FrontKind.{FrontKind}
use Rattle.qd_host.specs.Hosts as hosts
use Rattle.qd_host.specs.Hosts.{ConnectionsStay, Supply, after_listener, after_volume, shown, with_listeners_of}
use Rattle.qd_io.specs.declared.fault.IoFault.{IoFault}
use Rattle.qd_io.specs.declared.fault.IoFault.TheVariants as fault
use Rattle.qd_io.specs.Ends.{Counts, HasRisen, Stream, counts_together}
use Rattle.qd_manifest.specs.declared.shape.TableParts.{TableParts}
use Rattle.qd_net.specs.Arrivals.{Arrivals}
use Rattle.qd_print.specs.Printed.{reply_bytes}
use Rattle.qd_score_model.specs.declared.limits.TheConstants.{MAX_SPLITS}
use Rattle.qd_score_model.specs.declared.view.View.{View}
use Rattle.qd_score_model.specs.Machine.{behind, shared}
use Rattle.qd_server.specs.Accepting.{Ends, IsEmptied, Takes}
use Rattle.qd_server.specs.declared.maker.TheConstants.{MOST}
use Rattle.qd_session.specs.Looks.{Extends}
use Rattle.qd_session.proofs.RunLemmas.{extends-on}
use Rattle.qd_shared.specs.declared.item.Item.{Item}
use Rattle.qd_shared.specs.Desks.{Desk, items_in}
use Rattle.qd_shared.specs.Passes.{Closes, GoesOnTo, Pass, Starts, history_by, history_of, is_told, view_of}
use Rattle.qd_store.specs.declared.fault.OpenFault.{OpenFault}
use Rattle.qd_store.specs.declared.fault.OpenFault.TheVariants as opening
use Rattle.qd_store.specs.Laws.{StoresAreWhole}
use Rattle.qd_store.specs.Owned.{Store as Owned}
use Rattle.qd_store_backend.specs.Backs.{IsTold, current, left_of, n_in}
use Rattle.qd_store_backend.specs.Volumes.{IsDamagedAt, KeepsTold}
use Rattle.qd_store_backend.proofs.Handled.{extends_same}
use Rattle.qd_store_backend.proofs.Keeping.{keeps_told}
use Rattle.qd_store_backend.proofs.Leaving.{kept_there}
use Rattle.qd_versions.specs.Stores as versions
use Rattle.qd_volume.specs.Calls.{Storage}
use Rattle.qd_volume.specs.Disk.{Disk}
use Rattle.qd_wal.specs.Laws.{OneEntryIsRead}
use Rattle.qd_worker.specs.Worker.{StaysMain, kept_by}
use Rattle.qd_top.specs.declared.status.Status.{Status}
use Rattle.qd_top.specs.declared.status.Status.TheVariants as status
use Rattle.qd_top.specs.Ports.{EndsServing, IsFirst, Listens, ServedBy, listener_status, serving_status}
use Rattle.qd_top.specs.Run.{AreEnough, AreFirst, AsksFor, CountsWrites, KeepsSome, OverPort, ServedAll, ServedPort, Traffic, fresh, traffic}
use Rattle.qd_top.specs.Stores.{HasNoStore, IsServable, Refuses, SaysDamage, SaysFault, begun_of}
use Rattle.qd_top.proofs.HostLemmas.{asks-failed, asks-memory, asks-ok, counts_none, damaged, put-nothing, unopened}

-- ---- the volume at the end

some_left : (history : Option (List Entry)) (disk : Option Disk) (left : Option Entry) (n : ℕ) → IfSome history (λ h. KeepsTold disk h left n) → IfSome history (KeepsSome disk)
some_left None disk left n kept = tt
some_left (Some h) disk left n kept = (left, n, kept)

-- a store's volume keeps the history that is told of it
pub kept_some : StoresAreWhole → OneEntryIsRead → (owned : Owned) → versions.IsStore owned.store.versions → (history : Option (List Entry)) → IfSome history (IsTold owned) → IfSome history (KeepsSome owned.storage.disk)
kept_some law one owned sound history told =
    let left = kept_there one history owned told in
    some_left history owned.storage.disk (left_of left.0) (n_in (current owned.store)) (keeps_told law owned sound history told (left_of left.0) left.1)

goes_on : (seen history : Option (List Entry)) → GoesOnTo seen history → Extends seen history
goes_on None history on = on
goes_on (Some h) history on = on

-- ---- passes

back_nothing : (returned : Option (List Stream)) → CameBack returned returned []
back_nothing None = tt
back_nothing (Some all) = sym (append-nil all)

first_none : (wires : Option (List Stream)) → AreFirst [] wires
first_none None = tt
first_none (Some all) = (all, refl)

-- the first pass of a store has seen the same once that is shared
pub history_shared : (first main : Pass) (history : Option (List Entry)) → main.knows.origin ≡ first.knows.origin → view_of main ≡ shared (view_of first) → history_of first ≡ history → history_of main ≡ history
history_shared first main history origin view is =
    ap (λ (o : Option Desk). history_by (is_told o) (view_of main).seen) origin ∙ ap (λ (v : View Item (List TableParts)). history_by (is_told first.knows.origin) v.seen) view ∙ is

pub first_shared : (first main : Pass) (owned : Owned) (history : Option (List Entry)) → Starts first owned history → main.knows.origin ≡ first.knows.origin → view_of main ≡ shared (view_of first) → IsFirst main
first_shared first main owned history s origin view = record {
  desk = desk;
  origin = origin ∙ s.desk;
  count = subst (λ (o : Option (List Entry)). IfSome o (λ h. length (items_in desk) ≡ length h)) (sym (history_shared first main history origin view s.told)) (by history s.count);
}
  where
    desk : Desk
    desk = record { owned = owned; history = history; removed = 0 }

    by : (o : Option (List Entry)) → IfSome o (λ h. length (view_of first).seen ≡ length h) → IfSome o (λ h. length (items_in desk) ≡ length h)
    by None count = tt
    by (Some h) count = sym (ap (λ (v : View Item (List TableParts)). length v.seen) s.view) ∙ count

-- a worker keeps one pass at most
pub kept_few : (w : Option Pass) → kept_by w ≤ 1
kept_few None = omega arith
kept_few (Some p) = omega arith

-- the main pass that is left while a worker has one of its passes
pub main_left : (old new : Pass) (w : Option Pass) → StaysMain old new → (view_of old).room ≤ (view_of new).room + kept_by w → IsMain old 0 MAX_SPLITS → IsMain new 0 MOST
main_left old new w stays room is = record {
  mode = stays.mode ∙ is.mode;
  idle = stays.phase ∙ is.idle;
  room = (let one = kept_few w in let all = is.room in omega (arith, room, one, all));
}

pub none_own : (old new : Pass) → StaysMain old new → (view_of old).own ≡ [] → (view_of new).own ≡ []
none_own old new stays none = no_elements (view_of new).own (let l : length (view_of new).own ≡ length (view_of old).own = length_permutation (view_of old).own (view_of new).own stays.own in l ∙ ap length none)
  where
    no_elements : (ns : List ℕ) → length ns ≡ 0 → ns ≡ []
    no_elements [] e = refl
    no_elements (n ∷ ns) e = absurd (omega (arith, e))

-- no connection was taken
pub nobody_by : (kind : FrontKind) → (main : Pass) (host host' : Supply) (most : ℕ) (s : Status) → (view_of main).own ≡ [] → host'.returned ≡ host.returned → host'.starts_failed ≡ host.starts_failed → (s ≡ status.Finished → ⊥) → ServedBy kind main main host host' most s
nobody_by kind main host host' most s none returned starts other = record {
  taken = [];
  over = [];
  ahead = first_none host.wires;
  within = λ e. omega arith;
  once = IsPermutation-refl [];
  back = subst (λ (o : Option (List Stream)). CameBack host.returned o []) (sym returned) (back_nothing host.returned);
  each = All-nil (IsFated kind (history_of main));
  own = subst (λ (ns : List ℕ). IsPermutation [] ns) (sym none) (IsPermutation-refl []);
  turned = starts ∙ counts_none host.starts_failed;
  fed = λ e. All-nil (λ (c : Connection). IsTaken c.fate);
  enough = λ e. absurd (other e);
  grows = extends_same (history_of main) (history_of main) refl;
  origin = refl;
  room = le_refl (view_of main).room;
}

first_taken : {W : Type 0} (stream : W → Stream) (wires : List W) (ahead now : Option (List W)) (told : Option (List Stream)) → shown stream ahead ≡ told → Takes wires ahead now → AreFirst (map stream wires) told
first_taken stream wires None now told is takes = subst (λ (o : Option (List Stream)). AreFirst (map stream wires) o) is tt
first_taken stream wires (Some ahead) now told is (rest, whole, later) =
    subst (λ (o : Option (List Stream)). AreFirst (map stream wires) o) is (map stream rest, ap (map stream) whole ∙ map-append stream wires rest)

-- as many were taken as were asked for, or all that were ahead
enough_by : {W : Type 0} (stream : W → Stream) (wires : List W) (most : ℕ) (ahead now : Option (List W)) (told : Option (List Stream)) {closed : Bool} → shown stream ahead ≡ told → Takes wires ahead now
    → ((most ≢ 0) × (length wires ≡ most)) ⊎ ((closed ≡ true) × IsEmptied ahead now) → AreEnough most (map stream wires) told
enough_by stream wires most None now told is takes (inl (some, all)) = inl (some, length-map wires stream ∙ all)
enough_by stream wires most (Some ahead) now told is takes (inl (some, all)) = inl (some, length-map wires stream ∙ all)
enough_by stream wires most None now told is takes (inr (none, empty)) = inr (subst (λ (o : Option (List Stream)). IfSome o (λ all. map stream wires ≡ all)) is tt)
enough_by {W} stream wires most (Some ahead) now told is (rest, whole, later) (inr (none, empty)) =
    let last : rest ≡ [] = (let e : Some rest ≡ Some [] = sym later ∙ empty in cc) in
    let same : ahead ≡ wires = whole ∙ (ap (λ (l : List W). wires ++ l) last ∙ append-nil wires) in
    inr (subst (λ (o : Option (List Stream)). IfSome o (λ all. map stream wires ≡ all)) is (ap (map stream) (sym same)))

finished_by : (starved : Bool) (ended : Result ℕ IoFault) → serving_status starved ended ≡ status.Finished → (count : ℕ) × (ended ≡ Ok count)
finished_by true ended e = absurd (cc (e))
finished_by false (Ok count) e = (count, refl)
finished_by false (Err fault.Failed) e = absurd (cc (e))
finished_by false (Err fault.Memory) e = absurd (cc (e))

fed_by : (starved : Bool) (ended : Result ℕ IoFault) → (serving_status starved ended ≡ status.NoMemory → ⊥) → starved ≡ false
fed_by true ended other = absurd (other refl)
fed_by false ended other = refl

failed_by : (starved : Bool) (ended : Result ℕ IoFault) → serving_status starved ended ≡ status.NoListener → ended ≡ Err fault.Failed
failed_by true ended e = absurd (cc (e))
failed_by false (Ok count) e = absurd (cc (e))
failed_by false (Err fault.Failed) e = refl
failed_by false (Err fault.Memory) e = absurd (cc (e))

ends_by : (starved : Bool) (ended : Result ℕ IoFault) → EndsServing (serving_status starved ended)
ends_by true ended = tt
ends_by false (Ok count) = tt
ends_by false (Err fault.Failed) = tt
ends_by false (Err fault.Memory) = tt

-- A listener was given, its connections were served, and it was taken back.
module _ {W : Type 0} (stream : W → Stream) (kind : FrontKind) (h0 h1 h2 h3 : Supply) (old new : Arrivals W) (first last : Pass) (starved : Bool) (most : ℕ) (ended : Result ℕ IoFault) (s : Status)
    (given : h1 ≡ with_listeners_of h1 h0) (all : ServesAll stream kind h1 h2 old new first last starved most ended) (back : h3 ≡ after_listener new.faults h2) (is : s ≡ serving_status starved ended) where
  pub passed_by : shown stream old.ahead ≡ h0.wires → ServedBy kind first last h0 h3 most s
  passed_by told =
      let a = all.account in
      let r10 : h1.returned ≡ h0.returned = ap (λ (h : Supply). h.returned) given in
      let r32 : h3.returned ≡ h2.returned = ap (λ (h : Supply). h.returned) back in
      let s10 : h1.starts_failed ≡ h0.starts_failed = ap (λ (h : Supply). h.starts_failed) given in
      let s32 : h3.starts_failed ≡ h2.starts_failed = ap (λ (h : Supply). h.starts_failed) back in
      let after = map (λ (c : Connection). c.after) a.over in
      record {
        taken = map stream all.wires;
        over = a.over;
        ahead = first_taken stream all.wires old.ahead new.ahead h0.wires told all.takes;
        within = λ e. subst (λ (n : ℕ). n ≤ most) (sym (length-map all.wires stream)) (all.within e);
        once = subst (λ (l : List Stream). IsPermutation (map stream all.wires) l) (append-nil (map (λ (c : Connection). c.before) a.over)) a.once;
        back = subst (λ (o : Option (List Stream)). CameBack o h3.returned after) r10 (subst (λ (o : Option (List Stream)). CameBack h1.returned o after) (sym r32) a.back);
        each = a.each;
        own = a.own;
        turned = s32 ∙ all.counted ∙ ap (λ (n : ℕ). counts_together n all.refused) s10 ∙ ap (λ (n : ℕ). counts_together h0.starts_failed n) (sym a.turned);
        fed = λ other. a.fed (fed_by starved ended (λ e. other (is ∙ e)));
        enough = λ e.
            let (count, well) = finished_by starved ended (sym is ∙ e) in
            enough_by stream all.wires most old.ahead new.ahead h0.wires told all.takes (subst (λ (r : Result ℕ IoFault). Ends all.wires most old.ahead new.ahead new.closed r) well all.ends).1;
        grows = all.grows;
        origin = all.origin;
        room = all.room;
      }

  pub listened : {T : Type 0} (port : ℕ) (listener : T) → hosts.Names {T = T} h0.ports h1.ports (Some port) (Ok listener) → h1.listener_faults ≡ h0.listener_faults → old.faults ≡ 0 → Counts old.faults new.faults ended
      → ((faults : ℕ) (supply : Supply) → 0 < faults → HasRisen supply.listener_faults (after_listener faults supply).listener_faults) → Listens h0 h3 port s
  listened {T} port listener named still none counted law =
      let p31 : h3.ports ≡ h1.ports = ap (λ (h : Supply). h.ports) back ∙ ap (λ (h : Supply). h.ports) all.rest in
      let f20 : h2.listener_faults ≡ h0.listener_faults = ap (λ (h : Supply). h.listener_faults) all.rest ∙ still in
      let f30 : h3.folders ≡ h0.folders = ap (λ (h : Supply). h.folders) back ∙ ap (λ (h : Supply). h.folders) all.rest ∙ ap (λ (h : Supply). h.folders) given in
      record {
        ports = inl (subst (λ (o : Option (List ℕ)). AsksFor h0.ports o (Some port)) (sym p31) (asks-ok h0.ports h1.ports (Some port) listener named));
        failed = λ e.
            let why = failed_by starved ended (sym is ∙ e) in
            let more = subst (λ (r : Result ℕ IoFault). Counts old.faults new.faults r) why counted in
            let some : 0 < new.faults = positive old.faults new.faults none more.1 in
            subst (λ (n : ℕ). HasRisen n h3.listener_faults) f20 (subst (λ (h : Supply). HasRisen h2.listener_faults h.listener_faults) (sym back) (law new.faults h2 some));
        ends = subst EndsServing (sym is) (ends_by starved ended);
        folders = f30;
      }
    where
      positive : (a b : ℕ) → a ≡ 0 → HasRisen a b → 0 < b
      positive a b none (inl less) = omega (arith, less)
      positive a b none (inr last) = omega (arith, last)

-- that there was none is no good end
pub no_listener_ends : (why : IoFault) (s : Status) → s ≡ listener_status why → s ≡ status.Finished → ⊥
no_listener_ends fault.Failed s is e = absurd (cc (is, e))
no_listener_ends fault.Memory s is e = absurd (cc (is, e))

-- there was no listener
pub listened_not : (T : Type 0) (h0 h1 : Supply) (port : ℕ) (why : IoFault) (s : Status) → h1 ≡ with_listeners_of h1 h0 → hosts.Names {T = T} h0.ports h1.ports (Some port) (Err why) → Counts {T = T} h0.listener_faults h1.listener_faults (Err why) → s ≡ listener_status why → Listens h0 h1 port s
listened_not T h0 h1 port fault.Failed s rest named counted is =
    record { ports = inl (asks-failed T h0.ports h1.ports (Some port) named); failed = λ e. counted.1; ends = subst EndsServing (sym is) tt; folders = ap (λ (h : Supply). h.folders) rest }
listened_not T h0 h1 port fault.Memory s rest named counted is =
    record { ports = inr (is, asks-memory T h0.ports h1.ports (Some port) named); failed = λ e. absurd (cc (is, e)); ends = subst EndsServing (sym is) tt; folders = ap (λ (h : Supply). h.folders) rest }

-- none was asked for, since there was no memory
pub listened_never : (host : Supply) (port : ℕ) → Listens host host port status.NoMemory
listened_never host port = record { ports = inr (refl, refl); failed = λ e. absurd (cc (e)); ends = tt; folders = refl }

-- ---- a worker beside the connections

main_on : (old new : Pass) → StaysMain old new → Extends (history_of old) (history_of new)
main_on old new t =
    subst (λ (o : Option Desk). Extends (history_of old) (history_by (is_told o) (view_of new).seen)) (sym t.origin) (more_seen (is_told old.knows.origin) (view_of old).seen (view_of new).seen t.seen)

-- the main pass lent one to a worker before, and took it back then
pub served_beside : (kind : FrontKind) → (first main then last : Pass) (host host' : Supply) (most : ℕ) (s : Status) → StaysMain first main → StaysMain then last → (one : ℕ) → (view_of first).room ≤ (view_of main).room + one → (view_of then).room + one ≤ (view_of last).room
    → ServedBy kind main then host host' most s → ServedBy kind first last host host' most s
served_beside kind first main then last host host' most s lent back one less more by = record {
  taken = by.taken;
  over = by.over;
  ahead = by.ahead;
  within = by.within;
  once = by.once;
  back = by.back;
  each = fates_last kind (history_of then) (history_of last) (main_on then last back) by.over by.each;
  own = IsPermutation-trans _ _ _ by.own back.own;
  turned = by.turned;
  fed = by.fed;
  enough = by.enough;
  grows = extends-on (history_of first) (history_of main) (history_of last) (main_on first main lent) (extends-on (history_of main) (history_of then) (history_of last) by.grows (main_on then last back));
  origin = back.origin ∙ by.origin ∙ lent.origin;
  room = (let r = by.room in omega (arith, less, more, r));
}

-- ---- the store is taken back

pub listens_on : (host host' host'' : Supply) (storage : Storage) (port : ℕ) (s : Status) → Listens host host' port s → host'' ≡ after_volume storage host' → Listens host host'' port s
listens_on host host' host'' storage port s l back =
    subst (λ (h : Supply). Listens host h port s) (sym back) (record { ports = l.ports; failed = l.failed; ends = l.ends; folders = l.folders })

-- the numbers behind one, as a range
behind_is : (n count : ℕ) → behind n count ≡ range_with_len (n + 1) count
behind_is n zero = refl
behind_is n (suc count) =
    let one : suc n ≡ n + 1 = omega arith in
    ap₂ (λ (m : ℕ) (ms : List ℕ). m ∷ ms) one (behind_is (suc n) count ∙ ap (λ (m : ℕ). range_with_len (m + 1) count) one)

-- the numbers that were added are those behind the ones that were found
no_more : (found history : Option (List Entry)) (desk : Desk) (own : List ℕ) → IfSome found (λ h. length (items_in desk) ≡ length h) → IfSome history (λ h. own ≡ behind (length (items_in desk)) (length h - length (items_in desk))) → IfSome found (λ before. IfSome history (λ h. own ≡ range_with_len (length before + 1) (length h - length before)))
no_more None history desk own a b = tt
no_more (Some f) None desk own a b = tt
no_more (Some f) (Some h) desk own a b = b ∙ (ap (λ (n : ℕ). behind n (length h - n)) a ∙ behind_is (length f) (length h - length f))

pub closed : (kind : FrontKind) → (first last : Pass) (host host' host'' : Supply) (most : ℕ) (s : Status) (owned : Owned) → IsFirst first → MAX_SPLITS ≤ (view_of first).room → ServedBy kind first last host host' most s → Closes last owned
    → ((history : Option (List Entry)) → IfSome history (IsTold owned) → IfSome history (KeepsSome owned.storage.disk)) → host'' ≡ after_volume owned.storage host' → ServedAll kind (history_of first) host host'' most s
closed kind first last host host' host'' most s owned is spare p c kept back =
    let on = goes_on (history_of last) c.history c.seen in
    subst (λ (h : Supply). ServedAll kind (history_of first) host h most s) (sym back)
    (record {
      history = c.history;
      grows = extends-on (history_of first) (history_of last) c.history p.grows on;
      kept = kept c.history c.told;
      taken = p.taken;
      over = p.over;
      first = p.ahead;
      within = p.within;
      once = p.once;
      back = p.back;
      each = fates_last kind (history_of last) c.history on p.over p.each;
      numbers = (view_of last).own;
      own = p.own;
      count = length (view_of last).seen;
      apart = c.own;
      counted_in = c.within;
      nothing_else = no_more (history_of first) c.history is.desk (view_of last).own is.count
          (subst (λ (o : Option Desk). IfSome o (λ d. IfSome c.history (λ h. (view_of last).own ≡ behind (length (items_in d)) (length h - length (items_in d))))) (p.origin ∙ is.origin) (c.whole (let r = p.room in omega (arith, r, spare))));
      turned = p.turned;
      fed = p.fed;
      enough = p.enough;
    })

-- a store that wasn't shared is given back
pub unshared : (kind : FrontKind) → (found : Option (List Entry)) (host host' : Supply) (most : ℕ) (s : Status) (owned : Owned) → IfSome found (IsTold owned)
    → ((history : Option (List Entry)) → IfSome history (IsTold owned) → IfSome history (KeepsSome owned.storage.disk)) → host' ≡ after_volume owned.storage host → (s ≡ status.Finished → ⊥) → ServedAll kind found host host' most s
unshared kind found host host' most s owned told kept back other =
    subst (λ (h : Supply). ServedAll kind found host h most s) (sym back)
    (record {
      history = found;
      grows = extends_same found found refl;
      kept = kept found told;
      taken = [];
      over = [];
      first = first_none host.wires;
      within = λ e. omega arith;
      once = IsPermutation-refl [];
      back = back_nothing host.returned;
      each = All-nil (IsFated kind found);
      numbers = [];
      own = IsPermutation-refl [];
      count = 0;
      apart = omega arith;
      counted_in = none_counted found;
      nothing_else = none_else found;
      turned = counts_none host.starts_failed;
      fed = λ e. All-nil (λ (c : Connection). IsTaken c.fate);
      enough = λ e. absurd (other e);
    })
  where
    none_counted : (history : Option (List Entry)) → IfSome history (λ h. 0 ≤ length h)
    none_counted None = tt
    none_counted (Some h) = omega arith

    none_else : (history : Option (List Entry)) → IfSome history (λ before. IfSome history (λ h. [] ≡ range_with_len (length before + 1) (length h - length before)))
    none_else None = tt
    none_else (Some h) = let none : length h - length h ≡ 0 = omega arith in sym (ap (range_with_len (length h + 1)) none)

-- ---- a host whose volume was opened

pub connections_still : (host : Supply) → ConnectionsStay host host
connections_still host = record { wires = refl; ports = refl; listener_faults = refl; refuses_starts = refl; starts_failed = refl; returned = refl }

pub connections_back : (host host' : Supply) (storage : Storage) → host' ≡ after_volume storage host → ConnectionsStay host host'
connections_back host host' storage back = subst (λ (h : Supply). ConnectionsStay host h) (sym back) (record { wires = refl; ports = refl; listener_faults = refl; refuses_starts = refl; starts_failed = refl; returned = refl })

pub connections_on : (a b c : Supply) → ConnectionsStay a b → ConnectionsStay b c → ConnectionsStay a c
connections_on a b c s t = record {
  wires = t.wires ∙ s.wires;
  ports = t.ports ∙ s.ports;
  listener_faults = t.listener_faults ∙ s.listener_faults;
  refuses_starts = t.refuses_starts ∙ s.refuses_starts;
  starts_failed = t.starts_failed ∙ s.starts_failed;
  returned = t.returned ∙ s.returned;
}

module _ (kind : FrontKind) (found : Option (List Entry)) (given host host' : Supply) (port most : ℕ) (still : ConnectionsStay given host) where
  all_since : (s : Status) → ServedAll kind found host host' most s → ServedAll kind found given host' most s
  all_since s a = record {
    history = a.history;
    grows = a.grows;
    kept = a.kept;
    taken = a.taken;
    over = a.over;
    first = subst (λ (o : Option (List Stream)). AreFirst a.taken o) still.wires a.first;
    within = a.within;
    once = a.once;
    back = subst (λ (o : Option (List Stream)). CameBack o host'.returned (map (λ (c : Connection). c.after) a.over)) still.returned a.back;
    each = a.each;
    numbers = a.numbers;
    own = a.own;
    count = a.count;
    apart = a.apart;
    counted_in = a.counted_in;
    nothing_else = a.nothing_else;
    turned = a.turned ∙ ap (λ (n : ℕ). counts_together n (refusals_in a.over)) still.starts_failed;
    fed = a.fed;
    enough = λ e. subst (λ (o : Option (List Stream)). AreEnough most a.taken o) still.wires (a.enough e);
  }

  listens_since : (s : Status) → AsksFor host.ports host'.ports (Some port) ⊎ ((s ≡ status.NoMemory) × (host'.ports ≡ host.ports)) → AsksFor given.ports host'.ports (Some port) ⊎ ((s ≡ status.NoMemory) × (host'.ports ≡ given.ports))
  listens_since s (inl asks) = inl (subst (λ (o : Option (List ℕ)). AsksFor o host'.ports (Some port)) still.ports asks)
  listens_since s (inr (is, same)) = inr (is, same ∙ still.ports)

  over_port : (owned : Owned) (s : Status) (input output : Stream) → IsServable found given host owned → ServedAll kind found host host' most s → Listens host host' port s → OverPort kind found given host' port most (traffic input input output output) s
  over_port owned s input output servable a l = record {
    before = begun_of owned found (fresh host);
    begun = servable.begun;
    all = all_since s a;
    listens = listens_since s l.ports;
    unread = refl;
    put = put-nothing output.output;
  }

  pub served_since : (owned : Owned) (s : Status) (input output : Stream) → IsServable found given host owned → ServedAll kind found host host' most s → Listens host host' port s → ServedPort kind found given host' port most (traffic input input output output) s
  served_since owned status.Finished input output servable a l = over_port owned status.Finished input output servable a l
  served_since owned status.Usage input output servable a l = absurd l.ends
  served_since owned status.BadFrame input output servable a l = absurd l.ends
  served_since owned status.ReadFault input output servable a l = absurd l.ends
  served_since owned status.WriteFault input output servable a l = absurd l.ends
  served_since owned status.NoVolume input output servable a l = absurd l.ends
  served_since owned status.Damaged input output servable a l = absurd l.ends
  served_since owned status.NoMemory input output servable a l = inl (over_port owned status.NoMemory input output servable a l)
  served_since owned status.NoListener input output servable a l =
      (over_port owned status.NoListener input output servable a l, subst (λ (n : ℕ). HasRisen n host'.listener_faults) still.listener_faults (l.failed refl))

-- no write is counted where connections were served
pub writes_of_serving : (n : ℕ) (s : Status) → EndsServing s → CountsWrites n n s
writes_of_serving n status.Finished e = refl
writes_of_serving n status.Usage e = absurd e
writes_of_serving n status.BadFrame e = absurd e
writes_of_serving n status.ReadFault e = absurd e
writes_of_serving n status.WriteFault e = absurd e
writes_of_serving n status.NoVolume e = absurd e
writes_of_serving n status.Damaged e = absurd e
writes_of_serving n status.NoMemory e = refl
writes_of_serving n status.NoListener e = refl

-- ---- no store was opened

module _ (kind : FrontKind) (found : Option (List Entry)) (host host' : Supply) (port most : ℕ) (still : host'.ports ≡ host.ports) (input output output' : Option (List ℕ)) where
  abbrev t : Traffic
  t = record { input = input; left = input; output = output; written = output' }

  said_damage : (file at : ℕ) (s : Status) → SaysDamage file at output output' s → Refuses (IsDamagedAt file at) host host' → ServedPort kind found host host' port most t s
  said_damage file at status.Finished said r = absurd said
  said_damage file at status.Usage said r = absurd said
  said_damage file at status.BadFrame said r = absurd said
  said_damage file at status.ReadFault said r = absurd said
  said_damage file at status.WriteFault (bytes, missing, put, place) r = (missing, damaged host host' input output output' file at bytes missing r put place, still)
  said_damage file at status.NoVolume said r = absurd said
  said_damage file at status.Damaged said r = (damaged host host' input output output' file at (reply_bytes (reply.Damaged file at)) [] r said (sym (append-nil (reply_bytes (reply.Damaged file at)))), still)
  said_damage file at status.NoMemory (bytes, missing, put, place) r = inr (inl (missing, damaged host host' input output output' file at bytes missing r put place), still)
  said_damage file at status.NoListener said r = absurd said

  pub refused_port : (why : OpenFault) (s : Status) → HasNoStore why host host' → SaysFault why output output' s → ServedPort kind found host host' port most t s
  refused_port opening.NotMade s none said = absurd none
  refused_port opening.Vol s none (is, put) = subst (λ (u : Status). ServedPort kind found host host' port most t u) (sym is) (unopened host host' input output output' none.0 put, none.1, still)
  refused_port (opening.Damaged file at) s none said = said_damage file at s said none
  refused_port opening.Memory s none (is, put) = subst (λ (u : Status). ServedPort kind found host host' port most t u) (sym is) (inr (inr (unopened host host' input output output' none put), still))
