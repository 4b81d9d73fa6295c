-- All connections were served.
use Rattle.std.proofs.Common.{◌≡◌, ◌∙◌, ℕ, Bool, false, List, [], ◌++◌, length, map, Option, Result, refl, sym, ap, ap₂, subst, arith}
use Rattle.std.specs.Borrow.{GName}
use Rattle.atomic_table.specs.Seated.{TableId}
use Rattle.qd_fronts.specs.declared.front.FrontKind.{FrontKind}
use Rattle.qd_host.specs.Hosts.{Supply, after_starts}
use Rattle.qd_io.specs.Clocks.{Times}
use Rattle.qd_io.specs.declared.fault.IoFault.{IoFault}
use Rattle.qd_io.specs.Ends.{Stream, counts_together, last_count}
use Rattle.qd_net.specs.Arrivals.{Arrivals}
use Rattle.qd_server.specs.Accepting.{Ends, IsWithin, Serves, Takes}
use Rattle.qd_server.specs.declared.maker.TheConstants.{MOST}
use Rattle.qd_server.specs.Works.{Works}
use Rattle.qd_session.specs.Looks.{Extends}
use Rattle.qd_shared.specs.Passes.{Pass, history_by, history_of, is_told, view_of}
use Rattle.qd_connections.specs.Accounts.{IsAccount, IsMain}
use Rattle.qd_connections.specs.Making.{IsCounted, IsLent, after_serving}
use Rattle.qd_connections.specs.Serving.{ServesAll, after_all}
use Rattle.qd_connections.specs.Visits.{Visit}
use Rattle.qd_connections.proofs.Counting.{account_begins}
use Rattle.qd_connections.proofs.Making.{still_seen}

-- no work was made yet
abbrev pub no_works : {W J : Type 0} → Works W J
no_works = record { taken = []; out = []; unstarted = [] }

pub lent_begins : (lender l : GName) (began now : Supply) (table : TableId) (first main : Pass) → l ≡ lender → now ≡ began → table ≡ first.table → main ≡ first → IsLent lender l began now table first main
lent_begins lender l began now table first main name same shared is = record {
  same = name;
  rest = subst (λ (x : Supply). now ≡ after_serving now x) same refl;
  shared = shared;
  of = ap (λ (p : Pass). p.table) is;
  origin = ap (λ (p : Pass). p.knows.origin) is;
  grows = subst (λ (p : Pass). Extends (history_of p) (history_of main)) is (still_seen (is_told main.knows.origin) (view_of main).seen);
}

module _ {W : Type 0} (stream : W → Stream) (kind : FrontKind) where
  pub counted_begins : (began now : Supply) (main : Pass) (starved : Bool) → now ≡ began → starved ≡ false → (view_of main).own ≡ [] → IsMain main 0 MOST → IsCounted stream kind (view_of main).room began now main starved no_works
  counted_begins began now main starved same fed none is = record {
    account = subst (λ (x : Supply). IsAccount kind main x.returned now.returned starved [] [] 0) same
        (subst (λ (b : Bool). IsAccount kind main now.returned now.returned b [] [] 0) (sym fed) (account_begins kind main now.returned none));
    main_is = record { mode = is.mode; idle = is.idle; room = omega arith };
    enough = (let room = is.room in omega (arith, room));
  }

  pub works_begin : (lender l : GName) (began now : Supply) (table : TableId) (first main : Pass) (starved : Bool) → l ≡ lender → now ≡ began → table ≡ first.table → main ≡ first → starved ≡ false → (view_of main).own ≡ [] → IsMain main 0 MOST
      → IsLent lender l began now table first main × IsCounted stream kind (view_of first).room began now main starved no_works
  works_begin lender l began now table first main starved name same shared is fed none main_is = (
    lent_begins lender l began now table first main name same shared is,
    subst (λ (p : Pass). IsCounted stream kind (view_of p).room began now main starved no_works) is (counted_begins began now main starved same fed none main_is),
  )

  -- how many starts were refused is told to the host
  counts_once : (count n : ℕ) → counts_together count (counts_together 0 n) ≡ counts_together count n
  counts_once count n = omega arith

  all_told : (began mid now : Supply) (refused : ℕ) → mid ≡ after_serving mid began → now ≡ after_starts refused mid → now ≡ after_all now began
  all_told began mid now refused f e =
      let x = now.starts_failed in
      let first : now ≡ record (after_serving mid began) { starts_failed = counts_together mid.starts_failed refused } = e ∙ ap (λ (m : Supply). record m { starts_failed = counts_together mid.starts_failed refused }) f in
      let times : mid.clock_times ≡ now.clock_times = sym (ap (λ (s : Supply). s.clock_times) e) in
      let faults : mid.clock_faults ≡ now.clock_faults = sym (ap (λ (s : Supply). s.clock_faults) e) in
      let wires : mid.returned ≡ now.returned = sym (ap (λ (s : Supply). s.returned) e) in
      let starts : counts_together mid.starts_failed refused ≡ now.starts_failed = sym (ap (λ (s : Supply). s.starts_failed) e) in
      first ∙ ap₂ (λ (t : Option Times) (n : ℕ). record began { clock_times = t; clock_faults = n; returned = mid.returned; starts_failed = counts_together mid.starts_failed refused }) times faults
      ∙ ap₂ (λ (r : Option (List Stream)) (n : ℕ). record began { clock_times = now.clock_times; clock_faults = now.clock_faults; returned = r; starts_failed = n }) wires starts

  pub serves_all : (lender l : GName) (began mid now : Supply) (table : TableId) (old new : Arrivals W) (first main : Pass) (starved : Bool) (most : ℕ) (ended : Result ℕ IoFault) (wires : List W) (t : Works W Visit) (failed failed' : ℕ)
      → Takes wires old.ahead new.ahead → Ends wires most old.ahead new.ahead new.closed ended → IsWithin wires most → IsLent lender l began mid table first main → IsCounted stream kind (view_of first).room began mid main starved t → t.out ≡ []
      → failed ≡ 0 → Serves wires no_works t failed failed' → now ≡ after_starts failed' mid → ServesAll stream kind began now old new first main starved most ended
  serves_all lender l began mid now table old new first main starved most ended wires t failed failed' takes ends within lent counted none zero serves told = record {
    wires = wires;
    takes = takes;
    refused = length t.unstarted;
    account = subst (λ (r : Option (List Stream)). IsAccount kind main began.returned r starved (map stream wires) [] (length t.unstarted)) (sym (ap (λ (s : Supply). s.returned) told))
        (subst (λ (o : List Visit). IsAccount kind main began.returned mid.returned starved (map stream wires) o (length t.unstarted)) none
        (subst (λ (l : List W). IsAccount kind main began.returned mid.returned starved (map stream l) t.out (length t.unstarted)) serves.taken counted.account));
    counted =
        let many : failed' ≡ counts_together 0 (length t.unstarted) = serves.counted ∙ ap₂ (λ (a b : ℕ). counts_together a b) zero (sym (ap length serves.unstarted)) in
        let same : mid.starts_failed ≡ began.starts_failed = ap (λ (s : Supply). s.starts_failed) lent.rest in
        ap (λ (s : Supply). s.starts_failed) told ∙ ap₂ (λ (a b : ℕ). counts_together a b) same many ∙ counts_once began.starts_failed (length t.unstarted);
    ends = ends;
    within = within;
    rest = all_told began mid now failed' lent.rest told;
    table = lent.of;
    grows = lent.grows;
    origin = lent.origin;
    room = (let r = counted.main_is.room in let z : length t.out ≡ 0 = ap length none in omega (arith, r, z));
  }
