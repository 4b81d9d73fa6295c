-- What one hold of the lock tells its pass, from what the steps of its seat tell.
use Rattle.std.proofs.Common.{◌≡◌, ℕ, ◌-◌, List, [], ◌∷◌, ◌++◌, length, Option, Some, None, IfSome, refl, sym, ap, ap₂, ◌∙◌, subst, arith}
use Rattle.atomic_table.specs.Seated.{TableId}
use Rattle.qd_manifest.specs.declared.shape.TableParts.{TableParts}
use Rattle.qd_manifest.specs.Spelling.{blocks_of}
use Rattle.qd_score.specs.Rule.{ComesFrom, IsInOrder, Stands, sight_of, with_view, HasAddedAll}
use Rattle.qd_score_model.specs.declared.view.Place.{Place}
use Rattle.qd_score_model.specs.declared.view.Record.{Record}
use Rattle.qd_score_model.specs.declared.view.Sight.{Sight}
use Rattle.qd_score_model.specs.Machine.{behind, gave, record_of, took}
use Rattle.qd_score_model.proofs.Lists.{prefix_refl}
use Rattle.qd_shared.specs.declared.item.Item.{Item}
use Rattle.qd_shared.specs.Desks.{Desk, book_of, fixed_of, items_in, place_in}
use Rattle.qd_shared.specs.Holding.{Along, Begins, Comes, Finds, Gives, Grows, MayEnd}
use Rattle.qd_shared.specs.Passes.{Holds, Knowing, Pass, faults_in}
use Rattle.qd_shared.proofs.Taken.{meets}

abbrev pub See : Type 0
See = Sight Item (List TableParts)

abbrev pub at_table : TableId → Knowing → Pass
at_table table k = record { table = table; knows = k }

last_faults : (n : ℕ) (rs : List Record) (r : Record) → faults_in n (rs ++ r ∷ []) ≡ r.faults_left
last_faults n [] r = refl
last_faults n (x ∷ rs) r = last_faults x.faults_left rs r

pub comes_fixed : (o : Option Desk) (found : Desk) → IfSome o (λ d. ComesFrom book_of (λ x. Unit {0}) fixed_of d found) → IfSome o (λ d. fixed_of found ≡ fixed_of d)
comes_fixed None found comes = tt
comes_fixed (Some d) found comes = comes.1

-- ---- a take

module _ (k now : Knowing) (found : Desk) (is : now ≡ with_view k (took k.view (sight_of (book_of found)))) where
  abbrev seen : Knowing
  seen = with_view k (took k.view (sight_of (book_of found)))

  pub begins : Stands blocks_of now.view → Comes k found → HasAddedAll book_of (λ (x : Desk). Unit {0}) fixed_of k found → Begins k found
  begins stands comes whole =
      let m = meets blocks_of seen.view (sight_of (book_of found)) (subst (λ (x : Knowing). Stands blocks_of x.view) is stands) refl in
      record { comes = comes; seen = m.seen; sole = m.sole; known = m.known; faults = m.faults; whole = whole }

  pub finds : Stands blocks_of now.view → Finds k found
  finds stands =
      let m = meets blocks_of seen.view (sight_of (book_of found)) (subst (λ (x : Knowing). Stands blocks_of x.view) is stands) refl in
      record { pinned = m.pinned; noted = m.noted }

  pub along : Along k now found
  along = subst (λ (x : Knowing). Along k x found) (sym is) (record {
    hold = sight_of (book_of found);
    held = refl;
    history = refl;
    origin = refl;
    mode = refl;
    phase = refl;
    room = refl;
    own = refl;
    records = refl;
  })

  pub may_end : IsInOrder blocks_of (sight_of (book_of found)) → MayEnd now found
  may_end found_so = subst (λ (x : Knowing). MayEnd x found) (sym is) (
    sight_of (book_of found),
    refl,
    record {
      history = prefix_refl (items_in found);
      keeper = λ m. refl;
      faults = omega arith;
      removed = omega arith;
      versions = refl;
      current = refl;
      greatest = found_so.greatest;
      present = found_so.present;
    },
  )

-- ---- a give

module _ (table table' : TableId) (k now then : Knowing) (found left : Desk) (b : Begins k found) (a : Along k now found) (g : Grows found left) where
  one_hold : (h : See) → now.view.hold ≡ Some h → h ≡ a.hold
  one_hold h held = let here : Some a.hold ≡ Some h = sym a.held ∙ held in cc

  abbrev last : See → Knowing
  last h = with_view now (gave now.view h (book_of left))

  holds_last : (h : See) → h ≡ a.hold → place_in left ≡ h.current → table' ≡ table → Holds (at_table table k) (at_table table' (last h)) found left
  holds_last h same place tables =
      let history : h.history ≡ items_in found = ap (λ (x : See). x.history) same ∙ a.history in
      record {
        table = tables;
        origin = a.origin;
        fixed = comes_fixed k.origin found b.comes;
        stays = g.stays;
        seen_before = b.seen;
        known_before = b.known;
        faults_before = b.faults;
        grows = g.items;
        seen = refl;
        own = ap₂ (λ (own : List ℕ) (items : List Item). own ++ behind (length items) (length (items_in left) - length items)) a.own history;
        known = ap (λ (p : Place). p.n) (sym place);
        noted = refl;
        faults = last_faults 0 now.view.records (record_of h (book_of left));
        rise = g.rise;
        mode = a.mode;
        phase = a.phase;
        room = a.room;
      }

  pub holds : table' ≡ table → MayEnd now left → Gives now then left → Holds (at_table table k) (at_table table' then) found left
  holds tables (e, at, may) (h, held, is) =
      let same = one_hold h held in
      let also = one_hold e at in
      subst (λ (x : Knowing). Holds (at_table table k) (at_table table' x) found left) (sym is) (holds_last h same (may.current ∙ ap (λ (x : See). x.current) (also ∙ sym same)) tables)
