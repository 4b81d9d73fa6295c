-- What a backend keeps of its session.
use Rattle.std.proofs.Common.{◌≡◌, ◌∙◌, Option, Some, None, sym, ap, subst}
use Rattle.atomic_table.specs.Seated.{TableId}
use Rattle.qd_session.specs.Looks as looks
use Rattle.qd_shared.specs.Desks.{Desk}
use Rattle.qd_shared.specs.Passes.{Holds, Pass}
use Rattle.qd_shared.specs.Rounds.{Passes}
use Rattle.qd_pass.specs.declared.asking.Session.{Session}
use Rattle.qd_pass.specs.Backs.{IsBack, IsSession, back_shown, pass_in}
use Rattle.qd_pass.specs.Passed.{GoesStill, IsCounted, IsReady}

-- a pass is ready behind a hold
pub ready_held : (old new : Pass) (found left : Desk) → Holds old new found left → IsCounted new → IsReady old → IsReady new
ready_held old new found left h counted is = record { idle = h.phase ∙ is.idle; kind = λ keeps. is.kind (sym h.mode ∙ keeps); counted = counted }

-- or behind holds in which nothing was added
pub passed_ready : (old new : Pass) → Passes old new → IsReady old → IsReady new
passed_ready old new p is = record { idle = p.phase ∙ is.idle; kind = λ keeps. is.kind (sym p.mode ∙ keeps); counted = p.count }

module _ {V : Type 0} where
  pub back_counted : (table : TableId) (o : Option (Session V)) → IsBack table o → looks.IsCounted (back_shown (pass_in o))
  back_counted table None is = absurd is
  back_counted table (Some s) is = is.ready.counted

  -- the session that was taken out
  module _ (table : TableId) (o taken : Option (Session V)) (s : Session V) (value : taken ≡ o) (is : taken ≡ Some s) where
    pub pass_there : Some s.pass ≡ pass_in o
    pass_there = sym (ap (λ (x : Option (Session V)). pass_in x) (sym value ∙ is))

    pub session_there : IsBack table o → IsSession table s
    session_there back = subst (λ (x : Option (Session V)). IsBack table x) (sym value ∙ is) back

    -- its pass is ready behind a hold, and it keeps nothing of a version
    pub session_held : (new : Pass) (found left : Desk) → IsBack table o → Holds s.pass new found left → IsCounted new → IsSession {V = V} table (record { pass = new; memo = None })
    session_held new found left back h counted =
        let was = session_there back in
        record { table_is = h.table ∙ was.table_is; ready = ready_held s.pass new found left h counted was.ready; memo = tt }

    -- or behind holds in which nothing was added
    pub session_passed : (new : Pass) → IsBack table o → GoesStill s.pass new → IsReady new → IsSession {V = V} table (record { pass = new; memo = None })
    session_passed new back g ready = record { table_is = g.goes.table ∙ (session_there back).table_is; ready = ready; memo = tt }
