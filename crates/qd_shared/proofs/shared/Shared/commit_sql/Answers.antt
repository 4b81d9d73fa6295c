use Rattle.std.proofs.Common.{ap, sym, subst, ◌∙◌}
use Rattle.qd_score.specs.Calls.{known_by}
use Rattle.qd_shared.specs.Passes.{Pass}
use Rattle.qd_shared.specs.Commits.{statement, CommitsTo}
use Rattle.qd_shared.specs.Desks.{Desk}
use Rattle.qd_shared.proofs.Committing.{may_end_committed}
use Rattle.qd_shared.proofs.Seated.{committed_pass, not_keeper}
use Rattle.qd_shared.proofs.shared.Shared.commit_sql.Goals as goal

pub give-requires-clause-may : goal.give-requires-clause-may
give-requires-clause-may g c =
    let k = known_by c.pass.inside.seat in
    let now = known_by c.take-hold.new.seat in
    let found = c.take-hold.result.book in
    let committed = subst (λ (d : Desk). CommitsTo (statement c.args.stmt.now) c.commit_sql-done.result d c.commit_sql-done.new.self) c.book.ensures.value c.commit_sql-done.ensures.commits in
    may_end_committed (statement c.args.stmt.now) c.commit_sql-done.result found c.commit_sql-done.new.self committed now
    (not_keeper c.args.pass.now k now found c.pass.inside.seat.table_id c.pass.view_is c.take-hold.ensures.along c.requires.kind) c.take-hold.ensures.may

pub returns : goal.returns
returns g c =
    let k = known_by c.pass.inside.seat in
    let now = known_by c.take-hold.new.seat in
    let found = c.take-hold.result.book in
    let committed = subst (λ (d : Desk). CommitsTo (statement c.args.stmt.now) c.commit_sql-done.result d c.commit_sql-done.new.self) c.book.ensures.value c.commit_sql-done.ensures.commits in
    let left = c.commit_sql-done.new.self in
    let may = may_end_committed (statement c.args.stmt.now) c.commit_sql-done.result found left committed now
    (not_keeper c.args.pass.now k now found c.pass.inside.seat.table_id c.pass.view_is c.take-hold.ensures.along c.requires.kind) c.take-hold.ensures.may in
    let same = c.give.ensures.seat.sits.of ∙ sym (ap (λ (p : Pass). p.table) c.pass.view_is ∙ c.requires.pass) in
    record {
      commits = committed_pass c.args.pass.now c.pass.inside.seat.table_id c.give.new.seat.table_id k now (known_by c.give.new.seat) c.pass.view_is c.pass.invariant.2 found c.take-hold.ensures.begins c.take-hold.ensures.along same
          (statement c.args.stmt.now) c.commit_sql-done.result left committed may c.give.ensures.gave c.give.ensures.counted;
    }
