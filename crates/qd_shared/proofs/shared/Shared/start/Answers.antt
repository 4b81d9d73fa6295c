use Rattle.std.proofs.Common.{subst, sym, arith}
use Rattle.qd_score.specs.Calls.{known_by}
use Rattle.qd_shared.specs.Desks.{Desk, IsDesk}
use Rattle.qd_store.specs.Opening.{HasFirstRow}
use Rattle.qd_store.specs.Stores.{IsBook}
use Rattle.qd_shared.specs.Publishing.{HasRows}
use Rattle.qd_store_backend.proofs.Begun.{told_over}
use Rattle.qd_shared.proofs.Closing.{started}
use Rattle.qd_shared.proofs.Thinning.{may_open, small_open}
use Rattle.qd_shared.proofs.shared.Shared.start.Goals as goal

pub start-requires-clause-opens : goal.start-requires-clause-opens
start-requires-clause-opens g c =
    let is = sym c.of.ensures in
    let law = c.keeps_its_law.ensures in
    may_open c.of.result (subst (λ (d : Desk). HasFirstRow d.owned.store.versions.versions) is c.requires.first) (subst HasRows is (record { rows = law.versions.rows; written = law.versions.has_rows })) (subst (λ (d : Desk). IsBook d.owned.store) is law.book)

pub start-requires-clause-small : goal.start-requires-clause-small
start-requires-clause-small g c =
    let is = sym c.of.ensures in
    let le = small_open c.of.result (subst (λ (d : Desk). HasFirstRow d.owned.store.versions.versions) is c.requires.first) (subst (λ (d : Desk). IsBook d.owned.store) is c.keeps_its_law.ensures.book) in
    omega (arith, le)

pub returns-in-Ok-clause-starts : goal.returns-in-Ok-clause-starts
returns-in-Ok-clause-starts g c =
    let kept : IsDesk c.of.result = subst IsDesk (sym c.of.ensures) (record { usual = c.requires.usual; told = told_over c.args.told.now.history c.args.store c.requires.told }) in
    started (record { table = c.in-Ok.seat.table_id; knows = known_by c.in-Ok.seat }) c.args.store c.args.told.now.history c.of.result c.of.ensures kept c.in-Ok.ensures.first
