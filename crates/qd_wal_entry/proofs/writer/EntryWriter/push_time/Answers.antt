use Rattle.std.proofs.Common.{◌∙◌, length, sym, ap, subst, arith}
use Rattle.qd_wal_entry.specs.contracts.writer.EntryWriter.{the_view}
use Rattle.qd_wal_entry.specs.Written.{IsSoFar, Written}
use Rattle.qd_wal_entry.proofs.WriterLemmas.{cell_pushed}
use Rattle.qd_base.specs.declared.cell.Cell.TheVariants as cell
use Rattle.qd_wal_entry.proofs.writer.EntryWriter.push_time.Goals as goal

pub invariant_of-self : goal.invariant_of-self
invariant_of-self c = record { few = omega (arith, ap length c.push_number.ensures.same, c.self.invariant.few); name = c.self.invariant.name }

pub invariant_of-self-2 : goal.invariant_of-self-2
invariant_of-self-2 c = record { few = omega (arith, ap length c.push_number.ensures.same, c.self.invariant.few); name = c.self.invariant.name }

pub returns-clause-pushed : goal.returns-clause-pushed
returns-clause-pushed c = λ e has. cell_pushed (the_view c.self.inside) e (subst (λ (w : Written). IsSoFar w e) (sym c.self.view_is) has) c.push_number.new.self (cell.Time c.args.time) (ap (λ (w : Written). w.is_open) c.self.view_is ∙ c.requires.begun) (omega (arith, c.ranges.time.fits)) (record { texts = c.in_ok-push_number.ensures.texts; bytes = λ more. c.in_ok-push_number.ensures.body })
