use Rattle.std.proofs.Common.{◌∙◌, ℤ, length, sym, ap, subst, arith}
use Rattle.std.specs.Int.{w64}
use Rattle.std.proofs.lemmas.Int.{to_z-of_z}
use Rattle.qd_wal_entry.specs.Spelling.{text_of, cell_bytes}
use Rattle.qd_wal_entry.specs.Writing.{Adds}
use Rattle.qd_wal_entry.specs.contracts.writer.EntryWriter.{the_view}
use Rattle.qd_wal_entry.specs.Written.{IsSoFar, Written}
use Rattle.qd_wal_entry.proofs.WriterLemmas.{cell_pushed}
use Rattle.qd_base.specs.declared.cell.Cell.TheVariants as cell
use Rattle.qd_wal_entry.proofs.writer.EntryWriter.push_long.Goals as goal

pub invariant_of-self : goal.invariant_of-self
invariant_of-self c = record { few = omega (arith, ap length c.push_signed.ensures.same, c.self.invariant.few); name = c.self.invariant.name }

pub invariant_of-self-2 : goal.invariant_of-self-2
invariant_of-self-2 c = record { few = omega (arith, ap length c.push_signed.ensures.same, c.self.invariant.few); name = c.self.invariant.name }

pub returns-clause-pushed : goal.returns-clause-pushed
returns-clause-pushed c =
    let added = subst (λ (x : ℤ). Adds text_of cell_bytes c.self.inside.draft c.push_signed.new.self (cell.Long x)) (to_z-of_z w64 c.args.number c.ranges.number) c.in_ok-push_signed.ensures.added in
    λ e has. cell_pushed (the_view c.self.inside) e (subst (λ (w : Written). IsSoFar w e) (sym c.self.view_is) has) c.push_signed.new.self (cell.Long c.args.number) (ap (λ (w : Written). w.is_open) c.self.view_is ∙ c.requires.begun) c.ranges.number added
