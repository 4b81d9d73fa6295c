use Rattle.std.proofs.Common.{◌≡◌, ◌∙◌, List, ℕ, [], ◌∷◌, ◌++◌, refl, sym, ap, subst, append_assoc}
use Rattle.qd_base.specs.declared.op.Op.TheVariants as op
use Rattle.qd_fields.specs.Spelling.{schema_bytes}
use Rattle.qd_wal_entry.specs.contracts.writer.EntryWriter.{the_view}
use Rattle.qd_wal_entry.specs.Spelling.{op_bytes}
use Rattle.qd_wal_entry.specs.Written.{HasRoom, IsSoFar, Written}
use Rattle.qd_wal_entry.proofs.WriterLemmas.{op_added}
use Rattle.qd_wal_entry.proofs.writer.EntryWriter.create.Goals as goal

pub returns-clause-added : goal.returns-clause-added
unfolding op_bytes
returns-clause-added c =
    let d = c.self.inside.done.items in
    let s = schema_bytes c.args.schema.now in
    let bytes : c.push_schema.new.bytes.items ≡ d ++ (1 ∷ s) = c.in_ok-push_schema.ensures.bytes ∙ ap (λ (l : List ℕ). l ++ s) c.in_ok-push.ensures.items ∙ append_assoc d (1 ∷ []) s in
    λ e has. op_added (the_view c.self.inside) e (subst (λ (w : Written). IsSoFar w e) (sym c.self.view_is) has) c.push_schema.new.bytes.items (op.Create c.args.schema.now) refl (λ more. bytes) c.requires.fits (subst HasRoom (sym c.self.view_is) c.requires.room).changes
