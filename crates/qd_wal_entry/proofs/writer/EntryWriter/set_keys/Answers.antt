use Rattle.std.proofs.Common.{◌≡◌, ◌∙◌, List, ℕ, [], ◌∷◌, ◌++◌, refl, sym, ap, subst, append_assoc}
use Rattle.qd_base.specs.declared.op.Op.TheVariants as op
use Rattle.qd_fields.specs.Spelling.{name_bytes, keys_bytes}
use Rattle.qd_wal_entry.specs.contracts.writer.EntryWriter.{the_view}
use Rattle.qd_wal_entry.specs.Spelling.{op_bytes}
use Rattle.qd_wal_entry.specs.Written.{HasRoom, IsSoFar, Written}
use Rattle.qd_wal_entry.proofs.WriterLemmas.{op_added}
use Rattle.qd_wal_entry.proofs.writer.EntryWriter.set_keys.Goals as goal

pub returns-clause-added : goal.returns-clause-added
unfolding op_bytes
returns-clause-added c =
    let d = c.self.inside.done.items in
    let n = name_bytes c.args.table.now in
    let k = keys_bytes c.args.keys.now in
    let front : c.push_name.new.bytes.items ≡ d ++ (4 ∷ n) = c.in_ok-push_name.ensures.bytes ∙ ap (λ (l : List ℕ). l ++ n) c.in_ok-push.ensures.items ∙ append_assoc d (4 ∷ []) n in
    let bytes : c.push_keys.new.bytes.items ≡ d ++ (4 ∷ (n ++ k)) = c.in_ok-push_keys.ensures.bytes ∙ ap (λ (l : List ℕ). l ++ k) front ∙ append_assoc d (4 ∷ n) k in
    λ e has. op_added (the_view c.self.inside) e (subst (λ (w : Written). IsSoFar w e) (sym c.self.view_is) has) c.push_keys.new.bytes.items (op.SetKeys c.args.table.now c.args.keys.now) refl (λ more. bytes) (c.requires.table, c.requires.keys) (subst HasRoom (sym c.self.view_is) c.requires.room).changes
