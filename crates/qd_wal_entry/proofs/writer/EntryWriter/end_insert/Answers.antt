use Rattle.std.proofs.Common.{◌≡◌, ◌∙◌, List, ℕ, ◌∷◌, ◌++◌, length, sym, ap, subst, arith}
use Rattle.qd_fields.specs.Spelling.{FitsName, name_bytes, u16_bytes, u32_bytes}
use Rattle.qd_wal_entry.specs.contracts.writer.EntryWriter.{the_view}
use Rattle.qd_wal_entry.specs.Written.{HasRoom, IsSoFar, Written}
use Rattle.qd_wal_entry.proofs.WriterLemmas.{insert_ended}
use Rattle.qd_wal_entry.proofs.writer.EntryWriter.end_insert.Goals as goal

pub push_head-requires : goal.push_head-requires
push_head-requires c = record { table = subst FitsName (sym c.as_slice.ensures.value) c.self.invariant.name }

pub invariant_of-self-in_err-give_body : goal.invariant_of-self-in_err-give_body
invariant_of-self-in_err-give_body c = record { few = omega (arith, ap length c.give_body.ensures.texts, c.self.invariant.few); name = c.self.invariant.name }

pub returns-clause-added : goal.returns-clause-added
returns-clause-added c =
    let old = the_view c.self.inside in
    let head : c.push_head.new.bytes.items ≡ old.done ++ (3 ∷ (name_bytes old.table ++ (u16_bytes old.columns ++ u32_bytes old.rows))) =
    c.in_ok-push_head.ensures.bytes ∙ ap (λ (t : List ℕ). old.done ++ (3 ∷ (name_bytes t ++ (u16_bytes old.columns ++ u32_bytes old.rows)))) c.as_slice.ensures.value in
    λ e has. rw c.clear.ensures.items
    (insert_ended old e (subst (λ (w : Written). IsSoFar w e) (sym c.self.view_is) has) c.give_body.new.self c.give_body.new.bytes.items c.push_head.new.bytes.items (ap (λ (w : Written). w.cells) c.self.view_is ∙ c.requires.ended) (subst HasRoom (sym c.self.view_is) c.requires.room).changes c.give_body.ensures.texts c.in_ok-give_body.ensures.body head c.in_ok-give_body.ensures.given)
