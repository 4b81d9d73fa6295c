use Rattle.std.proofs.Common.{◌≡◌, fold, unwrap_or, refl, sym, subst, arith}
use Rattle.qd_base.specs.Schemas.{schemas_step}
use Rattle.qd_sequencer.specs.declared.fault.CommitFault.{CommitFault}
use Rattle.qd_sequencer.specs.declared.fault.CommitFault.TheVariants as fault
use Rattle.qd_sequencer.specs.declared.fault.Committed.{Committed}
use Rattle.qd_sequencer.specs.Histories.{IsLawfulOver}
use Rattle.qd_versions.specs.Stores as versions
use Rattle.qd_store.specs.Stores.{Book}
use Rattle.qd_store.proofs.Books.{book_committed}
use Rattle.qd_store.proofs.CallsTold.{commit_told}
use Rattle.qd_store.proofs.Settled.{alone_told, idle_told, settled_behind}
use Rattle.qd_store.proofs.book.Book.commit.Goals as goal

pub invariant_of-self : goal.invariant_of-self
invariant_of-self g c =
    let inside : Book = record { sequence = c.self.inside.sequencer; versions = c.self.inside.versions; limits = c.self.inside.limits } in
    let new : Book = record { sequence = c.commit.new.self; versions = c.self.inside.versions; limits = c.self.inside.limits } in
    book_committed inside new c.self.invariant refl refl c.commit.result _ c.commit.ensures.place c.commit.ensures.room c.commit.ensures.stays

pub returns-then-len-self-clause-told : goal.returns-then-len-self-clause-told
returns-then-len-self-clause-told g c e spells lawful left =
    let s : Book = c.args.self.now in
    alone_told Committed CommitFault (λ x. x ≡ e) fault.Full s s _ _
    (idle_told c.stores_are_whole.ensures.law s (subst (λ (s : Book). versions.IsStore s.versions) c.self.view_is c.keeps_its_law.ensures.law) _)

pub returns-clause-told : goal.returns-clause-told
returns-clause-told g c e spells lawful left =
    let inside : Book = record { sequence = c.self.inside.sequencer; versions = c.self.inside.versions; limits = c.self.inside.limits } in
    let new : Book = record { sequence = c.commit.new.self; versions = c.self.inside.versions; limits = c.self.inside.limits } in
    commit_told c.commit.result c.args.self.now inside new (sym c.self.view_is) refl c.keeps_its_law.ensures.law (λ x. x ≡ e) _ _
    (c.commit.ensures.told e spells
    (subst (λ (s : Book). IsLawfulOver s.sequence.schemas e) (sym c.self.view_is) lawful)
    (subst (λ (s : Book). unwrap_or c.args.after s.sequence.schemas ≡ fold schemas_step s.sequence.schemas e.ops) (sym c.self.view_is) left))

pub returns-clause-settled : goal.returns-clause-settled
returns-clause-settled g c clean = settled_behind c.commit.result c.commit.new.self _ c.commit.ensures.clean c.commit.ensures.causes (λ full. omega (arith, full, c.if-len-self.false, c.len.ensures.count))
