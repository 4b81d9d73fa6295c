use Rattle.std.proofs.Common.{List, Option, IfSome, ◌∙◌, subst, sym}
use Rattle.qd_base.specs.declared.op.Entry.{Entry}
use Rattle.qd_store.specs.Owned.{Store}
use Rattle.qd_store_backend.specs.Backs.{IsLeftOf, IsTold, left_of}
use Rattle.qd_store_backend.proofs.Begun.{begun, told_over}
use Rattle.qd_store_backend.proofs.back.StoreBack.over.Goals as goal

pub over-parts-requires-clause-told : goal.over-parts-requires-clause-told
over-parts-requires-clause-told g c = subst (λ (o : Option (List Entry)). IfSome o (IsTold c.args.store)) (sym c.of-telling.ensures) (told_over c.args.told.now.history c.args.store c.requires.told)

pub invariant_of-result : goal.invariant_of-result
invariant_of-result g c = begun c.over-parts.result c.args.store c.hist_len-before.result (left_of c.left_behind.result.history) c.over-parts.ensures.store c.hist_len-before.ensures.count c.keeps_its_law.ensures.book c.requires.usual c.requires.alone c.left_behind.ensures.left

pub returns-clause-history : goal.returns-clause-history
returns-clause-history g c = c.over-parts.ensures.history ∙ c.of-telling.ensures

pub returns-clause-left : goal.returns-clause-left
returns-clause-left g c =
    subst (λ (h : Option (List Entry)). IsLeftOf h c.args.store (left_of c.left_behind.result.history)) (c.over-parts.ensures.history ∙ c.of-telling.ensures)
    (subst (λ (o : Store). IsLeftOf c.over-parts.result.history o (left_of c.left_behind.result.history)) c.over-parts.ensures.store c.left_behind.ensures.left)
