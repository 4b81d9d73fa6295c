use Rattle.std.proofs.Common.{sym, ap, subst, ◌∙◌, ℕ}
use Rattle.std.specs.Option.{option_copied}
use Rattle.qd_block.specs.Blocks.{Block}
use Rattle.qd_store_backend.specs.Kept.{IsKept}
use Rattle.qd_store_backend.proofs.KeptLemmas.{found_kept, promoted_keeps}
use Rattle.qd_store_backend.proofs.kept.KeptBlocks.find.Goals as goal

pub returns-in_err-clone-in-Some-clause-keeps : goal.returns-in_err-clone-in-Some-clause-keeps
returns-in_err-clone-in-Some-clause-keeps c = promoted_keeps c.args.self.now.cache c.promote.new.self (c.args.table, c.args.i) c.promote.ensures.entries

pub returns-in_ok-clone-in-Some-clause-found : goal.returns-in_ok-clone-in-Some-clause-found
returns-in_ok-clone-in-Some-clause-found c =
    let at : ℕ × ℕ = (c.args.table, c.args.i) in
    let kept = found_kept c.args.self.now.cache c.promote.new.self at c.in-Some.block.now (sym c.peek.ensures ∙ ap option_copied c.in-Some.is) in
    subst (λ (b : Block). IsKept c.args.self.now.cache.entries c.args.table c.args.i b) (sym c.in_ok-clone-in-Some.ensures.cases)
    (promoted_keeps c.args.self.now.cache c.promote.new.self at c.promote.ensures.entries c.args.table c.args.i _ kept)

pub returns-in_ok-clone-in-Some-clause-keeps : goal.returns-in_ok-clone-in-Some-clause-keeps
returns-in_ok-clone-in-Some-clause-keeps c = promoted_keeps c.args.self.now.cache c.promote.new.self (c.args.table, c.args.i) c.promote.ensures.entries

pub returns-in-None-clause-keeps : goal.returns-in-None-clause-keeps
returns-in-None-clause-keeps c = promoted_keeps c.args.self.now.cache c.promote.new.self (c.args.table, c.args.i) c.promote.ensures.entries
