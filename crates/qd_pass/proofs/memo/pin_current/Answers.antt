use Rattle.qd_score_model.specs.declared.view.View.{View}
use Rattle.qd_manifest.specs.declared.shape.TableParts.{TableParts}
use Rattle.std.proofs.Common.{List, ap, ap₂}
use Rattle.qd_shared.specs.declared.item.Item.{Item}
use Rattle.qd_shared.specs.Passes.{history_by, is_told}
use Rattle.qd_pass.proofs.Memory.{memos_on}
use Rattle.qd_pass.proofs.memo.pin_current.Goals as goal

pub returns-in-Ok-clause-memo : goal.returns-in-Ok-clause-memo
returns-in-Ok-clause-memo g c =
    let is = c.in-Ok.ensures.pinned in
    memos_on c.args.pass.now c.pin.new.pass c.args.memo (ap (λ (v : View Item (List TableParts)). v.noted) is) (ap (λ (v : View Item (List TableParts)). v.seen) is) (ap₂ history_by (ap is_told c.pin.ensures.origin) (ap (λ (v : View Item (List TableParts)). v.seen) is)) c.requires.memo
