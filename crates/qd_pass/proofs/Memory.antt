-- What is kept of a version stays kept while its pass notes nothing else.
use Rattle.std.proofs.Common.{◌≡◌, ◌∙◌, ◌≤◌, List, length, Option, Some, None, IfSome, sym, ap, subst}
use Rattle.qd_base.specs.declared.op.Entry.{Entry}
use Rattle.qd_manifest.specs.declared.shape.TableParts.{TableParts}
use Rattle.qd_score_model.specs.declared.view.Version.{Version}
use Rattle.qd_score_model.specs.Machine.{version_at}
use Rattle.qd_store_backend.specs.Kept.{AreOf}
use Rattle.qd_shared.specs.declared.item.Item.{Item}
use Rattle.qd_shared.specs.Passes.{Pass, history_of, view_of}
use Rattle.qd_shared.specs.Snaps.{IsCopied}
use Rattle.qd_pass.specs.declared.memo.Memo.{Memo}
use Rattle.qd_pass.specs.Memos.{IsMemoOf, source_over}

pub memo_on : (old new : Pass) (m : Memo) → (view_of new).noted ≡ (view_of old).noted → (view_of new).seen ≡ (view_of old).seen → history_of new ≡ history_of old → IsMemoOf old m → IsMemoOf new m
memo_on old new m noted seen told is = record {
  noted = (is.noted.0, ap (λ (l : List (Option (Version (List TableParts)))). version_at l is.noted.0) noted ∙ is.noted.1);
  within = subst (λ (l : List Item). m.snap.n ≤ length l) (sym seen) is.within;
  copied = subst (λ (o : Option (List Entry)). IsCopied m.snap o) (sym told) is.copied;
  blocks = subst (λ (o : Option (List Entry)). AreOf (source_over m.snap o 0 0 None) m.kept.cache.entries) (sym told) is.blocks;
}

pub memos_on : (old new : Pass) (o : Option Memo) → (view_of new).noted ≡ (view_of old).noted → (view_of new).seen ≡ (view_of old).seen → history_of new ≡ history_of old → IfSome o (IsMemoOf old) → IfSome o (IsMemoOf new)
memos_on old new None noted seen told is = tt
memos_on old new (Some m) noted seen told is = memo_on old new m noted seen told is
