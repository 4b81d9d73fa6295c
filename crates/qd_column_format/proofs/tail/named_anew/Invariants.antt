use Rattle.std.proofs.Common.{◌≡◌, ◌≤◌, All, length, map, take}
use Rattle.qd_base.specs.declared.limits.TheConstants.{MAX_TEXT_BYTES}
use Rattle.qd_base.specs.Dictionary.{id_for}
use Rattle.qd_column_format.specs.Tails.{with_texts}
use Rattle.qd_column_format.proofs.tail.named_anew.Given as goal

-- the texts so far are named, and all texts are short
abbrev pub invariant-loop-id : goal.invariant-loop-id
invariant-loop-id g l =
    (g.D.Dictionary.texts l.texts ≡ with_texts (g.D.Dictionary.texts l.fn.texts) (take l.id (g.D.Dictionary.texts l.dictionary)))
    × (l.names.items ≡ map (id_for (g.D.Dictionary.texts l.texts)) (take l.id (g.D.Dictionary.texts l.dictionary)))
    × All (λ t. length t ≤ MAX_TEXT_BYTES) (g.D.Dictionary.texts l.texts)
