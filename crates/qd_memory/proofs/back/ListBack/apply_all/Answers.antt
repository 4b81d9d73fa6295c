use Rattle.std.proofs.Common.{◌≡◌, ◌∙◌, ◌-◌, ℕ, List, Some, length, take, drop, ap, sym, subst}
use Rattle.qd_base.specs.declared.op.Entry.{Entry}
use Rattle.qd_base.specs.Database.{Database}
use Rattle.qd_base.specs.Lawful.{LawfulFrom}
use Rattle.qd_base.specs.Replay.{replay}
use Rattle.qd_memory.specs.Listed.{FitsTogether}
use Rattle.qd_memory.proofs.HistoryLemmas.{fits_applied, lawful_rest, rest_all}
use Rattle.qd_memory.proofs.back.ListBack.apply_all.Goals as goal

pub apply-requires : goal.apply-requires
apply-requires c =
    let i = c.self.inside in
    let whole = ap (λ (l : List Entry). take (length l - i.applied) (drop i.applied l)) c.as_slice.ensures.items ∙ rest_all i.applied i.history in
    record { lawful = subst (LawfulFrom i.parts.schemas) (sym whole) (lawful_rest i.history i.applied i.schemas i.parts c.self.invariant c.keeps_its_law.ensures.law.told) }

pub invariant_of-self-2 : goal.invariant_of-self-2
invariant_of-self-2 c =
    let i = c.self.inside in
    let whole = ap (λ (l : List Entry). take (length l - i.applied) (drop i.applied l)) c.as_slice.ensures.items ∙ rest_all i.applied i.history in
    subst (λ (n : ℕ). FitsTogether i.history n i.schemas c.apply.new.self) (sym c.len-all.ensures.count)
    (fits_applied i.history i.applied i.schemas i.parts c.apply.new.self c.self.invariant
    (λ db told. c.in_ok-apply.ensures.ok db told ∙ ap (λ (l : List Entry). Some (replay db l)) whole))
