use Rattle.std.proofs.Common.{ℕ, ◌+◌, Some, sym, ap, ◌∙◌}
use Rattle.qd_base.specs.declared.schema.Col.{Col}
use Rattle.qd_base.specs.Schemas.{same_name}
use Rattle.qd_lines.proofs.MarkLemmas.{position_left, position_right, position_neither}
use Rattle.qd_lines.proofs.draft.place_of.Goals as goal

pub returns-then-is_at : goal.returns-then-is_at
returns-then-is_at c = record { place = sym (position_left (λ (x : Col). same_name x.name c.args.name.now) c.args.columns.cols.now c.args.added.now c.args.before (c.is_at.ensures.found c.if-is_at.true)) }

pub returns-then-is_at-2 : goal.returns-then-is_at-2
returns-then-is_at-2 c = record { place = sym (position_left (λ (x : Col). same_name x.name c.args.name.now) c.args.columns.cols.now c.args.added.now c.args.next (c.is_at-2.ensures.found c.if-is_at-2.true)) }

pub returns-in-Some : goal.returns-in-Some
returns-in-Some c = record { place = sym (position_left (λ (x : Col). same_name x.name c.args.name.now) c.args.columns.cols.now c.args.added.now c.in-Some.place (sym c.in-Some.ensures.position)) }

pub returns-in-Some-find : goal.returns-in-Some-find
returns-in-Some-find c =
    record { place = ap (λ (n : ℕ). Some (n + c.in-Some-find.place)) c.len.ensures.count ∙ sym (position_right (λ (x : Col). same_name x.name c.args.name.now) c.args.columns.cols.now c.args.added.now c.in-Some-find.place (sym c.in-None.ensures.position) (sym c.in-Some-find.ensures.position)) }

pub returns-in-None-find : goal.returns-in-None-find
returns-in-None-find c = record { place = sym (position_neither (λ (x : Col). same_name x.name c.args.name.now) c.args.columns.cols.now c.args.added.now (sym c.in-None.ensures.position) (sym c.in-None-find.ensures.position)) }
