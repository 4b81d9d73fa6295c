use Rattle.std.proofs.Common.{◌≡◌, ℕ, ◌+◌, false, None, Some, Option, List, get_or, sym, ap, ◌∙◌}
use Rattle.qd_base.specs.declared.schema.Col.{Col}
use Rattle.qd_bind.specs.Scoped.{Found, hit, join, summary}
use Rattle.qd_bind.proofs.ApartLemmas.{none_named, one_named}
use Rattle.qd_bind.proofs.ScopeLemmas.{join_none}
use Rattle.qd_bind.proofs.scope.one_hit.Goals as goal

pub returns-in-Some : goal.returns-in-Some
returns-in-Some c =
    let cols = c.args.cols.now in
    let col = c.index-items-i.result in
    record {
      hits =
          c.one_more.ensures.more
          ∙ ap (λ (x : Col). join (hit c.args.before) (Some (c.args.base + c.in-Some.i, x, false))) (c.index-items-i.is ∙ ap (λ (xs : List Col). get_or xs c.in-Some.i col) c.as_slice-items.ensures.items)
          ∙ sym (ap (λ (xs : List (ℕ × Col)). join (hit c.args.before) (summary xs)) (one_named cols c.requires.apart c.args.name.now c.in-Some.i col (sym c.in-Some.ensures.position) c.args.base));
    }

pub returns-in-None : goal.returns-in-None
returns-in-None c = record {
  hits = sym (ap (λ (xs : List (ℕ × Col)). join (hit c.args.before) (summary xs)) (none_named c.args.name.now c.args.base c.args.cols.now (sym c.in-None.ensures.position)) ∙ join_none (hit c.args.before));
}
