use Rattle.std.proofs.Common.{◌∙◌, ◌++◌, ◌∷◌, [], ap}
use Rattle.qd_meaning.specs.Outputs.{made_new}
use Rattle.qd_plan.specs.declared.shows.Shows as held
use Rattle.qd_plan.specs.Names.{names}
use Rattle.qd_plan.specs.Showing.{kind_in, role_by}
use Rattle.qd_plan.proofs.ItemLemmas.{makes_more, role_same}
use Rattle.qd_plan.proofs.work.Parts.add.Goals as goal

pub returns : goal.returns
returns c =
    let old = c.args.self.now in
    record {
      added = λ shown one m is.
          makes_more c.args.buckets shown one old c.put.new.self c.role_of.result
          (c.role_of.ensures.role ∙ ap (λ (s : held.Shows). role_by c.args.buckets s.part) is ∙ role_same c.args.buckets one.part) m c.in_ok-put.ensures.keys c.in_ok-put.ensures.aggs
          (c.in_ok-put.ensures.kinds ∙ ap (λ (s : held.Shows). old.kinds ++ kind_in s.kind c.role_of.result) is) c.in_ok-put.ensures.seats
          (c.in_ok-put.ensures.out ∙ c.in_ok-push.ensures.pushed ∙ ap (λ (s : held.Shows). old.out ++ record { name = made_new (names old.out) s.name; kind = s.kind } ∷ []) is);
    }
