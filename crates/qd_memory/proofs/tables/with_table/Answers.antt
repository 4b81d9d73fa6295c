use Rattle.std.proofs.Common.{◌≡◌, ◌∙◌, ◌++◌, ◌∷◌, [], List, ap, sym, subst}
use Rattle.std.specs.List.{AllByRecursion}
use Rattle.qd_base.specs.declared.schema.Schema.{Schema}
use Rattle.qd_base.specs.Database.{step}
use Rattle.qd_base.specs.Lawful.{IsSchema}
use Rattle.qd_memory.specs.Kept.{database_of, IsKept, Kept}
use Rattle.qd_memory.proofs.ChangeLemmas.{database_more, kept_more}
use Rattle.qd_memory.proofs.tables.with_table.Goals as goal

pub new-table-requires : goal.new-table-requires
new-table-requires c = subst IsSchema (sym c.in_ok-copy.ensures.same) c.requires.schema

pub returns : goal.returns
returns c =
    let ts = c.args.tables.items in
    let t : Kept = c.new-table.result in
    let is = c.new-table.ensures ∙ ap (λ (s : Schema). let x : Kept = record { schema = s; slots = []; parts = []; waiting = [] } in x) c.in_ok-copy.ensures.same in
    record {
      kept = subst (AllByRecursion IsKept) (sym c.in_ok-push.ensures.items) (kept_more ts t c.requires.kept c.is_kept.ensures);
      step = ap database_of c.in_ok-push.ensures.items ∙ database_more ts c.args.schema.now t is;
    }
