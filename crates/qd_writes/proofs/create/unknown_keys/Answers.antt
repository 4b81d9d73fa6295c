use Rattle.std.proofs.Common.{◌≡◌, ◌∙◌, ap, get_or, take}
use Rattle.std.specs.List.{flat_map}
use Rattle.qd_base.specs.declared.code.Code.TheVariants as code
use Rattle.qd_sql_ast.specs.declared.tree.Name.{Name}
use Rattle.qd_meaning.specs.Refusals.{least, unless}
use Rattle.qd_meaning.specs.Creating.{cols_of, unknown_column}
use Rattle.qd_writes.specs.Met.{names_of}
use Rattle.qd_writes.proofs.JudgeLemmas.{flat_more}
use Rattle.qd_writes.proofs.MetLemmas.{column_met}
use Rattle.qd_writes.proofs.create.unknown_keys.Goals as goal

pub loop-key-preserved : goal.loop-key-preserved
loop-key-preserved c =
    let x : Name = c.key-item.result in
    let there = c.in_ok-is_there.ensures.there (names_of c.args.create.now.columns) c.requires in
    let one : c.unless.result ≡ least (unknown_column (cols_of c.args.create.now) (get_or c.args.keys.now c.loop-key.key-index x)) =
    c.unless.ensures.least
    ∙ ap (λ b. least (unless b code.UnknownColumn x.at)) (there ∙ column_met c.args.create.now.columns x)
    ∙ ap (λ (k : Name). least (unknown_column (cols_of c.args.create.now) k)) c.key-item.is in
    c.both-found.ensures.least (flat_map (unknown_column (cols_of c.args.create.now)) (take c.loop-key.key-index c.args.keys.now)) (unknown_column (cols_of c.args.create.now) (get_or c.args.keys.now c.loop-key.key-index x)) c.loop-key.invariant one
    ∙ ap least (flat_more (unknown_column (cols_of c.args.create.now)) c.args.keys.now c.loop-key.key-index x c.loop-key-test.true)
