use Rattle.std.proofs.Common.{◌∙◌, ◌++◌, Bool, eqb, List, length, ap}
use Rattle.std.specs.List.{flat_map, list_any, zip}
use Rattle.qd_base.specs.declared.code.Code.TheVariants as code
use Rattle.qd_sql_ast.specs.declared.tree.Lit.{Lit}
use Rattle.qd_meaning.specs.declared.refusal.Refusal.{Refusal}
use Rattle.qd_meaning.specs.Refusals.{least, unless}
use Rattle.qd_meaning.specs.Inserting.{Target, literal_faults}
use Rattle.qd_writes.proofs.tuple.judged_tuple.Goals as goal

pub returns-clause-least : goal.returns-clause-least
returns-clause-least c =
    let ts : List Target = c.args.targets.now in
    let at = c.args.tuple.now.at in
    let n : List Refusal = unless (eqb (length c.args.tuple.now.lits) (length ts)) code.Types at in
    let m : List Refusal = unless (list_any (λ (x : Target). eqb x.0 c.args.time_col) ts) code.TimeLiteral at in
    let l : List Refusal = flat_map (literal_faults c.args.time_col) (zip ts c.args.tuple.now.lits) in
    c.both.ensures.least (n ++ m) l
    (c.both-time.ensures.least n m
    (c.unless-whole.ensures.least ∙ ap (λ (ls : List Lit). least (unless (eqb (length ls) (length ts)) code.Types at)) c.as_slice-lits.ensures.items)
    (c.unless.ensures.least ∙ ap (λ (b : Bool). least (unless b code.TimeLiteral at)) c.requires))
    (c.in_ok-views.ensures.least ∙ ap (λ (ls : List Lit). least (flat_map (literal_faults c.args.time_col) (zip ts ls))) c.as_slice-lits.ensures.items)
