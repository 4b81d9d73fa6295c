use Rattle.std.proofs.Common.{◌+◌, [], ◌++◌, drop, map, sym, ap, ◌∙◌, arith, append_assoc, append-nil}
use Rattle.std.proofs.lemmas.List.{take_rest}
use Rattle.qd_sql_lexer.specs.Tokens.{seen, seen_cut, tokens, tokens_from, with_piece}
use Rattle.qd_sql_lexer.proofs.TokenLemmas.{tokens_from-at, tokens_from-end}
use Rattle.qd_sql_lexer.proofs.cut.tokens.Goals as goal

pub loop-at-init : goal.loop-at-init
unfolding tokens
loop-at-init c = record { found = ap (λ found. map seen found ++ tokens_from 0 0 c.args.text.now) c.new-found.ensures.items; within = omega arith }

pub loop-at-preserved : goal.loop-at-preserved
loop-at-preserved c =
    let text = c.args.text.now in
    let at = c.loop-at.at in
    let p = seen_cut c.cut_at-cut.result in
    let rest = tokens_from 0 (at + p.len) (drop (at + p.len) text) in
    record {
      found =
          ap (λ found. found ++ rest) c.in_ok-push.ensures.ok
          ∙ append_assoc (map seen c.loop-at.found.items) (with_piece at p []) rest
          ∙ ap (λ more. map seen c.loop-at.found.items ++ more) (sym (tokens_from-at at text p c.loop-at-test.true (rw take_rest at c.cut_at-cut.ensures.value) c.cut_at-cut.ensures.within.0))
          ∙ c.loop-at.invariant.found;
      within = omega arith;
    }

pub returns : goal.returns
returns c =
    sym (ap (λ rest. map seen c.loop-at.found.items ++ rest) (tokens_from-end c.loop-at.at c.args.text.now c.loop-at-test.false) ∙ append-nil (map seen c.loop-at.found.items)) ∙ c.loop-at.invariant.found
