use Rattle.std.proofs.Common.{◌≡◌, ◌<◌, ◌∙◌, ◌++◌, ◌∷◌, [], ℕ, ap, arith, length, map, subst, sym}
use Rattle.std.proofs.lemmas.List.{length-map}
use Rattle.qd_group.specs.Keys.{lent}
use Rattle.qd_keys.specs.Symbols.{AreStarts}
use Rattle.qd_keys.proofs.SymbolRows.{names_begun, names_more, names_done, starts_none, starts_more}
use Rattle.qd_keys.proofs.symbols.add_names.Goals as goal

pub loop-b-init : goal.loop-b-init
loop-b-init g c = record {
  kept = names_begun c.args.at c.args.rows.now.blocks (map lent c.args.texts.now.items);
  starts = subst (AreStarts 0 c.args.rows.now.blocks c.args.at (map lent c.args.texts.now.items)) (sym c.in_ok-starts.ensures.items) (starts_none c.args.rows.now.blocks c.args.at (map lent c.args.texts.now.items));
}

pub loop-b-preserved : goal.loop-b-preserved
loop-b-preserved g c =
    let old = map lent c.args.texts.now.items in
    let cells = map lent c.loop-b.texts.items in
    let more = map lent c.add_block.new.texts.items in
    let blocks = c.args.rows.now.blocks in
    let low : c.loop-b.b < length c.args.rows.now.blocks = omega arith in
    let size : c.len.result ≡ length (map lent c.loop-b.texts.items) = omega (arith, length-map c.loop-b.texts.items lent) in
    record {
      kept = names_more c.args.at blocks old cells more c.loop-b.b low c.in_ok-add_block.ensures.kept c.loop-b.invariant.kept;
      starts = starts_more c.loop-b.b blocks c.args.at cells more c.loop-b.starts.items c.push.new.self.items c.in_ok-add_block.ensures.kept (c.in_ok-push.ensures.items ∙ ap (λ (k : ℕ). c.loop-b.starts.items ++ k ∷ []) size) c.loop-b.invariant.starts;
    }

pub returns : goal.returns
returns g c =
    let all : c.loop-b.b ≡ length c.args.rows.now.blocks = omega arith in
    record {
      kept = names_done c.args.at c.args.rows.now.blocks (map lent c.args.texts.now.items) (map lent c.loop-b.texts.items) c.loop-b.b (omega arith) c.loop-b.invariant.kept;
      starts = subst (λ (n : ℕ). AreStarts n c.args.rows.now.blocks c.args.at (map lent c.loop-b.texts.items) c.loop-b.starts.items) all c.loop-b.invariant.starts;
    }
