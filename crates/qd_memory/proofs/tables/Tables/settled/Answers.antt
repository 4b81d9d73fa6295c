use Rattle.std.proofs.Common.{◌≡◌, ◌∙◌, ◌<◌, List, length, refl, ap, sym, arith}
use Rattle.std.proofs.Math.ListN.{length-set}
use Rattle.qd_memory.specs.Kept.{database_of, Kept}
use Rattle.qd_memory.proofs.ChangeLemmas.{are_still, settled_more, settled_one}
use Rattle.qd_memory.proofs.TableLemmas.{kept_set}
use Rattle.qd_memory.proofs.tables.Tables.settled.Goals as goal

pub loop-i-init : goal.loop-i-init
loop-i-init c = record { same = refl; count = refl; kept = c.self.invariant.each; settled = λ k d lt. absurd (omega arith) }

pub loop-i-preserved : goal.loop-i-preserved
loop-i-preserved c =
    let ts : List Kept = c.loop-i.tables.items in
    let i = c.loop-i.i in
    let v = c.loop-i.invariant in
    let x : Kept = c.index_mut-table.result.now in
    let y : Kept = c.settle.new.self in
    let low : c.loop-i.i < length c.loop-i.tables.items = omega (arith, c.loop-i-test.true, c.len-i-end.ensures, c.self.inside.tables.ok.0, c.loop-i.invariant.count) in
    record {
      same = settled_one ts i x y low c.index_mut-table.ensures.value c.in_ok-settle.ensures.same ∙ v.same;
      count = length-set ts i y ∙ v.count;
      kept = kept_set ts i y v.kept c.is_kept.ensures;
      settled = settled_more ts i y low v.settled c.in_ok-settle.ensures.none;
    }

pub invariant_of-result : goal.invariant_of-result
invariant_of-result c = are_still c.self.inside.schemas c.self.inside.tables.items c.loop-i.tables.items c.self.invariant c.loop-i.invariant.kept c.loop-i.invariant.same

pub returns : goal.returns
returns c = record {
  same = c.loop-i.invariant.same ∙ ap database_of c.self.view_is;
  settled = λ k d lt. c.loop-i.invariant.settled k d (omega (arith, c.loop-i-test.false, c.len-i-end.ensures, c.self.inside.tables.ok.0, c.loop-i.invariant.count, lt));
}
