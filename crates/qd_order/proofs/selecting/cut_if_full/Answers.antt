use Rattle.std.proofs.Common.{◌≤◌, length, arith, map}
use Rattle.qd_order.specs.Orders.{before}
use Rattle.qd_order.specs.Seen.{seen}
use Rattle.qd_order.proofs.FirstOnes.{cut_bound, cut_keeps, cut_size}
use Rattle.qd_order.proofs.Standing.{before_weak}
use Rattle.qd_order.proofs.selecting.cut_if_full.Goals as goal

pub returns : goal.returns
returns c =
    let ks = map seen c.args.columns.now in
    let weak = before_weak ks c.requires.alike in
    let many : c.args.most ≤ length c.args.kept.now.items = omega arith in
    record {
      same = cut_keeps (before ks) weak c.args.most c.args.kept.now.items c.sort_places.new.places.items c.truncate.new.self.items c.in_ok-sort_places.ensures.ok c.truncate.ensures.items;
      bound = cut_bound (before ks) weak c.args.most c.args.kept.now.items c.sort_places.new.places.items c.truncate.new.self.items c.index.result.now c.requires.some many c.in_ok-sort_places.ensures.ok c.truncate.ensures.items c.index.ensures;
    }

pub index-requires : goal.index-requires
index-requires c =
    let ks = map seen c.args.columns.now in
    let weak = before_weak ks c.requires.alike in
    let many : c.args.most ≤ length c.args.kept.now.items = omega arith in
    let size = cut_size (before ks) weak c.args.most c.args.kept.now.items c.sort_places.new.places.items c.truncate.new.self.items many c.in_ok-sort_places.ensures.ok c.truncate.ensures.items in
    omega (arith, size, c.requires.some)
