use Rattle.std.proofs.Common.{sym, map}
use Rattle.std.proofs.lemmas.Result.{on_ok_weaker}
use Rattle.qd_order.specs.Orders.{before}
use Rattle.qd_order.specs.Seen.{seen}
use Rattle.qd_order.proofs.FirstOnes.{bound_more, keeps_more, passed_over}
use Rattle.qd_order.proofs.Standing.{before_weak}
use Rattle.qd_order.proofs.selecting.add_place.Goals as goal

pub returns-then-not-is_before : goal.returns-then-not-is_before
returns-then-not-is_before c =
    let ks = map seen c.args.columns.now in
    record {
      same = passed_over (before ks) (before_weak ks c.requires.alike) c.args.most c.args.place c.args.kept.now.items c.args.last c.requires.bound (sym c.if-not-is_before.ensures);
      bound = c.requires.bound;
    }

pub cut_if_full-requires-clause-bound : goal.cut_if_full-requires-clause-bound
cut_if_full-requires-clause-bound c =
    let ks = map seen c.args.columns.now in
    bound_more (before ks) (before_weak ks c.requires.alike) c.args.most c.args.place c.args.kept.now.items c.push.new.self.items c.args.last c.requires.bound c.in_ok-push.ensures.items

pub returns-clause-same : goal.returns-clause-same
returns-clause-same c =
    let ks = map seen c.args.columns.now in
    let weak = before_weak ks c.requires.alike in
    on_ok_weaker c.cut_if_full.result (λ same. keeps_more (before ks) weak c.args.most c.args.place c.args.kept.now.items c.push.new.self.items c.cut_if_full.new.kept.items c.in_ok-push.ensures.items same) c.cut_if_full.ensures.same
