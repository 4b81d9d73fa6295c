use Rattle.std.proofs.Common.{drop}
use Rattle.qd_ilp.proofs.Lines.{tag_none, tag_is}
use Rattle.qd_ilp.proofs.item.push_tag.Goals as goal

pub returns-then-span-clause-value : goal.returns-then-span-clause-value
returns-then-span-clause-value c = tag_none (drop c.args.at c.args.text.now) c.args.bytes.now.items c.push_name.new.bytes.items c.in_ok-span.span c.in_ok-span.ensures.name c.if-span.true

pub returns-clause-value : goal.returns-clause-value
returns-clause-value c =
    tag_is (drop c.args.at c.args.text.now) c.args.bytes.now.items c.push_name.new.bytes.items (drop c.in_ok-span.end c.args.text.now) c.in_ok-span.span c.in_ok-span.ensures.name c.in_ok-span.ensures.rest c.if-span.false
