use Rattle.std.proofs.Common.{◌∙◌, subst, ap, arith, length}
use Rattle.qd_links.specs.Lists.{Lists, list_at, IsListed}
use Rattle.qd_latest.proofs.ChainLemmas.{known_low, pushed_above, pushed_list, unlisted_list}
use Rattle.qd_latest.proofs.linked.link_id.Goals as goal

pub push_back-requires-clause-unlisted : goal.push_back-requires-clause-unlisted
push_back-requires-clause-unlisted c = λ listed. let h = c.requires.above c.args.node listed in omega (arith, h)

pub returns-then-id-ne-NULL_ID-clause-above : goal.returns-then-id-ne-NULL_ID-clause-above
returns-then-id-ne-NULL_ID-clause-above c = λ other listed.
    pushed_above c.args.links.now c.args.id c.args.node (known_low (length c.args.links.now.lists) c.args.id c.requires.known c.if-id-ne-NULL_ID.true) c.requires.above other (subst (λ (v : Lists). IsListed v other) c.push_back.ensures.appended listed)

pub returns-else-id-ne-NULL_ID-clause-above : goal.returns-else-id-ne-NULL_ID-clause-above
returns-else-id-ne-NULL_ID-clause-above c = λ other listed. let h = c.requires.above other listed in omega (arith, h)

pub returns-then-id-ne-NULL_ID-clause-lists : goal.returns-then-id-ne-NULL_ID-clause-lists
returns-then-id-ne-NULL_ID-clause-lists c = λ j low.
    ap (λ (v : Lists). list_at v j) c.push_back.ensures.appended ∙ pushed_list c.args.links.now c.args.id c.args.node (known_low (length c.args.links.now.lists) c.args.id c.requires.known c.if-id-ne-NULL_ID.true) j

pub returns-else-id-ne-NULL_ID-clause-lists : goal.returns-else-id-ne-NULL_ID-clause-lists
returns-else-id-ne-NULL_ID-clause-lists c = λ j low. unlisted_list c.args.links.now c.args.id c.args.node j c.if-id-ne-NULL_ID.false c.requires.few low
