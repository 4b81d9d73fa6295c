use Rattle.std.proofs.Common.{◌≡◌, ◌≢◌, ◌∙◌, ◌<◌, length, refl, sym, arith}
use Rattle.qd_store_backend.specs.Backs.{current, n_in}
use Rattle.qd_shared.specs.Desks.{items_in}
use Rattle.qd_shared.proofs.Items.{items_count}
use Rattle.qd_shared.proofs.Merging.{drafted_of}
use Rattle.qd_shared.proofs.Showing.{more_of}
use Rattle.qd_shared.proofs.desk.Desk.begin_round.Goals as goal

pub returns-then-shown_n-all-clause-begun : goal.returns-then-shown_n-all-clause-begun
returns-then-shown_n-all-clause-begun g c =
    let d = c.args.self.now in
    let all = items_count d.owned.store.sequence.refs d.history in
    let count : c.hist_len-all.result ≡ length d.owned.store.sequence.refs = c.hist_len-all.ensures in
    let same : c.shown_n.result ≡ c.hist_len-all.result = search in
    (count ∙ sym all, sym c.shown_n.ensures.shown ∙ same)

pub round_end-upto-requires : goal.round_end-upto-requires
round_end-upto-requires g c =
    let d = c.args.self.now in
    let count : c.hist_len-all.result ≡ length d.owned.store.sequence.refs = c.hist_len-all.ensures in
    let apart : c.shown_n.result ≢ c.hist_len-all.result = search in
    let more : n_in (current d.owned.store) < c.hist_len-all.result = more_of d d c.shown_n.result c.hist_len-all.result refl c.shown_n.ensures.shown c.shown_n.ensures.within c.hist_len-all.ensures apart in
    record { more = omega (arith, more, count) }

pub returns-clause-begun : goal.returns-clause-begun
returns-clause-begun g c =
    let d = c.args.self.now in
    let all = items_count d.owned.store.sequence.refs d.history in
    let e = c.in-Ok.ensures in
    let few = c.round_end-upto.ensures.few in
    (drafted_of d (length (items_in d)) c.round_end-upto.result c.in-Ok.draft e.over e.more e.most (omega (arith, few, all)) e.told, c.next_block-next_block.ensures)
