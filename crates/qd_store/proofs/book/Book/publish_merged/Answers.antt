use Rattle.std.proofs.Common.{◌≡◌, ◌∙◌, ℕ, Err, Some, ap}
use Rattle.std.proofs.lemmas.Result.{err_from_is_err_and}
use Rattle.qd_catalog.specs.Versions.{current_n}
use Rattle.qd_store.specs.Drafts.{Merging}
use Rattle.qd_store.specs.Stores.{Book}
use Rattle.qd_store.proofs.Lost.{same_damage}
use Rattle.qd_store.proofs.PublishedMerged.{apart_inside, current_number, damaged_inside, failed_inside, grows_inside, may_inside, published_inside}
use Rattle.qd_store.proofs.book.Book.publish_merged.Goals as goal

pub publish-requires-clause-may : goal.publish-requires-clause-may
publish-requires-clause-may g c =
    let s : Book = record { sequence = c.self.inside.sequencer; versions = c.self.inside.versions; limits = c.self.inside.limits } in
    let i = c.merged.inside in
    let m : Merging = record { base = i.base; upto = i.upto; shape = i.shape; blocks = i.blocks.items; grown = i.grown.items } in
    let here : current_n s.versions.versions ≡ Some m.base = current_number s.versions.versions c.current.result c.n_of.result c.unwrap_or-n.result c.current.ensures.row c.current.ensures.live c.n_of.ensures.n c.unwrap_or-n.ensures ∙ ap Some c.if-n-merged.false in
    may_inside c.args.merged.now m c.as_slice.result.now c.as_slice-2.result.now c.merged.view_is c.as_slice.ensures.value c.as_slice-2.ensures.value c.merging_stands.ensures.law c.args.self.now s c.self.view_is c.requires.over here

pub publish-requires-clause-grows : goal.publish-requires-clause-grows
publish-requires-clause-grows g c =
    let s : Book = record { sequence = c.self.inside.sequencer; versions = c.self.inside.versions; limits = c.self.inside.limits } in
    let i = c.merged.inside in
    let m : Merging = record { base = i.base; upto = i.upto; shape = i.shape; blocks = i.blocks.items; grown = i.grown.items } in
    let here : current_n s.versions.versions ≡ Some m.base = current_number s.versions.versions c.current.result c.n_of.result c.unwrap_or-n.result c.current.ensures.row c.current.ensures.live c.n_of.ensures.n c.unwrap_or-n.ensures ∙ ap Some c.if-n-merged.false in
    grows_inside c.args.merged.now m c.as_slice.result.now c.as_slice-2.result.now c.merged.view_is c.as_slice.ensures.value c.as_slice-2.ensures.value c.merging_stands.ensures.law c.args.self.now s c.self.view_is c.requires.over here

pub publish-requires-clause-apart : goal.publish-requires-clause-apart
publish-requires-clause-apart g c =
    let s : Book = record { sequence = c.self.inside.sequencer; versions = c.self.inside.versions; limits = c.self.inside.limits } in
    let i = c.merged.inside in
    let m : Merging = record { base = i.base; upto = i.upto; shape = i.shape; blocks = i.blocks.items; grown = i.grown.items } in
    let here : current_n s.versions.versions ≡ Some m.base = current_number s.versions.versions c.current.result c.n_of.result c.unwrap_or-n.result c.current.ensures.row c.current.ensures.live c.n_of.ensures.n c.unwrap_or-n.ensures ∙ ap Some c.if-n-merged.false in
    apart_inside c.args.merged.now m c.as_slice.result.now c.as_slice-2.result.now c.merged.view_is c.as_slice.ensures.value c.as_slice-2.ensures.value c.merging_stands.ensures.law c.args.self.now s c.self.view_is c.requires.over here

pub returns-in_err-row-clause-told : goal.returns-in_err-row-clause-told
returns-in_err-row-clause-told g c =
    let p = err_from_is_err_and c.from_residual.result c.from_residual.ensures.1 in
    let i = c.merged.inside in
    let m : Merging = record { base = i.base; upto = i.upto; shape = i.shape; blocks = i.blocks.items; grown = i.grown.items } in
    rw p.1 (failed_inside c.args.merged.now m c.as_slice.result.now c.as_slice-2.result.now c.merged.view_is c.as_slice.ensures.value c.as_slice-2.ensures.value ℕ c.merging_stands.ensures.law c.args.self.now c.publish.new.self _ _ c.in_err-row.field-0.0 p.0 p.2 c.in_err-row.ensures.damaged c.in_err-row.ensures.told)

pub returns-in_err-row-clause-damaged : goal.returns-in_err-row-clause-damaged
returns-in_err-row-clause-damaged g c =
    let p = err_from_is_err_and c.from_residual.result c.from_residual.ensures.1 in
    let i = c.merged.inside in
    let m : Merging = record { base = i.base; upto = i.upto; shape = i.shape; blocks = i.blocks.items; grown = i.grown.items } in
    damaged_inside c.args.merged.now m c.as_slice.result.now c.as_slice-2.result.now c.merged.view_is c.as_slice.ensures.value c.as_slice-2.ensures.value c.args.self.now _ c.from_residual.result c.in_err-row.field-0.0 p.0 p.1 p.2 c.in_err-row.ensures.damaged

pub returns-in_err-row-clause-unwritten : goal.returns-in_err-row-clause-unwritten
returns-in_err-row-clause-unwritten g c file at damaged =
    let p = err_from_is_err_and c.from_residual.result c.from_residual.ensures.1 in
    c.in_err-row.ensures.unwritten file at (ap Err (same_damage c.from_residual.result p.0 c.in_err-row.field-0.0 p.1 p.2 file at damaged))

pub returns-clause-told : goal.returns-clause-told
returns-clause-told g c =
    let i = c.merged.inside in
    let m : Merging = record { base = i.base; upto = i.upto; shape = i.shape; blocks = i.blocks.items; grown = i.grown.items } in
    published_inside c.args.merged.now m c.as_slice.result.now c.as_slice-2.result.now c.merged.view_is c.as_slice.ensures.value c.as_slice-2.ensures.value ℕ c.merging_stands.ensures.law c.args.self.now c.publish.new.self _ _ c.in_ok-row.row c.in_ok-row.ensures.told
