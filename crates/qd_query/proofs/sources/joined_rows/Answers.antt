use Rattle.std.proofs.Common.{◌≡◌, ◌∙◌, All, List, ap, filter, subst, sym}
use Rattle.qd_base.specs.declared.schema.Schema.{Schema}
use Rattle.qd_base.specs.declared.part.Part.{Part}
use Rattle.qd_base.specs.Rows.{Row}
use Rattle.qd_meaning.specs.Joined.{last_or, may_take}
use Rattle.qd_query.specs.Answers.{AreTimed}
use Rattle.qd_rows.specs.Sets.{absent, rows_in}
use Rattle.qd_scan.specs.Scans.{AreApart}
use Rattle.qd_scan.specs.Sources.{parts_at, schema_at, SourceView}
use Rattle.qd_scan.proofs.PartLemmas.{are_apart}
use Rattle.qd_query.proofs.NeedLemmas.{both_needed, left_needed}
use Rattle.qd_query.proofs.Orders.{timed_beside}
use Rattle.qd_query.proofs.Told.{between_before, schema_before, schema_lent, told_joined}
use Rattle.qd_query.proofs.sources.joined_rows.Goals as goal

pub first_needed-from-requires : goal.first_needed-from-requires
first_needed-from-requires g c =
    let s : SourceView = g.P.PartSource.shown c.args.source.now in
    subst AreApart (sym (c.as_slice.ensures.items ∙ c.parts.ensures.parts)) (are_apart (schema_at s c.args.left) (parts_at s c.args.left) (c.keeps_its_law.ensures.law.parts c.args.left c.requires.left))

pub returns-clause-rows : goal.returns-clause-rows
returns-clause-rows g c =
    let s : SourceView = g.P.PartSource.shown c.args.source.now in
    let between : SourceView = g.P.PartSource.shown c.rows_from_to.new.source in
    told_joined s s.database c.args.left c.args.right c.get.result.now.time_col c.get-2.result.now.time_col c.first_needed-from.result c.times_kept-times.result.lo c.times_kept-times.result.hi c.args.spec.now c.args.keep.now
    c.in_ok-right_rows.right_rows.left (rows_in c.in_ok-left_rows.left_rows) (rows_in c.in_ok-right_rows.right_rows) (rows_in c.in_ok-rows.rows) c.keeps_its_law.ensures.law c.requires.left c.requires.right
    (ap (λ (x : Schema). x.time_col) (schema_lent s.schemas c.schemas.result.now c.args.left c.get.result.now c.schemas.ensures.schemas c.get.ensures.item))
    (ap (λ (x : Schema). x.time_col) (schema_lent s.schemas c.schemas-2.result.now c.args.right c.get-2.result.now c.schemas-2.ensures.schemas c.get-2.ensures.item))
    (c.in_ok-right_rows.ensures.cols ∙ ap (λ (x : Schema). x.cols) (schema_before s between c.args.right c.rows_from_to.ensures.stays))
    c.times_kept-times.ensures.caught c.first_needed-from.ensures.early
    (subst (All (λ (p : Part). p.lo ≡ 0 → c.first_needed-from.result ≡ 0)) (c.as_slice.ensures.items ∙ c.parts.ensures.parts) c.first_needed-from.ensures.begun)
    c.keeps_its_law.ensures.law.told c.in_ok-left_rows.ensures.rows
    (between_before s between c.args.right 0 c.times_kept-times.result.hi c.in_ok-right_rows.right_rows c.rows_from_to.ensures.stays c.in_ok-right_rows.ensures.rows) c.in_ok-rows.ensures.rows

pub returns-clause-timed : goal.returns-clause-timed
returns-clause-timed g c =
    let left : Schema = schema_at (g.P.PartSource.shown c.args.source.now) c.args.left in
    let others : List Row = rows_in c.in_ok-right_rows.right_rows in
    let beside : Row → Row = λ l. last_or (absent c.in_ok-right_rows.right_rows.left) (filter (may_take c.args.spec.now c.get.result.now.time_col c.get-2.result.now.time_col l) others) in
    subst (AreTimed left.time_col) (sym c.in_ok-rows.ensures.rows)
    (timed_beside left beside (rows_in c.in_ok-left_rows.left_rows) c.in_ok-left_rows.ensures.fit (record { order = c.in_ok-left_rows.ensures.order; timely = c.in_ok-left_rows.ensures.timely }))

pub returns-in_err-left_rows-clause-asked : goal.returns-in_err-left_rows-clause-asked
returns-in_err-left_rows-clause-asked g c =
    let s : SourceView = g.P.PartSource.shown c.args.source.now in
    let col = ap (λ (x : Schema). x.time_col) (schema_lent s.schemas c.schemas.result.now c.args.left c.get.result.now c.schemas.ensures.schemas c.get.ensures.item) in
    let first =
    left_needed s c.args.left c.get.result.now.time_col c.args.keep.now c.times_kept-times.result.lo c.times_kept-times.result.hi col c.times_kept-times.ensures.allowed c.times_kept-times.ensures.timely
    c.args.right c.first_needed-from.result c.args.spec.now c.as_slice.result.now (g.P.PartSource.asked c.args.source.now) (g.P.PartSource.asked c.rows_from_to.new.source) (c.as_slice.ensures.items ∙ c.parts.ensures.parts) c.first_needed-from.ensures.from
    c.rows_from_to.ensures.asked in
    first

pub returns-in_err-right_rows-clause-asked : goal.returns-in_err-right_rows-clause-asked
returns-in_err-right_rows-clause-asked g c =
    let s : SourceView = g.P.PartSource.shown c.args.source.now in
    let col = ap (λ (x : Schema). x.time_col) (schema_lent s.schemas c.schemas.result.now c.args.left c.get.result.now c.schemas.ensures.schemas c.get.ensures.item) in
    let first =
    left_needed s c.args.left c.get.result.now.time_col c.args.keep.now c.times_kept-times.result.lo c.times_kept-times.result.hi col c.times_kept-times.ensures.allowed c.times_kept-times.ensures.timely
    c.args.right c.first_needed-from.result c.args.spec.now c.as_slice.result.now (g.P.PartSource.asked c.args.source.now) (g.P.PartSource.asked c.rows_from_to.new.source) (c.as_slice.ensures.items ∙ c.parts.ensures.parts) c.first_needed-from.ensures.from
    c.rows_from_to.ensures.asked in
    both_needed s c.args.left c.get.result.now.time_col c.args.keep.now c.times_kept-times.result.lo c.times_kept-times.result.hi col c.times_kept-times.ensures.allowed c.times_kept-times.ensures.timely
    (g.P.PartSource.shown c.rows_from_to.new.source) c.args.right c.args.spec.now (g.P.PartSource.asked c.args.source.now) (g.P.PartSource.asked c.rows_from_to.new.source) (g.P.PartSource.asked c.rows_from_to-2.new.source)
    c.rows_from_to.ensures.stays first c.rows_from_to-2.ensures.asked

pub returns-in_err-rows-clause-asked : goal.returns-in_err-rows-clause-asked
returns-in_err-rows-clause-asked g c =
    let s : SourceView = g.P.PartSource.shown c.args.source.now in
    let col = ap (λ (x : Schema). x.time_col) (schema_lent s.schemas c.schemas.result.now c.args.left c.get.result.now c.schemas.ensures.schemas c.get.ensures.item) in
    let first =
    left_needed s c.args.left c.get.result.now.time_col c.args.keep.now c.times_kept-times.result.lo c.times_kept-times.result.hi col c.times_kept-times.ensures.allowed c.times_kept-times.ensures.timely
    c.args.right c.first_needed-from.result c.args.spec.now c.as_slice.result.now (g.P.PartSource.asked c.args.source.now) (g.P.PartSource.asked c.rows_from_to.new.source) (c.as_slice.ensures.items ∙ c.parts.ensures.parts) c.first_needed-from.ensures.from
    c.rows_from_to.ensures.asked in
    both_needed s c.args.left c.get.result.now.time_col c.args.keep.now c.times_kept-times.result.lo c.times_kept-times.result.hi col c.times_kept-times.ensures.allowed c.times_kept-times.ensures.timely
    (g.P.PartSource.shown c.rows_from_to.new.source) c.args.right c.args.spec.now (g.P.PartSource.asked c.args.source.now) (g.P.PartSource.asked c.rows_from_to.new.source) (g.P.PartSource.asked c.rows_from_to-2.new.source)
    c.rows_from_to.ensures.stays first c.rows_from_to-2.ensures.asked

pub returns-clause-asked : goal.returns-clause-asked
returns-clause-asked g c =
    let s : SourceView = g.P.PartSource.shown c.args.source.now in
    let col = ap (λ (x : Schema). x.time_col) (schema_lent s.schemas c.schemas.result.now c.args.left c.get.result.now c.schemas.ensures.schemas c.get.ensures.item) in
    let first =
    left_needed s c.args.left c.get.result.now.time_col c.args.keep.now c.times_kept-times.result.lo c.times_kept-times.result.hi col c.times_kept-times.ensures.allowed c.times_kept-times.ensures.timely
    c.args.right c.first_needed-from.result c.args.spec.now c.as_slice.result.now (g.P.PartSource.asked c.args.source.now) (g.P.PartSource.asked c.rows_from_to.new.source) (c.as_slice.ensures.items ∙ c.parts.ensures.parts) c.first_needed-from.ensures.from
    c.rows_from_to.ensures.asked in
    both_needed s c.args.left c.get.result.now.time_col c.args.keep.now c.times_kept-times.result.lo c.times_kept-times.result.hi col c.times_kept-times.ensures.allowed c.times_kept-times.ensures.timely
    (g.P.PartSource.shown c.rows_from_to.new.source) c.args.right c.args.spec.now (g.P.PartSource.asked c.args.source.now) (g.P.PartSource.asked c.rows_from_to.new.source) (g.P.PartSource.asked c.rows_from_to-2.new.source)
    c.rows_from_to.ensures.stays first c.rows_from_to-2.ensures.asked
