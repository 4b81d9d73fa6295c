use Rattle.std.proofs.Common.{◌≡◌, ◌∙◌, ◌++◌, List, Option, Some, None, ap, sym}
use Rattle.std.proofs.lemmas.List.{append-nil}
use Rattle.qd_base.specs.declared.schema.Col.{Col}
use Rattle.qd_base.specs.Rows.{Row}
use Rattle.qd_rows.specs.Sets.{ResultRows, row_of_place, side_row, right_row}
use Rattle.qd_rows.proofs.SetLemmas.{found_image}
use Rattle.qd_rows.proofs.set.RowSet.row.Goals as goal

pub returns-in-None : goal.returns-in-None
returns-in-None g c =
    let now = c.args.self.now in
    let p = c.places-right.result in
    let left = side_row now.blocks now.left (Some p.0) in
    let none : now.right ≡ None = sym (ap (λ (t : ResultRows). t.right) c.self.view_is) ∙ c.in-None.is in
    let row : c.in_ok-row.row ≡ side_row now.blocks now.left (Some p.0) = c.in_ok-row.ensures ∙ ap (λ (r : Row). r ++ side_row now.blocks c.self.inside.left (Some p.0)) c.new.ensures.empty ∙ ap (λ (cols : List Col). side_row now.blocks cols (Some p.0)) (ap (λ (t : ResultRows). t.left) c.self.view_is) in
    record { row = found_image (row_of_place now) now.places c.args.i p c.places-right.ensures.places ∙ ap Some (ap (λ (o : Option (List Col)). left ++ right_row now.blocks o p.1) none ∙ append-nil left ∙ sym row) }
