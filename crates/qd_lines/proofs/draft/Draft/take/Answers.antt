use Rattle.std.proofs.Common.{◌≡◌, ◌∙◌, ◌+◌, ◌||◌, ◌++◌, ◌∷◌, [], ℕ, List, Some, None, Bool, eqb, get_or, set, ap₂, length-append, sym, ap, take, length, subst, arith}
use Rattle.std.proofs.lemmas.List.{length-take-le, length-set}
use Rattle.std.specs.Option.{option_or, is_some}
use Rattle.qd_base.specs.Schemas.{column_at}
use Rattle.qd_ilp.specs.Line.{Item}
use Rattle.qd_ilp.specs.View.{item_of}
use Rattle.qd_lines.specs.declared.draft.Draft.{Draft}
use Rattle.qd_lines.specs.Drafts.{Draws, Marked, column_made, time_name}
use Rattle.qd_lines.proofs.DraftLemmas.{stepped, one_more, with_items_grow, met, made}
use Rattle.qd_lines.proofs.draft.Draft.take.Goals as goal

pub returns-then-drawn-gt-MAX_COLUMNS : goal.returns-then-drawn-gt-MAX_COLUMNS
returns-then-drawn-gt-MAX_COLUMNS c =
    let items : List Item = take c.args.at c.args.row.now.items in
    let i : Item = item_of c.item-item.result in
    let more = one_more c.args.row.now.items c.args.at i c.item-item.ensures.item c.requires.there in
    let h = c.requires.draws in
    let new : Draft = record { added = c.args.self.now.added; marks = c.args.self.now.marks; faults = c.note.new.self; next = c.args.self.now.next; places = c.args.self.now.places } in
    let clash = c.note.ensures.clash ∙ ap (λ b. c.args.self.now.faults.clash || b) c.clashes.ensures.clashes in
    let over = c.if-drawn-gt-MAX_COLUMNS.true in
    record { draws = subst (λ (xs : List Item). Draws c.args.columns xs new) (sym more) (stepped c.args.columns items i c.args.self.now new h (c.note.ensures.values items h.values) (c.note.ensures.names items h.names) clash h.sized (λ le. absurd {0} (omega (arith, over, c.len-drawn.ensures, h.sized))) (λ lt. let m = h.many lt in let g = with_items_grow c.args.columns.cols.now items i in omega arith)) }

pub returns-in_ok-keep-in-Some : goal.returns-in_ok-keep-in-Some
returns-in_ok-keep-in-Some c =
    let cols = c.args.columns.cols.now in
    let items : List Item = take c.args.at c.args.row.now.items in
    let i : Item = item_of c.item-item.result in
    let more = one_more c.args.row.now.items c.args.at i c.item-item.ensures.item c.requires.there in
    let h = c.requires.draws in
    let old : Draft = c.args.self.now in
    let p = c.in-Some.place in
    let twice' = c.note.new.self.twice || (c.meet-met.result || eqb p c.args.columns.time) in
    let new : Draft = record {
      added = c.args.self.now.added;
      marks = c.meet-met.new.marks;
      faults = record { float = c.note.new.self.float; huge = c.note.new.self.huge; name = c.note.new.self.name; clash = c.note.new.self.clash; twice = twice'; long = c.note.new.self.long };
      next = p + 1;
      places = c.keep.new.places;
    } in
    let clash = c.note.ensures.clash ∙ ap (λ b. c.args.self.now.faults.clash || b) c.clashes.ensures.clashes in
    let place : column_at (cols ++ old.added) i.name ≡ Some p = sym c.seat_of-place.ensures.place ∙ c.in-Some.is in
    let at : length items ≡ c.args.at = length-take-le c.args.at c.args.row.now.items (omega (arith, c.requires.there)) in
    let few = h.few (omega (arith, c.if-drawn-gt-MAX_COLUMNS.false, c.len-drawn.ensures, h.sized)) in
    let marked : new.marks.items ≡ set old.marks.items p (option_or (get_or old.marks.items p None) (Some (length items))) = c.meet-met.ensures.marks ∙ ap (λ (n : ℕ). set old.marks.items p (option_or (get_or old.marks.items p None) (Some n))) (sym at) in
    let twice : twice' ≡ (old.faults.twice || (is_some (get_or old.marks.items p None) || eqb p c.args.columns.time)) = ap₂ (λ (a b : Bool). a || (b || eqb p c.args.columns.time)) c.note.ensures.twice c.meet-met.ensures.met in
    let now = met cols c.args.columns.time c.requires.usable items i old.added old.marks.items old.faults.twice few p place new.marks.items twice' marked twice in
    let size = ap length marked ∙ length-set old.marks.items p (option_or (get_or old.marks.items p None) (Some (length items))) in
    let values = c.note.ensures.values items h.values in
    record { draws = subst (λ (xs : List Item). Draws c.args.columns xs new) (sym more) (stepped c.args.columns items i old new h (record { float = values.float; huge = values.huge; long = values.long }) (c.note.ensures.names items h.names) clash (size ∙ h.sized) (λ le. now) (λ lt. absurd {0} (omega (arith, c.if-drawn-gt-MAX_COLUMNS.false, c.len-drawn.ensures, h.sized)))) }

pub returns-in_ok-add-in-None : goal.returns-in_ok-add-in-None
returns-in_ok-add-in-None c =
    let cols = c.args.columns.cols.now in
    let items : List Item = take c.args.at c.args.row.now.items in
    let i : Item = item_of c.item-item.result in
    let more = one_more c.args.row.now.items c.args.at i c.item-item.ensures.item c.requires.there in
    let h = c.requires.draws in
    let old : Draft = c.args.self.now in
    let new : Draft = record { added = c.add.new.added; marks = c.add.new.marks; faults = c.note.new.self; next = c.args.self.now.next; places = c.args.self.now.places } in
    let clash = c.note.ensures.clash ∙ ap (λ b. c.args.self.now.faults.clash || b) c.clashes.ensures.clashes in
    let place : column_at (cols ++ old.added) i.name ≡ None = sym c.seat_of-place.ensures.place ∙ c.in-None.is in
    let at : length items ≡ c.args.at = length-take-le c.args.at c.args.row.now.items (omega (arith, c.requires.there)) in
    let few = h.few (omega (arith, c.if-drawn-gt-MAX_COLUMNS.false, c.len-drawn.ensures, h.sized)) in
    let grown : new.added ≡ old.added ++ column_made i ∷ [] = c.in_ok-add-in-None.ensures.added in
    let marked : new.marks.items ≡ old.marks.items ++ Some (length items) ∷ [] = c.in_ok-add-in-None.ensures.marks ∙ ap (λ (n : ℕ). old.marks.items ++ Some n ∷ []) (sym at) in
    let longer = ap length grown ∙ length-append old.added (column_made i ∷ []) in
    let longer_marks = ap length marked ∙ length-append old.marks.items (Some (length items) ∷ []) in
    let now = made cols c.args.columns.time c.requires.usable items i old.added old.marks.items old.faults.twice few place new.added new.marks.items grown marked in
    let is_marked : Marked cols (time_name c.args.columns) (items ++ i ∷ []) new.added new.marks.items new.faults.twice = subst (λ (b : Bool). Marked cols (time_name c.args.columns) (items ++ i ∷ []) new.added new.marks.items b) (sym c.note.ensures.twice) now in
    let size : length (cols ++ new.added) ≡ length cols + length new.added = length-append cols new.added in
    record { draws = subst (λ (xs : List Item). Draws c.args.columns xs new) (sym more) (stepped c.args.columns items i old new h (c.note.ensures.values items h.values) (c.note.ensures.names items h.names) clash (omega (arith, h.sized, longer, longer_marks)) (λ le. is_marked) (λ lt. let e = ap length now.cols_after in omega arith)) }
