use Rattle.std.proofs.Common.{◌≡◌, ◌∙◌, ◌<◌, ap, ap₂, sym, subst, List, ℕ, Bool, All, get_or, length}
use Rattle.std.proofs.lemmas.Bool.{eqb-true, eqb-false}
use Rattle.std.proofs.lemmas.Result.{IfOk-weaker}
use Rattle.qd_base.specs.Rows.{Row}
use Rattle.qd_merge.specs.Batch.{last_of_equals}
use Rattle.qd_merge.specs.Classes.{AreClasses, repeats}
use Rattle.qd_merge.specs.Classes.{kept}
use Rattle.qd_merge.proofs.ClassLemmas.{last_of_none, flags_fit, flags_keep}
use Rattle.qd_merge.proofs.batch.dedup_batch.Goals as goal

pub returns-then-is_empty : goal.returns-then-is_empty
returns-then-is_empty c =
    let none : length c.args.keys.now ≡ 0 = eqb-true (length c.args.keys.now) 0 (sym c.is_empty.ensures.empty ∙ c.if-is_empty.true) in
    let same : c.args.rows ≡ last_of_equals c.args.keys.now c.args.rows = last_of_none c.args.keys.now c.args.rows none in
    record { last = same; of_sorted = λ col came e. same ∙ ap (last_of_equals c.args.keys.now) e }

pub repeated-requires : goal.repeated-requires
repeated-requires c =
    let are = c.in_ok-classes.ensures.classes in
    subst (λ (cs : List ℕ). All (λ x. x < length cs) cs) (sym c.as_slice-2.ensures.value) (λ k d lt. subst (λ (n : ℕ). get_or c.in_ok-classes.classes.items k d < n) (sym are.count) (are.below k d lt))

pub kept_rows-requires : goal.kept_rows-requires
kept_rows-requires c =
    let are : AreClasses c.args.keys.now c.as_slice.result.now c.in_ok-classes.classes.items = c.in_ok-classes.ensures.classes in
    ap length c.as_slice-4.ensures.value ∙ flags_fit c.args.keys.now c.as_slice.result.now c.in_ok-classes.classes.items c.in_ok-gone.gone.items are (c.in_ok-gone.ensures.flags ∙ ap repeats c.as_slice-2.ensures.value) ∙ ap length (c.as_slice.ensures.items ∙ sym c.as_slice-3.ensures.items)

pub returns : goal.returns
returns c =
    let keys = c.args.keys.now in
    let rows = c.args.rows in
    let some : length keys ≡ 0 → ⊥ = eqb-false (length keys) 0 (sym c.is_empty.ensures.empty ∙ c.if-is_empty.false) in
    let are : AreClasses keys rows c.in_ok-classes.classes.items = subst (λ (rs : List Row). AreClasses keys rs c.in_ok-classes.classes.items) c.as_slice.ensures.items c.in_ok-classes.ensures.classes in
    let same : kept c.as_slice-4.result.now c.as_slice-3.result.now ≡ last_of_equals keys rows =
    ap₂ (λ (g : List Bool) (rs : List Row). kept g rs) c.as_slice-4.ensures.value c.as_slice-3.ensures.items ∙ flags_keep keys rows c.in_ok-classes.classes.items c.in_ok-gone.gone.items are (c.in_ok-gone.ensures.flags ∙ ap repeats c.as_slice-2.ensures.value) some in
    record {
      last = IfOk-weaker c.kept_rows.result _ _ (λ out h. h ∙ same) c.kept_rows.ensures.rows;
      of_sorted = λ col came e. IfOk-weaker c.kept_rows.result _ _ (λ out h. h ∙ same ∙ ap (last_of_equals keys) e) c.kept_rows.ensures.rows;
    }
