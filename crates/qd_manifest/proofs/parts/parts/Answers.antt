use Rattle.std.proofs.Common.{◌≡◌, ◌+◌, ◌-◌, [], List, ℕ, Ok, refl, sym, ap, subst, ◌∙◌, append-nil, arith}
use Rattle.std.proofs.lemmas.List.Sums.{sum_by_push}
use Rattle.std.proofs.lemmas.Result.{err_from_is_err_and}
use Rattle.indexmap.specs.IndexSet.{keys}
use Rattle.qd_base.specs.declared.part.Part.{Part}
use Rattle.qd_fields.specs.Layout.{items}
use Rattle.qd_fields.specs.Reading.{Fails}
use Rattle.qd_manifest.specs.Layout.{part_from, part_in}
use Rattle.qd_fields.proofs.Steps.{items_more, items_fail, items_done}
use Rattle.qd_manifest.proofs.PartLaws.{next_named, part_in_given, part_in_fails}
use Rattle.qd_manifest.proofs.parts.parts.Goals as goal

pub loop-init : goal.loop-init
loop-init c =
    let f = part_in c.args.most c.args.next (keys c.args.named.now) c.args.schema.now in
    let none : c.args.count - 0 ≡ c.args.count = omega arith in
    rw c.new-parts.ensures.empty (record { read = ap (λ (k : ℕ). items f k [] c.args.bytes.now) none; named = sym (append-nil (keys c.args.named.now)); shown = refl; few = omega arith })

pub returns-in_err-part-clause-read : goal.returns-in_err-part-clause-read
returns-in_err-part-clause-read c =
    let f = part_in c.args.most c.args.next (keys c.args.named.now) c.args.schema.now in
    let p = err_from_is_err_and c.from_residual.result c.from_residual.ensures.1 in
    rw (p.1, p.2) (items_fail f c.in_err-part.field-0.0 c.args.count c.loop.counter c.loop.parts c.loop.rest.now (items f c.args.count [] c.args.bytes.now) c.loop-test.true (part_in_fails c.args.most c.args.next (keys c.loop.named) (keys c.args.named.now) c.args.schema.now c.loop.parts c.loop.rest.now c.in_err-part.field-0.0 c.loop.invariant.named (subst (λ (l : List Part). Fails c.in_err-part.field-0.0 (part_from c.args.most c.args.next (keys c.loop.named) c.args.schema.now l c.loop.rest.now)) c.as_slice.ensures.items c.in_err-part.ensures.read)) c.loop.invariant.read)

pub loop-preserved : goal.loop-preserved
loop-preserved c =
    let f = part_in c.args.most c.args.next (keys c.args.named.now) c.args.schema.now in
    let given : part_from c.args.most c.args.next (keys c.loop.named) c.args.schema.now c.loop.parts c.loop.rest.now ≡ Ok (c.in_ok-part.part, c.in_ok-part.after.now) = subst (λ (l : List Part). part_from c.args.most c.args.next (keys c.loop.named) c.args.schema.now l c.loop.rest.now ≡ Ok (c.in_ok-part.part, c.in_ok-part.after.now)) c.as_slice.ensures.items c.in_ok-part.ensures.read in
    let read = part_in_given c.args.most c.args.next (keys c.loop.named) (keys c.args.named.now) c.args.schema.now c.loop.parts c.loop.rest.now (c.in_ok-part.part, c.in_ok-part.after.now) c.loop.invariant.named given in
    rw c.in_ok-push.ensures.ok (record {
      read = items_more f c.args.count c.loop.counter c.loop.parts c.loop.rest.now c.in_ok-part.part c.in_ok-part.after.now (items f c.args.count [] c.args.bytes.now) c.loop-test.true read c.loop.invariant.read;
      named = c.in_ok-insert.ensures.keys ∙ next_named c.args.most c.args.next (keys c.loop.named) (keys c.args.named.now) c.args.schema.now c.loop.parts c.loop.rest.now (c.in_ok-part.part, c.in_ok-part.after.now) c.loop.invariant.named given;
      shown = ap (λ (k : ℕ). k + c.in_ok-part.part.rows) c.loop.invariant.shown ∙ sym (sum_by_push (λ (p : Part). p.rows) c.loop.parts c.in_ok-part.part);
      few = c.in_ok-part.ensures.few;
    })

pub returns-clause-read : goal.returns-clause-read
returns-clause-read c =
    let f = part_in c.args.most c.args.next (keys c.args.named.now) c.args.schema.now in
    items_done f c.args.count c.loop.counter c.loop.parts c.loop.rest.now (items f c.args.count [] c.args.bytes.now) c.loop-test.false c.loop.invariant.read

pub returns-clause-named : goal.returns-clause-named
returns-clause-named c = c.loop.invariant.named
