use Rattle.std.proofs.Common.{◌≡◌, ◌<◌, ℕ, List, get_or, length, sym, ap, subst, ◌∙◌, arith}
use Rattle.std.proofs.lemmas.Bool.Decides.{Decides-eqb}
use Rattle.std.proofs.lemmas.Option.{get_or_from_slice_get}
use Rattle.std.proofs.lemmas.Slice.Eq.{slice_eq-Decides}
use Rattle.std.proofs.lemmas.List.Elements.{All-get_or}
use Rattle.qd_base.specs.declared.schema.Col.{Col}
use Rattle.qd_base.specs.Names.{IsColumnName}
use Rattle.qd_base.specs.Schemas.{same_name}
use Rattle.qd_lines.proofs.MarkLemmas.{place_is}
use Rattle.qd_base.proofs.Alike.{names_equal}
use Rattle.qd_lines.proofs.draft.is_spelled.Goals as goal

pub returns-then-place-len : goal.returns-then-place-len
returns-then-place-len c =
    let cols = c.args.columns.cols.now in
    let name = c.args.name.now in
    let d : Col = c.get.result.now in
    let at : get_or cols c.args.place d ≡ d = get_or_from_slice_get cols c.args.place d d c.get.ensures.item in
    let lt : c.args.place < length cols = omega (arith, c.if-place-len.true, c.len.ensures.count) in
    let same = (slice_eq-Decides Decides-eqb c.bytes.result.now name c.eq.result c.eq.ensures).0 in
    let named : IsColumnName d.name = subst (λ (x : Col). IsColumnName x.name) at (All-get_or (λ (x : Col). IsColumnName x.name) cols c.args.place d lt c.requires.named) in
    record {
      found = λ e. place_is cols c.requires.usable.distinct c.args.place d name lt (ap (λ (x : Col). same_name x.name name) at ∙ ap (λ (t : List ℕ). same_name t name) (sym c.bytes.ensures.same ∙ same e) ∙ names_equal.refl name);
      fair = λ e. subst IsColumnName (sym c.bytes.ensures.same ∙ same e) named;
    }
