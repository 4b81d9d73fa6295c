use Rattle.std.proofs.Common.{◌≡◌, ◌+◌, ◌<◌, ◌≤◌, ◌∙◌, ◌++◌, ◌∷◌, [], ℕ, List, cond, length, get_or, slice_get, map, arith, ap, refl, sym, subst}
use Rattle.std.specs.Prelude.{Contains}
use Rattle.qd_base.specs.declared.limits.TheConstants.{MAX_TEXT_BYTES}
use Rattle.std.specs.List.{slice_range}
use Rattle.std.specs.Option.{is_some}
use Rattle.std.proofs.lemmas.Option.{get_or_from_slice_get}
use Rattle.qd_base.specs.declared.cell.Cell.TheVariants as cell
use Rattle.qd_base.specs.Dictionary.{id_in, with_text}
use Rattle.qd_base.specs.Rows.{cell_eq}
use Rattle.qd_links.specs.Lists.{Lists, list_at}
use Rattle.qd_latest.specs.Chains.{cells_of, chain}
use Rattle.qd_latest.proofs.ChainLemmas.{front_of, one_id, IsLastPass}
use Rattle.qd_latest.proofs.MeetLemmas.{with_front, without_front}
use Rattle.qd_latest.proofs.PartLemmas.{length-cells}
use Rattle.qd_latest.proofs.TextLemmas.{grows_with}
use Rattle.qd_latest.proofs.WalkLemmas.{seen_all, seen_none, HasSeen}
use Rattle.qd_latest.proofs.walk.meet_chains.Goals as goal
use Rattle.qd_latest.proofs.walk.meet_chains.Goals.{in-Some+in_ok-meet-in-Some, in-None}

pub loop-id-init : goal.loop-id-init
loop-id-init g c =
    let texts : List (List ℕ) = g.D.Dictionary.texts c.args.dictionary.now in
    record {
      seen = seen_none (cells_of c.args.rows.now c.args.col) c.args.from c.args.to texts (omega (arith, c.requires.rows.within, length-cells c.args.rows.now c.args.col)) (one_id texts c.len-id-end.ensures.distinct) (g.D.Dictionary.texts c.args.met.now) c.args.kept.now.items c.requires.walked;
      grows = λ t has. has;
    }

pub meet-requires : goal.meet-requires
meet-requires g c = record {
  short = subst (λ (t : List ℕ). length t ≤ MAX_TEXT_BYTES) (get_or_from_slice_get (g.D.Dictionary.texts c.args.dictionary.now) c.loop-id.id c.text_of.result.now [] c.text_of.ensures.text)
      (c.requires.short c.loop-id.id [] (omega (arith, c.loop-id-test.true, c.len-id-end.ensures.count)));
}

pub loop-id-preserved : goal.loop-id-preserved
loop-id-preserved g c =
    let cells = cells_of c.args.rows.now c.args.col in
    let texts : List (List ℕ) = g.D.Dictionary.texts c.args.dictionary.now in
    let met : List (List ℕ) = g.D.Dictionary.texts c.loop-id.met in
    let id : ℕ = c.loop-id.id in
    let window = slice_range (cells_of c.args.rows.now c.args.col) c.args.from c.args.to in
    let low : c.loop-id.id < length (g.D.Dictionary.texts c.args.dictionary.now) = omega (arith, c.loop-id-test.true, c.len-id-end.ensures.count) in
    let within : c.args.to ≤ length (cells_of c.args.rows.now c.args.col) = omega (arith, c.requires.rows.within, length-cells c.args.rows.now c.args.col) in
    let apart = one_id texts c.len-id-end.ensures.distinct in
    let front : IsLastPass (cell_eq (cell.Text (get_or texts id []))) 0 window c.front.result = subst (IsLastPass (cell_eq (cell.Text (get_or texts id []))) 0 window)
    (sym (c.front.ensures.first ∙ ap (λ (v : Lists). slice_get (list_at v id) 0) c.in_ok-links.ensures.chains ∙ ap (λ (ts : List (List ℕ)). slice_get (get_or (map (chain window) ts) id []) 0) (sym c.requires.texts)))
    (front_of window texts id low) in
    elim c.match-front.branch [
      | in-Some+in_ok-meet-in-Some w ↦
          (let text : get_or texts id [] ≡ w.text_of.result.now = get_or_from_slice_get texts id w.text_of.result.now [] w.text_of.ensures.text in
          let found = with_front cells c.args.from c.args.to texts within apart met c.loop-id.kept.items id low c.loop-id.invariant.seen c.front.result front w.in-Some.node w.in-Some.is (id_in met (get_or texts id [])) refl in
          let same : HasSeen cells c.args.from c.args.to texts (id + 1) (with_text met w.text_of.result.now) (cond (is_some (id_in met w.text_of.result.now)) c.loop-id.kept.items (c.loop-id.kept.items ++ (c.args.from + w.in-Some.node) ∷ []))
          = subst (λ (t : List ℕ). HasSeen cells c.args.from c.args.to texts (id + 1) (with_text met t) (cond (is_some (id_in met t)) c.loop-id.kept.items (c.loop-id.kept.items ++ (c.args.from + w.in-Some.node) ∷ []))) text found in
          let new_met : g.D.Dictionary.texts c.match-front.met ≡ with_text met w.text_of.result.now = ap (λ m. g.D.Dictionary.texts m) w.met-is ∙ w.in_ok-meet-in-Some.ensures.met in
          let new_kept = ap (λ k. k.items) w.kept-is ∙ w.in_ok-meet-in-Some.ensures.kept in
          record {
            seen = subst (λ (m : List (List ℕ)). HasSeen cells c.args.from c.args.to texts (id + 1) m c.match-front.kept.items) (sym new_met) (subst (λ (k : List ℕ). HasSeen cells c.args.from c.args.to texts (id + 1) (with_text met w.text_of.result.now) k) (sym new_kept) same);
            grows = λ t has. subst (λ (m : List (List ℕ)). Contains m t) (sym new_met) (grows_with met w.text_of.result.now t (c.loop-id.invariant.grows t has));
          })
      | in-None w ↦
          (let new_met : g.D.Dictionary.texts c.match-front.met ≡ met = ap (λ m. g.D.Dictionary.texts m) w.met-is in
          let new_kept = ap (λ k. k.items) w.kept-is in
          let same = without_front cells c.args.from c.args.to texts within apart met c.loop-id.kept.items id low c.loop-id.invariant.seen c.front.result front w.in-None.is in
          record {
            seen = subst (λ (m : List (List ℕ)). HasSeen cells c.args.from c.args.to texts (id + 1) m c.match-front.kept.items) (sym new_met) (subst (λ (k : List ℕ). HasSeen cells c.args.from c.args.to texts (id + 1) met k) (sym new_kept) same);
            grows = λ t has. subst (λ (m : List (List ℕ)). Contains m t) (sym new_met) (c.loop-id.invariant.grows t has);
          })
    ]

pub returns-clause-walked : goal.returns-clause-walked
returns-clause-walked g c =
    let texts : List (List ℕ) = g.D.Dictionary.texts c.args.dictionary.now in
    seen_all (cells_of c.args.rows.now c.args.col) c.args.from c.args.to texts (omega (arith, c.requires.rows.within, length-cells c.args.rows.now c.args.col)) (one_id texts c.len-id-end.ensures.distinct) (g.D.Dictionary.texts c.loop-id.met) c.loop-id.kept.items c.loop-id.id
    (omega (arith, c.loop-id-test.false, c.len-id-end.ensures.count)) (omega (arith, c.requires.rows.some)) c.requires.known c.loop-id.invariant.seen
