use Rattle.std.proofs.Common.{◌≡◌, ◌∙◌, ◌+◌, ◌^◌, ◌<◌, ◌≤◌, ◌++◌, ℕ, List, length, map, ap, ap₂, sym, subst, arith}
use Rattle.std.specs.Arc.{arc_value}
use Rattle.std.specs.Prelude.{Vec}
use Rattle.std.specs.declared.alloc.Global.{Global}
use Rattle.qd_base.specs.Database.{StoredTable}
use Rattle.qd_block.specs.Blocks.{Block}
use Rattle.qd_apply.specs.declared.olds.OldPart.{OldPart}
use Rattle.qd_apply.specs.declared.plans.Planned.{Planned}
use Rattle.qd_apply.specs.Drafts.{Planning}
use Rattle.qd_apply.specs.Next.{all_grown, all_made, shape_after, TableGrowth}
use Rattle.qd_apply.specs.Olds.{old_read}
use Rattle.qd_apply.specs.Plans.{all_by, all_reads, all_writes, grown_by_all, growth_of, planned_table, read_from, shape_by, writes_in, AreEarlier, AreOldsFor, ArePlanned}
use Rattle.qd_apply.proofs.ServeLemmas.{grown_serves, made_serves, olds_serve, plans_fit, reads_shown, shape_serves, writes_shown}
use Rattle.qd_apply.proofs.planning.Plan.merge.Goals as goal

pub merged_tables-requires : goal.merged_tables-requires
merged_tables-requires c =
    let i = c.self.inside in
    let counts : List (List ℕ) = map (λ (v : Vec ℕ Global). v.items) c.self.inside.written.items in
    let ps : List Planned = i.plans.items in
    let ts : List StoredTable = map planned_table i.plans.items in
    let given : List OldPart = c.args.olds.now in
    let same = sym c.as_slice.ensures.value in
    let serve = olds_serve counts i.split_rows i.shape ts ps given c.self.invariant.plans (subst (λ (d : Planning). AreOldsFor d.written d.split_rows d.shape d.tables given) (sym c.self.view_is) c.requires.olds) in
    let enough : all_reads i.plans.items ≤ length c.args.olds.now = serve.1 in
    let room : i.next_block + writes_in counts i.split_rows i.shape ts < 2 ^ 64 = subst (λ (d : Planning). d.next_block + writes_in d.written d.split_rows d.shape d.tables < 2 ^ 64) (sym c.self.view_is) c.requires.room in
    let room' : i.next_block + length c.new.result.items + all_writes i.plans.items < 2 ^ 64 = omega (arith, room, writes_shown counts i.split_rows i.shape ts ps c.self.invariant.plans, ap length c.new.ensures.items) in
    record {
      planned = subst (λ (l : List Planned). ArePlanned i.shape l) same (plans_fit counts i.split_rows i.shape ts ps c.self.invariant.plans);
      given = subst (λ (l : List Planned). AreEarlier l given) same serve.0;
      enough = subst (λ (l : List Planned). all_reads l ≤ length c.args.olds.now) same enough;
      room = subst (λ (l : List Planned). i.next_block + length c.new.result.items + all_writes l < 2 ^ 64) same room';
    }

pub returns : goal.returns
returns c =
    let i = c.self.inside in
    let counts : List (List ℕ) = map (λ (v : Vec ℕ Global). v.items) c.self.inside.written.items in
    let ps : List Planned = i.plans.items in
    let ts : List StoredTable = map planned_table i.plans.items in
    let given : List OldPart = c.args.olds.now in
    let plans = c.self.invariant.plans in
    let view = c.self.view_is in
    let number : i.next_block + length c.new.result.items ≡ i.next_block = omega (arith, ap length c.new.ensures.items) in
    let given_is : (contents : ℕ → Block) → given ≡ old_read contents c.args.self.written c.args.self.split_rows c.args.self.shape c.args.self.tables → given ≡ read_from contents i.split_rows i.shape ps =
    λ contents e. e ∙ ap (λ (d : Planning). old_read contents d.written d.split_rows d.shape d.tables) (sym view) ∙ reads_shown contents counts i.split_rows i.shape ts ps plans in
    let early : AreEarlier ps given = (olds_serve counts i.split_rows i.shape ts ps given plans (subst (λ (d : Planning). AreOldsFor d.written d.split_rows d.shape d.tables given) (sym view) c.requires.olds)).0 in
    let early_in : (contents : ℕ → Block) → given ≡ old_read contents c.args.self.written c.args.self.split_rows c.args.self.shape c.args.self.tables → AreEarlier ps (read_from contents i.split_rows i.shape ps) =
    λ contents e. subst (AreEarlier ps) (given_is contents e) early in
    record {
      base = ap (λ (d : Planning). d.base) view;
      upto = ap (λ (d : Planning). d.upto) view;
      first = ap (λ (d : Planning). d.next_block) view;
      shape = λ contents e. (
          c.in_ok-shape.ensures.shape
          ∙ ap₂ (λ (l : List Planned) (n : ℕ). shape_by i.shape l n given) c.as_slice.ensures.value number
          ∙ ap (λ (g : List OldPart). shape_by i.shape ps i.next_block g) (given_is contents e)
          ∙ shape_serves contents counts i.split_rows i.shape ts ps i.next_block plans (early_in contents e)
          ∙ ap (λ (d : Planning). shape_after contents d.next_block d.written d.split_rows d.shape d.tables) view
          );
      blocks = λ contents e. (
          c.in_ok-shape.ensures.blocks
          ∙ ap₂ (λ (m : List Block) (l : List Planned). m ++ all_by l given) (ap (map arc_value) c.new.ensures.items) c.as_slice.ensures.value
          ∙ ap (λ (g : List OldPart). all_by ps g) (given_is contents e)
          ∙ made_serves contents counts i.split_rows i.shape ts ps plans (early_in contents e)
          ∙ ap (λ (d : Planning). all_made contents d.written d.split_rows d.shape d.tables) view
          );
      grown = λ contents e. (
          c.in_ok-shape.ensures.grown
          ∙ ap₂ (λ (m : List TableGrowth) (l : List Planned). m ++ grown_by_all 0 l) (ap (map growth_of) c.new-2.ensures.items) c.as_slice.ensures.value
          ∙ grown_serves 0 contents counts i.split_rows i.shape ts ps plans
          ∙ ap (λ (d : Planning). all_grown contents d.written d.split_rows d.shape d.tables) view
          );
    }
