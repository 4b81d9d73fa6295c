-- What a draft's merge makes is what its transactions make of the version that they follow.
use Rattle.std.proofs.Common.{◌≡◌, ℕ, List, All, map, sym, ◌∙◌, ap, subst}
use Rattle.std.specs.Arc.{arc_value}
use Rattle.qd_base.specs.declared.op.Entry.{Entry}
use Rattle.qd_base.specs.Database.{Database}
use Rattle.qd_block.specs.Blocks.{Block}
use Rattle.qd_catalog.specs.declared.version.Version.{Version}
use Rattle.qd_apply.specs.Arrivals.{arrivals}
use Rattle.qd_apply.specs.Drafts.{Planning}
use Rattle.qd_apply.specs.Laws.{IsGrowth, MergingStands}
use Rattle.qd_apply.specs.Next.{all_grown, all_made, shape_after, TableGrowth}
use Rattle.qd_apply.specs.declared.olds.OldPart.{OldPart}
use Rattle.qd_apply.specs.Olds.{old_read}
use Rattle.qd_apply.proofs.ServeLemmas.{grown_again, made_again, shape_again}
use Rattle.qd_manifest.specs.Spelling.{schemas_in}
use Rattle.qd_versions.specs.declared.published.NewBlock.{NewBlock}
use Rattle.qd_versions.specs.Publishing.{AreNumbered}
use Rattle.qd_store.specs.Drafts.{Drafted, IsDraft, IsMerged, IsSomeDraft, IsSomeMerged, Merging}
use Rattle.qd_store.specs.Grown.{growth_of}
use Rattle.qd_store.proofs.Served.{followed}

-- What a plan's merge gives, and the numbers of its blocks: those facts that hold of it whatever the draft is of.
pub record Makes (d : Drafted) (m : Merging) (first : ℕ) : Type 0 where
  pub base : m.base ≡ d.plan.base
  pub upto : m.upto ≡ d.plan.upto
  pub first_is : first ≡ d.plan.next_block
  pub shape : (contents : ℕ → Block) → d.olds ≡ old_read contents d.plan.written d.plan.split_rows d.plan.shape d.plan.tables
      → m.shape ≡ shape_after contents d.plan.next_block d.plan.written d.plan.split_rows d.plan.shape d.plan.tables
  pub numbered : AreNumbered first m.blocks
  pub blocks : (contents : ℕ → Block) → d.olds ≡ old_read contents d.plan.written d.plan.split_rows d.plan.shape d.plan.tables
      → map (λ (b : NewBlock). arc_value b.of) m.blocks ≡ all_made contents d.plan.written d.plan.split_rows d.plan.shape d.plan.tables
  pub grown : (contents : ℕ → Block) → d.olds ≡ old_read contents d.plan.written d.plan.split_rows d.plan.shape d.plan.tables
      → map growth_of m.grown ≡ all_grown contents d.plan.written d.plan.split_rows d.plan.shape d.plan.tables

-- by what is lent of what is read, of the blocks that are made, and of the rows that go behind others
module _ {A G : Type 0} (value : A → Block) (growth : G → TableGrowth) (plan : Planning) (olds given : List OldPart) (made lent : List A) (more rows : List G) (m : Merging) (first : ℕ)
    (given_is : given ≡ olds) (lent_is : lent ≡ made) (rows_is : rows ≡ more) where
  abbrev AreGiven : (ℕ → Block) → Type 0
  AreGiven contents = given ≡ old_read contents plan.written plan.split_rows plan.shape plan.tables

  pub makes : m.base ≡ plan.base → m.upto ≡ plan.upto → first ≡ plan.next_block
      → ((contents : ℕ → Block) → AreGiven contents → m.shape ≡ shape_after contents plan.next_block plan.written plan.split_rows plan.shape plan.tables)
      → ((contents : ℕ → Block) → AreGiven contents → map value made ≡ all_made contents plan.written plan.split_rows plan.shape plan.tables)
      → ((contents : ℕ → Block) → AreGiven contents → map growth more ≡ all_grown contents plan.written plan.split_rows plan.shape plan.tables)
      → AreNumbered first m.blocks → map (λ (b : NewBlock). arc_value b.of) m.blocks ≡ map value lent → map growth_of m.grown ≡ map growth rows
      → Makes (record { plan = plan; olds = olds }) m first
  makes base upto first_is shape all behind numbered new put = record {
    base = base;
    upto = upto;
    first_is = first_is;
    shape = λ contents e. shape contents (given_is ∙ e);
    numbered = numbered;
    blocks = λ contents e. new ∙ ap (map value) lent_is ∙ all contents (given_is ∙ e);
    grown = λ contents e. put ∙ ap (map growth) rows_is ∙ behind contents (given_is ∙ e);
  }

module _ (next : ℕ) (x : Version) (es : List Entry) (contents : ℕ → Block) (db : Database) (d : Drafted) (is : IsDraft next x es contents db d) where
  -- what is read, as the plan has it
  read_as : d.olds ≡ old_read contents d.plan.written d.plan.split_rows d.plan.shape d.plan.tables
  read_as = is.read ∙ ap (λ (p : Planning). old_read contents p.written p.split_rows p.shape p.tables) (sym is.plan)

  pub is_merged : (m : Merging) (first : ℕ) → Makes d m first → IsMerged next x es contents db m
  is_merged m first makes =
      let number : first ≡ next = makes.first_is ∙ ap (λ (p : Planning). p.next_block) is.plan in
      record {
        follows = is.follows;
        written = is.written;
        split = is.split;
        base = makes.base ∙ ap (λ (p : Planning). p.base) is.plan;
        upto = makes.upto ∙ ap (λ (p : Planning). p.upto) is.plan;
        shape = makes.shape contents read_as
            ∙ ap (λ (p : Planning). shape_after contents p.next_block p.written p.split_rows p.shape p.tables) is.plan
            ∙ shape_again contents is.written is.split x.shape next (arrivals (schemas_in x.shape) es);
        numbered = subst (λ (n : ℕ). AreNumbered n m.blocks) number makes.numbered;
        blocks = makes.blocks contents read_as
            ∙ ap (λ (p : Planning). all_made contents p.written p.split_rows p.shape p.tables) is.plan
            ∙ made_again contents is.written is.split x.shape (arrivals (schemas_in x.shape) es);
        grown = makes.grown contents read_as
            ∙ ap (λ (p : Planning). all_grown contents p.written p.split_rows p.shape p.tables) is.plan
            ∙ grown_again contents is.written is.split x.shape (arrivals (schemas_in x.shape) es);
      }

  -- the rows go behind those of parts that show all rows that were written
  pub is_behind : MergingStands → (m : Merging) (first : ℕ) → Makes d m first → All (IsGrowth d.plan.shape d.plan.written) (map growth_of m.grown)
  unfolding is_merged
  is_behind law m first of =
      let merged = is_merged m first of in
      subst (λ (p : Planning). All (IsGrowth p.shape p.written) (map growth_of m.grown)) (sym is.plan)
      (subst (All (IsGrowth x.shape is.written)) (sym merged.grown) (followed law next x es contents db is.written is.split is.follows).grown)

-- the merge of a draft is one of the version that it is of
pub some_merged : (d : Drafted) (m : Merging) (first : ℕ) → IsSomeDraft d → Makes d m first → IsSomeMerged m
some_merged d m first (next, x, (es, contents, db, is)) makes = (next, x, (es, contents, db, is_merged next x es contents db d is m first makes))

pub some_behind : MergingStands → (d : Drafted) (m : Merging) (first : ℕ) → IsSomeDraft d → Makes d m first → All (IsGrowth d.plan.shape d.plan.written) (map growth_of m.grown)
some_behind law d m first (next, x, (es, contents, db, is)) makes = is_behind next x es contents db d is law m first makes
