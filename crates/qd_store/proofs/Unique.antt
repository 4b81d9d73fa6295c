-- The blocks of a version that stands for a database are those of its parts, and no others.
use Rattle.std.proofs.Common.{◌≡◌, ℕ, List, [], ◌∷◌, ◌++◌, length, map, take, drop, All, refl, sym, ◌∙◌, ap, ap₂, subst}
use Rattle.std.proofs.lemmas.List.{append_cancel_left, append_cancel_right, length-map}
use Rattle.std.proofs.lemmas.List.Elements.{All-cons, All-head, All-nil, All-tail}
use Rattle.std.proofs.Math.Seq.{take-append_seam}
use Rattle.qd_base.specs.declared.part.Part.{Part}
use Rattle.qd_base.specs.declared.schema.ColType.{ColType}
use Rattle.qd_base.specs.declared.schema.Schema.{Schema}
use Rattle.qd_base.specs.Database.{Database}
use Rattle.qd_base.specs.Rows.{Row}
use Rattle.qd_block.specs.Blocks.{Block}
use Rattle.qd_apply.specs.Stands.{StandsFor, rows_in_parts}
use Rattle.qd_manifest.specs.declared.shape.TableParts.{TableParts}
use Rattle.qd_manifest.specs.Spelling.{blocks_of}
use Rattle.qd_rows.specs.Sets.{absent}
use Rattle.qd_scan.specs.Sources.{IsBlockOf, table_rows}
use Rattle.qd_store.proofs.Sides.{blocks_each}

-- the front of two lists that are one, where it has one length
front_is : {X : Type 0} (xs ys us vs : List X) → length xs ≡ length us → xs ++ ys ≡ us ++ vs → xs ≡ us
front_is xs ys us vs size e =
    sym (take-append_seam xs ys) ∙ ap₂ (λ (n : ℕ) (l : List _). take n l) size e ∙ take-append_seam us vs

-- rows made wider by the same cells
widened_is : (pad : Row) (xs ys : List Row) → map (λ (r : Row). r ++ pad) xs ≡ map (λ (r : Row). r ++ pad) ys → xs ≡ ys
widened_is pad [] [] e = refl
widened_is pad [] (y ∷ ys) e = cc
widened_is pad (x ∷ xs) [] e = cc
widened_is pad (x ∷ xs) (y ∷ ys) e = ap₂ (λ (r : Row) (rs : List Row). r ∷ rs) (append_cancel_right x y pad (ap (λ (l : List Row). head l) e)) (widened_is pad xs ys (ap (λ (l : List Row). tail l) e))
  where
    head : List Row → Row
    head [] = []
    head (r ∷ rs) = r

    tail : List Row → List Row
    tail [] = []
    tail (r ∷ rs) = rs

-- one part's block
module _ (s : Schema) (p : Part) (a b : Block) (one : IsBlockOf s p a) (other : IsBlockOf s p b) where
  wide_rows : table_rows s.cols a ≡ table_rows s.cols b → a.rows ≡ b.rows
  wide_rows e =
      widened_is (absent (drop (length b.kinds) s.cols)) a.rows b.rows
      (ap (λ (n : ℕ). map (λ (r : Row). r ++ absent (drop n s.cols)) a.rows) (other.columns ∙ sym one.columns) ∙ e)

  block_is : a.rows ≡ b.rows → a ≡ b
  block_is e = whole (one.kinds ∙ sym other.kinds) (one.time_col ∙ sym other.time_col) e
    where
      whole : a.kinds ≡ b.kinds → a.time_col ≡ b.time_col → a.rows ≡ b.rows → a ≡ b
      whole k t r = ap₂ (λ (ks : List ColType) (x : ℕ × List Row). record { kinds = ks; time_col = x.0; rows = x.1 }) k (ap₂ (λ (n : ℕ) (l : List Row). (n, l)) t r)

  pub one_block_of : table_rows s.cols a ≡ table_rows s.cols b → a ≡ b
  one_block_of e = block_is (wide_rows e)

  rows_long : length (table_rows s.cols a) ≡ length (table_rows s.cols b)
  rows_long = length-map a.rows (λ (r : Row). r ++ absent (drop (length a.kinds) s.cols)) ∙ one.rows ∙ sym other.rows ∙ sym (length-map b.rows (λ (r : Row). r ++ absent (drop (length b.kinds) s.cols)))

  pub split_rows : (rest last : List Row) → table_rows s.cols a ++ rest ≡ table_rows s.cols b ++ last → (a ≡ b) × (rest ≡ last)
  split_rows rest last e =
      let front = front_is (table_rows s.cols a) rest (table_rows s.cols b) last rows_long e in
      (one_block_of front, append_cancel_left (table_rows s.cols b) rest last (subst (λ (l : List Row). l ++ rest ≡ table_rows s.cols b ++ last) front e))

-- all parts of a table
parts_are : (s : Schema) (a b : ℕ → Block) (parts : List Part) → All (λ (p : Part). IsBlockOf s p (a p.block)) parts → All (λ (p : Part). IsBlockOf s p (b p.block)) parts → rows_in_parts s.cols a parts ≡ rows_in_parts s.cols b parts → All (λ (p : Part). a p.block ≡ b p.block) parts
parts_are s a b [] one other e = All-nil _
parts_are s a b (p ∷ ps) one other e =
    let both = split_rows s p (a p.block) (b p.block) (All-head (λ (q : Part). IsBlockOf s q (a q.block)) p ps one) (All-head (λ (q : Part). IsBlockOf s q (b q.block)) p ps other) (rows_in_parts s.cols a ps) (rows_in_parts s.cols b ps) e in
    All-cons (λ (q : Part). a q.block ≡ b q.block) p ps both.0
    (parts_are s a b ps (All-tail (λ (q : Part). IsBlockOf s q (a q.block)) p ps one) (All-tail (λ (q : Part). IsBlockOf s q (b q.block)) p ps other) both.1)

tables_are : (a b : ℕ → Block) (shape : List TableParts) → All (λ (t : TableParts). All (λ (p : Part). IsBlockOf t.schema p (a p.block)) t.parts) shape → All (λ (t : TableParts). All (λ (p : Part). IsBlockOf t.schema p (b p.block)) t.parts) shape
    → map (λ (t : TableParts). rows_in_parts t.schema.cols a t.parts) shape ≡ map (λ (t : TableParts). rows_in_parts t.schema.cols b t.parts) shape → All (λ (t : TableParts). All (λ (p : Part). a p.block ≡ b p.block) t.parts) shape
tables_are a b [] one other e = All-nil _
tables_are a b (t ∷ ts) one other e =
    All-cons (λ (u : TableParts). All (λ (p : Part). a p.block ≡ b p.block) u.parts) t ts
    (parts_are t.schema a b t.parts (All-head (λ (u : TableParts). All (λ (p : Part). IsBlockOf u.schema p (a p.block)) u.parts) t ts one) (All-head (λ (u : TableParts). All (λ (p : Part). IsBlockOf u.schema p (b p.block)) u.parts) t ts other) (ap (λ (l : List (List Row)). head l) e))
    (tables_are a b ts (All-tail (λ (u : TableParts). All (λ (p : Part). IsBlockOf u.schema p (a p.block)) u.parts) t ts one) (All-tail (λ (u : TableParts). All (λ (p : Part). IsBlockOf u.schema p (b p.block)) u.parts) t ts other) (ap (λ (l : List (List Row)). tail l) e))
  where
    head : List (List Row) → List Row
    head [] = []
    head (r ∷ rs) = r

    tail : List (List Row) → List (List Row)
    tail [] = []
    tail (r ∷ rs) = rs

pub stands_one : (a b : ℕ → Block) (shape : List TableParts) (db : Database) → StandsFor a shape db → StandsFor b shape db → All (λ n. a n ≡ b n) (blocks_of shape)
stands_one a b shape db one other = blocks_each (λ n. a n ≡ b n) shape (tables_are a b shape one.fit other.fit (one.rows ∙ sym other.rows))
