-- What reads gave of the files of a block.
use Rattle.std.proofs.Common.{◌≡◌, inr, ℕ, List, [], ◌∷◌, ◌++◌, length, IfOk, Result, Ok, Err, Vec, sym, subst, ◌*◌, ◌<◌, min, false, Option, None, Some, IfSome, ap, ◌∙◌, arith}
use Rattle.std.specs.declared.alloc.Global.{Global}
use Rattle.qd_base.specs.declared.part.Part.{Part}
use Rattle.qd_base.specs.declared.schema.Schema.{Schema}
use Rattle.qd_base.specs.declared.schema.ColType.{ColType}
use Rattle.qd_column.specs.Cells.{CellsOf}
use Rattle.qd_column_format.specs.Fields.{field_size}
use Rattle.qd_column_format.specs.Rests.{IsHeldRest}
use Rattle.qd_durable.specs.declared.fault.LogFault.{LogFault}
use Rattle.qd_io.specs.declared.fault.IoFault.{IoFault}
use Rattle.qd_column_files.specs.Columns.{is_designated}
use Rattle.qd_column_files.specs.Files.{column_file}
use Rattle.qd_column_files.specs.Reading.{AreGiven, IsAuxGiven, IsColumnGiven, IsColumnRead}
use Rattle.qd_column_files.specs.Rests.{AreRestsGiven, IsAuxRestGiven, IsRestGiven}
use Rattle.qd_column_files.proofs.MadeLemmas.{each_more}

module _ (gives : ℕ → ℕ → List ℕ → Type 0) where
  -- a second file that is read from its start
  pub aux_given : (file : ℕ) (result : Result (Vec ℕ Global) IoFault) → IfOk result (λ front. gives file 0 front.items) → IfOk result (λ aux. IsAuxGiven gives file aux.items)
  aux_given file (Ok bytes) given = inr given
  aux_given file (Err fault) given = tt

  -- a column of both files
  pub column_given : (s : Schema) (p : Part) (col first second : ℕ) (main aux : List ℕ) (result : Result CellsOf LogFault) → first ≡ column_file p.block col 0 → second ≡ column_file p.block col 1
      → gives first 0 main → IsAuxGiven gives second aux → IsColumnRead result s p col main aux → IfOk result (λ column. IsColumnGiven gives p.block col column)
  column_given s p col first second main aux (Ok column) is also one two spelled = record {
    main = main;
    aux = aux;
    main_given = subst (λ f. gives f 0 main) is one;
    aux_given = subst (λ f. IsAuxGiven gives f aux) also two;
    spelled = spelled;
  }
  column_given s p col first second main aux (Err cause) is also one two spelled = tt

  -- one column more
  pub given_more : (block : ℕ) (columns : List CellsOf) (column : CellsOf) (col : ℕ) → AreGiven gives block columns → length columns ≡ col → IsColumnGiven gives block col column → AreGiven gives block (columns ++ column ∷ [])
  given_more block columns column col had at here = each_more (λ k c. IsColumnGiven gives block k c) columns column had (subst (λ n. IsColumnGiven gives block n column) (sym at) here)

  -- the rows of a column from one on, of both files
  pub rest_given : (block col skip first second from start rows : ℕ) (k : ColType) (main aux : List ℕ) (rest : Option CellsOf) → first ≡ column_file block col 0 → second ≡ column_file block col 1 → from ≡ min (skip * field_size k) 18446744073709551615
      → gives first from main → IsAuxRestGiven gives second k start aux → IfSome rest (λ column. column.kind ≡ k) → IfSome rest (λ column. length column.cells ≡ rows) → (0 < rows → IfSome rest (λ column. IsHeldRest start main aux column))
      → IfSome rest (λ column. 0 < length column.cells → IsRestGiven gives block col skip column)
  rest_given block col skip first second from start rows k main aux None is also at one two kinds sizes held = tt
  rest_given block col skip first second from start rows k main aux (Some column) is also at one two kinds sizes held = λ some.
      let place : from ≡ min (skip * field_size column.kind) 18446744073709551615 = at ∙ ap (λ (j : ColType). min (skip * field_size j) 18446744073709551615) (sym kinds) in
      record {
        start = start;
        main = main;
        aux = aux;
        main_given = subst (λ (f : ℕ). gives f (min (skip * field_size column.kind) 18446744073709551615) main) is (subst (λ (n : ℕ). gives first n main) place one);
        aux_given = subst (λ (j : ColType). IsAuxRestGiven gives (column_file block col 1) j start aux) (sym kinds) (subst (λ (f : ℕ). IsAuxRestGiven gives f k start aux) also two);
        held = held (omega (arith, some, sizes));
      }

  pub more_given : (s : Schema) (block skip : ℕ) (columns : List CellsOf) (column : CellsOf) (col : ℕ) → AreRestsGiven gives s block skip columns → length columns ≡ col → (is_designated s col ≡ false → 0 < length column.cells → IsRestGiven gives block col skip column) → AreRestsGiven gives s block skip (columns ++ column ∷ [])
  more_given s block skip columns column col had at here =
      let P : ℕ → CellsOf → Type 0 = λ k c. is_designated s k ≡ false → 0 < length c.cells → IsRestGiven gives block k skip c in
      each_more P columns column had (subst (λ (n : ℕ). P n column) (sym at) here)
