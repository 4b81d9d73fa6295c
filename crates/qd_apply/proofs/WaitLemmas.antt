-- Rows that wait in blocks in the making.
use Rattle.std.proofs.Common.{◌≡◌, ℕ, ◌≤◌, List, [], ◌∷◌, ◌++◌, Option, Some, None, IfSome, length, get_or, map, take, refl, sym, ap, ap₂, ◌∙◌, arith, All, subst, append-nil, append_assoc}
use Rattle.std.specs.List.{AllByRecursion}
use Rattle.std.proofs.lemmas.Grind.{flat_map-append}
use Rattle.std.proofs.lemmas.List.{length-map, length-take, length_push, map-append, take-append-le}
use Rattle.std.proofs.lemmas.List.Elements.{recursion_from_All}
use Rattle.qd_base.specs.declared.schema.Col.{Col}
use Rattle.qd_base.specs.declared.schema.ColType.{ColType}
use Rattle.qd_base.specs.declared.schema.Schema.{Schema}
use Rattle.qd_base.specs.Database.{missing, widened, StoredTable}
use Rattle.qd_base.specs.Lawful.{HasKinds, IsRowOf, IsSchema}
use Rattle.qd_base.specs.Rows.{Row}
use Rattle.qd_base.specs.Schemas.{with_column, with_keys}
use Rattle.qd_block.specs.Blocks.{Building, kinds_in, FitsKinds, IsTimed}
use Rattle.qd_apply.specs.Arrivals.{arrived, wide}
use Rattle.qd_apply.specs.Waiting.{begun_rows, staged, waiting, IsBegun, IsStage, IsWaiting, Waits}
use Rattle.qd_apply.proofs.ArrivalLemmas.{lengths, row_longer}
use Rattle.qd_apply.proofs.EachLemmas.{each_append, each_back, each_front, each_map, each_then}
use Rattle.qd_apply.proofs.WideLemmas.{wide_one, wide_same}

-- a row fits the columns
fits_columns : (cols : List Col) (row : Row) → HasKinds cols row → FitsKinds (kinds_in cols) row
fits_columns [] [] h = tt
fits_columns [] (x ∷ xs) h = absurd h
fits_columns (c ∷ cs) [] h = absurd h
fits_columns (c ∷ cs) (x ∷ xs) h = (h.0, fits_columns cs xs h.1)

pub rows_fit : (s : Schema) (kinds : List ColType) (rows : List Row) → kinds ≡ kinds_in s.cols → All (IsRowOf s) rows → All (FitsKinds kinds) rows
rows_fit s kinds rows is fit k d lt = subst (λ (ks : List ColType). FitsKinds ks (get_or rows k d)) (sym is) (fits_columns s.cols (get_or rows k d) (fit k d lt).kinds)

pub rows_timely : (s : Schema) (col : ℕ) (rows : List Row) → col ≡ s.time_col → All (IsRowOf s) rows → All (IsTimed col) rows
rows_timely s col rows is fit = subst (λ (c : ℕ). All (IsTimed c) rows) (sym is) (λ k d lt. (fit k d lt).timed)

-- ---- what waits

pub waits_none : (s : Schema) (stages : List Building) → IsSchema s → stages ≡ [] → IsWaiting s stages None
waits_none s stages schema none = subst (λ (l : List Building). IsWaiting s l None) (sym none) (record { waits = record { schema = schema; fit = tt }; each = tt; begun = tt })

pub waits_idle : (s : Schema) (stages : List Building) (current : Option Building) → IsWaiting s stages current → IsWaiting s stages None
waits_idle s stages current is = record {
  waits = record { schema = is.waits.schema; fit = subst (AllByRecursion (IsRowOf s)) (sym (append-nil (staged s.cols stages))) (each_front (IsRowOf s) (staged s.cols stages) (begun_rows current) is.waits.fit) };
  each = is.each;
  begun = tt;
}

pub rows_more : (s : Schema) (stages : List Building) (current : Option Building) (b more : Building) (rows : List Row) → b.rows ≡ begun_rows current → more ≡ record b { rows = b.rows ++ rows } → waiting s stages (Some more) ≡ arrived rows (waiting s stages current)
rows_more s stages current b more rows same is =
    ap (λ (l : List Row). let x : StoredTable = record { schema = s; rows = staged s.cols stages ++ l } in x) (ap (λ (x : Building). x.rows) is ∙ ap (λ (l : List Row). l ++ rows) same)
    ∙ ap (λ (l : List Row). let x : StoredTable = record { schema = s; rows = l } in x) (sym (append_assoc (staged s.cols stages) (begun_rows current) rows))

pub waits_more : (s : Schema) (stages : List Building) (current : Option Building) (b more : Building) (rows : List Row) → IsWaiting s stages current → IsBegun s b → b.rows ≡ begun_rows current → more ≡ record b { rows = b.rows ++ rows } → All (IsRowOf s) rows → IsWaiting s stages (Some more)
waits_more s stages current b more rows is begun same made fit = record {
  waits = subst Waits (sym (rows_more s stages current b more rows same made)) (record { schema = is.waits.schema; fit = each_append (IsRowOf s) (staged s.cols stages ++ begun_rows current) rows is.waits.fit (recursion_from_All (IsRowOf s) rows fit) });
  each = is.each;
  begun = subst (IsBegun s) (sym made) (record { kinds = begun.kinds; time_col = begun.time_col; whole = begun.whole });
}

-- ---- a column more

stage_wider : (s : Schema) (c : Col) (b : Building) → IsStage s b → IsStage (with_column c s) b
stage_wider s c b is =
    let n = length b.kinds in
    let few : n ≤ length (kinds_in s.cols) = omega (arith, ap length is.kinds, length-take n (kinds_in s.cols)) in
    let grown = length_push s.cols c in
    record {
      kinds = ap (take n) (map-append (λ (d : Col). d.kind) s.cols (c ∷ [])) ∙ take-append-le n (kinds_in s.cols) (c.kind ∷ []) few ∙ is.kinds;
      time_col = is.time_col;
      whole = is.whole;
      narrow = each_then (λ (r : Row). length r ≤ length s.cols) (λ (r : Row). length r ≤ length (s.cols ++ c ∷ [])) (λ r le. omega (arith, le, grown)) b.rows is.narrow;
    }

stages_wider : (s : Schema) (c : Col) (stages : List Building) → AllByRecursion (IsStage s) stages → AllByRecursion (IsStage (with_column c s)) stages
stages_wider s c stages h = each_then (IsStage s) (IsStage (with_column c s)) (stage_wider s c) stages h

staged_wider : (s : Schema) (c : Col) (stages : List Building) → AllByRecursion (IsStage s) stages → staged (s.cols ++ c ∷ []) stages ≡ map (λ (r : Row). r ++ missing c.kind ∷ []) (staged s.cols stages)
staged_wider s c [] h = refl
staged_wider s c (b ∷ stages) h =
    ap₂ (λ (a l : List Row). a ++ l) (wide_one s.cols c b.rows h.0.narrow) (staged_wider s c stages h.1)
    ∙ sym (map-append (λ (r : Row). r ++ missing c.kind ∷ []) (map (wide s.cols) b.rows) (staged s.cols stages))

pub none_wider : (s : Schema) (c : Col) (stages : List Building) → IsWaiting s stages None → waiting (with_column c s) stages None ≡ widened c (waiting s stages None)
none_wider s c stages is =
    ap (λ (l : List Row). let x : StoredTable = record { schema = with_column c s; rows = l } in x)
    (append-nil (staged (s.cols ++ c ∷ []) stages)
    ∙ staged_wider s c stages is.each
    ∙ ap (map (λ (r : Row). r ++ missing c.kind ∷ [])) (sym (append-nil (staged s.cols stages))))

pub waits_wider : (s : Schema) (c : Col) (stages : List Building) → IsWaiting s stages None → IsSchema (with_column c s) → IsWaiting (with_column c s) stages None
waits_wider s c stages is schema = record {
  waits = subst Waits (sym (none_wider s c stages is)) (record {
    schema = schema;
    fit = each_map (IsRowOf (with_column c s)) (λ (r : Row). r ++ missing c.kind ∷ []) (staged s.cols stages ++ []) (each_then (IsRowOf s) (λ (r : Row). IsRowOf (with_column c s) (r ++ missing c.kind ∷ [])) (row_longer s c) (staged s.cols stages ++ []) is.waits.fit);
  });
  each = stages_wider s c stages is.each;
  begun = tt;
}

-- rows set aside before a column comes
aside_rows : (s : Schema) (stages : List Building) (b : Building) → IsWaiting s stages (Some b) → waiting s (stages ++ b ∷ []) None ≡ waiting s stages (Some b)
aside_rows s stages b is =
    let full = lengths s b.rows (each_back (IsRowOf s) (staged s.cols stages) b.rows is.waits.fit) in
    ap (λ (l : List Row). let x : StoredTable = record { schema = s; rows = l } in x)
    (append-nil (staged s.cols (stages ++ b ∷ []))
    ∙ flat_map-append (λ (x : Building). map (wide s.cols) x.rows) stages (b ∷ [])
    ∙ ap (λ (l : List Row). staged s.cols stages ++ l) (append-nil (map (wide s.cols) b.rows) ∙ wide_same s.cols b.rows full))

pub waits_aside : (s : Schema) (stages : List Building) (current : Option Building) (b : Building) → IsWaiting s stages current → current ≡ Some b → IsWaiting s (stages ++ b ∷ []) None × (waiting s (stages ++ b ∷ []) None ≡ waiting s stages current)
waits_aside s stages current b is same =
    let here : IsWaiting s stages (Some b) = subst (IsWaiting s stages) same is in
    let rows = aside_rows s stages b here in
    let full = lengths s b.rows (each_back (IsRowOf s) (staged s.cols stages) b.rows here.waits.fit) in (
      record {
        waits = subst Waits (sym rows) here.waits;
        each = each_append (IsStage s) stages (b ∷ []) here.each (
          record {
            kinds = ap (λ (n : ℕ). take n (kinds_in s.cols)) (ap length here.begun.kinds) ∙ Rattle.std.proofs.lemmas.List.take_all (length (kinds_in s.cols)) (kinds_in s.cols) (omega arith) ∙ sym here.begun.kinds;
            time_col = here.begun.time_col;
            whole = here.begun.whole;
            narrow = each_then (λ (r : Row). length s.cols ≡ length r) (λ (r : Row). length r ≤ length s.cols) (λ r e. omega (arith, e)) b.rows full;
          },
          tt,
        );
        begun = tt;
      },
      rows ∙ ap (waiting s stages) (sym same),
    )

-- ---- a table that is widened

pub widen_some : (s : Schema) (stages stages' : List Building) (current current' : Option Building) (b : Building) (c : Col) (cols : List Col) → IsWaiting s stages current → current ≡ Some b → stages' ≡ stages ++ b ∷ [] → current' ≡ None → cols ≡ s.cols ++ c ∷ [] → IsSchema (with_column c s)
    → IsWaiting (record s { cols = cols }) stages' current' × (waiting (record s { cols = cols }) stages' current' ≡ widened c (waiting s stages current))
widen_some s stages stages' current current' b c cols is same aside none more schema =
    let kept = waits_aside s stages current b is same in
    let all : List Building = stages ++ b ∷ [] in (
      subst (λ (o : Option Building). IsWaiting (record s { cols = cols }) stages' o) (sym none)
          (subst (λ (l : List Building). IsWaiting (record s { cols = cols }) l None) (sym aside)
          (subst (λ (cs : List Col). IsWaiting (record s { cols = cs }) all None) (sym more) (waits_wider s c all kept.0 schema))),
      ap (waiting (record s { cols = cols }) stages') none
          ∙ ap (λ (l : List Building). waiting (record s { cols = cols }) l None) aside
          ∙ ap (λ (cs : List Col). waiting (record s { cols = cs }) all None) more
          ∙ none_wider s c all kept.0
          ∙ ap (widened c) kept.1,
    )

pub widen_none : (s : Schema) (stages : List Building) (current current' : Option Building) (c : Col) (cols : List Col) → IsWaiting s stages current → current ≡ None → current' ≡ None → cols ≡ s.cols ++ c ∷ [] → IsSchema (with_column c s)
    → IsWaiting (record s { cols = cols }) stages current' × (waiting (record s { cols = cols }) stages current' ≡ widened c (waiting s stages current))
widen_none s stages current current' c cols is same none more schema =
    let kept : IsWaiting s stages None = subst (IsWaiting s stages) same is in (
      subst (λ (o : Option Building). IsWaiting (record s { cols = cols }) stages o) (sym none) (subst (λ (cs : List Col). IsWaiting (record s { cols = cs }) stages None) (sym more) (waits_wider s c stages kept schema)),
      ap (waiting (record s { cols = cols }) stages) none
          ∙ ap (λ (cs : List Col). waiting (record s { cols = cs }) stages None) more
          ∙ none_wider s c stages kept
          ∙ ap (λ (o : Option Building). widened c (waiting s stages o)) (sym same),
    )

pub waits_kept : (s : Schema) (stages stages' : List Building) (current current' : Option Building) (b : Building) (cols : List Col) → IsWaiting s stages current → current ≡ Some b → stages' ≡ stages ++ b ∷ [] → current' ≡ None → cols ≡ s.cols → IsWaiting (record s { cols = cols }) stages' current'
waits_kept s stages stages' current current' b cols is same aside none still =
    subst (λ (o : Option Building). IsWaiting (record s { cols = cols }) stages' o) (sym none)
    (subst (λ (l : List Building). IsWaiting (record s { cols = cols }) l None) (sym aside)
    (subst (λ (cs : List Col). IsWaiting (record s { cols = cs }) (stages ++ b ∷ []) None) (sym still) (waits_aside s stages current b is same).0))

pub sound_here : (s s' : Schema) (c c' : Col) → s ≡ s' → c ≡ c' → IsSchema (with_column c' s') → IsSchema (with_column c s)
sound_here s s' c c' same is sound = subst (λ (x : Schema). IsSchema (with_column c x)) (sym same) (subst (λ (k : Col). IsSchema (with_column k s')) (sym is) sound)

-- ---- a table whose keys are set

pub waits_rekeyed : (s : Schema) (keys : List ℕ) (stages : List Building) (current : Option Building) → IsWaiting s stages current → IsSchema (with_keys keys s) → IsWaiting (with_keys keys s) stages current
waits_rekeyed s keys stages current is schema = record {
  waits = record {
    schema = schema;
    fit = each_then (IsRowOf s) (IsRowOf (with_keys keys s)) (λ r h. record { kinds = h.kinds; timed = h.timed }) (staged s.cols stages ++ begun_rows current) is.waits.fit;
  };
  each = each_then (IsStage s) (IsStage (with_keys keys s)) (λ b h. record { kinds = h.kinds; time_col = h.time_col; whole = h.whole; narrow = h.narrow }) stages is.each;
  begun = begun current is.begun;
}
  where
    begun : (o : Option Building) → IfSome o (IsBegun s) → IfSome o (IsBegun (with_keys keys s))
    begun None h = tt
    begun (Some b) h = record { kinds = h.kinds; time_col = h.time_col; whole = h.whole }
