-- Parts: what is read is spelled so, and what is spelled so is read.
use Rattle.std.proofs.Common.{◌≡◌, ℕ, suc, ◌+◌, ◌-◌, ◌^◌, ◌<◌, ◌≤◌, Bool, true, false, ltb, leb, eqb, not, ◌&&◌, ◌||◌, nat_eq, List, [], ◌∷◌, ◌++◌, length, get_or, Ok, All, refl, sym, ap, subst, ◌∙◌, inl, inr, ◌⊎◌, append_assoc, append-nil, arith}
use Rattle.std.specs.List.{flat_map, IsDistinct, list_any}
use Rattle.std.specs.Int.{w16, w64}
use Rattle.std.proofs.lemmas.Bool.{cases_lt, and_parts, and_from, or_cases, or_left, or_right, not-true, not_from_false, leb-true, le-leb, ltb-true, lt-ltb, eqb-true, eq-eqb, cond-false}
use Rattle.std.proofs.lemmas.List.{length-append, length_push, get_or_at, get_or_append_left, get_or_push, map_push, map-append}
use Rattle.std.proofs.lemmas.List.Elements.{All-push, All-nil}
use Rattle.std.proofs.lemmas.List.Sums.{sum_by-append, sum_by-cons, sum_by_push}
use Rattle.indexmap.specs.IndexSet.{insert_key}
use Rattle.qd_base.specs.declared.limits.TheConstants.{MAX_COLUMNS, MAX_TIME}
use Rattle.qd_base.specs.declared.part.Part.{Part}
use Rattle.qd_base.specs.declared.schema.Schema.{Schema}
use Rattle.qd_base.proofs.Lists.{IsDistinct-push}
use Rattle.qd_time.specs.Units.{unit_of, start_of}
use Rattle.qd_fields.specs.Spelling.{u16_bytes, u64_bytes}
use Rattle.qd_fields.specs.Layout.{Read, ◌>>=◌, kept, items, number_at}
use Rattle.qd_fields.specs.Reading.{Fails}
use Rattle.qd_manifest.specs.Spelling.{no_part, IsPart, blocks_in, part_bytes, rows_shown}
use Rattle.qd_manifest.specs.Rules.{may_be_block, may_be_one, may_be_rows, may_be_width, may_begin, may_end}
use Rattle.qd_manifest.specs.Layout.{part_from, part_in, parts_from}
use Rattle.qd_fields.specs.declared.stop.Stop.{Stop}
use Rattle.qd_fields.proofs.Steps.{AreBytes, bind_ok, bind_again, ok_is, kept_ok, kept_again, Takes, Takes-then, wide16, wide64, number_takes, number_again, items_take, items_again, All-amid}
use Rattle.qd_manifest.proofs.NameLemmas.{distinct_before, absent_each, each_absent}

-- parts stand apart
abbrev pub Apart : List Part → Type 0
Apart parts = (i : ℕ) → i + 1 < length parts → (get_or parts i no_part).hi < (get_or parts (i + 1) no_part).lo

-- the next part may follow
abbrev pub Behind : List Part → ℕ → Type 0
Behind before lo = (length before ≡ 0) ⊎ ((get_or before (length before - 1) no_part).hi < lo)

apart-push : (before : List Part) (p : Part) → Apart before → Behind before p.lo → Apart (before ++ p ∷ [])
apart-push before p h behind i lt =
    let size = length_push before p in
    elim (cases_lt (i + 1) (length before)) [
      | inl within ↦
          (let left = get_or_append_left before (p ∷ []) no_part i (omega arith) in
          let right = get_or_append_left before (p ∷ []) no_part (i + 1) within in
          let here = h i within in
          omega (arith, ap (λ (q : Part). q.hi) left, ap (λ (q : Part). q.lo) right))
      | inr past ↦
          (let place : length before ≡ i + 1 = omega arith in
          let left = get_or_append_left before (p ∷ []) no_part i (omega arith) in
          let right = get_or_push before p no_part (i + 1) place in
          let last : length before - 1 ≡ i = omega arith in
          elim behind [
            | inl none ↦ absurd (omega arith)
            | inr less ↦
                (let there : (get_or before i no_part).hi < p.lo = subst (λ (n : ℕ). (get_or before n no_part).hi < p.lo) last less in
                omega (arith, ap (λ (q : Part). q.hi) left, ap (λ (q : Part). q.lo) right))
          ])
    ]

behind_amid : (all before : List Part) (p : Part) (after : List Part) → all ≡ before ++ p ∷ after → Apart all → Behind before p.lo
behind_amid all [] p after e h = inl refl
behind_amid all (q ∷ qs) p after e h =
    let before = q ∷ qs in
    let n = length qs in
    let size : length all ≡ suc n + suc (length after) = ap length e ∙ length-append before (p ∷ after) in
    let left : get_or all n no_part ≡ get_or before n no_part = ap (λ l. get_or l n no_part) e ∙ get_or_append_left before (p ∷ after) no_part n (omega arith) in
    let right : get_or all (n + 1) no_part ≡ p = ap (λ l. get_or l (n + 1) no_part) e ∙ get_or_at before p after no_part (n + 1) (omega arith) in
    let here = h n (omega (arith, size)) in
    let last : n ≡ suc n - 1 = omega arith in
    inr (subst (λ (m : ℕ). (get_or before m no_part).hi < p.lo) last (omega (arith, here, ap (λ (r : Part). r.hi) left, ap (λ (r : Part). r.lo) right)))

begins : (before : List Part) (lo : ℕ) → may_begin before lo ≡ true → (lo ≤ MAX_TIME) × Behind before lo
begins before lo e =
    let last = ltb (get_or before (length before - 1) no_part).hi lo in
    let a = and_parts (leb lo MAX_TIME) (eqb (length before) 0 || last) e in (
      leb-true lo MAX_TIME a.0,
      elim (or_cases (eqb (length before) 0) last a.1) [
        | inl none ↦ inl (eqb-true (length before) 0 none)
        | inr less ↦ inr (ltb-true (get_or before (length before - 1) no_part).hi lo less)
      ],
    )

begins_test : (before : List Part) (lo : ℕ) → lo ≤ MAX_TIME → Behind before lo → may_begin before lo ≡ true
begins_test before lo le behind =
    let last = ltb (get_or before (length before - 1) no_part).hi lo in
    and_from (leb lo MAX_TIME) (eqb (length before) 0 || last) (le-leb lo MAX_TIME le) (elim behind [
      | inl none ↦ or_left (eqb (length before) 0) last (eq-eqb (length before) 0 none)
      | inr less ↦ or_right (eqb (length before) 0) last (lt-ltb (get_or before (length before - 1) no_part).hi lo less)
    ])

-- parts that are read, behind blocks that are named
pub record AreNext (most next : ℕ) (named : List ℕ) (s : Schema) (parts : List Part) : Type 0 where
  pub each : All (IsPart s) parts
  pub apart : Apart parts
  pub below : All (λ b. b < next) (blocks_in parts)
  pub distinct : IsDistinct nat_eq (named ++ blocks_in parts)
  pub rows : rows_shown parts ≤ most

-- where one row has one time
one_test : (rows lo hi : ℕ) → (rows ≡ 1 → lo ≡ hi) → may_be_one rows lo hi ≡ true
one_test rows lo hi one = by (eqb rows 1) refl
  where
    by : (b : Bool) → eqb rows 1 ≡ b → (not b || eqb lo hi) ≡ true
    by false e = refl
    by true e = eq-eqb lo hi (one (eqb-true rows 1 e))

one_told : (rows lo hi : ℕ) → may_be_one rows lo hi ≡ true → rows ≡ 1 → lo ≡ hi
one_told rows lo hi e one = eqb-true lo hi (by (eqb rows 1) (eq-eqb rows 1 one) e)
  where
    by : (b : Bool) → b ≡ true → (not b || eqb lo hi) ≡ true → eqb lo hi ≡ true
    by true is e = e
    by false is e = cc

-- one more part, by the rules of its fields
more_parts : (most next : ℕ) (named : List ℕ) (s : Schema) (before : List Part) (p : Part) → AreNext most next named s before → p.rows < 2 ^ 64
    → may_be_block next (named ++ blocks_in before) p.block ≡ true → may_be_rows most before p.rows ≡ true → may_be_width s p.cols ≡ true → may_begin before p.lo ≡ true
    → may_end s.unit p.rows p.lo p.hi ≡ true → AreNext most next named s (before ++ p ∷ [])
more_parts most next named s before p good fits block rows cols lo hi =
    let others = named ++ blocks_in before in
    let r0 = and_parts (ltb p.block next) (not (list_any (nat_eq p.block) others)) block in
    let r1 = and_parts (leb 1 p.rows) (leb (rows_shown before + p.rows) most) rows in
    let r2 = and_parts (ltb s.time_col p.cols) (leb p.cols (length s.cols)) cols in
    let r3 = begins before p.lo lo in
    let same = eqb (start_of (unit_of s.unit) p.lo) (start_of (unit_of s.unit) p.hi) in
    let r4 = and_parts (leb p.lo p.hi) (leb p.hi MAX_TIME && (same && may_be_one p.rows p.lo p.hi)) hi in
    let r5 = and_parts (leb p.hi MAX_TIME) (same && may_be_one p.rows p.lo p.hi) r4.1 in
    let r6 = and_parts same (may_be_one p.rows p.lo p.hi) r5.1 in
    let is : IsPart s p = record {
      some = leb-true 1 p.rows r1.0;
      few = fits;
      timed = ltb-true s.time_col p.cols r2.0;
      columns = leb-true p.cols (length s.cols) r2.1;
      in_order = leb-true p.lo p.hi r4.0;
      timely = leb-true p.hi MAX_TIME r5.0;
      together = eqb-true (start_of (unit_of s.unit) p.lo) (start_of (unit_of s.unit) p.hi) r6.0;
      one_time = one_told p.rows p.lo p.hi r6.1;
    } in
    let pushed : blocks_in (before ++ p ∷ []) ≡ blocks_in before ++ p.block ∷ [] = map_push (λ (q : Part). q.block) before p in
    let named_more : named ++ blocks_in (before ++ p ∷ []) ≡ others ++ p.block ∷ [] = ap (λ l. named ++ l) pushed ∙ sym (append_assoc named (blocks_in before) (p.block ∷ [])) in
    record {
      each = All-push (IsPart s) before p good.each is;
      apart = apart-push before p good.apart r3.1;
      below = subst (All (λ n. n < next)) (sym pushed) (All-push (λ n. n < next) (blocks_in before) p.block good.below (ltb-true p.block next r0.0));
      distinct = subst (IsDistinct nat_eq) (sym named_more) (IsDistinct-push nat_eq others p.block good.distinct (absent_each p.block others (not-true (list_any (nat_eq p.block) others) r0.1)));
      rows = subst (λ (k : ℕ). k ≤ most) (sym (sum_by_push (λ (q : Part). q.rows) before p)) (leb-true (rows_shown before + p.rows) most r1.1);
    }

part_takes : (most next : ℕ) (named : List ℕ) (s : Schema) (before : List Part) (bytes : List ℕ) (x : Part × List ℕ) → AreNext most next named s before → AreBytes bytes → part_in most next named s before bytes ≡ Ok x → AreNext most next named s (before ++ x.0 ∷ []) × Takes bytes (part_bytes x.0) x.1
unfolding part_from part_bytes
part_takes most next named s before bytes x good known e =
    let others = named ++ blocks_in before in
    let a = bind_ok (kept (may_be_block next others) bytes (number_at w64 bytes)) (λ block. kept (may_be_rows most before) block.1 (number_at w64 block.1) >>= λ rows. kept (may_be_width s) rows.1 (number_at w16 rows.1) >>= λ cols. kept (may_begin before) cols.1 (number_at w64 cols.1) >>= λ lo. kept (may_end s.unit rows.0 lo.0) lo.1 (number_at w64 lo.1) >>= λ hi. Ok (record { block = block.0; rows = rows.0; cols = cols.0; lo = lo.0; hi = hi.0 }, hi.1)) x e in
    let block = a.0 in
    let b = bind_ok (kept (may_be_rows most before) block.1 (number_at w64 block.1)) (λ rows. kept (may_be_width s) rows.1 (number_at w16 rows.1) >>= λ cols. kept (may_begin before) cols.1 (number_at w64 cols.1) >>= λ lo. kept (may_end s.unit rows.0 lo.0) lo.1 (number_at w64 lo.1) >>= λ hi. Ok (record { block = block.0; rows = rows.0; cols = cols.0; lo = lo.0; hi = hi.0 }, hi.1)) x a.2 in
    let rows = b.0 in
    let c = bind_ok (kept (may_be_width s) rows.1 (number_at w16 rows.1)) (λ cols. kept (may_begin before) cols.1 (number_at w64 cols.1) >>= λ lo. kept (may_end s.unit rows.0 lo.0) lo.1 (number_at w64 lo.1) >>= λ hi. Ok (record { block = block.0; rows = rows.0; cols = cols.0; lo = lo.0; hi = hi.0 }, hi.1)) x b.2 in
    let cols = c.0 in
    let d = bind_ok (kept (may_begin before) cols.1 (number_at w64 cols.1)) (λ lo. kept (may_end s.unit rows.0 lo.0) lo.1 (number_at w64 lo.1) >>= λ hi. Ok (record { block = block.0; rows = rows.0; cols = cols.0; lo = lo.0; hi = hi.0 }, hi.1)) x c.2 in
    let lo = d.0 in
    let f = bind_ok (kept (may_end s.unit rows.0 lo.0) lo.1 (number_at w64 lo.1)) (λ hi. Ok (record { block = block.0; rows = rows.0; cols = cols.0; lo = lo.0; hi = hi.0 }, hi.1)) x d.2 in
    let hi = f.0 in
    let k0 = kept_ok (may_be_block next others) bytes (number_at w64 bytes) block a.1 in
    let k1 = kept_ok (may_be_rows most before) block.1 (number_at w64 block.1) rows b.1 in
    let k2 = kept_ok (may_be_width s) rows.1 (number_at w16 rows.1) cols c.1 in
    let k3 = kept_ok (may_begin before) cols.1 (number_at w64 cols.1) lo d.1 in
    let k4 = kept_ok (may_end s.unit rows.0 lo.0) lo.1 (number_at w64 lo.1) hi f.1 in
    let t0 = number_takes w64 (2 ^ 64) wide64 bytes block.0 block.1 known k0.0 in
    let t1 = number_takes w64 (2 ^ 64) wide64 block.1 rows.0 rows.1 t0.0.rest_fits k1.0 in
    let t2 = number_takes w16 (2 ^ 16) wide16 rows.1 cols.0 cols.1 t1.0.rest_fits k2.0 in
    let t3 = number_takes w64 (2 ^ 64) wide64 cols.1 lo.0 lo.1 t2.0.rest_fits k3.0 in
    let t4 = number_takes w64 (2 ^ 64) wide64 lo.1 hi.0 hi.1 t3.0.rest_fits k4.0 in
    let e34 = Takes-then cols.1 (u64_bytes lo.0) lo.1 (u64_bytes hi.0) hi.1 t3.0 t4.0 in
    let e24 = Takes-then rows.1 (u16_bytes cols.0) cols.1 (u64_bytes lo.0 ++ u64_bytes hi.0) hi.1 t2.0 e34 in
    let e14 = Takes-then block.1 (u64_bytes rows.0) rows.1 (u16_bytes cols.0 ++ (u64_bytes lo.0 ++ u64_bytes hi.0)) hi.1 t1.0 e24 in
    let e04 = Takes-then bytes (u64_bytes block.0) block.1 (u64_bytes rows.0 ++ (u16_bytes cols.0 ++ (u64_bytes lo.0 ++ u64_bytes hi.0))) hi.1 t0.0 e14 in
    let p : Part = record { block = block.0; rows = rows.0; cols = cols.0; lo = lo.0; hi = hi.0 } in
    let more : AreNext most next named s (before ++ p ∷ []) = more_parts most next named s before p good t1.1 k0.1 k1.1 k2.1 k3.1 k4.1 in
    subst (λ (y : Part × List ℕ). AreNext most next named s (before ++ y.0 ∷ []) × Takes bytes (u64_bytes y.0.block ++ (u64_bytes y.0.rows ++ (u16_bytes y.0.cols ++ (u64_bytes y.0.lo ++ u64_bytes y.0.hi)))) y.1) (ok_is (p, hi.1) x f.2) (more, e04)

part_again : (most next : ℕ) (named : List ℕ) (s : Schema) (all before : List Part) (p : Part) (after : List Part) (rest : List ℕ) → next < 2 ^ 64 → length s.cols ≤ MAX_COLUMNS → AreNext most next named s all → all ≡ before ++ p ∷ after → part_in most next named s before (part_bytes p ++ rest) ≡ Ok (p, rest)
unfolding part_from part_bytes
part_again most next named s all before p after rest fits few good e =
    let others = named ++ blocks_in before in
    let is : IsPart s p = All-amid (IsPart s) all before p after e good.each in
    let split : blocks_in all ≡ blocks_in before ++ p.block ∷ blocks_in after = ap blocks_in e ∙ map-append (λ (q : Part). q.block) before (p ∷ after) in
    let named_split : named ++ blocks_in all ≡ others ++ p.block ∷ blocks_in after = ap (λ l. named ++ l) split ∙ sym (append_assoc named (blocks_in before) (p.block ∷ blocks_in after)) in
    let below : p.block < next = All-amid (λ n. n < next) (blocks_in all) (blocks_in before) p.block (blocks_in after) split good.below in
    let apart = each_absent p.block others (distinct_before nat_eq others p.block (blocks_in after) (subst (IsDistinct nat_eq) named_split good.distinct)) in
    let rule0 : may_be_block next others p.block ≡ true = and_from (ltb p.block next) (not (list_any (nat_eq p.block) others)) (lt-ltb p.block next below) (not_from_false (list_any (nat_eq p.block) others) apart) in
    let all_rows : rows_shown all ≡ rows_shown before + (p.rows + rows_shown after) =
    ap rows_shown e ∙ sum_by-append (λ (q : Part). q.rows) before (p ∷ after) ∙ ap (λ (k : ℕ). rows_shown before + k) (sum_by-cons (λ (q : Part). q.rows) p after) in
    let most_rows : rows_shown all ≤ most = good.rows in
    let rule1 : may_be_rows most before p.rows ≡ true = and_from (leb 1 p.rows) (leb (rows_shown before + p.rows) most) (le-leb 1 p.rows is.some) (le-leb (rows_shown before + p.rows) most (omega (arith, all_rows, most_rows))) in
    let rule2 : may_be_width s p.cols ≡ true = and_from (ltb s.time_col p.cols) (leb p.cols (length s.cols)) (lt-ltb s.time_col p.cols is.timed) (le-leb p.cols (length s.cols) is.columns) in
    let timely : p.hi ≤ MAX_TIME = is.timely in
    let soon : p.hi ≤ 253402300799999999 = timely in
    let narrow : length s.cols ≤ 256 = few in
    let in_order : p.lo ≤ p.hi = is.in_order in
    let columns : p.cols ≤ length s.cols = is.columns in
    let rule3 : may_begin before p.lo ≡ true = begins_test before p.lo (omega (arith, in_order, timely)) (behind_amid all before p after e good.apart) in
    let same = eqb (start_of (unit_of s.unit) p.lo) (start_of (unit_of s.unit) p.hi) in
    let one = may_be_one p.rows p.lo p.hi in
    let shared : (same && one) ≡ true = and_from same one (eq-eqb (start_of (unit_of s.unit) p.lo) (start_of (unit_of s.unit) p.hi) is.together) (one_test p.rows p.lo p.hi is.one_time) in
    let rule4 : may_end s.unit p.rows p.lo p.hi ≡ true = and_from (leb p.lo p.hi) (leb p.hi MAX_TIME && (same && one)) (le-leb p.lo p.hi in_order) (and_from (leb p.hi MAX_TIME) (same && one) (le-leb p.hi MAX_TIME timely) shared) in
    let r4 = u64_bytes p.hi ++ rest in
    let r3 = u64_bytes p.lo ++ r4 in
    let r2 = u16_bytes p.cols ++ r3 in
    let r1 = u64_bytes p.rows ++ r2 in
    let r0 = u64_bytes p.block ++ r1 in
    let g3 : (u64_bytes p.lo ++ u64_bytes p.hi) ++ rest ≡ r3 = append_assoc (u64_bytes p.lo) (u64_bytes p.hi) rest in
    let g2 : (u16_bytes p.cols ++ (u64_bytes p.lo ++ u64_bytes p.hi)) ++ rest ≡ r2 = append_assoc (u16_bytes p.cols) (u64_bytes p.lo ++ u64_bytes p.hi) rest ∙ ap (λ l. u16_bytes p.cols ++ l) g3 in
    let g1 : (u64_bytes p.rows ++ (u16_bytes p.cols ++ (u64_bytes p.lo ++ u64_bytes p.hi))) ++ rest ≡ r1 = append_assoc (u64_bytes p.rows) (u16_bytes p.cols ++ (u64_bytes p.lo ++ u64_bytes p.hi)) rest ∙ ap (λ l. u64_bytes p.rows ++ l) g2 in
    let g0 : (u64_bytes p.block ++ (u64_bytes p.rows ++ (u16_bytes p.cols ++ (u64_bytes p.lo ++ u64_bytes p.hi)))) ++ rest ≡ r0 = append_assoc (u64_bytes p.block) (u64_bytes p.rows ++ (u16_bytes p.cols ++ (u64_bytes p.lo ++ u64_bytes p.hi))) rest ∙ ap (λ l. u64_bytes p.block ++ l) g1 in
    let one : kept (may_be_block next others) r0 (number_at w64 r0) ≡ Ok (p.block, r1) = kept_again (may_be_block next others) r0 (number_at w64 r0) (p.block, r1) (number_again w64 (2 ^ 64) wide64 p.block r1 (omega arith)) rule0 in
    let two : kept (may_be_rows most before) r1 (number_at w64 r1) ≡ Ok (p.rows, r2) = kept_again (may_be_rows most before) r1 (number_at w64 r1) (p.rows, r2) (number_again w64 (2 ^ 64) wide64 p.rows r2 is.few) rule1 in
    let three : kept (may_be_width s) r2 (number_at w16 r2) ≡ Ok (p.cols, r3) = kept_again (may_be_width s) r2 (number_at w16 r2) (p.cols, r3) (number_again w16 (2 ^ 16) wide16 p.cols r3 (omega arith)) rule2 in
    let four : kept (may_begin before) r3 (number_at w64 r3) ≡ Ok (p.lo, r4) = kept_again (may_begin before) r3 (number_at w64 r3) (p.lo, r4) (number_again w64 (2 ^ 64) wide64 p.lo r4 (omega arith)) rule3 in
    let five : kept (may_end s.unit p.rows p.lo) r4 (number_at w64 r4) ≡ Ok (p.hi, rest) = kept_again (may_end s.unit p.rows p.lo) r4 (number_at w64 r4) (p.hi, rest) (number_again w64 (2 ^ 64) wide64 p.hi rest (omega arith)) rule4 in
    let step4 : ℕ × List ℕ → Read Part = λ lo. kept (may_end s.unit p.rows lo.0) lo.1 (number_at w64 lo.1) >>= λ hi. Ok (record { block = p.block; rows = p.rows; cols = p.cols; lo = lo.0; hi = hi.0 }, hi.1) in
    let step3 : ℕ × List ℕ → Read Part = λ cols. kept (may_begin before) cols.1 (number_at w64 cols.1) >>= λ lo. kept (may_end s.unit p.rows lo.0) lo.1 (number_at w64 lo.1) >>= λ hi. Ok (record { block = p.block; rows = p.rows; cols = cols.0; lo = lo.0; hi = hi.0 }, hi.1) in
    let step2 : ℕ × List ℕ → Read Part = λ rows. kept (may_be_width s) rows.1 (number_at w16 rows.1) >>= λ cols. kept (may_begin before) cols.1 (number_at w64 cols.1) >>= λ lo. kept (may_end s.unit rows.0 lo.0) lo.1 (number_at w64 lo.1) >>= λ hi. Ok (record { block = p.block; rows = rows.0; cols = cols.0; lo = lo.0; hi = hi.0 }, hi.1) in
    let step1 : ℕ × List ℕ → Read Part = λ block. kept (may_be_rows most before) block.1 (number_at w64 block.1) >>= λ rows. kept (may_be_width s) rows.1 (number_at w16 rows.1) >>= λ cols. kept (may_begin before) cols.1 (number_at w64 cols.1) >>= λ lo. kept (may_end s.unit rows.0 lo.0) lo.1 (number_at w64 lo.1) >>= λ hi. Ok (record { block = block.0; rows = rows.0; cols = cols.0; lo = lo.0; hi = hi.0 }, hi.1) in
    ap (part_in most next named s before) g0
    ∙ bind_again (kept (may_be_block next others) r0 (number_at w64 r0)) step1 (p.block, r1) (p, rest) one
    (bind_again (kept (may_be_rows most before) r1 (number_at w64 r1)) step2 (p.rows, r2) (p, rest) two
    (bind_again (kept (may_be_width s) r2 (number_at w16 r2)) step3 (p.cols, r3) (p, rest) three
    (bind_again (kept (may_begin before) r3 (number_at w64 r3)) step4 (p.lo, r4) (p, rest) four
    (bind_again (kept (may_end s.unit p.rows p.lo) r4 (number_at w64 r4)) (λ hi. Ok (record { block = p.block; rows = p.rows; cols = p.cols; lo = p.lo; hi = hi.0 }, hi.1)) (p.hi, rest) (p, rest) five refl))))

no_next : (most next : ℕ) (named : List ℕ) (s : Schema) → IsDistinct nat_eq named → AreNext most next named s []
no_next most next named s d = record { each = All-nil (IsPart s); apart = λ i lt. absurd (omega arith); below = All-nil (λ n. n < next); distinct = subst (IsDistinct nat_eq) (sym (append-nil named)) d; rows = omega arith }

pub parts_take : (most next : ℕ) (named : List ℕ) (s : Schema) (bytes : List ℕ) (x : List Part × List ℕ) → IsDistinct nat_eq named → AreBytes bytes → parts_from most next named s bytes ≡ Ok x → AreNext most next named s x.0 × (length x.0 < 2 ^ 64) × Takes bytes (u64_bytes (length x.0) ++ flat_map part_bytes x.0) x.1
unfolding parts_from
parts_take most next named s bytes x distinct known e =
    let a = bind_ok (number_at w64 bytes) (λ n. items (part_in most next named s) n.0 [] n.1) x e in
    let first = number_takes w64 (2 ^ 64) wide64 bytes a.0.0 a.0.1 known a.1 in
    let all = items_take (part_in most next named s) part_bytes (AreNext most next named s) (part_takes most next named s) a.0.0 a.0.1 x (no_next most next named s distinct) first.0.rest_fits a.2 in
    let both = Takes-then bytes (u64_bytes a.0.0) a.0.1 (flat_map part_bytes x.0) x.1 first.0 all.2 in
    (all.0, omega (arith, all.1, first.1), subst (λ (k : ℕ). Takes bytes (u64_bytes k ++ flat_map part_bytes x.0) x.1) (sym all.1) both)

pub parts_again : (most next : ℕ) (named : List ℕ) (s : Schema) (parts : List Part) (rest : List ℕ) → next < 2 ^ 64 → length s.cols ≤ MAX_COLUMNS → length parts < 2 ^ 64 → AreNext most next named s parts → parts_from most next named s (u64_bytes (length parts) ++ (flat_map part_bytes parts ++ rest)) ≡ Ok (parts, rest)
unfolding parts_from
parts_again most next named s parts rest fits few short good =
    let behind = flat_map part_bytes parts ++ rest in
    let one : number_at w64 (u64_bytes (length parts) ++ behind) ≡ Ok (length parts, behind) = number_again w64 (2 ^ 64) wide64 (length parts) behind short in
    let all = items_again (part_in most next named s) part_bytes parts (λ before p after more e. part_again most next named s parts before p after more fits few good e) rest in
    bind_again (number_at w64 (u64_bytes (length parts) ++ behind)) (λ n. items (part_in most next named s) n.0 [] n.1) (length parts, behind) (parts, rest) one all

-- ---- the loop over the parts of a table: the blocks that are taken are those named before and those of its parts

module _ (most next : ℕ) (taken named : List ℕ) (s : Schema) (before : List Part) (bytes : List ℕ) where
  pub part_in_given : (x : Part × List ℕ) → taken ≡ named ++ blocks_in before → part_from most next taken s before bytes ≡ Ok x → part_in most next named s before bytes ≡ Ok x
  part_in_given x same e = ap (λ l. part_from most next l s before bytes) (sym same) ∙ e

  pub part_in_fails : (stop : Stop) → taken ≡ named ++ blocks_in before → Fails stop (part_from most next taken s before bytes) → Fails stop (part_in most next named s before bytes)
  part_in_fails stop same e = subst (λ (l : List ℕ). Fails stop (part_from most next l s before bytes)) same e

  block_new : (x : Part × List ℕ) → part_from most next taken s before bytes ≡ Ok x → list_any (nat_eq x.0.block) taken ≡ false
  unfolding part_from
  block_new x e =
      let a = bind_ok (kept (may_be_block next taken) bytes (number_at w64 bytes)) (λ block. kept (may_be_rows most before) block.1 (number_at w64 block.1) >>= λ rows. kept (may_be_width s) rows.1 (number_at w16 rows.1) >>= λ cols. kept (may_begin before) cols.1 (number_at w64 cols.1) >>= λ lo. kept (may_end s.unit rows.0 lo.0) lo.1 (number_at w64 lo.1) >>= λ hi. Ok (record { block = block.0; rows = rows.0; cols = cols.0; lo = lo.0; hi = hi.0 }, hi.1)) x e in
      let block = a.0 in
      let b = bind_ok (kept (may_be_rows most before) block.1 (number_at w64 block.1)) (λ rows. kept (may_be_width s) rows.1 (number_at w16 rows.1) >>= λ cols. kept (may_begin before) cols.1 (number_at w64 cols.1) >>= λ lo. kept (may_end s.unit rows.0 lo.0) lo.1 (number_at w64 lo.1) >>= λ hi. Ok (record { block = block.0; rows = rows.0; cols = cols.0; lo = lo.0; hi = hi.0 }, hi.1)) x a.2 in
      let c = bind_ok (kept (may_be_width s) b.0.1 (number_at w16 b.0.1)) (λ cols. kept (may_begin before) cols.1 (number_at w64 cols.1) >>= λ lo. kept (may_end s.unit b.0.0 lo.0) lo.1 (number_at w64 lo.1) >>= λ hi. Ok (record { block = block.0; rows = b.0.0; cols = cols.0; lo = lo.0; hi = hi.0 }, hi.1)) x b.2 in
      let d = bind_ok (kept (may_begin before) c.0.1 (number_at w64 c.0.1)) (λ lo. kept (may_end s.unit b.0.0 lo.0) lo.1 (number_at w64 lo.1) >>= λ hi. Ok (record { block = block.0; rows = b.0.0; cols = c.0.0; lo = lo.0; hi = hi.0 }, hi.1)) x c.2 in
      let f = bind_ok (kept (may_end s.unit b.0.0 d.0.0) d.0.1 (number_at w64 d.0.1)) (λ hi. Ok (record { block = block.0; rows = b.0.0; cols = c.0.0; lo = d.0.0; hi = hi.0 }, hi.1)) x d.2 in
      let is : block.0 ≡ x.0.block = ap (λ (y : Part × List ℕ). y.0.block) (ok_is (record { block = block.0; rows = b.0.0; cols = c.0.0; lo = d.0.0; hi = f.0.0 }, f.0.1) x f.2) in
      let rule = and_parts (ltb block.0 next) (not (list_any (nat_eq block.0) taken)) (kept_ok (may_be_block next taken) bytes (number_at w64 bytes) block a.1).1 in
      ap (λ n. list_any (nat_eq n) taken) (sym is) ∙ not-true (list_any (nat_eq block.0) taken) rule.1

  -- the block of the part that is read is named then
  pub next_named : (x : Part × List ℕ) → taken ≡ named ++ blocks_in before → part_from most next taken s before bytes ≡ Ok x → insert_key nat_eq taken x.0.block ≡ named ++ blocks_in (before ++ x.0 ∷ [])
  next_named x same e =
      cond-false (list_any (nat_eq x.0.block) taken) taken (taken ++ x.0.block ∷ []) (block_new x e)
      ∙ ap (λ l. l ++ x.0.block ∷ []) same
      ∙ append_assoc named (blocks_in before) (x.0.block ∷ [])
      ∙ ap (λ l. named ++ l) (sym (map_push (λ (q : Part). q.block) before x.0))
