-- Which files a publication writes, where rows are put behind those of some blocks.
use Rattle.std.proofs.Common.{◌≡◌, inl, inr, ℕ, suc, ◌+◌, ◌^◌, ◌<◌, ◌≤◌, nat_eq, Bool, true, false, ◌||◌, List, [], ◌∷◌, map, All, Contains, refl, sym, ◌∙◌, arith, true≢false}
use Rattle.std.proofs.lemmas.Bool.{cases_order}
use Rattle.std.proofs.lemmas.Bool.Decides.{nat_tests}
use Rattle.qd_column_files.specs.Files.{column_file, is_file_of}
use Rattle.qd_sequencer.specs.Laws.{IsElsewhere}
use Rattle.qd_txnfile.specs.Versions.{is_version_file}
use Rattle.qd_versions.specs.Publishing.{is_file_among, is_file_from, is_published_file}
use Rattle.qd_versions.proofs.Files.{low_of, of_not_later, of_not_version}
use Rattle.qd_store.proofs.Sides.{Spares}

below_of : (b file : ℕ) → is_file_of b file ≡ true → file < column_file (b + 1) 0 0
below_of b file is = grind (arith, nat_tests)

not_from : (next file : ℕ) → file < column_file next 0 0 → is_file_from next file ≡ false
not_from next file low = grind (arith, nat_tests)

not_high : (next file : ℕ) → 2 ^ 63 ≤ file → is_file_from next file ≡ false
not_high next file high = grind (arith, nat_tests)

of_not_high : (b file : ℕ) → b < 2 ^ 52 → 2 ^ 63 ≤ file → is_file_of b file ≡ false
of_not_high b file small high = grind (arith, nat_tests)

pub no_version_high : (file : ℕ) → 2 ^ 63 ≤ file → (nat_eq file 2 || nat_eq file 3) ≡ false
no_version_high file high = grind (arith, nat_tests)

neither : (a b : Bool) → a ≡ false → b ≡ false → (a || b) ≡ false
neither false b f g = g
neither true b f g = cc

-- ---- files of blocks that grow

-- a block has files of its own
of_one : (b other file : ℕ) → is_file_of b file ≡ true → (other ≡ b → ⊥) → is_file_of other file ≡ false
of_one b other file is apart = elim (cases_order b other) [
  | inl same ↦ absurd (apart (sym same))
  | inr (inl less) ↦ of_not_later b other file less is
  | inr (inr more) ↦ by (is_file_of other file) refl more
]
  where
    by : (there : Bool) → is_file_of other file ≡ there → other < b → is_file_of other file ≡ false
    by false e less = e
    by true e less = absurd (true≢false (sym is ∙ of_not_later other b file less e))

among_none : (grown : List ℕ) (file : ℕ) → ((n : ℕ) → Contains grown n → is_file_of n file ≡ false) → is_file_among grown file ≡ false
among_none [] file none = refl
among_none (n ∷ ns) file none =
    neither (is_file_of n file) (is_file_among ns file) (none n (0, omega arith, refl))
    (among_none ns file (λ m there. let lt = there.1 in none m (suc there.0, omega (arith, lt), there.2)))

-- ---- what is spared

pub old_spared : (next : ℕ) (grown : List ℕ) (b : ℕ) → b < next → (Contains grown b → ⊥) → Spares (is_published_file next grown) b
old_spared next grown b low apart file is =
    neither (is_version_file file) (is_file_from next file || is_file_among grown file) (of_not_version b file is)
    (neither (is_file_from next file) (is_file_among grown file) (not_from next file (omega (arith, below_of b file is, low)))
    (among_none grown file (λ n there. of_one b n file is (λ same. apart (Rattle.std.proofs.Common.subst (Contains grown) same there)))))

pub publish_elsewhere : (next : ℕ) (grown : List ℕ) → ((n : ℕ) → Contains grown n → n < 2 ^ 52) → IsElsewhere (is_published_file next grown)
publish_elsewhere next grown small = record {
  log = neither (is_file_from next 1) (is_file_among grown 1) (not_from next 1 (omega arith)) (among_none grown 1 (λ n there. low_of n 1 (omega arith)));
  segments = λ file high.
      neither (is_version_file file) (is_file_from next file || is_file_among grown file) (no_version_high file high)
      (neither (is_file_from next file) (is_file_among grown file) (not_high next file high) (among_none grown file (λ n there. of_not_high n file (small n there) high)));
}

pub publish_zero : (next : ℕ) (grown : List ℕ) → is_published_file next grown 0 ≡ false
publish_zero next grown = neither (is_file_from next 0) (is_file_among grown 0) (not_from next 0 (omega arith)) (among_none grown 0 (λ n there. low_of n 0 (omega arith)))
