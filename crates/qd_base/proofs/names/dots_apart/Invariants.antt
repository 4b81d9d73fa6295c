use Rattle.std.proofs.Common.{◌≡◌, ◌≢◌, ℕ, ◌-◌, ◌<◌, true, false, get_or}
use Rattle.qd_base.proofs.names.dots_apart.Given as goal

-- each dot so far stands behind a byte that is none, and the flag says whether the last byte was one
abbrev pub invariant-loop-byte : goal.invariant-loop-byte
invariant-loop-byte l = record {
  dot : l.after_dot ≡ true → 0 < l.byte-index → get_or l.name (l.byte-index - 1) 0 ≡ 46;
  none : l.after_dot ≡ false → (0 < l.byte-index) × (get_or l.name (l.byte-index - 1) 0 ≢ 46);
  each : (k : ℕ) → k < l.byte-index → get_or l.name k 0 ≡ 46 → (0 < k) × (get_or l.name (k - 1) 0 ≢ 46);
}
