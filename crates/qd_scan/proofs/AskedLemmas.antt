-- What was asked for, call by call.
use Rattle.std.proofs.Common.{◌≡◌, ℕ, zero, suc, ◌<◌, ◌≤◌, max, List, [], ◌∷◌, ◌++◌, Option, Some, None, All, length, get_or, refl, sym, ap, ◌∙◌, arith, subst, append_assoc, append-nil}
use Rattle.std.proofs.lemmas.List.Elements.{All-append}
use Rattle.qd_base.specs.declared.part.Part.{Part}
use Rattle.qd_manifest.specs.Spelling.{no_part}
use Rattle.qd_scan.specs.Asked.{with_asked, AskedOnly, IsPartBetween, Overlaps, PartAt}
use Rattle.qd_scan.specs.Scans.{AreApart}
use Rattle.qd_scan.specs.Sources.{SourceView, part_at, parts_at}

none_asked : (P : PartAt → Type 0) → All P []
none_asked P k d low = absurd (omega arith)

one_asked : (P : PartAt → Type 0) (a : PartAt) → P a → All P (a ∷ [])
one_asked P a is zero d low = is
one_asked P a is (suc k) d low = absurd (omega arith)

-- nothing is asked for where nothing is called
pub asked_nothing : (P : PartAt → Type 0) (a : Option (List PartAt)) → AskedOnly P a a
asked_nothing P None = refl
asked_nothing P (Some past) = ([], ap Some (sym (append-nil past)), none_asked P)

-- one call after others
pub asked_then : (P : PartAt → Type 0) (a b c : Option (List PartAt)) → AskedOnly P a b → AskedOnly P b c → AskedOnly P a c
asked_then P None b c one two = subst (λ o. AskedOnly P o c) one two
asked_then P (Some past) b c one two =
    let later : AskedOnly P (Some (past ++ one.0)) c = subst (λ o. AskedOnly P o c) one.1 two in
    (one.0 ++ later.0, later.1 ∙ ap Some (append_assoc past one.0 later.0), All-append P one.0 later.0 one.2 later.2)

-- a part that was asked for
pub asked_one : (P : PartAt → Type 0) (table i : ℕ) (a b : Option (List PartAt)) → b ≡ with_asked table i a → P (record { table = table; i = i }) → AskedOnly P a b
asked_one P table i None b is holds = is
asked_one P table i (Some past) b is holds = (record { table = table; i = i } ∷ [], is, one_asked P (record { table = table; i = i }) holds)

-- of a wider kind
pub asked_wider : (P Q : PartAt → Type 0) (a b : Option (List PartAt)) → ((x : PartAt) → P x → Q x) → AskedOnly P a b → AskedOnly Q a b
asked_wider P Q None b wider h = h
asked_wider P Q (Some past) b wider h = (h.0, h.1, λ k d low. wider (get_or h.0 k d) (h.2 k d low))

-- a part that ends at a moment or behind it, and begins at a later one or before it
pub overlapping : (p : Part) (lo hi : ℕ) → lo ≤ hi → p.lo ≤ p.hi → lo ≤ p.hi → p.lo ≤ hi → Overlaps lo hi p
overlapping p lo hi some part late early = (max lo p.lo, omega arith, omega arith, omega arith, omega arith)

-- a part between the first that doesn't end before the interval and the first that begins behind it
pub is_between_parts : (s : SourceView) (table lo hi first last i : ℕ) (lent : List Part) → lent ≡ parts_at s table → AreApart lent → lo ≤ hi → last ≤ length lent
    → ((k : ℕ) → first ≤ k → k < length lent → lo ≤ (get_or lent k no_part).hi) → ((k : ℕ) → k < last → (get_or lent k no_part).lo ≤ hi)
    → first ≤ i → i < last → IsPartBetween s table lo hi (record { table = table; i = i })
is_between_parts s table lo hi first last i lent same apart some within behind before from below =
    subst (λ (ps : List Part). (i < length ps) → Overlaps lo hi (get_or ps i no_part) → IsPartBetween s table lo hi (record { table = table; i = i })) (sym same)
    (λ there over. record { of_table = refl; there = there; overlaps = over })
    (omega arith)
    (overlapping (get_or lent i no_part) lo hi some (apart.each i no_part (omega arith)) (behind i from (omega arith)) (before i below))
