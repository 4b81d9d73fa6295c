use Rattle.std.proofs.Common.{◌≡◌, ◌⊎◌, inl, inr, ℕ, ◌+◌, ◌<◌, ◌∷◌, [], ◌++◌, nat_eq, not, true, List, length, get_or, filter, take, All, Contains, sym, ap, ◌∙◌, subst, arith, eq-eqb, true≢false}
use Rattle.std.proofs.lemmas.Bool.{not-true}
use Rattle.std.proofs.lemmas.List.{get_or-map, length-map, take_all, take_more}
use Rattle.std.proofs.lemmas.List.Elements.{All-contains_itself, All-filter, All-weaker, Contains-push_cases, filter_passes}
use Rattle.qd_versions.specs.declared.growing.Growing.{Growing}
use Rattle.qd_versions.specs.declared.keeping.KeptTail.{KeptTail}
use Rattle.qd_versions.specs.Tails.{IsLeft, blocks_growing}
use Rattle.qd_versions.proofs.keeping.Kept.forget.Goals as goal

-- those of one more block are gone
left_more : (kept : List KeptTail) (growing : List Growing) (i : ℕ) (x : Growing) (xs : List KeptTail) → i < length growing → x ≡ get_or growing i x → All (IsLeft kept (take i (blocks_growing growing))) xs
    → All (IsLeft kept (take (i + 1) (blocks_growing growing))) (filter (λ k. not (nat_eq k.block x.block)) xs)
left_more kept growing i x xs less is had j d low =
    let test = λ (k : KeptTail). not (nat_eq k.block x.block) in
    let k = get_or (filter test xs) j d in
    let left = All-filter test (IsLeft kept (take i (blocks_growing growing))) xs had j d low in
    let other = not-true (nat_eq k.block x.block) (filter_passes test xs j d low) in
    let here : get_or (blocks_growing growing) i x.block ≡ x.block = get_or-map (λ (y : Growing). y.block) growing i x x.block less ∙ ap (λ (y : Growing). y.block) (sym is) in
    let more : take (i + 1) (blocks_growing growing) ≡ take i (blocks_growing growing) ++ x.block ∷ [] =
    take_more (blocks_growing growing) i x.block (omega (arith, less, length-map growing (λ (y : Growing). y.block))) ∙ ap (λ b. take i (blocks_growing growing) ++ b ∷ []) here in
    record {
      among = left.among;
      apart = λ c. by k left.apart other (Contains-push_cases (take i (blocks_growing growing)) x.block k.block (subst (λ (bs : List ℕ). Contains bs k.block) more c));
    }
  where
    by : (k : KeptTail) → (Contains (take i (blocks_growing growing)) k.block → ⊥) → nat_eq k.block x.block ≡ Rattle.std.proofs.Common.false → Contains (take i (blocks_growing growing)) k.block ⊎ (x.block ≡ k.block) → ⊥
    by k apart other (inl c) = apart c
    by k apart other (inr same) = true≢false (sym (eq-eqb k.block x.block (sym same)) ∙ other)

pub loop-x-init : goal.loop-x-init
loop-x-init c = All-weaker (Contains c.args.self.now) (IsLeft c.args.self.now []) (λ k among. record { among = among; apart = λ none. omega (arith, none.1) }) c.args.self.now (All-contains_itself c.args.self.now)

pub loop-x-preserved : goal.loop-x-preserved
loop-x-preserved c =
    subst (λ (l : List KeptTail). All (IsLeft c.args.self.now (take (c.loop-x.x-index + 1) (blocks_growing c.args.growing.now))) l) (sym c.forget_one.ensures.left)
    (left_more c.args.self.now c.args.growing.now c.loop-x.x-index c.x-item.result c.loop-x.self c.loop-x-test.true c.x-item.is c.loop-x.invariant)

pub returns : goal.returns
returns c =
    let blocks = blocks_growing c.args.growing.now in
    let all : take c.loop-x.x-index blocks ≡ blocks = take_all c.loop-x.x-index blocks (omega (arith, c.loop-x-test.false, length-map c.args.growing.now (λ (y : Growing). y.block))) in
    record { left = subst (λ (bs : List ℕ). All (IsLeft c.args.self.now bs) c.loop-x.self) all c.loop-x.invariant }
