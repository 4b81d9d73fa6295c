use Rattle.std.proofs.Common.{◌≡◌, ◌⊎◌, inl, inr, ◌∷◌, [], ◌++◌, List, All, Contains, append_assoc, suc, arith, refl, sym, ap, ◌∙◌, subst}
use Rattle.std.proofs.lemmas.List.{append-nil}
use Rattle.std.proofs.lemmas.List.Elements.{All-contains, All-contains_itself, All-weaker}
use Rattle.qd_versions.specs.declared.growing.Growing.{Growing}
use Rattle.qd_versions.specs.declared.keeping.KeptTail.{KeptTail}
use Rattle.qd_versions.specs.Tails.{tails_in}
use Rattle.qd_versions.proofs.keeping.Kept.keep.Goals as goal

-- where a tail comes from
abbrev IsOf : List KeptTail → List Growing → KeptTail → Type 0
IsOf kept growing k = Contains kept k ⊎ Contains (tails_in growing) k

-- the tail of a block is among those of all
tail_among : (front done : List Growing) (x : Growing) → Contains (tails_in (front ++ x ∷ done)) (record { block = x.block; tail = x.tail })
tail_among [] done x = (0, omega arith, refl)
tail_among (y ∷ ys) done x = let h = tail_among ys done x in (suc h.0, omega (arith, h.1), h.2)

kept_more : (kept : List KeptTail) (growing front done : List Growing) (x : Growing) (xs ys : List KeptTail) → growing ≡ front ++ x ∷ done → All (IsOf kept growing) xs → All (λ k. Contains xs k ⊎ (k ≡ record { block = x.block; tail = x.tail })) ys → All (IsOf kept growing) ys
kept_more kept growing front done x xs ys split had now =
    All-weaker (λ k. Contains xs k ⊎ (k ≡ record { block = x.block; tail = x.tail })) (IsOf kept growing) by ys now
  where
    by : (k : KeptTail) → Contains xs k ⊎ (k ≡ record { block = x.block; tail = x.tail }) → IsOf kept growing k
    by k (inl c) = All-contains (IsOf kept growing) xs k had c
    by k (inr is) = inr (subst (λ (l : List Growing). Contains (tails_in l) k) (sym split) (subst (λ (t : KeptTail). Contains (tails_in (front ++ x ∷ done)) t) (sym is) (tail_among front done x)))

pub loop-x-init : goal.loop-x-init
loop-x-init c = record {
  done = [];
  split = sym (append-nil c.args.growing.items);
  kept = All-weaker (Contains c.args.self.now) (IsOf c.args.self.now c.args.growing.items) (λ k among. inl among) c.args.self.now (All-contains_itself c.args.self.now);
}

pub loop-x-preserved : goal.loop-x-preserved
loop-x-preserved c =
    let x = c.in-Some.x in
    let inv = c.loop-x.invariant in
    let front = c.pop.new.self.items in
    let split : c.args.growing.items ≡ front ++ x ∷ inv.done = inv.split ∙ ap (λ (l : List Growing). l ++ inv.done) c.in-Some.ensures.items ∙ append_assoc front (x ∷ []) inv.done in
    record {
      done = x ∷ inv.done;
      split = split;
      kept = kept_more c.args.self.now c.args.growing.items front inv.done x c.loop-x.self c.keep_one.new.self split inv.kept c.keep_one.ensures.kept;
    }
