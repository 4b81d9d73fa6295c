-- The times of rows that pass all of some tests.
use Rattle.std.proofs.Common.{◌≡◌, ℕ, zero, suc, ◌+◌, ◌<◌, ◌≤◌, Bool, true, false, min, max, List, [], ◌∷◌, Option, Some, None, IfSome, All, length, get_or, take, refl, sym, ap, ◌∙◌, arith, subst}
use Rattle.std.specs.Bool.{OnTrue}
use Rattle.std.specs.List.{list_all}
use Rattle.std.proofs.lemmas.List.{take_more}
use Rattle.std.proofs.lemmas.List.Elements.{All-append}
use Rattle.std.proofs.lemmas.List.Folds.{list_all_at}
use Rattle.qd_base.specs.Rows.{Row}
use Rattle.qd_value.specs.declared.bound.Bound.{Bound, out-Bound, roll-Bound, out-roll-Bound, roll-out-Bound}
use Rattle.qd_value.specs.declared.bound.Bound.TheOpen.{Bound-F}
use Rattle.qd_value.specs.declared.bound.Bound.TheVariants as is
use Rattle.qd_value.specs.declared.bound.Bound.TheVariants.{rolls-All, rolls-Compare, rolls-InInterval}
use Rattle.qd_value.specs.declared.bound.Operand.{Operand}
use Rattle.qd_value.specs.declared.bound.Comparison.{Comparison}
use Rattle.qd_value.specs.declared.bound.Comparison.TheVariants as asks
use Rattle.qd_value.specs.Cells.{is_true}
use Rattle.qd_value.specs.Value.{passes}
use Rattle.qd_value.proofs.Values.{value-all}
use Rattle.qd_query.specs.Intervals.{Catches}
use Rattle.qd_query.specs.Times.{is_column, moment_in, terms_by, terms_of, turned, AreAllowed, FormAllows, IsFrom, IsTo, TermsAllow, TestAllows}

-- a test that all pass is passed by each
at_one : (p : Bound → Bool) (xs : List Bound) (k : ℕ) (d : Bound) → k < length xs → (b : Bool) → p (get_or xs k d) ≡ b → list_all p xs ≡ true → b ≡ true
at_one p xs k d low true is all = refl
at_one p xs k d low false is all = sym (list_all_at p xs k d low is) ∙ all

passes_one : (xs : List Bound) (k : ℕ) (d : Bound) (row : Row) → k < length xs → passes (is.All xs) row ≡ true → passes (get_or xs k d) row ≡ true
passes_one xs k d row low all = at_one (λ e. passes e row) xs k d low (passes (get_or xs k d) row) refl (sym (ap is_true (value-all xs row)) ∙ all)

-- the times of one test more
pub catches_more : (xs : List Bound) (k : ℕ) (x : Bound) (col lo hi from to low high : ℕ) → k < length xs → x ≡ get_or xs k x
    → Catches (passes (is.All xs)) col lo hi → Catches (passes x) col from to → low ≡ max lo from → high ≡ min hi to → Catches (passes (is.All xs)) col low high
catches_more xs k x col lo hi from to low high there same so_far one is_low is_high = record {
  low = λ row timely h.
      let a = so_far.low row timely h in let b = one.low row timely (ap (λ e. passes e row) same ∙ passes_one xs k x row there h) in omega (arith, a, b, is_low);
  high = λ row timely h.
      let a = so_far.high row timely h in let b = one.high row timely (ap (λ e. passes e row) same ∙ passes_one xs k x row there h) in omega (arith, a, b, is_high);
}

-- ---- the times that tests allow

-- of a narrower interval
pub narrower : (from to : ℕ → Type 0) (lo hi low high : ℕ) → AreAllowed from to lo hi → lo ≤ low → high ≤ hi → AreAllowed from to low high
narrower from to lo hi low high all first last = record { low = λ t timely h. all.low t timely (omega arith); high = λ t h. all.high t (omega arith) }

on_true : (b : Bool) (P : Type 0) → P → OnTrue b P
on_true true P h = h
on_true false P h = tt

not_true : (b : Bool) (P : Type 0) → b ≡ false → OnTrue b P
not_true true P h = cc
not_true false P h = tt

-- ---- a test that at looked at as a whole

no_form : (col : ℕ) (e : Bound) (lo hi : ℕ) → ((Side : Comparison → ℕ → ℕ → Type 0) (t : ℕ) → TestAllows Side col e t) → AreAllowed (TestAllows IsFrom col e) (TestAllows IsTo col e) lo hi
no_form col e lo hi all = record { low = λ t timely h. all IsFrom t; high = λ t h. all IsTo t }

-- a form, and the test that has it
by_form : (Side : Comparison → ℕ → ℕ → Type 0) (col : ℕ) (e : Bound) (form : Bound-F Bound Operand) (t : ℕ) → e ≡ roll-Bound form → FormAllows Side col form t → TestAllows Side col e t
by_form Side col e form t at h = subst (λ (f : Bound-F Bound Operand). FormAllows Side col f t) (sym (ap out-Bound at ∙ out-roll-Bound form)) h

rolled : (e : Bound) (form : Bound-F Bound Operand) → out-Bound e ≡ form → e ≡ roll-Bound form
rolled e form at = sym (roll-out-Bound e) ∙ ap roll-Bound at

pub other_test : (col : ℕ) (e : Bound) (lo hi : ℕ) → ((x : Bound) (from to : ℕ) → e ≡ is.InInterval x from to → ⊥) → ((op : Comparison) (x y : Bound) → e ≡ is.Compare op x y → ⊥)
    → AreAllowed (TestAllows IsFrom col e) (TestAllows IsTo col e) lo hi
other_test col e lo hi within compared = no_form col e lo hi (λ Side t. go Side t (out-Bound e) refl)
  where
    go : (Side : Comparison → ℕ → ℕ → Type 0) (t : ℕ) (form : Bound-F Bound Operand) → out-Bound e ≡ form → FormAllows Side col form t
    go Side t (Bound-F.InInterval x from to) at = absurd (within x from to (rolled e (Bound-F.InInterval x from to) at ∙ rolls-InInterval x from to))
    go Side t (Bound-F.Compare op x y) at = absurd (compared op x y (rolled e (Bound-F.Compare op x y) at ∙ rolls-Compare op x y))
    go Side t _ at = tt

module _ (col : ℕ) (x : Bound) (from to : ℕ) where
  within_form : (Side : Comparison → ℕ → ℕ → Type 0) (t : ℕ) → OnTrue (is_column col x) (Side asks.GreaterEqual from t × Side asks.LessEqual to t) → TestAllows Side col (is.InInterval x from to) t
  within_form Side t h = by_form Side col (is.InInterval x from to) (Bound-F.InInterval x from to) t (sym (rolls-InInterval x from to)) h

  pub within_column : AreAllowed (TestAllows IsFrom col (is.InInterval x from to)) (TestAllows IsTo col (is.InInterval x from to)) from to
  within_column = record {
    low = λ t timely h. within_form IsFrom t (on_true (is_column col x) (IsFrom asks.GreaterEqual from t × IsFrom asks.LessEqual to t) (h, tt));
    high = λ t h. within_form IsTo t (on_true (is_column col x) (IsTo asks.GreaterEqual from t × IsTo asks.LessEqual to t) (tt, h));
  }

  pub within_another : (lo hi : ℕ) → is_column col x ≡ false → AreAllowed (TestAllows IsFrom col (is.InInterval x from to)) (TestAllows IsTo col (is.InInterval x from to)) lo hi
  within_another lo hi another =
      no_form col (is.InInterval x from to) lo hi (λ Side t. within_form Side t (not_true (is_column col x) (Side asks.GreaterEqual from t × Side asks.LessEqual to t) another))

module _ (col : ℕ) (op : Comparison) (x y : Bound) where
  compare_form : (Side : Comparison → ℕ → ℕ → Type 0) (t : ℕ) → OnTrue (is_column col x) (IfSome (moment_in y) (λ m. Side op m t)) → OnTrue (is_column col y) (IfSome (moment_in x) (λ m. Side (turned op) m t))
      → TestAllows Side col (is.Compare op x y) t
  compare_form Side t first second = by_form Side col (is.Compare op x y) (Bound-F.Compare op x y) t (sym (rolls-Compare op x y)) (first, second)

  -- a column at no moment
  beside : (Side : Comparison → ℕ → ℕ → Type 0) (t : ℕ) → x ≡ is.Column col → IfSome (moment_in y) (λ m. Side op m t) → TestAllows Side col (is.Compare op x y) t
  beside Side t same h =
      compare_form Side t (on_true (is_column col x) (IfSome (moment_in y) (λ m. Side op m t)) h)
      (on_true (is_column col y) (IfSome (moment_in x) (λ m. Side (turned op) m t)) (subst (λ (e : Bound). IfSome (moment_in e) (λ m. Side (turned op) m t)) (sym same) tt))

  behind : (Side : Comparison → ℕ → ℕ → Type 0) (t : ℕ) → y ≡ is.Column col → IfSome (moment_in x) (λ m. Side (turned op) m t) → TestAllows Side col (is.Compare op x y) t
  behind Side t same h =
      compare_form Side t (on_true (is_column col x) (IfSome (moment_in y) (λ m. Side op m t)) (subst (λ (e : Bound). IfSome (moment_in e) (λ m. Side op m t)) (sym same) tt))
      (on_true (is_column col y) (IfSome (moment_in x) (λ m. Side (turned op) m t)) h)

  pub no_column : (lo hi : ℕ) → is_column col x ≡ false → is_column col y ≡ false → AreAllowed (TestAllows IsFrom col (is.Compare op x y)) (TestAllows IsTo col (is.Compare op x y)) lo hi
  no_column lo hi first second =
      no_form col (is.Compare op x y) lo hi
      (λ Side t. compare_form Side t (not_true (is_column col x) (IfSome (moment_in y) (λ m. Side op m t)) first) (not_true (is_column col y) (IfSome (moment_in x) (λ m. Side (turned op) m t)) second))

  pub beside_moment : (m lo hi : ℕ) → x ≡ is.Column col → Some m ≡ moment_in y → AreAllowed (IsFrom op m) (IsTo op m) lo hi → AreAllowed (TestAllows IsFrom col (is.Compare op x y)) (TestAllows IsTo col (is.Compare op x y)) lo hi
  beside_moment m lo hi same at all = record {
    low = λ t timely h. beside IsFrom t same (subst (λ (o : Option ℕ). IfSome o (λ m. IsFrom op m t)) at (all.low t timely h));
    high = λ t h. beside IsTo t same (subst (λ (o : Option ℕ). IfSome o (λ m. IsTo op m t)) at (all.high t h));
  }

  pub beside_other : (lo hi : ℕ) → x ≡ is.Column col → None ≡ moment_in y → AreAllowed (TestAllows IsFrom col (is.Compare op x y)) (TestAllows IsTo col (is.Compare op x y)) lo hi
  beside_other lo hi same at = no_form col (is.Compare op x y) lo hi (λ Side t. beside Side t same (subst (λ (o : Option ℕ). IfSome o (λ m. Side op m t)) at tt))

  pub behind_moment : (m lo hi : ℕ) → y ≡ is.Column col → Some m ≡ moment_in x → AreAllowed (IsFrom (turned op) m) (IsTo (turned op) m) lo hi → AreAllowed (TestAllows IsFrom col (is.Compare op x y)) (TestAllows IsTo col (is.Compare op x y)) lo hi
  behind_moment m lo hi same at all = record {
    low = λ t timely h. behind IsFrom t same (subst (λ (o : Option ℕ). IfSome o (λ m. IsFrom (turned op) m t)) at (all.low t timely h));
    high = λ t h. behind IsTo t same (subst (λ (o : Option ℕ). IfSome o (λ m. IsTo (turned op) m t)) at (all.high t h));
  }

  pub behind_other : (lo hi : ℕ) → y ≡ is.Column col → None ≡ moment_in x → AreAllowed (TestAllows IsFrom col (is.Compare op x y)) (TestAllows IsTo col (is.Compare op x y)) lo hi
  behind_other lo hi same at = no_form col (is.Compare op x y) lo hi (λ Side t. behind Side t same (subst (λ (o : Option ℕ). IfSome o (λ m. Side (turned op) m t)) at tt))

-- ---- the terms of an AND

single : (P : Bound → Type 0) (x : Bound) → P x → All P (x ∷ [])
single P x h zero d low = h
single P x h (suc k) d low = absurd (omega arith)

pub all_terms : (terms : List Bound) (e : Bound) → e ≡ is.All terms → terms_of e ≡ terms
all_terms terms e at = ap terms_of at ∙ ap (terms_by (is.All terms)) (ap out-Bound (sym (rolls-All terms)) ∙ out-roll-Bound (Bound-F.All terms))

pub one_term : (col : ℕ) (e : Bound) (lo hi : ℕ) → ((terms : List Bound) → e ≡ is.All terms → ⊥) → AreAllowed (TestAllows IsFrom col e) (TestAllows IsTo col e) lo hi
    → AreAllowed (TermsAllow IsFrom col (terms_of e)) (TermsAllow IsTo col (terms_of e)) lo hi
one_term col e lo hi another h =
    subst (λ (terms : List Bound). AreAllowed (TermsAllow IsFrom col terms) (TermsAllow IsTo col terms) lo hi) (sym (go (out-Bound e) refl))
    (record { low = λ t timely low. single (λ (x : Bound). TestAllows IsFrom col x t) e (h.low t timely low); high = λ t high. single (λ (x : Bound). TestAllows IsTo col x t) e (h.high t high) })
  where
    go : (form : Bound-F Bound Operand) → out-Bound e ≡ form → terms_by e form ≡ e ∷ []
    go (Bound-F.All terms) at = absurd (another terms (rolled e (Bound-F.All terms) at ∙ rolls-All terms))
    go _ at = refl

term_more : (P : Bound → Type 0) (xs : List Bound) (k : ℕ) (x : Bound) → k < length xs → x ≡ get_or xs k x → All P (take k xs) → P x → All P (take (k + 1) xs)
term_more P xs k x low same so_far one =
    subst (All P) (sym (take_more xs k x low)) (All-append P (take k xs) (get_or xs k x ∷ []) so_far (single P (get_or xs k x) (subst P same one)))

pub allowed_more : (col : ℕ) (xs : List Bound) (k : ℕ) (x : Bound) (lo hi from to low high : ℕ) → k < length xs → x ≡ get_or xs k x
    → AreAllowed (TermsAllow IsFrom col (take k xs)) (TermsAllow IsTo col (take k xs)) lo hi → AreAllowed (TestAllows IsFrom col x) (TestAllows IsTo col x) from to → low ≡ max lo from → high ≡ min hi to
    → AreAllowed (TermsAllow IsFrom col (take (k + 1) xs)) (TermsAllow IsTo col (take (k + 1) xs)) low high
allowed_more col xs k x lo hi from to low high there same so_far one is_low is_high = record {
  low = λ t timely h. term_more (λ (e : Bound). TestAllows IsFrom col e t) xs k x there same (so_far.low t timely (omega arith)) (one.low t timely (omega arith));
  high = λ t h. term_more (λ (e : Bound). TestAllows IsTo col e t) xs k x there same (so_far.high t (omega arith)) (one.high t (omega arith));
}

pub none_yet : (col lo hi : ℕ) → AreAllowed (TermsAllow IsFrom col []) (TermsAllow IsTo col []) lo hi
none_yet col lo hi = record { low = λ t timely h k d low. absurd (omega arith); high = λ t h k d low. absurd (omega arith) }
