-- The parts of a query, joined.
use Rattle.std.proofs.Common.{◌≡◌, List, ◌++◌, Result, Ok, Err, IfOk, OnOk, sym, ◌∙◌, append_assoc}
use Rattle.qd_meaning.specs.declared.refusal.Refusal.{Refusal}

pub ok_same : {T E : Type 0} (r : Result T E) (a b : T) → a ≡ b → IfOk r (λ made. made ≡ a) → IfOk r (λ made. made ≡ b)
ok_same (Ok x) a b e h = h ∙ e
ok_same (Err x) a b e h = h

pub ok_with : {T E V : Type 0} (r : Result T E) (f : T → V) (a b : V) → a ≡ b → IfOk r (λ made. f made ≡ a) → IfOk r (λ made. f made ≡ b)
ok_with (Ok x) f a b e h = h ∙ e
ok_with (Err x) f a b e h = h

pub on_same : {T E : Type 0} (r : Result T E) (P Q : Type 0) → (P → Q) → OnOk r P → OnOk r Q
on_same (Ok x) P Q f h = f h
on_same (Err x) P Q f h = h

-- two parts of a query, and the rest of it
pub grouped : (a b f l i s o : List Refusal) → (a ++ b) ++ (((f ++ l) ++ (i ++ s)) ++ o) ≡ a ++ b ++ f ++ l ++ i ++ s ++ o
grouped a b f l i s o = simp append_assoc

pub three : (a b c : List Refusal) → (a ++ (b ++ c)) ≡ a ++ b ++ c
three a b c = sym (append_assoc a b c)

-- what holds in any case
pub on_any : {T E : Type 0} (r : Result T E) (P : Type 0) → P → OnOk r P
on_any (Ok x) P p = p
on_any (Err x) P p = tt

-- five facts give one
pub on_five : {T E : Type 0} (r : Result T E) (A B C D F P : Type 0) → (A → B → C → D → F → P) → OnOk r A → OnOk r B → OnOk r C → OnOk r D → OnOk r F → OnOk r P
on_five (Ok x) A B C D F P f a b c d e = f a b c d e
on_five (Err x) A B C D F P f a b c d e = tt

pub ok_each : {T E : Type 0} (r : Result T E) (P Q : T → Type 0) → ((x : T) → P x → Q x) → IfOk r P → IfOk r Q
ok_each (Ok x) P Q f h = f x h
ok_each (Err x) P Q f h = h
