-- Each step over what is seen of the parts gives what is seen of the step.
use Rattle.std.proofs.Common.{◌≡◌, ℕ, suc, ◌+◌, ◌-◌, ◌<◌, ◌≤◌, Bool, true, false, ◌&&◌, List, [], ◌∷◌, ◌++◌, map, length, drop, get_or, Option, Some, None, Result, Ok, Err, IfOk, refl, sym, ap, ap₂, ◌∙◌, arith, drop-cons}
use Rattle.std.proofs.Math.Seq.{drop-length}
use Rattle.qd_base.specs.declared.code.Code.TheVariants as code
use Rattle.qd_time.specs.declared.fault.TimeFault.{TimeFault}
use Rattle.qd_value.specs.Cells as cells
use Rattle.qd_value.specs.Cells.{number, truth, text, time}
use Rattle.qd_value.specs.declared.bound.Arithmetic.{Arithmetic}
use Rattle.qd_value.specs.declared.bound.Comparison.{Comparison}
use Rattle.qd_value.specs.declared.bound.Comparison.TheVariants as asks
use Rattle.qd_value.specs.declared.bound.Bound.{Bound}
use Rattle.qd_value.specs.declared.bound.Bound.TheVariants as is
use Rattle.qd_meaning.specs.declared.refusal.Refusal.{Refusal}
use Rattle.qd_meaning.specs.Refusals.{least, sooner, unless}
use Rattle.qd_meaning.specs.Typing as typing
use Rattle.qd_meaning.specs.Typing.{Form, Plain, TextAt, NumberAt, Other, agree, fits}
use Rattle.qd_meaning.specs.Binding as binding
use Rattle.qd_bind.specs.declared.class.Class.{Class}
use Rattle.qd_bind.specs.declared.typed.Typed.{Typed}
use Rattle.qd_bind.specs.Seen.{class, shape, typed}
use Rattle.qd_bind.specs.Steps as steps
use Rattle.qd_bind.specs.Steps.{agrees, refused}
use Rattle.qd_bind.proofs.PartLemmas.{least-append}

-- ---- classes

pub agrees-seen : (c d : Option cells.Class) → agrees (class c) (class d) ≡ agree c d
agrees-seen None None = refl
agrees-seen None (Some number) = refl
agrees-seen None (Some truth) = refl
agrees-seen None (Some text) = refl
agrees-seen None (Some time) = refl
agrees-seen (Some number) None = refl
agrees-seen (Some number) (Some number) = refl
agrees-seen (Some number) (Some truth) = refl
agrees-seen (Some number) (Some text) = refl
agrees-seen (Some number) (Some time) = refl
agrees-seen (Some truth) None = refl
agrees-seen (Some truth) (Some number) = refl
agrees-seen (Some truth) (Some truth) = refl
agrees-seen (Some truth) (Some text) = refl
agrees-seen (Some truth) (Some time) = refl
agrees-seen (Some text) None = refl
agrees-seen (Some text) (Some number) = refl
agrees-seen (Some text) (Some truth) = refl
agrees-seen (Some text) (Some text) = refl
agrees-seen (Some text) (Some time) = refl
agrees-seen (Some time) None = refl
agrees-seen (Some time) (Some number) = refl
agrees-seen (Some time) (Some truth) = refl
agrees-seen (Some time) (Some text) = refl
agrees-seen (Some time) (Some time) = refl

pub order-seen : (c : Option cells.Class) → steps.has_order (class c) ≡ typing.has_order c
order-seen None = refl
order-seen (Some number) = refl
order-seen (Some truth) = refl
order-seen (Some text) = refl
order-seen (Some time) = refl

pub agrees_met : (x y : Class) (c d : Option cells.Class) → x ≡ class c → y ≡ class d → agrees x y ≡ agree c d
agrees_met x y c d e f = ap₂ agrees e f ∙ agrees-seen c d

pub order_met : (x : Class) (c : Option cells.Class) → x ≡ class c → steps.has_order x ≡ typing.has_order c
order_met x c e = ap steps.has_order e ∙ order-seen c

-- ---- refusals

pub refused-seen : (k : cells.Class) (c : Option cells.Class) (place : ℕ) (faults : List Refusal)
    → refused (agrees (class (Some k)) (class c)) place (least faults) ≡ least (unless (fits k c) code.Types place ++ faults)
refused-seen k c place faults =
    ap (λ (b : Bool). refused b place (least faults)) (agrees-seen (Some k) c) ∙ sym (least-append (unless (fits k c) code.Types place) faults)

-- ---- operators

pub not-seen : (t : typing.Typed) (word : ℕ) → steps.not_of (typed t) word ≡ typed (typing.not_of t word)
not-seen t word = ap (steps.truth (is.Not t.bound)) (refused-seen truth t.class word t.faults)

abbrev negated_as : Bound → Option Refusal → Typed
negated_as b fault = record (steps.truth (is.Negated b) fault) { class = class (Some number) }

negated-parts : (c : Option cells.Class) (b : Bound) (f : Form) (faults : List Refusal) (minus : ℕ)
    → let t : typing.Typed = record { class = c; bound = b; form = f; faults = faults } in steps.negated (typed t) minus ≡ typed (typing.negated t minus)
negated-parts c b (Plain n col) faults minus = ap (negated_as b) (refused-seen number c minus faults)
negated-parts c b (TextAt bytes place) faults minus = ap (negated_as b) (refused-seen number c minus faults)
negated-parts c b (NumberAt n true place) faults minus = refl
negated-parts c b (NumberAt n false place) faults minus = refl
negated-parts c b Other faults minus = ap (negated_as b) (refused-seen number c minus faults)

pub negated-seen : (t : typing.Typed) (minus : ℕ) → steps.negated (typed t) minus ≡ typed (typing.negated t minus)
negated-seen t minus = negated-parts t.class t.bound t.form t.faults minus

-- a word or sign after the other, the nearest first
pub behind-seen : (step : Typed → ℕ → Typed) (rule : typing.Typed → ℕ → typing.Typed) → ((t : typing.Typed) (place : ℕ) → step (typed t) place ≡ typed (rule t place))
    → (t : typing.Typed) (places : List ℕ) → steps.behind step (typed t) places ≡ typed (binding.behind_all rule t places)
behind-seen step rule one t [] = refl
behind-seen step rule one t (place ∷ places) =
    ap (λ (x : Typed). step x place) (behind-seen step rule one t places) ∙ one (binding.behind_all rule t places) place

-- ---- comparisons

timely-seen : (t : typing.Typed) (f : Form) → steps.timed_or (typed t) (steps.moment_in (shape f)) ≡ typed (typing.literal_or t (typing.time_by f))
timely-seen t (Plain n col) = refl
timely-seen t (TextAt bytes place) = refl
timely-seen t (NumberAt n signed place) = refl
timely-seen t Other = refl

pub beside-seen : (c : Option cells.Class) (t : typing.Typed) → steps.beside (class c) (typed t) ≡ typed (typing.beside c t)
beside-seen None t = refl
beside-seen (Some number) t = refl
beside-seen (Some truth) t = refl
beside-seen (Some text) t = refl
beside-seen (Some time) t = timely-seen t t.form

three : (a a' b b' d d' : Bool) → a ≡ a' → b ≡ b' → d ≡ d' → (a && b && d) ≡ (a' && b' && d')
three a a' b b' d d' e f g = ap₂ (λ (x y : Bool). x && y) (ap₂ (λ (x y : Bool). x && y) e f) g

compare-seen : (op : Comparison) (c d : Option cells.Class) → steps.may_compare op (class c) (class d) ≡ typing.may_compare op c d
compare-seen asks.Equal c d = agrees-seen c d
compare-seen asks.NotEqual c d = agrees-seen c d
compare-seen asks.Less c d = three _ _ _ _ _ _ (agrees-seen c d) (order-seen c) (order-seen d)
compare-seen asks.LessEqual c d = three _ _ _ _ _ _ (agrees-seen c d) (order-seen c) (order-seen d)
compare-seen asks.Greater c d = three _ _ _ _ _ _ (agrees-seen c d) (order-seen c) (order-seen d)
compare-seen asks.GreaterEqual c d = three _ _ _ _ _ _ (agrees-seen c d) (order-seen c) (order-seen d)

compared-parts : (op : Comparison) (place : ℕ) (x y : typing.Typed) → steps.compared_as op place (typed x) (typed y) ≡ typed (typing.compared_as op place x y)
compared-parts op place x y =
    ap (λ (f : Option Refusal). steps.truth (is.Compare op x.bound y.bound) (sooner f (least y.faults)))
    (ap (λ (b : Bool). refused b place (least x.faults)) (compare-seen op x.class y.class) ∙ sym (least-append (unless (typing.may_compare op x.class y.class) code.Types place) x.faults))
    ∙ ap (steps.truth (is.Compare op x.bound y.bound)) (sym (least-append (unless (typing.may_compare op x.class y.class) code.Types place ++ x.faults) y.faults))

pub compared_seen : (op : Comparison) (place : ℕ) (x y : typing.Typed) → steps.compared op place (typed x) (typed y) ≡ typed (typing.compared op place x y)
compared_seen op place x y =
    ap₂ (steps.compared_as op place) (beside-seen y.class x) (beside-seen x.class y) ∙ compared-parts op place (typing.beside y.class x) (typing.beside x.class y)

-- ---- intervals

within-parts : (x : typing.Typed) (word place : ℕ) (i : Result (ℕ × ℕ) TimeFault) → steps.within (typed x) word place i ≡ typed (typing.within x word place i)
within-parts x word place (Ok i) = ap (steps.truth (is.InInterval x.bound i.0 i.1)) (refused-seen time x.class word x.faults)
within-parts x word place (Err e) =
    ap (λ (f : Option Refusal). steps.truth (is.InInterval x.bound 0 0) (sooner f (least (unless false code.TimeLiteral place)))) (refused-seen time x.class word x.faults)
    ∙ ap (steps.truth (is.InInterval x.bound 0 0)) (sym (least-append (unless (fits time x.class) code.Types word ++ x.faults) (unless false code.TimeLiteral place)))

pub within_seen : (x : typing.Typed) (word : ℕ) (bytes : List ℕ) (place : ℕ) → steps.in_text (typed x) word bytes place ≡ typed (typing.in_text x word bytes place)
within_seen x word bytes place = within-parts x word place _

pub nots_seen : (t : typing.Typed) (places : List ℕ) → steps.behind steps.not_of (typed t) places ≡ typed (binding.behind_all typing.not_of t places)
nots_seen = behind-seen steps.not_of typing.not_of not-seen

pub minuses_seen : (t : typing.Typed) (places : List ℕ) → steps.behind steps.negated (typed t) places ≡ typed (binding.behind_all typing.negated t places)
minuses_seen = behind-seen steps.negated typing.negated negated-seen

-- ---- what a call gives, where it finds memory

pub ok_same : {E : Type 0} (r : Result Typed E) (a b : Typed) → a ≡ b → IfOk r (λ made. made ≡ a) → IfOk r (λ made. made ≡ b)
ok_same (Ok x) a b e h = h ∙ e
ok_same (Err x) a b e h = h

pub ok_for : {E : Type 0} (r : Result Typed E) (a left : Typed) (b : typing.Typed → Typed) → ((x : typing.Typed) → left ≡ typed x → a ≡ b x) → IfOk r (λ made. made ≡ a)
    → IfOk r (λ made. (x : typing.Typed) → left ≡ typed x → made ≡ b x)
ok_for (Ok m) a left b e h = λ x l. h ∙ e x l
ok_for (Err m) a left b e h = h
