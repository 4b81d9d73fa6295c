-- A list of literals from left to right is what the definition says of it.
use Rattle.std.proofs.Common.{◌≡◌, ℕ, Bool, true, false, ◌&&◌, List, [], ◌∷◌, ◌++◌, map, fold, Option, Some, None, refl, sym, ap, ap₂, ◌∙◌, append-nil, append_assoc}
use Rattle.std.specs.List.{list_all, flat_map}
use Rattle.qd_base.specs.declared.code.Code.TheVariants as code
use Rattle.qd_base.specs.declared.cell.Cell.{Cell}
use Rattle.qd_sql_ast.specs.declared.tree.Lit.{Lit}
use Rattle.qd_sql_ast.specs.declared.tree.Lit.TheVariants as lit
use Rattle.qd_value.specs.Cells as cells
use Rattle.qd_value.specs.Cells.{number, truth, text, time}
use Rattle.qd_value.specs.declared.bound.Bound.TheVariants as is
use Rattle.qd_meaning.specs.declared.refusal.Refusal.{Refusal}
use Rattle.qd_meaning.specs.Refusals.{least, sooner, unless}
use Rattle.qd_meaning.specs.Typing as typing
use Rattle.qd_meaning.specs.Typing.{Constant, agree, agree_all, fits, same_class, constant_beside, constant_of}
use Rattle.qd_bind.specs.declared.class.Class.{Class}
use Rattle.qd_bind.specs.declared.lists.Listing.{Listing}
use Rattle.qd_bind.specs.declared.typed.Typed.{Typed}
use Rattle.qd_bind.specs.declared.typed.Constant as made
use Rattle.qd_bind.specs.Seen.{class, typed, constant}
use Rattle.qd_bind.specs.Steps as steps
use Rattle.qd_bind.specs.Steps.{agrees, refused, listing_of, listed_on}
use Rattle.qd_bind.specs.Listed as listed
use Rattle.qd_bind.proofs.PartLemmas.{least-append}
use Rattle.qd_bind.proofs.StepLemmas.{agrees-seen}

-- ---- one literal

constant-seen : (c : Option cells.Class) (l : Lit) → listed.constant (class c) l ≡ constant (constant_beside c (constant_of l))
constant-seen None (lit.Number n) = refl
constant-seen None (lit.Minus minus n) = refl
constant-seen None (lit.Text t) = refl
constant-seen None (lit.True place) = refl
constant-seen None (lit.False place) = refl
constant-seen None (lit.Null place) = refl
constant-seen (Some number) (lit.Number n) = refl
constant-seen (Some number) (lit.Minus minus n) = refl
constant-seen (Some number) (lit.Text t) = refl
constant-seen (Some number) (lit.True place) = refl
constant-seen (Some number) (lit.False place) = refl
constant-seen (Some number) (lit.Null place) = refl
constant-seen (Some truth) (lit.Number n) = refl
constant-seen (Some truth) (lit.Minus minus n) = refl
constant-seen (Some truth) (lit.Text t) = refl
constant-seen (Some truth) (lit.True place) = refl
constant-seen (Some truth) (lit.False place) = refl
constant-seen (Some truth) (lit.Null place) = refl
constant-seen (Some text) (lit.Number n) = refl
constant-seen (Some text) (lit.Minus minus n) = refl
constant-seen (Some text) (lit.Text t) = refl
constant-seen (Some text) (lit.True place) = refl
constant-seen (Some text) (lit.False place) = refl
constant-seen (Some text) (lit.Null place) = refl
constant-seen (Some time) (lit.Number n) = refl
constant-seen (Some time) (lit.Minus minus n) = refl
constant-seen (Some time) (lit.Text t) = refl
constant-seen (Some time) (lit.True place) = refl
constant-seen (Some time) (lit.False place) = refl
constant-seen (Some time) (lit.Null place) = refl

constants-seen : (c : Option cells.Class) (lits : List Lit) → map (listed.constant (class c)) lits ≡ map constant (map (λ (l : Lit). constant_beside c (constant_of l)) lits)
constants-seen c [] = refl
constants-seen c (l ∷ ls) = ap₂ (λ (x : made.Constant) (xs : List made.Constant). x ∷ xs) (constant-seen c l) (constants-seen c ls)

-- ---- whether all are of one class

-- the class that two have in common
abbrev with : Option cells.Class → Option cells.Class → Option cells.Class
with None d = d
with (Some c) d = Some c

with-seen : (c d : Option cells.Class) → steps.with (class c) (class d) ≡ class (with c d)
with-seen None d = refl
with-seen (Some number) d = refl
with-seen (Some truth) d = refl
with-seen (Some text) d = refl
with-seen (Some time) d = refl

-- each with what those before it have in common
abbrev alike : Option cells.Class → List (Option cells.Class) → Bool
alike c [] = true
alike c (d ∷ ds) = agree c d && alike (with c d) ds

and-true : (b : Bool) → (b && true) ≡ b
and-true true = refl
and-true false = refl

and-assoc : (a b c : Bool) → ((a && b) && c) ≡ (a && (b && c))
and-assoc true b c = refl
and-assoc false b c = refl

and-twice : (a b : Bool) → (a && (a && b)) ≡ (a && b)
and-twice true b = refl
and-twice false b = refl

all-none : (ds : List (Option cells.Class)) → list_all (agree None) ds ≡ true
all-none [] = refl
all-none (d ∷ ds) = all-none ds

-- of two that agree the one that has a class decides
class-decides : (c d : Option cells.Class) (ds : List (Option cells.Class))
    → (agree c d && list_all (agree c) ds && (list_all (agree d) ds && agree_all ds)) ≡ (agree c d && (list_all (agree (with c d)) ds && agree_all ds))
class-decides None d ds = ap (λ (b : Bool). b && (list_all (agree d) ds && agree_all ds)) (all-none ds)
class-decides (Some number) None ds = ap (λ (b : Bool). list_all (agree (Some number)) ds && (b && agree_all ds)) (all-none ds)
class-decides (Some number) (Some number) ds = and-twice (list_all (agree (Some number)) ds) (agree_all ds)
class-decides (Some number) (Some truth) ds = refl
class-decides (Some number) (Some text) ds = refl
class-decides (Some number) (Some time) ds = refl
class-decides (Some truth) None ds = ap (λ (b : Bool). list_all (agree (Some truth)) ds && (b && agree_all ds)) (all-none ds)
class-decides (Some truth) (Some number) ds = refl
class-decides (Some truth) (Some truth) ds = and-twice (list_all (agree (Some truth)) ds) (agree_all ds)
class-decides (Some truth) (Some text) ds = refl
class-decides (Some truth) (Some time) ds = refl
class-decides (Some text) None ds = ap (λ (b : Bool). list_all (agree (Some text)) ds && (b && agree_all ds)) (all-none ds)
class-decides (Some text) (Some number) ds = refl
class-decides (Some text) (Some truth) ds = refl
class-decides (Some text) (Some text) ds = and-twice (list_all (agree (Some text)) ds) (agree_all ds)
class-decides (Some text) (Some time) ds = refl
class-decides (Some time) None ds = ap (λ (b : Bool). list_all (agree (Some time)) ds && (b && agree_all ds)) (all-none ds)
class-decides (Some time) (Some number) ds = refl
class-decides (Some time) (Some truth) ds = refl
class-decides (Some time) (Some text) ds = refl
class-decides (Some time) (Some time) ds = and-twice (list_all (agree (Some time)) ds) (agree_all ds)

alike-all : (c : Option cells.Class) (ds : List (Option cells.Class)) → alike c ds ≡ agree_all (c ∷ ds)
alike-all c [] = refl
alike-all c (d ∷ ds) = ap (λ (b : Bool). agree c d && b) (alike-all (with c d) ds) ∙ sym (class-decides c d ds)

-- ---- the whole

abbrev listing : List Cell → Option cells.Class → Bool → List Refusal → Listing
listing cs c b faults = record { cells = cs; class = class c; agree = b; fault = least faults }

one-more : (cs : List Cell) (c : Option cells.Class) (b : Bool) (faults : List Refusal) (i : Constant)
    → listed_on (listing cs c b faults) (constant i) ≡ listing (cs ++ i.cell ∷ []) (with c i.class) (b && agree c i.class) (faults ++ i.faults)
one-more cs c b faults i =
    ap (λ (k : Class). record (listing (cs ++ i.cell ∷ []) c (b && agrees (class c) (class i.class)) []) { class = k; fault = sooner (least faults) (least i.faults) }) (with-seen c i.class)
    ∙ ap₂ (λ (x : Bool) (f : Option Refusal). record (listing (cs ++ i.cell ∷ []) (with c i.class) x []) { fault = f }) (ap (λ (x : Bool). b && x) (agrees-seen c i.class)) (sym (least-append faults i.faults))

among-parts : (x : typing.Typed) (place : ℕ) (cs : List Cell) (c : Option cells.Class) (b : Bool) (faults : List Refusal) (items : List Constant)
    → steps.among (typed x) place (fold listed_on (listing cs c b faults) (map constant items))
    ≡ steps.truth (is.InList x.bound (cs ++ map (λ (i : Constant). i.cell) items))
    (sooner (refused (b && alike c (map (λ (i : Constant). i.class) items)) place (least x.faults)) (least (faults ++ flat_map (λ (i : Constant). i.faults) items)))
among-parts x place cs c b faults [] =
    ap₂ (λ (ys : List Cell) (k : Bool). steps.truth (is.InList x.bound ys) (sooner (refused k place (least x.faults)) (least faults))) (sym (append-nil cs)) (sym (and-true b))
    ∙ ap (λ (rs : List Refusal). steps.truth (is.InList x.bound (cs ++ [])) (sooner (refused (b && true) place (least x.faults)) (least rs))) (sym (append-nil faults))
among-parts x place cs c b faults (i ∷ rest) =
    ap (λ (l : Listing). steps.among (typed x) place (fold listed_on l (map constant rest))) (one-more cs c b faults i)
    ∙ among-parts x place (cs ++ i.cell ∷ []) (with c i.class) (b && agree c i.class) (faults ++ i.faults) rest
    ∙ ap₂ (λ (ys : List Cell) (k : Bool). steps.truth (is.InList x.bound ys) (sooner (refused k place (least x.faults)) (least ((faults ++ i.faults) ++ flat_map (λ (i : Constant). i.faults) rest))))
    (append_assoc cs (i.cell ∷ []) (map (λ (i : Constant). i.cell) rest)) (and-assoc b (agree c i.class) (alike (with c i.class) (map (λ (i : Constant). i.class) rest)))
    ∙ ap (λ (rs : List Refusal). steps.truth (is.InList x.bound (cs ++ i.cell ∷ map (λ (i : Constant). i.cell) rest)) (sooner (refused (b && alike c (i.class ∷ map (λ (i : Constant). i.class) rest)) place (least x.faults)) (least rs)))
    (append_assoc faults i.faults (flat_map (λ (i : Constant). i.faults) rest))

abbrev items_beside : typing.Typed → List Lit → List Constant
items_beside x lits = map (λ (l : Lit). constant_beside x.class (constant_of l)) lits

abbrev classes_of : List Constant → List (Option cells.Class)
classes_of items = map (λ (i : Constant). i.class) items

abbrev cells_of : List Constant → List Cell
cells_of items = map (λ (i : Constant). i.cell) items

abbrev faults_of : List Constant → List Refusal
faults_of items = flat_map (λ (i : Constant). i.faults) items

pub list_seen : (x : typing.Typed) (place : ℕ) (lits : List Lit) → steps.among (typed x) place (listed.listing (class x.class) lits) ≡ typed (typing.in_list x place lits)
list_seen x place lits =
    ap (λ (cs : List made.Constant). steps.among (typed x) place (fold listed_on (listing_of (class x.class)) cs)) (constants-seen x.class lits)
    ∙ among-parts x place [] x.class true [] (items_beside x lits)
    ∙ ap (λ (k : Bool). steps.truth (is.InList x.bound (cells_of (items_beside x lits))) (sooner (refused k place (least x.faults)) (least (faults_of (items_beside x lits))))) (alike-all x.class (classes_of (items_beside x lits)))
    ∙ ap (λ (f : Option Refusal). steps.truth (is.InList x.bound (cells_of (items_beside x lits))) (sooner f (least (faults_of (items_beside x lits))))) (sym (least-append (unless (agree_all (x.class ∷ classes_of (items_beside x lits))) code.Types place) x.faults))
    ∙ ap (steps.truth (is.InList x.bound (cells_of (items_beside x lits)))) (sym (least-append (unless (agree_all (x.class ∷ classes_of (items_beside x lits))) code.Types place ++ x.faults) (faults_of (items_beside x lits))))
