-- Expressions of several parts as far as they are read.
use Rattle.std.proofs.Common.{◌≡◌, ℕ, suc, ◌+◌, ◌<◌, Bool, true, false, true≢false, ◌↔◌, IsTrue, drop, arith, drop-cons, ◌&&◌, List, [], ◌∷◌, ◌++◌, map, length, take, get_or, Option, Some, None, refl, sym, ap, ap₂, ◌∙◌, append-nil, append_assoc}
use Rattle.std.proofs.lemmas.List.{map-append, take_more}
use Rattle.qd_base.specs.declared.code.Code.TheVariants as code
use Rattle.qd_value.specs.Cells as cells
use Rattle.qd_value.specs.Cells.{number, truth}
use Rattle.qd_value.specs.declared.bound.Arithmetic.{Arithmetic}
use Rattle.qd_value.specs.declared.bound.Bound.{Bound}
use Rattle.qd_value.specs.declared.bound.Operand.{Operand}
use Rattle.qd_meaning.specs.declared.refusal.Refusal.{Refusal}
use Rattle.qd_meaning.specs.Refusals.{least, sooner, unless}
use Rattle.qd_meaning.specs.Typing as typing
use Rattle.qd_meaning.specs.Typing.{Link, Part, operand, part_bound, chain_faults, truth_faults, fits}
use Rattle.qd_bind.specs.declared.chains.Chain.{Chain}
use Rattle.qd_bind.specs.declared.chains.Junction.{Junction}
use Rattle.qd_bind.specs.declared.class.Class.{Class}
use Rattle.qd_bind.specs.Joined.{chain_link, chained, join_part, joined}
use Rattle.qd_bind.specs.Seen.{class, typed}
use Rattle.qd_bind.specs.Steps as steps
use Rattle.qd_bind.specs.Steps.{agrees, refused}
use Rattle.qd_bind.proofs.PartLemmas.{least-append}
use Rattle.qd_bind.proofs.StepLemmas.{agrees-seen}

-- the class of what is read: that of the first part, or what the operators give
abbrev pub behind : {A : Type 0} → cells.Class → Option cells.Class → List A → Option cells.Class
behind k c [] = c
behind k c (x ∷ xs) = Some k

behind-more : {A : Type 0} (k : cells.Class) (c : Option cells.Class) (xs : List A) (x : A) → behind k c (xs ++ x ∷ []) ≡ Some k
behind-more k c [] x = refl
behind-more k c (y ∷ ys) x = refl

refused-both : (k : cells.Class) (c d : Option cells.Class) (place : ℕ) (faults : List Refusal)
    → refused (agrees (class (Some k)) (class c) && agrees (class (Some k)) (class d)) place (least faults) ≡ least (unless (fits k c && fits k d) code.Types place ++ faults)
refused-both k c d place faults =
    ap (λ (b : Bool). refused b place (least faults)) (ap₂ (λ (x y : Bool). x && y) (agrees-seen (Some k) c) (agrees-seen (Some k) d))
    ∙ sym (least-append (unless (fits k c && fits k d) code.Types place) faults)

-- ---- chains of operators

abbrev link_faults : Option cells.Class → Link → List Refusal
link_faults left l = unless (fits number left && fits number l.2.class) code.Types l.1 ++ l.2.faults

chain-more : (c : Option cells.Class) (ls : List Link) (l : Link) → chain_faults c (ls ++ l ∷ []) ≡ chain_faults c ls ++ link_faults (behind number c ls) l
chain-more c [] l = append-nil (link_faults c l)
chain-more c (k ∷ ks) l =
    ap (λ (rest : List Refusal). link_faults c k ++ rest) (chain-more (Some number) ks l ∙ ap (λ (d : Option cells.Class). chain_faults (Some number) ks ++ link_faults d l) (numbers ks))
    ∙ sym (append_assoc (link_faults c k) (chain_faults (Some number) ks) (link_faults (Some number) l))
  where
    numbers : (ks : List Link) → behind number (Some number) ks ≡ Some number
    numbers [] = refl
    numbers (k ∷ ks) = refl

-- what a chain is, as far as it is read
abbrev pub chain_seen : typing.Typed → List Link → Chain
chain_seen x ls = record {
  first = x.bound;
  operands = map operand ls;
  class = class (behind number x.class ls);
  fault = least (x.faults ++ chain_faults x.class ls);
}

pub chain-begun : (x : typing.Typed) → steps.chain_of (typed x) ≡ chain_seen x []
chain-begun x = ap (λ (rs : List Refusal). record (chain_seen x []) { fault = least rs }) (sym (append-nil x.faults))

abbrev chain_by : Bound → List Operand → Class → Option Refusal → Chain
chain_by first operands class fault = record { first = first; operands = operands; class = class; fault = fault }

-- the refusal of a chain with one more link, from those of the chain and of what stands behind the link's sign
abbrev fault_behind : typing.Typed → List Link → Link → Option Refusal
fault_behind x ls l = sooner (least (x.faults ++ chain_faults x.class ls)) (refused (agrees (class (Some number)) (class (behind number x.class ls)) && agrees (class (Some number)) (class l.2.class)) l.1 (least l.2.faults))

faults-behind : (x : typing.Typed) (ls : List Link) (l : Link) → fault_behind x ls l ≡ least (x.faults ++ chain_faults x.class (ls ++ l ∷ []))
faults-behind x ls l =
    ap (λ (r : Option Refusal). sooner (least (x.faults ++ chain_faults x.class ls)) r) (refused-both number (behind number x.class ls) l.2.class l.1 l.2.faults)
    ∙ sym (least-append (x.faults ++ chain_faults x.class ls) (link_faults (behind number x.class ls) l))
    ∙ ap least (append_assoc x.faults (chain_faults x.class ls) (link_faults (behind number x.class ls) l))
    ∙ ap (λ (rs : List Refusal). least (x.faults ++ rs)) (sym (chain-more x.class ls l))

pub chain-pushed : (x : typing.Typed) (ls : List Link) (l : Link) → steps.chained_on (chain_seen x ls) l.0 l.1 (typed l.2) ≡ chain_seen x (ls ++ l ∷ [])
chain-pushed x ls l =
    ap (λ (os : List Operand). chain_by x.bound os (class (Some number)) (fault_behind x ls l)) (sym (map-append operand ls (l ∷ [])))
    ∙ ap (λ (c : Option cells.Class). chain_by x.bound (map operand (ls ++ l ∷ [])) (class c) (fault_behind x ls l)) (sym (behind-more number x.class ls l))
    ∙ ap (λ (f : Option Refusal). chain_by x.bound (map operand (ls ++ l ∷ [])) (class (behind number x.class (ls ++ l ∷ []))) f) (faults-behind x ls l)

chain-rest : (x : typing.Typed) (done ls : List Link) → chained (chain_seen x done) ls ≡ chain_seen x (done ++ ls)
chain-rest x done [] = ap (chain_seen x) (sym (append-nil done))
chain-rest x done (l ∷ ls) =
    ap (λ (c : Chain). chained c ls) (chain-pushed x done l) ∙ chain-rest x (done ++ l ∷ []) ls ∙ ap (chain_seen x) (append_assoc done (l ∷ []) ls)

pub chain_whole : {A : Type 0} (link : A → Link) (x : typing.Typed) (parts : List A) → (parts ≡ [] → ⊥)
    → steps.chain_typed (chained (steps.chain_of (typed x)) (map link parts)) ≡ typed (typing.chained x (map link parts))
chain_whole link x [] some = absurd (some refl)
chain_whole link x (p ∷ ps) some = ap (λ (c : Chain). steps.chain_typed (chained c (map link (p ∷ ps)))) (chain-begun x) ∙ ap steps.chain_typed (chain-rest x [] (map link (p ∷ ps)))

pub chain_none : {A : Type 0} (link : A → Link) (x : typing.Typed) (parts : List A) → parts ≡ [] → typed x ≡ typed (typing.chained x (map link parts))
chain_none link x [] none = refl
chain_none link x (p ∷ ps) none = absurd (cc)

-- ---- AND and OR

abbrev part_faults : Option cells.Class → Part → List Refusal
part_faults left p = unless (fits truth left && fits truth p.1.class) code.Types p.0 ++ p.1.faults

junction-more : (c : Option cells.Class) (ps : List Part) (p : Part) → truth_faults c (ps ++ p ∷ []) ≡ truth_faults c ps ++ part_faults (behind truth c ps) p
junction-more c [] p = append-nil (part_faults c p)
junction-more c (q ∷ qs) p =
    ap (λ (rest : List Refusal). part_faults c q ++ rest) (junction-more (Some truth) qs p ∙ ap (λ (d : Option cells.Class). truth_faults (Some truth) qs ++ part_faults d p) (truths qs))
    ∙ sym (append_assoc (part_faults c q) (truth_faults (Some truth) qs) (part_faults (Some truth) p))
  where
    truths : (qs : List Part) → behind truth (Some truth) qs ≡ Some truth
    truths [] = refl
    truths (q ∷ qs) = refl

-- what parts that a word joins are, as far as they are read
abbrev pub junction_seen : typing.Typed → List Part → Junction
junction_seen x ps = record {
  parts = x.bound ∷ map part_bound ps;
  class = class (behind truth x.class ps);
  fault = least (x.faults ++ truth_faults x.class ps);
}

pub junction-begun : (x : typing.Typed) → steps.junction_of (typed x) ≡ junction_seen x []
junction-begun x = ap (λ (rs : List Refusal). record (junction_seen x []) { fault = least rs }) (sym (append-nil x.faults))

abbrev junction_by : List Bound → Class → Option Refusal → Junction
junction_by parts class fault = record { parts = parts; class = class; fault = fault }

-- the refusal of joined parts with one more, likewise
abbrev fault_beside : typing.Typed → List Part → Part → Option Refusal
fault_beside x ps p = sooner (least (x.faults ++ truth_faults x.class ps)) (refused (agrees (class (Some truth)) (class (behind truth x.class ps)) && agrees (class (Some truth)) (class p.1.class)) p.0 (least p.1.faults))

faults-beside : (x : typing.Typed) (ps : List Part) (p : Part) → fault_beside x ps p ≡ least (x.faults ++ truth_faults x.class (ps ++ p ∷ []))
faults-beside x ps p =
    ap (λ (r : Option Refusal). sooner (least (x.faults ++ truth_faults x.class ps)) r) (refused-both truth (behind truth x.class ps) p.1.class p.0 p.1.faults)
    ∙ sym (least-append (x.faults ++ truth_faults x.class ps) (part_faults (behind truth x.class ps) p))
    ∙ ap least (append_assoc x.faults (truth_faults x.class ps) (part_faults (behind truth x.class ps) p))
    ∙ ap (λ (rs : List Refusal). least (x.faults ++ rs)) (sym (junction-more x.class ps p))

pub junction-pushed : (x : typing.Typed) (ps : List Part) (p : Part) → steps.joined_on (junction_seen x ps) p.0 (typed p.1) ≡ junction_seen x (ps ++ p ∷ [])
junction-pushed x ps p =
    ap (λ (bs : List Bound). junction_by (x.bound ∷ bs) (class (Some truth)) (fault_beside x ps p)) (sym (map-append part_bound ps (p ∷ [])))
    ∙ ap (λ (c : Option cells.Class). junction_by (x.bound ∷ map part_bound (ps ++ p ∷ [])) (class c) (fault_beside x ps p)) (sym (behind-more truth x.class ps p))
    ∙ ap (λ (f : Option Refusal). junction_by (x.bound ∷ map part_bound (ps ++ p ∷ [])) (class (behind truth x.class (ps ++ p ∷ []))) f) (faults-beside x ps p)

junction-rest : (x : typing.Typed) (done ps : List Part) → joined (junction_seen x done) ps ≡ junction_seen x (done ++ ps)
junction-rest x done [] = ap (junction_seen x) (sym (append-nil done))
junction-rest x done (p ∷ ps) =
    ap (λ (j : Junction). joined j ps) (junction-pushed x done p) ∙ junction-rest x (done ++ p ∷ []) ps ∙ ap (junction_seen x) (append_assoc done (p ∷ []) ps)

pub junction_whole : {A : Type 0} (part : A → Part) (make : List Bound → Bound) (x : typing.Typed) (parts : List A) → (parts ≡ [] → ⊥)
    → steps.junction_typed make (joined (steps.junction_of (typed x)) (map part parts)) ≡ typed (typing.joined_by make x (map part parts))
junction_whole part make x [] some = absurd (some refl)
junction_whole part make x (p ∷ ps) some =
    ap (λ (j : Junction). steps.junction_typed make (joined j (map part (p ∷ ps)))) (junction-begun x) ∙ ap (steps.junction_typed make) (junction-rest x [] (map part (p ∷ ps)))

pub junction_none : {A : Type 0} (part : A → Part) (make : List Bound → Bound) (x : typing.Typed) (parts : List A) → parts ≡ [] → typed x ≡ typed (typing.joined_by make x (map part parts))
junction_none part make x [] none = refl
junction_none part make x (p ∷ ps) none = absurd (cc)

-- ---- one part more

front : {A : Type 0} (parts : List A) (i : ℕ) (p : A) → i < length parts → p ≡ get_or parts i p → p ∷ drop (i + 1) parts ≡ drop i parts
front {A} parts i p lt e =
    let next : suc i ≡ i + 1 = omega arith in
    ap (λ (q : A). q ∷ drop (i + 1) parts) e ∙ ap (λ (k : ℕ). get_or parts i p ∷ drop k parts) (sym next) ∙ sym (drop-cons parts i p lt)

pub chain_step : {A : Type 0} (link : A → Link) (found whole : Chain) (parts : List A) (i : ℕ) (p : A) (next : Chain) → i < length parts → p ≡ get_or parts i p → next ≡ chain_link found (link p)
    → chained found (map link (drop i parts)) ≡ whole → chained next (map link (drop (i + 1) parts)) ≡ whole
chain_step {A} link found whole parts i p next lt is e inv =
    ap (λ (c : Chain). chained c (map link (drop (i + 1) parts))) e ∙ ap (λ (xs : List A). chained found (map link xs)) (front parts i p lt is) ∙ inv

pub junction_step : {A : Type 0} (part : A → Part) (found whole : Junction) (parts : List A) (i : ℕ) (p : A) (next : Junction) → i < length parts → p ≡ get_or parts i p → next ≡ join_part found (part p)
    → joined found (map part (drop i parts)) ≡ whole → joined next (map part (drop (i + 1) parts)) ≡ whole
junction_step {A} part found whole parts i p next lt is e inv =
    ap (λ (j : Junction). joined j (map part (drop (i + 1) parts))) e ∙ ap (λ (xs : List A). joined found (map part xs)) (front parts i p lt is) ∙ inv

-- a list that a test doesn't find empty
pub not_empty : {A : Type 0} (xs : List A) (b : Bool) → (IsTrue b ↔ (xs ≡ [])) → b ≡ false → xs ≡ [] → ⊥
not_empty xs true k e none = absurd (true≢false e)
not_empty xs false k e none = absurd (true≢false (sym (k.1 none)))
