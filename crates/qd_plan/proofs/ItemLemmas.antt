-- What items are made of, one more after others.
use Rattle.std.proofs.Common.{◌≡◌, ℕ, suc, ◌+◌, Bool, true, false, if◌then◌else◌, eqb, List, [], ◌∷◌, ◌++◌, length, Option, Some, None, refl, sym, ap, ap₂, ◌∙◌, arith, append-nil, add-zero, zero-add}
use Rattle.std.specs.List.{flat_map}
use Rattle.std.proofs.lemmas.List.{map-append}
use Rattle.std.proofs.lemmas.Grind.{flat_map-append}
use Rattle.qd_base.specs.declared.schema.Col.{Col}
use Rattle.qd_base.specs.declared.schema.ColType.{ColType}
use Rattle.qd_value.specs.declared.bound.Bound.{Bound}
use Rattle.qd_meaning.specs.declared.parts.Agg.{Agg}
use Rattle.qd_meaning.specs.Typing.{Form, Plain, TextAt, NumberAt, Other}
use Rattle.qd_meaning.specs.Outputs.{made_new}
use Rattle.qd_meaning.specs.Items.{Part, Value, Made, Shows, Role, Start, Key, Makes, aggs_among, is_made, keys_among, role_by, role_of}
use Rattle.qd_meaning.specs.Items as items
use Rattle.qd_plan.specs.declared.work.Parts.{Parts}
use Rattle.qd_plan.specs.declared.work.Role as held
use Rattle.qd_plan.specs.declared.work.Role.TheVariants as role
use Rattle.qd_plan.specs.Names.{names}
use Rattle.qd_plan.specs.Showing.{agg_in, key_in, kind_in, part_seen, role_seen, roles, seat_of, seats_from}
use Rattle.qd_plan.specs.Showing as spec
use Rattle.qd_plan.proofs.OutLemmas.{columns_more}

-- ---- roles

chosen : (b : Bool) (e : Bound) → (if b then role.Start else role.Key e) ≡ role_seen (if b then Start else Key e)
chosen true e = refl
chosen false e = refl

role_form : (buckets : Option ℕ) (f : Form) (e : Bound) → spec.role_by buckets (part_seen (Value (record { class = None; bound = e; form = f; faults = [] }))) ≡ role_seen (role_by buckets f e)
role_form None f e = refl
role_form (Some t) (Plain n col) e = chosen (eqb n t) e
role_form (Some t) (TextAt bytes place) e = refl
role_form (Some t) (NumberAt n signed place) e = refl
role_form (Some t) Other e = refl

pub role_same : (buckets : Option ℕ) (p : Part) → spec.role_by buckets (part_seen p) ≡ role_seen (role_of buckets p)
role_same buckets (Value x) = role_form buckets x.form x.bound
role_same buckets (Made a) = refl

key_same : (r : Role) → key_in (role_seen r) ≡ items.key_in r
key_same Start = refl
key_same (Key e) = refl
key_same (Makes a) = refl

agg_same : (r : Role) → agg_in (role_seen r) ≡ items.agg_in r
agg_same Start = refl
agg_same (Key e) = refl
agg_same (Makes a) = refl

kind_chosen : (k : ColType) (b : Bool) (e : Bound) → kind_in k (role_seen (if b then Start else Key e)) ≡ []
kind_chosen k true e = refl
kind_chosen k false e = refl

kind_form : (k : ColType) (buckets : Option ℕ) (f : Form) (e : Bound) → kind_in k (role_seen (role_by buckets f e)) ≡ []
kind_form k None f e = refl
kind_form k (Some t) (Plain n col) e = kind_chosen k (eqb n t) e
kind_form k (Some t) (TextAt bytes place) e = refl
kind_form k (Some t) (NumberAt n signed place) e = refl
kind_form k (Some t) Other e = refl

abbrev pub made_kind : ColType → Part → List ColType
made_kind k p = if is_made p then k ∷ [] else []

kind_same : (k : ColType) (buckets : Option ℕ) (p : Part) → kind_in k (role_seen (role_of buckets p)) ≡ made_kind k p
kind_same k buckets (Value x) = kind_form k buckets x.form x.bound
kind_same k buckets (Made a) = refl

-- ---- one more item

flat_one : {A B : Type 0} (f : A → List B) (xs : List A) (x : A) → flat_map f xs ++ f x ≡ flat_map f (xs ++ x ∷ [])
flat_one f xs x = ap (λ (ys : List _). flat_map f xs ++ ys) (sym (append-nil (f x))) ∙ sym (flat_map-append f xs (x ∷ []))

seat_first : (k a : ℕ) (r : Role) → seats_from k a (r ∷ []) ≡ seat_of (k + 0) (a + 0) (role_seen r) ∷ []
seat_first k a Start = refl
seat_first k a (Key e) = ap (λ (n : ℕ). seat_of n a (role.Key e) ∷ []) (sym (add-zero k))
seat_first k a (Makes g) = ap (λ (n : ℕ). seat_of k n (role.Makes g) ∷ []) (sym (add-zero a))

shifted : (k n : ℕ) → k + suc n ≡ (k + 1) + n
shifted k n = omega arith

seats_more : (k a : ℕ) (rs : List Role) (r : Role) → seats_from k a rs ++ seat_of (k + length (keys_among rs)) (a + length (aggs_among rs)) (role_seen r) ∷ [] ≡ seats_from k a (rs ++ r ∷ [])
seats_more k a [] r = sym (seat_first k a r)
seats_more k a (Start ∷ rs) r = ap (λ (ss : List _). seat_of k a role.Start ∷ ss) (seats_more k a rs r)
seats_more k a (Key e ∷ rs) r =
    ap (λ (n : ℕ). seat_of k a (role.Key e) ∷ (seats_from (k + 1) a rs ++ seat_of n (a + length (aggs_among rs)) (role_seen r) ∷ [])) (shifted k (length (keys_among rs)))
    ∙ ap (λ (ss : List _). seat_of k a (role.Key e) ∷ ss) (seats_more (k + 1) a rs r)
seats_more k a (Makes g ∷ rs) r =
    ap (λ (n : ℕ). seat_of k a (role.Makes g) ∷ (seats_from k (a + 1) rs ++ seat_of (k + length (keys_among rs)) n (role_seen r) ∷ [])) (shifted a (length (aggs_among rs)))
    ∙ ap (λ (ss : List _). seat_of k a (role.Makes g) ∷ ss) (seats_more k (a + 1) rs r)

module _ (buckets : Option ℕ) (shown : List Shows) (s : Shows) (old new : Parts) where
  abbrev r : Role
  r = role_of buckets s.part

  abbrev before : List Role
  before = roles buckets shown

  abbrev after : List Role
  after = roles buckets (shown ++ s ∷ [])

  all_after : before ++ r ∷ [] ≡ after
  all_after = sym (map-append (λ (i : Shows). role_of buckets i.part) shown (s ∷ []))

  pub makes_more : (h : held.Role) → h ≡ role_seen r → spec.Makes buckets shown old
      → new.keys ≡ old.keys ++ key_in h → new.aggs ≡ old.aggs ++ agg_in h → new.kinds ≡ old.kinds ++ kind_in s.kind h
      → new.seats ≡ old.seats ++ seat_of (length old.keys) (length old.aggs) h ∷ []
      → new.out ≡ old.out ++ record { name = made_new (names old.out) s.name; kind = s.kind } ∷ [] → spec.Makes buckets (shown ++ s ∷ []) new
  makes_more h is m keys aggs kinds seats out = record {
    keys =
        keys ∙ ap₂ (λ (xs ys : List Bound). xs ++ ys) m.keys (ap key_in is ∙ key_same r) ∙ flat_one items.key_in before r ∙ ap keys_among all_after;
    aggs =
        aggs ∙ ap₂ (λ (xs ys : List Agg). xs ++ ys) m.aggs (ap agg_in is ∙ agg_same r) ∙ flat_one items.agg_in before r ∙ ap aggs_among all_after;
    kinds =
        kinds ∙ ap₂ (λ (xs ys : List ColType). xs ++ ys) m.kinds (ap (kind_in s.kind) is ∙ kind_same s.kind buckets s.part)
        ∙ flat_one (λ (i : Shows). if is_made i.part then i.kind ∷ [] else []) shown s;
    seats =
        seats
        ∙ ap₂ (λ (xs : List _) (h' : held.Role). xs ++ seat_of (length old.keys) (length old.aggs) h' ∷ []) m.seats is
        ∙ ap₂ (λ (k a : ℕ). seats_from 0 0 before ++ seat_of k a (role_seen r) ∷ []) (ap length m.keys ∙ sym (zero-add (length (keys_among before)))) (ap length m.aggs ∙ sym (zero-add (length (aggs_among before))))
        ∙ seats_more 0 0 before r
        ∙ ap (seats_from 0 0) all_after;
    out = out ∙ ap (λ (cs : List Col). cs ++ record { name = made_new (names cs) s.name; kind = s.kind } ∷ []) m.out ∙ columns_more shown s;
  }
