-- Reading from a place in an entry to a later one: pieces that are read are spelled so, and pieces that are spelled are read.
use Rattle.std.proofs.Common.{◌≡◌, ℕ, ◌^◌, ◌<◌, ◌≤◌, List, [], ◌∷◌, ◌++◌, length, take, All, Ok, refl, sym, ap, subst, ◌∙◌, append_assoc, append-nil}
use Rattle.std.specs.List.{flat_map}
use Rattle.std.proofs.lemmas.List.Concat.{flat_map-append, flat_map-cons}
use Rattle.std.proofs.lemmas.List.Elements.{All-push, All-nil}
use Rattle.qd_base.specs.Dictionary.{AreDistinct}
use Rattle.qd_fields.specs.Layout.{items, each}
use Rattle.qd_fields.proofs.Steps.{AreBytes, Takes, items_keep, items_stand, flat_map-push, All-amid}
use Rattle.qd_wal_entry.specs.Spelling.{with_texts}
use Rattle.qd_wal_entry.specs.Writing.{AreShort}
use Rattle.qd_wal_entry.specs.Cursor.{Cursor, moved}
use Rattle.qd_wal_entry.specs.Layout.{ReadOn}
use Rattle.qd_wal_entry.proofs.DictionaryLemmas.{Texts, texts_then}

-- ---- what is read is spelled so

-- a place among distinct texts that are short enough
pub record IsPlace (at : Cursor) : Type 0 where
  pub distinct : AreDistinct at.texts
  pub short : AreShort at.texts
  pub within : at.used ≤ length at.texts
  pub rest_fits : AreBytes at.rest

-- from one place to another these texts were used, in bytes like this
pub record Moves (at to : Cursor) (texts : Texts) (text : List ℕ) : Type 0 where
  pub same : to.texts ≡ at.texts
  pub named : with_texts (take at.used at.texts) texts ≡ take to.used at.texts
  pub within : to.used ≤ length at.texts
  pub parts : at.rest ≡ text ++ to.rest
  pub rest_fits : AreBytes to.rest

pub place_after : (at to : Cursor) (xs : Texts) (t : List ℕ) → IsPlace at → Moves at to xs t → IsPlace to
place_after at to xs t p m = record {
  distinct = subst AreDistinct (sym m.same) p.distinct;
  short = subst AreShort (sym m.same) p.short;
  within = subst (λ (l : Texts). to.used ≤ length l) (sym m.same) m.within;
  rest_fits = m.rest_fits;
}

pub moves_none : (at : Cursor) → IsPlace at → Moves at at [] []
moves_none at p = record { same = refl; named = refl; within = p.within; parts = refl; rest_fits = p.rest_fits }

pub moves_past : (at : Cursor) (text rest : List ℕ) → IsPlace at → Takes at.rest text rest → Moves at (moved at rest) [] text
moves_past at text rest p t = record { same = refl; named = refl; within = p.within; parts = t.parts; rest_fits = t.rest_fits }

pub moves_then : (a b c : Cursor) (xs ys : Texts) (t u : List ℕ) → Moves a b xs t → Moves b c ys u → Moves a c (xs ++ ys) (t ++ u)
moves_then a b c xs ys t u p q = record {
  same = q.same ∙ p.same;
  named = texts_then (take a.used a.texts) xs ys ∙ ap (λ (l : Texts). with_texts l ys) p.named ∙ subst (λ (l : Texts). with_texts (take b.used l) ys ≡ take c.used l) p.same q.named;
  within = subst (λ (l : Texts). c.used ≤ length l) p.same q.within;
  parts = p.parts ∙ ap (λ (r : List ℕ). t ++ r) q.parts ∙ sym (append_assoc t u c.rest);
  rest_fits = q.rest_fits;
}

-- what a reader gives is spelled by the bytes that it goes past
abbrev pub GivesSpelled : {A : Type 0} → (Cursor → ReadOn A) → (A → Texts) → (Texts → A → List ℕ) → (A → Type 0) → Type 0
GivesSpelled {A} f texts_of spell Fits = (at : Cursor) (x : A × Cursor) → IsPlace at → f at ≡ Ok x → Moves at x.1 (texts_of x.0) (spell at.texts x.0) × Fits x.0

module _ {A : Type 0} (f : Cursor → ReadOn A) (texts_of : A → Texts) (spell : Texts → A → List ℕ) (Fits : A → Type 0) (one : GivesSpelled f texts_of spell Fits) where
  abbrev SoFar : Cursor → List A → Cursor → Type 0
  SoFar at before to = Moves at to (flat_map texts_of before) (flat_map (spell at.texts) before) × All Fits before

  one_more : (at : Cursor) (before : List A) (to : Cursor) (x : A × Cursor) → IsPlace at → SoFar at before to → f to ≡ Ok x → SoFar at (before ++ x.0 ∷ []) x.1
  one_more at before to x place have h =
      let s = one to x (place_after at to (flat_map texts_of before) (flat_map (spell at.texts) before) place have.0) h in
      let next : Moves to x.1 (texts_of x.0) (spell at.texts x.0) = subst (λ (l : Texts). Moves to x.1 (texts_of x.0) (spell l x.0)) have.0.same s.0 in
      let both = moves_then at to x.1 (flat_map texts_of before) (texts_of x.0) (flat_map (spell at.texts) before) (spell at.texts x.0) have.0 next in
      let named : Moves at x.1 (flat_map texts_of (before ++ x.0 ∷ [])) (flat_map (spell at.texts) before ++ spell at.texts x.0) = subst (λ (l : Texts). Moves at x.1 l (flat_map (spell at.texts) before ++ spell at.texts x.0)) (sym (flat_map-push texts_of before x.0)) both in
      (subst (λ (l : List ℕ). Moves at x.1 (flat_map texts_of (before ++ x.0 ∷ [])) l) (sym (flat_map-push (spell at.texts) before x.0)) named, All-push Fits before x.0 have.1 s.1)

  pub items_spelled : (n : ℕ) (at : Cursor) (y : List A × Cursor) → IsPlace at → items (each f) n [] at ≡ Ok y → Moves at y.1 (flat_map texts_of y.0) (flat_map (spell at.texts) y.0) × All Fits y.0 × (length y.0 ≡ n)
  items_spelled n at y place e =
      let r = items_keep (each f) (SoFar at) (λ before to x have h. one_more at before to x place have h) n at y (moves_none at place, All-nil Fits) e in
      (r.0.0, r.0.1, r.1)

-- ---- what is spelled is read

-- a place where these texts of all were used
abbrev pub standing : Texts → Texts → List ℕ → Cursor
standing all used rest = record { texts = all; used = length (with_texts [] used); rest = rest }

-- a reader reads what is spelled, wherever it stands
abbrev pub TakesSpelled : {A : Type 0} → (Cursor → ReadOn A) → (A → Texts) → (Texts → A → List ℕ) → (A → Type 0) → Type 0
TakesSpelled {A} f texts_of spell Fits = (all used later : Texts) (x : A) (rest : List ℕ) → Fits x → all ≡ with_texts [] (used ++ (texts_of x ++ later)) → length all < 2 ^ 32 → f (standing all used (spell all x ++ rest)) ≡ Ok (x, standing all (used ++ texts_of x) rest)

module _ {A : Type 0} (f : Cursor → ReadOn A) (texts_of : A → Texts) (spell : Texts → A → List ℕ) (Fits : A → Type 0) (one : TakesSpelled f texts_of spell Fits) where
  regrouped : (used later : Texts) (before : List A) (x : A) (after : List A) → used ++ (flat_map texts_of (before ++ x ∷ after) ++ later) ≡ (used ++ flat_map texts_of before) ++ (texts_of x ++ (flat_map texts_of after ++ later))
  regrouped used later before x after =
      let b = flat_map texts_of before in
      let split : flat_map texts_of (before ++ x ∷ after) ≡ b ++ (texts_of x ++ flat_map texts_of after) = flat_map-append texts_of before (x ∷ after) ∙ ap (λ (l : Texts). b ++ l) (flat_map-cons texts_of x after) in
      ap (λ (l : Texts). used ++ (l ++ later)) split
      ∙ ap (λ (l : Texts). used ++ l) (append_assoc b (texts_of x ++ flat_map texts_of after) later ∙ ap (λ (l : Texts). b ++ l) (append_assoc (texts_of x) (flat_map texts_of after) later))
      ∙ sym (append_assoc used b (texts_of x ++ (flat_map texts_of after ++ later)))

  pub items_taken : (all used later : Texts) (xs : List A) (rest : List ℕ) → All Fits xs → all ≡ with_texts [] (used ++ (flat_map texts_of xs ++ later)) → length all < 2 ^ 32 → items (each f) (length xs) [] (standing all used (flat_map (spell all) xs ++ rest)) ≡ Ok (xs, standing all (used ++ flat_map texts_of xs) rest)
  items_taken all used later xs rest fit is few =
      let stand : List A → List A → Cursor = λ before after. standing all (used ++ flat_map texts_of before) (flat_map (spell all) after ++ rest) in
      let begin : standing all used (flat_map (spell all) xs ++ rest) ≡ stand [] xs = ap (λ (l : Texts). standing all l (flat_map (spell all) xs ++ rest)) (sym (append-nil used)) in
      ap (items (each f) (length xs) []) begin ∙ items_stand (each f) xs stand (λ before x after e.
      let known : all ≡ with_texts [] ((used ++ flat_map texts_of before) ++ (texts_of x ++ (flat_map texts_of after ++ later))) = is ∙ ap (λ (l : List A). with_texts [] (used ++ (flat_map texts_of l ++ later))) e ∙ ap (with_texts []) (regrouped used later before x after) in
      let read = one all (used ++ flat_map texts_of before) (flat_map texts_of after ++ later) x (flat_map (spell all) after ++ rest) (All-amid Fits xs before x after e fit) known few in
      let front : flat_map (spell all) (x ∷ after) ++ rest ≡ spell all x ++ (flat_map (spell all) after ++ rest) = ap (λ (l : List ℕ). l ++ rest) (flat_map-cons (spell all) x after) ∙ append_assoc (spell all x) (flat_map (spell all) after) rest in
      let behind : (used ++ flat_map texts_of before) ++ texts_of x ≡ used ++ flat_map texts_of (before ++ x ∷ []) = append_assoc used (flat_map texts_of before) (texts_of x) ∙ ap (λ (l : Texts). used ++ l) (sym (flat_map-push texts_of before x)) in
      ap (λ (l : List ℕ). f (standing all (used ++ flat_map texts_of before) l)) front ∙ read ∙ ap (λ (l : Texts). Ok (x, standing all l (flat_map (spell all) after ++ rest))) behind)
