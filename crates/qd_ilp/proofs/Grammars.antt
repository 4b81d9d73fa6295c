-- What is read is spelled so, and what is spelled so is read.
use Rattle.std.proofs.Common.{◌≡◌, ℕ, Bool, true, false, List, [], ◌∷◌, drop, refl, sym, ap, subst, ◌∙◌, Option, Some, None, inl, inr}
use Rattle.std.specs.Prelude.{◌==◌, ◌⊎◌, if◌then◌else◌}
use Rattle.std.proofs.lemmas.Bool.{cases_Bool, eqb-true, eq-eqb}
use Rattle.qd_ilp.specs.Cut.{◌>>=◌, fronted, begins, is_special, is_quoted_special, escapes, stops, ends_word, cut, word, closed}
use Rattle.qd_ilp.specs.Grammar.{Name, QuotedByte, Quoted, Word}
use Rattle.qd_ilp.proofs.Numbers.{and_true}
use Rattle.qd_ilp.proofs.Cuts.{cut_stops, cut_goes, word_ends, word_goes}

-- ---- names

abbrev pub Cut : Type 0
Cut = List ℕ × List ℕ

abbrev pub cut_pair : List ℕ → List ℕ → Cut
cut_pair a b = (a, b)

pub name_of_text : (text : List ℕ) → Name text (cut false text).0 (cut false text).1
name_of_text [] = let P : Cut → Type 0 = λ c. Name [] c.0 c.1 in subst P (sym (cut_stops false [] refl)) (refl, refl)
name_of_text (b ∷ []) =
    let P : Cut → Type 0 = λ c. Name (b ∷ []) c.0 c.1 in
    elim (cases_Bool (stops (b ∷ []))) [
      | inl ends ↦ subst P (sym (cut_stops false (b ∷ []) ends)) (refl, ends)
      | inr goes ↦
          let one : cut false (b ∷ []) ≡ fronted (b ∷ []) (cut false []) = cut_goes false false b [] [] goes refl in
          subst P (sym one) ([], inr (refl, goes, refl), name_of_text [])
    ]
name_of_text (b ∷ c ∷ cs) =
    let text : List ℕ = b ∷ c ∷ cs in
    let P : Cut → Type 0 = λ d. Name (b ∷ c ∷ cs) d.0 d.1 in
    elim (cases_Bool (stops (b ∷ c ∷ cs))) [
      | inl ends ↦ subst P (sym (cut_stops false (b ∷ c ∷ cs) ends)) (refl, ends)
      | inr goes ↦
          elim (cases_Bool (escapes is_special (b ∷ c ∷ cs))) [
            | inl escape ↦
                let both = and_true (b == 92) (is_special c) escape in
                let backslash : b ≡ 92 = eqb-true b 92 both.0 in
                let one : cut false (b ∷ c ∷ cs) ≡ cut true (c ∷ cs) = cut_goes false true b (c ∷ cs) [] goes (sym escape) in
                let two : cut true (c ∷ cs) ≡ fronted (c ∷ []) (cut false cs) = cut_goes true false c cs [] refl refl in
                subst P (sym (one ∙ two)) (cs, inl (ap (λ (x : ℕ). let l : List ℕ = x ∷ c ∷ cs in l) backslash, both.1), name_of_text cs)
            | inr plain ↦
                let one : cut false (b ∷ c ∷ cs) ≡ fronted (b ∷ []) (cut false (c ∷ cs)) = cut_goes false false b (c ∷ cs) [] goes (sym plain) in
                subst P (sym one) (c ∷ cs, inr (refl, goes, plain), name_of_text (c ∷ cs))
          ]
    ]

pub name_is : (text name rest : List ℕ) → Name text name rest → cut false text ≡ (name, rest)
name_is text [] rest spelled = cut_stops false text spelled.1 ∙ ap (cut_pair []) spelled.0
name_is text (b ∷ name) rest spelled =
    elim spelled.1 [
      | inl escaped ↦
          let again = name_is spelled.0 name rest spelled.2 in
          let one : cut false (92 ∷ b ∷ spelled.0) ≡ cut true (b ∷ spelled.0) = cut_goes false true 92 (b ∷ spelled.0) [] refl (sym escaped.1) in
          let two : cut true (b ∷ spelled.0) ≡ fronted (b ∷ []) (cut false spelled.0) = cut_goes true false b spelled.0 [] refl refl in
          ap (cut false) escaped.0 ∙ one ∙ two ∙ ap (fronted (b ∷ [])) again
      | inr plain ↦
          let again = name_is spelled.0 name rest spelled.2 in
          let goes : stops (b ∷ spelled.0) ≡ false = ap stops (sym plain.0) ∙ plain.1 in
          let bare : escapes is_special (b ∷ spelled.0) ≡ false = ap (escapes is_special) (sym plain.0) ∙ plain.2 in
          ap (cut false) plain.0 ∙ cut_goes false false b spelled.0 [] goes (sym bare) ∙ ap (fronted (b ∷ [])) again
    ]

pub name_spelled : (text name rest : List ℕ) → cut false text ≡ (name, rest) → Name text name rest
name_spelled text name rest found = let P : Cut → Type 0 = λ c. Name text c.0 c.1 in subst P found (name_of_text text)

-- ---- values that are no texts

pub word_of_text : (text : List ℕ) → Word text (word text).0 (word text).1
word_of_text [] = let P : Cut → Type 0 = λ c. Word [] c.0 c.1 in subst P (sym (word_ends [] refl)) (refl, refl)
word_of_text (b ∷ bs) =
    let P : Cut → Type 0 = λ c. Word (b ∷ bs) c.0 c.1 in
    elim (cases_Bool (ends_word (b ∷ bs))) [
      | inl ends ↦ subst P (sym (word_ends (b ∷ bs) ends)) (refl, ends)
      | inr goes ↦ subst P (sym (word_goes b bs goes)) (bs, refl, goes, word_of_text bs)
    ]

pub word_is_cut : (text w rest : List ℕ) → Word text w rest → word text ≡ (w, rest)
word_is_cut text [] rest spelled = word_ends text spelled.1 ∙ ap (cut_pair []) spelled.0
word_is_cut text (b ∷ w) rest spelled =
    let goes : ends_word (b ∷ spelled.0) ≡ false = ap ends_word (sym spelled.1) ∙ spelled.2 in
    ap word spelled.1 ∙ word_goes b spelled.0 goes ∙ ap (fronted (b ∷ [])) (word_is_cut spelled.0 w rest spelled.3)

pub word_spelled : (text w rest : List ℕ) → word text ≡ (w, rest) → Word text w rest
word_spelled text w rest found = let P : Cut → Type 0 = λ c. Word text c.0 c.1 in subst P found (word_of_text text)

-- ---- choices and steps

pub chosen : {A : Type 0} (b : Bool) (x y z : A) → (if b then x else y) ≡ z → ((b ≡ true) × (x ≡ z)) ⊎ ((b ≡ false) × (y ≡ z))
chosen true x y z e = inl (refl, e)
chosen false x y z e = inr (refl, e)

abbrev pub some : {A : Type 0} → A → Option A
some x = Some x

abbrev pub none : {A : Type 0} → Option A
none = None

abbrev tuple : {A B : Type 0} → A → B → A × B
tuple a b = (a, b)

pub bound : {A B : Type 0} (o : Option A) (f : A → Option B) (y : B) → (o >>= f) ≡ some y → (x : A) × (o ≡ some x) × (f x ≡ some y)
bound (Some x) f y e = (x, refl, e)
bound None f y e = absurd cc

pub no_some : {A : Type 0} (y : A) → none ≡ some y → ⊥
no_some y e = cc

pub some_is : {A : Type 0} (x y : A) → some x ≡ some y → x ≡ y
some_is x y e = cc

pub some_both : {A B : Type 0} (a a' : A) (b b' : B) → some (tuple a b) ≡ some (tuple a' b') → (a ≡ a') × (b ≡ b')
some_both a a' b b' e = let same = some_is (tuple a b) (tuple a' b') e in (ap (λ p. p.0) same, ap (λ p. p.1) same)

pub begins_so : (b : ℕ) (text : List ℕ) → begins b text ≡ true → text ≡ b ∷ drop 1 text
begins_so b [] h = absurd cc
begins_so b (x ∷ xs) h = let same = eqb-true x b h in ap (λ (y : ℕ). let l : List ℕ = y ∷ xs in l) same

pub begins_is : (b : ℕ) (more : List ℕ) → begins b (b ∷ more) ≡ true
begins_is b more = eq-eqb b b refl

-- ---- quoted texts

closed_nothing : closed false [] ≡ none
unfolding closed
closed_nothing = refl

closed_quote : (b : ℕ) (bs : List ℕ) → (b == 34) ≡ true → closed false (b ∷ bs) ≡ some (cut_pair [] bs)
unfolding closed
closed_quote b bs h = rw h refl

abbrev led : ℕ → Option Cut → Option Cut
led b o = o >>= λ c. Some (fronted (b ∷ []) c)

closed_plain : (b : ℕ) (bs : List ℕ) → (b == 34) ≡ false → escapes is_quoted_special (b ∷ bs) ≡ false → closed false (b ∷ bs) ≡ led b (closed false bs)
unfolding closed
closed_plain b bs quote plain = rw (quote, plain) refl

closed_escape : (c : ℕ) (cs : List ℕ) → is_quoted_special c ≡ true → closed false (92 ∷ c ∷ cs) ≡ led c (closed false cs)
unfolding closed
closed_escape c cs h = rw h refl

led_some : (b : ℕ) (o : Option Cut) (t rest : List ℕ) → led b o ≡ some (cut_pair t rest) → (t' : List ℕ) × (o ≡ some (cut_pair t' rest)) × (t ≡ b ∷ t')
led_some b (Some c) t rest e =
    let both = some_both (b ∷ c.0) t c.1 rest e in
    (c.0, ap (λ (l : List ℕ). some (cut_pair c.0 l)) both.1, sym both.0)
led_some b None t rest e = absurd (no_some (cut_pair t rest) e)

quoted_from : (text t : List ℕ) (b : ℕ) (more rest : List ℕ) → QuotedByte text b more → ((t' : List ℕ) × Quoted more t' rest × (t ≡ b ∷ t')) → Quoted text t rest
quoted_from text t b more rest byte spelled =
    let P : List ℕ → Type 0 = λ l. Quoted text l rest in
    subst P (sym spelled.2) (more, byte, spelled.1)

quote_ends : (b : ℕ) (bs t rest : List ℕ) → (b == 34) ≡ true → some (cut_pair [] bs) ≡ some (cut_pair t rest) → Quoted (b ∷ bs) t rest
quote_ends b bs t rest quote e =
    let both = some_both [] t bs rest e in
    let same : b ∷ bs ≡ 34 ∷ rest = ap (λ (x : ℕ). let l : List ℕ = x ∷ bs in l) (eqb-true b 34 quote) ∙ ap (λ (l : List ℕ). let k : List ℕ = 34 ∷ l in k) both.1 in
    let P : List ℕ → Type 0 = λ l. Quoted (b ∷ bs) l rest in
    subst P both.0 same

pub quoted_spelled : (text t rest : List ℕ) → closed false text ≡ some (cut_pair t rest) → Quoted text t rest
quoted_spelled [] t rest e = absurd (no_some (cut_pair t rest) (sym closed_nothing ∙ e))
quoted_spelled (b ∷ []) t rest e =
    elim (cases_Bool (b == 34)) [
      | inl quote ↦ quote_ends b [] t rest quote (sym (closed_quote b [] quote) ∙ e)
      | inr other ↦
          let led = led_some b (closed false []) t rest (sym (closed_plain b [] other refl) ∙ e) in
          absurd (no_some (cut_pair led.0 rest) (sym closed_nothing ∙ led.1))
    ]
quoted_spelled (b ∷ c ∷ cs) t rest e =
    elim (cases_Bool (b == 34)) [
      | inl quote ↦ quote_ends b (c ∷ cs) t rest quote (sym (closed_quote b (c ∷ cs) quote) ∙ e)
      | inr other ↦
          elim (cases_Bool (escapes is_quoted_special (b ∷ c ∷ cs))) [
            | inl escape ↦
                let both = and_true (b == 92) (is_quoted_special c) escape in
                let backslash : b ∷ c ∷ cs ≡ 92 ∷ c ∷ cs = ap (λ (x : ℕ). let l : List ℕ = x ∷ c ∷ cs in l) (eqb-true b 92 both.0) in
                let led = led_some c (closed false cs) t rest (sym (closed_escape c cs both.1) ∙ ap (closed false) (sym backslash) ∙ e) in
                quoted_from (b ∷ c ∷ cs) t c cs rest (inl (backslash, both.1)) (led.0, quoted_spelled cs led.0 rest led.1, led.2)
            | inr plain ↦
                let led = led_some b (closed false (c ∷ cs)) t rest (sym (closed_plain b (c ∷ cs) other plain) ∙ e) in
                quoted_from (b ∷ c ∷ cs) t b (c ∷ cs) rest (inr (refl, other, plain)) (led.0, quoted_spelled (c ∷ cs) led.0 rest led.1, led.2)
          ]
    ]

pub quoted_is : (text t rest : List ℕ) → Quoted text t rest → closed false text ≡ some (cut_pair t rest)
quoted_is text [] rest spelled = ap (closed false) spelled ∙ closed_quote 34 rest refl
quoted_is text (b ∷ t) rest spelled =
    let again = quoted_is spelled.0 t rest spelled.2 in
    elim spelled.1 [
      | inl escaped ↦ ap (closed false) escaped.0 ∙ closed_escape b spelled.0 escaped.1 ∙ ap (led b) again
      | inr plain ↦
          let bare : escapes is_quoted_special (b ∷ spelled.0) ≡ false = ap (escapes is_quoted_special) (sym plain.0) ∙ plain.2 in
          ap (closed false) plain.0 ∙ closed_plain b spelled.0 plain.1 bare ∙ ap (led b) again
    ]
