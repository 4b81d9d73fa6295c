-- Reading step by step: what a step that was not refused gave, and items one after another.
use Rattle.std.proofs.Common.{◌≡◌, ℕ, zero, suc, ◌+◌, ◌-◌, ◌^◌, ◌<◌, ◌≤◌, Bool, true, false, cond, ltb, List, [], ◌∷◌, ◌++◌, length, get_or, take, drop, Result, Ok, Err, Option, Some, None, All, refl, sym, ap, subst, ◌∙◌, inl, inr, append_assoc, append-nil, arith}
use Rattle.std.specs.List.{flat_map, find}
use Rattle.std.specs.Int.{Width, w16, w32, w64, byte_len, from_le_bytes, to_le_bytes}
use Rattle.std.proofs.lemmas.Bool.{cases_lt, ltb-false, le-ltb}
use Rattle.std.proofs.lemmas.List.{take_at, drop_at, take-append-drop, length-append, length-take, get_or-drop, get_or-take, get_or_past, get_or_at, length_push}
use Rattle.std.proofs.lemmas.List.Concat.{flat_map-append, flat_map-cons}
use Rattle.std.proofs.lemmas.Nat.{le_bytes_2, le_bytes_4, le_bytes_8, from_le_bytes-to_le_bytes_2, from_le_bytes-to_le_bytes_4, from_le_bytes-to_le_bytes_8}
use Rattle.qd_fields.specs.declared.stop.Stop.{Stop}
use Rattle.qd_fields.specs.declared.stop.Stop.TheVariants as stop
use Rattle.qd_fields.specs.Layout.{Read, ◌>>=◌, kept, coded, meaning, items, number_at, byte_at, behind, name_at, text_at}
use Rattle.qd_fields.specs.Spelling.{u16_bytes, name_bytes, text_bytes}
use Rattle.qd_fields.specs.Reading.{Fails}

-- bytes, each below 256
abbrev pub AreBytes : List ℕ → Type 0
AreBytes bytes = (i : ℕ) → get_or bytes i 0 < 256

pub bytes-drop : (n : ℕ) (bytes : List ℕ) → AreBytes bytes → AreBytes (drop n bytes)
bytes-drop n bytes h i = rw get_or-drop (h (n + i))

pub bytes-take : (n : ℕ) (bytes : List ℕ) → AreBytes bytes → AreBytes (take n bytes)
bytes-take n bytes h i =
    elim (cases_lt i n) [
      | inl lt ↦ rw (get_or-take n bytes i 0 lt) (h i)
      | inr le ↦ rw (get_or_past (take n bytes) i 0 (omega (arith, length-take n bytes))) (omega arith)
    ]

-- ---- steps

pub bind_ok : {A B : Type 0} (r : Result A ℕ) (f : A → Result B ℕ) (y : B) → (r >>= f) ≡ Ok y → (x : A) × (r ≡ Ok x) × (f x ≡ Ok y)
bind_ok (Ok x) f y e = (x, refl, e)
bind_ok (Err left) f y e = absurd cc

pub bind_again : {A B : Type 0} (r : Result A ℕ) (f : A → Result B ℕ) (x : A) (y : B) → r ≡ Ok x → f x ≡ Ok y → (r >>= f) ≡ Ok y
bind_again r f x y e h = rw e h

abbrev done : {A : Type 0} → A → Result A ℕ
done x = Ok x

pub ok_is : {A : Type 0} (x y : A) → done x ≡ done y → x ≡ y
ok_is x y e = cc

-- a test that did not fail
pub test_ok : {A : Type 0} (b : Bool) (left : ℕ) (x y : A) → cond b (Ok x) (Err left) ≡ Ok y → (b ≡ true) × (x ≡ y)
test_ok true left x y e = (refl, cc)
test_ok false left x y e = absurd cc

pub guard_ok : {A : Type 0} (b : Bool) (left : ℕ) (x y : A) → cond b (Err left) (Ok x) ≡ Ok y → (b ≡ false) × (x ≡ y)
guard_ok true left x y e = absurd cc
guard_ok false left x y e = (refl, cc)

pub kept_ok : {A : Type 0} (rule : A → Bool) (bytes : List ℕ) (read : Read A) (y : A × List ℕ) → kept rule bytes read ≡ Ok y → (read ≡ Ok y) × (rule y.0 ≡ true)
kept_ok {A} rule bytes (Err left) y e = absurd cc
kept_ok {A} rule bytes (Ok x) y e =
    let t = test_ok (rule x.0) (length bytes) x y e in
    (ap (λ (p : A × List ℕ). Ok p) t.1, ap (λ (p : A × List ℕ). rule p.0) (sym t.1) ∙ t.0)

pub kept_again : {A : Type 0} (rule : A → Bool) (bytes : List ℕ) (read : Read A) (y : A × List ℕ) → read ≡ Ok y → rule y.0 ≡ true → kept rule bytes read ≡ Ok y
kept_again rule bytes read y e h = rw (e, h) refl

meaning_ok : {A : Type 0} (bytes : List ℕ) (o : Option A) (rest : List ℕ) (y : A × List ℕ) → meaning bytes o rest ≡ Ok y → (o ≡ Some y.0) × (rest ≡ y.1)
meaning_ok {A} bytes None rest y e = absurd cc
meaning_ok {A} bytes (Some a) rest y e =
    let p = ok_is (a, rest) y e in
    (ap (λ (q : A × List ℕ). Some q.0) p, ap (λ (q : A × List ℕ). q.1) p)

pub coded_ok : {A : Type 0} (f : ℕ → Option A) (bytes : List ℕ) (read : Read ℕ) (y : A × List ℕ) → coded f bytes read ≡ Ok y → (code : ℕ) × (read ≡ Ok (code, y.1)) × (f code ≡ Some y.0)
coded_ok f bytes (Err left) y e = absurd cc
coded_ok f bytes (Ok x) y e =
    let m = meaning_ok bytes (f x.0) x.1 y e in
    (x.0, ap (λ (r : List ℕ). Ok (x.0, r)) m.1, m.0)

pub coded_again : {A : Type 0} (f : ℕ → Option A) (bytes : List ℕ) (read : Read ℕ) (code : ℕ) (a : A) (rest : List ℕ) → read ≡ Ok (code, rest) → f code ≡ Some a → coded f bytes read ≡ Ok (a, rest)
coded_again f bytes read code a rest e h = rw (e, h) refl

-- what a reader took from the front
pub record Takes (bytes text rest : List ℕ) : Type 0 where
  pub parts : bytes ≡ text ++ rest
  pub rest_fits : AreBytes rest

pub Takes-then : (a x b y c : List ℕ) → Takes a x b → Takes b y c → Takes a (x ++ y) c
Takes-then a x b y c p q = record { parts = p.parts ∙ ap (λ (t : List ℕ). x ++ t) q.parts ∙ sym (append_assoc x y c); rest_fits = q.rest_fits }

-- ---- numbers

pub record IsWide (w : Width) (limit : ℕ) : Type 0 where
  pub len : (n : ℕ) → length (to_le_bytes w n) ≡ byte_len w
  pub back : (bytes : List ℕ) → length bytes ≡ byte_len w → AreBytes bytes → to_le_bytes w (from_le_bytes w bytes) ≡ bytes
  pub again : (n : ℕ) → n < limit → from_le_bytes w (to_le_bytes w n) ≡ n
  pub below : (bytes : List ℕ) → AreBytes bytes → from_le_bytes w bytes < limit

pub wide16 : IsWide w16 (2 ^ 16)
wide16 = record {
  len = λ n. refl;
  back = λ bytes len fits. le_bytes_2 bytes _ len fits refl;
  again = λ n lt. from_le_bytes-to_le_bytes_2 n lt;
  below = λ bytes fits. omega (arith, fits 0, fits 1);
}

pub wide32 : IsWide w32 (2 ^ 32)
wide32 = record {
  len = λ n. refl;
  back = λ bytes len fits. le_bytes_4 bytes _ len fits refl;
  again = λ n lt. from_le_bytes-to_le_bytes_4 n lt;
  below = λ bytes fits. omega (arith, fits 0, fits 1, fits 2, fits 3);
}

pub wide64 : IsWide w64 (2 ^ 64)
wide64 = record {
  len = λ n. refl;
  back = λ bytes len fits. le_bytes_8 bytes _ len fits refl;
  again = λ n lt. from_le_bytes-to_le_bytes_8 n lt;
  below = λ bytes fits. omega (arith, fits 0, fits 1, fits 2, fits 3, fits 4, fits 5, fits 6, fits 7);
}

pub number_takes : (w : Width) (limit : ℕ) (wide : IsWide w limit) (bytes : List ℕ) (n : ℕ) (rest : List ℕ) → AreBytes bytes → number_at w bytes ≡ Ok (n, rest) → Takes bytes (to_le_bytes w n) rest × (n < limit)
number_takes w limit wide bytes n rest fits e =
    let g = guard_ok (ltb (length bytes) (byte_len w)) 0 (from_le_bytes w (take (byte_len w) bytes), drop (byte_len w) bytes) (n, rest) e in
    let long : byte_len w ≤ length bytes = ltb-false _ _ g.0 in
    let n-is : from_le_bytes w (take (byte_len w) bytes) ≡ n = ap (λ (p : ℕ × List ℕ). p.0) g.1 in
    let rest-is : drop (byte_len w) bytes ≡ rest = ap (λ (p : ℕ × List ℕ). p.1) g.1 in
    let front : to_le_bytes w n ≡ take (byte_len w) bytes = rw (← n-is) (wide.back (take (byte_len w) bytes) (omega (arith, length-take (byte_len w) bytes)) (bytes-take (byte_len w) bytes fits)) in
    (record { parts = rw (front, ← rest-is) (sym (take-append-drop (byte_len w) bytes)); rest_fits = rw (← rest-is) (bytes-drop (byte_len w) bytes fits) }, rw (← n-is) (wide.below (take (byte_len w) bytes) (bytes-take (byte_len w) bytes fits)))

pub number_again : (w : Width) (limit : ℕ) (wide : IsWide w limit) (n : ℕ) (rest : List ℕ) → n < limit → number_at w (to_le_bytes w n ++ rest) ≡ Ok (n, rest)
number_again w limit wide n rest lt =
    let len = wide.len n in
    let long : ltb (length (to_le_bytes w n ++ rest)) (byte_len w) ≡ false = le-ltb _ _ (omega (arith, length-append (to_le_bytes w n) rest)) in
    rw (long, take_at (to_le_bytes w n) rest (byte_len w) len, drop_at (to_le_bytes w n) rest (byte_len w) len, wide.again n lt) refl

-- ---- names and codes

bytes-rest : (b : ℕ) (bytes : List ℕ) → AreBytes (b ∷ bytes) → AreBytes bytes
bytes-rest b bytes h i = h (suc i)

pub byte_takes : (bytes : List ℕ) (n : ℕ) (rest : List ℕ) → AreBytes bytes → byte_at bytes ≡ Ok (n, rest) → Takes bytes (n ∷ []) rest × (n < 256)
byte_takes [] n rest fits e = absurd cc
byte_takes (b ∷ bytes) n rest fits e =
    let p = ok_is (b, bytes) (n, rest) e in
    subst (λ (q : ℕ × List ℕ). Takes (b ∷ bytes) (q.0 ∷ []) q.1 × (q.0 < 256)) p (record { parts = refl; rest_fits = bytes-rest b bytes fits }, fits 0)

-- bytes behind their number
behind_takes : (bytes mark : List ℕ) (n : ℕ) (rest text after : List ℕ) → Takes bytes mark rest → behind (Ok (n, rest)) ≡ Ok (text, after) → Takes bytes (mark ++ text) after × (length text ≡ n)
behind_takes bytes mark n rest text after first e =
    let g = guard_ok (ltb (length rest) n) 0 (take n rest, drop n rest) (text, after) e in
    let long : n ≤ length rest = ltb-false _ _ g.0 in
    let len : length (take n rest) ≡ n = omega (arith, length-take n rest) in
    let second : Takes rest (take n rest) (drop n rest) = record { parts = sym (take-append-drop n rest); rest_fits = bytes-drop n rest first.rest_fits } in
    let both = Takes-then bytes mark rest (take n rest) (drop n rest) first second in
    subst (λ (p : List ℕ × List ℕ). Takes bytes (mark ++ p.0) p.1 × (length p.0 ≡ n)) g.1 (both, len)

behind_again : (text rest : List ℕ) → behind (Ok (length text, text ++ rest)) ≡ Ok (text, rest)
behind_again text rest =
    let long : ltb (length (text ++ rest)) (length text) ≡ false = le-ltb _ _ (omega (arith, length-append text rest)) in
    rw (long, take_at text rest (length text) refl, drop_at text rest (length text) refl) refl

pub name_takes : (bytes name rest : List ℕ) → AreBytes bytes → name_at bytes ≡ Ok (name, rest) → Takes bytes (name_bytes name) rest × (length name < 2 ^ 8)
unfolding name_at
name_takes bytes name rest fits e =
    let b = bind_ok (byte_at bytes) (λ n. cond (ltb (length n.1) n.0) (Err 0) (Ok (take n.0 n.1, drop n.0 n.1))) (name, rest) e in
    let n = b.0 in
    let t = byte_takes bytes n.0 n.1 fits b.1 in
    let two = behind_takes bytes (n.0 ∷ []) n.0 n.1 name rest t.0 b.2 in
    (subst (λ (k : ℕ). Takes bytes (k ∷ name) rest) (sym two.1) two.0, omega (arith, t.1, two.1))

pub name_again : (name rest : List ℕ) → name_at (name_bytes name ++ rest) ≡ Ok (name, rest)
unfolding name_at
name_again name rest = behind_again name rest

pub text_takes : (bytes text rest : List ℕ) → AreBytes bytes → text_at bytes ≡ Ok (text, rest) → Takes bytes (text_bytes text) rest × (length text < 2 ^ 16)
unfolding text_at
text_takes bytes text rest fits e =
    let b = bind_ok (number_at w16 bytes) (λ n. cond (ltb (length n.1) n.0) (Err 0) (Ok (take n.0 n.1, drop n.0 n.1))) (text, rest) e in
    let n = b.0 in
    let t = number_takes w16 (2 ^ 16) wide16 bytes n.0 n.1 fits b.1 in
    let two = behind_takes bytes (u16_bytes n.0) n.0 n.1 text rest t.0 b.2 in
    (subst (λ (k : ℕ). Takes bytes (u16_bytes k ++ text) rest) (sym two.1) two.0, omega (arith, t.1, two.1))

pub text_again : (text rest : List ℕ) → length text < 2 ^ 16 → text_at (text_bytes text ++ rest) ≡ Ok (text, rest)
unfolding text_at
text_again text rest short =
    let grouped : (u16_bytes (length text) ++ text) ++ rest ≡ u16_bytes (length text) ++ (text ++ rest) = append_assoc (u16_bytes (length text)) text rest in
    let one = number_again w16 (2 ^ 16) wide16 (length text) (text ++ rest) short in
    ap (λ l. behind (number_at w16 l)) grouped ∙ ap behind one ∙ behind_again text rest

-- what `find` gives passes the test
pub find_passes : {X : Type 0} (p : X → Bool) (xs : List X) (x : X) → find p xs ≡ Some x → p x ≡ true
find_passes p [] x e = absurd cc
find_passes p (y ∷ ys) x e = go (p y) refl e (find_passes p ys x)
  where
    go : (b : Bool) → p y ≡ b → cond b (Some y) (find p ys) ≡ Some x → (find p ys ≡ Some x → p x ≡ true) → p x ≡ true
    go true at h ih = let same : y ≡ x = cc in ap p (sym same) ∙ at
    go false at h ih = ih h

-- ---- items

pub flat_map-push : {A B : Type 0} (spell : A → List B) (xs : List A) (x : A) → flat_map spell (xs ++ x ∷ []) ≡ flat_map spell xs ++ spell x
flat_map-push spell xs x = flat_map-append spell xs (x ∷ []) ∙ ap (λ l. flat_map spell xs ++ l) (append-nil (spell x))

-- a rule that a step keeps holds of all that is read
module _ {A B : Type 0} (f : List A → B → Result (A × B) ℕ) (P : List A → B → Type 0) (step : (before : List A) (source : B) (x : A × B) → P before source → f before source ≡ Ok x → P (before ++ x.0 ∷ []) x.1) where
  from_items : (n : ℕ) (before : List A) (source : B) (y : List A × B) → P before source → items f n before source ≡ Ok y → P y.0 y.1 × (length y.0 ≡ length before + n)
  unfolding items
  from_items zero before source y good e =
      subst (λ (p : List A × B). P p.0 p.1 × (length p.0 ≡ length before + 0)) (ok_is (before, source) y e) (good, omega arith)
  from_items (suc n) before source y good e =
      let b = bind_ok (f before source) (λ x. items f n (before ++ x.0 ∷ []) x.1) y e in
      let s = step before source b.0 good b.1 in
      let r = from_items n (before ++ b.0.0 ∷ []) b.0.1 y s b.2 in
      (r.0, omega (arith, r.1, length_push before b.0.0))

  pub items_keep : (n : ℕ) (source : B) (y : List A × B) → P [] source → items f n [] source ≡ Ok y → P y.0 y.1 × (length y.0 ≡ n)
  items_keep n source y good e =
      let r = from_items n [] source y good e in
      (r.0, omega (arith, r.1))

-- items that are read are good together, and spelled so
module _ {A : Type 0} (f : List A → List ℕ → Read A) (spell : A → List ℕ) (Good : List A → Type 0) (step : (before : List A) (bytes : List ℕ) (x : A × List ℕ) → Good before → AreBytes bytes → f before bytes ≡ Ok x → Good (before ++ x.0 ∷ []) × Takes bytes (spell x.0) x.1) where
  pub items_take : (n : ℕ) (bytes : List ℕ) (y : List A × List ℕ) → Good [] → AreBytes bytes → items f n [] bytes ≡ Ok y → Good y.0 × (length y.0 ≡ n) × Takes bytes (flat_map spell y.0) y.1
  items_take n bytes y good known e =
      let P : List A → List ℕ → Type 0 = λ before rest. Good before × Takes bytes (flat_map spell before) rest in
      let r = items_keep f P (λ before rest x have h. let s = step before rest x have.0 have.1.rest_fits h in (s.0, subst (λ (t : List ℕ). Takes bytes t x.1) (sym (flat_map-push spell before x.0)) (Takes-then bytes (flat_map spell before) rest (spell x.0) x.1 have.1 s.1))) n bytes y (good, record { parts = refl; rest_fits = known }) e in
      (r.0.0, r.1, r.0.1)

-- what is spelled is read: each item from where it stands
module _ {A B : Type 0} (f : List A → B → Result (A × B) ℕ) (all : List A) (stand : List A → List A → B) (step : (before : List A) (x : A) (after : List A) → all ≡ before ++ x ∷ after → f before (stand before (x ∷ after)) ≡ Ok (x, stand (before ++ x ∷ []) after)) where
  items_from : (xs before : List A) → all ≡ before ++ xs → items f (length xs) before (stand before xs) ≡ Ok (all, stand all [])
  unfolding items
  items_from [] before e = ap (λ (l : List A). Ok (l, stand l [])) (sym (e ∙ append-nil before))
  items_from (x ∷ xs) before e =
      let one = step before x xs e in
      let more = items_from xs (before ++ x ∷ []) (e ∙ sym (append_assoc before (x ∷ []) xs)) in
      rw one more

  pub items_stand : items f (length all) [] (stand [] all) ≡ Ok (all, stand all [])
  items_stand = items_from all [] refl

module _ {A : Type 0} (f : List A → List ℕ → Read A) (spell : A → List ℕ) (all : List A) (step : (before : List A) (x : A) (after : List A) (rest : List ℕ) → all ≡ before ++ x ∷ after → f before (spell x ++ rest) ≡ Ok (x, rest)) where
  pub items_again : (rest : List ℕ) → items f (length all) [] (flat_map spell all ++ rest) ≡ Ok (all, rest)
  items_again rest =
      items_stand f all (λ before after. flat_map spell after ++ rest) (λ before x after e.
      let regrouped : flat_map spell (x ∷ after) ++ rest ≡ spell x ++ (flat_map spell after ++ rest) = ap (λ l. l ++ rest) (flat_map-cons spell x after) ∙ append_assoc (spell x) (flat_map spell after) rest in
      ap (f before) regrouped ∙ step before x after (flat_map spell after ++ rest) e)

-- what holds of all holds of one among them
pub All-amid : {X : Type 0} (P : X → Type 0) (all before : List X) (x : X) (after : List X) → all ≡ before ++ x ∷ after → All P all → P x
All-amid P all before x after e h =
    let there : length before < length all = omega (arith, ap length e, length-append before (x ∷ after)) in
    let is : get_or all (length before) x ≡ x = ap (λ l. get_or l (length before) x) e ∙ get_or_at before x after x (length before) refl in
    subst P is (h (length before) x there)

-- ---- a loop over items

pub items_more : {A B : Type 0} (f : List A → B → Result (A × B) ℕ) (count i : ℕ) (before : List A) (bytes : B) (x : A) (after : B) (total : Result (List A × B) ℕ) → i < count → f before bytes ≡ Ok (x, after) → items f (count - i) before bytes ≡ total → items f (count - (i + 1)) (before ++ x ∷ []) after ≡ total
unfolding items
items_more f count i before bytes x after total lt h so_far =
    let k : count - i ≡ suc (count - (i + 1)) = omega arith in
    let one : items f (count - i) before bytes ≡ items f (count - (i + 1)) (before ++ x ∷ []) after = rw (k, h) refl in
    sym one ∙ so_far

pub items_fail : {A B : Type 0} (f : List A → B → Result (A × B) ℕ) (e : Stop) (count i : ℕ) (before : List A) (bytes : B) (total : Result (List A × B) ℕ) → i < count → Fails e (f before bytes) → items f (count - i) before bytes ≡ total → Fails e total
unfolding items
items_fail f stop.Memory count i before bytes total lt h so_far = tt
items_fail f (stop.Damage left) count i before bytes total lt h so_far =
    let k : count - i ≡ suc (count - (i + 1)) = omega arith in
    let one : items f (count - i) before bytes ≡ Err left = rw (k, h) refl in
    sym so_far ∙ one

pub items_done : {A B : Type 0} (f : List A → B → Result (A × B) ℕ) (count i : ℕ) (before : List A) (bytes : B) (total : Result (List A × B) ℕ) → count ≤ i → items f (count - i) before bytes ≡ total → total ≡ Ok (before, bytes)
unfolding items
items_done f count i before bytes total le so_far =
    let k : count - i ≡ 0 = omega arith in
    let one : items f (count - i) before bytes ≡ Ok (before, bytes) = rw k refl in
    sym so_far ∙ one
