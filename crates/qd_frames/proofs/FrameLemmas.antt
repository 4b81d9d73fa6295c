-- The laws of the frame grammar.
use Rattle.std.proofs.Common.{◌≡◌, ℕ, ◌+◌, ◌^◌, ◌<◌, List, [], ◌∷◌, ◌++◌, length, refl, sym, ap, ◌∙◌, subst, arith, append_assoc, length-append, lit<}
use Rattle.std.specs.Fmt.{decimal}
use Rattle.std.proofs.lemmas.Fmt.{decimal_injective}
use Rattle.std.proofs.lemmas.List.{append-nil}
use Rattle.qd_base.specs.declared.request.Request.{Request}
use Rattle.qd_base.specs.declared.request.Request.TheVariants as request
use Rattle.qd_base.specs.declared.request.Reply.{Reply}
use Rattle.qd_base.specs.Script.{Ending, Waiting, Ended, Malformed}
use Rattle.qd_frames.specs.Frames.{frame, IsFramed, IsUnfinished, BeginsNone, Steps}
use Rattle.qd_frames.proofs.DecimalLemmas.{Digits, Digits-decimal, Digits-at, digits_within}
use Rattle.qd_frames.proofs.HeadLemmas.{apart_up, apart_down}

-- prefixes of one length of one list are equal
pub prefixes_of_one_length : (a b x y : List ℕ) → length a ≡ length b → a ++ x ≡ b ++ y → (a ≡ b) × (x ≡ y)
prefixes_of_one_length [] [] x y len e = (refl, e)
prefixes_of_one_length [] (c ∷ b) x y len e = absurd (omega arith)
prefixes_of_one_length (c ∷ a) [] x y len e = absurd (omega arith)
prefixes_of_one_length (c ∷ a) (d ∷ b) x y len e =
    let tails : a ++ x ≡ b ++ y = cc in
    let h = prefixes_of_one_length a b x y (omega arith) tails in
    let heads : c ≡ d = cc in
    (cc (h.0), h.1)

-- two numbers, each with LF behind it, with which one list begins are one
pub one_number : (m n : ℕ) (x y : List ℕ) → m < 2 ^ 64 → n < 2 ^ 64 → decimal m ++ 10 ∷ x ≡ decimal n ++ 10 ∷ y → (m ≡ n) × (x ≡ y)
one_number m n x y small small' e =
    let h = digits_within (decimal m) (decimal n) (10 ∷ x) y (Digits-decimal m small) e in
    at_end h.0 h.1 h.2
  where
    at_end : (more : List ℕ) → decimal n ≡ decimal m ++ more → 10 ∷ x ≡ more ++ 10 ∷ y → (m ≡ n) × (x ≡ y)
    at_end [] here there = (decimal_injective m n small small' (sym (here ∙ append-nil (decimal m))), cc)
    at_end (d ∷ more) here there =
        let digit = Digits-at (decimal m) d more (subst Digits here (Digits-decimal n small')) in
        let same : 10 ≡ d = cc in
        absurd (omega arith)

-- two texts, each behind its length, with which one list begins are one
pub one_text : (s t x y : List ℕ) → length s < 2 ^ 64 → length t < 2 ^ 64 → (decimal (length s) ++ 10 ∷ s) ++ x ≡ (decimal (length t) ++ 10 ∷ t) ++ y → (s ≡ t) × (x ≡ y)
one_text s t x y small small' e =
    let n = one_number (length s) (length t) (s ++ x) (t ++ y) small small' (sym (append_assoc (decimal (length s)) (10 ∷ s) x) ∙ (e ∙ append_assoc (decimal (length t)) (10 ∷ t) y)) in
    prefixes_of_one_length s t x y n.0 n.1

-- no frame begins another: what two frames with which one list begins say is one
pub one_frame : (r q : Request) (x y : List ℕ) → IsFramed r → IsFramed q → frame r ++ x ≡ frame q ++ y → (r ≡ q) × (x ≡ y)
one_frame (request.Write s) (request.Write t) x y f g e =
    let rest : (decimal (length s) ++ 10 ∷ s) ++ x ≡ (decimal (length t) ++ 10 ∷ t) ++ y = cc in
    let h = one_text s t x y (omega arith) (omega arith) rest in
    (ap request.Write h.0, h.1)
one_frame (request.Write s) (request.Sql t) x y f g e = absurd (apart_down 87 81 _ _ (lit< tt) e)
one_frame (request.Write s) request.Apply x y f g e = absurd (apart_down 87 65 _ _ (lit< tt) e)
one_frame (request.Write s) request.End x y f g e = absurd (apart_up 87 88 _ _ (lit< tt) e)
one_frame (request.Sql s) (request.Write t) x y f g e = absurd (apart_up 81 87 _ _ (lit< tt) e)
one_frame (request.Sql s) (request.Sql t) x y f g e =
    let rest : (decimal (length s) ++ 10 ∷ s) ++ x ≡ (decimal (length t) ++ 10 ∷ t) ++ y = cc in
    let h = one_text s t x y (omega arith) (omega arith) rest in
    (ap request.Sql h.0, h.1)
one_frame (request.Sql s) request.Apply x y f g e = absurd (apart_down 81 65 _ _ (lit< tt) e)
one_frame (request.Sql s) request.End x y f g e = absurd (apart_up 81 88 _ _ (lit< tt) e)
one_frame request.Apply (request.Write t) x y f g e = absurd (apart_up 65 87 _ _ (lit< tt) e)
one_frame request.Apply (request.Sql t) x y f g e = absurd (apart_up 65 81 _ _ (lit< tt) e)
one_frame request.Apply request.Apply x y f g e = (refl, cc)
one_frame request.Apply request.End x y f g e = absurd (apart_up 65 88 _ _ (lit< tt) e)
one_frame request.End (request.Write t) x y f g e = absurd (apart_down 88 87 _ _ (lit< tt) e)
one_frame request.End (request.Sql t) x y f g e = absurd (apart_down 88 81 _ _ (lit< tt) e)
one_frame request.End request.Apply x y f g e = absurd (apart_down 88 65 _ _ (lit< tt) e)
one_frame request.End request.End x y f g e = (refl, cc)

-- bytes that begin with a frame are no prefix of one
pub whole_not_unfinished : (r : Request) (rest bytes : List ℕ) → IsFramed r → bytes ≡ frame r ++ rest → IsUnfinished bytes → ⊥
whole_not_unfinished r rest bytes fits e u =
    let q = u.0 in
    let more = u.1 in
    let both : frame q ++ [] ≡ frame r ++ (rest ++ more) = append-nil (frame q) ∙ (u.4 ∙ (ap (λ xs. xs ++ more) e ∙ append_assoc (frame r) rest more)) in
    let h = one_frame q r [] (rest ++ more) u.2 fits both in
    let len : 0 ≡ length rest + length more = ap length h.1 ∙ length-append rest more in
    let some : 0 < length more = u.3 in
    omega arith

pub whole_not_none : (r : Request) (rest bytes : List ℕ) → IsFramed r → bytes ≡ frame r ++ rest → BeginsNone bytes → ⊥
whole_not_none r rest bytes fits e none = none r [] rest fits (append-nil bytes ∙ e)

pub unfinished_not_none : (bytes : List ℕ) → IsUnfinished bytes → BeginsNone bytes → ⊥
unfinished_not_none bytes u none = none u.0 u.1 [] u.2 (sym u.4 ∙ sym (append-nil (frame u.0)))

-- what follows the frame of a request: nothing behind the end, else the steps of the rest
abbrev pub Goes : ℕ → Request → List ℕ → List Request → Ending → Type 0
Goes at (request.Write text) rest rs e = Steps (at + length (frame (request.Write text))) rest rs e
Goes at (request.Sql text) rest rs e = Steps (at + length (frame (request.Sql text))) rest rs e
Goes at request.Apply rest rs e = Steps (at + length (frame request.Apply)) rest rs e
Goes at request.End rest rs e = (rs ≡ []) × (e ≡ Ended)

first_step : (at : ℕ) (bytes : List ℕ) (r : Request) (rs : List Request) (e : Ending) → Steps at bytes (r ∷ rs) e → (rest : List ℕ) × IsFramed r × (bytes ≡ frame r ++ rest) × Goes at r rest rs e
first_step at bytes (request.Write text) rs e h = h
first_step at bytes (request.Sql text) rs e h = h
first_step at bytes request.Apply rs e h = h
first_step at bytes request.End rs e h = (h.0, tt, h.1, (h.2, h.3))

-- bytes that spell no request begin with no frame
no_first_step : (at : ℕ) (bytes rest : List ℕ) (r : Request) (e : Ending) → Steps at bytes [] e → IsFramed r → bytes ≡ frame r ++ rest → ⊥
no_first_step at bytes rest r (Waiting left place printed) h fits whole = whole_not_unfinished r rest bytes fits whole h.3
no_first_step at bytes rest r Ended h fits whole = h
no_first_step at bytes rest r (Malformed place printed) h fits whole = whole_not_none r rest bytes fits whole h.2

-- two endings of bytes that spell no request are one
one_ending : (at : ℕ) (bytes : List ℕ) (e f : Ending) → Steps at bytes [] e → Steps at bytes [] f → e ≡ f
one_ending at bytes (Waiting left place printed) (Waiting left' place' printed') h k = cc
one_ending at bytes (Waiting left place printed) Ended h k = absurd k
one_ending at bytes (Waiting left place printed) (Malformed place' printed') h k = absurd (unfinished_not_none bytes h.3 k.2)
one_ending at bytes Ended f h k = absurd h
one_ending at bytes (Malformed place printed) (Waiting left' place' printed') h k = absurd (unfinished_not_none bytes k.3 h.2)
one_ending at bytes (Malformed place printed) Ended h k = absurd k
one_ending at bytes (Malformed place printed) (Malformed place' printed') h k = cc

-- the second reading begins with the first one's request too
same_first : (at : ℕ) (bytes rest : List ℕ) (r q : Request) (qs : List Request) (f : Ending) → IsFramed r → bytes ≡ frame r ++ rest → Steps at bytes (q ∷ qs) f → (q ≡ r) × Goes at r rest qs f
same_first at bytes rest r q qs f fits whole k =
    let h = first_step at bytes q qs f k in
    let one = one_frame q r h.0 rest h.1 fits (sym h.2 ∙ whole) in
    (one.0, subst (λ x. Goes at r x qs f) one.1 (subst (λ x. Goes at x h.0 qs f) one.0 h.3))

-- a text spells one list of requests and one ending
pub one_reading : (at : ℕ) (bytes : List ℕ) (rs qs : List Request) (e f : Ending) → Steps at bytes rs e → Steps at bytes qs f → (rs ≡ qs) × (e ≡ f)
one_reading at bytes [] [] e f h k = (refl, one_ending at bytes e f h k)
one_reading at bytes [] (q ∷ qs) e f h k = let s = first_step at bytes q qs f k in absurd (no_first_step at bytes s.0 q e h s.1 s.2)
one_reading at bytes (r ∷ rs) [] e f h k = let s = first_step at bytes r rs e h in absurd (no_first_step at bytes s.0 r f k s.1 s.2)
one_reading at bytes (request.Write text ∷ rs) (q ∷ qs) e f h k =
    let s = same_first at bytes h.0 (request.Write text) q qs f h.1 h.2 k in
    let one = one_reading (at + length (frame (request.Write text))) h.0 rs qs e f h.3 s.1 in
    (ap (λ x. x ∷ rs) (sym s.0) ∙ ap (λ xs. q ∷ xs) one.0, one.1)
one_reading at bytes (request.Sql text ∷ rs) (q ∷ qs) e f h k =
    let s = same_first at bytes h.0 (request.Sql text) q qs f h.1 h.2 k in
    let one = one_reading (at + length (frame (request.Sql text))) h.0 rs qs e f h.3 s.1 in
    (ap (λ x. x ∷ rs) (sym s.0) ∙ ap (λ xs. q ∷ xs) one.0, one.1)
one_reading at bytes (request.Apply ∷ rs) (q ∷ qs) e f h k =
    let s = same_first at bytes h.0 request.Apply q qs f h.1 h.2 k in
    let one = one_reading (at + length (frame request.Apply)) h.0 rs qs e f h.3 s.1 in
    (ap (λ x. x ∷ rs) (sym s.0) ∙ ap (λ xs. q ∷ xs) one.0, one.1)
one_reading at bytes (request.End ∷ rs) (q ∷ qs) e f h k =
    let s = same_first at bytes h.0 request.End q qs f tt h.1 k in
    (ap (λ x. x ∷ rs) (sym s.0) ∙ ap (λ xs. q ∷ xs) (h.2 ∙ sym s.1.0), h.3 ∙ sym s.1.1)

not_ended : (rest : List ℕ) (place : ℕ) (printed : Reply → List ℕ) → Waiting rest place printed ≡ Ended → ⊥
not_ended rest place printed e = cc

-- bytes that begin with a frame begin with it still, whatever comes behind
longer : (r : Request) (a rest b : List ℕ) → a ≡ frame r ++ rest → a ++ b ≡ frame r ++ (rest ++ b)
longer r a rest b e = ap (λ xs. xs ++ b) e ∙ append_assoc (frame r) rest b

-- what waits of a text, with the next piece behind it, goes on with the steps of the whole
pub cut_anywhere : (at place : ℕ) (a b rest : List ℕ) (printed : Reply → List ℕ) (rs qs : List Request) (e : Ending) → Steps at a rs (Waiting rest place printed) → Steps place (rest ++ b) qs e → Steps at (a ++ b) (rs ++ qs) e
cut_anywhere at place a b rest printed [] qs e h k = subst (λ n. Steps n (a ++ b) qs e) h.1 (subst (λ xs. Steps place (xs ++ b) qs e) h.0 k)
cut_anywhere at place a b rest printed (request.Write text ∷ rs) qs e h k =
    let r = request.Write text in (h.0 ++ b, h.1, longer r a h.0 b h.2, cut_anywhere (at + length (frame r)) place h.0 b rest printed rs qs e h.3 k)
cut_anywhere at place a b rest printed (request.Sql text ∷ rs) qs e h k =
    let r = request.Sql text in (h.0 ++ b, h.1, longer r a h.0 b h.2, cut_anywhere (at + length (frame r)) place h.0 b rest printed rs qs e h.3 k)
cut_anywhere at place a b rest printed (request.Apply ∷ rs) qs e h k =
    let r = request.Apply in (h.0 ++ b, h.1, longer r a h.0 b h.2, cut_anywhere (at + length (frame r)) place h.0 b rest printed rs qs e h.3 k)
cut_anywhere at place a b rest printed (request.End ∷ rs) qs e h k = absurd (let never : Waiting rest place printed ≡ Ended = h.3 in not_ended rest place printed never)
