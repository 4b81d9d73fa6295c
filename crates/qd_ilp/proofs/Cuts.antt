-- Cutting byte by byte, as loops do.
use Rattle.std.proofs.Common.{◌≡◌, ℕ, ◌+◌, ◌<◌, ◌≤◌, Bool, true, false, List, [], ◌∷◌, ◌++◌, length, length-append, get_or, take, drop, refl, sym, ap, ◌∙◌, append_assoc, Option, Some, None, arith}
use Rattle.std.specs.Prelude.{not, ◌&&◌, ◌==◌, ◌||◌, if◌then◌else◌}
use Rattle.std.proofs.lemmas.List.{drop_more, take_more, drop_all, take_all, append-nil}
use Rattle.qd_ilp.specs.Cut.{◌>>=◌, is_special, is_quoted_special, is_plain, is_inner, is_separator, stops, escapes, ends_word, fronted, cut, word, closed, closed_behind}

pub fronted_twice : (a b : List ℕ) (c : List ℕ × List ℕ) → fronted a (fronted b c) ≡ fronted (a ++ b) c
fronted_twice a b c = ap (λ (l : List ℕ). let p : List ℕ × List ℕ = (l, c.1) in p) (sym (append_assoc a b c.0))

pub cut_stops : (plain : Bool) (text : List ℕ) → (not plain && stops text) ≡ true → cut plain text ≡ ([], text)
unfolding cut
cut_stops plain [] h = refl
cut_stops plain (b ∷ bs) h = rw h refl

pub cut_goes : (plain e : Bool) (b : ℕ) (bs bytes : List ℕ) → (not plain && stops (b ∷ bs)) ≡ false → e ≡ (not plain && escapes is_special (b ∷ bs)) → fronted bytes (cut plain (b ∷ bs)) ≡ fronted (bytes ++ (if e then [] else b ∷ [])) (cut e bs)
unfolding cut
cut_goes plain true b bs bytes stop esc = rw (stop, ← esc) (ap (λ (l : List ℕ). fronted l (cut true bs)) (sym (append-nil bytes)))
cut_goes plain false b bs bytes stop esc = rw (stop, ← esc) (fronted_twice bytes (b ∷ []) (cut false bs))

pub cut_more : (plain e : Bool) (i : ℕ) (text rest bytes bytes' : List ℕ) (total : List ℕ × List ℕ) → i < length text → rest ≡ drop i text → (not plain && stops rest) ≡ false → e ≡ (not plain && escapes is_special rest)
    → bytes' ≡ bytes ++ (if e then [] else get_or text i 0 ∷ []) → fronted bytes (cut plain (drop i text)) ≡ total → fronted bytes' (cut e (drop (i + 1) text)) ≡ total
cut_more plain e i text rest bytes bytes' total h here stop esc pushed so_far =
    let at : rest ≡ get_or text i 0 ∷ drop (i + 1) text = here ∙ drop_more text i 0 h in
    let stop' : (not plain && stops (get_or text i 0 ∷ drop (i + 1) text)) ≡ false = ap (λ (l : List ℕ). not plain && stops l) (sym at) ∙ stop in
    let esc' : e ≡ (not plain && escapes is_special (get_or text i 0 ∷ drop (i + 1) text)) = esc ∙ ap (λ (l : List ℕ). not plain && escapes is_special l) at in
    ap (λ (l : List ℕ). fronted l (cut e (drop (i + 1) text))) pushed ∙ sym (cut_goes plain e (get_or text i 0) (drop (i + 1) text) bytes stop' esc')
    ∙ ap (λ (l : List ℕ). fronted bytes (cut plain l)) (sym (drop_more text i 0 h)) ∙ so_far

-- a byte that stands for itself
pub or_false : (p q : Bool) → (p || q) ≡ false → (p ≡ false) × (q ≡ false)
or_false false q h = (refl, h)
or_false true q h = absurd cc

pub not_true : (p : Bool) → not p ≡ true → p ≡ false
not_true false h = refl
not_true true h = absurd cc

pub goes_on : (b : ℕ) (bs : List ℕ) → is_separator b ≡ false → (b == 10) ≡ false → (b == 13) ≡ false → stops (b ∷ bs) ≡ false
goes_on b bs separator lf cr = rw (separator, lf, cr) refl

pub no_escape : (b : ℕ) (bs : List ℕ) → (b == 92) ≡ false → escapes is_special (b ∷ bs) ≡ false
no_escape b [] backslash = refl
no_escape b (c ∷ cs) backslash = rw backslash refl

plain_goes : (b : ℕ) (bs : List ℕ) → is_plain b ≡ true → cut false (b ∷ bs) ≡ fronted (b ∷ []) (cut false bs)
plain_goes b bs h =
    let cr = or_false (is_special b || b == 10) (b == 13) (not_true (is_special b || b == 10 || b == 13) h) in
    let lf = or_false (is_special b) (b == 10) cr.0 in
    let backslash = or_false (is_separator b) (b == 92) lf.0 in
    cut_goes false false b bs [] (goes_on b bs backslash.0 lf.1 cr.1) (sym (no_escape b bs backslash.1))

pub plain_more : (i : ℕ) (text : List ℕ) → i < length text → is_plain (get_or text i 0) ≡ true → fronted (take i text) (cut false (drop i text)) ≡ fronted (take (i + 1) text) (cut false (drop (i + 1) text))
plain_more i text h plain =
    let at = drop_more text i 0 h in
    ap (λ (l : List ℕ). fronted (take i text) (cut false l)) at ∙ ap (fronted (take i text)) (plain_goes (get_or text i 0) (drop (i + 1) text) plain)
    ∙ fronted_twice (take i text) (get_or text i 0 ∷ []) (cut false (drop (i + 1) text)) ∙ ap (λ (l : List ℕ). fronted l (cut false (drop (i + 1) text))) (sym (take_more text i 0 h))

pub word_ends : (text : List ℕ) → ends_word text ≡ true → word text ≡ ([], text)
unfolding word
word_ends [] h = refl
word_ends (b ∷ bs) h = rw h refl

pub word_goes : (b : ℕ) (bs : List ℕ) → ends_word (b ∷ bs) ≡ false → word (b ∷ bs) ≡ fronted (b ∷ []) (word bs)
unfolding word
word_goes b bs h = rw h refl

pub word_more : (i : ℕ) (text rest : List ℕ) → i < length text → rest ≡ drop i text → ends_word rest ≡ false → fronted (take i text) (word (drop i text)) ≡ fronted (take (i + 1) text) (word (drop (i + 1) text))
word_more i text rest h here ends =
    let at = drop_more text i 0 h in
    let ends' : ends_word (get_or text i 0 ∷ drop (i + 1) text) ≡ false = ap ends_word (sym (here ∙ at)) ∙ ends in
    ap (λ (l : List ℕ). fronted (take i text) (word l)) at ∙ ap (fronted (take i text)) (word_goes (get_or text i 0) (drop (i + 1) text) ends')
    ∙ fronted_twice (take i text) (get_or text i 0 ∷ []) (word (drop (i + 1) text)) ∙ ap (λ (l : List ℕ). fronted l (word (drop (i + 1) text))) (sym (take_more text i 0 h))

-- a byte that ends no value
inner_goes : (b : ℕ) (bs : List ℕ) → is_inner b ≡ true → ends_word (b ∷ bs) ≡ false
inner_goes b bs h =
    let cr = or_false (b == 44 || b == 32 || b == 10) (b == 13) (not_true (b == 44 || b == 32 || b == 10 || b == 13) h) in
    let lf = or_false (b == 44 || b == 32) (b == 10) cr.0 in
    let both = or_false (b == 44) (b == 32) lf.0 in
    rw (both.0, both.1, lf.1, cr.1) refl

pub inner_more : (i : ℕ) (text : List ℕ) → i < length text → is_inner (get_or text i 0) ≡ true → fronted (take i text) (word (drop i text)) ≡ fronted (take (i + 1) text) (word (drop (i + 1) text))
inner_more i text h inner = word_more i text (drop i text) h refl (ap ends_word (drop_more text i 0 h) ∙ inner_goes (get_or text i 0) (drop (i + 1) text) inner)

pub closed_here : (plain : Bool) (b : ℕ) (bs bytes : List ℕ) → (not plain && b == 34) ≡ true → closed_behind bytes plain (b ∷ bs) ≡ Some (bytes, bs)
unfolding closed
closed_here plain b bs bytes h = rw h (ap (λ (l : List ℕ). let o : Option (List ℕ × List ℕ) = Some (l, bs) in o) (append-nil bytes))

pub closed_ends : (plain : Bool) (i : ℕ) (text bytes : List ℕ) → i < length text → (not plain && get_or text i 0 == 34) ≡ true → closed_behind bytes plain (drop i text) ≡ Some (bytes, drop (i + 1) text)
closed_ends plain i text bytes h quote = ap (closed_behind bytes plain) (drop_more text i 0 h) ∙ closed_here plain (get_or text i 0) (drop (i + 1) text) bytes quote

behind_twice : (a b : List ℕ) (o : Option (List ℕ × List ℕ)) → ((o >>= λ c. Some (fronted b c)) >>= λ c. Some (fronted a c)) ≡ (o >>= λ c. Some (fronted (a ++ b) c))
behind_twice a b (Some c) = ap (λ (p : List ℕ × List ℕ). let o : Option (List ℕ × List ℕ) = Some p in o) (fronted_twice a b c)
behind_twice a b None = refl

pub closed_goes : (plain e : Bool) (b : ℕ) (bs bytes : List ℕ) → (not plain && b == 34) ≡ false → e ≡ (not plain && escapes is_quoted_special (b ∷ bs)) → closed_behind bytes plain (b ∷ bs) ≡ closed_behind (bytes ++ (if e then [] else b ∷ [])) e bs
unfolding closed
closed_goes plain true b bs bytes quote esc = rw (quote, ← esc) (ap (λ (l : List ℕ). closed_behind l true bs) (sym (append-nil bytes)))
closed_goes plain false b bs bytes quote esc = rw (quote, ← esc) (behind_twice bytes (b ∷ []) (closed false bs))

pub closed_more : (plain e : Bool) (i : ℕ) (text rest bytes bytes' : List ℕ) (total : Option (List ℕ × List ℕ)) → i < length text → rest ≡ drop i text → (not plain && get_or text i 0 == 34) ≡ false → e ≡ (not plain && escapes is_quoted_special rest)
    → bytes' ≡ bytes ++ (if e then [] else get_or text i 0 ∷ []) → closed_behind bytes plain (drop i text) ≡ total → closed_behind bytes' e (drop (i + 1) text) ≡ total
closed_more plain e i text rest bytes bytes' total h here quote esc pushed so_far =
    let at = drop_more text i 0 h in
    let esc' : e ≡ (not plain && escapes is_quoted_special (get_or text i 0 ∷ drop (i + 1) text)) = esc ∙ ap (λ (l : List ℕ). not plain && escapes is_quoted_special l) (here ∙ at) in
    ap (λ (l : List ℕ). closed_behind l e (drop (i + 1) text)) pushed ∙ sym (closed_goes plain e (get_or text i 0) (drop (i + 1) text) bytes quote esc')
    ∙ ap (closed_behind bytes plain) (sym at) ∙ so_far

pub closed_none : (plain : Bool) (bytes : List ℕ) → closed_behind bytes plain [] ≡ None
unfolding closed
closed_none plain bytes = refl

-- how a loop over these ends
pub cut_done : (plain : Bool) (i : ℕ) (text rest bytes : List ℕ) (total : List ℕ × List ℕ) → rest ≡ drop i text → (not plain && stops rest) ≡ true → fronted bytes (cut plain (drop i text)) ≡ total → total ≡ (bytes, rest)
cut_done plain i text rest bytes total here stop so_far =
    sym so_far ∙ ap (λ (l : List ℕ). fronted bytes (cut plain l)) (sym here) ∙ ap (fronted bytes) (cut_stops plain rest stop) ∙ ap (λ (l : List ℕ). let p : List ℕ × List ℕ = (l, rest) in p) (append-nil bytes)

cut_nothing : (plain : Bool) → cut plain [] ≡ ([], [])
unfolding cut
cut_nothing plain = refl

pub cut_over : (plain : Bool) (i : ℕ) (text rest bytes : List ℕ) (total : List ℕ × List ℕ) → length text ≤ i → rest ≡ drop (length text) text → fronted bytes (cut plain (drop i text)) ≡ total → total ≡ (bytes, rest)
cut_over plain i text rest bytes total h here so_far =
    let none : drop i text ≡ [] = drop_all i text h in
    let none' : rest ≡ [] = here ∙ drop_all (length text) text (omega arith) in
    sym so_far ∙ ap (λ (l : List ℕ). fronted bytes (cut plain l)) none ∙ ap (fronted bytes) (cut_nothing plain)
    ∙ ap (λ (l : List ℕ). let p : List ℕ × List ℕ = (l, []) in p) (append-nil bytes) ∙ ap (λ (l : List ℕ). let p : List ℕ × List ℕ = (bytes, l) in p) (sym none')

pub word_done : (i : ℕ) (text rest : List ℕ) → rest ≡ drop i text → ends_word rest ≡ true → word text ≡ fronted (take i text) (word (drop i text)) → word text ≡ (take i text, drop i text)
word_done i text rest here ends so_far =
    so_far ∙ ap (fronted (take i text)) (word_ends (drop i text) (ap ends_word (sym here) ∙ ends)) ∙ ap (λ (l : List ℕ). let p : List ℕ × List ℕ = (l, drop i text) in p) (append-nil (take i text))

pub word_over : (i : ℕ) (text : List ℕ) → length text ≤ i → word text ≡ fronted (take i text) (word (drop i text)) → word text ≡ (take (length text) text, drop (length text) text)
word_over i text h so_far =
    let none : drop i text ≡ [] = drop_all i text h in
    let none' : drop (length text) text ≡ [] = drop_all (length text) text (omega arith) in
    let all : take i text ≡ text = take_all i text h in
    let all' : take (length text) text ≡ text = take_all (length text) text (omega arith) in
    word_done i text (drop i text) refl (ap ends_word none) so_far ∙ ap (λ (l : List ℕ). let p : List ℕ × List ℕ = (l, drop i text) in p) (all ∙ sym all')
    ∙ ap (λ (l : List ℕ). let p : List ℕ × List ℕ = (take (length text) text, l) in p) (none ∙ sym none')

pub pair_is : (a b a' b' : List ℕ) (p : List ℕ × List ℕ) → p ≡ (a, b) → a' ≡ a → b' ≡ b → p ≡ (a', b')
pair_is a b a' b' p e left right = e ∙ ap (λ (l : List ℕ). let q : List ℕ × List ℕ = (l, b) in q) (sym left) ∙ ap (λ (l : List ℕ). let q : List ℕ × List ℕ = (a', l) in q) (sym right)

pub closed_done : (plain : Bool) (i : ℕ) (text rest bytes : List ℕ) (total : Option (List ℕ × List ℕ)) → i < length text → rest ≡ drop (i + 1) text → (not plain && get_or text i 0 == 34) ≡ true → closed_behind bytes plain (drop i text) ≡ total → total ≡ Some (bytes, rest)
closed_done plain i text rest bytes total h here quote so_far =
    sym so_far ∙ closed_ends plain i text bytes h quote ∙ ap (λ (l : List ℕ). let o : Option (List ℕ × List ℕ) = Some (bytes, l) in o) (sym here)

pub closed_over : (plain : Bool) (i : ℕ) (text bytes : List ℕ) (total : Option (List ℕ × List ℕ)) → length text ≤ i → closed_behind bytes plain (drop i text) ≡ total → total ≡ None
closed_over plain i text bytes total h so_far = sym so_far ∙ ap (closed_behind bytes plain) (drop_all i text h) ∙ closed_none plain bytes

pub few_more : (before bytes : List ℕ) (e : Bool) (i b : ℕ) (bytes' : List ℕ) → bytes' ≡ bytes ++ (if e then [] else b ∷ []) → length bytes ≤ length before + i → length bytes' ≤ length before + (i + 1)
few_more before bytes true i b bytes' pushed few =
    let size : length bytes' ≡ length bytes + 0 = ap length pushed ∙ length-append bytes [] in
    omega (arith, size, few)
few_more before bytes false i b bytes' pushed few =
    let size : length bytes' ≡ length bytes + 1 = ap length pushed ∙ length-append bytes (b ∷ []) in
    omega (arith, size, few)

pub no_quoted_escape : (b : ℕ) (bs : List ℕ) → (b == 92) ≡ false → escapes is_quoted_special (b ∷ bs) ≡ false
no_quoted_escape b [] backslash = refl
no_quoted_escape b (c ∷ cs) backslash = rw backslash refl

pub unquoted_more : (i : ℕ) (text front : List ℕ) → i < length text → (get_or text i 0 == 34 || get_or text i 0 == 92) ≡ false → closed_behind (front ++ take i text) false (drop i text) ≡ closed_behind (front ++ take (i + 1) text) false (drop (i + 1) text)
unquoted_more i text front h plain =
    let at = drop_more text i 0 h in
    let b = get_or text i 0 in
    let both = or_false (b == 34) (b == 92) plain in
    let goes = closed_goes false false b (drop (i + 1) text) (front ++ take i text) both.0 (sym (no_quoted_escape b (drop (i + 1) text) both.1)) in
    let more : (front ++ take i text) ++ b ∷ [] ≡ front ++ take (i + 1) text = append_assoc front (take i text) (b ∷ []) ∙ ap (λ (l : List ℕ). front ++ l) (sym (take_more text i 0 h)) in
    ap (closed_behind (front ++ take i text) false) at ∙ goes ∙ ap (λ (l : List ℕ). closed_behind l false (drop (i + 1) text)) more
