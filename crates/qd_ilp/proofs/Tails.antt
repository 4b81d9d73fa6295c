-- Spaces, and the ends of lines.
use Rattle.std.proofs.Common.{◌≡◌, ◌≢◌, ℕ, ◌+◌, ◌<◌, ◌≤◌, true, false, List, [], ◌∷◌, length, get_or, drop, refl, sym, ap, ◌∙◌, arith}
use Rattle.std.proofs.lemmas.Bool.{eq-eqb, ne_eqb}
use Rattle.std.proofs.lemmas.List.{drop_more, drop_all}
use Rattle.qd_ilp.specs.Cut.{at_end}
use Rattle.qd_ilp.specs.Line.{after_spaces, to_end}

space_here : (b : ℕ) (bs : List ℕ) → b ≡ 32 → after_spaces (b ∷ bs) ≡ after_spaces bs
unfolding after_spaces
space_here b bs h = rw (eq-eqb b 32 h) refl

no_space : (b : ℕ) (bs : List ℕ) → b ≢ 32 → after_spaces (b ∷ bs) ≡ b ∷ bs
unfolding after_spaces
no_space b bs h = rw (ne_eqb b 32 h) refl

no_spaces : after_spaces [] ≡ []
unfolding after_spaces
no_spaces = refl

pub spaces_more : (i : ℕ) (text : List ℕ) → i < length text → get_or text i 0 ≡ 32 → after_spaces (drop i text) ≡ after_spaces (drop (i + 1) text)
spaces_more i text h space = ap after_spaces (drop_more text i 0 h) ∙ space_here (get_or text i 0) (drop (i + 1) text) space

pub spaces_done : (i : ℕ) (text : List ℕ) → i < length text → get_or text i 0 ≢ 32 → after_spaces (drop i text) ≡ drop i text
spaces_done i text h space = let at = drop_more text i 0 h in ap after_spaces at ∙ no_space (get_or text i 0) (drop (i + 1) text) space ∙ sym at

pub spaces_over : (i : ℕ) (text : List ℕ) → length text ≤ i → after_spaces (drop i text) ≡ drop (length text) text
spaces_over i text h = ap after_spaces (drop_all i text h) ∙ no_spaces ∙ sym (drop_all (length text) text (omega arith))

pub end_here : (b : ℕ) (bs : List ℕ) → at_end (b ∷ bs) ≡ true → to_end (b ∷ bs) ≡ b ∷ bs
unfolding to_end
end_here b bs h = rw h refl

pub no_end : (b : ℕ) (bs : List ℕ) → at_end (b ∷ bs) ≡ false → to_end (b ∷ bs) ≡ to_end bs
unfolding to_end
no_end b bs h = rw h refl

pub nothing_left : to_end [] ≡ []
unfolding to_end
nothing_left = refl

pub end_more : (i : ℕ) (text rest : List ℕ) → i < length text → rest ≡ drop i text → at_end rest ≡ false → to_end (drop i text) ≡ to_end (drop (i + 1) text)
end_more i text rest h here ends =
    let at = drop_more text i 0 h in
    ap to_end at ∙ no_end (get_or text i 0) (drop (i + 1) text) (ap at_end (sym (here ∙ at)) ∙ ends)

pub end_done : (i : ℕ) (text rest : List ℕ) → i < length text → rest ≡ drop i text → at_end rest ≡ true → to_end (drop i text) ≡ rest
end_done i text rest h here ends =
    let at = drop_more text i 0 h in
    ap to_end at ∙ end_here (get_or text i 0) (drop (i + 1) text) (ap at_end (sym (here ∙ at)) ∙ ends) ∙ sym (here ∙ at)

pub end_over : (i : ℕ) (text : List ℕ) → length text ≤ i → to_end (drop i text) ≡ drop (length text) text
end_over i text h = ap to_end (drop_all i text h) ∙ nothing_left ∙ sym (drop_all (length text) text (omega arith))
