-- What `clap` makes of plain words: one argument that takes them all, in order.
use Rattle.std.proofs.Common.{◌≡◌, ℕ, suc, IsSomeAnd, map, option_map, ◌==◌, ◌<◌, ◌^◌, true, false, not, List, [], ◌∷◌, ◌++◌, length, codes, fold, Option, Some, None, refl, ap, ap₂, sym, ◌∙◌, append_assoc, nat_le, arith}
use Rattle.std.specs.Borrow.{Bor}
use Rattle.std.specs.List.{list_all}
use Rattle.std.proofs.lemmas.List.{append-nil}
use Rattle.std.proofs.lemmas.Bool.Decides.{nat_tests}
use Rattle.clap.proofs.OnLiterals.{clap_on_literals}
use Rattle.clap.specs.Lexer.{usize_max}
use Rattle.clap.specs.declared.builder.arg.Arg.{Arg}
use Rattle.clap.specs.declared.builder.range.ValueRange.{ValueRange}
use Rattle.clap.specs.Walk.{Rule, Text, Walk, all_of, nothing_held, positional, rule_of, walk, walk_from, walked}
use Rattle.clap.specs.Simple.{App, Shape, built, filled, is_simple, matches_of, new_app, new_rule, with_index, with_rule}
use Rattle.clap.specs.Takes.{takes, value_passes, walk_passes}
use Rattle.qd_args.specs.Plain.{ArePlain, is_plain}

abbrev pub words_rule : Rule
words_rule = record (new_rule (codes "words")) { range = Some (record { start_inclusive = 0; end_inclusive = usize_max }) }

abbrev pub line : App
line = with_rule (new_app (codes "tsdb")) words_rule

pub line_is_simple : is_simple line ≡ true
unfolding clap_on_literals
line_is_simple = refl

abbrev rules : List Rule
rules = (built line).top.rules

-- the walk behind some plain words
abbrev behind : List Text → Walk
behind ws = record {
  held = record { rows = []; pending = Some (codes "words", ws); skip = 0 };
  waiting = positional;
  position = 1;
  is_trailing = false;
  stopped = None;
}

other_byte : (b : ℕ) → not (b == 45) ≡ true → (b == 45) ≡ false
other_byte b plain = grind (arith, nat_tests)

first_word : (w : Text) → is_plain w ≡ true → walked rules [] (walk_from nothing_held) w ≡ behind (w ∷ [])
unfolding clap_on_literals
first_word [] plain = refl
first_word (b ∷ bs) plain = rw (other_byte b plain, other_byte b plain) refl

next_word : (ws : List Text) (w : Text) → is_plain w ≡ true → walked rules [] (behind ws) w ≡ behind (ws ++ w ∷ [])
unfolding clap_on_literals
next_word ws [] plain = refl
next_word ws (b ∷ bs) plain = rw (other_byte b plain, other_byte b plain) refl

next_words : (ws vs : List Text) → ArePlain vs → fold (walked rules []) (behind ws) vs ≡ behind (ws ++ vs)
next_words ws [] plain = ap behind (sym (append-nil ws))
next_words ws (v ∷ vs) plain =
    ap (λ (w : Walk). fold (walked rules []) w vs) (next_word ws v plain.0) ∙ next_words (ws ++ v ∷ []) vs plain.1 ∙ ap behind (append_assoc ws (v ∷ []) vs)

walk_is : (w : Text) (ws : List Text) → is_plain w ≡ true → ArePlain ws → walk rules [] nothing_held (w ∷ ws) ≡ behind (w ∷ ws)
walk_is w ws first plain =
    ap (λ (v : Walk). fold (walked rules []) v ws) (first_word w first) ∙ next_words (w ∷ []) ws plain

-- the words are what was found
pub found_words : (w : Text) (ws : List Text) → is_plain w ≡ true → ArePlain ws → all_of (codes "words") (matches_of line (codes "tsdb" ∷ w ∷ ws)) ≡ Some (w ∷ ws)
unfolding clap_on_literals
found_words w ws first plain = rw (walk_is w ws first plain) refl

pub found_none : all_of (codes "words") (matches_of line (codes "tsdb" ∷ [])) ≡ None
unfolding clap_on_literals
found_none = refl

abbrev shape : Shape
shape = (built line).top

next_passes : (ws vs : List Text) → ArePlain vs → walk_passes shape [] (behind ws) vs ≡ true
unfolding clap_on_literals
next_passes ws [] plain = refl
next_passes ws ([] ∷ vs) plain = next_passes (ws ++ [] ∷ []) vs plain.1
next_passes ws ((b ∷ bs) ∷ vs) plain = rw (other_byte b plain.0, other_byte b plain.0) (next_passes (ws ++ (b ∷ bs) ∷ []) vs plain.1)

first_passes : (w : Text) (ws : List Text) → is_plain w ≡ true → ArePlain ws → walk_passes shape [] (walk_from nothing_held) (w ∷ ws) ≡ true
unfolding clap_on_literals
first_passes [] ws first plain = next_passes ([] ∷ []) ws plain
first_passes (b ∷ bs) ws first plain = rw (other_byte b first, other_byte b first) (next_passes ((b ∷ bs) ∷ []) ws plain)

all_pass : (ws : List Text) → list_all (value_passes (with_index 1 (filled words_rule))) ws ≡ true
all_pass [] = refl
all_pass (w ∷ ws) = all_pass ws

least : (n : ℕ) → nat_le 0 (suc n) ≡ true
least n = grind (arith, nat_tests)

few : (n : ℕ) → n < 2 ^ 64 → nat_le n usize_max ≡ true
few n small = grind (arith, nat_tests)

-- no plain words are refused
pub takes_words : (ws : List Text) → ArePlain ws → length ws < 2 ^ 64 → takes line (codes "tsdb" ∷ ws) ≡ true
unfolding clap_on_literals
takes_words [] plain small = refl
takes_words (w ∷ ws) plain small =
    rw (walk_is w ws plain.0 plain.1, first_passes w ws plain.0 plain.1, few (length (w ∷ ws)) small) (rw (least (length ws), all_pass ws) refl)

-- plain words as they are found: none where there is none
abbrev pub found : List Text → Option (List Text)
found [] = None
found (w ∷ ws) = Some (w ∷ ws)

pub found_is : (ws : List Text) → ArePlain ws → all_of (codes "words") (matches_of line (codes "tsdb" ∷ ws)) ≡ found ws
found_is [] plain = found_none
found_is (w ∷ ws) plain = found_words w ws plain.0 plain.1

not_none : (vs : List Text) → Some vs ≡ None → ⊥
not_none vs e = cc

pub found_some : (ws vs : List Text) → Some vs ≡ found ws → vs ≡ ws
found_some [] vs e = absurd (not_none vs e)
found_some (w ∷ ws) vs e = cc

pub found_nothing : (ws : List Text) → None ≡ found ws → ws ≡ []
found_nothing [] e = refl
found_nothing (w ∷ ws) e = absurd (not_none (w ∷ ws) (sym e))

some_range : (range : Option ValueRange) → IsSomeAnd range (λ r. r ≡ record { start_inclusive = 0; end_inclusive = usize_max }) → range ≡ Some (record { start_inclusive = 0; end_inclusive = usize_max })
some_range None is = absurd is
some_range (Some r) is = ap Some is

-- the argument, as it is made
pub rule_is : (a r : Arg) → rule_of a ≡ new_rule (codes "words") → r ≡ record a { num_vals = r.num_vals } → IsSomeAnd r.num_vals (λ v. v ≡ record { start_inclusive = 0; end_inclusive = usize_max }) → rule_of r ≡ words_rule
rule_is a r plain is range =
    ap rule_of is ∙ ap₂ (λ (p : Rule) (v : Option ValueRange). record p { range = v }) plain (some_range r.num_vals range)

-- the texts that were found, in each arm of a match
pub texts_some : (r : Option (Bor (List (Bor Text)))) (words : Bor (List (Bor Text))) (o : Option (List Text)) → r ≡ Some words → option_map (λ (s : Bor (List (Bor Text))). map (λ (v : Bor Text). v.now) s.now) r ≡ o → Some (map (λ (v : Bor Text). v.now) words.now) ≡ o
texts_some r words o is are = sym (ap (option_map (λ (s : Bor (List (Bor Text))). map (λ (v : Bor Text). v.now) s.now)) is) ∙ are

pub texts_none : (r : Option (Bor (List (Bor Text)))) (o : Option (List Text)) → r ≡ None → option_map (λ (s : Bor (List (Bor Text))). map (λ (v : Bor Text). v.now) s.now) r ≡ o → None ≡ o
texts_none r o is are = sym (ap (option_map (λ (s : Bor (List (Bor Text))). map (λ (v : Bor Text). v.now) s.now)) is) ∙ are
