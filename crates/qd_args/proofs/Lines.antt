-- A command line while it is read: each piece that is found is one that its words begin with, and it is said.
use Rattle.std.proofs.Common.{◌≡◌, ◌↔◌, ℕ, ◌<◌, ◌≤◌, true, List, [], ◌∷◌, ◌++◌, Option, Some, None, MatchOption, length, map, drop, ◌^◌, codes, slice_index_or, decimal, refl, ap, ap₂, sym, ◌∙◌, subst, append_assoc, arith}
use Rattle.std.proofs.lemmas.Fmt.{decimal_injective}
use Rattle.std.specs.Borrow.{Bor}
use Rattle.std.proofs.lemmas.List.{append-nil, length-map, map-append}
use Rattle.qd_args.specs.Plain.{ArePlain, is_plain}
use Rattle.qd_args.specs.declared.command.Command.{Command}
use Rattle.qd_args.specs.declared.command.Command.TheVariants as command
use Rattle.qd_args.specs.declared.command.Spoken.{Spoken}
use Rattle.qd_args.specs.Pieces as pieces
use Rattle.qd_args.specs.Pieces.{AreSpelled, Piece, Spells, counts_in, folders_in, fronts_in, words_in}
use Rattle.qd_args.specs.Words.{AskForOne, Asks, AsksWith, listed}
use Rattle.qd_args.specs.Parts.{AsksBeside, BeginsWith, BeginsWithNone, PiecesAskBeside, Said, SaidAsks, and_piece, once, unsaid}
use Rattle.qd_args.proofs.Spelling.{one_piece, some_words}

some_said : (s t : Said) → Some s ≡ Some t → s ≡ t
some_said s t e = cc

said_none : (s : Said) → Some s ≡ None → ⊥
said_none s e = cc

first_said : {T : Type 0} (o : Option T) (s t : Said) → once o s ≡ Some t → (o ≡ None) × (s ≡ t)
first_said None s t e = (refl, some_said s t e)
first_said (Some x) s t e = absurd (said_none t (sym e))

said_before : {T : Type 0} (o : Option T) (s : Said) → once o s ≡ None → (x : T) × (o ≡ Some x)
said_before None s e = absurd (said_none s e)
said_before (Some x) s e = (x, refl)

no_items : {T : Type 0} (x : T) (xs : List T) → x ∷ xs ≡ [] → ⊥
no_items x xs e = cc

one_item : {T : Type 0} (x y : T) (xs ys : List T) → x ∷ xs ≡ y ∷ ys → xs ≡ ys
one_item x y xs ys e = cc

two_listed : {T : Type 0} (x y : T) (xs : List T) (o : Option T) → x ∷ y ∷ xs ≡ listed o → ⊥
two_listed x y xs None e = no_items x (y ∷ xs) e
two_listed x y xs (Some z) e = no_items y xs (one_item x z (y ∷ xs) [] e)

same_listed : {T : Type 0} (a b : Option T) → listed a ≡ listed b → a ≡ b
same_listed None None e = refl
same_listed None (Some y) e = absurd (no_items y [] (sym e))
same_listed (Some x) None e = absurd (no_items x [] e)
same_listed (Some x) (Some y) e = cc

-- the same options
with_options : (c : Command) (words : List (List ℕ)) (d e : Option (List ℕ)) (k l : Option ℕ) (f g : Option Spoken) → d ≡ e → k ≡ l → f ≡ g → AsksWith c d k f words → AsksWith c e l g words
with_options c words d e k l f g dir most front a =
    subst (λ (o : Option (List ℕ)). AsksWith c o l g words) dir
    (subst (λ (o : Option ℕ). AsksWith c d o g words) most (subst (λ (o : Option Spoken). AsksWith c d k o words) front a))

-- a piece is said
said_more : (c : Command) (s t : Said) (p : Piece) (ps : List Piece) → and_piece s p ≡ Some t → PiecesAskBeside c s (p ∷ ps) → PiecesAskBeside c t ps
said_more c s t (pieces.word w) ps is a =
    subst (λ (u : Said). PiecesAskBeside c u ps) (some_said (record s { words = s.words ++ w ∷ [] }) t is)
    (a.0, a.1, a.2, a.3, a.4, a.5, subst (AsksWith c a.0 a.1 a.2) (sym (append_assoc s.words (w ∷ []) (words_in ps))) a.6)
said_more c s t (pieces.folder d) ps is a =
    let first = first_said s.folder (record s { folder = Some d }) t is in
    subst (λ (u : Said). PiecesAskBeside c u ps) first.1
    (a.0, a.1, a.2, sym (ap (λ (o : Option (List ℕ)). listed o ++ d ∷ folders_in ps) first.0) ∙ a.3, a.4, a.5, a.6)
said_more c s t (pieces.connections n) ps is a =
    let first = first_said s.connections (record s { connections = Some n }) t is in
    subst (λ (u : Said). PiecesAskBeside c u ps) first.1
    (a.0, a.1, a.2, a.3, sym (ap (λ (o : Option ℕ). listed o ++ n ∷ counts_in ps) first.0) ∙ a.4, a.5, a.6)
said_more c s t (pieces.front f) ps is a =
    let first = first_said s.front (record s { front = Some f }) t is in
    subst (λ (u : Said). PiecesAskBeside c u ps) first.1
    (a.0, a.1, a.2, a.3, a.4, sym (ap (λ (o : Option Spoken). listed o ++ f ∷ fronts_in ps) first.0) ∙ a.5, a.6)

said_less : (c : Command) (s t : Said) (p : Piece) (ps : List Piece) → and_piece s p ≡ Some t → PiecesAskBeside c t ps → PiecesAskBeside c s (p ∷ ps)
said_less c s t (pieces.word w) ps is asks =
    let a = subst (λ (u : Said). PiecesAskBeside c u ps) (sym (some_said (record s { words = s.words ++ w ∷ [] }) t is)) asks in
    (a.0, a.1, a.2, a.3, a.4, a.5, subst (AsksWith c a.0 a.1 a.2) (append_assoc s.words (w ∷ []) (words_in ps)) a.6)
said_less c s t (pieces.folder d) ps is asks =
    let first = first_said s.folder (record s { folder = Some d }) t is in
    let a = subst (λ (u : Said). PiecesAskBeside c u ps) (sym first.1) asks in
    (a.0, a.1, a.2, ap (λ (o : Option (List ℕ)). listed o ++ d ∷ folders_in ps) first.0 ∙ a.3, a.4, a.5, a.6)
said_less c s t (pieces.connections n) ps is asks =
    let first = first_said s.connections (record s { connections = Some n }) t is in
    let a = subst (λ (u : Said). PiecesAskBeside c u ps) (sym first.1) asks in
    (a.0, a.1, a.2, a.3, ap (λ (o : Option ℕ). listed o ++ n ∷ counts_in ps) first.0 ∙ a.4, a.5, a.6)
said_less c s t (pieces.front f) ps is asks =
    let first = first_said s.front (record s { front = Some f }) t is in
    let a = subst (λ (u : Said). PiecesAskBeside c u ps) (sym first.1) asks in
    (a.0, a.1, a.2, a.3, a.4, ap (λ (o : Option Spoken). listed o ++ f ∷ fronts_in ps) first.0 ∙ a.5, a.6)

said_twice : (c : Command) (s : Said) (p : Piece) (ps : List Piece) → and_piece s p ≡ None → PiecesAskBeside c s (p ∷ ps) → ⊥
said_twice c s (pieces.word w) ps is a = said_none (record s { words = s.words ++ w ∷ [] }) is
said_twice c s (pieces.folder d) ps is a =
    let before = said_before s.folder (record s { folder = Some d }) is in
    two_listed before.0 d (folders_in ps) a.0 (sym (ap (λ (o : Option (List ℕ)). listed o ++ d ∷ folders_in ps) before.1) ∙ a.3)
said_twice c s (pieces.connections n) ps is a =
    let before = said_before s.connections (record s { connections = Some n }) is in
    two_listed before.0 n (counts_in ps) a.1 (sym (ap (λ (o : Option ℕ). listed o ++ n ∷ counts_in ps) before.1) ∙ a.4)
said_twice c s (pieces.front f) ps is a =
    let before = said_before s.front (record s { front = Some f }) is in
    two_listed before.0 f (fronts_in ps) a.2 (sym (ap (λ (o : Option Spoken). listed o ++ f ∷ fronts_in ps) before.1) ∙ a.5)

-- the first piece of a line
first_is : (ps : List Piece) (words : List (List ℕ)) (p : Piece) (rest : List (List ℕ)) → BeginsWith words p rest → AreSpelled ps words → (qs : List Piece) × (ps ≡ p ∷ qs) × AreSpelled qs rest
first_is [] words p rest b spelled = absurd (some_words p b.0 rest b.1 (sym b.2 ∙ spelled))
first_is (q ∷ qs) words p rest b spelled =
    let same = one_piece q p spelled.0 b.0 spelled.1 rest spelled.2 b.1 (sym spelled.4 ∙ b.2) in
    (qs, ap (λ (x : Piece). x ∷ qs) same.0, subst (AreSpelled qs) same.1 spelled.3)

-- before anything is said
pub begun : (c : Command) (words : List (List ℕ)) → Asks c words ↔ AsksBeside c unsaid words
begun c words = (λ a. a, λ a. a)

pub one_said : (c : Command) (s t : Said) (p : Piece) (words rest : List (List ℕ)) → and_piece s p ≡ Some t → BeginsWith words p rest → AsksBeside c s words ↔ AsksBeside c t rest
one_said c s t p words rest is b = (λ a. forth a, λ a. back a)
  where
    forth : AsksBeside c s words → AsksBeside c t rest
    forth a =
        let first = first_is a.0 words p rest b a.1 in
        (first.0, first.2, said_more c s t p first.0 is (subst (PiecesAskBeside c s) first.1 a.2))

    back : AsksBeside c t rest → AsksBeside c s words
    back a = (p ∷ a.0, (b.0, rest, b.1, a.1, b.2), said_less c s t p a.0 is a.2)

-- an option that was said before
pub not_twice : (c : Command) (s : Said) (p : Piece) (words rest : List (List ℕ)) → and_piece s p ≡ None → BeginsWith words p rest → AsksBeside c s words → ⊥
not_twice c s p words rest is b a =
    let first = first_is a.0 words p rest b a.1 in
    said_twice c s p first.0 is (subst (PiecesAskBeside c s) first.1 a.2)

-- words that begin with no piece
pub no_piece : (c : Command) (s : Said) (words : List (List ℕ)) → 1 ≤ length words → BeginsWithNone words → AsksBeside c s words → ⊥
no_piece c s words some none a = by a.0 a.1
  where
    by : (ps : List Piece) → AreSpelled ps words → ⊥
    by [] spelled = let lengths : length words ≡ 0 = ap length spelled in absurd (omega (arith, lengths, some))
    by (p ∷ ps) spelled = none p spelled.1 (spelled.0, spelled.2, spelled.4)

-- no word is left
pub all_said : (c : Command) (s : Said) (words : List (List ℕ)) → words ≡ [] → AsksBeside c s words ↔ SaidAsks c s
all_said c s words end = (
  λ a. forth a.0 a.1 a.2,
  λ a. ([], end, (s.folder, s.connections, s.front, append-nil (listed s.folder), append-nil (listed s.connections), append-nil (listed s.front), subst (AsksWith c s.folder s.connections s.front) (sym (append-nil s.words)) a)),
)
  where
    forth : (ps : List Piece) → AreSpelled ps words → PiecesAskBeside c s ps → SaidAsks c s
    forth [] spelled a =
        let dir = same_listed s.folder a.0 (sym (append-nil (listed s.folder)) ∙ a.3) in
        let most = same_listed s.connections a.1 (sym (append-nil (listed s.connections)) ∙ a.4) in
        let front = same_listed s.front a.2 (sym (append-nil (listed s.front)) ∙ a.5) in
        with_options c s.words a.0 s.folder a.1 s.connections a.2 s.front (sym dir) (sym most) (sym front) (subst (AsksWith c a.0 a.1 a.2) (append-nil s.words) a.6)
    forth (p ∷ ps) spelled a = absurd (some_words p spelled.0 spelled.1 spelled.2 (sym spelled.4 ∙ end))

-- ---- no words ask for two commands

one_line : (ps qs : List Piece) (words : List (List ℕ)) → AreSpelled ps words → AreSpelled qs words → ps ≡ qs
one_line [] qs words a b = by qs b
  where
    by : (qs : List Piece) → AreSpelled qs words → [] ≡ qs
    by [] b = refl
    by (q ∷ qs) b = absurd (some_words q b.0 b.1 b.2 (sym b.4 ∙ a))
one_line (p ∷ ps) qs words a b =
    let first = first_is qs words p a.1 (a.0, a.2, a.4) b in
    ap (λ (x : List Piece). p ∷ x) (one_line ps first.0 a.1 a.3 first.2) ∙ sym first.1

kinds_apart : (words : List (List ℕ)) (a b : List ℕ) (v w : List (List ℕ)) → words ≡ a ∷ v → words ≡ b ∷ w → slice_index_or a 0 0 ≡ slice_index_or b 0 0
kinds_apart words a b v w x y = ap (λ (ws : List (List ℕ)). slice_index_or (slice_index_or ws 0 []) 0 0) (sym x ∙ y)

-- the table has one command for the same words and options
one_entry : (words : List (List ℕ)) (dir : Option (List ℕ)) (most : Option ℕ) (said : Option Spoken) (one other : Command) → AsksWith one dir most said words → AsksWith other dir most said words → one ≡ other
one_entry words dir most said (command.Run d) (command.Run e) a b = ap command.Run (sym a.0 ∙ b.0)
one_entry words dir most said (command.Run d) (command.Gen n l) a b = absurd (omega (arith, kinds_apart words (codes "run") (codes "gen") [] _ a.3 b.6))
one_entry words dir most said (command.Run d) (command.Serve p e k f) a b = absurd (omega (arith, kinds_apart words (codes "run") (codes "serve") [] _ a.3 b.5))
one_entry words dir most said (command.Gen n l) (command.Run d) a b = absurd (omega (arith, kinds_apart words (codes "gen") (codes "run") _ [] a.6 b.3))
one_entry words dir most said (command.Gen n l) (command.Serve p e k f) a b = absurd (omega (arith, kinds_apart words (codes "gen") (codes "serve") _ _ a.6 b.5))
one_entry words dir most said (command.Serve p e k f) (command.Run d) a b = absurd (omega (arith, kinds_apart words (codes "serve") (codes "run") _ [] a.5 b.3))
one_entry words dir most said (command.Serve p e k f) (command.Gen n l) a b = absurd (omega (arith, kinds_apart words (codes "serve") (codes "gen") _ _ a.5 b.6))
one_entry words dir most said (command.Gen n l) (command.Gen m k) a b =
    let same : codes "gen" ∷ decimal n ∷ decimal l ∷ [] ≡ codes "gen" ∷ decimal m ∷ decimal k ∷ [] = sym a.6 ∙ b.6 in
    let number : n ≡ m = decimal_injective n m (omega arith) (omega arith) (ap (λ ws. slice_index_or ws 1 []) same) in
    let lines : l ≡ k = decimal_injective l k (omega arith) (omega arith) (ap (λ ws. slice_index_or ws 2 []) same) in
    ap₂ command.Gen number lines
one_entry words dir most said (command.Serve p d k f) (command.Serve q e l g) a b =
    let same : codes "serve" ∷ decimal p ∷ [] ≡ codes "serve" ∷ decimal q ∷ [] = sym a.5 ∙ b.5 in
    let port : p ≡ q = decimal_injective p q (omega arith) (omega arith) (ap (λ ws. slice_index_or ws 1 []) same) in
    let folder : Some d ≡ Some e = sym a.0 ∙ b.0 in
    same_serve p q d e k l f g port folder (sym a.1 ∙ b.1) (sym a.2 ∙ b.2)
  where
    same_serve : (p q : ℕ) (d e : List ℕ) (k l : Option ℕ) (f g : Spoken) → p ≡ q → Some d ≡ Some e → k ≡ l → f ≡ g → command.Serve p d k f ≡ command.Serve q e l g
    same_serve p q d e k l f g port folder most front = cc

-- no words ask for two commands
pub one_command : AskForOne
one_command words one other a b =
    let pieces = one_line b.0 a.0 words b.1 a.1 in
    let asks = subst (λ (ps : List Piece). PiecesAskBeside other unsaid ps) pieces b.2 in
    let dir = same_listed asks.0 a.2.0 (sym asks.3 ∙ a.2.3) in
    let most = same_listed asks.1 a.2.1 (sym asks.4 ∙ a.2.4) in
    let front = same_listed asks.2 a.2.2 (sym asks.5 ∙ a.2.5) in
    one_entry (words_in a.0) a.2.0 a.2.1 a.2.2 one other a.2.6
    (with_options other (words_in a.0) asks.0 a.2.0 asks.1 a.2.1 asks.2 a.2.2 dir most front asks.6)

-- ---- texts

plain_end : (ws : List (List ℕ)) (w : List ℕ) → ArePlain ws → is_plain w ≡ true → ArePlain (ws ++ w ∷ [])
plain_end [] w all one = (one, tt)
plain_end (v ∷ ws) w all one = (all.0, plain_end ws w all.1 one)

-- one text more
pub texts_more : (items more : List (Bor (List ℕ))) (text : Bor (List ℕ)) → more ≡ items ++ text ∷ [] → map (λ t. t.now) items ≡ codes "tsdb" ∷ drop 1 (map (λ t. t.now) items) → ArePlain (drop 1 (map (λ t. t.now) items)) → is_plain text.now ≡ true
    → (drop 1 (map (λ t. t.now) more) ≡ drop 1 (map (λ t. t.now) items) ++ text.now ∷ []) × (map (λ t. t.now) more ≡ codes "tsdb" ∷ drop 1 (map (λ t. t.now) more)) × ArePlain (drop 1 (map (λ t. t.now) more))
texts_more items more text pushed named plain one =
    let P : List (List ℕ) → Type 0 = λ ws. (drop 1 ws ≡ drop 1 (map (λ t. t.now) items) ++ text.now ∷ []) × (ws ≡ codes "tsdb" ∷ drop 1 ws) × ArePlain (drop 1 ws) in
    let all : map (λ t. t.now) more ≡ codes "tsdb" ∷ (drop 1 (map (λ t. t.now) items) ++ text.now ∷ []) =
    ap (map (λ t. t.now)) pushed ∙ map-append (λ t. t.now) items (text ∷ []) ∙ ap (λ xs. xs ++ text.now ∷ []) named in
    subst P (sym all) (refl, refl, plain_end (drop 1 (map (λ t. t.now) items)) text.now plain one)

-- ---- plain words alone

some_same : (a b : Command) → Some a ≡ Some b → a ≡ b
some_same a b e = cc

none_some : (c : Command) → None ≡ Some c → ⊥
none_some c e = cc

-- no words at all ask for nothing
pub no_words : (words : List (List ℕ)) (folder : Option (List ℕ)) (connections : Option ℕ) (said : Option Spoken) → words ≡ [] → (c : Command) → ((None ≡ Some c) ↔ AsksWith c folder connections said words)
no_words words folder connections said none c = (λ e. absurd (none_some c e), λ asks. absurd (by c asks))
  where
    by : (c : Command) → AsksWith c folder connections said words → ⊥
    by (command.Run d) asks = no_items (codes "run") [] (sym asks.3 ∙ none)
    by (command.Gen n l) asks = no_items (codes "gen") (decimal n ∷ decimal l ∷ []) (sym asks.6 ∙ none)
    by (command.Serve p d k f) asks = no_items (codes "serve") (decimal p ∷ []) (sym asks.5 ∙ none)

-- fewer words than texts
pub few_words : (texts : List (Bor (List ℕ))) (words : List (List ℕ)) → map (λ t. t.now) texts ≡ codes "tsdb" ∷ words → length texts < 2 ^ 64 → length words < 2 ^ 64
few_words texts words are few =
    let lengths : length texts ≡ length (codes "tsdb" ∷ words) = sym (length-map texts (λ (t : Bor (List ℕ)). t.now)) ∙ ap length are in
    omega arith

-- what is found by a line is what the words ask for
pub found_by_line : (found : Option Command) (words : List (List ℕ)) (s : Said) → ((c : Command) → ((found ≡ Some c) ↔ SaidAsks c s)) → ((c : Command) → Asks c words ↔ SaidAsks c s) → (c : Command) → ((found ≡ Some c) ↔ Asks c words)
found_by_line found words s exact same c = (λ e. (same c).1 ((exact c).0 e), λ asks. (exact c).1 ((same c).0 asks))

pub found_without : (words : List (List ℕ)) → ((c : Command) → Asks c words → ⊥) → (c : Command) → ((None ≡ Some c) ↔ Asks c words)
found_without words none c = (λ e. absurd (none_some c e), λ asks. absurd (none c asks))

-- what is found, in the arm of a match
pub match_some : {T : Type 0} (o : Option T) (x : T) (P : Type 0) (Q : T → Type 0) → o ≡ Some x → MatchOption o P Q → Q x
match_some {T} o x P Q is h = subst (λ (r : Option T). MatchOption r P Q) is h

pub match_none : {T : Type 0} (o : Option T) (P : Type 0) (Q : T → Type 0) → o ≡ None → MatchOption o P Q → P
match_none {T} o P Q is h = subst (λ (r : Option T). MatchOption r P Q) is h
