-- Texts behind their lengths, read and written one after another.
use Rattle.std.proofs.Common.{◌≡◌, ℕ, ◌+◌, ◌<◌, ◌≤◌, inl, inr, Some, None, is_some, cond, List, [], ◌∷◌, ◌++◌, length, take, drop, get_or, slice_get, slice_range, refl, sym, ap, ◌∙◌, arith, All, subst, length-append, length-drop, append-nil}
use Rattle.std.specs.List.{flat_map}
use Rattle.std.specs.Int.{w16, from_le_bytes}
use Rattle.std.proofs.lemmas.Bool.{lt-ltb}
use Rattle.std.proofs.lemmas.List.{append_assoc, take-append-drop, length-take-le, drop-drop, take_more}
use Rattle.std.proofs.lemmas.List.Elements.{All-push}
use Rattle.std.proofs.lemmas.Grind.{flat_map-append}
use Rattle.std.proofs.lemmas.Nat.{le_bytes_2}
use Rattle.byteorder.specs.Endian.{little_bytes, little_number}
use Rattle.byteorder.specs.Numbers.{little_from-take}
use Rattle.qd_base.specs.Dictionary.{id_for, with_text, AreDistinct}
use Rattle.qd_base.proofs.Texts.{with_text-new, distinct-with_text}
use Rattle.qd_column.proofs.ListLemmas.{part_more, got}
use Rattle.qd_column_format.specs.Spelling.{stored_text}
use Rattle.qd_column_format.specs.Damage.{IsCutText, IsTextDamage}
use Rattle.qd_column_format.proofs.WordLemmas.{AreBytes, bytes-take, bytes-drop}

same_half : (bs : List ℕ) → little_number 2 bs ≡ from_le_bytes w16 bs
same_half bs = omega arith

-- the two bytes of the number in them
half_again : (bs : List ℕ) → 2 ≤ length bs → AreBytes bs → little_bytes 2 (little_number 2 bs) ≡ take 2 bs
half_again bs size h = le_bytes_2 (take 2 bs) (little_number 2 bs) (length-take-le 2 bs size) (bytes-take 2 bs h) (sym (little_from-take 0 2 2 bs (omega arith)) ∙ same_half (take 2 bs))

-- a text that is whole
pub text_there : (rest : List ℕ) (size : ℕ) → AreBytes rest → 2 + size ≤ length rest → size ≡ little_number 2 rest → rest ≡ stored_text (take size (drop 2 rest)) ++ drop (2 + size) rest
text_there rest size known room is =
    let count : length (take size (drop 2 rest)) ≡ size = length-take-le size (drop 2 rest) (omega (arith, length-drop 2 rest)) in
    let head : little_bytes 2 (length (take size (drop 2 rest))) ≡ take 2 rest = ap (little_bytes 2) (count ∙ is) ∙ half_again rest (omega arith) known in
    let tail : take size (drop 2 rest) ++ drop (2 + size) rest ≡ drop 2 rest = ap (λ l. take size (drop 2 rest) ++ l) (sym (drop-drop size 2 rest)) ∙ take-append-drop size (drop 2 rest) in
    sym (append_assoc (little_bytes 2 (length (take size (drop 2 rest)))) (take size (drop 2 rest)) (drop (2 + size) rest) ∙ ap (λ l. l ++ (take size (drop 2 rest) ++ drop (2 + size) rest)) head ∙ ap (λ l. take 2 rest ++ l) tail ∙ take-append-drop 2 rest)

-- one text more
pub stored_push : (texts : List (List ℕ)) (t : List ℕ) → flat_map stored_text (texts ++ t ∷ []) ≡ flat_map stored_text texts ++ stored_text t
stored_push texts t = flat_map-append stored_text texts (t ∷ []) ∙ ap (λ l. flat_map stored_text texts ++ l) (append-nil (stored_text t))

pub length-stored_text : (t : List ℕ) → length (stored_text t) ≡ 2 + length t
length-stored_text t = length-append (little_bytes 2 (length t)) t

pub part_pushed : (texts : List (List ℕ)) (k i : ℕ) (t : List ℕ) → k ≤ i → i < length texts → slice_get texts i ≡ Some t → flat_map stored_text (slice_range texts k (i + 1)) ≡ flat_map stored_text (slice_range texts k i) ++ stored_text t
part_pushed texts k i t low high e = ap (flat_map stored_text) (part_more texts k i [] low high) ∙ stored_push (slice_range texts k i) (get_or texts i []) ∙ ap (λ x. flat_map stored_text (slice_range texts k i) ++ stored_text x) (got texts i [] t high e)

pub front_pushed : (texts : List (List ℕ)) (i : ℕ) (t : List ℕ) → i < length texts → slice_get texts i ≡ Some t → length (flat_map stored_text (take (i + 1) texts)) ≡ length (flat_map stored_text (take i texts)) + (2 + length t)
front_pushed texts i t high e =
    ap (λ l. length (flat_map stored_text l)) (take_more texts i [] high) ∙ ap length (stored_push (take i texts) (get_or texts i [])) ∙ ap (λ x. length (flat_map stored_text (take i texts) ++ stored_text x)) (got texts i [] t high e) ∙ length-append (flat_map stored_text (take i texts)) (stored_text t) ∙ ap (λ n. length (flat_map stored_text (take i texts)) + n) (length-stored_text t)

-- what the bytes hold so far
pub record AreLoaded (texts : List (List ℕ)) (bytes : List ℕ) (count at : ℕ) : Type 0 where
  pub size : length texts ≡ count
  pub distinct : AreDistinct texts
  pub short : All (λ t. length t ≤ 65535) texts
  pub place : at ≡ length (flat_map stored_text texts)
  pub within : at ≤ length bytes
  pub there : bytes ≡ flat_map stored_text texts ++ drop at bytes

-- one text more that isn't among them
pub loaded_more : (texts new : List (List ℕ)) (bytes t : List ℕ) (count at : ℕ) → AreLoaded texts bytes count at → new ≡ with_text texts t → id_for texts t ≡ count → length t ≤ 65535 → drop at bytes ≡ stored_text t ++ drop (at + (2 + length t)) bytes → AreLoaded new bytes (count + 1) (at + (2 + length t))
loaded_more texts new bytes t count at are is id short text =
    let pushed : new ≡ texts ++ t ∷ [] = is ∙ with_text-new texts t (omega (arith, are.size)) in
    let more : flat_map stored_text new ≡ flat_map stored_text texts ++ stored_text t = ap (flat_map stored_text) pushed ∙ stored_push texts t in
    let sizes : length (flat_map stored_text new) ≡ at + (2 + length t) = ap length more ∙ length-append (flat_map stored_text texts) (stored_text t) ∙ omega (arith, are.place, length-stored_text t) in
    let whole : bytes ≡ flat_map stored_text new ++ drop (at + (2 + length t)) bytes = are.there ∙ ap (λ l. flat_map stored_text texts ++ l) text ∙ sym (append_assoc (flat_map stored_text texts) (stored_text t) (drop (at + (2 + length t)) bytes)) ∙ ap (λ l. l ++ drop (at + (2 + length t)) bytes) (sym more) in
    record {
      size = ap length pushed ∙ omega (arith, length-append texts (t ∷ []), are.size);
      distinct = subst AreDistinct (sym is) (distinct-with_text texts t are.distinct);
      short = subst (All (λ x. length x ≤ 65535)) (sym pushed) (All-push (λ x. length x ≤ 65535) texts t are.short short);
      place = sym sizes;
      within = omega (arith, ap length whole, length-append (flat_map stored_text new) (drop (at + (2 + length t)) bytes), sizes);
      there = whole;
    }

-- a text that is cut
pub load_cut : (texts : List (List ℕ)) (bytes : List ℕ) (count at all : ℕ) → AreLoaded texts bytes count at → count < all → IsCutText (drop at bytes) → IsTextDamage all bytes (length bytes)
load_cut texts bytes count at all are fewer cut =
    record {
      texts = texts;
      short = are.short;
      distinct = are.distinct;
      fewer = omega (arith, are.size);
      rest = drop at bytes;
      there = are.there;
      damage = inl (cut, refl);
    }

-- a text that stands there already
pub load_repeated : (texts : List (List ℕ)) (bytes t : List ℕ) (count at all : ℕ) → AreLoaded texts bytes count at → count < all → id_for texts t < count → length t ≤ 65535 → drop at bytes ≡ stored_text t ++ drop (at + (2 + length t)) bytes → IsTextDamage all bytes at
load_repeated texts bytes t count at all are fewer id short text =
    record {
      texts = texts;
      short = are.short;
      distinct = are.distinct;
      fewer = omega (arith, are.size);
      rest = drop at bytes;
      there = are.there;
      damage = inr (t, short, (drop (at + (2 + length t)) bytes, text), ap (λ b. is_some (cond b (Some (id_for texts t)) None)) (lt-ltb (id_for texts t) (length texts) (omega (arith, are.size))), are.place);
    }

-- the text at a place
pub text_at_is : (bytes t : List ℕ) (at size : ℕ) → AreBytes bytes → 2 + size ≤ length (drop at bytes) → size ≡ little_number 2 (drop at bytes) → t ≡ take size (drop 2 (drop at bytes)) → drop at bytes ≡ stored_text t ++ drop (at + (2 + length t)) bytes
text_at_is bytes t at size known room is t_is =
    let rest = drop at bytes in
    let count : length t ≡ size = ap length t_is ∙ length-take-le size (drop 2 rest) (omega (arith, length-drop 2 rest)) in
    let whole = text_there rest size (bytes-drop at bytes known) room is in
    whole ∙ ap (λ x. stored_text x ++ drop (2 + size) rest) (sym t_is) ∙ ap (λ l. stored_text t ++ l) (drop-drop (2 + size) at bytes) ∙ ap (λ n. stored_text t ++ drop (at + (2 + n)) bytes) (sym count)
