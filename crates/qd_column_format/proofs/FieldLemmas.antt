-- The numbers of rows as bytes.
use Rattle.std.proofs.Common.{◌≡◌, ℕ, suc, ◌+◌, ◌*◌, ◌^◌, ◌<◌, ◌≤◌, List, [], ◌∷◌, ◌++◌, length, take, drop, refl, sym, ap, ◌∙◌, arith, All, subst, length-append}
use Rattle.std.specs.List.{flat_map}
use Rattle.std.proofs.lemmas.List.{append_cancel_left, take-append-drop, append_assoc, length-take-le, get_or-take, take-take}
use Rattle.std.proofs.lemmas.Grind.{flat_map-append}
use Rattle.byteorder.specs.Endian.{little_bytes, little_number}
use Rattle.byteorder.specs.Numbers.{little_number-reads_back, length-bytes_low_first}
use Rattle.qd_base.specs.declared.schema.ColType.{ColType}
use Rattle.qd_column_format.specs.Fields.{field_bytes, bytes_of_fields, AreFields}
use Rattle.qd_column_format.specs.Spelling.{BeginsWith}

-- bytes that begin with one number begin with no other
pub field_inj : (n x y : ℕ) (r s : List ℕ) → x < 256 ^ n → y < 256 ^ n → little_bytes n x ++ r ≡ little_bytes n y ++ s → (x ≡ y) × (r ≡ s)
field_inj n x y r s hx hy e =
    let same : x ≡ y = sym (little_number-reads_back n x r hx) ∙ ap (little_number n) e ∙ little_number-reads_back n y s hy in
    (same, append_cancel_left (little_bytes n y) r s (ap (λ z. little_bytes n z ++ r) (sym same) ∙ e))

-- the numbers that bytes begin with are the first of any that they begin with
pub fields_inj : (n : ℕ) (xs ys r s : List ℕ) → All (λ x. x < 256 ^ n) xs → All (λ x. x < 256 ^ n) ys → length xs ≤ length ys → flat_map (little_bytes n) xs ++ r ≡ flat_map (little_bytes n) ys ++ s → xs ≡ take (length xs) ys
fields_inj n [] ys r s hx hy le e = refl
fields_inj n (x ∷ xs) [] r s hx hy le e = absurd (omega arith)
fields_inj n (x ∷ xs) (y ∷ ys) r s hx hy le e =
    let one = field_inj n x y (flat_map (little_bytes n) xs ++ r) (flat_map (little_bytes n) ys ++ s) (hx 0 0 (omega arith)) (hy 0 0 (omega arith)) (sym (append_assoc (little_bytes n x) (flat_map (little_bytes n) xs) r) ∙ e ∙ append_assoc (little_bytes n y) (flat_map (little_bytes n) ys) s) in
    let rest = fields_inj n xs ys r s (λ k d lt. hx (suc k) d (omega arith)) (λ k d lt. hy (suc k) d (omega arith)) (omega arith) one.1 in
    ap (λ l. x ∷ l) rest ∙ ap (λ z. z ∷ take (length xs) ys) one.0

-- how many bytes numbers take
pub length-words : (n : ℕ) (xs : List ℕ) → length (flat_map (little_bytes n) xs) ≡ length xs * n
length-words n [] = omega arith
length-words n (x ∷ xs) = length-append (little_bytes n x) (flat_map (little_bytes n) xs) ∙ ap (λ m. m + length (flat_map (little_bytes n) xs)) (length-bytes_low_first 0 n x) ∙ ap (λ m. n + m) (length-words n xs) ∙ more n (length xs)
  where
    more : (n m : ℕ) → n + m * n ≡ suc m * n
    more n m = grind arith

-- bytes that begin with numbers begin with the first of them
pub begins_append : (main front more : List ℕ) → BeginsWith main (front ++ more) → BeginsWith main front
begins_append main front more b = (more ++ b.0, b.1 ∙ append_assoc front more b.0)

pub begins_front : (k : ColType) (main fields : List ℕ) (i : ℕ) → BeginsWith main (bytes_of_fields k fields) → BeginsWith main (bytes_of_fields k (take i fields))
begins_front k main fields i b =
    let split : bytes_of_fields k fields ≡ bytes_of_fields k (take i fields) ++ bytes_of_fields k (drop i fields) = ap (bytes_of_fields k) (sym (take-append-drop i fields)) ∙ flat_map-append (field_bytes k) (take i fields) (drop i fields) in
    begins_append main (bytes_of_fields k (take i fields)) (bytes_of_fields k (drop i fields)) (subst (BeginsWith main) split b)

-- the first of fields that keep the rules do so
pub fields_front : (k : ColType) (fields : List ℕ) (i : ℕ) → i ≤ length fields → AreFields k fields → AreFields k (take i fields)
fields_front k fields i le are =
    let size = length-take-le i fields le in
    record {
      fit = λ j d lt. let low : j < i = omega arith in rw (get_or-take i fields j d low) (are.fit j d (omega arith));
      kept = λ j lt. let low : j < i = omega arith in rw (take-take j i fields (omega arith), get_or-take i fields j 0 low) (are.kept j (omega arith));
    }
