-- Where the parts of a line end, and the bytes that they stand for. InfluxDB line protocol reference: special
-- characters; the escapes are this project's profile of it.
use Rattle.std.specs.Prelude.{◌≡◌, ℕ, Bool, true, false, not, ◌||◌, ◌&&◌, List, [], ◌∷◌, ◌++◌, ◌==◌, Option, Some, None, Result, Ok, Err, if◌then◌else◌}
use Rattle.qd_ilp.specs.declared.stop.Stop.{Stop}
use Rattle.qd_ilp.specs.declared.stop.Stop.TheVariants as stop

infixl 10 ◌>>=◌
abbrev pub ◌>>=◌ : {A B : Type 0} → Option A → (A → Option B) → Option B
(Some x) >>= f = f x
None >>= f = None

-- What a function gave, seen by view, is what reading gives, unless memory ran out.
abbrev pub Fails : {Y : Type 0} → Stop → Option Y → Type 0
Fails stop.Memory read = Unit {0}
Fails stop.Syntax read = read ≡ None

abbrev pub Gives : {X Y : Type 0} → (X → Y) → Result X Stop → Option Y → Type 0
Gives view (Ok x) read = read ≡ Some (view x)
Gives view (Err e) read = Fails e read

-- the text begins with this byte
abbrev pub begins : ℕ → List ℕ → Bool
begins byte [] = false
begins byte (b ∷ bs) = b == byte

-- A line ends at the end of the text, at LF, or at CR before LF.
abbrev pub at_end : List ℕ → Bool
at_end [] = true
at_end (b ∷ bs) = b == 10 || (b == 13 && begins 10 bs)

-- comma, space and the equals sign
abbrev pub is_separator : ℕ → Bool
is_separator b = b == 44 || b == 32 || b == 61

-- what a backslash makes plain in a name or a tag's value: these and the backslash
abbrev pub is_special : ℕ → Bool
is_special b = is_separator b || b == 92

-- what a backslash makes plain in a quoted text: double quote, backslash, LF and CR
abbrev pub is_quoted_special : ℕ → Bool
is_quoted_special b = b == 34 || b == 92 || b == 10 || b == 13

-- what stands for itself in a name or a tag's value, whatever stands beside it
abbrev pub is_plain : ℕ → Bool
is_plain b = not (is_special b || b == 10 || b == 13)

-- what ends no value that is no text
abbrev pub is_inner : ℕ → Bool
is_inner b = not (b == 44 || b == 32 || b == 10 || b == 13)

-- what stands for itself in a quoted text, whatever stands behind it
abbrev pub is_unquoted : ℕ → Bool
is_unquoted b = not (b == 34 || b == 92)

-- the first byte is a backslash, and makes the one behind it plain
abbrev pub escapes : (ℕ → Bool) → List ℕ → Bool
escapes special [] = false
escapes special (b ∷ []) = false
escapes special (b ∷ c ∷ bs) = b == 92 && special c

-- a name or a tag's value ends here
abbrev pub stops : List ℕ → Bool
stops [] = true
stops (b ∷ bs) = is_separator b || at_end (b ∷ bs)

-- a value that is no text ends here
abbrev pub ends_word : List ℕ → Bool
ends_word [] = true
ends_word (b ∷ bs) = b == 44 || b == 32 || at_end (b ∷ bs)

-- bytes before those of a cut
abbrev pub fronted : List ℕ → List ℕ × List ℕ → List ℕ × List ℕ
fronted front c = (front ++ c.0, c.1)

-- A table's name, a name or a tag's value goes to the first separator without a backslash before it, or to the end of
-- its line. The cut is the bytes that it stands for, and the text from its end on. `plain` says that a backslash stands
-- before the first byte, which is plain then.
unfoldable pub cut : Bool → List ℕ → List ℕ × List ℕ
cut plain [] = ([], [])
cut plain (b ∷ bs) =
    if not plain && stops (b ∷ bs) then ([], b ∷ bs)
    else if not plain && escapes is_special (b ∷ bs) then cut true bs
    else fronted (b ∷ []) (cut false bs)

-- A value that is no text goes to the next comma, space or end of its line.
unfoldable pub word : List ℕ → List ℕ × List ℕ
word [] = ([], [])
word (b ∷ bs) = if ends_word (b ∷ bs) then ([], b ∷ bs) else fronted (b ∷ []) (word bs)

-- A text goes from behind its opening quote to the next quote without a backslash before it, over the ends of lines.
unfoldable pub closed : Bool → List ℕ → Option (List ℕ × List ℕ)
closed plain [] = None
closed plain (b ∷ bs) =
    if not plain && b == 34 then Some ([], bs)
    else if not plain && escapes is_quoted_special (b ∷ bs) then closed true bs
    else closed false bs >>= λ c. Some (fronted (b ∷ []) c)

-- the same, behind bytes that are there
abbrev pub closed_behind : List ℕ → Bool → List ℕ → Option (List ℕ × List ℕ)
closed_behind front plain text = closed plain text >>= λ c. Some (fronted front c)

-- things were put at the end of a list
pub record Grows {T : Type 0} (before now : List T) : Type 0 where
  pub more : List T
  pub whole : now ≡ before ++ more
